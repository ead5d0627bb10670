use Rattle.std.proofs.Common.{Some, subst}
use Rattle.pk_base.specs.declared.entity.Class.TheVariants as class
use Rattle.views.specs.Kids.{GivesClass}
use Rattle.views.specs.Views.{FaceSeen}
use Rattle.views.proofs.Given.{gives-class}
use Rattle.views.proofs.faces.FaceView.rings.Goals as goal

pub returns : goal.returns
returns c =
    subst (λ (v : FaceSeen). GivesClass class.Loop (Some v.outer) v.map v.face c.over.result) c.self.view_is (gives-class _ _ _ class.Loop (Some _) _ c.kids-walk.ensures c.over.ensures)
