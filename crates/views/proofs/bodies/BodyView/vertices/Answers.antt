use Rattle.std.proofs.Common.{None, subst}
use Rattle.pk_base.specs.declared.entity.Class.TheVariants as class
use Rattle.views.specs.Kids.{GivesClass}
use Rattle.views.specs.Views.{BodySeen}
use Rattle.views.proofs.Given.{gives-class}
use Rattle.views.proofs.bodies.BodyView.vertices.Goals as goal

pub returns : goal.returns
returns c =
    subst (λ (v : BodySeen). GivesClass class.Vertex None v.map v.body c.over.result) c.self.view_is (gives-class _ _ _ class.Vertex None _ c.kids-walk.ensures c.over.ensures)
