-- Loops that are put anew, of a ring or of a lone vertex.
use Rattle.std.proofs.Common.{◌≡◌, cond, List, [], ◌∷◌, drop, Some, None, refl, ap}
use Rattle.std.specs.Prelude.{is_some}
use Rattle.pk_base.specs.declared.tag.Tag.{Tag}
use Rattle.pk_base.specs.declared.entity.Entity.TheVariants as entity
use Rattle.solid_model.specs.Rings.{first_tag, from_least, least_of, written_from}
use Rattle.solid_model.proofs.lists.Cycles.{least, written-first}
use Rattle.solid_sound.proofs.shapes.FinRings.{lone_for}
use Rattle.solid_edits.specs.EditedLoops.{loop_from}

pub loop_from-is : (face : Tag) (fins : List Tag) (vertex : Tag) → loop_from face (first_tag (from_least fins)) vertex ≡ entity.Loop face (first_tag (from_least fins)) (lone_for fins vertex)
loop_from-is face [] vertex = refl
loop_from-is face (t ∷ ts) vertex =
    let low = least_of t ts in
    let is : from_least (t ∷ ts) ≡ low ∷ drop 1 (written_from low (t ∷ ts)) = written-first low (t ∷ ts) (least t ts).among in
    ap (λ us. entity.Loop face (first_tag (from_least (t ∷ ts))) (cond (is_some (first_tag us)) None (Some vertex))) is
