-- The tags of a walk's entities, in ascending order.
use Rattle.std.specs.Prelude.{List, map, IsPermutation}
use Rattle.std.specs.List.Sorted.{IsNonDecreasingBy}
use Rattle.pk_base.specs.declared.tag.Tag.{Tag}
use Rattle.pk_base.specs.declared.entity.Entity.{Entity}

-- the tags are those of these entities, and none stands before a lesser one
pub record Lists (kids : List (Tag × Entity)) (tags : List Tag) : Type 0 where
  pub ascending : IsNonDecreasingBy (λ (t : Tag). t.0) tags
  pub same : IsPermutation (map (λ x. x.0) kids) tags
