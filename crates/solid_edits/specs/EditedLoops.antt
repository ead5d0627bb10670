-- What operators do to loops: they part rings, and put loops anew.
use Rattle.std.specs.Prelude.{◌≡◌, if◌then◌else◌, List, [], ◌∷◌, drop, Option, Some, None, is_some}
use Rattle.pk_base.specs.Entity.{same_tag}
use Rattle.pk_base.specs.declared.tag.Tag.{Tag}
use Rattle.pk_base.specs.declared.entity.Entity.{Entity}
use Rattle.pk_base.specs.declared.entity.Entity.TheVariants as entity
use Rattle.pk_model.specs.Maps.{EntityMap}
use Rattle.solid_model.specs.Rings.{before, first_tag, from, from_least}
use Rattle.halfedge.specs.LinkedRings.{Relabels, Relinks, ring_at}

-- ---- loops

-- the tag, unless it is this one
abbrev pub other_than : Tag → Tag → Option Tag
other_than t u = if same_tag t u then None else Some t

-- a loop of this least fin, or with the lone vertex where there is none
abbrev pub loop_from : Tag → Option Tag → Tag → Entity
loop_from face first vertex =
    entity.Loop face first (if is_some first then None else Some vertex)

-- ---- a ring that is parted

-- of the ring of f and m, from f on, the fins between f and m, and those behind m
abbrev pub fins_between : EntityMap → Tag → Tag → List Tag
fins_between m f mate = drop 1 (before mate (ring_at m f))

abbrev pub fins_behind : EntityMap → Tag → Tag → List Tag
fins_behind m f mate = drop 1 (from mate (ring_at m f))

-- The fin and its mate were cut out of their ring, and the fins between them given to a loop. What
-- is left behind the mate has the first of these least fins, what is between the second.
pub record HasParted (old : EntityMap) (fin mate to : Tag) (kept off : Option Tag)
    (new : EntityMap) : Type 0 where
  pub cut : EntityMap
  pub links : Relinks old (ring_at old fin ∷ []) cut
      (fins_between old fin mate ∷ fins_behind old fin mate ∷ (fin ∷ []) ∷ (mate ∷ []) ∷ [])
  pub labels : Relabels cut (fins_between old fin mate) to new
  pub kept_is : kept ≡ first_tag (from_least (fins_behind old fin mate))
  pub off_is : off ≡ first_tag (from_least (fins_between old fin mate))
