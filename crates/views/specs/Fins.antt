-- The fins of a ring that a walk is still to give.
use Rattle.std.specs.Prelude.{if◌then◌else◌, List, [], Option, None, Some, Contains, IfSome}
use Rattle.pk_base.specs.Entity.{same_tag}
use Rattle.pk_base.specs.declared.tag.Tag.{Tag}
use Rattle.pk_base.specs.declared.entity.Entity.{Entity}
use Rattle.pk_model.specs.Maps.{EntityMap}
use Rattle.entity_store.specs.Kids.{live_of}
use Rattle.halfedge.specs.LinkedRings.{IsInRing, ring_at}
use Rattle.solid_model.specs.Rings.{from}

-- the tags from this one on, to the end of the ring that is written from the first
abbrev pub fins_from : EntityMap → Tag → Option Tag → List Tag
fins_from m first None = []
fins_from m first (Some f) = from f (ring_at m first)

-- with their entities
abbrev pub fins_left : EntityMap → Tag → Option Tag → List (Tag × Entity)
fins_left m first next = live_of m (fins_from m first next)

-- the next one stands in the ring of the first
pub record IsOnRing (m : EntityMap) (first f : Tag) : Type 0 where
  pub ring : IsInRing m first
  pub among : Contains (ring_at m first) f

abbrev pub IsWalk : EntityMap → Tag → Option Tag → Type 0
IsWalk m first next = IfSome next (IsOnRing m first)

-- the next one, where it is not the first again
abbrev pub unless_first : Tag → Tag → Option Tag
unless_first first next = if same_tag next first then None else Some next
