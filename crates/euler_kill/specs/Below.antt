-- What stands below an entity: itself, what it owns, what that owns, and so on.
use Rattle.std.specs.Prelude.{◌≡◌, ◌↔◌, ◌⊎◌, ℕ, zero, suc, List, Some, length, Contains}
use Rattle.std.specs.Option.{option_and_then}
use Rattle.std.specs.FinMap.{get}
use Rattle.pk_base.specs.Entity.{owner_of}
use Rattle.pk_base.specs.declared.tag.Tag.{Tag}
use Rattle.pk_base.specs.declared.entity.Entity.{Entity}
use Rattle.pk_model.specs.Apart.{NoRepeats}
use Rattle.pk_model.specs.Maps.{EntityMap}

-- under the tag t stands an entity that o owns
abbrev pub IsOwned : EntityMap → Tag → Tag → Type 0
IsOwned m o t = option_and_then owner_of (get m t) ≡ Some o

-- it owns none
abbrev pub OwnsNone : EntityMap → Tag → Type 0
OwnsNone m o = (t : Tag) → ¬ (IsOwned m o t)

-- t stands so many owners below o or fewer
abbrev pub IsBelow : ℕ → EntityMap → Tag → Tag → Type 0
IsBelow zero m o t = o ≡ t
IsBelow (suc n) m o t = (o ≡ t) ⊎ ((k : Tag) × IsOwned m o k × IsBelow n m k t)

abbrev pub IsBelowAny : EntityMap → Tag → Tag → Type 0
IsBelowAny m o t = (n : ℕ) × IsBelow n m o t

-- so many stand there: they are these
pub record CountsBelow (n : ℕ) (m : EntityMap) (o : Tag) (count : ℕ) : Type 0 where
  pub tags : List Tag
  pub once : NoRepeats tags
  pub are : (t : Tag) → Contains tags t ↔ IsBelow n m o t
  pub count_is : count ≡ length tags

-- what is live here is so there, with the same entity
abbrev pub IsPartOf : EntityMap → EntityMap → Type 0
IsPartOf m n = (t : Tag) (e : Entity) → get n t ≡ Some e → get m t ≡ Some e
