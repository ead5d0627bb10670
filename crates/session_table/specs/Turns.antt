-- How the slots that a seat holds turn.
use Rattle.std.specs.Prelude.{◌≡◌, ℕ, List, ◌∷◌, ◌++◌, Option}
use Rattle.atomic_table.specs.Table.{rest}
use Rattle.session_table.specs.Tells.{Seated}

-- some of the slots have gone behind the others
pub record IsTurned {X : Type 0} (old new : Seated X) : Type 0 where
  pub view : new.0 ≡ old.0
  pub first : List (ℕ × Option X)
  pub second : List (ℕ × Option X)
  pub before : old.1 ≡ first ++ second
  pub after : new.1 ≡ second ++ first

-- slot p is in front
pub record IsInFront {X : Type 0} (p : ℕ) (me : Seated X) : Type 0 where
  pub slot : Option X
  pub is : me.1 ≡ (p, slot) ∷ rest me.1
