-- Which slot is the child of which.
use Rattle.std.specs.Prelude.{◌≡◌, ◌≢◌, ℕ, List, [], ◌∷◌, get_or, Option, None, Some, Contains, ◌↔◌, refl}
use Rattle.std.specs.List.{AllByRecursion}
use Rattle.std.specs.Coded.{Coded, code_by, coded×, coded_list, coded_ℕ, coded_option}

pub record LinksView : Type 0 where
  -- the owner of each slot, in the order of their numbers
  pub owners : List (Option ℕ)
  -- for how many slots more there is room
  pub spare : ℕ

abbrev pub links_code : Coded LinksView
links_code = code_by (List (Option ℕ) × ℕ) (coded× (coded_list (coded_option coded_ℕ)) coded_ℕ)
    (λ l. (l.owners, l.spare)) (λ p. record { owners = p.0; spare = p.1 }) (λ _. refl)

-- the owner of a slot; none also where there is no such slot
abbrev pub owner_at : List (Option ℕ) → ℕ → Option ℕ
owner_at owners slot = get_or owners slot None

-- no number stands twice
abbrev pub NoRepeats : List ℕ → Type 0
NoRepeats [] = Unit {0}
NoRepeats (n ∷ ns) = AllByRecursion (λ m. n ≢ m) ns × NoRepeats ns

-- These are the slots with this owner, each once.
pub record AreChildren (owners : List (Option ℕ)) (owner : ℕ) (children : List ℕ) : Type 0 where
  pub once : NoRepeats children
  pub all : (c : ℕ) → Contains children c ↔ (owner_at owners c ≡ Some owner)
