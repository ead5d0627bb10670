-- What a seat has of the slots that it holds, which lies beside its view.
use Rattle.std.specs.Prelude.{◌≡◌, ℕ, ◌+◌, ◌≤◌, cond, ◌==◌, List, [], ◌∷◌, map, Option, Some, None, option_map}
use Rattle.session_table.specs.declared.view.Note.{Note}
use Rattle.session_table.specs.declared.view.View.{View}
use Rattle.session_table.specs.Entries.{Continues}
use Rattle.session_table.specs.Named.{Named}
use Rattle.session_table.specs.Seats.{note_of}

-- the numbers of the slots, the one in front first
abbrev pub numbers : {A : Type 0} → List (ℕ × A) → List ℕ
numbers slots = map (λ x. x.0) slots

-- the number of the slot in front
abbrev pub front : {A : Type 0} → List (ℕ × A) → ℕ
front [] = 0
front (x ∷ xs) = x.0

abbrev pub times_held : {A : Type 0} → ℕ → List (ℕ × A) → ℕ
times_held p [] = 0
times_held p (x ∷ xs) = cond (x.0 == p) 1 0 + times_held p xs

-- what slot p has: nothing where the seat does not hold it, else the partition in it, if there is
-- one
abbrev pub in_slot : {X : Type 0} → (X → Named) → List (ℕ × Option X) → ℕ → Option (Option Named)
in_slot named [] p = None
in_slot named (x ∷ xs) p = cond (x.0 == p) (Some (option_map named x.1)) (in_slot named xs p)

-- The partition p, with the seat's note on it: it has the note's blocks, nobody holds it, and its
-- journal is the note's and further entries of the seat s alone.
pub record IsNoted (s p : ℕ) (note : Note) (x : Named) : Type 0 where
  pub number : x.number ≡ p
  pub free : x.holder ≡ None
  pub blocks : x.blocks ≡ note.blocks
  pub journal : Continues s note.journal x.journal

-- a seat holds slot p exactly where it has a note on p, and what lies there is the partition that
-- the note is on
abbrev pub Fits : ℕ → ℕ → Option Note → Option (Option Named) → Type 0
Fits s p None None = Unit {0}
Fits s p None (Some slot) = ⊥
Fits s p (Some note) None = ⊥
Fits s p (Some note) (Some None) = Unit {0}
Fits s p (Some note) (Some (Some x)) = IsNoted s p note x

pub record Carries {X : Type 0} (named : X → Named) (v : View)
    (slots : List (ℕ × Option X)) : Type 0 where
  pub within : (p : ℕ) (note : Note) → note_of v p ≡ Some note → (1 ≤ p) × (p ≤ v.bounds.partitions)
  pub once : (p : ℕ) → times_held p slots ≤ 1
  pub fits : (p : ℕ) → Fits v.number p (note_of v p) (in_slot named slots p)
