-- How the slots are kept: the children of each are linked from its first one on.
use Rattle.std.specs.Prelude.{◌≡◌, ◌≢◌, ℕ, zero, suc, ◌<◌, ◌≤◌, List, [], ◌∷◌, length, map, get_or, set, Option, None, Some}
use Rattle.std.specs.List.{AllByRecursion}
use Rattle.owner_links.specs.declared.slot.Slot.{Slot}
use Rattle.owner_links.specs.Links.{AreChildren}

-- a slot without links
abbrev pub unlinked : Slot
unlinked = record { owner = None; next = None; previous = None; first = None }

-- the slot with a number; one without links where there is no such slot
abbrev pub slot_at : List Slot → ℕ → Slot
slot_at slots n = get_or slots n unlinked

abbrev pub owners_of : List Slot → List (Option ℕ)
owners_of slots = map (λ s. s.owner) slots

abbrev pub first_of : List ℕ → Option ℕ
first_of [] = None
first_of (c ∷ cs) = Some c

-- Each is linked to the one behind it and to the one before it, which is `before` for the first.
abbrev pub AreLinked : List Slot → Option ℕ → List ℕ → Type 0
AreLinked slots before [] = Unit {0}
AreLinked slots before (c ∷ cs) =
    ((slot_at slots c).previous ≡ before)
    × ((slot_at slots c).next ≡ first_of cs)
    × AreLinked slots (Some c) cs

-- the children of a slot, linked from its first one on
pub record LinkedChildren (slots : List Slot) (owner : ℕ) : Type 0 where
  pub children : List ℕ
  pub are : AreChildren (owners_of slots) owner children
  pub first : (slot_at slots owner).first ≡ first_of children
  pub linked : AreLinked slots None children

abbrev pub AreKept : List Slot → Type 0
AreKept slots = (owner : ℕ) → LinkedChildren slots owner

-- ---- what is written

abbrev pub with_owner : List Slot → ℕ → Option ℕ → List Slot
with_owner slots n owner = set slots n (record (slot_at slots n) { owner = owner })

-- `before` stands before a slot, where there is one
abbrev pub with_previous : List Slot → Option ℕ → Option ℕ → List Slot
with_previous slots None before = slots
with_previous slots (Some n) before = set slots n (record (slot_at slots n) { previous = before })

-- `after` stands behind a slot; where there is none, it is the first of the owner's children
abbrev pub with_next : List Slot → ℕ → Option ℕ → Option ℕ → List Slot
with_next slots owner None after = set slots owner (record (slot_at slots owner) { first = after })
with_next slots owner (Some n) after = set slots n (record (slot_at slots n) { next = after })

-- The two are neighbours among the owner's children, and all else is as it was. Without one before,
-- the other is the first of them; without one after, it is the last.
pub record Joins (owner : ℕ) (before after : Option ℕ) (old new : List Slot) : Type 0 where
  pub owners : owners_of new ≡ owners_of old
  pub next : (n : ℕ) → before ≡ Some n → (slot_at new n).next ≡ after
  pub previous : (n : ℕ) → after ≡ Some n → (slot_at new n).previous ≡ before
  pub first : before ≡ None → (slot_at new owner).first ≡ after
  pub same_next : (n : ℕ) → before ≢ Some n → (slot_at new n).next ≡ (slot_at old n).next
  pub same_previous : (n : ℕ) → after ≢ Some n
      → (slot_at new n).previous ≡ (slot_at old n).previous
  pub same_first : before ≢ None → (slot_at new owner).first ≡ (slot_at old owner).first
  pub first_of_others : (n : ℕ) → n ≢ owner → (slot_at new n).first ≡ (slot_at old n).first

-- ---- what is walked

-- the slots from `at` on, each behind the other, at most so many
abbrev pub walk : ℕ → List Slot → Option ℕ → List ℕ
walk zero slots at = []
walk (suc most) slots None = []
walk (suc most) slots (Some n) = n ∷ walk most slots (slot_at slots n).next

abbrev pub linked_from : List Slot → Option ℕ → List ℕ
linked_from slots at = walk (length slots) slots at

-- From `at` on the slots are linked up to an end.
pub record EndsFrom (slots : List Slot) (at : Option ℕ) : Type 0 where
  pub rest : List ℕ
  pub before : Option ℕ
  pub first : at ≡ first_of rest
  pub linked : AreLinked slots before rest
  pub within : AllByRecursion (λ n. n < length slots) rest
  pub few : length rest ≤ length slots
