-- Linked lists of children: what keeps them, and what the links of a member are.
use Rattle.std.proofs.Common.{◌≡◌, ◌≢◌, ℕ, List, [], ◌∷◌, ◌++◌, set, Option, None, Some, Contains, refl, sym, subst, ◌∙◌}
use Rattle.std.specs.List.{AllByRecursion}
use Rattle.std.proofs.lemmas.List.Elements.{Contains-append_left, Contains-append_right}
use Rattle.list_facts.proofs.Elements.{Contains-first, Contains-later}
use Rattle.list_facts.proofs.Each.{ByRecursion-contains, ByRecursion-at}
use Rattle.owner_links.specs.declared.slot.Slot.{Slot}
use Rattle.owner_links.specs.Links.{owner_at, NoRepeats, AreChildren}
use Rattle.owner_links.specs.Slots.{slot_at, owners_of, first_of, AreLinked, LinkedChildren, AreKept, with_owner}
use Rattle.owner_links.proofs.ChildLists.{parts_at}
use Rattle.owner_links.proofs.Writes.{owners-with_owner, next-with_owner, previous-with_owner, first-with_owner}

-- ---- what keeps a list linked

-- the links of a slot among its owner's children are as they were
abbrev pub SameLinks : List Slot → List Slot → ℕ → Type 0
SameLinks old new n = ((slot_at new n).previous ≡ (slot_at old n).previous) × ((slot_at new n).next ≡ (slot_at old n).next)

pub AreLinked-same : (old new : List Slot) (before : Option ℕ) (cs : List ℕ) → AllByRecursion (SameLinks old new) cs → AreLinked old before cs → AreLinked new before cs
AreLinked-same old new before [] h l = tt
AreLinked-same old new before (c ∷ cs) h l = (h.0.0 ∙ l.0, h.0.1 ∙ l.1, AreLinked-same old new (Some c) cs h.1 l.2)

-- the first has another one before it, and nothing else has changed
pub AreLinked-turned : (old new : List Slot) (before now : Option ℕ) (cs : List ℕ) → NoRepeats cs
    → ((c : ℕ) → first_of cs ≡ Some c → (slot_at new c).previous ≡ now)
    → ((c : ℕ) → Contains cs c → (slot_at new c).next ≡ (slot_at old c).next)
    → ((c : ℕ) → Contains cs c → first_of cs ≢ Some c → (slot_at new c).previous ≡ (slot_at old c).previous)
    → AreLinked old before cs → AreLinked new now cs
AreLinked-turned old new before now [] once first next previous l = tt
AreLinked-turned old new before now (c ∷ cs) once first next previous l = (
  first c refl,
  next c (Contains-first c cs) ∙ l.1,
  AreLinked-same old new (Some c) cs
      (ByRecursion-contains (SameLinks old new) cs (λ x k.
      (previous x (Contains-later c cs x k) (λ e. ByRecursion-at (λ m. c ≢ m) cs x once.0 k cc), next x (Contains-later c cs x k))))
      l.2,
)

-- the owner of a slot is no link
pub LinkedChildren-with_owner : (slots : List Slot) (n : ℕ) (to : Option ℕ) (o : ℕ) (cs : List ℕ) → AreChildren (set (owners_of slots) n to) o cs → (slot_at slots o).first ≡ first_of cs → AreLinked slots None cs → LinkedChildren (with_owner slots n to) o
LinkedChildren-with_owner slots n to o cs are first linked = record {
  children = cs;
  are = subst (λ os. AreChildren os o cs) (sym (owners-with_owner slots n to)) are;
  first = first-with_owner slots n to o ∙ first;
  linked = AreLinked-same slots (with_owner slots n to) None cs (ByRecursion-contains (SameLinks slots (with_owner slots n to)) cs (λ x _. (previous-with_owner slots n to x, next-with_owner slots n to x))) linked;
}

-- ---- what a member is linked to

pub first_in : (cs : List ℕ) (c : ℕ) → first_of cs ≡ Some c → Contains cs c
first_in [] c e = cc
first_in (x ∷ cs) c e = subst (Contains (x ∷ cs)) (let same : x ≡ c = cc in same) (Contains-first x cs)

-- the last of a list, or what stands before it
abbrev pub last_of : Option ℕ → List ℕ → Option ℕ
last_of before [] = before
last_of before (c ∷ cs) = last_of (Some c) cs

pub last_in : (x : ℕ) (cs : List ℕ) (c : ℕ) → last_of (Some x) cs ≡ Some c → Contains (x ∷ cs) c
last_in x [] c e = first_in (x ∷ []) c e
last_in x (y ∷ cs) c e = Contains-later x (y ∷ cs) c (last_in y cs c e)

pub last_is_some : (x : ℕ) (cs : List ℕ) → last_of (Some x) cs ≢ None
last_is_some x [] e = cc
last_is_some x (y ∷ cs) e = last_is_some y cs e

pub neighbours : (slots : List Slot) (before : Option ℕ) (front back : List ℕ) (c : ℕ) → AreLinked slots before (front ++ c ∷ back) → ((slot_at slots c).previous ≡ last_of before front) × ((slot_at slots c).next ≡ first_of back)
neighbours slots before [] back c l = (l.0, l.1)
neighbours slots before (x ∷ front) back c l = neighbours slots (Some x) front back c l.2

last_in_front : (front : List ℕ) (c : ℕ) → last_of None front ≡ Some c → Contains front c
last_in_front [] c e = cc
last_in_front (x ∷ front) c e = last_in x front c e

-- ---- where the slots are kept

module _ (slots : List Slot) (kept : AreKept slots) where
  pub owner_of_child : (o c : ℕ) → Contains (kept o).children c → owner_at (owners_of slots) c ≡ Some o
  owner_of_child o c h = ((kept o).are.all c).0 h

  pub owned_is_child : (o c : ℕ) → owner_at (owners_of slots) c ≡ Some o → Contains (kept o).children c
  owned_is_child o c h = ((kept o).are.all c).1 h

  -- the neighbours of a child have its owner
  pub owner_of_previous : (o c n : ℕ) → owner_at (owners_of slots) c ≡ Some o → (slot_at slots c).previous ≡ Some n → owner_at (owners_of slots) n ≡ Some o
  owner_of_previous o c n own e =
      let parts = parts_at (kept o).children c (owned_is_child o c own) in
      let links = neighbours slots None parts.0 parts.1 c (subst (AreLinked slots None) parts.2 (kept o).linked) in
      owner_of_child o n (subst (λ cs. Contains cs n) (sym parts.2) (Contains-append_left parts.0 (c ∷ parts.1) n (last_in_front parts.0 n (sym links.0 ∙ e))))

  pub owner_of_next : (o c n : ℕ) → owner_at (owners_of slots) c ≡ Some o → (slot_at slots c).next ≡ Some n → owner_at (owners_of slots) n ≡ Some o
  owner_of_next o c n own e =
      let parts = parts_at (kept o).children c (owned_is_child o c own) in
      let links = neighbours slots None parts.0 parts.1 c (subst (AreLinked slots None) parts.2 (kept o).linked) in
      owner_of_child o n (subst (λ cs. Contains cs n) (sym parts.2) (Contains-append_right parts.0 (c ∷ parts.1) n (Contains-later c parts.1 n (first_in parts.1 n (sym links.1 ∙ e)))))

  pub owner_of_first : (o n : ℕ) → (slot_at slots o).first ≡ Some n → owner_at (owners_of slots) n ≡ Some o
  owner_of_first o n e = owner_of_child o n (first_in (kept o).children n (sym (kept o).first ∙ e))
