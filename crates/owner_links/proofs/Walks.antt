-- What is walked from a slot's first child on, and where the numbers of kept slots are.
use Rattle.std.proofs.Common.{◌≡◌, ℕ, zero, suc, ◌<◌, ◌≤◌, List, [], ◌∷◌, ◌++◌, length, replicate, Option, None, Some, Contains, IfSome, ⊎_elim, refl, sym, ap, subst, ◌∙◌, arith}
use Rattle.std.specs.List.{AllByRecursion}
use Rattle.std.proofs.lemmas.List.{length-map, map-append, get_or_past}
use Rattle.std.proofs.lemmas.Bool.{cases_lt}
use Rattle.list_facts.proofs.Elements.{not_in_nil}
use Rattle.list_facts.proofs.Each.{ByRecursion-contains}
use Rattle.owner_links.specs.declared.slot.Slot.{Slot}
use Rattle.owner_links.specs.Links.{owner_at, AreChildren}
use Rattle.owner_links.specs.Slots.{unlinked, slot_at, owners_of, first_of, AreLinked, AreKept, walk, linked_from, EndsFrom}
use Rattle.owner_links.proofs.ChildLists.{few-below, owned_within}
use Rattle.owner_links.proofs.Linked.{SameLinks, AreLinked-same, owner_of_child, owned_is_child, owner_of_first, owner_of_previous, owner_of_next}

-- ---- the walk

pub walk-linked : (most : ℕ) (slots : List Slot) (before : Option ℕ) (cs : List ℕ) → length cs ≤ most → AreLinked slots before cs → walk most slots (first_of cs) ≡ cs
walk-linked zero slots before [] few l = refl
walk-linked zero slots before (c ∷ cs) few l = absurd (omega arith)
walk-linked (suc most) slots before [] few l = refl
walk-linked (suc most) slots before (c ∷ cs) few l = ap (λ at. c ∷ walk most slots at) l.1 ∙ ap (λ rest. c ∷ rest) (walk-linked most slots (Some c) cs (omega arith) l.2)

pub linked_from-rest : (slots : List Slot) (at : Option ℕ) (e : EndsFrom slots at) → linked_from slots at ≡ e.rest
linked_from-rest slots at e = ap (linked_from slots) e.first ∙ walk-linked (length slots) slots e.before e.rest e.few e.linked

walk-none : (most : ℕ) (slots : List Slot) → walk most slots None ≡ []
walk-none zero slots = refl
walk-none (suc most) slots = refl

pub linked_from-none : (slots : List Slot) → linked_from slots None ≡ []
linked_from-none slots = walk-none (length slots) slots

-- one step: the slot is there, the rest ends, and it is what is still to come
pub record Step (slots : List Slot) (n : ℕ) : Type 0 where
  pub within : n < length slots
  pub ends : EndsFrom slots (slot_at slots n).next
  pub value : linked_from slots (Some n) ≡ n ∷ linked_from slots (slot_at slots n).next

step_in : (slots : List Slot) (n : ℕ) (before : Option ℕ) (rest : List ℕ) → Some n ≡ first_of rest → AreLinked slots before rest → AllByRecursion (λ m. m < length slots) rest → length rest ≤ length slots → Step slots n
step_in slots n before [] e l within few = cc
step_in slots n before (x ∷ rest) e l within few =
    let same : x ≡ n = cc in
    let ends : EndsFrom slots (slot_at slots x).next = record { rest = rest; before = Some x; first = l.1; linked = l.2; within = within.1; few = omega arith } in
    subst (Step slots) same (record {
      within = within.0;
      ends = ends;
      value = walk-linked (length slots) slots before (x ∷ rest) few l ∙ ap (λ ys. x ∷ ys) (sym (linked_from-rest slots (slot_at slots x).next ends));
    })

pub step_from : (slots : List Slot) (n : ℕ) → EndsFrom slots (Some n) → Step slots n
step_from slots n e = step_in slots n e.before e.rest e.first e.linked e.within e.few

-- ---- numbers of kept slots

IfSome_from : (at : Option ℕ) (P : ℕ → Type 0) → ((n : ℕ) → at ≡ Some n → P n) → IfSome at P
IfSome_from None P h = tt
IfSome_from (Some n) P h = h n refl

pub owned-slot_within : (slots : List Slot) (c o : ℕ) → owner_at (owners_of slots) c ≡ Some o → c < length slots
owned-slot_within slots c o h = omega (arith, owned_within (owners_of slots) c o h, length-map slots (λ s. s.owner))

first_none : (cs : List ℕ) (c : ℕ) → first_of cs ≡ None → Contains cs c → ⊥
first_none [] c e h = not_in_nil c h
first_none (x ∷ cs) c e h = cc

module _ (slots : List Slot) (kept : AreKept slots) where
  pub first_within : (o : ℕ) → IfSome (slot_at slots o).first (λ n. n < length slots)
  first_within o = IfSome_from (slot_at slots o).first (λ n. n < length slots) (λ n e. owned-slot_within slots n o (owner_of_first slots kept o n e))

  pub previous_within : (c o : ℕ) → owner_at (owners_of slots) c ≡ Some o → IfSome (slot_at slots c).previous (λ n. n < length slots)
  previous_within c o own = IfSome_from (slot_at slots c).previous (λ n. n < length slots) (λ n e. owned-slot_within slots n o (owner_of_previous slots kept o c n own e))

  pub next_within : (c o : ℕ) → owner_at (owners_of slots) c ≡ Some o → IfSome (slot_at slots c).next (λ n. n < length slots)
  next_within c o own = IfSome_from (slot_at slots c).next (λ n. n < length slots) (λ n e. owned-slot_within slots n o (owner_of_next slots kept o c n own e))

  -- an owner is one of the slots: its first child is none where there is no such slot
  pub kept_owner_within : (c o : ℕ) → owner_at (owners_of slots) c ≡ Some o → o < length slots
  kept_owner_within c o own =
      ⊎_elim (λ (h : o < length slots). h)
      (λ (past : length slots ≤ o).
      let none : first_of (kept o).children ≡ None = sym (kept o).first ∙ ap (λ s. s.first) (get_or_past slots o unlinked past) in
      absurd (first_none (kept o).children c none (owned_is_child slots kept o c own)))
      (cases_lt o (length slots))

  pub ends_from_first : (o : ℕ) → EndsFrom slots (slot_at slots o).first
  ends_from_first o =
      let k = kept o in
      let within = ByRecursion-contains (λ n. n < length slots) k.children (λ n h. owned-slot_within slots n o (owner_of_child slots kept o n h)) in
      record { rest = k.children; before = None; first = k.first; linked = k.linked; within = within; few = few-below (length slots) k.children k.are.once within }

  pub children_from_first : (o : ℕ) → AreChildren (owners_of slots) o (linked_from slots (slot_at slots o).first)
  unfolding ends_from_first
  children_from_first o = subst (AreChildren (owners_of slots) o) (sym (linked_from-rest slots (slot_at slots o).first (ends_from_first o))) (kept o).are

-- ---- more slots without links

slot_at-unlinked : (k n : ℕ) → slot_at (replicate k unlinked) n ≡ unlinked
slot_at-unlinked zero n = refl
slot_at-unlinked (suc k) zero = refl
slot_at-unlinked (suc k) (suc n) = slot_at-unlinked k n

owners-unlinked : (k : ℕ) → owners_of (replicate k unlinked) ≡ replicate k None
owners-unlinked zero = refl
owners-unlinked (suc k) = ap (λ os. None ∷ os) (owners-unlinked k)

owner_at-none : (owners : List (Option ℕ)) (k n : ℕ) → owner_at (owners ++ replicate k None) n ≡ owner_at owners n
owner_at-none [] zero n = refl
owner_at-none [] (suc k) zero = refl
owner_at-none [] (suc k) (suc n) = owner_at-none [] k n
owner_at-none (o ∷ owners) k zero = refl
owner_at-none (o ∷ owners) k (suc n) = owner_at-none owners k n

slot_at-more : (slots : List Slot) (k n : ℕ) → slot_at (slots ++ replicate k unlinked) n ≡ slot_at slots n
slot_at-more [] k n = slot_at-unlinked k n
slot_at-more (s ∷ slots) k zero = refl
slot_at-more (s ∷ slots) k (suc n) = slot_at-more slots k n

pub owners-more : (slots : List Slot) (k : ℕ) → owners_of (slots ++ replicate k unlinked) ≡ owners_of slots ++ replicate k None
owners-more slots k = map-append (λ s. s.owner) slots (replicate k unlinked) ∙ ap (λ os. owners_of slots ++ os) (owners-unlinked k)

pub kept_with_more : (slots : List Slot) (k : ℕ) → AreKept slots → AreKept (slots ++ replicate k unlinked)
kept_with_more slots k kept o =
    let old = kept o in
    let more = slots ++ replicate k unlinked in
    let same : (n : ℕ) → owner_at (owners_of more) n ≡ owner_at (owners_of slots) n = λ n. ap (λ os. owner_at os n) (owners-more slots k) ∙ owner_at-none (owners_of slots) k n in
    record {
      children = old.children;
      are = record { once = old.are.once; all = λ n. (λ h. same n ∙ (old.are.all n).0 h, λ h. (old.are.all n).1 (sym (same n) ∙ h)) };
      first = ap (λ s. s.first) (slot_at-more slots k o) ∙ old.first;
      linked = AreLinked-same slots more None old.children (ByRecursion-contains (SameLinks slots more) old.children (λ n _. (ap (λ s. s.previous) (slot_at-more slots k n), ap (λ s. s.next) (slot_at-more slots k n)))) old.linked;
    }

pub none_kept : AreKept []
none_kept o = record { children = []; are = record { once = tt; all = λ n. (λ h. absurd (not_in_nil n h), λ h. cc) }; first = refl; linked = tt }
