-- What each field of each slot is after a write.
use Rattle.std.proofs.Common.{◌≡◌, ◌≢◌, ℕ, zero, suc, ◌<◌, List, [], ◌∷◌, length, set, Option, None, Some, IfSome, refl, sym, ap, subst, ◌∙◌, arith, get_or-set_same, get_or-set_other}
use Rattle.std.proofs.lemmas.List.{length-map, map-set}
use Rattle.owner_links.specs.declared.slot.Slot.{Slot}
use Rattle.owner_links.specs.Links.{owner_at}
use Rattle.owner_links.specs.Slots.{unlinked, slot_at, owners_of, with_owner, with_previous, with_next, Joins}

pub owner_at-owners_of : (slots : List Slot) (n : ℕ) → owner_at (owners_of slots) n ≡ (slot_at slots n).owner
owner_at-owners_of [] n = refl
owner_at-owners_of (s ∷ slots) zero = refl
owner_at-owners_of (s ∷ slots) (suc n) = owner_at-owners_of slots n

-- as many owners, as many slots
pub length_by_owners : (old new : List Slot) → owners_of new ≡ owners_of old → length new ≡ length old
length_by_owners old new h = sym (length-map new (λ s. s.owner)) ∙ ap length h ∙ length-map old (λ s. s.owner)

-- a field that the slot written has as the one before
field_kept : {A : Type 0} (field : Slot → A) (slots : List Slot) (at n : ℕ) (s : Slot) → field s ≡ field (slot_at slots at) → field (slot_at (set slots at s) n) ≡ field (slot_at slots n)
field_kept field [] at n s h = refl
field_kept field (x ∷ slots) zero zero s h = h
field_kept field (x ∷ slots) zero (suc n) s h = refl
field_kept field (x ∷ slots) (suc at) zero s h = refl
field_kept field (x ∷ slots) (suc at) (suc n) s h = field_kept field slots at n s h

owners_kept : (slots : List Slot) (at : ℕ) (s : Slot) → s.owner ≡ (slot_at slots at).owner → owners_of (set slots at s) ≡ owners_of slots
owners_kept [] at s h = refl
owners_kept (x ∷ slots) zero s h = ap (λ o. o ∷ owners_of slots) h
owners_kept (x ∷ slots) (suc at) s h = ap (λ os. x.owner ∷ os) (owners_kept slots at s h)

-- ---- the owner

pub owners-with_owner : (slots : List Slot) (n : ℕ) (to : Option ℕ) → owners_of (with_owner slots n to) ≡ set (owners_of slots) n to
owners-with_owner slots n to = map-set (λ s. s.owner) slots n (record (slot_at slots n) { owner = to })

pub next-with_owner : (slots : List Slot) (at : ℕ) (to : Option ℕ) (n : ℕ) → (slot_at (with_owner slots at to) n).next ≡ (slot_at slots n).next
next-with_owner slots at to n = field_kept (λ s. s.next) slots at n (record (slot_at slots at) { owner = to }) refl

pub previous-with_owner : (slots : List Slot) (at : ℕ) (to : Option ℕ) (n : ℕ) → (slot_at (with_owner slots at to) n).previous ≡ (slot_at slots n).previous
previous-with_owner slots at to n = field_kept (λ s. s.previous) slots at n (record (slot_at slots at) { owner = to }) refl

pub first-with_owner : (slots : List Slot) (at : ℕ) (to : Option ℕ) (n : ℕ) → (slot_at (with_owner slots at to) n).first ≡ (slot_at slots n).first
first-with_owner slots at to n = field_kept (λ s. s.first) slots at n (record (slot_at slots at) { owner = to }) refl

-- ---- the one before

owners-with_previous : (slots : List Slot) (at to : Option ℕ) → owners_of (with_previous slots at to) ≡ owners_of slots
owners-with_previous slots None to = refl
owners-with_previous slots (Some at) to = owners_kept slots at (record (slot_at slots at) { previous = to }) refl

next-with_previous : (slots : List Slot) (at to : Option ℕ) (n : ℕ) → (slot_at (with_previous slots at to) n).next ≡ (slot_at slots n).next
next-with_previous slots None to n = refl
next-with_previous slots (Some at) to n = field_kept (λ s. s.next) slots at n (record (slot_at slots at) { previous = to }) refl

first-with_previous : (slots : List Slot) (at to : Option ℕ) (n : ℕ) → (slot_at (with_previous slots at to) n).first ≡ (slot_at slots n).first
first-with_previous slots None to n = refl
first-with_previous slots (Some at) to n = field_kept (λ s. s.first) slots at n (record (slot_at slots at) { previous = to }) refl

previous-written : (slots : List Slot) (at to : Option ℕ) (n : ℕ) → IfSome at (λ k. k < length slots) → at ≡ Some n → (slot_at (with_previous slots at to) n).previous ≡ to
previous-written slots None to n within e = cc
previous-written slots (Some at) to n within e =
    let same : at ≡ n = cc in
    subst (λ k. (slot_at (with_previous slots (Some at) to) k).previous ≡ to) same (ap (λ s. s.previous) (get_or-set_same slots at (record (slot_at slots at) { previous = to }) unlinked within))

previous-other : (slots : List Slot) (at to : Option ℕ) (n : ℕ) → at ≢ Some n → (slot_at (with_previous slots at to) n).previous ≡ (slot_at slots n).previous
previous-other slots None to n other = refl
previous-other slots (Some at) to n other = ap (λ s. s.previous) (get_or-set_other slots at n (record (slot_at slots at) { previous = to }) unlinked (λ e. other (ap Some (sym e))))

-- ---- the one behind

owners-with_next : (slots : List Slot) (o : ℕ) (at to : Option ℕ) → owners_of (with_next slots o at to) ≡ owners_of slots
owners-with_next slots o None to = owners_kept slots o (record (slot_at slots o) { first = to }) refl
owners-with_next slots o (Some at) to = owners_kept slots at (record (slot_at slots at) { next = to }) refl

previous-with_next : (slots : List Slot) (o : ℕ) (at to : Option ℕ) (n : ℕ) → (slot_at (with_next slots o at to) n).previous ≡ (slot_at slots n).previous
previous-with_next slots o None to n = field_kept (λ s. s.previous) slots o n (record (slot_at slots o) { first = to }) refl
previous-with_next slots o (Some at) to n = field_kept (λ s. s.previous) slots at n (record (slot_at slots at) { next = to }) refl

next-written : (slots : List Slot) (o : ℕ) (at to : Option ℕ) (n : ℕ) → IfSome at (λ k. k < length slots) → at ≡ Some n → (slot_at (with_next slots o at to) n).next ≡ to
next-written slots o None to n within e = cc
next-written slots o (Some at) to n within e =
    let same : at ≡ n = cc in
    subst (λ k. (slot_at (with_next slots o (Some at) to) k).next ≡ to) same (ap (λ s. s.next) (get_or-set_same slots at (record (slot_at slots at) { next = to }) unlinked within))

next-other : (slots : List Slot) (o : ℕ) (at to : Option ℕ) (n : ℕ) → at ≢ Some n → (slot_at (with_next slots o at to) n).next ≡ (slot_at slots n).next
next-other slots o None to n other = field_kept (λ s. s.next) slots o n (record (slot_at slots o) { first = to }) refl
next-other slots o (Some at) to n other = ap (λ s. s.next) (get_or-set_other slots at n (record (slot_at slots at) { next = to }) unlinked (λ e. other (ap Some (sym e))))

first-written : (slots : List Slot) (o : ℕ) (at to : Option ℕ) → o < length slots → at ≡ None → (slot_at (with_next slots o at to) o).first ≡ to
first-written slots o None to within e = ap (λ s. s.first) (get_or-set_same slots o (record (slot_at slots o) { first = to }) unlinked within)
first-written slots o (Some at) to within e = cc

first-stays : (slots : List Slot) (o : ℕ) (at to : Option ℕ) → at ≢ None → (slot_at (with_next slots o at to) o).first ≡ (slot_at slots o).first
first-stays slots o None to other = absurd (other refl)
first-stays slots o (Some at) to other = field_kept (λ s. s.first) slots at o (record (slot_at slots at) { next = to }) refl

first-other : (slots : List Slot) (o : ℕ) (at to : Option ℕ) (n : ℕ) → n ≢ o → (slot_at (with_next slots o at to) n).first ≡ (slot_at slots n).first
first-other slots o None to n other = ap (λ s. s.first) (get_or-set_other slots o n (record (slot_at slots o) { first = to }) unlinked other)
first-other slots o (Some at) to n other = field_kept (λ s. s.first) slots at n (record (slot_at slots at) { next = to }) refl

-- ---- both

pub joined : (slots : List Slot) (o : ℕ) (before after : Option ℕ) → o < length slots → IfSome before (λ k. k < length slots) → IfSome after (λ k. k < length slots) → Joins o before after slots (with_next (with_previous slots after before) o before after)
joined slots o before after owner_in before_in after_in =
    let mid = with_previous slots after before in
    let same = length_by_owners slots mid (owners-with_previous slots after before) in
    record {
      owners = owners-with_next mid o before after ∙ owners-with_previous slots after before;
      next = λ n e. next-written mid o before after n (subst (λ l. IfSome before (λ k. k < l)) (sym same) before_in) e;
      previous = λ n e. previous-with_next mid o before after n ∙ previous-written slots after before n after_in e;
      first = λ e. first-written mid o before after (omega (arith, same, owner_in)) e;
      same_next = λ n other. next-other mid o before after n other ∙ next-with_previous slots after before n;
      same_previous = λ n other. previous-with_next mid o before after n ∙ previous-other slots after before n other;
      same_first = λ other. first-stays mid o before after other ∙ first-with_previous slots after before o;
      first_of_others = λ n other. first-other mid o before after n other ∙ first-with_previous slots after before n;
    }
