-- What is found among the entities of a list of slots.
use Rattle.std.proofs.Common.{◌≡◌, ◌≢◌, ℕ, zero, suc, ◌<◌, true, false, cond, List, [], ◌∷◌, length, get_or, set, Option, None, Some, refl, sym, ap, subst, ◌∙◌, arith}
use Rattle.std.specs.List.{AllByRecursion}
use Rattle.std.specs.Ordering.{eq_by_cmp}
use Rattle.std.specs.FinMap.{find}
use Rattle.pk_base.specs.declared.tag.Tag.{Tag}
use Rattle.pk_base.specs.declared.entity.Entity.{Entity}
use Rattle.pk_model.specs.Maps.{tag_cmp}
use Rattle.pk_model.specs.Apart.{NoRepeats}
use Rattle.pk_model.proofs.TagLists.{same_from_tie, ties_itself, ties_no_other}
use Rattle.list_facts.proofs.Each.{ByRecursion-get_or}
use Rattle.entity_store.specs.Store.{live_entries}

-- a tag of none of the slots is not found
pub find_missing : (q : Tag) (ts : List Tag) (slots : List (Option Entity)) → AllByRecursion (λ u. q ≢ u) ts → find tag_cmp q (live_entries ts slots) ≡ None
find_missing q [] slots h = refl
find_missing q (t ∷ ts) [] h = refl
find_missing q (t ∷ ts) (None ∷ slots) h = find_missing q ts slots h.1
find_missing q (t ∷ ts) (Some e ∷ slots) h = ap (λ b. cond b (Some e) (find tag_cmp q (live_entries ts slots))) (ties_no_other q t h.0) ∙ find_missing q ts slots h.1

-- of a slot whose tag is another the rest decides
find_later : (q t : Tag) (ts : List Tag) (slot : Option Entity) (slots : List (Option Entity)) → q ≢ t → find tag_cmp q (live_entries (t ∷ ts) (slot ∷ slots)) ≡ find tag_cmp q (live_entries ts slots)
find_later q t ts None slots h = refl
find_later q t ts (Some e) slots h = ap (λ b. cond b (Some e) (find tag_cmp q (live_entries ts slots))) (ties_no_other q t h)

find_first : (t : Tag) (ts : List Tag) (slot : Option Entity) (slots : List (Option Entity)) → AllByRecursion (λ u. t ≢ u) ts → find tag_cmp t (live_entries (t ∷ ts) (slot ∷ slots)) ≡ slot
find_first t ts None slots h = find_missing t ts slots h
find_first t ts (Some e) slots h = ap (λ b. cond b (Some e) (find tag_cmp t (live_entries ts slots))) (ties_itself t)

-- the entity of a slot is found at the slot's tag
pub find_slot : (ts : List Tag) (slots : List (Option Entity)) (i : ℕ) (d : Tag) → NoRepeats ts → length slots ≡ length ts → i < length ts → find tag_cmp (get_or ts i d) (live_entries ts slots) ≡ get_or slots i None
find_slot [] slots i d n l h = absurd (omega arith)
find_slot (t ∷ ts) [] i d n l h = absurd (omega arith)
find_slot (t ∷ ts) (slot ∷ slots) zero d n l h = find_first t ts slot slots n.0
find_slot (t ∷ ts) (slot ∷ slots) (suc i) d n l h =
    let other : get_or ts i d ≢ t = λ e. ByRecursion-get_or (λ u. t ≢ u) ts i d (omega arith) n.0 (sym e) in
    find_later (get_or ts i d) t ts slot slots other ∙ find_slot ts slots i d n.1 (omega arith) (omega arith)

-- after a write to one slot, its tag is found with what was written, and every other as before
pub find_written : (q : Tag) (ts : List Tag) (slots : List (Option Entity)) (i : ℕ) (to : Option Entity) (d : Tag) → NoRepeats ts → length slots ≡ length ts → i < length ts → find tag_cmp q (live_entries ts (set slots i to)) ≡ cond (eq_by_cmp tag_cmp q (get_or ts i d)) to (find tag_cmp q (live_entries ts slots))
find_written q [] slots i to d n l h = absurd (omega arith)
find_written q (t ∷ ts) [] i to d n l h = absurd (omega arith)
find_written q (t ∷ ts) (slot ∷ slots) zero to d n l h =
    elim (eq_by_cmp tag_cmp q t) as (λ b. eq_by_cmp tag_cmp q t ≡ b → find tag_cmp q (live_entries (t ∷ ts) (to ∷ slots)) ≡ cond b to (find tag_cmp q (live_entries (t ∷ ts) (slot ∷ slots)))) [
      | true ↦ λ e. let same = same_from_tie q t e in subst (λ x. find tag_cmp x (live_entries (t ∷ ts) (to ∷ slots)) ≡ to) (sym same) (find_first t ts to slots n.0)
      | false ↦ λ e.
          let other : q ≢ t = λ s. cc (ties_itself t, ap (λ x. eq_by_cmp tag_cmp x t) s) in
          find_later q t ts to slots other ∙ sym (find_later q t ts slot slots other)
    ] refl
find_written q (t ∷ ts) (slot ∷ slots) (suc i) to d n l h =
    elim (eq_by_cmp tag_cmp q t) as (λ b. eq_by_cmp tag_cmp q t ≡ b → find tag_cmp q (live_entries (t ∷ ts) (slot ∷ set slots i to)) ≡ cond (eq_by_cmp tag_cmp q (get_or ts i d)) to (find tag_cmp q (live_entries (t ∷ ts) (slot ∷ slots)))) [
      | true ↦ λ e.
          let same = same_from_tie q t e in
          let other : t ≢ get_or ts i d = ByRecursion-get_or (λ u. t ≢ u) ts i d (omega arith) n.0 in
          subst (λ x. find tag_cmp x (live_entries (t ∷ ts) (slot ∷ set slots i to)) ≡ cond (eq_by_cmp tag_cmp x (get_or ts i d)) to (find tag_cmp x (live_entries (t ∷ ts) (slot ∷ slots)))) (sym same)
          (find_first t ts slot (set slots i to) n.0 ∙ sym (ap (λ b. cond b to (find tag_cmp t (live_entries (t ∷ ts) (slot ∷ slots)))) (ties_no_other t (get_or ts i d) other) ∙ find_first t ts slot slots n.0))
      | false ↦ λ e.
          let other : q ≢ t = λ s. cc (ties_itself t, ap (λ x. eq_by_cmp tag_cmp x t) s) in
          find_later q t ts slot (set slots i to) other ∙ find_written q ts slots i to d n.1 (omega arith) (omega arith) ∙ ap (cond (eq_by_cmp tag_cmp q (get_or ts i d)) to) (sym (find_later q t ts slot slots other))
    ] refl
