-- How a partition stands after a step.
use Rattle.std.proofs.Common.{◌≡◌, ◌≢◌, ℕ, Bool, cond, ap, sym, refl, subst, ◌∙◌, inr, arith, List, eq-eqb, ne_eqb, eqb-true}
use mathlib.Core.Option.{some, none}
use mathlib.Core.Option as maybe
use native.Mathlib.Decide.{ℕ_discrete}
use lib.ListN.{get_elem?}
use Rattle.std.specs.Prelude.{◌==◌, Option, Some, None, slice_index}
use Rattle.std.proofs.lemmas.Option.{cond_some, none-some}
use Rattle.atomic_table.specs.Table.{State}
use Rattle.pk_base.specs.declared.act.Entry.{Entry}
use Rattle.session_table.specs.declared.view.Bounds.{Bounds}
use Rattle.session_table.specs.declared.view.Note.{Note}
use Rattle.session_table.specs.declared.view.View.{View}
use Rattle.session_table.specs.Named.{Named}
use Rattle.session_table.specs.Rule.{Stand, IsHome, IsOut, Lies, note_for, DrawnOnce}
use Rattle.session_table.proofs.Journals.{starts_itself}
use Rattle.session_table.proofs.Keeps.{Moves}

-- the book in which p stands so
abbrev pub put : (ℕ → Stand) → ℕ → Stand → ℕ → Stand
put book p st q = cond (p == q) st (book q)

pub put_here : (book : ℕ → Stand) (p : ℕ) (st : Stand) → put book p st p ≡ st
put_here book p st = ap (λ (b : Bool). cond b st (book p)) (eq-eqb p p refl)

pub put_else : (book : ℕ → Stand) (p : ℕ) (st : Stand) (q : ℕ) → q ≢ p → put book p st q ≡ book q
put_else book p st q ne = ap (λ (b : Bool). cond b st (book q)) (ne_eqb p q (λ e. ne (sym e)))

pub put_each : (P : ℕ → Stand → Type 0) (book : ℕ → Stand) (p : ℕ) (st : Stand) → P p st → ((q : ℕ) → q ≢ p → P q (book q)) → (q : ℕ) → P q (put book p st q)
put_each P book p st own others q = elim (ℕ_discrete p q) as (λ _. P q (put book p st q)) [
  | yes e ↦ subst (λ (x : Stand). P q x) (sym (ap (λ (b : Bool). cond b st (book q)) (eq-eqb p q e))) (subst (λ (z : ℕ). P z st) e own)
  | no ne ↦ subst (λ (x : Stand). P q x) (sym (ap (λ (b : Bool). cond b st (book q)) (ne_eqb p q ne))) (others q (λ e. ne (sym e)))
]

pub moves_none : (t : ℕ) (st : Stand) → Moves t st st
moves_none t st = record { holds = λ u h. inr h; notes = λ u _. refl; grows = starts_itself st.journal; others = λ u _. refl }

pub moves_put : (t : ℕ) (book : ℕ → Stand) (p : ℕ) (st : Stand) → Moves t (book p) st → (q : ℕ) → Moves t (book q) (put book p st q)
moves_put t book p st own = put_each (λ q x. Moves t (book q) x) book p st own (λ q _. moves_none t (book q))

-- a seat has a note where it is the holder, and the note is of how the partition stands
pub noted_stands : (o : Option ℕ) (note' note : Note) (s : ℕ) → note_for o note' s ≡ Some note → (o ≡ Some s) × (note' ≡ note)
noted_stands None note' note s e = absurd (none-some note e)
noted_stands (Some t) note' note s e = let h = cond_some (t == s) note' note e in (ap Some (eqb-true t s h.0), h.1)

pub note_itself : (note : Note) (s : ℕ) → note_for (Some s) note s ≡ Some note
note_itself note s = ap (λ (b : Bool). cond b (Some note) None) (eq-eqb s s refl)

pub note_else : (note : Note) (s t : ℕ) → t ≢ s → note_for (Some s) note t ≡ None
note_else note s t ne = ap (λ (b : Bool). cond b (Some note) None) (ne_eqb s t (λ e. ne (sym e)))

-- a partition whose word and slot are as they were lies as it did
pub lies_same : {X : Type 0} (named : X → Named) (s : State (Option X) View) (words : List ℕ) (homes : List (maybe.Option (Option X))) (views : List View)
    → (q : ℕ) → slice_index words q ≡ slice_index s.words q → get_elem? homes q ≡ get_elem? s.homes q → (holder : Option ℕ) (journal : List Entry) (blocks : List ℕ) → Lies named s q holder journal blocks
    → Lies named record { words = words; homes = homes; views = views } q holder journal blocks
lies_same named s words homes views q e f None journal blocks is =
    record { word = e ∙ is.word; value = is.value; slot = f ∙ is.slot; seen = is.seen }
lies_same named s words homes views q e f (Some t) journal blocks is =
    record { word = e ∙ is.word; slot = f ∙ is.slot }

-- a partition whose word is 0 is at home, and else it is out
pub home_of : {X : Type 0} (named : X → Named) (s : State (Option X) View) (p : ℕ) (holder : Option ℕ) (journal : List Entry) (blocks : List ℕ) → Lies named s p holder journal blocks
    → slice_index s.words p ≡ 0 → (holder ≡ None) × IsHome named s p journal blocks
home_of named s p None journal blocks is e = (refl, is)
home_of named s p (Some t) journal blocks is e = absurd (let h = is.word in omega arith)

pub out_of : {X : Type 0} (named : X → Named) (s : State (Option X) View) (p : ℕ) (holder : Option ℕ) (journal : List Entry) (blocks : List ℕ) → Lies named s p holder journal blocks
    → slice_index s.words p ≢ 0 → (t : ℕ) × (holder ≡ Some t) × IsOut s p t
out_of named s p None journal blocks is ne = absurd (ne is.word)
out_of named s p (Some t) journal blocks is ne = (t, refl, is)

pub drawn_same : (blocks blocks' : ℕ → List ℕ) (bounds : Bounds) (next next' : ℕ) → ((p : ℕ) → blocks' p ≡ blocks p) → next' ≡ next → DrawnOnce blocks bounds next → DrawnOnce blocks' bounds next'
drawn_same blocks blocks' bounds next next' same e d = let f : blocks ≡ blocks' = λ i p. sym (same p) i in
    subst (λ (b : ℕ → List ℕ). DrawnOnce b bounds next') f (subst (λ (n : ℕ). DrawnOnce blocks bounds n) (sym e) d)
