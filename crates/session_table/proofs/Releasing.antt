-- A release keeps the rule.
use Rattle.std.proofs.Common.{◌≡◌, ℕ, ◌≤◌, false, ap, sym, refl, subst, ◌∙◌, arith, List, ◌∷◌, get_or-set_same}
use mathlib.Core.Option.{some, none}
use mathlib.Core.Option as maybe
use Rattle.std.specs.Prelude.{Option, Some, None}
use Rattle.atomic_table.specs.Table.{gives, step, Allows}
use Rattle.atomic_table.proofs.Lists.{set_here}
use Rattle.pk_base.specs.declared.act.Entry.{Entry}
use Rattle.session_table.specs.declared.view.Bounds.{Bounds}
use Rattle.session_table.specs.declared.view.Line.{Line}
use Rattle.session_table.specs.declared.view.Note.{Note}
use Rattle.session_table.specs.declared.view.View.{View}
use Rattle.session_table.specs.Entries.{only, Continues}
use Rattle.session_table.specs.Named.{Named}
use Rattle.session_table.specs.Seats.{note_of}
use Rattle.session_table.specs.Steps.{let_go}
use Rattle.session_table.specs.Slots.{IsNoted}
use Rattle.session_table.specs.Rule.{IsSeat, Stand, note_for, Rule}
use Rattle.session_table.specs.Tells.{frees}
use Rattle.session_table.proofs.Journals.{starts_itself, continues_starts, continues_others}
use Rattle.std.proofs.lemmas.Option.{none-some}
use Rattle.session_table.proofs.Book.{noted_stands, note_else}
use Rattle.session_table.proofs.Claiming.{notes_line, seen_line, stands_at}

module _ {X : Type 0} (named : X → Named) (bounds : Bounds) where
  pub frees_allowed : (slots id : ℕ) (v : View) (c : List (ℕ × Option X)) (p : ℕ) (x : X) (note : Note) (said : maybe.Option (Option X)) → v.spent ≡ false → 1 ≤ p → p ≤ bounds.partitions
      → note_of v p ≡ Some note → IsNoted v.number p note (named x)
      → Allows (Rule named bounds) slots id (v, (p, Some x) ∷ c) p (λ _. 0) (λ _. frees named (step slots p 0 0 said) (v, (p, Some x) ∷ c) 0)
  frees_allowed slots id v c p x note said live one most has fits s r wide at small =
      let seat : IsSeat s.views id v = (at, live) in let y : Named = named x in
      let old : Stand = r.book p in let st : Stand = record { holder = None; journal = y.journal; blocks = y.blocks } in
      let found = noted_stands old.holder (record { journal = old.journal; blocks = old.blocks }) note v.number (sym (r.notes id v seat p) ∙ has) in
      let journal : note.journal ≡ old.journal = ap (λ (n : Note). n.journal) (sym found.1) in
      let blocks : note.blocks ≡ old.blocks = ap (λ (n : Note). n.blocks) (sym found.1) in
      let grown : Continues v.number old.journal y.journal = subst (λ (j : List Entry). Continues v.number j y.journal) journal fits.journal in
      let w : View = let_go v p y.journal in
      let line : Line = record { partition = p; seen = y.journal; mine = only v.number y.journal; note = None } in (
        w,
        gives,
        tt,
        stands_at named bounds s r id v w p 0 (some (Some x)) st seat record { live = live; number = refl; made = refl; joined = refl; bounds = refl } one most
            record {
              word = get_or-set_same s.words p 0 0 (let l = r.words in omega arith);
              value = x;
              slot = set_here s.homes p (some (Some x)) (let l = r.slots in omega arith);
              seen = λ i. record { number = fits.number i; holder = fits.free i; blocks = y.blocks; journal = y.journal };
            }
            record {
              holds = λ u e. absurd (none-some u e);
              notes = λ u ne. sym (ap (λ (o : Option ℕ). note_for o (record { journal = old.journal; blocks = old.blocks }) u) found.0
                  ∙ note_else (record { journal = old.journal; blocks = old.blocks }) v.number u ne);
              grows = continues_starts v.number old.journal y.journal grown;
              others = λ u ne. continues_others v.number u old.journal y.journal grown ne;
            }
            (fits.blocks ∙ blocks) refl refl
            (notes_line r.book p st v w line refl refl refl refl (r.notes id v seat))
            (seen_line r.book p st v w line refl refl refl (starts_itself y.journal) refl (r.seen id v seat)),
        record { value = x; was = refl; view = refl; slots = refl },
      )
