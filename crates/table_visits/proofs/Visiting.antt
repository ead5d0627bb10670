-- A seat during a visit to a partition.
use Rattle.std.proofs.Common.{◌≡◌, ◌≢◌, ℕ, zero, suc, ◌+◌, arith, false, ap, sym, refl, subst, ◌∙◌, List, [], ◌∷◌, ◌++◌, append_assoc}
use Rattle.std.specs.Prelude.{Some, None}
use Rattle.pk_base.specs.declared.act.Entry.{Entry}
use Rattle.session_table.specs.declared.view.Line.{Line}
use Rattle.session_table.specs.declared.view.Note.{Note}
use Rattle.session_table.specs.declared.view.View.{View}
use Rattle.session_table.specs.declared.seat.Seat.{Seat}
use Rattle.session_table.specs.declared.table.SessionTable.{SessionTable}
use native.Mathlib.Decide.{ℕ_discrete}
use Rattle.session_table.specs.Entries.{thread_of, only, AreAll, Continues}
use Rattle.session_table.specs.Named.{Named, opening, openings}
use Rattle.session_table.specs.Seats.{line_in, seen_of, mine_of, note_of, line_here, line_there}
use Rattle.session_table.specs.Slots.{IsNoted}
use Rattle.session_table.specs.Steps.{noted, looked_at, let_go, drew}
use Rattle.session_table.specs.Faces.{Face, face, view_of, IsSeatOf}
use Rattle.session_table.specs.Calls.{slot_here, IsFilled, IsNotedBy, HasWon, HasLost, TakesOut, PutsIn, LetsGo}
use Rattle.session_table.specs.Ends.{HoldsNothing}
use Rattle.table_visits.specs.Working.{IsIdle, IsAtWork}
use Rattle.table_visits.specs.Visits.{KeepsOthers, HasLeft}
use Rattle.std.proofs.lemmas.Option.{same_Some}

all_and : (s : ℕ) (own : List Entry) (e : Entry) → AreAll s own → thread_of e ≡ s → AreAll s (own ++ e ∷ [])
all_and s [] e h is = (is, tt)
all_and s (x ∷ xs) e h is = (h.0, all_and s xs e h.1 is)

continues_and : (s : ℕ) (earlier journal : List Entry) (e : Entry) → Continues s earlier journal → thread_of e ≡ s → Continues s earlier (journal ++ e ∷ [])
continues_and s earlier journal e (own, is, all) by = (own ++ e ∷ [], ap (λ (l : List Entry). l ++ e ∷ []) is ∙ append_assoc earlier own (e ∷ []), all_and s own e all by)

pub filled_by_put : (old new : Face) (p : ℕ) (x : Named) → PutsIn old p x new → IsFilled new p
filled_by_put old new p x is = (x, ap (λ (f : Face). f.slots p) is ∙ slot_here old.slots p p (Some (Some x)) refl)

pub filled_by_claim : (old new : Face) (p : ℕ) → HasWon old p new → IsFilled new p
filled_by_claim old new p has =
    let x : Named = record { number = p; holder = None; blocks = has.note.blocks; journal = has.note.journal } in
    (x, ap (λ (f : Face). f.slots p) has.seat ∙ slot_here old.slots p p (Some (Some x)) refl)

-- what was put in is what was let go
left_is : (old put new : Face) (p : ℕ) (x : Named) → PutsIn old p x put → (lets : LetsGo put p new) → lets.left ≡ x
left_is old put new p x is lets =
    same_Some lets.left x (same_Some (Some lets.left) (Some x) (sym lets.was ∙ ap (λ (f : Face). f.slots p) is ∙ slot_here old.slots p p (Some (Some x)) refl))

abbrev line_left : View → ℕ → List Entry → Line
line_left v p journal = record { partition = p; seen = journal; mine = only v.number journal; note = None }

pub seen_left : (old put new : Face) (p : ℕ) (x : Named) → PutsIn old p x put → LetsGo put p new → seen_of new.view p ≡ x.journal
seen_left old put new p x is lets =
    ap (λ (f : Face). seen_of f.view p) lets.seat ∙ ap (λ (l : Line). l.seen) (line_here (line_left put.view p lets.left.journal) put.view.lines p refl)
    ∙ ap (λ (y : Named). y.journal) (left_is old put new p x is lets)

pub done_left : (old put new : Face) (p : ℕ) (x : Named) → PutsIn old p x put → LetsGo put p new → mine_of new.view p ≡ only old.view.number (seen_of new.view p)
done_left old put new p x is lets =
    let here = line_here (line_left put.view p lets.left.journal) put.view.lines p refl in
    ap (λ (f : Face). mine_of f.view p) lets.seat ∙ ap (λ (l : Line). l.mine) here
    ∙ ap (λ (f : Face). only f.view.number lets.left.journal) is
    ∙ ap (only old.view.number) (sym (ap (λ (f : Face). seen_of f.view p) lets.seat ∙ ap (λ (l : Line). l.seen) here))

pub others_left : (old put new : Face) (p : ℕ) (x : Named) → PutsIn old p x put → LetsGo put p new → KeepsOthers old.view p new.view
others_left old put new p x is lets q ne =
    ap (λ (f : Face). line_in f.view.lines q) lets.seat ∙ line_there (line_left put.view p lets.left.journal) put.view.lines q (λ e. ne (sym e))
    ∙ ap (λ (f : Face). line_in f.view.lines q) is

pub others_along : (u v w : View) (p : ℕ) → KeepsOthers u p v → KeepsOthers v p w → KeepsOthers u p w
others_along u v w p first second q ne = second q ne ∙ first q ne

pub others_drew : (old new : View) (p : ℕ) (v : View) (note : Note) (b : ℕ) → v.lines ≡ old.lines → new ≡ drew v p note b → KeepsOthers old p new
others_drew old new p v note b lines is q ne =
    let line : Line = record { partition = p; seen = seen_of v p; mine = mine_of v p; note = Some (record { journal = note.journal; blocks = note.blocks ++ b ∷ [] }) } in
    ap (λ (k : View). line_in k.lines q) is ∙ line_there line v.lines q (λ e. ne (sym e)) ∙ ap (λ (ls : List Line). line_in ls q) lines

others_won : (old won : Face) (p : ℕ) → HasWon old p won → KeepsOthers old.view p won.view
others_won old won p has q ne =
    let line : Line = record { partition = p; seen = seen_of old.view p; mine = mine_of old.view p; note = Some has.note } in
    ap (λ (f : Face). line_in f.view.lines q) has.seat ∙ line_there line old.view.lines q (λ e. ne (sym e))

-- what was taken out has the journal that the claim found
journal_found : (old won out : Face) (p : ℕ) (x : Named) (has : HasWon old p won) → TakesOut won p x out → x.journal ≡ has.note.journal
journal_found old won out p x has takes =
    let y : Named = record { number = p; holder = None; blocks = has.note.blocks; journal = has.note.journal } in
    ap (λ (z : Named). z.journal)
    (same_Some x y (same_Some (Some x) (Some y) (sym takes.was ∙ ap (λ (f : Face). f.slots p) has.seat ∙ slot_here old.slots p p (Some (Some y)) refl)))

-- a seat that has come to the partition has left it
pub has_left : (old won out : Face) (p : ℕ) (x : Named) (entries : List Entry) (new : View) → HasWon old p won → TakesOut won p x out → seen_of new p ≡ x.journal ++ entries
    → mine_of new p ≡ only out.view.number (seen_of new p) → KeepsOthers out.view p new → HasLeft old.view p entries new
has_left old won out p x entries new has takes seen done others =
    let same : out.view ≡ won.view = ap (λ (f : Face). f.view) takes.seat in
    let number : out.view.number ≡ old.view.number = ap (λ (v : View). v.number) same ∙ ap (λ (f : Face). f.view.number) has.seat in record {
      found = has.note.journal;
      begins = has.seen;
      mine = has.mine;
      seen = seen ∙ ap (λ (j : List Entry). j ++ entries) (journal_found old won out p x has takes);
      done = done ∙ ap (λ (s : ℕ). only s (seen_of new p)) number;
      others = λ q ne. others q ne ∙ ap (λ (v : View). line_in v.lines q) same ∙ others_won old won p has q ne;
    }

module _ {X : Type 0} (named : X → Named) (table : SessionTable X) where
  pub wrote : (seat : Seat X) (p : ℕ) (x : Named) (e : Entry) → IsAtWork named table seat p x → thread_of e ≡ (view_of seat).number → IsAtWork named table seat p (record x { journal = x.journal ++ e ∷ [] })
  wrote seat p x e at by = let note : Note = at.noted.0 in let is = at.noted.2 in record {
    session = at.session;
    others = at.others;
    calm = at.calm;
    empty = at.empty;
    noted = (
      note,
      at.noted.1,
      record {
        number = is.number;
        free = is.free;
        blocks = is.blocks;
        journal = continues_and (view_of seat).number note.journal x.journal e is.journal by;
      },
    );
  }

  -- nothing changes but what the seat knows beside its lines
  pub kept : (old new : Seat X) (p : ℕ) (x : Named) (w : View) → IsAtWork named table old p x → IsSeatOf named table new → face named new ≡ record { view = w; slots = (face named old).slots }
      → w.lines ≡ (view_of old).lines → w.number ≡ (view_of old).number → w.pending ≡ false → IsAtWork named table new p x
  kept old new p x w at session is lines number calm =
      let view : view_of new ≡ w = ap (λ (f : Face). f.view) is in
      let note = λ (q : ℕ). ap (λ (v : View). note_of v q) view ∙ ap (λ (ls : List Line). (line_in ls q).note) lines in
      let same : (view_of new).number ≡ (view_of old).number = ap (λ (v : View). v.number) view ∙ number in record {
        session = session;
        others = λ q ne. note q ∙ at.others q ne;
        calm = ap (λ (v : View). v.pending) view ∙ calm;
        empty = ap (λ (f : Face). f.slots p) is ∙ at.empty;
        noted = (at.noted.0, note p ∙ at.noted.1, subst (λ (n : ℕ). IsNoted n p at.noted.0 x) (sym same) at.noted.2);
      }

  -- a block was drawn for the partition
  pub drawn : (old new : Seat X) (p : ℕ) (x : Named) (v : View) (note : Note) (b : ℕ) (blocks : List ℕ) → blocks ≡ x.blocks ++ b ∷ [] → IsAtWork named table old p x → IsSeatOf named table new → face named new ≡ record { view = drew v p note b; slots = (face named old).slots }
      → v.lines ≡ (view_of old).lines → v.number ≡ (view_of old).number → note_of v p ≡ Some note → IsAtWork named table new p (record x { blocks = blocks })
  drawn old new p x v note b blocks grown at session is lines number has =
      let w : View = drew v p note b in
      let view : view_of new ≡ w = ap (λ (f : Face). f.view) is in
      let more : Note = record { journal = note.journal; blocks = note.blocks ++ b ∷ [] } in
      let line : Line = record { partition = p; seen = seen_of v p; mine = mine_of v p; note = Some more } in
      let was : note ≡ at.noted.0 = same_Some note at.noted.0 (sym has ∙ ap (λ (ls : List Line). (line_in ls p).note) lines ∙ at.noted.1) in
      let fits = at.noted.2 in
      let same : (view_of new).number ≡ (view_of old).number = ap (λ (k : View). k.number) view ∙ number in record {
        session = session;
        others = λ q ne. ap (λ (k : View). note_of k q) view ∙ ap (λ (l : Line). l.note) (line_there line v.lines q (λ e. ne (sym e)))
            ∙ ap (λ (ls : List Line). (line_in ls q).note) lines ∙ at.others q ne;
        calm = ap (λ (k : View). k.pending) view;
        empty = ap (λ (f : Face). f.slots p) is ∙ at.empty;
        noted = (
          more,
          ap (λ (k : View). note_of k p) view ∙ ap (λ (l : Line). l.note) (line_here line v.lines p refl),
          subst (λ (n : ℕ). IsNoted n p more (record x { blocks = blocks })) (sym same) record {
            number = fits.number;
            free = fits.free;
            blocks = grown ∙ ap (λ (l : List ℕ). l ++ b ∷ []) (fits.blocks ∙ ap (λ (k : Note). k.blocks) (sym was));
            journal = subst (λ (j : List Entry). Continues (view_of old).number j x.journal) (ap (λ (k : Note). k.journal) (sym was)) fits.journal;
          },
        );
      }

  -- the seat comes to the partition
  pub comes : (old won new : Seat X) (p : ℕ) (x : Named) → HoldsNothing (view_of old) → (view_of old).pending ≡ false → HasWon (face named old) p (face named won) → TakesOut (face named won) p x (face named new) → IsSeatOf named table new → IsAtWork named table new p x
  comes old won new p x idle calm has takes session =
      let v : View = view_of old in let w : View = noted v p has.note in
      let line : Line = record { partition = p; seen = seen_of v p; mine = mine_of v p; note = Some has.note } in
      let there : view_of won ≡ w = ap (λ (f : Face). f.view) has.seat in
      let same : view_of new ≡ view_of won = ap (λ (f : Face). f.view) takes.seat in
      let view : view_of new ≡ w = same ∙ there in record {
        session = session;
        others = λ q ne. ap (λ (k : View). note_of k q) view ∙ ap (λ (l : Line). l.note) (line_there line v.lines q (λ e. ne (sym e))) ∙ idle q;
        calm = ap (λ (k : View). k.pending) view ∙ calm;
        empty = ap (λ (f : Face). f.slots p) takes.seat ∙ slot_here (face named won).slots p p (Some None) refl;
        noted = subst (λ (k : View). IsNotedBy k p x) (sym same) takes.noted;
      }

  -- the seat leaves the partition
  pub goes : (old new : Seat X) (v : View) (p : ℕ) (j : List Entry) → v ≡ view_of old → ((q : ℕ) → q ≢ p → note_of (view_of old) q ≡ None) → (view_of old).pending ≡ false → IsSeatOf named table new
      → view_of new ≡ let_go v p j → IsIdle named table new
  goes old new v p j was others calm session is =
      let line : Line = record { partition = p; seen = j; mine = only v.number j; note = None } in record {
        session = session;
        nothing = λ q. elim (ℕ_discrete p q) as (λ _. note_of (view_of new) q ≡ None) [
          | yes e ↦ ap (λ (k : View). note_of k q) is ∙ ap (λ (l : Line). l.note) (line_here line v.lines q e)
          | no ne ↦ ap (λ (k : View). note_of k q) is ∙ ap (λ (l : Line). l.note) (line_there line v.lines q ne) ∙ ap (λ (k : View). note_of k q) was ∙ others q (λ e. ne (sym e))
        ];
        calm = ap (λ (k : View). k.pending) is ∙ ap (λ (k : View). k.pending) was ∙ calm;
      }

  -- the seat has claimed the partition, and let it go
  pub leaves_again : (old won new : Seat X) (p : ℕ) → HoldsNothing (view_of old) → (view_of old).pending ≡ false → HasWon (face named old) p (face named won) → LetsGo (face named won) p (face named new) → IsSeatOf named table new → IsIdle named table new
  leaves_again old won new p idle calm has lets session =
      let v : View = view_of old in let w : View = noted v p has.note in
      let line : Line = record { partition = p; seen = seen_of v p; mine = mine_of v p; note = Some has.note } in
      let there : view_of won ≡ w = ap (λ (f : Face). f.view) has.seat in
      goes won new (view_of won) p lets.left.journal refl
      (λ q ne. ap (λ (k : View). note_of k q) there ∙ ap (λ (l : Line). l.note) (line_there line v.lines q (λ e. ne (sym e))) ∙ idle q)
      (ap (λ (k : View). k.pending) there ∙ calm) session (ap (λ (f : Face). f.view) lets.seat)

  -- another seat holds the partition
  pub idle_lost : (old new : Seat X) (p holder : ℕ) → IsIdle named table old → HasLost (face named old) p holder (face named new) → IsSeatOf named table new → IsIdle named table new
  idle_lost old new p holder idle has session =
      let view : view_of new ≡ looked_at (view_of old) p holder = ap (λ (f : Face). f.view) has.seat in record {
        session = session;
        nothing = λ q. ap (λ (k : View). note_of k q) view ∙ idle.nothing q;
        calm = ap (λ (k : View). k.pending) view ∙ idle.calm;
      }

pub openings-snoc : (k n : ℕ) → openings k (suc n) ≡ openings k n ++ opening (k + n) ∷ []
openings-snoc k zero = ap (λ (z : ℕ). opening z ∷ []) (omega arith)
openings-snoc k (suc n) = ap (λ (l : List Named). opening k ∷ l) (openings-snoc (k + 1) n ∙ ap (λ (z : ℕ). openings (k + 1) n ++ opening z ∷ []) (let e : k + 1 + n ≡ k + suc n = omega arith in e))
