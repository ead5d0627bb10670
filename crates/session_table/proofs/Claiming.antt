-- A claim keeps the rule, whether it wins or not.
use Rattle.std.proofs.Common.{◌≡◌, ◌≢◌, ℕ, ◌+◌, ◌≤◌, Bool, false, cond, ap, ap₂, sym, refl, subst, ◌∙◌, arith, List, ◌∷◌, set, inl, eqb, le_refl, length-set, get_or-set_same, get_or-set_other}
use Rattle.std.proofs.lemmas.List.{set-get_or}
use mathlib.Core.Option.{some, none}
use mathlib.Core.Option as maybe
use prog.Atomic.{either}
use Rattle.std.specs.Prelude.{Option, Some, None, slice_index}
use Rattle.atomic_table.specs.Table.{State, Act, keeps, takes, Valid, stepped, step, carried_after, Allows}
use Rattle.atomic_table.proofs.Lists.{set_here, set_else, exchanged}
use Rattle.pk_base.specs.declared.act.Entry.{Entry}
use Rattle.std.proofs.lemmas.Option.{none-some, same_Some}
use Rattle.session_table.specs.declared.view.Bounds.{Bounds}
use Rattle.session_table.specs.declared.view.Line.{Line}
use Rattle.session_table.specs.declared.view.Note.{Note}
use Rattle.session_table.specs.declared.view.View.{View}
use Rattle.session_table.specs.Entries.{only, StartsWith}
use Rattle.session_table.specs.Named.{Named}
use Rattle.session_table.specs.Seats.{line_in, seen_of, mine_of, note_of}
use Rattle.session_table.specs.Steps.{noted, looked_at}
use Rattle.session_table.specs.Rule.{IsSeat, Stand, IsHome, Stands, note_for, note_on, HasNotes, HasSeen, total, one_if_pending, KeepsPast, Rule}
use Rattle.session_table.specs.Tells.{note_from, claims}
use Rattle.session_table.specs.Seats.{line_here, line_there}
use Rattle.session_table.proofs.Journals.{starts_itself}
use Rattle.session_table.proofs.Seating.{total-set}
use Rattle.session_table.proofs.Keeps.{Moves, IsSame, steps}
use Rattle.session_table.proofs.Book.{put, put_each, moves_none, moves_put, note_itself, note_else, lies_same, home_of, out_of, drawn_same}

-- what a seat keeps where it has one line more
pub notes_line : (book : ℕ → Stand) (p : ℕ) (st : Stand) (v w : View) (l : Line) → w.lines ≡ l ∷ v.lines → w.number ≡ v.number → l.partition ≡ p → l.note ≡ note_on st v.number → HasNotes book v → HasNotes (put book p st) w
notes_line book p st v w l more same at own has = put_each (λ q x. note_of w q ≡ note_on x w.number) book p st
    (ap (λ (ls : List Line). (line_in ls p).note) more ∙ ap (λ (k : Line). k.note) (line_here l v.lines p at) ∙ own ∙ ap (note_on st) (sym same))
    (λ q ne. ap (λ (ls : List Line). (line_in ls q).note) more ∙ ap (λ (k : Line). k.note) (line_there l v.lines q (λ e. ne (sym e ∙ at))) ∙ has q ∙ ap (note_on (book q)) (sym same))

abbrev Knows : ℕ → Stand → Line → Type 0
Knows s st l = StartsWith st.journal l.seen × (l.mine ≡ only s st.journal)

pub seen_line : (book : ℕ → Stand) (p : ℕ) (st : Stand) (v w : View) (l : Line) → w.lines ≡ l ∷ v.lines → w.number ≡ v.number → l.partition ≡ p → StartsWith st.journal l.seen → l.mine ≡ only v.number st.journal → HasSeen book v → HasSeen (put book p st) w
seen_line book p st v w l more same at sees own has =
    subst (λ (ls : List Line). (q : ℕ) → Knows w.number (put book p st q) (line_in ls q)) (sym more)
    (subst (λ (n : ℕ). (q : ℕ) → Knows n (put book p st q) (line_in (l ∷ v.lines) q)) (sym same)
    (put_each (λ q x. Knows v.number x (line_in (l ∷ v.lines) q)) book p st
    (subst (λ (k : Line). Knows v.number st k) (sym (line_here l v.lines p at)) (sees, own))
    (λ q ne. subst (λ (k : Line). Knows v.number (book q) k) (sym (line_there l v.lines q (λ e. ne (sym e ∙ at)))) (has q))))

module _ {X : Type 0} (named : X → Named) (bounds : Bounds) where
  -- nothing changes but what the seat knows beside its lines
  pub stays : (s : State (Option X) View) (r : Rule named bounds s) (id : ℕ) (v w : View) → IsSeat s.views id v → IsSame v w → w.lines ≡ v.lines
      → slice_index s.words 0 + total one_if_pending (set s.views id w) ≤ bounds.last + (r.made + 1) → KeepsPast bounds (slice_index s.words 0) w
      → Rule named bounds record { words = s.words; homes = s.homes; views = set s.views id w }
  stays s r id v w seat same lines next past = steps named bounds s r id v w r.book s.words s.homes seat same r.words r.slots
      (λ q one most. lies_same named s s.words s.homes (set s.views id w) q refl refl (r.book q).holder (r.book q).journal (r.book q).blocks (r.stands q one most))
      (λ q. moves_none v.number (r.book q))
      (λ q. ap (λ (ls : List Line). (line_in ls q).note) lines ∙ r.notes id v seat q ∙ ap (note_on (r.book q)) (sym same.number))
      (subst (λ (ls : List Line). (q : ℕ) → Knows w.number (r.book q) (line_in ls q)) (sym lines)
      (subst (λ (n : ℕ). (q : ℕ) → Knows n (r.book q) (line_in v.lines q)) (sym same.number) (r.seen id v seat)))
      r.drawn next (le_refl (slice_index s.words 0)) past

  -- a partition that the seat holds from now on, or not any more
  pub stands_at : (s : State (Option X) View) (r : Rule named bounds s) (id : ℕ) (v w : View) (p n : ℕ) (h : maybe.Option (Option X)) (st : Stand) → IsSeat s.views id v → IsSame v w → 1 ≤ p → p ≤ bounds.partitions
      → Stands named record { words = set s.words p n; homes = set s.homes p h; views = set s.views id w } p st → Moves v.number (r.book p) st → st.blocks ≡ (r.book p).blocks
      → w.pending ≡ v.pending → w.past ≡ v.past → HasNotes (put r.book p st) w → HasSeen (put r.book p st) w
      → Rule named bounds record { words = set s.words p n; homes = set s.homes p h; views = set s.views id w }
  stands_at s r id v w p n h st seat same one most own moves blocks pending past notes seen =
      let zero_there : slice_index (set s.words p n) 0 ≡ slice_index s.words 0 = get_or-set_other s.words p 0 n 0 (λ e. omega arith) in
      let as_pending : one_if_pending w ≡ one_if_pending v = ap₂ (λ (a b : Bool). cond a 0 (cond b 1 0)) (same.live ∙ sym seat.1) pending in
      steps named bounds s r id v w (put r.book p st) (set s.words p n) (set s.homes p h) seat same
      (length-set s.words p n ∙ r.words) (length-set s.homes p h ∙ r.slots)
      (put_each (λ q x. 1 ≤ q → q ≤ bounds.partitions → Stands named record { words = set s.words p n; homes = set s.homes p h; views = set s.views id w } q x) r.book p st
      (λ _ _. own)
      (λ q ne a b. lies_same named s (set s.words p n) (set s.homes p h) (set s.views id w) q (get_or-set_other s.words p q n 0 ne) (set_else s.homes p q h ne)
      (r.book q).holder (r.book q).journal (r.book q).blocks (r.stands q a b)))
      (moves_put v.number r.book p st moves) notes seen
      (drawn_same (λ q. (r.book q).blocks) (λ q. (put r.book p st q).blocks) bounds (slice_index s.words 0) (slice_index (set s.words p n) 0)
      (put_each (λ q x. x.blocks ≡ (r.book q).blocks) r.book p st blocks (λ q _. refl)) zero_there r.drawn)
      (let t = total-set one_if_pending s.views id v w seat.0 in let b = r.next in omega arith)
      (let z = zero_there in omega arith)
      (λ m is. let k = r.past id v seat m (sym past ∙ is) in (k.0, let z = zero_there in omega (arith, k.1)))

  wins : (s : State (Option X) View) (r : Rule named bounds s) (id : ℕ) (v : View) (c : List (ℕ × Option X)) (p : ℕ) → IsSeat s.views id v → 1 ≤ p → p ≤ bounds.partitions
      → (r.book p).holder ≡ None → (home : IsHome named s p (r.book p).journal (r.book p).blocks)
      → Rule named bounds (stepped s p (v.number + 1) id c (noted v p (note_from (named home.value))) (takes p (Some home.value)))
  wins s r id v c p seat one most free home =
      let st : Stand = record { holder = Some v.number; journal = (r.book p).journal; blocks = (r.book p).blocks } in
      let note : Note = note_from (named home.value) in
      let same_note : note ≡ record { journal = st.journal; blocks = st.blocks } = ap note_from home.seen in
      let w : View = noted v p note in
      let line : Line = record { partition = p; seen = seen_of v p; mine = mine_of v p; note = Some note } in
      stands_at s r id v w p (v.number + 1) none st seat record { live = seat.1; number = refl; made = refl; joined = refl; bounds = refl } one most
      record {
        word = get_or-set_same s.words p (v.number + 1) 0 (let l = r.words in omega arith);
        slot = set_here s.homes p none (let l = r.slots in omega arith);
      }
      record {
        holds = λ u e. inl (sym (same_Some v.number u e));
        notes = λ u ne. note_else (record { journal = st.journal; blocks = st.blocks }) v.number u ne
            ∙ sym (ap (λ (o : Option ℕ). note_for o (record { journal = st.journal; blocks = st.blocks }) u) free);
        grows = starts_itself st.journal;
        others = λ u _. refl;
      }
      refl refl refl
      (notes_line r.book p st v w line refl refl refl (ap Some same_note ∙ sym (note_itself (record { journal = st.journal; blocks = st.blocks }) v.number)) (r.notes id v seat))
      (seen_line r.book p st v w line refl refl refl (r.seen id v seat p).0 (r.seen id v seat p).1 (r.seen id v seat))

  loses : (s : State (Option X) View) (r : Rule named bounds s) (id : ℕ) (v : View) (c : List (ℕ × Option X)) (p t : ℕ) → IsSeat s.views id v
      → Rule named bounds (stepped s p (slice_index s.words p) id c (looked_at v p t) keeps)
  loses s r id v c p t seat =
      subst (λ (ws : List ℕ). Rule named bounds record { words = ws; homes = s.homes; views = set s.views id (looked_at v p t) }) (sym (set-get_or s.words p 0))
      (stays s r id v (looked_at v p t) seat record { live = seat.1; number = refl; made = refl; joined = refl; bounds = refl } refl
      (let h = total-set one_if_pending s.views id v (looked_at v p t) seat.0 in let b = r.next in omega arith) (r.past id v seat))

  -- who holds the partition, where it is not the seat
  another : (s : State (Option X) View) (r : Rule named bounds s) (id : ℕ) (v : View) (p t : ℕ) → IsSeat s.views id v → note_of v p ≡ None → (r.book p).holder ≡ Some t → t ≢ v.number
  another s r id v p t seat free held e =
      let note : Note = record { journal = (r.book p).journal; blocks = (r.book p).blocks } in
      none-some note (sym free ∙ r.notes id v seat p ∙ ap (λ (o : Option ℕ). note_for o note v.number) (held ∙ ap Some e) ∙ note_itself note v.number)

  few_seats : (s : State (Option X) View) (r : Rule named bounds s) (p t : ℕ) → (r.book p).holder ≡ Some t → t ≤ 65534
  few_seats s r p t held = let q = r.holders p t held in let rank = (r.ranks q.0 q.1 q.2).2 in let few = r.roster.few in let e = q.3 in omega arith

  pub claims_allowed : (slots id : ℕ) (v : View) (c : List (ℕ × Option X)) (p : ℕ) (said : maybe.Option (Option X)) → v.spent ≡ false → 1 ≤ p → p ≤ bounds.partitions → note_of v p ≡ None
      → Allows (Rule named bounds) slots id (v, c) p (λ n. either (eqb n 0) (v.number + 1) n) (claims named (step slots p 0 (v.number + 1) said) (v, c))
  claims_allowed slots id v c p said live one most free s r wide at small =
      let n : ℕ = slice_index s.words p in let seat : IsSeat s.views id v = (at, live) in
      exchanged n 0 (v.number + 1)
      (λ m. (w : View) × (a : Act (Option X)) × Valid s.homes c a × Rule named bounds (stepped s p m id c w a) × claims named (step slots p 0 (v.number + 1) said) (v, c) n (w, carried_after c a))
      (λ hit.
      let found = home_of named s p (r.book p).holder (r.book p).journal (r.book p).blocks (r.stands p one most) hit in
      let home : IsHome named s p (r.book p).journal (r.book p).blocks = found.1 in let x : X = home.value in
      let journal : (named x).journal ≡ (r.book p).journal = ap (λ (y : Named). y.journal) home.seen in (
        noted v p (note_from (named x)),
        takes p (Some x),
        home.slot,
        wins s r id v c p seat one most found.0 home,
        (
          (λ _. record {
            value = x;
            number = ap (λ (y : Named). y.number) home.seen;
            free = ap (λ (y : Named). y.holder) home.seen;
            seen = subst (λ (j : List Entry). StartsWith j (seen_of v p)) (sym journal) (r.seen id v seat p).0;
            mine = (r.seen id v seat p).1 ∙ ap (only v.number) (sym journal);
            view = refl;
            slots = refl;
          }),
          λ miss. absurd (miss hit),
        ),
      ))
      (λ miss.
      let found = out_of named s p (r.book p).holder (r.book p).journal (r.book p).blocks (r.stands p one most) miss in let t : ℕ = found.0 in (
        looked_at v p t,
        keeps,
        tt,
        loses s r id v c p t seat,
        (
          (λ hit. absurd (miss hit)),
          λ _. record { holder = t; read = found.2.word; other = another s r id v p t seat free found.1; few = few_seats s r p t found.1; view = refl; slots = refl },
        ),
      ))
