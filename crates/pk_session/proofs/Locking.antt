-- What a lock and an unlock make of a seat.
use Rattle.std.proofs.Common.{◌≡◌, ◌⊎◌, ℕ, ◌+◌, false, List, [], ◌∷◌, ◌++◌, ap, sym, subst, refl, ◌∙◌, inl, inr, append_assoc, arith}
use Rattle.std.specs.Prelude.{Option, Some, None, Err, is_some}
use Rattle.std.proofs.lemmas.List.{append-nil}
use Rattle.pk_base.specs.declared.act.Entry.{Entry}
use Rattle.pk_base.specs.declared.act.Entry.TheVariants.{Claimed, Released}
use Rattle.pk_model.specs.Modelling.{Modelling}
use Rattle.partition.specs.Partition.{PartitionView}
use Rattle.session_table.specs.declared.view.Line.{Line}
use Rattle.session_table.specs.declared.view.Note.{Note}
use Rattle.session_table.specs.declared.view.View.{View}
use Rattle.session_table.specs.declared.seat.Seat.{Seat}
use Rattle.session_table.specs.declared.table.SessionTable.{SessionTable}
use Rattle.session_table.specs.Entries.{only, AreAll, Continues, thread_of}
use Rattle.session_table.specs.Names.{SessionName}
use Rattle.session_table.specs.Seats.{line_in, seen_of, mine_of, note_of, line_here, line_there}
use Rattle.session_table.specs.Faces.{view_of, session_of}
use Rattle.session_table.specs.Calls.{IsNotedBy}
use Rattle.session_table.specs.Steps.{noted, looked_at, let_go}
use Rattle.pk_session.specs.Views.{SeatView, HeldView, IsPartitionOf, KeepsOthers}
use Rattle.pk_session.specs.Inside.{named_of}
use Rattle.pk_session.specs.declared.locks.LockNo.{LockNo}
use Rattle.pk_session.specs.declared.locks.LockNo.TheVariants.{NoPartition, AlreadyYours, HeldBy, NoMemory}
use Rattle.pk_session.specs.Slots.{IsAtRest, HasTaken, HasReturned, HasMissed, Takes}
use Rattle.pk_session.specs.Holding.{IsHeldBy}
use Rattle.pk_session.specs.Locks.{HasLocked, IsHeldByAnother, HasGivenBack, HasWaited, HasUnlocked, TriesLock}

pub none_from_not : {X : Type 0} (o : Option X) → is_some o ≡ false → o ≡ None
none_from_not None e = refl
none_from_not (Some x) e = absurd (cc)

-- a seat of the table as contracts see a seat
abbrev pub seen_as : Seat PartitionView → SeatView
seen_as s = record { session = session_of s; view = view_of s }

-- the seat after a call, which is of the same session
pub same_but_view : (table : SessionTable PartitionView) (old new : Seat PartitionView) (w : View) → IsAtRest table old → IsAtRest table new → view_of new ≡ w → seen_as new ≡ record { session = session_of old; view = w }
same_but_view table old new w before after is = λ i. record { session = (after.session ∙ sym before.session) i; view = is i }

abbrev noted_line : View → ℕ → Note → Line
noted_line v p note = record { partition = p; seen = seen_of v p; mine = mine_of v p; note = Some note }

pub noted_here : (v : View) (p : ℕ) (note : Note) → note_of (noted v p note) p ≡ Some note
noted_here v p note = ap (λ (l : Line). l.note) (line_here (noted_line v p note) v.lines p refl)

abbrev left_line : View → ℕ → List Entry → Line
left_line v p journal = record { partition = p; seen = journal; mine = only v.number journal; note = None }

pub left_here : (v : View) (p : ℕ) (journal : List Entry) → line_in (let_go v p journal).lines p ≡ record { partition = p; seen = journal; mine = only v.number journal; note = None }
left_here v p journal = line_here (left_line v p journal) v.lines p refl

pub left_others : (v : View) (p : ℕ) (journal : List Entry) → KeepsOthers v p (let_go v p journal)
left_others v p journal q ne = line_there (left_line v p journal) v.lines q (λ e. ne (sym e))

pub noted_others : (v : View) (p : ℕ) (note : Note) → KeepsOthers v p (noted v p note)
noted_others v p note q ne = line_there (noted_line v p note) v.lines q (λ e. ne (sym e))

module _ (table : SessionTable PartitionView) (old new : Seat PartitionView) (before : IsAtRest table old) (after : IsAtRest table new) where
  pub locked : (K : Modelling) (p : ℕ) (x : PartitionView) (of : SessionName) → IsPartitionOf (session_of old) p → note_of (view_of old) p ≡ None → of ≡ session_of new
      → HasTaken K (view_of old) p x (view_of new) → HasLocked K (seen_as old) p (record { session = of; partition = x }) (seen_as new)
  locked K p x of within free is t =
      let s : ℕ = (view_of old).number in let same : (view_of new).number ≡ s = ap (λ (v : View). v.number) t.view in record {
        within = within;
        free = free;
        found = t.note.journal;
        begins = record { seen = t.begins.seen; mine = t.begins.mine };
        number = t.number;
        journal = t.journal;
        replays = t.replays;
        holds = record {
          session = is;
          holder = t.holder ∙ ap Some (sym same);
          note = t.note;
          noted = ap (λ (v : View). note_of v x.number) t.view ∙ ap (note_of (noted (view_of old) p t.note)) t.number ∙ noted_here (view_of old) p t.note;
          journal = subst (λ (n : ℕ). Continues n (t.note.journal ++ Claimed n ∷ []) x.journal) (sym same) ([], t.journal ∙ sym (append-nil (t.note.journal ++ Claimed s ∷ [])), tt);
          blocks = t.blocks;
        };
        note = refl;
        seat = same_but_view table old new (noted (view_of old) p t.note) before after t.view;
      }

  missed : (p holder : ℕ) → IsPartitionOf (session_of old) p → note_of (view_of old) p ≡ None → HasMissed (view_of old) p holder (view_of new) → IsHeldByAnother (seen_as old) p holder (seen_as new)
  missed p holder within free m = record {
    within = within;
    free = free;
    other = m.other;
    few = m.few;
    seat = same_but_view table old new (looked_at (view_of old) p holder) before after m.view;
  }

  given_back : (p : ℕ) → HasReturned (view_of old) p (view_of new) → HasGivenBack (seen_as old) p (seen_as new)
  given_back p r =
      let v : View = view_of old in let w : View = noted v p r.note in let here = left_here w p r.note.journal in record {
        note = r.note;
        begins = record { seen = r.begins.seen; mine = r.begins.mine };
        seen = ap (λ (u : View). seen_of u p) r.view ∙ ap (λ (l : Line). l.seen) here;
        mine = ap (λ (u : View). mine_of u p) r.view ∙ ap (λ (l : Line). l.mine) here ∙ sym r.begins.mine;
        gone = ap (λ (u : View). note_of u p) r.view ∙ ap (λ (l : Line). l.note) here;
        others = λ q ne. ap (λ (u : View). line_in u.lines q) r.view ∙ left_others w p r.note.journal q ne ∙ noted_others v p r.note q ne;
        seat = same_but_view table old new (let_go w p r.note.journal) before after r.view;
      }

  no_room : (p : ℕ) → (view_of new ≡ view_of old) ⊎ HasReturned (view_of old) p (view_of new) → (seen_as new ≡ seen_as old) ⊎ HasGivenBack (seen_as old) p (seen_as new)
  no_room p (inl is) = inl (same_but_view table old new (view_of old) before after is)
  no_room p (inr r) = inr (given_back p r)

  -- a claim that was not won
  pub not_locked : (K : Modelling) (p : ℕ) (no : LockNo) → IsPartitionOf (session_of old) p → note_of (view_of old) p ≡ None → Takes K (view_of old) p (Err no) (view_of new) → TriesLock K (seen_as old) p (Err no) (seen_as new)
  not_locked K p (NoPartition q) within free t = absurd t
  not_locked K p (AlreadyYours q) within free t = absurd t
  not_locked K p (HeldBy holder) within free t = missed p holder within free t
  not_locked K p NoMemory within free t = record { within = within; free = free; seat = no_room p t }

  pub unlocked : (h : HeldView) (x : PartitionView) → x.number ≡ h.partition.number → x.journal ≡ h.partition.journal ++ Released (view_of old).number ∷ [] → view_of new ≡ let_go (view_of old) x.number x.journal → HasUnlocked (seen_as old) h (seen_as new)
  unlocked h x number journal view =
      let v : View = view_of old in let p : ℕ = h.partition.number in let j : List Entry = h.partition.journal ++ Released v.number ∷ [] in
      let is : view_of new ≡ let_go v p j = view ∙ (λ i. let_go v (number i) (journal i)) in let here = left_here v p j in
      let seen : seen_of (view_of new) p ≡ j = ap (λ (u : View). seen_of u p) is ∙ ap (λ (l : Line). l.seen) here in record {
        seen = seen;
        mine = ap (λ (u : View). mine_of u p) is ∙ ap (λ (l : Line). l.mine) here ∙ ap (only v.number) (sym seen);
        gone = ap (λ (u : View). note_of u p) is ∙ ap (λ (l : Line). l.note) here;
        others = λ q ne. ap (λ (u : View). line_in u.lines q) is ∙ left_others v p j q ne;
        seat = same_but_view table old new (let_go v p j) before after is;
      }

-- ---- further entries of the holder

all_and : (s : ℕ) (own : List Entry) (e : Entry) → AreAll s own → thread_of e ≡ s → AreAll s (own ++ e ∷ [])
all_and s [] e h is = (is, tt)
all_and s (x ∷ xs) e h is = (h.0, all_and s xs e h.1 is)

pub continues_and : (s : ℕ) (earlier journal : List Entry) (e : Entry) → Continues s earlier journal → thread_of e ≡ s → Continues s earlier (journal ++ e ∷ [])
continues_and s earlier journal e (own, is, all) by = (own ++ e ∷ [], ap (λ (l : List Entry). l ++ e ∷ []) is ∙ append_assoc earlier own (e ∷ []), all_and s own e all by)

-- the held partition, once it is released, is one on which the seat has its note
pub released_noted : (s : SeatView) (h : HeldView) (x : PartitionView) → IsHeldBy s h → x.number ≡ h.partition.number → x.state.holder ≡ None → x.state.blocks ≡ h.partition.state.blocks
    → x.journal ≡ h.partition.journal ++ Released s.view.number ∷ [] → IsNotedBy s.view x.number (named_of x)
released_noted s h x held number free blocks journal =
    let n : ℕ = s.view.number in let note : Note = held.note in (
      note,
      ap (note_of s.view) number ∙ held.noted,
      record {
        number = refl;
        free = free;
        blocks = blocks ∙ held.blocks;
        journal =
            let c = continues_and n (note.journal ++ Claimed n ∷ []) h.partition.journal (Released n) held.journal refl in
            (Claimed n ∷ c.0, journal ∙ c.1 ∙ append_assoc note.journal (Claimed n ∷ []) c.0, (refl, c.2));
      },
    )

-- ---- a lock that waits

pub waits_none : (old : SeatView) → HasWaited old old
waits_none old = record { looks = omega arith; seat = refl }

pub waits_more : (old mid new : SeatView) (p holder : ℕ) → HasWaited old mid → IsHeldByAnother mid p holder new → HasWaited old new
waits_more old mid new p holder w m = record {
  looks = let a = w.looks in let b : new.view.looks ≡ mid.view.looks + 1 = ap (λ (s : SeatView). s.view.looks) m.seat in omega arith;
  seat = λ i. record {
    session = (ap (λ (s : SeatView). s.session) m.seat ∙ ap (λ (s : SeatView). s.session) w.seat) i;
    view = (same_but_looks i);
  };
}
  where
    same_but_looks : new.view ≡ record old.view { looks = new.view.looks; looked = new.view.looked }
    same_but_looks =
        ap (λ (s : SeatView). record s.view { looks = new.view.looks; looked = new.view.looked }) m.seat
        ∙ ap (λ (s : SeatView). record s.view { looks = new.view.looks; looked = new.view.looked }) w.seat
