-- A seat of the table between two calls, and what the steps of a call make of it.
use Rattle.std.proofs.Common.{◌≡◌, ℕ, false, List, [], ◌∷◌, ◌++◌, ap, sym, subst, refl, ◌∙◌, inr}
use Rattle.std.specs.Prelude.{Option, Some, None, Result, Ok, Err}
use Rattle.std.proofs.lemmas.Option.{same_Some, none-some}
use native.Mathlib.Decide.{ℕ_discrete}
use Rattle.pk_base.specs.declared.act.Entry.{Entry}
use Rattle.pk_base.specs.declared.act.Entry.TheVariants.{Claimed}
use Rattle.pk_model.specs.Modelling.{Modelling}
use Rattle.pk_model.specs.Replay.{replay}
use Rattle.pk_model.specs.State.{PartitionState}
use Rattle.partition.specs.Partition.{PartitionView, Appends, Stays}
use Rattle.session_table.specs.declared.view.Note.{Note}
use Rattle.session_table.specs.declared.view.View.{View}
use Rattle.session_table.specs.declared.seat.Seat.{Seat}
use Rattle.session_table.specs.declared.table.SessionTable.{SessionTable}
use Rattle.session_table.specs.Named.{Named}
use Rattle.session_table.specs.Seats.{note_of}
use Rattle.session_table.specs.Slots.{in_slot, Fits}
use Rattle.session_table.specs.Faces.{Face, face, view_of, name_of, session_of, IsSeatOf, IsSameSeat}
use Rattle.session_table.specs.Calls.{with_slot, slot_here, slot_there, IsFilled, IsNotedBy, HasWon, HasLost, TakesOut, PutsIn, LetsGo}
use Rattle.session_table.specs.Steps.{noted, looked_at, let_go, passed, drew}
use Rattle.pk_session.specs.Inside.{named_of, AreEmpty, IsBetweenCalls}
use Rattle.pk_session.specs.declared.locks.LockNo.{LockNo}
use Rattle.pk_session.specs.declared.locks.LockNo.TheVariants.{NoPartition, AlreadyYours, HeldBy, NoMemory}
use Rattle.pk_session.specs.Slots.{IsAtRest, IsFoundBy, HasTaken, HasReturned, HasMissed, Takes, WritesClaim}
use Rattle.pk_session.proofs.Entries.{claimed_is}

-- ---- slots

emptied_by : (old : ℕ → Option (Option Named)) (p : ℕ) (y z : Option (Option Named)) → ((slot : Option Named) → z ≡ Some slot → slot ≡ None) → AreEmpty old → AreEmpty (with_slot (with_slot old p y) p z)
emptied_by old p y z fine empty q slot is = elim (ℕ_discrete p q) as (λ _. slot ≡ None) [
  | yes e ↦ fine slot (sym (slot_here (with_slot old p y) p q z e) ∙ is)
  | no ne ↦ empty q slot (sym (slot_there (with_slot old p y) p q z ne ∙ slot_there old p q y ne) ∙ is)
]

pub gone_is_fine : (slot : Option Named) → None ≡ Some slot → slot ≡ None
gone_is_fine slot e = absurd (none-some slot e)

out_is_fine : (slot : Option Named) → Some None ≡ Some slot → slot ≡ None
out_is_fine slot e = sym (same_Some None slot e)

-- a slot on which the seat has a note is empty
pub noted_empty : (v : View) (slots : List (ℕ × Option PartitionView)) (p : ℕ) (note : Note) → IsBetweenCalls v slots → note_of v p ≡ Some note → in_slot named_of slots p ≡ Some None
noted_empty v slots p note b is =
    let fit = subst (λ (o : Option Note). Fits v.number p o (in_slot named_of slots p)) is (b.carries.fits p) in
    elim (in_slot named_of slots p) as (λ o. in_slot named_of slots p ≡ o → Fits v.number p (Some note) o → in_slot named_of slots p ≡ Some None) [
      | None ↦ λ e f. absurd f
      | Some slot ↦ λ e f. e ∙ ap Some (b.empty p slot e)
    ] refl fit

module _ (table : SessionTable PartitionView) where
  pub is_seat : (seat : Seat PartitionView) → IsAtRest table seat → IsSeatOf named_of table seat
  is_seat seat r = record { session = ap (λ n. n.table) r.session; bounds = ap (λ n. n.bounds) r.session; carries = r.between.carries }

  pub named_session : (seat : Seat PartitionView) → IsSeatOf named_of table seat → session_of seat ≡ name_of table
  named_session seat h = λ i. record { table = h.session i; bounds = h.bounds i }

  -- the same seat, which has taken memory
  pub rests_on : (old new : Seat PartitionView) → IsSameSeat old new → IsAtRest table old → IsAtRest table new
  rests_on old new same r = record {
    session = (λ i. record { table = same.session i; bounds = (same.knows i).0.bounds }) ∙ r.session;
    between = subst (λ m. IsBetweenCalls m.0 m.1) (sym same.knows) r.between;
  }

  -- the seat has its slots as empty as they were, and knows something else
  pub rests : (new : Seat PartitionView) (f : Face) → IsSeatOf named_of table new → face named_of new ≡ f → f.view.pending ≡ false → AreEmpty f.slots → IsAtRest table new
  rests new f is same calm empty = record {
    session = named_session new is;
    between = record {
      calm = ap (λ (g : Face). g.view.pending) same ∙ calm;
      carries = is.carries;
      empty = subst (λ (g : Face). AreEmpty g.slots) (sym same) empty;
    };
  }

  -- ---- a partition is put back

  pub put_is_filled : (old new : Face) (p : ℕ) (x : Named) → PutsIn old p x new → IsFilled new p
  put_is_filled old new p x is = (x, ap (λ (f : Face). f.slots p) is ∙ slot_here old.slots p p (Some (Some x)) refl)

  left_is : (old put new : Face) (p : ℕ) (x : Named) → PutsIn old p x put → (lets : LetsGo put p new) → lets.left ≡ x
  left_is old put new p x is lets =
      same_Some lets.left x (same_Some (Some lets.left) (Some x) (sym lets.was ∙ ap (λ (f : Face). f.slots p) is ∙ slot_here old.slots p p (Some (Some x)) refl))

  pub left_rests : (old put new : Seat PartitionView) (p : ℕ) (x : Named) → IsAtRest table old → PutsIn (face named_of old) p x (face named_of put) → LetsGo (face named_of put) p (face named_of new) → IsSeatOf named_of table new → IsAtRest table new
  left_rests old put new p x r is lets seat =
      rests new record { view = let_go (view_of put) p lets.left.journal; slots = with_slot (with_slot (face named_of old).slots p (Some (Some x))) p None } seat
      (lets.seat ∙ (λ i. record { view = let_go (view_of put) p lets.left.journal; slots = with_slot (is i).slots p None }))
      (ap (λ (f : Face). f.view.pending) is ∙ r.between.calm)
      (emptied_by (face named_of old).slots p (Some (Some x)) None gone_is_fine r.between.empty)

  pub left_view : (old put new : Face) (p : ℕ) (x : Named) → PutsIn old p x put → LetsGo put p new → new.view ≡ let_go old.view p x.journal
  left_view old put new p x is lets =
      ap (λ (f : Face). f.view) lets.seat
      ∙ (λ i. let_go (is i).view p (left_is old put new p x is lets i).journal)

  -- ---- a partition is claimed

  pub won_is_filled : (old new : Face) (p : ℕ) → HasWon old p new → IsFilled new p
  won_is_filled old new p has =
      let x : Named = record { number = p; holder = None; blocks = has.note.blocks; journal = has.note.journal } in
      (x, ap (λ (f : Face). f.slots p) has.seat ∙ slot_here old.slots p p (Some (Some x)) refl)

  -- what was taken out is what the claim found
  pub taken_is : (old won out : Face) (p : ℕ) (x : Named) → (has : HasWon old p won) → TakesOut won p x out → x ≡ record { number = p; holder = None; blocks = has.note.blocks; journal = has.note.journal }
  taken_is old won out p x has takes =
      let y : Named = record { number = p; holder = None; blocks = has.note.blocks; journal = has.note.journal } in
      same_Some x y (same_Some (Some x) (Some y) (sym takes.was ∙ ap (λ (f : Face). f.slots p) has.seat ∙ slot_here old.slots p p (Some (Some y)) refl))

  pub taken_view : (old won out : Face) (p : ℕ) (x : Named) → (has : HasWon old p won) → TakesOut won p x out → out.view ≡ noted old.view p has.note
  taken_view old won out p x has takes = ap (λ (f : Face). f.view) takes.seat ∙ ap (λ (f : Face). f.view) has.seat

  pub taken_rests : (old won out : Seat PartitionView) (p : ℕ) (x : Named) → IsAtRest table old → (has : HasWon (face named_of old) p (face named_of won)) → TakesOut (face named_of won) p x (face named_of out) → IsSeatOf named_of table out → IsAtRest table out
  taken_rests old won out p x r has takes seat =
      let y : Named = record { number = p; holder = None; blocks = has.note.blocks; journal = has.note.journal } in
      let w : View = noted (view_of old) p has.note in
      rests out record { view = w; slots = with_slot (with_slot (face named_of old).slots p (Some (Some y))) p (Some None) } seat
      (takes.seat ∙ (λ i. record { view = (has.seat i).view; slots = with_slot (has.seat i).slots p (Some None) }))
      r.between.calm
      (emptied_by (face named_of old).slots p (Some (Some y)) (Some None) out_is_fine r.between.empty)

  pub missed_rests : (old new : Seat PartitionView) (p holder : ℕ) → IsAtRest table old → HasLost (face named_of old) p holder (face named_of new) → IsSeatOf named_of table new → IsAtRest table new
  missed_rests old new p holder r has seat =
      rests new record { view = looked_at (view_of old) p holder; slots = (face named_of old).slots } seat has.seat r.between.calm r.between.empty

  -- ---- a block is drawn

  pub passed_rests : (old new : Seat PartitionView) (v : View) (next : ℕ) → IsAtRest table old → face named_of new ≡ record { view = passed v next; slots = (face named_of old).slots } → IsSeatOf named_of table new → IsAtRest table new
  passed_rests old new v next r is seat = rests new record { view = passed v next; slots = (face named_of old).slots } seat is refl r.between.empty

  pub drew_rests : (old new : Seat PartitionView) (v : View) (p : ℕ) (note : Note) (block : ℕ) → IsAtRest table old → face named_of new ≡ record { view = drew v p note block; slots = (face named_of old).slots } → IsSeatOf named_of table new → IsAtRest table new
  drew_rests old new v p note block r is seat = rests new record { view = drew v p note block; slots = (face named_of old).slots } seat is refl r.between.empty

  -- ---- a claim, as a whole

  -- a partition of which nothing has changed is one on which the seat has its note
  pub stays_noted : (v : View) (y x : PartitionView) → Stays y x → IsNotedBy v y.number (named_of y) → IsNotedBy v x.number (named_of x)
  stays_noted v y x stays noted =
      let is : named_of x ≡ named_of y = λ i. record { number = stays.number i; holder = (stays.state i).holder; blocks = (stays.state i).blocks; journal = stays.journal i } in
      subst (λ (n : Named). IsNotedBy v n.number n) (sym is) noted

  module _ (K : Modelling) (old mid won out : Seat PartitionView) (p : ℕ) (y : PartitionView) (same : IsSameSeat old mid) (has : HasWon (face named_of mid) p (face named_of won)) (takes : TakesOut (face named_of won) p (named_of y) (face named_of out)) where
    out_view : view_of out ≡ noted (view_of old) p has.note
    out_view = taken_view (face named_of mid) (face named_of won) (face named_of out) p (named_of y) has takes ∙ (λ i. noted (same.knows i).0 p has.note)

    out_number : (view_of out).number ≡ (view_of old).number
    out_number = ap (λ (v : View). v.number) out_view

    is_taken : named_of y ≡ record { number = p; holder = None; blocks = has.note.blocks; journal = has.note.journal }
    is_taken = taken_is (face named_of mid) (face named_of won) (face named_of out) p (named_of y) has takes

    found_by : IsFoundBy (view_of old) p has.note
    found_by = subst (λ m. IsFoundBy m.0 p has.note) same.knows record { seen = has.seen; mine = has.mine }

    -- nobody holds what was taken out
    pub taken_free : y.state.holder ≡ None
    taken_free = ap (λ (n : Named). n.holder) is_taken

    pub taken_number : y.number ≡ p
    taken_number = ap (λ (n : Named). n.number) is_taken

    -- the claim was written down
    has_taken : (x : PartitionView) (new : Seat PartitionView) → Appends K y (Claimed (view_of out).number) None x → replay K x.number x.journal ≡ Some x.state → view_of new ≡ view_of out → HasTaken K (view_of old) p x (view_of new)
    has_taken x new appends replays stays =
        let s : ℕ = (view_of old).number in
        let state : x.state ≡ record y.state { holder = Some (view_of out).number } = claimed_is K y.state (view_of out).number (record { state = x.state; answer = None }) appends.steps in
        let number : x.number ≡ p = appends.number ∙ taken_number in record {
          note = has.note;
          begins = found_by;
          number = number;
          holder = ap (λ (t : PartitionState). t.holder) state ∙ ap Some out_number;
          journal = appends.journal ∙ ap (λ (j : List Entry). j ++ Claimed (view_of out).number ∷ []) (ap (λ (n : Named). n.journal) is_taken)
              ∙ ap (λ (k : ℕ). has.note.journal ++ Claimed k ∷ []) out_number;
          blocks = ap (λ (t : PartitionState). t.blocks) state ∙ ap (λ (n : Named). n.blocks) is_taken;
          replays = subst (λ (k : ℕ). replay K k x.journal ≡ Some x.state) number replays;
          view = stays ∙ out_view;
        }

    -- the partition is one on which the seat has its note
    pub taken_noted : IsNotedBy (view_of out) y.number (named_of y)
    taken_noted =
        subst (λ (k : ℕ). IsNotedBy (view_of out) k (named_of y)) (sym taken_number)
        (subst (λ (v : View). IsNotedBy v p (named_of y)) (ap (λ (f : Face). f.view) (sym takes.seat)) takes.noted)

    has_returned : (new : Seat PartitionView) → view_of new ≡ let_go (view_of out) y.number y.journal → HasReturned (view_of old) p (view_of new)
    has_returned new view = record {
      note = has.note;
      begins = found_by;
      view = view ∙ (λ i. let_go (out_view i) (taken_number i) ((is_taken i).journal));
    }

    -- whether the claim was written down or not
    pub takes_by : (result : Result PartitionView LockNo) (new : Seat PartitionView) → WritesClaim K (view_of out) y result (view_of new) → Takes K (view_of old) p result (view_of new)
    takes_by (Ok x) new w = has_taken x new w.claimed w.replays w.view
    takes_by (Err (NoPartition q)) new w = absurd w
    takes_by (Err (AlreadyYours q)) new w = absurd w
    takes_by (Err (HeldBy holder)) new w = absurd w
    takes_by (Err NoMemory) new w = inr (has_returned new w)

  -- the claim has read another seat's number
  pub has_missed : (old mid new : Seat PartitionView) (p holder : ℕ) → IsSameSeat old mid → HasLost (face named_of mid) p holder (face named_of new) → HasMissed (view_of old) p holder (view_of new)
  has_missed old mid new p holder same has = record {
    other = λ e. has.other (e ∙ ap (λ m. m.0.number) (sym same.knows));
    few = has.few;
    view = ap (λ (f : Face). f.view) has.seat ∙ (λ i. looked_at (same.knows i).0 p holder);
  }
