-- What a seat holds, after each call.
use Rattle.std.proofs.Common.{◌≡◌, ◌≢◌, ℕ, Bool, cond, ◌++◌, [], ◌∷◌, ap, sym, subst, ◌∙◌, ⊎_elim, arith, eq-eqb, ne_eqb}
use Rattle.std.specs.Prelude.{Option, Some, None, IsSome, IfOk, is_some, ◌==◌, Result, Ok, Err}
use native.Mathlib.Decide.{ℕ_discrete}
use Rattle.pk_base.specs.declared.act.Entry.TheVariants.{Claimed}
use Rattle.pk_model.specs.Modelling.{Modelling}
use Rattle.session_table.specs.declared.view.Joined.{Joined}
use Rattle.session_table.specs.declared.view.Line.{Line}
use Rattle.session_table.specs.declared.view.Note.{Note}
use Rattle.session_table.specs.declared.view.View.{View}
use Rattle.session_table.specs.Entries.{Continues}
use Rattle.session_table.specs.Names.{SessionName}
use Rattle.session_table.specs.Seats.{line_there, seen_of, mine_of, note_of, joined_as}
use Rattle.session_table.specs.Steps.{joined_by}
use Rattle.session_table.specs.Ends.{HasJoinedAll}
use Rattle.pk_session.specs.declared.locks.LockNo.{LockNo}
use Rattle.pk_session.specs.declared.locks.LockNo.TheVariants as lock
use Rattle.pk_session.specs.declared.draws.DrawNo.{DrawNo}
use Rattle.pk_session.specs.declared.draws.DrawNo.TheVariants as draw
use Rattle.pk_session.specs.Views.{SeatView, HeldView, KeepsOthers}
use Rattle.pk_session.specs.Holding.{IsHeldBy}
use Rattle.pk_session.specs.Locks.{TriesLock, HasGivenBack, HasUnlocked}
use Rattle.pk_session.specs.Draws.{TriesDraw}
use Rattle.session_uses.specs.Idle.{IsIdle, HoldsOnly, KeepsNotes}

keeps_same : (old new : SeatView) → new ≡ old → KeepsNotes old new
keeps_same old new is = record { session = ap (λ s. s.session) is; number = ap (λ s. s.view.number) is; notes = λ q. ap (λ s. note_of s.view q) is }

-- where another partition's lines stand, and the note on this one is none as before
keeps_none : (old new : SeatView) (p : ℕ) → new.session ≡ old.session → new.view.number ≡ old.view.number → note_of old.view p ≡ None → note_of new.view p ≡ None → KeepsOthers old.view p new.view → KeepsNotes old new
keeps_none old new p session number was is others = record {
  session = session;
  number = number;
  notes = λ q. elim (ℕ_discrete q p) as (λ _. note_of new.view q ≡ note_of old.view q) [
    | yes e ↦ ap (note_of new.view) e ∙ is ∙ sym was ∙ ap (note_of old.view) (sym e)
    | no ne ↦ ap (λ (l : Line). l.note) (others q ne)
  ];
}

pub refused_keeps : (K : Modelling) (old : SeatView) (p : ℕ) (why : LockNo) (new : SeatView) → TriesLock K old p (Err why) new → KeepsNotes old new
refused_keeps K old p (lock.NoPartition q) new t = keeps_same old new t.2
refused_keeps K old p (lock.AlreadyYours q) new t = keeps_same old new t.3
refused_keeps K old p (lock.HeldBy holder) new t = record {
  session = ap (λ s. s.session) t.seat;
  number = ap (λ s. s.view.number) t.seat;
  notes = λ q. ap (λ s. note_of s.view q) t.seat;
}
refused_keeps K old p lock.NoMemory new t =
    ⊎_elim (keeps_same old new)
    (λ (g : HasGivenBack old p new). keeps_none old new p (ap (λ s. s.session) g.seat) (ap (λ s. s.view.number) g.seat) t.free g.gone g.others) t.seat

pub kept_only : (session : SessionName) (old new : SeatView) (h : HeldView) → KeepsNotes old new → HoldsOnly session old h → HoldsOnly session new h
kept_only session old new h keeps only = let held = only.held in record {
  session = keeps.session ∙ only.session;
  held = record {
    session = held.session ∙ sym keeps.session;
    holder = held.holder ∙ ap Some (sym keeps.number);
    note = held.note;
    noted = keeps.notes h.partition.number ∙ held.noted;
    journal = subst (λ (n : ℕ). Continues n (held.note.journal ++ Claimed n ∷ []) h.partition.journal) (sym keeps.number) held.journal;
    blocks = held.blocks;
  };
  others = λ q ne. keeps.notes q ∙ only.others q ne;
}

pub kept_idle : (session : SessionName) (old new : SeatView) → KeepsNotes old new → IsIdle session old → IsIdle session new
kept_idle session old new keeps idle = record { session = keeps.session ∙ idle.session; nothing = λ q. keeps.notes q ∙ idle.nothing q }

pub unlocked_idle : (session : SessionName) (old : SeatView) (h : HeldView) (new : SeatView) → HoldsOnly session old h → HasUnlocked old h new → IsIdle session new
unlocked_idle session old h new only u = record {
  session = ap (λ s. s.session) u.seat ∙ only.session;
  nothing = λ q. elim (ℕ_discrete q h.partition.number) as (λ _. note_of new.view q ≡ None) [
    | yes e ↦ ap (note_of new.view) e ∙ u.gone
    | no ne ↦ ap (λ (l : Line). l.note) (u.others q ne) ∙ only.others q ne
  ];
}

-- whatever a draw gives, the held partition is the seat's
pub draw_held : (K : Modelling) (old : SeatView) (had : HeldView) (result : Result ℕ DrawNo) (new : SeatView) (has : HeldView) → TriesDraw K old had result new has → IsHeldBy new has
draw_held K old had (Ok b) new has t = t.after
draw_held K old had (Err (draw.Spent next)) new has t = t.1.holds
draw_held K old had (Err draw.NoMemory) new has t = t.1.holds

-- a lock that was done
pub lock_holds : (K : Modelling) (session : SessionName) (old : SeatView) (p : ℕ) (result : Result HeldView LockNo) (new : SeatView) → IsIdle session old → new.session ≡ session → TriesLock K old p result new → IfOk result (HoldsOnly session new)
lock_holds K session old p (Ok h) new idle same t = record {
  session = same;
  held = t.holds;
  others = λ q ne.
      let line : Line = record { partition = p; seen = seen_of old.view p; mine = mine_of old.view p; note = Some t.holds.note } in
      ap (λ (s : SeatView). note_of s.view q) t.seat ∙ ap (λ (l : Line). l.note) (line_there line old.view.lines q (λ e. ne (sym e ∙ sym t.number))) ∙ idle.nothing q;
}
lock_holds K session old p (Err why) new idle same t = tt

pub lock_number : (K : Modelling) (old : SeatView) (p : ℕ) (result : Result HeldView LockNo) (new : SeatView) → TriesLock K old p result new → new.view.number ≡ old.view.number
lock_number K old p (Ok h) new t = ap (λ (s : SeatView). s.view.number) t.seat
lock_number K old p (Err why) new t = (refused_keeps K old p why new t).number

drawn_others : (session : SessionName) (old : SeatView) (had : HeldView) (new : SeatView) (has : HeldView) → has.partition.number ≡ had.partition.number → HoldsOnly session old had → new.session ≡ session → IsHeldBy new has
    → ((q : ℕ) → q ≢ had.partition.number → note_of new.view q ≡ note_of old.view q) → HoldsOnly session new has
drawn_others session old had new has number only same held notes =
    record { session = same; held = held; others = λ q ne. let other : q ≢ had.partition.number = λ (e : q ≡ had.partition.number). ne (e ∙ sym number) in notes q other ∙ only.others q other }

pub draw_only : (K : Modelling) (session : SessionName) (old : SeatView) (had : HeldView) (result : Result ℕ DrawNo) (new : SeatView) (has : HeldView) → HoldsOnly session old had → new.session ≡ session → TriesDraw K old had result new has → HoldsOnly session new has
draw_only K session old had (Ok b) new has only same t =
    let p : ℕ = had.partition.number in let note : Note = t.before.note in
    let line : Line = record { partition = p; seen = seen_of old.view p; mine = mine_of old.view p; note = Some (record { journal = note.journal; blocks = note.blocks ++ b ∷ [] }) } in
    drawn_others session old had new has t.entry.number only same t.after
    (λ q ne. ap (λ (s : SeatView). note_of s.view q) t.seat ∙ ap (λ (l : Line). l.note) (line_there line old.view.lines q (λ e. ne (sym e))))
draw_only K session old had (Err (draw.Spent next)) new has only same t =
    drawn_others session old had new has t.1.stays.number only same t.1.holds (λ q ne. ap (λ (s : SeatView). note_of s.view q) t.0.seat)
draw_only K session old had (Err draw.NoMemory) new has only same t =
    drawn_others session old had new has t.1.stays.number only same t.1.holds (λ q ne. ap (λ (s : SeatView). note_of s.view q) t.0)

pub draw_number : (K : Modelling) (old : SeatView) (had : HeldView) (result : Result ℕ DrawNo) (new : SeatView) (has : HeldView) → TriesDraw K old had result new has → new.view.number ≡ old.view.number
draw_number K old had (Ok b) new has t = ap (λ (s : SeatView). s.view.number) t.seat
draw_number K old had (Err (draw.Spent next)) new has t = ap (λ (s : SeatView). s.view.number) t.0.seat
draw_number K old had (Err draw.NoMemory) new has t = ap (λ (s : SeatView). s.view.number) t.0

-- root has joined both seats that it has made
pub both_joined : (v a b : View) → v.made ≡ 2 → a.number ≡ 1 → b.number ≡ 2 → HasJoinedAll (joined_by (joined_by v a) b)
both_joined v a b made one two s low high =
    let w : View = joined_by v a in
    let first : Joined = record { number = a.number; lines = a.lines; found = v.lines } in let second : Joined = record { number = b.number; lines = b.lines; found = w.lines } in
    let rest : Option Joined = cond (a.number == s) (Some first) (joined_as v.joined s) in
    elim (ℕ_discrete b.number s) as (λ _. IsSome (cond (b.number == s) (Some second) rest)) [
      | yes e ↦ ap (λ (c : Bool). is_some (cond c (Some second) rest)) (eq-eqb b.number s e)
      | no ne ↦
          let e : a.number ≡ s = omega arith in
          ap (λ (c : Bool). is_some (cond c (Some second) rest)) (ne_eqb b.number s ne) ∙ ap (λ (c : Bool). is_some (cond c (Some first) (joined_as v.joined s))) (eq-eqb a.number s e)
    ]
