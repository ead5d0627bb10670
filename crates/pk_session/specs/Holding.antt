-- When a held partition is a seat's.
use Rattle.std.specs.Prelude.{◌≡◌, [], ◌∷◌, ◌++◌, Some}
use Rattle.pk_base.specs.declared.act.Entry.TheVariants.{Claimed}
use Rattle.session_table.specs.declared.view.Note.{Note}
use Rattle.session_table.specs.Entries.{Continues}
use Rattle.session_table.specs.Seats.{note_of}
use Rattle.pk_session.specs.Views.{SeatView, HeldView}

-- Both are of one session, and the seat holds the partition, on which it has a note. The journal is
-- the one that the claim found, the claim, and further entries of that seat alone; the blocks are
-- those of the note.
pub record IsHeldBy (s : SeatView) (h : HeldView) : Type 0 where
  pub session : h.session ≡ s.session
  pub holder : h.partition.state.holder ≡ Some s.view.number
  pub note : Note
  pub noted : note_of s.view h.partition.number ≡ Some note
  pub journal : Continues s.view.number (note.journal ++ Claimed s.view.number ∷ [])
      h.partition.journal
  pub blocks : h.partition.state.blocks ≡ note.blocks
