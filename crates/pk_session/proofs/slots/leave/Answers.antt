use Rattle.std.proofs.Common.{◌≡◌, ℕ, None, Some, sym, ap, subst, ◌∙◌}
use Rattle.session_table.specs.Faces.{view_of}
use Rattle.session_table.specs.Slots.{in_slot}
use Rattle.session_table.specs.Steps.{let_go}
use Rattle.pk_session.specs.Inside.{named_of}
use Rattle.pk_session.proofs.Resting.{noted_empty, put_is_filled, left_rests, left_view}
use Rattle.pk_session.proofs.slots.leave.Goals as goal

pub put_in-requires-clause-empty : goal.put_in-requires-clause-empty
put_in-requires-clause-empty g c =
    let slots = c.args.seat.now.place.me.1 in
    let noted = c.requires.value in
    subst (λ (k : ℕ). in_slot named_of slots k ≡ Some None) (sym c.number-p.ensures)
    (noted_empty (view_of c.args.seat.now) slots c.args.partition.number noted.0 c.requires.rest.between noted.1)

pub release-requires-clause-filled : goal.release-requires-clause-filled
release-requires-clause-filled g c = put_is_filled c.args.table.now _ _ _ _ c.put_in.ensures.step

pub returns-clause-rest : goal.returns-clause-rest
returns-clause-rest g c =
    left_rests c.args.table.now c.args.seat.now c.put_in.new.seat c.release.new.seat _ _ c.requires.rest c.put_in.ensures.step c.release.ensures.step c.release.ensures.seat

pub returns-clause-view : goal.returns-clause-view
returns-clause-view g c =
    left_view c.args.table.now _ _ _ _ _ c.put_in.ensures.step c.release.ensures.step
    ∙ ap (λ (k : ℕ). let_go (view_of c.args.seat.now) k c.args.partition.journal) c.number-p.ensures
