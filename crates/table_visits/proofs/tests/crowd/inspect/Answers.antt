use Rattle.std.proofs.Common.{ap, ◌∙◌}
use Rattle.session_table.specs.Seats.{note_of}
use Rattle.table_visits.proofs.Visiting.{comes, filled_by_claim}
use Rattle.table_visits.proofs.tests.crowd.inspect.Goals as goal

pub take_out-sheet-requires-clause-filled : goal.take_out-sheet-requires-clause-filled
take_out-sheet-requires-clause-filled c = filled_by_claim _ _ c.args.p c.in-Won.ensures.step

pub leave-requires : goal.leave-requires
leave-requires c =
    let knows = c.reserve.ensures.same.knows in
    comes _ c.args.table.now c.reserve.new.self c.claim.new.seat c.take_out-sheet.new.seat c.args.p _
    (λ q. ap (λ m. note_of m.0 q) knows ∙ c.requires.idle.nothing q) (ap (λ m. m.0.pending) knows ∙ c.requires.idle.calm)
    c.in-Won.ensures.step c.take_out-sheet.ensures.step c.take_out-sheet.ensures.seat
