use Rattle.std.proofs.Common.{◌+◌, ◌≤◌, ◌++◌, take, length, arith, length-append}
use Rattle.pk_outside.proofs.Transfers.{takes_more}
use Rattle.pk_outside.proofs.transfer.read_all.Goals as goal

pub returns-in_err-extend_from_slice-clause-calls_by_bytes :
    goal.returns-in_err-extend_from_slice-clause-calls_by_bytes
returns-in_err-extend_from_slice-clause-calls_by_bytes g c =
    let given = c.loop-piece.bytes.items ++ take c.in_ok-count.count c.read.new.into in
    let bound : g.S.Source.calls c.read.new.self ≤ g.S.Source.calls c.args.source.now + (length given + 1) =
    grind (arith, length-append, c.read.ensures.called, c.loop-piece.invariant.calls, c.loop-piece-test.true) in
    (given, (bound, takes_more _ _ _ _ _ c.loop-piece.invariant.taken c.in_ok-count.ensures.taken))
