use Rattle.std.proofs.Common.{sym, subst}
use Rattle.partition.specs.Partition.{PartitionView}
use Rattle.session_table.specs.Faces.{face}
use Rattle.session_table.specs.Calls.{TakesOut}
use Rattle.pk_session.specs.Inside.{named_of}
use Rattle.pk_session.proofs.Resting.{won_is_filled, missed_rests, taken_rests, rests_on, taken_free, taken_noted, takes_by}
use Rattle.pk_session.proofs.slots.claim.Goals as goal

pub take_out-requires-clause-filled : goal.take_out-requires-clause-filled
take_out-requires-clause-filled g c = won_is_filled c.args.table.now _ _ c.args.p c.in-Won.ensures.step

pub write_claim-requires-clause-rest : goal.write_claim-requires-clause-rest
write_claim-requires-clause-rest g c κs within =
    let mid = c.reserve.new.self in
    taken_rests c.args.table.now mid c.claim.new.seat c.take_out.new.seat c.args.p _
    (rests_on c.args.table.now c.args.seat.now mid c.reserve.ensures.same c.requires.rest) c.in-Won.ensures.step c.take_out.ensures.step c.take_out.ensures.seat

pub write_claim-requires-clause-value : goal.write_claim-requires-clause-value
write_claim-requires-clause-value g c κs within =
    let out = c.take_out.new.seat in let y = c.partition.inside.partition in
    let takes = subst (λ (x : PartitionView). TakesOut (face named_of c.claim.new.seat) c.args.p (named_of x) (face named_of out)) (sym c.partition.view_is) c.take_out.ensures.step in
    taken_noted c.args.table.now g.K.Meaning.modelling c.args.seat.now c.reserve.new.self c.claim.new.seat out c.args.p y c.reserve.ensures.same c.in-Won.ensures.step takes

pub write_claim-requires-clause-free : goal.write_claim-requires-clause-free
write_claim-requires-clause-free g c κs within =
    let out = c.take_out.new.seat in let y = c.partition.inside.partition in
    let takes = subst (λ (x : PartitionView). TakesOut (face named_of c.claim.new.seat) c.args.p (named_of x) (face named_of out)) (sym c.partition.view_is) c.take_out.ensures.step in
    taken_free c.args.table.now g.K.Meaning.modelling c.args.seat.now c.reserve.new.self c.claim.new.seat out c.args.p y c.reserve.ensures.same c.in-Won.ensures.step takes

pub returns-in-HeldBy-clause-rest : goal.returns-in-HeldBy-clause-rest
returns-in-HeldBy-clause-rest g c =
    let mid = c.reserve.new.self in
    missed_rests c.args.table.now mid c.claim.new.seat c.args.p _ (rests_on c.args.table.now c.args.seat.now mid c.reserve.ensures.same c.requires.rest) c.in-HeldBy.ensures.step c.claim.ensures.seat

pub returns-in-Won-clause-takes : goal.returns-in-Won-clause-takes
returns-in-Won-clause-takes g c =
    let out = c.take_out.new.seat in let y = c.partition.inside.partition in
    let takes = subst (λ (x : PartitionView). TakesOut (face named_of c.claim.new.seat) c.args.p (named_of x) (face named_of out)) (sym c.partition.view_is) c.take_out.ensures.step in
    takes_by c.args.table.now g.K.Meaning.modelling c.args.seat.now c.reserve.new.self c.claim.new.seat out c.args.p y c.reserve.ensures.same c.in-Won.ensures.step takes
    c.write_claim.result c.write_claim.new.seat c.write_claim.ensures.writes
