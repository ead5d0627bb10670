use Rattle.std.proofs.Common.{◌≡◌, ◌≤◌, Some, ap, sym, subst, refl, ◌∙◌}
use Rattle.pk_model.specs.Replay.{replay}
use Rattle.partition.specs.Partition.{PartitionView}
use Rattle.session_table.specs.Names.{SessionName}
use Rattle.session_table.specs.Ends.{HasJoinedAll, HoldsNothing, Leaves as LeavesTable}
use Rattle.session_table.specs.Faces.{view_of}
use Rattle.pk_session.specs.Views.{SeatView}
use Rattle.pk_session.specs.Inside.{named_of}
use Rattle.pk_session.specs.Ends.{Leaves}
use Rattle.pk_session.proofs.Locking.{seen_as}
use Rattle.pk_session.proofs.Leaving.{leaves, each_one}
use Rattle.pk_session.proofs.session.Session.close.Goals as goal

pub close-requires-clause-seat : goal.close-requires-clause-seat
close-requires-clause-seat g c =
    let session = ap (λ (s : SeatView). s.session) c.root.view_is ∙ c.requires.seat ∙ sym c.self.view_is in
    record {
      session = ap (λ (n : SessionName). n.table) session;
      bounds = ap (λ (n : SessionName). n.bounds) session;
      carries = c.root.invariant.carries;
    }

pub close-requires-clause-idle : goal.close-requires-clause-idle
close-requires-clause-idle g c = subst (λ (s : SeatView). HoldsNothing s.view) (sym c.root.view_is) c.requires.idle

pub close-requires-clause-alone : goal.close-requires-clause-alone
close-requires-clause-alone g c = subst (λ (s : SeatView). HasJoinedAll s.view) (sym c.root.view_is) c.requires.alone

pub returns : goal.returns
returns g c =
    let K = g.K.Meaning.modelling in let root = seen_as c.root.inside.place in let all = c.take_all.result.items in
    let name : root.session ≡ c.args.self = ap (λ (s : SeatView). s.session) c.root.view_is ∙ c.requires.seat in
    let few = subst (λ (s : SessionName). s.bounds.partitions ≤ s.bounds.last) (c.self.view_is ∙ sym name) c.self.invariant.0.first in
    let left : LeavesTable named_of (view_of c.root.inside.place) all = subst (LeavesTable named_of (view_of c.root.inside.place)) (sym c.take_all.ensures.items) c.in_ok-kept.ensures in
    subst (λ (s : SeatView). Leaves K s all) c.root.view_is
    (leaves K root all refl few (each_one (λ (x : PartitionView). replay K x.number x.journal ≡ Some x.state) all c.take_all.ensures.replays) left)
