use Rattle.std.proofs.Common.{◌-◌, ◌+◌, length, subst}
use Rattle.world_core.specs.Session.{IsSession, journals_of}
use Rattle.world_core.proofs.Sessions.{counted, each_replays}
use Rattle.world_core.proofs.world.World.into_partitions.Goals as goal

pub returns-clause-apart : goal.returns-clause-apart
returns-clause-apart g c =
    let K = g.K.Meaning.modelling in
    let w = c.args.self in
    let session = subst (IsSession K) c.self.view_is c.self.invariant.session in
    c.journals_are_apart.ensures.counted (w.blocks.next - (length w.partitions + 1)) (journals_of w) (each_replays K 1 w.partitions session.replays) (counted K w session)
