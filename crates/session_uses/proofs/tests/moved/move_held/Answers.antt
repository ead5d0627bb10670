-- A held partition may go to another thread: so may the partition, and the name of its session has no bytes.
use denote.Param.Send.{sendable}
use Rattle.std.proofs.Crossing.{crosses}
use Rattle.partition.proofs.partition.Partition.TheSendSync.{the_send}
use Rattle.session_uses.proofs.tests.moved.move_held.Goals as goal

pub lend-requires-send-T : goal.lend-requires-send-T
lend-requires-send-T g c κs within = search (the_send, sendable, crosses) depth 40 fits 5000
