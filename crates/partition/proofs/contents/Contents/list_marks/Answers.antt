use Rattle.std.proofs.Common.{arith}
use Rattle.partition.proofs.Named.{live_rows-length}
use Rattle.partition.proofs.contents.Contents.list_marks.Goals as goal

pub list_live-requires-clause-spare : goal.list_live-requires-clause-spare
list_live-requires-clause-spare g c = omega (arith, c.in_ok-rows.ensures.room, c.live_len.ensures, live_rows-length c.self.inside.tree.marks)
