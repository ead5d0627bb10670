use Rattle.std.proofs.Common.{arith}
use mathlib.Core.Option.{none}
use Rattle.session_table.proofs.Drawing.{looks_allowed}
use Rattle.session_table.proofs.table.SessionTable.look.Goals as goal

pub load-found-requires : goal.load-found-requires
load-found-requires g c =
    let seat = c.args.seat.now in let shared = c.args.self.now.table.shared in let words = c.args.self.now.words in (
      c.requires.seat.session,
      omega arith,
      looks_allowed g.X.Naming.named shared.key shared.table_id.slots seat.place.id seat.place.me.0 seat.place.me.1 none seat.live c.requires.calm,
    )
