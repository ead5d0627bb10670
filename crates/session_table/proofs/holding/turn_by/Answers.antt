use Rattle.std.proofs.Common.{ap, ◌∙◌, arith}
use Rattle.atomic_table.specs.Table.{turned}
use Rattle.session_table.proofs.Turning.{turn_once}
use Rattle.session_table.proofs.holding.turn_by.Goals as goal

pub loop-preserved : goal.loop-preserved
loop-preserved g c =
    let now = c.turn.ensures.2 in let row = c.args.place.now.me.1 in let most = c.requires in let below = c.loop-test.true in record {
      session = c.turn.ensures.0 ∙ c.loop.invariant.session;
      id = c.turn.ensures.1 ∙ c.loop.invariant.id;
      view = ap (λ m. m.0) now ∙ c.loop.invariant.view;
      row = ap (λ m. m.1) now ∙ ap turned c.loop.invariant.row ∙ turn_once row c.loop.counter (omega arith);
    }
