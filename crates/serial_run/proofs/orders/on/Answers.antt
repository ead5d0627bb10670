use Rattle.serial_run.specs.Reached.{IsHeldBy}
use Rattle.script_thread.proofs.HeldLists.{held_each}
use Rattle.serial_run.proofs.orders.on.Goals as goal

pub do_act-requires-clause-held : goal.do_act-requires-clause-held
do_act-requires-clause-held g c κs within =
    held_each (IsHeldBy c.args.world.now c.args.turn.number) c.args.thread.now.held c.args.p c.requires.held
    c.in_ok-act.ensures.held
