use Rattle.serial_run.specs.Reached.{IsHeldBy}
use Rattle.script_thread.proofs.HeldLists.{held_each}
use Rattle.serial_run.proofs.orders.unlock.Goals as goal

pub release-requires-clause-held : goal.release-requires-clause-held
release-requires-clause-held g c κs within =
    held_each (IsHeldBy c.args.world.now c.args.turn.number) c.args.thread.now.held c.args.p c.requires.held
    (c.refusal_of_unlock.ensures.held c.in_default.is)
