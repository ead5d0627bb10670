use Rattle.std.proofs.Common.{◌≡◌, None, rules}
use Rattle.script_text.specs.Walk.{refusal_of_order}
use Rattle.script_text.specs.declared.script.Order.TheVariants as order
use Rattle.script_thread.specs.Thread.{walker_now}
use Rattle.script_thread.proofs.Allowed.{lock_allowed}
use Rattle.script_thread.proofs.thread.ScriptThread.refusal_of_lock.Goals as goal

pub returns-else-p-greatest-clause-allowed : goal.returns-else-p-greatest-clause-allowed
returns-else-p-greatest-clause-allowed c h =
    let none : refusal_of_order c.args.partitions (walker_now c.args.self.now) (order.Lock c.args.p) ≡ None = search rules in
    lock_allowed c.args.partitions c.args.self.now c.args.p none
