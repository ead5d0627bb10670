use Rattle.std.proofs.Common.{◌≡◌, ◌≤◌, length, take, drop, sym, ap, arith, length-drop}
use Rattle.std.proofs.lemmas.List.{take_rest}
use Rattle.std.proofs.lemmas.Grind.{common_steps}
use Rattle.pk_outside.specs.Outside.{Giving}
use Rattle.pk_outside.proofs.Transfers.{takes_next}
use Rattle.pk_outside.proofs.memory.MemSourceSource.read.Goals as goal

pub returns-clause-taken : goal.returns-clause-taken
returns-clause-taken c =
    let bytes = c.self.inside.bytes.items in
    let at = c.self.inside.at in
    let count = c.min-count.result in
    let shown : c.args.self.now.left ≡ drop at bytes = sym (ap (λ (g : Giving). g.left) c.self.view_is) in
    let le : count ≤ length (drop at bytes) = omega (arith, length-drop at bytes) in
    let is : c.copy_from_slice.new.self ≡ take count (drop at bytes) = grind (arith, common_steps, take_rest bytes at) in
    takes_next c.args.self.now.left bytes c.copy_from_slice.new.self (drop count c.args.into.now) at count shown le is
