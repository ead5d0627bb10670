use Rattle.std.proofs.Common.{◌≡◌, drop, ap, arith}
use Rattle.std.proofs.lemmas.List.{drop_all}
use Rattle.partition.specs.Goes.{entries_in}
use Rattle.partition.proofs.goes.add_entries.Goals as goal

pub returns : goal.returns
returns c =
    let ks = c.args.tree.now.marks in
    let none : entries_in ks (drop c.loop-mark.mark-index c.args.marks.now) ≡ 0 = ap (entries_in ks) (drop_all c.loop-mark.mark-index c.args.marks.now (omega arith)) in
    omega (arith, none, c.loop-mark.invariant)
