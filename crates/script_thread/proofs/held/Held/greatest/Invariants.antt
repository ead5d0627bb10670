use Rattle.std.proofs.Common.{◌≡◌, fold, max, drop}
use Rattle.script_thread.proofs.held.Held.greatest.Given as goal

abbrev pub invariant-loop-q : goal.invariant-loop-q
invariant-loop-q l = fold max l.most (drop l.q-index l.q-items) ≡ fold max 0 l.q-items
