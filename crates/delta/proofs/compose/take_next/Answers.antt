use Rattle.std.proofs.Common.{◌+◌, ◌++◌, List, drop, sym, ap, subst, ◌∙◌, arith}
use Rattle.entity_store.specs.declared.changes.Change.{Change}
use Rattle.entity_store.specs.Changes.{AreChanges}
use Rattle.delta.specs.Composed.{composed}
use Rattle.delta.proofs.Merged.{taken-next, taken-within, taken-further, AreChanges-ahead}
use Rattle.delta.proofs.compose.take_next.Goals as goal

pub add-requires-clause-changes : goal.add-requires-clause-changes
add-requires-clause-changes g c =
    let same = taken-next c.args.out.now.items c.args.a.now c.args.b.now c.args.taken.first c.args.taken.second _ _ _ c.next_at-next.ensures.next in
    AreChanges-ahead _ _ (subst AreChanges (sym same) c.requires.changes)

pub overflow_add-result : goal.overflow_add-result
overflow_add-result g c = omega (arith, taken-within c.args.a.now c.args.taken.first _ c.requires.first c.next_at-next.ensures.next.first, c.requires.fits)

pub overflow_add-result-2 : goal.overflow_add-result-2
overflow_add-result-2 g c = omega (arith, taken-within c.args.b.now c.args.taken.second _ c.requires.second c.next_at-next.ensures.next.second, c.requires.fits)

pub returns-clause-items : goal.returns-clause-items
returns-clause-items g c =
    let rest = composed (drop (c.args.taken.first + c.next_at-next.result.first) c.args.a.now) (drop (c.args.taken.second + c.next_at-next.result.second) c.args.b.now) in
    ap (λ (xs : List Change). xs ++ rest) c.add.ensures.items ∙ taken-next c.args.out.now.items c.args.a.now c.args.b.now c.args.taken.first c.args.taken.second _ _ _ c.next_at-next.ensures.next

pub returns-clause-further : goal.returns-clause-further
returns-clause-further g c = taken-further c.args.a.now c.args.b.now c.args.taken.first c.args.taken.second _ _ _ c.requires.more c.requires.first c.requires.second c.next_at-next.ensures.next

pub returns-clause-first : goal.returns-clause-first
returns-clause-first g c = taken-within c.args.a.now c.args.taken.first _ c.requires.first c.next_at-next.ensures.next.first

pub returns-clause-second : goal.returns-clause-second
returns-clause-second g c = taken-within c.args.b.now c.args.taken.second _ c.requires.second c.next_at-next.ensures.next.second
