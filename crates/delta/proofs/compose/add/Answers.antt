use Rattle.std.proofs.Common.{◌++◌, [], Option, subst}
use Rattle.std.specs.List.{cons_option}
use Rattle.entity_store.specs.declared.changes.Change.{Change}
use Rattle.entity_store.specs.Changes.{AreChanges}
use Rattle.delta.proofs.Merged.{above-those_ahead}
use Rattle.delta.proofs.compose.add.Goals as goal

pub push-requires-clause-above : goal.push-requires-clause-above
push-requires-clause-above c =
    let are = subst (λ (o : Option Change). AreChanges (c.args.out.now.items ++ cons_option o [])) c.in-Some.is c.requires.changes in
    above-those_ahead c.args.out.now.items c.in-Some.change [] are.ascend
