use Rattle.std.proofs.Common.{◌<◌, None, slice_index_or, sym, subst, arith}
use Rattle.std.specs.List.{AllByRecursion}
use Rattle.std.proofs.lemmas.Option.{slice_get-get_or}
use Rattle.entity_store.specs.declared.changes.Change.{Change}
use Rattle.delta.proofs.Places.{lower-ahead}
use Rattle.partition.proofs.unsaved.listed.Goals as goal

pub push-requires-clause-above : goal.push-requires-clause-above
push-requires-clause-above c =
    let cs = c.args.changes.now in
    let none : Change = record { tag = record { 0 = 0 }; before = None; after = None } in
    let x = slice_index_or cs c.loop-i.i none in
    subst (λ ds. AllByRecursion (λ (d : Change). d.tag.0 < x.tag.0) ds) (sym c.loop-i.invariant.items) (lower-ahead cs c.loop-i.i x (slice_get-get_or cs c.loop-i.i none (omega (arith, c.loop-i-test.true, c.loop-i.auto))) c.requires.changes)
