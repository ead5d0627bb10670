use Rattle.std.proofs.Common.{◌≡◌, ◌<◌, ◌++◌, [], ◌∷◌, List, take, sym, ap, subst, ◌∙◌, arith}
use Rattle.std.specs.List.{AllByRecursion}
use Rattle.std.proofs.lemmas.List.{take_all}
use Rattle.entity_store.specs.declared.changes.Change.{Change}
use Rattle.delta.specs.Deltas.{StartsAt, after, inverse_change, inverse}
use Rattle.delta.proofs.Places.{lower-ahead, lower-inverse, inverse-next}
use Rattle.delta.proofs.Leads.{StartsAt-inverse, after-inverse}
use Rattle.delta.proofs.changes.Delta.inverse_of.Goals as goal

pub push-requires-clause-above : goal.push-requires-clause-above
push-requires-clause-above g c =
    let x = c.entry.result.now in
    let ahead = take c.loop-i.i c.args.a.now in
    subst (AllByRecursion (λ (d : Change). d.tag.0 < x.tag.0)) (sym c.loop-i.invariant.items) (lower-inverse x.tag.0 ahead (lower-ahead c.args.a.now c.loop-i.i x c.entry.ensures.value c.len.ensures.changes))

pub loop-i-preserved : goal.loop-i-preserved
loop-i-preserved g c = record {
  items = c.push.ensures.items ∙ ap (λ (xs : List Change). xs ++ inverse_change c.entry.result.now ∷ []) c.loop-i.invariant.items ∙ sym (inverse-next c.args.a.now c.loop-i.i c.entry.result.now c.entry.ensures.value);
  room = omega (arith, c.loop-i.invariant.room, c.push.ensures.spare);
  cost = omega (arith, c.loop-i.invariant.cost, c.entry.ensures.cost);
}

pub returns-clause-starts : goal.returns-clause-starts
returns-clause-starts g c m h =
    let a = c.args.a.now in
    let whole : c.loop-i.out.items ≡ inverse a = c.loop-i.invariant.items ∙ ap inverse (take_all c.loop-i.i a (omega (arith, c.loop-i-test.false, c.len-i-end.ensures.value))) in
    subst (StartsAt (after m a)) (sym (c.from_changes.ensures ∙ c.finish.ensures ∙ whole)) (StartsAt-inverse m a c.len.ensures.changes.ascend)

pub returns-clause-back : goal.returns-clause-back
returns-clause-back g c m h =
    let a = c.args.a.now in
    let whole : c.loop-i.out.items ≡ inverse a = c.loop-i.invariant.items ∙ ap inverse (take_all c.loop-i.i a (omega (arith, c.loop-i-test.false, c.len-i-end.ensures.value))) in
    ap (after (after m a)) (c.from_changes.ensures ∙ c.finish.ensures ∙ whole) ∙ after-inverse m a c.len.ensures.changes.ascend h
