use Rattle.std.proofs.Common.{◌≡◌, ◌++◌, [], ◌∷◌, List, take, sym, ap, ◌∙◌, arith}
use Rattle.std.proofs.lemmas.List.{take_all}
use Rattle.pk_base.specs.declared.tag.Tag.{Tag}
use Rattle.pk_base.specs.declared.list.Lists.{Lists}
use Rattle.entity_store.specs.declared.changes.Change.{Change}
use Rattle.entity_store.specs.Changes.{lists_among}
use Rattle.delta.proofs.Places.{fresh-next, gone-next, changed-next}
use Rattle.delta.proofs.Leads.{lists-difference}
use Rattle.delta.proofs.changes.Delta.lists.Goals as goal

pub loop-i-preserved : goal.loop-i-preserved
loop-i-preserved g c =
    let a = c.args.self.now in
    let x = c.entry.result.now in
    let i = c.loop-i.i in
    record {
      fresh = c.list.ensures.fresh ∙ ap (λ (ts : List Tag). ts ++ (lists_among (x ∷ [])).fresh) c.loop-i.invariant.fresh ∙ sym (fresh-next a i x c.entry.ensures.value);
      gone = c.list.ensures.gone ∙ ap (λ (ts : List Tag). ts ++ (lists_among (x ∷ [])).gone) c.loop-i.invariant.gone ∙ sym (gone-next a i x c.entry.ensures.value);
      changed = c.list.ensures.changed ∙ ap (λ (ts : List Tag). ts ++ (lists_among (x ∷ [])).changed) c.loop-i.invariant.changed ∙ sym (changed-next a i x c.entry.ensures.value);
      fresh_room = omega (arith, c.loop-i.invariant.fresh_room, c.list.ensures.fresh_room);
      gone_room = omega (arith, c.loop-i.invariant.gone_room, c.list.ensures.gone_room);
      changed_room = omega (arith, c.loop-i.invariant.changed_room, c.list.ensures.changed_room);
      cost = omega (arith, c.loop-i.invariant.cost, c.entry.ensures.cost);
    }

pub returns-clause-difference : goal.returns-clause-difference
returns-clause-difference g c m h =
    let a = c.args.self.now in
    let all : take c.loop-i.i a ≡ a = take_all c.loop-i.i a (omega (arith, c.loop-i-test.false, c.len-i-end.ensures.value)) in
    let fresh : c.finish.result ≡ (lists_among a).fresh = c.finish.ensures ∙ c.loop-i.invariant.fresh ∙ ap (λ (xs : List Change). (lists_among xs).fresh) all in
    let gone : c.finish-2.result ≡ (lists_among a).gone = c.finish-2.ensures ∙ c.loop-i.invariant.gone ∙ ap (λ (xs : List Change). (lists_among xs).gone) all in
    let changed : c.finish-3.result ≡ (lists_among a).changed = c.finish-3.ensures ∙ c.loop-i.invariant.changed ∙ ap (λ (xs : List Change). (lists_among xs).changed) all in
    let whole : ◌≡◌ {A = Lists} (record { fresh = c.finish.result; gone = c.finish-2.result; changed = c.finish-3.result }) (lists_among a) = λ i. record { fresh = fresh i; gone = gone i; changed = changed i } in
    whole ∙ lists-difference m a c.len-i-end.ensures.changes h
