use Rattle.std.proofs.Common.{◌≡◌, ◌+◌, ◌*◌, ◌<◌, List, ℕ, None, length, rules, ap, subst, ◌∙◌, arith}
use Rattle.std.specs.List.{AllByRecursion}
use Rattle.std.specs.FinMap.{get}
use Rattle.pk_base.specs.declared.tag.Tag.{Tag}
use Rattle.entity_store.specs.NextTags.{TagsView, left}
use Rattle.law_uses.proofs.Ready.{none-left, one-more}
use Rattle.law_uses.proofs.tests.store.are_free.Goals as goal

pub loop-taken-preserved : goal.loop-taken-preserved
loop-taken-preserved g c =
    let m = c.args.store.now.state.map in
    let before : TagsView = c.loop-taken.tags in
    let blocks : length before.blocks ≡ length c.args.tags.blocks = ap (λ (bs : List ℕ). length bs) c.loop-taken.invariant.blocks in
    let some : before.used < 64 * length before.blocks = omega (arith, c.requires, c.loop-taken.invariant.used, blocks, c.loop-taken-test.true) in
    let free : get m c.take.result ≡ None = search rules in
    record {
      blocks = ap (λ (t : TagsView). t.blocks) c.take.ensures.used ∙ c.loop-taken.invariant.blocks;
      used = omega (arith, ap (λ (t : TagsView). t.used) c.take.ensures.used, c.loop-taken.invariant.used);
      free = λ rest. c.loop-taken.invariant.free (one-more m before some (subst (λ (t : Tag). get m t ≡ None) c.take.ensures.tag free) (subst (λ (t : TagsView). AllByRecursion (λ u. get m u ≡ None) (left t)) c.take.ensures.used rest));
    }

pub returns : goal.returns
returns g c =
    let tags : TagsView = c.loop-taken.tags in
    let blocks : length tags.blocks ≡ length c.args.tags.blocks = ap (λ (bs : List ℕ). length bs) c.loop-taken.invariant.blocks in
    let all : tags.used ≡ 64 * length tags.blocks = omega (arith, c.requires, c.loop-taken.invariant.used, blocks, c.loop-taken-test.false, c.loop-taken.auto.taken-end) in
    λ _. c.loop-taken.invariant.free (none-left c.args.store.now.state.map tags all)
