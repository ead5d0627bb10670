use Rattle.std.proofs.Common.{◌≡◌, ◌+◌, ◌*◌, ◌≤◌, None, length, rules, subst, sym, ◌∙◌}
use Rattle.std.specs.List.{AllByRecursion}
use Rattle.std.specs.FinMap.{get}
use Rattle.entity_store.specs.NextTags.{TagsView, left}
use Rattle.pk_model.specs.Tags.{Ascends}
use Rattle.law_uses.proofs.Ready.{may-take}
use Rattle.law_uses.proofs.tests.store.ready.Goals as goal

pub returns : goal.returns
returns g c =
    let s = c.args.store.now.state in
    let tags : TagsView = c.of-2.result in
    let within : c.in-Ok.need.tags ≤ c.args.count = search rules in
    let same : s.blocks ≡ tags.blocks = search rules in
    let ascends : Ascends tags.blocks = search rules in
    let fits : tags.used + c.args.count ≤ 64 * length tags.blocks = search rules in
    let free : AllByRecursion (λ t. get s.map t ≡ None) (left tags) =
    subst (λ (t : TagsView). AllByRecursion (λ u. get s.map u ≡ None) (left t)) (c.of.ensures ∙ sym c.of-2.ensures) (c.are_free.ensures (search rules)) in
    may-take s c.args.call.now c.args.count c.in-Ok.need tags c.requires c.in-Ok.ensures.needs within same ascends fits free
