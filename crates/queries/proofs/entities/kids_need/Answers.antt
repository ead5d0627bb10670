use Rattle.std.proofs.Common.{option_copied, Some, sym, ap, ◌∙◌, arith}
use Rattle.queries.proofs.Owned.{few-walked}
use Rattle.queries.proofs.Told.{kids-need, kids-none}
use Rattle.queries.proofs.entities.kids_need.Goals as goal

pub returns-in_default : goal.returns-in_default
returns-in_default g c = kids-none c.args.store.now.state.map c.args.tag (sym c.get.ensures.value ∙ ap option_copied c.in_default.is)

pub count_all-list-requires : goal.count_all-list-requires
count_all-list-requires g c =
    let few = few-walked c.args.store.now.state c.blocks-blocks.ensures.ascending c.blocks-blocks.ensures.range c.blocks-blocks.ensures.hosted (Some c.args.tag) c.kids-walk.result c.kids-walk.ensures in
    omega (arith, few)

pub returns : goal.returns
returns g c = kids-need c.args.store.now.state.map c.requires c.args.tag _ _ _ (sym c.get.ensures.value ∙ ap option_copied c.in-Some.is) c.kids-walk.ensures c.count_all-list.ensures
