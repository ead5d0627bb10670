use Rattle.std.proofs.Common.{option_copied, sym, ap, ◌∙◌}
use Rattle.attributes.proofs.Found.{an_attribute, an_owner, not_live}
use Rattle.attributes.proofs.reads.may_own.Goals as goal

pub returns-in_default : goal.returns-in_default
returns-in_default g c = not_live c.args.store.now.state.map c.args.owner (sym c.get.ensures.value ∙ ap option_copied c.in_default.is)

pub returns-then-is_attribute : goal.returns-then-is_attribute
returns-then-is_attribute g c =
    an_attribute c.args.store.now.state.map c.args.owner c.in-Some.entity.now (sym c.get.ensures.value ∙ ap option_copied c.in-Some.is) (sym c.is_attribute.ensures ∙ c.if-is_attribute.true)

pub returns : goal.returns
returns g c =
    an_owner c.args.store.now.state.map c.args.owner c.in-Some.entity.now (sym c.get.ensures.value ∙ ap option_copied c.in-Some.is) (sym c.is_attribute.ensures ∙ c.if-is_attribute.false)
