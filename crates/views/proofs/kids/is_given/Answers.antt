use Rattle.std.proofs.Common.{◌∙◌, sym, rules}
use Rattle.pk_base.specs.contracts.entity.Class.{the_type}
use denote.Enum.Bare.{same_true, same_false}
use Rattle.views.proofs.Given.{given-unless, not-given}
use Rattle.views.proofs.kids.is_given.Goals as goal

pub returns-then-eq : goal.returns-then-eq
returns-then-eq c =
    c.is_other.ensures ∙ given-unless c.args.class c.args.but c.args.tag c.args.kid.now (sym c.class.ensures ∙ same_true the_type (search rules) _ _ (sym c.if-eq.ensures))

pub returns : goal.returns
returns c = not-given c.args.class c.args.but c.args.tag c.args.kid.now (λ e. same_false the_type _ _ (sym c.if-eq.ensures) (c.class.ensures ∙ e))
