use Rattle.std.proofs.Common.{subst, sym, ap, ◌∙◌}
use Rattle.owner_links.specs.Slots.{Joins, with_next}
use Rattle.owner_links.proofs.Writes.{joined}
use Rattle.owner_links.proofs.slot.join.Goals as goal

pub returns : goal.returns
returns c =
    let slots = c.args.slots.now in
    let written = c.set_next.ensures ∙ ap (λ s. with_next s c.args.owner c.args.before c.args.after) c.set_previous.ensures in
    subst (Joins c.args.owner c.args.before c.args.after slots) (sym written) (joined slots c.args.owner c.args.before c.args.after c.requires.owner c.requires.before c.requires.after)
