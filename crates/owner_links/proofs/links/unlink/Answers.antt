use Rattle.std.proofs.Common.{None, ap, sym, subst, ◌∙◌, set}
use Rattle.owner_links.specs.Slots.{AreKept, owners_of}
use Rattle.owner_links.proofs.Detached.{detached}
use Rattle.owner_links.proofs.Walks.{previous_within, next_within, kept_owner_within}
use Rattle.owner_links.proofs.Writes.{owner_at-owners_of, owners-with_owner}
use Rattle.owner_links.proofs.links.unlink.Goals as goal

pub join-requires-clause-owner : goal.join-requires-clause-owner
join-requires-clause-owner c =
    let own = owner_at-owners_of c.args.slots.now c.args.child ∙ c.unwrap.ensures in
    kept_owner_within c.args.slots.now c.requires.kept c.args.child c.unwrap.result own

pub join-requires-clause-before : goal.join-requires-clause-before
join-requires-clause-before c =
    let own = owner_at-owners_of c.args.slots.now c.args.child ∙ c.unwrap.ensures in
    previous_within c.args.slots.now c.requires.kept c.args.child c.unwrap.result own

pub join-requires-clause-after : goal.join-requires-clause-after
join-requires-clause-after c =
    let own = owner_at-owners_of c.args.slots.now c.args.child ∙ c.unwrap.ensures in
    next_within c.args.slots.now c.requires.kept c.args.child c.unwrap.result own

pub returns-clause-kept : goal.returns-clause-kept
returns-clause-kept c =
    let slots = c.args.slots.now in
    let own = owner_at-owners_of slots c.args.child ∙ c.unwrap.ensures in
    subst AreKept (sym c.set_owner.ensures) (detached slots c.join.new.slots c.args.child c.unwrap.result c.join.ensures c.requires.kept own)

pub returns-clause-owners : goal.returns-clause-owners
returns-clause-owners c =
    ap owners_of c.set_owner.ensures ∙ owners-with_owner c.join.new.slots c.args.child None ∙ ap (λ os. set os c.args.child None) c.join.ensures.owners
