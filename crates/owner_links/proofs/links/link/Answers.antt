use Rattle.std.proofs.Common.{Some, ap, sym, subst, ◌∙◌, arith, set}
use Rattle.std.proofs.lemmas.List.{length-map}
use Rattle.owner_links.specs.Slots.{AreKept, owners_of}
use Rattle.owner_links.proofs.Attached.{attached}
use Rattle.owner_links.proofs.Walks.{first_within}
use Rattle.owner_links.proofs.Writes.{owners-with_owner}
use Rattle.owner_links.proofs.links.link.Goals as goal

pub join-requires-clause-after : goal.join-requires-clause-after
join-requires-clause-after c = first_within c.args.slots.now c.requires.kept c.args.owner

pub returns-clause-kept : goal.returns-clause-kept
returns-clause-kept c =
    let slots = c.args.slots.now in
    subst AreKept (sym c.set_owner.ensures)
    (attached slots c.join.new.slots c.join-2.new.slots c.args.child c.args.owner c.requires.kept (omega (arith, c.requires.child, length-map slots (λ s. s.owner))) c.requires.free c.join.ensures c.join-2.ensures)

pub returns-clause-owners : goal.returns-clause-owners
returns-clause-owners c =
    ap owners_of c.set_owner.ensures ∙ owners-with_owner c.join-2.new.slots c.args.child (Some c.args.owner)
    ∙ ap (λ os. set os c.args.child (Some c.args.owner)) (c.join-2.ensures.owners ∙ c.join.ensures.owners)
