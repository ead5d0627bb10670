use Rattle.std.proofs.Common.{ap, ◌∙◌, set, Some, None}
use Rattle.std.proofs.lemmas.List.{set-set}
use Rattle.owner_links.specs.Links.{LinksView}
use Rattle.pmark_tree.proofs.remove.move_to.Goals as goal

pub returns-clause-owners : goal.returns-clause-owners
returns-clause-owners c =
    ap (λ (v : LinksView). v.owners) c.attach.ensures
    ∙ ap (λ (v : LinksView). set v.owners c.args.child.row (Some c.args.owner)) c.detach.ensures
    ∙ set-set c.args.links.now.owners c.args.child.row None (Some c.args.owner)
