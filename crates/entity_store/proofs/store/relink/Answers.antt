use Rattle.std.proofs.Common.{None, Some, set, List, Option, ℕ, sym, ap, ◌∙◌}
use Rattle.std.proofs.lemmas.List.{set-set}
use Rattle.owner_links.specs.Links.{LinksView}
use Rattle.entity_store.proofs.store.relink.Goals as goal

pub returns-in-Some : goal.returns-in-Some
returns-in-Some c =
    let old = c.args.links.now in
    let child = c.args.child in
    let then : LinksView → LinksView = λ l. record l { owners = set l.owners child (Some c.in-Some.owner) } in
    c.attach.ensures ∙ ap then c.unlink.ensures
    ∙ ap (λ (os : List (Option ℕ)). record { owners = os; spare = old.spare }) (set-set old.owners child None (Some c.in-Some.owner) ∙ ap (set old.owners child) (sym c.in-Some.is))
