use Rattle.std.proofs.Common.{◌<◌, subst, sym}
use Rattle.std.specs.List.{AllByRecursion}
use Rattle.pk_base.specs.Building.{Building}
use Rattle.entity_store.specs.declared.changes.Change.{Change}
use Rattle.entity_store.proofs.Ascending.{AreChanges-push}
use Rattle.entity_store.proofs.changes.ChangeListBuilder.push.Goals as goal

pub invariant_of-self : goal.invariant_of-self
invariant_of-self c =
    let above = subst (λ (b : Building Change). AllByRecursion (λ (d : Change). d.tag.0 < c.args.change.tag.0) b.items) (sym c.self.view_is) c.requires.above in
    rw c.push_reserved.ensures.items (AreChanges-push c.self.inside.changes.items c.args.change c.self.invariant c.requires.differ above)
