use Rattle.std.proofs.Common.{refl, sym, ap, subst, ◌∙◌}
use Rattle.pk_model.specs.Maps.{EntityMap}
use Rattle.delta.specs.Deltas.{StartsAt, after}
use Rattle.delta.proofs.Leads.{StartsAt-net_changes, after-net_changes}
use Rattle.partition.specs.Unsaved.{IsUnsaved}
use Rattle.partition.proofs.Differences.{none_unsaved}
use Rattle.partition.proofs.unsaved.Unsaved.of_delta.Goals as goal

pub returns : goal.returns
returns g c base now is =
    let none = none_unsaved base base c.reserve.new.self.changes.entries refl (c.reserve.ensures.same ∙ c.new-unsaved.ensures) in
    let joined = c.join.ensures.joined base base none (subst (StartsAt base) (sym is) (StartsAt-net_changes base now)) in
    subst (λ (n : EntityMap). IsUnsaved base n c.join.new.self.changes.entries) (ap (after base) is ∙ after-net_changes base now) joined
