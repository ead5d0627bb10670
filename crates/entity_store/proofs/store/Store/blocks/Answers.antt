use Rattle.std.proofs.Common.{◌≤◌, ap, subst, ◌∙◌}
use Rattle.std.specs.List.{AllByRecursion}
use Rattle.std.specs.FinMap.{get}
use Rattle.entity_store.specs.Store.{IsHosted, StoreView}
use Rattle.entity_store.proofs.store.Store.blocks.Goals as goal

pub returns-clause-hosted : goal.returns-clause-hosted
returns-clause-hosted c = λ t e h.
    subst (λ (s : StoreView). IsHosted s.state.blocks t e) c.self.view_is (c.self.invariant.hosted t e (ap (λ (s : StoreView). get s.state.map t) c.self.view_is ∙ h))

pub returns-clause-range : goal.returns-clause-range
returns-clause-range c = subst (λ (s : StoreView). AllByRecursion (λ b. (1 ≤ b) × (b ≤ 262143)) s.state.blocks) c.self.view_is c.self.invariant.range
