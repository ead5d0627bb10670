use Rattle.world_core.proofs.Running.{step_defined}
use Rattle.world_core.proofs.laws.events_that_may_happen_do.Goals as goal

pub returns : goal.returns
returns g c = step_defined _ c.requires
