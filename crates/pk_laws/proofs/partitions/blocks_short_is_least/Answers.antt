use Rattle.pk_laws.proofs.WorkedJournals.{blocks_short-enough, blocks_short-least}
use Rattle.pk_laws.proofs.partitions.blocks_short_is_least.Goals as goal

pub returns-clause-suffices : goal.returns-clause-suffices
returns-clause-suffices c = blocks_short-enough

pub returns-clause-least : goal.returns-clause-least
returns-clause-least c = blocks_short-least
