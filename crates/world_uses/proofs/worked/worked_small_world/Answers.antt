use Rattle.std.proofs.Common.{refl}
use Rattle.pk_model.specs.Tags.{tags_of, tags_of_block}
use Rattle.world_uses.proofs.worked.worked_small_world.Goals as goal

pub returns-clause-answers : goal.returns-clause-answers
unfolding tags_of tags_of_block
returns-clause-answers c = refl

pub returns-clause-journal : goal.returns-clause-journal
unfolding tags_of tags_of_block
returns-clause-journal c = refl
