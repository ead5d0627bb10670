use Rattle.std.proofs.Common.{refl, arith}
use Rattle.pk_model.specs.Tags.{tags_of, tags_of_block}
use Rattle.world_uses.proofs.worked.worked_wide_world.Goals as goal

pub returns-clause-may : goal.returns-clause-may
unfolding tags_of tags_of_block
returns-clause-may c = (
  record { thread = (omega arith, omega arith); partition = (omega arith, omega arith); may = tt },
  (
    record { thread = (omega arith, omega arith); partition = (omega arith, omega arith); may = tt },
    (
      record { thread = (omega arith, omega arith); partition = (omega arith, omega arith); may = refl },
      (
        record { thread = (omega arith, omega arith); partition = (omega arith, omega arith); may = refl },
        (
          record { thread = (omega arith, omega arith); partition = (omega arith, omega arith); may = (refl, refl) },
          (
            record { thread = (omega arith, omega arith); partition = (omega arith, omega arith); may = refl },
            tt,
          ),
        ),
      ),
    ),
  ),
)

pub returns-clause-answers : goal.returns-clause-answers
unfolding tags_of tags_of_block
returns-clause-answers c = refl

pub returns-clause-journals : goal.returns-clause-journals
unfolding tags_of tags_of_block
returns-clause-journals c = refl

pub returns-clause-next : goal.returns-clause-next
returns-clause-next c = refl
