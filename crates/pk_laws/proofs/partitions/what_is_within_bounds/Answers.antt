use Rattle.std.proofs.Common.{refl, arith}
use Rattle.pk_laws.proofs.WorkedJournals.{drawn_within_bounds, drawn_only_within, spent_within_bounds, spent_only_within}
use Rattle.pk_laws.proofs.partitions.what_is_within_bounds.Goals as goal

pub returns-clause-first_block : goal.returns-clause-first_block
returns-clause-first_block c = drawn_within_bounds 4 refl (omega arith) (omega arith)

pub returns-clause-last_block : goal.returns-clause-last_block
returns-clause-last_block c = drawn_within_bounds 9 refl (omega arith) (omega arith)

pub returns-clause-no_block_below : goal.returns-clause-no_block_below
returns-clause-no_block_below c = λ l. let h = drawn_only_within 3 l in omega arith

pub returns-clause-no_block_above : goal.returns-clause-no_block_above
returns-clause-no_block_above c = λ l. let h = drawn_only_within 10 l in omega arith

pub returns-clause-least_spent : goal.returns-clause-least_spent
returns-clause-least_spent c = spent_within_bounds 10 (omega arith) (omega arith)

pub returns-clause-greatest_spent : goal.returns-clause-greatest_spent
returns-clause-greatest_spent c = spent_within_bounds 65544 (omega arith) (omega arith)

pub returns-clause-none_spent_below : goal.returns-clause-none_spent_below
returns-clause-none_spent_below c = λ l. let h = spent_only_within 9 l in omega arith

pub returns-clause-none_spent_above : goal.returns-clause-none_spent_above
returns-clause-none_spent_above c = λ l. let h = spent_only_within 65545 l in omega arith
