use Rattle.pk_laws.proofs.WorkedBlocks.{drawn_is_legal, spent_is_legal, gap_is_not_legal, too_soon_is_not_legal, waste_is_not_legal}
use Rattle.pk_laws.proofs.reports.what_a_full_block_reports.Goals as goal

pub returns-clause-drawn : goal.returns-clause-drawn
returns-clause-drawn c = drawn_is_legal

pub returns-clause-spent : goal.returns-clause-spent
returns-clause-spent c = spent_is_legal

pub returns-clause-passed_over : goal.returns-clause-passed_over
returns-clause-passed_over c = gap_is_not_legal

pub returns-clause-too_soon : goal.returns-clause-too_soon
returns-clause-too_soon c = too_soon_is_not_legal

pub returns-clause-wasteful : goal.returns-clause-wasteful
returns-clause-wasteful c = waste_is_not_legal
