use Rattle.pk_laws.proofs.WorkedJournals.{no_replay, unheld, held_by_another, claimed_twice, released_by_another, short_of_tags, tags_to_spare, block_below, drawn_only_within}
use Rattle.pk_laws.proofs.partitions.what_is_not_legal.Goals as goal

pub returns-clause-unheld : goal.returns-clause-unheld
returns-clause-unheld c = λ n last. no_replay n last _ unheld

pub returns-clause-held_by_another : goal.returns-clause-held_by_another
returns-clause-held_by_another c = λ n last. no_replay n last _ held_by_another

pub returns-clause-claimed_twice : goal.returns-clause-claimed_twice
returns-clause-claimed_twice c = λ n last. no_replay n last _ claimed_twice

pub returns-clause-released_by_another : goal.returns-clause-released_by_another
returns-clause-released_by_another c = λ n last. no_replay n last _ released_by_another

pub returns-clause-too_few : goal.returns-clause-too_few
returns-clause-too_few c = λ n last. no_replay n last _ short_of_tags

pub returns-clause-enough : goal.returns-clause-enough
returns-clause-enough c = λ n last next. no_replay n last _ (tags_to_spare next)

pub returns-clause-drawn_again : goal.returns-clause-drawn_again
returns-clause-drawn_again c = λ n last. no_replay n last _ block_below

pub returns-clause-drawn_within : goal.returns-clause-drawn_within
returns-clause-drawn_within c = drawn_only_within
