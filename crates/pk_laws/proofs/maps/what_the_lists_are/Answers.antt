use Rattle.pk_model.specs.Maps.{diff}
use Rattle.pk_laws.proofs.Differences.{Contains-fresh_tags, Contains-gone_tags, Contains-changed_tags, TagsAscend-filter_keys}
use Rattle.pk_laws.proofs.maps.what_the_lists_are.Goals as goal

pub returns-clause-fresh : goal.returns-clause-fresh
unfolding diff
returns-clause-fresh c = Contains-fresh_tags

pub returns-clause-gone : goal.returns-clause-gone
unfolding diff
returns-clause-gone c = Contains-gone_tags

pub returns-clause-changed : goal.returns-clause-changed
unfolding diff
returns-clause-changed c = Contains-changed_tags

pub returns-clause-ascending : goal.returns-clause-ascending
unfolding diff
returns-clause-ascending c = λ left reached. (TagsAscend-filter_keys _ reached, TagsAscend-filter_keys _ left, TagsAscend-filter_keys _ reached)
