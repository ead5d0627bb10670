use Rattle.pk_laws.proofs.Return.{map_is_back, lists_are_difference, rest_stays, goes_back, is_refused, goes_to_initial}
use Rattle.pk_laws.proofs.marks.a_goto_brings_the_mark_back.Goals as goal

pub returns-clause-map : goal.returns-clause-map
returns-clause-map g c = map_is_back g.K.Meaning.modelling

pub returns-clause-lists : goal.returns-clause-lists
returns-clause-lists g c = lists_are_difference g.K.Meaning.modelling

pub returns-clause-rest : goal.returns-clause-rest
returns-clause-rest g c = rest_stays g.K.Meaning.modelling

pub returns-clause-kept : goal.returns-clause-kept
returns-clause-kept g c = goes_back g.K.Meaning.modelling

pub returns-clause-deleted : goal.returns-clause-deleted
returns-clause-deleted g c = is_refused g.K.Meaning.modelling

pub returns-clause-initial : goal.returns-clause-initial
returns-clause-initial g c = goes_to_initial g.K.Meaning.modelling
