use Rattle.script_thread.proofs.Journals.{same_transcript, same_walker}
use Rattle.script_thread.proofs.laws.a_walk_is_one_of_longer_journals.Goals as goal

pub returns-clause-walker : goal.returns-clause-walker
returns-clause-walker g c t earlier journals each = same_walker g.K.Meaning.modelling t earlier journals each

pub returns-clause-transcript : goal.returns-clause-transcript
returns-clause-transcript g c n t earlier journals lines said each h = same_transcript g.K.Meaning.modelling n t earlier journals lines said each h
