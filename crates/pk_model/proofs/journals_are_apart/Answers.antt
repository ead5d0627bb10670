use Rattle.pk_model.proofs.Apartness.{one_journal_apart, session_apart}
use Rattle.pk_model.proofs.Sessions.{counted_apart}
use Rattle.pk_model.proofs.journals_are_apart.Goals as goal

pub returns-clause-one : goal.returns-clause-one
returns-clause-one g c = one_journal_apart _ c.requires

pub returns-clause-all : goal.returns-clause-all
returns-clause-all g c = session_apart _ c.requires

pub returns-clause-counted : goal.returns-clause-counted
returns-clause-counted g c = counted_apart _ c.requires
