use Rattle.pk_session.proofs.Entries.{one_thread}
use Rattle.pk_session.proofs.laws.an_entry_has_one_thread.Goals as goal

pub returns : goal.returns
returns c = one_thread
