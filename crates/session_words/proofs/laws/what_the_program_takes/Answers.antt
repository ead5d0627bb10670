use Rattle.session_words.proofs.Flags.{AreSerial-Contains}
use Rattle.session_words.proofs.Taken.{AreReadable-taken, taken-AreReadable}
use Rattle.session_words.proofs.laws.what_the_program_takes.Goals as goal

pub returns-clause-readable : goal.returns-clause-readable
returns-clause-readable c = λ words. (taken-AreReadable words, AreReadable-taken words)

pub returns-clause-serial : goal.returns-clause-serial
returns-clause-serial c = AreSerial-Contains
