use Rattle.std.proofs.Common.{sym, ◌∙◌}
use Rattle.clap.proofs.OnLiterals.{clap_on_literals}
use Rattle.session_words.specs.Words.{AreReadable, AreSerial}
use Rattle.session_words.proofs.Faults.{not_empty}
use Rattle.session_words.proofs.Flags.{flag_of-none, flag_of-serial, not_false}
use Rattle.session_words.proofs.Taken.{readable-none, readable-serial}
use Rattle.session_words.proofs.laws.worked_words.Goals as goal

pub returns-clause-none : goal.returns-clause-none
unfolding AreSerial
returns-clause-none c = (readable-none, (λ e. not_false (sym flag_of-none ∙ e)))

pub returns-clause-serial : goal.returns-clause-serial
unfolding AreSerial
returns-clause-serial c = (readable-serial, flag_of-serial)

pub returns-clause-twice : goal.returns-clause-twice
unfolding clap_on_literals AreReadable
returns-clause-twice c = not_empty _ _

pub returns-clause-valued : goal.returns-clause-valued
unfolding clap_on_literals AreReadable
returns-clause-valued c = not_empty _ _

pub returns-clause-shortened : goal.returns-clause-shortened
unfolding clap_on_literals AreReadable
returns-clause-shortened c = not_empty _ _

pub returns-clause-unknown : goal.returns-clause-unknown
unfolding clap_on_literals AreReadable
returns-clause-unknown c = not_empty _ _

pub returns-clause-help : goal.returns-clause-help
unfolding clap_on_literals AreReadable
returns-clause-help c = not_empty _ _

pub returns-clause-version : goal.returns-clause-version
unfolding clap_on_literals AreReadable
returns-clause-version c = not_empty _ _

pub returns-clause-made : goal.returns-clause-made
unfolding clap_on_literals AreReadable
returns-clause-made c = not_empty _ _

pub returns-clause-stray : goal.returns-clause-stray
unfolding clap_on_literals AreReadable
returns-clause-stray c = not_empty _ _

pub returns-clause-behind_serial : goal.returns-clause-behind_serial
unfolding clap_on_literals AreReadable
returns-clause-behind_serial c = not_empty _ _

pub returns-clause-behind_dashes : goal.returns-clause-behind_dashes
unfolding clap_on_literals AreReadable
returns-clause-behind_dashes c = not_empty _ _
