use Rattle.std.proofs.lemmas.Bool.{eq-eqb, ne_eqb}
use Rattle.script_text.proofs.Ends.{without_last_of, without_other_last}
use Rattle.script_text.proofs.reading.lines.without_last.Goals as goal

pub returns-in-len1-up : goal.returns-in-len1-up
returns-in-len1-up c = without_last_of _ _ c.in-len1-up.len_at_least (eq-eqb _ _ c.if-b-last.true)

pub returns-in_default-2 : goal.returns-in_default-2
returns-in_default-2 c = without_other_last _ _ c.in-len1-up.len_at_least (ne_eqb _ _ c.if-b-last.false)
