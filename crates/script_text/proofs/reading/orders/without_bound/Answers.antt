use Rattle.std.proofs.Common.{rules, []}
use Rattle.script_text.proofs.Bound.{bound_few, bound_no, bound_yes}
use Rattle.script_text.proofs.reading.orders.without_bound.Goals as goal
use Rattle.script_text.proofs.reading.orders.without_bound.Goals.{in_default-via-then-words-lt2, in_default-via-in-len2-up+else-eq}

pub returns-in-len2-up : goal.returns-in-len2-up
returns-in-len2-up c = bound_yes c.args.words.now _ c.in-len2-up.len_at_least (search rules)

pub returns-in_default : goal.returns-in_default
returns-in_default c = elim c.in_default.branch [
  | in_default-via-then-words-lt2 w ↦ bound_few c.args.words.now (search rules)
  | in_default-via-in-len2-up+else-eq w ↦ bound_no c.args.words.now (record { ref_ptr = (0, 0); now = [] }) w.in-len2-up.len_at_least (search rules)
]
