-- How many steps at most each half of a call adds, where a bound is named: a body of one vertex is
-- found without a look at the store, and its five parts are put with two steps each.
use Rattle.std.specs.Prelude.{ℕ, Option, None, Some}
use Rattle.pk_base.specs.declared.call.Call.{Call}
use Rattle.pk_base.specs.declared.call.Call.TheVariants.{Mvfs}

abbrev pub step_limit : Call → Option ℕ
step_limit (Mvfs at) = Some 10
step_limit _ = None
