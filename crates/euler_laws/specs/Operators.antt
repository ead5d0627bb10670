-- The call that each operator is.
use Rattle.pk_base.specs.declared.call.Call.{Call}
use Rattle.pk_base.specs.declared.call.Call.TheVariants as call
use Rattle.euler_laws.specs.declared.operator.Operator.{Operator}
use Rattle.euler_laws.specs.declared.operator.Operator.TheVariants.{Mvfs, Mev, Mef, Mekr, Mfkrh, Kvfs, Kev, Kef, Kemr, Kfmrh}

abbrev pub call_of : Operator → Call
call_of (Mvfs at) = call.Mvfs at
call_of (Mev end at) = call.Mev end at
call_of (Mef from to) = call.Mef from to
call_of (Mekr keep ring) = call.Mekr keep ring
call_of (Mfkrh ring) = call.Mfkrh ring
call_of (Kvfs body) = call.Kvfs body
call_of (Kev fin) = call.Kev fin
call_of (Kef fin) = call.Kef fin
call_of (Kemr fin) = call.Kemr fin
call_of (Kfmrh keep kill) = call.Kfmrh keep kill
