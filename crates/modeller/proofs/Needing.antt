-- What a call needs as its row says is what it needs of a modeller.
use Rattle.std.proofs.Common.{List, Ok, Err, ap, refl}
use Rattle.std.specs.Prelude.{Result, IsOk}
use Rattle.pk_base.specs.declared.tag.Tag.{Tag}
use Rattle.pk_base.specs.declared.call.Call.{Call}
use Rattle.pk_base.specs.declared.refusal.Refusal.{Refusal}
use Rattle.pk_model.specs.Maps.{EntityMap}
use Rattle.entity_store.specs.Modeller.{Needs}
use Rattle.entity_store.specs.declared.modeller.Need.{Need}
use Rattle.solid_model.specs.Rows.{Row, cost_of}
use Rattle.solid_model.specs.Euler.{step_by}
use Rattle.solid_calls.specs.Pairs.{NeedsAsRow, row_on}
use Rattle.modeller.specs.Euler.{euler}

goes-on : (m : EntityMap) (tags : List Tag) (row : Row) → IsOk row → IsOk (step_by m tags row)
goes-on m tags (Ok effect) h = refl
goes-on m tags (Err e) h = absurd (cc)

pub needs-as-row : (m : EntityMap) (c : Call) (r : Result Need Refusal) → NeedsAsRow m c r → Needs euler m c r
needs-as-row m c (Ok n) h = record {
  goes = λ tags _. goes-on m tags (row_on m c) h.goes;
  tags = h.tags;
  changes = h.changes;
  list = h.list;
}
needs-as-row m c (Err e) h = record {
  refuses = λ tags _. ap (step_by m tags) h;
  free = ap cost_of h;
}
