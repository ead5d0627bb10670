-- What a refusal leaves.
use Rattle.std.proofs.Common.{◌≡◌, List, Ok, Err, refl}
use Rattle.pk_base.specs.declared.tag.Tag.{Tag}
use Rattle.pk_base.specs.declared.refusal.Refusal.{Refusal}
use Rattle.pk_model.specs.Maps.{EntityMap}
use Rattle.solid_model.specs.Rows.{Row, cost_of}
use Rattle.solid_model.specs.Euler.{step_by}

pub alike_by : (m : EntityMap) (row : Row) (tags other : List Tag) (e : Refusal) → step_by m tags row ≡ Err e → step_by m other row ≡ Err e
alike_by m (Ok effect) tags other e h = absurd (cc)
alike_by m (Err x) tags other e h = h

pub free_by : (m : EntityMap) (row : Row) (tags : List Tag) (e : Refusal) → step_by m tags row ≡ Err e → cost_of row ≡ 0
free_by m (Ok effect) tags e h = absurd (cc)
free_by m (Err x) tags e h = refl
