use Rattle.solid_model.specs.Shapes.{shape_of}
use Rattle.solid_model.specs.Calls.{row_of}
use Rattle.solid_sound.proofs.rows.Refused.{alike_by, free_by}
use Rattle.solid_sound.proofs.laws.a_refusal_takes_nothing.Goals as goal

pub returns-clause-alike : goal.returns-clause-alike
returns-clause-alike c = λ m call tags other e h. alike_by m (row_of (shape_of m) call) tags other e h

pub returns-clause-free : goal.returns-clause-free
returns-clause-free c = λ m call tags e h. free_by m (row_of (shape_of m) call) tags e h
