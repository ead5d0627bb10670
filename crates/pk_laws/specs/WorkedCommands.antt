-- Acts with tag operands.
use Rattle.std.specs.Prelude.{ℕ, pos}
use Rattle.pk_base.specs.Blocks.{tag}
use Rattle.pk_base.specs.declared.act.Act.{Act}
use Rattle.pk_base.specs.declared.act.Act.TheVariants.{Call}
use Rattle.pk_base.specs.declared.call.Call.TheVariants.{RingMove, Sweep}

-- the move of a ring to a face
abbrev pub ring_move : ℕ → ℕ → Act
ring_move ring face = Call (RingMove (tag ring) (tag face))

-- the sweep of a face upwards
abbrev pub upward_sweep : ℕ → ℕ → Act
upward_sweep face height = Call (Sweep (tag face) (record { x = pos 0; y = pos 0; z = pos height }))
