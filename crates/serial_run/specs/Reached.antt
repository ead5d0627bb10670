-- What holds between any two turns.
use Rattle.std.specs.Prelude.{◌≡◌, ℕ, ◌≤◌, length, Some}
use Rattle.std.specs.List.{AllByRecursion}
use Rattle.pk_model.specs.Modelling.{Modelling}
use Rattle.world_core.specs.World.{WorldState, partition_at}
use Rattle.world_core.specs.Session.{IsSession}
use Rattle.script_text.specs.declared.script.Script.{Script}
use Rattle.script_thread.specs.Thread.{ThreadState}
use Rattle.serial_run.specs.Serial.{RunState, thread_at}

-- the world has a thread t
abbrev pub IsThreadOf : WorldState → ℕ → Type 0
IsThreadOf w t = (1 ≤ t) × (t ≤ w.threads)

-- thread t of the world holds partition p
pub record IsHeldBy (w : WorldState) (t p : ℕ) : Type 0 where
  pub first : 1 ≤ p
  pub last : p ≤ length w.partitions
  pub holder : (partition_at w p).state.holder ≡ Some t

-- the world and the threads are those of the script, and each thread holds what it says
pub record IsReached (K : Modelling) (script : Script) (r : RunState) : Type 0 where
  pub session : IsSession K r.world
  pub partitions : length r.world.partitions ≡ script.n
  pub last : r.world.blocks.last ≡ script.last
  pub threads : r.world.threads ≡ length script.threads
  pub count : length r.threads ≡ length script.threads
  pub held : (t : ℕ) (s : ThreadState) → thread_at r.threads t ≡ Some s
      → AllByRecursion (IsHeldBy r.world t) s.held
