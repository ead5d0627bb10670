-- The words of the clauses on orders.
use Rattle.std.specs.Prelude.{Bool, true, ◌&&◌, nat_le, ◌≡◌, ℕ, ◌≤◌, length, List, [], ◌∷◌, Option, None, Some, Result, Ok, Err, ⊤}
use Rattle.std.specs.Borrow.{Bor}
use Rattle.std.specs.Option.{option_map_or}
use Rattle.pk_base.specs.declared.act.Reply.{Reply}
use Rattle.pk_base.specs.declared.refusal.Fault.{Fault}
use Rattle.pk_base.specs.declared.refusal.Fault.TheVariants as fault
use Rattle.world_core.specs.World.{WorldState}
use Rattle.script_text.specs.declared.report.LineSaid.{LineSaid}
use Rattle.script_text.specs.declared.report.LineSaid.TheVariants.{Refused}
use Rattle.pk_model.specs.Modelling.{Modelling}
use Rattle.script_text.specs.declared.script.ScriptLine.{ScriptLine}
use Rattle.script_thread.specs.Thread.{ThreadState}
use Rattle.serial_run.specs.Serial.{Acted, Carried, RunState, next_line, obey, told}
use Rattle.script_thread.specs.WellFormed.{operand_count}
use Rattle.serial_run.specs.Reached.{IsThreadOf}
use Rattle.serial_run.specs.declared.orders.Turn.{Turn}

-- the act was done so: this is the world after it, and this was answered
abbrev pub IsDone : Acted → Result Reply Fault → WorldState → Type 0
IsDone done (Ok r) new = done ≡ record { world = new; answer = Ok r }
IsDone done (Err (fault.Refused e)) new = done ≡ record { world = new; answer = Err e }
IsDone done (Err fault.NoMemory) new = ⊤

abbrev pub run_state : WorldState → List ThreadState → RunState
run_state w threads = record { world = w; threads = threads }

-- the turn is of a thread of this world, which has so many partitions, at most 32
pub record IsTurnIn (w : WorldState) (turn : Turn) : Type 0 where
  pub thread : IsThreadOf w turn.number
  pub partitions : length w.partitions ≡ turn.partitions
  pub few : turn.partitions ≤ 32

-- an order left this, and this was said to it
abbrev pub carried : WorldState → ThreadState → LineSaid → Carried
carried w s said = record { world = w; held = s.held; names = s.names; said = said }

-- what an order left, and what was said to it; without memory nothing is known
abbrev pub Obeys : Option Carried → WorldState → ThreadState → Result LineSaid Fault → Type 0
Obeys o w s (Ok said) = o ≡ Some (carried w s said)
Obeys o w s (Err (fault.Refused e)) = o ≡ Some (carried w s (Refused e))
Obeys o w s (Err fault.NoMemory) = ⊤

-- a line has at most three tag operands
abbrev pub HasFewOperands : ScriptLine → Type 0
HasFewOperands l = operand_count l.order ≤ 3

-- what line k left, where its order left this; nothing has changed where it waits
abbrev pub IsOrderLeft : WorldState → ThreadState → WorldState → ThreadState → ℕ → Option Carried
    → Type 0
IsOrderLeft w s w' s' k None = (w' ≡ w) × (s' ≡ s)
IsOrderLeft w s w' s' k (Some c) = (w' ≡ c.world) × (s' ≡ told s k c)

-- what the next line of thread t left; nothing has changed where there is none
abbrev pub IsLineLeft : Modelling → ℕ → WorldState → ThreadState → WorldState → ThreadState
    → Option ScriptLine → Type 0
IsLineLeft K t w s w' s' None = (w' ≡ w) × (s' ≡ s)
IsLineLeft K t w s w' s' (Some line) =
    IsOrderLeft w s w' s' line.number (obey K t w s line.order)

-- the next of these lines of thread t was carried out
abbrev pub IsCarriedOut : Modelling → List ScriptLine → ℕ → WorldState → ThreadState → WorldState
    → ThreadState → Type 0
IsCarriedOut K lines t w s w' s' = IsLineLeft K t w s w' s' (next_line lines s)

-- whether the thread has been told all these lines of its own
abbrev pub has_ended : List ScriptLine → ThreadState → Bool
has_ended own s = nat_le (length own) (length s.said)

-- whether each thread has
abbrev pub have_ended : List (List ScriptLine) → List ThreadState → Bool
have_ended [] threads = true
have_ended (own ∷ more) [] = true
have_ended (own ∷ more) (s ∷ threads) = has_ended own s && have_ended more threads

-- whether a thread, if there is one, has been told all these lines of its own
abbrev pub ended_by : List ScriptLine → Option (Bor ThreadState) → Bool
ended_by own thread =
    option_map_or (λ (t : Bor ThreadState). has_ended own t.now) thread true
