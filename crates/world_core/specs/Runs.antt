-- Events of threads, one after another.
use Rattle.std.specs.Prelude.{ℕ, ◌==◌, if◌then◌else◌, List, [], ◌∷◌, Option, Some, None, Result, Ok, Err}
use Rattle.std.specs.Option.{option_map_or}
use Rattle.std.specs.List.{cons_option}
use Rattle.pk_base.specs.declared.act.Entry.{Entry}
use Rattle.pk_model.specs.Modelling.{Modelling}
use Rattle.world_core.specs.Event.{entry_of, partition_of}
use Rattle.world_core.specs.World.{WorldState, Happening, MayHappen, partition_at, world_step}
use Rattle.world_core.specs.declared.event.Event.{Event}
use Rattle.world_core.specs.declared.event.Said.{Said}
use Rattle.world_core.specs.declared.event.WorldNo.{WorldNo}

-- an event, and the thread that makes it happen
pub record ThreadEvent : Type 0 where
  pub thread : ℕ
  pub event : Event

-- the world after an event; as it was where the step is not defined
abbrev pub after_event : Modelling → WorldState → ThreadEvent → WorldState
after_event K w x =
    option_map_or (λ (h : Happening). h.world) (world_step K w x.thread x.event) w

-- the world after all of them
abbrev pub world_after : Modelling → WorldState → List ThreadEvent → WorldState
world_after K w [] = w
world_after K w (x ∷ xs) = world_after K (after_event K w x) xs

-- their answers, in order, up to the first whose step is not defined
abbrev pub answers_of : Modelling → WorldState → List ThreadEvent → List (Result Said WorldNo)
answers_of K w [] = []
answers_of K w (x ∷ xs) =
    option_map_or (λ (h : Happening). h.answer ∷ answers_of K h.world xs)
    (world_step K w x.thread x.event) []

-- each of them may happen when the ones before it have
abbrev pub EachMayHappen : Modelling → WorldState → List ThreadEvent → Type 0
EachMayHappen K w [] = Unit {0}
EachMayHappen K w (x ∷ xs) =
    MayHappen K w x.thread x.event × EachMayHappen K (after_event K w x) xs

abbrev pub entry_asked : Result Entry WorldNo → Option Entry
entry_asked (Ok e) = Some e
entry_asked (Err e) = None

-- the entry of the event, where it is an event on partition p and has one
abbrev pub entry_on : WorldState → ℕ → ThreadEvent → Option Entry
entry_on w p x =
    if partition_of x.event == p
    then entry_asked (entry_of (partition_at w p).state w.blocks x.thread x.event) else None

-- the entries of the events on partition p, in order
abbrev pub entries_on : Modelling → WorldState → ℕ → List ThreadEvent → List Entry
entries_on K w p [] = []
entries_on K w p (x ∷ xs) = cons_option (entry_on w p x) (entries_on K (after_event K w x) p xs)
