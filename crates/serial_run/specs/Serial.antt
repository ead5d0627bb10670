-- The run of a script by one thread: its threads take turns, each of which carries one line out in
-- the world.
use Rattle.std.specs.Prelude.{ℕ, zero, suc, ◌-◌, nat_le, if◌then◌else◌, List, [], ◌∷◌, ◌++◌, map, length, slice_get, replicate, slice_index_or, slice_set, Option, None, Some, Result, Err}
use Rattle.std.specs.List.{range_with_len, sum_by}
use Rattle.std.specs.Option.{option_map_or}
use Rattle.std.specs.Result.{result_map_both}
use Rattle.pk_base.specs.declared.tag.Tag.{Tag}
use Rattle.pk_base.specs.declared.entity.Name.{Name}
use Rattle.pk_base.specs.declared.act.Act.{Act}
use Rattle.pk_base.specs.declared.act.Reply.{Reply}
use Rattle.pk_base.specs.declared.refusal.Refusal.{Refusal}
use Rattle.pk_base.specs.declared.refusal.Refusal.TheVariants.{TagsSpent}
use Rattle.pk_model.specs.State.{PartitionState}
use Rattle.pk_model.specs.Modelling.{Modelling}
use Rattle.pk_model.specs.Step.{Reach, reach_of, short}
use Rattle.world_core.specs.declared.event.Event.{Event}
use Rattle.world_core.specs.declared.event.Event.TheVariants as event
use Rattle.world_core.specs.World.{WorldState, beginning, partition_at}
use Rattle.world_core.specs.Runs.{ThreadEvent, after_event}
use Rattle.world_core.specs.Session.{journals_of}
use Rattle.script_text.specs.Walk.{act_with_tags, refusal_of_order, said_of, with_held, without_held}
use Rattle.script_text.specs.declared.script.Script.{Script}
use Rattle.script_text.specs.declared.script.ScriptLine.{ScriptLine}
use Rattle.script_text.specs.declared.script.Order.{Order}
use Rattle.script_text.specs.declared.script.Order.TheVariants.{Lock, Unlock, End, On}
use Rattle.script_text.specs.declared.report.Report.{Report}
use Rattle.script_text.specs.declared.report.LineSaid.{LineSaid}
use Rattle.script_text.specs.declared.report.LineSaid.TheVariants.{Locked, Unlocked, Ended, Refused}
use Rattle.script_thread.specs.Thread.{ThreadState, fresh_thread, names_after, walker_now}

-- the world, and the threads 1, 2 and so on
pub record RunState : Type 0 where
  pub world : WorldState
  pub threads : List ThreadState

-- ---- an act

abbrev pub by : ℕ → Event → ThreadEvent
by t v = record { thread = t; event = v }

-- the world after draws, and the number of the one that found no block left
pub record Drawn : Type 0 where
  pub world : WorldState
  pub spent : Option ℕ

-- thread t draws so many blocks for partition p, one by one, until none is left
abbrev pub draws : Modelling → ℕ → ℕ → ℕ → WorldState → Drawn
draws K t p zero w = record { world = w; spent = None }
draws K t p (suc k) w =
    if nat_le w.blocks.next w.blocks.last
    then draws K t p k (after_event K w (by t (event.Draw p)))
    else record { world = w; spent = Some w.blocks.next }

-- what an act answers in this state
abbrev pub answer_of : Modelling → PartitionState → Act → Result Reply Refusal
answer_of K s a = result_map_both (λ (r : Reach). r.reply) (λ e. e) (reach_of K s a)

-- the world after an act, and its answer
pub record Acted : Type 0 where
  pub world : WorldState
  pub answer : Result Reply Refusal

-- an act on partition p is done; or it is given up, where a draw found this number
abbrev pub acts_by : Modelling → ℕ → ℕ → Act → WorldState → Option ℕ → Acted
acts_by K t p a w None = record {
  world = after_event K w (by t (event.Act p a));
  answer = answer_of K (partition_at w p).state a;
}
acts_by K t p a w (Some next) = record {
  world = after_event K w (by t (event.GiveUp p a next));
  answer = Err (TagsSpent next);
}

-- Thread t has drawn for an act on partition p. The act is done, or where no block was left it is
-- given up.
abbrev pub act_after : Modelling → ℕ → ℕ → Act → Drawn → Acted
act_after K t p a drawn = acts_by K t p a drawn.world drawn.spent

-- thread t does an act on partition p, for which it draws as many blocks as it is short of
abbrev pub acts : Modelling → ℕ → ℕ → Act → WorldState → Acted
acts K t p a w = act_after K t p a (draws K t p (short K (partition_at w p).state a) w)

-- ---- a line

-- what an order leaves, and what is said to it
pub record Carried : Type 0 where
  pub world : WorldState
  pub held : List ℕ
  pub names : List (Name × List Tag)
  pub said : LineSaid

-- the lock of a partition that is free
abbrev pub carry_claim : Modelling → ℕ → WorldState → ThreadState → ℕ → Carried
carry_claim K t w s p = record {
  world = after_event K w (by t (event.Claim p));
  held = with_held p s.held;
  names = s.names;
  said = Locked;
}

-- the lock of a partition with this holder, which waits where there is one
abbrev pub lock_by : Modelling → ℕ → WorldState → ThreadState → ℕ → Option ℕ → Option Carried
lock_by K t w s p None = Some (carry_claim K t w s p)
lock_by K t w s p (Some holder) = None

-- the lock of a partition, which waits where a thread holds it
abbrev pub carry_lock : Modelling → ℕ → WorldState → ThreadState → ℕ → Option Carried
carry_lock K t w s p = lock_by K t w s p (partition_at w p).state.holder

abbrev pub carry_unlock : Modelling → ℕ → WorldState → ThreadState → ℕ → Carried
carry_unlock K t w s p = record {
  world = after_event K w (by t (event.Release p));
  held = without_held p s.held;
  names = s.names;
  said = Unlocked;
}

-- the world after thread t released these partitions, one after another
abbrev pub released : Modelling → ℕ → List ℕ → WorldState → WorldState
released K t [] w = w
released K t (p ∷ ps) w = released K t ps (after_event K w (by t (event.Release p)))

abbrev pub carry_end : Modelling → ℕ → WorldState → ThreadState → Carried
carry_end K t w s =
    record { world = released K t s.held w; held = []; names = s.names; said = Ended s.held }

abbrev pub carry_act : Modelling → ℕ → WorldState → ThreadState → ℕ → Act → Option Name → Carried
carry_act K t w s p a bind =
    let done = acts K t p a w in
    record {
      world = done.world;
      held = s.held;
      names = names_after done.answer bind s.names;
      said = said_of done.answer;
    }

-- an order that is not turned away; nothing where it waits
abbrev pub carry : Modelling → ℕ → WorldState → ThreadState → Order → Option Carried
carry K t w s (Lock p) = carry_lock K t w s p
carry K t w s (Unlock p) = Some (carry_unlock K t w s p)
carry K t w s End = Some (carry_end K t w s)
carry K t w s (On p a operands bind) =
    Some (carry_act K t w s p (act_with_tags (walker_now s) a operands) bind)

-- an order that is turned away changes nothing
abbrev pub turned_away : WorldState → ThreadState → Refusal → Carried
turned_away w s r = record { world = w; held = s.held; names = s.names; said = Refused r }

-- an order that is turned away with this refusal, if it is
abbrev pub obey_by : Modelling → ℕ → WorldState → ThreadState → Order → Option Refusal
    → Option Carried
obey_by K t w s order None = carry K t w s order
obey_by K t w s order (Some r) = Some (turned_away w s r)

-- an order of thread t
abbrev pub obey : Modelling → ℕ → WorldState → ThreadState → Order → Option Carried
obey K t w s order =
    obey_by K t w s order (refusal_of_order (length w.partitions) (walker_now s) order)

-- ---- turns

-- thread t, if there is one
abbrev pub thread_at : List ThreadState → ℕ → Option ThreadState
thread_at threads t = if nat_le 1 t then slice_get threads (t - 1) else None

-- the lines of thread t
abbrev pub lines_at : List (List ScriptLine) → ℕ → List ScriptLine
lines_at threads t = slice_index_or threads (t - 1) []

-- the line behind those that were told
abbrev pub next_line : List ScriptLine → ThreadState → Option ScriptLine
next_line lines s = slice_get lines (length s.said)

-- the thread behind its line k, to which this was said
abbrev pub told : ThreadState → ℕ → Carried → ThreadState
told s k c = record {
  held = c.held;
  names = c.names;
  said = s.said ++ record { number = k; said = c.said } ∷ [];
}

-- thread t goes on behind its line k
abbrev pub goes_on : RunState → ℕ → ThreadState → ℕ → Carried → RunState
goes_on r t s k c =
    record { world = c.world; threads = slice_set r.threads (t - 1) (told s k c) }

-- thread t carries this line out, if there is one; a lock that waits changes nothing
abbrev pub line_by : Modelling → RunState → ℕ → ThreadState → Option ScriptLine → RunState
line_by K r t s None = r
line_by K r t s (Some line) =
    option_map_or (goes_on r t s line.number) (obey K t r.world s line.order) r

-- A turn of thread t carries its next line out. A lock that waits stays the next line, and a thread
-- that has ended has none.
abbrev pub turn_of : Modelling → List ScriptLine → RunState → ℕ → ThreadState → RunState
turn_of K lines r t s = line_by K r t s (next_line lines s)

-- a turn of thread t, which is this one, if there is one
abbrev pub turn_by : Modelling → List (List ScriptLine) → RunState → ℕ → Option ThreadState
    → RunState
turn_by K lines r t None = r
turn_by K lines r t (Some s) = turn_of K (lines_at lines t) r t s

-- a turn of thread t, if there is one; the threads have these lines
abbrev pub turn : Modelling → List (List ScriptLine) → RunState → ℕ → RunState
turn K lines r t = turn_by K lines r t (thread_at r.threads t)

-- turns of these threads, one after another
abbrev pub turns : Modelling → List (List ScriptLine) → RunState → List ℕ → RunState
turns K lines r [] = r
turns K lines r (t ∷ ts) = turns K lines (turn K lines r t) ts

-- so many rounds, in each of which every thread has a turn, from thread 1 on
abbrev pub rounds : Modelling → List (List ScriptLine) → RunState → ℕ → RunState
rounds K lines r zero = r
rounds K lines r (suc k) = rounds K lines (turns K lines r (range_with_len 1 (length lines))) k

-- ---- a script

-- the world and the threads before the first turn
abbrev pub run_begins : Script → RunState
run_begins script = record {
  world = beginning script.n script.last (length script.threads);
  threads = replicate (length script.threads) fresh_thread;
}

-- how many lines the threads have
abbrev pub line_count : List (List ScriptLine) → ℕ
line_count threads = sum_by length threads

-- The turns of the schedule, and then as many rounds as there are lines. By then all threads have
-- ended.
abbrev pub run_of : Modelling → Script → RunState
run_of K script =
    rounds K script.threads (turns K script.threads (run_begins script) script.schedule)
    (line_count script.threads)

-- the report of a run
abbrev pub report_of : ℕ → ℕ → RunState → Report
report_of n last r = record {
  n = n;
  last = last;
  threads = map (λ (s : ThreadState). s.said) r.threads;
  journals = journals_of r.world;
}

-- the report of the script whose threads run by turns
abbrev pub serial : Modelling → Script → Report
serial K script = report_of script.n script.last (run_of K script)
