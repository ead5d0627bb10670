-- Two worlds with vertex bodies, their events, and what each must answer.
use Rattle.std.specs.Prelude.{ℕ, pos, List, [], ◌∷◌, ◌++◌, map, replicate, Result, Ok, Err}
use Rattle.std.specs.List.{range_with_len}
use Rattle.pk_base.specs.Blocks.{tag}
use Rattle.pk_base.specs.declared.act.Act.{Act}
use Rattle.pk_base.specs.declared.act.Act.TheVariants as act
use Rattle.pk_base.specs.declared.act.Entry.{Entry}
use Rattle.pk_base.specs.declared.act.Entry.TheVariants.{Claimed, Drew, Did, Spent, Released}
use Rattle.pk_base.specs.declared.act.Reply.TheVariants.{Made}
use Rattle.pk_base.specs.declared.call.Call.TheVariants.{Mvfs}
use Rattle.pk_base.specs.declared.refusal.Refusal.TheVariants.{OutOfRange}
use Rattle.world_core.specs.World.{WorldState, beginning}
use Rattle.world_core.specs.Runs.{ThreadEvent}
use Rattle.world_core.specs.declared.event.Event.{Event}
use Rattle.world_core.specs.declared.event.Event.TheVariants as event
use Rattle.world_core.specs.declared.event.Said.{Said}
use Rattle.world_core.specs.declared.event.Said.TheVariants.{Done, Drew as DrewBlock, Reply}
use Rattle.world_core.specs.declared.event.WorldNo.{WorldNo}
use Rattle.world_core.specs.declared.event.WorldNo.TheVariants.{Refused, Blocked, Spent as NoneLeft}

-- the event of a thread
abbrev pub by : ℕ → Event → ThreadEvent
by t v = record { thread = t; event = v }

-- the act that makes a vertex body at (x, 0, 0)
abbrev pub vertex_body : ℕ → Act
vertex_body x = act.Call (Mvfs (record { x = pos x; y = pos 0; z = pos 0 }))

-- five tags from this one on were taken
abbrev pub made_five : ℕ → Result Said WorldNo
made_five first = Ok (Reply (Made (map tag (range_with_len first 5))))

-- One partition, whose block is the last, and two threads. The first one claims the partition,
-- makes twelve bodies, and gives a thirteenth up; the second one is blocked.
abbrev pub small_world : WorldState
small_world = beginning 1 1 2

abbrev pub small_events : List ThreadEvent
small_events =
    by 1 (event.Claim 1) ∷
    by 2 (event.Claim 1) ∷
    by 1 (event.Draw 1) ∷
    replicate 12 (by 1 (event.Act 1 (vertex_body 0))) ++
    by 1 (event.GiveUp 1 (vertex_body 0) 2) ∷
    by 1 (event.Release 1) ∷
    by 2 (event.Claim 1) ∷ []

abbrev pub small_answers : List (Result Said WorldNo)
small_answers =
    Ok Done ∷
    Err (Blocked 1) ∷
    Err (NoneLeft 2) ∷
    map made_five
    (65 ∷ 70 ∷ 75 ∷ 80 ∷ 85 ∷ 90 ∷ 95 ∷ 100 ∷ 105 ∷ 110 ∷ 115 ∷ 120 ∷ []) ++
    Ok Done ∷
    Ok Done ∷
    Ok Done ∷ []

abbrev pub small_journal : List Entry
small_journal =
    Claimed 1 ∷
    replicate 12 (Did 1 (vertex_body 0)) ++
    Spent 1 2 (vertex_body 0) ∷
    Released 1 ∷
    Claimed 2 ∷ []

-- Two partitions that draw from one block, and two threads. The second one draws it, and so the
-- first one finds none; its body is refused.
abbrev pub wide_world : WorldState
wide_world = beginning 2 3 2

abbrev pub wide_events : List ThreadEvent
wide_events =
    by 1 (event.Claim 1) ∷
    by 2 (event.Claim 2) ∷
    by 2 (event.Draw 2) ∷
    by 1 (event.Draw 1) ∷
    by 1 (event.Act 1 (vertex_body 1048577)) ∷
    by 2 (event.Release 2) ∷ []

abbrev pub wide_answers : List (Result Said WorldNo)
wide_answers =
    Ok Done ∷
    Ok Done ∷
    Ok (DrewBlock 3) ∷
    Err (NoneLeft 4) ∷
    Err (Refused (OutOfRange (pos 1048577))) ∷
    Ok Done ∷ []

abbrev pub wide_journals : List (List Entry)
wide_journals =
    (Claimed 1 ∷ Did 1 (vertex_body 1048577) ∷ []) ∷
    (Claimed 2 ∷ Drew 2 3 ∷ Released 2 ∷ []) ∷ []
