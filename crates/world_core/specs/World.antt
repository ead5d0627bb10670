-- The world: several partitions with their journals, and the blocks that they draw from.
use Rattle.std.specs.Prelude.{◌≡◌, ℕ, ◌+◌, ◌-◌, ◌≤◌, List, [], ◌∷◌, ◌++◌, map, length, slice_index_or, slice_set, Option, Some, None, option_map, Result, Ok, Err, refl}
use Rattle.std.specs.List.{range_with_len}
use Rattle.std.specs.Coded.{Coded, code_by, coded×, coded_ℕ, coded_list}
use Rattle.pk_base.specs.contracts.act.Entry as entries
use Rattle.pk_base.specs.declared.act.Entry.{Entry}
use Rattle.pk_model.specs.Codes.{state_code}
use Rattle.pk_model.specs.State.{PartitionState, opening}
use Rattle.pk_model.specs.Modelling.{Modelling}
use Rattle.pk_model.specs.Step.{step, Stepped}
use Rattle.pk_model.specs.Replay.{drawn_block}
use Rattle.world_core.specs.Event.{Supply, MayDo, UnlessNoMemory, entry_of, said_of, partition_of}
use Rattle.world_core.specs.declared.event.Event.{Event}
use Rattle.world_core.specs.declared.event.Said.{Said}
use Rattle.world_core.specs.declared.event.WorldNo.{WorldNo}

-- a partition's state, and its journal
pub record WorldPartition : Type 0 where
  pub state : PartitionState
  pub journal : List Entry

abbrev pub partition_code : Coded WorldPartition
partition_code =
    code_by (PartitionState × List Entry) (coded× state_code (coded_list entries.the_row.coded))
    (λ q. (q.state, q.journal)) (λ x. record { state = x.0; journal = x.1 }) (λ _. refl)

-- The partitions 1, 2 and so on; the blocks that they draw from; and how many threads there are,
-- which are numbered from 1.
pub record WorldState : Type 0 where
  pub partitions : List WorldPartition
  pub blocks : Supply
  pub threads : ℕ

abbrev pub world_code : Coded WorldState
world_code =
    code_by (List WorldPartition × (ℕ × (ℕ × ℕ)))
    (coded× (coded_list partition_code) (coded× coded_ℕ (coded× coded_ℕ coded_ℕ)))
    (λ w. (w.partitions, (w.blocks.next, (w.blocks.last, w.threads))))
    (λ x. record {
      partitions = x.0;
      blocks = record { next = x.1.0; last = x.1.1.0 };
      threads = x.1.1.1;
    }) (λ _. refl)

-- partition p at its beginning
abbrev pub opened : ℕ → WorldPartition
opened p = record { state = opening p; journal = [] }

-- The world of n partitions at its beginning: partition p owns block p, and the next block is
-- n + 1.
abbrev pub beginning : ℕ → ℕ → ℕ → WorldState
beginning n last threads = record {
  partitions = map opened (range_with_len 1 n);
  blocks = record { next = n + 1; last = last };
  threads = threads;
}

-- partition p of the world
abbrev pub partition_at : WorldState → ℕ → WorldPartition
partition_at w p = slice_index_or w.partitions (p - 1) (opened p)

-- The event of thread t may happen: thread and partition are of this world, and the thread may do
-- it to the partition.
pub record MayHappen (K : Modelling) (w : WorldState) (t : ℕ) (v : Event) : Type 0 where
  pub thread : (1 ≤ t) × (t ≤ w.threads)
  pub partition : (1 ≤ partition_of v) × (partition_of v ≤ length w.partitions)
  pub may : MayDo K (partition_at w (partition_of v)).state w.blocks t v

-- the blocks that may be drawn once this one was, or none
abbrev pub after_draw : Supply → Option ℕ → Supply
after_draw blocks None = blocks
after_draw blocks (Some b) = record blocks { next = blocks.next + 1 }

-- the world where the journal of partition p has the entry more, whose step leads to this state
abbrev pub with_entry : WorldState → ℕ → Entry → PartitionState → WorldState
with_entry w p e s = record {
  partitions = slice_set w.partitions (p - 1)
      (record { state = s; journal = (partition_at w p).journal ++ e ∷ [] });
  blocks = after_draw w.blocks (drawn_block e);
  threads = w.threads;
}

-- the world after an event, and what it answers
pub record Happening : Type 0 where
  pub world : WorldState
  pub answer : Result Said WorldNo

-- what happens where partition p has the entry more, by this step
abbrev pub happening_by : WorldState → ℕ → Entry → Stepped → Happening
happening_by w p e r = record {
  world = with_entry w p e r.state;
  answer = said_of e r.answer;
}

-- What happens where an event on partition p appends this entry; nothing where the step of the
-- entry is not defined. An event that appends none changes nothing.
abbrev pub step_by : Modelling → WorldState → ℕ → Result Entry WorldNo → Option Happening
step_by K w p (Ok e) = option_map (happening_by w p e) (step K (partition_at w p).state e)
step_by K w p (Err e) = Some (record { world = w; answer = Err e })

-- what the event of thread t gives
abbrev pub world_step : Modelling → WorldState → ℕ → Event → Option Happening
world_step K w t v =
    let p = partition_of v in
    step_by K w p (entry_of (partition_at w p).state w.blocks t v)

-- there are as many partitions and threads, and the last block is the same
pub record IsAsLarge (old new : WorldState) : Type 0 where
  pub partitions : length new.partitions ≡ length old.partitions
  pub threads : new.threads ≡ old.threads
  pub last : new.blocks.last ≡ old.blocks.last

-- The event of thread t happened with this answer; where memory ran out, nothing changed.
abbrev pub Happens : Modelling → WorldState → ℕ → Event → Result Said WorldNo → WorldState → Type 0
Happens K old t v answer new =
    UnlessNoMemory answer
    (world_step K old t v ≡ Some (record { world = new; answer = answer })) (new ≡ old)
