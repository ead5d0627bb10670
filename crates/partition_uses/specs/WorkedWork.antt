-- Journals of partition 1 with pairs, and how much a mark and a goto may take after them.
use Rattle.std.specs.Prelude.{ℕ, pos, List, [], ◌∷◌, ◌++◌, Option, option_map}
use Rattle.pk_base.specs.Blocks.{tag}
use Rattle.pk_base.specs.declared.act.Act.TheVariants as act
use Rattle.pk_base.specs.declared.act.Entry.{Entry}
use Rattle.pk_base.specs.declared.act.Entry.TheVariants.{Claimed, Did}
use Rattle.pk_base.specs.declared.call.Call.TheVariants.{Mvfs}
use Rattle.pk_model.specs.State.{PartitionState}
use Rattle.pk_model.specs.Replay.{replay}
use Rattle.partition.specs.Work.{load, work}
use Rattle.partition_uses.specs.PairBodies.{pair_bodies}

-- thread 1 makes a pair, which takes two tags
abbrev pub pair : Entry
pair = Did 1 (act.Call (Mvfs (record { x = pos 0; y = pos 0; z = pos 0 })))

-- it makes a mark, which takes one
abbrev pub mark : Entry
mark = Did 1 act.Mark

-- it goes to the mark of this number
abbrev pub to : ℕ → Entry
to n = Did 1 (act.Goto (tag n))

-- it deletes the mark of this number
abbrev pub unmark : ℕ → Entry
unmark n = Did 1 (act.Unmark (tag n))

-- the load after these entries of thread 1
abbrev pub load_of : List Entry → ℕ
load_of entries = load pair_bodies 1 (Claimed 1 ∷ entries)

-- the work to the mark of this number after them
abbrev pub work_to : ℕ → List Entry → Option ℕ
work_to n entries =
    option_map (λ (s : PartitionState). work s (tag n)) (replay pair_bodies 1 (Claimed 1 ∷ entries))

-- a pair, the mark 67, and a pair behind it
abbrev pub behind_a_mark : List Entry
behind_a_mark = pair ∷ mark ∷ pair ∷ []

-- Two branches below the mark 67: the mark 70 with a pair, and the mark 73 with a pair, behind
-- which is another pair.
abbrev pub two_branches : List Entry
two_branches = behind_a_mark ++ mark ∷ to 67 ∷ pair ∷ mark ∷ pair ∷ []
