-- What a session leaves when it ends.
use Rattle.std.specs.Prelude.{◌≡◌, ℕ, ◌+◌, ◌<◌, ◌≤◌, List, [], map, length, Some, None, slice_get, IsPermutation}
use Rattle.std.specs.List.{filter_map, range_with_len, AllByRecursion}
use Rattle.pk_base.specs.declared.act.Entry.{Entry}
use Rattle.pk_model.specs.Modelling.{Modelling}
use Rattle.pk_model.specs.Replay.{replay, drawn_block}
use Rattle.pk_model.specs.Sessions.{drawn_in}
use Rattle.partition.specs.Partition.{PartitionView}
use Rattle.session_table.specs.declared.view.Joined.{Joined}
use Rattle.session_table.specs.Entries.{only, StartsWith}
use Rattle.session_table.specs.Seats.{line_in, seen_of, mine_of, joined_as}
use Rattle.pk_session.specs.Views.{SeatView}

-- The partition p as root leaves it. Nobody holds it. Its journal begins with what root has seen of
-- it, and has of root and of each joined seat just what that seat kept, and nothing else. Its state
-- is the replay of the journal, and each block that was drawn for it is one of the session's.
pub record IsLeft (K : Modelling) (root : SeatView) (p : ℕ) (x : PartitionView) : Type 0 where
  pub number : x.number ≡ p
  pub free : x.state.holder ≡ None
  pub replays : replay K p x.journal ≡ Some x.state
  pub seen : StartsWith x.journal (seen_of root.view p)
  pub mine : mine_of root.view p ≡ only 0 x.journal
  pub joined : (s : ℕ) (j : Joined) → joined_as root.view.joined s ≡ Some j
      → (line_in j.lines p).mine ≡ only s x.journal
  pub others : (s : ℕ) → root.view.made < s → only s x.journal ≡ []
  pub drawn : AllByRecursion
      (λ b. (root.session.bounds.partitions < b) × (b ≤ root.session.bounds.last))
      (filter_map drawn_block x.journal)

abbrev pub journals_of : List PartitionView → List (List Entry)
journals_of partitions = map (λ x. x.journal) partitions

-- The partitions that root leaves, in order. The blocks drawn in all journals are so many, from the
-- one behind the partitions on, each once; where root keeps a number above the last block, they run
-- to the last.
pub record Leaves (K : Modelling) (root : SeatView) (partitions : List PartitionView) : Type 0 where
  pub count : length partitions ≡ root.session.bounds.partitions
  pub each : (i : ℕ) (x : PartitionView) → slice_get partitions i ≡ Some x → IsLeft K root (i + 1) x
  pub drawn : ℕ
  pub within : root.session.bounds.partitions + drawn ≤ root.session.bounds.last
  pub blocks : IsPermutation (drawn_in (journals_of partitions))
      (range_with_len (root.session.bounds.partitions + 1) drawn)
  pub spent : (m : ℕ) → root.view.past ≡ Some m
      → root.session.bounds.partitions + drawn ≡ root.session.bounds.last
