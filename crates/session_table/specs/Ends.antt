-- What a session leaves when it ends.
use Rattle.std.specs.Prelude.{◌≡◌, ℕ, ◌+◌, ◌<◌, ◌≤◌, List, [], length, Some, None, IsSome, slice_get}
use Rattle.std.specs.List.{flat_map}
use Rattle.session_table.specs.declared.view.Joined.{Joined}
use Rattle.session_table.specs.declared.view.View.{View}
use Rattle.session_table.specs.Entries.{only, StartsWith}
use Rattle.session_table.specs.Named.{Named}
use Rattle.session_table.specs.Seats.{line_in, seen_of, mine_of, note_of, joined_as}
use Rattle.session_table.specs.Rule.{times}

-- the seat holds no partition
abbrev pub HoldsNothing : View → Type 0
HoldsNothing v = (p : ℕ) → note_of v p ≡ None

-- root has joined each seat that it has made
abbrev pub HasJoinedAll : View → Type 0
HasJoinedAll v = (s : ℕ) → 1 ≤ s → s ≤ v.made → IsSome (joined_as v.joined s)

-- The partition p as root leaves it. Nobody holds it. Its journal begins with what root has seen of
-- it, and has of root and of each joined seat just what that seat kept, and nothing else.
pub record IsLeft (v : View) (p : ℕ) (x : Named) : Type 0 where
  pub number : x.number ≡ p
  pub free : x.holder ≡ None
  pub seen : StartsWith x.journal (seen_of v p)
  pub root : mine_of v p ≡ only 0 x.journal
  pub joined : (s : ℕ) (j : Joined) → joined_as v.joined s ≡ Some j
      → (line_in j.lines p).mine ≡ only s x.journal
  pub others : (s : ℕ) → v.made < s → only s x.journal ≡ []

-- each block from 1 to the last that is below the next one stands once in the list, and no other
-- block does
pub record StandOnce (blocks : List ℕ) (last next : ℕ) : Type 0 where
  pub once : (b : ℕ) → 1 ≤ b → b ≤ last → b < next → times b blocks ≡ 1
  pub not_zero : times 0 blocks ≡ 0
  pub not_past : (b : ℕ) → last < b → times b blocks ≡ 0
  pub not_next : (b : ℕ) → next ≤ b → times b blocks ≡ 0

-- The partitions that root leaves, in order, and the next block. Where root keeps a number above
-- the last, the next block is above the last too, so that each block up to the last stands once.
pub record Leaves {X : Type 0} (named : X → Named) (v : View) (partitions : List X) : Type 0 where
  pub count : length partitions ≡ v.bounds.partitions
  pub each : (i : ℕ) (x : X) → slice_get partitions i ≡ Some x → IsLeft v (i + 1) (named x)
  pub next : ℕ
  pub begun : v.bounds.partitions < next
  pub drawn : StandOnce (flat_map (λ x. (named x).blocks) partitions) v.bounds.last next
  pub past : (m : ℕ) → v.past ≡ Some m → (v.bounds.last < m) × (m ≤ next)
