-- The rule that the words, the slots and the views of a session keep between any two steps. Word 0
-- is the next block. Word p is 0 where the partition p is free, and else 1 more than its holder's
-- number. A free partition lies in slot p; what a holder has of slot p stands beside its view. A
-- spent view is no seat, and the rule says nothing of it.
use Rattle.std.specs.Prelude.{◌≡◌, ◌≢◌, ◌⊎◌, ℕ, zero, suc, ◌+◌, ◌^◌, ◌<◌, ◌≤◌, false, cond, ◌==◌, List, [], ◌∷◌, length, slice_index, Option, Some, None, IsSome}
use mathlib.Core.Option.{some, none}
use lib.ListN.{get_elem?}
use Rattle.atomic_table.specs.Table.{State}
use Rattle.pk_base.specs.declared.act.Entry.{Entry}
use Rattle.session_table.specs.declared.view.Bounds.{Bounds}
use Rattle.session_table.specs.declared.view.Note.{Note}
use Rattle.session_table.specs.declared.view.Joined.{Joined}
use Rattle.session_table.specs.declared.view.View.{View}
use Rattle.session_table.specs.Entries.{only, StartsWith}
use Rattle.session_table.specs.Named.{Named}
use Rattle.session_table.specs.Seats.{line_in, seen_of, mine_of, note_of, joined_as}

-- a view that is not spent, at its place
abbrev pub IsSeat : List View → ℕ → View → Type 0
IsSeat views id v = (get_elem? views id ≡ some v) × (v.spent ≡ false)

abbrev pub EachSeat : List View → (View → Type 0) → Type 0
EachSeat views P = (id : ℕ) (v : View) → IsSeat views id v → P v

-- some seat has this number
abbrev pub IsSeated : List View → ℕ → Type 0
IsSeated views number = (id : ℕ) × (v : View) × IsSeat views id v × (v.number ≡ number)

-- How a partition stands: who holds it, and its journal and blocks, as they lie at home or else as
-- its holder's note has them. So its journal is the one at the holder's claim.
pub record Stand : Type 0 where
  pub holder : Option ℕ
  pub journal : List Entry
  pub blocks : List ℕ

-- the note of the seat s on a partition with this holder
abbrev pub note_for : Option ℕ → Note → ℕ → Option Note
note_for None note s = None
note_for (Some t) note s = cond (t == s) (Some note) None

abbrev pub note_on : Stand → ℕ → Option Note
note_on st s = note_for st.holder (record { journal = st.journal; blocks = st.blocks }) s

-- Where a partition lies: it is in its slot, has its number, and nobody holds it; or a seat holds
-- it, and it is not there.
pub record IsHome {X : Type 0} (named : X → Named) (s : State (Option X) View) (p : ℕ)
    (journal : List Entry) (blocks : List ℕ) : Type 0 where
  pub word : slice_index s.words p ≡ 0
  pub value : X
  pub slot : get_elem? s.homes p ≡ some (some (Some value))
  pub seen : named value ≡ record { number = p; holder = None; blocks = blocks; journal = journal }

pub record IsOut {X : Type 0} (s : State (Option X) View) (p holder : ℕ) : Type 0 where
  pub word : slice_index s.words p ≡ holder + 1
  pub slot : get_elem? s.homes p ≡ some none

abbrev pub Lies : {X : Type 0} → (X → Named) → State (Option X) View → ℕ → Option ℕ → List Entry
    → List ℕ → Type 0
Lies named s p None journal blocks = IsHome named s p journal blocks
Lies named s p (Some t) journal blocks = IsOut s p t

abbrev pub Stands : {X : Type 0} → (X → Named) → State (Option X) View → ℕ → Stand → Type 0
Stands named s p st = Lies named s p st.holder st.journal st.blocks

-- the holder of a partition, and no other seat, has a note on it, which is of how the partition
-- stands
abbrev pub HasNotes : (ℕ → Stand) → View → Type 0
HasNotes book v = (p : ℕ) → note_of v p ≡ note_on (book p) v.number

-- What the seats have seen: it begins the journal, and a seat's own entries are those that it
-- keeps. No two seats have one number.
abbrev pub HasSeen : (ℕ → Stand) → View → Type 0
HasSeen book v = (p : ℕ) → StartsWith (book p).journal (seen_of v p)
    × (mine_of v p ≡ only v.number (book p).journal)

abbrev pub HaveNumbers : List View → Type 0
HaveNumbers views =
    (i j : ℕ) (v w : View) → IsSeat views i v → IsSeat views j w → v.number ≡ w.number → i ≡ j

-- Who made whom: root has the number 0, and it alone has made or joined seats. No seat has a number
-- that was not made, or that of a joined one.
abbrev pub Ranks : ℕ → List Joined → View → Type 0
Ranks made joined v =
    (v.number ≡ 0 → (v.made ≡ made) × (v.joined ≡ joined))
    × (v.number ≢ 0 → (v.made ≡ 0) × (v.joined ≡ []))
    × (v.number ≤ made)
    × (joined_as joined v.number ≡ None)

-- no two joined seats have one number
abbrev pub AreApart : List Joined → Type 0
AreApart [] = Unit {0}
AreApart (j ∷ js) = (joined_as js j.number ≡ None) × AreApart js

-- how much each of the views adds up to
abbrev pub total : (View → ℕ) → List View → ℕ
total f [] = 0
total f (v ∷ vs) = f v + total f vs

abbrev pub one_if_seat : View → ℕ
one_if_seat v = cond v.spent 0 1

abbrev pub one_if_pending : View → ℕ
one_if_pending v = cond v.spent 0 (cond v.pending 1 0)

-- Root is seated. Each number that was made is that of a seat or of a joined one, and of one only;
-- a joined seat did just what it kept, and a number that was not made did nothing.
pub record Roster (book : ℕ → Stand) (made : ℕ) (joined : List Joined)
    (views : List View) : Type 0 where
  pub root : IsSeated views 0
  pub present : (s : ℕ) → 1 ≤ s → s ≤ made → IsSeated views s ⊎ IsSome (joined_as joined s)
  pub counted : total one_if_seat views + length joined ≡ made + 1
  pub few : made ≤ 65534
  pub apart : AreApart joined
  pub numbered : (s : ℕ) → IsSome (joined_as joined s) → (1 ≤ s) × (s ≤ made)
  pub kept : (s : ℕ) (j : Joined) → joined_as joined s ≡ Some j
      → (p : ℕ) → (line_in j.lines p).mine ≡ only s (book p).journal
  pub seen : (s : ℕ) (j : Joined) → joined_as joined s ≡ Some j → (p : ℕ)
      → StartsWith (book p).journal (line_in j.lines p).seen
      × StartsWith (book p).journal (line_in j.found p).seen
  pub unmade : (s : ℕ) → made < s → (p : ℕ) → only s (book p).journal ≡ []

-- How often the block b stands in the lists of the partitions 1 to n
abbrev pub times : ℕ → List ℕ → ℕ
times b [] = 0
times b (x ∷ xs) = cond (x == b) 1 0 + times b xs

abbrev pub times_up_to : (ℕ → List ℕ) → ℕ → ℕ → ℕ
times_up_to blocks b zero = 0
times_up_to blocks b (suc n) = times b (blocks (suc n)) + times_up_to blocks b n

-- each block from 1 to the last that is below the next one stands once, and no other block stands
pub record DrawnOnce (blocks : ℕ → List ℕ) (bounds : Bounds) (next : ℕ) : Type 0 where
  pub once : (b : ℕ) → 1 ≤ b → b ≤ bounds.last → b < next
      → times_up_to blocks b bounds.partitions ≡ 1
  pub not_zero : times_up_to blocks 0 bounds.partitions ≡ 0
  pub not_past : (b : ℕ) → bounds.last < b → times_up_to blocks b bounds.partitions ≡ 0
  pub not_next : (b : ℕ) → next ≤ b → times_up_to blocks b bounds.partitions ≡ 0

-- the number that a seat keeps is above the last block, and was read
abbrev pub KeepsPast : Bounds → ℕ → View → Type 0
KeepsPast bounds next v = (m : ℕ) → v.past ≡ Some m → (bounds.last < m) × (m ≤ next)

-- The next block, and those that are about to be drawn, are above the last by no more than there
-- are seats, root and the joined ones included: a seat may draw once after each look that found a
-- block.
pub record Rule {X : Type 0} (named : X → Named) (bounds : Bounds)
    (s : State (Option X) View) : Type 0 where
  pub book : ℕ → Stand
  pub made : ℕ
  pub joined : List Joined
  pub words : length s.words ≡ bounds.partitions + 1
  pub slots : length s.homes ≡ bounds.partitions + 1
  pub few_blocks : bounds.last < 2 ^ 32
  pub begun : bounds.partitions < slice_index s.words 0
  pub session : EachSeat s.views (λ v. v.bounds ≡ bounds)
  pub stands : (p : ℕ) → 1 ≤ p → p ≤ bounds.partitions → Stands named s p (book p)
  pub holders : (p t : ℕ) → (book p).holder ≡ Some t → IsSeated s.views t
  pub notes : EachSeat s.views (HasNotes book)
  pub numbers : HaveNumbers s.views
  pub seen : EachSeat s.views (HasSeen book)
  pub ranks : EachSeat s.views (Ranks made joined)
  pub roster : Roster book made joined s.views
  pub drawn : DrawnOnce (λ p. (book p).blocks) bounds (slice_index s.words 0)
  pub next : slice_index s.words 0 + total one_if_pending s.views ≤ bounds.last + (made + 1)
  pub past : EachSeat s.views (KeepsPast bounds (slice_index s.words 0))
