-- What each step tells its seat: of the seat before, the number that was read, and the seat after.
use Rattle.std.specs.Prelude.{◌≡◌, ◌≢◌, ℕ, ◌+◌, ◌<◌, ◌≤◌, List, ◌∷◌, Option, Some, None}
use Rattle.std.specs.List.{AllByRecursion}
use Rattle.atomic_table.specs.Table.{Me, Step, rest}
use Rattle.pk_base.specs.declared.act.Entry.{Entry}
use Rattle.session_table.specs.declared.view.Joined.{Joined}
use Rattle.session_table.specs.declared.view.Note.{Note}
use Rattle.session_table.specs.declared.view.View.{View}
use Rattle.session_table.specs.Entries.{only, StartsWith}
use Rattle.session_table.specs.Named.{Named}
use Rattle.session_table.specs.Seats.{line_in, seen_of, mine_of, note_of, joined_as}
use Rattle.session_table.specs.Rule.{times, DrawnOnce}
use Rattle.session_table.specs.Slots.{front}
use Rattle.session_table.specs.Steps.{noted, looked_at, let_go, may_draw, passed, drew}

abbrev pub Seated : Type 0 → Type 0
Seated X = Me (Option X) View

-- the note of a seat that finds this partition
abbrev pub note_from : Named → Note
note_from x = record { journal = x.journal; blocks = x.blocks }

-- the claim has won the partition p, which lies in its slot
pub record Wins {X : Type 0} (named : X → Named) (p : ℕ) (old new : Seated X) : Type 0 where
  pub value : X
  pub number : (named value).number ≡ p
  pub free : (named value).holder ≡ None
  pub seen : StartsWith (named value).journal (seen_of old.0 p)
  pub mine : mine_of old.0 p ≡ only old.0.number (named value).journal
  pub view : new.0 ≡ noted old.0 p (note_from (named value))
  pub slots : new.1 ≡ (p, Some value) ∷ old.1

-- the claim has found that another seat holds the partition p
pub record Loses {X : Type 0} (p found : ℕ) (old new : Seated X) : Type 0 where
  pub holder : ℕ
  pub read : found ≡ holder + 1
  pub other : holder ≢ old.0.number
  pub few : holder ≤ 65534
  pub view : new.0 ≡ looked_at old.0 p holder
  pub slots : new.1 ≡ old.1

abbrev pub claims : {X : Type 0} → (X → Named) → Step (Option X) → Seated X → ℕ → Seated X → Type 0
claims named st old found new =
    (found ≡ 0 → Wins named st.word old new) × (found ≢ 0 → Loses st.word found old new)

-- the partition in front, which is p, is let go
pub record Frees {X : Type 0} (named : X → Named) (p : ℕ) (old new : Seated X) : Type 0 where
  pub value : X
  pub was : old.1 ≡ (p, Some value) ∷ rest old.1
  pub view : new.0 ≡ let_go old.0 p (named value).journal
  pub slots : new.1 ≡ rest old.1

abbrev pub frees : {X : Type 0} → (X → Named) → Step (Option X) → Seated X → ℕ → Seated X → Type 0
frees named st old stored new = Frees named st.word old new

-- the next block is this one, which is above the last, and above the last by no more than there may
-- be seats
pub record Passes {X : Type 0} (next : ℕ) (old new : Seated X) : Type 0 where
  pub above : old.0.bounds.last < next
  pub near : next ≤ old.0.bounds.last + 65535
  pub greatest : (m : ℕ) → old.0.past ≡ Some m → m ≤ next
  pub view : new.0 ≡ passed old.0 next
  pub slots : new.1 ≡ old.1

pub record Looks {X : Type 0} (old new : Seated X) : Type 0 where
  pub view : new.0 ≡ may_draw old.0
  pub slots : new.1 ≡ old.1

abbrev pub looks : {X : Type 0} → Step (Option X) → Seated X → ℕ → Seated X → Type 0
looks st old found new =
    (found ≤ old.0.bounds.last → Looks old new) × (old.0.bounds.last < found → Passes found old new)

-- How the blocks stood when the next one was drawn: the seat's notes are of these lists, each block
-- below the next one stood in one of them, once, and the next one stood in none.
pub record IsNextBlock (v : View) (block : ℕ) : Type 0 where
  pub blocks : ℕ → List ℕ
  pub noted : (p : ℕ) (note : Note) → note_of v p ≡ Some note → blocks p ≡ note.blocks
  pub drawn : DrawnOnce blocks v.bounds block
  pub nowhere : (p : ℕ) → 1 ≤ p → p ≤ v.bounds.partitions → times block (blocks p) ≡ 0

-- the block is drawn for the partition p: it is above all that a session begins with, above all
-- that p has, and stood in no partition
pub record Draws {X : Type 0} (p block : ℕ) (old new : Seated X) : Type 0 where
  pub note : Note
  pub noted : note_of old.0 p ≡ Some note
  pub fresh : old.0.bounds.partitions < block
  pub within : block ≤ old.0.bounds.last
  pub highest : AllByRecursion (λ b. b < block) note.blocks
  pub next : IsNextBlock old.0 block
  pub view : new.0 ≡ drew old.0 p note block
  pub slots : new.1 ≡ old.1

abbrev pub draws : {X : Type 0} → Step (Option X) → Seated X → ℕ → Seated X → Type 0
draws st old found new =
    (found ≤ old.0.bounds.last → Draws (front old.1) found old new)
    × (old.0.bounds.last < found → Passes found old new)

-- nothing changes, and what a joined seat had seen of a partition and what root had seen of it then
-- begin one journal
pub record Meets {X : Type 0} (old new : Seated X) : Type 0 where
  pub same : new ≡ old
  pub one : (s : ℕ) (j : Joined) → joined_as old.0.joined s ≡ Some j → (p : ℕ)
      → (journal : List Entry) × StartsWith journal (line_in j.lines p).seen
      × StartsWith journal (line_in j.found p).seen

abbrev pub meets : {X : Type 0} → Step (Option X) → Seated X → ℕ → Seated X → Type 0
meets st old found new = Meets old new
