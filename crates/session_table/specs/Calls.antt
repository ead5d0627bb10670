-- What each call makes of its seat, as contracts see it.
use Rattle.std.specs.Prelude.{◌≡◌, ◌≢◌, ℕ, ◌+◌, ◌<◌, ◌≤◌, Bool, cond, ◌==◌, [], Option, Some, None}
use Rattle.std.specs.List.{AllByRecursion}
use Rattle.std.proofs.Common.{ap, eq-eqb, ne_eqb}
use Rattle.session_table.specs.declared.view.Note.{Note}
use Rattle.session_table.specs.declared.view.View.{View}
use Rattle.session_table.specs.declared.claims.Claim.{Claim}
use Rattle.session_table.specs.declared.claims.Claim.TheVariants.{Won, HeldBy}
use Rattle.session_table.specs.declared.draws.Next.{Next}
use Rattle.session_table.specs.declared.draws.Next.TheVariants.{Free, Past}
use Rattle.session_table.specs.declared.draws.Drawn.{Drawn}
use Rattle.session_table.specs.declared.draws.Drawn.TheVariants as drawn
use Rattle.session_table.specs.Entries.{only, StartsWith, longer}
use Rattle.session_table.specs.Named.{Named}
use Rattle.session_table.specs.Seats.{seen_of, mine_of, note_of}
use Rattle.session_table.specs.Steps.{noted, looked_at, let_go, may_draw, passed, drew, made_one, newcomer, joined_by}
use Rattle.session_table.specs.Slots.{IsNoted}
use Rattle.session_table.specs.Tells.{IsNextBlock}
use Rattle.session_table.specs.Faces.{Face}

-- the slots, where slot p has this
abbrev pub with_slot : (ℕ → Option (Option Named)) → ℕ → Option (Option Named)
    → ℕ → Option (Option Named)
with_slot slots p x q = cond (p == q) x (slots q)

pub slot_here : (slots : ℕ → Option (Option Named)) (p q : ℕ) (x : Option (Option Named)) → p ≡ q
    → with_slot slots p x q ≡ x
slot_here slots p q x e = ap (λ (b : Bool). cond b x (slots q)) (eq-eqb p q e)

pub slot_there : (slots : ℕ → Option (Option Named)) (p q : ℕ) (x : Option (Option Named)) → p ≢ q
    → with_slot slots p x q ≡ slots q
slot_there slots p q x ne = ap (λ (b : Bool). cond b x (slots q)) (ne_eqb p q ne)

-- The claim of p has won. The journal that it found begins with all that the seat had seen of it,
-- and has of the seat just the entries that it had made. Slot p has the partition.
pub record HasWon (old : Face) (p : ℕ) (new : Face) : Type 0 where
  pub note : Note
  pub seen : StartsWith note.journal (seen_of old.view p)
  pub mine : mine_of old.view p ≡ only old.view.number note.journal
  pub seat : new ≡ record {
    view = noted old.view p note;
    slots = with_slot old.slots p (Some (Some (record
        { number = p; holder = None; blocks = note.blocks; journal = note.journal })));
  }

-- the claim of p has read that another seat held it
pub record HasLost (old : Face) (p holder : ℕ) (new : Face) : Type 0 where
  pub other : holder ≢ old.view.number
  pub few : holder ≤ 65534
  pub seat : new ≡ record old { view = looked_at old.view p holder }

abbrev pub Claims : Face → ℕ → Claim → Face → Type 0
Claims old p Won new = HasWon old p new
Claims old p (HeldBy holder) new = HasLost old p holder new

-- how many slots a seat holds more
abbrev pub slots_taken : Claim → ℕ
slots_taken Won = 1
slots_taken (HeldBy holder) = 0

abbrev pub IsEmpty : Face → ℕ → Type 0
IsEmpty seat p = seat.slots p ≡ Some None

abbrev pub IsFilled : Face → ℕ → Type 0
IsFilled seat p = (x : Named) × (seat.slots p ≡ Some (Some x))

-- this is a partition on which the seat has its note on p
abbrev pub IsNotedBy : View → ℕ → Named → Type 0
IsNotedBy v p x = (note : Note) × (note_of v p ≡ Some note) × IsNoted v.number p note x

-- the partition that was in slot p was taken out
pub record TakesOut (old : Face) (p : ℕ) (x : Named) (new : Face) : Type 0 where
  pub was : old.slots p ≡ Some (Some x)
  pub noted : IsNotedBy old.view p x
  pub seat : new ≡ record old { slots = with_slot old.slots p (Some None) }

-- the partition was put into slot p
abbrev pub PutsIn : Face → ℕ → Named → Face → Type 0
PutsIn old p x new = new ≡ record old { slots = with_slot old.slots p (Some (Some x)) }

-- p was let go: the seat has seen the journal of the partition in slot p
pub record LetsGo (old : Face) (p : ℕ) (new : Face) : Type 0 where
  pub left : Named
  pub was : old.slots p ≡ Some (Some left)
  pub seat : new ≡ record {
    view = let_go old.view p left.journal;
    slots = with_slot old.slots p None;
  }

-- The next block was read, and it is above the last. It is above it by no more than there may be
-- seats, and no number that the seat kept is greater.
pub record HasPassed (old : Face) (next : ℕ) (new : Face) : Type 0 where
  pub above : old.view.bounds.last < next
  pub near : next ≤ old.view.bounds.last + 65535
  pub greatest : (m : ℕ) → old.view.past ≡ Some m → m ≤ next
  pub seat : new ≡ record old { view = passed old.view next }

abbrev pub Looks : Face → Next → Face → Type 0
Looks old Free new = new ≡ record old { view = may_draw old.view }
Looks old (Past next) new = HasPassed old next new

-- The block was drawn for p. It is none of those that the partitions begin with, at most the last,
-- above each block that p has, and stood in no partition.
pub record HasDrawn (old : Face) (p block : ℕ) (new : Face) : Type 0 where
  pub note : Note
  pub noted : note_of old.view p ≡ Some note
  pub fresh : old.view.bounds.partitions < block
  pub within : block ≤ old.view.bounds.last
  pub highest : AllByRecursion (λ b. b < block) note.blocks
  pub next : IsNextBlock old.view block
  pub seat : new ≡ record old { view = drew old.view p note block }

abbrev pub Draws : Face → ℕ → Drawn → Face → Type 0
Draws old p (drawn.Block block) new = HasDrawn old p block new
Draws old p (drawn.Past next) new = HasPassed old next new

-- root has made one seat more
abbrev pub Makes : Face → Face → Type 0
Makes old new = new ≡ record old { view = made_one old.view }

-- the seat is the next one that root makes: it has seen what root has seen, and has done and holds
-- nothing
pub record IsNew (root : View) (seat : Face) : Type 0 where
  pub is : seat ≡ record { view = newcomer root; slots = λ p. None }
  pub seen : (p : ℕ) → seen_of seat.view p ≡ seen_of root p
  pub mine : (p : ℕ) → mine_of seat.view p ≡ []
  pub notes : (p : ℕ) → note_of seat.view p ≡ None

-- Root has joined the seat. Of what the two have seen of a partition the shorter begins the longer,
-- and root has seen the longer.
pub record Joins (old : Face) (child : View) (new : Face) : Type 0 where
  pub root : new ≡ record old { view = joined_by old.view child }
  pub seen : (p : ℕ) → seen_of new.view p ≡ longer (seen_of old.view p) (seen_of child p)
  pub both : (p : ℕ) → StartsWith (seen_of new.view p) (seen_of old.view p)
      × StartsWith (seen_of new.view p) (seen_of child p)
  pub mine : (p : ℕ) → mine_of new.view p ≡ mine_of old.view p
  pub notes : (p : ℕ) → note_of new.view p ≡ note_of old.view p
