-- What a visit to a partition leaves: the entries that the seat has written there, and no others.
use Rattle.std.specs.Prelude.{◌≡◌, ◌≢◌, ◌⊎◌, ℕ, ◌<◌, ◌≤◌, List, [], ◌∷◌, ◌++◌, Option, None, Some, Result, Ok, Err}
use Rattle.std.specs.declared.alloc.AllocError.{AllocError}
use Rattle.pk_base.specs.declared.act.Entry.{Entry}
use Rattle.pk_base.specs.declared.act.Entry.TheVariants.{Claimed, Drew, Released}
use Rattle.session_table.specs.declared.view.Bounds.{Bounds}
use Rattle.session_table.specs.declared.view.View.{View}
use Rattle.session_table.specs.declared.claims.Claim.{Claim}
use Rattle.session_table.specs.declared.claims.Claim.TheVariants.{Won, HeldBy}
use Rattle.session_table.specs.Entries.{only, StartsWith}
use Rattle.session_table.specs.Seats.{line_in, seen_of, mine_of}
use Rattle.session_table.specs.Faces.{Face}
use Rattle.session_table.specs.Calls.{HasLost}

-- the entry of the block that the seat s has drawn, if it has drawn one
abbrev pub drawing : ℕ → Option ℕ → List Entry
drawing s None = []
drawing s (Some block) = Drew s block ∷ []

-- all that the seat s writes on a visit: the claim, at most one block, and the release
abbrev pub visit_of : ℕ → Option ℕ → List Entry
visit_of s drawn = Claimed s ∷ (drawing s drawn ++ Released s ∷ [])

-- the block, if there is one, is none with which the session begins, and at most the last
abbrev pub CanBeDrawn : Bounds → Option ℕ → Type 0
CanBeDrawn bounds None = Unit {0}
CanBeDrawn bounds (Some block) = (bounds.partitions < block) × (block ≤ bounds.last)

-- what the seat keeps of other partitions stands
abbrev pub KeepsOthers : View → ℕ → View → Type 0
KeepsOthers old p new = (q : ℕ) → q ≢ p → line_in new.lines q ≡ line_in old.lines q

-- The seat has left p with these entries behind the journal that its claim found. That journal
-- begins with all that the seat had seen of p, and has of the seat just what it had done.
pub record HasLeft (old : View) (p : ℕ) (entries : List Entry) (new : View) : Type 0 where
  pub found : List Entry
  pub begins : StartsWith found (seen_of old p)
  pub mine : mine_of old p ≡ only old.number found
  pub seen : seen_of new p ≡ found ++ entries
  pub done : mine_of new p ≡ only old.number (seen_of new p)
  pub others : KeepsOthers old p new

-- a whole visit
pub record HasVisited (old : View) (p : ℕ) (new : View) : Type 0 where
  pub drawn : Option ℕ
  pub block : CanBeDrawn old.bounds drawn
  pub left : HasLeft old p (visit_of old.number drawn) new

-- Without memory a visit ends before its claim, and the seat is as it was; or after it, and the
-- seat has written nothing.
abbrev pub Visits : Face → ℕ → Result Claim AllocError → Face → Type 0
Visits old p (Ok Won) new = HasVisited old.view p new.view
Visits old p (Ok (HeldBy holder)) new = HasLost old p holder new
Visits old p (Err failed) new = (new ≡ old) ⊎ HasLeft old.view p [] new.view
