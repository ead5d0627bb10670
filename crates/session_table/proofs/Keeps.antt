-- A step of one seat keeps the rule.
use Rattle.std.proofs.Common.{◌≡◌, ◌≢◌, ◌⊎◌, ℕ, ◌+◌, ◌≤◌, false, ap, sym, subst, ◌∙◌, inl, inr, ⊎_elim, arith, List, length, set}
use mathlib.Core.Option.{some, none}
use mathlib.Core.Option as maybe
use Rattle.std.specs.Prelude.{Option, Some, None, slice_index}
use Rattle.atomic_table.specs.Table.{State}
use Rattle.std.proofs.lemmas.Option.{none-some}
use Rattle.session_table.specs.declared.view.Bounds.{Bounds}
use Rattle.session_table.specs.declared.view.Joined.{Joined}
use Rattle.session_table.specs.declared.view.View.{View}
use Rattle.session_table.specs.Entries.{only, StartsWith}
use Rattle.session_table.specs.Named.{Named}
use Rattle.session_table.specs.Seats.{line_in, seen_of, joined_as}
use Rattle.session_table.specs.Rule.{IsSeat, Stand, note_on, Stands, HasNotes, HasSeen, Ranks, Roster, total, one_if_pending, DrawnOnce, KeepsPast, Rule}
use Rattle.session_table.proofs.Journals.{starts_along}
use Rattle.session_table.proofs.Seating.{placed, each_set, seated_set, numbers_set, others_differ, counted_set}

-- the seat t has changed how a partition stands
pub record Moves (t : ℕ) (old new : Stand) : Type 0 where
  pub holds : (u : ℕ) → new.holder ≡ Some u → (u ≡ t) ⊎ (old.holder ≡ Some u)
  pub notes : (u : ℕ) → u ≢ t → note_on new u ≡ note_on old u
  pub grows : StartsWith new.journal old.journal
  pub others : (u : ℕ) → u ≢ t → only u new.journal ≡ only u old.journal

-- w is the seat v, whatever it knows
pub record IsSame (v w : View) : Type 0 where
  pub live : w.spent ≡ false
  pub number : w.number ≡ v.number
  pub made : w.made ≡ v.made
  pub joined : w.joined ≡ v.joined
  pub bounds : w.bounds ≡ v.bounds

seen_moved : (book book' : ℕ → Stand) (t : ℕ) (u : View) → ((p : ℕ) → Moves t (book p) (book' p)) → u.number ≢ t → HasSeen book u → HasSeen book' u
seen_moved book book' t u moves ne seen p =
    (starts_along (seen_of u p) (book p).journal (book' p).journal (moves p).grows (seen p).0, (seen p).1 ∙ sym ((moves p).others u.number ne))

ranks_same : (made : ℕ) (joined : List Joined) (v w : View) → IsSame v w → Ranks made joined v → Ranks made joined w
ranks_same made joined v w same (root, others, few, apart) = (
  (λ e. let r = root (sym same.number ∙ e) in (same.made ∙ r.0, same.joined ∙ r.1)),
  (λ ne. let r = others (λ e. ne (same.number ∙ e)) in (same.made ∙ r.0, same.joined ∙ r.1)),
  subst (λ (z : ℕ). z ≤ made) (sym same.number) few,
  ap (joined_as joined) same.number ∙ apart,
)

some_is_some : {A : Type 0} (o : Option A) (a : A) → o ≡ None → o ≡ Some a → ⊥
some_is_some o a e f = none-some a (sym e ∙ f)

roster_moved : (book book' : ℕ → Stand) (made : ℕ) (joined : List Joined) (views : List View) (id : ℕ) (v w : View) → Roster book made joined views → IsSeat views id v → IsSame v w
    → joined_as joined v.number ≡ None → v.number ≤ made → ((p : ℕ) → Moves v.number (book p) (book' p)) → Roster book' made joined (set views id w)
roster_moved book book' made joined views id v w r seat same unjoined few moves = record {
  root = seated_set views id v w seat same.live same.number 0 r.root;
  present = λ s one most. ⊎_elim (λ h. inl (seated_set views id v w seat same.live same.number s h)) (λ h. inr h) (r.present s one most);
  counted = let h = counted_set views id v w seat same.live in let c = r.counted in omega arith;
  few = r.few;
  apart = r.apart;
  numbered = r.numbered;
  kept = λ s j is p.
      let ne : s ≢ v.number = λ e. some_is_some (joined_as joined v.number) j unjoined (ap (joined_as joined) (sym e) ∙ is) in
      r.kept s j is p ∙ sym ((moves p).others s ne);
  seen = λ s j is p. let was = r.seen s j is p in let grows = (moves p).grows in (
    starts_along (line_in j.lines p).seen (book p).journal (book' p).journal grows was.0,
    starts_along (line_in j.found p).seen (book p).journal (book' p).journal grows was.1,
  );
  unmade = λ s above p. (moves p).others s (λ e. omega arith) ∙ r.unmade s above p;
}

module _ {X : Type 0} (named : X → Named) (bounds : Bounds) (s : State (Option X) View) (r : Rule named bounds s) (id : ℕ) (v w : View) where
  abbrev After : List ℕ → List (maybe.Option (Option X)) → State (Option X) View
  After words homes = record { words = words; homes = homes; views = set s.views id w }

  pub steps : (book : ℕ → Stand) (words : List ℕ) (homes : List (maybe.Option (Option X))) → IsSeat s.views id v → IsSame v w
      → length words ≡ bounds.partitions + 1 → length homes ≡ bounds.partitions + 1
      → ((p : ℕ) → 1 ≤ p → p ≤ bounds.partitions → Stands named (After words homes) p (book p))
      → ((p : ℕ) → Moves v.number (r.book p) (book p)) → HasNotes book w → HasSeen book w
      → DrawnOnce (λ p. (book p).blocks) bounds (slice_index words 0)
      → slice_index words 0 + total one_if_pending (set s.views id w) ≤ bounds.last + (r.made + 1)
      → slice_index s.words 0 ≤ slice_index words 0 → KeepsPast bounds (slice_index words 0) w
      → Rule named bounds (After words homes)
  steps book words homes seat same as_many as_wide stands moves notes seen drawn next rises past = record {
    book = book;
    made = r.made;
    joined = r.joined;
    words = as_many;
    slots = as_wide;
    few_blocks = r.few_blocks;
    begun = let b = r.begun in omega arith;
    session = each_set s.views id w (λ j u _ at. r.session j u at) (same.bounds ∙ r.session id v seat);
    stands = stands;
    holders = λ p t held. ⊎_elim
        (λ e. (id, w, (placed s.views id v w seat.0, same.live), same.number ∙ sym e))
        (λ h. seated_set s.views id v w seat same.live same.number t (r.holders p t h))
        ((moves p).holds t held);
    notes = each_set s.views id w
        (λ j u ne at p. r.notes j u at p ∙ sym ((moves p).notes u.number (others_differ s.views r.numbers id j v u seat at ne))) notes;
    numbers = numbers_set s.views r.numbers id v w seat same.number;
    seen = each_set s.views id w
        (λ j u ne at. seen_moved r.book book v.number u moves (others_differ s.views r.numbers id j v u seat at ne) (r.seen j u at)) seen;
    ranks = each_set s.views id w (λ j u _ at. r.ranks j u at) (ranks_same r.made r.joined v w same (r.ranks id v seat));
    roster = roster_moved r.book book r.made r.joined s.views id v w r.roster seat same (r.ranks id v seat).3 (r.ranks id v seat).2 moves;
    drawn = drawn;
    next = next;
    past = each_set s.views id w (λ j u _ at m is. let h = r.past j u at m is in (h.0, omega (arith, h.1))) past;
  }
