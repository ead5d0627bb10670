-- What a step tells, as contracts say it.
use Rattle.std.proofs.Common.{◌≡◌, ℕ, ◌+◌, ◌<◌, ◌≤◌, ap, sym, refl, subst, ◌∙◌, List, [], ◌∷◌, ◌++◌}
use Rattle.std.specs.Prelude.{Option, Some, None, option_map}
use Rattle.atomic_table.specs.Table.{turned, rest}
use Rattle.std.proofs.lemmas.Option.{none-some, same_Some}
use Rattle.session_table.specs.declared.view.Line.{Line}
use Rattle.session_table.specs.declared.view.Note.{Note}
use Rattle.session_table.specs.declared.view.View.{View}
use Rattle.session_table.specs.Named.{Named}
use Rattle.session_table.specs.Seats.{seen_of, mine_of, note_of}
use Rattle.session_table.specs.Slots.{front, in_slot, Fits, Carries}
use Rattle.session_table.specs.Turns.{IsTurned, IsInFront}
use Rattle.session_table.specs.Steps.{noted, looked_at, let_go, passed, drew}
use Rattle.session_table.specs.Tells.{Seated, note_from, Wins, Loses, Frees, Passes, IsNextBlock, Draws}
use Rattle.session_table.specs.Faces.{Face}
use Rattle.session_table.specs.Calls.{with_slot, slot_here, HasWon, HasLost, LetsGo, HasPassed, HasDrawn, IsNotedBy}
use Rattle.session_table.specs.Seats.{line_here, line_there}
use Rattle.session_table.proofs.Rows.{no_note, carries_claimed, carries_same, carries_swapped, carries_replaced, carries_let_go, swapped, slots_claimed, slots_replaced, slots_let_go}

abbrev pub face_of : {X : Type 0} → (X → Named) → Seated X → Face
face_of named me = record { view = me.0; slots = in_slot named me.1 }

abbrev pub Holds : {X : Type 0} → (X → Named) → Seated X → Type 0
Holds named me = Carries named me.0 me.1

module _ {X : Type 0} (named : X → Named) where
  pub won : (old new : Seated X) (p : ℕ) → (1 ≤ p) × (p ≤ old.0.bounds.partitions) → Wins named p old new → note_of old.0 p ≡ None → Holds named old → Holds named (new.0, turned new.1) × HasWon (face_of named old) p (face_of named (new.0, turned new.1))
  won old new p here told free has =
      let x : X = told.value in let note : Note = note_from (named x) in
      let after : Seated X = (noted old.0 p note, old.1 ++ (p, Some x) ∷ []) in
      let is : (new.0, turned new.1) ≡ after = λ i. (told.view i, turned (told.slots i)) in
      let there : named x ≡ record { number = p; holder = None; blocks = note.blocks; journal = note.journal } =
      λ i. record { number = told.number i; holder = told.free i; blocks = note.blocks; journal = note.journal } in (
        subst (λ (m : Seated X). Holds named m) (sym is) (carries_claimed named old.0 old.1 p x here free told.number told.free has),
        record {
          note = note;
          seen = told.seen;
          mine = told.mine;
          seat = ap (face_of named) is
              ∙ (λ i. record { view = after.0; slots = λ q. slots_claimed named old.0 old.1 p x free has q i })
              ∙ ap (λ (y : Named). record { view = after.0; slots = with_slot (in_slot named old.1) p (Some (Some y)) }) there;
        },
      )

  pub lost : (old new : Seated X) (p found : ℕ) → (told : Loses p found old new) → Holds named old → Holds named new × HasLost (face_of named old) p told.holder (face_of named new)
  lost old new p found told has =
      let after : Seated X = (looked_at old.0 p told.holder, old.1) in
      let is : new ≡ after = λ i. (told.view i, told.slots i) in (
        subst (λ (m : Seated X). Holds named m) (sym is) (carries_same named old.0 after.0 old.1 refl refl (λ _. refl) has),
        record { other = told.other; few = told.few; seat = ap (face_of named) is },
      )

  -- ---- a slot that is held

  -- what lies in slot p is the partition that the seat's note is on
  pub noted_there : (me : Seated X) (p : ℕ) (x : Named) → Holds named me → in_slot named me.1 p ≡ Some (Some x) → IsNotedBy me.0 p x
  noted_there me p x has is = elim (note_of me.0 p) as (λ o. note_of me.0 p ≡ o → IsNotedBy me.0 p x) [
    | None ↦ λ e. absurd (subst (λ (o : Option Note). Fits me.0.number p o (Some (Some x))) e (subst (λ (o : Option (Option Named)). Fits me.0.number p (note_of me.0 p) o) is (has.fits p)))
    | Some note ↦ λ e. (note, e, subst (λ (o : Option Note). Fits me.0.number p o (Some (Some x))) e (subst (λ (o : Option (Option Named)). Fits me.0.number p (note_of me.0 p) o) is (has.fits p)))
  ] refl

  -- a seat has a note on each slot that it holds
  pub noted_held : (me : Seated X) (p : ℕ) (y : Option Named) → Holds named me → in_slot named me.1 p ≡ Some y → (note : Note) × (note_of me.0 p ≡ Some note)
  noted_held me p y has is = elim (note_of me.0 p) as (λ o. note_of me.0 p ≡ o → (note : Note) × (note_of me.0 p ≡ Some note)) [
    | None ↦ λ e. absurd (subst (λ (o : Option Note). Fits me.0.number p o (Some y)) e (subst (λ (o : Option (Option Named)). Fits me.0.number p (note_of me.0 p) o) is (has.fits p)))
    | Some note ↦ λ e. (note, e)
  ] refl

  -- a note allows an empty slot
  pub may_be_empty : (v : View) (p : ℕ) (note : Note) → note_of v p ≡ Some note → Fits v.number p (note_of v p) (Some None)
  may_be_empty v p note is = subst (λ (o : Option Note). Fits v.number p o (Some None)) (sym is) tt

  pub may_be_filled : (v : View) (p : ℕ) (x : Named) → IsNotedBy v p x → Fits v.number p (note_of v p) (Some (Some x))
  may_be_filled v p x noted = subst (λ (o : Option Note). Fits v.number p o (Some (Some x))) (sym noted.1) noted.2

  -- turning a row changes nothing of what contracts see
  pub turned_holds : (old new : Seated X) → IsTurned old new → Holds named old → Holds named new × (face_of named new ≡ face_of named old)
  turned_holds old new turns has =
      let after : Seated X = (old.0, turns.second ++ turns.first) in let before : Seated X = (old.0, turns.first ++ turns.second) in
      let is : new ≡ after = λ i. (turns.view i, turns.after i) in let was : old ≡ before = λ i. (old.0, turns.before i) in
      let had : Holds named before = subst (Holds named) was has in (
        subst (Holds named) (sym is) (carries_swapped named old.0 turns.first turns.second had),
        ap (face_of named) is ∙ (λ i. record { view = old.0; slots = λ q. swapped named turns.first turns.second had.once q i }) ∙ ap (face_of named) (sym was),
      )

  -- the slot in front is what contracts see of slot p
  pub front_slot : (me : Seated X) (p : ℕ) → (inf : IsInFront p me) → in_slot named me.1 p ≡ Some (option_map named inf.slot)
  front_slot me p inf = ap (λ (c : List (ℕ × Option X)). in_slot named c p) inf.is ∙ slot_here (in_slot named (rest me.1)) p p (Some (option_map named inf.slot)) refl

  -- the partition in the slot in front, where contracts see one in slot p
  pub record InFront (me : Seated X) (p : ℕ) : Type 0 where
    pub value : X
    pub is : me.1 ≡ (p, Some value) ∷ rest me.1
    pub noted : IsNotedBy me.0 p (named value)
    pub within : (1 ≤ p) × (p ≤ me.0.bounds.partitions)

  filled_slot : (me : Seated X) (p : ℕ) (x : Named) (slot : Option X) → Holds named me → me.1 ≡ (p, slot) ∷ rest me.1 → in_slot named me.1 p ≡ Some (Some x) → InFront me p
  filled_slot me p x None has is filled =
      absurd (none-some x (same_Some (option_map named None) (Some x) (sym (front_slot me p record { slot = None; is = is }) ∙ filled)))
  filled_slot me p x (Some value) has is filled =
      let noted = noted_there me p (named value) has (front_slot me p record { slot = Some value; is = is }) in
      record { value = value; is = is; noted = noted; within = has.within p noted.0 noted.1 }

  pub filled_front : (old mid : Seated X) (p : ℕ) → IsTurned old mid → IsInFront p mid → Holds named old → (x : Named) × (in_slot named old.1 p ≡ Some (Some x)) → InFront mid p
  filled_front old mid p turns inf has filled =
      let both = turned_holds old mid turns has in
      filled_slot mid p filled.0 inf.slot both.0 inf.is (ap (λ (f : Face). f.slots p) both.1 ∙ filled.1)

  -- nothing is in the slot in front, where contracts see nothing in slot p
  empty_slot : (me : Seated X) (p : ℕ) (slot : Option X) → me.1 ≡ (p, slot) ∷ rest me.1 → in_slot named me.1 p ≡ Some None → slot ≡ None
  empty_slot me p None is empty = refl
  empty_slot me p (Some value) is empty =
      absurd (none-some (named value) (same_Some None (option_map named (Some value)) (sym empty ∙ front_slot me p record { slot = Some value; is = is })))

  pub empty_front : (old mid : Seated X) (p : ℕ) → IsTurned old mid → (inf : IsInFront p mid) → Holds named old → in_slot named old.1 p ≡ Some None → inf.slot ≡ None
  empty_front old mid p turns inf has empty =
      let both = turned_holds old mid turns has in
      empty_slot mid p inf.slot inf.is (ap (λ (f : Face). f.slots p) both.1 ∙ empty)

  -- another value in the slot in front
  pub replaced : (old mid new : Seated X) (p : ℕ) (y z : Option X) → IsTurned old mid → mid.1 ≡ (p, y) ∷ rest mid.1 → new ≡ (mid.0, (p, z) ∷ rest mid.1) → Fits old.0.number p (note_of old.0 p) (Some (option_map named z)) → Holds named old
      → Holds named new × (in_slot named old.1 p ≡ Some (option_map named y)) × (face_of named new ≡ record { view = old.0; slots = with_slot (in_slot named old.1) p (Some (option_map named z)) })
  replaced old mid new p y z turns is now fit has =
      let c : List (ℕ × Option X) = rest mid.1 in let both = turned_holds old mid turns has in
      let there : mid ≡ (mid.0, (p, y) ∷ c) = λ i. (mid.0, is i) in
      let front : in_slot named mid.1 p ≡ Some (option_map named y) = front_slot mid p record { slot = y; is = is } in
      let slot : in_slot named old.1 p ≡ Some (option_map named y) = ap (λ (f : Face). f.slots p) (sym both.1) ∙ front in
      let noted = noted_held old p (option_map named y) has slot in
      let here = subst (λ (v : View). (1 ≤ p) × (p ≤ v.bounds.partitions)) (sym turns.view) (has.within p noted.0 noted.1) in
      let put : Face → Face = λ f. record f { slots = with_slot f.slots p (Some (option_map named z)) } in (
        subst (Holds named) (sym now) (carries_replaced named mid.0 mid.0 c p y z refl refl here (λ _ _. refl)
            (subst (λ (v : View). Fits v.number p (note_of v p) (Some (option_map named z))) (sym turns.view) fit) (subst (Holds named) there both.0)),
        slot,
        ap (face_of named) now ∙ (λ i. record { view = mid.0; slots = λ q. slots_replaced named c p y z q i })
            ∙ ap (λ (m : Seated X). put (face_of named m)) (sym there) ∙ ap put both.1,
      )

  pub freed : (old mid new : Seated X) (p : ℕ) → IsTurned old mid → Frees named p mid new → Holds named old → Holds named new × LetsGo (face_of named old) p (face_of named new)
  freed old mid new p turns told has =
      let c : List (ℕ × Option X) = rest mid.1 in let both = turned_holds old mid turns has in let x : X = told.value in
      let there : mid ≡ (mid.0, (p, Some x) ∷ c) = λ i. (mid.0, told.was i) in
      let is : new ≡ (let_go mid.0 p (named x).journal, c) = λ i. (told.view i, told.slots i) in
      let held : Holds named (mid.0, (p, Some x) ∷ c) = subst (Holds named) there both.0 in
      let gone : Face → Face = λ f. record { view = let_go f.view p (named x).journal; slots = with_slot f.slots p None } in (
        subst (Holds named) (sym is) (carries_let_go named mid.0 c p x held),
        record {
          left = named x;
          was = ap (λ (f : Face). f.slots p) (sym both.1) ∙ front_slot mid p record { slot = Some x; is = told.was };
          seat = ap (face_of named) is ∙ (λ i. record { view = let_go mid.0 p (named x).journal; slots = λ q. slots_let_go named mid.0 c p (Some x) held q i })
              ∙ ap (λ (m : Seated X). gone (face_of named m)) (sym there) ∙ ap gone both.1;
        },
      )

abbrev second : {X : Type 0} → Option X → List (ℕ × Option X) → Option X
second d [] = d
second d (x ∷ xs) = x.1

-- what is in front is one thing
pub one_front : {X : Type 0} (row : List (ℕ × Option X)) (p : ℕ) (a b : Option X) → row ≡ (p, a) ∷ rest row → row ≡ (p, b) ∷ rest row → a ≡ b
one_front row p a b e f = ap (second a) (sym e ∙ f)

module _ {X : Type 0} (named : X → Named) where
  -- a draw, after slot p was brought to the front
  pub has_drawn : (old mid new : Seated X) (p block : ℕ) → IsTurned old mid → IsInFront p mid → in_slot named old.1 p ≡ Some None → Draws (front mid.1) block mid new → Holds named old
      → Holds named new × HasDrawn (face_of named old) p block (face_of named new)
  has_drawn old mid new p block turns inf empty told_front has =
      let both = turned_holds named old mid turns has in let c : List (ℕ × Option X) = rest mid.1 in
      let told : Draws p block mid new = subst (λ (k : ℕ). Draws k block mid new) (ap front inf.is) told_front in
      let none : inf.slot ≡ None = empty_front named old mid p turns inf has empty in
      let row : mid.1 ≡ (p, None) ∷ c = inf.is ∙ (λ i. (p, none i) ∷ c) in
      let there : mid ≡ (mid.0, (p, None) ∷ c) = λ i. (mid.0, row i) in
      let w : View = drew mid.0 p told.note block in
      let line : Line = record { partition = p; seen = seen_of mid.0 p; mine = mine_of mid.0 p; note = Some (record { journal = told.note.journal; blocks = told.note.blocks ++ block ∷ [] }) } in
      let is : new ≡ (w, (p, None) ∷ c) = λ i. (told.view i, (told.slots ∙ row) i) in
      let held : Holds named (mid.0, (p, None) ∷ c) = subst (Holds named) there both.0 in
      let draws_it : Face → Face = λ f. record f { view = drew f.view p told.note block } in (
        subst (Holds named) (sym is) (carries_replaced named mid.0 w c p None None refl refl (held.within p told.note told.noted)
            (λ q ne. ap (λ (l : Line). l.note) (line_there line mid.0.lines q (λ e. ne (sym e))))
            (subst (λ (o : Option Note). Fits mid.0.number p o (Some None)) (sym (ap (λ (l : Line). l.note) (line_here line mid.0.lines p refl))) tt) held),
        record {
          note = told.note;
          noted = ap (λ (v : View). note_of v p) (sym turns.view) ∙ told.noted;
          fresh = subst (λ (v : View). v.bounds.partitions < block) turns.view told.fresh;
          within = subst (λ (v : View). block ≤ v.bounds.last) turns.view told.within;
          highest = told.highest;
          next = subst (λ (v : View). IsNextBlock v block) turns.view told.next;
          seat = ap (face_of named) is ∙ ap (λ (m : Seated X). draws_it (face_of named m)) (sym there) ∙ ap draws_it both.1;
        },
      )

  pub has_passed : (old mid new : Seated X) (next : ℕ) → IsTurned old mid → Passes next mid new → Holds named old → Holds named new × HasPassed (face_of named old) next (face_of named new)
  has_passed old mid new next turns told has =
      let both = turned_holds named old mid turns has in
      let is : new ≡ (passed mid.0 next, mid.1) = λ i. (told.view i, told.slots i) in
      let passes_it : Face → Face = λ f. record f { view = passed f.view next } in (
        subst (Holds named) (sym is) (carries_same named mid.0 (passed mid.0 next) mid.1 refl refl (λ _. refl) both.0),
        record {
          above = subst (λ (v : View). v.bounds.last < next) turns.view told.above;
          near = subst (λ (v : View). next ≤ v.bounds.last + 65535) turns.view told.near;
          greatest = λ m e. told.greatest m (ap (λ (v : View). v.past) turns.view ∙ e);
          seat = ap (face_of named) is ∙ ap passes_it both.1;
        },
      )

  no_row : (c : List (ℕ × Option X)) → ((p : ℕ) → in_slot named c p ≡ None) → c ≡ []
  no_row [] h = refl
  no_row (x ∷ xs) h = absurd (none-some (option_map named x.1) (sym (h x.0) ∙ slot_here (in_slot named xs) x.0 x.0 (Some (option_map named x.1)) refl))

  -- a seat without notes holds no slot
  pub idle_row : (me : Seated X) → Holds named me → ((p : ℕ) → note_of me.0 p ≡ None) → me.1 ≡ []
  idle_row me has free = no_row me.1 (λ p. no_note named me.0.number p (in_slot named me.1 p) (subst (λ (o : Option Note). Fits me.0.number p o (in_slot named me.1 p)) (free p) (has.fits p)))
