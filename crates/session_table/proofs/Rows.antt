-- The slots that a seat holds, in a row, and what they have to do with its notes.
use Rattle.std.proofs.Common.{◌≡◌, ◌≢◌, ℕ, ◌+◌, ◌≤◌, Bool, true, false, cond, ap, sym, refl, subst, ◌∙◌, arith, List, [], ◌∷◌, ◌++◌, eq-eqb, ne_eqb}
use native.Mathlib.Decide.{ℕ_discrete}
use Rattle.std.specs.Prelude.{◌==◌, ◌||◌, Option, Some, None, is_some, option_map}
use Rattle.std.specs.List.{list_any}
use Rattle.session_table.specs.declared.view.Bounds.{Bounds}
use Rattle.session_table.specs.declared.view.Note.{Note}
use Rattle.session_table.specs.declared.view.Line.{Line}
use Rattle.session_table.specs.declared.view.View.{View}
use Rattle.session_table.specs.Entries.{only}
use Rattle.session_table.specs.Named.{Named}
use Rattle.session_table.specs.Seats.{line_in, seen_of, mine_of, note_of}
use Rattle.session_table.specs.Slots.{numbers, times_held, in_slot, Fits, Carries}
use Rattle.session_table.specs.Steps.{noted, let_go}
use Rattle.session_table.specs.Tells.{note_from}
use Rattle.session_table.specs.Calls.{with_slot, slot_here, slot_there}
use Rattle.session_table.specs.Seats.{line_here, line_there}
use Rattle.session_table.proofs.Journals.{continues_itself}
use Rattle.std.proofs.lemmas.Option.{none-some}

-- ---- one slot

hit_here : {A : Type 0} (p q : ℕ) (y : A) (c : List (ℕ × A)) → p ≡ q → times_held q ((p, y) ∷ c) ≡ 1 + times_held q c
hit_here p q y c e = ap (λ (b : Bool). cond b 1 0 + times_held q c) (eq-eqb p q e)

hit_there : {A : Type 0} (p q : ℕ) (y : A) (c : List (ℕ × A)) → p ≢ q → times_held q ((p, y) ∷ c) ≡ times_held q c
hit_there p q y c ne = ap (λ (b : Bool). cond b 1 0 + times_held q c) (ne_eqb p q ne) ∙ (omega arith)

pub times-append : {A : Type 0} (p : ℕ) (xs ys : List (ℕ × A)) → times_held p (xs ++ ys) ≡ times_held p xs + times_held p ys
times-append p [] ys = omega arith
times-append p (x ∷ xs) ys = let h = times-append p xs ys in omega arith

module _ {X : Type 0} (named : X → Named) where
  slot_after : (p : ℕ) (xs ys : List (ℕ × Option X)) → times_held p xs ≡ 0 → in_slot named (xs ++ ys) p ≡ in_slot named ys p
  slot_after p [] ys e = refl
  slot_after p (x ∷ xs) ys e = elim (ℕ_discrete x.0 p) as (λ _. in_slot named ((x ∷ xs) ++ ys) p ≡ in_slot named ys p) [
    | yes is ↦ absurd (let h = hit_here x.0 p x.1 xs is in omega arith)
    | no ne ↦ slot_there (in_slot named (xs ++ ys)) x.0 p (Some (option_map named x.1)) ne ∙ slot_after p xs ys (let h = hit_there x.0 p x.1 xs ne in omega arith)
  ]

  -- a slot that is held no times has nothing, and the other way round
  absent : (p : ℕ) (c : List (ℕ × Option X)) → times_held p c ≡ 0 → in_slot named c p ≡ None
  absent p [] e = refl
  absent p (x ∷ xs) e = elim (ℕ_discrete x.0 p) as (λ _. in_slot named (x ∷ xs) p ≡ None) [
    | yes is ↦ absurd (let h = hit_here x.0 p x.1 xs is in omega arith)
    | no ne ↦ slot_there (in_slot named xs) x.0 p (Some (option_map named x.1)) ne ∙ absent p xs (let h = hit_there x.0 p x.1 xs ne in omega arith)
  ]

  times_none : (p : ℕ) (c : List (ℕ × Option X)) → in_slot named c p ≡ None → times_held p c ≡ 0
  times_none p [] e = refl
  times_none p (x ∷ xs) e = elim (ℕ_discrete x.0 p) as (λ _. times_held p (x ∷ xs) ≡ 0) [
    | yes is ↦ absurd (none-some (option_map named x.1) (sym e ∙ slot_here (in_slot named xs) x.0 p (Some (option_map named x.1)) is))
    | no ne ↦ hit_there x.0 p x.1 xs ne ∙ times_none p xs (sym (slot_there (in_slot named xs) x.0 p (Some (option_map named x.1)) ne) ∙ e)
  ]

  slot_before : (p : ℕ) (xs ys : List (ℕ × Option X)) → times_held p ys ≡ 0 → in_slot named (xs ++ ys) p ≡ in_slot named xs p
  slot_before p [] ys e = absent p ys e
  slot_before p (x ∷ xs) ys e = ap (cond (x.0 == p) (Some (option_map named x.1))) (slot_before p xs ys e)

  -- ---- the row turns

  pub swapped : (xs ys : List (ℕ × Option X)) → ((p : ℕ) → times_held p (xs ++ ys) ≤ 1) → (p : ℕ) → in_slot named (ys ++ xs) p ≡ in_slot named (xs ++ ys) p
  swapped xs ys once p = let few = once p in let sum = times-append p xs ys in
      elim (ℕ_discrete (times_held p xs) 0) as (λ _. in_slot named (ys ++ xs) p ≡ in_slot named (xs ++ ys) p) [
        | yes e ↦ slot_before p ys xs e ∙ sym (slot_after p xs ys e)
        | no ne ↦ let e : times_held p ys ≡ 0 = omega arith in slot_after p ys xs e ∙ sym (slot_before p xs ys e)
      ]

  pub carries_swapped : (v : View) (xs ys : List (ℕ × Option X)) → Carries named v (xs ++ ys) → Carries named v (ys ++ xs)
  carries_swapped v xs ys has = record {
    within = has.within;
    once = λ p. let few = has.once p in let a = times-append p xs ys in let b = times-append p ys xs in omega arith;
    fits = λ p. subst (Fits v.number p (note_of v p)) (sym (swapped xs ys has.once p)) (has.fits p);
  }

  -- ---- notes and slots

  pub no_note : (s p : ℕ) (slot : Option (Option Named)) → Fits s p None slot → slot ≡ None
  no_note s p None h = refl
  no_note s p (Some slot) h = absurd h

  fits_both : (s p : ℕ) (note : Option Note) (slot : Option (Option Named)) → Fits s p note slot → is_some note ≡ is_some slot
  fits_both s p None None h = refl
  fits_both s p None (Some slot) h = absurd h
  fits_both s p (Some note) None h = absurd h
  fits_both s p (Some note) (Some None) h = refl
  fits_both s p (Some note) (Some (Some x)) h = refl

  any_slot : (p : ℕ) (c : List (ℕ × Option X)) → is_some (in_slot named c p) ≡ list_any (λ q. q == p) (numbers c)
  any_slot p [] = refl
  any_slot p (x ∷ xs) = elim (x.0 == p) as (λ b. is_some (cond b (Some (option_map named x.1)) (in_slot named xs p)) ≡ (b || list_any (λ q. q == p) (numbers xs))) [
    | true ↦ refl
    | false ↦ any_slot p xs
  ]

  -- a seat holds the slots on which it has notes
  pub matched : (v : View) (c : List (ℕ × Option X)) (held : List ℕ) → Carries named v c → numbers c ≡ held → (p : ℕ) → is_some (note_of v p) ≡ list_any (λ q. q == p) held
  matched v c held has is p = fits_both v.number p (note_of v p) (in_slot named c p) (has.fits p) ∙ any_slot p c ∙ ap (list_any (λ q. q == p)) is

  abbrev Within : View → List Line → Type 0
  Within v ls = (q : ℕ) (note : Note) → (line_in ls q).note ≡ Some note → (1 ≤ q) × (q ≤ v.bounds.partitions)

  within_more : (v : View) (l : Line) → (1 ≤ l.partition) × (l.partition ≤ v.bounds.partitions) → Within v v.lines → Within v (l ∷ v.lines)
  within_more v l here has q note is = elim (ℕ_discrete l.partition q) as (λ _. (1 ≤ q) × (q ≤ v.bounds.partitions)) [
    | yes e ↦ subst (λ (k : ℕ). (1 ≤ k) × (k ≤ v.bounds.partitions)) e here
    | no ne ↦ has q note (sym (ap (λ (k : Line). k.note) (line_there l v.lines q ne)) ∙ is)
  ]

  within_fewer : (v : View) (l : Line) → l.note ≡ None → Within v v.lines → Within v (l ∷ v.lines)
  within_fewer v l none has q note is = elim (ℕ_discrete l.partition q) as (λ _. (1 ≤ q) × (q ≤ v.bounds.partitions)) [
    | yes e ↦ absurd (none-some note (sym none ∙ ap (λ (k : Line). k.note) (sym (line_here l v.lines q e)) ∙ is))
    | no ne ↦ has q note (sym (ap (λ (k : Line). k.note) (line_there l v.lines q ne)) ∙ is)
  ]

  pub carries_same : (v w : View) (c : List (ℕ × Option X)) → w.number ≡ v.number → w.bounds ≡ v.bounds → ((p : ℕ) → note_of w p ≡ note_of v p) → Carries named v c → Carries named w c
  carries_same v w c number bounds notes has = record {
    within = λ p note is. let h = has.within p note (sym (notes p) ∙ is) in (h.0, subst (λ (b : Bounds). p ≤ b.partitions) (sym bounds) h.1);
    once = has.once;
    fits = λ p. subst (λ (n : ℕ). Fits n p (note_of w p) (in_slot named c p)) (sym number)
        (subst (λ (o : Option Note). Fits v.number p o (in_slot named c p)) (sym (notes p)) (has.fits p));
  }

  -- the seat, with one slot more
  pub carries_claimed : (v : View) (c : List (ℕ × Option X)) (p : ℕ) (x : X) → (1 ≤ p) × (p ≤ v.bounds.partitions) → note_of v p ≡ None → (named x).number ≡ p → (named x).holder ≡ None → Carries named v c
      → Carries named (noted v p (note_from (named x))) (c ++ (p, Some x) ∷ [])
  carries_claimed v c p x here free number holder has =
      let note : Note = note_from (named x) in let w : View = noted v p note in let more : List (ℕ × Option X) = (p, Some x) ∷ [] in
      let line : Line = record { partition = p; seen = seen_of v p; mine = mine_of v p; note = Some note } in
      let absent_there : times_held p c ≡ 0 = times_none p c (no_note v.number p (in_slot named c p) (subst (λ (o : Option Note). Fits v.number p o (in_slot named c p)) free (has.fits p))) in record {
        within = within_more v line here has.within;
        once = λ q. elim (ℕ_discrete p q) as (λ _. times_held q (c ++ more) ≤ 1) [
          | yes e ↦ let a = times-append q c more in let b = hit_here p q (Some x) [] e in let n : times_held q c ≡ 0 = subst (λ (z : ℕ). times_held z c ≡ 0) e absent_there in omega arith
          | no ne ↦ let a = times-append q c more in let b = hit_there p q (Some x) [] ne in let few = has.once q in omega arith
        ];
        fits = λ q. elim (ℕ_discrete p q) as (λ _. Fits w.number q (note_of w q) (in_slot named (c ++ more) q)) [
          | yes e ↦ subst (λ (z : ℕ). Fits w.number z (note_of w z) (in_slot named (c ++ more) z)) e
              (subst (λ (o : Option Note). Fits v.number p o (in_slot named (c ++ more) p)) (sym (ap (λ (l : Line). l.note) (line_here line v.lines p refl)))
              (subst (λ (o : Option (Option Named)). Fits v.number p (Some note) o) (sym (slot_after p c more absent_there ∙ slot_here (in_slot named []) p p (Some (Some (named x))) refl))
              record { number = number; free = holder; blocks = refl; journal = continues_itself v.number (named x).journal }))
          | no ne ↦
              subst (λ (o : Option Note). Fits v.number q o (in_slot named (c ++ more) q)) (sym (ap (λ (l : Line). l.note) (line_there line v.lines q ne)))
              (subst (λ (o : Option (Option Named)). Fits v.number q (note_of v q) o) (sym (slot_before q c more (hit_there p q (Some x) [] ne))) (has.fits q))
        ];
      }

  pub slots_claimed : (v : View) (c : List (ℕ × Option X)) (p : ℕ) (x : X) → note_of v p ≡ None → Carries named v c → (q : ℕ) → in_slot named (c ++ (p, Some x) ∷ []) q ≡ with_slot (in_slot named c) p (Some (Some (named x))) q
  slots_claimed v c p x free has q =
      let more : List (ℕ × Option X) = (p, Some x) ∷ [] in
      let absent_there : times_held p c ≡ 0 = times_none p c (no_note v.number p (in_slot named c p) (subst (λ (o : Option Note). Fits v.number p o (in_slot named c p)) free (has.fits p))) in
      elim (ℕ_discrete p q) as (λ _. in_slot named (c ++ more) q ≡ with_slot (in_slot named c) p (Some (Some (named x))) q) [
        | yes e ↦ slot_after q c more (subst (λ (z : ℕ). times_held z c ≡ 0) e absent_there) ∙ slot_here (in_slot named []) p q (Some (Some (named x))) e ∙ sym (slot_here (in_slot named c) p q (Some (Some (named x))) e)
        | no ne ↦ slot_before q c more (hit_there p q (Some x) [] ne) ∙ sym (slot_there (in_slot named c) p q (Some (Some (named x))) ne)
      ]

  -- another value in the slot in front
  pub carries_replaced : (v w : View) (c : List (ℕ × Option X)) (p : ℕ) (y z : Option X) → w.number ≡ v.number → w.bounds ≡ v.bounds → (1 ≤ p) × (p ≤ v.bounds.partitions) → ((q : ℕ) → q ≢ p → note_of w q ≡ note_of v q) → Fits v.number p (note_of w p) (Some (option_map named z))
      → Carries named v ((p, y) ∷ c) → Carries named w ((p, z) ∷ c)
  carries_replaced v w c p y z number bounds here notes fit has = record {
    within = λ q note is. elim (ℕ_discrete p q) as (λ _. (1 ≤ q) × (q ≤ w.bounds.partitions)) [
      | yes e ↦ subst (λ (k : ℕ). (1 ≤ k) × (k ≤ w.bounds.partitions)) e (subst (λ (b : Bounds). (1 ≤ p) × (p ≤ b.partitions)) (sym bounds) here)
      | no ne ↦ subst (λ (b : Bounds). (1 ≤ q) × (q ≤ b.partitions)) (sym bounds) (has.within q note (sym (notes q (λ e. ne (sym e))) ∙ is))
    ];
    once = λ q. has.once q;
    fits = λ q. subst (λ (n : ℕ). Fits n q (note_of w q) (in_slot named ((p, z) ∷ c) q)) (sym number)
        (elim (ℕ_discrete p q) as (λ _. Fits v.number q (note_of w q) (in_slot named ((p, z) ∷ c) q)) [
          | yes e ↦ subst (λ (o : Option (Option Named)). Fits v.number q (note_of w q) o) (sym (slot_here (in_slot named c) p q (Some (option_map named z)) e))
              (subst (λ (k : ℕ). Fits v.number k (note_of w k) (Some (option_map named z))) e fit)
          | no ne ↦
              let same : in_slot named ((p, z) ∷ c) q ≡ in_slot named ((p, y) ∷ c) q =
              slot_there (in_slot named c) p q (Some (option_map named z)) ne ∙ sym (slot_there (in_slot named c) p q (Some (option_map named y)) ne) in
              subst (λ (o : Option (Option Named)). Fits v.number q (note_of w q) o) (sym same)
              (subst (λ (o : Option Note). Fits v.number q o (in_slot named ((p, y) ∷ c) q)) (sym (notes q (λ e. ne (sym e)))) (has.fits q))
        ]);
  }

  pub slots_replaced : (c : List (ℕ × Option X)) (p : ℕ) (y z : Option X) (q : ℕ) → in_slot named ((p, z) ∷ c) q ≡ with_slot (in_slot named ((p, y) ∷ c)) p (Some (option_map named z)) q
  slots_replaced c p y z q = elim (ℕ_discrete p q) as (λ _. in_slot named ((p, z) ∷ c) q ≡ with_slot (in_slot named ((p, y) ∷ c)) p (Some (option_map named z)) q) [
    | yes e ↦ slot_here (in_slot named c) p q (Some (option_map named z)) e ∙ sym (slot_here (in_slot named ((p, y) ∷ c)) p q (Some (option_map named z)) e)
    | no ne ↦ slot_there (in_slot named c) p q (Some (option_map named z)) ne ∙ sym (slot_there (in_slot named c) p q (Some (option_map named y)) ne)
        ∙ sym (slot_there (in_slot named ((p, y) ∷ c)) p q (Some (option_map named z)) ne)
  ]

  -- the seat, without the slot in front
  gone : (v : View) (c : List (ℕ × Option X)) (p : ℕ) (y : Option X) → Carries named v ((p, y) ∷ c) → times_held p c ≡ 0
  gone v c p y has = let few = has.once p in let h = hit_here p p y c refl in omega arith

  pub carries_let_go : (v : View) (c : List (ℕ × Option X)) (p : ℕ) (x : X) → Carries named v ((p, Some x) ∷ c) → Carries named (let_go v p (named x).journal) c
  carries_let_go v c p x has =
      let w : View = let_go v p (named x).journal in let line : Line = record { partition = p; seen = (named x).journal; mine = only v.number (named x).journal; note = None } in record {
        within = within_fewer v line refl has.within;
        once = λ q. let few = has.once q in let a = times-append q ((p, Some x) ∷ []) c in omega arith;
        fits = λ q. elim (ℕ_discrete p q) as (λ _. Fits w.number q (note_of w q) (in_slot named c q)) [
          | yes e ↦ subst (λ (k : ℕ). Fits w.number k (note_of w k) (in_slot named c k)) e
              (subst (λ (o : Option Note). Fits v.number p o (in_slot named c p)) (sym (ap (λ (l : Line). l.note) (line_here line v.lines p refl)))
              (subst (λ (o : Option (Option Named)). Fits v.number p None o) (sym (absent p c (gone v c p (Some x) has))) tt))
          | no ne ↦ subst (λ (o : Option Note). Fits v.number q o (in_slot named c q)) (sym (ap (λ (l : Line). l.note) (line_there line v.lines q ne)))
              (subst (λ (o : Option (Option Named)). Fits v.number q (note_of v q) o) (slot_there (in_slot named c) p q (Some (Some (named x))) ne) (has.fits q))
        ];
      }

  pub slots_let_go : (v : View) (c : List (ℕ × Option X)) (p : ℕ) (y : Option X) → Carries named v ((p, y) ∷ c) → (q : ℕ) → in_slot named c q ≡ with_slot (in_slot named ((p, y) ∷ c)) p None q
  slots_let_go v c p y has q = elim (ℕ_discrete p q) as (λ _. in_slot named c q ≡ with_slot (in_slot named ((p, y) ∷ c)) p None q) [
    | yes e ↦ subst (λ (k : ℕ). in_slot named c k ≡ None) e (absent p c (gone v c p y has)) ∙ sym (slot_here (in_slot named ((p, y) ∷ c)) p q None e)
    | no ne ↦ sym (slot_there (in_slot named c) p q (Some (option_map named y)) ne) ∙ sym (slot_there (in_slot named ((p, y) ∷ c)) p q None ne)
  ]
