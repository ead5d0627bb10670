-- A look at the next block and a draw keep the rule.
use Rattle.std.proofs.Common.{◌≡◌, ℕ, zero, suc, ◌+◌, ◌%◌, ◌^◌, ◌<◌, ◌≤◌, Bool, true, false, cond, ap, ap₂, sym, refl, subst, ◌∙◌, arith, List, [], ◌∷◌, ◌++◌, set, inl, length-set, get_or-set_same, get_or-set_other}
use Rattle.std.proofs.lemmas.List.{set-get_or}
use Rattle.std.proofs.Math.Nat.{mod-eq_of_lt}
use mathlib.Core.Option.{some-injective, some-ne-none}
use mathlib.Core.Option as maybe
use native.Mathlib.Decide.{dec_le}
use lib.ListN.{get_elem?}
use Rattle.std.specs.Prelude.{Option, Some, None, slice_index}
use Rattle.std.specs.List.{AllByRecursion}
use Rattle.atomic_table.specs.Table.{State, Act, keeps, Valid, stepped, step, carried_after, Allows}
use Rattle.std.proofs.lemmas.Option.{same_Some}
use Rattle.session_table.specs.declared.view.Bounds.{Bounds}
use Rattle.session_table.specs.declared.view.Line.{Line}
use Rattle.session_table.specs.declared.view.Note.{Note}
use Rattle.session_table.specs.declared.view.View.{View}
use Rattle.session_table.specs.Named.{Named}
use Rattle.session_table.specs.Seats.{seen_of, mine_of, note_of}
use Rattle.session_table.specs.Steps.{may_draw, passed, drew}
use Rattle.session_table.specs.Rule.{IsSeat, Stand, Lies, Stands, IsOut, note_for, total, one_if_seat, one_if_pending, DrawnOnce, KeepsPast, Rule}
use Rattle.session_table.specs.Tells.{Seated, Passes, IsNextBlock, looks, draws}
use Rattle.session_table.proofs.Journals.{starts_itself}
use Rattle.session_table.proofs.Seating.{total-set}
use Rattle.session_table.proofs.Keeps.{IsSame, steps}
use Rattle.session_table.proofs.Book.{put, put_here, put_else, put_each, moves_none, moves_put, noted_stands, note_itself, note_else, lies_same}
use Rattle.session_table.proofs.Blocks.{drawn_more, drawn_past, all_below, nowhere_yet}
use Rattle.session_table.proofs.Claiming.{notes_line, seen_line, stays}

pending_seats : (a b : Bool) → cond a 0 (cond b 1 0) ≤ cond a 0 1
pending_seats true b = omega arith
pending_seats false true = omega arith
pending_seats false false = omega arith

pending_few : (views : List View) → total one_if_pending views ≤ total one_if_seat views
pending_few [] = omega arith
pending_few (x ∷ xs) = let h = pending_few xs in let k = pending_seats x.spent x.pending in omega arith

-- where some seat has no pending draw, fewer draws are pending than there are seats
pending_fewer : (views : List View) (id : ℕ) (v : View) → get_elem? views id ≡ maybe.some v → v.spent ≡ false → v.pending ≡ false → total one_if_pending views + 1 ≤ total one_if_seat views
pending_fewer [] id v at live none = absurd (some-ne-none v (sym at))
pending_fewer (x ∷ xs) zero v at live none =
    let e : x ≡ v = some-injective x v at in
    let a : one_if_seat x ≡ 1 = ap one_if_seat e ∙ ap (λ (b : Bool). cond b 0 1) live in
    let b : one_if_pending x ≡ 0 = ap one_if_pending e ∙ ap₂ (λ (c d : Bool). cond c 0 (cond d 1 0)) live none in
    let h = pending_few xs in omega arith
pending_fewer (x ∷ xs) (suc id) v at live none =
    let h = pending_fewer xs id v at live none in let k = pending_seats x.spent x.pending in omega arith

module _ {X : Type 0} (named : X → Named) (bounds : Bounds) where
  -- word 0 is read, and only what the seat knows beside its lines changes
  reads : (s : State (Option X) View) (r : Rule named bounds s) (id : ℕ) (v w : View) (c : List (ℕ × Option X)) → IsSeat s.views id v → IsSame v w → w.lines ≡ v.lines
      → slice_index s.words 0 + total one_if_pending (set s.views id w) ≤ bounds.last + (r.made + 1) → KeepsPast bounds (slice_index s.words 0) w
      → Rule named bounds (stepped s 0 (slice_index s.words 0) id c w keeps)
  reads s r id v w c seat same lines next past =
      subst (λ (ws : List ℕ). Rule named bounds record { words = ws; homes = s.homes; views = set s.views id w }) (sym (set-get_or s.words 0 0))
      (stays named bounds s r id v w seat same lines next past)

  passes : (s : State (Option X) View) (r : Rule named bounds s) (id : ℕ) (v : View) (c : List (ℕ × Option X)) → IsSeat s.views id v → v.bounds.last < slice_index s.words 0
      → Passes (slice_index s.words 0) (v, c) (passed v (slice_index s.words 0), c)
  passes s r id v c seat above = record {
    above = above;
    near = let same : v.bounds.last ≡ bounds.last = ap (λ (b : Bounds). b.last) (r.session id v seat) in let n = r.next in let few = r.roster.few in omega arith;
    greatest = λ m is. (r.past id v seat m is).1;
    view = refl;
    slots = refl;
  }

  pub looks_allowed : (slots id : ℕ) (v : View) (c : List (ℕ × Option X)) (said : maybe.Option (Option X)) → v.spent ≡ false → v.pending ≡ false
      → Allows (Rule named bounds) slots id (v, c) 0 (λ n. n) (looks (step slots 0 0 0 said) (v, c))
  looks_allowed slots id v c said live none s r wide at small =
      let n : ℕ = slice_index s.words 0 in let seat : IsSeat s.views id v = (at, live) in
      let last : v.bounds.last ≡ bounds.last = ap (λ (b : Bounds). b.last) (r.session id v seat) in
      let was : one_if_pending v ≡ 0 = ap₂ (λ (a b : Bool). cond a 0 (cond b 1 0)) live none in
      elim (dec_le n v.bounds.last) as (λ _. (w : View) × (a : Act (Option X)) × Valid s.homes c a × Rule named bounds (stepped s 0 n id c w a) × looks (step slots 0 0 0 said) (v, c) n (w, carried_after c a)) [
        | yes le ↦ (
          may_draw v,
          keeps,
          tt,
          reads s r id v (may_draw v) c seat record { live = live; number = refl; made = refl; joined = refl; bounds = refl } refl
              (let t = total-set one_if_pending s.views id v (may_draw v) at in
              let now : one_if_pending (may_draw v) ≡ 1 = ap (λ (a : Bool). cond a 0 1) live in
              let few = pending_fewer s.views id v at live none in let counted = r.roster.counted in omega arith)
              (r.past id v seat),
          ((λ _. record { view = refl; slots = refl }), λ gt. absurd (omega arith)),
        )
        | no gt ↦
            let above : v.bounds.last < n = omega arith in (
              passed v n,
              keeps,
              tt,
              reads s r id v (passed v n) c seat record { live = live; number = refl; made = refl; joined = refl; bounds = refl } refl
                  (let t = total-set one_if_pending s.views id v (passed v n) at in
                  let now : one_if_pending (passed v n) ≡ 0 = ap (λ (a : Bool). cond a 0 0) live in
                  let next = r.next in omega arith)
                  (λ m is. let e : n ≡ m = same_Some n m is in (omega arith, omega arith)),
              ((λ le. absurd (omega arith)), λ _. passes s r id v c seat above),
            )
      ]

  -- a number above the last was drawn
  draws_past : (s : State (Option X) View) (r : Rule named bounds s) (id : ℕ) (v : View) (c : List (ℕ × Option X)) → IsSeat s.views id v → v.pending ≡ true → bounds.last < slice_index s.words 0
      → Rule named bounds (stepped s 0 (slice_index s.words 0 + 1) id c (passed v (slice_index s.words 0)) keeps)
  draws_past s r id v c seat some above =
      let n : ℕ = slice_index s.words 0 in let w : View = passed v n in
      let there : slice_index (set s.words 0 (n + 1)) 0 ≡ n + 1 = get_or-set_same s.words 0 (n + 1) 0 (let l = r.words in omega arith) in
      steps named bounds s r id v w r.book (set s.words 0 (n + 1)) s.homes seat record { live = seat.1; number = refl; made = refl; joined = refl; bounds = refl }
      (length-set s.words 0 (n + 1) ∙ r.words) r.slots
      (λ q one most. lies_same named s (set s.words 0 (n + 1)) s.homes (set s.views id w) q (get_or-set_other s.words 0 q (n + 1) 0 (λ e. omega arith)) refl
      (r.book q).holder (r.book q).journal (r.book q).blocks (r.stands q one most))
      (λ q. moves_none v.number (r.book q)) (r.notes id v seat) (r.seen id v seat)
      (subst (λ (k : ℕ). DrawnOnce (λ q. (r.book q).blocks) bounds k) (sym there) (drawn_past (λ q. (r.book q).blocks) bounds n above r.drawn))
      (let t = total-set one_if_pending s.views id v w seat.0 in
      let was : one_if_pending v ≡ 1 = ap₂ (λ (a b : Bool). cond a 0 (cond b 1 0)) seat.1 some in
      let now : one_if_pending w ≡ 0 = ap (λ (a : Bool). cond a 0 0) seat.1 in
      let next = r.next in omega arith)
      (omega arith)
      (λ m is. let e : n ≡ m = same_Some n m is in (omega arith, omega arith))

  -- a block was drawn for the partition p
  draws_block : (s : State (Option X) View) (r : Rule named bounds s) (id : ℕ) (v : View) (c : List (ℕ × Option X)) (p : ℕ) (note : Note) → IsSeat s.views id v → v.pending ≡ true → 1 ≤ p → p ≤ bounds.partitions
      → (r.book p).holder ≡ Some v.number → record { journal = (r.book p).journal; blocks = (r.book p).blocks } ≡ note → slice_index s.words 0 ≤ bounds.last
      → Rule named bounds (stepped s 0 (slice_index s.words 0 + 1) id c (drew v p note (slice_index s.words 0)) keeps)
  draws_block s r id v c p note seat some one most held is within =
      let n : ℕ = slice_index s.words 0 in let w : View = drew v p note n in let old : Stand = r.book p in
      let st : Stand = record { holder = Some v.number; journal = old.journal; blocks = old.blocks ++ n ∷ [] } in
      let line : Line = record { partition = p; seen = seen_of v p; mine = mine_of v p; note = Some (record { journal = note.journal; blocks = note.blocks ++ n ∷ [] }) } in
      let words : List ℕ = set s.words 0 (n + 1) in let views : List View = set s.views id w in
      let there : slice_index words 0 ≡ n + 1 = get_or-set_same s.words 0 (n + 1) 0 (let l = r.words in omega arith) in
      let out : IsOut s p v.number = subst (λ (o : Option ℕ). Lies named s p o old.journal old.blocks) held (r.stands p one most) in
      steps named bounds s r id v w (put r.book p st) words s.homes seat record { live = seat.1; number = refl; made = refl; joined = refl; bounds = refl }
      (length-set s.words 0 (n + 1) ∙ r.words) r.slots
      (put_each (λ q x. 1 ≤ q → q ≤ bounds.partitions → Stands named record { words = words; homes = s.homes; views = views } q x) r.book p st
      (λ _ _. lies_same named s words s.homes views p (get_or-set_other s.words 0 p (n + 1) 0 (λ e. omega arith)) refl (Some v.number) st.journal st.blocks out)
      (λ q ne a b. lies_same named s words s.homes views q (get_or-set_other s.words 0 q (n + 1) 0 (λ e. omega arith)) refl
      (r.book q).holder (r.book q).journal (r.book q).blocks (r.stands q a b)))
      (moves_put v.number r.book p st record {
        holds = λ u e. inl (sym (same_Some v.number u e));
        notes = λ u ne. note_else (record { journal = st.journal; blocks = st.blocks }) v.number u ne
            ∙ sym (ap (λ (o : Option ℕ). note_for o (record { journal = old.journal; blocks = old.blocks }) u) held
            ∙ note_else (record { journal = old.journal; blocks = old.blocks }) v.number u ne);
        grows = starts_itself old.journal;
        others = λ u _. refl;
      })
      (notes_line r.book p st v w line refl refl refl
      (ap (λ (k : Note). Some (record { journal = k.journal; blocks = k.blocks ++ n ∷ [] })) (sym is) ∙ sym (note_itself (record { journal = st.journal; blocks = st.blocks }) v.number))
      (r.notes id v seat))
      (seen_line r.book p st v w line refl refl refl (r.seen id v seat p).0 (r.seen id v seat p).1 (r.seen id v seat))
      (subst (λ (k : ℕ). DrawnOnce (λ q. (put r.book p st q).blocks) bounds k) (sym there)
      (drawn_more (λ q. (r.book q).blocks) (λ q. (put r.book p st q).blocks) bounds p n one most (let b = r.begun in omega arith) within
      (ap (λ (x : Stand). x.blocks) (put_here r.book p st))
      (λ q ne. ap (λ (x : Stand). x.blocks) (put_else r.book p st q ne)) r.drawn))
      (let t = total-set one_if_pending s.views id v w seat.0 in
      let was : one_if_pending v ≡ 1 = ap₂ (λ (a b : Bool). cond a 0 (cond b 1 0)) seat.1 some in
      let now : one_if_pending w ≡ 0 = ap (λ (a : Bool). cond a 0 0) seat.1 in
      let next = r.next in omega arith)
      (omega arith)
      (λ m at. let k = r.past id v seat m at in (k.0, omega (arith, k.1)))

  -- word 0 is the next block
  is_next : (s : State (Option X) View) (r : Rule named bounds s) (id : ℕ) (v : View) → IsSeat s.views id v → IsNextBlock v (slice_index s.words 0)
  is_next s r id v seat =
      let n : ℕ = slice_index s.words 0 in let same : v.bounds ≡ bounds = r.session id v seat in record {
        blocks = λ p. (r.book p).blocks;
        noted = λ p note has. ap (λ (k : Note). k.blocks)
            (noted_stands (r.book p).holder (record { journal = (r.book p).journal; blocks = (r.book p).blocks }) note v.number (sym (r.notes id v seat p) ∙ has)).1;
        drawn = subst (λ (b : Bounds). DrawnOnce (λ p. (r.book p).blocks) b n) (sym same) r.drawn;
        nowhere = λ p one most. nowhere_yet (λ q. (r.book q).blocks) bounds n r.drawn p one (subst (λ (b : Bounds). p ≤ b.partitions) same most);
      }

  pub draws_allowed : (slots id : ℕ) (v : View) (c : List (ℕ × Option X)) (p : ℕ) (note : Note) (said : maybe.Option (Option X)) → v.spent ≡ false → v.pending ≡ true → 1 ≤ p → p ≤ bounds.partitions → note_of v p ≡ Some note
      → Allows (Rule named bounds) slots id (v, (p, None) ∷ c) 0 (λ n. (n + 1) % 2 ^ 64) (draws (step slots 0 1 0 said) (v, (p, None) ∷ c))
  draws_allowed slots id v c p note said live some one most has s r wide at small =
      let n : ℕ = slice_index s.words 0 in let seat : IsSeat s.views id v = (at, live) in let me : Seated X = (v, (p, None) ∷ c) in
      let same : v.bounds ≡ bounds = r.session id v seat in
      let last : v.bounds.last ≡ bounds.last = ap (λ (b : Bounds). b.last) same in
      let first : v.bounds.partitions ≡ bounds.partitions = ap (λ (b : Bounds). b.partitions) same in
      let fits : (n + 1) % 2 ^ 64 ≡ n + 1 = mod-eq_of_lt (let next = r.next in let few = r.roster.few in let few_blocks = r.few_blocks in omega arith) in
      let found = noted_stands (r.book p).holder (record { journal = (r.book p).journal; blocks = (r.book p).blocks }) note v.number (sym (r.notes id v seat p) ∙ has) in
      subst (λ (m : ℕ). (w : View) × (a : Act (Option X)) × Valid s.homes me.1 a × Rule named bounds (stepped s 0 m id me.1 w a) × draws (step slots 0 1 0 said) me n (w, carried_after me.1 a)) (sym fits)
      (elim (dec_le n v.bounds.last) as (λ _. (w : View) × (a : Act (Option X)) × Valid s.homes me.1 a × Rule named bounds (stepped s 0 (n + 1) id me.1 w a) × draws (step slots 0 1 0 said) me n (w, carried_after me.1 a)) [
        | yes le ↦ (
          drew v p note n,
          keeps,
          tt,
          draws_block s r id v me.1 p note seat some one most found.0 found.1 (omega arith),
          (
            (λ _. record {
              note = note;
              noted = has;
              fresh = let b = r.begun in omega arith;
              within = le;
              highest = subst (λ (k : Note). AllByRecursion (λ b. b < n) k.blocks) found.1 (all_below (λ q. (r.book q).blocks) bounds p n one most r.drawn);
              next = is_next s r id v seat;
              view = refl;
              slots = refl;
            }),
            λ gt. absurd (omega arith),
          ),
        )
        | no gt ↦
            let above : v.bounds.last < n = omega arith in (
              passed v n,
              keeps,
              tt,
              draws_past s r id v me.1 seat some (omega arith),
              ((λ le. absurd (omega arith)), λ _. passes s r id v me.1 seat above),
            )
      ])
