-- What is left where no seat but root is left, and root holds nothing.
use Rattle.std.proofs.Common.{◌≡◌, ℕ, zero, suc, ◌+◌, ◌<◌, ◌≤◌, true, false, ap, sym, refl, subst, ◌∙◌, arith, List, [], ◌∷◌, ◌++◌, map, length, drop}
use mathlib.Core.Option.{some-injective, some-ne-none}
use mathlib.Core.Option as maybe
use native.Mathlib.Decide.{ℕ_discrete}
use lib.ListN.{get_elem?}
use Rattle.std.specs.Prelude.{Option, Some, None, is_some, slice_get, slice_index}
use Rattle.std.specs.List.{flat_map}
use Rattle.atomic_table.specs.Table.{State}
use Rattle.std.proofs.lemmas.Option.{none-some, same_Some}
use Rattle.session_table.specs.declared.view.Bounds.{Bounds}
use Rattle.session_table.specs.declared.view.Joined.{Joined}
use Rattle.session_table.specs.declared.view.Note.{Note}
use Rattle.session_table.specs.declared.view.View.{View}
use Rattle.session_table.specs.Entries.{only}
use Rattle.session_table.specs.Named.{Named}
use Rattle.session_table.specs.Seats.{joined_as}
use Rattle.session_table.specs.Rule.{IsHome, Lies, note_for, times, times_up_to, DrawnOnce, Rule}
use Rattle.session_table.specs.Ends.{HoldsNothing, HasJoinedAll, IsLeft, StandOnce, Leaves}
use Rattle.session_table.proofs.Book.{note_itself}

true_not_false : true ≡ false → ⊥
true_not_false e = cc

-- ---- the blocks of a list of partitions

times-both : (b : ℕ) (xs ys : List ℕ) → times b (xs ++ ys) ≡ times b xs + times b ys
times-both b [] ys = omega arith
times-both b (x ∷ xs) ys = let h = times-both b xs ys in omega arith

shift : (f : ℕ → List ℕ) (b k n : ℕ) → times_up_to f b (k + suc n) ≡ times_up_to f b (k + 1 + n)
shift f b k n = ap (times_up_to f b) (let e : k + suc n ≡ k + 1 + n = omega arith in e)

one_up : (f : ℕ → List ℕ) (b k : ℕ) → times_up_to f b (k + 1) ≡ times b (f (k + 1)) + times_up_to f b k
one_up f b k = subst (λ (n : ℕ). times_up_to f b n ≡ times b (f n) + times_up_to f b k) (let e : suc k ≡ k + 1 = omega arith in e) refl

module _ {X : Type 0} (named : X → Named) where
  abbrev Blocks : List X → List ℕ
  Blocks xs = flat_map (λ x. (named x).blocks) xs

  in_a_row : (f : ℕ → List ℕ) (b k : ℕ) (xs : List X) → ((i : ℕ) (x : X) → slice_get xs i ≡ Some x → (named x).blocks ≡ f (k + i + 1))
      → times_up_to f b (k + length xs) ≡ times_up_to f b k + times b (Blocks xs)
  in_a_row f b k [] is = ap (times_up_to f b) (let e : k + 0 ≡ k = omega arith in e) ∙ (omega arith)
  in_a_row f b k (x ∷ xs) is =
      let more = in_a_row f b (k + 1) xs (λ i y e. is (suc i) y e ∙ ap f (let z : k + suc i + 1 ≡ k + 1 + i + 1 = omega arith in z)) in
      let first = is zero x refl ∙ ap f (let z : k + 0 + 1 ≡ k + 1 = omega arith in z) in
      let here = ap (times b) first in
      let split = times-both b (named x).blocks (Blocks xs) in
      let a = shift f b k (length xs) in let c = one_up f b k in omega arith

  stand_once : (f : ℕ → List ℕ) (bounds : Bounds) (next : ℕ) (xs : List X) → length xs ≡ bounds.partitions → ((i : ℕ) (x : X) → slice_get xs i ≡ Some x → (named x).blocks ≡ f (i + 1))
      → DrawnOnce f bounds next → StandOnce (Blocks xs) bounds.last next
  stand_once f bounds next xs long is d =
      let same = λ (b : ℕ). let row = in_a_row f b 0 xs (λ i x e. is i x e ∙ ap f (let z : i + 1 ≡ 0 + i + 1 = omega arith in z)) in
      let n : times_up_to f b (0 + length xs) ≡ times_up_to f b bounds.partitions = ap (times_up_to f b) (let z : 0 + length xs ≡ bounds.partitions = omega arith in z) in
      let t : times b (Blocks xs) ≡ times_up_to f b bounds.partitions = omega arith in t in record {
        once = λ b low high below. same b ∙ d.once b low high below;
        not_zero = same 0 ∙ d.not_zero;
        not_past = λ b above. same b ∙ d.not_past b above;
        not_next = λ b above. same b ∙ d.not_next b above;
      }

  -- ---- lists of slots

  all_some : (ys : List (Option X)) → ((i : ℕ) → i < length ys → (x : X) × (get_elem? ys i ≡ maybe.some (Some x))) → (xs : List X) × (ys ≡ map Some xs)
  all_some [] has = ([], refl)
  all_some (y ∷ ys) has =
      let first = has zero (omega arith) in let more = all_some ys (λ i h. has (suc i) (omega arith)) in
      (first.0 ∷ more.0, λ i. some-injective y (Some first.0) first.1 i ∷ more.1 i)

  long_some : (xs : List X) → length (map (λ (x : X). Some x) xs) ≡ length xs
  long_some [] = refl
  long_some (x ∷ xs) = ap suc (long_some xs)

  long_rest : (slots : List (Option X)) (n : ℕ) → length slots ≡ n + 1 → length (drop 1 slots) ≡ n
  long_rest [] n e = absurd (omega arith)
  long_rest (y ∷ ys) n e = omega arith

  got_within : (xs : List X) (i : ℕ) (x : X) → slice_get xs i ≡ Some x → i < length xs
  got_within [] i x e = absurd (none-some x e)
  got_within (y ∷ ys) zero x e = omega arith
  got_within (y ∷ ys) (suc i) x e = let h = got_within ys i x e in omega arith

  some_there : (xs : List X) (i : ℕ) (x : X) → slice_get xs i ≡ Some x → get_elem? (map (λ (z : X). Some z) xs) i ≡ maybe.some (Some x)
  some_there [] i x e = absurd (none-some x e)
  some_there (y ∷ ys) zero x e = ap (λ (z : Option X). maybe.some z) e
  some_there (y ∷ ys) (suc i) x e = some_there ys i x e

  value_there : (xs : List X) (slots : List (Option X)) (i : ℕ) (x y : X) → drop 1 slots ≡ map Some xs → slice_get xs i ≡ Some x → get_elem? slots (i + 1) ≡ maybe.some (Some y) → y ≡ x
  value_there xs [] i x y is e got = absurd (some-ne-none (Some y) (sym got))
  value_there xs (z ∷ zs) i x y is e got =
      let there : get_elem? zs i ≡ maybe.some (Some y) = subst (λ (k : ℕ). get_elem? (z ∷ zs) k ≡ maybe.some (Some y)) (let q : i + 1 ≡ suc i = omega arith in q) got in
      same_Some y x (some-injective (Some y) (Some x) (sym there ∙ ap (λ (l : List (Option X)). get_elem? l i) is ∙ some_there xs i x e))

  -- ---- the last state

  module _ (bounds : Bounds) (s : State (Option X) View) (r : Rule named bounds s) (id : ℕ) (v : View) (at : get_elem? s.views id ≡ maybe.some v) (live : v.spent ≡ false) (is_root : v.number ≡ 0) (idle : HoldsNothing v) (alone : HasJoinedAll v) where
    not_held : (p t : ℕ) → (r.book p).holder ≡ Some t → ⊥
    not_held p t held =
        let who = r.holders p t held in let u : View = who.1 in let n : u.number ≡ t = who.3 in
        let rank = r.ranks who.0 u who.2 in let root = (r.ranks id v (at, live)).0 is_root in
        let note : Note = record { journal = (r.book p).journal; blocks = (r.book p).blocks } in
        elim (ℕ_discrete t 0) as (λ _. ⊥) [
          | yes e ↦
              none-some note (sym (idle p) ∙ r.notes id v (at, live) p ∙ ap (λ (o : Option ℕ). note_for o note v.number) (held ∙ ap Some (e ∙ sym is_root)) ∙ note_itself note v.number)
          | no ne ↦
              let few : u.number ≤ r.made = rank.2 in let made : v.made ≡ r.made = root.0 in
              let is = alone t (omega arith) (omega arith) in
              true_not_false (sym is ∙ ap (λ (o : Option Joined). is_some o) (ap (λ (js : List Joined). joined_as js t) root.1 ∙ ap (joined_as r.joined) (sym n) ∙ rank.3))
        ]

    free : (p : ℕ) → (o : Option ℕ) → (r.book p).holder ≡ o → o ≡ None
    free p None e = refl
    free p (Some t) e = absurd (not_held p t e)

    pub home : (p : ℕ) → 1 ≤ p → p ≤ bounds.partitions → IsHome named s p (r.book p).journal (r.book p).blocks
    home p one most = subst (λ (o : Option ℕ). Lies named s p o (r.book p).journal (r.book p).blocks) (free p (r.book p).holder refl) (r.stands p one most)

    left : (p : ℕ) (x : X) (h : IsHome named s p (r.book p).journal (r.book p).blocks) → h.value ≡ x → IsLeft v p (named x)
    left p x h is =
        let seen : named x ≡ record { number = p; holder = None; blocks = (r.book p).blocks; journal = (r.book p).journal } = ap named (sym is) ∙ h.seen in
        let root = (r.ranks id v (at, live)).0 is_root in
        subst (λ (y : Named). IsLeft v p y) (sym seen) record {
          number = refl;
          free = refl;
          seen = (r.seen id v (at, live) p).0;
          root = (r.seen id v (at, live) p).1 ∙ ap (λ (n : ℕ). only n (r.book p).journal) is_root;
          joined = λ t j e. r.roster.kept t j (ap (λ (js : List Joined). joined_as js t) (sym root.1) ∙ e) p;
          others = λ t above. r.roster.unmade t (subst (λ (n : ℕ). n < t) root.0 above) p;
        }

    -- what was in the slots is what is left
    pub leaves : (slots : List (Option X)) (xs : List X) → ((k : ℕ) (y : Option X) → get_elem? s.homes k ≡ maybe.some (maybe.some y) → get_elem? slots k ≡ maybe.some y) → length slots ≡ bounds.partitions + 1
        → drop 1 slots ≡ map Some xs → Leaves named v xs
    leaves slots xs kept long is =
        let same : v.bounds ≡ bounds = r.session id v (at, live) in
        let many : length xs ≡ bounds.partitions = sym (long_some xs) ∙ ap length (sym is) ∙ long_rest slots bounds.partitions long in
        let there = λ (i : ℕ) (x : X) (e : slice_get xs i ≡ Some x).
        let near : i < length xs = got_within xs i x e in
        let h = home (i + 1) (omega arith) (omega arith) in
        let got : get_elem? slots (i + 1) ≡ maybe.some (Some h.value) = kept (i + 1) (Some h.value) h.slot in
        let same_value : h.value ≡ x = value_there xs slots i x h.value is e got in
        let r : (h : IsHome named s (i + 1) (r.book (i + 1)).journal (r.book (i + 1)).blocks) × (h.value ≡ x) = (h, same_value) in r in record {
          count = many ∙ ap (λ (b : Bounds). b.partitions) (sym same);
          each = λ i x e. let t = there i x e in left (i + 1) x t.0 t.1;
          next = slice_index s.words 0;
          begun = subst (λ (b : Bounds). b.partitions < slice_index s.words 0) (sym same) r.begun;
          drawn = subst (λ (b : Bounds). StandOnce (Blocks xs) b.last (slice_index s.words 0)) (sym same)
              (stand_once (λ p. (r.book p).blocks) bounds (slice_index s.words 0) xs many
              (λ i x e. let t = there i x e in ap (λ (z : X). (named z).blocks) (sym t.1) ∙ ap (λ (z : Named). z.blocks) t.0.seen) r.drawn);
          past = λ m e. let k = r.past id v (at, live) m e in (subst (λ (b : Bounds). b.last < m) (sym same) k.0, k.1);
        }

    -- each slot but the first has a partition
    pub filled : (slots : List (Option X)) → ((k : ℕ) (y : Option X) → get_elem? s.homes k ≡ maybe.some (maybe.some y) → get_elem? slots k ≡ maybe.some y) → length slots ≡ bounds.partitions + 1
        → (xs : List X) × (drop 1 slots ≡ map Some xs)
    filled [] kept long = ([], refl)
    filled (y ∷ ys) kept long = all_some ys (λ i near.
        let h = home (i + 1) (omega arith) (omega arith) in
        let got : get_elem? (y ∷ ys) (suc i) ≡ maybe.some (Some h.value) = subst (λ (k : ℕ). get_elem? (y ∷ ys) k ≡ maybe.some (Some h.value)) (let e : i + 1 ≡ suc i = omega arith in e) (kept (i + 1) (Some h.value) h.slot) in
        (h.value, got))
