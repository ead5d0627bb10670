-- A session begins under the rule.
use Rattle.std.proofs.Common.{◌≡◌, ◌≢◌, ℕ, zero, suc, ◌+◌, ◌^◌, ◌<◌, ◌≤◌, Bool, true, false, cond, ap, sym, refl, subst, ◌∙◌, arith, List, [], ◌∷◌, map, replicate, length, get_or, eq-eqb, ne_eqb}
use mathlib.Core.Option.{some-injective, some-ne-none}
use mathlib.Core.Option as maybe
use native.Mathlib.Decide.{ℕ_discrete}
use lib.ListN.{get_elem?}
use Rattle.std.specs.Prelude.{Some, None, slice_index}
use Rattle.atomic_table.specs.Table.{opening as table_opening}
use Rattle.atomic_table.proofs.Lists.{at_map}
use Rattle.session_table.specs.declared.view.Bounds.{Bounds}
use Rattle.session_table.specs.declared.view.View.{View}
use Rattle.session_table.specs.Named.{Named, opening, openings}
use Rattle.session_table.specs.Seats.{root}
use Rattle.session_table.specs.Rule.{EachSeat, IsHome, times, times_up_to, DrawnOnce, Rule}
use Rattle.std.proofs.lemmas.Option.{none-some}

-- ---- the blocks

abbrev own : ℕ → List ℕ
own p = p ∷ []

one_hit : (x b : ℕ) → x ≡ b → times b (x ∷ []) ≡ 1
one_hit x b e = ap (λ (c : Bool). cond c 1 0 + 0) (eq-eqb x b e)

no_hit : (x b : ℕ) → x ≢ b → times b (x ∷ []) ≡ 0
no_hit x b ne = ap (λ (c : Bool). cond c 1 0 + 0) (ne_eqb x b ne)

none_above : (b n : ℕ) → n < b → times_up_to own b n ≡ 0
none_above b zero h = refl
none_above b (suc n) h = let a = no_hit (suc n) b (λ e. omega arith) in let k = none_above b n (omega arith) in omega arith

none_zero : (n : ℕ) → times_up_to own 0 n ≡ 0
none_zero zero = refl
none_zero (suc n) = let a = no_hit (suc n) 0 (λ e. omega arith) in let k = none_zero n in omega arith

one_within : (b n : ℕ) → 1 ≤ b → b ≤ n → times_up_to own b n ≡ 1
one_within b zero low high = absurd (omega arith)
one_within b (suc n) low high = elim (ℕ_discrete (suc n) b) as (λ _. times_up_to own b (suc n) ≡ 1) [
  | yes e ↦ let a = one_hit (suc n) b e in let k = none_above b n (omega arith) in omega arith
  | no ne ↦ let a = no_hit (suc n) b ne in let k = one_within b n low (omega arith) in omega arith
]

drawn : (bounds : Bounds) (next : ℕ) → next ≡ bounds.partitions + 1 → bounds.partitions ≤ bounds.last → DrawnOnce own bounds next
drawn bounds next is most = record {
  once = λ b low high below. one_within b bounds.partitions low (omega arith);
  not_zero = none_zero bounds.partitions;
  not_past = λ b above. none_above b bounds.partitions (omega arith);
  not_next = λ b above. none_above b bounds.partitions (omega arith);
}

-- ---- the words, the slots and the one view

abbrev nothing : ℕ
nothing = 0

pub zeros : (n q : ℕ) → get_or (replicate n nothing) q nothing ≡ nothing
zeros zero q = refl
zeros (suc n) zero = refl
zeros (suc n) (suc q) = zeros n q

pub long_zeros : (n : ℕ) → length (replicate n nothing) ≡ n
long_zeros zero = refl
long_zeros (suc n) = ap suc (long_zeros n)

long_map : {A B : Type 0} (f : A → B) (xs : List A) → length (map f xs) ≡ length xs
long_map f [] = refl
long_map f (x ∷ xs) = ap suc (long_map f xs)

only_one : (v w : View) (j : ℕ) → get_elem? (v ∷ []) j ≡ maybe.some w → (j ≡ 0) × (v ≡ w)
only_one v w zero e = (refl, some-injective v w e)
only_one v w (suc j) e = absurd (some-ne-none w (sym e))

each_one : (P : View → Type 0) (v : View) → P v → EachSeat (v ∷ []) P
each_one P v has j w seat = subst P (only_one v w j seat.0).1 has

abbrev first_of : List Named → Named → Named
first_of [] d = d
first_of (x ∷ xs) d = x

abbrev tail_of : List Named → List Named
tail_of [] = []
tail_of (x ∷ xs) = xs

module _ {X : Type 0} (named : X → Named) where
  -- the partition at a place
  opened : (k : ℕ) (xs : List X) → map named xs ≡ openings k (length xs) → (q : ℕ) → q < length xs → (x : X) × (get_elem? xs q ≡ maybe.some x) × (named x ≡ opening (k + q))
  opened k [] e q h = absurd (omega arith)
  opened k (x ∷ xs) e zero h = (x, refl, ap (λ (l : List Named). first_of l (named x)) e ∙ ap opening (let z : k ≡ k + 0 = omega arith in z))
  opened k (x ∷ xs) e (suc q) h =
      let found = opened (k + 1) xs (ap tail_of e) q (omega arith) in
      (found.0, found.1, found.2 ∙ ap opening (let z : k + 1 + q ≡ k + suc q = omega arith in z))

  home : (bounds : Bounds) (xs : List X) (words : List ℕ) → words ≡ (bounds.partitions + 1) ∷ replicate bounds.partitions 0 → length xs ≡ bounds.partitions → map named xs ≡ openings 1 (length xs)
      → (p : ℕ) → 1 ≤ p → p ≤ bounds.partitions → IsHome named (table_opening words (None ∷ map Some xs) (root bounds)) p [] (p ∷ [])
  home bounds xs words is long opening_now zero one within = absurd (omega arith)
  home bounds xs words is long opening_now (suc q) one within =
      let found = opened 1 xs opening_now q (omega arith) in record {
        word = ap (λ (l : List ℕ). slice_index l (suc q)) is ∙ zeros bounds.partitions q;
        value = found.0;
        slot = at_map maybe.some (map Some xs) q (Some found.0) (at_map Some xs q found.0 found.1);
        seen = found.2 ∙ ap opening (let z : 1 + q ≡ suc q = omega arith in z);
      }

  true_not_false : true ≡ false → ⊥
  true_not_false e = cc

  pub opens : (bounds : Bounds) (xs : List X) (words : List ℕ) → words ≡ (bounds.partitions + 1) ∷ replicate bounds.partitions 0 → length xs ≡ bounds.partitions → map named xs ≡ openings 1 (length xs)
      → bounds.partitions ≤ bounds.last → bounds.last < 2 ^ 32 → Rule named bounds (table_opening words (None ∷ map Some xs) (root bounds))
  opens bounds xs words is long opening_now most few = let n : ℕ = bounds.partitions in
      let next : slice_index words 0 ≡ n + 1 = ap (λ (l : List ℕ). slice_index l 0) is in record {
        book = λ p. record { holder = None; journal = []; blocks = p ∷ [] };
        made = 0;
        joined = [];
        words = ap length is ∙ (let z = long_zeros n in omega arith);
        slots = long_map maybe.some (None ∷ map Some xs) ∙ (let z = long_map (λ (x : X). Some x) xs in omega arith);
        few_blocks = few;
        begun = omega arith;
        session = each_one _ (root bounds) refl;
        stands = λ p one within. home bounds xs words is long opening_now p one within;
        holders = λ p t held. absurd (none-some t held);
        notes = each_one _ (root bounds) (λ p. refl);
        numbers = λ i j v w one two e. (only_one (root bounds) v i one.0).0 ∙ sym (only_one (root bounds) w j two.0).0;
        seen = each_one _ (root bounds) (λ p. (([], refl), refl));
        ranks = each_one _ (root bounds) ((λ _. (refl, refl)), (λ ne. absurd (ne refl)), omega arith, refl);
        roster = record {
          root = (0, root bounds, (refl, refl), refl);
          present = λ s one none. absurd (omega arith);
          counted = omega arith;
          few = omega arith;
          apart = tt;
          numbered = λ s is. absurd (true_not_false (sym is));
          kept = λ s j is p. absurd (none-some j is);
          seen = λ s j is p. absurd (none-some j is);
          unmade = λ s above p. refl;
        };
        drawn = drawn bounds (slice_index words 0) next most;
        next = omega arith;
        past = each_one _ (root bounds) (λ m e. absurd (none-some m e));
      }
