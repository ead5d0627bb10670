-- How often a block stands in the lists, after one more is drawn.
use Rattle.std.proofs.Common.{◌≡◌, ◌≢◌, ℕ, zero, suc, ◌+◌, ◌<◌, ◌≤◌, Bool, cond, ap, ap₂, sym, refl, subst, ◌∙◌, arith, List, [], ◌∷◌, ◌++◌, eq-eqb, ne_eqb}
use native.Mathlib.Decide.{dec_le, ℕ_discrete}
use Rattle.std.specs.Prelude.{◌==◌}
use Rattle.std.specs.List.{AllByRecursion}
use Rattle.session_table.specs.declared.view.Bounds.{Bounds}
use Rattle.session_table.specs.Rule.{times, times_up_to, DrawnOnce}

-- one where they are the same
abbrev hit : ℕ → ℕ → ℕ
hit x b = cond (x == b) 1 0

hit_same : (x b : ℕ) → x ≡ b → hit x b ≡ 1
hit_same x b e = ap (λ (c : Bool). cond c 1 0) (eq-eqb x b e)

hit_other : (x b : ℕ) → x ≢ b → hit x b ≡ 0
hit_other x b ne = ap (λ (c : Bool). cond c 1 0) (ne_eqb x b ne)

times-snoc : (b : ℕ) (xs : List ℕ) (x : ℕ) → times b (xs ++ x ∷ []) ≡ times b xs + hit x b
times-snoc b [] x = omega arith
times-snoc b (y ∷ ys) x = let h = times-snoc b ys x in omega arith

same_below : (f g : ℕ → List ℕ) (b n : ℕ) → ((q : ℕ) → q ≤ n → g q ≡ f q) → times_up_to g b n ≡ times_up_to f b n
same_below f g b zero same = refl
same_below f g b (suc n) same = ap₂ ◌+◌ (ap (times b) (same (suc n) (omega arith))) (same_below f g b n (λ q le. same q (omega arith)))

one_more : (f g : ℕ → List ℕ) (p x b n : ℕ) → 1 ≤ p → p ≤ n → g p ≡ f p ++ x ∷ [] → ((q : ℕ) → q ≢ p → g q ≡ f q) → times_up_to g b n ≡ times_up_to f b n + hit x b
one_more f g p x b zero one most own others = absurd (omega arith)
one_more f g p x b (suc n) one most own others = elim (ℕ_discrete (suc n) p) as (λ _. times_up_to g b (suc n) ≡ times_up_to f b (suc n) + hit x b) [
  | yes e ↦
      let here : times b (g (suc n)) ≡ times b (f (suc n)) + hit x b =
      subst (λ (z : ℕ). times b (g z) ≡ times b (f z) + hit x b) (sym e) (ap (times b) own ∙ times-snoc b (f p) x) in
      let below = same_below f g b n (λ q le. others q (λ h. omega arith)) in omega arith
  | no ne ↦
      let here : times b (g (suc n)) ≡ times b (f (suc n)) = ap (times b) (others (suc n) ne) in
      let below = one_more f g p x b n one (omega arith) own others in omega arith
]

-- the next block is drawn for the partition p
pub drawn_more : (f g : ℕ → List ℕ) (bounds : Bounds) (p next : ℕ) → 1 ≤ p → p ≤ bounds.partitions → 1 ≤ next → next ≤ bounds.last → g p ≡ f p ++ next ∷ [] → ((q : ℕ) → q ≢ p → g q ≡ f q)
    → DrawnOnce f bounds next → DrawnOnce g bounds (next + 1)
drawn_more f g bounds p next one most some within own others d =
    let more = λ (b : ℕ). one_more f g p next b bounds.partitions one most own others in record {
      once = λ b low high below. elim (ℕ_discrete next b) as (λ _. times_up_to g b bounds.partitions ≡ 1) [
        | yes e ↦ let m = more b in let h = hit_same next b e in let z = d.not_next b (omega arith) in omega arith
        | no ne ↦ let m = more b in let h = hit_other next b ne in let z = d.once b low high (omega arith) in omega arith
      ];
      not_zero = let m = more 0 in let h = hit_other next 0 (λ e. omega arith) in let z = d.not_zero in omega arith;
      not_past = λ b above. let m = more b in let h = hit_other next b (λ e. omega arith) in let z = d.not_past b above in omega arith;
      not_next = λ b above. let m = more b in let h = hit_other next b (λ e. omega arith) in let z = d.not_next b (omega arith) in omega arith;
    }

-- a number above the last was drawn, which is no block
pub drawn_past : (f : ℕ → List ℕ) (bounds : Bounds) (next : ℕ) → bounds.last < next → DrawnOnce f bounds next → DrawnOnce f bounds (next + 1)
drawn_past f bounds next above d = record {
  once = λ b low high below. d.once b low high (omega arith);
  not_zero = d.not_zero;
  not_past = d.not_past;
  not_next = λ b more. d.not_next b (omega arith);
}

no_more : (f : ℕ → List ℕ) (b p n : ℕ) → 1 ≤ p → p ≤ n → times b (f p) ≤ times_up_to f b n
no_more f b p zero one most = absurd (omega arith)
no_more f b p (suc n) one most = elim (ℕ_discrete (suc n) p) as (λ _. times b (f p) ≤ times_up_to f b (suc n)) [
  | yes e ↦ subst (λ (z : ℕ). times b (f z) ≤ times_up_to f b (suc n)) e (omega arith)
  | no ne ↦ let h = no_more f b p n one (omega arith) in omega arith
]

below_all : (next : ℕ) (xs : List ℕ) → ((b : ℕ) → next ≤ b → times b xs ≡ 0) → AllByRecursion (λ b. b < next) xs
below_all next [] none = tt
below_all next (x ∷ xs) none = (
  (elim (dec_le next x) as (λ _. x < next) [
    | yes le ↦ let h = none x le in let e = hit_same x x refl in absurd (omega arith)
    | no gt ↦ omega arith
  ]),
  below_all next xs (λ b le. let h = none b le in omega arith),
)

-- all blocks of a partition are below the next one
pub all_below : (f : ℕ → List ℕ) (bounds : Bounds) (p next : ℕ) → 1 ≤ p → p ≤ bounds.partitions → DrawnOnce f bounds next → AllByRecursion (λ b. b < next) (f p)
all_below f bounds p next one most d = below_all next (f p) (λ b le. let h = d.not_next b le in let k = no_more f b p bounds.partitions one most in omega arith)

-- the next block stands in the list of no partition
pub nowhere_yet : (f : ℕ → List ℕ) (bounds : Bounds) (next : ℕ) → DrawnOnce f bounds next → (p : ℕ) → 1 ≤ p → p ≤ bounds.partitions → times next (f p) ≡ 0
nowhere_yet f bounds next d p one most = let h = d.not_next next (omega arith) in let k = no_more f next p bounds.partitions one most in omega arith
