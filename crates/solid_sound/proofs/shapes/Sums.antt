-- Sums over the items of a shape, once items were written and once items were killed.
use Rattle.std.proofs.Common.{◌≡◌, ◌≢◌, ℕ, ◌+◌, ⊎_elim, Bool, true, false, cond, [], ◌∷◌, Option, Some, None, refl, sym, ap, subst, ◌∙◌, arith}
use Rattle.std.specs.Prelude.{T, filter}
use Rattle.std.specs.Option.{option_map_or}
use Rattle.std.specs.List.{AllByRecursion, sum_by}
use Rattle.std.specs.Ordering.{eq_by_cmp, is_lt, is_eq}
use Rattle.std.specs.declared.cmp.Ordering.{Ordering}
use Rattle.std.specs.declared.cmp.Ordering.TheVariants.{Less, Equal, Greater}
use Rattle.std.specs.FinMap.{is_sorted, put}
use Rattle.std.specs.FinMap.Entries.{below_all, by_order}
use Rattle.std.proofs.lemmas.Bool.{true≢false, cases_Bool}
use Rattle.std.proofs.lemmas.List.Sums.{sum_by-cons}
use Rattle.std.proofs.lemmas.Cmp.{tied_itself}
use Rattle.pk_base.specs.Entity.{same_tag}
use Rattle.pk_base.specs.declared.tag.Tag.{Tag}
use Rattle.pk_model.specs.Maps.{tag_cmp}
use Rattle.pk_model.proofs.TagLists.{tag_total, tag_antisymmetric, ties_itself, same_from_tie}
use Rattle.solid_model.specs.Items.{Item, Shape, item_at}
use Rattle.solid_model.proofs.lists.Neighbours.{both_parts}
use Rattle.pk_base.proofs.Same.{same_itself, not_same}
use Rattle.solid_sound.proofs.shapes.Lookups.{differs-none}
use Rattle.solid_sound.proofs.shapes.Reading.{below_all-differs}

abbrev pub Weight : Type 0
Weight = Tag × Item → ℕ

-- what an item counts where it stands
abbrev pub weight_at : Weight → Shape → Tag → ℕ
weight_at w S t = option_map_or (λ x. w (t, x)) (item_at S t) 0

-- what stands behind the first item is found past it
pub later : (y : Tag × Item) (S : Shape) → T (below_all tag_cmp y.0 S) → (t : Tag) (x : Item) → item_at S t ≡ Some x → item_at (y ∷ S) t ≡ Some x
later y S below t x e = ⊎_elim (λ (l : eq_by_cmp tag_cmp t y.0 ≡ true).
    let none = differs-none t S (subst (λ u. AllByRecursion (λ (z : Tag × Item). u ≢ z.0) S) (sym (same_from_tie t y.0 l)) (below_all-differs y.0 S below)) in
    let both : None ≡ Some x = sym none ∙ e in
    absurd (cc))
    (λ (r : eq_by_cmp tag_cmp t y.0 ≡ false). ap (λ b. cond b (Some y.1) (item_at S t)) r ∙ e)
    (cases_Bool (eq_by_cmp tag_cmp t y.0))

-- ---- the same of each item

pub sum-alike : (w v : Weight) (S : Shape) → T (is_sorted tag_cmp S) → ((t : Tag) (x : Item) → item_at S t ≡ Some x → w (t, x) ≡ v (t, x)) → sum_by w S ≡ sum_by v S
sum-alike w v [] sorted h = refl
sum-alike w v (y ∷ S) sorted h =
    let parts = both_parts (below_all tag_cmp y.0 S) (is_sorted tag_cmp S) sorted in
    let here : w y ≡ v y = h y.0 y.1 (ap (λ b. cond b (Some y.1) (item_at S y.0)) (ties_itself y.0)) in
    let rest : sum_by w S ≡ sum_by v S = sum-alike w v S parts.1 (λ t x e. h t x (later y S parts.0 t x e)) in
    sum_by-cons w y S ∙ (λ i. here i + rest i) ∙ sym (sum_by-cons v y S)

-- ---- one item written

is_less : (o : Ordering) → T (is_lt o) → o ≡ Less
is_less Less h = refl
is_less Equal h = absurd h
is_less Greater h = absurd h

below_differs : (t u : Tag) (S : Shape) → tag_cmp t u ≡ Less → T (below_all tag_cmp u S) → AllByRecursion (λ (z : Tag × Item). t ≢ z.0) S
below_differs t u [] less below = tt
below_differs t u (z ∷ S) less below =
    let parts = both_parts (is_lt (tag_cmp u z.0)) (below_all tag_cmp u S) below in (
      λ e.
          let far : tag_cmp t z.0 ≡ Less = tag_total.trans t u z.0 less (is_less _ parts.0) in
          let both : Less ≡ Equal = sym (ap (tag_cmp t) e ∙ far) ∙ tied_itself tag_total t in
          cc,
      below_differs t u S less parts.1,
    )

below_none : (t : Tag) (y : Tag × Item) (S : Shape) → tag_cmp t y.0 ≡ Less → T (below_all tag_cmp y.0 S) → item_at (y ∷ S) t ≡ None
below_none t y S less below = ap (λ r. cond (is_eq r) (Some y.1) (item_at S t)) less ∙ differs-none t S (below_differs t y.0 S less below)

pub sum-put : (w : Weight) (S : Shape) (t : Tag) (x : Item) → T (is_sorted tag_cmp S) → sum_by w (put tag_cmp t x S) + weight_at w S t ≡ w (t, x) + sum_by w S
sum-put w [] t x sorted = omega (arith, sum_by-cons w (t, x) [])
sum-put w (y ∷ S) t x sorted =
    let parts = both_parts (below_all tag_cmp y.0 S) (is_sorted tag_cmp S) sorted in
    elim (tag_cmp t y.0) as (λ r. tag_cmp t y.0 ≡ r → sum_by w (by_order r ((t, x) ∷ y ∷ S) ((y.0, x) ∷ S) (y ∷ put tag_cmp t x S)) + weight_at w (y ∷ S) t ≡ w (t, x) + sum_by w (y ∷ S)) [
      | Less ↦ λ p.
          let none : weight_at w (y ∷ S) t ≡ 0 = ap (λ (o : Option Item). option_map_or (λ z. w (t, z)) o 0) (below_none t y S p parts.0) in
          omega (arith, sum_by-cons w (t, x) (y ∷ S))
      | Equal ↦ λ p.
          let same : t ≡ y.0 = tag_antisymmetric t y.0 p in
          let found : weight_at w (y ∷ S) t ≡ w y = ap (λ b. option_map_or (λ z. w (t, z)) (cond b (Some y.1) (item_at S t)) 0) (ap is_eq p) ∙ ap (λ u. w (u, y.1)) same in
          let moved : w (t, x) ≡ w (y.0, x) = ap (λ u. w (u, x)) same in
          omega (arith, sum_by-cons w (y.0, x) S, sum_by-cons w y S)
      | Greater ↦ λ p.
          let found : weight_at w (y ∷ S) t ≡ weight_at w S t = ap (λ b. option_map_or (λ z. w (t, z)) (cond b (Some y.1) (item_at S t)) 0) (ap is_eq p) in
          let rest : sum_by w (put tag_cmp t x S) + weight_at w S t ≡ w (t, x) + sum_by w S = sum-put w S t x parts.1 in
          omega (arith, sum_by-cons w y (put tag_cmp t x S), sum_by-cons w y S)
    ] refl

-- ---- what is left

pub sum-filter : (w : Weight) (p : Tag × Item → Bool) (S : Shape) → sum_by w (filter p S) ≡ sum_by (λ x. cond (p x) (w x) 0) S
sum-filter w p [] = refl
sum-filter w p (y ∷ S) =
    (elim (p y) as (λ b. sum_by w (cond b (y ∷ filter p S) (filter p S)) ≡ cond b (w y) 0 + sum_by w (filter p S)) [
      | true ↦ sum_by-cons w y (filter p S)
      | false ↦ omega arith
    ])
    ∙ ap (λ n. cond (p y) (w y) 0 + n) (sum-filter w p S)
    ∙ sym (sum_by-cons (λ x. cond (p x) (w x) 0) y S)

-- what is left of a shape, where all else counts nothing
pub sum-left : (w : Weight) (p : Tag × Item → Bool) (S : Shape) → T (is_sorted tag_cmp S)
    → ((t : Tag) (x : Item) → item_at S t ≡ Some x → p (t, x) ≡ false → w (t, x) ≡ 0) → sum_by w (filter p S) ≡ sum_by w S
sum-left w p S sorted h = sum-filter w p S ∙ sum-alike (λ x. cond (p x) (w x) 0) w S sorted (λ t x e.
    elim (p (t, x)) as (λ b. p (t, x) ≡ b → cond b (w (t, x)) 0 ≡ w (t, x)) [
      | true ↦ λ k. refl
      | false ↦ λ k. sym (h t x e k)
    ] refl)

pub sum-nothing : (w : Weight) (S : Shape) → T (is_sorted tag_cmp S) → ((t : Tag) (x : Item) → item_at S t ≡ Some x → w (t, x) ≡ 0) → sum_by w S ≡ 0
sum-nothing w S sorted h = sum-alike w (λ x. 0) S sorted h ∙ zeros S
  where
    zeros : (S : Shape) → sum_by (λ (x : Tag × Item). 0) S ≡ 0
    zeros [] = refl
    zeros (x ∷ S) = let rest : sum_by (λ (y : Tag × Item). 0) S ≡ 0 = zeros S in omega (arith, sum_by-cons (λ (y : Tag × Item). 0) x S)

-- what one item counts, and what all others do
pub sum-but : (w : Weight) (S : Shape) (b : Tag) → T (is_sorted tag_cmp S) → sum_by w S ≡ weight_at w S b + sum_by (λ x. cond (same_tag x.0 b) 0 (w x)) S
sum-but w [] b sorted = refl
sum-but w (y ∷ S) b sorted =
    let parts = both_parts (below_all tag_cmp y.0 S) (is_sorted tag_cmp S) sorted in
    let rest : sum_by w S ≡ weight_at w S b + sum_by (λ x. cond (same_tag x.0 b) 0 (w x)) S = sum-but w S b parts.1 in
    ⊎_elim (λ (l : eq_by_cmp tag_cmp b y.0 ≡ true).
    let same : b ≡ y.0 = same_from_tie b y.0 l in
    let here : weight_at w (y ∷ S) b ≡ w y = ap (λ c. option_map_or (λ z. w (b, z)) (cond c (Some y.1) (item_at S b)) 0) l ∙ ap (λ u. w (u, y.1)) same in
    let none : weight_at w S b ≡ 0 = ap (λ (o : Option Item). option_map_or (λ z. w (b, z)) o 0) (differs-none b S (subst (λ u. AllByRecursion (λ (z : Tag × Item). u ≢ z.0) S) (sym same) (below_all-differs y.0 S parts.0))) in
    let zero : cond (same_tag y.0 b) 0 (w y) ≡ 0 = ap (λ c. cond c 0 (w y)) (ap (λ u. same_tag u b) (sym same) ∙ same_itself b) in
    omega (arith, sum_by-cons w y S, sum_by-cons (λ x. cond (same_tag x.0 b) 0 (w x)) y S))
    (λ (r : eq_by_cmp tag_cmp b y.0 ≡ false).
    let past : weight_at w (y ∷ S) b ≡ weight_at w S b = ap (λ c. option_map_or (λ z. w (b, z)) (cond c (Some y.1) (item_at S b)) 0) r in
    let other : y.0 ≢ b = λ e. true≢false (sym (ap (λ u. eq_by_cmp tag_cmp b u) e ∙ ties_itself b) ∙ r) in
    let counts : cond (same_tag y.0 b) 0 (w y) ≡ w y = ap (λ c. cond c 0 (w y)) (not_same y.0 b other) in
    omega (arith, sum_by-cons w y S, sum_by-cons (λ x. cond (same_tag x.0 b) 0 (w x)) y S))
    (cases_Bool (eq_by_cmp tag_cmp b y.0))
