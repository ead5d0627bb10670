-- What stands under a tag once items were written, and once items were killed.
use Rattle.std.proofs.Common.{◌≡◌, ◌≢◌, ◌⊎◌, inl, inr, ⊎_elim, Bool, true, false, cond, List, [], ◌∷◌, Some, None, refl, sym, ap, subst, ◌∙◌}
use Rattle.std.specs.Prelude.{T, map, filter, Contains}
use Rattle.std.specs.List.{AllByRecursion}
use Rattle.std.specs.Ordering.{eq_by_cmp, is_lt}
use Rattle.std.specs.FinMap.{is_sorted, put}
use Rattle.std.specs.FinMap.Entries.{below_all, find-put, is_sorted-put}
use Rattle.std.proofs.lemmas.Bool.{true≢false, cases_Bool}
use Rattle.std.proofs.lemmas.Option.{same_Some}
use Rattle.pk_base.specs.declared.tag.Tag.{Tag}
use Rattle.pk_model.specs.Maps.{tag_cmp}
use Rattle.pk_model.specs.Apart.{NoRepeats}
use Rattle.pk_model.proofs.TagLists.{tag_total, ties_itself, ties_no_other, same_from_tie, NoneOf}
use Rattle.solid_model.specs.Items.{Item, Shape, item_at, ◌with◌}
use Rattle.list_facts.proofs.Elements.{not_in_nil, Contains-first, Contains-later, Contains-cases}
use Rattle.solid_model.proofs.lists.Neighbours.{both_parts, both_from}
use Rattle.solid_sound.proofs.shapes.Reading.{below_all-differs}

-- ---- one item

pub put-same : (S : Shape) (t : Tag) (x : Item) → item_at (put tag_cmp t x S) t ≡ Some x
put-same S t x = find-put tag_cmp tag_total t t x S ∙ ap (λ b. cond b (Some x) (item_at S t)) (ties_itself t)

pub put-other : (S : Shape) (t q : Tag) (x : Item) → q ≢ t → item_at (put tag_cmp t x S) q ≡ item_at S q
put-other S t q x h = find-put tag_cmp tag_total q t x S ∙ ap (λ b. cond b (Some x) (item_at S q)) (ties_no_other q t h)

-- ---- several items

abbrev pub Items : Type 0
Items = List (Tag × Item)

abbrev pub tags_in : Items → List Tag
tags_in xs = map (λ x. x.0) xs

pub with-sorted : (S : Shape) (xs : Items) → T (is_sorted tag_cmp S) → T (is_sorted tag_cmp (S with xs))
with-sorted S [] h = h
with-sorted S (x ∷ xs) h = with-sorted (put tag_cmp x.0 x.1 S) xs (is_sorted-put tag_cmp tag_total x.0 x.1 S h)

-- what is not written stays
pub with-other : (S : Shape) (xs : Items) (q : Tag) → NoneOf q (tags_in xs) → item_at (S with xs) q ≡ item_at S q
with-other S [] q h = refl
with-other S (x ∷ xs) q h = with-other (put tag_cmp x.0 x.1 S) xs q h.1 ∙ put-other S x.0 q x.1 h.0

-- what is written stands there
pub with-written : (S : Shape) (xs : Items) (t : Tag) (x : Item) → NoRepeats (tags_in xs) → Contains xs (t, x) → item_at (S with xs) t ≡ Some x
with-written S [] t x once h = absurd (not_in_nil (t, x) h)
with-written S (y ∷ ys) t x once h =
    ⊎_elim (λ (e : y ≡ (t, x)).
    let tag_is : y.0 ≡ t = ap (λ (z : Tag × Item). z.0) e in
    let item_is : y.1 ≡ x = ap (λ (z : Tag × Item). z.1) e in
    with-other (put tag_cmp y.0 y.1 S) ys t (subst (λ u. NoneOf u (tags_in ys)) tag_is once.0)
    ∙ ap (item_at (put tag_cmp y.0 y.1 S)) (sym tag_is) ∙ put-same S y.0 y.1 ∙ ap Some item_is)
    (λ (r : Contains ys (t, x)). with-written (put tag_cmp y.0 y.1 S) ys t x once.1 r)
    (Contains-cases y ys (t, x) h)

-- a tag is written, or it is not
pub is_written : (q : Tag) (xs : Items) → ((x : Item) × Contains xs (q, x)) ⊎ NoneOf q (tags_in xs)
is_written q [] = inr tt
is_written q (y ∷ ys) =
    ⊎_elim {C = ((x : Item) × Contains (y ∷ ys) (q, x)) ⊎ NoneOf q (tags_in (y ∷ ys))}
    (λ (l : eq_by_cmp tag_cmp q y.0 ≡ true). inl (y.1, subst (λ t. Contains (y ∷ ys) (t, y.1)) (sym (same_from_tie q y.0 l)) (Contains-first y ys)))
    (λ (r : eq_by_cmp tag_cmp q y.0 ≡ false).
    ⊎_elim {C = ((x : Item) × Contains (y ∷ ys) (q, x)) ⊎ NoneOf q (tags_in (y ∷ ys))}
    (λ (w : (x : Item) × Contains ys (q, x)). inl (w.0, Contains-later y ys (q, w.0) w.1))
    (λ (n : NoneOf q (tags_in ys)). inr ((λ e. true≢false (sym (ap (λ t. eq_by_cmp tag_cmp q t) (sym e) ∙ ties_itself q) ∙ r)), n))
    (is_written q ys))
    (cases_Bool (eq_by_cmp tag_cmp q y.0))

-- ---- what is left of a shape

pub filter-kept : (p : Tag × Item → Bool) (S : Shape) (q : Tag) (x : Item) → item_at S q ≡ Some x → p (q, x) ≡ true → item_at (filter p S) q ≡ Some x
filter-kept p [] q x e h = absurd (cc)
filter-kept p (y ∷ S) q x e h =
    ⊎_elim (λ (l : eq_by_cmp tag_cmp q y.0 ≡ true).
    let value : y.1 ≡ x = same_Some y.1 x (sym (ap (λ b. cond b (Some y.1) (item_at S q)) l) ∙ e) in
    let passes : p y ≡ true = (λ i. p (sym (same_from_tie q y.0 l) i, value i)) ∙ h in
    ap (λ b. item_at (cond b (y ∷ filter p S) (filter p S)) q) passes ∙ ap (λ b. cond b (Some y.1) (item_at (filter p S) q)) l ∙ ap Some value)
    (λ (r : eq_by_cmp tag_cmp q y.0 ≡ false).
    let rest = filter-kept p S q x (sym (ap (λ b. cond b (Some y.1) (item_at S q)) r) ∙ e) h in
    (elim (p y) as (λ c. item_at (cond c (y ∷ filter p S) (filter p S)) q ≡ item_at (filter p S) q) [
      | true ↦ ap (λ b. cond b (Some y.1) (item_at (filter p S) q)) r
      | false ↦ refl
    ]) ∙ rest)
    (cases_Bool (eq_by_cmp tag_cmp q y.0))

pub differs-none : (q : Tag) (S : Shape) → AllByRecursion (λ (x : Tag × Item). q ≢ x.0) S → item_at S q ≡ None
differs-none q [] h = refl
differs-none q (y ∷ S) h = ap (λ b. cond b (Some y.1) (item_at S q)) (ties_no_other q y.0 h.0) ∙ differs-none q S h.1

pub filter-was : (p : Tag × Item → Bool) (S : Shape) → T (is_sorted tag_cmp S) → (q : Tag) (x : Item) → item_at (filter p S) q ≡ Some x → (item_at S q ≡ Some x) × (p (q, x) ≡ true)
filter-was p [] sorted q x e = absurd (cc)
filter-was p (y ∷ S) sorted q x e =
    let parts = both_parts (below_all tag_cmp y.0 S) (is_sorted tag_cmp S) sorted in
    ⊎_elim {C = (item_at (y ∷ S) q ≡ Some x) × (p (q, x) ≡ true)} (λ (l : eq_by_cmp tag_cmp q y.0 ≡ true).
    let none : item_at S q ≡ None = differs-none q S (subst (λ t. AllByRecursion (λ (z : Tag × Item). t ≢ z.0) S) (sym (same_from_tie q y.0 l)) (below_all-differs y.0 S parts.0)) in
    ⊎_elim {C = (item_at (y ∷ S) q ≡ Some x) × (p (q, x) ≡ true)} (λ (c : p y ≡ true).
    let found : Some y.1 ≡ Some x = sym (ap (λ b. item_at (cond b (y ∷ filter p S) (filter p S)) q) c ∙ ap (λ b. cond b (Some y.1) (item_at (filter p S) q)) l) ∙ e in
    (ap (λ b. cond b (Some y.1) (item_at S q)) l ∙ found, (λ i. p (same_from_tie q y.0 l i, sym (same_Some y.1 x found) i)) ∙ c))
    (λ (d : p y ≡ false).
    let later = filter-was p S parts.1 q x (sym (ap (λ b. item_at (cond b (y ∷ filter p S) (filter p S)) q) d) ∙ e) in
    let both : None ≡ Some x = sym none ∙ later.0 in
    absurd (cc))
    (cases_Bool (p y)))
    (λ (r : eq_by_cmp tag_cmp q y.0 ≡ false).
    let rest : item_at (filter p S) q ≡ Some x = sym (elim (p y) as (λ c. item_at (cond c (y ∷ filter p S) (filter p S)) q ≡ item_at (filter p S) q) [
      | true ↦ ap (λ b. cond b (Some y.1) (item_at (filter p S) q)) r
      | false ↦ refl
    ]) ∙ e in
    let later = filter-was p S parts.1 q x rest in
    (ap (λ b. cond b (Some y.1) (item_at S q)) r ∙ later.0, later.1))
    (cases_Bool (eq_by_cmp tag_cmp q y.0))

below_all-filter : (p : Tag × Item → Bool) (t : Tag) (S : Shape) → T (below_all tag_cmp t S) → T (below_all tag_cmp t (filter p S))
below_all-filter p t [] h = tt
below_all-filter p t (x ∷ S) h =
    let parts = both_parts (is_lt (tag_cmp t x.0)) (below_all tag_cmp t S) h in
    elim (p x) as (λ b. T (below_all tag_cmp t (cond b (x ∷ filter p S) (filter p S)))) [
      | true ↦ both_from (is_lt (tag_cmp t x.0)) (below_all tag_cmp t (filter p S)) parts.0 (below_all-filter p t S parts.1)
      | false ↦ below_all-filter p t S parts.1
    ]

pub filter-sorted : (p : Tag × Item → Bool) (S : Shape) → T (is_sorted tag_cmp S) → T (is_sorted tag_cmp (filter p S))
filter-sorted p [] h = tt
filter-sorted p (x ∷ S) h =
    let parts = both_parts (below_all tag_cmp x.0 S) (is_sorted tag_cmp S) h in
    elim (p x) as (λ b. T (is_sorted tag_cmp (cond b (x ∷ filter p S) (filter p S)))) [
      | true ↦ both_from (below_all tag_cmp x.0 (filter p S)) (is_sorted tag_cmp (filter p S)) (below_all-filter p x.0 S parts.0) (filter-sorted p S parts.1)
      | false ↦ filter-sorted p S parts.1
    ]
