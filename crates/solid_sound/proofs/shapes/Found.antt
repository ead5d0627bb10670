-- What is found among the items of a shape.
use Rattle.std.proofs.Common.{◌≡◌, ◌⊎◌, inl, inr, ⊎_elim, Bool, true, false, cond, List, [], ◌∷◌, Option, Some, None, refl, sym, ap, subst, ◌∙◌}
use Rattle.std.specs.Prelude.{T, find, filter, Contains}
use Rattle.std.specs.List.{AllByRecursion}
use Rattle.std.specs.Ordering.{eq_by_cmp}
use Rattle.std.specs.FinMap.{is_sorted}
use Rattle.std.proofs.lemmas.Bool.{true≢false, cases_Bool}
use Rattle.std.proofs.lemmas.Option.{same_Some}
use Rattle.pk_base.specs.declared.tag.Tag.{Tag}
use Rattle.pk_model.specs.Maps.{tag_cmp}
use Rattle.pk_model.proofs.TagLists.{same_from_tie}
use Rattle.solid_model.specs.Items.{Item, Shape, item_at}
use Rattle.list_facts.proofs.Elements.{Contains-first, Contains-later}
use Rattle.list_facts.proofs.Each.{ByRecursion-at}
use Rattle.solid_sound.proofs.shapes.Lookups.{filter-was}
use Rattle.solid_sound.proofs.shapes.Reading.{each-found}

pub none_or_some : {A : Type 0} (o : Option A) → (o ≡ None) ⊎ ((x : A) × (o ≡ Some x))
none_or_some None = inl refl
none_or_some (Some x) = inr (x, refl)

pub none_where : {A : Type 0} (o : Option A) → ((x : A) → o ≡ Some x → ⊥) → o ≡ None
none_where None h = refl
none_where (Some x) h = absurd (h x refl)

-- ---- by a test

pub find-some : {A : Type 0} (p : A → Bool) (xs : List A) (x : A) → find p xs ≡ Some x → (p x ≡ true) × Contains xs x
find-some p [] x h = absurd (cc)
find-some p (y ∷ ys) x h =
    ⊎_elim {C = (p x ≡ true) × Contains (y ∷ ys) x} (λ (l : p y ≡ true).
    let here : y ≡ x = same_Some y x (sym (ap (λ b. cond b (Some y) (find p ys)) l) ∙ h) in
    (subst (λ z. p z ≡ true) here l, subst (Contains (y ∷ ys)) here (Contains-first y ys)))
    (λ (r : p y ≡ false).
    let rest = find-some p ys x (sym (ap (λ b. cond b (Some y) (find p ys)) r) ∙ h) in
    (rest.0, Contains-later y ys x rest.1))
    (cases_Bool (p y))

pub find-none : {A : Type 0} (p : A → Bool) (xs : List A) → find p xs ≡ None → AllByRecursion (λ x. p x ≡ false) xs
find-none p [] h = tt
find-none p (y ∷ ys) h =
    ⊎_elim {C = AllByRecursion (λ x. p x ≡ false) (y ∷ ys)} (λ (l : p y ≡ true).
    let both : Some y ≡ None = sym (ap (λ b. cond b (Some y) (find p ys)) l) ∙ h in absurd (cc))
    (λ (r : p y ≡ false). (r, find-none p ys (sym (ap (λ b. cond b (Some y) (find p ys)) r) ∙ h)))
    (cases_Bool (p y))

-- ---- under a tag

pub among-item : (S : Shape) → T (is_sorted tag_cmp S) → (t : Tag) (x : Item) → Contains S (t, x) → item_at S t ≡ Some x
among-item S sorted t x k = ByRecursion-at (λ (y : Tag × Item). item_at S y.0 ≡ Some y.1) S (t, x) (each-found S sorted) k

pub item-among : (S : Shape) (t : Tag) (x : Item) → item_at S t ≡ Some x → Contains S (t, x)
item-among [] t x e = absurd (cc)
item-among (y ∷ S) t x e =
    ⊎_elim (λ (l : eq_by_cmp tag_cmp t y.0 ≡ true).
    let value : y.1 ≡ x = same_Some y.1 x (sym (ap (λ b. cond b (Some y.1) (item_at S t)) l) ∙ e) in
    let here : y ≡ (t, x) = λ i. (sym (same_from_tie t y.0 l) i, value i) in
    subst (Contains (y ∷ S)) here (Contains-first y S))
    (λ (r : eq_by_cmp tag_cmp t y.0 ≡ false). Contains-later y S (t, x) (item-among S t x (sym (ap (λ b. cond b (Some y.1) (item_at S t)) r) ∙ e)))
    (cases_Bool (eq_by_cmp tag_cmp t y.0))

-- ---- what is left of a shape

pub filter-none : (p : Tag × Item → Bool) (S : Shape) → T (is_sorted tag_cmp S) → (q : Tag) → item_at S q ≡ None → item_at (filter p S) q ≡ None
filter-none p S sorted q e = none_where (item_at (filter p S) q) (λ x h. let both : None ≡ Some x = sym e ∙ (filter-was p S sorted q x h).0 in cc)

pub filter-lost : (p : Tag × Item → Bool) (S : Shape) → T (is_sorted tag_cmp S) → (q : Tag) (x : Item) → item_at S q ≡ Some x → p (q, x) ≡ false → item_at (filter p S) q ≡ None
filter-lost p S sorted q x e h = none_where (item_at (filter p S) q) (λ y k.
    let was = filter-was p S sorted q y k in
    let same : y ≡ x = same_Some y x (sym was.0 ∙ e) in
    true≢false (sym was.1 ∙ ap (λ z. p (q, z)) same ∙ h))
