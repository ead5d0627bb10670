-- Items that are written, and of which the new ones are killed again.
use Rattle.std.proofs.Common.{◌≡◌, ◌≢◌, ◌⊎◌, inl, inr, ⊎_elim, Bool, true, false, not, List, [], ◌∷◌, Option, Some, None, refl, sym, ap, subst, ◌∙◌}
use Rattle.std.specs.Prelude.{T, ℤ, Contains}
use Rattle.std.specs.List.{AllByRecursion}
use Rattle.std.specs.FinMap.{is_sorted}
use Rattle.std.specs.FinMap.Entries.{same_entries}
use Rattle.std.proofs.lemmas.Bool.{true≢false}
use Rattle.pk_base.specs.declared.tag.Tag.{Tag}
use Rattle.pk_base.specs.declared.entity.Name.{Name}
use Rattle.pk_model.specs.Apart.{NoRepeats}
use Rattle.pk_model.specs.Maps.{tag_cmp}
use Rattle.pk_model.proofs.TagLists.{tag_total, tag_antisymmetric, NoneOf}
use Rattle.solid_model.specs.Items.{Item, Shape, item_at, ◌with◌}
use Rattle.solid_model.specs.Items.Item.{Body, Shell, Face, Loop, Fin, Edge, Vertex, Attr}
use Rattle.solid_model.specs.Deaths.{is_attribute_of, dies_with, ◌without◌}
use Rattle.solid_model.specs.Rings.{is_among}
use Rattle.list_facts.proofs.Each.{ByRecursion-contains, ByRecursion-at}
use Rattle.solid_model.proofs.lists.Neighbours.{among_or_none, is_among-in, is-none, neither_from, neither_parts}
use Rattle.solid_sound.proofs.shapes.Found.{none_or_some, none_where, filter-none}
use Rattle.solid_sound.proofs.shapes.Lookups.{Items, tags_in, filter-kept, filter-sorted, filter-was, is_written, with-other, with-sorted, with-written}

-- two shapes that have the same under each tag are the same
pub same-shape : (S R : Shape) → T (is_sorted tag_cmp S) → T (is_sorted tag_cmp R) → ((t : Tag) → item_at S t ≡ item_at R t) → S ≡ R
same-shape S R s r h = same_entries tag_cmp tag_total tag_antisymmetric S R s r h

-- nothing has an attribute that is of one of these
abbrev pub OwnsNone : Shape → List Tag → Type 0
OwnsNone S ks = (a o : Tag) (name : Name) (value : ℤ) → item_at S a ≡ Some (Attr o name value) → NoneOf o ks

pub owned-by_none : (S : Shape) (ks : List Tag) → OwnsNone S ks → (t : Tag) (x : Item) → item_at S t ≡ Some x → is_attribute_of ks x ≡ false
owned-by_none S ks h t (Attr o name value) is = is-none o ks (h t o name value is)
owned-by_none S ks h t (Body shell) is = refl
owned-by_none S ks h t (Shell body q) is = refl
owned-by_none S ks h t (Face shell outer) is = refl
owned-by_none S ks h t (Loop face fins vertex) is = refl
owned-by_none S ks h t (Fin mate edge vertex) is = refl
owned-by_none S ks h t (Edge body) is = refl
owned-by_none S ks h t (Vertex body point) is = refl

-- what is killed is not there
pub killed-none : (A : Shape) (ks : List Tag) → T (is_sorted tag_cmp A) → (t : Tag) → Contains ks t → item_at (A without ks) t ≡ None
killed-none A ks sorted t k = none_where (item_at (A without ks) t) (λ x e.
    let gone = neither_parts (is_among t ks) (is_attribute_of ks x) (filter-was (λ z. not (dies_with ks z)) A sorted t x e).1 in
    true≢false (sym (is_among-in t ks k) ∙ gone.0))

-- what is not killed, and is no attribute of what is, stays
pub spared : (A : Shape) (ks : List Tag) → T (is_sorted tag_cmp A) → (t : Tag) → NoneOf t ks → ((x : Item) → item_at A t ≡ Some x → is_attribute_of ks x ≡ false) → item_at (A without ks) t ≡ item_at A t
spared A ks sorted t none plain = ⊎_elim {C = item_at (A without ks) t ≡ item_at A t}
    (λ (l : item_at A t ≡ None). filter-none (λ z. not (dies_with ks z)) A sorted t l ∙ sym l)
    (λ (r : (x : Item) × (item_at A t ≡ Some x)).
    filter-kept (λ z. not (dies_with ks z)) A t r.0 r.1 (neither_from (is_among t ks) (is_attribute_of ks r.0) (is-none t ks none) (plain r.0 r.1)) ∙ sym r.1)
    (none_or_some (item_at A t))

-- Of the items xs that were written, each is killed, or the item before is written again.
pub given-back : (S : Shape) (xs ys : Items) (ks : List Tag) → T (is_sorted tag_cmp S) → NoRepeats (tags_in ys)
    → AllByRecursion (λ t. item_at S t ≡ None) ks → AllByRecursion (λ (y : Tag × Item). item_at S y.0 ≡ Some y.1) ys
    → AllByRecursion (λ t. Contains ks t ⊎ Contains (tags_in ys) t) (tags_in xs) → OwnsNone S ks → S with xs with ys without ks ≡ S
given-back S xs ys ks sorted once free were cover none = same-shape (A without ks) S (filter-sorted (λ z. not (dies_with ks z)) A sorted_a) sorted each
  where
    A : Shape
    A = S with xs with ys

    sorted_a : T (is_sorted tag_cmp A)
    sorted_a = with-sorted (S with xs) ys (with-sorted S xs sorted)

    other : (t : Tag) → NoneOf t ks → NoneOf t (tags_in ys) → item_at A t ≡ item_at S t
    other t nk ny =
        with-other (S with xs) ys t ny
        ∙ with-other S xs t (ByRecursion-contains (λ u. t ≢ u) (tags_in xs) (λ u c same. ⊎_elim {C = ⊥}
        (λ (l : Contains ks u). ByRecursion-at (λ v. t ≢ v) ks u nk l same)
        (λ (r : Contains (tags_in ys) u). ByRecursion-at (λ v. t ≢ v) (tags_in ys) u ny r same)
        (ByRecursion-at (λ v. Contains ks v ⊎ Contains (tags_in ys) v) (tags_in xs) u cover c)))

    stands : (t : Tag) → NoneOf t ks → item_at A t ≡ item_at S t
    stands t nk = ⊎_elim {C = item_at A t ≡ item_at S t}
        (λ (l : (x : Item) × Contains ys (t, x)). with-written (S with xs) ys t l.0 once l.1 ∙ sym (ByRecursion-at (λ (y : Tag × Item). item_at S y.0 ≡ Some y.1) ys (t, l.0) were l.1))
        (λ (r : NoneOf t (tags_in ys)). other t nk r)
        (is_written t ys)

    each : (t : Tag) → item_at (A without ks) t ≡ item_at S t
    each t = ⊎_elim {C = item_at (A without ks) t ≡ item_at S t}
        (λ (l : Contains ks t). killed-none A ks sorted_a t l ∙ sym (ByRecursion-at (λ u. item_at S u ≡ None) ks t free l))
        (λ (r : NoneOf t ks). spared A ks sorted_a t r (λ x e. owned-by_none S ks none t x (sym (stands t r) ∙ e)) ∙ stands t r)
        (among_or_none t ks)
