-- What a shape says, read again from the entities that it stands for.
use Rattle.std.proofs.Common.{◌≡◌, Bool, true, ◌&&◌, List, [], ◌∷◌, length, refl, sym, ap, subst, ◌∙◌}
use Rattle.std.specs.Prelude.{T, map}
use Rattle.std.specs.FinMap.{entries, empty, is_sorted, entries-from_sorted, same_entries_map, len-entries, len-empty}
use Rattle.std.specs.FinMap.Entries.{below_all}
use Rattle.std.specs.Ordering.{is_lt}
use Rattle.std.specs.List.{list_all}
use Rattle.std.proofs.lemmas.Bool.{and_parts}
use Rattle.std.proofs.lemmas.Float.{T_from_true}
use lib.Pointwise.{pointwise}
use Rattle.pk_base.specs.Entity.{same_tag}
use Rattle.pk_base.proofs.Same.{same_tag-Decides}
use Rattle.pk_base.specs.declared.tag.Tag.{Tag}
use Rattle.pk_base.specs.declared.entity.Entity.{Entity}
use Rattle.pk_model.specs.Maps.{EntityMap, tag_cmp}
use Rattle.solid_model.specs.Items.{Item, Shape}
use Rattle.solid_model.specs.Items.Item.{Body, Shell, Face, Loop, Fin, Edge, Vertex, Attr}
use Rattle.solid_model.specs.Rings.{first_tag}
use Rattle.solid_model.specs.Owners.{fins_of}
use Rattle.solid_model.specs.Links.{entities_of, entity_of, links}
use Rattle.solid_model.specs.Shapes.{fins_read, item_of, items_of, shape_of}

-- values do not count for the order of entries
below_all-map : {A B : Type 0} (g : Tag × A → B) (t : Tag) (xs : List (Tag × A))
    → below_all tag_cmp t (map (λ x. (x.0, g x)) xs) ≡ below_all tag_cmp t xs
below_all-map g t [] = refl
below_all-map g t (x ∷ xs) = ap (λ b. is_lt (tag_cmp t x.0) && b) (below_all-map g t xs)

pub is_sorted-map : {A B : Type 0} (g : Tag × A → B) (xs : List (Tag × A))
    → is_sorted tag_cmp (map (λ x. (x.0, g x)) xs) ≡ is_sorted tag_cmp xs
is_sorted-map g [] = refl
is_sorted-map g (x ∷ xs) = λ i. below_all-map g x.0 xs i && is_sorted-map g xs i

pub entries-links : (S : Shape) → T (is_sorted tag_cmp S) → entries (links S) ≡ entities_of S
unfolding links
entries-links S h =
    entries-from_sorted tag_cmp (entities_of S) (subst T (sym (is_sorted-map (λ x. entity_of S x.0 x.1) S)) h)

-- the shape of the map that a shape stands for is read from its entities
pub shape_of-links : (S : Shape) → T (is_sorted tag_cmp S) → shape_of (links S) ≡ items_of (entities_of S)
shape_of-links S h = ap items_of (entries-links S h)

-- ---- where nothing stands

none_of_length : (es : List (Tag × Entity)) → length es ≡ 0 → es ≡ []
none_of_length [] e = refl
none_of_length (x ∷ es) e = absurd (cc)

abbrev pub nothing : EntityMap
nothing = empty

pub entries-nothing : entries nothing ≡ []
entries-nothing = none_of_length _ (sym (len-entries nothing) ∙ len-empty tag_cmp Entity)

pub links-nothing : links [] ≡ nothing
links-nothing = same_entries_map (links []) nothing (entries-links [] tt ∙ sym entries-nothing)

-- ---- which shapes are read again from their entities

abbrev same_tags : List Tag → List Tag → Bool
same_tags ts us = pointwise same_tag ts us

same_tags-true : (ts us : List Tag) → same_tags ts us ≡ true → ts ≡ us
same_tags-true [] [] h = refl
same_tags-true [] (u ∷ us) h = absurd (cc)
same_tags-true (t ∷ ts) [] h = absurd (cc)
same_tags-true (t ∷ ts) (u ∷ us) h =
    let both = and_parts (same_tag t u) (same_tags ts us) h in
    λ i. (same_tag-Decides t u).0 both.0 i ∷ same_tags-true ts us both.1 i

-- a loop's list is read from its first fin on
abbrev is_loop_read : List (Tag × Entity) → Item → Bool
is_loop_read es x = same_tags (fins_read es (first_tag (fins_of x))) (fins_of x)

abbrev pub is_read : Shape → Bool
is_read S = is_sorted tag_cmp S && list_all (λ x. is_loop_read (entities_of S) x.1) S

item-read : (S : Shape) (es : List (Tag × Entity)) (t : Tag) (x : Item) → is_loop_read es x ≡ true → item_of es (entity_of S t x) ≡ x
item-read S es t (Body shell) h = refl
item-read S es t (Shell body q) h = refl
item-read S es t (Face shell outer) h = refl
item-read S es t (Loop face fins vertex) h = ap (λ (fs : List Tag). Loop face fs vertex) (same_tags-true (fins_read es (first_tag fins)) fins h)
item-read S es t (Fin mate edge vertex) h = refl
item-read S es t (Edge body) h = refl
item-read S es t (Vertex body point) h = refl
item-read S es t (Attr owner name value) h = refl

items-read : (S : Shape) (es : List (Tag × Entity)) (xs : Shape) → list_all (λ x. is_loop_read es x.1) xs ≡ true
    → map (λ (x : Tag × Entity). (x.0, item_of es x.1)) (map (λ (x : Tag × Item). (x.0, entity_of S x.0 x.1)) xs) ≡ xs
items-read S es [] h = refl
items-read S es (x ∷ xs) h =
    let both = and_parts (is_loop_read es x.1) (list_all (λ y. is_loop_read es y.1) xs) h in
    λ i. (x.0, item-read S es x.0 x.1 both.0 i) ∷ items-read S es xs both.1 i

pub shape_of-read : (S : Shape) → is_read S ≡ true → shape_of (links S) ≡ S
shape_of-read S h =
    let both = and_parts (is_sorted tag_cmp S) (list_all (λ x. is_loop_read (entities_of S) x.1) S) h in
    shape_of-links S (T_from_true _ both.0) ∙ items-read S (entities_of S) S both.1
