-- The map once an attribute is put, and once one dies: that of the shape with it, and of the shape without it.
use Rattle.std.proofs.Common.{◌≡◌, ◌≢◌, ⊎_elim, true, false, [], ◌∷◌, Option, Some, None, sym, ap, subst, ◌∙◌}
use Rattle.std.specs.Prelude.{ℤ, not, ◌||◌, option_map, Contains}
use Rattle.std.specs.FinMap.{get}
use Rattle.std.proofs.lemmas.Bool.{or_cases, true≢false, or_left}
use Rattle.std.proofs.lemmas.Option.{same_Some}
use Rattle.pk_base.specs.declared.tag.Tag.{Tag}
use Rattle.pk_base.specs.declared.entity.Name.{Name}
use Rattle.pk_base.specs.declared.entity.Class.TheVariants as class
use Rattle.pk_base.specs.declared.entity.Entity.{Entity}
use Rattle.pk_base.specs.declared.entity.Entity.TheVariants as entity
use Rattle.pk_model.specs.Maps.{EntityMap, with_entity}
use Rattle.list_facts.proofs.Each.{ByRecursion-at}
use Rattle.entity_store.proofs.FirstValues.{get_other, get_put}
use Rattle.solid_model.specs.Items.{Item, Shape, item_at, class_of_item, ◌with◌}
use Rattle.solid_model.specs.Items.Item.{Body, Shell, Face, Loop, Fin, Edge, Vertex, Attr}
use Rattle.solid_model.specs.Owners.{fins_of}
use Rattle.solid_model.specs.Rings.{is_among}
use Rattle.solid_model.specs.Deaths.{dies_with, is_attribute_of, ◌without◌}
use Rattle.solid_model.specs.Links.{links}
use Rattle.solid_model.specs.Sound.{class_at}
use Rattle.pk_base.proofs.Same.{same_or_other}
use Rattle.solid_model.proofs.lists.Neighbours.{in-is_among, is_among-in, not_among}
use Rattle.solid_sound.proofs.shapes.Lookups.{filter-kept, put-other}
use Rattle.solid_sound.proofs.rows.RowKeeps.{IsWell}
use Rattle.solid_calls.proofs.Represented.{Represents, Shows, shows-kept}
use Rattle.solid_calls.proofs.Reached.{ShowsEdited, ShowsWritten, represented-edited, represented-written}
use Rattle.list_facts.proofs.Elements.{not_in_nil, Contains-first, Contains-only}
use Rattle.solid_sound.proofs.shapes.Bodies.{loop_by_item}

-- ---- what stands under the tag is no fin

abbrev pub HasNoFin : Shape → Tag → Type 0
HasNoFin S t = class_at S t ≢ Some class.Fin

pub no_fin-free : (S : Shape) (t : Tag) → item_at S t ≡ None → HasNoFin S t
no_fin-free S t is = λ e. let both : None ≡ Some class.Fin = sym (ap (option_map class_of_item) is) ∙ e in cc

pub no_fin-attribute : (S : Shape) (t owner : Tag) (name : Name) (value : ℤ) → item_at S t ≡ Some (Attr owner name value) → HasNoFin S t
no_fin-attribute S t owner name value is = λ e. let both : Some class.Attr ≡ Some class.Fin = sym (ap (option_map class_of_item) is) ∙ e in cc

fins_are : (S : Shape) → IsWell S → (u : Tag) (x : Item) → item_at S u ≡ Some x → (f : Tag) → Contains (fins_of x) f → class_at S f ≡ Some class.Fin
fins_are S well u x is f k =
    let w = loop_by_item S f u x is k in
    ByRecursion-at (λ g. class_at S g ≡ Some class.Fin) w.fins f (well.sound.names.kinds u (Loop w.face w.fins w.vertex) w.loop_is).1 w.among

other_fin : (S : Shape) (t f : Tag) → HasNoFin S t → class_at S f ≡ Some class.Fin → f ≢ t
other_fin S t f none is e = none (ap (class_at S) (sym e) ∙ is)

fin_class : (S : Shape) (f mate edge vertex : Tag) → item_at S f ≡ Some (Fin mate edge vertex) → class_at S f ≡ Some class.Fin
fin_class S f mate edge vertex is = ap (option_map class_of_item) is

-- what stands elsewhere is shown as before, where the shape keeps its fins
stays_shown : (S R : Shape) (m : EntityMap) (t : Tag) (to : Option Entity) → IsWell S → HasNoFin S t → ((f mate edge vertex : Tag) → item_at S f ≡ Some (Fin mate edge vertex) → item_at R f ≡ Some (Fin mate edge vertex))
    → (u : Tag) (x : Item) → item_at S u ≡ Some x → u ≢ t → Shows S m u x → Shows R (with_entity m t to) u x
stays_shown S R m t to well none keeps u x is other shown =
    shows-kept S R m (with_entity m t to) u x shown (get_other m t to u other)
    (λ f k. get_other m t to f (other_fin S t f none (fins_are S well u x is f k)))
    (λ f mate edge vertex is' e. keeps f mate edge vertex is')

-- ---- an attribute is put

abbrev pub with_attribute : EntityMap → Tag → Tag → Name → ℤ → EntityMap
with_attribute m t owner name value = with_entity m t (Some (entity.Attr owner name value))

set_shown : (S : Shape) (m : EntityMap) (t owner : Tag) (name : Name) (value : ℤ) → IsWell S → HasNoFin S t → ShowsWritten S m (with_attribute m t owner name value) ((t, Attr owner name value) ∷ [])
set_shown S m t owner name value well none =
    let R : Shape = S with (t, Attr owner name value) ∷ [] in
    let to : Option Entity = Some (entity.Attr owner name value) in
    record {
      news = λ u x k.
          let same : (t, Attr owner name value) ≡ (u, x) = Contains-only (t, Attr owner name value) (u, x) k in
          subst (λ (y : Tag × Item). Shows R (with_entity m t to) y.0 y.1) same (get_put m t to);
      stays = λ u x is out shown.
          stays_shown S R m t to well none (λ f mate edge vertex is'. put-other S t f (Attr owner name value) (other_fin S t f none (fin_class S f mate edge vertex is')) ∙ is') u x is out.0 shown;
      nothing = λ u is out free. get_other m t to u out.0 ∙ free;
    }

pub set-links : (S : Shape) (m : EntityMap) (t owner : Tag) (name : Name) (value : ℤ) → IsWell S → Represents S m → HasNoFin S t → IsWell (S with (t, Attr owner name value) ∷ [])
    → with_attribute m t owner name value ≡ links (S with (t, Attr owner name value) ∷ [])
set-links S m t owner name value well shown none after =
    represented-written S m (with_attribute m t owner name value) ((t, Attr owner name value) ∷ []) shown (tt, tt) after (set_shown S m t owner name value well none)

-- ---- an attribute dies

alone : (t u : Tag) → is_among u (t ∷ []) ≡ true → u ≡ t
alone t u h = sym (Contains-only t u (in-is_among u (t ∷ []) h))

is_alone : (t u : Tag) → u ≡ t → is_among u (t ∷ []) ≡ true
is_alone t u e = is_among-in u (t ∷ []) (subst (Contains (t ∷ [])) (sym e) (Contains-first t []))

-- nothing is on what is an attribute itself
nothing_on : (S : Shape) (t owner : Tag) (name : Name) (value : ℤ) → IsWell S → item_at S t ≡ Some (Attr owner name value) → (u : Tag) (x : Item) → item_at S u ≡ Some x → is_attribute_of (t ∷ []) x ≡ true → ⊥
nothing_on S t owner name value well here u (Attr o n v) is h =
    let on = well.sound.attributes.owned u o n v is in
    let same : Some on.0 ≡ Some class.Attr = sym on.1 ∙ ap (class_at S) (alone t o h) ∙ ap (option_map class_of_item) here in
    on.2 (same_Some on.0 class.Attr same)
nothing_on S t owner name value well here u (Body shell) is h = cc
nothing_on S t owner name value well here u (Shell body q) is h = cc
nothing_on S t owner name value well here u (Face shell outer) is h = cc
nothing_on S t owner name value well here u (Loop face fins vertex) is h = cc
nothing_on S t owner name value well here u (Fin mate edge vertex) is h = cc
nothing_on S t owner name value well here u (Edge body) is h = cc
nothing_on S t owner name value well here u (Vertex body point) is h = cc

lives_elsewhere : (t u mate edge vertex : Tag) → u ≢ t → dies_with (t ∷ []) (u, Fin mate edge vertex) ≡ false
lives_elsewhere t u mate edge vertex other = ap (λ b. b || false) (not_among u (t ∷ []) (λ k. other (sym (Contains-only t u k))))

drop_shown : (S : Shape) (m : EntityMap) (t owner : Tag) (name : Name) (value : ℤ) → IsWell S → item_at S t ≡ Some (Attr owner name value) → ShowsEdited S m (with_entity m t None) [] (t ∷ [])
drop_shown S m t owner name value well here =
    let R : Shape = S without t ∷ [] in
    let none : HasNoFin S t = no_fin-attribute S t owner name value here in
    record {
      news = λ u x k. absurd (not_in_nil (u, x) k);
      stays = λ u x is out lives shown.
          let other : u ≢ t = λ e. true≢false (sym (or_left (is_among u (t ∷ [])) (is_attribute_of (t ∷ []) x) (is_alone t u e)) ∙ lives) in
          stays_shown S R m t None well none
          (λ f mate edge vertex is'. filter-kept (λ z. not (dies_with (t ∷ []) z)) S f (Fin mate edge vertex) is' (ap not (lives_elsewhere t f mate edge vertex (other_fin S t f none (fin_class S f mate edge vertex is')))))
          u x is other shown;
      gone = λ u x is out dead.
          ⊎_elim {C = get (with_entity m t None) u ≡ None} (λ (l : is_among u (t ∷ []) ≡ true). ap (get (with_entity m t None)) (alone t u l) ∙ get_put m t None)
          (λ (r : is_attribute_of (t ∷ []) x ≡ true). absurd (nothing_on S t owner name value well here u x is r))
          (or_cases (is_among u (t ∷ [])) (is_attribute_of (t ∷ []) x) dead);
      nothing = λ u is out free.
          ⊎_elim {C = get (with_entity m t None) u ≡ None} (λ (e : u ≡ t). ap (get (with_entity m t None)) e ∙ get_put m t None)
          (λ (other : u ≢ t). get_other m t None u other ∙ free)
          (same_or_other u t);
    }

pub drop-links : (S : Shape) (m : EntityMap) (t owner : Tag) (name : Name) (value : ℤ) → IsWell S → Represents S m → item_at S t ≡ Some (Attr owner name value) → IsWell (S without t ∷ [])
    → with_entity m t None ≡ links (S without t ∷ [])
drop-links S m t owner name value well shown here after =
    represented-edited S m (with_entity m t None) [] (t ∷ []) well shown tt tt after (drop_shown S m t owner name value well here)
