-- What the shape of a map has under a tag, told by the entity there.
use Rattle.std.proofs.Common.{◌≡◌, List, Option, Some, None, Result, Ok, Err, refl, sym, ap, ◌∙◌}
use Rattle.std.specs.Prelude.{option_map}
use Rattle.std.specs.FinMap.{get, entries}
use Rattle.pk_base.specs.Entity.{class_of}
use Rattle.pk_base.specs.declared.tag.Tag.{Tag}
use Rattle.pk_base.specs.declared.entity.Entity.{Entity}
use Rattle.pk_base.specs.declared.entity.Entity.TheVariants as entity
use Rattle.pk_base.specs.declared.refusal.Refusal.{Refusal}
use Rattle.pk_base.specs.declared.refusal.Refusal.TheVariants.{WrongClass, NoSuchTag}
use Rattle.pk_model.specs.Maps.{EntityMap}
use Rattle.solid_model.specs.Items.{Item, Shape, item_at, class_of_item}
use Rattle.solid_model.specs.Places.{asked, of_class}
use Rattle.solid_model.specs.Links.{entity_of, links}
use Rattle.solid_model.specs.Shapes.{item_of, shape_of}
use Rattle.solid_model.specs.Sound.{IsSound, class_at}
use Rattle.solid_sound.proofs.rows.Asked.{get-links}
use Rattle.solid_sound.proofs.shapes.OnlyShape.{shape-read}
use Rattle.solid_sound.proofs.rows.RowKeeps.{well-shape}
use Rattle.solid_calls.proofs.Deaths.{item-mapped}
use Rattle.solid_places.specs.Live.{live_or_refused}

pub item-of : (m : EntityMap) (t : Tag) (e : Entity) → get m t ≡ Some e → item_at (shape_of m) t ≡ Some (item_of (entries m) e)
item-of m t e h = item-mapped m t ∙ ap (option_map (item_of (entries m))) h

-- a sound map is that of its shape
pub map-links : (m : EntityMap) → IsSound m → m ≡ links (shape_of m)
map-links m s = s.map_is ∙ ap links (sym (shape-read m s))

-- and so the entity is that of the item
pub entity-of : (m : EntityMap) → IsSound m → (t : Tag) (x : Item) → item_at (shape_of m) t ≡ Some x → get m t ≡ Some (entity_of (shape_of m) t x)
entity-of m s t x h =
    ap (λ n. get n t) (map-links m s) ∙ get-links (shape_of m) t (well-shape m s).written.ascends ∙ ap (option_map (entity_of (shape_of m) t)) h

same-class : (es : List (Tag × Entity)) (e : Entity) → class_of_item (item_of es e) ≡ class_of e
same-class es (entity.Body shell) = refl
same-class es (entity.Shell body q) = refl
same-class es (entity.Face shell outer) = refl
same-class es (entity.Loop face first vertex) = refl
same-class es (entity.Fin l next prev mate edge vertex) = refl
same-class es (entity.Edge body fin) = refl
same-class es (entity.Vertex body point) = refl
same-class es (entity.Attr owner name value) = refl

pub class-read : (m : EntityMap) (t : Tag) (e : Entity) → get m t ≡ Some e → class_at (shape_of m) t ≡ Some (class_of e)
class-read m t e h = ap (option_map class_of_item) (item-of m t e h) ∙ ap Some (same-class (entries m) e)

-- ---- refusals

live-was : (t : Tag) (o : Option Entity) (e : Entity) → live_or_refused t o ≡ Ok e → o ≡ Some e
live-was t None e h = absurd (cc)
live-was t (Some x) e h = cc

-- what was found live
pub found : (m : EntityMap) (t : Tag) (r : Result Entity Refusal) (e : Entity) → r ≡ live_or_refused t (get m t) → r ≡ Ok e → get m t ≡ Some e
found m t r e is ok = live-was t (get m t) e (sym is ∙ ok)

gone-was : (t : Tag) (o : Option Entity) (e : Refusal) → live_or_refused t o ≡ Err e → (o ≡ None) × (NoSuchTag t ≡ e)
gone-was t None e h = (refl, cc)
gone-was t (Some x) e h = absurd (cc)

-- what was not
pub not_found : (m : EntityMap) (t : Tag) (r : Result Entity Refusal) (e : Refusal) → r ≡ live_or_refused t (get m t) → r ≡ Err e → (item_at (shape_of m) t ≡ None) × (NoSuchTag t ≡ e)
not_found m t r e is err =
    let was = gone-was t (get m t) e (sym is ∙ err) in
    (item-mapped m t ∙ ap (option_map (item_of (entries m))) was.0, was.1)

-- a tag that is not live is refused
pub refused : {A : Type 0} (f : Item → Option A) (m : EntityMap) (t : Tag) (r : Result Entity Refusal) (e : Refusal) → r ≡ live_or_refused t (get m t) → r ≡ Err e → asked f t (item_at (shape_of m) t) ≡ Err e
refused f m t r e is err =
    let was = not_found m t r e is err in
    ap (asked f t) was.0 ∙ ap Err was.1

-- and one of another class
pub refused-class : {A : Type 0} (f : Item → Option A) (m : EntityMap) (t : Tag) (e : Entity) → get m t ≡ Some e → f (item_of (entries m) e) ≡ None → asked f t (item_at (shape_of m) t) ≡ Err (WrongClass t (class_of e))
refused-class f m t e h none =
    ap (asked f t) (item-of m t e h)
    ∙ ap (of_class t (item_of (entries m) e)) none
    ∙ ap (λ c. Err (WrongClass t c)) (same-class (entries m) e)

pub answered : {A : Type 0} (f : Item → Option A) (S : Shape) (t : Tag) (x : Item) (a : A) → item_at S t ≡ Some x → f x ≡ Some a → asked f t (item_at S t) ≡ Ok a
answered f S t x a h is = ap (asked f t) h ∙ ap (of_class t x) is

pub same_Ok : {A E : Type 0} (a b : A) → ◌≡◌ {A = Result A E} (Ok a) (Ok b) → a ≡ b
same_Ok a b h = cc
