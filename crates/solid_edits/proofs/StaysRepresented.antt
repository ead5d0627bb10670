-- A map that was changed under a few tags, where no fin changes, and the shape that it represents.
use Rattle.std.proofs.Common.{◌≡◌, List, Option, Some, None, sym, ap, subst, ◌∙◌}
use Rattle.std.specs.Prelude.{Contains, option_map}
use Rattle.std.specs.FinMap.{get}
use Rattle.std.specs.Option.{option_and_then}
use Rattle.pk_base.specs.declared.tag.Tag.{Tag}
use Rattle.pk_base.specs.declared.entity.Entity.TheVariants as entity
use Rattle.pk_model.specs.Maps.{EntityMap}
use Rattle.solid_model.specs.Items.{Item, Shape, item_at}
use Rattle.solid_model.specs.Items.Item.{Loop, Fin}
use Rattle.solid_model.specs.Rings.{first_tag}
use Rattle.solid_model.specs.Owners.{fins_of}
use Rattle.solid_sound.proofs.shapes.Reading.{fin_in}
use Rattle.solid_sound.proofs.rows.RowKeeps.{IsWell}
use Rattle.halfedge.specs.LinkedRings.{FinFields, as_fin, loop_named}
use Rattle.halfedge.proofs.LinkedRings.{ring-kept}
use Rattle.solid_calls.proofs.Represented.{Shows, Represents, shows-kept}
use Rattle.list_facts.proofs.Each.{ByRecursion-contains, ByRecursion-at}
use Rattle.solid_sound.proofs.shapes.Bodies.{loop_by_item}

-- under this tag the map has what the shape has
pub record IsShown (R : Shape) (n : EntityMap) (t : Tag) : Type 0 where
  pub item : (x : Item) → item_at R t ≡ Some x → Shows R n t x
  pub nothing : item_at R t ≡ None → get n t ≡ None

pub shown-by : (R : Shape) (n : EntityMap) (t : Tag) (x : Item) → item_at R t ≡ Some x → Shows R n t x → IsShown R n t
shown-by R n t x is shows = record {
  item = λ y e. let both : Some x ≡ Some y = sym is ∙ e in let same : x ≡ y = cc in subst (Shows R n t) same shows;
  nothing = λ e. let both : Some x ≡ None = sym is ∙ e in absurd (cc);
}

pub shown-gone : (R : Shape) (n : EntityMap) (t : Tag) → item_at R t ≡ None → get n t ≡ None → IsShown R n t
shown-gone R n t is gone = record {
  item = λ y e. let both : None ≡ Some y = sym is ∙ e in absurd (cc);
  nothing = λ e. gone;
}

pub are-shown : (R : Shape) (n : EntityMap) → ((t : Tag) → IsShown R n t) → Represents R n
are-shown R n h = record { items = λ t. (h t).item; nothing = λ t. (h t).nothing }

-- no fin changes
abbrev pub KeepsFins : Shape → Shape → EntityMap → EntityMap → Type 0
KeepsFins S R m n =
    (f mate edge vertex : Tag) → item_at S f ≡ Some (Fin mate edge vertex)
    → (item_at R f ≡ Some (Fin mate edge vertex)) × (get n f ≡ get m f)

module _ (S R : Shape) (m n : EntityMap) (well : IsWell S) (fins : KeepsFins S R m n) where
  fins_stay : (t : Tag) (x : Item) → item_at S t ≡ Some x → (f : Tag) → Contains (fins_of x) f → get n f ≡ get m f
  fins_stay t x e f k =
      let w = loop_by_item S f t x e k in
      let fin = fin_in S well.written well.sound t w.face w.fins w.vertex w.loop_is f w.among in
      (fins f fin.0 fin.1 fin.2 fin.3).1

  -- an item that stays is shown by the entity that stays
  pub shows-stays : (t : Tag) (x : Item) → item_at S t ≡ Some x → Shows S m t x → get n t ≡ get m t → Shows R n t x
  shows-stays t x e shows same =
      shows-kept S R m n t x shows same (fins_stay t x e) (λ f mate edge vertex is of. (fins f mate edge vertex is).0)

  -- what stays is shown
  pub stays-shown : Represents S m → (t : Tag) → item_at R t ≡ item_at S t → get n t ≡ get m t → IsShown R n t
  stays-shown h t item same = record {
    item = λ x e. let was = sym item ∙ e in shows-stays t x was (h.items t x was) same;
    nothing = λ e. same ∙ h.nothing t (sym item ∙ e);
  }

  -- a loop that is given to another face is shown
  pub loop-given : (l face to : Tag) (fs : List Tag) (vertex : Option Tag) → item_at S l ≡ Some (Loop face fs vertex)
      → Shows S m l (Loop face fs vertex) → get n l ≡ Some (entity.Loop to (first_tag fs) vertex) → Shows R n l (Loop to fs vertex)
  loop-given l face to fs vertex e shows now =
      let stay = fins_stay l _ e in (
        now,
        ring-kept m n fs shows.1 (λ t k. (
          ap (λ o. option_map (λ (x : FinFields). x.next) (option_and_then as_fin o)) (stay t k),
          ap (λ o. option_map (λ (x : FinFields). x.prev) (option_and_then as_fin o)) (stay t k),
        )),
        ByRecursion-contains (λ f. loop_named n f ≡ Some l) fs (λ f k.
            ap (λ o. option_map (λ (x : FinFields). x.loop_) (option_and_then as_fin o)) (stay f k)
            ∙ ByRecursion-at (λ f. loop_named m f ≡ Some l) fs f shows.2 k),
      )
