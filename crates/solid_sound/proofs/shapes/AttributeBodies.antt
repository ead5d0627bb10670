-- The body of an attribute is that of its owner.
use Rattle.std.proofs.Common.{◌≡◌, ◌≢◌, ◌<◌, ◌≤◌, ⊎_elim, true, false, Option, Some, refl, sym, ap, ◌∙◌, arith, ℕ, zero, suc}
use Rattle.std.specs.Prelude.{ℤ, unwrap_or}
use Rattle.pk_base.specs.declared.tag.Tag.{Tag}
use Rattle.pk_base.specs.declared.entity.Class.TheVariants as class
use Rattle.solid_model.specs.Items.{Item, Shape, item_at, class_of_item}
use Rattle.solid_model.specs.Items.Item.{Body, Shell, Face, Loop, Fin, Edge, Vertex, Attr}
use Rattle.solid_model.specs.Owners.{owner_of_item, body_of, owner_or_itself, above}
use Rattle.solid_sound.proofs.shapes.Bodies.{leads_up, height, is_part, owner-lower, owner_or_itself-owner, leads-owner, body_of-body, low_item, item_of_class}
use Rattle.solid_sound.proofs.rows.RowKeeps.{IsWell}
use Rattle.std.specs.Option.{option_and_then}
use Rattle.std.proofs.lemmas.Bool.{cases_Bool}
use Rattle.pk_base.specs.declared.entity.Name.{Name}

body_not_part : (x : Item) → is_part x ≡ false → height x < 5 → (shell : Tag) × (x ≡ Body shell)
body_not_part (Body shell) h low = (shell, refl)
body_not_part (Attr owner name value) h low = absurd (omega arith)
body_not_part (Shell body q) h low = absurd (cc)
body_not_part (Face shell outer) h low = absurd (cc)
body_not_part (Loop face fins vertex) h low = absurd (cc)
body_not_part (Fin mate edge vertex) h low = absurd (cc)
body_not_part (Edge body) h low = absurd (cc)
body_not_part (Vertex body point) h low = absurd (cc)

module _ (S : Shape) (well : IsWell S) where
  above-body_of : (n : ℕ) (t : Tag) (x : Item) → item_at S t ≡ Some x → height x < 5 → height x ≤ n → above n S t ≡ body_of S t
  above-body_of zero t x e low h = ⊎_elim
      (λ (p : is_part x ≡ true). let o = owner-lower S well.written.ascends well.sound.names.kinds well.sound.placed t x e p in let less : height o.item < height x = o.less in absurd (omega arith))
      (λ (p : is_part x ≡ false). let b = body_not_part x p low in sym (body_of-body S well.written.ascends well.sound.names.kinds well.sound.placed t b.0 (e ∙ ap Some b.1)))
      (cases_Bool (is_part x))
  above-body_of (suc n) t x e low h = ⊎_elim
      (λ (p : is_part x ≡ true).
      let o = owner-lower S well.written.ascends well.sound.names.kinds well.sound.placed t x e p in
      let less : height o.item < height x = o.less in
      ap (above n S) (owner_or_itself-owner S well.written.ascends well.sound.names.kinds well.sound.placed t o.owner x e o.owner_is)
      ∙ above-body_of n o.owner o.item o.item_is (omega arith) (omega arith)
      ∙ leads-owner S well.written.ascends well.sound.names.kinds well.sound.placed (body_of S) (leads_up S well.written well.sound) t x o.owner e p o.owner_is)
      (λ (p : is_part x ≡ false).
      let b = body_not_part x p low in
      let itself : owner_or_itself S t ≡ t = ap (λ (o : Option Item). unwrap_or (option_and_then (owner_of_item S t) o) t) (e ∙ ap Some b.1) in
      let none : height x ≡ 0 = ap height b.1 in
      ap (above n S) itself ∙ above-body_of n t x e low (omega (arith, none)))
      (cases_Bool (is_part x))

  low_height : (x : Item) → class_of_item x ≢ class.Attr → height x ≤ 4
  low_height x na = let low = low_item x na in omega (arith, low)

  pub attribute-body : (a o : Tag) (name : Name) (value : ℤ) → item_at S a ≡ Some (Attr o name value) → body_of S a ≡ body_of S o
  attribute-body a o name value e =
      let h = well.sound.attributes.owned a o name value e in
      let y = item_of_class (item_at S o) h.0 h.1 in
      let na : class_of_item y.0 ≢ class.Attr = λ k. h.2 (sym y.2 ∙ k) in
      ap (above 4 S) (owner_or_itself-owner S well.written.ascends well.sound.names.kinds well.sound.placed a o (Attr o name value) e refl)
      ∙ above-body_of 4 o y.0 y.1 (low_item y.0 na) (low_height y.0 na)
