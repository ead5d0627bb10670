-- What an item counts among those of a class in a body.
use Rattle.std.proofs.Common.{◌≡◌, ◌≢◌, ℕ, ◌⊎◌, inl, inr, ⊎_elim, Bool, true, false, cond, refl, sym, ap, ◌∙◌}
use Rattle.std.specs.Prelude.{◌&&◌}
use Rattle.pk_base.specs.Entity.{same_tag}
use Rattle.pk_base.specs.declared.tag.Tag.{Tag}
use Rattle.pk_base.specs.declared.entity.Class.{Class}
use Rattle.pk_base.specs.declared.entity.Class.TheVariants as class
use Rattle.solid_model.specs.Items.{Item, class_of_item}
use Rattle.solid_model.specs.Items.Item.{Body, Shell, Face, Loop, Fin, Edge, Vertex, Attr}
use Rattle.solid_model.specs.Owners.{same_class}
use Rattle.pk_base.proofs.Same.{not_same}
use Rattle.solid_sound.proofs.shapes.Names.{NotAttr}

pub attr_or_not : (x : Item) → (class_of_item x ≡ class.Attr) ⊎ NotAttr (class_of_item x)
attr_or_not (Attr owner name value) = inl refl
attr_or_not (Body shell) = inr (λ k. cc)
attr_or_not (Shell body q) = inr (λ k. cc)
attr_or_not (Face shell outer) = inr (λ k. cc)
attr_or_not (Loop face fins vertex) = inr (λ k. cc)
attr_or_not (Fin mate edge vertex) = inr (λ k. cc)
attr_or_not (Edge body) = inr (λ k. cc)
attr_or_not (Vertex body point) = inr (λ k. cc)

-- whether it counts, where it stands in this body
abbrev pub counts_in : Class → Tag → Tag → Item → ℕ
counts_in c d u x = cond (same_class (class_of_item x) c && same_tag u d) 1 0

pub number-attribute : (c : Class) → same_class class.Attr c ≡ false → (d : Bool) (x : Item) → class_of_item x ≡ class.Attr → cond {A = ℕ} (same_class (class_of_item x) c && d) 1 0 ≡ 0
number-attribute c na d x h = ap (λ k. cond {A = ℕ} (same_class k c && d) 1 0) h ∙ ap (λ a. cond {A = ℕ} (a && d) 1 0) na

pub number-alike : (c : Class) → same_class class.Attr c ≡ false → (d u w : Tag) (x : Item) → (NotAttr (class_of_item x) → u ≡ w) → counts_in c d u x ≡ counts_in c d w x
number-alike c na d u w x h = ⊎_elim {C = counts_in c d u x ≡ counts_in c d w x}
    (λ (l : class_of_item x ≡ class.Attr). number-attribute c na (same_tag u d) x l ∙ sym (number-attribute c na (same_tag w d) x l))
    (λ (r : NotAttr (class_of_item x)). ap (λ t. counts_in c d t x) (h r))
    (attr_or_not x)

never : (a : Bool) → cond {A = ℕ} (a && false) 1 0 ≡ 0
never true = refl
never false = refl

pub number-elsewhere : (a : Bool) (u d : Tag) → u ≢ d → cond {A = ℕ} (a && same_tag u d) 1 0 ≡ 0
number-elsewhere a u d h = ap (λ b. cond {A = ℕ} (a && b) 1 0) (not_same u d h) ∙ never a
