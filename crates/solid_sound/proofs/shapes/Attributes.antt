-- Attributes: they alone die with what they are on, and they count for nothing among the rest.
use Rattle.std.proofs.Common.{◌≡◌, ⊎_elim, true, false, cond, List, refl}
use Rattle.std.proofs.lemmas.Bool.{cases_Bool}
use Rattle.pk_base.specs.Entity.{same_tag}
use Rattle.pk_base.specs.declared.tag.Tag.{Tag}
use Rattle.pk_base.specs.declared.entity.Class.{Class}
use Rattle.pk_base.specs.declared.entity.Class.TheVariants as class
use Rattle.solid_model.specs.Items.{Item, class_of_item}
use Rattle.solid_model.specs.Items.Item.{Body, Shell, Face, Loop, Fin, Edge, Vertex, Attr}
use Rattle.solid_model.specs.Owners.{fins_of, same_class}
use Rattle.solid_model.specs.Links.{is_fin_of}
use Rattle.solid_model.specs.Sound.{is_alone_in}
use Rattle.solid_model.specs.Deaths.{is_attribute_of}
use Rattle.solid_model.proofs.lists.Neighbours.{times}
use Rattle.solid_sound.proofs.shapes.Names.{NotAttr}
use Rattle.solid_sound.proofs.shapes.Numbers.{number-attribute, counts_in}
use Rattle.solid_sound.proofs.shapes.Sums.{Weight}

-- ---- what dies with what they are on

pub attribute_of-class : (killed : List Tag) (x : Item) → is_attribute_of killed x ≡ true → class_of_item x ≡ class.Attr
attribute_of-class killed (Attr owner name value) h = refl
attribute_of-class killed (Body shell) h = absurd (cc)
attribute_of-class killed (Shell body q) h = absurd (cc)
attribute_of-class killed (Face shell outer) h = absurd (cc)
attribute_of-class killed (Loop face fins vertex) h = absurd (cc)
attribute_of-class killed (Fin mate edge vertex) h = absurd (cc)
attribute_of-class killed (Edge body) h = absurd (cc)
attribute_of-class killed (Vertex body point) h = absurd (cc)

pub no_attribute_of : (killed : List Tag) (x : Item) → NotAttr (class_of_item x) → is_attribute_of killed x ≡ false
no_attribute_of killed x na = ⊎_elim (λ (l : is_attribute_of killed x ≡ true). absurd (na (attribute_of-class killed x l))) (λ r. r) (cases_Bool (is_attribute_of killed x))

-- ---- what they count

-- an attribute counts nothing
abbrev pub CountsNoAttribute : Weight → Type 0
CountsNoAttribute w = (t : Tag) (x : Item) → class_of_item x ≡ class.Attr → w (t, x) ≡ 0

pub fins-no_attribute : (f : Tag) → CountsNoAttribute (λ x. times f (fins_of x.1))
fins-no_attribute f t (Attr owner name value) h = refl
fins-no_attribute f t (Loop face fins vertex) h = absurd (cc)
fins-no_attribute f t (Body shell) h = refl
fins-no_attribute f t (Shell body q) h = refl
fins-no_attribute f t (Face shell outer) h = refl
fins-no_attribute f t (Fin mate edge vertex) h = refl
fins-no_attribute f t (Edge body) h = refl
fins-no_attribute f t (Vertex body point) h = refl

pub edges-no_attribute : (e : Tag) → CountsNoAttribute (λ x. cond (is_fin_of e x.1) 1 0)
edges-no_attribute e t (Fin mate edge vertex) h = absurd (cc)
edges-no_attribute e t (Attr owner name value) h = refl
edges-no_attribute e t (Loop face fins vertex) h = refl
edges-no_attribute e t (Body shell) h = refl
edges-no_attribute e t (Shell body q) h = refl
edges-no_attribute e t (Face shell outer) h = refl
edges-no_attribute e t (Edge body) h = refl
edges-no_attribute e t (Vertex body point) h = refl

pub lone-no_attribute : (v : Tag) → CountsNoAttribute (λ x. cond (is_alone_in v x.1) 1 0)
lone-no_attribute v t (Loop face fins vertex) h = absurd (cc)
lone-no_attribute v t (Attr owner name value) h = refl
lone-no_attribute v t (Fin mate edge vertex) h = refl
lone-no_attribute v t (Body shell) h = refl
lone-no_attribute v t (Shell body q) h = refl
lone-no_attribute v t (Face shell outer) h = refl
lone-no_attribute v t (Edge body) h = refl
lone-no_attribute v t (Vertex body point) h = refl

pub numbers-no_attribute : (c : Class) → same_class class.Attr c ≡ false → (d : Tag) (g : Tag → Tag) → CountsNoAttribute (λ x. counts_in c d (g x.0) x.1)
numbers-no_attribute c na d g t x h = number-attribute c na (same_tag (g t) d) x h
