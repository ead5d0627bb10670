-- What is asked of an item is not there, where its entity is of another class.
use Rattle.std.proofs.Common.{◌≡◌, ◌⊎◌, inl, inr, List, Option, Some, None, Err, refl, sym, subst}
use Rattle.std.specs.Prelude.{ℤ}
use Rattle.pk_base.specs.Entity.{class_of}
use Rattle.pk_base.specs.declared.tag.Tag.{Tag}
use Rattle.pk_base.specs.declared.entity.Point.{Point}
use Rattle.pk_base.specs.declared.entity.Name.{Name}
use Rattle.pk_base.specs.declared.entity.Entity.{Entity}
use Rattle.pk_base.specs.declared.entity.Entity.TheVariants as entity
use Rattle.pk_base.specs.declared.refusal.Refusal.TheVariants.{WrongClass}
use Rattle.solid_model.specs.Items.{Shape}
use Rattle.solid_model.specs.Places.{as_body, as_face, as_loop, as_fin, end_of_item}
use Rattle.solid_model.specs.Shapes.{item_of}

pub not_body : (es : List (Tag × Entity)) (e : Entity) → ((shell : Tag) → e ≡ entity.Body shell → ⊥) → as_body (item_of es e) ≡ None
not_body es (entity.Body shell) other = absurd (other shell refl)
not_body es (entity.Shell body q) other = refl
not_body es (entity.Face shell outer) other = refl
not_body es (entity.Loop face first vertex) other = refl
not_body es (entity.Fin l next prev mate edge vertex) other = refl
not_body es (entity.Edge body fin) other = refl
not_body es (entity.Vertex body point) other = refl
not_body es (entity.Attr owner name value) other = refl

pub not_face : (S : Shape) (es : List (Tag × Entity)) (e : Entity) → ((shell outer : Tag) → e ≡ entity.Face shell outer → ⊥) → as_face S (item_of es e) ≡ None
not_face S es (entity.Face shell outer) other = absurd (other shell outer refl)
not_face S es (entity.Body shell) other = refl
not_face S es (entity.Shell body q) other = refl
not_face S es (entity.Loop face first vertex) other = refl
not_face S es (entity.Fin l next prev mate edge vertex) other = refl
not_face S es (entity.Edge body fin) other = refl
not_face S es (entity.Vertex body point) other = refl
not_face S es (entity.Attr owner name value) other = refl

pub not_loop : (S : Shape) (es : List (Tag × Entity)) (e : Entity) → ((face : Tag) (first vertex : Option Tag) → e ≡ entity.Loop face first vertex → ⊥) → as_loop S (item_of es e) ≡ None
not_loop S es (entity.Loop face first vertex) other = absurd (other face first vertex refl)
not_loop S es (entity.Body shell) other = refl
not_loop S es (entity.Shell body q) other = refl
not_loop S es (entity.Face shell outer) other = refl
not_loop S es (entity.Fin l next prev mate edge vertex) other = refl
not_loop S es (entity.Edge body fin) other = refl
not_loop S es (entity.Vertex body point) other = refl
not_loop S es (entity.Attr owner name value) other = refl

pub not_fin : (S : Shape) (f : Tag) (es : List (Tag × Entity)) (e : Entity) → ((l next prev mate edge vertex : Tag) → e ≡ entity.Fin l next prev mate edge vertex → ⊥) → as_fin S f (item_of es e) ≡ None
not_fin S f es (entity.Fin l next prev mate edge vertex) other = absurd (other l next prev mate edge vertex refl)
not_fin S f es (entity.Body shell) other = refl
not_fin S f es (entity.Shell body q) other = refl
not_fin S f es (entity.Face shell outer) other = refl
not_fin S f es (entity.Loop face first vertex) other = refl
not_fin S f es (entity.Edge body fin) other = refl
not_fin S f es (entity.Vertex body point) other = refl
not_fin S f es (entity.Attr owner name value) other = refl

-- an entity that is neither a fin nor a loop
abbrev IsNoEnd : Entity → Type 0
IsNoEnd e =
    ((shell : Tag) × (e ≡ entity.Body shell))
    ⊎ (((body : Tag) × (q : ℤ) × (e ≡ entity.Shell body q))
    ⊎ (((shell : Tag) × (outer : Tag) × (e ≡ entity.Face shell outer))
    ⊎ (((body : Tag) × (fin : Tag) × (e ≡ entity.Edge body fin))
    ⊎ (((body : Tag) × (point : Point) × (e ≡ entity.Vertex body point))
    ⊎ ((owner : Tag) × (name : Name) × (value : ℤ) × (e ≡ entity.Attr owner name value))))))

-- it is refused as an end for an edge, by its class
abbrev IsRefused : Shape → Tag → List (Tag × Entity) → Entity → Type 0
IsRefused S t es e = end_of_item S t (Some (item_of es e)) ≡ Err (WrongClass t (class_of e))

pub not_end : (S : Shape) (t : Tag) (es : List (Tag × Entity)) (e : Entity) → IsNoEnd e → IsRefused S t es e
not_end S t es e (inl x) = subst (IsRefused S t es) (sym x.1) refl
not_end S t es e (inr (inl x)) = subst (IsRefused S t es) (sym x.2) refl
not_end S t es e (inr (inr (inl x))) = subst (IsRefused S t es) (sym x.2) refl
not_end S t es e (inr (inr (inr (inl x)))) = subst (IsRefused S t es) (sym x.2) refl
not_end S t es e (inr (inr (inr (inr (inl x))))) = subst (IsRefused S t es) (sym x.2) refl
not_end S t es e (inr (inr (inr (inr (inr x))))) = subst (IsRefused S t es) (sym x.3) refl
