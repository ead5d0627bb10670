-- Faces and their loops: a face of one loop has no rings, and where a face stands.
use Rattle.std.proofs.Common.{◌≡◌, ◌≢◌, Bool, true, false, ◌&&◌, List, [], ◌∷◌, length, Option, Some, None, Ok, refl, sym, ap, subst, ◌∙◌, arith}
use Rattle.std.specs.Prelude.{T, ℤ, nat_lt, map, filter, unwrap_or, Contains}
use Rattle.std.specs.Option.{option_and_then, option_map_or}
use Rattle.std.specs.FinMap.{is_sorted}
use Rattle.std.specs.FinMap.Entries.{below_all}
use Rattle.pk_base.specs.Blocks.{tag}
use Rattle.pk_base.specs.Entity.{same_optional}
use Rattle.pk_base.specs.declared.tag.Tag.{Tag}
use Rattle.pk_base.specs.declared.entity.Class.TheVariants as class
use Rattle.pk_base.proofs.Same.{same_means}
use Rattle.pk_model.specs.Maps.{tag_cmp}
use Rattle.list_facts.proofs.Elements.{Contains-first, Contains-later, filter_contains}
use Rattle.solid_model.specs.Items.{Item, Shape, item_at, class_of_item}
use Rattle.solid_model.specs.Items.Item.{Body, Shell, Face, Loop, Fin, Edge, Vertex, Attr}
use Rattle.solid_model.specs.Owners.{has_rings, owner_in, owner_of_item, parts_of_class, same_class}
use Rattle.solid_model.specs.Places.{PlacedFace, PlacedLoop, as_face, asked, face_at, loop_at, outer_at, outer_of}
use Rattle.solid_model.proofs.lists.Neighbours.{both_parts}
use Rattle.solid_sound.proofs.shapes.Found.{among-item}
use Rattle.solid_sound.proofs.shapes.Lookups.{filter-sorted}
use Rattle.solid_sound.proofs.shapes.Reading.{below_all-differs}
use Rattle.solid_sound.proofs.rows.KeptRings.{asked_face, asked_loop}
use Rattle.euler_laws.proofs.Placed.{owner-of_loop}

-- what a face owns of the class of loops is a loop of it
loop-of : (S : Shape) (t f : Tag) (x : Item) → (same_class (class_of_item x) class.Loop && same_optional (owner_of_item S t x) (Some f)) ≡ true → (fins : List Tag) × (vertex : Option Tag) × (x ≡ Loop f fins vertex)
loop-of S t f (Loop face fins vertex) h = (fins, vertex, ap (λ u. Loop u fins vertex) (same_means face f h))
loop-of S t f (Body shell) h = absurd (cc)
loop-of S t f (Shell body q) h = absurd (cc)
loop-of S t f (Face shell outer) h = absurd (cc)
loop-of S t f (Fin mate edge vertex) h = absurd (cc)
loop-of S t f (Edge body) h = absurd (cc)
loop-of S t f (Vertex body point) h = absurd (cc)
loop-of S t f (Attr owner name value) h = absurd (cc)

-- items that ascend, all under one tag, are no two
pub one-tag : (F : Shape) (l : Tag) → T (is_sorted tag_cmp F) → ((x : Tag × Item) → Contains F x → x.0 ≡ l) → nat_lt 1 (length (map (λ (x : Tag × Item). x.0) F)) ≡ false
one-tag [] l sorted all = refl
one-tag (x ∷ []) l sorted all = refl
one-tag (x ∷ y ∷ F) l sorted all =
    let apart = below_all-differs x.0 (y ∷ F) (both_parts (below_all tag_cmp x.0 (y ∷ F)) (is_sorted tag_cmp (y ∷ F)) sorted).0 in
    absurd (apart.0 (all x (Contains-first x (y ∷ F)) ∙ sym (all y (Contains-later x (y ∷ F) y (Contains-first y F)))))

-- a face has no rings where all its loops are one
pub one-loop : (S : Shape) (f l : Tag) → T (is_sorted tag_cmp S) → ((t : Tag) (fins : List Tag) (vertex : Option Tag) → item_at S t ≡ Some (Loop f fins vertex) → t ≡ l) → has_rings S f ≡ false
one-loop S f l sorted only =
    let p = λ (x : Tag × Item). same_class (class_of_item x.1) class.Loop && same_optional (owner_of_item S x.0 x.1) (Some f) in
    one-tag (filter p S) l (filter-sorted p S sorted) (λ x k.
    let in_S = filter_contains p S x k in
    let is = loop-of S x.0 f x.1 in_S.1 in
    only x.0 is.0 is.1 (among-item S sorted x.0 x.1 in_S.0 ∙ ap Some is.2))

pub face-placed : (S : Shape) (f shell outer body : Tag) (q : ℤ) → item_at S f ≡ Some (Face shell outer) → item_at S shell ≡ Some (Shell body q) → face_at S f ≡ Ok (record { shell = shell; body = body; outer = outer })
face-placed S f shell outer body q f_is shell_is =
    let owner : owner_in S shell ≡ body = ap (λ (o : Option Item). unwrap_or (option_and_then (owner_of_item S shell) o) (tag 0)) shell_is in
    let there : Ok (record { shell = shell; body = owner_in S shell; outer = outer }) ≡ Ok (record { shell = shell; body = body; outer = outer }) = λ i. Ok (record { shell = shell; body = owner i; outer = outer }) in
    ap (asked (as_face S) f) f_is ∙ there

-- the face of a loop that was found
pub face-found : (S : Shape) (l : Tag) (p : PlacedLoop) → loop_at S l ≡ Ok p → p.face ≡ owner_in S l
face-found S l p h =
    let a = asked_loop S l (item_at S l) p h in
    sym (ap (λ (r : PlacedLoop). r.face) a.4) ∙ sym (owner-of_loop S l a.0 a.1 a.2 a.3)

-- the outer loop of a face that was found
pub outer-found : (S : Shape) (f : Tag) (p : PlacedFace) → face_at S f ≡ Ok p → p.outer ≡ outer_at S f
outer-found S f p h =
    let a = asked_face S f (item_at S f) p h in
    sym a.5 ∙ sym (ap (λ (o : Option Item). option_map_or outer_of o (tag 0)) a.2)
