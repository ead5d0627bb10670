-- mvfs: the map that is reached, and that it is that of the shape of its row.
use Rattle.std.proofs.Common.{◌≡◌, ◌≢◌, ⊎_elim, List, [], ◌∷◌, Some, None, ◌++◌, take, refl, sym, ap, subst, ◌∙◌, arith}
use Rattle.std.specs.Prelude.{pos, IsOk, Contains}
use Rattle.std.specs.List.{AllByRecursion}
use Rattle.std.specs.FinMap.{get}
use Rattle.pk_base.specs.declared.tag.Tag.{Tag}
use Rattle.pk_base.specs.declared.entity.Entity.TheVariants as entity
use Rattle.pk_base.specs.declared.entity.Triple.{Triple}
use Rattle.pk_base.specs.declared.call.Call.TheVariants.{Mvfs}
use Rattle.pk_model.specs.Apart.{NoRepeats}
use Rattle.pk_model.specs.Maps.{EntityMap, with_entity}
use Rattle.pk_model.specs.Tags.{TagsAscend, tag_at}
use Rattle.list_facts.proofs.Each.{ByRecursion-weaker, ByRecursion-left}
use Rattle.solid_model.specs.Items.{Item, Shape, item_at, ◌with◌}
use Rattle.solid_model.specs.Items.Item.{Body, Shell, Face, Loop, Vertex}
use Rattle.solid_model.specs.Ranges.{is_coordinate, numbers_of, point_of, refuse_outside}
use Rattle.solid_model.specs.Room.{tags_put}
use Rattle.solid_model.specs.Rows.{cost_of, makes_five}
use Rattle.solid_model.specs.Links.{links}
use Rattle.solid_model.specs.Shapes.{shape_of}
use Rattle.solid_model.specs.Sound.{IsSound}
use Rattle.solid_model.specs.Mvfs.{mvfs}
use Rattle.pk_model.proofs.TagLists.{NoneOf}
use Rattle.solid_sound.proofs.rows.Asked.{free_item}
use Rattle.solid_sound.proofs.shapes.Lookups.{Items, with-written, with-other}
use Rattle.pk_base.proofs.Same.{same_or_other}
use Rattle.solid_sound.proofs.rows.RowKeeps.{IsWell, Keeps, well-shape}
use Rattle.solid_sound.proofs.rows.KeptMvfs.{mvfs-keeps}
use Rattle.halfedge.specs.LinkedRings.{IsRing}
use Rattle.solid_calls.proofs.RowKinds.{cost-making, mvfs-makes}
use Rattle.solid_edits.specs.BareParts.{IsMadeOf, tags_of_parts, with_bare_body}
use Rattle.solid_edits.specs.declared.bare_parts.BareParts.{BareParts}
use Rattle.solid_edits.proofs.Going.{goes-past}
use Rattle.solid_calls.proofs.Represented.{Represents, represented, represents-sound}
use Rattle.solid_edits.proofs.StaysRepresented.{IsShown, KeepsFins, are-shown, shown-by, stays-shown}
use Rattle.entity_store.proofs.FirstValues.{get_other, get_put}
use Rattle.solid_calls.proofs.Sizes.{apart-ascending, ascend-left}
use Rattle.solid_sound.proofs.shapes.Edits.{live-none_of}

-- the items of a body of these parts
abbrev pub bare_items : Triple → Tag → Tag → Tag → Tag → Tag → Items
bare_items at body shell face l vertex =
    (body, Body shell) ∷ (shell, Shell body (pos 1)) ∷ (face, Face shell l) ∷ (l, Loop face [] (Some vertex)) ∷ (vertex, Vertex body (point_of at)) ∷ []

-- what the row makes of tags
abbrev pub with_body : Shape → Triple → List Tag → Shape
with_body S at tags = S with bare_items at (tag_at tags 0) (tag_at tags 1) (tag_at tags 2) (tag_at tags 3) (tag_at tags 4)

pub mvfs-row : (S : Shape) (at : Triple) → IsOk (mvfs S at) → mvfs S at ≡ makes_five (λ body shell face l vertex. S with bare_items at body shell face l vertex)
mvfs-row S at h = (goes-past (refuse_outside is_coordinate (numbers_of at)) _ h).same

-- ---- the tags that it takes and puts

pub mvfs-cost : (S : Shape) (at : Triple) → IsOk (mvfs S at) → cost_of (mvfs S at) ≡ 5
mvfs-cost S at goes = cost-making 5 (mvfs S at) (mvfs-makes S at) goes

pub mvfs-tags : (S : Shape) (at : Triple) (p : BareParts) (tags rest : List Tag) → IsOk (mvfs S at) → IsMadeOf tags p rest → tags_put S (Mvfs at) tags ≡ tags_of_parts p
mvfs-tags S at p tags rest goes made = λ i. take (mvfs-cost S at goes i) (made i) ++ []

-- ---- the map that is reached

module _ (m : EntityMap) (sound : IsSound m) (at : Triple) (p : BareParts) (rest : List Tag) (goes : IsOk (mvfs (shape_of m) at))
    (ascend : TagsAscend (p.body ∷ p.shell ∷ p.face ∷ p.loop_ ∷ p.vertex ∷ rest))
    (free : AllByRecursion (λ t. get m t ≡ None) (p.body ∷ p.shell ∷ p.face ∷ p.loop_ ∷ p.vertex ∷ rest)) where
  abbrev S : Shape
  S = shape_of m

  abbrev tags : List Tag
  tags = p.body ∷ p.shell ∷ p.face ∷ p.loop_ ∷ p.vertex ∷ rest

  abbrev xs : Items
  xs = bare_items at p.body p.shell p.face p.loop_ p.vertex

  abbrev R : Shape
  R = S with xs

  abbrev n1 : EntityMap
  n1 = with_entity m p.body (Some (entity.Body p.shell))

  abbrev n2 : EntityMap
  n2 = with_entity n1 p.shell (Some (entity.Shell p.body (pos 1)))

  abbrev n3 : EntityMap
  n3 = with_entity n2 p.face (Some (entity.Face p.shell p.loop_))

  abbrev n4 : EntityMap
  n4 = with_entity n3 p.loop_ (Some (entity.Loop p.face None (Some p.vertex)))

  abbrev n5 : EntityMap
  n5 = with_bare_body m p (point_of at)

  well : IsWell S
  well = well-shape m sound

  was : Represents S m
  was = represents-sound m sound

  once : NoRepeats (tags_of_parts p)
  once = apart-ascending (tags_of_parts p) (ascend-left (tags_of_parts p) rest ascend)

  free_items : AllByRecursion (λ t. item_at S t ≡ None) tags
  free_items = ByRecursion-weaker _ _ (λ t e. free_item m sound t e) tags free

  ends_5 : (t : Tag) → t ≢ p.vertex → get n5 t ≡ get n4 t
  ends_5 t h = get_other n4 p.vertex (Some (entity.Vertex p.body (point_of at))) t h

  ends_4 : (t : Tag) → t ≢ p.loop_ → t ≢ p.vertex → get n5 t ≡ get n3 t
  ends_4 t k h = ends_5 t h ∙ get_other n3 p.loop_ (Some (entity.Loop p.face None (Some p.vertex))) t k

  ends_3 : (t : Tag) → t ≢ p.face → t ≢ p.loop_ → t ≢ p.vertex → get n5 t ≡ get n2 t
  ends_3 t f k h = ends_4 t k h ∙ get_other n2 p.face (Some (entity.Face p.shell p.loop_)) t f

  ends_2 : (t : Tag) → t ≢ p.shell → t ≢ p.face → t ≢ p.loop_ → t ≢ p.vertex → get n5 t ≡ get n1 t
  ends_2 t s f k h = ends_3 t f k h ∙ get_other n1 p.shell (Some (entity.Shell p.body (pos 1))) t s

  written : (t : Tag) (x : Item) → Contains xs (t, x) → item_at R t ≡ Some x
  written t x k = with-written S xs t x once k

  body_shown : IsShown R n5 p.body
  body_shown = shown-by R n5 p.body (Body p.shell) (written p.body _ (0, omega arith, refl))
      (ends_2 p.body once.0.0 once.0.1.0 once.0.1.1.0 once.0.1.1.1.0 ∙ get_put m p.body _)

  shell_shown : IsShown R n5 p.shell
  shell_shown = shown-by R n5 p.shell (Shell p.body (pos 1)) (written p.shell _ (1, omega arith, refl))
      (ends_3 p.shell once.1.0.0 once.1.0.1.0 once.1.0.1.1.0 ∙ get_put n1 p.shell _)

  face_shown : IsShown R n5 p.face
  face_shown = shown-by R n5 p.face (Face p.shell p.loop_) (written p.face _ (2, omega arith, refl))
      (ends_4 p.face once.1.1.0.0 once.1.1.0.1.0 ∙ get_put n2 p.face _)

  loop_shown : IsShown R n5 p.loop_
  loop_shown =
      let none : IsRing n5 [] = record { once = tt; linked = tt } in
      shown-by R n5 p.loop_ (Loop p.face [] (Some p.vertex)) (written p.loop_ _ (3, omega arith, refl))
      (ends_5 p.loop_ once.1.1.1.0.0 ∙ get_put n3 p.loop_ _, none, tt)

  vertex_shown : IsShown R n5 p.vertex
  vertex_shown = shown-by R n5 p.vertex (Vertex p.body (point_of at)) (written p.vertex _ (4, omega arith, refl))
      (get_put n4 p.vertex _)

  abbrev IsNew : Tag → Type 0
  IsNew t = NoneOf t (tags_of_parts p)

  elsewhere : (t : Tag) → IsNew t → (item_at R t ≡ item_at S t) × (get n5 t ≡ get m t)
  elsewhere t h = (with-other S xs t h, ends_2 t h.1.0 h.1.1.0 h.1.1.1.0 h.1.1.1.1.0 ∙ get_other m p.body (Some (entity.Body p.shell)) t h.0)

  live_apart : (t : Tag) (x : Item) → item_at S t ≡ Some x → IsNew t
  live_apart t x e = live-none_of S (tags_of_parts p) t x (ByRecursion-left (λ u. item_at S u ≡ None) (tags_of_parts p) rest free_items) e

  fins : KeepsFins S R m n5
  fins f mate edge vertex e = let other = elsewhere f (live_apart f _ e) in (other.0 ∙ e, other.1)

  at_tag : (t u : Tag) → IsShown R n5 u → (t ≢ u → IsShown R n5 t) → IsShown R n5 t
  at_tag t u here else = ⊎_elim {C = IsShown R n5 t} (λ (e : t ≡ u). subst (IsShown R n5) (sym e) here) (λ (h : t ≢ u). else h) (same_or_other t u)

  each : (t : Tag) → IsShown R n5 t
  each t = at_tag t p.body body_shown (λ a. at_tag t p.shell shell_shown (λ b. at_tag t p.face face_shown (λ c. at_tag t p.loop_ loop_shown (λ d. at_tag t p.vertex vertex_shown (λ e.
      let other = elsewhere t (a, (b, (c, (d, (e, tt))))) in stays-shown S R m n5 well fins was t other.0 other.1)))))

  reached_well : IsWell R
  reached_well = subst (Keeps tags) (mvfs-row S at goes) (mvfs-keeps S tags at well ascend free_items) (omega arith)

  body_made : n5 ≡ links R
  body_made = represented R n5 reached_well (are-shown R n5 each)

pub body-made : (m : EntityMap) → IsSound m → (at : Triple) (p : BareParts) (ts rest : List Tag) → IsOk (mvfs (shape_of m) at)
    → ts ≡ p.body ∷ p.shell ∷ p.face ∷ p.loop_ ∷ p.vertex ∷ rest → TagsAscend ts → AllByRecursion (λ t. get m t ≡ None) ts
    → with_bare_body m p (point_of at) ≡ links (with_body (shape_of m) at ts)
body-made m sound at p ts rest goes made ascend free =
    body_made m sound at p rest goes (subst TagsAscend made ascend) (subst (AllByRecursion (λ t. get m t ≡ None)) made free)
    ∙ ap (λ us. links (with_body (shape_of m) at us)) (sym made)
