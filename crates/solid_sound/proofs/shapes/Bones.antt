-- Shapes that differ in attributes and in points alone, and are alike in all else.
use Rattle.std.proofs.Common.{◌≡◌, ℕ, ◌+◌, Bool, true, false, cond, List, [], ◌∷◌, Option, Some, None, refl, sym, ap, subst, ◌∙◌}
use Rattle.std.specs.Prelude.{T, ℤ, pos, ◌+ℤ◌, ◌-ℤ◌, ◌&&◌, IsTrue, option_map}
use Rattle.std.specs.Option.{option_and_then, option_map_or}
use Rattle.std.specs.List.{AllByRecursion, sum_by}
use Rattle.std.specs.FinMap.{is_sorted}
use Rattle.std.proofs.lemmas.List.Sums.{sum_by-cons}
use Rattle.std.proofs.lemmas.Option.{same_Some}
use Rattle.pk_base.specs.Blocks.{tag}
use Rattle.pk_base.specs.Entity.{same_tag}
use Rattle.pk_base.specs.declared.tag.Tag.{Tag}
use Rattle.pk_base.specs.declared.entity.Point.{Point}
use Rattle.pk_base.specs.declared.entity.Class.{Class}
use Rattle.pk_base.specs.declared.entity.Class.TheVariants as class
use Rattle.pk_model.specs.Maps.{tag_cmp}
use Rattle.list_facts.proofs.Each.{ByRecursion-weaker}
use Rattle.solid_model.specs.Items.{Item, Shape, item_at, class_of_item}
use Rattle.solid_model.specs.Items.Item.{Body, Shell, Face, Loop, Fin, Edge, Vertex, Attr}
use Rattle.solid_model.specs.Rings.{neighbours}
use Rattle.solid_model.specs.Owners.{fins_of, same_class, body_of, number_in_body}
use Rattle.solid_model.specs.Places.{mate_of, mate_at, vertex_of, start_at, the_origin}
use Rattle.solid_model.specs.Ranges.{is_coordinate, coordinates_of}
use Rattle.solid_model.specs.Links.{is_fin_of}
use Rattle.solid_model.specs.Sound.{IsWritten, IsSoundShape, HasShell, HasAttributes, IsMated, ComesAfter, GoesRound, MeetsEulerPoincare, NamesItsKind, class_at, times_in_loops, fins_with_edge, end_of, is_alone_in, loops_alone_at}
use Rattle.solid_model.proofs.lists.Neighbours.{times}
use Rattle.solid_sound.proofs.shapes.Names.{NotAttr, names-carried, each-named}
use Rattle.solid_sound.proofs.shapes.Sums.{sum-alike}
use Rattle.solid_sound.proofs.shapes.Bodies.{LeadsUp, item_of_class, leads_up, body_of-leads, low_item}

-- the item without its point, and no attribute
abbrev pub bone : Item → Option Item
bone (Body shell) = Some (Body shell)
bone (Shell body q) = Some (Shell body q)
bone (Face shell outer) = Some (Face shell outer)
bone (Loop face fins vertex) = Some (Loop face fins vertex)
bone (Fin mate edge vertex) = Some (Fin mate edge vertex)
bone (Edge body) = Some (Edge body)
bone (Vertex body point) = Some (Vertex body the_origin)
bone (Attr owner name value) = None

abbrev pub bone_of : Option Item → Option Item
bone_of o = option_and_then bone o

-- neither a vertex nor an attribute
abbrev is_plain : Item → Bool
is_plain (Body shell) = true
is_plain (Shell body q) = true
is_plain (Face shell outer) = true
is_plain (Loop face fins vertex) = true
is_plain (Fin mate edge vertex) = true
is_plain (Edge body) = true
is_plain (Vertex body point) = false
is_plain (Attr owner name value) = false

plain-bone : (x : Item) → is_plain x ≡ true → bone x ≡ Some x
plain-bone (Body shell) p = refl
plain-bone (Shell body q) p = refl
plain-bone (Face shell outer) p = refl
plain-bone (Loop face fins vertex) p = refl
plain-bone (Fin mate edge vertex) p = refl
plain-bone (Edge body) p = refl
plain-bone (Vertex body point) p = absurd (cc)
plain-bone (Attr owner name value) p = absurd (cc)

from_bone : (o : Option Item) (x : Item) → bone_of o ≡ Some x → is_plain x ≡ true → o ≡ Some x
from_bone None x h p = absurd (cc)
from_bone (Some (Body shell)) x h p = h
from_bone (Some (Shell body q)) x h p = h
from_bone (Some (Face shell outer)) x h p = h
from_bone (Some (Loop face fins vertex)) x h p = h
from_bone (Some (Fin mate edge vertex)) x h p = h
from_bone (Some (Edge body)) x h p = h
from_bone (Some (Vertex body point)) x h p = let plain : false ≡ true = ap is_plain (same_Some (Vertex body the_origin) x h) ∙ p in absurd (cc)
from_bone (Some (Attr owner name value)) x h p = absurd (cc)

from_vertex : (o : Option Item) (b : Tag) → bone_of o ≡ Some (Vertex b the_origin) → (p : Point) × (o ≡ Some (Vertex b p))
from_vertex None b h = absurd (cc)
from_vertex (Some (Vertex body point)) b h = (point, let e : body ≡ b = cc in ap (λ t. Some (Vertex t point)) e)
from_vertex (Some (Body shell)) b h = absurd (cc)
from_vertex (Some (Shell body q)) b h = absurd (cc)
from_vertex (Some (Face shell outer)) b h = absurd (cc)
from_vertex (Some (Loop face fins vertex)) b h = absurd (cc)
from_vertex (Some (Fin mate edge vertex)) b h = absurd (cc)
from_vertex (Some (Edge body)) b h = absurd (cc)
from_vertex (Some (Attr owner name value)) b h = absurd (cc)

class-bone : (o : Option Item) (c : Class) → NotAttr c → option_map class_of_item o ≡ Some c → option_map class_of_item (bone_of o) ≡ Some c
class-bone None c na h = h
class-bone (Some (Body shell)) c na h = h
class-bone (Some (Shell body q)) c na h = h
class-bone (Some (Face shell outer)) c na h = h
class-bone (Some (Loop face fins vertex)) c na h = h
class-bone (Some (Fin mate edge vertex)) c na h = h
class-bone (Some (Edge body)) c na h = h
class-bone (Some (Vertex body point)) c na h = h
class-bone (Some (Attr owner name value)) c na h = absurd (na (sym (same_Some class.Attr c h)))

bone-class : (o : Option Item) (c : Class) → option_map class_of_item (bone_of o) ≡ Some c → option_map class_of_item o ≡ Some c
bone-class None c h = h
bone-class (Some (Body shell)) c h = h
bone-class (Some (Shell body q)) c h = h
bone-class (Some (Face shell outer)) c h = h
bone-class (Some (Loop face fins vertex)) c h = h
bone-class (Some (Fin mate edge vertex)) c h = h
bone-class (Some (Edge body)) c h = h
bone-class (Some (Vertex body point)) c h = h
bone-class (Some (Attr owner name value)) c h = absurd (cc)

mate-bone : (o : Option Item) → option_map_or mate_of o (tag 0) ≡ option_map_or mate_of (bone_of o) (tag 0)
mate-bone None = refl
mate-bone (Some (Body shell)) = refl
mate-bone (Some (Shell body q)) = refl
mate-bone (Some (Face shell outer)) = refl
mate-bone (Some (Loop face fins vertex)) = refl
mate-bone (Some (Fin mate edge vertex)) = refl
mate-bone (Some (Edge body)) = refl
mate-bone (Some (Vertex body point)) = refl
mate-bone (Some (Attr owner name value)) = refl

start-bone : (o : Option Item) → option_map_or vertex_of o (tag 0) ≡ option_map_or vertex_of (bone_of o) (tag 0)
start-bone None = refl
start-bone (Some (Body shell)) = refl
start-bone (Some (Shell body q)) = refl
start-bone (Some (Face shell outer)) = refl
start-bone (Some (Loop face fins vertex)) = refl
start-bone (Some (Fin mate edge vertex)) = refl
start-bone (Some (Edge body)) = refl
start-bone (Some (Vertex body point)) = refl
start-bone (Some (Attr owner name value)) = refl

-- an attribute counts nothing, and a vertex the same wherever it is
abbrev ByBone : (Item → ℕ) → Type 0
ByBone h = (x : Item) → h x ≡ option_map_or h (bone x) 0

fins-ByBone : (f : Tag) → ByBone (λ x. times f (fins_of x))
fins-ByBone f (Body shell) = refl
fins-ByBone f (Shell body q) = refl
fins-ByBone f (Face shell outer) = refl
fins-ByBone f (Loop face fins vertex) = refl
fins-ByBone f (Fin mate edge vertex) = refl
fins-ByBone f (Edge body) = refl
fins-ByBone f (Vertex body point) = refl
fins-ByBone f (Attr owner name value) = refl

edges-ByBone : (e : Tag) → ByBone (λ x. cond (is_fin_of e x) 1 0)
edges-ByBone e (Body shell) = refl
edges-ByBone e (Shell body q) = refl
edges-ByBone e (Face shell outer) = refl
edges-ByBone e (Loop face fins vertex) = refl
edges-ByBone e (Fin mate edge vertex) = refl
edges-ByBone e (Edge body) = refl
edges-ByBone e (Vertex body point) = refl
edges-ByBone e (Attr owner name value) = refl

lone-ByBone : (v : Tag) → ByBone (λ x. cond (is_alone_in v x) 1 0)
lone-ByBone v (Body shell) = refl
lone-ByBone v (Shell body q) = refl
lone-ByBone v (Face shell outer) = refl
lone-ByBone v (Loop face fins vertex) = refl
lone-ByBone v (Fin mate edge vertex) = refl
lone-ByBone v (Edge body) = refl
lone-ByBone v (Vertex body point) = refl
lone-ByBone v (Attr owner name value) = refl

class-ByBone : (c : Class) → same_class class.Attr c ≡ false → (b : Bool) → ByBone (λ x. cond (same_class (class_of_item x) c && b) 1 0)
class-ByBone c na b (Body shell) = refl
class-ByBone c na b (Shell body q) = refl
class-ByBone c na b (Face shell outer) = refl
class-ByBone c na b (Loop face fins vertex) = refl
class-ByBone c na b (Fin mate edge vertex) = refl
class-ByBone c na b (Edge body) = refl
class-ByBone c na b (Vertex body point) = refl
class-ByBone c na b (Attr owner name value) = ap (λ a. cond (a && b) 1 0) na

pub sum-every : (w v : Tag × Item → ℕ) → ((x : Tag × Item) → w x ≡ v x) → (S : Shape) → sum_by w S ≡ sum_by v S
sum-every w v h [] = refl
sum-every w v h (x ∷ S) = sum_by-cons w x S ∙ (λ i. h x i + sum-every w v h S i) ∙ sym (sum_by-cons v x S)

-- R has the bones of S
pub record SameBones (S R : Shape) : Type 0 where
  pub ascends : T (is_sorted tag_cmp R)
  pub at : (t : Tag) → bone_of (item_at R t) ≡ bone_of (item_at S t)
  pub sums : (w : Tag → Item → ℕ) → sum_by (λ x. option_map_or (w x.0) (bone x.1) 0) R ≡ sum_by (λ x. option_map_or (w x.0) (bone x.1) 0) S

module _ (S R : Shape) (written : IsWritten S) (sound : IsSoundShape S) (same : SameBones S R) where
  back : (t : Tag) (x : Item) → item_at R t ≡ Some x → is_plain x ≡ true → item_at S t ≡ Some x
  back t x e p = from_bone (item_at S t) x (sym (same.at t) ∙ ap bone_of e ∙ plain-bone x p) p

  forth : (t : Tag) (x : Item) → item_at S t ≡ Some x → is_plain x ≡ true → item_at R t ≡ Some x
  forth t x e p = from_bone (item_at R t) x (same.at t ∙ ap bone_of e ∙ plain-bone x p) p

  vertex_back : (v b : Tag) (p : Point) → item_at R v ≡ Some (Vertex b p) → (q : Point) × (item_at S v ≡ Some (Vertex b q))
  vertex_back v b p e = from_vertex (item_at S v) b (sym (same.at v) ∙ ap bone_of e)

  pub class_forth : (t : Tag) (c : Class) → NotAttr c → class_at S t ≡ Some c → class_at R t ≡ Some c
  class_forth t c na h = bone-class (item_at R t) c (ap (option_map class_of_item) (same.at t) ∙ class-bone (item_at S t) c na h)

  carry : (t : Tag) (c : Class) → NotAttr c → Unit {0} → class_at S t ≡ Some c → class_at R t ≡ Some c
  carry t c na u h = class_forth t c na h

  kinds_by : (x : Item) → NamesItsKind S x → NamesItsKind R x
  kinds_by x h = names-carried S R (λ t. Unit {0}) carry x (each-named x) h

  kinds : (t : Tag) (x : Item) → item_at R t ≡ Some x → NamesItsKind R x
  kinds t (Body shell) e = kinds_by (Body shell) (sound.names.kinds t _ (back t _ e refl))
  kinds t (Shell body q) e = kinds_by (Shell body q) (sound.names.kinds t _ (back t _ e refl))
  kinds t (Face shell outer) e = kinds_by (Face shell outer) (sound.names.kinds t _ (back t _ e refl))
  kinds t (Loop face fins vertex) e = kinds_by (Loop face fins vertex) (sound.names.kinds t _ (back t _ e refl))
  kinds t (Fin mate edge vertex) e = kinds_by (Fin mate edge vertex) (sound.names.kinds t _ (back t _ e refl))
  kinds t (Edge body) e = kinds_by (Edge body) (sound.names.kinds t _ (back t _ e refl))
  kinds t (Vertex body point) e = let v = vertex_back t body point e in kinds_by (Vertex body point) (sound.names.kinds t (Vertex body v.0) v.1)
  kinds t (Attr owner name value) e = tt

  sums_by : (h : Tag → Item → ℕ) → ((t : Tag) → ByBone (h t)) → sum_by (λ x. h x.0 x.1) R ≡ sum_by (λ x. h x.0 x.1) S
  sums_by h by = sum-every _ _ (λ x. by x.0 x.1) R ∙ same.sums h ∙ sym (sum-every _ _ (λ x. by x.0 x.1) S)

  times_same : (f : Tag) → times_in_loops R f ≡ times_in_loops S f
  times_same f = sums_by (λ t x. times f (fins_of x)) (λ t. fins-ByBone f)

  placed : (f mate edge vertex : Tag) → item_at R f ≡ Some (Fin mate edge vertex) → times_in_loops R f ≡ 1
  placed f mate edge vertex e = times_same f ∙ sound.placed f mate edge vertex (back f _ e refl)

  mate_same : (f : Tag) → mate_at R f ≡ mate_at S f
  mate_same f = mate-bone (item_at R f) ∙ ap (λ o. option_map_or mate_of o (tag 0)) (same.at f) ∙ sym (mate-bone (item_at S f))

  start_same : (f : Tag) → start_at R f ≡ start_at S f
  start_same f = start-bone (item_at R f) ∙ ap (λ o. option_map_or vertex_of o (tag 0)) (same.at f) ∙ sym (start-bone (item_at S f))

  end_same : (f : Tag) → end_of R f ≡ end_of S f
  end_same f = ap (start_at R) (mate_same f) ∙ start_same (mate_at S f)

  up : LeadsUp R (body_of S)
  up = let was = leads_up S written sound in record {
    bodies = λ b shell e. was.bodies b shell (back b _ e refl);
    shells = λ s body q e. was.shells s body q (back s _ e refl);
    faces = λ f shell outer e. was.faces f shell outer (back f _ e refl);
    loops = λ l face fins vertex e. was.loops l face fins vertex (back l _ e refl);
    fins = λ l face fins vertex e f k. was.fins l face fins vertex (back l _ e refl) f k;
    edges = λ e body is. was.edges e body (back e _ is refl);
    vertices = λ v body point e. let w = vertex_back v body point e in was.vertices v body w.0 w.1;
  }

  body_same : (t : Tag) (x : Item) → item_at R t ≡ Some x → NotAttr (class_of_item x) → body_of R t ≡ body_of S t
  body_same t x e na = body_of-leads R same.ascends kinds placed (body_of S) up t x e (low_item x na)

  number_same : (c : Class) → same_class class.Attr c ≡ false → (b : Tag) → number_in_body c R b ≡ number_in_body c S b
  number_same c na b =
      sum-alike (λ x. cond (same_class (class_of_item x.1) c && same_tag (body_of R x.0) b) 1 0) (λ x. cond (same_class (class_of_item x.1) c && same_tag (body_of S x.0) b) 1 0) R same.ascends (λ t x e. in_same_body t x e)
      ∙ sums_by (λ t x. cond (same_class (class_of_item x) c && same_tag (body_of S t) b) 1 0) (λ t. class-ByBone c na (same_tag (body_of S t) b))
    where
      in_same_body : (t : Tag) (x : Item) → item_at R t ≡ Some x → cond {A = ℕ} (same_class (class_of_item x) c && same_tag (body_of R t) b) 1 0 ≡ cond (same_class (class_of_item x) c && same_tag (body_of S t) b) 1 0
      in_same_body t (Attr owner name value) e = ap (λ a. cond {A = ℕ} (a && same_tag (body_of R t) b) 1 0) na ∙ sym (ap (λ a. cond {A = ℕ} (a && same_tag (body_of S t) b) 1 0) na)
      in_same_body t (Body shell) e = ap (λ u. cond {A = ℕ} (same_class class.Body c && same_tag u b) 1 0) (body_same t _ e (λ k. cc))
      in_same_body t (Shell body q) e = ap (λ u. cond {A = ℕ} (same_class class.Shell c && same_tag u b) 1 0) (body_same t _ e (λ k. cc))
      in_same_body t (Face shell outer) e = ap (λ u. cond {A = ℕ} (same_class class.Face c && same_tag u b) 1 0) (body_same t _ e (λ k. cc))
      in_same_body t (Loop face fins vertex) e = ap (λ u. cond {A = ℕ} (same_class class.Loop c && same_tag u b) 1 0) (body_same t _ e (λ k. cc))
      in_same_body t (Fin mate edge vertex) e = ap (λ u. cond {A = ℕ} (same_class class.Fin c && same_tag u b) 1 0) (body_same t _ e (λ k. cc))
      in_same_body t (Edge body) e = ap (λ u. cond {A = ℕ} (same_class class.Edge c && same_tag u b) 1 0) (body_same t _ e (λ k. cc))
      in_same_body t (Vertex body point) e = ap (λ u. cond {A = ℕ} (same_class class.Vertex c && same_tag u b) 1 0) (body_same t _ e (λ k. cc))

  edges_same : (e : Tag) → fins_with_edge R e ≡ fins_with_edge S e
  edges_same e = sums_by (λ t x. cond (is_fin_of e x) 1 0) (λ t. edges-ByBone e)

  lone_same : (v : Tag) → loops_alone_at R v ≡ loops_alone_at S v
  lone_same v = sums_by (λ t x. cond (is_alone_in v x) 1 0) (λ t. lone-ByBone v)

  mated : (f mate edge vertex : Tag) → IsMated S f mate edge vertex → IsMated R f mate edge vertex
  mated f mate edge vertex h = record { other = h.other; end = h.end; mate_is = forth mate _ h.mate_is refl; apart = h.apart }

  shells : (b shell : Tag) → HasShell S b shell → HasShell R b shell
  shells b shell h = record { q = h.q; shell_is = forth shell _ h.shell_is refl; face = h.face; outer = h.outer; face_is = forth h.face _ h.face_is refl }

  follow : (l face : Tag) (fins : List Tag) (vertex : Option Tag) → item_at R l ≡ Some (Loop face fins vertex)
      → AllByRecursion (λ n. start_at R n.1 ≡ end_of R n.0) (neighbours fins)
  follow l face fins vertex e = ByRecursion-weaker (λ n. start_at S n.1 ≡ end_of S n.0) (λ n. start_at R n.1 ≡ end_of R n.0)
      (λ n h. start_same n.1 ∙ h ∙ sym (end_same n.0)) (neighbours fins) (sound.follow l face fins vertex (back l _ e refl))

  comes_after : (f g : Tag) → ComesAfter S f g → ComesAfter R f g
  comes_after f g h = record { loop_ = h.loop_; face = h.face; fins = h.fins; vertex = h.vertex; loop_is = forth h.loop_ _ h.loop_is refl; among = h.among }

  round : (v : Tag) → GoesRound S v → GoesRound R v
  round v h = record {
    fins = h.fins;
    once = h.once;
    are_all = λ f. (λ k. let m = (h.are_all f).0 k in (m.0, m.1, forth f _ m.2 refl), λ m. (h.are_all f).1 (m.0, m.1, back f _ m.2 refl));
    round = ByRecursion-weaker (λ n. ComesAfter S (mate_at S n.0) n.1) (λ n. ComesAfter R (mate_at R n.0) n.1)
        (λ n k. subst (λ t. ComesAfter R t n.1) (sym (mate_same n.0)) (comes_after (mate_at S n.0) n.1 k)) (neighbours h.fins) h.round;
    lone = lone_same v ∙ h.lone;
  }

  formula : (b shell : Tag) (q : ℤ) → item_at R b ≡ Some (Body shell) → item_at R shell ≡ Some (Shell b q) → MeetsEulerPoincare R b q
  formula b shell q e s =
      let v = number_same class.Vertex refl b in
      let d = number_same class.Edge refl b in
      let f = number_same class.Face refl b in
      let l = number_same class.Loop refl b in
      (λ i. ((pos (v i) -ℤ pos (d i)) +ℤ pos (f i)) -ℤ (pos (l i) -ℤ pos (f i)))
      ∙ sound.measure.formula b shell q (back b _ e refl) (back shell _ s refl)

  -- the body of a live tag of a class
  body_at_class : (t : Tag) (c : Class) → NotAttr c → class_at R t ≡ Some c → body_of R t ≡ body_of S t
  body_at_class t c na h = let x = item_of_class (item_at R t) c h in body_same t x.0 x.1 (subst NotAttr (sym x.2) na)

  -- R is sound where its attributes and its points are
  pub bones-sound : HasAttributes R
      → ((v body : Tag) (point : Point) → item_at R v ≡ Some (Vertex body point) → AllByRecursion (λ c. IsTrue (is_coordinate c)) (coordinates_of point))
      → IsSoundShape R
  bones-sound attributes points = record {
    names = record {
      kinds = kinds;
      shells = λ b shell e. shells b shell (sound.names.shells b shell (back b _ e refl));
      bodies = λ s b q e. forth b _ (sound.names.bodies s b q (back s _ e refl)) refl;
    };
    placed = placed;
    mates = record {
      fins = λ f mate edge vertex e. mated f mate edge vertex (sound.mates.fins f mate edge vertex (back f _ e refl));
      edges = λ e body is. edges_same e ∙ sound.mates.edges e body (back e _ is refl);
    };
    follow = follow;
    lone = λ l face fins vertex e. sound.lone l face fins vertex (back l _ e refl);
    outer = λ f shell outer e. let o = sound.outer f shell outer (back f _ e refl) in (o.0, o.1, forth outer _ o.2 refl);
    round = λ v body point e. let w = vertex_back v body point e in round v (sound.round v body w.0 w.1);
    bodies = record {
      fins = λ f mate edge vertex e.
          let was = sound.bodies.fins f mate edge vertex (back f _ e refl) in
          let named = kinds f (Fin mate edge vertex) e in
          let own = body_same f _ e (λ k. cc) in
          (body_at_class edge class.Edge (λ k. cc) named.1.0 ∙ was.0 ∙ sym own, body_at_class vertex class.Vertex (λ k. cc) named.2.0 ∙ was.1 ∙ sym own);
      lone = λ l face vertex fins e.
          let named = kinds l (Loop face fins (Some vertex)) e in
          body_at_class vertex class.Vertex (λ k. cc) named.2.0 ∙ sound.bodies.lone l face vertex fins (back l _ e refl) ∙ sym (body_same l _ e (λ k. cc));
    };
    attributes = attributes;
    measure = record { formula = formula; points = points };
  }

  pub bones-written : IsWritten R
  bones-written = record { ascends = same.ascends; loops = λ l face fins vertex e. written.loops l face fins vertex (back l _ e refl) }
