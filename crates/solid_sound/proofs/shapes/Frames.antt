-- Shapes with the same bodies, fins, edges and vertices, and with the same loops but for their faces.
use Rattle.std.proofs.Common.{◌≡◌, ◌≢◌, ℕ, ⊎_elim, Bool, true, false, cond, List, [], ◌∷◌, Option, Some, None, refl, sym, ap, subst, ◌∙◌, arith}
use Rattle.std.specs.Prelude.{T, ℤ, pos, ◌&&◌, filter, option_map}
use Rattle.std.specs.Option.{option_and_then, option_map_or}
use Rattle.std.specs.List.{AllByRecursion, sum_by}
use Rattle.std.specs.FinMap.{is_sorted, put}
use Rattle.std.specs.FinMap.Entries.{is_sorted-put}
use Rattle.std.proofs.lemmas.Bool.{cases_Bool}
use Rattle.std.proofs.lemmas.Option.{same_Some}
use Rattle.pk_base.specs.Blocks.{tag}
use Rattle.pk_base.specs.Entity.{same_tag}
use Rattle.pk_base.specs.declared.tag.Tag.{Tag}
use Rattle.pk_base.specs.declared.entity.Point.{Point}
use Rattle.pk_base.specs.declared.entity.Class.{Class}
use Rattle.pk_base.specs.declared.entity.Class.TheVariants as class
use Rattle.pk_model.specs.Maps.{tag_cmp}
use Rattle.pk_model.proofs.TagLists.{tag_total}
use Rattle.solid_model.specs.Items.{Item, Shape, item_at, class_of_item}
use Rattle.solid_model.specs.Items.Item.{Body, Shell, Face, Loop, Fin, Edge, Vertex, Attr}
use Rattle.solid_model.specs.Rings.{neighbours}
use Rattle.solid_model.specs.Owners.{fins_of, same_class}
use Rattle.solid_model.specs.Places.{mate_of, mate_at, vertex_of, start_at}
use Rattle.solid_model.specs.Links.{is_fin_of}
use Rattle.solid_model.specs.Sound.{IsWritten, IsMated, ComesAfter, GoesRound, NamesItsKind, class_at, times_in_loops, fins_with_edge, end_of, is_alone_in, loops_alone_at, optional, AreOf}
use Rattle.list_facts.proofs.Each.{ByRecursion-weaker}
use Rattle.solid_model.proofs.lists.Neighbours.{times}
use Rattle.solid_sound.proofs.shapes.Lookups.{put-same, put-other, filter-sorted, filter-kept}
use Rattle.solid_sound.proofs.shapes.Found.{none_or_some, filter-none, filter-lost}
use Rattle.pk_base.proofs.Same.{same_or_other}
use Rattle.solid_sound.proofs.shapes.Names.{NotAttr}
use Rattle.solid_sound.proofs.shapes.Numbers.{counts_in}
use Rattle.solid_sound.proofs.shapes.Sums.{sum-put, sum-left}
use Rattle.solid_sound.proofs.shapes.Bones.{sum-every}
use Rattle.solid_sound.proofs.rows.RowKeeps.{IsWell}

-- the item without the q of a shell and the face of a loop; no face, and no attribute
abbrev pub frame : Item → Option Item
frame (Body shell) = Some (Body shell)
frame (Shell body q) = Some (Shell body (pos 0))
frame (Face shell outer) = None
frame (Loop face fins vertex) = Some (Loop (tag 0) fins vertex)
frame (Fin mate edge vertex) = Some (Fin mate edge vertex)
frame (Edge body) = Some (Edge body)
frame (Vertex body point) = Some (Vertex body point)
frame (Attr owner name value) = None

abbrev pub frame_of : Option Item → Option Item
frame_of o = option_and_then frame o

-- R has the frame of S
pub record SameFrame (S R : Shape) : Type 0 where
  pub ascends : T (is_sorted tag_cmp R)
  pub at : (t : Tag) → frame_of (item_at R t) ≡ frame_of (item_at S t)
  pub sums : (w : Tag → Item → ℕ) → sum_by (λ x. option_map_or (w x.0) (frame x.1) 0) R ≡ sum_by (λ x. option_map_or (w x.0) (frame x.1) 0) S

pub same_frame-trans : (S R U : Shape) → SameFrame S R → SameFrame R U → SameFrame S U
same_frame-trans S R U a b = record { ascends = b.ascends; at = λ t. b.at t ∙ a.at t; sums = λ w. b.sums w ∙ a.sums w }

counts_by_frame : (h : Item → ℕ) (o : Option Item) → option_map_or (λ x. option_map_or h (frame x) 0) o 0 ≡ option_map_or h (frame_of o) 0
counts_by_frame h None = refl
counts_by_frame h (Some x) = refl

-- an item of the frame that stands there
pub same_frame-put : (S : Shape) (t : Tag) (x : Item) → T (is_sorted tag_cmp S) → frame x ≡ frame_of (item_at S t) → SameFrame S (put tag_cmp t x S)
same_frame-put S t x sorted h = record {
  ascends = is_sorted-put tag_cmp tag_total t x S sorted;
  at = λ q. ⊎_elim
      (λ (e : q ≡ t). ap (λ u. frame_of (item_at (put tag_cmp t x S) u)) e ∙ ap frame_of (put-same S t x) ∙ h ∙ ap (λ u. frame_of (item_at S u)) (sym e))
      (λ (n : q ≢ t). ap frame_of (put-other S t q x n))
      (same_or_other q t);
  sums = λ w.
      let sum = sum-put (λ y. option_map_or (w y.0) (frame y.1) 0) S t x sorted in
      let there : option_map_or (λ y. option_map_or (w t) (frame y) 0) (item_at S t) 0 ≡ option_map_or (w t) (frame x) 0 = counts_by_frame (w t) (item_at S t) ∙ ap (λ o. option_map_or (w t) o 0) (sym h) in
      omega (arith, sum, there);
}

-- what is killed is no part of the frame
pub same_frame-left : (S : Shape) (p : Tag × Item → Bool) → T (is_sorted tag_cmp S) → ((t : Tag) (x : Item) → item_at S t ≡ Some x → p (t, x) ≡ false → frame x ≡ None) → SameFrame S (filter p S)
same_frame-left S p sorted only = record {
  ascends = filter-sorted p S sorted;
  at = λ q. ⊎_elim {C = frame_of (item_at (filter p S) q) ≡ frame_of (item_at S q)}
      (λ (l : item_at S q ≡ None). ap frame_of (filter-none p S sorted q l ∙ sym l))
      (λ (r : (x : Item) × (item_at S q ≡ Some x)). ⊎_elim {C = frame_of (item_at (filter p S) q) ≡ frame_of (item_at S q)}
      (λ (k : p (q, r.0) ≡ true). ap frame_of (filter-kept p S q r.0 r.1 k ∙ sym r.1))
      (λ (d : p (q, r.0) ≡ false). ap frame_of (filter-lost p S sorted q r.0 r.1 d) ∙ sym (ap frame_of r.1 ∙ only q r.0 r.1 d))
      (cases_Bool (p (q, r.0))))
      (none_or_some (item_at S q));
  sums = λ w. sum-left (λ x. option_map_or (w x.0) (frame x.1) 0) p S sorted (λ t x e d. ap (λ o. option_map_or (w t) o 0) (only t x e d));
}

-- ---- items by their frames

abbrev pub is_plain : Item → Bool
is_plain (Body shell) = true
is_plain (Fin mate edge vertex) = true
is_plain (Edge body) = true
is_plain (Vertex body point) = true
is_plain (Shell body q) = false
is_plain (Face shell outer) = false
is_plain (Loop face fins vertex) = false
is_plain (Attr owner name value) = false

plain-frame : (x : Item) → is_plain x ≡ true → frame x ≡ Some x
plain-frame (Body shell) p = refl
plain-frame (Fin mate edge vertex) p = refl
plain-frame (Edge body) p = refl
plain-frame (Vertex body point) p = refl
plain-frame (Shell body q) p = absurd (cc)
plain-frame (Face shell outer) p = absurd (cc)
plain-frame (Loop face fins vertex) p = absurd (cc)
plain-frame (Attr owner name value) p = absurd (cc)

from_frame : (o : Option Item) (x : Item) → frame_of o ≡ Some x → is_plain x ≡ true → o ≡ Some x
from_frame None x h p = absurd (cc)
from_frame (Some (Body shell)) x h p = h
from_frame (Some (Fin mate edge vertex)) x h p = h
from_frame (Some (Edge body)) x h p = h
from_frame (Some (Vertex body point)) x h p = h
from_frame (Some (Shell body q)) x h p = let plain : false ≡ true = ap is_plain (same_Some (Shell body (pos 0)) x h) ∙ p in absurd (cc)
from_frame (Some (Loop face fins vertex)) x h p = let plain : false ≡ true = ap is_plain (same_Some (Loop (tag 0) fins vertex) x h) ∙ p in absurd (cc)
from_frame (Some (Face shell outer)) x h p = absurd (cc)
from_frame (Some (Attr owner name value)) x h p = absurd (cc)

from_loop : (o : Option Item) (fins : List Tag) (vertex : Option Tag) → frame_of o ≡ Some (Loop (tag 0) fins vertex) → (face : Tag) × (o ≡ Some (Loop face fins vertex))
from_loop None fins vertex h = absurd (cc)
from_loop (Some (Loop face gs v)) fins vertex h = (face, let g : gs ≡ fins = cc in let u : v ≡ vertex = cc in λ i. Some (Loop face (g i) (u i)))
from_loop (Some (Body shell)) fins vertex h = absurd (cc)
from_loop (Some (Shell body q)) fins vertex h = absurd (cc)
from_loop (Some (Face shell outer)) fins vertex h = absurd (cc)
from_loop (Some (Fin mate edge start)) fins vertex h = absurd (cc)
from_loop (Some (Edge body)) fins vertex h = absurd (cc)
from_loop (Some (Vertex body point)) fins vertex h = absurd (cc)
from_loop (Some (Attr owner name value)) fins vertex h = absurd (cc)

from_shell : (o : Option Item) (b : Tag) → frame_of o ≡ Some (Shell b (pos 0)) → (q : ℤ) × (o ≡ Some (Shell b q))
from_shell None b h = absurd (cc)
from_shell (Some (Shell body q)) b h = (q, let e : body ≡ b = cc in ap (λ t. Some (Shell t q)) e)
from_shell (Some (Body shell)) b h = absurd (cc)
from_shell (Some (Face shell outer)) b h = absurd (cc)
from_shell (Some (Loop face fins vertex)) b h = absurd (cc)
from_shell (Some (Fin mate edge vertex)) b h = absurd (cc)
from_shell (Some (Edge body)) b h = absurd (cc)
from_shell (Some (Vertex body point)) b h = absurd (cc)
from_shell (Some (Attr owner name value)) b h = absurd (cc)

abbrev pub NotFace : Class → Type 0
NotFace c = c ≢ class.Face

class-frame : (o : Option Item) (c : Class) → NotAttr c → NotFace c → option_map class_of_item o ≡ Some c → option_map class_of_item (frame_of o) ≡ Some c
class-frame None c na nf h = h
class-frame (Some (Body shell)) c na nf h = h
class-frame (Some (Shell body q)) c na nf h = h
class-frame (Some (Loop face fins vertex)) c na nf h = h
class-frame (Some (Fin mate edge vertex)) c na nf h = h
class-frame (Some (Edge body)) c na nf h = h
class-frame (Some (Vertex body point)) c na nf h = h
class-frame (Some (Face shell outer)) c na nf h = absurd (nf (sym (same_Some class.Face c h)))
class-frame (Some (Attr owner name value)) c na nf h = absurd (na (sym (same_Some class.Attr c h)))

frame-class : (o : Option Item) (c : Class) → option_map class_of_item (frame_of o) ≡ Some c → option_map class_of_item o ≡ Some c
frame-class None c h = h
frame-class (Some (Body shell)) c h = h
frame-class (Some (Shell body q)) c h = h
frame-class (Some (Loop face fins vertex)) c h = h
frame-class (Some (Fin mate edge vertex)) c h = h
frame-class (Some (Edge body)) c h = h
frame-class (Some (Vertex body point)) c h = h
frame-class (Some (Face shell outer)) c h = absurd (cc)
frame-class (Some (Attr owner name value)) c h = absurd (cc)

mate-frame : (o : Option Item) → option_map_or mate_of o (tag 0) ≡ option_map_or mate_of (frame_of o) (tag 0)
mate-frame None = refl
mate-frame (Some (Body shell)) = refl
mate-frame (Some (Shell body q)) = refl
mate-frame (Some (Face shell outer)) = refl
mate-frame (Some (Loop face fins vertex)) = refl
mate-frame (Some (Fin mate edge vertex)) = refl
mate-frame (Some (Edge body)) = refl
mate-frame (Some (Vertex body point)) = refl
mate-frame (Some (Attr owner name value)) = refl

start-frame : (o : Option Item) → option_map_or vertex_of o (tag 0) ≡ option_map_or vertex_of (frame_of o) (tag 0)
start-frame None = refl
start-frame (Some (Body shell)) = refl
start-frame (Some (Shell body q)) = refl
start-frame (Some (Face shell outer)) = refl
start-frame (Some (Loop face fins vertex)) = refl
start-frame (Some (Fin mate edge vertex)) = refl
start-frame (Some (Edge body)) = refl
start-frame (Some (Vertex body point)) = refl
start-frame (Some (Attr owner name value)) = refl

abbrev pub ByFrame : (Item → ℕ) → Type 0
ByFrame h = (x : Item) → h x ≡ option_map_or h (frame x) 0

fins-ByFrame : (f : Tag) → ByFrame (λ x. times f (fins_of x))
fins-ByFrame f (Body shell) = refl
fins-ByFrame f (Shell body q) = refl
fins-ByFrame f (Face shell outer) = refl
fins-ByFrame f (Loop face fins vertex) = refl
fins-ByFrame f (Fin mate edge vertex) = refl
fins-ByFrame f (Edge body) = refl
fins-ByFrame f (Vertex body point) = refl
fins-ByFrame f (Attr owner name value) = refl

edges-ByFrame : (e : Tag) → ByFrame (λ x. cond (is_fin_of e x) 1 0)
edges-ByFrame e (Body shell) = refl
edges-ByFrame e (Shell body q) = refl
edges-ByFrame e (Face shell outer) = refl
edges-ByFrame e (Loop face fins vertex) = refl
edges-ByFrame e (Fin mate edge vertex) = refl
edges-ByFrame e (Edge body) = refl
edges-ByFrame e (Vertex body point) = refl
edges-ByFrame e (Attr owner name value) = refl

lone-ByFrame : (v : Tag) → ByFrame (λ x. cond (is_alone_in v x) 1 0)
lone-ByFrame v (Loop face fins None) = refl
lone-ByFrame v (Loop face fins (Some vertex)) = refl
lone-ByFrame v (Body shell) = refl
lone-ByFrame v (Shell body q) = refl
lone-ByFrame v (Face shell outer) = refl
lone-ByFrame v (Fin mate edge vertex) = refl
lone-ByFrame v (Edge body) = refl
lone-ByFrame v (Vertex body point) = refl
lone-ByFrame v (Attr owner name value) = refl

pub class-ByFrame : (c : Class) → same_class class.Attr c ≡ false → same_class class.Face c ≡ false → (d u : Tag) → ByFrame (counts_in c d u)
class-ByFrame c na nf d u (Body shell) = refl
class-ByFrame c na nf d u (Shell body q) = refl
class-ByFrame c na nf d u (Loop face fins vertex) = refl
class-ByFrame c na nf d u (Fin mate edge vertex) = refl
class-ByFrame c na nf d u (Edge body) = refl
class-ByFrame c na nf d u (Vertex body point) = refl
class-ByFrame c na nf d u (Face shell outer) = ap (λ a. cond (a && same_tag u d) 1 0) nf
class-ByFrame c na nf d u (Attr owner name value) = ap (λ a. cond (a && same_tag u d) 1 0) na

-- ---- what stays

module _ (S R : Shape) (well : IsWell S) (same : SameFrame S R) where
  pub frame_back : (t : Tag) (x : Item) → item_at R t ≡ Some x → is_plain x ≡ true → item_at S t ≡ Some x
  frame_back t x e p = from_frame (item_at S t) x (sym (same.at t) ∙ ap frame_of e ∙ plain-frame x p) p

  pub frame_forth : (t : Tag) (x : Item) → item_at S t ≡ Some x → is_plain x ≡ true → item_at R t ≡ Some x
  frame_forth t x e p = from_frame (item_at R t) x (same.at t ∙ ap frame_of e ∙ plain-frame x p) p

  pub loop_back : (l face : Tag) (fins : List Tag) (vertex : Option Tag) → item_at R l ≡ Some (Loop face fins vertex) → (f : Tag) × (item_at S l ≡ Some (Loop f fins vertex))
  loop_back l face fins vertex e = from_loop (item_at S l) fins vertex (sym (same.at l) ∙ ap frame_of e)

  pub loop_forth : (l face : Tag) (fins : List Tag) (vertex : Option Tag) → item_at S l ≡ Some (Loop face fins vertex) → (f : Tag) × (item_at R l ≡ Some (Loop f fins vertex))
  loop_forth l face fins vertex e = from_loop (item_at R l) fins vertex (same.at l ∙ ap frame_of e)

  pub shell_back : (s b : Tag) (q : ℤ) → item_at R s ≡ Some (Shell b q) → (p : ℤ) × (item_at S s ≡ Some (Shell b p))
  shell_back s b q e = from_shell (item_at S s) b (sym (same.at s) ∙ ap frame_of e)

  pub shell_forth : (s b : Tag) (q : ℤ) → item_at S s ≡ Some (Shell b q) → (p : ℤ) × (item_at R s ≡ Some (Shell b p))
  shell_forth s b q e = from_shell (item_at R s) b (same.at s ∙ ap frame_of e)

  pub frame_class : (t : Tag) (c : Class) → NotAttr c → NotFace c → class_at S t ≡ Some c → class_at R t ≡ Some c
  frame_class t c na nf h = frame-class (item_at R t) c (ap (option_map class_of_item) (same.at t) ∙ class-frame (item_at S t) c na nf h)

  classes_forth : (c : Class) → NotAttr c → NotFace c → (ts : List Tag) → AreOf S c ts → AreOf R c ts
  classes_forth c na nf ts h = ByRecursion-weaker (λ t. class_at S t ≡ Some c) (λ t. class_at R t ≡ Some c) (λ t k. frame_class t c na nf k) ts h

  pub sums_by : (h : Tag → Item → ℕ) → ((t : Tag) → ByFrame (h t)) → sum_by (λ x. h x.0 x.1) R ≡ sum_by (λ x. h x.0 x.1) S
  sums_by h by = sum-every _ _ (λ x. by x.0 x.1) R ∙ same.sums h ∙ sym (sum-every _ _ (λ x. by x.0 x.1) S)

  times_same : (f : Tag) → times_in_loops R f ≡ times_in_loops S f
  times_same f = sums_by (λ t x. times f (fins_of x)) (λ t. fins-ByFrame f)

  pub frame_placed : (f mate edge vertex : Tag) → item_at R f ≡ Some (Fin mate edge vertex) → times_in_loops R f ≡ 1
  frame_placed f mate edge vertex e = times_same f ∙ well.sound.placed f mate edge vertex (frame_back f _ e refl)

  pub frame_edges : (e body : Tag) → item_at R e ≡ Some (Edge body) → fins_with_edge R e ≡ 2
  frame_edges e body is = sums_by (λ t x. cond (is_fin_of e x) 1 0) (λ t. edges-ByFrame e) ∙ well.sound.mates.edges e body (frame_back e _ is refl)

  lone_same : (v : Tag) → loops_alone_at R v ≡ loops_alone_at S v
  lone_same v = sums_by (λ t x. cond (is_alone_in v x) 1 0) (λ t. lone-ByFrame v)

  mate_same : (f : Tag) → mate_at R f ≡ mate_at S f
  mate_same f = mate-frame (item_at R f) ∙ ap (λ o. option_map_or mate_of o (tag 0)) (same.at f) ∙ sym (mate-frame (item_at S f))

  start_same : (f : Tag) → start_at R f ≡ start_at S f
  start_same f = start-frame (item_at R f) ∙ ap (λ o. option_map_or vertex_of o (tag 0)) (same.at f) ∙ sym (start-frame (item_at S f))

  end_same : (f : Tag) → end_of R f ≡ end_of S f
  end_same f = ap (start_at R) (mate_same f) ∙ start_same (mate_at S f)

  pub frame_mated : (f mate edge vertex : Tag) → item_at R f ≡ Some (Fin mate edge vertex) → IsMated R f mate edge vertex
  frame_mated f mate edge vertex e =
      let h = well.sound.mates.fins f mate edge vertex (frame_back f _ e refl) in
      record { other = h.other; end = h.end; mate_is = frame_forth mate _ h.mate_is refl; apart = h.apart }

  pub frame_follow : (l face : Tag) (fins : List Tag) (vertex : Option Tag) → item_at R l ≡ Some (Loop face fins vertex)
      → AllByRecursion (λ n. start_at R n.1 ≡ end_of R n.0) (neighbours fins)
  frame_follow l face fins vertex e =
      let was = loop_back l face fins vertex e in
      ByRecursion-weaker (λ n. start_at S n.1 ≡ end_of S n.0) (λ n. start_at R n.1 ≡ end_of R n.0)
      (λ n h. start_same n.1 ∙ h ∙ sym (end_same n.0)) (neighbours fins) (well.sound.follow l was.0 fins vertex was.1)

  comes_after : (f g : Tag) → ComesAfter S f g → ComesAfter R f g
  comes_after f g h =
      let l = loop_forth h.loop_ h.face h.fins h.vertex h.loop_is in
      record { loop_ = h.loop_; face = l.0; fins = h.fins; vertex = h.vertex; loop_is = l.1; among = h.among }

  pub frame_round : (v body : Tag) (point : Point) → item_at R v ≡ Some (Vertex body point) → GoesRound R v
  frame_round v body point e =
      let h = well.sound.round v body point (frame_back v _ e refl) in
      record {
        fins = h.fins;
        once = h.once;
        are_all = λ f. (λ k. let m = (h.are_all f).0 k in (m.0, m.1, frame_forth f _ m.2 refl), λ m. (h.are_all f).1 (m.0, m.1, frame_back f _ m.2 refl));
        round = ByRecursion-weaker (λ n. ComesAfter S (mate_at S n.0) n.1) (λ n. ComesAfter R (mate_at R n.0) n.1)
            (λ n k. subst (λ t. ComesAfter R t n.1) (sym (mate_same n.0)) (comes_after (mate_at S n.0) n.1 k)) (neighbours h.fins) h.round;
        lone = lone_same v ∙ h.lone;
      }

  pub frame_written : IsWritten R
  frame_written = record {
    ascends = same.ascends;
    loops = λ l face fins vertex e. let was = loop_back l face fins vertex e in well.written.loops l was.0 fins vertex was.1;
  }

  -- what an item names but faces
  pub frame_kinds : (t : Tag) (x : Item) → item_at R t ≡ Some x → ((shell outer : Tag) → x ≡ Face shell outer → (class_at R shell ≡ Some class.Shell) × (class_at R outer ≡ Some class.Loop))
      → ((face : Tag) (fins : List Tag) (vertex : Option Tag) → x ≡ Loop face fins vertex → class_at R face ≡ Some class.Face) → NamesItsKind R x
  frame_kinds t (Body shell) e faces loops = classes_forth class.Shell (λ k. cc) (λ k. cc) (shell ∷ []) (well.sound.names.kinds t _ (frame_back t _ e refl))
  frame_kinds t (Shell body q) e faces loops = let was = shell_back t body q e in classes_forth class.Body (λ k. cc) (λ k. cc) (body ∷ []) (well.sound.names.kinds t (Shell body was.0) was.1)
  frame_kinds t (Face shell outer) e faces loops = let h = faces shell outer refl in ((h.0, tt), (h.1, tt))
  frame_kinds t (Loop face fins vertex) e faces loops =
      let was = loop_back t face fins vertex e in
      let k = well.sound.names.kinds t (Loop was.0 fins vertex) was.1 in
      ((loops face fins vertex refl, tt), classes_forth class.Fin (λ m. cc) (λ m. cc) fins k.1, classes_forth class.Vertex (λ m. cc) (λ m. cc) (optional vertex) k.2)
  frame_kinds t (Fin mate edge vertex) e faces loops =
      let k = well.sound.names.kinds t _ (frame_back t _ e refl) in
      (classes_forth class.Fin (λ m. cc) (λ m. cc) (mate ∷ []) k.0, classes_forth class.Edge (λ m. cc) (λ m. cc) (edge ∷ []) k.1, classes_forth class.Vertex (λ m. cc) (λ m. cc) (vertex ∷ []) k.2)
  frame_kinds t (Edge body) e faces loops = classes_forth class.Body (λ k. cc) (λ k. cc) (body ∷ []) (well.sound.names.kinds t _ (frame_back t _ e refl))
  frame_kinds t (Vertex body point) e faces loops = classes_forth class.Body (λ k. cc) (λ k. cc) (body ∷ []) (well.sound.names.kinds t _ (frame_back t _ e refl))
  frame_kinds t (Attr owner name value) e faces loops = tt
