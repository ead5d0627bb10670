-- What is shown of the items of one class, in a shape in which items were written and items were killed.
use Rattle.std.proofs.Common.{◌≡◌, true, false, List, Option, Some, refl, sym, ap, ◌∙◌}
use Rattle.std.specs.List.{AllByRecursion}
use Rattle.std.proofs.lemmas.Bool.{true≢false}
use Rattle.pk_base.specs.declared.tag.Tag.{Tag}
use Rattle.pk_base.specs.declared.entity.Point.{Point}
use Rattle.list_facts.proofs.Each.{ByRecursion-weaker}
use Rattle.solid_model.specs.Items.{Item, Shape, item_at}
use Rattle.solid_model.specs.Items.Item.{Body, Shell, Face, Loop, Fin, Edge, Vertex, Attr}
use Rattle.solid_sound.proofs.shapes.Lookups.{Items}
use Rattle.solid_sound.proofs.shapes.Edits.{Edits, edits-each}
use Rattle.solid_sound.proofs.edges.Corners.{IsFin}
use Rattle.solid_sound.proofs.edges.EdgeMade.{is_outside}

abbrev pub OnFin : (Tag → Tag → Tag → Type 0) → Item → Type 0
OnFin P (Fin mate edge vertex) = P mate edge vertex
OnFin P (Body shell) = Unit {0}
OnFin P (Shell body q) = Unit {0}
OnFin P (Face shell outer) = Unit {0}
OnFin P (Loop face fins vertex) = Unit {0}
OnFin P (Edge body) = Unit {0}
OnFin P (Vertex body point) = Unit {0}
OnFin P (Attr owner name value) = Unit {0}

abbrev pub OnEdge : (Tag → Type 0) → Item → Type 0
OnEdge P (Edge body) = P body
OnEdge P (Body shell) = Unit {0}
OnEdge P (Shell body q) = Unit {0}
OnEdge P (Face shell outer) = Unit {0}
OnEdge P (Loop face fins vertex) = Unit {0}
OnEdge P (Fin mate edge vertex) = Unit {0}
OnEdge P (Vertex body point) = Unit {0}
OnEdge P (Attr owner name value) = Unit {0}

abbrev pub OnVertex : (Tag → Point → Type 0) → Item → Type 0
OnVertex P (Vertex body point) = P body point
OnVertex P (Body shell) = Unit {0}
OnVertex P (Shell body q) = Unit {0}
OnVertex P (Face shell outer) = Unit {0}
OnVertex P (Loop face fins vertex) = Unit {0}
OnVertex P (Fin mate edge vertex) = Unit {0}
OnVertex P (Edge body) = Unit {0}
OnVertex P (Attr owner name value) = Unit {0}

abbrev pub OnFace : (Tag → Tag → Type 0) → Item → Type 0
OnFace P (Face shell outer) = P shell outer
OnFace P (Body shell) = Unit {0}
OnFace P (Shell body q) = Unit {0}
OnFace P (Loop face fins vertex) = Unit {0}
OnFace P (Fin mate edge vertex) = Unit {0}
OnFace P (Edge body) = Unit {0}
OnFace P (Vertex body point) = Unit {0}
OnFace P (Attr owner name value) = Unit {0}

abbrev pub OnLoop : (Tag → List Tag → Option Tag → Type 0) → Item → Type 0
OnLoop P (Loop face fins vertex) = P face fins vertex
OnLoop P (Body shell) = Unit {0}
OnLoop P (Shell body q) = Unit {0}
OnLoop P (Face shell outer) = Unit {0}
OnLoop P (Fin mate edge vertex) = Unit {0}
OnLoop P (Edge body) = Unit {0}
OnLoop P (Vertex body point) = Unit {0}
OnLoop P (Attr owner name value) = Unit {0}

on_fin : (P : Tag → Tag → Tag → Type 0) (x : Item) → ((mate edge vertex : Tag) → x ≡ Fin mate edge vertex → P mate edge vertex) → OnFin P x
on_fin P (Fin mate edge vertex) h = h mate edge vertex refl
on_fin P (Body shell) h = tt
on_fin P (Shell body q) h = tt
on_fin P (Face shell outer) h = tt
on_fin P (Loop face fins vertex) h = tt
on_fin P (Edge body) h = tt
on_fin P (Vertex body point) h = tt
on_fin P (Attr owner name value) h = tt

on_edge : (P : Tag → Type 0) (x : Item) → ((body : Tag) → x ≡ Edge body → P body) → OnEdge P x
on_edge P (Edge body) h = h body refl
on_edge P (Body shell) h = tt
on_edge P (Shell body q) h = tt
on_edge P (Face shell outer) h = tt
on_edge P (Loop face fins vertex) h = tt
on_edge P (Fin mate edge vertex) h = tt
on_edge P (Vertex body point) h = tt
on_edge P (Attr owner name value) h = tt

on_vertex : (P : Tag → Point → Type 0) (x : Item) → ((body : Tag) (point : Point) → x ≡ Vertex body point → P body point) → OnVertex P x
on_vertex P (Vertex body point) h = h body point refl
on_vertex P (Body shell) h = tt
on_vertex P (Shell body q) h = tt
on_vertex P (Face shell outer) h = tt
on_vertex P (Loop face fins vertex) h = tt
on_vertex P (Fin mate edge vertex) h = tt
on_vertex P (Edge body) h = tt
on_vertex P (Attr owner name value) h = tt

on_face : (P : Tag → Tag → Type 0) (x : Item) → ((shell outer : Tag) → x ≡ Face shell outer → P shell outer) → OnFace P x
on_face P (Face shell outer) h = h shell outer refl
on_face P (Body shell) h = tt
on_face P (Shell body q) h = tt
on_face P (Loop face fins vertex) h = tt
on_face P (Fin mate edge vertex) h = tt
on_face P (Edge body) h = tt
on_face P (Vertex body point) h = tt
on_face P (Attr owner name value) h = tt

on_loop : (P : Tag → List Tag → Option Tag → Type 0) (x : Item) → ((face : Tag) (fins : List Tag) (vertex : Option Tag) → x ≡ Loop face fins vertex → P face fins vertex) → OnLoop P x
on_loop P (Loop face fins vertex) h = h face fins vertex refl
on_loop P (Body shell) h = tt
on_loop P (Shell body q) h = tt
on_loop P (Face shell outer) h = tt
on_loop P (Fin mate edge vertex) h = tt
on_loop P (Edge body) h = tt
on_loop P (Vertex body point) h = tt
on_loop P (Attr owner name value) h = tt

module _ {S R : Shape} {xs : Items} {killed : List Tag} (ed : Edits S R xs killed) where
  pub each-fin : (P : Tag → Tag → Tag → Tag → Type 0) → AllByRecursion (λ (y : Tag × Item). OnFin (P y.0) y.1) xs
      → ((t mate edge vertex : Tag) → IsFin S t mate edge vertex → P t mate edge vertex) → (t mate edge vertex : Tag) → IsFin R t mate edge vertex → P t mate edge vertex
  each-fin P new old t mate edge vertex is = edits-each ed (λ t x. OnFin (P t) x) new
      (λ t x e none. on_fin (P t) x (λ mate edge vertex h. old t mate edge vertex (e ∙ ap Some h))) t (Fin mate edge vertex) is

  pub each-edge : (P : Tag → Tag → Type 0) → AllByRecursion (λ (y : Tag × Item). OnEdge (P y.0) y.1) xs
      → ((t body : Tag) → item_at S t ≡ Some (Edge body) → P t body) → (t body : Tag) → item_at R t ≡ Some (Edge body) → P t body
  each-edge P new old t body is = edits-each ed (λ t x. OnEdge (P t) x) new
      (λ t x e none. on_edge (P t) x (λ body h. old t body (e ∙ ap Some h))) t (Edge body) is

  pub each-vertex : (P : Tag → Tag → Point → Type 0) → AllByRecursion (λ (y : Tag × Item). OnVertex (P y.0) y.1) xs
      → ((t body : Tag) (point : Point) → item_at S t ≡ Some (Vertex body point) → P t body point) → (t body : Tag) (point : Point) → item_at R t ≡ Some (Vertex body point) → P t body point
  each-vertex P new old t body point is = edits-each ed (λ t x. OnVertex (P t) x) new
      (λ t x e none. on_vertex (P t) x (λ body point h. old t body point (e ∙ ap Some h))) t (Vertex body point) is

  pub each-face : (P : Tag → Tag → Tag → Type 0) → AllByRecursion (λ (y : Tag × Item). OnFace (P y.0) y.1) xs
      → ((t shell outer : Tag) → item_at S t ≡ Some (Face shell outer) → P t shell outer) → (t shell outer : Tag) → item_at R t ≡ Some (Face shell outer) → P t shell outer
  each-face P new old t shell outer is = edits-each ed (λ t x. OnFace (P t) x) new
      (λ t x e none. on_face (P t) x (λ shell outer h. old t shell outer (e ∙ ap Some h))) t (Face shell outer) is

  pub each-loop : (P : Tag → Tag → List Tag → Option Tag → Type 0) → AllByRecursion (λ (y : Tag × Item). OnLoop (P y.0) y.1) xs
      → ((t face : Tag) (fins : List Tag) (vertex : Option Tag) → item_at S t ≡ Some (Loop face fins vertex) → P t face fins vertex)
      → (t face : Tag) (fins : List Tag) (vertex : Option Tag) → item_at R t ≡ Some (Loop face fins vertex) → P t face fins vertex
  each-loop P new old t face fins vertex is = edits-each ed (λ t x. OnLoop (P t) x) new
      (λ t x e none. on_loop (P t) x (λ face fins vertex h. old t face fins vertex (e ∙ ap Some h))) t (Loop face fins vertex) is

  -- bodies, shells and attributes were
  pub outside-was : AllByRecursion (λ (y : Tag × Item). is_outside y.1 ≡ false) xs → (t : Tag) (x : Item) → item_at R t ≡ Some x → is_outside x ≡ true → item_at S t ≡ Some x
  outside-was new = edits-each ed (λ t x. is_outside x ≡ true → item_at S t ≡ Some x)
      (ByRecursion-weaker (λ (y : Tag × Item). is_outside y.1 ≡ false) (λ (y : Tag × Item). is_outside y.1 ≡ true → item_at S y.0 ≡ Some y.1) (λ y h k. absurd (true≢false (sym k ∙ h))) xs new)
      (λ t x e none h. e)
