-- The first sum that is out of range is that of the least vertex that has one.
use Rattle.std.proofs.Common.{◌≡◌, ◌<◌, ⊎_elim, Bool, true, false, cond, List, [], ◌∷◌, Option, Some, None, refl, sym, ap, subst, ◌∙◌, arith}
use Rattle.std.specs.Prelude.{T, ℤ, ◌==◌, find, not, nat_lt, is_some, Contains}
use Rattle.std.specs.Option.{option_or}
use Rattle.std.specs.List.{AllByRecursion, flat_map, cons_option}
use Rattle.std.specs.Ordering.{is_lt}
use Rattle.std.specs.declared.cmp.Ordering.TheVariants.{Less, Equal, Greater}
use Rattle.std.specs.FinMap.{get, is_sorted}
use Rattle.std.specs.FinMap.Entries.{below_all}
use Rattle.std.proofs.lemmas.Bool.{cases_Bool, ltb-true}
use Rattle.std.proofs.lemmas.List.Folds.{find-append}
use Rattle.pk_base.specs.Entity.{same_tag}
use Rattle.pk_base.specs.declared.tag.Tag.{Tag}
use Rattle.pk_base.specs.declared.entity.Point.{Point}
use Rattle.pk_base.specs.declared.entity.Triple.{Triple}
use Rattle.pk_base.specs.declared.entity.Entity.TheVariants as entity
use Rattle.pk_base.proofs.Same.{same_itself, same_means}
use Rattle.pk_model.specs.Maps.{EntityMap, tag_cmp}
use Rattle.list_facts.proofs.Each.{ByRecursion-at}
use Rattle.list_facts.proofs.Elements.{not_in_nil, Contains-cases, Contains-first, Contains-later}
use Rattle.solid_model.specs.Items.{Item, Shape}
use Rattle.solid_model.specs.Items.Item.{Body, Shell, Face, Loop, Fin, Edge, Vertex, Attr}
use Rattle.pk_plane.specs.Turns.{moved}
use Rattle.solid_model.specs.Motions.{point_in, points_of}
use Rattle.solid_model.specs.Ranges.{coordinates_of, is_coordinate}
use Rattle.solid_model.specs.Shapes.{shape_of}
use Rattle.solid_model.specs.Sound.{IsSound}
use Rattle.solid_model.proofs.lists.Neighbours.{both_parts}
use Rattle.solid_places.proofs.Read.{entity-of, item-of}
use Rattle.solid_sound.proofs.rows.RowKeeps.{well-shape}
use Rattle.solid_sound.proofs.shapes.Found.{among-item, item-among}
use Rattle.solid_calls.proofs.Represented.{below_all-less}
use Rattle.solid_motion.specs.declared.vertices.Wanted.TheVariants.{Outside}
use Rattle.solid_motion.specs.Vertices.{IsLeastWanted}

-- ---- the first in a list of points

module _ (p : ℤ → Bool) (f : Point → List ℤ) where
  pub found-first : (q : Point) (ps : List Point) (v : ℤ) → find p (f q) ≡ Some v → find p (flat_map f (q ∷ ps)) ≡ Some v
  found-first q ps v h = find-append p (f q) (flat_map f ps) ∙ ap (λ o. option_or o (find p (flat_map f ps))) h

  pub found-later : (q : Point) (ps : List Point) → find p (f q) ≡ None → find p (flat_map f (q ∷ ps)) ≡ find p (flat_map f ps)
  found-later q ps h = find-append p (f q) (flat_map f ps) ∙ ap (λ o. option_or o (find p (flat_map f ps))) h

  -- an item that adds nothing
  pub passed : (b : Tag) (x : Item) (ps : List Point) → ((q : Point) → x ≡ Vertex b q → find p (f q) ≡ None) → find p (flat_map f (cons_option (point_in b x) ps)) ≡ find p (flat_map f ps)
  passed b (Body shell) ps h = refl
  passed b (Shell body q) ps h = refl
  passed b (Face shell outer) ps h = refl
  passed b (Loop face fins vertex) ps h = refl
  passed b (Fin mate edge vertex) ps h = refl
  passed b (Edge body) ps h = refl
  passed b (Attr owner name value) ps h = refl
  passed b (Vertex body q) ps h =
      ⊎_elim {C = find p (flat_map f (cons_option (point_in b (Vertex body q)) ps)) ≡ find p (flat_map f ps)}
      (λ (same : same_tag body b ≡ true).
      ap (λ c. find p (flat_map f (cons_option (cond c (Some q) None) ps))) same ∙ found-later q ps (h q (ap (λ u. Vertex u q) (same_means body b same))))
      (λ (other : same_tag body b ≡ false). ap (λ c. find p (flat_map f (cons_option (cond c (Some q) None) ps))) other)
      (cases_Bool (same_tag body b))

  pub none-found : (b : Tag) (S : Shape) → ((u : Tag) (q : Point) → Contains S (u, Vertex b q) → find p (f q) ≡ None) → find p (flat_map f (points_of S b)) ≡ None
  none-found b [] h = refl
  none-found b (x ∷ S) h =
      passed b x.1 (points_of S b) (λ q e. h x.0 q (subst (λ y. Contains (x ∷ S) (x.0, y)) e (Contains-first x S)))
      ∙ none-found b S (λ u q k. h u q (Contains-later x S (u, Vertex b q) k))

  pub least-found : (b : Tag) (S : Shape) → T (is_sorted tag_cmp S) → (t : Tag) (at : Point) (v : ℤ) → Contains S (t, Vertex b at) → find p (f at) ≡ Some v
      → ((u : Tag) (q : Point) → Contains S (u, Vertex b q) → u.0 < t.0 → find p (f q) ≡ None) → find p (flat_map f (points_of S b)) ≡ Some v
  least-found b [] sorted t at v among here before = absurd (not_in_nil (t, Vertex b at) among)
  least-found b (x ∷ S) sorted t at v among here before =
      let both = both_parts (below_all tag_cmp x.0 S) (is_sorted tag_cmp S) sorted in
      ⊎_elim {C = find p (flat_map f (points_of (x ∷ S) b)) ≡ Some v}
      (λ (first : x ≡ (t, Vertex b at)).
      let point : point_in b x.1 ≡ Some at = ap (λ (y : Tag × Item). point_in b y.1) first ∙ ap (λ (c : Bool). cond c (Some at) None) (same_itself b) in
      ap (λ o. find p (flat_map f (cons_option o (points_of S b)))) point ∙ found-first at (points_of S b) v here)
      (λ (later : Contains S (t, Vertex b at)).
      let less : x.0.0 < t.0 = ByRecursion-at (λ (z : Tag × Item). x.0.0 < z.0.0) S (t, Vertex b at) (below_all-less x.0 S both.0) later in
      passed b x.1 (points_of S b) (λ q e. before x.0 q (subst (λ y. Contains (x ∷ S) (x.0, y)) e (Contains-first x S)) less)
      ∙ least-found b S both.1 t at v later here (λ u q k l. before u q (Contains-later x S (u, Vertex b q) k) l))
      (Contains-cases x S (t, Vertex b at) among)

-- ---- in a map

abbrev past : Triple → Point → Option ℤ
past by p = find (λ v. not (is_coordinate v)) (coordinates_of (moved by p))

none_or_true : (o : Option ℤ) → (is_some o ≡ true → ⊥) → o ≡ None
none_or_true None h = refl
none_or_true (Some v) h = absurd (h refl)

some_by : (o : Option ℤ) → is_some o ≡ true → (v : ℤ) × (o ≡ Some v)
some_by None h = absurd (cc)
some_by (Some v) h = (v, refl)

module _ (m : EntityMap) (s : IsSound m) (b : Tag) (by : Triple) where
  live_vertex : (u : Tag) (q : Point) → Contains (shape_of m) (u, Vertex b q) → get m u ≡ Some (entity.Vertex b q)
  live_vertex u q k = entity-of m s u (Vertex b q) (among-item (shape_of m) (well-shape m s).written.ascends u (Vertex b q) k)

  pub none-outside : IsLeastWanted m b (Outside by) None → find (λ v. not (is_coordinate v)) (flat_map (λ p. coordinates_of (moved by p)) (points_of (shape_of m) b)) ≡ None
  none-outside none = none-found (λ v. not (is_coordinate v)) (λ p. coordinates_of (moved by p)) b (shape_of m)
      (λ u q k. none_or_true (past by q) (λ is. none u q (record { live = live_vertex u q k; wanted = is })))

  pub first-outside : (t : Tag) (p : Point) → IsLeastWanted m b (Outside by) (Some (t, p)) → past by p ≡ find (λ v. not (is_coordinate v)) (flat_map (λ p. coordinates_of (moved by p)) (points_of (shape_of m) b))
  first-outside t p least =
      let v = some_by (past by p) least.0.wanted in
      v.1 ∙ sym (least-found (λ v. not (is_coordinate v)) (λ p. coordinates_of (moved by p)) b (shape_of m) (well-shape m s).written.ascends t p v.0
      (item-among (shape_of m) t (Vertex b p) (item-of m t (entity.Vertex b p) least.0.live)) v.1
      (λ u q k less. none_or_true (past by q) (λ is.
      let le = least.1 u q (record { live = live_vertex u q k; wanted = is }) in
      omega (arith, le, less))))
