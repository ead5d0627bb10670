-- The new face of a lamina: what stands there, and that it can be raised.
use Rattle.std.proofs.Common.{◌≡◌, ℕ, suc, ◌+◌, ◌*◌, ◌≤◌, List, [], ◌∷◌, length, take, drop, Option, Some, None, Ok, refl, sym, ap, subst, ◌∙◌, arith}
use Rattle.std.specs.Prelude.{ℤ, pos, ◌+ℤ◌, map, IsTrue, Contains}
use Rattle.std.specs.Option.{option_map_or}
use Rattle.std.specs.List.{AllByRecursion}
use Rattle.std.proofs.lemmas.Int.{ints}
use Rattle.std.proofs.lemmas.List.{drop-drop, get_or-drop}
use Rattle.pk_base.specs.Blocks.{tag}
use Rattle.pk_base.specs.declared.tag.Tag.{Tag}
use Rattle.pk_base.specs.declared.entity.Pair.{Pair}
use Rattle.pk_base.specs.declared.entity.Point.{Point}
use Rattle.pk_model.specs.Tags.{TagsAscend, tag_at}
use Rattle.solid_model.specs.Items.{Item, Shape, item_at, ◌with◌}
use Rattle.solid_model.specs.Items.Item.{Face, Loop}
use Rattle.solid_model.specs.Owners.{fins_of, owner_in}
use Rattle.solid_model.specs.Places.{as_face, asked, face_at, fins_at, outer_at, outer_of, point_at, point_of_vertex, start_at, the_origin, vertex_of}
use Rattle.solid_model.specs.Ranges.{is_coordinate, coordinates_of}
use Rattle.solid_model.specs.Newell.{starts_of}
use Rattle.solid_model.specs.Prism.{upwards}
use Rattle.pk_plane.specs.Turns.{moved}
use Rattle.solid_sound.proofs.shapes.Reading.{fin_in, vertex_of_class}
use Rattle.list_facts.proofs.Each.{ByRecursion-at, ByRecursion-contains, ByRecursion-map}
use Rattle.list_facts.proofs.Elements.{Contains-take}
use Rattle.solid_model.specs.Folds.{Progress, after_row, after_path}
use Rattle.solid_model.specs.Lamina.{after_lamina, at_height}
use Rattle.solid_model.specs.Mvfs.{mvfs}
use Rattle.solid_model.specs.Mef.{mef}
use Rattle.solid_sound.proofs.rows.Asked.{free_at}
use Rattle.solid_sound.proofs.rows.RowKeeps.{IsWell}
use Rattle.solid_sound.proofs.rows.Progress.{start, left-ascend, left-enough, left-free}
use Rattle.solid_sound.proofs.edges.Chains.{face-fins}
use Rattle.solid_make.specs.Making.{AreInReach}
use Rattle.solid_make.proofs.Rows.{cut_items}
use Rattle.solid_make.proofs.Own.{IsOwn, own-mef, place-in}
use Rattle.solid_make.proofs.Path.{IsAlong, along-cut, along-path, along-start, cut-row, ring, corner, out}

-- S is the shape at the beginning, these are the tags that there were, and q has a lamina of n corners.
pub record Upper (S : Shape) (tags : List Tag) (z : ℤ) (n : ℕ) (q : Progress) : Type 0 where
  pub left : q.tags ≡ drop (4 * n + 6) tags
  pub own : IsOwn S tags (4 * n + 6) z q.shape
  pub shell : Tag
  pub outer : Tag
  pub face_is : item_at q.shape (tag_at tags (4 * n + 1)) ≡ Some (Face shell outer)
  pub many : length (fins_at q.shape (outer_at q.shape (tag_at tags (4 * n + 1)))) ≡ n

module _ (S : Shape) (tags : List Tag) (well : IsWell S) (ascend : TagsAscend tags) (free : AllByRecursion (λ t. item_at S t ≡ None) tags) where
  upper_cut : (z : ℤ) (i : ℕ) (t : Tag) (p : Progress) → IsAlong S tags z (suc i) t p → 5 + 4 * suc i + 5 ≤ length tags → Upper S tags z (i + 2) (after_row (mef p.shape (out S tags) t) p)
  upper_cut z i t p a enough =
      let n = 5 + 4 * suc i in
      let q = after_row (mef p.shape (out S tags) t) p in
      let c = along-cut S tags ascend free z i t p a in
      let long = left-enough S tags ascend free n 5 p a.began enough in
      let up = left-ascend S tags ascend free n p a.began in
      let none_live = left-free S tags ascend free n p a.began in
      let is : q ≡ record { shape = p.shape with cut_items t c.u c.v p.tags; tags = drop 5 p.tags } = ap (λ r. after_row r p) (cut-row S tags ascend free p.shape (ring S tags) (out S tags) t c) in
      let l_new : item_at S c.u.loop_ ≡ None = ap (item_at S) c.u_in ∙ free_at S tags 3 free (omega (arith, enough)) in
      let made = own-mef S tags p.shape p.tags n z a.left a.began.well up none_live a.own (out S tags) t c.u c.v c.u_found c.v_found (free_at S tags 7 free (omega (arith, enough))) a.new l_new enough long in
      let count : n + 5 ≡ 4 * (i + 2) + 6 = omega arith in
      let place : n + 0 ≡ 4 * (i + 2) + 1 = omega arith in
      let face : tag_at p.tags 0 ≡ tag_at tags (4 * (i + 2) + 1) = ap (λ ts. tag_at ts 0) a.left ∙ get_or-drop n tags 0 (tag 0) ∙ ap (tag_at tags) place in
      let many = face-fins p.shape p.tags a.began.well up none_live (ring S tags) (out S tags) (corner S tags) i t p.tags a.end long in
      record {
        left = ap (λ (r : Progress). r.tags) is ∙ ap (drop 5) a.left ∙ drop-drop 5 n tags ∙ ap (λ m. drop m tags) count;
        own = subst (λ m. IsOwn S tags m z q.shape) count (subst (λ (r : Progress). IsOwn S tags (n + 5) z r.shape) (sym is) made.0);
        shell = c.u.shell;
        outer = tag_at p.tags 1;
        face_is = ap (item_at q.shape) (sym face) ∙ ap (λ (r : Progress). item_at r.shape (tag_at p.tags 0)) is ∙ made.1;
        many = ap (λ f. length (fins_at q.shape (outer_at q.shape f))) (sym face) ∙ many;
      }

  pub upper-made : (z : ℤ) (corners : List Pair) → 3 ≤ length corners → AreInReach z corners → 4 * length corners + 6 ≤ length tags → Upper S tags z (length corners) (after_lamina z corners (start S tags))
  upper-made z [] three reach enough = absurd (omega (arith, three))
  upper-made z (c ∷ []) three reach enough = absurd (omega (arith, three))
  upper-made z (c ∷ d ∷ cs) three reach enough =
      let p = after_row (mvfs S (at_height z c)) (start S tags) in
      let first = along-start S tags ascend free z (at_height z c) well reach.0 refl (omega (arith, enough)) in
      let end = along-path S tags ascend free z (d ∷ cs) 0 (ring S tags) p reach.1 (omega (arith, enough)) first (λ h. absurd (omega (arith, h))) in
      let last = after_path (ring S tags) (map (at_height z) (d ∷ cs)) p in
      let edges : 0 + length (d ∷ cs) ≡ suc (length cs) = omega arith in
      let place : 4 + 4 * (0 + length (d ∷ cs)) ≡ 4 * length (c ∷ d ∷ cs) = omega arith in
      let end_is : end.end ≡ tag_at tags (4 * length (c ∷ d ∷ cs)) = end.place (omega arith) ∙ ap (tag_at tags) place in
      let here : IsAlong S tags z (suc (length cs)) (tag_at tags (4 * length (c ∷ d ∷ cs))) last = subst (λ t. IsAlong S tags z (suc (length cs)) t last) end_is (subst (λ k. IsAlong S tags z k end.end last) edges end.along) in
      let all : length cs + 2 ≡ length (c ∷ d ∷ cs) = omega arith in
      subst (λ n. Upper S tags z n (after_lamina z (c ∷ d ∷ cs) (start S tags))) all (upper_cut z (length cs) (tag_at tags (4 * length (c ∷ d ∷ cs))) last here (omega (arith, enough)))

-- ---- its points, raised

add_none : (x : ℤ) → x +ℤ pos 0 ≡ x
add_none x = omega (arith, ints)

-- q has the lamina. Each corner of the new face stands at the height z.
module _ (S : Shape) (tags : List Tag) (free : AllByRecursion (λ t. item_at S t ≡ None) tags) (z : ℤ) (n : ℕ) (q : Progress) (well : IsWell q.shape) (u : Upper S tags z n q) (enough : 4 * n + 6 ≤ length tags) where
  abbrev R : Shape
  R = q.shape

  abbrev pub made : List Tag
  made = take (4 * n + 6) tags

  abbrev pub face : Tag
  face = tag_at tags (4 * n + 1)

  -- what was made was not there before
  new : (t : Tag) → Contains made t → item_at S t ≡ None
  new t k = ByRecursion-at (λ v. item_at S v ≡ None) tags t free (Contains-take (4 * n + 6) tags t k)

  pub outer-is : outer_at R face ≡ u.outer
  outer-is = ap (λ (o : Option Item). option_map_or outer_of o (tag 0)) u.face_is

  outer_in : Contains made u.outer
  outer_in = u.own face _ u.face_is (new face (place-in tags (4 * n + 6) (4 * n + 1) enough (omega arith)))

  loop : (fins : List Tag) × (vertex : Option Tag) × (item_at R u.outer ≡ Some (Loop face fins vertex))
  loop = well.sound.outer face u.shell u.outer u.face_is

  fins_are : fins_at R (outer_at R face) ≡ loop.0
  fins_are = ap (fins_at R) outer-is ∙ ap (λ (o : Option Item). option_map_or fins_of o []) loop.2

  fins_in : AllByRecursion (Contains made) loop.0
  fins_in = (u.own u.outer _ loop.2 (new u.outer outer_in)).0

  -- the face, its loop and the fins of that
  pub face-found : face_at R face ≡ Ok (record { shell = u.shell; body = owner_in R u.shell; outer = u.outer })
  face-found = ap (asked (as_face R) face) u.face_is

  pub all-made : AllByRecursion (Contains made) (outer_at R face ∷ fins_at R (outer_at R face))
  all-made = (subst (Contains made) (sym outer-is) outer_in, subst (AllByRecursion (Contains made)) (sym fins_are) fins_in)

  abbrev InRange : Point → Type 0
  InRange p = AllByRecursion (λ c. IsTrue (is_coordinate c)) (coordinates_of p)

  module _ (h : ℤ) (top : IsTrue (is_coordinate (z +ℤ h))) where
    rises : (p : Point) → InRange p → p.z ≡ z → InRange (moved (upwards h) p)
    rises p within height = (
      subst (λ (v : ℤ). IsTrue (is_coordinate v)) (sym (add_none p.x)) within.0,
      (subst (λ (v : ℤ). IsTrue (is_coordinate v)) (sym (add_none p.y)) within.1.0, (subst (λ (v : ℤ). IsTrue (is_coordinate (v +ℤ h))) (sym height) top, tt)),
    )

    start_rises : (f : Tag) → Contains loop.0 f → InRange (moved (upwards h) (point_at R (start_at R f)))
    start_rises f k =
        let fin = fin_in R well.written well.sound u.outer face loop.0 loop.1 loop.2 f k in
        let start : start_at R f ≡ fin.2 = ap (λ (o : Option Item). option_map_or vertex_of o (tag 0)) fin.3 in
        let vertex = vertex_of_class (item_at R fin.2) (well.sound.names.kinds f _ fin.3).2.0 in
        let point : point_at R (start_at R f) ≡ vertex.1 = ap (point_at R) start ∙ ap (λ (o : Option Item). option_map_or point_of_vertex o the_origin) vertex.2 in
        let in_made : Contains made fin.2 = u.own f _ fin.3 (new f (ByRecursion-at (Contains made) loop.0 f fins_in k)) in
        let height = u.own fin.2 _ vertex.2 (new fin.2 in_made) in
        subst (λ p. InRange (moved (upwards h) p)) (sym point) (rises vertex.1 (well.sound.measure.points fin.2 vertex.0 vertex.1 vertex.2) height)

    pub starts-rise : AllByRecursion (λ p. InRange (moved (upwards h) p)) (starts_of R (outer_at R face))
    starts-rise =
        let all : AllByRecursion (λ f. InRange (moved (upwards h) (point_at R (start_at R f)))) loop.0 = ByRecursion-contains (λ f. InRange (moved (upwards h) (point_at R (start_at R f)))) loop.0 start_rises in
        subst (λ fs. AllByRecursion (λ p. InRange (moved (upwards h) p)) (map (λ f. point_at R (start_at R f)) fs)) (sym fins_are)
        (ByRecursion-map (λ f. InRange (moved (upwards h) (point_at R (start_at R f)))) (λ p. InRange (moved (upwards h) p)) (λ f. point_at R (start_at R f)) (λ f r. r) loop.0 all)
