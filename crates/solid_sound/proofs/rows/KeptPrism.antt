-- The rows prism and block keep soundness: the new face of a lamina of n corners has n fins, so its sweep takes as
-- many tags as are left for it.
use Rattle.std.proofs.Common.{◌≡◌, ℕ, ◌+◌, ◌*◌, ◌<◌, ◌≤◌, Bool, not, false, List, [], ◌∷◌, length, drop, Some, None, Ok, refl, sym, ap, subst, ◌∙◌, arith}
use Rattle.std.specs.Prelude.{ℤ, pos, ◌+ℤ◌, map, find, cond, option_map, IsTrue, Contains}
use Rattle.std.specs.List.{AllByRecursion, flat_map}
use Rattle.std.proofs.lemmas.List.{drop-drop, get_or-drop, length-map}
use Rattle.pk_base.specs.Blocks.{tag}
use Rattle.pk_base.specs.declared.tag.Tag.{Tag}
use Rattle.pk_base.specs.declared.entity.Pair.{Pair}
use Rattle.pk_base.specs.declared.entity.Triple.{Triple}
use Rattle.pk_base.specs.declared.refusal.Refusal.TheVariants.{OutOfRange}
use Rattle.pk_model.specs.Apart.{NoRepeats}
use Rattle.pk_model.specs.Tags.{TagsAscend, tag_at}
use Rattle.solid_model.specs.Items.{Shape, item_at, ◌with◌}
use Rattle.solid_model.specs.Items.Item.{Body, Shell, Face, Loop, Vertex}
use Rattle.solid_model.specs.Rows.{◌>>◌}
use Rattle.solid_model.specs.Rows.Effect.{Makes}
use Rattle.solid_model.specs.Places.{fins_at, outer_at}
use Rattle.solid_model.specs.Ranges.{is_coordinate, is_size, numbers_of, point_of, refuse_outside}
use Rattle.solid_model.specs.Mvfs.{mvfs}
use Rattle.solid_model.specs.Mev.{mev}
use Rattle.solid_model.specs.Mef.{mef}
use Rattle.solid_model.specs.Folds.{Progress, after_row, after_path}
use Rattle.solid_model.specs.Lamina.{at_height, after_lamina, refuse_count, refuse_corners, refuse_polygon}
use Rattle.solid_model.specs.Prism.{upwards, after_prism, makes_prism, prism, rectangle, block}
use Rattle.list_facts.proofs.Elements.{Contains-first, Contains-later, Contains-flat_map}
use Rattle.list_facts.proofs.Each.{ByRecursion-map, ByRecursion-contains, ByRecursion-at}
use Rattle.solid_sound.proofs.shapes.Lookups.{Items, with-written}
use Rattle.solid_sound.proofs.rows.KeptMotions.{outside-none}
use Rattle.solid_sound.proofs.rows.RowKeeps.{IsWell, Keeps, keeps-after}
use Rattle.solid_sound.proofs.rows.Asked.{apart_at}
use Rattle.solid_sound.proofs.rows.Taken.{TakesOnly, takes-after}
use Rattle.solid_sound.proofs.rows.Progress.{start, Began, began-start, began-more, began-live, began-mvfs, began-mev, began-path, began-sweep, left-ascend, left-free, left-enough}
use Rattle.solid_sound.proofs.edges.Chains.{Chain, chain-first, chain-path, face-fins}
use Rattle.solid_sound.proofs.rows.KeptFolds.{lamina-began}

-- ---- points within the limit

passes : (b : Bool) → IsTrue b → not b ≡ false
passes b h = ap not h

all_pass : (test : ℤ → Bool) (vs : List ℤ) → AllByRecursion (λ v. IsTrue (test v)) vs → find (λ v. not (test v)) vs ≡ None
all_pass test [] h = refl
all_pass test (v ∷ vs) h = ap (λ b. cond b (Some v) (find (λ w. not (test w)) vs)) (passes (test v) h.0) ∙ all_pass test vs h.1

within-none : (test : ℤ → Bool) (vs : List ℤ) → AllByRecursion (λ v. IsTrue (test v)) vs → refuse_outside test vs ≡ None
within-none test vs h = ap (option_map OutOfRange) (all_pass test vs h)

-- mvfs and mev do not refuse these points
abbrev AreWithin : ℤ → List Pair → Type 0
AreWithin z corners = AllByRecursion (λ c. refuse_outside is_coordinate (numbers_of (at_height z c)) ≡ None) corners

corners_within : (z : ℤ) (corners : List Pair) → refuse_outside is_coordinate (z ∷ []) ≡ None → refuse_corners corners ≡ None → AreWithin z corners
corners_within z corners a b =
    let height = (outside-none is_coordinate (z ∷ []) a).0 in
    let all = outside-none is_coordinate (flat_map (λ (c : Pair). c.x ∷ c.y ∷ []) corners) b in
    ByRecursion-contains (λ c. refuse_outside is_coordinate (numbers_of (at_height z c)) ≡ None) corners (λ c k.
    let at = λ (v : ℤ) (h : Contains (c.x ∷ c.y ∷ []) v). ByRecursion-at (λ w. IsTrue (is_coordinate w)) (flat_map (λ (d : Pair). d.x ∷ d.y ∷ []) corners) v all (Contains-flat_map (λ (d : Pair). d.x ∷ d.y ∷ []) corners c v k h) in
    within-none is_coordinate (numbers_of (at_height z c)) (at c.x (Contains-first c.x (c.y ∷ [])), (at c.y (Contains-later c.x (c.y ∷ []) c.y (Contains-first c.y [])), (height, tt))))

rectangle_within : (at size : Triple) → refuse_outside is_coordinate (numbers_of at) ≡ None → refuse_outside is_coordinate ((at.x +ℤ size.x) ∷ (at.y +ℤ size.y) ∷ (at.z +ℤ size.z) ∷ []) ≡ None
    → AreWithin at.z (rectangle at.x at.y size.x size.y)
rectangle_within at size a b =
    let near = outside-none is_coordinate (numbers_of at) a in
    let far = outside-none is_coordinate ((at.x +ℤ size.x) ∷ (at.y +ℤ size.y) ∷ (at.z +ℤ size.z) ∷ []) b in
    let point = λ (x y : ℤ) (h : IsTrue (is_coordinate x)) (k : IsTrue (is_coordinate y)). within-none is_coordinate (x ∷ y ∷ at.z ∷ []) (h, (k, (near.1.1.0, tt))) in
    (point at.x at.y near.0 near.1.0, (point (at.x +ℤ size.x) at.y far.0 near.1.0, (point (at.x +ℤ size.x) (at.y +ℤ size.y) far.0 far.1.0, (point at.x (at.y +ℤ size.y) near.0 far.1.0, tt))))

-- ---- a new body

abbrev body_items : Triple → List Tag → Items
body_items at ts =
    (tag_at ts 0, Body (tag_at ts 1)) ∷
    (tag_at ts 1, Shell (tag_at ts 0) (pos 1)) ∷
    (tag_at ts 2, Face (tag_at ts 1) (tag_at ts 3)) ∷
    (tag_at ts 3, Loop (tag_at ts 2) [] (Some (tag_at ts 4))) ∷
    (tag_at ts 4, Vertex (tag_at ts 0) (point_of at)) ∷ []

mvfs-is : (S : Shape) (at : Triple) → refuse_outside is_coordinate (numbers_of at) ≡ None → mvfs S at ≡ Ok (Makes 5 (λ ts. S with body_items at ts))
mvfs-is S at none = ap (λ o. o >> Ok (Makes 5 (λ ts. S with body_items at ts))) none

-- ---- the new face of a lamina

-- S is the shape at the beginning, and these are the tags that there were.
module _ (S : Shape) (tags : List Tag) (well : IsWell S) (ascend : TagsAscend tags) (free : AllByRecursion (λ t. item_at S t ≡ None) tags) where
  -- the rest of a lamina, once its first vertex was made
  abbrev finish : ℤ → List Pair → ℕ → Progress → Progress
  finish z cs n p =
      let path = after_path (tag_at tags 3) (map (at_height z) cs) p in
      after_row (mef path.shape (tag_at tags 7) (tag_at tags (4 * n))) path

  -- how many fins the outer loop of a face has
  abbrev fins_of_face : Progress → Tag → ℕ
  fins_of_face p face = length (fins_at p.shape (outer_at p.shape face))

  -- The new face of a lamina of n corners has n fins: the edges to the corners are a chain, whose first edge is that to
  -- the second corner, and the last row cuts the fins out off.
  lamina-face : (z : ℤ) (c d : Pair) (cs : List Pair) → AreWithin z (c ∷ d ∷ cs) → 4 * length (c ∷ d ∷ cs) + 6 ≤ length tags
      → fins_of_face (after_lamina z (c ∷ d ∷ cs) (start S tags)) (tag_at tags (4 * length (c ∷ d ∷ cs) + 1)) ≡ length (c ∷ d ∷ cs)
  lamina-face z c d cs within enough =
      let n = length (c ∷ d ∷ cs) in
      let begin = start S tags in
      let V : Progress = record { shape = S with body_items (at_height z c) tags; tags = drop 5 tags } in
      let vertex_is : after_row (mvfs S (at_height z c)) begin ≡ V = ap (λ r. after_row r begin) (mvfs-is S (at_height z c) within.0) in
      let five : Began S tags (0 + 5) V = subst (Began S tags (0 + 5)) vertex_is (began-mvfs S tags ascend free 0 begin (at_height z c) (began-start S tags well) (omega (arith, enough))) in
      let apart = λ (i j : ℕ) (h : i < j) (k : j < 5). apart_at tags i j ascend h (omega (arith, k, enough)) in
      let once : NoRepeats (tag_at tags 0 ∷ tag_at tags 1 ∷ tag_at tags 2 ∷ tag_at tags 3 ∷ tag_at tags 4 ∷ []) = (
        (apart 0 1 (omega arith) (omega arith), (apart 0 2 (omega arith) (omega arith), (apart 0 3 (omega arith) (omega arith), (apart 0 4 (omega arith) (omega arith), tt)))),
        (
          (apart 1 2 (omega arith) (omega arith), (apart 1 3 (omega arith) (omega arith), (apart 1 4 (omega arith) (omega arith), tt))),
          ((apart 2 3 (omega arith) (omega arith), (apart 2 4 (omega arith) (omega arith), tt)), ((apart 3 4 (omega arith) (omega arith), tt), (tt, tt))),
        ),
      ) in
      let l = tag_at tags 3 in
      let v = tag_at tags 4 in
      let loop_is : item_at V.shape l ≡ Some (Loop (tag_at tags 2) [] (Some v)) = with-written S (body_items (at_height z c) tags) _ _ once (3, omega arith, refl) in
      let points = map (at_height z) cs in
      let long : length points ≡ length cs = length-map cs (at_height z) in
      let fits = left-enough S tags ascend free (0 + 5) 4 V five (omega (arith, enough)) in
      let one = chain-first V.shape V.tags five.well (left-ascend S tags ascend free (0 + 5) V five) (left-free S tags ascend free (0 + 5) V five) l (tag_at tags 2) v (at_height z d) loop_is fits within.1.0 in
      let E = after_row (mev V.shape l (at_height z d)) V in
      let nine : Began S tags (0 + 5 + 4) E = began-mev S tags ascend free (0 + 5) V l (at_height z d) five (omega (arith, enough)) in
      let first = tag_at V.tags 2 in
      let rest : AllByRecursion (λ a. refuse_outside is_coordinate (numbers_of a) ≡ None) points =
      ByRecursion-map (λ q. refuse_outside is_coordinate (numbers_of (at_height z q)) ≡ None) (λ a. refuse_outside is_coordinate (numbers_of a) ≡ None) (at_height z) (λ q h. h) cs within.1.1 in
      let back : tag_at V.tags 3 ≡ tag_at tags 8 = get_or-drop 5 tags 3 (tag 0) in
      let left : drop 4 V.tags ≡ drop (8 + 1) tags = drop-drop 4 5 tags in
      let begun : Chain l first v 0 (tag_at V.tags 3) (drop (8 + 1) tags) E = subst (λ ts. Chain l first v 0 (tag_at V.tags 3) ts E) left one in
      let P = after_path (tag_at V.tags 3) points E in
      let all = chain-path S tags ascend free (0 + 5 + 4) points 8 0 l first v (tag_at V.tags 3) E nine (omega (arith, enough, long)) rest back begun in
      let path : Began S tags (0 + 5 + 4 + 4 * length points) P = began-path S tags ascend free (0 + 5 + 4) (tag_at V.tags 3) points E nine (omega (arith, enough, long)) in
      let m = 0 + 5 + 4 + 4 * length points in
      let last = tag_at tags (8 + 4 * length points) in
      let room = left-enough S tags ascend free m 5 P path (omega (arith, enough, long)) in
      let face = face-fins P.shape P.tags path.well (left-ascend S tags ascend free m P path) (left-free S tags ascend free m P path) l first v (0 + length points) last (drop (8 + 4 * length points + 1) tags) all room in
      let first_is : first ≡ tag_at tags 7 = get_or-drop 5 tags 2 (tag 0) in
      let place : 8 + 4 * length points ≡ 4 * n = omega (arith, long) in
      let next : 8 + 4 * length points + 1 + 0 ≡ 4 * n + 1 = omega (arith, long) in
      let face_is : tag_at P.tags 0 ≡ tag_at tags (4 * n + 1) = ap (λ ts. tag_at ts 0) all.tags_are ∙ get_or-drop (8 + 4 * length points + 1) tags 0 (tag 0) ∙ ap (tag_at tags) next in
      let counted : fins_of_face (after_row (mef P.shape (tag_at tags 7) (tag_at tags (4 * n))) P) (tag_at tags (4 * n + 1)) ≡ 0 + length points + 2 =
      (λ i. fins_of_face (after_row (mef P.shape (sym first_is i) (tag_at tags (sym place i))) P) (sym face_is i)) ∙ face in
      ap (λ p. fins_of_face (finish z (d ∷ cs) n p) (tag_at tags (4 * n + 1))) vertex_is ∙ counted ∙ omega (arith, long)

  -- ---- the sweep of it

  prism-began : (z h : ℤ) (c d : Pair) (cs : List Pair) → AreWithin z (c ∷ d ∷ cs) → 13 * length (c ∷ d ∷ cs) + 6 ≤ length tags
      → Began S tags (13 * length (c ∷ d ∷ cs) + 6) (after_prism z h (c ∷ d ∷ cs) (start S tags))
  prism-began z h c d cs within enough =
      let n = length (c ∷ d ∷ cs) in
      let begin = start S tags in
      let few = lamina-face z c d cs within (omega (arith, enough)) in
      began-more S tags (4 * n + 6 + 9 * n) (13 * n + 6) (after_prism z h (c ∷ d ∷ cs) begin) (omega arith)
      (began-sweep S tags ascend free (4 * n + 6) n (tag_at tags (4 * n + 1)) (upwards h) (after_lamina z (c ∷ d ∷ cs) begin) (omega (arith, few))
      (lamina-began S tags well ascend free z (c ∷ d ∷ cs) (omega (arith, enough))) (omega (arith, enough)))

  made-began : (z h : ℤ) (corners : List Pair) → 2 ≤ length corners → AreWithin z corners → 13 * length corners + 6 ≤ length tags
      → Began S tags (13 * length corners + 6) (after_prism z h corners (start S tags))
  made-began z h [] two within enough = absurd (omega (arith, two))
  made-began z h (c ∷ []) two within enough = absurd (omega (arith, two))
  made-began z h (c ∷ d ∷ cs) two within enough = prism-began z h c d cs within enough

  made-keeps : (z h : ℤ) (corners : List Pair) → 2 ≤ length corners → AreWithin z corners → Keeps tags (makes_prism S z h corners)
  made-keeps z h corners two within enough = (made-began z h corners two within enough).well

  made-takes : (z h : ℤ) (corners : List Pair) → 2 ≤ length corners → AreWithin z corners → TakesOnly S tags (makes_prism S z h corners)
  made-takes z h corners two within enough = began-live S tags (13 * length corners + 6) (after_prism z h corners (start S tags)) (made-began z h corners two within enough)

  two_corners : (corners : List Pair) → refuse_count corners ≡ None → 2 ≤ length corners
  two_corners [] h = absurd (cc)
  two_corners (c ∷ []) h = absurd (cc)
  two_corners (c ∷ d ∷ cs) h = omega arith

  -- ---- the rows

  pub prism-keeps : (z h : ℤ) (corners : List Pair) → Keeps tags (prism S z h corners)
  prism-keeps z h corners = keeps-after tags (refuse_count corners) _ (λ a. keeps-after tags (refuse_outside is_coordinate (z ∷ [])) _ (λ b.
      keeps-after tags (refuse_outside is_size (h ∷ [])) _ (λ c. keeps-after tags (refuse_outside is_coordinate ((z +ℤ h) ∷ [])) _ (λ d.
      keeps-after tags (refuse_corners corners) _ (λ e. keeps-after tags (refuse_polygon corners) _ (λ f.
      made-keeps z h corners (two_corners corners a) (corners_within z corners b e)))))))

  pub prism-takes : (z h : ℤ) (corners : List Pair) → TakesOnly S tags (prism S z h corners)
  prism-takes z h corners = takes-after S tags (refuse_count corners) _ (λ a. takes-after S tags (refuse_outside is_coordinate (z ∷ [])) _ (λ b.
      takes-after S tags (refuse_outside is_size (h ∷ [])) _ (λ c. takes-after S tags (refuse_outside is_coordinate ((z +ℤ h) ∷ [])) _ (λ d.
      takes-after S tags (refuse_corners corners) _ (λ e. takes-after S tags (refuse_polygon corners) _ (λ f.
      made-takes z h corners (two_corners corners a) (corners_within z corners b e)))))))

  pub block-keeps : (at size : Triple) → Keeps tags (block S at size)
  block-keeps at size = keeps-after tags (refuse_outside is_coordinate (numbers_of at)) _ (λ a. keeps-after tags (refuse_outside is_size (numbers_of size)) _ (λ b.
      keeps-after tags (refuse_outside is_coordinate ((at.x +ℤ size.x) ∷ (at.y +ℤ size.y) ∷ (at.z +ℤ size.z) ∷ [])) _ (λ c.
      made-keeps at.z size.z (rectangle at.x at.y size.x size.y) (omega arith) (rectangle_within at size a c))))

  pub block-takes : (at size : Triple) → TakesOnly S tags (block S at size)
  block-takes at size = takes-after S tags (refuse_outside is_coordinate (numbers_of at)) _ (λ a. takes-after S tags (refuse_outside is_size (numbers_of size)) _ (λ b.
      takes-after S tags (refuse_outside is_coordinate ((at.x +ℤ size.x) ∷ (at.y +ℤ size.y) ∷ (at.z +ℤ size.z) ∷ [])) _ (λ c.
      made-takes at.z size.z (rectangle at.x at.y size.x size.y) (omega arith) (rectangle_within at size a c))))
