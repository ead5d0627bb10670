-- The loops and faces of a lamina and a prism that are new, and that each such face has one loop.
use Rattle.std.proofs.Common.{◌≡◌, ◌≢◌, ℕ, ◌+◌, ◌*◌, ◌<◌, ◌≤◌, ◌⊎◌, ⊎_elim, List, length, take, Option, Some, None, sym, ap, ◌∙◌, arith}
use Rattle.std.specs.Prelude.{is_some, option_map, IsSome, Contains}
use Rattle.std.specs.List.{AllByRecursion}
use Rattle.std.proofs.lemmas.Bool.{true≢false}
use Rattle.pk_base.specs.declared.tag.Tag.{Tag}
use Rattle.pk_base.specs.declared.entity.Class.TheVariants as class
use Rattle.pk_model.specs.Tags.{TagsAscend, tag_at}
use Rattle.solid_model.specs.Items.{Item, Shape, item_at, class_of_item}
use Rattle.solid_model.specs.Items.Item.{Face, Loop}
use Rattle.solid_model.specs.Rings.{ring_of}
use Rattle.solid_model.specs.Sound.{IsSoundShape, class_at}
use Rattle.solid_sound.proofs.shapes.Found.{none_or_some}
use Rattle.solid_sound.proofs.rows.Asked.{apart_at, free_at}
use Rattle.solid_forms.specs.Reached.{AllStays, MadeOf}
use Rattle.solid_forms.specs.LaminaForm.{corner_place, LaminaParts}
use Rattle.solid_forms.specs.SweepForm.{SweepSides, SweepParts, new_vertex}
use Rattle.solid_forms.proofs.NewPlaces.{Bone, bone-no_loop, bone-no_face, LaminaPlace, lamina-place, SweepPlace, sweep-place}
use Rattle.solid_forms.proofs.NewPlaces.LaminaPlace.{OfBone, OfLower, OfLowerLoop, OfUpper, OfUpperLoop}
use Rattle.solid_forms.proofs.NewPlaces.SweepPlace.{AtBone, AtSide, AtSideLoop}
use Rattle.solid_forms.proofs.PlaneFaces.{OnlyLoop}
use Rattle.solid_forms.proofs.InOrder.{less_or_more}

-- ---- what is new

-- a loop of a face that did not stand is new
pub loop-new : (S R : Shape) (tags : List Tag) (k : ℕ) → IsSoundShape S → AllStays S R → MadeOf S k tags R → (q g : Tag) (fins : List Tag) (vertex : Option Tag) → item_at S g ≡ None → item_at R q ≡ Some (Loop g fins vertex)
    → Contains (take k tags) q
loop-new S R tags k sound stays made q g fins vertex none is =
    ⊎_elim
    (λ (l : IsSome (item_at S q)). ⊎_elim
    (λ (n : item_at S q ≡ None). absurd (true≢false (sym l ∙ ap is_some n)))
    (λ (x : (y : Item) × (item_at S q ≡ Some y)).
    let both : Some x.0 ≡ Some (Loop g fins vertex) = sym (stays q x.0 x.1) ∙ is in
    let was : item_at S q ≡ Some (Loop g fins vertex) = x.1 ∙ both in
    let live : class_at S g ≡ Some class.Face = (sound.names.kinds q (Loop g fins vertex) was).0.0 in
    let dead : class_at S g ≡ None = ap (option_map class_of_item) none in
    absurd (let b : Some class.Face ≡ None = sym live ∙ dead in cc))
    (none_or_some (item_at S q)))
    (λ (r : Contains (take k tags) q). r)
    (made q (ap is_some is))

-- a face that did not stand is new
pub face-new : (S R : Shape) (tags : List Tag) (k : ℕ) → MadeOf S k tags R → (f shell outer : Tag) → item_at S f ≡ None → item_at R f ≡ Some (Face shell outer) → Contains (take k tags) f
face-new S R tags k made f shell outer none is =
    ⊎_elim (λ (l : IsSome (item_at S f)). absurd (true≢false (sym l ∙ ap is_some none))) (λ (r : Contains (take k tags) f). r) (made f (ap is_some is))

-- A new loop of a prism of n corners and m sides, and its face.
pub data NewLoop (tags : List Tag) (n m : ℕ) (q g : Tag) : Type 0 where
  LoopBelow : q ≡ tag_at tags 3 → g ≡ tag_at tags 2 → NewLoop tags n m q g
  LoopAbove : q ≡ tag_at tags (4 * n + 2) → g ≡ tag_at tags (4 * n + 1) → NewLoop tags n m q g
  LoopAside : (j : ℕ) → j < m → q ≡ tag_at tags (4 * n + 6 + (4 * m + 5 * j + 1)) → g ≡ tag_at tags (4 * n + 6 + (4 * m + 5 * j)) → NewLoop tags n m q g

pub data NewFace (tags : List Tag) (n m : ℕ) (f : Tag) : Type 0 where
  FaceBelow : f ≡ tag_at tags 2 → NewFace tags n m f
  FaceAbove : f ≡ tag_at tags (4 * n + 1) → NewFace tags n m f
  FaceAside : (j : ℕ) → j < m → f ≡ tag_at tags (4 * n + 6 + (4 * m + 5 * j)) → NewFace tags n m f

-- ---- by the places

face_of_loop : (R : Shape) (l face g : Tag) (list fins : List Tag) (own vertex : Option Tag) → item_at R l ≡ Some (Loop face list own) → item_at R l ≡ Some (Loop g fins vertex) → g ≡ face
face_of_loop R l face g list fins own vertex a b = let both : Some (Loop face list own) ≡ Some (Loop g fins vertex) = sym a ∙ b in cc

no_both : (R : Shape) (t shell outer g : Tag) (fins : List Tag) (vertex : Option Tag) → item_at R t ≡ Some (Face shell outer) → item_at R t ≡ Some (Loop g fins vertex) → ⊥
no_both R t shell outer g fins vertex a b = let both : Some (Face shell outer) ≡ Some (Loop g fins vertex) = sym a ∙ b in absurd {A = ⊥} (cc)

-- The lower and the upper face of a lamina, of which these are the lists.
pub record Lids (R : Shape) (tags : List Tag) (n : ℕ) (A B : List Tag) : Type 0 where
  pub parts : LaminaParts R tags n
  pub vertices : (i : ℕ) → i < n → Bone R (tag_at tags (corner_place i))
  pub lower : item_at R (tag_at tags 2) ≡ Some (Face (tag_at tags 1) (tag_at tags 3))
  pub lower_list : item_at R (tag_at tags 3) ≡ Some (ring_of (tag_at tags 2) A)
  pub upper : item_at R (tag_at tags (4 * n + 1)) ≡ Some (Face (tag_at tags 1) (tag_at tags (4 * n + 2)))
  pub upper_list : item_at R (tag_at tags (4 * n + 2)) ≡ Some (ring_of (tag_at tags (4 * n + 1)) B)

module _ (R : Shape) (tags : List Tag) (n : ℕ) (A B : List Tag) (lids : Lids R tags n A B) (m : ℕ) where
  loop_at_place : (k : ℕ) (q g : Tag) (fins : List Tag) (vertex : Option Tag) → LaminaPlace R tags n k → tag_at tags k ≡ q → item_at R q ≡ Some (Loop g fins vertex) → NewLoop tags n m q g
  loop_at_place k q g fins vertex (OfBone b) e is = absurd (bone-no_loop R (tag_at tags k) g fins vertex b (ap (item_at R) e ∙ is))
  loop_at_place k q g fins vertex (OfLower p) e is = absurd (no_both R (tag_at tags 2) _ _ g fins vertex lids.lower (ap (item_at R) (ap (tag_at tags) (sym p) ∙ e) ∙ is))
  loop_at_place k q g fins vertex (OfLowerLoop p) e is = LoopBelow (sym e ∙ ap (tag_at tags) p) (face_of_loop R (tag_at tags 3) _ g _ fins _ vertex lids.lower_list (ap (item_at R) (ap (tag_at tags) (sym p) ∙ e) ∙ is))
  loop_at_place k q g fins vertex (OfUpper p) e is = absurd (no_both R (tag_at tags (4 * n + 1)) _ _ g fins vertex lids.upper (ap (item_at R) (ap (tag_at tags) (sym p) ∙ e) ∙ is))
  loop_at_place k q g fins vertex (OfUpperLoop p) e is = LoopAbove (sym e ∙ ap (tag_at tags) p) (face_of_loop R (tag_at tags (4 * n + 2)) _ g _ fins _ vertex lids.upper_list (ap (item_at R) (ap (tag_at tags) (sym p) ∙ e) ∙ is))

  pub lid-loop : (k : ℕ) (q g : Tag) (fins : List Tag) (vertex : Option Tag) → 1 ≤ n → k < 4 * n + 6 → tag_at tags k ≡ q → item_at R q ≡ Some (Loop g fins vertex) → NewLoop tags n m q g
  lid-loop k q g fins vertex some below e is = loop_at_place k q g fins vertex (lamina-place R tags n lids.parts lids.vertices k some below) e is

  face_at_place : (k : ℕ) (f shell outer : Tag) → LaminaPlace R tags n k → tag_at tags k ≡ f → item_at R f ≡ Some (Face shell outer) → NewFace tags n m f
  face_at_place k f shell outer (OfBone b) e is = absurd (bone-no_face R (tag_at tags k) shell outer b (ap (item_at R) e ∙ is))
  face_at_place k f shell outer (OfLower p) e is = FaceBelow (sym e ∙ ap (tag_at tags) p)
  face_at_place k f shell outer (OfLowerLoop p) e is = absurd (no_both R (tag_at tags 3) shell outer _ _ _ (ap (item_at R) (ap (tag_at tags) (sym p) ∙ e) ∙ is) lids.lower_list)
  face_at_place k f shell outer (OfUpper p) e is = FaceAbove (sym e ∙ ap (tag_at tags) p)
  face_at_place k f shell outer (OfUpperLoop p) e is = absurd (no_both R (tag_at tags (4 * n + 2)) shell outer _ _ _ (ap (item_at R) (ap (tag_at tags) (sym p) ∙ e) ∙ is) lids.upper_list)

  pub lid-face : (k : ℕ) (f shell outer : Tag) → 1 ≤ n → k < 4 * n + 6 → tag_at tags k ≡ f → item_at R f ≡ Some (Face shell outer) → NewFace tags n m f
  lid-face k f shell outer some below e is = face_at_place k f shell outer (lamina-place R tags n lids.parts lids.vertices k some below) e is

-- ---- by the places of a sweep

pub record SideLoop (tags : List Tag) (m : ℕ) (q g : Tag) : Type 0 where
  pub side : ℕ
  pub less : side < m
  pub loop_is : q ≡ tag_at tags (4 * m + 5 * side + 1)
  pub face_is : g ≡ tag_at tags (4 * m + 5 * side)

pub record SideFace (tags : List Tag) (m : ℕ) (f : Tag) : Type 0 where
  pub side : ℕ
  pub less : side < m
  pub face_is : f ≡ tag_at tags (4 * m + 5 * side)

module _ (S R : Shape) (tags : List Tag) (b shell : Tag) (fins : List Tag) (parts : SweepParts S R tags b fins) (vertices : (i : ℕ) → i < length fins → Bone R (new_vertex tags i)) (sides : SweepSides R tags shell fins) where
  side_at_place : (k : ℕ) (q g : Tag) (list : List Tag) (vertex : Option Tag) → SweepPlace R tags (length fins) k → tag_at tags k ≡ q → item_at R q ≡ Some (Loop g list vertex) → SideLoop tags (length fins) q g
  side_at_place k q g list vertex (AtBone x) e is = absurd (bone-no_loop R (tag_at tags k) g list vertex x (ap (item_at R) e ∙ is))
  side_at_place k q g list vertex (AtSide j less p) e is = absurd (no_both R (tag_at tags (4 * length fins + 5 * j)) _ _ g list vertex (sides.faces j less) (ap (item_at R) (ap (tag_at tags) (sym p) ∙ e) ∙ is))
  side_at_place k q g list vertex (AtSideLoop j less p) e is = record {
    side = j;
    less = less;
    loop_is = sym e ∙ ap (tag_at tags) p;
    face_is = face_of_loop R (tag_at tags (4 * length fins + 5 * j + 1)) _ g _ list _ vertex (sides.lists j less) (ap (item_at R) (ap (tag_at tags) (sym p) ∙ e) ∙ is);
  }

  pub side-loop : (k : ℕ) (q g : Tag) (list : List Tag) (vertex : Option Tag) → k < 9 * length fins → tag_at tags k ≡ q → item_at R q ≡ Some (Loop g list vertex) → SideLoop tags (length fins) q g
  side-loop k q g list vertex below e is = side_at_place k q g list vertex (sweep-place S R tags b fins parts vertices k below) e is

  side_face_at_place : (k : ℕ) (f s o : Tag) → SweepPlace R tags (length fins) k → tag_at tags k ≡ f → item_at R f ≡ Some (Face s o) → SideFace tags (length fins) f
  side_face_at_place k f s o (AtBone x) e is = absurd (bone-no_face R (tag_at tags k) s o x (ap (item_at R) e ∙ is))
  side_face_at_place k f s o (AtSide j less p) e is = record { side = j; less = less; face_is = sym e ∙ ap (tag_at tags) p }
  side_face_at_place k f s o (AtSideLoop j less p) e is = absurd (no_both R (tag_at tags (4 * length fins + 5 * j + 1)) s o _ _ _ (ap (item_at R) (ap (tag_at tags) (sym p) ∙ e) ∙ is) (sides.lists j less))

  pub side-face : (k : ℕ) (f s o : Tag) → k < 9 * length fins → tag_at tags k ≡ f → item_at R f ≡ Some (Face s o) → SideFace tags (length fins) f
  side-face k f s o below e is = side_face_at_place k f s o (sweep-place S R tags b fins parts vertices k below) e is

-- ---- each new face has one loop

-- the loops of new faces are those of a prism of n corners and m sides
abbrev pub LoopsAreNew : Shape → Shape → List Tag → ℕ → ℕ → Type 0
LoopsAreNew S R tags n m = (q g : Tag) (fins : List Tag) (vertex : Option Tag) → item_at S g ≡ None → item_at R q ≡ Some (Loop g fins vertex) → NewLoop tags n m q g

module _ (S R : Shape) (tags : List Tag) (n m : ℕ) (ascend : TagsAscend tags) (free : AllByRecursion (λ t. item_at S t ≡ None) tags) (enough : 4 * n + 6 + 9 * m ≤ length tags) (some : 1 ≤ n)
    (loops : LoopsAreNew S R tags n m) where
  abbrev T : ℕ → Tag
  T i = tag_at tags i

  differ : (i j : ℕ) → i < j → j < 4 * n + 6 + 9 * m → T i ≢ T j
  differ i j h k = apart_at tags i j ascend h (omega (arith, k, enough))

  was_none : (i : ℕ) → i < 4 * n + 6 + 9 * m → item_at S (T i) ≡ None
  was_none i h = free_at S tags i free (omega (arith, h, enough))

  below_of : (q : Tag) → NewLoop tags n m q (T 2) → q ≡ T 3
  below_of q (LoopBelow a b) = a
  below_of q (LoopAbove a b) = absurd (differ 2 (4 * n + 1) (omega (arith, some)) (omega arith) b)
  below_of q (LoopAside j less a b) = absurd (differ 2 (4 * n + 6 + (4 * m + 5 * j)) (omega arith) (omega (arith, less)) b)

  pub only-below : OnlyLoop R (T 2) (T 3)
  only-below q fins vertex is = below_of q (loops q (T 2) fins vertex (was_none 2 (omega arith)) is)

  above_of : (q : Tag) → NewLoop tags n m q (T (4 * n + 1)) → q ≡ T (4 * n + 2)
  above_of q (LoopBelow a b) = absurd (differ 2 (4 * n + 1) (omega (arith, some)) (omega arith) (sym b))
  above_of q (LoopAbove a b) = a
  above_of q (LoopAside j less a b) = absurd (differ (4 * n + 1) (4 * n + 6 + (4 * m + 5 * j)) (omega arith) (omega (arith, less)) b)

  pub only-above : OnlyLoop R (T (4 * n + 1)) (T (4 * n + 2))
  only-above q fins vertex is = above_of q (loops q (T (4 * n + 1)) fins vertex (was_none (4 * n + 1) (omega arith)) is)

  aside_of : (j : ℕ) → j < m → (q : Tag) → NewLoop tags n m q (T (4 * n + 6 + (4 * m + 5 * j))) → q ≡ T (4 * n + 6 + (4 * m + 5 * j + 1))
  aside_of j less q (LoopBelow a b) = absurd (differ 2 (4 * n + 6 + (4 * m + 5 * j)) (omega arith) (omega (arith, less)) (sym b))
  aside_of j less q (LoopAbove a b) = absurd (differ (4 * n + 1) (4 * n + 6 + (4 * m + 5 * j)) (omega arith) (omega (arith, less)) (sym b))
  aside_of j less q (LoopAside i few a b) = ⊎_elim {C = q ≡ T (4 * n + 6 + (4 * m + 5 * j + 1))}
      (λ (l : j < i). absurd (differ (4 * n + 6 + (4 * m + 5 * j)) (4 * n + 6 + (4 * m + 5 * i)) (omega (arith, l)) (omega (arith, few)) b))
      (λ (r : (i < j) ⊎ (j ≡ i)). ⊎_elim {C = q ≡ T (4 * n + 6 + (4 * m + 5 * j + 1))}
      (λ (l : i < j). absurd (differ (4 * n + 6 + (4 * m + 5 * i)) (4 * n + 6 + (4 * m + 5 * j)) (omega (arith, l)) (omega (arith, less)) (sym b)))
      (λ (e : j ≡ i). a ∙ ap (λ k. T (4 * n + 6 + (4 * m + 5 * k + 1))) (sym e)) r)
      (less_or_more j i)

  pub only-aside : (j : ℕ) → j < m → OnlyLoop R (T (4 * n + 6 + (4 * m + 5 * j))) (T (4 * n + 6 + (4 * m + 5 * j + 1)))
  only-aside j less q fins vertex is = aside_of j less q (loops q (T (4 * n + 6 + (4 * m + 5 * j))) fins vertex (was_none (4 * n + 6 + (4 * m + 5 * j)) (omega (arith, less))) is)
