-- The row mfkrh keeps soundness.
use Rattle.std.proofs.Common.{◌≡◌, ◌≢◌, ℕ, ◌+◌, ◌≤◌, ⊎_elim, false, cond, List, [], ◌∷◌, length, Option, Some, None, refl, sym, ap, subst, ◌∙◌, arith}
use Rattle.std.specs.Prelude.{T, ℤ, pos, ◌+ℤ◌, ◌-ℤ◌, ◌*ℤ◌, option_map}
use Rattle.std.specs.Option.{option_map_or}
use Rattle.std.specs.List.{sum_by}
use Rattle.std.specs.FinMap.{is_sorted, put}
use Rattle.std.specs.FinMap.Entries.{is_sorted-put}
use Rattle.std.proofs.lemmas.Int.{ints}
use Rattle.pk_base.specs.Blocks.{tag}
use Rattle.pk_base.specs.Entity.{same_tag}
use Rattle.pk_base.specs.declared.refusal.Refusal.TheVariants.{IsOuter}
use Rattle.pk_base.specs.declared.tag.Tag.{Tag}
use Rattle.pk_base.specs.declared.entity.Name.{Name}
use Rattle.pk_base.specs.declared.entity.Class.{Class}
use Rattle.pk_base.specs.declared.entity.Class.TheVariants as class
use Rattle.pk_model.specs.Maps.{tag_cmp}
use Rattle.pk_model.specs.Tags.{tag_at}
use Rattle.pk_model.proofs.TagLists.{tag_total}
use Rattle.solid_model.specs.Items.{Item, Shape, item_at, class_of_item, ◌with◌}
use Rattle.solid_model.specs.Items.Item.{Body, Shell, Face, Loop, Attr}
use Rattle.solid_model.specs.Owners.{same_class, body_of, number_in_body}
use Rattle.solid_model.specs.Rows.{refuse_where}
use Rattle.solid_model.specs.Places.{PlacedLoop, loop_at, outer_of, outer_at, q_at}
use Rattle.solid_model.specs.Mfkrh.{mfkrh}
use Rattle.solid_model.specs.Sound.{MeetsEulerPoincare, class_at}
use Rattle.pk_base.proofs.Same.{same_itself, differs_means, not_same, same_or_other}
use Rattle.solid_sound.proofs.shapes.Lookups.{put-same, put-other}
use Rattle.solid_sound.proofs.shapes.Numbers.{counts_in}
use Rattle.solid_sound.proofs.shapes.Sums.{weight_at, sum-alike, sum-put}
use Rattle.solid_sound.proofs.shapes.Bodies.{LeadsUp, item_of_class, agreed-LeadsUp, body_or_new, new-body, old-body}
use Rattle.solid_sound.proofs.shapes.EachItem.{SoundFace}
use Rattle.solid_sound.proofs.shapes.Frames.{SameFrame, frame_of, same_frame-put, same_frame-trans}
use Rattle.solid_sound.proofs.rows.RowKeeps.{IsWell, Keeps, keeps-after, keeps-bind, not_refused}
use Rattle.solid_sound.proofs.rows.KeptRings.{Refaced, refaced-well, apart, free_apart, face_of_class, asked_loop, FaceIn, face_in, in_face-is}

-- ---- the formula

-- one more face of the same loops, and one more handle
formula-more : (v e f l : ℕ) (q : ℤ) → ((pos v -ℤ pos e) +ℤ pos f) -ℤ (pos l -ℤ pos f) ≡ pos 2 *ℤ q
    → ((pos v -ℤ pos e) +ℤ pos (1 + f)) -ℤ (pos l -ℤ pos (1 + f)) ≡ pos 2 *ℤ (q +ℤ pos 1)
formula-more v e f l q h = omega (arith, ints)

-- ---- mfkrh

module _ (S : Shape) (well : IsWell S) (l face new shell outer : Tag) (fins : List Tag) (vertex : Option Tag)
    (l_is : item_at S l ≡ Some (Loop face fins vertex)) (face_is : item_at S face ≡ Some (Face shell outer))
    (ring : l ≢ outer_at S face) (free : item_at S new ≡ None) where
  abbrev F : FaceIn S face shell outer
  F = face_in S well face shell outer face_is

  abbrev A : Shape
  A = put tag_cmp new (Face shell l) S

  abbrev B : Shape
  B = put tag_cmp l (Loop new fins vertex) A

  abbrev R : Shape
  R = put tag_cmp shell (Shell F.body (F.q +ℤ pos 1)) B

  l_new : l ≢ new
  l_new = free_apart S l new _ free l_is

  shell_new : shell ≢ new
  shell_new = free_apart S shell new _ free F.shell_is

  l_shell : l ≢ shell
  l_shell = apart S l shell _ _ l_is F.shell_is (λ k. cc)

  shell_now : item_at R shell ≡ Some (Shell F.body (F.q +ℤ pos 1))
  shell_now = put-same B shell _

  l_now : item_at R l ≡ Some (Loop new fins vertex)
  l_now = put-other B shell l _ l_shell ∙ put-same A l _

  new_now : item_at R new ≡ Some (Face shell l)
  new_now = put-other B shell new _ (λ k. shell_new (sym k)) ∙ put-other A l new _ (λ k. l_new (sym k)) ∙ put-same S new _

  at_same : (t : Tag) → t ≢ new → t ≢ l → t ≢ shell → item_at R t ≡ item_at S t
  at_same t n k s = put-other B shell t _ s ∙ put-other A l t _ k ∙ put-other S new t _ n

  stays : (t : Tag) (x : Item) → item_at S t ≡ Some x → t ≢ l → t ≢ shell → item_at R t ≡ Some x
  stays t x e k s = at_same t (free_apart S t new x free e) k s ∙ e

  was : (t : Tag) (x : Item) → item_at R t ≡ Some x → t ≢ new → t ≢ l → t ≢ shell → item_at S t ≡ Some x
  was t x e n k s = sym (at_same t n k s) ∙ e

  class_by : (U : Shape) (t : Tag) (x : Item) → item_at U t ≡ Some x → class_at U t ≡ Some (class_of_item x)
  class_by U t x e = ap (option_map class_of_item) e

  class_stays : (t : Tag) (c : Class) → class_at S t ≡ Some c → class_at R t ≡ Some c
  class_stays t c h = ⊎_elim
      (λ (e : t ≡ l). ap (class_at R) e ∙ class_by R l _ l_now ∙ sym (class_by S l _ l_is) ∙ ap (class_at S) (sym e) ∙ h)
      (λ (n : t ≢ l). ⊎_elim
      (λ (e : t ≡ shell). ap (class_at R) e ∙ class_by R shell _ shell_now ∙ sym (class_by S shell _ F.shell_is) ∙ ap (class_at S) (sym e) ∙ h)
      (λ (m : t ≢ shell). let x = item_of_class (item_at S t) c h in class_by R t x.0 (stays t x.0 x.1 n m) ∙ ap Some x.2)
      (same_or_other t shell))
      (same_or_other t l)

  A_sorted : T (is_sorted tag_cmp A)
  A_sorted = is_sorted-put tag_cmp tag_total new (Face shell l) S well.written.ascends

  B_sorted : T (is_sorted tag_cmp B)
  B_sorted = is_sorted-put tag_cmp tag_total l (Loop new fins vertex) A A_sorted

  A_l : item_at A l ≡ Some (Loop face fins vertex)
  A_l = put-other S new l _ l_new ∙ l_is

  B_shell : item_at B shell ≡ Some (Shell F.body F.q)
  B_shell = put-other A l shell _ (λ k. l_shell (sym k)) ∙ put-other S new shell _ shell_new ∙ F.shell_is

  frame_same : SameFrame S R
  frame_same = same_frame-trans S A R (same_frame-put S new (Face shell l) well.written.ascends (sym (ap frame_of free)))
      (same_frame-trans A B R (same_frame-put A l (Loop new fins vertex) A_sorted (sym (ap frame_of A_l)))
      (same_frame-put B shell (Shell F.body (F.q +ℤ pos 1)) B_sorted (sym (ap frame_of B_shell))))

  abbrev g : Tag → Tag
  g t = body_or_new S (new ∷ []) F.body t

  g_old : (t : Tag) (x : Item) → item_at S t ≡ Some x → g t ≡ body_of S t
  g_old t x e = old-body S (new ∷ []) F.body t x (free, tt) e

  g_new : g new ≡ F.body
  g_new = new-body S (new ∷ []) F.body new (0, omega arith, refl)

  up : LeadsUp S g
  up = agreed-LeadsUp S well.written well.sound g g_old

  faces_more : (b : Tag) → sum_by (λ (x : Tag × Item). counts_in class.Face b (g x.0) x.1) R ≡ cond (same_tag F.body b) 1 0 + number_in_body class.Face S b
  faces_more b =
      let w = λ (x : Tag × Item). counts_in class.Face b (g x.0) x.1 in
      let one = sum-put w S new (Face shell l) well.written.ascends in
      let two = sum-put w A l (Loop new fins vertex) A_sorted in
      let three = sum-put w B shell (Shell F.body (F.q +ℤ pos 1)) B_sorted in
      let at_new : weight_at w S new ≡ 0 = ap (λ (o : Option Item). option_map_or (λ x. w (new, x)) o 0) free in
      let at_l : weight_at w A l ≡ 0 = ap (λ (o : Option Item). option_map_or (λ x. w (l, x)) o 0) A_l in
      let at_shell : weight_at w B shell ≡ 0 = ap (λ (o : Option Item). option_map_or (λ x. w (shell, x)) o 0) B_shell in
      let made : w (new, Face shell l) ≡ cond (same_tag F.body b) 1 0 = ap (λ u. cond {A = ℕ} (same_tag u b) 1 0) g_new in
      let rest : sum_by w S ≡ number_in_body class.Face S b = sum-alike w (λ x. counts_in class.Face b (body_of S x.0) x.1) S well.written.ascends (λ t x e. ap (λ u. counts_in class.Face b u x) (g_old t x e)) in
      omega (arith, one, two, three, at_new, at_l, at_shell, made, rest)

  formula : (b s : Tag) (q : ℤ) → item_at R b ≡ Some (Body s) → item_at R s ≡ Some (Shell b q)
      → ((c : Class) → same_class class.Attr c ≡ false → same_class class.Face c ≡ false → number_in_body c R b ≡ number_in_body c S b)
      → number_in_body class.Face R b ≡ sum_by (λ (x : Tag × Item). counts_in class.Face b (g x.0) x.1) R
      → MeetsEulerPoincare R b q
  formula b s q b_is s_is same faces =
      let b_was = was b _ b_is (apart R b new _ _ b_is new_now (λ k. cc)) (apart R b l _ _ b_is l_now (λ k. cc)) (apart R b shell _ _ b_is shell_now (λ k. cc)) in
      let vn = same class.Vertex refl refl in
      let en = same class.Edge refl refl in
      let ln = same class.Loop refl refl in
      ⊎_elim {C = MeetsEulerPoincare R b q}
      (λ (e : b ≡ F.body).
      let bodies : Some (Body s) ≡ Some (Body shell) = sym b_was ∙ ap (item_at S) e ∙ F.body_is in
      let s_same : s ≡ shell = cc in
      let shells : Some (Shell b q) ≡ Some (Shell F.body (F.q +ℤ pos 1)) = sym s_is ∙ ap (item_at R) s_same ∙ shell_now in
      let q_same : q ≡ F.q +ℤ pos 1 = cc in
      let one : cond {A = ℕ} (same_tag F.body b) 1 0 ≡ 1 = ap (λ u. cond {A = ℕ} (same_tag u b) 1 0) (sym e) ∙ ap (λ c. cond {A = ℕ} c 1 0) (same_itself b) in
      let fn : number_in_body class.Face R b ≡ 1 + number_in_body class.Face S b = faces ∙ faces_more b ∙ ap (λ n. n + number_in_body class.Face S b) one in
      let old : MeetsEulerPoincare S b F.q = well.sound.measure.formula b shell F.q (b_was ∙ ap (λ t. Some (Body t)) s_same) (F.shell_is ∙ ap (λ t. Some (Shell t F.q)) (sym e)) in
      (λ i. ((pos (vn i) -ℤ pos (en i)) +ℤ pos (fn i)) -ℤ (pos (ln i) -ℤ pos (fn i)))
      ∙ formula-more (number_in_body class.Vertex S b) (number_in_body class.Edge S b) (number_in_body class.Face S b) (number_in_body class.Loop S b) F.q old
      ∙ ap (λ n. pos 2 *ℤ n) (sym q_same))
      (λ (other : b ≢ F.body).
      let s_other : s ≢ shell = λ k. let shells : Some (Shell b q) ≡ Some (Shell F.body (F.q +ℤ pos 1)) = sym s_is ∙ ap (item_at R) k ∙ shell_now in other (cc) in
      let s_was = was s _ s_is (apart R s new _ _ s_is new_now (λ k. cc)) (apart R s l _ _ s_is l_now (λ k. cc)) s_other in
      let none : cond {A = ℕ} (same_tag F.body b) 1 0 ≡ 0 = ap (λ c. cond {A = ℕ} c 1 0) (not_same F.body b (λ k. other (sym k))) in
      let more = faces_more b in
      let fn : number_in_body class.Face R b ≡ number_in_body class.Face S b = faces ∙ omega (arith, more, none) in
      (λ i. ((pos (vn i) -ℤ pos (en i)) +ℤ pos (fn i)) -ℤ (pos (ln i) -ℤ pos (fn i))) ∙ well.sound.measure.formula b s q b_was s_was)
      (same_or_other b F.body)

  attribute_was : (t o : Tag) (n : Name) (v : ℤ) → item_at R t ≡ Some (Attr o n v) → item_at S t ≡ Some (Attr o n v)
  attribute_was t o n v e = was t _ e (apart R t new _ _ e new_now (λ k. cc)) (apart R t l _ _ e l_now (λ k. cc)) (apart R t shell _ _ e shell_now (λ k. cc))

  face_made : Refaced S R g
  face_made = record {
    frame = frame_same;
    agree = g_old;
    faces = λ f s o e. ⊎_elim {C = (class_at R s ≡ Some class.Shell) × SoundFace R f o × (g s ≡ g f)}
        (λ (k : f ≡ new).
        let both : Some (Face shell l) ≡ Some (Face s o) = sym new_now ∙ ap (item_at R) (sym k) ∙ e in
        let s_same : shell ≡ s = cc in
        let o_same : l ≡ o = cc in
        let sound_face : SoundFace R f o = record { fins = fins; vertex = vertex; outer_is = ap (item_at R) (sym o_same) ∙ l_now ∙ ap (λ t. Some (Loop t fins vertex)) (sym k) } in
        (ap (class_at R) (sym s_same) ∙ class_by R shell _ shell_now, sound_face, ap g (sym s_same) ∙ g_old shell _ F.shell_is ∙ F.shell_body ∙ sym g_new ∙ ap g (sym k)))
        (λ (n : f ≢ new).
        let f_was = was f _ e n (apart R f l _ _ e l_now (λ k. cc)) (apart R f shell _ _ e shell_now (λ k. cc)) in
        let old = well.sound.outer f s o f_was in
        let other : o ≢ l = λ k.
        let both : Some (Loop f old.0 old.1) ≡ Some (Loop face fins vertex) = sym old.2 ∙ ap (item_at S) k ∙ l_is in
        let same : f ≡ face = cc in
        ring (sym k ∙ sym (ap (λ (i : Option Item). option_map_or outer_of i (tag 0)) f_was) ∙ ap (outer_at S) same) in
        let sound_face : SoundFace R f o = record { fins = old.0; vertex = old.1; outer_is = stays o _ old.2 other (apart S o shell _ _ old.2 F.shell_is (λ k. cc)) } in
        (class_stays s class.Shell (well.sound.names.kinds f (Face s o) f_was).0.0, sound_face, up.faces f s o f_was))
        (same_or_other f new);
    loops = λ k h fs v e. ⊎_elim {C = (class_at R h ≡ Some class.Face) × (g h ≡ g k)}
        (λ (same : k ≡ l).
        let both : Some (Loop new fins vertex) ≡ Some (Loop h fs v) = sym l_now ∙ ap (item_at R) (sym same) ∙ e in
        let h_same : new ≡ h = cc in (
          ap (class_at R) (sym h_same) ∙ class_by R new _ new_now,
          ap g (sym h_same) ∙ g_new ∙ sym F.face_body ∙ sym (g_old face _ face_is) ∙ up.loops l face fins vertex l_is ∙ ap g (sym same),
        ))
        (λ (other : k ≢ l).
        let k_was = was k _ e (apart R k new _ _ e new_now (λ m. cc)) other (apart R k shell _ _ e shell_now (λ m. cc)) in
        (class_stays h class.Face (well.sound.names.kinds k (Loop h fs v) k_was).0.0, up.loops k h fs v k_was))
        (same_or_other k l);
    has_face = λ s b f o q s_is f_is. (f, o, stays f _ f_is (apart S f l _ _ f_is l_is (λ k. cc)) (apart S f shell _ _ f_is F.shell_is (λ k. cc)));
    attributes = record {
      owned = λ t o n v e. let h = well.sound.attributes.owned t o n v (attribute_was t o n v e) in (h.0, class_stays o h.0 h.1, h.2);
      one = λ t u o n v w e k. well.sound.attributes.one t u o n v w (attribute_was t o n v e) (attribute_was u o n w k);
    };
    formula = formula;
  }

  pub face-made : IsWell R
  face-made = refaced-well S R g well face_made

pub mfkrh-keeps : (S : Shape) (tags : List Tag) (l : Tag) → IsWell S → (1 ≤ length tags → item_at S (tag_at tags 0) ≡ None) → Keeps tags (mfkrh S l)
mfkrh-keeps S tags l well free = keeps-bind tags (loop_at S l) _ (λ r e. keeps-after tags (refuse_where (same_tag l r.outer) (IsOuter l)) _ (λ n enough.
    let x = asked_loop S l (item_at S l) r e in
    let y = face_of_class (item_at S x.0) (well.sound.names.kinds l (Loop x.0 x.1 x.2) x.3).0.0 in
    let F = face_in S well x.0 y.0 y.1 y.2 in
    let ring : l ≢ outer_at S x.0 = λ h. differs_means l r.outer (not_refused _ _ n) (h ∙ ap (λ (p : PlacedLoop). p.outer) x.4) in
    let shell_is : y.0 ≡ r.shell = sym F.shell_of ∙ ap (λ (p : PlacedLoop). p.shell) x.4 in
    let body_is : F.body ≡ r.body = sym F.face_body ∙ ap (λ (p : PlacedLoop). p.body) x.4 in
    let q_is : F.q ≡ q_at S r.shell = sym F.q_is ∙ ap (q_at S) shell_is in
    let l_is = in_face-is S l x.0 (tag_at tags 0) x.1 x.2 x.3 in
    subst IsWell
    (λ i. S with (tag_at tags 0, Face (shell_is i) l) ∷ (l, sym l_is i) ∷ (shell_is i, Shell (body_is i) (q_is i +ℤ pos 1)) ∷ [])
    (face-made S well l x.0 (tag_at tags 0) y.0 y.1 x.1 x.2 x.3 y.2 ring (free enough))))
