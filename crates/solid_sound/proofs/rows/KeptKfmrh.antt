-- The row kfmrh keeps soundness.
use Rattle.std.proofs.Common.{◌≡◌, ◌≢◌, ℕ, suc, ◌+◌, ⊎_elim, Bool, true, false, not, ◌||◌, cond, List, [], ◌∷◌, length, Option, Some, None, refl, sym, ap, subst, ◌∙◌, arith}
use Rattle.std.specs.Prelude.{T, ℤ, pos, ◌+ℤ◌, ◌-ℤ◌, ◌*ℤ◌, ◌&&◌, filter, option_map, nat_lt, Contains}
use Rattle.std.specs.Option.{option_map_or}
use Rattle.std.specs.List.{sum_by}
use Rattle.std.specs.FinMap.{is_sorted, put}
use Rattle.std.specs.FinMap.Entries.{is_sorted-put}
use Rattle.std.proofs.lemmas.Bool.{true≢false, cases_Bool, or_cases, not-false}
use Rattle.std.proofs.lemmas.Bool.Decides.{nat_tests}
use Rattle.std.proofs.lemmas.Int.{ints}
use Rattle.std.proofs.lemmas.Option.{same_Some}
use Rattle.pk_base.specs.Entity.{same_tag, same_optional}
use Rattle.pk_base.specs.declared.refusal.Refusal.TheVariants.{NotOneBody, SameFace, HasRings}
use Rattle.pk_base.specs.declared.tag.Tag.{Tag}
use Rattle.pk_base.specs.declared.entity.Name.{Name}
use Rattle.pk_base.specs.declared.entity.Class.{Class}
use Rattle.pk_base.specs.declared.entity.Class.TheVariants as class
use Rattle.pk_model.specs.Maps.{tag_cmp}
use Rattle.pk_model.proofs.TagLists.{tag_total}
use Rattle.solid_model.specs.Items.{Item, Shape, item_at, class_of_item, ◌with◌}
use Rattle.solid_model.specs.Items.Item.{Body, Shell, Face, Loop, Fin, Edge, Vertex, Attr}
use Rattle.solid_model.specs.Rings.{is_among}
use Rattle.solid_model.specs.Owners.{same_class, owner_of_item, body_of, number_in_body, has_rings, parts_of_class}
use Rattle.solid_model.specs.Rows.{refuse_where}
use Rattle.solid_model.specs.Places.{face_at, q_at, in_face}
use Rattle.solid_model.specs.Kfmrh.{kfmrh}
use Rattle.solid_model.specs.Deaths.{is_attribute_of, dies_with, ◌without◌}
use Rattle.solid_model.specs.Sound.{MeetsEulerPoincare, class_at}
use Rattle.list_facts.proofs.Elements.{not_in_nil, Contains-first, Contains-map, Contains-only}
use Rattle.pk_base.proofs.Same.{same_itself, same_means, differs_means, not_same, same_or_other}
use Rattle.solid_model.proofs.lists.Neighbours.{is_among-in, in-is_among, not_among, neither_parts, neither_from}
use Rattle.solid_sound.proofs.shapes.Lookups.{put-same, put-other, filter-was, filter-kept}
use Rattle.solid_sound.proofs.shapes.Found.{item-among}
use Rattle.solid_sound.proofs.shapes.Names.{NotAttr}
use Rattle.solid_sound.proofs.shapes.Numbers.{number-attribute, counts_in}
use Rattle.solid_sound.proofs.shapes.Attributes.{attribute_of-class, no_attribute_of}
use Rattle.solid_sound.proofs.shapes.Sums.{weight_at, sum-alike, sum-put, sum-filter, sum-but}
use Rattle.solid_sound.proofs.shapes.Bodies.{LeadsUp, leads_up, item_of_class}
use Rattle.solid_sound.proofs.shapes.EachItem.{SoundFace}
use Rattle.solid_sound.proofs.shapes.Frames.{SameFrame, frame, frame_of, same_frame-put, same_frame-left, same_frame-trans}
use Rattle.solid_sound.proofs.rows.RowKeeps.{IsWell, Keeps, keeps-after, keeps-bind, not_refused}
use Rattle.solid_sound.proofs.rows.KeptRings.{Refaced, refaced-well, apart, asked_face, FaceIn, face_in, in_face-is}

-- one face less of the same loops, and one handle less
formula-less : (v e f l : ℕ) (q : ℤ) → ((pos v -ℤ pos e) +ℤ pos (1 + f)) -ℤ (pos l -ℤ pos (1 + f)) ≡ pos 2 *ℤ q
    → ((pos v -ℤ pos e) +ℤ pos f) -ℤ (pos l -ℤ pos f) ≡ pos 2 *ℤ (q -ℤ pos 1)
formula-less v e f l q h = omega (arith, ints)

not_one_of : (q t : Tag) → is_among q (t ∷ []) ≡ false → q ≢ t
not_one_of q t h e = true≢false (sym (is_among-in q (t ∷ []) (subst (λ u. Contains (t ∷ []) u) (sym e) (Contains-first t []))) ∙ h)

one_of_not : (q t : Tag) → q ≢ t → is_among q (t ∷ []) ≡ false
one_of_not q t h = not_among q (t ∷ []) (λ k. h (sym (Contains-only t q k)))

attribute_frame : (x : Item) → class_of_item x ≡ class.Attr → frame x ≡ None
attribute_frame (Attr owner name value) h = refl
attribute_frame (Body shell) h = absurd (cc)
attribute_frame (Shell body q) h = absurd (cc)
attribute_frame (Face shell outer) h = refl
attribute_frame (Loop face fins vertex) h = absurd (cc)
attribute_frame (Fin mate edge vertex) h = absurd (cc)
attribute_frame (Edge body) h = absurd (cc)
attribute_frame (Vertex body point) h = absurd (cc)

module _ (S : Shape) (well : IsWell S) (l a b shell_a outer_a shell : Tag) (fins : List Tag) (vertex : Option Tag)
    (a_is : item_at S a ≡ Some (Face shell_a outer_a)) (b_is : item_at S b ≡ Some (Face shell l)) (l_is : item_at S l ≡ Some (Loop b fins vertex))
    (only : (k : Tag) (fs : List Tag) (v : Option Tag) → item_at S k ≡ Some (Loop b fs v) → k ≡ l)
    (two : a ≢ b) (one_body : body_of S a ≡ body_of S b) where
  abbrev F : FaceIn S b shell l
  F = face_in S well b shell l b_is

  abbrev A : Shape
  A = put tag_cmp l (Loop a fins vertex) S

  abbrev B : Shape
  B = put tag_cmp shell (Shell F.body (F.q -ℤ pos 1)) A

  abbrev lives : Tag × Item → Bool
  lives x = not (dies_with (b ∷ []) x)

  abbrev R : Shape
  R = filter lives B

  l_shell : l ≢ shell
  l_shell = apart S l shell _ _ l_is F.shell_is (λ k. cc)

  l_b : l ≢ b
  l_b = apart S l b _ _ l_is b_is (λ k. cc)

  shell_b : shell ≢ b
  shell_b = apart S shell b _ _ F.shell_is b_is (λ k. cc)

  A_sorted : T (is_sorted tag_cmp A)
  A_sorted = is_sorted-put tag_cmp tag_total l (Loop a fins vertex) S well.written.ascends

  B_sorted : T (is_sorted tag_cmp B)
  B_sorted = is_sorted-put tag_cmp tag_total shell (Shell F.body (F.q -ℤ pos 1)) A A_sorted

  A_shell : item_at A shell ≡ Some (Shell F.body F.q)
  A_shell = put-other S l shell _ (λ k. l_shell (sym k)) ∙ F.shell_is

  B_b : item_at B b ≡ Some (Face shell l)
  B_b = put-other A shell b _ (λ k. shell_b (sym k)) ∙ put-other S l b _ (λ k. l_b (sym k)) ∙ b_is

  kept : (t : Tag) (x : Item) → item_at B t ≡ Some x → NotAttr (class_of_item x) → t ≢ b → item_at R t ≡ Some x
  kept t x e na other = filter-kept lives B t x e (neither_from (is_among t (b ∷ [])) (is_attribute_of (b ∷ []) x) (one_of_not t b other) (no_attribute_of (b ∷ []) x na))

  l_now : item_at R l ≡ Some (Loop a fins vertex)
  l_now = kept l _ (put-other A shell l _ l_shell ∙ put-same S l _) (λ k. cc) l_b

  shell_now : item_at R shell ≡ Some (Shell F.body (F.q -ℤ pos 1))
  shell_now = kept shell _ (put-same A shell _) (λ k. cc) shell_b

  stays : (t : Tag) (x : Item) → item_at S t ≡ Some x → NotAttr (class_of_item x) → t ≢ l → t ≢ shell → t ≢ b → item_at R t ≡ Some x
  stays t x e na k s other = kept t x (put-other A shell t _ s ∙ put-other S l t _ k ∙ e) na other

  alive : (t : Tag) (x : Item) → item_at R t ≡ Some x → (t ≢ b) × (is_attribute_of (b ∷ []) x ≡ false)
  alive t x e =
      let left = filter-was lives B B_sorted t x e in
      let both = neither_parts (is_among t (b ∷ [])) (is_attribute_of (b ∷ []) x) left.1 in
      (not_one_of t b both.0, both.1)

  was : (t : Tag) (x : Item) → item_at R t ≡ Some x → t ≢ l → t ≢ shell → item_at S t ≡ Some x
  was t x e k s = sym (put-other A shell t _ s ∙ put-other S l t _ k) ∙ (filter-was lives B B_sorted t x e).0

  class_by : (U : Shape) (t : Tag) (x : Item) → item_at U t ≡ Some x → class_at U t ≡ Some (class_of_item x)
  class_by U t x e = ap (option_map class_of_item) e

  class_stays : (t : Tag) (c : Class) → NotAttr c → t ≢ b → class_at S t ≡ Some c → class_at R t ≡ Some c
  class_stays t c na other h = ⊎_elim
      (λ (e : t ≡ l). ap (class_at R) e ∙ class_by R l _ l_now ∙ sym (class_by S l _ l_is) ∙ ap (class_at S) (sym e) ∙ h)
      (λ (n : t ≢ l). ⊎_elim
      (λ (e : t ≡ shell). ap (class_at R) e ∙ class_by R shell _ shell_now ∙ sym (class_by S shell _ F.shell_is) ∙ ap (class_at S) (sym e) ∙ h)
      (λ (m : t ≢ shell). let x = item_of_class (item_at S t) c h in class_by R t x.0 (stays t x.0 x.1 (subst NotAttr (sym x.2) na) n m other) ∙ ap Some x.2)
      (same_or_other t shell))
      (same_or_other t l)

  frame_same : SameFrame S R
  frame_same = same_frame-trans S A R (same_frame-put S l (Loop a fins vertex) well.written.ascends (sym (ap frame_of l_is)))
      (same_frame-trans A B R (same_frame-put A shell (Shell F.body (F.q -ℤ pos 1)) A_sorted (sym (ap frame_of A_shell)))
      (same_frame-left B lives B_sorted (λ t x e d. ⊎_elim {C = frame x ≡ None}
      (λ (k : is_among t (b ∷ []) ≡ true).
      let same : b ≡ t = Contains-only b t (in-is_among t (b ∷ []) k) in
      ap frame (same_Some x (Face shell l) (sym e ∙ ap (item_at B) (sym same) ∙ B_b)))
      (λ (k : is_attribute_of (b ∷ []) x ≡ true). attribute_frame x (attribute_of-class (b ∷ []) x k))
      (or_cases (is_among t (b ∷ [])) (is_attribute_of (b ∷ []) x) (not-false (dies_with (b ∷ []) (t, x)) d)))))

  up : LeadsUp S (body_of S)
  up = leads_up S well.written well.sound

  faces_less : (d : Tag) → number_in_body class.Face S d ≡ cond (same_tag F.body d) 1 0 + sum_by (λ (x : Tag × Item). counts_in class.Face d (body_of S x.0) x.1) R
  faces_less d =
      let w = λ (x : Tag × Item). counts_in class.Face d (body_of S x.0) x.1 in
      let one = sum-put w S l (Loop a fins vertex) well.written.ascends in
      let more = sum-put w A shell (Shell F.body (F.q -ℤ pos 1)) A_sorted in
      let at_l : weight_at w S l ≡ 0 = ap (λ (o : Option Item). option_map_or (λ x. w (l, x)) o 0) l_is in
      let at_shell : weight_at w A shell ≡ 0 = ap (λ (o : Option Item). option_map_or (λ x. w (shell, x)) o 0) A_shell in
      let at_b : weight_at w B b ≡ cond (same_tag F.body d) 1 0 = ap (λ (o : Option Item). option_map_or (λ x. w (b, x)) o 0) B_b ∙ ap (λ u. cond {A = ℕ} (same_tag u d) 1 0) F.face_body in
      let but = sum-but w B b B_sorted in
      let left : sum_by w R ≡ sum_by (λ x. cond (same_tag x.0 b) 0 (w x)) B =
      sum-filter w lives B ∙ sum-alike (λ x. cond (lives x) (w x) 0) (λ x. cond (same_tag x.0 b) 0 (w x)) B B_sorted (λ t x e. ⊎_elim {C = cond (lives (t, x)) (w (t, x)) 0 ≡ cond (same_tag t b) 0 (w (t, x))}
      (λ (k : t ≡ b). ap (λ c. cond (not (c || is_attribute_of (b ∷ []) x)) (w (t, x)) 0) (is_among-in t (b ∷ []) (subst (λ u. Contains (b ∷ []) u) (sym k) (Contains-first b [])))
      ∙ sym (ap (λ c. cond c 0 (w (t, x))) (ap (λ u. same_tag u b) k ∙ same_itself b)))
      (λ (k : t ≢ b). ⊎_elim {C = cond (lives (t, x)) (w (t, x)) 0 ≡ cond (same_tag t b) 0 (w (t, x))}
      (λ (dead : is_attribute_of (b ∷ []) x ≡ true).
      let zero : w (t, x) ≡ 0 = number-attribute class.Face refl (same_tag (body_of S t) d) x (attribute_of-class (b ∷ []) x dead) in
      ap (λ n. cond (lives (t, x)) n 0) zero ∙ both_zero (lives (t, x)) (same_tag t b) ∙ sym (ap (λ n. cond (same_tag t b) 0 n) zero))
      (λ (other : is_attribute_of (b ∷ []) x ≡ false).
      ap (λ c. cond c (w (t, x)) 0) (neither_from (is_among t (b ∷ [])) (is_attribute_of (b ∷ []) x) (one_of_not t b k) other) ∙ sym (ap (λ c. cond c 0 (w (t, x))) (not_same t b k)))
      (cases_Bool (is_attribute_of (b ∷ []) x)))
      (same_or_other t b)) in
      omega (arith, one, more, at_l, at_shell, at_b, but, left)
    where
      both_zero : (c d : Bool) → cond {A = ℕ} c 0 0 ≡ cond {A = ℕ} d 0 0
      both_zero true true = refl
      both_zero true false = refl
      both_zero false true = refl
      both_zero false false = refl

  formula : (d s : Tag) (q : ℤ) → item_at R d ≡ Some (Body s) → item_at R s ≡ Some (Shell d q)
      → ((c : Class) → same_class class.Attr c ≡ false → same_class class.Face c ≡ false → number_in_body c R d ≡ number_in_body c S d)
      → number_in_body class.Face R d ≡ sum_by (λ (x : Tag × Item). counts_in class.Face d (body_of S x.0) x.1) R
      → MeetsEulerPoincare R d q
  formula d s q d_is s_is same faces =
      let d_was = was d _ d_is (apart R d l _ _ d_is l_now (λ k. cc)) (apart R d shell _ _ d_is shell_now (λ k. cc)) in
      let vn = same class.Vertex refl refl in
      let en = same class.Edge refl refl in
      let ln = same class.Loop refl refl in
      let less = faces_less d in
      ⊎_elim {C = MeetsEulerPoincare R d q}
      (λ (e : d ≡ F.body).
      let bodies : Some (Body s) ≡ Some (Body shell) = sym d_was ∙ ap (item_at S) e ∙ F.body_is in
      let s_same : s ≡ shell = cc in
      let shells : Some (Shell d q) ≡ Some (Shell F.body (F.q -ℤ pos 1)) = sym s_is ∙ ap (item_at R) s_same ∙ shell_now in
      let q_same : q ≡ F.q -ℤ pos 1 = cc in
      let one : cond {A = ℕ} (same_tag F.body d) 1 0 ≡ 1 = ap (λ u. cond {A = ℕ} (same_tag u d) 1 0) (sym e) ∙ ap (λ c. cond {A = ℕ} c 1 0) (same_itself d) in
      let fn : number_in_body class.Face S d ≡ 1 + number_in_body class.Face R d = omega (arith, less, one, faces) in
      let old : MeetsEulerPoincare S d F.q = well.sound.measure.formula d shell F.q (d_was ∙ ap (λ t. Some (Body t)) s_same) (F.shell_is ∙ ap (λ t. Some (Shell t F.q)) (sym e)) in
      formula-less (number_in_body class.Vertex R d) (number_in_body class.Edge R d) (number_in_body class.Face R d) (number_in_body class.Loop R d) F.q
      ((λ i. ((pos (vn i) -ℤ pos (en i)) +ℤ pos (sym fn i)) -ℤ (pos (ln i) -ℤ pos (sym fn i))) ∙ old)
      ∙ ap (λ n. pos 2 *ℤ n) (sym q_same))
      (λ (other : d ≢ F.body).
      let s_other : s ≢ shell = λ k. let shells : Some (Shell d q) ≡ Some (Shell F.body (F.q -ℤ pos 1)) = sym s_is ∙ ap (item_at R) k ∙ shell_now in other (cc) in
      let s_was = was s _ s_is (apart R s l _ _ s_is l_now (λ k. cc)) s_other in
      let none : cond {A = ℕ} (same_tag F.body d) 1 0 ≡ 0 = ap (λ c. cond {A = ℕ} c 1 0) (not_same F.body d (λ k. other (sym k))) in
      let fn : number_in_body class.Face R d ≡ number_in_body class.Face S d = omega (arith, less, none, faces) in
      (λ i. ((pos (vn i) -ℤ pos (en i)) +ℤ pos (fn i)) -ℤ (pos (ln i) -ℤ pos (fn i))) ∙ well.sound.measure.formula d s q d_was s_was)
      (same_or_other d F.body)

  attribute_was : (t o : Tag) (n : Name) (v : ℤ) → item_at R t ≡ Some (Attr o n v) → item_at S t ≡ Some (Attr o n v)
  attribute_was t o n v e = was t _ e (apart R t l _ _ e l_now (λ k. cc)) (apart R t shell _ _ e shell_now (λ k. cc))

  a_stays : item_at R a ≡ Some (Face shell_a outer_a)
  a_stays = stays a _ a_is (λ k. cc) (apart S a l _ _ a_is l_is (λ k. cc)) (apart S a shell _ _ a_is F.shell_is (λ k. cc)) two

  same_shell : shell_a ≡ shell
  same_shell =
      let G = face_in S well a shell_a outer_a a_is in
      let bodies : Some (Body shell_a) ≡ Some (Body shell) = sym G.body_is ∙ ap (item_at S) (sym G.face_body ∙ one_body ∙ F.face_body) ∙ F.body_is in
      cc

  face_killed : Refaced S R (body_of S)
  face_killed = record {
    frame = frame_same;
    agree = λ t x e. refl;
    faces = λ f s o e.
        let f_was = was f _ e (apart R f l _ _ e l_now (λ k. cc)) (apart R f shell _ _ e shell_now (λ k. cc)) in
        let old = well.sound.outer f s o f_was in
        let other : o ≢ l = λ k.
        let both : Some (Loop f old.0 old.1) ≡ Some (Loop b fins vertex) = sym old.2 ∙ ap (item_at S) k ∙ l_is in
        let same : f ≡ b = cc in
        (alive f _ e).0 same in
        let sound_face : SoundFace R f o = record { fins = old.0; vertex = old.1; outer_is = stays o _ old.2 (λ k. cc) other (apart S o shell _ _ old.2 F.shell_is (λ k. cc)) (apart S o b _ _ old.2 b_is (λ k. cc)) } in
        let s_class = (well.sound.names.kinds f (Face s o) f_was).0.0 in
        let s_not : s ≢ b = λ k. let both : Some class.Shell ≡ Some class.Face = sym s_class ∙ ap (class_at S) k ∙ class_by S b _ b_is in cc in
        (class_stays s class.Shell (λ k. cc) s_not s_class, sound_face, up.faces f s o f_was);
    loops = λ k h fs v e. ⊎_elim {C = (class_at R h ≡ Some class.Face) × (body_of S h ≡ body_of S k)}
        (λ (same : k ≡ l).
        let both : Some (Loop a fins vertex) ≡ Some (Loop h fs v) = sym l_now ∙ ap (item_at R) (sym same) ∙ e in
        let h_same : a ≡ h = cc in
        (ap (class_at R) (sym h_same) ∙ class_by R a _ a_stays, ap (body_of S) (sym h_same) ∙ one_body ∙ up.loops l b fins vertex l_is ∙ ap (body_of S) (sym same)))
        (λ (other : k ≢ l).
        let k_was = was k _ e other (apart R k shell _ _ e shell_now (λ m. cc)) in
        let h_not : h ≢ b = λ m. other (only k fs v (k_was ∙ ap (λ t. Some (Loop t fs v)) m)) in
        (class_stays h class.Face (λ m. cc) h_not (well.sound.names.kinds k (Loop h fs v) k_was).0.0, up.loops k h fs v k_was))
        (same_or_other k l);
    has_face = λ s d f o q s_is f_is. ⊎_elim {C = (h : Tag) × (u : Tag) × (item_at R h ≡ Some (Face s u))}
        (λ (k : f ≡ b).
        let both : Some (Face s o) ≡ Some (Face shell l) = sym f_is ∙ ap (item_at S) k ∙ b_is in
        let s_same : shell ≡ s = cc in
        (a, outer_a, a_stays ∙ ap (λ t. Some (Face t outer_a)) (same_shell ∙ s_same)))
        (λ (k : f ≢ b). (f, o, stays f _ f_is (λ m. cc) (apart S f l _ _ f_is l_is (λ m. cc)) (apart S f shell _ _ f_is F.shell_is (λ m. cc)) k))
        (same_or_other f b);
    attributes = record {
      owned = λ t o n v e.
          let h = well.sound.attributes.owned t o n v (attribute_was t o n v e) in
          (h.0, class_stays o h.0 h.2 (not_one_of o b (alive t _ e).1) h.1, h.2);
      one = λ t u o n v w e k. well.sound.attributes.one t u o n v w (attribute_was t o n v e) (attribute_was u o n w k);
    };
    formula = formula;
  }

  pub face-killed : IsWell R
  face-killed = refaced-well S R (body_of S) well face_killed

-- a list of one tag or none has no two
pub no_two : (ts : List Tag) (t u : Tag) → nat_lt 1 (length ts) ≡ false → Contains ts t → Contains ts u → t ≡ u
no_two [] t u h k m = absurd (not_in_nil t k)
no_two (x ∷ []) t u h k m = sym (Contains-only x t k) ∙ Contains-only x u m
no_two (x ∷ y ∷ ts) t u h k m = absurd (more (length ts) h)
  where
    more : (n : ℕ) → nat_lt 1 (suc (suc n)) ≡ false → ⊥
    more n h = grind (arith, nat_tests)

pub loop_among_parts : (S : Shape) (k f : Tag) (fs : List Tag) (v : Option Tag) → item_at S k ≡ Some (Loop f fs v) → Contains (parts_of_class class.Loop S f) k
loop_among_parts S k f fs v e =
    let p = λ (x : Tag × Item). same_class (class_of_item x.1) class.Loop && same_optional (owner_of_item S x.0 x.1) (Some f) in
    Contains-map (λ (x : Tag × Item). x.0) (filter p S) (k, Loop f fs v) (item-among (filter p S) k (Loop f fs v) (filter-kept p S k (Loop f fs v) e (same_itself f)))

pub kfmrh-keeps : (S : Shape) (tags : List Tag) (a b : Tag) → IsWell S → Keeps tags (kfmrh S a b)
kfmrh-keeps S tags a b well = keeps-bind tags (face_at S a) _ (λ keep e. keeps-bind tags (face_at S b) _ (λ kill k.
    keeps-after tags (refuse_where (same_tag a b) (SameFace a)) _ (λ n. keeps-after tags (refuse_where (not (same_tag keep.body kill.body)) (NotOneBody keep.body kill.body)) _ (λ m.
    keeps-after tags (refuse_where (has_rings S b) (HasRings b)) _ (λ o.
    let x = asked_face S a (item_at S a) keep e in
    let y = asked_face S b (item_at S b) kill k in
    let F = face_in S well b y.0 y.1 y.2 in
    let G = face_in S well a x.0 x.1 x.2 in
    let l = well.sound.outer b y.0 y.1 y.2 in
    let one_body : body_of S a ≡ body_of S b = G.face_body ∙ sym G.owner_is ∙ x.4 ∙ same_means keep.body kill.body (not-false (same_tag keep.body kill.body) (not_refused _ _ m)) ∙ sym y.4 ∙ F.owner_is ∙ sym F.face_body in
    let only : (t : Tag) (fs : List Tag) (v : Option Tag) → item_at S t ≡ Some (Loop b fs v) → t ≡ y.1 =
    λ t fs v is. no_two (parts_of_class class.Loop S b) t y.1 (not_refused _ _ o) (loop_among_parts S t b fs v is) (loop_among_parts S y.1 b l.0 l.1 l.2) in
    let body_is : F.body ≡ kill.body = sym F.owner_is ∙ y.4 in
    let q_is : F.q ≡ q_at S kill.shell = sym F.q_is ∙ ap (q_at S) y.3 in
    let l_is = in_face-is S y.1 b a l.0 l.1 l.2 in
    subst IsWell
    (λ i. S with (y.5 i, (sym l_is ∙ ap (λ t. in_face S t a) y.5) i) ∷ (y.3 i, Shell (body_is i) (q_is i -ℤ pos 1)) ∷ [] without b ∷ [])
    (face-killed S well y.1 a b x.0 x.1 y.0 l.0 l.1 x.2 y.2 l.2 only (differs_means a b (not_refused _ _ n)) one_body))))))
