-- kfmrh, and then mfkrh.
use Rattle.std.proofs.Common.{◌≡◌, ◌≢◌, ◌+◌, ◌≤◌, ◌⊎◌, inl, inr, ⊎_elim, Bool, true, false, cond, not, List, [], ◌∷◌, ◌++◌, drop, take, length, Option, Some, None, Result, Ok, refl, sym, ap, subst, ◌∙◌, arith}
use Rattle.std.specs.Prelude.{T, ℤ, pos, ◌+ℤ◌, ◌-ℤ◌, IsOk, map, option_map, Contains}
use Rattle.std.specs.Option.{option_map_or}
use Rattle.std.specs.List.{AllByRecursion}
use Rattle.std.proofs.lemmas.Bool.{not-false}
use Rattle.std.proofs.lemmas.Int.{ints}
use Rattle.pk_base.specs.Blocks.{tag}
use Rattle.pk_base.specs.Entity.{same_tag}
use Rattle.pk_base.specs.declared.tag.Tag.{Tag}
use Rattle.pk_base.specs.declared.call.Call.TheVariants as call
use Rattle.pk_base.specs.declared.entity.Class.{Class}
use Rattle.pk_base.specs.declared.entity.Class.TheVariants as class
use Rattle.pk_base.specs.declared.refusal.Refusal.TheVariants.{HasRings, IsOuter, NotOneBody, SameFace}
use Rattle.pk_base.proofs.Same.{differs_means, not_same, same_means, same_or_other}
use Rattle.pk_model.specs.Apart.{NoRepeats}
use Rattle.pk_model.specs.Maps.{EntityMap, tag_cmp}
use Rattle.pk_model.specs.Step.{◌>>=◌}
use Rattle.pk_model.specs.Tags.{tag_at}
use Rattle.pk_model.proofs.TagLists.{NoneOf}
use Rattle.std.specs.FinMap.{is_sorted}
use Rattle.list_facts.proofs.Each.{ByRecursion-contains}
use Rattle.solid_model.specs.Items.{Item, Shape, item_at, class_of_item, ◌with◌}
use Rattle.solid_model.specs.Items.Item.{Body, Shell, Face, Loop, Fin, Edge, Vertex, Attr}
use Rattle.solid_model.specs.Deaths.{is_attribute_of, ◌without◌}
use Rattle.solid_model.specs.Owners.{body_of, has_rings, owner_in}
use Rattle.solid_model.specs.Rows.{Row, changes, cost_of, makes_one, refuse_where, ◌>>◌}
use Rattle.solid_model.specs.Places.{PlacedFace, PlacedLoop, as_loop, asked, face_at, in_face, loop_at, outer_at, outer_of, placed_loop, q_at}
use Rattle.solid_model.specs.Shapes.{shape_of}
use Rattle.solid_model.specs.Sound.{class_at, optional}
use Rattle.solid_model.specs.Kfmrh.{kfmrh}
use Rattle.solid_model.specs.Mfkrh.{mfkrh}
use Rattle.solid_sound.proofs.shapes.Bodies.{item_of_class}
use Rattle.solid_sound.proofs.shapes.Edits.{Edits, class_apart, live-none_of, written}
use Rattle.solid_sound.proofs.shapes.Lookups.{Items, with-other, with-sorted, with-written}
use Rattle.solid_sound.proofs.shapes.Reading.{fin_in}
use Rattle.solid_sound.proofs.rows.RowKeeps.{IsWell, not_refused, well-shape}
use Rattle.solid_sound.proofs.rows.KeptKfmrh.{kfmrh-keeps}
use Rattle.solid_sound.proofs.rows.KeptMfkrh.{mfkrh-keeps}
use Rattle.solid_sound.proofs.rows.KeptRings.{FaceIn, asked_face, face_in, in_face-is}
use Rattle.solid_calls.specs.Pairs.{reached, row_on}
use Rattle.solid_calls.proofs.Kept.{reached-well}
use Rattle.solid_calls.proofs.RowKinds.{cost-changing, kfmrh-changes}
use Rattle.solid_edits.proofs.Going.{goes-on, goes-past}
use Rattle.euler_make.proofs.MfkrhFound.{mfkrh-cost}
use Rattle.euler_kill.proofs.KfmrhFound.{KillsFace, kills}
use Rattle.euler_laws.specs.Both.{GivesBackButNames, MayFollow}
use Rattle.solid_model.specs.SameButNames.{IsTurned, SameButNames, SameIfAny, SameItem, but_attributes}
use Rattle.euler_laws.proofs.AnewNames.{item-same, left-without, live-both, pairs-once, same-anew}
use Rattle.euler_laws.proofs.Carrying.{cost-changed}
use Rattle.euler_laws.proofs.GivenBack.{killed-none, spared}
use Rattle.euler_laws.proofs.Laws.{free-items, gives-back-names}
use Rattle.euler_laws.proofs.Renamings.{Pairs, both_of, renamed, renamed-pair}
use Rattle.euler_laws.proofs.SameNames.{as-turned, map-fixed, option-fixed}
use Rattle.euler_laws.proofs.TurnedLists.{turned-itself}

q_again : (q : ℤ) → (q -ℤ pos 1) +ℤ pos 1 ≡ q
q_again q = omega (arith, ints)

-- The face b, of the loop l alone, is killed, so that l is a ring of the face a; and then l becomes the loop of the new face t.
module _ (S : Shape) (well : IsWell S) (a b l shell outer body : Tag) (q : ℤ) (fins : List Tag) (vertex : Option Tag)
    (l_is : item_at S l ≡ Some (Loop b fins vertex)) (b_is : item_at S b ≡ Some (Face shell l)) (a_is : item_at S a ≡ Some (Face shell outer)) (shell_is : item_at S shell ≡ Some (Shell body q))
    (other : a ≢ b) (t : Tag) (free : item_at S t ≡ None) where
  abbrev ks : List Tag
  ks = b ∷ []

  abbrev cut : Items
  cut = (l, Loop a fins vertex) ∷ (shell, Shell body (q -ℤ pos 1)) ∷ []

  abbrev pub holed : Shape
  holed = S with cut without ks

  class_is : (u : Tag) (x : Item) → item_at S u ≡ Some x → option_map class_of_item (item_at S u) ≡ Some (class_of_item x)
  class_is u x is = ap (option_map class_of_item) is

  apart : (u w : Tag) (x y : Item) → item_at S u ≡ Some x → item_at S w ≡ Some y → class_of_item x ≢ class_of_item y → u ≢ w
  apart u w x y is also differ = class_apart S u w (class_of_item x) (class_of_item y) (class_is u x is) (class_is w y also) differ

  l_shell : l ≢ shell
  l_shell = apart l shell _ _ l_is shell_is (λ h. cc)

  b_l : b ≢ l
  b_l = apart b l _ _ b_is l_is (λ h. cc)

  b_shell : b ≢ shell
  b_shell = apart b shell _ _ b_is shell_is (λ h. cc)

  a_l : a ≢ l
  a_l = apart a l _ _ a_is l_is (λ h. cc)

  a_shell : a ≢ shell
  a_shell = apart a shell _ _ a_is shell_is (λ h. cc)

  new_apart : (u : Tag) (x : Item) → item_at S u ≡ Some x → u ≢ t
  new_apart u x is = (live-none_of S (t ∷ []) u x (free, tt) is).0

  sorted_cut : T (is_sorted tag_cmp (S with cut))
  sorted_cut = with-sorted S cut well.written.ascends

  cut_once : NoRepeats (l ∷ shell ∷ [])
  cut_once = ((l_shell, tt), (tt, tt))

  left_at : (u : Tag) → u ≢ b → u ≢ l → u ≢ shell → item_at holed u ≡ but_attributes ks (item_at S u)
  left_at u nb nl ns = left-without (S with cut) ks sorted_cut u (nb, tt) ∙ ap (but_attributes ks) (with-other S cut u (nl, (ns, tt)))

  l_left : item_at holed l ≡ Some (Loop a fins vertex)
  l_left =
      let there : item_at (S with cut) l ≡ Some (Loop a fins vertex) = with-written S cut l _ cut_once (0, omega arith, refl) in
      spared (S with cut) ks sorted_cut l ((λ h. b_l (sym h)), tt) (λ x h. let same : x ≡ Loop a fins vertex = let both : Some x ≡ Some (Loop a fins vertex) = sym h ∙ there in cc in ap (is_attribute_of ks) same) ∙ there

  shell_left : item_at holed shell ≡ Some (Shell body (q -ℤ pos 1))
  shell_left =
      let there : item_at (S with cut) shell ≡ Some (Shell body (q -ℤ pos 1)) = with-written S cut shell _ cut_once (1, omega arith, refl) in
      spared (S with cut) ks sorted_cut shell ((λ h. b_shell (sym h)), tt) (λ x h. let same : x ≡ Shell body (q -ℤ pos 1) = let both : Some x ≡ Some (Shell body (q -ℤ pos 1)) = sym h ∙ there in cc in ap (is_attribute_of ks) same) ∙ there

  a_left : item_at holed a ≡ Some (Face shell outer)
  a_left = left_at a other a_l a_shell ∙ ap (but_attributes ks) a_is

  b_gone : item_at holed b ≡ None
  b_gone = killed-none (S with cut) ks sorted_cut b (0, omega arith, refl)

  pub t_free : item_at holed t ≡ None
  t_free = left_at t (λ h. new_apart b _ b_is (sym h)) (λ h. new_apart l _ l_is (sym h)) (λ h. new_apart shell _ shell_is (sym h)) ∙ ap (but_attributes ks) free

  -- the loop is a ring
  l_ring : l ≢ outer
  l_ring h =
      let o = well.sound.outer a shell outer a_is in
      let both : Some (Loop b fins vertex) ≡ Some (Loop a o.0 o.1) = sym l_is ∙ ap (item_at S) h ∙ o.2 in
      let same : b ≡ a = cc in
      other (sym same)

  -- ---- the new face

  abbrev xs : Items
  xs = (t, Face shell l) ∷ (l, Loop t fins vertex) ∷ (shell, Shell body q) ∷ []

  abbrev pub filled : Shape
  filled = holed with xs

  module _ (cut_well : IsWell holed) where
    abbrev after : PlacedLoop → Row
    after r = refuse_where (same_tag l r.outer) (IsOuter l) >> makes_one (λ face. holed with (face, Face r.shell l) ∷ (l, in_face holed l face) ∷ (r.shell, Shell r.body (q_at holed r.shell +ℤ pos 1)) ∷ [])

    pub row : mfkrh holed l ≡ makes_one (λ face. holed with (face, Face shell l) ∷ (l, Loop face fins vertex) ∷ (shell, Shell body q) ∷ [])
    row =
        let G = face_in holed cut_well a shell outer a_left in
        let both : Some (Shell G.body G.q) ≡ Some (Shell body (q -ℤ pos 1)) = sym G.shell_is ∙ shell_left in
        let body_is : G.body ≡ body = cc in
        let q_is : G.q ≡ q -ℤ pos 1 = cc in
        let outer_is : same_tag l (outer_at holed a) ≡ false = ap (same_tag l) G.outer_is ∙ not_same l outer l_ring in
        let number : q_at holed shell +ℤ pos 1 ≡ q = ap (λ n. n +ℤ pos 1) (G.q_is ∙ q_is) ∙ q_again q in
        ap (λ r. r >>= after) (ap (asked (as_loop holed) l) l_left)
        ∙ ap (λ c. refuse_where c (IsOuter l) >> makes_one (λ face. holed with (face, Face (owner_in holed a) l) ∷ (l, in_face holed l face) ∷ (owner_in holed a, Shell (body_of holed a) (q_at holed (owner_in holed a) +ℤ pos 1)) ∷ [])) outer_is
        ∙ ap (λ s. makes_one (λ face. holed with (face, Face s l) ∷ (l, in_face holed l face) ∷ (s, Shell (body_of holed a) (q_at holed s +ℤ pos 1)) ∷ [])) G.shell_of
        ∙ (λ i. makes_one (λ face. holed with (face, Face shell l) ∷ (l, in_face-is holed l a face fins vertex l_left i) ∷ (shell, Shell ((G.face_body ∙ body_is) i) (number i)) ∷ []))

    change : Edits holed filled xs []
    change = written holed xs cut_well.written.ascends (((λ h. new_apart l _ l_is (sym h)), ((λ h. new_apart shell _ shell_is (sym h)), tt)), ((l_shell, tt), (tt, tt)))

    t_is : item_at filled t ≡ Some (Face shell l)
    t_is = change.news t _ (0, omega arith, refl)

    l_now : item_at filled l ≡ Some (Loop t fins vertex)
    l_now = change.news l _ (1, omega arith, refl)

    shell_now : item_at filled shell ≡ Some (Shell body q)
    shell_now = change.news shell _ (2, omega arith, refl)

    other_at : (u : Tag) → u ≢ t → u ≢ l → u ≢ shell → item_at filled u ≡ item_at holed u
    other_at u nt nl ns = with-other holed xs u (nt, (nl, (ns, tt)))

    abbrev pairs : Pairs
    pairs = (b, t) ∷ []

    pairs_once : NoRepeats (both_of pairs)
    pairs_once = (((new_apart b _ b_is), tt), (tt, tt))

    module _ (made : IsWell filled) where
      dead : AllByRecursion (λ (p : Tag × Tag). item_at filled p.0 ≡ None) pairs
      dead = (other_at b (new_apart b _ b_is) b_l b_shell ∙ b_gone, tt)

      new : AllByRecursion (λ (p : Tag × Tag). item_at S p.1 ≡ None) pairs
      new = (free, tt)

      fixed : (u : Tag) (x y : Item) → item_at S u ≡ Some x → item_at filled u ≡ Some y → renamed pairs u ≡ u
      fixed u x y is now = live-both S filled well made pairs pairs_once dead new u x y is now

      -- what is neither a face nor a loop nor a shell, nor an attribute, is as it was
      there : (u : Tag) (c : Class) → class_at S u ≡ Some c → c ≢ class.Face → c ≢ class.Loop → c ≢ class.Shell → c ≢ class.Attr → renamed pairs u ≡ u
      there u c h nf nl ns na =
          let x = item_of_class (item_at S u) c h in
          let plain : is_attribute_of ks x.0 ≡ false = no_attribute x.0 (λ k. na (sym x.2 ∙ k)) in
          fixed u x.0 x.0 x.1
          (other_at u (new_apart u x.0 x.1) (class_apart S u l c class.Loop h (class_is l _ l_is) nl) (class_apart S u shell c class.Shell h (class_is shell _ shell_is) ns)
          ∙ left_at u (class_apart S u b c class.Face h (class_is b _ b_is) nf) (class_apart S u l c class.Loop h (class_is l _ l_is) nl) (class_apart S u shell c class.Shell h (class_is shell _ shell_is) ns)
          ∙ ap (but_attributes ks) x.1 ∙ ap (λ k. cond k None (Some x.0)) plain)
        where
          no_attribute : (x : Item) → class_of_item x ≢ class.Attr → is_attribute_of ks x ≡ false
          no_attribute (Attr owner name value) h = absurd (h refl)
          no_attribute (Body shell) h = refl
          no_attribute (Shell body q) h = refl
          no_attribute (Face shell outer) h = refl
          no_attribute (Loop face fins vertex) h = refl
          no_attribute (Fin mate edge vertex) h = refl
          no_attribute (Edge body) h = refl
          no_attribute (Vertex body point) h = refl

      r_l : renamed pairs l ≡ l
      r_l = fixed l _ _ l_is l_now

      r_shell : renamed pairs shell ≡ shell
      r_shell = fixed shell _ _ shell_is shell_now

      r_b : renamed pairs b ≡ t
      r_b = (renamed-pair pairs pairs_once (b, t) (0, omega arith, refl)).0

      named : class_at S b ≡ Some class.Face
      named = class_is b _ b_is

      r_fins : map (renamed pairs) fins ≡ fins
      r_fins = map-fixed (renamed pairs) fins (ByRecursion-contains (λ u. renamed pairs u ≡ u) fins (λ u k.
          let x = fin_in S well.written well.sound l b fins vertex l_is u k in
          there u class.Fin (class_is u _ x.3) (λ h. cc) (λ h. cc) (λ h. cc) (λ h. cc)))

      r_vertex : option_map (renamed pairs) vertex ≡ vertex
      r_vertex = option-fixed (renamed pairs) vertex (each vertex (well.sound.names.kinds l _ l_is).2)
        where
          each : (o : Option Tag) → AllByRecursion (λ u. class_at S u ≡ Some class.Vertex) (optional o) → AllByRecursion (λ u. renamed pairs u ≡ u) (optional o)
          each None h = tt
          each (Some u) h = (there u class.Vertex h.0 (λ k. cc) (λ k. cc) (λ k. cc) (λ k. cc), tt)

      both : (u w : Tag) (x y : Item) → item_at S u ≡ Some x → item_at filled w ≡ Some y → SameItem (renamed pairs) x y → SameIfAny (renamed pairs) (item_at S u) (item_at filled w)
      both u w x y is now same = subst (λ (o : Option Item × Option Item). SameIfAny (renamed pairs) o.0 o.1) (λ i. (sym is i, sym now i)) same

      others : (u : Tag) → NoneOf u ks → NoneOf u (t ∷ []) → SameIfAny (renamed pairs) (item_at S u) (item_at filled u) ⊎ (item_at filled u ≡ but_attributes ks (item_at S u))
      others u none new_of = ⊎_elim {C = SameIfAny (renamed pairs) (item_at S u) (item_at filled u) ⊎ (item_at filled u ≡ but_attributes ks (item_at S u))}
          (λ (same : u ≡ l). inl (subst (λ w. SameIfAny (renamed pairs) (item_at S w) (item_at filled w)) (sym same)
          (both l l _ _ l_is l_now (fins, subst (λ ts. IsTurned ts fins) (sym r_fins) (as-turned (turned-itself fins)), (λ i. Loop (sym r_b i) fins (sym r_vertex i))))))
          (λ (nl : u ≢ l). ⊎_elim {C = SameIfAny (renamed pairs) (item_at S u) (item_at filled u) ⊎ (item_at filled u ≡ but_attributes ks (item_at S u))}
          (λ (same : u ≡ shell). inl (subst (λ w. SameIfAny (renamed pairs) (item_at S w) (item_at filled w)) (sym same)
          (both shell shell _ _ shell_is shell_now (item-same S filled well made pairs pairs_once dead new shell _ shell_is shell_now))))
          (λ (ns : u ≢ shell). inr (other_at u new_of.0 nl ns ∙ left_at u none.0 nl ns))
          (same_or_other u shell))
          (same_or_other u l)

      pub face-anew : SameButNames (b ∷ []) (t ∷ []) S filled
      face-anew = same-anew S filled well made pairs pairs_once dead new (both b t _ _ b_is t_is (λ i. Face (sym r_shell i) (sym r_l i)), tt) others

-- ---- the law

kfmrh-mfkrh_at : (m : EntityMap) (a b t : Tag) (rest : List Tag) → MayFollow m (call.Kfmrh a b) 1 (t ∷ rest) → GivesBackButNames m (call.Kfmrh a b) (call.Mfkrh (outer_at (shape_of m) b)) (t ∷ rest) (b ∷ []) (t ∷ [])
kfmrh-mfkrh_at m a b t rest may =
    let S = shape_of m in
    let tags = t ∷ rest in
    let well = well-shape m may.sound in
    let free = free-items m may.sound tags may.free in
    let ga = goes-on (face_at S a) _ may.goes in
    let gb = goes-on (face_at S b) _ ga.goes in
    let c = goes-past (refuse_where (same_tag a b) (SameFace a)) _ gb.goes in
    let d = goes-past (refuse_where (not (same_tag ga.found.body gb.found.body)) (NotOneBody ga.found.body gb.found.body)) _ c.goes in
    let other : a ≢ b = differs_means a b (not_refused (same_tag a b) (SameFace a) c.is) in
    let bodies : ga.found.body ≡ gb.found.body = same_means ga.found.body gb.found.body (not-false (same_tag ga.found.body gb.found.body) (not_refused (not (same_tag ga.found.body gb.found.body)) (NotOneBody ga.found.body gb.found.body) d.is)) in
    let k = kills S well a b gb.found gb.is may.goes in
    let x = asked_face S a (item_at S a) ga.found ga.is in
    let y = asked_face S b (item_at S b) gb.found gb.is in
    let F = face_in S well a x.0 x.1 x.2 in
    let G = face_in S well b y.0 y.1 y.2 in
    let body_same : F.body ≡ G.body = sym F.owner_is ∙ x.4 ∙ bodies ∙ sym y.4 ∙ G.owner_is in
    let shells : Some (Body x.0) ≡ Some (Body y.0) = sym F.body_is ∙ ap (item_at S) body_same ∙ G.body_is in
    let shell_same : x.0 ≡ y.0 = cc in
    let a_is : item_at S a ≡ Some (Face gb.found.shell x.1) = x.2 ∙ ap (λ s. Some (Face s x.1)) (shell_same ∙ y.3) in
    let l = gb.found.outer in
    let shell = gb.found.shell in
    let R = holed S well a b l shell x.1 k.body k.q k.fins k.vertex k.loop_is k.kill_is a_is k.shell_is other t free.0 in
    let first : reached S tags (kfmrh S a b) ≡ R = ap (reached S tags) k.row_is in
    let none : cost_of (kfmrh S a b) ≡ 0 = cost-changing (kfmrh S a b) (kfmrh-changes S a b) in
    let cut : IsWell R = subst IsWell first (reached-well S tags (kfmrh S a b) well (omega (arith, none)) (kfmrh-keeps S tags a b well)) in
    let row_is = row S well a b l shell x.1 k.body k.q k.fins k.vertex k.loop_is k.kill_is a_is k.shell_is other t free.0 cut in
    let Q = filled S well a b l shell x.1 k.body k.q k.fins k.vertex k.loop_is k.kill_is a_is k.shell_is other t free.0 in
    let goes : IsOk (mfkrh R l) = subst IsOk (sym row_is) refl in
    let cost : cost_of (mfkrh R l) ≡ 1 = mfkrh-cost R l goes in
    let made : IsWell Q = subst IsWell (ap (reached R (t ∷ [])) row_is) (reached-well R (t ∷ []) (mfkrh R l) cut (let fits : length (t ∷ []) ≡ 1 = refl in omega (arith, cost, fits))
    (mfkrh-keeps R (t ∷ []) l cut (λ more. t_free S well a b l shell x.1 k.body k.q k.fins k.vertex k.loop_is k.kill_is a_is k.shell_is other t free.0))) in
    let same = face-anew S well a b l shell x.1 k.body k.q k.fins k.vertex k.loop_is k.kill_is a_is k.shell_is other t free.0 cut made in
    let law : GivesBackButNames m (call.Kfmrh a b) (call.Mfkrh l) tags (b ∷ []) (t ∷ []) = gives-back-names m (call.Kfmrh a b) (call.Mfkrh l) tags (b ∷ []) (t ∷ []) R Q may.sound first cut goes
    (ap (λ n. reached R (drop n tags) (mfkrh R l)) (cost-changed m (call.Kfmrh a b) (kfmrh-changes S a b)) ∙ ap (reached R tags) row_is) made same in
    let outer_is : outer_at S b ≡ l = G.outer_is ∙ y.5 in
    subst (λ u. GivesBackButNames m (call.Kfmrh a b) (call.Mfkrh u) tags (b ∷ []) (t ∷ [])) (sym outer_is) law

pub kfmrh-mfkrh : (m : EntityMap) (a b : Tag) (tags : List Tag) → MayFollow m (call.Kfmrh a b) 1 tags → GivesBackButNames m (call.Kfmrh a b) (call.Mfkrh (outer_at (shape_of m) b)) tags (b ∷ []) (take 1 tags)
kfmrh-mfkrh m a b [] may = absurd (let h = may.enough in omega (arith, h))
kfmrh-mfkrh m a b (t ∷ rest) may = kfmrh-mfkrh_at m a b t rest may
