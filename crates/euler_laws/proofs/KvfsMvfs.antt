-- kvfs, and then mvfs.
use Rattle.std.proofs.Common.{◌≡◌, ◌≢◌, ℕ, ◌+◌, ◌≤◌, ◌⊎◌, inr, ⊎_elim, Bool, true, false, cond, if◌then◌else◌, not, ◌&&◌, List, [], ◌∷◌, ◌++◌, drop, take, length, Option, Some, None, refl, sym, ap, subst, ◌∙◌, arith}
use Rattle.std.specs.Prelude.{T, ℤ, pos, ◌+ℤ◌, ◌-ℤ◌, ◌*ℤ◌, IsOk, nat_lt, map, filter, option_map, unwrap_or, Contains}
use Rattle.std.specs.Option.{option_map_or}
use Rattle.std.specs.List.{AllByRecursion, count_by, sum_by}
use Rattle.std.specs.FinMap.{is_sorted}
use Rattle.std.specs.FinMap.Entries.{below_all}
use Rattle.std.proofs.lemmas.Bool.Decides.{nat_tests}
use Rattle.std.proofs.lemmas.Int.{ints}
use Rattle.std.proofs.lemmas.List.Elements.{Contains-append_cases, Contains-append_left, Contains-append_right}
use Rattle.pk_base.specs.Entity.{same_tag}
use Rattle.pk_base.specs.declared.tag.Tag.{Tag}
use Rattle.pk_base.specs.declared.call.Call.TheVariants as call
use Rattle.pk_base.specs.declared.entity.Class.{Class}
use Rattle.pk_base.specs.declared.entity.Class.TheVariants as class
use Rattle.pk_base.specs.declared.entity.Name.{Name}
use Rattle.pk_base.specs.declared.entity.Triple.{Triple}
use Rattle.pk_base.proofs.Same.{same_itself, same_means}
use Rattle.pk_model.specs.Apart.{NoRepeats}
use Rattle.pk_model.specs.Maps.{EntityMap, tag_cmp}
use Rattle.pk_model.specs.Tags.{TagsAscend}
use Rattle.pk_model.proofs.TagLists.{NoneOf, NoRepeats-take}
use Rattle.list_facts.proofs.Elements.{Contains-filter, Contains-first, Contains-later, Contains-map, filter_contains, map_contains, not_in_nil}
use Rattle.list_facts.proofs.Each.{ByRecursion-at, ByRecursion-contains, ByRecursion-take}
use Rattle.solid_model.specs.Items.{Item, Shape, item_at, class_of_item, ◌with◌}
use Rattle.solid_model.specs.Items.Item.{Body, Shell, Face, Loop, Fin, Edge, Vertex, Attr}
use Rattle.solid_model.specs.Deaths.{◌without◌}
use Rattle.solid_model.specs.Rings.{first_tag, is_among}
use Rattle.solid_model.specs.Owners.{all_in_body, body_of, number_in_body, same_class}
use Rattle.solid_model.specs.Rows.{changes, cost_of, makes_five, ◌>>◌}
use Rattle.solid_model.specs.Places.{body_at, point_at, point_of_vertex, the_origin}
use Rattle.solid_model.specs.Shapes.{shape_of}
use Rattle.solid_model.specs.Sound.{MeetsEulerPoincare, class_at}
use Rattle.solid_model.specs.Kvfs.{kvfs}
use Rattle.solid_model.specs.Mvfs.{mvfs}
use Rattle.solid_model.proofs.lists.Neighbours.{among_or_none, both_parts, is_among-in, not_among}
use Rattle.solid_sound.proofs.shapes.AttributeBodies.{attribute-body}
use Rattle.solid_sound.proofs.shapes.Edits.{Edits, live-none_of, written}
use Rattle.solid_sound.proofs.shapes.Found.{among-item, item-among}
use Rattle.solid_sound.proofs.shapes.Lookups.{Items, filter-sorted, with-other}
use Rattle.solid_sound.proofs.shapes.Reading.{below_all-differs}
use Rattle.solid_sound.proofs.shapes.Sums.{sum-but, sum-nothing, weight_at}
use Rattle.solid_sound.proofs.rows.RowKeeps.{IsWell, well-shape}
use Rattle.solid_sound.proofs.rows.KeptDeaths.{kvfs-keeps}
use Rattle.solid_sound.proofs.rows.KeptMvfs.{mvfs-keeps}
use Rattle.solid_calls.specs.Pairs.{reached}
use Rattle.solid_calls.proofs.Kept.{reached-well}
use Rattle.solid_calls.proofs.RowKinds.{cost-changing, cost-making, kvfs-changes, mvfs-makes}
use Rattle.solid_edits.specs.BareParts.{AreBareParts, tags_of_parts}
use Rattle.solid_edits.specs.declared.bare_parts.BareParts.{BareParts}
use Rattle.solid_edits.proofs.Going.{goes-on}
use Rattle.euler_kill.proofs.KvfsFound.{IsBare, asked-body, lone-found, owner-part, part-or_attribute, parts-body, parts-once}
use Rattle.euler_kill.proofs.KvfsReached.{kills-body}
use Rattle.euler_laws.specs.Both.{GivesBackButNames, MayFollow}
use Rattle.solid_model.specs.SameButNames.{SameButNames, SameIfAny, SameItem, but_attributes}
use Rattle.euler_laws.specs.Operands.{bare_body, bare_vertex, point_of_body, triple_of}
use Rattle.euler_laws.proofs.AnewNames.{left-without, pairs-once, same-anew}
use Rattle.euler_laws.proofs.Carrying.{cost-changed}
use Rattle.euler_laws.proofs.GivenBack.{killed-none}
use Rattle.euler_laws.proofs.KevMev.{within-range}
use Rattle.euler_laws.proofs.Laws.{ascend-once, free-items, gives-back-names}
use Rattle.euler_laws.proofs.Renamings.{Pairs, both_of, renamed, renamed-pair}
use Rattle.euler_laws.proofs.SameNames.{is_among-by, same-wider}

-- ---- counting

-- an item that passes is counted
count-some : (p : Tag × Item → Bool) (S : Shape) → T (is_sorted tag_cmp S) → (t : Tag) (x : Item) → item_at S t ≡ Some x → p (t, x) ≡ true → 1 ≤ count_by p S
count-some p S sorted t x is passes =
    let w = λ (y : Tag × Item). cond {A = ℕ} (p y) 1 0 in
    let here : weight_at w S t ≡ 1 = ap (λ (o : Option Item). option_map_or (λ z. w (t, z)) o 0) is ∙ ap (λ c. cond {A = ℕ} c 1 0) passes in
    let all : count_by p S ≡ weight_at w S t + sum_by (λ y. cond {A = ℕ} (same_tag y.0 t) 0 (w y)) S = sum-but w S t sorted in
    omega (arith, here, all)

-- and is all that is counted where no other passes
count-one : (p : Tag × Item → Bool) (S : Shape) → T (is_sorted tag_cmp S) → (t : Tag) (x : Item) → item_at S t ≡ Some x → p (t, x) ≡ true → ((u : Tag) (y : Item) → item_at S u ≡ Some y → p (u, y) ≡ true → u ≡ t) → count_by p S ≡ 1
count-one p S sorted t x is passes only =
    let w = λ (y : Tag × Item). cond {A = ℕ} (p y) 1 0 in
    let here : weight_at w S t ≡ 1 = ap (λ (o : Option Item). option_map_or (λ z. w (t, z)) o 0) is ∙ ap (λ c. cond {A = ℕ} c 1 0) passes in
    let all : count_by p S ≡ weight_at w S t + sum_by (λ y. cond {A = ℕ} (same_tag y.0 t) 0 (w y)) S = sum-but w S t sorted in
    let rest : sum_by (λ y. cond {A = ℕ} (same_tag y.0 t) 0 (w y)) S ≡ 0 = sum-nothing (λ y. cond {A = ℕ} (same_tag y.0 t) 0 (w y)) S sorted (λ u y e. by_tag u (p (u, y)) (only u y e)) in
    omega (arith, here, all, rest)
  where
    by_tag : (u : Tag) (b : Bool) → (b ≡ true → u ≡ t) → cond {A = ℕ} (same_tag u t) 0 (cond {A = ℕ} b 1 0) ≡ 0
    by_tag u true h = ap (λ c. cond {A = ℕ} c 0 1) (ap (λ v. same_tag v t) (h refl) ∙ same_itself t)
    by_tag u false h = zero_either (same_tag u t)
      where
        zero_either : (c : Bool) → cond {A = ℕ} c 0 0 ≡ 0
        zero_either true = refl
        zero_either false = refl

not_one : (n : ℕ) → nat_lt 1 n ≡ false → n ≤ 1
not_one n h = grind (arith, nat_tests)

not_any : (n : ℕ) → nat_lt 0 n ≡ false → n ≡ 0
not_any n h = grind (arith, nat_tests)

-- one item alone is left of a shape
only-one : (F : Shape) (l : Tag) → T (is_sorted tag_cmp F) → ((x : Tag × Item) → Contains F x → x.0 ≡ l) → (y : Tag × Item) → Contains F y → map (λ (x : Tag × Item). x.0) F ≡ l ∷ []
only-one [] l sorted all y k = absurd (not_in_nil y k)
only-one (x ∷ []) l sorted all y k = ap (λ t. t ∷ []) (all x (Contains-first x []))
only-one (x ∷ z ∷ F) l sorted all y k =
    let apart = below_all-differs x.0 (z ∷ F) (both_parts (below_all tag_cmp x.0 (z ∷ F)) (is_sorted tag_cmp (z ∷ F)) sorted).0 in
    absurd (apart.0 (all x (Contains-first x (z ∷ F)) ∙ sym (all z (Contains-later x (z ∷ F) z (Contains-first z F)))))

q_one : (q : ℤ) → pos 2 ≡ pos 2 *ℤ q → q ≡ pos 1
q_one q h = omega (arith, ints, h)

-- ---- a body of one vertex

module _ (S : Shape) (well : IsWell S) (p : BareParts) (are : AreBareParts S p) (bare : IsBare S p.body) where
  abbrev five : List Tag
  five = tags_of_parts p

  abbrev ks : List Tag
  ks = all_in_body S p.body

  abbrev stands : Class → Tag × Item → Bool
  stands c x = same_class (class_of_item x.1) c && same_tag (body_of S x.0) p.body

  here : (t : Tag) → Contains five t → same_tag (body_of S t) p.body ≡ true
  here t k = ap (λ u. same_tag u p.body) (parts-body S well p are t k) ∙ same_itself p.body

  -- a vertex of the body is its one
  pub only_vertex : (t : Tag) (x : Item) → item_at S t ≡ Some x → stands class.Vertex (t, x) ≡ true → t ≡ p.vertex
  only_vertex t (Vertex body point) is h =
      ⊎_elim {C = t ≡ p.vertex}
      (λ (l : Contains five t). ByRecursion-at (λ u. class_at S u ≡ Some class.Vertex → u ≡ p.vertex) five t by_part l (ap (option_map class_of_item) is))
      (λ (r : (o : Tag) × (name : Name) × (value : ℤ) × (Vertex body point ≡ Attr o name value)). let e = r.3 in absurd (cc))
      (part-or_attribute S well p are bare t (Vertex body point) is (same_means (body_of S t) p.body h))
    where
      other : (u : Tag) (y : Item) (c : Class) → item_at S u ≡ Some y → class_of_item y ≡ c → c ≢ class.Vertex → class_at S u ≡ Some class.Vertex → u ≡ p.vertex
      other u y c e same differ v = let both : Some (class_of_item y) ≡ Some class.Vertex = sym (ap (option_map class_of_item) e) ∙ v in let k : class_of_item y ≡ class.Vertex = cc in absurd (differ (sym same ∙ k))

      by_part : AllByRecursion (λ u. class_at S u ≡ Some class.Vertex → u ≡ p.vertex) (tags_of_parts p)
      by_part = (other p.body _ class.Body are.body_is refl (λ k. cc), (other p.shell _ class.Shell are.shell_is refl (λ k. cc), (other p.face _ class.Face are.face_is refl (λ k. cc), (other p.loop_ _ class.Loop are.loop_is refl (λ k. cc), ((λ k. refl), tt)))))
  only_vertex t (Body shell) is h = absurd (cc)
  only_vertex t (Shell body q) is h = absurd (cc)
  only_vertex t (Face shell outer) is h = absurd (cc)
  only_vertex t (Loop face fins vertex) is h = absurd (cc)
  only_vertex t (Fin mate edge vertex) is h = absurd (cc)
  only_vertex t (Edge body) is h = absurd (cc)
  only_vertex t (Attr owner name value) is h = absurd (cc)

  one_vertex : number_in_body class.Vertex S p.body ≡ 1
  one_vertex = count-one (stands class.Vertex) S well.written.ascends p.vertex _ are.vertex_is (here p.vertex (4, omega arith, refl)) only_vertex

  one_face : number_in_body class.Face S p.body ≡ 1
  one_face =
      let some = count-some (stands class.Face) S well.written.ascends p.face _ are.face_is (here p.face (2, omega arith, refl)) in
      let most = not_one (number_in_body class.Face S p.body) bare.faces in
      omega (arith, some, most)

  one_loop : number_in_body class.Loop S p.body ≡ 1
  one_loop =
      let some = count-some (stands class.Loop) S well.written.ascends p.loop_ _ are.loop_is (here p.loop_ (3, omega arith, refl)) in
      let most = not_one (number_in_body class.Loop S p.body) bare.loops in
      omega (arith, some, most)

  no_edge : number_in_body class.Edge S p.body ≡ 0
  no_edge = not_any (number_in_body class.Edge S p.body) bare.edges

  pub q_is : are.q ≡ pos 1
  q_is =
      let formula : MeetsEulerPoincare S p.body are.q = well.sound.measure.formula p.body p.shell are.q are.body_is are.shell_is in
      q_one are.q ((λ i. ((pos (sym one_vertex i) -ℤ pos (sym no_edge i)) +ℤ pos (sym one_face i)) -ℤ (pos (sym one_loop i) -ℤ pos (sym one_face i))) ∙ formula)

  pub vertex_is : bare_vertex S p.body ≡ p.vertex
  vertex_is =
      let F = filter (stands class.Vertex) S in
      let list = only-one F p.vertex (filter-sorted (stands class.Vertex) S well.written.ascends)
      (λ x k. let in_S = filter_contains (stands class.Vertex) S x k in only_vertex x.0 x.1 (among-item S well.written.ascends x.0 x.1 in_S.0) in_S.1)
      (p.vertex, Vertex p.body are.point) (Contains-filter (stands class.Vertex) S (p.vertex, Vertex p.body are.point) (item-among S p.vertex _ are.vertex_is) (here p.vertex (4, omega arith, refl))) in
      ap (λ ts. unwrap_or (first_tag ts) p.body) list

  pub point_is : point_of_body S p.body ≡ triple_of are.point
  point_is = ap triple_of (ap (point_at S) vertex_is ∙ ap (λ (o : Option Item). option_map_or point_of_vertex o the_origin) are.vertex_is)

  -- ---- what dies

  dies : (t : Tag) (x : Item) → item_at S t ≡ Some x → body_of S t ≡ p.body → Contains ks t
  dies t x is same =
      let q = λ (y : Tag × Item). same_tag (body_of S y.0) p.body in
      Contains-map (λ (y : Tag × Item). y.0) (filter q S) (t, x) (Contains-filter q S (t, x) (item-among S t x is) (ap (λ u. same_tag u p.body) same ∙ same_itself p.body))

  dead : (t : Tag) → Contains ks t → (x : Item) × (item_at S t ≡ Some x) × (body_of S t ≡ p.body)
  dead t k =
      let q = λ (y : Tag × Item). same_tag (body_of S y.0) p.body in
      let y = map_contains (λ (y : Tag × Item). y.0) (filter q S) t k in
      let in_S = filter_contains q S y.0 y.1 in
      (y.0.1, ap (item_at S) (sym y.2) ∙ among-item S well.written.ascends y.0.0 y.0.1 in_S.0, ap (body_of S) (sym y.2) ∙ same_means (body_of S y.0.0) p.body in_S.1)

  part_dies : (t : Tag) → Contains five t → Contains ks t
  part_dies t k = ByRecursion-at (λ u. Contains ks u) five t (
    dies p.body _ are.body_is (parts-body S well p are p.body (0, omega arith, refl)),
    (
      dies p.shell _ are.shell_is (parts-body S well p are p.shell (1, omega arith, refl)),
      (
        dies p.face _ are.face_is (parts-body S well p are p.face (2, omega arith, refl)),
        (dies p.loop_ _ are.loop_is (parts-body S well p are p.loop_ (3, omega arith, refl)), (dies p.vertex _ are.vertex_is (parts-body S well p are p.vertex (4, omega arith, refl)), tt)),
      ),
    ),
  ) k

  -- what stands in the body and is no attribute is listed
  listed : (t : Tag) (x : Item) → item_at S t ≡ Some x → not (same_class (class_of_item x) class.Attr) ≡ true → body_of S t ≡ p.body → Contains (bare_body S p.body) t
  listed t x is plain same =
      let q = λ (y : Tag × Item). not (same_class (class_of_item y.1) class.Attr) && same_tag (body_of S y.0) p.body in
      Contains-map (λ (y : Tag × Item). y.0) (filter q S) (t, x) (Contains-filter q S (t, x) (item-among S t x is) ((λ i. plain i && same_tag (same i) p.body) ∙ same_itself p.body))

  part_listed : (t : Tag) → Contains five t → Contains (bare_body S p.body) t
  part_listed t k = ByRecursion-at (λ u. Contains (bare_body S p.body) u) five t (
    listed p.body _ are.body_is refl (parts-body S well p are p.body (0, omega arith, refl)),
    (
      listed p.shell _ are.shell_is refl (parts-body S well p are p.shell (1, omega arith, refl)),
      (
        listed p.face _ are.face_is refl (parts-body S well p are p.face (2, omega arith, refl)),
        (listed p.loop_ _ are.loop_is refl (parts-body S well p are p.loop_ (3, omega arith, refl)), (listed p.vertex _ are.vertex_is refl (parts-body S well p are p.vertex (4, omega arith, refl)), tt)),
      ),
    ),
  ) k

  abbrev pub emptied : Shape
  emptied = S without all_in_body S p.body

  -- what is left out with all that dies is left out with the five
  alike : (t : Tag) (o : Option Item) → item_at S t ≡ o → NoneOf t ks → but_attributes ks o ≡ but_attributes five o
  alike t None is none = refl
  alike t (Some (Attr owner name value)) is none =
      let out : ¬ (Contains ks owner) = λ k. none_not t ks none (dies t _ is (attribute-body S well t owner name value is ∙ (dead owner k).2)) in
      let all : is_among owner ks ≡ false = not_among owner ks out in
      let few : is_among owner five ≡ false = not_among owner five (λ k. out (part_dies owner k)) in
      ap (λ c. if c then None else Some (Attr owner name value)) (all ∙ sym few)
    where
      none_not : (u : Tag) (us : List Tag) → NoneOf u us → Contains us u → ⊥
      none_not u us n k = ByRecursion-at (λ z. u ≢ z) us u n k refl
  alike t (Some (Body shell)) is none = refl
  alike t (Some (Shell body q)) is none = refl
  alike t (Some (Face shell outer)) is none = refl
  alike t (Some (Loop face fins vertex)) is none = refl
  alike t (Some (Fin mate edge vertex)) is none = refl
  alike t (Some (Edge body)) is none = refl
  alike t (Some (Vertex body point)) is none = refl

  -- what dies and is no part is an attribute of one
  part_of_part : (t : Tag) → Contains ks t → NoneOf t five → but_attributes five (item_at S t) ≡ None
  part_of_part t k none =
      let x = dead t k in
      ⊎_elim {C = but_attributes five (item_at S t) ≡ None}
      (λ (l : Contains five t). absurd (ByRecursion-at (λ z. t ≢ z) five t none l refl))
      (λ (r : (o : Tag) × (name : Name) × (value : ℤ) × (x.0 ≡ Attr o name value)).
      let own = owner-part S well p are bare t r.0 r.1 r.2 (x.1 ∙ ap Some r.3) x.2 in
      ap (but_attributes five) (x.1 ∙ ap Some r.3) ∙ ap (λ c. if c then None else Some (Attr r.0 r.1 r.2)) (among r.0 own))
      (part-or_attribute S well p are bare t x.0 x.1 x.2)
    where
      among : (o : Tag) → Contains five o → is_among o five ≡ true
      among o m = is_among-in o five m

  left_at : (t : Tag) → NoneOf t five → item_at emptied t ≡ but_attributes five (item_at S t)
  left_at t none = ⊎_elim {C = item_at emptied t ≡ but_attributes five (item_at S t)}
      (λ (k : Contains ks t). killed-none S ks well.written.ascends t k ∙ sym (part_of_part t k none))
      (λ (n : NoneOf t ks). left-without S ks well.written.ascends t n ∙ alike t (item_at S t) refl n)
      (among_or_none t ks)

  -- ---- what is made anew

  module _ (t0 t1 t2 t3 t4 : Tag) (once : NoRepeats (t0 ∷ t1 ∷ t2 ∷ t3 ∷ t4 ∷ [])) (free : AllByRecursion (λ t. item_at S t ≡ None) (t0 ∷ t1 ∷ t2 ∷ t3 ∷ t4 ∷ [])) where
    abbrev new : List Tag
    new = t0 ∷ t1 ∷ t2 ∷ t3 ∷ t4 ∷ []

    new_apart : (t : Tag) → Contains five t → NoneOf t new
    new_apart t k = let x = dead t (part_dies t k) in live-none_of S new t x.0 free x.1

    pub still_free : AllByRecursion (λ t. item_at emptied t ≡ None) (t0 ∷ t1 ∷ t2 ∷ t3 ∷ t4 ∷ [])
    still_free = ByRecursion-contains (λ t. item_at emptied t ≡ None) new (λ t m.
        let none = ByRecursion-at (λ u. item_at S u ≡ None) new t free m in
        let off : NoneOf t five = ByRecursion-contains (λ u. t ≢ u) five (λ u k same. ByRecursion-at (λ z. u ≢ z) new t (new_apart u k) m (sym same)) in
        left_at t off ∙ ap (but_attributes five) none)

    abbrev xs : Items
    xs = (t0, Body t1) ∷ (t1, Shell t0 (pos 1)) ∷ (t2, Face t1 t3) ∷ (t3, Loop t2 [] (Some t4)) ∷ (t4, Vertex t0 are.point) ∷ []

    abbrev pub bodied : Shape
    bodied = emptied with xs

    module _ (cut : IsWell emptied) where
      change : Edits emptied bodied xs []
      change = written emptied xs cut.written.ascends once

      abbrev pairs : Pairs
      pairs = (p.body, t0) ∷ (p.shell, t1) ∷ (p.face, t2) ∷ (p.loop_, t3) ∷ (p.vertex, t4) ∷ []

      pairs_once : NoRepeats (both_of pairs)
      pairs_once = pairs-once S pairs ((_, are.body_is), ((_, are.shell_is), ((_, are.face_is), ((_, are.loop_is), ((_, are.vertex_is), tt))))) free (parts-once S well p are) once

      other_at : (t : Tag) → NoneOf t new → item_at bodied t ≡ item_at emptied t
      other_at t none = with-other emptied xs t none

      module _ (made : IsWell bodied) where
        gone : (t : Tag) → Contains five t → item_at bodied t ≡ None
        gone t k = other_at t (new_apart t k) ∙ killed-none S ks well.written.ascends t (part_dies t k)

        ends : AllByRecursion (λ (n : Tag × Tag). item_at bodied n.0 ≡ None) pairs
        ends = (gone p.body (0, omega arith, refl), (gone p.shell (1, omega arith, refl), (gone p.face (2, omega arith, refl), (gone p.loop_ (3, omega arith, refl), (gone p.vertex (4, omega arith, refl), tt)))))

        r_b : renamed pairs p.body ≡ t0
        r_b = (renamed-pair pairs pairs_once (p.body, t0) (0, omega arith, refl)).0

        r_s : renamed pairs p.shell ≡ t1
        r_s = (renamed-pair pairs pairs_once (p.shell, t1) (1, omega arith, refl)).0

        r_f : renamed pairs p.face ≡ t2
        r_f = (renamed-pair pairs pairs_once (p.face, t2) (2, omega arith, refl)).0

        r_l : renamed pairs p.loop_ ≡ t3
        r_l = (renamed-pair pairs pairs_once (p.loop_, t3) (3, omega arith, refl)).0

        r_v : renamed pairs p.vertex ≡ t4
        r_v = (renamed-pair pairs pairs_once (p.vertex, t4) (4, omega arith, refl)).0

        both : (t u : Tag) (z w : Item) → item_at S t ≡ Some z → item_at bodied u ≡ Some w → SameItem (renamed pairs) z w → SameIfAny (renamed pairs) (item_at S t) (item_at bodied u)
        both t u z w is now same = subst (λ (o : Option Item × Option Item). SameIfAny (renamed pairs) o.0 o.1) (λ i. (sym is i, sym now i)) same

        anew : AllByRecursion (λ (n : Tag × Tag). SameIfAny (renamed pairs) (item_at S n.0) (item_at bodied n.1)) pairs
        anew = (
          both p.body t0 _ _ are.body_is (change.news t0 _ (0, omega arith, refl)) (λ i. Body (sym r_s i)),
          (
            both p.shell t1 _ _ are.shell_is (change.news t1 _ (1, omega arith, refl)) (λ i. Shell (sym r_b i) (sym q_is i)),
            (
              both p.face t2 _ _ are.face_is (change.news t2 _ (2, omega arith, refl)) (λ i. Face (sym r_s i) (sym r_l i)),
              (
                both p.loop_ t3 _ _ are.loop_is (change.news t3 _ (3, omega arith, refl)) ([], record { pre = []; post = []; here = refl; there = refl }, (λ i. Loop (sym r_f i) [] (Some (sym r_v i)))),
                (both p.vertex t4 _ _ are.vertex_is (change.news t4 _ (4, omega arith, refl)) (λ i. Vertex (sym r_b i) are.point), tt),
              ),
            ),
          ),
        )

        others : (t : Tag) → NoneOf t five → NoneOf t new → SameIfAny (renamed pairs) (item_at S t) (item_at bodied t) ⊎ (item_at bodied t ≡ but_attributes five (item_at S t))
        others t none new_of = inr (other_at t new_of ∙ left_at t none)

        pub body-anew : SameButNames (bare_body S p.body) (t0 ∷ t1 ∷ t2 ∷ t3 ∷ t4 ∷ []) S bodied
        body-anew = same-wider five new (bare_body S p.body) new S bodied
            (is_among-by (five ++ new) (bare_body S p.body ++ new) (λ t m. ⊎_elim {C = Contains (bare_body S p.body ++ new) t}
            (λ (l : Contains five t). Contains-append_left (bare_body S p.body) new t (part_listed t l))
            (λ (r : Contains new t). Contains-append_right (bare_body S p.body) new t r)
            (Contains-append_cases five new t m)))
            (same-anew S bodied well made pairs pairs_once ends free anew others)

-- ---- the law

-- the parts of a body that kvfs kills
pub bare-parts : (S : Shape) → IsWell S → (b : Tag) → IsOk (kvfs S b) → (p : BareParts) × (p.body ≡ b) × AreBareParts S p × IsBare S p.body
bare-parts S well b goes =
    let k = kills-body S b goes in
    let a = goes-on (body_at S b) _ goes in
    let body_is = asked-body b a.found (item_at S b) a.is in
    let has = well.sound.names.shells b a.found body_is in
    let own = well.sound.outer has.face a.found has.outer has.face_is in
    let v = lone-found S well b k.bare a.found has.face has.outer body_is has.face_is own.0 own.1 own.2 in
    (record { body = b; shell = a.found; face = has.face; loop_ = has.outer; vertex = v.0 }, refl, v.2, k.bare)

kvfs-mvfs_at : (m : EntityMap) (b t0 t1 t2 t3 t4 : Tag) (rest : List Tag) → MayFollow m (call.Kvfs b) 5 (t0 ∷ t1 ∷ t2 ∷ t3 ∷ t4 ∷ rest)
    → GivesBackButNames m (call.Kvfs b) (call.Mvfs (point_of_body (shape_of m) b)) (t0 ∷ t1 ∷ t2 ∷ t3 ∷ t4 ∷ rest) (bare_body (shape_of m) b) (t0 ∷ t1 ∷ t2 ∷ t3 ∷ t4 ∷ [])
kvfs-mvfs_at m b t0 t1 t2 t3 t4 rest may =
    let S = shape_of m in
    let tags = t0 ∷ t1 ∷ t2 ∷ t3 ∷ t4 ∷ rest in
    let five = t0 ∷ t1 ∷ t2 ∷ t3 ∷ t4 ∷ [] in
    let well = well-shape m may.sound in
    let free = free-items m may.sound tags may.free in
    let once : NoRepeats (t0 ∷ t1 ∷ t2 ∷ t3 ∷ t4 ∷ []) = NoRepeats-take 5 tags (ascend-once tags may.ascend) in
    let new : AllByRecursion (λ t. item_at S t ≡ None) (t0 ∷ t1 ∷ t2 ∷ t3 ∷ t4 ∷ []) = ByRecursion-take (λ t. item_at S t ≡ None) 5 tags free in
    let a = may.ascend in
    let ascend : TagsAscend (t0 ∷ t1 ∷ t2 ∷ t3 ∷ t4 ∷ []) = ((a.0.0, (a.0.1.0, (a.0.1.1.0, (a.0.1.1.1.0, tt)))), ((a.1.0.0, (a.1.0.1.0, (a.1.0.1.1.0, tt))), ((a.1.1.0.0, (a.1.1.0.1.0, tt)), ((a.1.1.1.0.0, tt), (tt, tt))))) in
    let k = bare-parts S well b may.goes in
    let p = k.0 in
    let R = emptied S well p k.2 k.3 in
    let killed : kvfs S b ≡ changes R = (kills-body S b may.goes).row_is ∙ ap (λ c. changes (S without all_in_body S c)) (sym k.1) in
    let first : reached S tags (kvfs S b) ≡ R = ap (reached S tags) killed in
    let none : cost_of (kvfs S b) ≡ 0 = cost-changing (kvfs S b) (kvfs-changes S b) in
    let cut : IsWell R = subst IsWell first (reached-well S tags (kvfs S b) well (omega (arith, none)) (kvfs-keeps S tags b well)) in
    let at = triple_of k.2.point in
    let row : mvfs R at ≡ makes_five (λ body shell face loop_ vertex. R with (body, Body shell) ∷ (shell, Shell body (pos 1)) ∷ (face, Face shell loop_) ∷ (loop_, Loop face [] (Some vertex)) ∷ (vertex, Vertex body k.2.point) ∷ []) =
    ap (λ o. o >> makes_five (λ body shell face loop_ vertex. R with (body, Body shell) ∷ (shell, Shell body (pos 1)) ∷ (face, Face shell loop_) ∷ (loop_, Loop face [] (Some vertex)) ∷ (vertex, Vertex body k.2.point) ∷ []))
    (within-range k.2.point (well.sound.measure.points p.vertex p.body k.2.point k.2.vertex_is)) in
    let Q = bodied S well p k.2 k.3 t0 t1 t2 t3 t4 once new in
    let goes : IsOk (mvfs R at) = subst IsOk (sym row) refl in
    let cost : cost_of (mvfs R at) ≡ 5 = cost-making 5 (mvfs R at) (mvfs-makes R at) goes in
    let made : IsWell Q = subst IsWell (ap (reached R five) row) (reached-well R five (mvfs R at) cut (let fits : length (t0 ∷ t1 ∷ t2 ∷ t3 ∷ t4 ∷ []) ≡ 5 = refl in omega (arith, cost, fits))
    (mvfs-keeps R five at cut ascend (still_free S well p k.2 k.3 t0 t1 t2 t3 t4 once new))) in
    let same = body-anew S well p k.2 k.3 t0 t1 t2 t3 t4 once new cut made in
    let law : GivesBackButNames m (call.Kvfs b) (call.Mvfs at) tags (bare_body S p.body) five = gives-back-names m (call.Kvfs b) (call.Mvfs at) tags (bare_body S p.body) five R Q may.sound first cut goes
    (ap (λ n. reached R (drop n tags) (mvfs R at)) (cost-changed m (call.Kvfs b) (kvfs-changes S b)) ∙ ap (reached R tags) row) made same in
    let point : point_of_body S b ≡ at = ap (point_of_body S) (sym k.1) ∙ point_is S well p k.2 k.3 in
    subst (λ (z : Triple × List Tag). GivesBackButNames m (call.Kvfs b) (call.Mvfs z.0) tags z.1 five) (λ i. (sym point i, bare_body S (k.1 i))) law

pub kvfs-mvfs : (m : EntityMap) (b : Tag) (tags : List Tag) → MayFollow m (call.Kvfs b) 5 tags
    → GivesBackButNames m (call.Kvfs b) (call.Mvfs (point_of_body (shape_of m) b)) tags (bare_body (shape_of m) b) (take 5 tags)
kvfs-mvfs m b [] may = absurd (let h = may.enough in omega (arith, h))
kvfs-mvfs m b (t ∷ []) may = absurd (let h = may.enough in omega (arith, h))
kvfs-mvfs m b (t ∷ u ∷ []) may = absurd (let h = may.enough in omega (arith, h))
kvfs-mvfs m b (t ∷ u ∷ v ∷ []) may = absurd (let h = may.enough in omega (arith, h))
kvfs-mvfs m b (t ∷ u ∷ v ∷ w ∷ []) may = absurd (let h = may.enough in omega (arith, h))
kvfs-mvfs m b (t ∷ u ∷ v ∷ w ∷ x ∷ rest) may = kvfs-mvfs_at m b t u v w x rest may
