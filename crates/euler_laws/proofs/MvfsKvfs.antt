-- mvfs, and then kvfs.
use Rattle.std.proofs.Common.{◌≡◌, ◌≢◌, ◌+◌, ◌≤◌, ◌⊎◌, inl, inr, ⊎_elim, Bool, true, false, ◌&&◌, List, [], ◌∷◌, length, Option, Some, None, Result, Ok, refl, sym, ap, subst, ◌∙◌, arith}
use Rattle.std.specs.Prelude.{T, ℤ, pos, IsOk, nat_lt, map, filter, option_map, Contains}
use Rattle.std.specs.List.{AllByRecursion}
use Rattle.std.specs.FinMap.{is_sorted}
use Rattle.std.proofs.lemmas.Option.{same_Some}
use Rattle.pk_base.specs.Entity.{same_optional, same_tag}
use Rattle.pk_base.specs.declared.tag.Tag.{Tag}
use Rattle.pk_base.specs.declared.call.Call.TheVariants as call
use Rattle.pk_base.specs.declared.entity.Class.{Class}
use Rattle.pk_base.specs.declared.entity.Class.TheVariants as class
use Rattle.pk_base.specs.declared.entity.Name.{Name}
use Rattle.pk_base.specs.declared.entity.Point.{Point}
use Rattle.pk_base.specs.declared.entity.Triple.{Triple}
use Rattle.pk_base.specs.declared.refusal.Refusal.TheVariants.{NotBare}
use Rattle.pk_base.proofs.Same.{same_itself, same_means}
use Rattle.pk_model.specs.Apart.{NoRepeats}
use Rattle.pk_model.specs.Maps.{EntityMap, tag_cmp}
use Rattle.pk_model.specs.Step.{◌>>=◌}
use Rattle.pk_model.specs.Tags.{tag_at}
use Rattle.pk_model.proofs.TagLists.{NoneOf, NoRepeats-take}
use Rattle.list_facts.proofs.Elements.{Contains-filter, Contains-first, Contains-map, filter_contains, map_contains, not_in_nil}
use Rattle.list_facts.proofs.Each.{ByRecursion-contains, ByRecursion-take}
use Rattle.solid_model.specs.Items.{Item, Shape, item_at, class_of_item, ◌with◌}
use Rattle.solid_model.specs.Items.Item.{Body, Shell, Face, Loop, Fin, Edge, Vertex, Attr}
use Rattle.solid_model.specs.Deaths.{◌without◌}
use Rattle.solid_model.specs.Owners.{all_in_body, body_of, owner_of_item, parts_of_class, same_class}
use Rattle.solid_model.specs.Rows.{Row, changes, cost_of, refuse_where, ◌>>◌}
use Rattle.solid_model.specs.Places.{as_body, asked, body_at}
use Rattle.solid_model.specs.Ranges.{is_coordinate, numbers_of, point_of, refuse_outside}
use Rattle.solid_model.specs.Shapes.{shape_of}
use Rattle.solid_model.specs.Sound.{class_at}
use Rattle.solid_model.specs.Mvfs.{mvfs}
use Rattle.solid_model.specs.Kvfs.{has_more_than_a_vertex, kvfs}
use Rattle.solid_sound.proofs.shapes.AttributeBodies.{attribute-body}
use Rattle.solid_sound.proofs.shapes.Bodies.{LeadsUp, item_of_class, leads_up, loop_with-found, loop_with-some}
use Rattle.solid_sound.proofs.shapes.Edits.{Adds, Edits, adds, edits-each, live-none_of, written}
use Rattle.solid_sound.proofs.shapes.Found.{among-item, item-among, none_where}
use Rattle.solid_sound.proofs.shapes.Lookups.{Items, filter-sorted}
use Rattle.solid_sound.proofs.rows.RowKeeps.{IsWell, well-shape}
use Rattle.solid_sound.proofs.rows.KeptMvfs.{mvfs-keeps}
use Rattle.solid_sound.proofs.rows.KeptRings.{face_of_class}
use Rattle.solid_calls.specs.Pairs.{reached, row_on}
use Rattle.solid_calls.proofs.Kept.{reached-well}
use Rattle.solid_calls.proofs.RowKinds.{cost-making, mvfs-makes}
use Rattle.solid_edits.proofs.Going.{goes-past}
use Rattle.euler_kill.proofs.KvfsFound.{loops-tell}
use Rattle.euler_laws.specs.Both.{GivesBack, MayFollow}
use Rattle.euler_laws.proofs.GivenBack.{given-back}
use Rattle.euler_laws.proofs.Laws.{ascend-once, free-items, gives-back}
use Rattle.euler_laws.proofs.OneLoop.{one-loop, one-tag}
use Rattle.euler_laws.proofs.Placed.{owns-none}

-- ---- what an owner owns of one class

edge-of : (S : Shape) (t b : Tag) (x : Item) → (same_class (class_of_item x) class.Edge && same_optional (owner_of_item S t x) (Some b)) ≡ true → x ≡ Edge b
edge-of S t b (Edge body) h = ap Edge (same_means body b h)
edge-of S t b (Body shell) h = absurd (cc)
edge-of S t b (Shell body q) h = absurd (cc)
edge-of S t b (Face shell outer) h = absurd (cc)
edge-of S t b (Loop face fins vertex) h = absurd (cc)
edge-of S t b (Fin mate edge vertex) h = absurd (cc)
edge-of S t b (Vertex body point) h = absurd (cc)
edge-of S t b (Attr owner name value) h = absurd (cc)

face-of : (S : Shape) (t s : Tag) (x : Item) → (same_class (class_of_item x) class.Face && same_optional (owner_of_item S t x) (Some s)) ≡ true → (outer : Tag) × (x ≡ Face s outer)
face-of S t s (Face shell outer) h = (outer, ap (λ u. Face u outer) (same_means shell s h))
face-of S t s (Body shell) h = absurd (cc)
face-of S t s (Shell body q) h = absurd (cc)
face-of S t s (Loop face fins vertex) h = absurd (cc)
face-of S t s (Fin mate edge vertex) h = absurd (cc)
face-of S t s (Edge body) h = absurd (cc)
face-of S t s (Vertex body point) h = absurd (cc)
face-of S t s (Attr owner name value) h = absurd (cc)

nothing : (F : Shape) → ((x : Tag × Item) → Contains F x → ⊥) → nat_lt 0 (length (map (λ (x : Tag × Item). x.0) F)) ≡ false
nothing [] h = refl
nothing (x ∷ F) h = absurd (h x (Contains-first x F))

no-edges : (S : Shape) (b : Tag) → T (is_sorted tag_cmp S) → ((t : Tag) → item_at S t ≢ Some (Edge b)) → nat_lt 0 (length (parts_of_class class.Edge S b)) ≡ false
no-edges S b sorted none =
    let p = λ (x : Tag × Item). same_class (class_of_item x.1) class.Edge && same_optional (owner_of_item S x.0 x.1) (Some b) in
    nothing (filter p S) (λ x k.
    let in_S = filter_contains p S x k in
    none x.0 (among-item S sorted x.0 x.1 in_S.0 ∙ ap Some (edge-of S x.0 b x.1 in_S.1)))

one-face : (S : Shape) (s f : Tag) → T (is_sorted tag_cmp S) → ((t outer : Tag) → item_at S t ≡ Some (Face s outer) → t ≡ f) → nat_lt 1 (length (parts_of_class class.Face S s)) ≡ false
one-face S s f sorted only =
    let p = λ (x : Tag × Item). same_class (class_of_item x.1) class.Face && same_optional (owner_of_item S x.0 x.1) (Some s) in
    one-tag (filter p S) f (filter-sorted p S sorted) (λ x k.
    let in_S = filter_contains p S x k in
    let is = face-of S x.0 s x.1 in_S.1 in
    only x.0 is.0 (among-item S sorted x.0 x.1 in_S.0 ∙ ap Some is.1))

-- ---- a body of one vertex is made, and killed

module _ (S : Shape) (well : IsWell S) (p : Point) (b s f l v : Tag) (once : NoRepeats (b ∷ s ∷ f ∷ l ∷ v ∷ [])) (free : AllByRecursion (λ t. item_at S t ≡ None) (b ∷ s ∷ f ∷ l ∷ v ∷ [])) where
  abbrev xs : Items
  xs = (b, Body s) ∷ (s, Shell b (pos 1)) ∷ (f, Face s l) ∷ (l, Loop f [] (Some v)) ∷ (v, Vertex b p) ∷ []

  abbrev pub bodied : Shape
  bodied = S with xs

  change : Edits S bodied xs []
  change = written S xs well.written.ascends once

  added : Adds S bodied xs
  added = adds S xs well.written.ascends once free

  b_is : item_at bodied b ≡ Some (Body s)
  b_is = change.news b _ (0, omega arith, refl)

  s_is : item_at bodied s ≡ Some (Shell b (pos 1))
  s_is = change.news s _ (1, omega arith, refl)

  f_is : item_at bodied f ≡ Some (Face s l)
  f_is = change.news f _ (2, omega arith, refl)

  l_is : item_at bodied l ≡ Some (Loop f [] (Some v))
  l_is = change.news l _ (3, omega arith, refl)

  v_is : item_at bodied v ≡ Some (Vertex b p)
  v_is = change.news v _ (4, omega arith, refl)

  -- no item of S names what is new
  unnamed : (t : Tag) (c : Class) → item_at S t ≡ None → class_at S t ≢ Some c
  unnamed t c none is = let both : None ≡ Some c = sym (ap (option_map class_of_item) none) ∙ is in cc

  no_edge : (t : Tag) → item_at bodied t ≢ Some (Edge b)
  no_edge t is = edits-each change (λ t z. z ≢ Edge b)
      ((λ e. cc), ((λ e. cc), ((λ e. cc), ((λ e. cc), ((λ e. cc), tt)))))
      (λ t z was none e. unnamed b class.Body free.0 (well.sound.names.kinds t (Edge b) (was ∙ ap Some e)).0)
      t (Edge b) is refl

  only_f : (t outer : Tag) → item_at bodied t ≡ Some (Face s outer) → t ≡ f
  only_f t outer is = edits-each change (λ t z. z ≡ Face s outer → t ≡ f)
      ((λ e. absurd (cc)), ((λ e. absurd (cc)), ((λ e. refl), ((λ e. absurd (cc)), ((λ e. absurd (cc)), tt)))))
      (λ t z was none e. absurd (unnamed s class.Shell free.1.0 (well.sound.names.kinds t (Face s outer) (was ∙ ap Some e)).0.0))
      t (Face s outer) is refl

  only_l : (t : Tag) (fins : List Tag) (vertex : Option Tag) → item_at bodied t ≡ Some (Loop f fins vertex) → t ≡ l
  only_l t fins vertex is = edits-each change (λ t z. z ≡ Loop f fins vertex → t ≡ l)
      ((λ e. absurd (cc)), ((λ e. absurd (cc)), ((λ e. absurd (cc)), ((λ e. refl), ((λ e. absurd (cc)), tt)))))
      (λ t z was none e. absurd (unnamed f class.Face free.1.1.0 (well.sound.names.kinds t (Loop f fins vertex) (was ∙ ap Some e)).0.0))
      t (Loop f fins vertex) is refl

  module _ (made : IsWell bodied) where
    up : LeadsUp bodied (body_of bodied)
    up = leads_up bodied made.written made.sound

    -- ---- what stands in the new body

    b_body : body_of bodied b ≡ b
    b_body = up.bodies b s b_is

    s_body : body_of bodied s ≡ b
    s_body = sym (up.shells s b (pos 1) s_is) ∙ b_body

    f_body : body_of bodied f ≡ b
    f_body = sym (up.faces f s l f_is) ∙ s_body

    l_body : body_of bodied l ≡ b
    l_body = sym (up.loops l f [] (Some v) l_is) ∙ f_body

    v_body : body_of bodied v ≡ b
    v_body = sym (up.vertices v b p v_is) ∙ b_body

    -- ---- what stood already stands in another

    body_old : (t : Tag) → class_at S t ≡ Some class.Body → body_of bodied t ≢ b
    body_old t live same =
        let x = item_of_class (item_at S t) class.Body live in
        let y = shell_named x.0 x.2 in
        let is : item_at bodied t ≡ Some (Body y.0) = added.stays t x.0 x.1 ∙ ap Some y.1 in
        let here : t ≡ b = sym (up.bodies t y.0 is) ∙ same in
        unnamed b class.Body free.0 (subst (λ u. class_at S u ≡ Some class.Body) here live)
      where
        shell_named : (x : Item) → class_of_item x ≡ class.Body → (shell : Tag) × (x ≡ Body shell)
        shell_named (Body shell) h = (shell, refl)
        shell_named (Shell body q) h = absurd (cc)
        shell_named (Face shell outer) h = absurd (cc)
        shell_named (Loop face fins vertex) h = absurd (cc)
        shell_named (Fin mate edge vertex) h = absurd (cc)
        shell_named (Edge body) h = absurd (cc)
        shell_named (Vertex body point) h = absurd (cc)
        shell_named (Attr owner name value) h = absurd (cc)

    shell_old : (t body : Tag) (q : ℤ) → item_at S t ≡ Some (Shell body q) → body_of bodied t ≢ b
    shell_old t body q is same = body_old body (well.sound.names.kinds t (Shell body q) is).0 (up.shells t body q (added.stays t _ is) ∙ same)

    face_old : (t shell outer : Tag) → item_at S t ≡ Some (Face shell outer) → body_of bodied t ≢ b
    face_old t shell outer is same =
        let y = has_shell shell (well.sound.names.kinds t (Face shell outer) is).0.0 in
        shell_old shell y.0 y.1 y.2 (up.faces t shell outer (added.stays t _ is) ∙ same)
      where
        shell_in : (o : Option Item) → option_map class_of_item o ≡ Some class.Shell → (body : Tag) × (q : ℤ) × (o ≡ Some (Shell body q))
        shell_in None h = absurd (cc)
        shell_in (Some (Shell body q)) h = (body, q, refl)
        shell_in (Some (Body shell)) h = absurd (cc)
        shell_in (Some (Face shell outer)) h = absurd (cc)
        shell_in (Some (Loop face fins vertex)) h = absurd (cc)
        shell_in (Some (Fin mate edge vertex)) h = absurd (cc)
        shell_in (Some (Edge body)) h = absurd (cc)
        shell_in (Some (Vertex body point)) h = absurd (cc)
        shell_in (Some (Attr owner name value)) h = absurd (cc)

        has_shell : (s : Tag) → class_at S s ≡ Some class.Shell → (body : Tag) × (q : ℤ) × (item_at S s ≡ Some (Shell body q))
        has_shell s h = shell_in (item_at S s) h

    loop_old : (t face : Tag) (fins : List Tag) (vertex : Option Tag) → item_at S t ≡ Some (Loop face fins vertex) → body_of bodied t ≢ b
    loop_old t face fins vertex is same =
        let y = face_of_class (item_at S face) (well.sound.names.kinds t (Loop face fins vertex) is).0.0 in
        face_old face y.0 y.1 y.2 (up.loops t face fins vertex (added.stays t _ is) ∙ same)

    item_old : (t : Tag) (x : Item) → item_at S t ≡ Some x → class_of_item x ≢ class.Attr → body_of bodied t ≢ b
    item_old t (Body shell) is na same = body_old t (ap (option_map class_of_item) is) same
    item_old t (Shell body q) is na same = shell_old t body q is same
    item_old t (Face shell outer) is na same = face_old t shell outer is same
    item_old t (Loop face fins vertex) is na same = loop_old t face fins vertex is same
    item_old t (Fin mate edge vertex) is na same =
        let some = loop_with-some S t (let one = well.sound.placed t mate edge vertex is in omega (arith, one)) in
        let w = loop_with-found S t some.0 well.written.ascends some.1 in
        loop_old some.0 w.face w.fins w.vertex w.loop_is (up.fins some.0 w.face w.fins w.vertex (added.stays some.0 _ w.loop_is) t w.among ∙ same)
    item_old t (Edge body) is na same = body_old body (well.sound.names.kinds t (Edge body) is).0 (up.edges t body (added.stays t _ is) ∙ same)
    item_old t (Vertex body point) is na same = body_old body (well.sound.names.kinds t (Vertex body point) is).0 (up.vertices t body point (added.stays t _ is) ∙ same)
    item_old t (Attr owner name value) is na same = na refl

    any_old : (t : Tag) (x : Item) → item_at S t ≡ Some x → body_of bodied t ≢ b
    any_old t (Attr owner name value) is same =
        let h = well.sound.attributes.owned t owner name value is in
        let y = item_of_class (item_at S owner) h.0 h.1 in
        item_old owner y.0 y.1 (λ k. h.2 (sym y.2 ∙ k)) (sym (attribute-body bodied made t owner name value (added.stays t _ is)) ∙ same)
    any_old t (Body shell) is same = item_old t (Body shell) is (λ h. cc) same
    any_old t (Shell body q) is same = item_old t (Shell body q) is (λ h. cc) same
    any_old t (Face shell outer) is same = item_old t (Face shell outer) is (λ h. cc) same
    any_old t (Loop face fins vertex) is same = item_old t (Loop face fins vertex) is (λ h. cc) same
    any_old t (Fin mate edge vertex) is same = item_old t (Fin mate edge vertex) is (λ h. cc) same
    any_old t (Edge body) is same = item_old t (Edge body) is (λ h. cc) same
    any_old t (Vertex body point) is same = item_old t (Vertex body point) is (λ h. cc) same

    -- ---- what dies

    abbrev ks : List Tag
    ks = all_in_body bodied b

    dies : (t : Tag) (x : Item) → item_at bodied t ≡ Some x → body_of bodied t ≡ b → Contains ks t
    dies t x is same =
        let q = λ (y : Tag × Item). same_tag (body_of bodied y.0) b in
        Contains-map (λ (y : Tag × Item). y.0) (filter q bodied) (t, x) (Contains-filter q bodied (t, x) (item-among bodied t x is) (ap (λ u. same_tag u b) same ∙ same_itself b))

    were_free : AllByRecursion (λ t. item_at S t ≡ None) ks
    were_free = ByRecursion-contains (λ t. item_at S t ≡ None) ks (λ t k.
        let q = λ (y : Tag × Item). same_tag (body_of bodied y.0) b in
        let y = map_contains (λ (y : Tag × Item). y.0) (filter q bodied) t k in
        let at = same_means (body_of bodied y.0.0) b (filter_contains q bodied y.0 y.1).1 in
        none_where (item_at S t) (λ x e. any_old t x e (ap (body_of bodied) (sym y.2) ∙ at)))

    bare : has_more_than_a_vertex bodied b ≡ false
    bare = sym (loops-tell bodied b made s f l b_is f_is (no-edges bodied b change.ascends no_edge) (one-face bodied s f change.ascends only_f)) ∙ one-loop bodied f l change.ascends only_l

    abbrev last_row : Row
    last_row = refuse_where (has_more_than_a_vertex bodied b) (NotBare b) >> changes (bodied without all_in_body bodied b)

    pub body-back : kvfs bodied b ≡ changes S
    body-back =
        ap (λ r. r >>= (λ (shell : Tag). last_row)) (ap (asked as_body b) b_is)
        ∙ ap (λ c. refuse_where c (NotBare b) >> changes (bodied without all_in_body bodied b)) bare
        ∙ ap changes (given-back S xs [] ks well.written.ascends tt were_free tt
        (inl (dies b _ b_is b_body), (inl (dies s _ s_is s_body), (inl (dies f _ f_is f_body), (inl (dies l _ l_is l_body), (inl (dies v _ v_is v_body), tt)))))
        (owns-none S well ks were_free))

-- the law, for tags of which the first five are known
mvfs-kvfs_at : (m : EntityMap) (at : Triple) (b s f l v : Tag) (rest : List Tag) → MayFollow m (call.Mvfs at) 5 (b ∷ s ∷ f ∷ l ∷ v ∷ rest) → GivesBack m (call.Mvfs at) (call.Kvfs b) (b ∷ s ∷ f ∷ l ∷ v ∷ rest)
mvfs-kvfs_at m at b s f l v rest may =
    let S = shape_of m in
    let tags = b ∷ s ∷ f ∷ l ∷ v ∷ rest in
    let well = well-shape m may.sound in
    let free = free-items m may.sound tags may.free in
    let once : NoRepeats (b ∷ s ∷ f ∷ l ∷ v ∷ []) = NoRepeats-take 5 tags (ascend-once tags may.ascend) in
    let new : AllByRecursion (λ t. item_at S t ≡ None) (b ∷ s ∷ f ∷ l ∷ v ∷ []) = ByRecursion-take (λ t. item_at S t ≡ None) 5 tags free in
    let row = (goes-past (refuse_outside is_coordinate (numbers_of at)) _ may.goes).same in
    let R = bodied S well (point_of at) b s f l v once new in
    let is : reached S tags (mvfs S at) ≡ R = ap (reached S tags) row in
    let made : IsWell R = subst IsWell is (reached-well S tags (mvfs S at) well (let cost = cost-making 5 (mvfs S at) (mvfs-makes S at) may.goes in let enough = may.enough in omega (arith, cost, enough)) (mvfs-keeps S tags at well may.ascend free)) in
    let back = body-back S well (point_of at) b s f l v once new made in
    gives-back m (call.Mvfs at) (call.Kvfs b) tags R may.sound is made (subst IsOk (sym back) refl) (λ more. ap (reached R more) back)

pub mvfs-kvfs : (m : EntityMap) (at : Triple) (tags : List Tag) → MayFollow m (call.Mvfs at) 5 tags → GivesBack m (call.Mvfs at) (call.Kvfs (tag_at tags 0)) tags
mvfs-kvfs m at [] may = absurd (let h = may.enough in omega (arith, h))
mvfs-kvfs m at (a ∷ []) may = absurd (let h = may.enough in omega (arith, h))
mvfs-kvfs m at (a ∷ b ∷ []) may = absurd (let h = may.enough in omega (arith, h))
mvfs-kvfs m at (a ∷ b ∷ c ∷ []) may = absurd (let h = may.enough in omega (arith, h))
mvfs-kvfs m at (a ∷ b ∷ c ∷ d ∷ []) may = absurd (let h = may.enough in omega (arith, h))
mvfs-kvfs m at (a ∷ b ∷ c ∷ d ∷ e ∷ rest) may = mvfs-kvfs_at m at a b c d e rest may
