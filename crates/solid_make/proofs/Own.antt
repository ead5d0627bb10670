-- A solid that is made beside others: what was made names only what was made with it, and its points have one height.
use Rattle.std.proofs.Common.{◌≡◌, ◌≢◌, ℕ, ◌+◌, ◌-◌, ◌<◌, ◌≤◌, ⊎_elim, List, [], ◌∷◌, ◌++◌, length, take, drop, Option, Some, None, Ok, refl, sym, ap, subst, ◌∙◌, arith}
use Rattle.std.specs.Prelude.{T, ℤ, Contains}
use Rattle.std.specs.List.{AllByRecursion}
use Rattle.std.specs.FinMap.{is_sorted}
use Rattle.std.proofs.Math.Seq.{take-add}
use Rattle.std.proofs.lemmas.List.{get_or-drop, get_or-take, length-take-le}
use Rattle.std.proofs.lemmas.List.Elements.{Contains-append_left, Contains-get_or}
use Rattle.pk_base.specs.Blocks.{tag}
use Rattle.pk_base.specs.declared.tag.Tag.{Tag}
use Rattle.pk_base.specs.declared.entity.Triple.{Triple}
use Rattle.pk_model.specs.Apart.{NoRepeats}
use Rattle.pk_model.specs.Maps.{tag_cmp}
use Rattle.pk_model.specs.Tags.{TagsAscend, tag_at}
use Rattle.solid_model.specs.Items.{Item, Shape, item_at, ◌with◌}
use Rattle.solid_model.specs.Items.Item.{Body, Shell, Face, Loop, Fin, Edge, Vertex, Attr}
use Rattle.solid_model.specs.Rings.{before, from, from_least, written_from}
use Rattle.solid_model.specs.Owners.{owner_in}
use Rattle.solid_model.specs.Places.{End, end_in, end_of_item, end_at, PlacedFin, fin_at, fins_at}
use Rattle.solid_model.specs.Sound.{optional}
use Rattle.list_facts.proofs.Each.{ByRecursion-append, ByRecursion-at, ByRecursion-left, ByRecursion-right, ByRecursion-weaker}
use Rattle.solid_model.proofs.lists.Neighbours.{before-from}
use Rattle.solid_model.proofs.lists.Turned.{turned-each, turned-least}
use Rattle.solid_sound.proofs.shapes.Edits.{written}
use Rattle.solid_sound.proofs.shapes.Lookups.{Items, tags_in, with-written}
use Rattle.solid_sound.proofs.rows.Asked.{free_at, apart_at}
use Rattle.solid_sound.proofs.rows.RowKeeps.{IsWell}
use Rattle.solid_sound.proofs.edges.Ends.{EndIn, FinIn, end-well, fin-well}
use Rattle.solid_make.proofs.Rows.{body_items, edge_items, cut_items}

-- ---- the first of the tags

pub in_more : (i k : ℕ) (ts : List Tag) (t : Tag) → i ≤ k → Contains (take i ts) t → Contains (take k ts) t
in_more i k ts t h c =
    let e : i + (k - i) ≡ k = omega (arith, h) in
    subst (λ n. Contains (take n ts) t) e (subst (λ us. Contains us t) (sym (take-add i (k - i) ts)) (Contains-append_left (take i ts) (take (k - i) (drop i ts)) t c))

pub place-in : (ts : List Tag) (k i : ℕ) → k ≤ length ts → i < k → Contains (take k ts) (tag_at ts i)
place-in ts k i enough less =
    let within : i < length (take k ts) = omega (arith, length-take-le k ts enough, less) in
    subst (Contains (take k ts)) (get_or-take k ts i (tag 0) less) (Contains-get_or (take k ts) i (tag 0) within)

-- ---- what an item names

-- It names no other loops, fins and vertices than these, and its point has the height z.
abbrev pub OwnItem : List Tag → ℤ → Item → Type 0
OwnItem ts z (Body shell) = Unit {0}
OwnItem ts z (Shell body q) = Unit {0}
OwnItem ts z (Face shell outer) = Contains ts outer
OwnItem ts z (Loop face fins lone) = AllByRecursion (Contains ts) fins × AllByRecursion (Contains ts) (optional lone)
OwnItem ts z (Fin mate edge vertex) = Contains ts vertex
OwnItem ts z (Edge body) = Unit {0}
OwnItem ts z (Vertex body point) = point.z ≡ z
OwnItem ts z (Attr owner name value) = Unit {0}

own_wider : (ts us : List Tag) (z : ℤ) (x : Item) → ((t : Tag) → Contains ts t → Contains us t) → OwnItem ts z x → OwnItem us z x
own_wider ts us z (Body shell) h own = tt
own_wider ts us z (Shell body q) h own = tt
own_wider ts us z (Face shell outer) h own = h outer own
own_wider ts us z (Loop face fins lone) h own = (ByRecursion-weaker (Contains ts) (Contains us) h fins own.0, ByRecursion-weaker (Contains ts) (Contains us) h (optional lone) own.1)
own_wider ts us z (Fin mate edge vertex) h own = h vertex own
own_wider ts us z (Edge body) h own = tt
own_wider ts us z (Vertex body point) h own = own
own_wider ts us z (Attr owner name value) h own = tt

-- S is the shape at the beginning, and these are the tags that there were.
module _ (S : Shape) (tags : List Tag) where
  -- each item of R that was not in S names only the first n of the tags
  abbrev pub IsOwn : ℕ → ℤ → Shape → Type 0
  IsOwn n z R = (t : Tag) (x : Item) → item_at R t ≡ Some x → item_at S t ≡ None → OwnItem (take n tags) z x

  pub own-none : (n : ℕ) (z : ℤ) → IsOwn n z S
  own-none n z t x is none = let both : Some x ≡ None = sym is ∙ none in absurd (cc)

  own-with : (R : Shape) (xs : Items) (n m : ℕ) (z : ℤ) → T (is_sorted tag_cmp R) → NoRepeats (tags_in xs) → n ≤ m → IsOwn n z R
      → AllByRecursion (λ (y : Tag × Item). OwnItem (take m tags) z y.1) xs → IsOwn m z (R with xs)
  own-with R xs n m z sorted once le own all t x is none = ⊎_elim {C = OwnItem (take m tags) z x}
      (λ (l : Contains xs (t, x)). ByRecursion-at (λ (y : Tag × Item). OwnItem (take m tags) z y.1) xs (t, x) all l)
      (λ r. own_wider (take n tags) (take m tags) z x (λ u k. in_more n m tags u le k) (own t x r.0 none))
      ((written R xs sorted once).was t x is)

  -- ---- a new body

  pub own-mvfs : (at : Triple) → T (is_sorted tag_cmp S) → TagsAscend tags → 5 ≤ length tags → IsOwn 5 at.z (S with body_items at tags)
  own-mvfs at sorted ascend enough =
      let apart = λ (i j : ℕ) (h : i < j) (k : j < 5). apart_at tags i j ascend h (omega (arith, k, enough)) in
      let once : NoRepeats (tag_at tags 0 ∷ tag_at tags 1 ∷ tag_at tags 2 ∷ tag_at tags 3 ∷ tag_at tags 4 ∷ []) = (
        (apart 0 1 (omega arith) (omega arith), (apart 0 2 (omega arith) (omega arith), (apart 0 3 (omega arith) (omega arith), (apart 0 4 (omega arith) (omega arith), tt)))),
        (
          (apart 1 2 (omega arith) (omega arith), (apart 1 3 (omega arith) (omega arith), (apart 1 4 (omega arith) (omega arith), tt))),
          ((apart 2 3 (omega arith) (omega arith), (apart 2 4 (omega arith) (omega arith), tt)), ((apart 3 4 (omega arith) (omega arith), tt), (tt, tt))),
        ),
      ) in
      let in_five = λ (i : ℕ) (h : i < 5). place-in tags 5 i enough h in
      own-with S (body_items at tags) 0 5 at.z sorted once (omega arith) (own-none 0 at.z)
      (tt, (tt, (in_five 3 (omega arith), ((tt, (in_five 4 (omega arith), tt)), (refl, tt)))))

  -- ---- a new edge

  -- R is the shape so far, and ts are the tags that are left.
  module _ (R : Shape) (ts : List Tag) (n : ℕ) (z : ℤ) (left : ts ≡ drop n tags) (well : IsWell R) (ascend : TagsAscend ts) (free : AllByRecursion (λ t. item_at R t ≡ None) ts) (own : IsOwn n z R) where
    next : (k i : ℕ) → n + k ≤ length tags → i < k → Contains (take (n + k) tags) (tag_at ts i)
    next k i enough less =
        let is : tag_at ts i ≡ tag_at tags (n + i) = ap (λ us. tag_at us i) left ∙ get_or-drop n tags i (tag 0) in
        subst (Contains (take (n + k) tags)) (sym is) (place-in tags (n + k) (n + i) enough (omega (arith, less)))

    before_k : (k : ℕ) (t : Tag) → Contains (take n tags) t → Contains (take (n + k) tags) t
    before_k k t c = in_more n (n + k) tags t (omega arith) c

    all_before : (k : ℕ) (us : List Tag) → AllByRecursion (Contains (take n tags)) us → AllByRecursion (Contains (take (n + k) tags)) us
    all_before k us all = ByRecursion-weaker (Contains (take n tags)) (Contains (take (n + k) tags)) (λ t c. before_k k t c) us all

    least_own : (us vs : List Tag) → AllByRecursion (Contains us) vs → AllByRecursion (Contains us) (from_least vs)
    least_own us vs all = turned-each (Contains us) vs (from_least vs) (turned-least vs) all

    new_other : (k i : ℕ) (q : Tag) (y : Item) → k ≤ length ts → i < k → item_at R q ≡ Some y → tag_at ts i ≢ q
    new_other k i q y enough h is e = let both : Some y ≡ None = sym is ∙ ap (item_at R) (sym e) ∙ free_at R ts i free (omega (arith, h, enough)) in absurd {A = ⊥} (cc)

    -- the fins of a loop that was made
    pub own-fins : (u : End) → EndIn R u → item_at S u.loop_ ≡ None → AllByRecursion (Contains (take n tags)) u.fins
    own-fins u E none = turned-each (Contains (take n tags)) E.list u.fins E.turned (own u.loop_ _ E.loop_is none).0

    own_start : (t : Tag) (o : Option Item) → item_at R t ≡ o → item_at S t ≡ None → (u : End) → end_of_item R t o ≡ Ok u → Contains (take n tags) u.vertex
    own_start t None is none u h = absurd (cc)
    own_start t (Some (Fin mate edge vertex)) is none u h =
        let same : end_in R vertex (owner_in R t) (written_from t (fins_at R (owner_in R t))) ≡ u = cc in
        subst (Contains (take n tags)) (ap (λ (w : End). w.vertex) same) (own t _ is none)
    own_start t (Some (Loop face fins (Some vertex))) is none u h =
        let same : end_in R vertex t [] ≡ u = cc in
        subst (Contains (take n tags)) (ap (λ (w : End). w.vertex) same) (own t _ is none).1.0
    own_start t (Some (Loop face fins None)) is none u h = absurd (cc)
    own_start t (Some (Body shell)) is none u h = absurd (cc)
    own_start t (Some (Shell body q)) is none u h = absurd (cc)
    own_start t (Some (Face shell outer)) is none u h = absurd (cc)
    own_start t (Some (Edge body)) is none u h = absurd (cc)
    own_start t (Some (Vertex body point)) is none u h = absurd (cc)
    own_start t (Some (Attr owner name value)) is none u h = absurd (cc)

    -- from an end that was made, to a point of this height
    pub own-mev : (t : Tag) (at : Triple) (u : End) → end_at R t ≡ Ok u → item_at S t ≡ None → item_at S u.loop_ ≡ None → at.z ≡ z → n + 4 ≤ length tags → 4 ≤ length ts
        → IsOwn (n + 4) z (R with edge_items u at ts)
    own-mev t at u found t_new l_new height enough long =
        let E = end-well R well t (item_at R t) refl u found in
        let start = own_start t (item_at R t) refl t_new u found in
        let apart = λ (i j : ℕ) (h : i < j) (k : j < 4). apart_at ts i j ascend h (omega (arith, k, long)) in
        let other = λ (i : ℕ) (h : i < 4). new_other 4 i u.loop_ _ long h E.loop_is in
        let once : NoRepeats (tag_at ts 0 ∷ tag_at ts 1 ∷ tag_at ts 2 ∷ tag_at ts 3 ∷ u.loop_ ∷ []) = (
          (apart 0 1 (omega arith) (omega arith), (apart 0 2 (omega arith) (omega arith), (apart 0 3 (omega arith) (omega arith), (other 0 (omega arith), tt)))),
          (
            (apart 1 2 (omega arith) (omega arith), (apart 1 3 (omega arith) (omega arith), (other 1 (omega arith), tt))),
            ((apart 2 3 (omega arith) (omega arith), (other 2 (omega arith), tt)), ((other 3 (omega arith), tt), (tt, tt))),
          ),
        ) in
        let fins = all_before 4 u.fins (own-fins u E l_new) in
        let ring = least_own (take (n + 4) tags) (tag_at ts 2 ∷ tag_at ts 3 ∷ u.fins) (next 4 2 enough (omega arith), (next 4 3 enough (omega arith), fins)) in
        own-with R (edge_items u at ts) n (n + 4) z well.written.ascends once (omega arith) own
        (height, (tt, (before_k 4 u.vertex start, (next 4 0 enough (omega arith), ((ring, tt), tt)))))

    -- ---- a new face

    own_vertex : (f : Tag) (u : PlacedFin) → FinIn R f u → item_at S f ≡ None → Contains (take n tags) u.vertex
    own_vertex f u F none = own f _ F.fin_is none

    -- between two fins of one loop that was made
    pub own-mef : (f g : Tag) (u v : PlacedFin) → fin_at R f ≡ Ok u → fin_at R g ≡ Ok v → item_at S f ≡ None → item_at S g ≡ None → item_at S u.loop_ ≡ None → n + 5 ≤ length tags → 5 ≤ length ts
        → IsOwn (n + 5) z (R with cut_items g u v ts) × (item_at (R with cut_items g u v ts) (tag_at ts 0) ≡ Some (Face u.shell (tag_at ts 1)))
    own-mef f g u v f_is g_is f_new g_new l_new enough long =
        let F = fin-well R well f (item_at R f) refl u f_is in
        let G = fin-well R well g (item_at R g) refl v g_is in
        let apart = λ (i j : ℕ) (h : i < j) (k : j < 5). apart_at ts i j ascend h (omega (arith, k, long)) in
        let other = λ (i : ℕ) (h : i < 5). new_other 5 i u.loop_ _ long h F.end.loop_is in
        let once : NoRepeats (tag_at ts 0 ∷ tag_at ts 1 ∷ tag_at ts 2 ∷ tag_at ts 3 ∷ tag_at ts 4 ∷ u.loop_ ∷ []) = (
          (apart 0 1 (omega arith) (omega arith), (apart 0 2 (omega arith) (omega arith), (apart 0 3 (omega arith) (omega arith), (apart 0 4 (omega arith) (omega arith), (other 0 (omega arith), tt))))),
          (
            (apart 1 2 (omega arith) (omega arith), (apart 1 3 (omega arith) (omega arith), (apart 1 4 (omega arith) (omega arith), (other 1 (omega arith), tt)))),
            (
              (apart 2 3 (omega arith) (omega arith), (apart 2 4 (omega arith) (omega arith), (other 2 (omega arith), tt))),
              ((apart 3 4 (omega arith) (omega arith), (other 3 (omega arith), tt)), ((other 4 (omega arith), tt), (tt, tt))),
            ),
          ),
        ) in
        let all = take (n + 5) tags in
        let fins = all_before 5 u.fins (own-fins (record { vertex = u.vertex; loop_ = u.loop_; face = u.face; body = u.body; fins = u.fins }) F.end l_new) in
        let parted : AllByRecursion (Contains all) (before g u.fins ++ from g u.fins) = subst (AllByRecursion (Contains all)) (sym (before-from g u.fins)) fins in
        let x_in = next 5 3 enough (omega arith) in
        let y_in = next 5 4 enough (omega arith) in
        let one = least_own all (before g u.fins ++ tag_at ts 3 ∷ []) (ByRecursion-append (Contains all) (before g u.fins) (tag_at ts 3 ∷ []) (ByRecursion-left (Contains all) (before g u.fins) (from g u.fins) parted) (x_in, tt)) in
        let two = least_own all (from g u.fins ++ tag_at ts 4 ∷ []) (ByRecursion-append (Contains all) (from g u.fins) (tag_at ts 4 ∷ []) (ByRecursion-right (Contains all) (before g u.fins) (from g u.fins) parted) (y_in, tt)) in (
          own-with R (cut_items g u v ts) n (n + 5) z well.written.ascends once (omega arith) own
              (next 5 1 enough (omega arith), ((one, tt), (tt, (before_k 5 v.vertex (own_vertex g v G g_new), (before_k 5 u.vertex (own_vertex f u F f_new), ((two, tt), tt)))))),
          with-written R (cut_items g u v ts) (tag_at ts 0) _ once (0, omega arith, refl),
        )
