-- kev: the ring without the two fins of the edge, and the loop as it is put.
use Rattle.std.proofs.Common.{◌≡◌, ◌≢◌, ℕ, ◌≤◌, ⊎_elim, cond, List, [], ◌∷◌, drop, Some, None, refl, sym, ap, subst, ◌∙◌, arith}
use Rattle.std.specs.Prelude.{Contains, option_map}
use Rattle.std.specs.List.{AllByRecursion}
use Rattle.std.specs.FinMap.{get}
use Rattle.std.proofs.lemmas.Option.{same_Some}
use Rattle.pk_base.specs.Blocks.{tag}
use Rattle.pk_base.specs.declared.tag.Tag.{Tag}
use Rattle.pk_base.specs.declared.entity.Class.TheVariants as class
use Rattle.pk_base.specs.declared.entity.Entity.TheVariants as entity
use Rattle.pk_model.specs.Apart.{NoRepeats}
use Rattle.pk_model.specs.Maps.{EntityMap}
use Rattle.pk_model.proofs.TagLists.{NoneOf}
use Rattle.list_facts.proofs.Each.{ByRecursion-at}
use Rattle.list_facts.proofs.Elements.{not_in_nil, Contains-cases, Contains-first, Contains-later}
use Rattle.solid_model.specs.Items.{Shape, item_at, class_of_item}
use Rattle.solid_model.specs.Places.{PlacedFin}
use Rattle.solid_model.specs.Rings.{first_tag, from_least, least_of, next_in}
use Rattle.solid_model.specs.Shapes.{shape_of}
use Rattle.solid_model.specs.Sound.{IsSound, class_at, is_empty}
use Rattle.solid_model.proofs.lists.Cycles.{least}
use Rattle.solid_model.proofs.lists.Turned.{Turned, turned-back, turned-in}
use Rattle.halfedge.specs.LinkedRings.{IsInRing, Relinks, ring_at}
use Rattle.halfedge.proofs.Walks.{least-of_ring}
use Rattle.solid_sound.proofs.edges.Ends.{FinIn, fin-well}
use Rattle.solid_sound.proofs.shapes.Edits.{class_apart}
use Rattle.solid_sound.proofs.rows.RowKeeps.{IsWell, well-shape}
use Rattle.solid_calls.proofs.Represented.{Represents, represents-sound}
use Rattle.solid_places.specs.declared.fins.PlacedFin.{PlacedFin as FoundFin}
use Rattle.solid_edits.proofs.PlacedAnew.{relinks-elsewhere, relinks-named}
use Rattle.solid_edits.proofs.PlacedFins.{placed-class, placed-listed, placed-loop, placed-named}
use Rattle.solid_edits.proofs.RemovedEdge.{IsCutOut, PutLoop}
use Rattle.euler_kill.proofs.KevFound.{IsFound, dying-are_once, f_is, kev_killed, mate_among, mate_is, read_fin, ring_is}

-- ---- the least of what is left

least-is : (ts : List Tag) (t : Tag) → Contains ts t → ((u : Tag) → Contains ts u → t.0 ≤ u.0) → first_tag (from_least ts) ≡ Some t
least-is [] t k below = absurd (not_in_nil t k)
least-is (x ∷ xs) t k below =
    let low = least x xs in
    let under : (least_of x xs).0 ≤ t.0 = ByRecursion-at (λ (u : Tag). (least_of x xs).0 ≤ u.0) (x ∷ xs) t (low.first, low.rest) k in
    let over : t.0 ≤ (least_of x xs).0 = below (least_of x xs) low.among in
    let same : (least_of x xs).0 ≡ t.0 = omega (arith, under, over) in
    least-of_ring x xs ∙ ap (λ (n : ℕ). Some (tag n)) same

-- the first of a list that is written from its least is the least of what is left without two others
least-left : (a b : Tag) (A list : List Tag) (t : Tag) → Turned list (a ∷ b ∷ A) → from_least list ≡ list → first_tag list ≡ Some t → t ≢ a → t ≢ b → first_tag (from_least A) ≡ Some t
least-left a b A [] t turned written is ta tb = absurd (cc)
least-left a b A (x ∷ xs) t turned written is ta tb =
    let first : least_of x xs ≡ t = same_Some (least_of x xs) t (sym (least-of_ring x xs) ∙ ap first_tag written ∙ is) in
    let below : AllByRecursion (λ (u : Tag). t.0 ≤ u.0) (x ∷ xs) = subst (λ (v : Tag). AllByRecursion (λ (u : Tag). v.0 ≤ u.0) (x ∷ xs)) first ((least x xs).first, (least x xs).rest) in
    let listed : Contains (a ∷ b ∷ A) t = turned-in (x ∷ xs) (a ∷ b ∷ A) turned t (subst (Contains (x ∷ xs)) first (least x xs).among) in
    let among : Contains A t = ⊎_elim {C = Contains A t}
    (λ (e : a ≡ t). absurd (ta (sym e)))
    (λ (k : Contains (b ∷ A) t). ⊎_elim {C = Contains A t} (λ (e : b ≡ t). absurd (tb (sym e))) (λ (j : Contains A t). j) (Contains-cases b A t k))
    (Contains-cases a (b ∷ A) t listed) in
    least-is A t among (λ u k. ByRecursion-at (λ (u : Tag). t.0 ≤ u.0) (x ∷ xs) u below (turned-in (a ∷ b ∷ A) (x ∷ xs) (turned-back (x ∷ xs) (a ∷ b ∷ A) turned) u (Contains-later a (b ∷ A) u (Contains-later b A u k))))

some-first : (ts : List Tag) (f : Tag) → Contains ts f → (t : Tag) × (first_tag ts ≡ Some t)
some-first [] f k = absurd (not_in_nil f k)
some-first (t ∷ ts) f k = (t, refl)

-- ---- the fin, and its mate, which comes next

module _ (m : EntityMap) (sound : IsSound m) (f : Tag) (p w : FoundFin) (found : IsFound m f p) (also : IsFound m p.mate w) (ring : IsInRing m f) (strut : next_in (ring_at m f) f ≡ p.mate) where
  abbrev S : Shape
  S = shape_of m

  abbrev u : PlacedFin
  u = read_fin m f p

  abbrev v : PlacedFin
  v = read_fin m p.mate w

  abbrev A : List Tag
  A = drop 2 (ring_at m f)

  abbrev killed : List Tag
  killed = kev_killed f p w

  -- the loop that is put
  abbrev pub kev_loops : List PutLoop
  kev_loops = record { loop_ = p.loop_; face = p.face; fins = A; vertex = p.vertex } ∷ []

  well : IsWell S
  well = well-shape m sound

  was : Represents S m
  was = represents-sound m sound

  pub fin-in : FinIn S f u
  fin-in = fin-well S well f (item_at S f) refl u found

  pub mate-in : FinIn S p.mate v
  mate-in = fin-well S well p.mate (item_at S p.mate) refl v also

  whole : ring_at m f ≡ f ∷ p.mate ∷ A
  whole = ring_is m sound f p w found also ring strut

  f_class : class_at S f ≡ Some class.Fin
  f_class = ap (option_map class_of_item) (f_is m sound f p w found also)

  mate_class : class_at S p.mate ≡ Some class.Fin
  mate_class = ap (option_map class_of_item) (mate_is m sound f p w found also)

  edge_class : class_at S p.edge ≡ Some class.Edge
  edge_class = (well.sound.names.kinds f _ (f_is m sound f p w found also)).1.0

  vertex_class : class_at S w.vertex ≡ Some class.Vertex
  vertex_class = (well.sound.names.kinds p.mate _ (mate_is m sound f p w found also)).2.0

  loop_class : class_at S p.loop_ ≡ Some class.Loop
  loop_class = ap (option_map class_of_item) fin-in.end.loop_is

  one_loop : w.loop_ ≡ p.loop_
  one_loop =
      let listed = placed-listed well mate-in.end p.mate (subst (λ ts. Contains ts p.mate) (sym mate-in.fins_are) (Contains-first p.mate mate-in.rest)) in
      placed-loop well fin-in.end w.loop_ w.face mate-in.end.list mate-in.end.lone mate-in.end.loop_is p.mate listed (mate_among m sound f p w found also ring strut)

  loop_lives : NoneOf p.loop_ killed
  loop_lives = (
    class_apart S p.loop_ f _ _ loop_class f_class (λ k. cc),
    (class_apart S p.loop_ p.mate _ _ loop_class mate_class (λ k. cc), (class_apart S p.loop_ p.edge _ _ loop_class edge_class (λ k. cc), (class_apart S p.loop_ w.vertex _ _ loop_class vertex_class (λ k. cc), tt))),
  )

  in_ring : (t : Tag) → Contains A t → Contains (ring_at m f) t
  in_ring t k = subst (λ ts. Contains ts t) (sym whole) (Contains-later f (p.mate ∷ A) t (Contains-later p.mate A t k))

  once : NoRepeats (f ∷ p.mate ∷ A)
  once = subst NoRepeats whole ring.ring.once

  left : (t : Tag) → Contains A t → (class_at S t ≡ Some class.Fin) × (t ≢ f) × (t ≢ p.mate)
  left t k = (
    placed-class well fin-in.end t (in_ring t k),
    (λ e. ByRecursion-at (λ x. f ≢ x) (p.mate ∷ A) t once.0 (Contains-later p.mate A t k) (sym e)),
    (λ e. ByRecursion-at (λ x. p.mate ≢ x) A t once.1.0 k (sym e)),
  )

  no_fin : (t : Tag) → class_at S t ≡ Some class.Fin → t ≢ p.loop_
  no_fin t c = class_apart S t p.loop_ _ _ c loop_class (λ k. cc)

  -- ---- the two are cut out

  module _ (n : EntityMap) (relinks : Relinks m ((f ∷ p.mate ∷ A) ∷ []) n ([] ∷ A ∷ (f ∷ []) ∷ (p.mate ∷ []) ∷ [])) where
    pub kev-cut : IsCutOut S m n f u v kev_loops killed
    kev-cut = record {
      elsewhere = relinks-elsewhere m n _ _ relinks;
      outside = λ t a b. relinks.others t ((λ k. a (subst (λ ts. Contains ts t) (sym whole) k)), tt);
      rings = (record { ring = relinks.rings.1.0; named = λ t k. relinks-named m n _ _ relinks t ∙ placed-named well fin-in.end m was t (in_ring t k); left = left }, tt);
      loops_once = (tt, tt);
      loops_live = (loop_lives, tt);
      no_fins = λ t c. (no_fin t c, tt);
      both = λ l none live. (none.0, (λ e. none.0 (e ∙ one_loop)));
      once = dying-are_once m sound f p w found also;
      edge = (2, omega arith, refl);
      fins = λ t c tf tm. (tf, (tm, (class_apart S t p.edge _ _ c edge_class (λ k. cc), (class_apart S t w.vertex _ _ c vertex_class (λ k. cc), tt))));
    }

    -- the loop still names its first fin: the least of what is left, unless it is one of the two
    pub names-first : (rest : List Tag) → rest ≡ A
        → (face : Tag) × (first : Tag) × (get n p.loop_ ≡ Some (entity.Loop face (Some first) None)) × (first ≢ f → first ≢ p.mate → first_tag (from_least rest) ≡ Some first)
    names-first rest is =
        let E = fin-in.end in
        let listed = placed-listed well E f (subst (λ ts. Contains ts f) (sym fin-in.fins_are) (Contains-first f fin-in.rest)) in
        let first = some-first E.list f listed in
        let bare : E.lone ≡ None = E.lone_is ∙ ap (λ ts. cond (is_empty ts) (Some p.vertex) None) whole in
        let same : get n p.loop_ ≡ get m p.loop_ = relinks.others p.loop_ ((λ k. no_fin p.loop_ (placed-class well E p.loop_ (subst (λ ts. Contains ts p.loop_) (sym whole) k)) refl), tt) in (
          p.face,
          first.0,
          same ∙ (was.items p.loop_ _ E.loop_is).0 ∙ (λ i. Some (entity.Loop p.face (first.1 i) (bare i))),
          (λ tf tm. ap (λ ts. first_tag (from_least ts)) is
              ∙ least-left f p.mate A E.list first.0 (subst (Turned E.list) whole E.turned) (well.written.loops p.loop_ p.face E.list E.lone E.loop_is) first.1 tf tm),
        )
