-- mekr, and then kemr.
use Rattle.std.proofs.Common.{◌≡◌, ◌≢◌, ◌+◌, ◌≤◌, ◌⊎◌, inl, inr, ⊎_elim, Bool, true, false, cond, not, List, [], ◌∷◌, ◌++◌, drop, take, length, Option, Some, None, Result, Ok, refl, sym, ap, subst, ◌∙◌, arith}
use Rattle.std.specs.Prelude.{T, ℤ, IsOk, map, option_map, Contains}
use Rattle.std.specs.List.{AllByRecursion}
use Rattle.std.specs.FinMap.{is_sorted}
use Rattle.pk_base.specs.declared.tag.Tag.{Tag}
use Rattle.pk_base.specs.declared.call.Call.TheVariants as call
use Rattle.pk_base.proofs.Same.{differs_means, same_means, same_or_other}
use Rattle.pk_model.specs.Apart.{NoRepeats}
use Rattle.pk_model.specs.Maps.{EntityMap, tag_cmp}
use Rattle.pk_model.specs.Tags.{TagsAscend, tag_at}
use Rattle.pk_model.proofs.TagLists.{NoneOf, NoRepeats-between, NoRepeats-take}
use Rattle.list_facts.proofs.Elements.{Contains-first}
use Rattle.list_facts.proofs.Each.{ByRecursion-at, ByRecursion-take}
use Rattle.solid_model.specs.Items.{Item, Shape, item_at, ◌with◌}
use Rattle.solid_model.specs.Items.Item.{Body, Shell, Face, Loop, Fin, Edge, Vertex, Attr}
use Rattle.solid_model.specs.Deaths.{is_attribute_of, ◌without◌}
use Rattle.solid_model.specs.Rings.{before, from, from_least, ring_of, ring_or_lone}
use Rattle.solid_model.specs.Rows.{Row, cost_of, makes_one, makes_three}
use Rattle.solid_model.specs.Places.{End, PlacedFin, end_at, fin_at}
use Rattle.solid_model.specs.Shapes.{shape_of}
use Rattle.solid_model.specs.Kemr.{kemr}
use Rattle.solid_model.specs.Mekr.{mekr}
use Rattle.solid_model.proofs.lists.Neighbours.{among_or_none, once-last, parts_at}
use Rattle.solid_model.proofs.lists.Turned.{Turned, turned-back, turned-least, turned-once}
use Rattle.solid_sound.proofs.shapes.Edits.{live-none_of}
use Rattle.solid_sound.proofs.shapes.Lookups.{Items, with-other, with-sorted, with-written}
use Rattle.solid_sound.proofs.shapes.Reading.{fins-once}
use Rattle.solid_sound.proofs.edges.Ends.{EndIn, end-well}
use Rattle.solid_sound.proofs.rows.RowKeeps.{IsWell, well-shape}
use Rattle.solid_sound.proofs.rows.KeptKemr.{kemr-keeps}
use Rattle.solid_sound.proofs.rows.KeptMekr.{mekr-keeps}
use Rattle.solid_calls.specs.Pairs.{reached, row_on}
use Rattle.solid_calls.proofs.Kept.{reached-well}
use Rattle.solid_calls.proofs.RowKinds.{cost-making, kemr-makes, mekr-makes}
use Rattle.solid_edits.proofs.Going.{goes-on}
use Rattle.euler_make.proofs.MekrFound.{AreApart, mekr-cost, mekr-goes, mekr-is}
use Rattle.euler_kill.proofs.KemrFound.{kemr-is}
use Rattle.euler_laws.specs.Both.{GivesBackButNames, MayFollow, cost_on}
use Rattle.solid_model.specs.SameButNames.{SameButNames, SameIfAny, SameItem, but_attributes}
use Rattle.euler_laws.specs.Operands.{end_loop, loop_at_end}
use Rattle.euler_laws.proofs.AnewNames.{but-none, item-alike, left-without, pairs-once, ring-plain, same-anew}
use Rattle.euler_laws.proofs.Carrying.{cost-made}
use Rattle.euler_laws.proofs.GivenBack.{OwnsNone, killed-none, spared}
use Rattle.euler_laws.proofs.Laws.{ascend-once, free-items, gives-back-names}
use Rattle.euler_laws.proofs.Placed.{end-item, fin-placed, owns-none, placed}
use Rattle.euler_laws.proofs.Renamings.{Pairs, both_of, renamed}
use Rattle.euler_laws.proofs.TurnedLists.{turned-twice}

-- The loop l has the list B, or the lone vertex s; its face has the ring g of the list A, or of the lone vertex w.
module _ (S : Shape) (well : IsWell S) (l g face b s w : Tag) (A B : List Tag) (l_is : item_at S l ≡ Some (ring_or_lone face B s)) (g_is : item_at S g ≡ Some (ring_or_lone face A w)) (apart : l ≢ g)
    (t0 t1 t2 t3 : Tag) (once : NoRepeats (t0 ∷ t1 ∷ t2 ∷ t3 ∷ [])) (free : AllByRecursion (λ t. item_at S t ≡ None) (t0 ∷ t1 ∷ t2 ∷ t3 ∷ [])) where
  abbrev ring : List Tag
  ring = t1 ∷ A ++ t2 ∷ B

  abbrev xs : Items
  xs = (t0, Edge b) ∷ (t1, Fin t2 t0 s) ∷ (t2, Fin t1 t0 w) ∷ (l, ring_of face ring) ∷ []

  abbrev pub joined : Shape
  joined = S with xs without g ∷ []

  abbrev new : List Tag
  new = t0 ∷ t1 ∷ t2 ∷ t3 ∷ []

  l_new : NoneOf l new
  l_new = live-none_of S new l _ free l_is

  g_new : NoneOf g new
  g_new = live-none_of S new g _ free g_is

  sorted_xs : T (is_sorted tag_cmp (S with xs))
  sorted_xs = with-sorted S xs well.written.ascends

  xs_once : NoRepeats (t0 ∷ t1 ∷ t2 ∷ l ∷ [])
  xs_once = once-last (t0 ∷ t1 ∷ t2 ∷ []) l (NoRepeats-take 3 new once) (l_new.0, (l_new.1.0, (l_new.1.1.0, tt)))

  -- what is written and no attribute stays
  writes : (t : Tag) (x : Item) → Contains xs (t, x) → t ≢ g → is_attribute_of (g ∷ []) x ≡ false → item_at joined t ≡ Some x
  writes t x k other plain =
      let there : item_at (S with xs) t ≡ Some x = with-written S xs t x xs_once k in
      spared (S with xs) (g ∷ []) sorted_xs t (other, tt) (λ y h. let both : Some y ≡ Some x = sym h ∙ there in let same : y ≡ x = cc in ap (is_attribute_of (g ∷ [])) same ∙ plain) ∙ there

  t1_is : item_at joined t1 ≡ Some (Fin t2 t0 s)
  t1_is = writes t1 _ (1, omega arith, refl) (λ h. g_new.1.0 (sym h)) refl

  t2_is : item_at joined t2 ≡ Some (Fin t1 t0 w)
  t2_is = writes t2 _ (2, omega arith, refl) (λ h. g_new.1.1.0 (sym h)) refl

  l_now : item_at joined l ≡ Some (Loop face (from_least ring) None)
  l_now = writes l _ (3, omega arith, refl) apart refl

  g_gone : item_at joined g ≡ None
  g_gone = killed-none (S with xs) (g ∷ []) sorted_xs g (0, omega arith, refl)

  joined_at : (t : Tag) → NoneOf t new → t ≢ l → t ≢ g → item_at joined t ≡ but_attributes (g ∷ []) (item_at S t)
  joined_at t none nl ng = left-without (S with xs) (g ∷ []) sorted_xs t (ng, tt) ∙ ap (but_attributes (g ∷ [])) (with-other S xs t (none.0, (none.1.0, (none.1.1.0, (nl, tt)))))

  pub t3_free : item_at joined t3 ≡ None
  t3_free =
      left-without (S with xs) (g ∷ []) sorted_xs t3 ((λ h. g_new.1.1.1.0 (sym h)), tt)
      ∙ ap (but_attributes (g ∷ [])) (with-other S xs t3 ((λ h. once.0.1.1.0 (sym h)), ((λ h. once.1.0.1.0 (sym h)), ((λ h. once.1.1.0.0 (sym h)), ((λ h. l_new.1.1.1.0 (sym h)), tt)))) ∙ free.1.1.1.0)

  -- ---- the edge is killed again

  abbrev ns : List Tag
  ns = t1 ∷ t2 ∷ t0 ∷ []

  abbrev ys : Items
  ys = (l, ring_or_lone face B s) ∷ (t3, ring_or_lone face A w) ∷ []

  abbrev pub parted : Shape
  parted = joined with ys without ns

  module _ (cut : IsWell joined) where
    ring_once : NoRepeats ring
    ring_once = turned-once (from_least ring) ring (turned-back ring (from_least ring) (turned-least ring)) (fins-once joined cut.written cut.sound l face (from_least ring) None l_now)

    turned_2 : Turned (t2 ∷ B ++ t1 ∷ A) ring
    turned_2 = record { pre = t2 ∷ B; post = t1 ∷ A; here = refl; there = refl }

    first_at : fin_at joined t1 ≡ Ok (placed joined t1 t2 t0 s l face (A ++ t2 ∷ B))
    first_at = fin-placed joined cut t1 t2 t0 s l face (from_least ring) (A ++ t2 ∷ B) None t1_is l_now (turned-least ring) ring_once

    second_at : fin_at joined t2 ≡ Ok (placed joined t2 t1 t0 w l face (B ++ t1 ∷ A))
    second_at = fin-placed joined cut t2 t1 t0 w l face (from_least ring) (B ++ t1 ∷ A) None t2_is l_now
        (turned-twice (t2 ∷ B ++ t1 ∷ A) ring (from_least ring) turned_2 (turned-least ring)) (turned-once ring (t2 ∷ B ++ t1 ∷ A) (turned-back (t2 ∷ B ++ t1 ∷ A) ring turned_2) ring_once)

    not_before : ¬ (Contains (t1 ∷ A) t2)
    not_before k = NoRepeats-between (t1 ∷ A) (t2 ∷ B) t2 ring_once k (Contains-first t2 B)

    pub row : kemr joined t1 ≡ makes_one (λ r. joined with (l, ring_or_lone face B s) ∷ (r, ring_or_lone face A w) ∷ [] without t1 ∷ t2 ∷ t0 ∷ [])
    row =
        let p = parts_at t2 (t1 ∷ A) B not_before in
        kemr-is joined t1 (placed joined t1 t2 t0 s l face (A ++ t2 ∷ B)) (placed joined t2 t1 t0 w l face (B ++ t1 ∷ A)) first_at second_at refl
        ∙ (λ i. makes_one (λ r. joined with (l, ring_or_lone face (drop 1 (p.1 i)) s) ∷ (r, ring_or_lone face (drop 1 (p.0 i)) w) ∷ [] without t1 ∷ t2 ∷ t0 ∷ []))

    sorted_ys : T (is_sorted tag_cmp (joined with ys))
    sorted_ys = with-sorted joined ys cut.written.ascends

    gives : (t : Tag) (B : List Tag) (v : Tag) → Contains ys (t, ring_or_lone face B v) → NoneOf t ns → item_at parted t ≡ Some (ring_or_lone face B v)
    gives t B v k none =
        let there : item_at (joined with ys) t ≡ Some (ring_or_lone face B v) = with-written joined ys t _ ((l_new.1.1.1.0, tt), (tt, tt)) k in
        spared (joined with ys) ns sorted_ys t none (λ y h. let both : Some y ≡ Some (ring_or_lone face B v) = sym h ∙ there in let same : y ≡ ring_or_lone face B v = cc in ap (is_attribute_of ns) same ∙ ring-plain ns face B v) ∙ there

    l_last : item_at parted l ≡ Some (ring_or_lone face B s)
    l_last = gives l B s (0, omega arith, refl) (l_new.1.0, (l_new.1.1.0, (l_new.0, tt)))

    t3_last : item_at parted t3 ≡ Some (ring_or_lone face A w)
    t3_last = gives t3 A w (1, omega arith, refl) ((λ h. once.1.0.1.0 (sym h)), ((λ h. once.1.1.0.0 (sym h)), ((λ h. once.0.1.1.0 (sym h)), tt)))

    parted_at : (t : Tag) → NoneOf t ns → t ≢ l → t ≢ t3 → item_at parted t ≡ but_attributes ns (item_at joined t)
    parted_at t none nl n3 = left-without (joined with ys) ns sorted_ys t none ∙ ap (but_attributes ns) (with-other joined ys t (nl, (n3, tt)))

    abbrev pairs : Pairs
    pairs = (g, t3) ∷ []

    pairs_once : NoRepeats (both_of pairs)
    pairs_once = ((g_new.1.1.1.0, tt), (tt, tt))

    module _ (made : IsWell parted) where
      dead : AllByRecursion (λ (p : Tag × Tag). item_at parted p.0 ≡ None) pairs
      dead = (parted_at g (g_new.1.0, (g_new.1.1.0, (g_new.0, tt))) (λ h. apart (sym h)) g_new.1.1.1.0 ∙ ap (but_attributes ns) g_gone, tt)

      fresh : AllByRecursion (λ (p : Tag × Tag). item_at S p.1 ≡ None) pairs
      fresh = (free.1.1.1.0, tt)

      alike : (t u : Tag) (x : Item) → item_at S t ≡ Some x → item_at parted u ≡ Some x → SameIfAny (renamed pairs) (item_at S t) (item_at parted u)
      alike t u x is now = subst (λ (o : Option Item × Option Item). SameIfAny (renamed pairs) o.0 o.1) (λ i. (sym is i, sym now i)) (item-alike S parted well made pairs pairs_once dead fresh t u x is now)

      others : (t : Tag) → NoneOf t (g ∷ []) → NoneOf t (t3 ∷ []) → SameIfAny (renamed pairs) (item_at S t) (item_at parted t) ⊎ (item_at parted t ≡ but_attributes (g ∷ []) (item_at S t))
      others t ng n3 = ⊎_elim {C = SameIfAny (renamed pairs) (item_at S t) (item_at parted t) ⊎ (item_at parted t ≡ but_attributes (g ∷ []) (item_at S t))}
          (λ (k : Contains ns t). inl (
          let none : item_at S t ≡ None = ByRecursion-at (λ u. item_at S u ≡ None) ns t (free.1.0, (free.1.1.0, (free.0, tt))) k in
          let gone : item_at parted t ≡ None = killed-none (joined with ys) ns sorted_ys t k in
          subst (λ (o : Option Item × Option Item). SameIfAny (renamed pairs) o.0 o.1) (λ i. (sym none i, sym gone i)) tt))
          (λ (none : NoneOf t ns). ⊎_elim {C = SameIfAny (renamed pairs) (item_at S t) (item_at parted t) ⊎ (item_at parted t ≡ but_attributes (g ∷ []) (item_at S t))}
          (λ (same : t ≡ l). inl (subst (λ u. SameIfAny (renamed pairs) (item_at S u) (item_at parted u)) (sym same) (alike l l _ l_is l_last)))
          (λ (nl : t ≢ l). inr (parted_at t none nl n3.0 ∙ ap (but_attributes ns) (joined_at t (none.1.1.0, (none.0, (none.1.0, (n3.0, tt)))) nl ng.0)
          ∙ but-none S ns (g ∷ []) (owns-none S well ns (free.1.0, (free.1.1.0, (free.0, tt)))) t))
          (same_or_other t l))
          (among_or_none t ns)

      pub ring-anew : SameButNames (g ∷ []) (t3 ∷ []) S parted
      ring-anew = same-anew S parted well made pairs pairs_once dead fresh (alike g t3 _ g_is t3_last, tt) others

-- ---- the law

mekr-kemr_at : (m : EntityMap) (k r t0 t1 t2 t3 : Tag) (rest : List Tag) → MayFollow m (call.Mekr k r) 4 (t0 ∷ t1 ∷ t2 ∷ t3 ∷ rest)
    → GivesBackButNames m (call.Mekr k r) (call.Kemr t1) (t0 ∷ t1 ∷ t2 ∷ t3 ∷ rest) (loop_at_end (shape_of m) r ∷ []) (t3 ∷ [])
mekr-kemr_at m k r t0 t1 t2 t3 rest may =
    let S = shape_of m in
    let tags = t0 ∷ t1 ∷ t2 ∷ t3 ∷ rest in
    let well = well-shape m may.sound in
    let free = free-items m may.sound tags may.free in
    let once : NoRepeats (t0 ∷ t1 ∷ t2 ∷ t3 ∷ []) = NoRepeats-take 4 tags (ascend-once tags may.ascend) in
    let new : AllByRecursion (λ t. item_at S t ≡ None) (t0 ∷ t1 ∷ t2 ∷ t3 ∷ []) = ByRecursion-take (λ t. item_at S t ≡ None) 4 tags free in
    let gu = goes-on (end_at S k) _ may.goes in
    let gv = goes-on (end_at S r) _ gu.goes in
    let u : End = gu.found in
    let v : End = gv.found in
    let ends = mekr-goes S k r u v gu.is gv.is may.goes in
    let U = end-well S well k (item_at S k) refl u gu.is in
    let V = end-well S well r (item_at S r) refl v gv.is in
    let face_same : u.face ≡ v.face = same_means u.face v.face ends.face in
    let l_is = end-item S well u U in
    let g_is : item_at S v.loop_ ≡ Some (ring_or_lone u.face v.fins v.vertex) = end-item S well v V ∙ ap (λ f. Some (ring_or_lone f v.fins v.vertex)) (sym face_same) in
    let apart = differs_means u.loop_ v.loop_ ends.loops in
    let R = joined S well u.loop_ v.loop_ u.face u.body u.vertex v.vertex v.fins u.fins l_is g_is apart t0 t1 t2 t3 once new in
    let first : reached S tags (mekr S k r) ≡ R = ap (reached S tags) (mekr-is S k r u v gu.is gv.is ends) in
    let three : cost_of (mekr S k r) ≡ 3 = mekr-cost S k r may.goes in
    let cut : IsWell R = subst IsWell first (reached-well S tags (mekr S k r) well (let enough = may.enough in omega (arith, three, enough)) (mekr-keeps S tags k r well may.ascend free)) in
    let row_is = row S well u.loop_ v.loop_ u.face u.body u.vertex v.vertex v.fins u.fins l_is g_is apart t0 t1 t2 t3 once new cut in
    let Q = parted S well u.loop_ v.loop_ u.face u.body u.vertex v.vertex v.fins u.fins l_is g_is apart t0 t1 t2 t3 once new in
    let goes : IsOk (kemr R t1) = subst IsOk (sym row_is) refl in
    let cost : cost_of (kemr R t1) ≡ 1 = cost-making 1 (kemr R t1) (kemr-makes R t1) goes in
    let made : IsWell Q = subst IsWell (ap (reached R (t3 ∷ [])) row_is) (reached-well R (t3 ∷ []) (kemr R t1) cut (let fits : length (t3 ∷ []) ≡ 1 = refl in omega (arith, cost, fits))
    (kemr-keeps R (t3 ∷ []) t1 cut (λ more. t3_free S well u.loop_ v.loop_ u.face u.body u.vertex v.vertex v.fins u.fins l_is g_is apart t0 t1 t2 t3 once new))) in
    let same = ring-anew S well u.loop_ v.loop_ u.face u.body u.vertex v.vertex v.fins u.fins l_is g_is apart t0 t1 t2 t3 once new cut made in
    let law : GivesBackButNames m (call.Mekr k r) (call.Kemr t1) tags (v.loop_ ∷ []) (t3 ∷ []) = gives-back-names m (call.Mekr k r) (call.Kemr t1) tags (v.loop_ ∷ []) (t3 ∷ []) R Q may.sound first cut goes
    (ap (λ n. reached R (drop n tags) (kemr R t1)) (cost-made 3 m (call.Mekr k r) (mekr-makes S k r) may.goes) ∙ ap (reached R (t3 ∷ rest)) row_is) made same in
    let loop_is : loop_at_end S r ≡ v.loop_ = ap end_loop gv.is in
    subst (λ t. GivesBackButNames m (call.Mekr k r) (call.Kemr t1) tags (t ∷ []) (t3 ∷ [])) (sym loop_is) law

pub mekr-kemr : (m : EntityMap) (k r : Tag) (tags : List Tag) → MayFollow m (call.Mekr k r) 4 tags
    → GivesBackButNames m (call.Mekr k r) (call.Kemr (tag_at tags 1)) tags (loop_at_end (shape_of m) r ∷ []) (tag_at tags 3 ∷ [])
mekr-kemr m k r [] may = absurd (let h = may.enough in omega (arith, h))
mekr-kemr m k r (a ∷ []) may = absurd (let h = may.enough in omega (arith, h))
mekr-kemr m k r (a ∷ b ∷ []) may = absurd (let h = may.enough in omega (arith, h))
mekr-kemr m k r (a ∷ b ∷ c ∷ []) may = absurd (let h = may.enough in omega (arith, h))
mekr-kemr m k r (a ∷ b ∷ c ∷ d ∷ rest) may = mekr-kemr_at m k r a b c d rest may
