-- The cuts on the store: what holds before each of them and once all are made.
use Rattle.std.proofs.Common.{◌≡◌, ◌≢◌, ℕ, zero, suc, ◌+◌, ◌*◌, ◌-◌, ◌<◌, ◌≤◌, List, [], ◌∷◌, ◌++◌, length, take, drop, get_or, Option, Some, None, refl, sym, ap, subst, ◌∙◌, arith}
use Rattle.std.specs.Prelude.{Bool, true, false, cond, nat_lt, map, Contains, IsOk, slice_index_or}
use Rattle.std.proofs.Common.{⊎_elim}
use Rattle.std.proofs.lemmas.Bool.Decides.{nat_tests}
use Rattle.std.proofs.Math.ListN.{drop_of_length-le}
use Rattle.std.proofs.lemmas.Bool.{cases_lt}
use Rattle.std.proofs.lemmas.List.{drop_more, get_or_append_left, get_or-append-add, get_or-take}
use Rattle.std.proofs.lemmas.List.FromFn.{get_or-map-range_with_len, length-map-range_with_len}
use Rattle.solid_model.proofs.lists.Neighbours.{head_or}
use Rattle.std.specs.List.{AllByRecursion, range_with_len}
use Rattle.pk_base.specs.Blocks.{tag}
use Rattle.pk_base.specs.Building.{Building}
use Rattle.pk_base.specs.declared.tag.Tag.{Tag}
use Rattle.pk_base.specs.declared.call.Call.TheVariants.{Mef}
use Rattle.pk_model.specs.Tags.{TagsAscend, tag_at}
use Rattle.list_facts.proofs.Elements.{Contains-first}
use Rattle.list_facts.proofs.Each.{ByRecursion-weaker}
use Rattle.std.specs.FinMap.{get}
use Rattle.entity_store.specs.NextTags.{TagsView, left}
use Rattle.entity_store.specs.Store.{StoreView}
use Rattle.entity_store.specs.Room.{PutsAmong}
use Rattle.solid_model.specs.Items.{Shape, item_at}
use Rattle.solid_model.specs.Places.{fins_at}
use Rattle.solid_model.specs.Folds.{Progress, after_row, after_cuts}
use Rattle.solid_model.specs.Mef.{mef}
use Rattle.solid_model.specs.Owners.{owner_in}
use Rattle.solid_model.specs.Rings.{written_from}
use Rattle.solid_model.specs.Rows.{cost_of}
use Rattle.solid_model.specs.Room.{tags_put}
use Rattle.solid_model.specs.Links.{links}
use Rattle.solid_model.specs.Shapes.{shape_of}
use Rattle.solid_model.proofs.lists.Cycles.{written-in}
use Rattle.solid_calls.specs.Pairs.{HasDone, HasTags, MayDo, Takes, row_on}
use Rattle.solid_sound.proofs.shapes.Reading.{loop-of_fin}
use Rattle.solid_sound.proofs.rows.RowKeeps.{IsWell, well-shape}
use Rattle.solid_sound.proofs.rows.Asked.{free_item}
use Rattle.solid_sound.proofs.rows.Progress.{start, left-ascend, left-free}
use Rattle.euler_make.specs.Cutting.{HasCut, MayCut, StandFrom, StandInLoop, backs_listed, place_of_next, tags_cut}
use Rattle.euler_make.proofs.MefFound.{mef-cost}
use Rattle.euler_make.proofs.CutMade.{CutMade}
use Rattle.euler_make.proofs.SidesCut.{Cutting, cutting-start, cutting-next, cutting-end, cut, cut-puts, cut_to, next, now}
use Rattle.euler_make.proofs.Folded.{Folded, folded-start, folded-may, folded-has, folded-next, sound-now}

-- the fins stand in one loop alone
one_loop : (S : Shape) → IsWell S → (fins : List Tag) (l k : Tag) → StandInLoop S l fins → StandInLoop S k fins → l ≡ k
one_loop S well [] l k a b = absurd a
one_loop S well (c ∷ cs) l k a b = sym (owner l a) ∙ owner k b
  where
    owner : (l : Tag) → StandFrom S l c cs → owner_in S c ≡ l
    owner l a = loop-of_fin S well.written well.sound l a.face a.list None a.loop_is c
        (written-in c c a.list (subst (λ us. Contains us c) (sym a.round) (Contains-first c a.rest)))

-- the first i cuts were made on the store
pub record CutsDone (old : StoreView) (fins : List Tag) (tags0 : TagsView) (out0 : Building Tag) (l : Tag) (i : ℕ) (s : StoreView) (tags : TagsView) (out : Building Tag) : Type 0 where
  pub progress : Progress
  pub cutting : Cutting (shape_of old.state.map) l fins (left tags0) i progress
  pub folded : Folded (tags_cut (shape_of old.state.map) l (length fins) (left tags0)) (5 * i) old s tags0 tags out0 out progress

module _ (old : StoreView) (fins : List Tag) (tags0 : TagsView) (out0 : Building Tag) (may : MayCut old fins (left tags0)) (has : HasTags old (5 * length fins) tags0 out0) where
  abbrev S : Shape
  S = shape_of old.state.map

  well : IsWell S
  well = well-shape old.state.map may.sound

  free : AllByRecursion (λ t. item_at S t ≡ None) (left tags0)
  free = ByRecursion-weaker (λ t. get old.state.map t ≡ None) (λ t. item_at S t ≡ None) (λ t e. free_item old.state.map may.sound t e) (left tags0) has.free

  pub cuts-start : CutsDone old fins tags0 out0 may.loop_ 0 old tags0 out0
  cuts-start = record {
    progress = start S (left tags0);
    cutting = cutting-start S may.loop_ fins (left tags0) well may.stand may.apart;
    folded = folded-start (tags_cut S may.loop_ (length fins) (left tags0)) old tags0 out0 may.sound;
  }

  pub cuts-end : (s : StoreView) (tags : TagsView) (out : Building Tag) → CutsDone old fins tags0 out0 may.loop_ (length fins) s tags out → HasCut old fins (left tags0) s
  cuts-end s tags out d =
      let two = may.two in
      let end = cutting-end S may.loop_ fins (left tags0) d.progress (omega (arith, two)) d.cutting in
      record {
        state = d.folded.state ∙ ap (λ (p : Progress). record old.state { map = links p.shape }) end;
        sound = sound-now _ _ old s tags0 tags out0 out d.progress d.folded;
        puts = λ l stand. subst (λ k. PutsAmong (tags_cut S k (length fins) (left tags0)) old s) (one_loop S well fins may.loop_ l may.stand stand) d.folded.puts;
      }

  module _ (i : ℕ) (s : StoreView) (tags : TagsView) (out : Building Tag) (d : CutsDone old fins tags0 out0 may.loop_ i s tags out) (less : i < length fins) where
    enough : 5 * (i + 1) ≤ length (left tags0)
    enough = let all = has.enough in omega (arith, all, less)

    abbrev p : Progress
    p = d.progress

    abbrev from : Tag
    from = get_or fins i (tag 0)

    abbrev to : Tag
    to = cut_to fins (left tags0) i

    abbrev all_puts : List Tag
    all_puts = tags_cut S may.loop_ (length fins) (left tags0)

    puts_in : (t : Tag) → Contains (tags_put p.shape (Mef from to) p.tags) t → Contains all_puts t
    puts_in = cut-puts S may.loop_ fins (left tags0) has.ascend free may.two i p d.cutting less enough (omega (arith, less))

    abbrev behind : List Tag
    behind = (next S may.loop_ fins (left tags0) has.ascend free may.two i p d.cutting less enough).to_left

    the_cut : CutMade p.shape p.tags may.loop_ from to behind
    the_cut = cut S may.loop_ fins (left tags0) has.ascend free may.two i p d.cutting less enough

    cost : cost_of (mef p.shape from to) ≡ 5
    cost = mef-cost p.shape from to the_cut.goes

    pub cuts-may : MayDo s (Mef from to) (left tags)
    cuts-may = folded-may all_puts (5 * i) old s tags0 tags out0 out p d.folded (Mef from to) the_cut.goes may.room puts_in

    pub cuts-has : HasTags s (cost_of (row_on s.state.map (Mef from to))) tags out
    cuts-has = folded-has all_puts (5 * i) old s tags0 tags out0 out p d.folded (Mef from to) 5 (5 * length fins) cost (omega (arith, less)) has
        (left-ascend S (left tags0) has.ascend free (5 * i) p d.cutting.began) (left-free S (left tags0) has.ascend free (5 * i) p d.cutting.began)

    after_is : after_row (mef p.shape from to) p ≡ now S may.loop_ fins (left tags0) has.ascend free may.two i p d.cutting less enough
    unfolding the_cut
    after_is = the_cut.after

    well_now : IsWell (now S may.loop_ fins (left tags0) has.ascend free may.two i p d.cutting less enough).shape
    unfolding the_cut
    well_now = the_cut.well

    pub cuts-next : (s' : StoreView) (tags' : TagsView) (out' : Building Tag) → HasDone s (Mef from to) (left tags) s' → Takes (cost_of (row_on s.state.map (Mef from to))) tags out tags' out' → CutsDone old fins tags0 out0 may.loop_ (i + 1) s' tags' out'
    cuts-next s' tags' out' done takes =
        let five : 5 * i + 5 ≡ 5 * (i + 1) = omega arith in
        let after = now S may.loop_ fins (left tags0) has.ascend free may.two i p d.cutting less enough in
        record {
          progress = after;
          cutting = cutting-next S may.loop_ fins (left tags0) has.ascend free may.two i p d.cutting less enough;
          folded = subst (λ n. Folded all_puts n old s' tags0 tags' out0 out' after) five
              (folded-next all_puts (5 * i) old s tags0 tags out0 out p d.folded (Mef from to) 5 after s' tags' out' cost after_is well_now refl puts_in done takes);
        }

-- ---- where the fins are listed

-- the ends of a cut are those that are read
pub cuts-ends : (items tags more : List Tag) (listed n i : ℕ) (a b : Tag) → 2 ≤ n → i < n → length items ≡ listed + 4 * n → 5 * i ≤ length tags → more ≡ items ++ take (5 * i) tags
    → a ≡ slice_index_or more (listed + 4 * i + 3) (tag 0) → b ≡ slice_index_or more (place_of_next listed n i) (tag 0)
    → ◌≡◌ {A = Tag × Tag} (a, b) (get_or (backs_listed items listed n) i (tag 0), cut_to (backs_listed items listed n) tags i)
cuts-ends items tags more listed n i a b two less long enough is from_is to_is =
    let back : ℕ → Tag = λ j. slice_index_or items (listed + 4 * j + 3) (tag 0) in
    let old = λ (j : ℕ) (h : j < length items). ap (λ ts. get_or ts j (tag 0)) is ∙ get_or_append_left items (take (5 * i) tags) (tag 0) j h in
    let from : a ≡ get_or (backs_listed items listed n) i (tag 0) =
    from_is ∙ old (listed + 4 * i + 3) (omega (arith, less, long)) ∙ sym (get_or-map-range_with_len back 0 n i i (tag 0) less (omega arith)) in
    let to : b ≡ cut_to (backs_listed items listed n) tags i = to_is ∙ ⊎_elim {C = slice_index_or more (place_of_next listed n i) (tag 0) ≡ cut_to (backs_listed items listed n) tags i}
    (λ (h : i + 1 < n).
    let place : listed + 4 * i + 7 ≡ listed + 4 * (i + 1) + 3 = omega arith in
    let longer : i + 1 < length (backs_listed items listed n) = omega (arith, h, length-map-range_with_len back 0 n) in
    ap (λ (c : Bool). get_or more (cond c (listed + 4 * i + 7) (listed + 4 * i + 8)) (tag 0)) (is_below (i + 1) n h)
    ∙ ap (λ j. get_or more j (tag 0)) place ∙ old (listed + 4 * (i + 1) + 3) (omega (arith, h, long))
    ∙ sym (get_or-map-range_with_len back 0 n (i + 1) (i + 1) (tag 0) h (omega arith))
    ∙ ap (head_or (tag_at tags 4)) (sym (drop_more (backs_listed items listed n) (i + 1) (tag 0) longer)))
    (λ (h : n ≤ i + 1).
    let place : listed + 4 * i + 8 ≡ length items + 4 = omega (arith, h, less, long) in
    let none : length (backs_listed items listed n) ≤ i + 1 = omega (arith, h, length-map-range_with_len back 0 n) in
    ap (λ (c : Bool). get_or more (cond c (listed + 4 * i + 7) (listed + 4 * i + 8)) (tag 0)) (not_below (i + 1) n h)
    ∙ ap (λ j. get_or more j (tag 0)) place ∙ ap (λ ts. get_or ts (length items + 4) (tag 0)) is
    ∙ get_or-append-add items (take (5 * i) tags) 4 (tag 0) ∙ get_or-take (5 * i) tags 4 (tag 0) (omega (arith, two, h))
    ∙ ap (head_or (tag_at tags 4)) (sym (drop_of_length-le (backs_listed items listed n) none)))
    (cases_lt (i + 1) n) in
    λ j. (from j, to j)
  where
    is_below : (j k : ℕ) → j < k → nat_lt j k ≡ true
    is_below j k h = grind (arith, nat_tests)

    not_below : (j k : ℕ) → k ≤ j → nat_lt j k ≡ false
    not_below j k h = grind (arith, nat_tests)

-- What a call of mef from a to b asks for, once the first i cuts were made, and that it makes the next one.
pub record CutStep (old : StoreView) (fins : List Tag) (tags0 : TagsView) (out0 : Building Tag) (l : Tag) (i : ℕ) (s : StoreView) (tags : TagsView) (out : Building Tag) (a b : Tag) : Type 0 where
  pub may_do : MayDo s (Mef a b) (left tags)
  pub has : HasTags s (cost_of (row_on s.state.map (Mef a b))) tags out
  pub next : (s' : StoreView) (tags' : TagsView) (out' : Building Tag) → HasDone s (Mef a b) (left tags) s' → Takes (cost_of (row_on s.state.map (Mef a b))) tags out tags' out' → CutsDone old fins tags0 out0 l (i + 1) s' tags' out'

pub cuts-step : (old s : StoreView) (tags0 tags : TagsView) (out0 out : Building Tag) (listed n i : ℕ) (may : MayCut old (backs_listed out0.items listed n) (left tags0)) → HasTags old (5 * n) tags0 out0 → length out0.items ≡ listed + 4 * n
    → CutsDone old (backs_listed out0.items listed n) tags0 out0 may.loop_ i s tags out → i < n → (a b : Tag) → a ≡ slice_index_or out.items (listed + 4 * i + 3) (tag 0) → b ≡ slice_index_or out.items (place_of_next listed n i) (tag 0)
    → CutStep old (backs_listed out0.items listed n) tags0 out0 may.loop_ i s tags out a b
cuts-step old s tags0 tags out0 out listed n i may has_then listed_is d less a b a_is b_is =
    let fins = backs_listed out0.items listed n in
    let long : length fins ≡ n = length-map-range_with_len (λ j. slice_index_or out0.items (listed + 4 * j + 3) (tag 0)) 0 n in
    let two : 2 ≤ n = (let two = may.two in omega (arith, two, long)) in
    let has = subst (λ k. HasTags old (5 * k) tags0 out0) (sym long) has_then in
    let enough : 5 * i ≤ length (left tags0) = (let all = has_then.enough in omega (arith, all, less)) in
    let below : i < length fins = omega (arith, less, long) in
    let same = sym (cuts-ends out0.items (left tags0) out.items listed n i a b two less listed_is enough d.folded.takes.lists a_is b_is) in
    subst (λ (e : Tag × Tag). CutStep old fins tags0 out0 may.loop_ i s tags out e.0 e.1) same (record {
      may_do = cuts-may old fins tags0 out0 may has i s tags out d below;
      has = cuts-has old fins tags0 out0 may has i s tags out d below;
      next = cuts-next old fins tags0 out0 may has i s tags out d below;
    })
