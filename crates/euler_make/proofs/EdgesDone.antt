-- The edges on the store: what holds before each of them and once all are made; and what is asked for the cuts then.
use Rattle.std.proofs.Common.{◌≡◌, ◌≢◌, ℕ, zero, suc, ◌+◌, ◌*◌, ◌-◌, ◌<◌, ◌≤◌, ⊎_elim, List, [], ◌∷◌, ◌++◌, length, take, drop, get_or, Option, Some, None, Ok, refl, sym, ap, subst, ◌∙◌, append-nil, arith}
use Rattle.std.specs.Prelude.{map, option_map, is_some, Contains, IsOk, IsSome}
use Rattle.std.specs.List.{AllByRecursion, range_with_len}
use Rattle.std.specs.Option.{option_map_or}
use Rattle.std.specs.FinMap.{get}
use Rattle.std.proofs.Math.Seq.{drop-length}
use Rattle.std.proofs.lemmas.List.{drop_more}
use Rattle.std.proofs.lemmas.List.Elements.{Contains-append_right, Contains-get_or}
use Rattle.std.proofs.lemmas.List.FromFn.{length-map-range_with_len}
use Rattle.pk_base.specs.Blocks.{tag}
use Rattle.pk_base.specs.Building.{Building}
use Rattle.pk_base.specs.declared.tag.Tag.{Tag}
use Rattle.pk_base.specs.declared.entity.Point.{Point}
use Rattle.pk_base.specs.declared.entity.Triple.{Triple}
use Rattle.pk_base.specs.declared.call.Call.TheVariants.{Mev}
use Rattle.pk_model.specs.Apart.{NoRepeats}
use Rattle.pk_model.specs.Tags.{TagsAscend, tag_at}
use Rattle.pk_plane.specs.Turns.{moved}
use Rattle.list_facts.proofs.Elements.{Contains-map, Contains-first}
use Rattle.list_facts.proofs.Each.{ByRecursion-at, ByRecursion-weaker}
use Rattle.entity_store.specs.NextTags.{TagsView, left}
use Rattle.entity_store.specs.Store.{StoreView}
use Rattle.pk_base.specs.declared.entity.Class.TheVariants as class
use Rattle.solid_model.specs.Items.{Item, Shape, item_at, class_of_item}
use Rattle.solid_model.specs.Sound.{class_at}
use Rattle.solid_model.proofs.lists.Neighbours.{head_or}
use Rattle.solid_model.proofs.lists.Cycles.{once-written, written-in}
use Rattle.solid_model.proofs.lists.Turned.{turned-written}
use Rattle.solid_model.specs.Items.Item.{Loop, Fin, Vertex}
use Rattle.solid_model.specs.Rings.{first_tag, written_from}
use Rattle.solid_model.specs.Places.{fins_at, outer_at, start_at, vertex_of, point_at, point_of_vertex, the_origin}
use Rattle.solid_model.specs.Newell.{starts_of}
use Rattle.solid_model.specs.Folds.{Progress, after_row, after_edges}
use Rattle.solid_model.specs.Mev.{mev}
use Rattle.solid_model.specs.Sweep.{along}
use Rattle.solid_model.specs.Room.{tags_put}
use Rattle.solid_model.specs.Rows.{cost_of}
use Rattle.solid_model.specs.Links.{links}
use Rattle.solid_model.specs.Shapes.{shape_of}
use Rattle.halfedge.specs.LinkedRings.{next_at}
use Rattle.solid_places.specs.Points.{AreCoordinates}
use Rattle.solid_calls.specs.Pairs.{HasDone, HasTags, MayDo, Takes, row_on}
use Rattle.solid_sound.proofs.shapes.Reading.{fins-once, vertex_of_class}
use Rattle.solid_sound.proofs.rows.RowKeeps.{IsWell, well-shape}
use Rattle.solid_sound.proofs.rows.Asked.{apart_at, free_item}
use Rattle.solid_sound.proofs.rows.Progress.{start, left-ascend, left-free}
use Rattle.euler_make.specs.Cutting.{Stand, StandInLoop}
use Rattle.euler_make.specs.Raising.{HasEdges, MayRaise, backs_made, outer_fins, tags_raised}
use Rattle.euler_make.proofs.MevFound.{mev-cost}
use Rattle.euler_make.proofs.EdgeRaised.{EdgeRaised}
use Rattle.euler_make.proofs.EdgesRaised.{FaceRound, Raising, face-round, outer-fin, outer-loop, raised_from, raising-start, raising-next, edge, edge-puts, next_fin, next_tail, now}
use Rattle.euler_make.proofs.TurnedLists.{stand-both, written-at, written-turned}
use Rattle.euler_make.proofs.Folded.{Folded, free-links, folded-start, folded-may, folded-has, folded-next, map-now, sound-now, shape-now}

-- The first i edges were made on the store; `fin` is the next one.
pub record EdgesDone (old : StoreView) (f : Tag) (by : Triple) (tags0 : TagsView) (out0 : Building Tag) (i : ℕ) (fin : Tag) (s : StoreView) (tags : TagsView) (out : Building Tag) : Type 0 where
  pub progress : Progress
  pub raising : Raising (shape_of old.state.map) f by (left tags0) i fin progress
  pub folded : Folded (tags_raised (shape_of old.state.map) f (left tags0)) (4 * i) old s tags0 tags out0 out progress

module _ (old : StoreView) (f : Tag) (by : Triple) (tags0 : TagsView) (out0 : Building Tag) (may : MayRaise old f by (left tags0)) (has : HasTags old (4 * length (outer_fins (shape_of old.state.map) f)) tags0 out0) where
  abbrev S : Shape
  S = shape_of old.state.map

  abbrev fins : List Tag
  fins = outer_fins S f

  well : IsWell S
  well = well-shape old.state.map may.sound

  free : AllByRecursion (λ t. item_at S t ≡ None) (left tags0)
  free = ByRecursion-weaker (λ t. get old.state.map t ≡ None) (λ t. item_at S t ≡ None) (λ t e. free_item old.state.map may.sound t e) (left tags0) has.free

  pub edges-start : (fin : Tag) → first_tag fins ≡ Some fin → EdgesDone old f by tags0 out0 0 fin old tags0 out0
  edges-start fin first = record {
    progress = start S (left tags0);
    raising = raising-start S f by (left tags0) well fin (face-round S well f fin may.face may.found first);
    folded = folded-start (tags_raised S f (left tags0)) old tags0 out0 may.sound;
  }

  module _ (i : ℕ) (fin : Tag) (s : StoreView) (tags : TagsView) (out : Building Tag) (d : EdgesDone old f by tags0 out0 i fin s tags out) (less : i < length fins) where
    abbrev p : Progress
    p = d.progress

    enough : 4 * (i + 1) ≤ length (left tags0)
    enough = let all = has.enough in omega (arith, all, less)

    fin_is : fin ≡ get_or fins i (tag 0)
    fin_is = ap (head_or (tag 0)) (sym d.raising.order ∙ ap (λ us. us ++ d.raising.more) (drop_more fins i (tag 0) less))

    fin_among : Contains fins fin
    fin_among = subst (Contains fins) (sym fin_is) (Contains-get_or fins i (tag 0) less)

    fin_was : (mate : Tag) × (edge : Tag) × (vertex : Tag) × (item_at S fin ≡ Some (Fin mate edge vertex))
    fin_was = outer-fin S well f may.face may.found fin fin_among

    vertex_was : (body : Tag) × (point : Point) × (item_at S fin_was.2 ≡ Some (Vertex body point))
    vertex_was = vertex_of_class (item_at S fin_was.2) (well.sound.names.kinds fin _ fin_was.3).2.0

    outer_loop : (list : List Tag) × (lone : Option Tag) × (item_at S (outer_at S f) ≡ Some (Loop f list lone))
    outer_loop = outer-loop S well f may.face may.found

    fin_now : item_at p.shape fin ≡ Some (Fin fin_was.0 fin_was.1 fin_was.2)
    fin_now = d.raising.olds fin _ fin_was.3 (λ e. (let both : Some (Fin fin_was.0 fin_was.1 fin_was.2) ≡ Some (Loop f outer_loop.0 outer_loop.1) = sym fin_was.3 ∙ ap (item_at S) e ∙ outer_loop.2 in cc))

    vertex_now : item_at p.shape fin_was.2 ≡ Some (Vertex vertex_was.0 vertex_was.1)
    vertex_now = d.raising.olds fin_was.2 _ vertex_was.2 (λ e. (let both : Some (Vertex vertex_was.0 vertex_was.1) ≡ Some (Loop f outer_loop.0 outer_loop.1) = sym vertex_was.2 ∙ ap (item_at S) e ∙ outer_loop.2 in cc))

    point_same : point_at p.shape (start_at p.shape fin) ≡ point_at S (start_at S fin)
    point_same =
        let now = ap (λ (o : Option Item). option_map_or vertex_of o (tag 0)) fin_now in
        let was = ap (λ (o : Option Item). option_map_or vertex_of o (tag 0)) fin_was.3 in
        ap (point_at p.shape) now ∙ ap (λ (o : Option Item). option_map_or point_of_vertex o the_origin) (vertex_now ∙ sym vertex_was.2) ∙ ap (point_at S) (sym was)

    -- the fin is one, on the store
    pub edges-fin : class_at (shape_of s.state.map) fin ≡ Some class.Fin
    edges-fin = ap (λ R. class_at R fin) (shape-now _ _ old s tags0 tags out0 out p d.folded) ∙ ap (option_map class_of_item) fin_now

    -- and where its edge leads is what the row says
    pub edges-along : point_at (shape_of s.state.map) (start_at (shape_of s.state.map) fin) ≡ point_at S (start_at S fin)
    edges-along = ap (λ R. point_at R (start_at R fin)) (shape-now _ _ old s tags0 tags out0 out p d.folded) ∙ point_same

    in_range : AreCoordinates (moved by (point_at S (start_at S fin)))
    in_range = ByRecursion-at (λ q. AreCoordinates (moved by q)) (starts_of S (outer_at S f)) (point_at S (start_at S fin)) may.within
        (Contains-map (λ t. point_at S (start_at S t)) fins fin fin_among)

    module _ (at : Triple) (at_is : at ≡ raised_from S by fin) where
      abbrev next_one : Tag
      next_one = next_fin S f by (left tags0) well has.ascend free i fin p d.raising less enough at at_is in_range

      the_edge : EdgeRaised p.shape p.tags (outer_at S f) fin d.raising.tail at next_one (next_tail S f by (left tags0) well has.ascend free i fin p d.raising less enough at at_is in_range)
      the_edge = edge S f by (left tags0) well has.ascend free i fin p d.raising less enough at at_is in_range

      puts_in : (t : Tag) → Contains (tags_put p.shape (Mev fin at) p.tags) t → Contains (tags_raised S f (left tags0)) t
      puts_in = edge-puts S f by (left tags0) well has.ascend free i fin p d.raising less enough at at_is in_range (omega (arith, less))

      cost : cost_of (mev p.shape fin at) ≡ 4
      cost = mev-cost p.shape fin at the_edge.goes

      pub edges-may : MayDo s (Mev fin at) (left tags)
      edges-may = folded-may (tags_raised S f (left tags0)) (4 * i) old s tags0 tags out0 out p d.folded (Mev fin at) the_edge.goes may.room puts_in

      pub edges-has : HasTags s (cost_of (row_on s.state.map (Mev fin at))) tags out
      edges-has = folded-has (tags_raised S f (left tags0)) (4 * i) old s tags0 tags out0 out p d.folded (Mev fin at) 4 (4 * length fins) cost (omega (arith, less)) has
          (left-ascend S (left tags0) has.ascend free (4 * i) p d.raising.began) (left-free S (left tags0) has.ascend free (4 * i) p d.raising.began)

      abbrev after : Progress
      after = now S f by (left tags0) well has.ascend free i fin p d.raising less enough at at_is in_range

      after_is : after_row (mev p.shape fin at) p ≡ after
      unfolding the_edge
      after_is = the_edge.after

      well_after : IsWell after.shape
      unfolding the_edge
      well_after = the_edge.well

      next_is : next_at (links after.shape) fin ≡ Some next_one
      unfolding the_edge
      next_is = the_edge.next

      module _ (s' : StoreView) (tags' : TagsView) (out' : Building Tag) (done : HasDone s (Mev fin at) (left tags) s') (takes : Takes (cost_of (row_on s.state.map (Mev fin at))) tags out tags' out') where
        folded_after : Folded (tags_raised S f (left tags0)) (4 * (i + 1)) old s' tags0 tags' out0 out' after
        folded_after =
            let four : 4 * i + 4 ≡ 4 * (i + 1) = omega arith in
            subst (λ n. Folded (tags_raised S f (left tags0)) n old s' tags0 tags' out0 out' after) four
            (folded-next (tags_raised S f (left tags0)) (4 * i) old s tags0 tags out0 out p d.folded (Mev fin at) 4 after s' tags' out' cost after_is well_after refl puts_in done takes)

        -- the fin that comes after it then
        edges-next_at : next_at s'.state.map fin ≡ Some next_one
        edges-next_at = ap (λ m. next_at m fin) (map-now _ _ old s' tags0 tags' out0 out' after folded_after) ∙ next_is

        pub edges-has_next : IsSome (next_at s'.state.map fin)
        edges-has_next = ap is_some edges-next_at

        pub edges-next : (g : Tag) → next_at s'.state.map fin ≡ Some g → EdgesDone old f by tags0 out0 (i + 1) g s' tags' out'
        edges-next g is =
            let both : Some g ≡ Some next_one = sym is ∙ edges-next_at in
            let same : next_one ≡ g = cc in
            subst (λ h. EdgesDone old f by tags0 out0 (i + 1) h s' tags' out') same (record {
              progress = after;
              raising = raising-next S f by (left tags0) well has.ascend free i fin p d.raising less enough at at_is in_range;
              folded = folded_after;
            })

  -- ---- all edges are made

  module _ (fin : Tag) (s : StoreView) (tags : TagsView) (out : Building Tag) (d : EdgesDone old f by tags0 out0 (length fins) fin s tags out) where
    abbrev q : Progress
    q = d.progress

    abbrev n : ℕ
    n = length fins

    shape_is : shape_of s.state.map ≡ q.shape
    shape_is = shape-now _ _ old s tags0 tags out0 out q d.folded

    round_is : d.raising.more ≡ fin ∷ d.raising.tail
    round_is = ap (λ us. us ++ d.raising.more) (sym (drop-length fins)) ∙ d.raising.order

    stand_by : (bs : List Tag) → 1 ≤ length bs → Stand bs d.raising.more → StandInLoop q.shape (outer_at S f) bs
    stand_by [] some stand = absurd (omega (arith, some))
    stand_by (b ∷ bs) some stand =
        let r = d.raising.round in
        let list_once : NoRepeats r.list = fins-once q.shape d.folded.well.written d.folded.well.sound (outer_at S f) r.face r.list None r.loop_is in
        let turned : written_from fin r.list ≡ stand.0 ++ b ∷ stand.1 = r.round ∙ sym round_is ∙ stand.2 in
        let once : NoRepeats (stand.0 ++ b ∷ stand.1) = subst NoRepeats turned (once-written fin r.list list_once) in
        let among : Contains r.list b = written-in b fin r.list (subst (λ us. Contains us b) (sym turned) (Contains-append_right stand.0 (b ∷ stand.1) b (Contains-first b stand.1))) in
        record {
          face = r.face;
          list = r.list;
          loop_is = r.loop_is;
          rest = stand.1 ++ stand.0;
          round = written-turned b r.list (written_from fin r.list) (turned-written fin r.list) list_once among ∙ ap (written_from b) turned ∙ written-at b stand.0 stand.1 once;
          stand = subst (λ us. Stand us (stand.1 ++ stand.0)) (append-nil bs) (stand-both bs [] stand.1 stand.0 stand.3 tt);
        }

    -- they start at different vertices, by their places
    apart_from : (a k : ℕ) → a + k ≤ n → NoRepeats (map (start_at q.shape) (map (λ j. tag_at (left tags0) (4 * j + 3)) (range_with_len a k)))
    apart_from a zero h = tt
    apart_from a (suc k) h = (none_from (a + 1) k (omega arith) (omega (arith, h)), apart_from (a + 1) k (omega (arith, h)))
      where
        start_is : (j : ℕ) → j < n → start_at q.shape (tag_at (left tags0) (4 * j + 3)) ≡ tag_at (left tags0) (4 * j)
        start_is j h = ap (λ (o : Option Item). option_map_or vertex_of o (tag 0)) (d.raising.backs j h)

        none_from : (b m : ℕ) → a < b → b + m ≤ n → AllByRecursion (λ v. start_at q.shape (tag_at (left tags0) (4 * a + 3)) ≢ v) (map (start_at q.shape) (map (λ j. tag_at (left tags0) (4 * j + 3)) (range_with_len b m)))
        none_from b zero less h = tt
        none_from b (suc m) less h =
            let enough = has.enough in (
              λ e. apart_at (left tags0) (4 * a) (4 * b) has.ascend (omega (arith, less)) (omega (arith, h, enough)) (sym (start_is a (omega (arith, less, h))) ∙ e ∙ start_is b (omega (arith, h))),
              none_from (b + 1) m (omega (arith, less)) (omega (arith, h)),
            )

    pub edges-end : HasEdges old f by (left tags0) s
    edges-end =
        let fins_two = may.fins in
        let long : length (backs_made (left tags0) n) ≡ n = length-map-range_with_len (λ i. tag_at (left tags0) (4 * i + 3)) 0 n in
        let free_left = left-free S (left tags0) has.ascend free (4 * n) q d.raising.began in
        record {
          state = d.folded.state ∙ ap (λ m. record old.state { map = m }) (sym (map-now _ _ old s tags0 tags out0 out q d.folded));
          sound = sound-now _ _ old s tags0 tags out0 out q d.folded;
          edges = (λ j. record { shape = shape_is j; tags = sym d.raising.tags_are j }) ∙ ap (λ us. after_edges (map (along S by) us) q) (sym (drop-length fins)) ∙ d.raising.total;
          puts = d.folded.puts;
          free = subst (AllByRecursion (λ t. get s.state.map t ≡ None)) d.raising.tags_are (free-links q.shape s.state.map d.folded.well (map-now _ _ old s tags0 tags out0 out q d.folded) q.tags free_left);
          stand = subst (λ R. StandInLoop R (outer_at S f) (backs_made (left tags0) n)) (sym shape_is) (stand_by (backs_made (left tags0) n) (omega (arith, long, fins_two)) d.raising.stand);
          apart = subst (λ R. NoRepeats (map (start_at R) (backs_made (left tags0) n))) (sym shape_is) (apart_from 0 n (omega arith));
          fins = λ t k. d.raising.fins t (subst (λ R. Contains (fins_at R (outer_at S f)) t) shape_is k);
        }
