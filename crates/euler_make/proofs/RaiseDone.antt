-- A face that is raised: the edges and then the cuts.
use Rattle.std.proofs.Common.{◌≡◌, ◌≢◌, ℕ, zero, suc, ◌+◌, ◌*◌, ◌-◌, ◌<◌, ◌≤◌, ⊎_elim, List, [], ◌∷◌, ◌++◌, length, take, drop, get_or, Option, Some, None, Ok, refl, sym, ap, subst, ◌∙◌, arith}
use Rattle.std.specs.Prelude.{map, option_map, Contains, IsTrue, slice_index_or}
use Rattle.std.specs.List.{AllByRecursion, range_with_len}
use Rattle.std.specs.FinMap.{get}
use Rattle.std.proofs.lemmas.List.{get_or-append-add, get_or-drop, get_or-take, length-append, length-drop, length-take-le}
use Rattle.std.proofs.lemmas.List.Elements.{Contains-append_left, Contains-append_right}
use Rattle.std.proofs.lemmas.List.FromFn.{length-map-range_with_len}
use Rattle.pk_base.specs.Blocks.{tag}
use Rattle.pk_base.specs.Building.{Building}
use Rattle.pk_base.specs.declared.tag.Tag.{Tag}
use Rattle.pk_base.specs.declared.entity.Class.TheVariants as class
use Rattle.pk_base.specs.declared.entity.Triple.{Triple}
use Rattle.pk_model.specs.Apart.{NoRepeats}
use Rattle.pk_model.specs.Tags.{TagsAscend, owns, tag_at}
use Rattle.pk_model.proofs.TagLists.{TagsAscend-drop}
use Rattle.list_facts.proofs.Elements.{Contains-first, Contains-later, Contains-cases}
use Rattle.list_facts.proofs.Each.{ByRecursion-at, ByRecursion-contains}
use Rattle.entity_store.specs.NextTags.{TagsView, left}
use Rattle.entity_store.specs.Store.{StoreView}
use Rattle.entity_store.specs.Room.{PutsAmong}
use Rattle.entity_store.proofs.Room.{room-part, room-after, puts-then, puts-wider}
use Rattle.solid_model.specs.Items.{Item, Shape, item_at, class_of_item}
use Rattle.solid_model.specs.Places.{PlacedFace, face_at, fins_at, outer_at, start_at}
use Rattle.solid_model.specs.Folds.{Progress, after_cuts}
use Rattle.solid_model.specs.Links.{links}
use Rattle.solid_model.specs.Shapes.{shape_of}
use Rattle.solid_model.specs.Sound.{class_at}
use Rattle.solid_calls.specs.Pairs.{HasTags, Takes}
use Rattle.solid_sound.proofs.rows.KeptRings.{asked_face}
use Rattle.euler_make.specs.Cutting.{HasCut, MayCut, StandInLoop, backs_listed, sides_cut, tags_cut}
use Rattle.euler_make.specs.Raising.{HasEdges, HasRaised, MayRaise, backs_made, outer_fins, raised, tags_raised, with_edges}
use Rattle.euler_make.proofs.EdgesRaised.{taken-within, in_either}
use Rattle.euler_make.proofs.Folded.{left-after, takes-then}

pub face-class : (S : Shape) (f : Tag) (face : PlacedFace) → face_at S f ≡ Ok face → class_at S f ≡ Some class.Face
face-class S f face found = ap (option_map class_of_item) (asked_face S f (item_at S f) face found).2

-- it has fewer tags
pub has-fewer : (s : StoreView) (m n : ℕ) (tags : TagsView) (out : Building Tag) → m ≤ n → HasTags s n tags out → HasTags s m tags out
has-fewer s m n tags out few has = record {
  enough = (let all = has.enough in omega (arith, all, few));
  ascend = has.ascend;
  free = has.free;
  owned = ByRecursion-contains (λ t. IsTrue (owns s.state.blocks t)) (take m (left tags)) (λ t k. ByRecursion-at (λ u. IsTrue (owns s.state.blocks u)) (take n (left tags)) t has.owned (taken-within 0 m n (left tags) t (omega (arith, few)) k));
  spare = (let all = has.spare in omega (arith, all, few));
}

maps_same : (g h : ℕ → Tag) (a k n : ℕ) → a + k ≤ n → ((j : ℕ) → j < n → g j ≡ h j) → map g (range_with_len a k) ≡ map h (range_with_len a k)
maps_same g h a zero n few same = refl
maps_same g h a (suc k) n few same = λ i. same a (omega (arith, few)) i ∷ maps_same g h (a + 1) k n (omega (arith, few)) same i

module _ (old : StoreView) (f : Tag) (by : Triple) (tags0 : TagsView) (out0 : Building Tag) (may : MayRaise old f by (left tags0)) (has : HasTags old (9 * length (outer_fins (shape_of old.state.map) f)) tags0 out0)
    (s1 : StoreView) (tags1 : TagsView) (out1 : Building Tag) (edges : HasEdges old f by (left tags0) s1) (takes : Takes (4 * length (outer_fins (shape_of old.state.map) f)) tags0 out0 tags1 out1) where
  abbrev S : Shape
  S = shape_of old.state.map

  abbrev n : ℕ
  n = length (outer_fins S f)

  abbrev l : Tag
  l = outer_at S f

  abbrev listed : ℕ
  listed = length out0.items

  abbrev backs : List Tag
  backs = backs_listed out1.items listed n

  left_is : left tags1 ≡ drop (4 * n) (left tags0)
  left_is = left-after (4 * n) tags0 tags1 out0 out1 takes

  backs_are : backs ≡ backs_made (left tags0) n
  backs_are =
      let enough = has.enough in
      maps_same (λ j. slice_index_or out1.items (listed + 4 * j + 3) (tag 0)) (λ j. tag_at (left tags0) (4 * j + 3)) 0 n n (omega arith) (λ j h.
      let place : listed + 4 * j + 3 ≡ listed + (4 * j + 3) = omega arith in
      ap (λ k. get_or out1.items k (tag 0)) place ∙ ap (λ ts. get_or ts (listed + (4 * j + 3)) (tag 0)) takes.lists
      ∙ get_or-append-add out0.items (take (4 * n) (left tags0)) (4 * j + 3) (tag 0) ∙ get_or-take (4 * n) (left tags0) (4 * j + 3) (tag 0) (omega (arith, h)))

  backs_long : length backs ≡ n
  backs_long = length-map-range_with_len (λ j. slice_index_or out1.items (listed + 4 * j + 3) (tag 0)) 0 n

  pub cut-listed : length out1.items ≡ listed + 4 * n
  cut-listed =
      let enough = has.enough in
      ap length takes.lists ∙ length-append out0.items (take (4 * n) (left tags0)) ∙ ap (λ k. listed + k) (length-take-le (4 * n) (left tags0) (omega (arith, enough)))

  blocks_same : s1.state.blocks ≡ old.state.blocks
  blocks_same = ap (λ x. x.blocks) edges.state

  pub cut-has : HasTags s1 (5 * n) tags1 out1
  cut-has = record {
    enough = (let long = ap length left_is ∙ length-drop (4 * n) (left tags0) in let enough = has.enough in omega (arith, long, enough));
    ascend = subst TagsAscend (sym left_is) (TagsAscend-drop (4 * n) (left tags0) has.ascend);
    free = subst (AllByRecursion (λ t. get s1.state.map t ≡ None)) (sym left_is) edges.free;
    owned = ByRecursion-contains (λ t. IsTrue (owns s1.state.blocks t)) (take (5 * n) (left tags1)) (λ t k.
        subst (λ bs. IsTrue (owns bs t)) (sym blocks_same)
        (ByRecursion-at (λ u. IsTrue (owns old.state.blocks u)) (take (9 * n) (left tags0)) t has.owned
        (taken-within (4 * n) (5 * n) (9 * n) (left tags0) t (omega arith) (subst (λ ts. Contains (take (5 * n) ts) t) left_is k))));
    spare = (let spare = has.spare in let taken = takes.spare in omega (arith, spare, taken));
  }

  cut_in : (t : Tag) → Contains (tags_cut (shape_of s1.state.map) l (length backs) (left tags1)) t → Contains (tags_raised S f (left tags0)) t
  cut_in t k =
      let here : Contains (tags_cut (shape_of s1.state.map) l n (drop (4 * n) (left tags0))) t = subst (λ us. Contains us t) (λ i. tags_cut (shape_of s1.state.map) l (backs_long i) (left_is i)) k in
      let all = take (9 * n) (left tags0) in
      in_either (take (5 * n) (drop (4 * n) (left tags0))) (l ∷ fins_at (shape_of s1.state.map) l) t here
      (λ (c : Contains (take (5 * n) (drop (4 * n) (left tags0))) t). Contains-append_left all (l ∷ outer_fins S f) t (taken-within (4 * n) (5 * n) (9 * n) (left tags0) t (omega arith) c))
      (λ (c : Contains (l ∷ fins_at (shape_of s1.state.map) l) t). ⊎_elim {C = Contains (tags_raised S f (left tags0)) t}
      (λ (e : l ≡ t). Contains-append_right all (l ∷ outer_fins S f) t (subst (Contains (l ∷ outer_fins S f)) e (Contains-first l (outer_fins S f))))
      (λ (q : Contains (fins_at (shape_of s1.state.map) l) t). ⊎_elim {C = Contains (tags_raised S f (left tags0)) t}
      (λ (old_one : Contains (outer_fins S f) t). Contains-append_right all (l ∷ outer_fins S f) t (Contains-later l (outer_fins S f) t old_one))
      (λ (taken : Contains (take (4 * n) (left tags0)) t). Contains-append_left all (l ∷ outer_fins S f) t (taken-within 0 (4 * n) (9 * n) (left tags0) t (omega arith) taken))
      (edges.fins t q))
      (Contains-cases l (fins_at (shape_of s1.state.map) l) t c))

  stand_listed : StandInLoop (shape_of s1.state.map) l backs
  stand_listed = subst (StandInLoop (shape_of s1.state.map) l) (sym backs_are) edges.stand

  pub cut-may : MayCut s1 backs (left tags1)
  cut-may = record {
    sound = edges.sound;
    loop_ = l;
    stand = stand_listed;
    two = (let two = may.fins in omega (arith, two, backs_long));
    apart = subst (λ us. NoRepeats (map (start_at (shape_of s1.state.map)) us)) (sym backs_are) edges.apart;
    room = room-part s1.recording (tags_raised S f (left tags0)) (tags_cut (shape_of s1.state.map) l (length backs) (left tags1))
        (room-after (tags_raised S f (left tags0)) (tags_raised S f (left tags0)) old s1 may.room edges.puts (λ t k. k)) cut_in;
  }

  module _ (s2 : StoreView) (tags2 : TagsView) (out2 : Building Tag) (cut : HasCut s1 backs (left tags1) s2) (more : Takes (5 * n) tags1 out1 tags2 out2) where
    raised_is : sides_cut (shape_of s1.state.map) backs (left tags1) ≡ raised S f by (left tags0)
    raised_is =
        let first : tag_at (left tags1) 4 ≡ tag_at (left tags0) (4 * n + 4) = ap (λ ts. tag_at ts 4) left_is ∙ get_or-drop (4 * n) (left tags0) 4 (tag 0) in
        let begin : record { shape = shape_of s1.state.map; tags = left tags1 } ≡ with_edges S f by (left tags0) = ap (λ ts. record { shape = shape_of s1.state.map; tags = ts }) left_is ∙ edges.edges in
        λ i. (after_cuts (backs_are i ++ first i ∷ []) (begin i)).shape

    pub raise-done : HasRaised old f by (left tags0) s2
    raise-done = record {
      state = cut.state ∙ (λ i. record (edges.state i) { map = links (raised_is i) });
      sound = cut.sound;
      puts = puts-then (tags_raised S f (left tags0)) old s1 s2 edges.puts
          (puts-wider (tags_cut (shape_of s1.state.map) l (length backs) (left tags1)) (tags_raised S f (left tags0)) s1 s2 (cut.puts l stand_listed) cut_in);
    }

    pub raise-takes : Takes (9 * n) tags0 out0 tags2 out2
    raise-takes =
        let nine : 4 * n + 5 * n ≡ 9 * n = omega arith in
        subst (λ k. Takes k tags0 out0 tags2 out2) nine (takes-then (4 * n) (5 * n) tags0 tags1 tags2 out0 out1 out2 takes more)
