-- How far a lamina has come: its first vertex, and so many edges of the path along its corners.
use Rattle.std.proofs.Common.{◌≡◌, ℕ, zero, suc, ◌+◌, ◌-◌, ◌*◌, ◌<◌, ◌≤◌, ⊎_elim, List, [], ◌∷◌, length, get_or, take, drop, drop-cons, None, Ok, refl, sym, ap, subst, ◌∙◌, add-one, arith}
use Rattle.std.specs.Prelude.{ℤ, pos, map, Contains, IsOk}
use Rattle.std.specs.List.{AllByRecursion}
use Rattle.std.proofs.lemmas.List.{drop-drop, get_or-drop, length-drop, take_all}
use Rattle.pk_base.specs.Blocks.{tag}
use Rattle.pk_base.specs.Building.{Building}
use Rattle.pk_base.specs.declared.tag.Tag.{Tag}
use Rattle.pk_base.specs.declared.entity.Pair.{Pair}
use Rattle.pk_base.specs.declared.entity.Triple.{Triple}
use Rattle.pk_base.specs.declared.call.Call.TheVariants as call
use Rattle.pk_model.specs.Tags.{tag_at}
use Rattle.entity_store.specs.NextTags.{TagsView, left}
use Rattle.entity_store.specs.Store.{StoreView}
use Rattle.solid_model.specs.Items.{Shape, item_at, ◌with◌}
use Rattle.solid_model.specs.Rings.{ends_of}
use Rattle.solid_model.specs.Rows.{cost_of}
use Rattle.solid_model.specs.Rows.Effect.{Makes}
use Rattle.solid_model.specs.Ranges.{is_coordinate, numbers_of, refuse_outside}
use Rattle.solid_model.specs.Room.{changed_by_mef, changed_by_mev, if_found, tags_changed}
use Rattle.solid_model.specs.Folds.{Progress, after_row, after_path}
use Rattle.solid_model.specs.Lamina.{after_lamina, at_height}
use Rattle.solid_model.specs.Shapes.{shape_of}
use Rattle.solid_model.specs.Mvfs.{mvfs}
use Rattle.solid_model.specs.Mev.{mev}
use Rattle.solid_model.specs.Mef.{mef}
use Rattle.list_facts.proofs.Each.{ByRecursion-at, ByRecursion-drop, ByRecursion-get_or}
use Rattle.list_facts.proofs.Lengths.{nil_of_length}
use Rattle.list_facts.proofs.Elements.{Contains-cases}
use Rattle.solid_edits.proofs.EditedMaps.{ends-among}
use Rattle.solid_edits.proofs.Stages.{Within}
use Rattle.solid_sound.proofs.edges.Ends.{end-well, fin-well}
use Rattle.solid_sound.proofs.rows.Asked.{free_at}
use Rattle.solid_sound.proofs.rows.RowKeeps.{well-shape}
use Rattle.solid_sound.proofs.rows.Progress.{began-mef, began-mev, left-ascend, left-free}
use Rattle.solid_calls.specs.Pairs.{HasDone, HasTags, MayDo, Takes, row_on}
use Rattle.solid_make.specs.Making.{HasMade, MayMake, begun, cost_of_lamina}
use Rattle.solid_make.proofs.Rows.{body_items, cut_items, goes-as, mvfs-is}
use Rattle.solid_make.proofs.Own.{own-fins, place-in}
use Rattle.solid_make.proofs.Path.{CutFound, EndFound, IsAlong, along-cut, along-found, along-next, along-row, along-start, cut-row, ring, out}
use Rattle.solid_make.proofs.Making.{IsAt, at-start, free-shape, length-listed, listed-at, made-from, row-done, row-may, row-tags, shape-now}

-- the shape with all edges of the path, before the last one
abbrev pub after_corners : ℤ → List Pair → Progress → Progress
after_corners z [] p = p
after_corners z (c ∷ cs) p = after_path (tag_at p.tags 3) (map (at_height z) cs) (after_row (mvfs p.shape (at_height z c)) p)

-- k edges of the path were made, and the next one starts at the end.
pub record LaminaSteps (old : StoreView) (tags : TagsView) (made : Building Tag) (z : ℤ) (corners : List Pair) (k : ℕ) (now : StoreView) (tags' : TagsView) (made' : Building Tag) (end : Tag) : Type 0 where
  pub p : Progress
  pub here : IsAt old tags made (5 + 4 * k) p now tags' made'
  pub along : IsAlong (shape_of old.state.map) (left tags) z k end p
  pub rest : after_path end (map (at_height z) (drop (k + 1) corners)) p ≡ after_corners z corners (begun old (left tags))
  pub place : 1 ≤ k → end ≡ tag_at (left tags) (4 + 4 * k)

-- ---- corners

-- what stands at a place behind the last corner
abbrev pub no_corner : Pair
no_corner = record { x = pos 0; y = pos 0 }

pub first-corner : (corners : List Pair) (d : Pair) → 1 ≤ length corners → corners ≡ get_or corners 0 d ∷ drop 1 corners
first-corner [] d h = absurd (omega (arith, h))
first-corner (c ∷ cs) d h = refl

-- the corners behind the first one
pub others-are : (corners : List Pair) → take (length corners - 1) (drop 1 corners) ≡ drop 1 corners
others-are corners = take_all (length corners - 1) (drop 1 corners) (let e = length-drop 1 corners in omega (arith, e))

begin_path : (z : ℤ) (corners : List Pair) (d : Pair) (p : Progress) (end : Tag) → 1 ≤ length corners → end ≡ tag_at p.tags 3
    → after_path end (map (at_height z) (drop 1 corners)) (after_row (mvfs p.shape (at_height z (get_or corners 0 d))) p) ≡ after_corners z corners p
begin_path z [] d p end h is = absurd (omega (arith, h))
begin_path z (c ∷ cs) d p end h is = ap (λ t. after_path t (map (at_height z) cs) (after_row (mvfs p.shape (at_height z c)) p)) is

end_path : (z : ℤ) (corners : List Pair) (p : Progress) → 1 ≤ length corners
    → after_lamina z corners p ≡ after_row (mef (after_corners z corners p).shape (tag_at p.tags 7) (tag_at p.tags (4 * length corners))) (after_corners z corners p)
end_path z [] p h = absurd (omega (arith, h))
end_path z (c ∷ cs) p h = refl

next_path : (z : ℤ) (cs : List Pair) (k : ℕ) (d : Pair) (t : Tag) (p : Progress) → k < length cs
    → after_path t (map (at_height z) (drop k cs)) p ≡ after_path (tag_at p.tags 3) (map (at_height z) (drop (k + 1) cs)) (after_row (mev p.shape t (at_height z (get_or cs k d))) p)
next_path z cs k d t p less = ap (λ ds. after_path t (map (at_height z) ds) p) (drop-cons cs k d less ∙ ap (λ j. get_or cs k d ∷ drop j cs) (sym (add-one k)))

within_changed : (us vs : List Tag) (more : List Tag) → us ≡ vs → AllByRecursion (Contains more) vs → Within us more
within_changed us vs more is all t k = ByRecursion-at (Contains more) vs t all (subst (λ ts. Contains ts t) is k)

-- The store is old, and the tags and the room for a lamina are there.
module _ (old : StoreView) (tags : TagsView) (made : Building Tag) (z : ℤ) (corners : List Pair) (may : MayMake old z corners (cost_of_lamina corners) (left tags)) (has : HasTags old (cost_of_lamina corners) tags made) where
  abbrev S : Shape
  S = shape_of old.state.map

  abbrev N : ℕ
  N = cost_of_lamina corners

  free : AllByRecursion (λ t. item_at S t ≡ None) (left tags)
  free = free-shape old tags made N may.sound has may.room

  start : IsAt old tags made 0 (begun old (left tags)) old tags made
  start = at-start old tags made N may.sound has may.room

  long : 4 * length corners + 6 ≤ length (left tags)
  long = has.enough

  reach : (i : ℕ) (d : Pair) → i < length corners → refuse_outside is_coordinate (numbers_of (at_height z (get_or corners i d))) ≡ None
  reach i d less = ByRecursion-get_or (λ c. refuse_outside is_coordinate (numbers_of (at_height z c)) ≡ None) corners i d less may.reach

  -- ---- the first vertex

  module _ (d : Pair) where
    abbrev at : Triple
    at = at_height z (get_or corners 0 d)

    none : refuse_outside is_coordinate (numbers_of at) ≡ None
    none = reach 0 d (let three = may.three in omega (arith, three))

    row_is : mvfs S at ≡ Ok (Makes 5 (λ ts. S with body_items at ts))
    row_is = mvfs-is S at none

    no_change : Within (tags_changed S (call.Mvfs at)) (take 0 (left tags))
    no_change t k = k

    pub start-may : MayDo old (call.Mvfs at) (left tags)
    start-may = row-may old tags made N may.sound has may.room 0 (begun old (left tags)) old tags made start (call.Mvfs at) 5 (ap cost_of row_is) no_change (goes-as (mvfs S at) _ row_is refl) (let three = may.three in omega (arith, three))

    pub start-tags : HasTags old (cost_of (row_on old.state.map (call.Mvfs at))) tags made
    start-tags = row-tags old tags made N may.sound has may.room 0 (begun old (left tags)) old tags made start (call.Mvfs at) 5 (ap cost_of row_is) no_change (let three = may.three in omega (arith, three))

    pub start-steps : (then : StoreView) (tags' : TagsView) (made' : Building Tag) (end : Tag) → HasDone old (call.Mvfs at) (left tags) then → Takes (cost_of (row_on old.state.map (call.Mvfs at))) tags made tags' made'
        → end ≡ tag_at (left tags) 3 → LaminaSteps old tags made z corners 0 then tags' made' end
    start-steps then tags' made' end done takes end_is =
        let b = begun old (left tags) in
        let p = after_row (mvfs S at) b in
        let three = may.three in
        let enough : 5 ≤ length (left tags) = (let e = long in omega (arith, e)) in
        let along = along-start S (left tags) has.ascend free z at (well-shape old.state.map may.sound) none refl enough in
        record {
          p = p;
          here = row-done old tags made N may.sound has may.room 0 b old tags made start (call.Mvfs at) 5 (ap cost_of row_is) no_change along.began then tags' made' done takes;
          along = subst (λ t. IsAlong S (left tags) z 0 t p) (sym end_is) along;
          rest = begin_path z corners d b end (omega (arith, three)) end_is;
          place = λ h. absurd (omega (arith, h));
        }

    -- its five tags are listed
    pub start-long : (tags' : TagsView) (made' : Building Tag) → Takes (cost_of (row_on old.state.map (call.Mvfs at))) tags made tags' made' → length made'.items ≡ length made.items + 5
    start-long tags' made' takes = let l = long in length-listed 5 tags tags' made made' (subst (λ n. Takes n tags made tags' made') (ap cost_of row_is) takes) (omega (arith, l))

    pub start-loop : (tags' : TagsView) (made' : Building Tag) (j : ℕ) → Takes (cost_of (row_on old.state.map (call.Mvfs at))) tags made tags' made' → j ≡ length made.items + 3 → tag_at made'.items j ≡ tag_at (left tags) 3
    start-loop tags' made' j takes is = listed-at 5 tags tags' made made' 3 j (subst (λ n. Takes n tags made tags' made') (ap cost_of row_is) takes) (omega arith) is

  -- ---- an edge of the path

  module _ (k : ℕ) (now : StoreView) (tags' : TagsView) (made' : Building Tag) (end : Tag) (s : LaminaSteps old tags made z corners k now tags' made' end) where
    f : EndFound s.p.shape (ring S (left tags)) end
    f = along-found S (left tags) has.ascend free z k end s.p s.along

    in_ring : (n : ℕ) → 4 ≤ n → n ≤ length (left tags) → Contains (take n (left tags)) (ring S (left tags))
    in_ring n h e = place-in (left tags) n 3 e (omega (arith, h))

    loop_new : item_at S (ring S (left tags)) ≡ None
    loop_new = free_at S (left tags) 3 free (let e = long in let three = may.three in omega (arith, e, three))

    edge_within : 5 + 4 * k ≤ length (left tags) → (at : Triple) → Within (tags_changed s.p.shape (call.Mev end at)) (take (5 + 4 * k) (left tags))
    edge_within enough at =
        let ts = left tags in
        let u = f.end in
        let n = 5 + 4 * k in
        let E = end-well s.p.shape s.along.began.well end (item_at s.p.shape end) refl u f.found in
        let fins = own-fins S ts s.p.shape s.p.tags n z s.along.left s.along.began.well (left-ascend S ts has.ascend free n s.p s.along.began) (left-free S ts has.ascend free n s.p s.along.began) s.along.own u E (ap (item_at S) f.in_loop ∙ loop_new) in
        λ t c. (
        let j : Contains (u.loop_ ∷ ends_of u.fins) t = subst (λ us. Contains us t) (ap (if_found changed_by_mev) f.found) c in
        ⊎_elim {C = Contains (take n ts) t}
        (λ (e : u.loop_ ≡ t). subst (Contains (take n ts)) (sym f.in_loop ∙ e) (in_ring n (omega arith) enough))
        (λ (r : Contains (ends_of u.fins) t). ByRecursion-at (Contains (take n ts)) u.fins t fins (ends-among u.fins t r))
        (Contains-cases u.loop_ (ends_of u.fins) t j))

    module _ (d : Pair) (less : k < length (drop 1 corners)) where
      abbrev point : Triple
      point = at_height z (get_or (drop 1 corners) k d)

      few : k + 1 < length corners
      few = let e = length-drop 1 corners in omega (arith, e, less)

      none_out : refuse_outside is_coordinate (numbers_of point) ≡ None
      none_out = ByRecursion-get_or (λ c. refuse_outside is_coordinate (numbers_of (at_height z c)) ≡ None) (drop 1 corners) k d less
          (ByRecursion-drop (λ c. refuse_outside is_coordinate (numbers_of (at_height z c)) ≡ None) 1 corners may.reach)

      cost : cost_of (mev s.p.shape end point) ≡ 4
      cost = ap cost_of (along-row S (left tags) has.ascend free z k end s.p point s.along none_out)

      goes : IsOk (mev s.p.shape end point)
      goes = goes-as (mev s.p.shape end point) _ (along-row S (left tags) has.ascend free z k end s.p point s.along none_out) refl

      fits : 5 + 4 * k + 4 ≤ N
      fits = let e = few in omega (arith, e)

      within : Within (tags_changed s.p.shape (call.Mev end point)) (take (5 + 4 * k) (left tags))
      within = edge_within (let e = few in let l = long in omega (arith, e, l)) point

      pub edge-may : MayDo now (call.Mev end point) (left tags')
      edge-may = row-may old tags made N may.sound has may.room (5 + 4 * k) s.p now tags' made' s.here (call.Mev end point) 4 cost within goes fits

      pub edge-tags : HasTags now (cost_of (row_on now.state.map (call.Mev end point))) tags' made'
      edge-tags = row-tags old tags made N may.sound has may.room (5 + 4 * k) s.p now tags' made' s.here (call.Mev end point) 4 cost within fits

      -- the end of the next edge is the last tag that was taken
      pub edge-next : tag_at s.p.tags 3 ≡ tag_at (left tags) (8 + 4 * k)
      edge-next = let same : 5 + 4 * k + 3 ≡ 8 + 4 * k = omega arith in ap (λ ts. tag_at ts 3) s.along.left ∙ get_or-drop (5 + 4 * k) (left tags) 3 (tag 0) ∙ ap (tag_at (left tags)) same

      pub edge-back : (tags'' : TagsView) (made'' : Building Tag) (j : ℕ) → Takes (cost_of (row_on now.state.map (call.Mev end point))) tags' made' tags'' made'' → j ≡ length made''.items - 1
          → tag_at made''.items j ≡ tag_at (left tags) (8 + 4 * k)
      edge-back tags'' made'' j takes is =
          let cost_now : cost_of (row_on now.state.map (call.Mev end point)) ≡ 4 = ap (λ R. cost_of (mev R end point)) (shape-now old tags made N may.sound has may.room (5 + 4 * k) s.p now tags' made' s.here) ∙ cost in
          let took : Takes 4 tags' made' tags'' made'' = subst (λ n. Takes n tags' made' tags'' made'') cost_now takes in
          let e = few in
          let l = long in
          let left_is = ap length (sym s.here.next ∙ s.along.left) ∙ length-drop (5 + 4 * k) (left tags) in
          let more = length-listed 4 tags' tags'' made' made'' took (omega (arith, e, l, left_is)) in
          listed-at 4 tags' tags'' made' made'' 3 j took (omega arith) (omega (arith, is, more)) ∙ ap (λ ts. tag_at ts 3) (sym s.here.next) ∙ edge-next

      pub edge-steps : (then : StoreView) (tags'' : TagsView) (made'' : Building Tag) (next : Tag) → HasDone now (call.Mev end point) (left tags') then
          → Takes (cost_of (row_on now.state.map (call.Mev end point))) tags' made' tags'' made'' → next ≡ tag_at (left tags) (8 + 4 * k) → LaminaSteps old tags made z corners (k + 1) then tags'' made'' next
      edge-steps then tags'' made'' next done takes next_is =
          let q = after_row (mev s.p.shape end point) s.p in
          let more : 5 + 4 * k + 4 ≡ 5 + 4 * (k + 1) = omega arith in
          let place : 8 + 4 * k ≡ 4 + 4 * (k + 1) = omega arith in
          let at_next : next ≡ tag_at s.p.tags 3 = next_is ∙ sym edge-next in
          let e = few in
          let l = long in
          let enough : 5 + 4 * k + 4 ≤ length (left tags) = omega (arith, e, l) in
          let along = along-next S (left tags) has.ascend free z k end s.p point s.along none_out refl enough in
          let began = began-mev S (left tags) has.ascend free (5 + 4 * k) s.p end point s.along.began enough in
          let here = row-done old tags made N may.sound has may.room (5 + 4 * k) s.p now tags' made' s.here (call.Mev end point) 4 cost within began then tags'' made'' done takes in
          let one : drop (k + 1) corners ≡ drop k (drop 1 corners) = ap (λ j. drop j corners) (let c : k + 1 ≡ 1 + k = omega arith in c) ∙ sym (drop-drop k 1 corners) in
          let two : drop (k + 1) (drop 1 corners) ≡ drop (k + 1 + 1) corners = drop-drop (k + 1) 1 corners ∙ ap (λ j. drop j corners) (let c : 1 + (k + 1) ≡ k + 1 + 1 = omega arith in c) in
          record {
            p = q;
            here = subst (λ n. IsAt old tags made n q then tags'' made'') more here;
            along = subst (λ t. IsAlong S (left tags) z (k + 1) t q) (sym at_next) along;
            rest = (λ i. after_path (at_next i) (map (at_height z) (sym two i)) q) ∙ sym (next_path z (drop 1 corners) k d end s.p less) ∙ ap (λ ds. after_path end (map (at_height z) ds) s.p) (sym one) ∙ s.rest;
            place = λ h. next_is ∙ ap (tag_at (left tags)) place;
          }

    -- ---- the new face

    module _ (last : k ≡ length (drop 1 corners)) where
      all : k + 1 ≡ length corners
      all = let e = length-drop 1 corners in let three = may.three in omega (arith, e, last, three)

      cut : CutFound s.p.shape (ring S (left tags)) (out S (left tags)) end
      cut = by k (let a = all in let three = may.three in omega (arith, a, three)) s.along
        where
          by : (j : ℕ) → 1 ≤ j → IsAlong S (left tags) z j end s.p → CutFound s.p.shape (ring S (left tags)) (out S (left tags)) end
          by zero h a = absurd (omega (arith, h))
          by (suc i) h a = along-cut S (left tags) has.ascend free z i end s.p a

      -- its first fin out is listed
      pub first-listed : (j : ℕ) → j ≡ length made.items + 7 → tag_at made'.items j ≡ out S (left tags)
      first-listed j is = let a = all in let three = may.three in listed-at (5 + 4 * k) tags tags' made made' 7 j s.here.takes (omega (arith, a, three)) is

      abbrev first : Tag
      first = out S (left tags)

      face_row : mef s.p.shape first end ≡ Ok (Makes 5 (λ ts. s.p.shape with cut_items end cut.u cut.v ts))
      face_row = cut-row S (left tags) has.ascend free s.p.shape (ring S (left tags)) first end cut

      total : 5 + 4 * k + 5 ≡ N
      total = let a = all in omega (arith, a)

      enough : 5 + 4 * k + 5 ≤ length (left tags)
      enough = let t = total in let l = long in omega (arith, t, l)

      face_within : Within (tags_changed s.p.shape (call.Mef first end)) (take (5 + 4 * k) (left tags))
      face_within =
          let ts = left tags in
          let u = cut.u in
          let n = 5 + 4 * k in
          let e = enough in
          let F = fin-well s.p.shape s.along.began.well first (item_at s.p.shape first) refl u cut.u_found in
          let fins = own-fins S ts s.p.shape s.p.tags n z s.along.left s.along.began.well (left-ascend S ts has.ascend free n s.p s.along.began) (left-free S ts has.ascend free n s.p s.along.began) s.along.own
          (record { vertex = u.vertex; loop_ = u.loop_; face = u.face; body = u.body; fins = u.fins }) F.end (ap (item_at S) cut.u_in ∙ loop_new) in
          within_changed (tags_changed s.p.shape (call.Mef first end)) (u.loop_ ∷ u.fins) (take n ts) (ap (if_found changed_by_mef) cut.u_found)
          (subst (Contains (take n ts)) (sym cut.u_in) (in_ring n (omega arith) (omega (arith, e))), fins)

      pub face-may : MayDo now (call.Mef first end) (left tags')
      face-may = row-may old tags made N may.sound has may.room (5 + 4 * k) s.p now tags' made' s.here (call.Mef first end) 5 (ap cost_of face_row) face_within (goes-as (mef s.p.shape first end) _ face_row refl) (let t = total in omega (arith, t))

      pub face-tags : HasTags now (cost_of (row_on now.state.map (call.Mef first end))) tags' made'
      face-tags = row-tags old tags made N may.sound has may.room (5 + 4 * k) s.p now tags' made' s.here (call.Mef first end) 5 (ap cost_of face_row) face_within (let t = total in omega (arith, t))

      whole : after_row (mef s.p.shape first end) s.p ≡ after_lamina z corners (begun old (left tags))
      whole =
          let b = begun old (left tags) in
          let a = all in
          let three = may.three in
          let none : drop (k + 1) corners ≡ [] = nil_of_length (drop (k + 1) corners) (let e = length-drop (k + 1) corners in omega (arith, e, a)) in
          let p_is : s.p ≡ after_corners z corners b = ap (λ cs. after_path end (map (at_height z) cs) s.p) (sym none) ∙ s.rest in
          let place : 4 + 4 * k ≡ 4 * length corners = omega (arith, a) in
          let end_is : end ≡ tag_at (left tags) (4 * length corners) = s.place (omega (arith, a, three)) ∙ ap (tag_at (left tags)) place in
          (λ i. after_row (mef (p_is i).shape first (end_is i)) (p_is i)) ∙ sym (end_path z corners b (omega (arith, three)))

      pub lamina-made : (then : StoreView) (tags'' : TagsView) (made'' : Building Tag) → HasDone now (call.Mef first end) (left tags') then
          → Takes (cost_of (row_on now.state.map (call.Mef first end))) tags' made' tags'' made'' → HasMade old N (left tags) (after_lamina z corners (begun old (left tags))) then × Takes N tags made tags'' made''
      lamina-made then tags'' made'' done takes =
          let q = after_row (mef s.p.shape first end) s.p in
          let began = began-mef S (left tags) has.ascend free (5 + 4 * k) s.p first end s.along.began enough in
          let here = row-done old tags made N may.sound has may.room (5 + 4 * k) s.p now tags' made' s.here (call.Mef first end) 5 (ap cost_of face_row) face_within began then tags'' made'' done takes in
          let in_all : IsAt old tags made N q then tags'' made'' = subst (λ n. IsAt old tags made n q then tags'' made'') total here in
          let end_here : IsAt old tags made N (after_lamina z corners (begun old (left tags))) then tags'' made'' = subst (λ r. IsAt old tags made N r then tags'' made'') whole in_all in
          (made-from old tags made N may.sound has may.room N (after_lamina z corners (begun old (left tags))) then tags'' made'' end_here, end_here.takes)
