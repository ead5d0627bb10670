-- delete: what dies, one entity after another, and that what is left is the map of the shape of its row.
use Rattle.std.proofs.Common.{◌≡◌, ◌≢◌, ℕ, zero, suc, ◌-◌, ◌<◌, ◌≤◌, ◌⊎◌, inl, inr, ⊎_elim, Bool, true, false, not, ◌||◌, cond, List, [], ◌∷◌, length, Option, Some, None, Result, Ok, Err, refl, sym, ap, subst, ◌∙◌, arith}
use Rattle.std.specs.Prelude.{T, IsOk, IsSome, IsTrue, Contains, filter, map}
use Rattle.std.specs.Option.{option_and_then}
use Rattle.std.specs.List.{AllByRecursion}
use Rattle.std.specs.FinMap.{contains_key, entries, get, is_sorted, keys, len, len-entries, len-remove, remove}
use Rattle.std.specs.FinMap.Entries.{below_all}
use Rattle.std.proofs.lemmas.List.{length-map}
use Rattle.pk_base.specs.Entity.{owner_of}
use Rattle.pk_base.specs.declared.tag.Tag.{Tag}
use Rattle.pk_base.specs.declared.entity.Entity.{Entity}
use Rattle.pk_base.specs.declared.refusal.Refusal.{Refusal}
use Rattle.pk_base.proofs.Same.{same_or_other}
use Rattle.pk_model.specs.Maps.{EntityMap, tag_cmp, with_entity}
use Rattle.pk_model.specs.Step.{◌>>=◌}
use Rattle.pk_model.specs.Tags.{TagsAscend, owns}
use Rattle.pk_model.proofs.Keys.{Contains-keys}
use Rattle.pk_model.proofs.TagLists.{tag_total}
use Rattle.entity_store.specs.Recorder.{began}
use Rattle.entity_store.specs.Recording.{HasRoomFor, recorded_put}
use Rattle.entity_store.specs.Room.{HasRoomForThese, PutsAmong}
use Rattle.entity_store.specs.Store.{Stored, StoreView}
use Rattle.entity_store.proofs.FirstValues.{get_other, get_put}
use Rattle.entity_store.proofs.Room.{no_more-different, puts-none, puts-one, puts-then, room-after, room-for_one}
use Rattle.list_facts.proofs.Each.{ByRecursion-contains, ByRecursion-filter, ByRecursion-map}
use Rattle.list_facts.proofs.Elements.{filter_contains, map_contains, not_in_nil}
use Rattle.solid_model.specs.Items.{Item, Shape, item_at}
use Rattle.solid_model.specs.Items.Item.{Body, Shell, Face, Loop, Fin, Edge, Vertex, Attr}
use Rattle.solid_model.specs.Deaths.{dies_with, is_attribute_of, ◌without◌}
use Rattle.solid_model.specs.Delete.{delete}
use Rattle.solid_model.specs.Links.{links}
use Rattle.solid_model.specs.Owners.{all_in_body, body_of}
use Rattle.solid_model.specs.Places.{body_at}
use Rattle.solid_model.specs.Rings.{is_among}
use Rattle.solid_model.specs.Rows.{changes}
use Rattle.solid_model.specs.Shapes.{item_of, shape_of}
use Rattle.solid_model.specs.Sound.{IsSound}
use Rattle.solid_model.proofs.lists.Neighbours.{both_parts, is_among-in, neither_from, not_among}
use Rattle.solid_sound.proofs.shapes.AttributeBodies.{attribute-body}
use Rattle.solid_sound.proofs.shapes.Bodies.{leads_up, loop_by_item}
use Rattle.solid_sound.proofs.shapes.Found.{among-item, filter-lost, filter-none, none_or_some}
use Rattle.solid_sound.proofs.shapes.Lookups.{filter-kept}
use Rattle.solid_sound.proofs.rows.KeptDeaths.{among-in_body, body-dies, in_body-among}
use Rattle.solid_sound.proofs.rows.RowKeeps.{IsWell, well-shape}
use Rattle.solid_calls.proofs.Represented.{Represents, below_all-less, represented, represents-sound, shows-kept}
use Rattle.solid_calls.proofs.RowKinds.{IsChanging}
use Rattle.solid_calls.proofs.Sizes.{apart-ascending}
use Rattle.solid_edits.proofs.Going.{goes-on}
use Rattle.solid_edits.proofs.Hosted.{AreHosted}
use Rattle.solid_edits.proofs.StaysRepresented.{IsShown, are-shown, shown-by, shown-gone}
use Rattle.solid_places.proofs.Read.{entity-of, item-of}
use Rattle.euler_kill.specs.Below.{CountsBelow, IsBelow, IsBelowAny, IsOwned, IsPartOf, OwnsNone}
use Rattle.euler_kill.proofs.KvfsFound.{asked-body}
use Rattle.euler_kill.proofs.OwnersBelow.{all-below, below-body, below-live, owner-live}

-- ---- the row

pub delete-changes : (S : Shape) (b : Tag) → IsChanging (delete S b)
delete-changes S b = bound (body_at S b)
  where
    bound : (r : Result Tag Refusal) → IsChanging (r >>= (λ shell. changes (S without all_in_body S b)))
    bound (Ok shell) = tt
    bound (Err e) = tt

-- what is known where the call is not refused
pub record Goes (S : Shape) (b : Tag) : Type 0 where
  pub shell : Tag
  pub body_is : item_at S b ≡ Some (Body shell)
  pub row_is : delete S b ≡ changes (S without all_in_body S b)

pub delete-goes : (S : Shape) (b : Tag) → IsOk (delete S b) → Goes S b
delete-goes S b h =
    let a = goes-on (body_at S b) (λ shell. changes (S without all_in_body S b)) h in
    record { shell = a.found; body_is = asked-body b a.found (item_at S b) a.is; row_is = a.same }

pub delete-row : (S : Shape) (b shell : Tag) → body_at S b ≡ Ok shell → delete S b ≡ changes (S without all_in_body S b)
delete-row S b shell h = ap (λ (r : Result Tag Refusal). r >>= (λ s. changes (S without all_in_body S b))) h

pub body-live : (m : EntityMap) → IsSound m → (b shell : Tag) → body_at (shape_of m) b ≡ Ok shell → IsSome (get m b)
body-live m sound b shell h = subst IsSome (sym (entity-of m sound b (Body shell) (asked-body b shell (item_at (shape_of m) b) h))) refl

-- what is live stands in an owned block
pub live-owned : (s : Stored) (t : Tag) → AreHosted s → IsSome (get s.map t) → IsTrue (owns s.blocks t)
live-owned s t hosted live = by_entity (get s.map t) refl live
  where
    by_entity : (o : Option Entity) → get s.map t ≡ o → IsSome o → IsTrue (owns s.blocks t)
    by_entity None is h = absurd (cc)
    by_entity (Some e) is h = (hosted t e is).owned

-- what was found below the body
pub record IsLeaf (n : EntityMap) (b leaf : Tag) : Type 0 where
  pub live : IsSome (get n leaf)
  pub below : IsBelowAny n b leaf
  pub none : OwnsNone n leaf

-- ---- one entity after another

nothing_there : (o : Option Entity) → o ≡ None → IsSome o → ⊥
nothing_there None e h = absurd (cc)
nothing_there (Some x) e h = absurd (cc)

-- What has gone stood in the body. What is left is as it was, and so is the owner of each.
pub record Deletes (b : Tag) (old s : StoreView) : Type 0 where
  pub within : (t : Tag) → (get s.state.map t ≡ get old.state.map t) ⊎ ((get s.state.map t ≡ None) × (body_of (shape_of old.state.map) t ≡ b))
  pub closed : (o t : Tag) → IsOwned s.state.map o t → IsSome (get s.state.map o)
  pub state : s.state ≡ record old.state { map = s.state.map }
  pub puts : PutsAmong (all_in_body (shape_of old.state.map) b) old s

pub deletes-none : (b : Tag) (s : StoreView) → IsSound s.state.map → Deletes b s s
deletes-none b s sound = record {
  within = λ t. inl refl;
  closed = λ o t own. owner-live s.state.map sound o t own;
  state = refl;
  puts = puts-none (all_in_body (shape_of s.state.map) b) s;
}

module _ (b : Tag) (old s : StoreView) (sound : IsSound old.state.map) (d : Deletes b old s) where
  abbrev m : EntityMap
  m = old.state.map

  abbrev n : EntityMap
  n = s.state.map

  pub left-part : IsPartOf m n
  left-part t e live = ⊎_elim {C = get m t ≡ Some e}
      (λ (same : get n t ≡ get m t). sym same ∙ live)
      (λ (gone : (get n t ≡ None) × (body_of (shape_of m) t ≡ b)). let both : None ≡ Some e = sym gone.0 ∙ live in absurd (cc))
      (d.within t)

  owned-was : (o t : Tag) → IsOwned n o t → IsOwned m o t
  owned-was o t own = ⊎_elim {C = IsOwned m o t}
      (λ (same : get n t ≡ get m t). ap (option_and_then owner_of) (sym same) ∙ own)
      (λ (gone : (get n t ≡ None) × (body_of (shape_of m) t ≡ b)). let both : None ≡ Some o = sym (ap (option_and_then owner_of) gone.0) ∙ own in absurd (cc))
      (d.within t)

  below-was : (k : ℕ) (o t : Tag) → IsBelow k n o t → IsBelow k m o t
  below-was zero o t h = h
  below-was (suc k) o t (inl h) = inl h
  below-was (suc k) o t (inr h) = inr (h.0, owned-was o h.0 h.1, below-was k h.0 t h.2)

  live-item : (t : Tag) → IsSome (get n t) → (x : Item) × (item_at (shape_of m) t ≡ Some x)
  live-item t live = by_entity (get n t) refl live
    where
      by_entity : (o : Option Entity) → get n t ≡ o → IsSome o → (x : Item) × (item_at (shape_of m) t ≡ Some x)
      by_entity None is h = absurd (cc)
      by_entity (Some e) is h = (item_of (entries m) e, item-of m t e (left-part t e is))

  module _ (shell : Tag) (body_is : item_at (shape_of m) b ≡ Some (Body shell)) (leaf : Tag) (live : IsSome (get n leaf)) (below : IsBelowAny n b leaf) where
    pub leaf-body : body_of (shape_of m) leaf ≡ b
    leaf-body =
        let well = well-shape m sound in
        sym (below-body m sound below.0 b leaf (below-was below.0 b leaf below.1)) ∙ (leads_up (shape_of m) well.written well.sound).bodies b shell body_is

    pub leaf-among : Contains (all_in_body (shape_of m) b) leaf
    leaf-among = let x = live-item leaf live in in_body-among (shape_of m) b leaf x.0 x.1 leaf-body

    pub leaf-room : HasRoomForThese old.recording (all_in_body (shape_of m) b) → HasRoomFor s.recording leaf
    leaf-room room =
        let all = all_in_body (shape_of m) b in
        room-for_one s.recording all leaf (room-after all all old s room d.puts (λ u k. k)) leaf-among

    pub deletes-more : OwnsNone n leaf → (new : StoreView) → new.state ≡ record s.state { map = with_entity n leaf None } → began new ≡ began s
        → new.recording ≡ record s.recording { first = recorded_put s.recording.first leaf (get n leaf) } → Deletes b old new
    deletes-more none new state_is began_is recorded =
        let map_is : new.state.map ≡ with_entity n leaf None = ap (λ (x : Stored). x.map) state_is in
        let blocks_are : new.state.blocks ≡ old.state.blocks = ap (λ (x : Stored). x.blocks) state_is ∙ ap (λ (x : Stored). x.blocks) d.state in
        let gone : get new.state.map leaf ≡ None = ap (λ (k : EntityMap). get k leaf) map_is ∙ get_put n leaf None in
        let other : (t : Tag) (h : t ≢ leaf) → get new.state.map t ≡ get n t = λ t h. ap (λ (k : EntityMap). get k t) map_is ∙ get_other n leaf None t h in
        record {
          within = λ t. ⊎_elim {C = (get new.state.map t ≡ get m t) ⊎ ((get new.state.map t ≡ None) × (body_of (shape_of m) t ≡ b))}
              (λ (e : t ≡ leaf). inr (ap (get new.state.map) e ∙ gone, ap (body_of (shape_of m)) e ∙ leaf-body))
              (λ (h : t ≢ leaf). ⊎_elim {C = (get new.state.map t ≡ get m t) ⊎ ((get new.state.map t ≡ None) × (body_of (shape_of m) t ≡ b))}
              (λ (same : get n t ≡ get m t). inl (other t h ∙ same))
              (λ (x : (get n t ≡ None) × (body_of (shape_of m) t ≡ b)). inr (other t h ∙ x.0, x.1))
              (d.within t))
              (same_or_other t leaf);
          closed = λ o t own. ⊎_elim {C = IsSome (get new.state.map o)}
              (λ (e : t ≡ leaf).
              let both : None ≡ Some o = sym (ap (option_and_then owner_of) (ap (get new.state.map) e ∙ gone)) ∙ own in
              absurd (cc))
              (λ (h : t ≢ leaf).
              let was : IsOwned n o t = ap (option_and_then owner_of) (sym (other t h)) ∙ own in
              let apart : o ≢ leaf = λ e. none t (subst (λ u. IsOwned n u t) e was) in
              subst IsSome (sym (other o apart)) (d.closed o t was))
              (same_or_other t leaf);
          state = λ i. record { blocks = blocks_are i; map = new.state.map };
          puts = puts-then (all_in_body (shape_of m) b) old s new d.puts (puts-one (all_in_body (shape_of m) b) s new leaf (get n leaf) leaf-among began_is recorded);
        }

    -- one entity less is live
    pub fewer-left : (new : StoreView) → new.state ≡ record s.state { map = with_entity n leaf None } → len new.state.map < len n
    fewer-left new state_is =
        let map_is : new.state.map ≡ remove n leaf = ap (λ (x : Stored). x.map) state_is in
        let less : len (remove n leaf) ≡ cond (contains_key n leaf) (len n - 1) (len n) = len-remove tag_total n leaf in
        let here : contains_key n leaf ≡ true = live in
        let one : len (remove n leaf) ≡ len n - 1 = less ∙ ap (λ c. cond c (len n - 1) (len n)) here in
        let same : len new.state.map ≡ len (remove n leaf) = ap len map_is in
        let some : 1 ≤ len n = some_key (keys n) (Contains-keys n leaf live) (length-map (entries n) (λ e. e.0)) in
        omega (arith, one, same, some)
      where
        some_key : (ts : List Tag) → Contains ts leaf → length ts ≡ length (entries n) → 1 ≤ len n
        some_key [] k h = absurd (not_in_nil leaf k)
        some_key (t ∷ ts) k h = let whole : len n ≡ length (entries n) = len-entries n in omega (arith, whole, h)

  -- ---- all of it has gone

  dead-below : get n b ≡ None → (k : ℕ) (o t : Tag) → get n o ≡ None → IsBelow k m o t → get n t ≡ None
  dead-below gone zero o t none h = subst (λ u. get n u ≡ None) h none
  dead-below gone (suc k) o t none (inl h) = subst (λ u. get n u ≡ None) h none
  dead-below gone (suc k) o t none (inr h) =
      let dead : get n h.0 ≡ None = ⊎_elim {C = get n h.0 ≡ None}
      (λ (same : get n h.0 ≡ get m h.0).
      let own : IsOwned n o h.0 = ap (option_and_then owner_of) same ∙ h.1 in
      absurd (nothing_there (get n o) none (d.closed o h.0 own)))
      (λ (x : (get n h.0 ≡ None) × (body_of (shape_of m) h.0 ≡ b)). x.0)
      (d.within h.0) in
      dead-below gone k h.0 t dead h.2

  module _ (gone : get n b ≡ None) where
    abbrev S : Shape
    S = shape_of m

    abbrev all : List Tag
    all = all_in_body S b

    abbrev R : Shape
    R = S without all

    abbrev lives : Tag × Item → Bool
    lives y = not (dies_with all y)

    well : IsWell S
    well = well-shape m sound

    was : Represents S m
    was = represents-sound m sound

    dead : (t : Tag) (y : Item) → item_at S t ≡ Some y → body_of S t ≡ b → IsShown R n t
    dead t y e at =
        let lost : item_at R t ≡ None = filter-lost lives S well.written.ascends t y e (ap (λ c. not (c || is_attribute_of all y)) (is_among-in t all (in_body-among S b t y e at))) in
        shown-gone R n t lost (dead-below gone 5 b t gone (all-below m sound b t y e at))

    not_all : (t : Tag) (y : Item) → item_at S t ≡ Some y → body_of S t ≢ b → is_attribute_of all y ≡ false
    not_all t (Attr owner name value) e h = not_among owner all (λ k. h (attribute-body S well t owner name value e ∙ among-in_body S b owner well.written.ascends k))
    not_all t (Body shell) e h = refl
    not_all t (Shell body q) e h = refl
    not_all t (Face shell outer) e h = refl
    not_all t (Loop face fins vertex) e h = refl
    not_all t (Fin mate edge vertex) e h = refl
    not_all t (Edge body) e h = refl
    not_all t (Vertex body point) e h = refl

    stays : (t : Tag) (y : Item) → item_at S t ≡ Some y → body_of S t ≢ b → item_at R t ≡ Some y
    stays t y e h =
        filter-kept lives S t y e (neither_from (is_among t all) (is_attribute_of all y) (not_among t all (λ k. h (among-in_body S b t well.written.ascends k))) (not_all t y e h))

    same_there : (t : Tag) → body_of S t ≢ b → get n t ≡ get m t
    same_there t h = ⊎_elim {C = get n t ≡ get m t} (λ (same : get n t ≡ get m t). same)
        (λ (x : (get n t ≡ None) × (body_of S t ≡ b)). absurd (h x.1)) (d.within t)

    shown : (t : Tag) (y : Item) → item_at S t ≡ Some y → body_of S t ≢ b → IsShown R n t
    shown t y e h =
        let up = leads_up S well.written well.sound in
        shown-by R n t y (stays t y e h)
        (shows-kept S R m n t y (was.items t y e) (same_there t h)
        (λ f k.
        let w = loop_by_item S f t y e k in
        same_there f (λ at. h (up.fins t w.face w.fins w.vertex w.loop_is f w.among ∙ at)))
        (λ f mate edge vertex is of. stays f (Fin mate edge vertex) is (λ at. h (ap (body_of S) (sym of) ∙ (well.sound.bodies.fins f mate edge vertex is).0 ∙ at))))

    each : (t : Tag) (o : Option Item) → item_at S t ≡ o → IsShown R n t
    each t None e = shown-gone R n t (filter-none lives S well.written.ascends t e)
        (⊎_elim {C = get n t ≡ None} (λ (same : get n t ≡ get m t). same ∙ was.nothing t e) (λ (x : (get n t ≡ None) × (body_of S t ≡ b)). x.0) (d.within t))
    each t (Some y) e = ⊎_elim {C = IsShown R n t} (λ (at : body_of S t ≡ b). dead t y e at) (λ (h : body_of S t ≢ b). shown t y e h) (same_or_other (body_of S t) b)

    pub body-deleted : n ≡ links R
    body-deleted = represented R n (body-dies S b well) (are-shown R n (λ t. each t (item_at S t) refl))

-- ---- how many there are

above_all : (t : Tag) (p : Tag × Item → Bool) (S : Shape) → AllByRecursion (λ (x : Tag × Item). t.0 < x.0.0) S → AllByRecursion (λ (u : Tag). t.0 < u.0) (map (λ (x : Tag × Item). x.0) (filter p S))
above_all t p S h =
    ByRecursion-map (λ (x : Tag × Item). t.0 < x.0.0) (λ (u : Tag). t.0 < u.0) (λ (x : Tag × Item). x.0) (λ x k. k) (filter p S) (ByRecursion-filter (λ (x : Tag × Item). t.0 < x.0.0) p S h)

filtered-ascend : (p : Tag × Item → Bool) (S : Shape) → T (is_sorted tag_cmp S) → TagsAscend (map (λ (x : Tag × Item). x.0) (filter p S))
filtered-ascend p [] h = tt
filtered-ascend p (x ∷ S) h =
    let both = both_parts (below_all tag_cmp x.0 S) (is_sorted tag_cmp S) h in
    elim (p x) as (λ b. TagsAscend (map (λ (y : Tag × Item). y.0) (cond b (x ∷ filter p S) (filter p S)))) [
      | true ↦ (above_all x.0 p S (below_all-less x.0 S both.0), filtered-ascend p S both.1)
      | false ↦ filtered-ascend p S both.1
    ]

pub all-counted : (m : EntityMap) → IsSound m → (b shell : Tag) (count : ℕ) → item_at (shape_of m) b ≡ Some (Body shell) → CountsBelow 5 m b count → count ≡ length (all_in_body (shape_of m) b)
all-counted m sound b shell count body_is c =
    let S : Shape = shape_of m in
    let well = well-shape m sound in
    let all : List Tag = all_in_body S b in
    let there = by_item all (λ t k. k) in
    let one = no_more-different c.tags all c.once (ByRecursion-contains (Contains all) c.tags (λ t k. in_all t ((c.are t).0 k))) in
    let two = no_more-different all c.tags (apart-ascending all (filtered-ascend _ S well.written.ascends)) there in
    let is = c.count_is in
    omega (arith, is, one, two)
  where
    live_b : IsSome (get m b)
    live_b = represents-live (get m b) (represents-sound m sound)
      where
        represents-live : (o : Option Entity) → Represents (shape_of m) m → IsSome (get m b)
        represents-live o was = subst IsSome (sym (was.items b (Body shell) body_is)) refl

    in_all : (t : Tag) → IsBelow 5 m b t → Contains (all_in_body (shape_of m) b) t
    in_all t h =
        let well = well-shape m sound in
        let at = sym (below-body m sound 5 b t h) ∙ (leads_up (shape_of m) well.written well.sound).bodies b shell body_is in
        by_entity (get m t) refl (below-live m sound 5 b t live_b h) at
      where
        by_entity : (o : Option Entity) → get m t ≡ o → IsSome o → body_of (shape_of m) t ≡ b → Contains (all_in_body (shape_of m) b) t
        by_entity None is live at = absurd (cc)
        by_entity (Some e) is live at = in_body-among (shape_of m) b t (item_of (entries m) e) (item-of m t e is) at

    by_item : (ts : List Tag) → ((t : Tag) → Contains ts t → Contains (all_in_body (shape_of m) b) t) → AllByRecursion (Contains c.tags) ts
    by_item ts within = ByRecursion-contains (Contains c.tags) ts (λ t k.
        let at = among-in_body (shape_of m) b t (well-shape m sound).written.ascends (within t k) in
        (c.are t).1 (among-below t (within t k) at))
      where
        among-below : (t : Tag) → Contains (all_in_body (shape_of m) b) t → body_of (shape_of m) t ≡ b → IsBelow 5 m b t
        among-below t k at = ⊎_elim {C = IsBelow 5 m b t}
            (λ (none : item_at (shape_of m) t ≡ None). absurd (not_there t k none))
            (λ (some : (x : Item) × (item_at (shape_of m) t ≡ Some x)). all-below m sound b t some.0 some.1 at)
            (none_or_some (item_at (shape_of m) t))
          where
            not_there : (t : Tag) → Contains (all_in_body (shape_of m) b) t → item_at (shape_of m) t ≡ None → ⊥
            not_there t k none =
                let y = map_contains (λ (z : Tag × Item). z.0) _ t k in
                let z = filter_contains _ (shape_of m) y.0 y.1 in
                let is : item_at (shape_of m) y.0.0 ≡ Some y.0.1 = among-item (shape_of m) (well-shape m sound).written.ascends y.0.0 y.0.1 z.0 in
                let both : None ≡ Some y.0.1 = sym none ∙ ap (item_at (shape_of m)) (sym y.2) ∙ is in
                absurd (cc)
