-- The map of a shape from which an edge is removed with its two fins. The fins are cut out of their loops, the loops that
-- are left are put anew, and then the edge dies, with all else that dies with it.
use Rattle.std.proofs.Common.{◌≡◌, ◌≢◌, ⊎_elim, List, [], ◌∷◌, Option, Some, refl, sym, ap, subst, ◌∙◌}
use Rattle.std.specs.Prelude.{map, option_map, Contains}
use Rattle.std.specs.Option.{option_and_then}
use Rattle.std.specs.List.{AllByRecursion}
use Rattle.std.specs.FinMap.{get}
use Rattle.pk_base.specs.declared.tag.Tag.{Tag}
use Rattle.pk_base.specs.declared.entity.Class.TheVariants as class
use Rattle.pk_base.specs.declared.entity.Entity.{Entity}
use Rattle.pk_base.specs.declared.entity.Entity.TheVariants as entity
use Rattle.pk_model.specs.Apart.{NoRepeats}
use Rattle.pk_model.specs.Maps.{EntityMap, with_entity}
use Rattle.list_facts.proofs.Each.{ByRecursion-at, ByRecursion-contains}
use Rattle.list_facts.proofs.Elements.{Contains-first, Contains-map, map_contains}
use Rattle.entity_store.proofs.FirstValues.{get_other, get_put}
use Rattle.solid_model.specs.Items.{Item, Shape, item_at, class_of_item, ◌with◌}
use Rattle.solid_model.specs.Items.Item.{Fin, Loop}
use Rattle.solid_model.specs.Rings.{first_tag, from_least, ring_or_lone}
use Rattle.solid_model.specs.Deaths.{◌without◌}
use Rattle.solid_model.specs.Places.{PlacedFin}
use Rattle.solid_model.specs.Sound.{class_at}
use Rattle.solid_model.proofs.lists.Cycles.{least-in}
use Rattle.pk_model.proofs.TagLists.{NoneOf}
use Rattle.solid_model.proofs.lists.Neighbours.{none-not}
use Rattle.solid_sound.proofs.edges.Ends.{FinIn}
use Rattle.solid_sound.proofs.shapes.FinRings.{lone_for, ring_or_lone-is}
use Rattle.solid_sound.proofs.shapes.Lookups.{Items, is_written, tags_in}
use Rattle.solid_sound.proofs.shapes.Names.{NotAttr}
use Rattle.solid_sound.proofs.shapes.Reading.{fin_in}
use Rattle.solid_sound.proofs.rows.RowKeeps.{IsWell}
use Rattle.halfedge.specs.LinkedRings.{FinFields, IsRing, as_fin, fin_in as fin_fields, loop_named}
use Rattle.halfedge.proofs.LinkedRings.{ring-kept, ring-least}
use Rattle.solid_calls.proofs.Represented.{Represents, Shows}
use Rattle.solid_edits.specs.Deaths.{Kills, unless_on_any}
use Rattle.solid_edits.proofs.KilledMaps.{GainsNoAttribute, unless-fin, unless-plain}
use Rattle.solid_edits.proofs.PlacedAnew.{IsSameElsewhere, elsewhere-plain, unplaced}
use Rattle.solid_edits.proofs.PlacedFins.{placed-loop}
use Rattle.solid_edits.proofs.WrittenMaps.{edited}

-- ---- loops that are put

-- a loop of a face: its fins, written from any of them, and the vertex that it has alone where there are none
pub record PutLoop : Type 0 where
  pub loop_ : Tag
  pub face : Tag
  pub fins : List Tag
  pub vertex : Tag

abbrev pub loop_entity : PutLoop → Entity
loop_entity p = entity.Loop p.face (first_tag (from_least p.fins)) (lone_for p.fins p.vertex)

abbrev pub loop_item : PutLoop → Tag × Item
loop_item p = (p.loop_, ring_or_lone p.face p.fins p.vertex)

-- the tags of these
abbrev pub loop_tags : List PutLoop → List Tag
loop_tags ps = tags_in (map loop_item ps)

-- the map once they are put, one after another
abbrev pub with_loops : EntityMap → List PutLoop → EntityMap
with_loops m [] = m
with_loops m (p ∷ ps) = with_loops (with_entity m p.loop_ (Some (loop_entity p))) ps

pub with_loops-other : (m : EntityMap) (ps : List PutLoop) (t : Tag) → NoneOf t (loop_tags ps) → get (with_loops m ps) t ≡ get m t
with_loops-other m [] t none = refl
with_loops-other m (p ∷ ps) t none =
    with_loops-other (with_entity m p.loop_ (Some (loop_entity p))) ps t none.1 ∙ get_other m p.loop_ (Some (loop_entity p)) t none.0

pub with_loops-put : (m : EntityMap) (ps : List PutLoop) → NoRepeats (loop_tags ps) → AllByRecursion (λ (p : PutLoop). get (with_loops m ps) p.loop_ ≡ Some (loop_entity p)) ps
with_loops-put m [] once = tt
with_loops-put m (p ∷ ps) once = (
  with_loops-other (with_entity m p.loop_ (Some (loop_entity p))) ps p.loop_ once.0 ∙ get_put m p.loop_ (Some (loop_entity p)),
  with_loops-put (with_entity m p.loop_ (Some (loop_entity p))) ps once.1,
)

-- ---- an edge that is cut out

-- the map has the ring of these fins, which name the loop; they are fins of the shape, and none of the edge
pub record HasRing (S : Shape) (n : EntityMap) (f mate : Tag) (p : PutLoop) : Type 0 where
  pub ring : IsRing n p.fins
  pub named : (t : Tag) → Contains p.fins t → loop_named n t ≡ Some p.loop_
  pub left : (t : Tag) → Contains p.fins t → (class_at S t ≡ Some class.Fin) × (t ≢ f) × (t ≢ mate)

-- From m, the map of the shape, to n only fins of the two loops have changed their places. These loops are to be put
-- or to die, the edge dies, and no fin dies but its two.
pub record IsCutOut (S : Shape) (m n : EntityMap) (f : Tag) (u w : PlacedFin) (ps : List PutLoop) (killed : List Tag) : Type 0 where
  pub elsewhere : (t : Tag) → IsSameElsewhere m n t
  pub outside : (t : Tag) → ¬ (Contains u.fins t) → ¬ (Contains w.fins t) → get n t ≡ get m t
  pub rings : AllByRecursion (HasRing S n f u.mate) ps
  pub loops_once : NoRepeats (loop_tags ps)
  pub loops_live : AllByRecursion (λ l. NoneOf l killed) (loop_tags ps)
  pub no_fins : (t : Tag) → class_at S t ≡ Some class.Fin → NoneOf t (loop_tags ps)
  pub both : (l : Tag) → NoneOf l (loop_tags ps) → NoneOf l killed → (l ≢ u.loop_) × (l ≢ w.loop_)
  pub once : NoRepeats killed
  pub edge : Contains killed u.edge
  pub fins : (t : Tag) → class_at S t ≡ Some class.Fin → t ≢ f → t ≢ u.mate → NoneOf t killed

module _ {S : Shape} {m n : EntityMap} {f : Tag} {u w : PlacedFin} {ps : List PutLoop} {killed : List Tag} (well : IsWell S) (was : Represents S m) (U : FinIn S f u) (W : FinIn S u.mate w)
    (cut : IsCutOut S m n f u w ps killed) where
  abbrev xs : Items
  xs = map loop_item ps

  abbrev q : EntityMap
  q = with_loops n ps

  -- what is put
  loop_put : (t : Tag) (x : Item) → Contains xs (t, x) → (p : PutLoop) × Contains ps p × (loop_item p ≡ (t, x))
  loop_put t x k = map_contains loop_item ps (t, x) k

  loop_there : (p : PutLoop) → Contains ps p → get q p.loop_ ≡ Some (loop_entity p)
  loop_there p k = ByRecursion-at (λ (p : PutLoop). get q p.loop_ ≡ Some (loop_entity p)) ps p (with_loops-put n ps cut.loops_once) k

  old : (t : Tag) → NoneOf t (loop_tags ps) → get q t ≡ get n t
  old t none = with_loops-other n ps t none

  -- no attribute has come
  pub cut-attributes : GainsNoAttribute m q
  cut-attributes o t (name, value, is) = (
    name,
    value,
    ⊎_elim {C = get m t ≡ Some (entity.Attr o name value)}
        (λ (w : (x : Item) × Contains xs (t, x)).
        let p = loop_put t w.0 w.1 in
        let both : Some (loop_entity p.0) ≡ Some (entity.Attr o name value) = sym (loop_there p.0 p.1) ∙ ap (λ (y : Tag × Item). get q y.0) p.2 ∙ is in
        absurd (cc))
        (λ (none : NoneOf t (loop_tags ps)). elsewhere-plain n m t (entity.Attr o name value) (sym (cut.elsewhere t)) refl (sym (old t none) ∙ is))
        (is_written t xs),
  )

  module _ (r : EntityMap) (kills : Kills q killed r) where
    -- a fin that is left is as it was put
    fields : (t : Tag) → class_at S t ≡ Some class.Fin → NoneOf t killed → fin_fields r t ≡ fin_fields n t
    fields t h live = ap (option_and_then as_fin) (kills.others t live) ∙ unless-fin killed (get q t) ∙ ap (option_and_then as_fin) (old t (cut.no_fins t h))

    -- ---- the loops

    loop_shown : (p : PutLoop) → Contains ps p → Shows (S with xs without killed) r p.loop_ (ring_or_lone p.face p.fins p.vertex)
    loop_shown p k =
        let has = ByRecursion-at (HasRing S n f u.mate) ps p cut.rings k in
        let live : NoneOf p.loop_ killed = ByRecursion-at (λ l. NoneOf l killed) (loop_tags ps) p.loop_ cut.loops_live (Contains-map (λ (y : Tag × Item). y.0) xs (loop_item p) (Contains-map loop_item ps p k)) in
        let same : (t : Tag) → Contains p.fins t → fin_fields r t ≡ fin_fields n t = λ t j. let is = has.left t j in fields t is.0 (cut.fins t is.0 is.1 is.2) in
        subst (Shows (S with xs without killed) r p.loop_) (sym (ring_or_lone-is p.face p.fins p.vertex)) (
          kills.others p.loop_ live ∙ ap (unless_on_any killed) (loop_there p k) ∙ unless-plain killed (loop_entity p) (λ o. refl),
          ring-least r p.fins (ring-kept n r p.fins has.ring (λ t j. (ap (option_map (λ (x : FinFields). x.next)) (same t j), ap (option_map (λ (x : FinFields). x.prev)) (same t j)))),
          ByRecursion-contains (λ t. loop_named r t ≡ Some p.loop_) (from_least p.fins) (λ t j. let i = least-in t p.fins j in ap (option_map (λ (x : FinFields). x.loop_)) (same t i) ∙ has.named t i),
        )

    shown : (t : Tag) (x : Item) → Contains xs (t, x) → Shows (S with xs without killed) r t x
    shown t x k = let p = loop_put t x k in subst (λ (y : Tag × Item). Shows (S with xs without killed) r y.0 y.1) p.2 (loop_shown p.0 p.1)

    plain : AllByRecursion (λ (x : Tag × Item). NotAttr (class_of_item x.1)) xs
    plain = ByRecursion-contains (λ (x : Tag × Item). NotAttr (class_of_item x.1)) xs (λ x k.
        let p = map_contains loop_item ps x k in
        subst (λ (y : Tag × Item). NotAttr (class_of_item y.1)) p.2 (subst (λ (i : Item). NotAttr (class_of_item i)) (sym (ring_or_lone-is p.0.face p.0.fins p.0.vertex)) (λ e. cc)))

    -- ---- what stays

    f_among : Contains u.fins f
    f_among = subst (λ ts. Contains ts f) (sym U.fins_are) (Contains-first f U.rest)

    mate_among : Contains w.fins u.mate
    mate_among = subst (λ ts. Contains ts u.mate) (sym W.fins_are) (Contains-first u.mate W.rest)

    mate_edge : w.edge ≡ u.edge
    mate_edge =
        let mated = well.sound.mates.fins f u.mate u.edge u.vertex U.fin_is in
        let both : Some (Fin w.mate w.edge w.vertex) ≡ Some (Fin f u.edge mated.end) = sym W.fin_is ∙ mated.mate_is in
        cc

    -- the fins of another loop
    other_loops : (l face : Tag) (fins : List Tag) (vertex : Option Tag) → item_at S l ≡ Some (Loop face fins vertex) → NoneOf l (loop_tags ps) → NoneOf l killed
        → (t : Tag) → Contains fins t → NoneOf t killed × (get q t ≡ get m t)
    other_loops l face fins vertex is none live t k =
        let away = cut.both l none live in
        let not_u : ¬ (Contains u.fins t) = λ j. away.0 (placed-loop well U.end l face fins vertex is t k j) in
        let not_w : ¬ (Contains w.fins t) = λ j. away.1 (placed-loop well W.end l face fins vertex is t k j) in
        let fin : class_at S t ≡ Some class.Fin = ap (option_map class_of_item) (fin_in S well.written well.sound l face fins vertex is t k).3 in (
          cut.fins t fin (λ e. not_u (subst (Contains u.fins) (sym e) f_among)) (λ e. not_w (subst (Contains w.fins) (sym e) mate_among)),
          old t (cut.no_fins t fin) ∙ cut.outside t not_u not_w,
        )

    -- the fins of another edge
    other_edges : (t mate edge vertex : Tag) → item_at S t ≡ Some (Fin mate edge vertex) → NoneOf edge killed → NoneOf t (loop_tags ps) × NoneOf t killed
    other_edges t mate edge vertex is live =
        let fin : class_at S t ≡ Some class.Fin = ap (option_map class_of_item) is in
        let same_edge : (a b e c : Tag) → t ≡ a → item_at S a ≡ Some (Fin b e c) → edge ≡ e =
        λ a b e c same a_is. let both : Some (Fin mate edge vertex) ≡ Some (Fin b e c) = sym is ∙ ap (item_at S) same ∙ a_is in cc in
        let dies : edge ≢ u.edge = λ e. none-not edge killed live (subst (Contains killed) (sym e) cut.edge) in (
          cut.no_fins t fin,
          cut.fins t fin (λ e. dies (same_edge f u.mate u.edge u.vertex e U.fin_is)) (λ e. dies (same_edge u.mate w.mate w.edge w.vertex e W.fin_is ∙ mate_edge)),
        )

    killed_apart : AllByRecursion (λ t. NoneOf t (loop_tags ps)) killed
    killed_apart = ByRecursion-contains (λ t. NoneOf t (loop_tags ps)) killed (λ t k. ByRecursion-contains (λ l. t ≢ l) (loop_tags ps) (λ l j e.
        none-not l killed (ByRecursion-at (λ l. NoneOf l killed) (loop_tags ps) l cut.loops_live j) (subst (Contains killed) e k)))

    pub cut-represents : Represents (S with xs without killed) r
    cut-represents =
        edited S m q r xs killed well was cut.loops_once cut.once killed_apart plain kills
        (λ t none. ap (option_map unplaced) (old t none) ∙ cut.elsewhere t) other_loops other_edges shown
