-- The vertices of a body are moved run by run of tags: what has been moved so far.
use Rattle.std.proofs.Common.{◌≡◌, ◌≢◌, ℕ, ◌+◌, ◌<◌, ◌≤◌, ⊎_elim, Bool, true, false, cond, Option, Some, None, refl, sym, ap, subst, ◌∙◌, arith}
use Rattle.std.specs.Prelude.{◌&&◌, nat_le, nat_lt, option_map, is_some, Contains}
use Rattle.std.specs.Option.{option_map_or}
use Rattle.std.specs.FinMap.{get, keys}
use Rattle.std.proofs.lemmas.Bool.{cases_Bool}
use Rattle.pk_base.specs.Blocks.{tag}
use Rattle.pk_base.proofs.Same.{same_itself, same_means, same_or_other}
use Rattle.pk_base.specs.declared.tag.Tag.{Tag}
use Rattle.pk_base.specs.declared.entity.Point.{Point}
use Rattle.pk_base.specs.declared.entity.Entity.{Entity}
use Rattle.pk_base.specs.declared.entity.Entity.TheVariants.{Body, Shell, Face, Loop, Fin, Edge, Vertex, Attr}
use Rattle.pk_model.proofs.Keys.{Contains-keys}
use Rattle.pk_model.specs.Maps.{EntityMap, with_entity}
use Rattle.list_facts.proofs.Elements.{Contains-filter, filter_contains}
use Rattle.attributes.proofs.Carried.{IsPut}
use Rattle.entity_store.specs.Room.{HasRoomForThese}
use Rattle.entity_store.specs.Store.{Stored, StoreView}
use Rattle.entity_store.proofs.FirstValues.{get_other, get_put}
use Rattle.entity_store.proofs.Room.{puts-none, puts-one, puts-then, puts-wider, room-after, room-part}
use Rattle.solid_motion.specs.declared.vertices.Wanted.{Wanted}
use Rattle.solid_motion.specs.declared.vertices.Wanted.TheVariants.{From}
use Rattle.solid_motion.specs.Vertices.{IsLeastWanted, MovesRun, MovesVertices, entity_moved, is_vertex_of, moved_in_run, vertices_on}

-- ---- vertices of the body

vertex_by : (b : Tag) (e : Entity) → is_vertex_of b e ≡ true → (p : Point) × (e ≡ Vertex b p)
vertex_by b (Vertex body p) h = (p, ap (λ u. Vertex u p) (same_means body b h))
vertex_by b (Body shell) h = absurd (cc)
vertex_by b (Shell body q) h = absurd (cc)
vertex_by b (Face shell outer) h = absurd (cc)
vertex_by b (Loop face first vertex) h = absurd (cc)
vertex_by b (Fin l next prev mate edge vertex) h = absurd (cc)
vertex_by b (Edge body fin) h = absurd (cc)
vertex_by b (Attr owner name value) h = absurd (cc)

is_one : EntityMap → Tag → Tag → Bool
is_one m b t = option_map_or (is_vertex_of b) (get m t) false

vertex_of : (b : Tag) (o : Option Entity) → option_map_or (is_vertex_of b) o false ≡ true → (p : Point) × (o ≡ Some (Vertex b p))
vertex_of b None h = absurd (cc)
vertex_of b (Some e) h = let x = vertex_by b e h in (x.0, ap Some x.1)

pub vertex-on : (m : EntityMap) (b t : Tag) (p : Point) → get m t ≡ Some (Vertex b p) → Contains (vertices_on m b) t
vertex-on m b t p h = Contains-filter (λ u. option_map_or (is_vertex_of b) (get m u) false) (keys m) t (Contains-keys m t (ap is_some h)) (ap (λ o. option_map_or (is_vertex_of b) o false) h ∙ same_itself b)

pub on-vertex : (m : EntityMap) (b t : Tag) → Contains (vertices_on m b) t → (p : Point) × (get m t ≡ Some (Vertex b p))
on-vertex m b t h = vertex_of b (get m t) (filter_contains (λ u. option_map_or (is_vertex_of b) (get m u) false) (keys m) t h).1

-- ---- what is moved

-- what is no vertex of the body stays
moved-other : (motion : Point → Point) (b : Tag) (e : Entity) → is_vertex_of b e ≡ false → entity_moved motion b e ≡ e
moved-other motion b (Body shell) h = refl
moved-other motion b (Shell body q) h = refl
moved-other motion b (Face shell outer) h = refl
moved-other motion b (Loop face first vertex) h = refl
moved-other motion b (Fin l next prev mate edge vertex) h = refl
moved-other motion b (Edge body fin) h = refl
moved-other motion b (Attr owner name value) h = refl
moved-other motion b (Vertex body p) h = ap (λ c. Vertex body (cond c (motion p) p)) h

pub nothing_moved : (motion : Point → Point) (b : Tag) (o : Option Entity) → option_map_or (is_vertex_of b) o false ≡ false → option_map (entity_moved motion b) o ≡ o
nothing_moved motion b None h = refl
nothing_moved motion b (Some e) h = ap Some (moved-other motion b e h)

vertex_moved : (motion : Point → Point) (b : Tag) (p : Point) → entity_moved motion b (Vertex b p) ≡ Vertex b (motion p)
vertex_moved motion b p = ap (λ c. Vertex b (cond c (motion p) p)) (same_itself b)

-- a vertex of the body is one after the motion alone if it was one before
kind_kept : (motion : Point → Point) (b : Tag) (o : Option Entity) → option_map_or (is_vertex_of b) (option_map (entity_moved motion b) o) false ≡ option_map_or (is_vertex_of b) o false
kind_kept motion b None = refl
kind_kept motion b (Some (Body shell)) = refl
kind_kept motion b (Some (Shell body q)) = refl
kind_kept motion b (Some (Face shell outer)) = refl
kind_kept motion b (Some (Loop face first vertex)) = refl
kind_kept motion b (Some (Fin l next prev mate edge vertex)) = refl
kind_kept motion b (Some (Edge body fin)) = refl
kind_kept motion b (Some (Attr owner name value)) = refl
kind_kept motion b (Some (Vertex body p)) = refl

-- ---- one run

abbrev in_run : ℕ → ℕ → Tag → Bool
in_run from to t = nat_le from t.0 && nat_lt t.0 to

run_kind : (motion : Point → Point) (b : Tag) (c : Bool) (o : Option Entity) → option_map_or (is_vertex_of b) (cond c (option_map (entity_moved motion b) o) o) false ≡ option_map_or (is_vertex_of b) o false
run_kind motion b true o = kind_kept motion b o
run_kind motion b false o = refl

-- the vertices of the body stay so
pub run-on : (motion : Point → Point) (b : Tag) (from to : ℕ) (old new : StoreView) → MovesRun motion b from to old new → (t : Tag) → Contains (vertices_on new.state.map b) t → Contains (vertices_on old.state.map b) t
run-on motion b from to old new h t k =
    let x = on-vertex new.state.map b t k in
    let is : option_map_or (is_vertex_of b) (get old.state.map t) false ≡ true =
    sym (run_kind motion b (in_run from to t) (get old.state.map t)) ∙ sym (ap (λ o. option_map_or (is_vertex_of b) o false) (h.moved t)) ∙ ap (λ o. option_map_or (is_vertex_of b) o false) x.1 ∙ same_itself b in
    let y = vertex_of b (get old.state.map t) is in
    vertex-on old.state.map b t y.0 y.1

pub run-room : (motion : Point → Point) (b : Tag) (from to : ℕ) (old new : StoreView) → MovesRun motion b from to old new → HasRoomForThese old.recording (vertices_on old.state.map b) → HasRoomForThese new.recording (vertices_on new.state.map b)
run-room motion b from to old new h room =
    let all = vertices_on old.state.map b in
    room-part new.recording all (vertices_on new.state.map b) (room-after all all old new room h.puts (λ u k. k)) (run-on motion b from to old new h)

outside_run : (from t : ℕ) → nat_le from t && nat_lt t from ≡ false
outside_run from t = grind arith

pub run-none : (motion : Point → Point) (b : Tag) (from : ℕ) (s : StoreView) → MovesRun motion b from from s s
run-none motion b from s = record {
  moved = λ t. ap (λ c. cond c (option_map (entity_moved motion b) (get s.state.map t)) (get s.state.map t)) (sym (outside_run from t.0));
  state = refl;
  puts = puts-none (vertices_on s.state.map b) s;
}

-- a run that is followed by the next one, after tags without a vertex of the body
joined : (motion : Point → Point) (b : Tag) (o : Option Entity) (p q r : Bool) → (p ≡ true → q ≡ false) → (r ≡ false → p ≡ false) → (r ≡ false → q ≡ false) → (r ≡ true → p ≡ false → q ≡ false → option_map (entity_moved motion b) o ≡ o)
    → cond q (option_map (entity_moved motion b) (cond p (option_map (entity_moved motion b) o) o)) (cond p (option_map (entity_moved motion b) o) o) ≡ cond r (option_map (entity_moved motion b) o) o
joined motion b o true true r apart one two gap = absurd (let no = apart refl in cc)
joined motion b o true false true apart one two gap = refl
joined motion b o true false false apart one two gap = absurd (let no = one refl in cc)
joined motion b o false true true apart one two gap = refl
joined motion b o false true false apart one two gap = absurd (let no = two refl in cc)
joined motion b o false false true apart one two gap = sym (gap refl refl refl)
joined motion b o false false false apart one two gap = refl

first_apart : (a m f z t : ℕ) → m ≤ f → nat_le a t && nat_lt t m ≡ true → nat_le f t && nat_lt t z ≡ false
first_apart a m f z t h k = grind arith

first_part : (a m f z t : ℕ) → m ≤ f → f ≤ z → nat_le a t && nat_lt t z ≡ false → nat_le a t && nat_lt t m ≡ false
first_part a m f z t h l k = grind arith

second_part : (a f z t : ℕ) → a ≤ f → nat_le a t && nat_lt t z ≡ false → nat_le f t && nat_lt t z ≡ false
second_part a f z t h k = grind arith

between : (a m f z t : ℕ) → nat_le a t && nat_lt t z ≡ true → nat_le a t && nat_lt t m ≡ false → nat_le f t && nat_lt t z ≡ false → (m ≤ t) × (t < f)
between a m f z t p q r = (grind arith, grind arith)

pub run-then : (motion : Point → Point) (b : Tag) (a m f z : ℕ) (old mid new : StoreView) → a ≤ m → m ≤ f → f ≤ z → MovesRun motion b a m old mid → MovesRun motion b f z mid new
    → ((t : Tag) → m ≤ t.0 → t.0 < f → option_map_or (is_vertex_of b) (get mid.state.map t) false ≡ false) → MovesRun motion b a z old new
run-then motion b a m f z old mid new am mf fz p q gap =
    let blocks_are : new.state.blocks ≡ old.state.blocks = ap (λ (s : Stored). s.blocks) q.state ∙ ap (λ (s : Stored). s.blocks) p.state in
    let all = vertices_on old.state.map b in
    record {
      moved = λ t.
          let o = get old.state.map t in
          q.moved t ∙ ap (λ x. cond (in_run f z t) (option_map (entity_moved motion b) x) x) (p.moved t)
          ∙ joined motion b o (in_run a m t) (in_run f z t) (in_run a z t) (first_apart a m f z t.0 mf) (first_part a m f z t.0 mf fz) (second_part a f z t.0 (omega arith))
          (λ r first second.
          let g = between a m f z t.0 r first second in
          let same : get mid.state.map t ≡ o = p.moved t ∙ ap (λ c. cond c (option_map (entity_moved motion b) o) o) first in
          nothing_moved motion b o (ap (λ x. option_map_or (is_vertex_of b) x false) (sym same) ∙ gap t g.0 g.1));
      state = λ i. record { blocks = blocks_are i; map = new.state.map };
      puts = puts-then all old mid new p.puts (puts-wider (vertices_on mid.state.map b) all mid new q.puts (run-on motion b a m old mid p));
    }

-- the next tag is moved
pub run-next : (motion : Point → Point) (b : Tag) (a n : ℕ) (old mid new : StoreView) → a ≤ n → MovesRun motion b a n old mid → MovesRun motion b n (n + 1) mid new → MovesRun motion b a (n + 1) old new
run-next motion b a n old mid new le p q = run-then motion b a n n (n + 1) old mid new le (omega arith) (omega arith) p q (λ t more less. absurd (omega (arith, more, less)))

-- ---- one tag

just_one : (n t : ℕ) → n ≢ t → nat_le n t && nat_lt t (n + 1) ≡ false
just_one n t h = grind arith

the_one : (n : ℕ) → nat_le n n && nat_lt n (n + 1) ≡ true
the_one n = grind arith

other_number : (t u : Tag) → u ≢ t → t.0 ≢ u.0
other_number t u h e = h (ap tag (sym e))

-- a vertex of the body was put anew
pub one-moved : (motion : Point → Point) (b t : Tag) (p : Point) (old new : StoreView) → get old.state.map t ≡ Some (Vertex b p) → IsPut old new t (Some (Vertex b (motion p))) → MovesRun motion b t.0 (t.0 + 1) old new
one-moved motion b t p old new live put =
    let m : EntityMap = old.state.map in
    let to : Option Entity = Some (Vertex b (motion p)) in
    let map_is : new.state.map ≡ with_entity m t to = ap (λ (s : Stored). s.map) put.state in
    let blocks_are : new.state.blocks ≡ old.state.blocks = ap (λ (s : Stored). s.blocks) put.state in
    record {
      moved = λ u. ap (λ (n : EntityMap). get n u) map_is ∙ ⊎_elim {C = get (with_entity m t to) u ≡ moved_in_run motion b t.0 (t.0 + 1) u (get m u)}
          (λ (e : u ≡ t). subst (λ (v : Tag). get (with_entity m t to) v ≡ moved_in_run motion b t.0 (t.0 + 1) v (get m v)) (sym e)
          (get_put m t to ∙ ap Some (sym (vertex_moved motion b p)) ∙ sym (ap (option_map (entity_moved motion b)) live)
          ∙ ap (λ c. cond c (option_map (entity_moved motion b) (get m t)) (get m t)) (sym (the_one t.0))))
          (λ (other : u ≢ t). get_other m t to u other ∙ ap (λ c. cond c (option_map (entity_moved motion b) (get m u)) (get m u)) (sym (just_one t.0 u.0 (other_number t u other))))
          (same_or_other u t);
      state = λ i. record { blocks = blocks_are i; map = new.state.map };
      puts = puts-one (vertices_on m b) old new t (get m t) (vertex-on m b t p live) put.began put.recorded;
    }

-- there was none
pub none-moved : (motion : Point → Point) (b t : Tag) (s : StoreView) → option_map_or (is_vertex_of b) (get s.state.map t) false ≡ false → MovesRun motion b t.0 (t.0 + 1) s s
none-moved motion b t s none = record {
  moved = λ u. ⊎_elim {C = get s.state.map u ≡ moved_in_run motion b t.0 (t.0 + 1) u (get s.state.map u)}
      (λ (e : u ≡ t). subst (λ (v : Tag). get s.state.map v ≡ moved_in_run motion b t.0 (t.0 + 1) v (get s.state.map v)) (sym e)
      (sym (nothing_moved motion b (get s.state.map t) none) ∙ ap (λ c. cond c (option_map (entity_moved motion b) (get s.state.map t)) (get s.state.map t)) (sym (the_one t.0))))
      (λ (other : u ≢ t). ap (λ c. cond c (option_map (entity_moved motion b) (get s.state.map u)) (get s.state.map u)) (sym (just_one t.0 u.0 (other_number t u other))))
      (same_or_other u t);
  state = refl;
  puts = puts-none (vertices_on s.state.map b) s;
}

-- ---- all of them

-- what stands from the end of the run on is as it was
pub run-past : (motion : Point → Point) (b : Tag) (from to : ℕ) (old new : StoreView) (t : Tag) → MovesRun motion b from to old new → to ≤ t.0 → get new.state.map t ≡ get old.state.map t
run-past motion b from to old new t h le =
    let o = get old.state.map t in
    h.moved t ∙ ap (λ c. cond c (option_map (entity_moved motion b) o) o) (past from to t.0 le)
  where
    past : (a z n : ℕ) → z ≤ n → nat_le a n && nat_lt n z ≡ false
    past a z n k = grind arith

pub first-number : (m : EntityMap) (b : Tag) (from : ℕ) (x : Tag × Point) → IsLeastWanted m b (From from) (Some x) → from ≤ x.0.0
first-number m b from x least = number from x.0.0 least.0.wanted
  where
    number : (a n : ℕ) → nat_le a n ≡ true → a ≤ n
    number a n h = grind arith

-- no vertex stands from there on to the least
pub none-before : (b : Tag) (m : EntityMap) (from : ℕ) (x : Tag × Point) → IsLeastWanted m b (From from) (Some x) → (t : Tag) → from ≤ t.0 → t.0 < x.0.0 → option_map_or (is_vertex_of b) (get m t) false ≡ false
none-before b m from x least t le less = ⊎_elim {C = option_map_or (is_vertex_of b) (get m t) false ≡ false}
    (λ (is : option_map_or (is_vertex_of b) (get m t) false ≡ true).
    let y = vertex_of b (get m t) is in
    let more = least.1 t y.0 (record { live = y.1; wanted = reached from t.0 le }) in
    absurd (omega (arith, more, less)))
    (λ (no : option_map_or (is_vertex_of b) (get m t) false ≡ false). no)
    (cases_Bool (option_map_or (is_vertex_of b) (get m t) false))
  where
    reached : (a n : ℕ) → a ≤ n → nat_le a n ≡ true
    reached a n k = grind arith

pub all-moved : (motion : Point → Point) (b : Tag) (from : ℕ) (old new : StoreView) → MovesRun motion b 0 from old new → IsLeastWanted new.state.map b (From from) None → MovesVertices motion b old.state.map new.state.map
all-moved motion b from old new h none t =
    let o = get old.state.map t in
    ⊎_elim {C = get new.state.map t ≡ option_map (entity_moved motion b) o}
    (λ (is : in_run 0 from t ≡ true). h.moved t ∙ ap (λ c. cond c (option_map (entity_moved motion b) o) o) is)
    (λ (no : in_run 0 from t ≡ false).
    let same : get new.state.map t ≡ o = h.moved t ∙ ap (λ c. cond c (option_map (entity_moved motion b) o) o) no in
    same ∙ sym (nothing_moved motion b o (⊎_elim {C = option_map_or (is_vertex_of b) o false ≡ false}
    (λ (is : option_map_or (is_vertex_of b) o false ≡ true).
    let y = vertex_of b o is in
    absurd (none t y.0 (record { live = same ∙ y.1; wanted = beyond from t.0 no })))
    (λ (not_one : option_map_or (is_vertex_of b) o false ≡ false). not_one)
    (cases_Bool (option_map_or (is_vertex_of b) o false)))))
    (cases_Bool (in_run 0 from t))
  where
    beyond : (z n : ℕ) → nat_le 0 n && nat_lt n z ≡ false → nat_le z n ≡ true
    beyond z n k = grind arith

-- ---- through a view of the store

pub least-viewed : (v s : StoreView) (b : Tag) (w : Wanted) (o : Option (Tag × Point)) → v ≡ s → IsLeastWanted v.state.map b w o → IsLeastWanted s.state.map b w o
least-viewed v s b w o same h = subst (λ (x : StoreView). IsLeastWanted x.state.map b w o) same h

pub point-viewed : (v s : StoreView) (b t : Tag) (p : Point) → v ≡ s → get v.state.map t ≡ Some (Vertex b p) → get s.state.map t ≡ Some (Vertex b p)
point-viewed v s b t p same h = subst (λ (x : StoreView). get x.state.map t ≡ Some (Vertex b p)) same h
