-- kef: what it finds before it changes anything, its row, what it puts, and why it is refused.
use Rattle.std.proofs.Common.{◌≡◌, ◌≢◌, ◌+◌, Bool, true, false, List, [], ◌∷◌, ◌++◌, length, Some, Ok, refl, sym, ap, subst, ◌∙◌, length-append, arith, ⊎_elim, drop}
use Rattle.std.specs.Prelude.{IsOk, IsTrue, option_map, Contains}
use Rattle.std.specs.List.{AllByRecursion}
use Rattle.std.specs.FinMap.{get}
use Rattle.pk_base.specs.Entity.{same_tag}
use Rattle.pk_base.specs.declared.tag.Tag.{Tag}
use Rattle.pk_base.specs.declared.entity.Entity.{Entity}
use Rattle.pk_base.specs.declared.call.Call.TheVariants.{Kef}
use Rattle.pk_base.specs.declared.refusal.Refusal.{Refusal}
use Rattle.pk_base.specs.declared.refusal.Refusal.TheVariants.{HasRings, OneLoop}
use Rattle.pk_model.specs.Maps.{EntityMap}
use Rattle.pk_model.specs.Step.{◌>>=◌}
use Rattle.pk_model.specs.Tags.{owns}
use Rattle.entity_store.specs.Store.{StoreView, IsHosted}
use Rattle.entity_store.specs.declared.modeller.Need.{Need}
use Rattle.solid_model.specs.Items.{Item, Shape, item_at, ◌with◌, class_of_item}
use Rattle.solid_model.specs.Items.Item.{Face, Loop}
use Rattle.solid_model.specs.Deaths.{◌without◌}
use Rattle.solid_model.specs.Rows.{cost_of, Row, changes, refuse_where, ◌>>◌}
use Rattle.solid_model.specs.Euler.{list_of}
use Rattle.solid_model.specs.Kef.{kef}
use Rattle.solid_model.specs.Owners.{has_rings}
use Rattle.solid_model.specs.Places.{PlacedFin, fin_at}
use Rattle.solid_model.specs.Room.{if_found, puts_of, changed_by_kef, dying, tags_changed, tags_put}
use Rattle.solid_model.specs.Shapes.{shape_of}
use Rattle.solid_model.specs.Sound.{IsSound, class_at}
use Rattle.halfedge.specs.LinkedRings.{IsInRing, ring_at}
use Rattle.solid_calls.specs.Pairs.{IsNeedOf, MayDo}
use Rattle.entity_store.specs.Room.{HasRoomForThese}
use Rattle.solid_sound.proofs.edges.Ends.{FinIn, fin-well}
use Rattle.solid_sound.proofs.rows.KeptRings.{face_of_class}
use Rattle.pk_base.proofs.Same.{differs_means}
use Rattle.solid_sound.proofs.edges.EdgeDeaths.{edge_of_class}
use Rattle.solid_sound.proofs.rows.RowKeeps.{IsWell, well-shape}
use Rattle.solid_calls.proofs.Represented.{Represents, represents-sound}
use Rattle.entity_store.proofs.Room.{room-part}
use Rattle.solid_edits.specs.Deaths.{with_attributes}
use Rattle.solid_edits.proofs.EditedMaps.{shown-live}
use Rattle.solid_edits.proofs.Going.{not_refused_twice}
use Rattle.std.proofs.lemmas.List.Elements.{Contains-append_cases, Contains-append_left, Contains-append_right}
use Rattle.pk_base.specs.declared.entity.Class.{Class}
use Rattle.pk_base.specs.declared.entity.Class.TheVariants as class
use Rattle.pk_model.specs.Apart.{NoRepeats}
use Rattle.pk_model.proofs.TagLists.{NoneOf}
use Rattle.solid_model.specs.Rings.{ring_of, ends_of, last_of, next_in, previous_in}
use Rattle.solid_sound.proofs.shapes.Edits.{class_apart}
use Rattle.solid_sound.proofs.shapes.Lookups.{Items}
use Rattle.solid_edits.proofs.PlacedFins.{placed-class}
use Rattle.solid_edits.proofs.RemovedEdge.{PutLoop}
use Rattle.list_facts.proofs.Elements.{Contains-later, not_in_nil, Contains-cases, Contains-first}
use Rattle.solid_model.proofs.lists.Cycles.{written-itself}
use Rattle.solid_model.proofs.lists.Neighbours.{head_or}
use Rattle.solid_model.proofs.Reading.{next_in-parts}
use Rattle.solid_calls.proofs.RowKinds.{kef-changes}
use Rattle.solid_edits.proofs.Dying.{dying-has}
use Rattle.solid_edits.proofs.Stages.{Within}
use Rattle.solid_edits.proofs.TagsPut.{ends-beside, length-with_attributes, puts-changed, within-changed}

-- ---- the tags of its operands

-- the fins of the loop that is left, from the one after x on
abbrev pub kef_fins : PlacedFin → PlacedFin → List Tag
kef_fins u v = drop 1 u.fins ++ drop 1 v.fins

-- what dies, but for attributes
abbrev pub kef_killed : Tag → PlacedFin → List Tag
kef_killed x u = u.loop_ ∷ u.face ∷ x ∷ u.mate ∷ u.edge ∷ []

-- what is written
abbrev pub kef_items : PlacedFin → PlacedFin → Items
kef_items u v = (v.loop_, ring_of v.face (kef_fins u v)) ∷ []

-- the loop that is put
abbrev pub kef_loops : PlacedFin → PlacedFin → List PutLoop
kef_loops u v = record { loop_ = v.loop_; face = v.face; fins = kef_fins u v; vertex = v.vertex } ∷ []

module _ (S : Shape) (well : IsWell S) (x : Tag) (u v : PlacedFin) (U : FinIn S x u) (V : FinIn S u.mate v) (two : u.loop_ ≢ v.loop_) where
  abbrev killed : List Tag
  killed = kef_killed x u

  -- ---- what the tags are

  u_loop_class : class_at S u.loop_ ≡ Some class.Loop
  u_loop_class = ap (option_map class_of_item) U.end.loop_is

  v_loop_class : class_at S v.loop_ ≡ Some class.Loop
  v_loop_class = ap (option_map class_of_item) V.end.loop_is

  face_class : class_at S u.face ≡ Some class.Face
  face_class = (well.sound.names.kinds u.loop_ _ U.end.loop_is).0.0

  x_class : class_at S x ≡ Some class.Fin
  x_class = ap (option_map class_of_item) U.fin_is

  mate_class : class_at S u.mate ≡ Some class.Fin
  mate_class = ap (option_map class_of_item) V.fin_is

  edge_class : class_at S u.edge ≡ Some class.Edge
  edge_class = (well.sound.names.kinds x _ U.fin_is).1.0

  pub loop-lives : NoneOf v.loop_ killed
  loop-lives = (
    (λ e. two (sym e)),
    (
      class_apart S v.loop_ u.face _ _ v_loop_class face_class (λ k. cc),
      (
        class_apart S v.loop_ x _ _ v_loop_class x_class (λ k. cc),
        (class_apart S v.loop_ u.mate _ _ v_loop_class mate_class (λ k. cc), (class_apart S v.loop_ u.edge _ _ v_loop_class edge_class (λ k. cc), tt)),
      ),
    ),
  )

  pub fin-other : (t : Tag) → class_at S t ≡ Some class.Fin → t ≢ v.loop_
  fin-other t c = class_apart S t v.loop_ _ _ c v_loop_class (λ k. cc)

  pub fin-lives : (t : Tag) → class_at S t ≡ Some class.Fin → t ≢ x → t ≢ u.mate → NoneOf t killed
  fin-lives t c tx tm = (class_apart S t u.loop_ _ _ c u_loop_class (λ k. cc), (class_apart S t u.face _ _ c face_class (λ k. cc), (tx, (tm, (class_apart S t u.edge _ _ c edge_class (λ k. cc), tt)))))

  -- each that dies is live, and is no attribute, and they are different
  pub killed-live : AllByRecursion (λ t. (c : Class) × (class_at S t ≡ Some c) × (c ≢ class.Attr)) killed
  killed-live = (
    (class.Loop, u_loop_class, (λ k. cc)),
    ((class.Face, face_class, (λ k. cc)), ((class.Fin, x_class, (λ k. cc)), ((class.Fin, mate_class, (λ k. cc)), ((class.Edge, edge_class, (λ k. cc)), tt)))),
  )

  pub killed-once : NoRepeats killed
  killed-once = (
    (
      class_apart S u.loop_ u.face _ _ u_loop_class face_class (λ k. cc),
      (
        class_apart S u.loop_ x _ _ u_loop_class x_class (λ k. cc),
        (class_apart S u.loop_ u.mate _ _ u_loop_class mate_class (λ k. cc), (class_apart S u.loop_ u.edge _ _ u_loop_class edge_class (λ k. cc), tt)),
      ),
    ),
    (
      (
        class_apart S u.face x _ _ face_class x_class (λ k. cc),
        (class_apart S u.face u.mate _ _ face_class mate_class (λ k. cc), (class_apart S u.face u.edge _ _ face_class edge_class (λ k. cc), tt)),
      ),
      (
        ((λ e. (well.sound.mates.fins x u.mate u.edge u.vertex U.fin_is).other (sym e)), (class_apart S x u.edge _ _ x_class edge_class (λ k. cc), tt)),
        ((class_apart S u.mate u.edge _ _ mate_class edge_class (λ k. cc), tt), (tt, tt)),
      ),
    ),
  )

  -- ---- the fins

  pub first-among : (t : Tag) → Contains (drop 1 u.fins) t → Contains u.fins t
  first-among t k = subst (λ ts. Contains ts t) (sym U.fins_are) (Contains-later x U.rest t (subst (λ ts. Contains (drop 1 ts) t) U.fins_are k))

  pub second-among : (t : Tag) → Contains (drop 1 v.fins) t → Contains v.fins t
  second-among t k = subst (λ ts. Contains ts t) (sym V.fins_are) (Contains-later u.mate V.rest t (subst (λ ts. Contains (drop 1 ts) t) V.fins_are k))

  -- each that is left is a fin of one loop or the other
  pub left-fin : (t : Tag) → Contains (kef_fins u v) t → class_at S t ≡ Some class.Fin
  left-fin t k = ⊎_elim
      (λ (l : Contains (drop 1 u.fins) t). placed-class well U.end t (first-among t l))
      (λ (r : Contains (drop 1 v.fins) t). placed-class well V.end t (second-among t r))
      (Contains-append_cases (drop 1 u.fins) (drop 1 v.fins) t k)

-- ---- the row

abbrev pub kef_reaches : Shape → Tag → PlacedFin → PlacedFin → Shape
kef_reaches S x u v = S with kef_items u v without kef_killed x u

abbrev pub kef_after : Shape → Tag → PlacedFin → PlacedFin → Row
kef_after S x u v =
    refuse_where (same_tag u.loop_ v.loop_) (OneLoop u.loop_) >> (refuse_where (has_rings S u.face) (HasRings u.face) >> changes (kef_reaches S x u v))

-- the row, once both fins are found
pub kef-asked : (S : Shape) (x : Tag) (u v : PlacedFin) → fin_at S x ≡ Ok u → fin_at S u.mate ≡ Ok v → kef S x ≡ kef_after S x u v
kef-asked S x u v h k = ap (λ r. r >>= (λ a. fin_at S a.mate >>= (λ b. kef_after S x a b))) h ∙ ap (λ r. r >>= (λ b. kef_after S x u b)) k

passes : (a b : Bool) (d e : Refusal) (r : Row) → a ≡ false → b ≡ false → refuse_where a d >> (refuse_where b e >> r) ≡ r
passes true b d e r h k = absurd (cc)
passes false true d e r h k = absurd (cc)
passes false false d e r h k = refl

-- where neither test holds, the row goes on
pub kef-passes : (S : Shape) (x : Tag) (u v : PlacedFin) → fin_at S x ≡ Ok u → fin_at S u.mate ≡ Ok v → same_tag u.loop_ v.loop_ ≡ false → has_rings S u.face ≡ false → kef S x ≡ changes (kef_reaches S x u v)
kef-passes S x u v h k apart few = kef-asked S x u v h k ∙ passes (same_tag u.loop_ v.loop_) (has_rings S u.face) (OneLoop u.loop_) (HasRings u.face) (changes (kef_reaches S x u v)) apart few

-- where it is not refused, neither test holds
pub kef-not_refused : (S : Shape) (x : Tag) (u v : PlacedFin) → fin_at S x ≡ Ok u → fin_at S u.mate ≡ Ok v → IsOk (kef S x) → (same_tag u.loop_ v.loop_ ≡ false) × (has_rings S u.face ≡ false)
kef-not_refused S x u v h k goes =
    let twice = not_refused_twice (same_tag u.loop_ v.loop_) (has_rings S u.face) (OneLoop u.loop_) (HasRings u.face) (changes (kef_reaches S x u v)) (subst (λ (r : Row). IsOk r) (kef-asked S x u v h k) goes) in
    (twice.0, twice.1)

-- ---- what is put

abbrev pub kef_dead : EntityMap → Tag → PlacedFin → List Tag
kef_dead m x u = with_attributes m (kef_killed x u)

-- what dies, the loop that stays, its fins beside the edge, and the fins of the other loop
abbrev pub kef_puts : EntityMap → Tag → PlacedFin → PlacedFin → List Tag
kef_puts m x u v = kef_dead m x u ++ ((v.loop_ ∷ ends_of (drop 1 v.fins)) ++ u.fins)

module _ (m : EntityMap) (sound : IsSound m) (x : Tag) (u v : PlacedFin) (found : fin_at (shape_of m) x ≡ Ok u) (also : fin_at (shape_of m) u.mate ≡ Ok v) (two : u.loop_ ≢ v.loop_) where
  abbrev S : Shape
  S = shape_of m

  well : IsWell S
  well = well-shape m sound

  U : FinIn S x u
  U = fin-well S well x (item_at S x) refl u found

  V : FinIn S u.mate v
  V = fin-well S well u.mate (item_at S u.mate) refl v also

  changed : tags_changed S (Kef x) ≡ changed_by_kef S x u v
  changed = ap (if_found (λ a. if_found (changed_by_kef S x a) (fin_at S a.mate))) found ∙ ap (if_found (changed_by_kef S x u)) also

  -- how many they are
  pub kef-count : puts_of S (Kef x) ≡ length (kef_dead m x u) + 3 + length u.fins
  kef-count =
      let all = puts-changed S (Kef x) (changed_by_kef S x u v) (kef-changes S x) changed in
      let dead = length-with_attributes m (kef_killed x u) sound (killed-once S well x u v U V two) (killed-live S well x u v U V two) in
      omega (arith, all, dead, length-append (dying S (kef_killed x u)) (v.loop_ ∷ next_in v.fins u.mate ∷ previous_in v.fins u.mate ∷ u.fins))

  -- they are among what the row names
  pub kef-within : Within (kef_puts m x u v) (tags_put S (Kef x) [])
  kef-within t k =
      let died : List Tag = dying S (kef_killed x u) in
      let beside : List Tag = next_in v.fins u.mate ∷ previous_in v.fins u.mate ∷ [] in
      let others : List Tag = v.loop_ ∷ beside ++ u.fins in
      let here = within-changed S (Kef x) [] (changed_by_kef S x u v) changed t in
      let next : next_in v.fins u.mate ≡ head_or u.mate (drop 1 v.fins ++ []) =
      ap (λ ts. next_in ts u.mate) V.fins_are ∙ next_in-parts u.mate [] V.rest (λ j. not_in_nil u.mate j) ∙ ap (λ ts. head_or u.mate (drop 1 ts ++ [])) (sym V.fins_are) in
      let prev : previous_in v.fins u.mate ≡ last_of u.mate (drop 1 v.fins) =
      ap (λ ts. previous_in ts u.mate) V.fins_are ∙ ap (last_of u.mate) (written-itself u.mate V.rest) ∙ ap (λ ts. last_of u.mate (drop 1 ts)) (sym V.fins_are) in
      here (⊎_elim {C = Contains (died ++ others) t}
      (λ (d : Contains (kef_dead m x u) t). Contains-append_left died others t (dying-has m (kef_killed x u) (killed-live S well x u v U V two) t d))
      (λ (r : Contains ((v.loop_ ∷ ends_of (drop 1 v.fins)) ++ u.fins) t). Contains-append_right died others t (⊎_elim {C = Contains others t}
      (λ (l : Contains (v.loop_ ∷ ends_of (drop 1 v.fins)) t). Contains-append_left (v.loop_ ∷ beside) u.fins t (⊎_elim {C = Contains (v.loop_ ∷ beside) t}
      (λ (e : v.loop_ ≡ t). subst (Contains (v.loop_ ∷ beside)) e (Contains-first v.loop_ beside))
      (λ (q : Contains (ends_of (drop 1 v.fins)) t). Contains-later v.loop_ beside t (ends-beside u.mate (drop 1 v.fins) [] (next_in v.fins u.mate) (previous_in v.fins u.mate) next prev t q))
      (Contains-cases v.loop_ (ends_of (drop 1 v.fins)) t l)))
      (λ (c : Contains u.fins t). Contains-append_right (v.loop_ ∷ beside) u.fins t c)
      (Contains-append_cases (v.loop_ ∷ ends_of (drop 1 v.fins)) u.fins t r)))
      (Contains-append_cases (kef_dead m x u) ((v.loop_ ∷ ends_of (drop 1 v.fins)) ++ u.fins) t k))

  -- what is needed
  pub kef-need : (n : Need) → same_tag u.loop_ v.loop_ ≡ false → has_rings S u.face ≡ false → n.tags ≡ 0 → n.changes ≡ length (kef_dead m x u) + 3 + length u.fins → n.list ≡ 0 → IsNeedOf m (Kef x) n
  kef-need n apart few none count unlisted =
      let row = kef-passes S x u v found also apart few in
      record {
        goes = subst (λ (r : Row). IsOk r) (sym row) refl;
        tags = none ∙ sym (ap cost_of row);
        changes = count ∙ sym kef-count;
        list = unlisted ∙ sym (ap list_of row);
      }

-- ---- all that is known when it goes on

pub record KefGoes (s : StoreView) (x : Tag) (u v : PlacedFin) : Type 0 where
  pub well : IsWell (shape_of s.state.map)
  pub rep : Represents (shape_of s.state.map) s.state.map
  pub fin : FinIn (shape_of s.state.map) x u
  pub mate : FinIn (shape_of s.state.map) u.mate v
  pub two : u.loop_ ≢ v.loop_
  pub fin_ring : IsInRing s.state.map x
  pub fin_fins : u.fins ≡ ring_at s.state.map x
  pub mate_ring : IsInRing s.state.map u.mate
  pub mate_fins : v.fins ≡ ring_at s.state.map u.mate
  pub sound : IsSound s.state.map
  pub row : kef (shape_of s.state.map) x ≡ changes (kef_reaches (shape_of s.state.map) x u v)
  pub room : HasRoomForThese s.recording (kef_puts s.state.map x u v)
  pub among : Within (kef_puts s.state.map x u v) (tags_put (shape_of s.state.map) (Kef x) [])
  pub owned : AllByRecursion (λ t. IsTrue (owns s.state.blocks t)) (kef_killed x u)
  pub loop_owned : IsTrue (owns s.state.blocks v.loop_)
  pub face_owned : IsTrue (owns s.state.blocks v.face)
  pub face_apart : v.face ≢ v.loop_

pub kef-goes : (s a : StoreView) → a ≡ s → (x : Tag) (u v : PlacedFin) → ((t : Tag) (e : Entity) → get a.state.map t ≡ Some e → IsHosted a.state.blocks t e) → MayDo s (Kef x) []
    → fin_at (shape_of a.state.map) x ≡ Ok u → fin_at (shape_of a.state.map) u.mate ≡ Ok v → u.fins ≡ ring_at a.state.map x → IsInRing a.state.map x
    → v.fins ≡ ring_at a.state.map u.mate → IsInRing a.state.map u.mate → KefGoes s x u v
kef-goes s a viewed x u v hosted_then may found found_too fins_then in_ring_then more_then in_more_then =
    let m = s.state.map in
    let S = shape_of m in
    let hosted = subst (λ (z : StoreView). (t : Tag) (e : Entity) → get z.state.map t ≡ Some e → IsHosted z.state.blocks t e) viewed hosted_then in
    let h = subst (λ (z : StoreView). fin_at (shape_of z.state.map) x ≡ Ok u) viewed found in
    let k = subst (λ (z : StoreView). fin_at (shape_of z.state.map) u.mate ≡ Ok v) viewed found_too in
    let well = well-shape m may.sound in
    let rep = represents-sound m may.sound in
    let U = fin-well S well x (item_at S x) refl u h in
    let V = fin-well S well u.mate (item_at S u.mate) refl v k in
    let tests = kef-not_refused S x u v h k may.goes in
    let row = kef-passes S x u v h k tests.0 tests.1 in
    let two = differs_means u.loop_ v.loop_ tests.0 in
    let live_owned = λ (t : Tag) (i : Item) (e : item_at S t ≡ Some i). let shown = shown-live S m t i (rep.items t i e) in (hosted t shown.0 shown.1).owned in
    let u_face = face_of_class (item_at S u.face) (well.sound.names.kinds u.loop_ _ U.end.loop_is).0.0 in
    let v_face = face_of_class (item_at S v.face) (well.sound.names.kinds v.loop_ _ V.end.loop_is).0.0 in
    let edge = edge_of_class (item_at S u.edge) (well.sound.names.kinds x _ U.fin_is).1.0 in
    let among = kef-within m may.sound x u v h k two in
    record {
      well = well;
      rep = rep;
      fin = U;
      mate = V;
      two = two;
      fin_ring = subst (λ (z : StoreView). IsInRing z.state.map x) viewed in_ring_then;
      fin_fins = subst (λ (z : StoreView). u.fins ≡ ring_at z.state.map x) viewed fins_then;
      mate_ring = subst (λ (z : StoreView). IsInRing z.state.map u.mate) viewed in_more_then;
      mate_fins = subst (λ (z : StoreView). v.fins ≡ ring_at z.state.map u.mate) viewed more_then;
      sound = may.sound;
      row = row;
      room = room-part s.recording _ (kef_puts m x u v) may.room among;
      among = among;
      owned = (
        live_owned u.loop_ _ U.end.loop_is,
        (live_owned u.face _ u_face.2, (live_owned x _ U.fin_is, (live_owned u.mate _ V.fin_is, (live_owned u.edge _ edge.1, tt)))),
      );
      loop_owned = live_owned v.loop_ _ V.end.loop_is;
      face_owned = live_owned v.face _ v_face.2;
      face_apart = λ e. let both : Some (Face v_face.0 v_face.1) ≡ Some (Loop v.face V.end.list V.end.lone) = sym v_face.2 ∙ ap (item_at S) e ∙ V.end.loop_is in absurd (cc);
    }
