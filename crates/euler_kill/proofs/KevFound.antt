-- kev: what it finds before it changes anything, its row, its room, and why it is refused.
use Rattle.std.proofs.Common.{◌≡◌, ◌≢◌, ⊎_elim, Bool, true, false, not, List, [], ◌∷◌, ◌++◌, drop, Option, Some, None, Ok, Err, refl, sym, ap, subst, ◌∙◌, append-nil, ◌+◌, length, length-append, arith, ℕ, true≢false}
use Rattle.std.specs.Prelude.{Contains, IsOk, IsSome, option_map}
use Rattle.std.specs.Option.{option_and_then, option_map_or}
use Rattle.std.proofs.lemmas.Option.{same_Some}
use Rattle.pk_base.specs.Entity.{same_tag}
use Rattle.pk_base.specs.declared.refusal.Refusal.TheVariants.{NotStrut}
use Rattle.pk_base.specs.declared.tag.Tag.{Tag}
use Rattle.pk_model.specs.Maps.{EntityMap}
use Rattle.pk_model.specs.Step.{◌>>=◌}
use Rattle.solid_model.specs.Items.{Shape, item_at, ◌with◌, Item, class_of_item}
use Rattle.solid_model.specs.Items.Item.{Fin}
use Rattle.solid_model.specs.Rings.{before, ends_of, from, last_of, next_in, previous_in, ring_or_lone}
use Rattle.solid_model.specs.Deaths.{◌without◌}
use Rattle.solid_model.specs.Rows.{Row, changes, refuse_where, ◌>>◌, cost_of}
use Rattle.solid_model.specs.Places.{PlacedFin, fin_at, start_at, vertex_of}
use Rattle.solid_model.specs.Shapes.{shape_of}
use Rattle.solid_model.specs.Kev.{kev}
use Rattle.solid_model.specs.Sound.{IsSound, class_at}
use Rattle.solid_model.proofs.lists.Neighbours.{head_or, parts_at}
use Rattle.pk_base.proofs.Same.{not_same, same_itself, same_means}
use Rattle.solid_model.proofs.Reading.{next_in-parts}
use Rattle.solid_sound.proofs.shapes.FinRings.{asked_fin}
use Rattle.solid_sound.proofs.rows.RowKeeps.{IsWell, well-shape}
use Rattle.halfedge.specs.LinkedRings.{IsInRing, IsRing, as_fin, mate_in, next_at, ring_at}
use Rattle.solid_places.specs.declared.fins.PlacedFin.{PlacedFin as FoundFin}
use Rattle.halfedge.proofs.LinkedRings.{in-ring_starts, ring-links}
use Rattle.solid_calls.proofs.Represented.{represents-sound}
use Rattle.list_facts.proofs.Elements.{not_in_nil, Contains-cases, Contains-first, Contains-later, Contains-only}
use Rattle.std.proofs.lemmas.List.Elements.{Contains-append_cases, Contains-append_left, Contains-append_right}
use Rattle.solid_model.proofs.lists.Cycles.{written-itself}
use Rattle.solid_sound.proofs.rows.KeptKev.{strut-rest}
use Rattle.std.specs.FinMap.{get}
use Rattle.pk_base.specs.declared.entity.Class.{Class}
use Rattle.pk_base.specs.declared.entity.Class.TheVariants as class
use Rattle.pk_base.specs.declared.entity.Entity.{Entity}
use Rattle.pk_model.specs.Apart.{NoRepeats}
use Rattle.solid_sound.proofs.shapes.Edits.{class_apart}
use Rattle.solid_sound.proofs.edges.EdgeDeaths.{mates-apart}
use Rattle.pk_base.specs.Blocks.{tag}
use Rattle.std.specs.List.{AllByRecursion}
use Rattle.pk_base.specs.declared.call.Call.TheVariants as call
use Rattle.entity_store.specs.Store.{IsHosted, StoreView}
use Rattle.solid_model.specs.Room.{changed_by_kev, dying, if_found, puts_of, tags_changed, tags_put}
use Rattle.solid_model.specs.Euler.{list_of}
use Rattle.solid_calls.specs.Pairs.{MayDo, IsNeedOf}
use Rattle.solid_calls.proofs.RowKinds.{kev-changes}
use Rattle.solid_edits.proofs.Dying.{dying-has}
use Rattle.solid_edits.proofs.Stages.{Within}
use Rattle.solid_edits.proofs.TagsPut.{ends-beside, length-with_attributes, puts-changed, within-changed}
use Rattle.solid_edits.specs.Deaths.{with_attributes}
use Rattle.solid_edits.specs.EditedLoops.{fins_behind, fins_between}
use Rattle.std.proofs.lemmas.Bool.{not-false}

-- the fin as the row reads it
abbrev pub read_fin : EntityMap → Tag → FoundFin → PlacedFin
read_fin m f p = record {
  mate = p.mate;
  edge = p.edge;
  vertex = p.vertex;
  loop_ = p.loop_;
  face = p.face;
  shell = p.shell;
  body = p.body;
  fins = ring_at m f;
}

-- the fin f was found there
abbrev pub IsFound : EntityMap → Tag → FoundFin → Type 0
IsFound m f p = fin_at (shape_of m) f ≡ Ok (read_fin m f p)

pub found-item : (m : EntityMap) (f : Tag) (p : FoundFin) → IsFound m f p → item_at (shape_of m) f ≡ Some (Fin p.mate p.edge p.vertex)
found-item m f p found =
    let S = shape_of m in
    let x = asked_fin S f (item_at S f) (read_fin m f p) found in
    x.3 ∙ (λ i. Some (Fin (x.4 i).mate (x.4 i).edge (x.4 i).vertex))

-- a fin of a ring has a next one, which its ring tells
pub next-is : (m : EntityMap) (ring : List Tag) (f next : Tag) → IsRing m ring → Contains ring f → next_at m f ≡ Some next → next ≡ next_in ring f
next-is m ring f next h k is = same_Some next (next_in ring f) (sym is ∙ (ring-links m ring f h k).0)

some-next : (o : Option Tag) (t : Tag) → o ≡ Some t → IsSome o
some-next None t h = absurd (cc)
some-next (Some u) t h = refl

pub has-next : (m : EntityMap) (ring : List Tag) (f : Tag) → IsRing m ring → Contains ring f → IsSome (next_at m f)
has-next m ring f h k = some-next (next_at m f) (next_in ring f) (ring-links m ring f h k).0

-- ---- the row

abbrev pub kev_changes : Shape → Tag → PlacedFin → PlacedFin → Shape
kev_changes S f u w = S with (u.loop_, ring_or_lone u.face (drop 2 u.fins) u.vertex) ∷ [] without f ∷ u.mate ∷ u.edge ∷ w.vertex ∷ []

abbrev kev_with : Shape → Tag → PlacedFin → PlacedFin → Row
kev_with S f u w = refuse_where (not (same_tag (next_in u.fins f) u.mate)) (NotStrut f) >> changes (kev_changes S f u w)

abbrev kev_from : Shape → Tag → PlacedFin → Row
kev_from S f u = fin_at S u.mate >>= kev_with S f u

kev-found : (S : Shape) (f : Tag) (u w : PlacedFin) → fin_at S f ≡ Ok u → fin_at S u.mate ≡ Ok w → kev S f ≡ kev_with S f u w
kev-found S f u w found also =
    let here : kev S f ≡ kev_from S f u = ap (λ r. r >>= kev_from S f) found in
    here ∙ ap (λ r. r >>= kev_with S f u) also

pub kev-refused : (S : Shape) (f : Tag) (u w : PlacedFin) → fin_at S f ≡ Ok u → fin_at S u.mate ≡ Ok w → next_in u.fins f ≢ u.mate → kev S f ≡ Err (NotStrut f)
kev-refused S f u w found also other =
    kev-found S f u w found also ∙ ap (λ b. refuse_where (not b) (NotStrut f) >> changes (kev_changes S f u w)) (not_same (next_in u.fins f) u.mate other)

strut-next : (S : Shape) (f : Tag) (u w : PlacedFin) (b : Bool) → same_tag (next_in u.fins f) u.mate ≡ b → IsOk (refuse_where (not b) (NotStrut f) >> changes (kev_changes S f u w)) → next_in u.fins f ≡ u.mate
strut-next S f u w true h goes = same_means (next_in u.fins f) u.mate h
strut-next S f u w false h goes = absurd (cc)

pub goes-strut : (S : Shape) (f : Tag) (u w : PlacedFin) → fin_at S f ≡ Ok u → fin_at S u.mate ≡ Ok w → IsOk (kev S f) → next_in u.fins f ≡ u.mate
goes-strut S f u w found also goes = strut-next S f u w (same_tag (next_in u.fins f) u.mate) refl (subst IsOk (kev-found S f u w found also) goes)

pub kev-row : (S : Shape) (f : Tag) (u w : PlacedFin) → fin_at S f ≡ Ok u → fin_at S u.mate ≡ Ok w → next_in u.fins f ≡ u.mate → kev S f ≡ changes (kev_changes S f u w)
kev-row S f u w found also same =
    kev-found S f u w found also
    ∙ ap (λ b. refuse_where (not b) (NotStrut f) >> changes (kev_changes S f u w)) (ap (λ t. same_tag t u.mate) same ∙ same_itself u.mate)

-- ---- what dies

-- the two fins of an edge, the edge, and a vertex, are different
pub dying-once : (S : Shape) → IsWell S → (n m e u v : Tag) → item_at S n ≡ Some (Fin m e u) → item_at S m ≡ Some (Fin n e v) → NoRepeats (n ∷ m ∷ e ∷ v ∷ [])
dying-once S well n m e u v n_is m_is =
    let n_class : class_at S n ≡ Some class.Fin = ap (option_map class_of_item) n_is in
    let m_class : class_at S m ≡ Some class.Fin = ap (option_map class_of_item) m_is in
    let e_class : class_at S e ≡ Some class.Edge = (well.sound.names.kinds n _ n_is).1.0 in
    let v_class : class_at S v ≡ Some class.Vertex = (well.sound.names.kinds m _ m_is).2.0 in (
      ((λ k. mates-apart S well n m e u v n_is m_is (sym k)), (class_apart S n e _ _ n_class e_class (λ k. cc), (class_apart S n v _ _ n_class v_class (λ k. cc), tt))),
      ((class_apart S m e _ _ m_class e_class (λ k. cc), (class_apart S m v _ _ m_class v_class (λ k. cc), tt)), ((class_apart S e v _ _ e_class v_class (λ k. cc), tt), (tt, tt))),
    )

-- an entity that may have attributes
abbrev pub IsOwner : Shape → Tag → Type 0
IsOwner S t = (c : Class) × (class_at S t ≡ Some c) × (c ≢ class.Attr)

-- what dies: the fin, its mate, their edge and the vertex where the mate starts
abbrev pub kev_killed : Tag → FoundFin → FoundFin → List Tag
kev_killed f p w = f ∷ p.mate ∷ p.edge ∷ w.vertex ∷ []

abbrev class_in : Option Item → Option Class
class_in o = option_map class_of_item o

-- where the fin starts
start-found : (S : Shape) (t mate edge vertex : Tag) → item_at S t ≡ Some (Fin mate edge vertex) → start_at S t ≡ vertex
start-found S t mate edge vertex h = ap (λ (o : Option Item). option_map_or vertex_of o (tag 0)) h

-- ---- the ring

-- the fin f and its mate were found, and the mate comes next
module _ (m0 : EntityMap) (sound : IsSound m0) (f : Tag) (p w : FoundFin) (found : IsFound m0 f p) (also : IsFound m0 p.mate w) where
  abbrev S : Shape
  S = shape_of m0

  well : IsWell S
  well = well-shape m0 sound

  pub f_is : item_at S f ≡ Some (Fin p.mate p.edge p.vertex)
  f_is = found-item m0 f p found

  pub mate_other : p.mate ≢ f
  mate_other = (well.sound.mates.fins f p.mate p.edge p.vertex f_is).other

  pub mate_is : item_at S p.mate ≡ Some (Fin f p.edge w.vertex)
  mate_is =
      let mated = well.sound.mates.fins f p.mate p.edge p.vertex f_is in
      let both : Some (Fin f p.edge mated.end) ≡ Some (Fin w.mate w.edge w.vertex) = sym mated.mate_is ∙ found-item m0 p.mate w also in
      let ends : mated.end ≡ w.vertex = cc in
      mated.mate_is ∙ ap (λ t. Some (Fin f p.edge t)) ends

  pub mate_found : mate_in m0 f ≡ p.mate
  mate_found = ap (λ o. option_map_or (λ x. x.mate) (option_and_then as_fin o) f) ((represents-sound m0 sound).items f (Fin p.mate p.edge p.vertex) f_is).3

  module _ (ring : IsInRing m0 f) (strut : next_in (ring_at m0 f) f ≡ p.mate) where
    abbrev pub left : List Tag
    left = drop 2 (ring_at m0 f)

    pub ring_is : ring_at m0 f ≡ f ∷ p.mate ∷ left
    ring_is =
        let starts = in-ring_starts m0 f ring in
        let rest = drop 1 (ring_at m0 f) in
        let next : head_or f rest ≡ p.mate = ap (head_or f) (sym (append-nil rest)) ∙ sym (next_in-parts f [] rest (λ j. not_in_nil f j)) ∙ ap (λ ts. next_in ts f) (sym starts) ∙ strut in
        let cut = strut-rest f p.mate rest next mate_other in
        starts ∙ ap (λ ts. f ∷ ts) cut ∙ ap (λ ts. f ∷ p.mate ∷ ts) (drop_twice (ring_at m0 f))
      where
        drop_twice : (ts : List Tag) → drop 1 (drop 1 ts) ≡ drop 2 ts
        drop_twice [] = refl
        drop_twice (t ∷ []) = refl
        drop_twice (t ∷ u ∷ ts) = refl

    pub ring_linked : IsRing m0 (f ∷ p.mate ∷ left)
    ring_linked = subst (IsRing m0) ring_is ring.ring

    pub mate_among : Contains (ring_at m0 f) p.mate
    mate_among = subst (λ ts. Contains ts p.mate) (sym ring_is) (Contains-later f (p.mate ∷ left) p.mate (Contains-first p.mate left))

    cut : (before p.mate (f ∷ p.mate ∷ left) ≡ f ∷ []) × (from p.mate (f ∷ p.mate ∷ left) ≡ p.mate ∷ left)
    cut = parts_at p.mate (f ∷ []) left (λ k. mate_other (sym (Contains-only f p.mate k)))

    -- nothing stands between the two, and the rest behind them
    pub between_is : fins_between m0 f p.mate ≡ []
    between_is = ap (λ ts. drop 1 (before p.mate ts)) ring_is ∙ ap (drop 1) cut.0

    pub behind_is : fins_behind m0 f p.mate ≡ left
    behind_is = ap (λ ts. drop 1 (from p.mate ts)) ring_is ∙ ap (drop 1) cut.1

  -- ---- what it needs, or that it is refused

  pub dying-are_once : NoRepeats (kev_killed f p w)
  dying-are_once = dying-once S well f p.mate p.edge p.vertex w.vertex f_is mate_is

  pub dying-are_owners : AllByRecursion (IsOwner S) (kev_killed f p w)
  dying-are_owners =
      let names = well.sound.names in (
        (class.Fin, ap class_in f_is, (λ k. cc)),
        (
          (class.Fin, ap class_in mate_is, (λ k. cc)),
          ((class.Edge, (names.kinds f _ f_is).1.0, (λ k. cc)), ((class.Vertex, (names.kinds p.mate _ mate_is).2.0, (λ k. cc)), tt)),
        ),
      )

  -- the tags that are put
  abbrev changed : List Tag
  changed = dying S (kev_killed f p w) ++ p.loop_ ∷ next_in (ring_at m0 f) p.mate ∷ previous_in (ring_at m0 f) f ∷ []

  changed_is : tags_changed S (call.Kev f) ≡ changed
  changed_is =
      ap (if_found (changed_by_kev S f)) found
      ∙ ap (λ v. dying S (f ∷ p.mate ∷ p.edge ∷ v ∷ []) ++ p.loop_ ∷ next_in (ring_at m0 f) p.mate ∷ previous_in (ring_at m0 f) f ∷ []) (start-found S p.mate f p.edge w.vertex mate_is)

  -- what dies, and three more
  kev-counts : puts_of S (call.Kev f) ≡ 3 + length (with_attributes m0 (kev_killed f p w))
  kev-counts =
      let all = puts-changed S (call.Kev f) changed (kev-changes S f) changed_is in
      let dead = length-with_attributes m0 (kev_killed f p w) sound dying-are_once dying-are_owners in
      omega (arith, all, dead, length-append (dying S (kev_killed f p w)) (p.loop_ ∷ next_in (ring_at m0 f) p.mate ∷ previous_in (ring_at m0 f) f ∷ []))

  -- the loop, the fins that were beside the edge, and what dies
  pub kev-within : (ring : IsInRing m0 f) → next_in (ring_at m0 f) f ≡ p.mate
      → Within (p.loop_ ∷ ends_of (drop 2 (ring_at m0 f)) ++ with_attributes m0 (kev_killed f p w)) (tags_put S (call.Kev f) [])
  kev-within ring strut t k =
      let A : List Tag = drop 2 (ring_at m0 f) in
      let killed = kev_killed f p w in
      let here = within-changed S (call.Kev f) [] changed changed_is t in
      let beside : List Tag = next_in (ring_at m0 f) p.mate ∷ previous_in (ring_at m0 f) f ∷ [] in
      let others : List Tag = p.loop_ ∷ beside in
      let is = ring_is ring strut in
      let next = ap (λ ts. next_in ts p.mate) is ∙ next_in-parts p.mate (f ∷ []) A (λ j. mate_other (sym (Contains-only f p.mate j))) in
      let prev = ap (λ ts. previous_in ts f) is ∙ ap (last_of f) (written-itself f (p.mate ∷ A)) in
      here (⊎_elim {C = Contains changed t}
      (λ (e : p.loop_ ≡ t). Contains-append_right (dying S killed) others t (subst (Contains others) e (Contains-first p.loop_ beside)))
      (λ (r : Contains (ends_of A ++ with_attributes m0 killed) t). ⊎_elim {C = Contains changed t}
      (λ (a : Contains (ends_of A) t). Contains-append_right (dying S killed) others t (Contains-later p.loop_ beside t (ends-beside p.mate A (f ∷ []) (next_in (ring_at m0 f) p.mate) (previous_in (ring_at m0 f) f) next prev t a)))
      (λ (d : Contains (with_attributes m0 killed) t). Contains-append_left (dying S killed) others t (dying-has m0 killed dying-are_owners t d))
      (Contains-append_cases (ends_of A) (with_attributes m0 killed) t r))
      (Contains-cases p.loop_ (ends_of A ++ with_attributes m0 killed) t k))

  module _ (ring : IsInRing m0 f) (next : Tag) (is : next_at m0 f ≡ Some next) where
    next_same : next ≡ next_in (ring_at m0 f) f
    next_same = next-is m0 (ring_at m0 f) f next ring.ring ring.among is

    -- another fin comes next
    pub kev-not_strut : not (same_tag next p.mate) ≡ true → kev S f ≡ Err (NotStrut f)
    kev-not_strut other = kev-refused S f (read_fin m0 f p) (read_fin m0 p.mate w) found also (λ h.
        let same : same_tag next p.mate ≡ true = ap (λ t. same_tag t p.mate) (next_same ∙ h) ∙ same_itself p.mate in
        true≢false (sym other ∙ ap not same))

    -- the mate comes next
    pub kev-needs : not (same_tag next p.mate) ≡ false → (dead : ℕ) → dead ≡ length (with_attributes m0 (kev_killed f p w)) → IsNeedOf m0 (call.Kev f) (record { tags = 0; changes = 3 + dead; list = 0 })
    kev-needs strut dead dead_is =
        let same = same_means next p.mate (not-false _ strut) in
        let row : kev S f ≡ changes (kev_changes S f (read_fin m0 f p) (read_fin m0 p.mate w)) = kev-row S f (read_fin m0 f p) (read_fin m0 p.mate w) found also (sym next_same ∙ same) in
        record {
          goes = subst IsOk (sym row) refl;
          tags = sym (ap cost_of row);
          changes = omega (arith, dead_is, kev-counts);
          list = sym (ap list_of row);
        }

-- ---- what is found

-- the fin and its mate were found, which is a strut
pub record IsReady (old : StoreView) (f : Tag) (p w : FoundFin) : Type 0 where
  pub may : MayDo old (call.Kev f) []
  pub hosted : (t : Tag) (x : Entity) → get old.state.map t ≡ Some x → IsHosted old.state.blocks t x
  pub found : IsFound old.state.map f p
  pub also : IsFound old.state.map p.mate w
  pub ring : IsInRing old.state.map f

-- what views of the store say is said of the store
pub ready-viewed : {old v1 v2 v3 : StoreView} {f : Tag} (p w : FoundFin) → MayDo old (call.Kev f) [] → v1 ≡ old → v2 ≡ old → v3 ≡ old
    → ((t : Tag) (x : Entity) → get v1.state.map t ≡ Some x → IsHosted v1.state.blocks t x)
    → IsFound v2.state.map f p → IsFound v3.state.map p.mate w → IsInRing v2.state.map f → IsReady old f p w
ready-viewed {f = f} p w may is1 is2 is3 hosted found also ring = record {
  may = may;
  hosted = subst (λ (v : StoreView). (t : Tag) (x : Entity) → get v.state.map t ≡ Some x → IsHosted v.state.blocks t x) is1 hosted;
  found = subst (λ (v : StoreView). IsFound v.state.map f p) is2 found;
  also = subst (λ (v : StoreView). IsFound v.state.map p.mate w) is3 also;
  ring = subst (λ (v : StoreView). IsInRing v.state.map f) is2 ring;
}
