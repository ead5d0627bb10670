-- The stages of a change of rings, from one splice to the next: which rings there are, what has been
-- put, and that there is room for the rest.
use Rattle.std.proofs.Common.{◌≡◌, ◌≢◌, ⊎_elim, List, [], ◌∷◌, ◌++◌, drop, Option, Some, refl, sym, ap, subst, ◌∙◌, arith}
use Rattle.std.specs.Prelude.{Contains, option_map, IfSome, IfNone}
use Rattle.std.specs.List.{AllByRecursion}
use Rattle.std.specs.FinMap.{get}
use Rattle.pk_base.specs.declared.tag.Tag.{Tag}
use Rattle.pk_model.specs.Maps.{EntityMap}
use Rattle.std.proofs.lemmas.List.Elements.{Contains-append_cases}
use Rattle.entity_store.specs.Store.{StoreView}
use Rattle.solid_model.specs.Rings.{before, from, first_tag, last_of, ends_of}
use Rattle.solid_model.proofs.lists.Neighbours.{head_or}
use Rattle.solid_model.proofs.lists.Cycles.{cut-at}
use Rattle.halfedge.specs.LinkedRings.{IsRing, IsInRing, Relinks, next_at, prev_at, ring_at, unlinked}
use Rattle.entity_store.specs.Room.{HasRoomForThese, PutsAmong}
use Rattle.halfedge.proofs.LinkedRings.{in-ring_of, in-ring_starts, first-links}
use Rattle.entity_store.proofs.Room.{room-after, room-part, puts-none, puts-then, puts-wider}
use Rattle.list_facts.proofs.Elements.{not_in_nil, Contains-first}
use Rattle.halfedge.specs.Splices.{Splices, spliced}
use Rattle.halfedge.proofs.Among.{HasAll, has-each, has-spliced, spliced-is}
use Rattle.halfedge.proofs.ManyRings.{all_fins, AreRings, before-first, before-second, spliced-one, spliced-two, unhooked}

-- ---- what has changed

-- Links of these fins have changed, no other field of theirs, and nothing else.
pub record Reaches (ts : List Tag) (old new : StoreView) : Type 0 where
  pub fields : (t : Tag) → option_map unlinked (get new.state.map t) ≡ option_map unlinked (get old.state.map t)
  pub others : (t : Tag) → ¬ (Contains ts t) → get new.state.map t ≡ get old.state.map t
  pub puts : PutsAmong ts old new

reaches-splice : (ts : List Tag) (a b : StoreView) (f g : Tag) → Splices a.state.map f g b.state.map → PutsAmong (spliced a.state.map f g) a b → HasAll ts (spliced a.state.map f g) → Reaches ts a b
reaches-splice ts a b f g s puts has = record {
  fields = λ t. s.other.fields t ∙ s.one.fields t;
  others = λ t out.
      let apart = λ (u : Tag) (k : Contains (f ∷ g ∷ s.before_f ∷ s.before_g ∷ []) u) (e : t ≡ u). out (subst (Contains ts) (sym e) (has u (subst (λ us. Contains us u) (sym is) k))) in
      s.other.others t (apart s.before_g (3, omega arith, refl)) (apart f (0, omega arith, refl))
      ∙ s.one.others t (apart s.before_f (2, omega arith, refl)) (apart g (1, omega arith, refl));
  puts = puts-wider (spliced a.state.map f g) ts a b puts has;
}
  where
    is : spliced a.state.map f g ≡ f ∷ g ∷ s.before_f ∷ s.before_g ∷ []
    is = spliced-is a.state.map f g s.before_f s.before_g s.f_was s.g_was

not_in_all : (rings : List (List Tag)) (t : Tag) → AllByRecursion (λ ring. ¬ (Contains ring t)) rings → ¬ (Contains (all_fins rings) t)
not_in_all [] t out k = not_in_nil t k
not_in_all (ring ∷ rings) t out k = ⊎_elim {C = ⊥} (λ (l : Contains ring t). out.0 l) (λ (r : Contains (all_fins rings) t). not_in_all rings t out.1 r) (Contains-append_cases ring (all_fins rings) t k)

-- what becomes of rings that have all these fins
pub relinks-of : (ts : List Tag) (old new : StoreView) (rings after : List (List Tag)) → Reaches ts old new → HasAll (all_fins rings) ts → AllByRecursion (IsRing new.state.map) after → Relinks old.state.map rings new.state.map after
relinks-of ts old new rings after r has each = record {
  rings = each;
  fields = r.fields;
  others = λ t out. r.others t (λ k. not_in_all rings t out (has t k));
}

-- ---- stages

pub record Stage (ts : List Tag) (old : StoreView) (rings : List (List Tag)) (now : StoreView) : Type 0 where
  pub room : HasRoomForThese now.recording ts
  pub are : AreRings now.state.map rings
  pub reaches : Reaches ts old now

pub stage-start : (ts : List Tag) (s : StoreView) (rings : List (List Tag)) → HasRoomForThese s.recording ts → AreRings s.state.map rings → Stage ts s rings s
stage-start ts s rings room are = record {
  room = room;
  are = are;
  reaches = record { fields = λ t. refl; others = λ t out. refl; puts = puts-none ts s };
}

stage-then : (ts : List Tag) (old a b : StoreView) (rings others : List (List Tag)) → Stage ts old rings a → Reaches ts a b → AreRings b.state.map others → Stage ts old others b
stage-then ts old a b rings others h r are = record {
  room = room-after ts ts a b h.room r.puts (λ t k. k);
  are = are;
  reaches = record {
    fields = λ t. r.fields t ∙ h.reaches.fields t;
    others = λ t out. r.others t out ∙ h.reaches.others t out;
    puts = puts-then ts old a b h.reaches.puts r.puts;
  };
}

-- the same rings in another order
pub stage-as : (ts : List Tag) (old now : StoreView) (rings others : List (List Tag)) → Stage ts old rings now → AreRings now.state.map others → Stage ts old others now
stage-as ts old now rings others h are = record { room = h.room; are = are; reaches = h.reaches }

module _ (ts : List Tag) (old now : StoreView) where
  -- the first fin of the first ring, and of the second
  pub in-first : (f : Tag) (A : List Tag) (rings : List (List Tag)) → Stage ts old ((f ∷ A) ∷ rings) now → IsInRing now.state.map f
  in-first f A rings h = in-ring_of now.state.map (f ∷ A) f h.are.each.0 (Contains-first f A)

  pub in-second : (P : List Tag) (g : Tag) (B : List Tag) (rings : List (List Tag)) → Stage ts old (P ∷ (g ∷ B) ∷ rings) now → IsInRing now.state.map g
  in-second P g B rings h = in-ring_of now.state.map (g ∷ B) g h.are.each.1.0 (Contains-first g B)

module _ (ts : List Tag) (old now : StoreView) (f g : Tag) (A B : List Tag) (rings : List (List Tag)) (has : HasAll ts (f ∷ g ∷ last_of f A ∷ last_of g B ∷ [])) where
  has-first : Contains ts f
  has-first = has f (0, omega arith, refl)

  has-second : Contains ts g
  has-second = has g (1, omega arith, refl)

  has-last : Contains ts (last_of f A)
  has-last = has (last_of f A) (2, omega arith, refl)

  has-other : Contains ts (last_of g B)
  has-other = has (last_of g B) (3, omega arith, refl)

  module _ (h : Stage ts old ((f ∷ A) ∷ (g ∷ B) ∷ rings) now) where
    has-one : HasAll ts (spliced now.state.map f g)
    has-one = has-spliced now.state.map f g (last_of f A) (last_of g B) ts (first-links now.state.map f A h.are.each.0).1 (first-links now.state.map g B h.are.each.1.0).1 has-first has-second has-last has-other

    pub room-one : HasRoomForThese now.recording (spliced now.state.map f g)
    room-one = room-part now.recording ts (spliced now.state.map f g) h.room has-one

    -- of two rings one
    pub stage-one : (new : StoreView) → Splices now.state.map f g new.state.map → PutsAmong (spliced now.state.map f g) now new → Stage ts old (((f ∷ A) ++ g ∷ B) ∷ rings) new
    stage-one new s puts = stage-then ts old now new ((f ∷ A) ∷ (g ∷ B) ∷ rings) (((f ∷ A) ++ g ∷ B) ∷ rings) h (reaches-splice ts now new f g s puts has-one) (spliced-one now.state.map new.state.map f g s A B rings h.are)

  module _ (h : Stage ts old (((f ∷ A) ++ g ∷ B) ∷ rings) now) where
    has-two : HasAll ts (spliced now.state.map f g)
    has-two = has-spliced now.state.map f g (last_of g B) (last_of f A) ts (before-first now.state.map f g A B h.are.each.0) (before-second now.state.map f g A B h.are.each.0) has-first has-second has-other has-last

    pub room-two : HasRoomForThese now.recording (spliced now.state.map f g)
    room-two = room-part now.recording ts (spliced now.state.map f g) h.room has-two

    -- of one ring two
    pub stage-two : (new : StoreView) → Splices now.state.map f g new.state.map → PutsAmong (spliced now.state.map f g) now new → Stage ts old ((f ∷ A) ∷ (g ∷ B) ∷ rings) new
    stage-two new s puts = stage-then ts old now new (((f ∷ A) ++ g ∷ B) ∷ rings) ((f ∷ A) ∷ (g ∷ B) ∷ rings) h (reaches-splice ts now new f g s puts has-two) (spliced-two now.state.map new.state.map f g s A B rings h.are)

-- the fin before the one after f is f
before-next : (m : EntityMap) (f : Tag) (A : List Tag) → IsRing m (f ∷ A) → prev_at m (head_or f A) ≡ Some f
before-next m f [] r = (first-links m f [] r).1
before-next m f (g ∷ A) r = before-second m f g [] A r

module _ (ts : List Tag) (old now : StoreView) (f : Tag) (A : List Tag) (rings : List (List Tag)) (has : HasAll ts (f ∷ head_or f A ∷ last_of f A ∷ [])) (h : Stage ts old ((f ∷ A) ∷ rings) now) where
  has-unhooked : HasAll ts (spliced now.state.map f (head_or f A))
  has-unhooked = has-spliced now.state.map f (head_or f A) (last_of f A) f ts (first-links now.state.map f A h.are.each.0).1 (before-next now.state.map f A h.are.each.0)
      (has f (0, omega arith, refl)) (has (head_or f A) (1, omega arith, refl)) (has (last_of f A) (2, omega arith, refl)) (has f (0, omega arith, refl))

  next_is : next_at now.state.map f ≡ Some (head_or f A)
  next_is = (first-links now.state.map f A h.are.each.0).0

  pub room-unhooked : IfSome (next_at now.state.map f) (λ g. HasRoomForThese now.recording (spliced now.state.map f g))
  room-unhooked = subst (λ (o : Option Tag). IfSome o (λ g. HasRoomForThese now.recording (spliced now.state.map f g))) (sym next_is) (room-part now.recording ts (spliced now.state.map f (head_or f A)) h.room has-unhooked)

  -- f is taken out of its ring
  pub stage-unhooked : (new : StoreView) → IfSome (next_at now.state.map f) (λ g. Splices now.state.map f g new.state.map) → IfSome (next_at now.state.map f) (λ g. PutsAmong (spliced now.state.map f g) now new) → Stage ts old ((f ∷ []) ∷ A ∷ rings) new
  stage-unhooked new s puts =
      let links = subst (λ (o : Option Tag). IfSome o (λ g. Splices now.state.map f g new.state.map)) next_is s in
      stage-then ts old now new ((f ∷ A) ∷ rings) ((f ∷ []) ∷ A ∷ rings) h
      (reaches-splice ts now new f (head_or f A) links (subst (λ (o : Option Tag). IfSome o (λ g. PutsAmong (spliced now.state.map f g) now new)) next_is puts) has-unhooked)
      (unhooked now.state.map new.state.map f A rings links h.are)

-- ---- a ring that two of its fins part

pub record PartedAt (m : EntityMap) (f g : Tag) : Type 0 where
  pub ahead : List Tag
  pub behind : List Tag
  pub ring_is : ring_at m f ≡ (f ∷ ahead) ++ g ∷ behind
  pub before_is : before g (ring_at m f) ≡ f ∷ ahead
  pub from_is : from g (ring_at m f) ≡ g ∷ behind

pub parted-at : (m : EntityMap) (f g : Tag) → IsInRing m f → Contains (ring_at m f) g → g ≢ f → PartedAt m f g
parted-at m f g h k other =
    let rest = drop 1 (ring_at m f) in
    let is : ring_at m f ≡ f ∷ rest = in-ring_starts m f h in
    let c = cut-at f g rest other (subst (λ ts. Contains ts g) is k) in
    record {
      ahead = c.ahead;
      behind = c.behind;
      ring_is = is ∙ ap (λ ts. f ∷ ts) c.is;
      before_is = ap (before g) is ∙ c.before_is;
      from_is = ap (from g) is ∙ c.from_is;
    }

-- ---- a ring, or none, behind a fin

module _ (ts : List Tag) (old now : StoreView) (f : Tag) where
  pub ring-appended : (A : List Tag) (rings : List (List Tag)) → Stage ts old ((f ∷ []) ∷ A ∷ rings) now → IfSome (first_tag A) (IsInRing now.state.map)
  ring-appended [] rings h = tt
  ring-appended (g ∷ A) rings h = in-second ts old now (f ∷ []) g A rings h

  appended-fins : (g : Tag) (A : List Tag) → Contains ts f → HasAll ts (ends_of (g ∷ A)) → HasAll ts (f ∷ g ∷ f ∷ last_of g A ∷ [])
  appended-fins g A k h = has-each ts (f ∷ g ∷ f ∷ last_of g A ∷ []) (k, (h g (0, omega arith, refl), (k, (h (last_of g A) (1, omega arith, refl), tt))))

  pub room-appended : (A : List Tag) (rings : List (List Tag)) → Contains ts f → HasAll ts (ends_of A) → Stage ts old ((f ∷ []) ∷ A ∷ rings) now → IfSome (first_tag A) (λ g. HasRoomForThese now.recording (spliced now.state.map f g))
  room-appended [] rings k has h = tt
  room-appended (g ∷ A) rings k has h = room-one ts old now f g [] A rings (appended-fins g A k has) h

  pub stage-appended : (A : List Tag) (rings : List (List Tag)) → Contains ts f → HasAll ts (ends_of A) → Stage ts old ((f ∷ []) ∷ A ∷ rings) now → (new : StoreView)
      → IfSome (first_tag A) (λ g. Splices now.state.map f g new.state.map) → IfNone (first_tag A) (new ≡ now) → IfSome (first_tag A) (λ g. PutsAmong (spliced now.state.map f g) now new)
      → Stage ts old ((f ∷ A) ∷ rings) new
  stage-appended [] rings k has h new links same puts =
      subst (Stage ts old ((f ∷ []) ∷ rings)) (sym same)
      (stage-as ts old now ((f ∷ []) ∷ [] ∷ rings) ((f ∷ []) ∷ rings) h (record { once = h.are.once; each = (h.are.each.0, h.are.each.1.1) }))
  stage-appended (g ∷ A) rings k has h new links same puts = stage-one ts old now f g [] A rings (appended-fins g A k has) h new links puts
