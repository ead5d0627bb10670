-- A sound map names live tags alone, and none of its entities is its own owner.
use Rattle.std.proofs.Common.{◌≡◌, ◌≢◌, ℕ, ◌+◌, ⊎_elim, Bool, false, cond, List, [], ◌∷◌, Option, Some, None, refl, sym, ap, subst, ◌∙◌, arith}
use Rattle.std.specs.Prelude.{option_map, unwrap_or, drop, find, is_some, IsSome, Contains}
use Rattle.std.specs.Option.{option_map_or}
use Rattle.std.specs.List.{AllByRecursion, count_by}
use Rattle.std.specs.FinMap.{empty, get}
use Rattle.std.proofs.lemmas.List.Sums.{sum_by-cons}
use Rattle.std.proofs.lemmas.Option.{same_Some}
use Rattle.pk_base.specs.Blocks.{tag}
use Rattle.pk_base.specs.Entity.{named_by, owner_of, optional_tags}
use Rattle.pk_base.specs.declared.tag.Tag.{Tag}
use Rattle.pk_base.specs.declared.entity.Entity.{Entity}
use Rattle.pk_base.specs.declared.entity.Class.{Class}
use Rattle.pk_base.specs.declared.entity.Class.TheVariants as class
use Rattle.pk_model.specs.Maps.{EntityMap}
use Rattle.pk_model.specs.Modelling.{NamesLiveTags, NoneOwnsItself}
use Rattle.solid_model.specs.Items.{Item, Shape, item_at, class_of_item}
use Rattle.solid_model.specs.Items.Item.{Body, Shell, Face, Loop, Fin, Edge, Vertex, Attr}
use Rattle.solid_model.specs.Rings.{first_tag, last_of, next_in, previous_in, written_from}
use Rattle.solid_model.specs.Owners.{fins_of, owner_in}
use Rattle.solid_model.specs.Places.{fins_at}
use Rattle.solid_model.specs.Links.{entity_of, is_fin_of, fin_of_edge, links}
use Rattle.solid_model.specs.Sound.{IsWritten, IsSound, AreOf, class_at, optional}
use Rattle.solid_model.proofs.Written.{links-nothing}
use Rattle.list_facts.proofs.Elements.{Contains-first, Contains-later}
use Rattle.list_facts.proofs.Each.{ByRecursion-append, ByRecursion-weaker, ByRecursion-at}
use Rattle.solid_sound.proofs.shapes.Found.{none_or_some, find-some, find-none, among-item}
use Rattle.solid_model.proofs.Reading.{mapped-was, mapped-live}
use Rattle.solid_sound.proofs.shapes.Bodies.{item_of_class}
use Rattle.solid_model.proofs.lists.Cycles.{last_of-in, written-in, written-first}
use Rattle.solid_sound.proofs.shapes.FinRings.{ring_with, ring_owner}
use Rattle.solid_sound.proofs.rows.RowKeeps.{IsWell}
use Rattle.solid_sound.proofs.rows.Asked.{get-links}

-- ---- neighbours in a list

first_in : (ts : List Tag) (f : Tag) → Contains (f ∷ ts) (unwrap_or (first_tag ts) f)
first_in [] f = Contains-first f []
first_in (t ∷ ts) f = Contains-later f (t ∷ ts) t (Contains-first t ts)

next-among : (ring : List Tag) (f : Tag) → Contains ring f → Contains ring (next_in ring f)
next-among ring f k =
    let w = written-first f ring k in
    written-in (next_in ring f) f ring (subst (λ ts. Contains ts (next_in ring f)) (sym w) (first_in (drop 1 (written_from f ring)) f))

previous-among : (ring : List Tag) (f : Tag) → Contains ring f → Contains ring (previous_in ring f)
previous-among ring f k =
    let w = written-first f ring k in
    let last : last_of f (f ∷ drop 1 (written_from f ring)) ≡ previous_in ring f = ap (last_of f) (sym w) in
    written-in (previous_in ring f) f ring (subst (λ ts. Contains ts (previous_in ring f)) (sym w)
    (subst (Contains (f ∷ drop 1 (written_from f ring))) last (last_of-in f (drop 1 (written_from f ring)))))

-- ---- the fin of an edge

none_counted : {A : Type 0} (p : A → Bool) (xs : List A) → AllByRecursion (λ x. p x ≡ false) xs → count_by p xs ≡ 0
none_counted p [] h = refl
none_counted p (x ∷ xs) h =
    let sum : count_by p (x ∷ xs) ≡ cond (p x) 1 0 + count_by p xs = sum_by-cons (λ y. cond (p y) 1 0) x xs in
    let none : cond {A = ℕ} (p x) 1 0 ≡ 0 = ap (λ b. cond b 1 0) h.0 in
    omega (arith, sum, none, none_counted p xs h.1)

-- ---- a shape

-- what the entities of the sound shape S name is live in it, and no item of it is its own owner
module _ (S : Shape) (well : IsWell S) where
  abbrev IsLive : Tag → Type 0
  IsLive t = IsSome (item_at S t)

  class-live : (t : Tag) (c : Class) → class_at S t ≡ Some c → IsLive t
  class-live t c h = let x = item_of_class (item_at S t) c h in ap is_some x.1

  of-live : (c : Class) (ts : List Tag) → AreOf S c ts → AllByRecursion IsLive ts
  of-live c ts h = ByRecursion-weaker (λ t. class_at S t ≡ Some c) IsLive (λ t e. class-live t c e) ts h

  first-live : (fins : List Tag) → AllByRecursion IsLive fins → AllByRecursion IsLive (optional_tags (first_tag fins))
  first-live [] h = tt
  first-live (f ∷ fins) h = (h.0, tt)

  optional-live : (vertex : Option Tag) → AllByRecursion IsLive (optional vertex) → AllByRecursion IsLive (optional_tags vertex)
  optional-live None h = tt
  optional-live (Some v) h = h

  edge-live : (e body : Tag) → item_at S e ≡ Some (Edge body) → IsLive (fin_of_edge S e)
  edge-live e body is = ⊎_elim
      (λ (l : find (λ (x : Tag × Item). is_fin_of e x.1) S ≡ None).
      let none = none_counted (λ (x : Tag × Item). is_fin_of e x.1) S (find-none (λ (x : Tag × Item). is_fin_of e x.1) S l) in
      let two = well.sound.mates.edges e body is in
      absurd (omega (arith, none, two)))
      (λ (r : (x : Tag × Item) × (find (λ (x : Tag × Item). is_fin_of e x.1) S ≡ Some x)).
      let found = find-some (λ (x : Tag × Item). is_fin_of e x.1) S r.0 r.1 in
      let here : r.0.0 ≡ fin_of_edge S e = ap (λ (o : Option (Tag × Item)). unwrap_or (option_map (λ (x : Tag × Item). x.0) o) (tag 0)) (sym r.1) in
      subst IsLive here (ap is_some (among-item S well.written.ascends r.0.0 r.0.1 found.1)))
      (none_or_some (find (λ (x : Tag × Item). is_fin_of e x.1) S))

  names-live : (t : Tag) (x : Item) → item_at S t ≡ Some x → AllByRecursion IsLive (named_by (entity_of S t x))
  names-live t (Body shell) is = of-live class.Shell (shell ∷ []) (well.sound.names.kinds t _ is)
  names-live t (Shell body q) is = of-live class.Body (body ∷ []) (well.sound.names.kinds t _ is)
  names-live t (Face shell outer) is =
      let k = well.sound.names.kinds t (Face shell outer) is in
      ((of-live class.Shell (shell ∷ []) k.0).0, of-live class.Loop (outer ∷ []) k.1)
  names-live t (Loop face fins vertex) is =
      let k = well.sound.names.kinds t (Loop face fins vertex) is in (
        (of-live class.Face (face ∷ []) k.0).0,
        ByRecursion-append IsLive (optional_tags (first_tag fins)) (optional_tags vertex) (first-live fins (of-live class.Fin fins k.1)) (optional-live vertex (of-live class.Vertex (optional vertex) k.2)),
      )
  names-live t (Fin mate edge vertex) is =
      let k = well.sound.names.kinds t (Fin mate edge vertex) is in
      let r = ring_with S well t mate edge vertex is in
      let ring = r.2 in
      let fins_live = of-live class.Fin ring (well.sound.names.kinds r.0 _ r.3.loop_is).1 in
      let own = ring_owner S well t r.0 r.1 ring (drop 1 (written_from t ring)) r.3 t r.3.among in
      let fins : fins_at S (owner_in S t) ≡ ring = ap (fins_at S) own ∙ ap (λ (o : Option Item). option_map_or fins_of o []) r.3.loop_is in
      let next = ByRecursion-at IsLive ring (next_in ring t) fins_live (next-among ring t r.3.among) in
      let previous = ByRecursion-at IsLive ring (previous_in ring t) fins_live (previous-among ring t r.3.among) in (
        subst IsLive (sym own) (ap is_some r.3.loop_is),
        (
          subst (λ ts. IsLive (next_in ts t)) (sym fins) next,
          (
            subst (λ ts. IsLive (previous_in ts t)) (sym fins) previous,
            ((of-live class.Fin (mate ∷ []) k.0).0, ((of-live class.Edge (edge ∷ []) k.1).0, of-live class.Vertex (vertex ∷ []) k.2)),
          ),
        ),
      )
  names-live t (Edge body) is = ((of-live class.Body (body ∷ []) (well.sound.names.kinds t _ is)).0, (edge-live t body is, tt))
  names-live t (Vertex body point) is = of-live class.Body (body ∷ []) (well.sound.names.kinds t _ is)
  names-live t (Attr owner name value) is = let o = well.sound.attributes.owned t owner name value is in (class-live owner o.0 o.1, tt)

  -- what is of another class is another tag
  other_class : (t u : Tag) (x : Item) (c : Class) → item_at S t ≡ Some x → class_at S u ≡ Some c → c ≢ class_of_item x → Some u ≢ Some t
  other_class t u x c is h other e = other (same_Some c (class_of_item x) (sym h ∙ ap (class_at S) (same_Some u t e) ∙ ap (option_map class_of_item) is))

  owned-by_other : (t : Tag) (x : Item) → item_at S t ≡ Some x → owner_of (entity_of S t x) ≢ Some t
  owned-by_other t (Body shell) is = λ e. cc
  owned-by_other t (Shell body q) is = other_class t body _ class.Body is (well.sound.names.kinds t _ is).0 (λ e. cc)
  owned-by_other t (Face shell outer) is = other_class t shell _ class.Shell is (well.sound.names.kinds t _ is).0.0 (λ e. cc)
  owned-by_other t (Loop face fins vertex) is = other_class t face _ class.Face is (well.sound.names.kinds t _ is).0.0 (λ e. cc)
  owned-by_other t (Fin mate edge vertex) is =
      let r = ring_with S well t mate edge vertex is in
      let own = ring_owner S well t r.0 r.1 r.2 (drop 1 (written_from t r.2)) r.3 t r.3.among in
      other_class t (owner_in S t) _ class.Loop is (ap (class_at S) own ∙ ap (option_map class_of_item) r.3.loop_is) (λ e. cc)
  owned-by_other t (Edge body) is = other_class t body _ class.Body is (well.sound.names.kinds t _ is).0 (λ e. cc)
  owned-by_other t (Vertex body point) is = other_class t body _ class.Body is (well.sound.names.kinds t _ is).0 (λ e. cc)
  owned-by_other t (Attr owner name value) is = let o = well.sound.attributes.owned t owner name value is in other_class t owner _ o.0 is o.1 o.2

-- ---- its map

mapped_some : {A B : Type 0} (g : A → B) (o : Option A) (e : B) → option_map g o ≡ Some e → (x : A) × (o ≡ Some x) × (g x ≡ e)
mapped_some g None e h = absurd (cc)
mapped_some g (Some x) e h = (x, refl, same_Some (g x) e h)

-- the same tags are live
pub links-live : (S : Shape) (t : Tag) → IsWritten S → IsSome (item_at S t) → IsSome (get (links S) t)
links-live S t written h = subst (λ (o : Option Entity). IsSome o) (sym (get-links S t written.ascends)) (mapped-live (entity_of S t) (item_at S t) h)

pub live-links : (S : Shape) (t : Tag) → IsWritten S → IsSome (get (links S) t) → IsSome (item_at S t)
live-links S t written h = mapped-was (entity_of S t) (item_at S t) (subst (λ (o : Option Entity). IsSome o) (get-links S t written.ascends) h)

module _ (m : EntityMap) (s : IsSound m) where
  well : IsWell s.shape
  well = record { written = s.written; sound = s.sound }

  item_of_entity : (t : Tag) (e : Entity) → get m t ≡ Some e → (x : Item) × (item_at s.shape t ≡ Some x) × (entity_of s.shape t x ≡ e)
  item_of_entity t e h = mapped_some (entity_of s.shape t) (item_at s.shape t) e (sym (get-links s.shape t s.written.ascends) ∙ ap (λ n. get n t) (sym s.map_is) ∙ h)

  pub sound-names : NamesLiveTags m
  sound-names t e h =
      let x = item_of_entity t e h in
      subst (λ f. AllByRecursion (λ n. IsSome (get m n)) (named_by f)) x.2
      (ByRecursion-weaker (λ u. IsSome (item_at s.shape u)) (λ u. IsSome (get m u)) (λ u l. subst (λ n. IsSome (get n u)) (sym s.map_is) (links-live s.shape u s.written l))
      (named_by (entity_of s.shape t x.0)) (names-live s.shape well t x.0 x.1))

  pub sound-owners : NoneOwnsItself m
  sound-owners t e h =
      let x = item_of_entity t e h in
      subst (λ f. owner_of f ≢ Some t) x.2 (owned-by_other s.shape well t x.0 x.1)

-- the empty map is sound
pub empty-sound : IsSound empty
empty-sound = record {
  shape = [];
  written = record { ascends = tt; loops = λ l face fins vertex e. absurd (cc) };
  sound = record {
    names = record { kinds = λ t x e. absurd (cc); shells = λ b shell e. absurd (cc); bodies = λ s b q e. absurd (cc) };
    placed = λ f mate edge vertex e. absurd (cc);
    mates = record { fins = λ f mate edge vertex e. absurd (cc); edges = λ e body is. absurd (cc) };
    follow = λ l face fins vertex e. absurd (cc);
    lone = λ l face fins vertex e. absurd (cc);
    outer = λ f shell outer e. absurd (cc);
    round = λ v body point e. absurd (cc);
    bodies = record { fins = λ f mate edge vertex e. absurd (cc); lone = λ l face vertex fins e. absurd (cc) };
    attributes = record { owned = λ a owner name value e. absurd (cc); one = λ a b owner name v w e f. absurd (cc) };
    measure = record { formula = λ b shell q e s. absurd (cc); points = λ v body point e. absurd (cc) };
  };
  map_is = sym links-nothing;
}
