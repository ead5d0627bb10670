-- Rings of linked fins: a ring is read from any of its fins, and is written from any of them.
use Rattle.std.proofs.Common.{◌≡◌, ℕ, zero, suc, ◌≤◌, List, [], ◌∷◌, length, drop, Option, Some, None, refl, sym, ap, subst, ◌∙◌, append-nil, arith}
use Rattle.std.specs.Prelude.{T, IfSome, IsSome, option_map, Contains}
use Rattle.std.specs.Option.{option_and_then, option_map_or}
use Rattle.std.specs.List.{AllByRecursion}
use Rattle.std.specs.FinMap.{entries, entries_sorted, get, get-entries, is_sorted}
use Rattle.std.specs.FinMap.Entries as entries
use Rattle.std.proofs.lemmas.List.{length-map}
use Rattle.std.proofs.lemmas.Option.{same_Some}
use Rattle.pk_base.specs.Blocks.{tag}
use Rattle.pk_base.specs.declared.tag.Tag.{Tag}
use Rattle.pk_base.specs.declared.entity.Entity.{Entity}
use Rattle.pk_base.specs.declared.entity.Entity.TheVariants as entity
use Rattle.pk_model.specs.Apart.{NoRepeats}
use Rattle.pk_model.specs.Maps.{EntityMap, tag_cmp}
use Rattle.solid_model.specs.Items.{Item, item_at}
use Rattle.solid_model.specs.Rings.{written_from, from_least, last_of, next_in, previous_in, neighbours}
use Rattle.solid_model.specs.Shapes.{next_of, next_among, fins_until, item_of, shape_of}
use Rattle.solid_model.proofs.Written.{is_sorted-map}
use Rattle.solid_model.proofs.lists.Neighbours.{head_or, neighbour_of, neighbours-in}
use Rattle.solid_model.proofs.lists.Cycles.{last-in, after_first, before_first, written-first, once-written, neighbours-written}
use Rattle.solid_model.proofs.lists.Turned.{Turned, turned-written, turned-least, turned-once, turned-all}
use Rattle.solid_model.proofs.Reading.{list-read, find-map, no_more_than_items, mapped-live}
use Rattle.list_facts.proofs.Elements.{not_in_nil, Contains-first}
use Rattle.list_facts.proofs.Each.{ByRecursion-contains, ByRecursion-at}
use Rattle.halfedge.specs.LinkedRings.{FinFields, as_fin, next_at, prev_at, AreLinked, IsRing, ring_at, ring_of_any, IsInRing}

-- ---- a ring written from another of its fins

-- a ring stays one, written from another place
pub ring-turned : (m : EntityMap) (xs ys : List Tag) → Turned xs ys → IsRing m xs → IsRing m ys
ring-turned m xs ys t r = record {
  once = turned-once xs ys t r.once;
  linked = turned-all (λ n. AreLinked m n.0 n.1) xs ys t r.linked;
}

pub ring-written : (m : EntityMap) (f : Tag) (ring : List Tag) → IsRing m ring → Contains ring f → IsRing m (written_from f ring)
ring-written m f ring r k = ring-turned m ring (written_from f ring) (turned-written f ring) r

pub ring-least : (m : EntityMap) (ring : List Tag) → IsRing m ring → IsRing m (from_least ring)
ring-least m ring r = ring-turned m ring (from_least ring) (turned-least ring) r

-- ---- the neighbours of a fin

-- each fin and the next one of a ring are linked
pub linked-at : (m : EntityMap) (ring : List Tag) → IsRing m ring → (f g : Tag) → Contains (neighbours ring) (f, g) → AreLinked m f g
linked-at m ring r f g k = ByRecursion-at (λ (n : Tag × Tag). AreLinked m n.0 n.1) (neighbours ring) (f, g) r.linked k

-- a ring that begins with f
pub first-links : (m : EntityMap) (f : Tag) (fins : List Tag) → IsRing m (f ∷ fins) → (next_at m f ≡ Some (head_or f fins)) × (prev_at m f ≡ Some (last_of f fins))
first-links m f fins r = (
  (linked-at m (f ∷ fins) r f (head_or f fins) (subst (λ (ts : List Tag). Contains (neighbours (f ∷ fins)) (f, head_or f ts)) (append-nil fins) (neighbour_of f [] fins))).next,
  (linked-at m (f ∷ fins) r (last_of f fins) f (last-in f f fins)).prev,
)

pub ring-links : (m : EntityMap) (ring : List Tag) (f : Tag) → IsRing m ring → Contains ring f → (next_at m f ≡ Some (next_in ring f)) × (prev_at m f ≡ Some (previous_in ring f))
ring-links m ring f r k =
    let rest = drop 1 (written_from f ring) in
    let is : written_from f ring ≡ f ∷ rest = written-first f ring k in
    let both = first-links m f rest (subst (IsRing m) is (ring-written m f ring r k)) in (
      both.0,
      both.1 ∙ ap (λ (ts : List Tag). Some (last_of f ts)) (sym is),
    )

-- one of a list and the one that comes next, as the list tells them
pub next-told : (ring : List Tag) → NoRepeats ring → (a b : Tag) → Contains (neighbours ring) (a, b) → (next_in ring a ≡ b) × (previous_in ring b ≡ a)
next-told ring once a b k =
    let both = neighbours-in ring (a, b) k in
    let after = drop 1 (written_from a ring) in
    let ahead = drop 1 (written_from b ring) in
    let a_is : written_from a ring ≡ a ∷ after = written-first a ring both.0 in
    let b_is : written_from b ring ≡ b ∷ ahead = written-first b ring both.1 in
    let a_once : NoRepeats (a ∷ after) = subst NoRepeats a_is (once-written a ring once) in
    let b_once : NoRepeats (b ∷ ahead) = subst NoRepeats b_is (once-written b ring once) in (
      sym (after_first a after b (not_later a after a_once) (subst (λ (ts : List Tag). Contains (neighbours ts) (a, b)) a_is (neighbours-written a ring (a, b) k))),
      ap (last_of b) b_is ∙ sym (before_first b ahead a (not_later b ahead b_once) (subst (λ (ts : List Tag). Contains (neighbours ts) (a, b)) b_is (neighbours-written b ring (a, b) k))),
    )
  where
    not_later : (t : Tag) (ts : List Tag) → NoRepeats (t ∷ ts) → ¬ (Contains ts t)
    not_later t ts h c = ByRecursion-at (λ u. t ≡ u → ⊥) ts t h.0 c refl

pub links-ring : (m : EntityMap) (ring : List Tag) → NoRepeats ring → ((f : Tag) → Contains ring f → (next_at m f ≡ Some (next_in ring f)) × (prev_at m f ≡ Some (previous_in ring f))) → IsRing m ring
links-ring m ring once h = record {
  once = once;
  linked = ByRecursion-contains (λ (n : Tag × Tag). AreLinked m n.0 n.1) (neighbours ring) (λ n k.
      let both = neighbours-in ring n k in
      let told = next-told ring once n.0 n.1 k in
      record { next = (h n.0 both.0).0 ∙ ap Some told.0; prev = (h n.1 both.1).1 ∙ ap Some told.1 });
}

pub ring-kept : (m n : EntityMap) (ring : List Tag) → IsRing m ring → ((t : Tag) → Contains ring t → (next_at n t ≡ next_at m t) × (prev_at n t ≡ prev_at m t)) → IsRing n ring
ring-kept m n ring r same = record {
  once = r.once;
  linked = ByRecursion-contains (λ (p : Tag × Tag). AreLinked n p.0 p.1) (neighbours ring) (λ p k.
      let both = neighbours-in ring p k in
      let was = linked-at m ring r p.0 p.1 k in
      record { next = (same p.0 both.0).0 ∙ was.next; prev = (same p.1 both.1).1 ∙ was.prev });
}

-- ---- the ring from a fin on

-- a fin that has a next one is live
live_fin : (o : Option Entity) (g : Tag) → option_map (λ x. x.next) (option_and_then as_fin o) ≡ Some g → IsSome o × (option_map_or next_of o (tag 0) ≡ g)
live_fin None g h = absurd (cc)
live_fin (Some (entity.Fin l next prev mate edge vertex)) g h = (refl, same_Some next g h)
live_fin (Some (entity.Body shell)) g h = absurd (cc)
live_fin (Some (entity.Shell body q)) g h = absurd (cc)
live_fin (Some (entity.Face shell outer)) g h = absurd (cc)
live_fin (Some (entity.Loop face first vertex)) g h = absurd (cc)
live_fin (Some (entity.Edge body fin)) g h = absurd (cc)
live_fin (Some (entity.Vertex body point)) g h = absurd (cc)
live_fin (Some (entity.Attr owner name value)) g h = absurd (cc)

-- its next fin, as it is read among the entries
pub next-read : (m : EntityMap) (f g : Tag) → next_at m f ≡ Some g → next_among (entries m) f ≡ g
next-read m f g h = ap (λ o. option_map_or next_of o (tag 0)) (sym (get-entries m f)) ∙ (live_fin (get m f) g h).1

-- a ring has no more fins than the map has entities
pub ring-fits : (m : EntityMap) (ring : List Tag) → IsRing m ring → length ring ≤ length (entries m)
ring-fits m ring r =
    let es = entries m in
    let sorted : T (is_sorted tag_cmp (shape_of m)) = subst T (sym (is_sorted-map (λ x. item_of es x.1) es)) (entries_sorted m) in
    let live : AllByRecursion (λ t. IsSome (item_at (shape_of m) t)) ring = ByRecursion-contains (λ t. IsSome (item_at (shape_of m) t)) ring (λ f k.
    subst (λ (o : Option Item). IsSome o) (sym (find-map (λ t e. item_of es e) f es))
    (mapped-live (item_of es) (entries.find tag_cmp f es) (subst (λ (o : Option Entity). IsSome o) (get-entries m f) (live_fin (get m f) (next_in ring f) (ring-links m ring f r k).0).0))) in
    let n : length (shape_of m) ≡ length es = length-map es _ in
    omega (arith, no_more_than_items ring (shape_of m) sorted r.once live, n)

pub ring_at-is : (m : EntityMap) (f : Tag) (fins : List Tag) → IsRing m (f ∷ fins) → ring_at m f ≡ f ∷ fins
unfolding ring_at
ring_at-is m f fins r =
    list-read (length (entries m)) (entries m) (f ∷ fins) refl r.once (ring-fits m (f ∷ fins) r)
    (λ g k. next-read m g (next_in (f ∷ fins) g) (ring-links m (f ∷ fins) g r k).0)

pub in-ring_from : (m : EntityMap) (f : Tag) (fins : List Tag) → IsRing m (f ∷ fins) → IsInRing m f
in-ring_from m f fins r =
    let is = ring_at-is m f fins r in
    record {
      ring = subst (IsRing m) (sym is) r;
      among = subst (λ ts. Contains ts f) (sym is) (Contains-first f fins);
    }

-- a list of fins that is read from f on begins with it
until_starts : (n : ℕ) (es : List (Tag × Entity)) (first f : Tag) → Contains (fins_until n es first f) f → fins_until n es first f ≡ f ∷ drop 1 (fins_until n es first f)
until_starts zero es first f k = absurd (not_in_nil f k)
until_starts (suc n) es first f k = refl

pub in-ring_starts : (m : EntityMap) (f : Tag) → IsInRing m f → ring_at m f ≡ f ∷ drop 1 (ring_at m f)
unfolding ring_at
in-ring_starts m f h = until_starts (length (entries m)) (entries m) f f h.among

-- each fin of a ring stands in a ring
pub in-ring_of : (m : EntityMap) (ring : List Tag) (f : Tag) → IsRing m ring → Contains ring f → IsInRing m f
in-ring_of m ring f r k =
    in-ring_from m f (drop 1 (written_from f ring)) (subst (IsRing m) (written-first f ring k) (ring-written m f ring r k))

-- a fin whose next and previous fins are itself
pub ring_alone : (m : EntityMap) (f l mate edge vertex : Tag) → get m f ≡ Some (entity.Fin l f f mate edge vertex) → IsRing m (f ∷ [])
ring_alone m f l mate edge vertex h = record {
  once = (tt, tt);
  linked = (
    record {
      next = ap (λ (o : Option Entity). option_map (λ (x : FinFields). x.next) (option_and_then as_fin o)) h;
      prev = ap (λ (o : Option Entity). option_map (λ (x : FinFields). x.prev) (option_and_then as_fin o)) h;
    },
    tt,
  );
}

-- ---- rings, where there is one

pub any_ring : (m : EntityMap) (o : Option Tag) → IfSome o (IsInRing m) → IsRing m (ring_of_any m o)
any_ring m None h = record { once = tt; linked = tt }
any_ring m (Some f) h = h.ring

-- it stays where its links stay
pub ring_of_any-kept : (m n : EntityMap) (o : Option Tag) → IfSome o (IsInRing m) → ((t : Tag) → Contains (ring_of_any m o) t → (next_at n t ≡ next_at m t) × (prev_at n t ≡ prev_at m t))
    → (ring_of_any n o ≡ ring_of_any m o) × IfSome o (IsInRing n)
ring_of_any-kept m n None h same = (refl, tt)
ring_of_any-kept m n (Some f) h same =
    let starts = in-ring_starts m f h in
    let is : IsRing n (f ∷ drop 1 (ring_at m f)) = subst (IsRing n) starts (ring-kept m n (ring_at m f) h.ring same) in
    (ring_at-is n f (drop 1 (ring_at m f)) is ∙ sym starts, in-ring_from n f (drop 1 (ring_at m f)) is)
