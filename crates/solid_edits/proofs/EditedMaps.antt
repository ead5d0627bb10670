-- What a map of entities has, once entities were put, fins were linked anew, or named another loop.
use Rattle.std.proofs.Common.{◌≡◌, ◌⊎◌, inl, inr, ⊎_elim, List, [], ◌∷◌, Option, Some, None, ap, subst, ◌∙◌}
use Rattle.std.specs.Prelude.{option_map, Contains}
use Rattle.std.specs.Option.{option_and_then}
use Rattle.std.specs.FinMap.{get}
use Rattle.pk_base.specs.declared.tag.Tag.{Tag}
use Rattle.pk_base.specs.declared.entity.Entity.{Entity}
use Rattle.pk_base.specs.declared.entity.Entity.TheVariants as entity
use Rattle.pk_model.specs.Maps.{EntityMap, with_entity}
use Rattle.solid_model.specs.Items.{Item, Shape}
use Rattle.solid_model.specs.Items.Item.{Body, Shell, Face, Loop, Fin, Edge, Vertex, Attr}
use Rattle.solid_model.specs.Rings.{first_tag, from_least, last_of, ends_of}
use Rattle.halfedge.specs.LinkedRings.{IsRing, Relabels, as_fin, in_loop, loop_named, next_at, prev_at, ring_at}
use Rattle.solid_model.proofs.lists.Cycles.{last_of-in}
use Rattle.halfedge.proofs.LinkedRings.{ring-kept}
use Rattle.solid_calls.proofs.Represented.{Shows}
use Rattle.solid_edits.proofs.PlacedAnew.{relabels-links}
use Rattle.list_facts.proofs.Elements.{not_in_nil, Contains-first, Contains-cases}
use Rattle.solid_model.proofs.lists.Neighbours.{among_or_not}

-- the map with a loop of the ring of f
abbrev pub with_loop : EntityMap → Tag → Tag → Tag → EntityMap
with_loop m l face f = with_entity m l (Some (entity.Loop face (first_tag (from_least (ring_at m f))) None))

-- ---- among tags

-- the ends of a run are among it
pub ends-among : (ts : List Tag) (t : Tag) → Contains (ends_of ts) t → Contains ts t
ends-among [] t k = k
ends-among (f ∷ fins) t k = ⊎_elim {C = Contains (f ∷ fins) t}
    (λ (e : f ≡ t). subst (Contains (f ∷ fins)) e (Contains-first f fins))
    (λ (r : Contains (last_of f fins ∷ []) t). ⊎_elim {C = Contains (f ∷ fins) t}
    (λ (e : last_of f fins ≡ t). subst (Contains (f ∷ fins)) e (last_of-in f fins))
    (λ (n : Contains [] t). absurd (not_in_nil t n))
    (Contains-cases (last_of f fins) [] t r))
    (Contains-cases f (last_of f fins ∷ []) t k)

-- ---- the fields of a fin

-- a fin with this mate, edge and vertex, in some place of some loop
abbrev pub HasFin : EntityMap → Tag → Tag → Tag → Tag → Type 0
HasFin m t mate edge vertex =
    (l : Tag) × (next : Tag) × (prev : Tag) × (get m t ≡ Some (entity.Fin l next prev mate edge vertex))

-- ---- fins that name another loop

pub relabelled : (m n : EntityMap) (ring : List Tag) (to t : Tag) → Relabels m ring to n → (get n t ≡ option_map (in_loop to) (get m t)) ⊎ (get n t ≡ get m t)
relabelled m n ring to t h = ⊎_elim {C = (get n t ≡ option_map (in_loop to) (get m t)) ⊎ (get n t ≡ get m t)}
    (λ (k : Contains ring t). inl (h.fins t k))
    (λ (k : ¬ (Contains ring t)). inr (h.others t k))
    (among_or_not t ring)

pub relabelled-has_fin : (m n : EntityMap) (ring : List Tag) (to t mate edge vertex : Tag) → Relabels m ring to n → HasFin m t mate edge vertex → HasFin n t mate edge vertex
relabelled-has_fin m n ring to t mate edge vertex h is = ⊎_elim {C = HasFin n t mate edge vertex}
    (λ (k : get n t ≡ option_map (in_loop to) (get m t)). (to, is.1, is.2, k ∙ ap (option_map (in_loop to)) is.3))
    (λ (k : get n t ≡ get m t). (is.0, is.1, is.2, k ∙ is.3))
    (relabelled m n ring to t h)

pub same-links : (m n : EntityMap) (t : Tag) → get n t ≡ get m t → (next_at n t ≡ next_at m t) × (prev_at n t ≡ prev_at m t)
same-links m n t h = (
  ap (λ (o : Option Entity). option_map (λ x. x.next) (option_and_then as_fin o)) h,
  ap (λ (o : Option Entity). option_map (λ x. x.prev) (option_and_then as_fin o)) h,
)

pub relabelled-ring : (m n : EntityMap) (ring : List Tag) (to : Tag) → Relabels m ring to n → (fins : List Tag) → IsRing m fins → IsRing n fins
relabelled-ring m n ring to h fins is = ring-kept m n fins is (λ t k. relabels-links m n ring to h t)

-- a ring of which nothing has changed
pub ring-same : (m n : EntityMap) (fins : List Tag) → IsRing m fins → ((t : Tag) → Contains fins t → get n t ≡ get m t) → IsRing n fins
ring-same m n fins is same = ring-kept m n fins is (λ t k. same-links m n t (same t k))

pub same-named : (m n : EntityMap) (t : Tag) → get n t ≡ get m t → loop_named n t ≡ loop_named m t
same-named m n t h = ap (λ (o : Option Entity). option_map (λ x. x.loop_) (option_and_then as_fin o)) h

-- ---- what stands in a map that a shape is represented by

-- what the shape has is live in the map
pub shown-live : (S : Shape) (m : EntityMap) (t : Tag) (x : Item) → Shows S m t x → (e : Entity) × (get m t ≡ Some e)
shown-live S m t (Body shell) h = (entity.Body shell, h)
shown-live S m t (Shell body q) h = (entity.Shell body q, h)
shown-live S m t (Face shell outer) h = (entity.Face shell outer, h)
shown-live S m t (Loop face fins vertex) h = (_, h.0)
shown-live S m t (Fin mate edge vertex) h = (_, h.3)
shown-live S m t (Edge body) h = (_, h.1)
shown-live S m t (Vertex body point) h = (entity.Vertex body point, h)
shown-live S m t (Attr owner name value) h = (entity.Attr owner name value, h)
