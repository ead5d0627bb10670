-- Rings of linked fins: how a map of entities keeps the cyclic lists of fins.
use Rattle.std.specs.Prelude.{◌≡◌, List, [], Option, Some, None, option_map, Contains}
use Rattle.std.specs.Option.{option_and_then, option_map_or}
use Rattle.std.specs.List.{AllByRecursion}
use Rattle.std.specs.FinMap.{entries, get}
use Rattle.pk_base.specs.Blocks.{tag}
use Rattle.pk_base.specs.declared.tag.Tag.{Tag}
use Rattle.pk_base.specs.declared.entity.Entity.{Entity}
use Rattle.pk_base.specs.declared.entity.Entity.TheVariants as entity
use Rattle.pk_model.specs.Apart.{NoRepeats}
use Rattle.pk_model.specs.Maps.{EntityMap}
use Rattle.solid_model.specs.Rings.{neighbours}
use Rattle.solid_model.specs.Shapes.{fins_read}

-- ---- the links of a fin

-- the fields of a fin
pub record FinFields : Type 0 where
  pub loop_ : Tag
  pub next : Tag
  pub prev : Tag
  pub mate : Tag
  pub edge : Tag
  pub vertex : Tag

abbrev pub as_fin : Entity → Option FinFields
as_fin (entity.Fin l next prev mate edge vertex) = Some (record {
  loop_ = l;
  next = next;
  prev = prev;
  mate = mate;
  edge = edge;
  vertex = vertex;
})
as_fin (entity.Body shell) = None
as_fin (entity.Shell body q) = None
as_fin (entity.Face shell outer) = None
as_fin (entity.Loop face first vertex) = None
as_fin (entity.Edge body fin) = None
as_fin (entity.Vertex body point) = None
as_fin (entity.Attr owner name value) = None

-- the fin under the tag
abbrev pub fin_in : EntityMap → Tag → Option FinFields
fin_in m f = option_and_then as_fin (get m f)

-- the fin after f, and the one before
abbrev pub next_at : EntityMap → Tag → Option Tag
next_at m f = option_map (λ x. x.next) (fin_in m f)

abbrev pub prev_at : EntityMap → Tag → Option Tag
prev_at m f = option_map (λ x. x.prev) (fin_in m f)

-- the loop that the fin names
abbrev pub loop_named : EntityMap → Tag → Option Tag
loop_named m f = option_map (λ x. x.loop_) (fin_in m f)

-- the mate of the fin f; f itself where it is no fin
abbrev pub mate_in : EntityMap → Tag → Tag
mate_in m f = option_map_or (λ x. x.mate) (fin_in m f) f

-- ---- rings

-- both are fins; the next of f is g, and the one before g is f
pub record AreLinked (m : EntityMap) (f g : Tag) : Type 0 where
  pub next : next_at m f ≡ Some g
  pub prev : prev_at m g ≡ Some f

-- The cyclic list, written from any of its fins, is a ring of linked fins: none stands in it twice,
-- and each is linked with the one that comes next. Where it is empty, there is nothing to link.
pub record IsRing (m : EntityMap) (ring : List Tag) : Type 0 where
  pub once : NoRepeats ring
  pub linked : AllByRecursion (λ n. AreLinked m n.0 n.1) (neighbours ring)

-- the fins from f on, from each to the next, until f comes again
unfoldable pub ring_at : EntityMap → Tag → List Tag
ring_at m f = fins_read (entries m) (Some f)

-- f stands in a ring, which is the one from f on
pub record IsInRing (m : EntityMap) (f : Tag) : Type 0 where
  pub ring : IsRing m (ring_at m f)
  pub among : Contains (ring_at m f) f

-- the ring from f on, or none
abbrev pub ring_of_any : EntityMap → Option Tag → List Tag
ring_of_any m None = []
ring_of_any m (Some f) = ring_at m f

-- ---- how rings change

-- a fin without its links, any other entity as it is
abbrev pub unlinked : Entity → Entity
unlinked (entity.Fin l next prev mate edge vertex) =
    entity.Fin l (tag 0) (tag 0) mate edge vertex
unlinked (entity.Body shell) = entity.Body shell
unlinked (entity.Shell body q) = entity.Shell body q
unlinked (entity.Face shell outer) = entity.Face shell outer
unlinked (entity.Loop face first vertex) = entity.Loop face first vertex
unlinked (entity.Edge body fin) = entity.Edge body fin
unlinked (entity.Vertex body point) = entity.Vertex body point
unlinked (entity.Attr owner name value) = entity.Attr owner name value

-- The links of fins have changed: the rings `before` have become the rings `after`, each written
-- from any of its fins. Nothing else has changed: no fin of another ring, no other field of a fin,
-- and no other entity.
pub record Relinks (old : EntityMap) (before : List (List Tag)) (new : EntityMap)
    (after : List (List Tag)) : Type 0 where
  pub rings : AllByRecursion (IsRing new) after
  pub fields : (t : Tag) → option_map unlinked (get new t) ≡ option_map unlinked (get old t)
  pub others : (t : Tag) → AllByRecursion (λ ring. ¬ (Contains ring t)) before
      → get new t ≡ get old t

-- a fin as one of another loop, any other entity as it is
abbrev pub in_loop : Tag → Entity → Entity
in_loop to (entity.Fin l next prev mate edge vertex) = entity.Fin to next prev mate edge vertex
in_loop to (entity.Body shell) = entity.Body shell
in_loop to (entity.Shell body q) = entity.Shell body q
in_loop to (entity.Face shell outer) = entity.Face shell outer
in_loop to (entity.Loop face first vertex) = entity.Loop face first vertex
in_loop to (entity.Edge body fin) = entity.Edge body fin
in_loop to (entity.Vertex body point) = entity.Vertex body point
in_loop to (entity.Attr owner name value) = entity.Attr owner name value

-- The fins of a ring name this loop now. Nothing else has changed.
pub record Relabels (old : EntityMap) (ring : List Tag) (to : Tag) (new : EntityMap)
    : Type 0 where
  pub fins : (t : Tag) → Contains ring t → get new t ≡ option_map (in_loop to) (get old t)
  pub others : (t : Tag) → ¬ (Contains ring t) → get new t ≡ get old t
