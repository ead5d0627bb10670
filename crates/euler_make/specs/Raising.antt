-- A face that is raised: from each fin of its outer loop an edge along a vector, and then a side
-- face cut off behind each of them.
use Rattle.std.specs.Prelude.{◌≡◌, ℕ, ◌+◌, ◌*◌, ◌≤◌, ◌⊎◌, List, ◌∷◌, ◌++◌, length, map, take, drop, None, Ok, Contains}
use Rattle.std.specs.List.{AllByRecursion, range_with_len}
use Rattle.std.specs.FinMap.{get}
use Rattle.pk_base.specs.declared.tag.Tag.{Tag}
use Rattle.pk_base.specs.declared.entity.Triple.{Triple}
use Rattle.pk_plane.specs.Turns.{moved}
use Rattle.entity_store.specs.Store.{StoreView}
use Rattle.entity_store.specs.Room.{HasRoomForThese, PutsAmong}
use Rattle.solid_model.specs.Items.{Shape}
use Rattle.pk_model.specs.Apart.{NoRepeats}
use Rattle.pk_model.specs.Tags.{tag_at}
use Rattle.solid_model.specs.Places.{PlacedFace, face_at, fins_at, outer_at, start_at}
use Rattle.solid_model.specs.Folds.{Progress, after_edges}
use Rattle.solid_model.specs.Newell.{starts_of}
use Rattle.solid_model.specs.Links.{links}
use Rattle.solid_model.specs.Shapes.{shape_of}
use Rattle.solid_model.specs.Sound.{IsSound}
use Rattle.solid_model.specs.Sweep.{along, after_sweep}
use Rattle.euler_make.specs.Cutting.{StandInLoop}
use Rattle.solid_places.specs.Points.{AreComponents, AreCoordinates}

-- the fins of the outer loop of a face
abbrev pub outer_fins : Shape → Tag → List Tag
outer_fins S f = fins_at S (outer_at S f)

-- how many tags are taken
abbrev pub cost_of_raise : Shape → Tag → ℕ
cost_of_raise S f = 9 * length (outer_fins S f)

-- the tags that are put, with these next: those that are taken, the outer loop, and its fins
abbrev pub tags_raised : Shape → Tag → List Tag → List Tag
tags_raised S f tags = take (cost_of_raise S f) tags ++ outer_at S f ∷ outer_fins S f

-- the shape with the face raised along the vector
abbrev pub raised : Shape → Tag → Triple → List Tag → Shape
raised S f by tags = (after_sweep f by (record { shape = S; tags = tags })).shape

-- The map is sound. The face is live, its outer loop has two fins or more, and each of them starts
-- where the vector leads to a point in range. There is room for what is put.
pub record MayRaise (s : StoreView) (f : Tag) (by : Triple) (tags : List Tag) : Type 0 where
  pub sound : IsSound s.state.map
  pub face : PlacedFace
  pub found : face_at (shape_of s.state.map) f ≡ Ok face
  pub fins : 2 ≤ length (outer_fins (shape_of s.state.map) f)
  pub vector : AreComponents by
  pub within : AllByRecursion (λ p. AreCoordinates (moved by p))
      (starts_of (shape_of s.state.map) (outer_at (shape_of s.state.map) f))
  pub room : HasRoomForThese s.recording (tags_raised (shape_of s.state.map) f tags)

-- the fins that lead back, of so many edges
abbrev pub backs_made : List Tag → ℕ → List Tag
backs_made tags n = map (λ i. tag_at tags (4 * i + 3)) (range_with_len 0 n)

-- the shape with the edges alone, and the tags that are left
abbrev pub with_edges : Shape → Tag → Triple → List Tag → Progress
with_edges S f by tags =
    after_edges (map (along S by) (outer_fins S f)) (record { shape = S; tags = tags })

-- The map is that of the shape with the edges, and nothing else of the state has changed; no other
-- tags were put, and those that are left are not live. In the face's outer loop stand the fins that
-- lead back, in their order, which start at different vertices; the loop has no other fins than it
-- had and the new ones.
pub record HasEdges (old : StoreView) (f : Tag) (by : Triple) (tags : List Tag)
    (new : StoreView) : Type 0 where
  pub state : new.state ≡ record old.state { map = new.state.map }
  pub sound : IsSound new.state.map
  pub edges : record {
    shape = shape_of new.state.map;
    tags = drop (4 * length (outer_fins (shape_of old.state.map) f)) tags;
  } ≡ with_edges (shape_of old.state.map) f by tags
  pub puts : PutsAmong (tags_raised (shape_of old.state.map) f tags) old new
  pub free : AllByRecursion (λ t. get new.state.map t ≡ None)
      (drop (4 * length (outer_fins (shape_of old.state.map) f)) tags)
  pub stand : StandInLoop (shape_of new.state.map) (outer_at (shape_of old.state.map) f)
      (backs_made tags (length (outer_fins (shape_of old.state.map) f)))
  pub apart : NoRepeats (map (start_at (shape_of new.state.map))
      (backs_made tags (length (outer_fins (shape_of old.state.map) f))))
  pub fins : (t : Tag)
      → Contains (fins_at (shape_of new.state.map) (outer_at (shape_of old.state.map) f)) t
      → Contains (outer_fins (shape_of old.state.map) f) t
      ⊎ Contains (take (4 * length (outer_fins (shape_of old.state.map) f)) tags) t

-- The map is that of the shape with the face raised, which is sound, and nothing else of the state
-- has changed; no other tags were put.
pub record HasRaised (old : StoreView) (f : Tag) (by : Triple) (tags : List Tag)
    (new : StoreView) : Type 0 where
  pub state : new.state ≡ record old.state {
    map = links (raised (shape_of old.state.map) f by tags);
  }
  pub sound : IsSound new.state.map
  pub puts : PutsAmong (tags_raised (shape_of old.state.map) f tags) old new
