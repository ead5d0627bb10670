-- What is asked where a solid is made of its corners, and what is left. Whether the corners go round
-- a polygon is not asked.
use Rattle.std.specs.Prelude.{◌≡◌, ℕ, ◌+◌, ◌*◌, ◌≤◌, ℤ, ◌+ℤ◌, List, length, take, None, IsTrue}
use Rattle.std.specs.List.{AllByRecursion}
use Rattle.pk_base.specs.declared.tag.Tag.{Tag}
use Rattle.pk_base.specs.declared.entity.Pair.{Pair}
use Rattle.entity_store.specs.Store.{StoreView}
use Rattle.entity_store.specs.Room.{HasRoomForThese, PutsAmong}
use Rattle.solid_model.specs.Folds.{Progress}
use Rattle.solid_model.specs.Lamina.{at_height}
use Rattle.solid_model.specs.Links.{links}
use Rattle.solid_model.specs.Ranges.{is_coordinate, is_size, numbers_of, refuse_outside}
use Rattle.solid_model.specs.Shapes.{shape_of}
use Rattle.solid_model.specs.Sound.{IsSound}

-- the points of the corners at this height have coordinates in range
abbrev pub AreInReach : ℤ → List Pair → Type 0
AreInReach z corners =
    AllByRecursion (λ c. refuse_outside is_coordinate (numbers_of (at_height z c)) ≡ None) corners

-- how many tags a lamina takes
abbrev pub cost_of_lamina : List Pair → ℕ
cost_of_lamina corners = 4 * length corners + 6

-- how many tags a prism takes
abbrev pub cost_of_prism : List Pair → ℕ
cost_of_prism corners = 13 * length corners + 6

-- The map is sound. There are three corners or more, whose points are in reach, and there is room
-- for what is put with the next n tags.
pub record MayMake (s : StoreView) (z : ℤ) (corners : List Pair) (n : ℕ) (tags : List Tag)
    : Type 0 where
  pub sound : IsSound s.state.map
  pub three : 3 ≤ length corners
  pub reach : AreInReach z corners
  pub room : HasRoomForThese s.recording (take n tags)

-- the height is a size, and the upper one is a coordinate
pub record MayRise (z h : ℤ) : Type 0 where
  pub size : IsTrue (is_size h)
  pub top : IsTrue (is_coordinate (z +ℤ h))

-- nothing was made yet
abbrev pub begun : StoreView → List Tag → Progress
begun s tags = record { shape = shape_of s.state.map; tags = tags }

-- The map is that of the shape that was made, which is sound, and nothing else of the state has
-- changed; no other tags were put than the next n.
pub record HasMade (old : StoreView) (n : ℕ) (tags : List Tag) (made : Progress)
    (new : StoreView) : Type 0 where
  pub state : new.state ≡ record old.state { map = links made.shape }
  pub sound : IsSound new.state.map
  pub puts : PutsAmong (take n tags) old new
