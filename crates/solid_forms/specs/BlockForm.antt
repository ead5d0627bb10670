-- The closed form of a block: its vertices and faces by their places, counted from the body as
-- place 0.
use Rattle.std.specs.Prelude.{◌≡◌, ℕ, ◌+◌, ◌+ℤ◌, List, [], ◌∷◌, map, Some}
use Rattle.pk_base.specs.declared.tag.Tag.{Tag}
use Rattle.pk_base.specs.declared.entity.Point.{Point}
use Rattle.pk_base.specs.declared.entity.Triple.{Triple}
use Rattle.pk_model.specs.Tags.{tag_at}
use Rattle.solid_model.specs.Items.{Shape, item_at}
use Rattle.solid_model.specs.Items.Item.{Face, Vertex}
use Rattle.solid_model.specs.Rings.{ring_of}

-- four points of one height, round the block
abbrev pub round_block : Triple → Triple → List Point
round_block at size =
    record { x = at.x; y = at.y; z = at.z }
    ∷ record { x = at.x +ℤ size.x; y = at.y; z = at.z }
    ∷ record { x = at.x +ℤ size.x; y = at.y +ℤ size.y; z = at.z }
    ∷ record { x = at.x; y = at.y +ℤ size.y; z = at.z } ∷ []

abbrev pub top_of : Triple → Triple → Triple
top_of at size = record at { z = at.z +ℤ size.z }

-- vertices at these places stand at these points
abbrev pub StandAt : Shape → List Tag → List ℕ → List Point → Type 0
StandAt R tags [] points = Unit {0}
StandAt R tags (n ∷ ns) [] = Unit {0}
StandAt R tags (n ∷ ns) (p ∷ ps) =
    (item_at R (tag_at tags n) ≡ Some (Vertex (tag_at tags 0) p)) × StandAt R tags ns ps

-- the four vertices below, and the four above
pub record BlockVertices (R : Shape) (tags : List Tag) (at size : Triple) : Type 0 where
  pub lower : StandAt R tags (4 ∷ 5 ∷ 9 ∷ 13 ∷ []) (round_block at size)
  pub upper : StandAt R tags (22 ∷ 26 ∷ 30 ∷ 34 ∷ []) (round_block (top_of at size) size)

-- the face at this place, whose loop has the next place and these fins
pub record HasFins (R : Shape) (tags : List Tag) (place : ℕ) (fins : List ℕ) : Type 0 where
  pub face : item_at R (tag_at tags place)
      ≡ Some (Face (tag_at tags 1) (tag_at tags (place + 1)))
  pub list : item_at R (tag_at tags (place + 1))
      ≡ Some (ring_of (tag_at tags place) (map (tag_at tags) fins))

-- The face below, the face above, and the four sides.
pub record BlockFaces (R : Shape) (tags : List Tag) : Type 0 where
  pub lower : HasFins R tags 2 (16 ∷ 12 ∷ 8 ∷ 21 ∷ [])
  pub upper : HasFins R tags 17 (42 ∷ 47 ∷ 52 ∷ 57 ∷ [])
  pub first : HasFins R tags 38 (25 ∷ 7 ∷ 28 ∷ 41 ∷ [])
  pub second : HasFins R tags 43 (29 ∷ 11 ∷ 32 ∷ 46 ∷ [])
  pub third : HasFins R tags 48 (33 ∷ 15 ∷ 36 ∷ 51 ∷ [])
  pub fourth : HasFins R tags 53 (37 ∷ 20 ∷ 24 ∷ 56 ∷ [])
