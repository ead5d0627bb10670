-- The sizes of numbers for which the arithmetic is promised.
use Rattle.std.specs.Prelude.{ℕ, ℤ, pos, neg_ℤ, ◌≤ℤ◌, ◌≤◌, List, length}
use Rattle.std.specs.List.{All}
use Rattle.pk_base.specs.declared.entity.Pair.{Pair}
use Rattle.pk_base.specs.declared.entity.Point.{Point}
use Rattle.pk_base.specs.declared.entity.Triple.{Triple}

-- the number is from -n to n
pub record IsWithin (n : ℕ) (v : ℤ) : Type 0 where
  pub low : neg_ℤ (pos n) ≤ℤ v
  pub high : v ≤ℤ pos n

-- the greatest coordinate of a point of a body
abbrev pub reach : ℕ
reach = 1048576

pub record IsPairWithin (n : ℕ) (c : Pair) : Type 0 where
  pub x : IsWithin n c.x
  pub y : IsWithin n c.y

pub record IsPointWithin (n : ℕ) (p : Point) : Type 0 where
  pub x : IsWithin n p.x
  pub y : IsWithin n p.y
  pub z : IsWithin n p.z

pub record IsTripleWithin (n : ℕ) (v : Triple) : Type 0 where
  pub x : IsWithin n v.x
  pub y : IsWithin n v.y
  pub z : IsWithin n v.z

-- the corners of a polygon are 3 to 256, and each x and y is a coordinate
pub record AreCorners (corners : List Pair) : Type 0 where
  pub least : 3 ≤ length corners
  pub most : length corners ≤ 256
  pub placed : All (IsPairWithin reach) corners
