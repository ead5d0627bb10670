-- Polygons of a plane: when the corners, in their order, go round a simple polygon,
-- counter-clockwise. Corners are counted from 0; edge i is the closed segment from corner i to the
-- next one, and the last edge goes back to corner 0.
use Rattle.std.specs.Prelude.{ℕ, ◌+◌, ◌==◌, ℤ, pos, ◌+ℤ◌, ◌-ℤ◌, ◌*ℤ◌, int_lt, int_le, Bool, ◌&&◌, ◌||◌, if◌then◌else◌, List, map, length, slice_index_or, find, Option, Some, None}
use Rattle.std.specs.Option.{option_or}
use Rattle.std.specs.List.{range_with_len, list_any, fold}
use Rattle.std.specs.Ordering.{int_eq}
use Rattle.pk_base.specs.declared.entity.Pair.{Pair}
use Rattle.pk_plane.specs.declared.segment.Segment.{Segment}
use Rattle.pk_plane.specs.Sizes.{IsPairWithin, reach}

abbrev pub origin : Pair
origin = record { x = pos 0; y = pos 0 }

-- twice the signed area of the triangle a b c: positive where it goes round counter-clockwise, and
-- zero where the three stand in one line
abbrev pub side : Pair → Pair → Pair → ℤ
side a b c =
    ((b.x -ℤ a.x) *ℤ (c.y -ℤ a.y)) -ℤ ((b.y -ℤ a.y) *ℤ (c.x -ℤ a.x))

-- the product of the vectors from p to a and from p to b
abbrev pub dot_from : Pair → Pair → Pair → ℤ
dot_from p a b = ((a.x -ℤ p.x) *ℤ (b.x -ℤ p.x)) +ℤ ((a.y -ℤ p.y) *ℤ (b.y -ℤ p.y))

-- the ends of the segment have coordinates
pub record IsPlaced (s : Segment) : Type 0 where
  pub start : IsPairWithin reach s.start
  pub end : IsPairWithin reach s.end

-- the point stands on the closed segment: in its line, and not outside its ends
abbrev pub is_on : Segment → Pair → Bool
is_on s p = int_eq (side s.start s.end p) (pos 0) && int_le (dot_from p s.start s.end) (pos 0)

-- the ends of the second segment stand strictly on both sides of the first one's line
abbrev pub is_parted_by : Segment → Segment → Bool
is_parted_by s t =
    int_lt (side s.start s.end t.start *ℤ side s.start s.end t.end) (pos 0)

-- The two closed segments have a point in common: an end of one stands on the other, or each parts
-- the ends of the other.
abbrev pub meet : Segment → Segment → Bool
meet s t =
    is_on s t.start || is_on s t.end || is_on t s.start || is_on t s.end
    || (is_parted_by s t && is_parted_by t s)

-- The segments from p to a and from p to b have another point in common than p: they lead the same
-- way.
abbrev pub overlap_from : Pair → Pair → Pair → Bool
overlap_from p a b = int_eq (side p a b) (pos 0) && int_lt (pos 0) (dot_from p a b)

abbrev pub same_pair : Pair → Pair → Bool
same_pair a b = int_eq a.x b.x && int_eq a.y b.y

abbrev pub corner : List Pair → ℕ → Pair
corner corners i = slice_index_or corners i origin

-- the edge of this number
abbrev pub edge : List Pair → ℕ → Segment
edge corners i = record {
  start = corner corners i;
  end = if (i + 1) == length corners then corner corners 0 else corner corners (i + 1);
}

-- Edge i has a point in common with the earlier edge j, other than the corner at which the one
-- follows the other.
abbrev pub has_more_in_common : List Pair → ℕ → ℕ → Bool
has_more_in_common corners i j =
    let e = edge corners i in
    let f = edge corners j in
    if (j + 1) == i then overlap_from e.start e.end f.start
    else if (j == 0) && ((i + 1) == length corners) then overlap_from e.end e.start f.end
    else meet e f

-- corner i offends: edge i has no length, or has more in common with an earlier one than a corner
abbrev pub offends : List Pair → ℕ → Bool
offends corners i =
    same_pair (edge corners i).start (edge corners i).end
    || list_any (has_more_in_common corners i) (range_with_len 0 i)

abbrev pub sum_of : List ℤ → ℤ
sum_of vs = fold ◌+ℤ◌ (pos 0) vs

-- twice the signed area of the polygon
abbrev pub twice_area : List Pair → ℤ
twice_area corners =
    sum_of (map (λ i. side origin (edge corners i).start (edge corners i).end)
    (range_with_len 0 (length corners)))

-- The least corner that offends; where none does, the number of corners where the polygon goes
-- round clockwise. Nothing for a simple polygon that goes round counter-clockwise.
abbrev pub bad_corner : List Pair → Option ℕ
bad_corner corners =
    option_or (find (offends corners) (range_with_len 0 (length corners)))
    (if int_lt (twice_area corners) (pos 0) then Some (length corners) else None)
