-- The closed form of a lamina of n corners. Its tags are counted from its body as place 0:
--
--     body 0, shell 1, the face that looks down 2, its loop 3, the vertex at the first corner 4
--     from corner i to the next one: vertex 4i + 5, edge 4i + 6, fin out 4i + 7, fin back 4i + 8
--     the face that looks up 4n + 1, its loop 4n + 2, the last edge 4n + 3, x 4n + 4, y 4n + 5
use Rattle.std.specs.Prelude.{◌≡◌, ℕ, zero, suc, ◌+◌, ◌-◌, ◌*◌, ◌<◌, ℤ, pos, List, [], ◌∷◌, ◌++◌, map, length, Some}
use Rattle.std.specs.List.{range_with_len}
use Rattle.pk_base.specs.declared.tag.Tag.{Tag}
use Rattle.pk_base.specs.declared.entity.Pair.{Pair}
use Rattle.pk_model.specs.Tags.{tag_at}
use Rattle.pk_plane.specs.Polygons.{corner}
use Rattle.solid_model.specs.Items.{Shape, item_at}
use Rattle.solid_model.specs.Items.Item.{Body, Shell, Face, Fin, Edge, Vertex}
use Rattle.solid_model.specs.Rings.{ring_of}
use Rattle.solid_model.specs.Ranges.{point_of}
use Rattle.solid_model.specs.Lamina.{at_height}

-- the vertex at corner i: 4, 5, 9 and so on by 4
abbrev pub corner_place : ℕ → ℕ
corner_place zero = 4
corner_place (suc i) = 4 * i + 5

-- the fins out from the first m corners, from the first one on
abbrev pub outs_of : List Tag → ℕ → List Tag
outs_of tags m = map (λ i. tag_at tags (4 * i + 7)) (range_with_len 0 m)

-- the fins back to the first m corners, from the last one on
abbrev pub backs_of : List Tag → ℕ → List Tag
backs_of tags zero = []
backs_of tags (suc i) = tag_at tags (4 * i + 8) ∷ backs_of tags i

-- The two faces of a lamina of n corners, and their lists: `back(n-1) .. back1 y` of the face that
-- looks down, `out1 .. out(n-1) x` of the face that looks up.
pub record LaminaLists (R : Shape) (tags : List Tag) (n : ℕ) : Type 0 where
  pub lower : item_at R (tag_at tags 2) ≡ Some (Face (tag_at tags 1) (tag_at tags 3))
  pub lower_list : item_at R (tag_at tags 3) ≡ Some (ring_of (tag_at tags 2)
      (backs_of tags (n - 1) ++ tag_at tags (4 * n + 5) ∷ []))
  pub upper : item_at R (tag_at tags (4 * n + 1))
      ≡ Some (Face (tag_at tags 1) (tag_at tags (4 * n + 2)))
  pub upper_list : item_at R (tag_at tags (4 * n + 2)) ≡ Some (ring_of (tag_at tags (4 * n + 1))
      (outs_of tags (n - 1) ++ tag_at tags (4 * n + 4) ∷ []))

-- The body and its shell, and the edges with their fins.
pub record LaminaParts (R : Shape) (tags : List Tag) (n : ℕ) : Type 0 where
  pub body : item_at R (tag_at tags 0) ≡ Some (Body (tag_at tags 1))
  pub shell : item_at R (tag_at tags 1) ≡ Some (Shell (tag_at tags 0) (pos 1))
  pub edges : (i : ℕ) → i + 1 < n → item_at R (tag_at tags (4 * i + 6))
      ≡ Some (Edge (tag_at tags 0))
  pub outs : (i : ℕ) → i + 1 < n → item_at R (tag_at tags (4 * i + 7)) ≡ Some
      (Fin (tag_at tags (4 * i + 8)) (tag_at tags (4 * i + 6)) (tag_at tags (corner_place i)))
  pub backs : (i : ℕ) → i + 1 < n → item_at R (tag_at tags (4 * i + 8)) ≡ Some
      (Fin (tag_at tags (4 * i + 7)) (tag_at tags (4 * i + 6)) (tag_at tags (4 * i + 5)))
  pub last_edge : item_at R (tag_at tags (4 * n + 3)) ≡ Some (Edge (tag_at tags 0))
  pub x : item_at R (tag_at tags (4 * n + 4)) ≡ Some (Fin (tag_at tags (4 * n + 5))
      (tag_at tags (4 * n + 3)) (tag_at tags (corner_place (n - 1))))
  pub y : item_at R (tag_at tags (4 * n + 5)) ≡ Some (Fin (tag_at tags (4 * n + 4))
      (tag_at tags (4 * n + 3)) (tag_at tags 4))

-- the vertex at each corner stands there, at height z
abbrev pub LaminaPoints : Shape → List Tag → ℤ → List Pair → Type 0
LaminaPoints R tags z corners =
    (i : ℕ) → i < length corners → item_at R (tag_at tags (corner_place i))
    ≡ Some (Vertex (tag_at tags 0) (point_of (at_height z (corner corners i))))
