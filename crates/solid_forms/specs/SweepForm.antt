-- The closed form of the sweep of a face whose loop has the fins f0 to f(n-1). Its tags are counted
-- from place 0:
--
--     at the start of fi: vertex 4i, edge 4i + 1, fin out 4i + 2, fin back 4i + 3
--     side face i 4n + 5i, its loop 4n + 5i + 1, its upper edge 4n + 5i + 2, xi 4n + 5i + 3, and yi
--     4n + 5i + 4
use Rattle.std.specs.Prelude.{◌≡◌, ◌≢◌, ℕ, ◌+◌, ◌*◌, ◌<◌, ◌==◌, if◌then◌else◌, List, [], ◌∷◌, map, length, Some}
use Rattle.std.specs.List.{range_with_len}
use Rattle.pk_base.specs.declared.tag.Tag.{Tag}
use Rattle.pk_base.specs.declared.entity.Triple.{Triple}
use Rattle.pk_model.specs.Tags.{tag_at}
use Rattle.pk_plane.specs.Turns.{moved}
use Rattle.solid_model.specs.Items.{Item, Shape, item_at}
use Rattle.solid_model.specs.Items.Item.{Face, Fin, Edge, Vertex}
use Rattle.solid_model.specs.Rings.{ring_of}
use Rattle.solid_model.specs.Places.{PlacedFace, start_at, point_at}

-- the number after i round a circle of n
abbrev pub next_round : ℕ → ℕ → ℕ
next_round n i = if (i + 1) == n then 0 else (i + 1)

-- what is made at the start of fi, and with side face i
abbrev pub new_vertex : List Tag → ℕ → Tag
new_vertex tags i = tag_at tags (4 * i)

abbrev pub out_at : List Tag → ℕ → Tag
out_at tags i = tag_at tags (4 * i + 2)

abbrev pub back_at : List Tag → ℕ → Tag
back_at tags i = tag_at tags (4 * i + 3)

abbrev pub side_face : List Tag → ℕ → ℕ → Tag
side_face tags n i = tag_at tags (4 * n + 5 * i)

abbrev pub x_at : List Tag → ℕ → ℕ → Tag
x_at tags n i = tag_at tags (4 * n + 5 * i + 3)

abbrev pub y_at : List Tag → ℕ → ℕ → Tag
y_at tags n i = tag_at tags (4 * n + 5 * i + 4)

-- y0 and so on, so many
abbrev pub ys_of : List Tag → ℕ → ℕ → List Tag
ys_of tags n m = map (y_at tags n) (range_with_len 0 m)

-- Side face i is in the shell, and has the list `bi fi o(i+1) xi`; the last one `bn fn o1 xn`.
pub record SweepSides (R : Shape) (tags : List Tag) (shell : Tag) (fins : List Tag) : Type 0 where
  pub faces : (i : ℕ) → i < length fins → item_at R (side_face tags (length fins) i)
      ≡ Some (Face shell (tag_at tags (4 * length fins + 5 * i + 1)))
  pub lists : (i : ℕ) → i < length fins
      → item_at R (tag_at tags (4 * length fins + 5 * i + 1))
      ≡ Some (ring_of (side_face tags (length fins) i)
      (back_at tags i ∷ tag_at fins i ∷ out_at tags (next_round (length fins) i)
      ∷ x_at tags (length fins) i ∷ []))

-- The swept face is as it was, and the list of its loop is `y1 .. yn`.
pub record SweptFace (R : Shape) (tags : List Tag) (f : Tag) (face : PlacedFace) (n : ℕ)
    : Type 0 where
  pub face_is : item_at R f ≡ Some (Face face.shell face.outer)
  pub list : item_at R face.outer ≡ Some (ring_of f (ys_of tags n n))

-- The edges and their fins: those from the old vertices to the new ones, and the upper ones.
pub record SweepParts (S R : Shape) (tags : List Tag) (body : Tag) (fins : List Tag) : Type 0 where
  pub edges : (i : ℕ) → i < length fins → item_at R (tag_at tags (4 * i + 1)) ≡ Some (Edge body)
  pub outs : (i : ℕ) → i < length fins → item_at R (out_at tags i)
      ≡ Some (Fin (back_at tags i) (tag_at tags (4 * i + 1)) (start_at S (tag_at fins i)))
  pub backs : (i : ℕ) → i < length fins → item_at R (back_at tags i)
      ≡ Some (Fin (out_at tags i) (tag_at tags (4 * i + 1)) (new_vertex tags i))
  pub upper : (i : ℕ) → i < length fins
      → item_at R (tag_at tags (4 * length fins + 5 * i + 2)) ≡ Some (Edge body)
  pub xs : (i : ℕ) → i < length fins → item_at R (x_at tags (length fins) i)
      ≡ Some (Fin (y_at tags (length fins) i) (tag_at tags (4 * length fins + 5 * i + 2))
      (new_vertex tags (next_round (length fins) i)))
  pub ys : (i : ℕ) → i < length fins → item_at R (y_at tags (length fins) i)
      ≡ Some (Fin (x_at tags (length fins) i) (tag_at tags (4 * length fins + 5 * i + 2))
      (new_vertex tags i))

-- the new vertex i is the start of fi, moved by the vector
abbrev pub SweepPoints : Shape → Shape → List Tag → Triple → Tag → List Tag → Type 0
SweepPoints S R tags by body fins =
    (i : ℕ) → i < length fins → item_at R (new_vertex tags i)
    ≡ Some (Vertex body (moved by (point_at S (start_at S (tag_at fins i)))))

-- all but the loop stands as it was
abbrev pub StaysBut : Tag → Shape → Shape → Type 0
StaysBut l S R = (t : Tag) (x : Item) → item_at S t ≡ Some x → t ≢ l → item_at R t ≡ Some x
