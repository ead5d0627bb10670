-- The closed form of a prism of n corners: that of its lamina, and that of the sweep of its upper
-- face, whose tags come next. All is counted from the body as place 0:
--
--     the vertex below at corner i: 4, 5, 9 and so on by 4
--     the face below 2, the face above 4n + 1
--     the vertex above at corner i: 4n + 6, 4n + 10 and so on by 4
--     side face i: 8n + 6, 8n + 11 and so on by 5
use Rattle.std.specs.Prelude.{◌≡◌, ℕ, ◌+◌, ◌-◌, ◌*◌, ◌<◌, ℤ, List, [], ◌∷◌, ◌++◌, length, drop, Some}
use Rattle.pk_base.specs.declared.tag.Tag.{Tag}
use Rattle.pk_base.specs.declared.entity.Pair.{Pair}
use Rattle.pk_model.specs.Tags.{tag_at}
use Rattle.pk_plane.specs.Polygons.{corner}
use Rattle.solid_model.specs.Items.{Shape, item_at}
use Rattle.solid_model.specs.Items.Item.{Face, Vertex}
use Rattle.solid_model.specs.Rings.{ring_of}
use Rattle.solid_model.specs.Ranges.{point_of}
use Rattle.solid_model.specs.Lamina.{at_height}
use Rattle.solid_forms.specs.LaminaForm.{outs_of, backs_of}
use Rattle.solid_forms.specs.SweepForm.{SweepSides, ys_of}

-- the fins of the lamina's upper face: f0 to f(n-1) of the sweep
abbrev pub upper_fins : List Tag → ℕ → List Tag
upper_fins tags n = outs_of tags (n - 1) ++ tag_at tags (4 * n + 4) ∷ []

-- the tags of the sweep
abbrev pub sweep_tags : List Tag → ℕ → List Tag
sweep_tags tags n = drop (4 * n + 6) tags

-- The faces of a prism of n corners, and their lists: that below, that above, and the sides.
pub record PrismFaces (R : Shape) (tags : List Tag) (n : ℕ) : Type 0 where
  pub lower : item_at R (tag_at tags 2) ≡ Some (Face (tag_at tags 1) (tag_at tags 3))
  pub lower_list : item_at R (tag_at tags 3) ≡ Some (ring_of (tag_at tags 2)
      (backs_of tags (n - 1) ++ tag_at tags (4 * n + 5) ∷ []))
  pub upper : item_at R (tag_at tags (4 * n + 1))
      ≡ Some (Face (tag_at tags 1) (tag_at tags (4 * n + 2)))
  pub upper_list : item_at R (tag_at tags (4 * n + 2))
      ≡ Some (ring_of (tag_at tags (4 * n + 1)) (ys_of (sweep_tags tags n) n n))
  pub sides : SweepSides R (sweep_tags tags n) (tag_at tags 1) (upper_fins tags n)

-- the vertex above each corner stands there, at this height
abbrev pub UpperPoints : Shape → List Tag → ℤ → List Pair → Type 0
UpperPoints R tags top corners =
    (i : ℕ) → i < length corners → item_at R (tag_at tags (4 * length corners + 6 + 4 * i))
    ≡ Some (Vertex (tag_at tags 0) (point_of (at_height top (corner corners i))))
