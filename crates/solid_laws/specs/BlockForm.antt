-- The closed form of a block of one size: at which places, counted from its body as place 0, its
-- vertices, faces and loops stand, and what the lists of its loops are.
use Rattle.std.specs.Prelude.{ℕ, ◌+◌, pos, ◌&&◌, List, [], ◌∷◌, map, filter}
use Rattle.pk_base.specs.Blocks.{tag}
use Rattle.pk_base.specs.Entity.{same_tag}
use Rattle.pk_base.specs.declared.tag.Tag.{Tag}
use Rattle.pk_base.specs.declared.entity.Class.{Class}
use Rattle.pk_base.specs.declared.entity.Point.{Point}
use Rattle.solid_model.specs.Items.{Shape, class_of_item}
use Rattle.solid_model.specs.Owners.{body_of, same_class}
use Rattle.solid_model.specs.Prism.{after_prism, rectangle}
use Rattle.solid_laws.specs.WorkedCalls.{tags_to}

-- a block of the sizes 2, 3 and 4 at the origin, whose body has tag 65
abbrev pub the_block : Shape
the_block =
    (after_prism (pos 0) (pos 4) (rectangle (pos 0) (pos 0) (pos 2) (pos 3))
    (record { shape = []; tags = tags_to 65 122 })).shape

-- what stands in a body of one class, ascending
abbrev pub class_in_body : Class → Shape → Tag → List Tag
class_in_body c S b =
    map (λ x. x.0) (filter (λ x. same_class (class_of_item x.1) c
    && same_tag (body_of S x.0) b) S)

-- the tags at these places
abbrev pub places : List ℕ → List Tag
places ns = map (λ n. tag (65 + n)) ns

abbrev pub point : ℕ → ℕ → ℕ → Point
point x y z = record { x = pos x; y = pos y; z = pos z }

-- the four vertices below and the four above
abbrev pub block_vertices : List ℕ
block_vertices = 4 ∷ 5 ∷ 9 ∷ 13 ∷ 22 ∷ 26 ∷ 30 ∷ 34 ∷ []

-- the points where they stand
abbrev pub block_points : List Point
block_points =
    point 0 0 0 ∷ point 2 0 0 ∷ point 2 3 0 ∷ point 0 3 0 ∷
    point 0 0 4 ∷ point 2 0 4 ∷ point 2 3 4 ∷ point 0 3 4 ∷ []

-- the face below, the face above, and the sides
abbrev pub block_faces : List ℕ
block_faces = 2 ∷ 17 ∷ 38 ∷ 43 ∷ 48 ∷ 53 ∷ []

-- The lists of their loops. Below: the fins back, from the last one on, and y. Above: the y of the
-- sides. Side i: `bi fi o(i+1) xi`. Each is written from its least tag.
abbrev pub block_lists : List (List ℕ)
block_lists =
    (8 ∷ 21 ∷ 16 ∷ 12 ∷ []) ∷
    (42 ∷ 47 ∷ 52 ∷ 57 ∷ []) ∷
    (7 ∷ 28 ∷ 41 ∷ 25 ∷ []) ∷
    (11 ∷ 32 ∷ 46 ∷ 29 ∷ []) ∷
    (15 ∷ 36 ∷ 51 ∷ 33 ∷ []) ∷
    (20 ∷ 24 ∷ 56 ∷ 37 ∷ []) ∷ []
