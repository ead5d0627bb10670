-- Shapes that are not sound, each in one way.
use Rattle.std.specs.Prelude.{ℕ, pos, List, [], ◌∷◌, map, None, codes}
use Rattle.pk_base.specs.Blocks.{tag}
use Rattle.pk_base.specs.declared.tag.Tag.{Tag}
use Rattle.solid_model.specs.Items.{Item, Shape, ◌with◌}
use Rattle.solid_model.specs.Items.Item.{Body, Shell, Face, Loop, Fin, Edge, Vertex, Attr}
use Rattle.solid_laws.specs.WorkedCalls.{name}

-- an item with its tag
abbrev pub at : ℕ → Item → Tag × Item
at n x = (tag n, x)

abbrev pub tags : List ℕ → List Tag
tags ns = map tag ns

-- a vertex of body 65 at (x, 0, 0)
abbrev pub vertex : ℕ → Item
vertex x = Vertex (tag 65) (record { x = pos x; y = pos 0; z = pos 0 })

-- The body 65 of two edges one after the other, 71 and 75, over the vertices 69, 70 and 74. Its
-- loop 68 goes out and back.
abbrev pub two_edges : Shape
two_edges =
    at 65 (Body (tag 66)) ∷
    at 66 (Shell (tag 65) (pos 1)) ∷
    at 67 (Face (tag 66) (tag 68)) ∷
    at 68 (Loop (tag 67) (tags (72 ∷ 76 ∷ 77 ∷ 73 ∷ [])) None) ∷
    at 69 (vertex 0) ∷
    at 70 (vertex 1) ∷
    at 71 (Edge (tag 65)) ∷
    at 72 (Fin (tag 73) (tag 71) (tag 69)) ∷
    at 73 (Fin (tag 72) (tag 71) (tag 70)) ∷
    at 74 (vertex 2) ∷
    at 75 (Edge (tag 65)) ∷
    at 76 (Fin (tag 77) (tag 75) (tag 70)) ∷
    at 77 (Fin (tag 76) (tag 75) (tag 74)) ∷ []

-- 72 has the mate 77, whose mate is 76
abbrev pub mate_not_mutual : Shape
mate_not_mutual = two_edges with at 72 (Fin (tag 77) (tag 71) (tag 69)) ∷ []

-- the edge 75 starts and ends at the vertex 70
abbrev pub edge_at_one_vertex : Shape
edge_at_one_vertex = two_edges with at 77 (Fin (tag 76) (tag 75) (tag 70)) ∷ []

-- the face 79 has the outer loop 68, which is a loop of the face 67
abbrev pub outer_of_another : Shape
outer_of_another = two_edges with at 79 (Face (tag 66) (tag 68)) ∷ []

-- two attributes of the body have the name k
abbrev pub one_name_twice : Shape
one_name_twice = two_edges with
    at 78 (Attr (tag 65) (name (codes "k")) (pos 1)) ∷
    at 79 (Attr (tag 65) (name (codes "k")) (pos 2)) ∷ []

-- Two edges, each with a face of its own, whose loops go out and back between the same two vertices
-- 69 and 70. At each vertex start two fins, and each comes after its own mate: that is two cycles.
abbrev pub two_cycles : Shape
two_cycles =
    at 65 (Body (tag 66)) ∷
    at 66 (Shell (tag 65) (pos 1)) ∷
    at 67 (Face (tag 66) (tag 68)) ∷
    at 68 (Loop (tag 67) (tags (72 ∷ 73 ∷ [])) None) ∷
    at 69 (vertex 0) ∷
    at 70 (vertex 1) ∷
    at 71 (Edge (tag 65)) ∷
    at 72 (Fin (tag 73) (tag 71) (tag 69)) ∷
    at 73 (Fin (tag 72) (tag 71) (tag 70)) ∷
    at 74 (Face (tag 66) (tag 75)) ∷
    at 75 (Loop (tag 74) (tags (77 ∷ 78 ∷ [])) None) ∷
    at 76 (Edge (tag 65)) ∷
    at 77 (Fin (tag 78) (tag 76) (tag 69)) ∷
    at 78 (Fin (tag 77) (tag 76) (tag 70)) ∷ []
