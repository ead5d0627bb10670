-- A shape, the one that kev and then mev make of it, and others that are not the same but for
-- names.
use Rattle.std.specs.Prelude.{ℕ, pos, List, [], ◌∷◌, ◌++◌, map, replicate, None, codes}
use Rattle.pk_base.specs.Blocks.{tag}
use Rattle.pk_base.specs.declared.tag.Tag.{Tag}
use Rattle.solid_model.specs.Items.{Item, Shape, ◌with◌}
use Rattle.solid_model.specs.Items.Item.{Body, Shell, Face, Loop, Fin, Edge, Vertex, Attr}
use Rattle.solid_model.specs.Deaths.{◌without◌}

-- an item with its tag
abbrev pub at : ℕ → Item → Tag × Item
at n x = (tag n, x)

abbrev pub tags : List ℕ → List Tag
tags ns = map tag ns

-- a vertex of body 65 at (x, 0, 0)
abbrev pub vertex : ℕ → Item
vertex x = Vertex (tag 65) (record { x = pos x; y = pos 0; z = pos 0 })

-- an attribute of the name k
abbrev pub attribute : ℕ → ℕ → Item
attribute owner value = Attr (tag owner) (record { 0 = codes "k" ++ replicate 15 0 }) (pos value)

-- The body 65 of two edges one after the other, 71 and 75, over the vertices 69, 70 and 74. Its
-- loop 68 goes out and back. The body has the attribute 78, and the vertex 69 the attribute 79.
abbrev pub two_edges : Shape
two_edges =
    at 65 (Body (tag 66)) ∷
    at 66 (Shell (tag 65) (pos 1)) ∷
    at 67 (Face (tag 66) (tag 68)) ∷
    at 68 (Loop (tag 67) (tags (72 ∷ 76 ∷ 77 ∷ 73 ∷ [])) None) ∷
    at 69 (vertex 0) ∷
    at 70 (vertex 1) ∷
    at 71 (Edge (tag 65)) ∷
    at 72 (Fin (tag 73) (tag 71) (tag 69)) ∷
    at 73 (Fin (tag 72) (tag 71) (tag 70)) ∷
    at 74 (vertex 2) ∷
    at 75 (Edge (tag 65)) ∷
    at 76 (Fin (tag 77) (tag 75) (tag 70)) ∷
    at 77 (Fin (tag 76) (tag 75) (tag 74)) ∷
    at 78 (attribute 65 1) ∷
    at 79 (attribute 69 2) ∷ []

-- After kev of the fin 73, and mev from the fin 76 to the point of the vertex that died. The loop
-- is written from another fin, and the attribute of that vertex is gone.
abbrev pub made_anew : Shape
made_anew =
    at 65 (Body (tag 66)) ∷
    at 66 (Shell (tag 65) (pos 1)) ∷
    at 67 (Face (tag 66) (tag 68)) ∷
    at 68 (Loop (tag 67) (tags (76 ∷ 77 ∷ 82 ∷ 83 ∷ [])) None) ∷
    at 70 (vertex 1) ∷
    at 74 (vertex 2) ∷
    at 75 (Edge (tag 65)) ∷
    at 76 (Fin (tag 77) (tag 75) (tag 70)) ∷
    at 77 (Fin (tag 76) (tag 75) (tag 74)) ∷
    at 78 (attribute 65 1) ∷
    at 80 (vertex 0) ∷
    at 81 (Edge (tag 65)) ∷
    at 82 (Fin (tag 83) (tag 81) (tag 70)) ∷
    at 83 (Fin (tag 82) (tag 81) (tag 80)) ∷ []

-- the vertex, the edge, the fin and its mate that were killed, and those that were made
abbrev pub killed : List Tag
killed = tags (69 ∷ 71 ∷ 73 ∷ 72 ∷ [])

abbrev pub made : List Tag
made = tags (80 ∷ 81 ∷ 82 ∷ 83 ∷ [])

-- a vertex that stayed has another point
abbrev pub moved : Shape
moved = made_anew with at 74 (vertex 3) ∷ []

-- the attribute of the body is gone
abbrev pub robbed : Shape
robbed = made_anew without tags (78 ∷ [])

-- an edge that stayed has another tag
abbrev pub renumbered : Shape
renumbered = made_anew with at 84 (Edge (tag 65)) ∷ [] without tags (75 ∷ [])
