-- mvfs makes a body of one vertex (Mäntylä 1988: make vertex, face, solid).
--
--     before:  nothing           after:  a body, its shell with q 1, one face, and the face's one
--                                        loop, without fins, with the lone vertex
use Rattle.std.specs.Prelude.{pos, [], ◌∷◌, Some}
use Rattle.pk_base.specs.declared.entity.Triple.{Triple}
use Rattle.solid_model.specs.Items.{Shape, ◌with◌}
use Rattle.solid_model.specs.Items.Item.{Body, Shell, Face, Loop, Vertex}
use Rattle.solid_model.specs.Rows.{Row, makes_five, ◌>>◌}
use Rattle.solid_model.specs.Ranges.{is_coordinate, numbers_of, point_of, refuse_outside}

abbrev pub mvfs : Shape → Triple → Row
mvfs S at = do
  refuse_outside is_coordinate (numbers_of at)
  makes_five (λ body shell face loop_ vertex. S with
      (body, Body shell) ∷
      (shell, Shell body (pos 1)) ∷
      (face, Face shell loop_) ∷
      (loop_, Loop face [] (Some vertex)) ∷
      (vertex, Vertex body (point_of at)) ∷ [])
