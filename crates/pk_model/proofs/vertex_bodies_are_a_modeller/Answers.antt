use Rattle.pk_model.proofs.VertexModeller.{vertex_bodies-IsModeller}
use Rattle.pk_model.proofs.vertex_bodies_are_a_modeller.Goals as goal

pub returns : goal.returns
returns c = vertex_bodies-IsModeller
