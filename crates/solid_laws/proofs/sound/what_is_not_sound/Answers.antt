use Rattle.solid_laws.proofs.NotSound.{not_mutual, at_one_vertex, outer_elsewhere, name_twice, two_rounds}
use Rattle.solid_laws.proofs.sound.what_is_not_sound.Goals as goal

pub returns-clause-mate : goal.returns-clause-mate
returns-clause-mate c = not_mutual

pub returns-clause-edge : goal.returns-clause-edge
returns-clause-edge c = at_one_vertex

pub returns-clause-outer : goal.returns-clause-outer
returns-clause-outer c = outer_elsewhere

pub returns-clause-attribute : goal.returns-clause-attribute
returns-clause-attribute c = name_twice

pub returns-clause-vertex : goal.returns-clause-vertex
returns-clause-vertex c = two_rounds
