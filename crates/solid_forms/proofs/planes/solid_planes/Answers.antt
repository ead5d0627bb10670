use Rattle.solid_forms.proofs.SolidPlanes.{lamina-planes, prism-planes, block-planes}
use Rattle.solid_forms.proofs.planes.solid_planes.Goals as goal

pub returns-clause-lamina : goal.returns-clause-lamina
returns-clause-lamina c = λ S R tags z corners r. lamina-planes S R tags z corners r

pub returns-clause-prism : goal.returns-clause-prism
returns-clause-prism c = λ S R tags z h corners r. prism-planes S R tags z h corners r

pub returns-clause-block : goal.returns-clause-block
returns-clause-block c = λ S R tags at size r. block-planes S R tags at size r
