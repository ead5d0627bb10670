use Rattle.solid_forms.proofs.Laminas.{lamina-reached}
use Rattle.solid_forms.proofs.forms.lamina_form.Goals as goal

pub returns-clause-lists : goal.returns-clause-lists
returns-clause-lists c = λ S R tags z corners r. (lamina-reached S R tags z corners r).stands.lists

pub returns-clause-parts : goal.returns-clause-parts
returns-clause-parts c = λ S R tags z corners r. (lamina-reached S R tags z corners r).stands.parts

pub returns-clause-points : goal.returns-clause-points
returns-clause-points c = λ S R tags z corners r. (lamina-reached S R tags z corners r).stands.points

pub returns-clause-all : goal.returns-clause-all
returns-clause-all c = λ S R tags z corners r. (lamina-reached S R tags z corners r).all

pub returns-clause-others : goal.returns-clause-others
returns-clause-others c = λ S R tags z corners r. (lamina-reached S R tags z corners r).stands.stays

pub returns-clause-takes : goal.returns-clause-takes
returns-clause-takes c = λ S R tags z corners r. (lamina-reached S R tags z corners r).takes_is
