use Rattle.solid_forms.proofs.PrismRows.{prism-reached}
use Rattle.solid_forms.proofs.forms.prism_form.Goals as goal

pub returns-clause-faces : goal.returns-clause-faces
returns-clause-faces c = λ S R tags z h corners r. (prism-reached S R tags z h corners r).stands.faces

pub returns-clause-lower : goal.returns-clause-lower
returns-clause-lower c = λ S R tags z h corners r. (prism-reached S R tags z h corners r).stands.points

pub returns-clause-upper : goal.returns-clause-upper
returns-clause-upper c = λ S R tags z h corners r. (prism-reached S R tags z h corners r).stands.upper_points

pub returns-clause-lower_parts : goal.returns-clause-lower_parts
returns-clause-lower_parts c = λ S R tags z h corners r. (prism-reached S R tags z h corners r).stands.parts

pub returns-clause-upper_parts : goal.returns-clause-upper_parts
returns-clause-upper_parts c = λ S R tags z h corners r. (prism-reached S R tags z h corners r).stands.upper_parts

pub returns-clause-all : goal.returns-clause-all
returns-clause-all c = λ S R tags z h corners r. (prism-reached S R tags z h corners r).all

pub returns-clause-others : goal.returns-clause-others
returns-clause-others c = λ S R tags z h corners r. (prism-reached S R tags z h corners r).stands.stays

pub returns-clause-takes : goal.returns-clause-takes
returns-clause-takes c = λ S R tags z h corners r. (prism-reached S R tags z h corners r).takes_is
