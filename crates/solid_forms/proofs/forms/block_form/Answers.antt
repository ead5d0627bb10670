use Rattle.solid_forms.proofs.PrismRows.{block-reached, block-vertices, block-faces}
use Rattle.solid_forms.proofs.forms.block_form.Goals as goal

pub returns-clause-vertices : goal.returns-clause-vertices
returns-clause-vertices c = λ S R tags at size r. block-vertices S R tags at size r.takes (block-reached S R tags at size r)

pub returns-clause-faces : goal.returns-clause-faces
returns-clause-faces c = λ S R tags at size r. block-faces S R tags at size r.takes (block-reached S R tags at size r)

pub returns-clause-lower_parts : goal.returns-clause-lower_parts
returns-clause-lower_parts c = λ S R tags at size r. (block-reached S R tags at size r).stands.parts

pub returns-clause-upper_parts : goal.returns-clause-upper_parts
returns-clause-upper_parts c = λ S R tags at size r. (block-reached S R tags at size r).stands.upper_parts

pub returns-clause-all : goal.returns-clause-all
returns-clause-all c = λ S R tags at size r. (block-reached S R tags at size r).all

pub returns-clause-others : goal.returns-clause-others
returns-clause-others c = λ S R tags at size r. (block-reached S R tags at size r).stands.stays

pub returns-clause-takes : goal.returns-clause-takes
returns-clause-takes c = λ S R tags at size r. (block-reached S R tags at size r).takes_is
