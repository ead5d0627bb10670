use Rattle.solid_forms.proofs.Sweeps.{sweep-reached}
use Rattle.solid_forms.proofs.SweepPlanes.{sides-plane, swept-plane, others-stay}
use Rattle.solid_forms.proofs.planes.sweep_planes.Goals as goal

pub returns-clause-sides : goal.returns-clause-sides
returns-clause-sides c = λ S R tags f by face is r. sides-plane S R tags f by face is r (sweep-reached S R tags f by face is r)

pub returns-clause-swept : goal.returns-clause-swept
returns-clause-swept c = λ S R tags f by face is r. swept-plane S R tags f by face is r (sweep-reached S R tags f by face is r)

pub returns-clause-others : goal.returns-clause-others
returns-clause-others c = λ S R tags f by face is r. others-stay S R tags f by face is r (sweep-reached S R tags f by face is r)
