use Rattle.solid_model.specs.Places.{fins_at}
use Rattle.solid_forms.proofs.Raised.{face-not_loop}
use Rattle.solid_forms.proofs.Sweeps.{sweep-reached}
use Rattle.solid_forms.proofs.forms.sweep_form.Goals as goal

pub returns-clause-sides : goal.returns-clause-sides
returns-clause-sides c = λ S R tags f by face is r. (sweep-reached S R tags f by face is r).stands.sides

pub returns-clause-swept : goal.returns-clause-swept
returns-clause-swept c = λ S R tags f by face is r.
    let s = sweep-reached S R tags f by face is r in
    record {
      face_is = s.stands.stays f _ s.swept.face_is (face-not_loop S f face.shell face.body face.outer (fins_at S face.outer) s.swept);
      list = s.stands.list;
    }

pub returns-clause-parts : goal.returns-clause-parts
returns-clause-parts c = λ S R tags f by face is r. (sweep-reached S R tags f by face is r).stands.parts

pub returns-clause-points : goal.returns-clause-points
returns-clause-points c = λ S R tags f by face is r. (sweep-reached S R tags f by face is r).stands.points

pub returns-clause-all : goal.returns-clause-all
returns-clause-all c = λ S R tags f by face is r. (sweep-reached S R tags f by face is r).all

pub returns-clause-others : goal.returns-clause-others
returns-clause-others c = λ S R tags f by face is r. (sweep-reached S R tags f by face is r).stands.stays

pub returns-clause-takes : goal.returns-clause-takes
returns-clause-takes c = λ S R tags f by face is r. (sweep-reached S R tags f by face is r).takes_is
