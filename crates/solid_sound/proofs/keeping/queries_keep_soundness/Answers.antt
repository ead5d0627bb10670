use Rattle.pk_base.specs.declared.call.Call.TheVariants.{Ask, Kids, Ring, Counts, Bodies}
use Rattle.solid_model.specs.Places.{live_at, body_at, loop_at}
use Rattle.solid_sound.proofs.rows.Queries.{same-sound, tells-bind, told-same}
use Rattle.solid_sound.proofs.keeping.queries_keep_soundness.Goals as goal

pub returns-clause-ask : goal.returns-clause-ask
returns-clause-ask c = λ t. same-sound (Ask t) (told-same (Ask t) (λ S. tells-bind (live_at S t) _ (λ x. tt)))

pub returns-clause-kids : goal.returns-clause-kids
returns-clause-kids c = λ t. same-sound (Kids t) (told-same (Kids t) (λ S. tells-bind (live_at S t) _ (λ x. tt)))

pub returns-clause-ring : goal.returns-clause-ring
returns-clause-ring c = λ ring. same-sound (Ring ring) (told-same (Ring ring) (λ S. tells-bind (loop_at S ring) _ (λ x. tt)))

pub returns-clause-counts : goal.returns-clause-counts
returns-clause-counts c = λ body. same-sound (Counts body) (told-same (Counts body) (λ S. tells-bind (body_at S body) _ (λ x. tt)))

pub returns-clause-bodies : goal.returns-clause-bodies
returns-clause-bodies c = same-sound Bodies (told-same Bodies (λ S. tt))
