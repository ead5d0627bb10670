use Rattle.solid_forms.proofs.ReadAgain.{lamina-shape, sweep-shape, prism-shape, block-shape, move-shape, turn-shape}
use Rattle.solid_forms.proofs.of_maps.calls_reach_their_shapes.Goals as goal

pub returns-clause-lamina : goal.returns-clause-lamina
returns-clause-lamina c = λ z corners. lamina-shape z corners

pub returns-clause-sweep : goal.returns-clause-sweep
returns-clause-sweep c = λ face by. sweep-shape face by

pub returns-clause-prism : goal.returns-clause-prism
returns-clause-prism c = λ z h corners. prism-shape z h corners

pub returns-clause-block : goal.returns-clause-block
returns-clause-block c = λ at size. block-shape at size

pub returns-clause-moves : goal.returns-clause-moves
returns-clause-moves c = λ body by. move-shape body by

pub returns-clause-turns : goal.returns-clause-turns
returns-clause-turns c = λ body axis turns. turn-shape body axis turns
