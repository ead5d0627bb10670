use Rattle.std.proofs.Common.{ap, ◌∙◌}
use Rattle.session_table.specs.Faces.{Face, view_of}
use Rattle.session_table.specs.Steps.{passed, drew}
use Rattle.pk_session.proofs.Resting.{noted_empty, passed_rests, drew_rests}
use Rattle.pk_session.proofs.slots.draw_block.Goals as goal

pub draw-requires-clause-empty : goal.draw-requires-clause-empty
draw-requires-clause-empty g c =
    let seat = c.args.seat.now in let noted = c.requires.noted in
    ap (λ (f : Face). f.slots c.args.p) c.in-Free.ensures.step ∙ noted_empty (view_of seat) seat.place.me.1 c.args.p noted.0 c.requires.rest.between noted.1

pub returns-in-Past-clause-rest : goal.returns-in-Past-clause-rest
returns-in-Past-clause-rest g c =
    passed_rests c.args.table.now c.args.seat.now c.look.new.seat (view_of c.args.seat.now) c.in-Past.next c.requires.rest c.in-Past.ensures.step.seat c.look.ensures.seat

pub returns-in-Past-draw-clause-rest : goal.returns-in-Past-draw-clause-rest
returns-in-Past-draw-clause-rest g c =
    let v = view_of c.look.new.seat in let told = c.in-Past-draw.ensures.step in let look = c.in-Free.ensures.step in
    passed_rests c.args.table.now c.args.seat.now c.draw.new.seat v c.in-Past-draw.next c.requires.rest
    (told.seat ∙ (λ i. record { view = passed v c.in-Past-draw.next; slots = (look i).slots })) c.draw.ensures.seat

pub returns-in-Block-clause-rest : goal.returns-in-Block-clause-rest
returns-in-Block-clause-rest g c =
    let v = view_of c.look.new.seat in let told = c.in-Block.ensures.step in let look = c.in-Free.ensures.step in
    drew_rests c.args.table.now c.args.seat.now c.draw.new.seat v c.args.p told.note c.in-Block.block c.requires.rest
    (told.seat ∙ (λ i. record { view = drew v c.args.p told.note c.in-Block.block; slots = (look i).slots })) c.draw.ensures.seat
