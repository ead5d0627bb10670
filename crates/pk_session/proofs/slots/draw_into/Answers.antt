use Rattle.session_table.specs.Faces.{view_of}
use Rattle.pk_session.proofs.Blocks.{above}
use Rattle.pk_session.proofs.slots.draw_into.Goals as goal

pub take_block-requires-clause-above : goal.take_block-requires-clause-above
take_block-requires-clause-above g c κs within =
    above (view_of c.args.seat.now) c.args.partition.now c.reserve_block.new.self c.number-p.result c.in-Ok.block (view_of c.draw_block.new.seat) c.requires.noted
    c.in_ok-reserve_block.ensures.stays c.number-p.ensures c.in-Ok.ensures.draws
