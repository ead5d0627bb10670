use Rattle.solid_model.specs.Ranges.{is_coordinate, is_size, numbers_of}
use Rattle.solid_sound.proofs.rows.KeptMotions.{outside-none}
use Rattle.solid_make.proofs.block.block_need.Goals as goal

pub opposite-requires-clause-at : goal.opposite-requires-clause-at
opposite-requires-clause-at g c = outside-none is_coordinate (numbers_of c.args.at) c.in_ok-check_coordinates.ensures

pub opposite-requires-clause-size : goal.opposite-requires-clause-size
opposite-requires-clause-size g c = outside-none is_size (numbers_of c.args.size) c.in_ok-check_sizes.ensures
