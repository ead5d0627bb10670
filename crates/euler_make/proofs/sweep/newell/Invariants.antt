use Rattle.std.proofs.Common.{◌≡◌, ◌*◌, ◌^◌, get_or}
use Rattle.pk_plane.specs.Sizes.{IsTripleWithin}
use Rattle.pk_plane.specs.Vectors.{vector}
use Rattle.solid_model.specs.Newell.{newell}
use Rattle.solid_model.specs.Places.{outer_at}
use Rattle.solid_model.specs.Shapes.{shape_of}
use Rattle.euler_make.specs.Raising.{outer_fins}
use Rattle.euler_make.proofs.LoopWalk.{IsAt}
use Rattle.euler_make.proofs.NewellSums.{sum_from}
use Rattle.euler_make.proofs.sweep.newell.Given as goal

abbrev pub invariant-loop : goal.invariant-loop
invariant-loop g l =
    let S = shape_of l.fn.store.state.map in
    let fins = outer_fins S l.fn.face in
    record {
      at : IsAt fins l.counter l.fin;
      total : sum_from S fins l.counter (vector l.sum.0 l.sum.1 l.sum.2) ≡ newell S (outer_at S l.fn.face);
      size : IsTripleWithin (2 ^ 42 * l.counter) (vector l.sum.0 l.sum.1 l.sum.2);
    }
