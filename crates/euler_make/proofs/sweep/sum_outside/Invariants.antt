use Rattle.std.proofs.Common.{◌≡◌, ◌<◌, length, take, None, get_or}
use Rattle.std.specs.Prelude.{find, map, not}
use Rattle.std.specs.List.{flat_map}
use Rattle.pk_base.specs.Blocks.{tag}
use Rattle.pk_plane.specs.Turns.{moved}
use Rattle.solid_model.specs.Places.{point_at, start_at}
use Rattle.solid_model.specs.Ranges.{coordinates_of, is_coordinate}
use Rattle.solid_model.specs.Shapes.{shape_of}
use Rattle.euler_make.specs.Raising.{outer_fins}
use Rattle.euler_make.proofs.LoopWalk.{IsAt, starts}
use Rattle.euler_make.proofs.sweep.sum_outside.Given as goal

abbrev pub invariant-loop : goal.invariant-loop
invariant-loop g l =
    let S = shape_of l.fn.store.state.map in
    let fins = outer_fins S l.fn.face in
    IsAt fins l.counter l.fin
    × (find (λ v. not (is_coordinate v)) (flat_map (λ p. coordinates_of (moved l.fn.by p)) (starts S (take l.counter fins))) ≡ None)
