use Rattle.std.proofs.Common.{◌^◌, ap, lit<}
use Rattle.std.specs.Prelude.{pos, ◌*ℤ◌, int_lt}
use mir.Syntax.{w128}
use Rattle.pk_plane.proofs.Within.{within-mul, within-fits, exact, fits}
use Rattle.pk_plane.proofs.Exact.{gaps-are}
use Rattle.pk_plane.proofs.segment.is_parted_by.Goals as goal

pub overflow_mul-result : goal.overflow_mul-result
overflow_mul-result c =
    let both = within-mul (2 ^ 43) (2 ^ 43) c.side.result c.side-2.result c.side.ensures.size c.side-2.ensures.size in
    fits w128 ◌*ℤ◌ c.side.result c.side-2.result (within-fits w128 (2 ^ 43) _ c.side.ensures.size (lit< tt)) (within-fits w128 (2 ^ 43) _ c.side-2.ensures.size (lit< tt)) (within-fits w128 (2 ^ 86) _ both (lit< tt))

pub returns : goal.returns
returns c =
    let both = within-mul (2 ^ 43) (2 ^ 43) c.side.result c.side-2.result c.side.ensures.size c.side-2.ensures.size in
    let product = exact w128 ◌*ℤ◌ c.side.result c.side-2.result (within-fits w128 (2 ^ 43) _ c.side.ensures.size (lit< tt)) (within-fits w128 (2 ^ 43) _ c.side-2.ensures.size (lit< tt)) (within-fits w128 (2 ^ 86) _ both (lit< tt)) in
    ap (λ z. int_lt z (pos 0)) (gaps-are product c.side.ensures.value c.side-2.ensures.value)
