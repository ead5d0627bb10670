use Rattle.std.proofs.Common.{◌^◌, subst, sym, lit<}
use Rattle.std.specs.Prelude.{◌*ℤ◌}
use mir.Syntax.{w128}
use Rattle.pk_plane.specs.Sizes.{IsWithin}
use Rattle.pk_plane.proofs.Within.{within-mul, within-fits, exact}
use Rattle.pk_plane.proofs.vectors.scaled.Goals as goal

pub returns-clause-value : goal.returns-clause-value
returns-clause-value c =
    let both = within-mul (2 ^ 70) (2 ^ 21) c.args.a c.args.d c.requires.first c.requires.second in
    exact w128 ◌*ℤ◌ c.args.a c.args.d c.ranges.a c.ranges.d (within-fits w128 (2 ^ 91) _ both (lit< tt))

pub returns-clause-size : goal.returns-clause-size
returns-clause-size c =
    let both = within-mul (2 ^ 70) (2 ^ 21) c.args.a c.args.d c.requires.first c.requires.second in
    subst (IsWithin (2 ^ 91)) (sym (exact w128 ◌*ℤ◌ c.args.a c.args.d c.ranges.a c.ranges.d (within-fits w128 (2 ^ 91) _ both (lit< tt)))) both
