use Rattle.std.proofs.Common.{◌^◌, ◌∙◌, subst, sym, lit<}
use Rattle.std.specs.Prelude.{◌*ℤ◌}
use Rattle.std.proofs.lemmas.Int.{to_z-of_z}
use mir.Syntax.{w64, w128}
use Rattle.pk_plane.specs.Sizes.{IsWithin}
use Rattle.pk_plane.proofs.Within.{within-mul, within-fits, exact}
use Rattle.pk_plane.proofs.sides.area.Goals as goal

pub returns-clause-size : goal.returns-clause-size
returns-clause-size c =
    let a = subst (IsWithin (2 ^ 21)) (sym (c.from.ensures ∙ to_z-of_z w64 c.args.a c.ranges.a)) c.requires.first in
    let b = subst (IsWithin (2 ^ 21)) (sym (c.from-2.ensures ∙ to_z-of_z w64 c.args.b c.ranges.b)) c.requires.second in
    let both = within-mul (2 ^ 21) (2 ^ 21) c.from.result c.from-2.result a b in
    subst (IsWithin (2 ^ 42)) (sym (exact w128 ◌*ℤ◌ c.from.result c.from-2.result (within-fits w128 (2 ^ 21) _ a (lit< tt)) (within-fits w128 (2 ^ 21) _ b (lit< tt)) (within-fits w128 (2 ^ 42) _ both (lit< tt)))) both
