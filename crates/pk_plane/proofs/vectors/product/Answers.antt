use Rattle.std.proofs.Common.{◌^◌, ◌∙◌, subst, sym, lit<}
use Rattle.std.specs.Prelude.{◌*ℤ◌}
use Rattle.std.proofs.lemmas.Int.{to_z-of_z}
use mir.Syntax.{w32, w128}
use Rattle.pk_plane.specs.Sizes.{IsWithin}
use Rattle.pk_plane.proofs.Within.{within-mul, within-fits, fits-within, exact}
use Rattle.pk_plane.proofs.vectors.product.Goals as goal

pub returns-clause-size : goal.returns-clause-size
returns-clause-size c =
    let a = subst (IsWithin (2 ^ 31)) (sym (c.from.ensures ∙ to_z-of_z w32 c.args.a c.ranges.a)) (fits-within w32 c.args.a c.ranges.a) in
    let b = subst (IsWithin (2 ^ 31)) (sym (c.from-2.ensures ∙ to_z-of_z w32 c.args.b c.ranges.b)) (fits-within w32 c.args.b c.ranges.b) in
    let both = within-mul (2 ^ 31) (2 ^ 31) c.from.result c.from-2.result a b in
    subst (IsWithin (2 ^ 62)) (sym (exact w128 ◌*ℤ◌ c.from.result c.from-2.result (within-fits w128 (2 ^ 31) _ a (lit< tt)) (within-fits w128 (2 ^ 31) _ b (lit< tt)) (within-fits w128 (2 ^ 62) _ both (lit< tt)))) both
