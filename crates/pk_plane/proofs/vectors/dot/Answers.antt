use Rattle.std.proofs.Common.{◌^◌, ◌∙◌, lit<, lit≤, rules}
use Rattle.std.specs.Prelude.{◌*ℤ◌}
use mir.Syntax.{w128}
use Rattle.pk_plane.proofs.Within.{within-more, operands}
use Rattle.pk_plane.proofs.Exact.{plus-fits, plus-is, sum-is, sum-within}
use Rattle.pk_plane.proofs.vectors.dot.Goals as goal

pub overflow_add-result : goal.overflow_add-result
overflow_add-result c = plus-fits (2 ^ 91) _ _ c.scaled.ensures.size c.scaled-2.ensures.size (lit< tt)

pub overflow_add-result-2 : goal.overflow_add-result-2
overflow_add-result-2 c =
    let two = sum-within (2 ^ 91) c.scaled.ensures.size c.scaled-2.ensures.size (lit< tt) in
    let third = within-more (2 ^ 91) (2 ^ 92) c.scaled-3.result (lit≤ tt) c.scaled-3.ensures.size in
    plus-fits (2 ^ 92) _ _ two third (lit< tt)

pub returns : goal.returns
returns c =
    let x = c.scaled.ensures.value ∙ operands w128 ◌*ℤ◌ c.args.a.0 c.args.d.0 (search rules) (search rules) in
    let y = c.scaled-2.ensures.value ∙ operands w128 ◌*ℤ◌ c.args.a.1 c.args.d.1 (search rules) (search rules) in
    let z = c.scaled-3.ensures.value ∙ operands w128 ◌*ℤ◌ c.args.a.2 c.args.d.2 (search rules) (search rules) in
    let two = sum-within (2 ^ 91) c.scaled.ensures.size c.scaled-2.ensures.size (lit< tt) in
    let third = within-more (2 ^ 91) (2 ^ 92) c.scaled-3.result (lit≤ tt) c.scaled-3.ensures.size in
    plus-is (2 ^ 92) (sum-is (2 ^ 91) x y c.scaled.ensures.size c.scaled-2.ensures.size (lit< tt)) z two third (lit< tt)
