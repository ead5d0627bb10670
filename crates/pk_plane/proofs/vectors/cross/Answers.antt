use Rattle.std.proofs.Common.{◌^◌, ◌∙◌, lit<, rules}
use Rattle.std.specs.Prelude.{◌*ℤ◌}
use mir.Syntax.{w32}
use Rattle.pk_plane.proofs.Within.{operands}
use Rattle.pk_plane.proofs.Exact.{minus-fits, minus-is}
use Rattle.pk_plane.proofs.vectors.cross.Goals as goal

pub overflow_sub-x : goal.overflow_sub-x
overflow_sub-x c = minus-fits (2 ^ 62) c.product.result c.product-2.result c.product.ensures.size c.product-2.ensures.size (lit< tt)

pub returns-clause-x : goal.returns-clause-x
returns-clause-x c =
    let first = c.product.ensures.value ∙ operands w32 ◌*ℤ◌ c.args.p.y c.args.q.z (search rules) (search rules) in
    let second = c.product-2.ensures.value ∙ operands w32 ◌*ℤ◌ c.args.p.z c.args.q.y (search rules) (search rules) in
    minus-is (2 ^ 62) first second c.product.ensures.size c.product-2.ensures.size (lit< tt)

pub overflow_sub-y : goal.overflow_sub-y
overflow_sub-y c = minus-fits (2 ^ 62) c.product-3.result c.product-4.result c.product-3.ensures.size c.product-4.ensures.size (lit< tt)

pub returns-clause-y : goal.returns-clause-y
returns-clause-y c =
    let first = c.product-3.ensures.value ∙ operands w32 ◌*ℤ◌ c.args.p.z c.args.q.x (search rules) (search rules) in
    let second = c.product-4.ensures.value ∙ operands w32 ◌*ℤ◌ c.args.p.x c.args.q.z (search rules) (search rules) in
    minus-is (2 ^ 62) first second c.product-3.ensures.size c.product-4.ensures.size (lit< tt)

pub overflow_sub-z : goal.overflow_sub-z
overflow_sub-z c = minus-fits (2 ^ 62) c.product-5.result c.product-6.result c.product-5.ensures.size c.product-6.ensures.size (lit< tt)

pub returns-clause-z : goal.returns-clause-z
returns-clause-z c =
    let first = c.product-5.ensures.value ∙ operands w32 ◌*ℤ◌ c.args.p.x c.args.q.y (search rules) (search rules) in
    let second = c.product-6.ensures.value ∙ operands w32 ◌*ℤ◌ c.args.p.y c.args.q.x (search rules) (search rules) in
    minus-is (2 ^ 62) first second c.product-5.ensures.size c.product-6.ensures.size (lit< tt)
