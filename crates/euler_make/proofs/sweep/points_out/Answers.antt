use Rattle.std.proofs.Common.{◌≡◌, ◌^◌, ap, sym, subst, ◌∙◌, rules}
use Rattle.std.specs.Prelude.{pos, int_lt}
use mir.Syntax.{w64, w128}
use mir.Val.{to_z, of_z}
use Rattle.pk_plane.specs.Sizes.{IsTripleWithin}
use Rattle.pk_plane.specs.Vectors.{dot, vector}
use Rattle.euler_make.proofs.NewellSums.{component-within}
use Rattle.euler_make.proofs.sweep.points_out.Goals as goal

pub dot-requires-clause-second : goal.dot-requires-clause-second
dot-requires-clause-second g c =
    let x : to_z w128 (of_z w128 c.from.result) ≡ c.args.by.x = search rules in
    let y : to_z w128 (of_z w128 c.from-2.result) ≡ c.args.by.y = search rules in
    let z : to_z w128 (of_z w128 c.from-3.result) ≡ c.args.by.z = search rules in
    let v = c.requires.vector in
    subst (IsTripleWithin (2 ^ 21)) (λ i. vector (sym x i) (sym y i) (sym z i)) (record { x = component-within c.args.by.x v.0; y = component-within c.args.by.y v.1.0; z = component-within c.args.by.z v.1.1.0 })

pub returns : goal.returns
returns g c =
    let x : to_z w128 (of_z w128 c.from.result) ≡ c.args.by.x = search rules in
    let y : to_z w128 (of_z w128 c.from-2.result) ≡ c.args.by.y = search rules in
    let z : to_z w128 (of_z w128 c.from-3.result) ≡ c.args.by.z = search rules in
    let v : to_z w128 (of_z w128 c.dot.result) ≡ c.dot.result = search rules in
    ap (int_lt (pos 0)) (v ∙ c.dot.ensures ∙ (λ i. dot (c.newell-out.ensures.sum i) (vector (x i) (y i) (z i))))
