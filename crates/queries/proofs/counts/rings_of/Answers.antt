use Rattle.std.proofs.Common.{◌≡◌, Fits, of_z, rules, sym, ap, subst, to_z, w32, w64, ◌∙◌}
use Rattle.std.specs.Prelude.{FitsSigned, nat_abs, pos}
use lib.Dec.{T}
use lib.Signed.{non_neg}
use Rattle.queries.proofs.Exact.{exactly, number-fits, number-kept}
use Rattle.queries.proofs.counts.rings_of.Goals as goal

pub overflow_sub-rings-2 : goal.overflow_sub-rings-2
overflow_sub-rings-2 c =
    let same : to_z w32 (of_z w32 c.args.q) ≡ c.args.q = search rules in
    let sum = exactly c.args.vertices c.args.edges c.args.faces c.args.q c.ranges.vertices.fits c.ranges.edges.fits c.ranges.faces.fits c.ranges.q _ _ _ _ c.from.ensures c.from-2.ensures c.from-3.ensures (c.from-4.ensures ∙ same) in
    subst (FitsSigned w64) (sym (sum ∙ c.requires.2)) (number-fits c.requires.0 c.requires.1)

pub overflow_cast-result : goal.overflow_cast-result
overflow_cast-result c =
    let same : to_z w32 (of_z w32 c.args.q) ≡ c.args.q = search rules in
    let sum = exactly c.args.vertices c.args.edges c.args.faces c.args.q c.ranges.vertices.fits c.ranges.edges.fits c.ranges.faces.fits c.ranges.q _ _ _ _ c.from.ensures c.from-2.ensures c.from-3.ensures (c.from-4.ensures ∙ same) in
    let is = ap (λ z. to_z w64 (of_z w64 z)) (sum ∙ c.requires.2) ∙ number-kept c.requires.0 c.requires.1 in
    subst (λ z. T (non_neg z) × Fits w32 (nat_abs z)) (sym is) (tt, record { fits = c.requires.1 })

pub returns : goal.returns
returns c =
    let same : to_z w32 (of_z w32 c.args.q) ≡ c.args.q = search rules in
    let sum = exactly c.args.vertices c.args.edges c.args.faces c.args.q c.ranges.vertices.fits c.ranges.edges.fits c.ranges.faces.fits c.ranges.q _ _ _ _ c.from.ensures c.from-2.ensures c.from-3.ensures (c.from-4.ensures ∙ same) in
    let is = ap (λ z. to_z w64 (of_z w64 z)) (sum ∙ c.requires.2) ∙ number-kept c.requires.0 c.requires.1 in
    ap (λ z. pos (nat_abs z)) is ∙ sym c.requires.2
