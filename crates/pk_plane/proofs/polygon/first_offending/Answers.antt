use Rattle.std.proofs.Common.{◌≡◌, length, sym, subst, ◌∙◌, arith}
use Rattle.pk_plane.specs.Polygons.{offends}
use Rattle.pk_plane.proofs.Searches.{AllFail, one-more, find-none, find-some}
use Rattle.pk_plane.proofs.polygon.first_offending.Goals as goal

pub returns-then-offends : goal.returns-then-offends
returns-then-offends c = sym (find-some (offends c.args.corners.now) _ c.loop-i.i c.loop-i-test.true c.loop-i.invariant (sym c.offends.ensures ∙ c.if-offends.true))

pub loop-i-preserved : goal.loop-i-preserved
loop-i-preserved c = one-more (offends c.args.corners.now) c.loop-i.i c.loop-i.invariant (sym c.offends.ensures ∙ c.if-offends.false)

pub returns : goal.returns
returns c =
    let end : c.loop-i.i ≡ length c.args.corners.now = omega arith in
    sym (find-none (offends c.args.corners.now) _ (subst (AllFail (offends c.args.corners.now)) end c.loop-i.invariant))
