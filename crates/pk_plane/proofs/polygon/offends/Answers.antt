use Rattle.std.proofs.Common.{◌≡◌, false, ◌||◌, sym, ap, subst, ◌∙◌, arith}
use Rattle.std.specs.List.{range_with_len, list_any}
use Rattle.pk_plane.specs.Polygons.{same_pair, has_more_in_common}
use Rattle.pk_plane.proofs.Searches.{AllFail, one-more, any-none, any-some, or-true}
use Rattle.pk_plane.proofs.polygon.offends.Goals as goal

pub returns-then-has_more_in_common : goal.returns-then-has_more_in_common
returns-then-has_more_in_common c =
    let p = has_more_in_common c.args.corners.now c.args.i in
    sym (or-true _ (any-some p c.args.i c.loop-j.j c.loop-j-test.true (sym c.has_more_in_common.ensures ∙ c.if-has_more_in_common.true)))

pub loop-j-preserved : goal.loop-j-preserved
loop-j-preserved c = one-more (has_more_in_common c.args.corners.now c.args.i) c.loop-j.j c.loop-j.invariant (sym c.has_more_in_common.ensures ∙ c.if-has_more_in_common.false)

pub returns : goal.returns
returns c =
    let p = has_more_in_common c.args.corners.now c.args.i in
    let end : c.loop-j.j ≡ c.args.i = omega arith in
    let length = subst (λ s. same_pair s.start s.end ≡ false) c.edge-e.ensures.value (sym c.eq.ensures ∙ c.if-eq.false) in
    sym (ap (λ b. b || list_any p (range_with_len 0 c.args.i)) length ∙ any-none p c.args.i (subst (AllFail p) end c.loop-j.invariant))
