use Rattle.std.proofs.Common.{◌+◌, ◌*◌, ◌^◌, refl, sym, ap, subst, ◌∙◌, lit<, lit≤, arith}
use mir.Syntax.{w128}
use mir.Val.{to_z}
use Rattle.pk_plane.specs.Sizes.{IsWithin}
use Rattle.pk_plane.specs.Polygons.{origin, side}
use Rattle.pk_plane.proofs.Within.{within-more, within-add}
use Rattle.pk_plane.proofs.Exact.{onto-fits, onto-is}
use Rattle.pk_plane.proofs.Areas.{area-more}
use Rattle.pk_plane.proofs.polygon.twice_area.Goals as goal

pub overflow_add-area : goal.overflow_add-area
overflow_add-area c =
    let area = within-more (2 ^ 43 * c.loop-i.i) (2 ^ 51) (to_z w128 c.loop-i.area-bits) (omega arith) c.loop-i.invariant.size in
    let triangle = within-more (2 ^ 43) (2 ^ 51) c.side-area.result (lit≤ tt) c.side-area.ensures.size in
    onto-fits (2 ^ 51) _ _ area triangle (lit< tt)

pub loop-i-preserved : goal.loop-i-preserved
loop-i-preserved c =
    let area = within-more (2 ^ 43 * c.loop-i.i) (2 ^ 51) (to_z w128 c.loop-i.area-bits) (omega arith) c.loop-i.invariant.size in
    let triangle = within-more (2 ^ 43) (2 ^ 51) c.side-area.result (lit≤ tt) c.side-area.ensures.size in
    let at = c.side-area.ensures.value ∙ ap (λ e. side origin e.start e.end) c.edge-e.ensures.value in
    let added = within-add (2 ^ 43 * c.loop-i.i) (2 ^ 43) (to_z w128 c.loop-i.area-bits) c.side-area.result c.loop-i.invariant.size c.side-area.ensures.size in
    record {
      value = onto-is (2 ^ 51) c.loop-i.invariant.value at area triangle (lit< tt) ∙ sym (area-more c.args.corners.now c.loop-i.i);
      size = subst (IsWithin (2 ^ 43 * (c.loop-i.i + 1))) (sym (onto-is (2 ^ 51) refl refl area triangle (lit< tt))) (within-more (2 ^ 43 * c.loop-i.i + 2 ^ 43) (2 ^ 43 * (c.loop-i.i + 1)) _ (omega arith) added);
    }
