use Rattle.std.proofs.Common.{◌≡◌, false, refl, sym, ap, subst, ◌∙◌, arith}
use Rattle.std.specs.Prelude.{IsOk}
use Rattle.std.proofs.lemmas.Bool.{not-false}
use Rattle.pk_base.specs.Entity.{same_tag}
use Rattle.solid_model.specs.Rows.{cost_of, Row}
use Rattle.solid_model.specs.Euler.{list_of}
use Rattle.solid_model.specs.Places.{outer_at}
use Rattle.solid_model.specs.Shapes.{shape_of}
use Rattle.halfedge.specs.LinkedRings.{ring_of_any}
use Rattle.solid_calls.proofs.Sizes.{few-attributes, few-ring}
use Rattle.halfedge.proofs.LinkedRings.{any_ring}
use Rattle.halfedge.proofs.Ends.{length-ends}
use Rattle.euler_make.proofs.FinsBeside.{beside-ends}
use Rattle.euler_make.proofs.MekrFound.{AreApart, AreEnds, end_with, mekr-is}
use Rattle.euler_make.proofs.MekrReached.{mekr-counts}
use Rattle.euler_make.proofs.mekr.mekr_need.Goals as goal

pub overflow_add-result-2 : goal.overflow_add-result-2
overflow_add-result-2 g c =
    let s = c.args.store.now.state in
    let beside = beside-ends s.map c.in_ok-u.u.first c.number_beside-beside.result c.in_ok-u.ensures.ring c.number_beside-beside.ensures in
    let two = length-ends (ring_of_any s.map c.in_ok-u.u.first) in
    let joined = few-ring s c.blocks-blocks.ensures.ascending c.blocks-blocks.ensures.range c.blocks-blocks.ensures.hosted (ring_of_any s.map c.in_ok-v.v.first) (any_ring s.map c.in_ok-v.v.first c.in_ok-v.ensures.ring) in
    omega (arith, beside, two, joined, c.len_of_any-joined.ensures)

pub overflow_add-result-3 : goal.overflow_add-result-3
overflow_add-result-3 g c =
    let s = c.args.store.now.state in
    let beside = beside-ends s.map c.in_ok-u.u.first c.number_beside-beside.result c.in_ok-u.ensures.ring c.number_beside-beside.ensures in
    let two = length-ends (ring_of_any s.map c.in_ok-u.u.first) in
    let joined = few-ring s c.blocks-blocks.ensures.ascending c.blocks-blocks.ensures.range c.blocks-blocks.ensures.hosted (ring_of_any s.map c.in_ok-v.v.first) (any_ring s.map c.in_ok-v.v.first c.in_ok-v.ensures.ring) in
    let dead = few-attributes s c.blocks-blocks.ensures.ascending c.blocks-blocks.ensures.range c.blocks-blocks.ensures.hosted c.in_ok-v.v.loop_ in
    omega (arith, beside, two, joined, dead, c.len_of_any-joined.ensures, c.count_attributes-dead.ensures)

pub returns : goal.returns
returns g c =
    let m = c.args.store.now.state.map in
    let k = c.args.keep in
    let r = c.args.ring in
    let x = c.in_ok-u.u in
    let y = c.in_ok-v.v in
    let u = end_with x (ring_of_any m x.first) in
    let v = end_with y (ring_of_any m y.first) in
    let outer : same_tag v.loop_ (outer_at (shape_of m) v.face) ≡ false = ap (same_tag v.loop_) (sym c.in_ok-v.ensures.outer) ∙ sym c.if-eq-2.ensures in
    let apart : AreApart (shape_of m) u v = record { face = not-false (same_tag u.face v.face) (sym c.if-ne.ensures); loops = sym c.if-eq.ensures; outer = outer; ends = sym c.if-eq-3.ensures } in
    let at : AreEnds m k r u v x.first y.first = record {
      sound = c.requires;
      found = c.in_ok-u.ensures.found;
      other = c.in_ok-v.ensures.found;
      apart = apart;
      kept = refl;
      joined = refl;
      kept_ring = c.in_ok-u.ensures.ring;
      joined_ring = c.in_ok-v.ensures.ring;
    } in
    let is = sym (mekr-is (shape_of m) k r u v at.found at.other apart) in
    let counts = mekr-counts m k r u v x.first y.first at in
    let beside = beside-ends m x.first c.number_beside-beside.result c.in_ok-u.ensures.ring c.number_beside-beside.ensures in
    record {
      goes = subst (λ (o : Row). IsOk o) is refl;
      tags = ap cost_of is;
      changes = omega (arith, counts, beside, c.len_of_any-joined.ensures, c.count_attributes-dead.ensures);
      list = ap list_of is;
    }
