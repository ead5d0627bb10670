use Rattle.std.proofs.Common.{◌≡◌, length, refl, sym, ap, subst, ◌∙◌, arith}
use Rattle.std.specs.Prelude.{IsOk}
use Rattle.std.proofs.lemmas.Bool.{not-false}
use Rattle.pk_base.specs.Entity.{same_tag}
use Rattle.solid_model.specs.Rows.{cost_of, Row}
use Rattle.solid_model.specs.Euler.{list_of}
use Rattle.solid_model.specs.Shapes.{shape_of}
use Rattle.pk_base.proofs.Same.{same_means}
use Rattle.halfedge.specs.LinkedRings.{ring_at}
use Rattle.solid_calls.proofs.Sizes.{few-ring}
use Rattle.solid_edits.specs.Deaths.{with_attributes}
use Rattle.euler_kill.proofs.KemrFound.{IsOnBothSides, kemr-is, placed_with}
use Rattle.euler_kill.proofs.KemrReached.{kemr-counts}
use Rattle.euler_kill.proofs.kemr.kemr_need.Goals as goal

pub overflow_add-result : goal.overflow_add-result
overflow_add-result g c =
    let s = c.args.store.now.state in
    let ring = few-ring s c.blocks-blocks.ensures.ascending c.blocks-blocks.ensures.range c.blocks-blocks.ensures.hosted (ring_at s.map c.args.fin) c.in_ok-u.ensures.ring.ring in
    omega (arith, ring, c.ring_len-ring.ensures)

pub overflow_add-result-2 : goal.overflow_add-result-2
overflow_add-result-2 g c =
    let s = c.args.store.now.state in
    let ring = few-ring s c.blocks-blocks.ensures.ascending c.blocks-blocks.ensures.range c.blocks-blocks.ensures.hosted (ring_at s.map c.args.fin) c.in_ok-u.ensures.ring.ring in
    omega (arith, ring, c.ring_len-ring.ensures, c.count_dead-dead.ensures.few)

pub returns : goal.returns
returns g c =
    let m = c.args.store.now.state.map in
    let f = c.args.fin in
    let u = placed_with c.in_ok-u.u (ring_at m f) in
    let w = placed_with c.in_ok-w.w (ring_at m u.mate) in
    let one : u.loop_ ≡ w.loop_ = same_means u.loop_ w.loop_ (not-false (same_tag u.loop_ w.loop_) (sym c.if-ne.ensures)) in
    let at : IsOnBothSides m f u w = record { sound = c.requires; found = c.in_ok-u.ensures.found; other = c.in_ok-w.ensures.found; one = one; ring = refl; in_ring = c.in_ok-u.ensures.ring } in
    let is = sym (kemr-is (shape_of m) f u w at.found at.other at.one) in
    let counts = kemr-counts m f u w at (ap cost_of (sym is)) in
    let dead = c.count_dead-dead.ensures.dead ∙ ap (λ ts. length (with_attributes m ts)) (c.as_slice.ensures ∙ c.edge_of.ensures) in
    record {
      goes = subst (λ (r : Row). IsOk r) is refl;
      tags = ap cost_of is;
      changes = omega (arith, counts, dead, c.ring_len-ring.ensures);
      list = ap list_of is;
    }
