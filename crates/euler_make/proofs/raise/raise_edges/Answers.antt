use Rattle.std.proofs.Common.{◌≡◌, ◌*◌, ◌<◌, length, Some, None, Option, refl, sym, ap, subst, ◌∙◌, arith}
use Rattle.std.specs.Prelude.{is_some}
use Rattle.pk_plane.specs.Turns.{moved}
use Rattle.entity_store.specs.NextTags.{left}
use Rattle.solid_model.specs.Places.{point_at, start_at}
use Rattle.solid_model.specs.Rings.{first_tag}
use Rattle.solid_model.specs.Shapes.{shape_of}
use Rattle.solid_model.specs.Sweep.{triple_of}
use Rattle.solid_model.specs.Sound.{class_at}
use Rattle.halfedge.specs.LinkedRings.{next_at}
use Rattle.solid_calls.specs.Pairs.{HasTags, Takes}
use Rattle.euler_make.specs.Raising.{outer_fins}
use Rattle.euler_make.proofs.EdgesDone.{EdgesDone, edges-start, edges-end, edges-may, edges-has, edges-next, edges-has_next, edges-fin, edges-along}
use Rattle.euler_make.proofs.RaiseDone.{face-class}
use Rattle.euler_make.proofs.raise.raise_edges.Goals as goal

pub first_of_outer-requires-clause-face : goal.first_of_outer-requires-clause-face
first_of_outer-requires-clause-face g c =
    ap (λ s. class_at (shape_of s.state.map) c.args.face) c.view.ensures ∙ face-class (shape_of c.args.rec.now.store.now.state.map) c.args.face c.requires.may.face c.requires.may.found

pub loop-init : goal.loop-init
loop-init g c =
    let old = c.args.rec.now.store.now in
    let has = subst (λ n. HasTags old (4 * n) c.args.tags.now c.args.out.now) c.requires.fins c.requires.tags in (
      edges-start old c.args.face c.args.by c.args.tags.now c.args.out.now c.requires.may has c.unwrap-fin.result
          (ap (λ s. first_tag (outer_fins (shape_of s.state.map) c.args.face)) (sym c.view.ensures) ∙ c.first_of_outer.ensures.first ∙ c.unwrap-fin.ensures),
      refl,
    )

pub start_of-requires-clause-fin : goal.start_of-requires-clause-fin
start_of-requires-clause-fin g c =
    let old = c.args.rec.now.store.now in
    let has = subst (λ n. HasTags old (4 * n) c.args.tags.now c.args.out.now) c.requires.fins c.requires.tags in
    let less : c.loop.counter < length (outer_fins (shape_of old.state.map) c.args.face) = subst (λ n. c.loop.counter < n) c.requires.fins c.loop-test.true in
    ap (λ s. class_at (shape_of s.state.map) c.loop.fin) c.view-in-loop.ensures
    ∙ edges-fin old c.args.face c.args.by c.args.tags.now c.args.out.now c.requires.may has c.loop.counter c.loop.fin c.loop.rec.store.now c.loop.tags c.loop.out c.loop.invariant.0 less

pub mev_do-requires-clause-may : goal.mev_do-requires-clause-may
mev_do-requires-clause-may g c =
    let old = c.args.rec.now.store.now in
    let has = subst (λ n. HasTags old (4 * n) c.args.tags.now c.args.out.now) c.requires.fins c.requires.tags in
    let less : c.loop.counter < length (outer_fins (shape_of old.state.map) c.args.face) = subst (λ n. c.loop.counter < n) c.requires.fins c.loop-test.true in
    let along = edges-along old c.args.face c.args.by c.args.tags.now c.args.out.now c.requires.may has c.loop.counter c.loop.fin c.loop.rec.store.now c.loop.tags c.loop.out c.loop.invariant.0 less in
    let at_is = ap triple_of (c.moved-end.ensures ∙ ap (moved c.args.by) (c.start_of.ensures ∙ ap (λ s. point_at (shape_of s.state.map) (start_at (shape_of s.state.map) c.loop.fin)) c.view-in-loop.ensures ∙ along)) in
    edges-may old c.args.face c.args.by c.args.tags.now c.args.out.now c.requires.may has c.loop.counter c.loop.fin c.loop.rec.store.now c.loop.tags c.loop.out c.loop.invariant.0 less c.moved-end.result at_is

pub mev_do-requires-clause-tags : goal.mev_do-requires-clause-tags
mev_do-requires-clause-tags g c =
    let old = c.args.rec.now.store.now in
    let has = subst (λ n. HasTags old (4 * n) c.args.tags.now c.args.out.now) c.requires.fins c.requires.tags in
    let less : c.loop.counter < length (outer_fins (shape_of old.state.map) c.args.face) = subst (λ n. c.loop.counter < n) c.requires.fins c.loop-test.true in
    let along = edges-along old c.args.face c.args.by c.args.tags.now c.args.out.now c.requires.may has c.loop.counter c.loop.fin c.loop.rec.store.now c.loop.tags c.loop.out c.loop.invariant.0 less in
    let at_is = ap triple_of (c.moved-end.ensures ∙ ap (moved c.args.by) (c.start_of.ensures ∙ ap (λ s. point_at (shape_of s.state.map) (start_at (shape_of s.state.map) c.loop.fin)) c.view-in-loop.ensures ∙ along)) in
    edges-has old c.args.face c.args.by c.args.tags.now c.args.out.now c.requires.may has c.loop.counter c.loop.fin c.loop.rec.store.now c.loop.tags c.loop.out c.loop.invariant.0 less c.moved-end.result at_is

pub ring_next-fin-requires : goal.ring_next-fin-requires
ring_next-fin-requires g c =
    let old = c.args.rec.now.store.now in
    let has = subst (λ n. HasTags old (4 * n) c.args.tags.now c.args.out.now) c.requires.fins c.requires.tags in
    let less : c.loop.counter < length (outer_fins (shape_of old.state.map) c.args.face) = subst (λ n. c.loop.counter < n) c.requires.fins c.loop-test.true in
    let along = edges-along old c.args.face c.args.by c.args.tags.now c.args.out.now c.requires.may has c.loop.counter c.loop.fin c.loop.rec.store.now c.loop.tags c.loop.out c.loop.invariant.0 less in
    let at_is = ap triple_of (c.moved-end.ensures ∙ ap (moved c.args.by) (c.start_of.ensures ∙ ap (λ s. point_at (shape_of s.state.map) (start_at (shape_of s.state.map) c.loop.fin)) c.view-in-loop.ensures ∙ along)) in
    ap (λ s. is_some (next_at s.state.map c.loop.fin)) c.view-in-loop-2.ensures
    ∙ edges-has_next old c.args.face c.args.by c.args.tags.now c.args.out.now c.requires.may has c.loop.counter c.loop.fin c.loop.rec.store.now c.loop.tags c.loop.out c.loop.invariant.0 less c.moved-end.result at_is
    c.mev_do.new.rec.store.now c.mev_do.new.tags c.mev_do.new.out c.mev_do.ensures.done c.mev_do.ensures.takes

pub loop-preserved : goal.loop-preserved
loop-preserved g c =
    let old = c.args.rec.now.store.now in
    let has = subst (λ n. HasTags old (4 * n) c.args.tags.now c.args.out.now) c.requires.fins c.requires.tags in
    let less : c.loop.counter < length (outer_fins (shape_of old.state.map) c.args.face) = subst (λ n. c.loop.counter < n) c.requires.fins c.loop-test.true in
    let along = edges-along old c.args.face c.args.by c.args.tags.now c.args.out.now c.requires.may has c.loop.counter c.loop.fin c.loop.rec.store.now c.loop.tags c.loop.out c.loop.invariant.0 less in
    let at_is = ap triple_of (c.moved-end.ensures ∙ ap (moved c.args.by) (c.start_of.ensures ∙ ap (λ s. point_at (shape_of s.state.map) (start_at (shape_of s.state.map) c.loop.fin)) c.view-in-loop.ensures ∙ along)) in (
      edges-next old c.args.face c.args.by c.args.tags.now c.args.out.now c.requires.may has c.loop.counter c.loop.fin c.loop.rec.store.now c.loop.tags c.loop.out c.loop.invariant.0 less c.moved-end.result at_is
          c.mev_do.new.rec.store.now c.mev_do.new.tags c.mev_do.new.out c.mev_do.ensures.done c.mev_do.ensures.takes c.ring_next-fin.result
          (ap (λ s. next_at s.state.map c.loop.fin) (sym c.view-in-loop-2.ensures) ∙ c.ring_next-fin.ensures),
      c.mev_do.ensures.same_store ∙ c.loop.invariant.1,
    )

pub returns-clause-done : goal.returns-clause-done
returns-clause-done g c =
    let old = c.args.rec.now.store.now in
    let has = subst (λ n. HasTags old (4 * n) c.args.tags.now c.args.out.now) c.requires.fins c.requires.tags in
    let last : c.loop.counter ≡ c.args.fins = (let end = c.loop.auto.counter-end in let past = c.loop-test.false in omega (arith, end, past)) in
    edges-end old c.args.face c.args.by c.args.tags.now c.args.out.now c.requires.may has c.loop.fin c.loop.rec.store.now c.loop.tags c.loop.out
    (subst (λ n. EdgesDone old c.args.face c.args.by c.args.tags.now c.args.out.now n c.loop.fin c.loop.rec.store.now c.loop.tags c.loop.out) (last ∙ c.requires.fins) c.loop.invariant.0)

pub returns-clause-takes : goal.returns-clause-takes
returns-clause-takes g c =
    let last : c.loop.counter ≡ c.args.fins = (let end = c.loop.auto.counter-end in let past = c.loop-test.false in omega (arith, end, past)) in
    subst (λ n. Takes (4 * n) c.args.tags.now c.args.out.now c.loop.tags c.loop.out) last c.loop.invariant.0.folded.takes
