use Rattle.std.proofs.Common.{◌≡◌, ◌<◌, length, refl, sym, ap, subst, ◌∙◌, Some, None, arith}
use Rattle.std.specs.Prelude.{ℤ, Bool, is_some, find, not}
use Rattle.std.proofs.lemmas.Option.{same_Some}
use Rattle.pk_plane.specs.Turns.{moved}
use Rattle.solid_model.specs.Places.{point_at, start_at}
use Rattle.pk_base.specs.declared.entity.Point.{Point}
use Rattle.solid_model.specs.Ranges.{coordinates_of, is_coordinate}
use Rattle.solid_model.specs.Shapes.{shape_of}
use Rattle.solid_model.specs.Sound.{class_at}
use Rattle.halfedge.specs.LinkedRings.{next_at}
use Rattle.euler_make.specs.Raising.{outer_fins}
use Rattle.euler_make.proofs.LoopWalk.{at-first, at-next, next_place, walk-fin, walk-next, none-more, none-by, one-found, none-at_all, some-by}
use Rattle.euler_make.proofs.sweep.sum_outside.Goals as goal

pub loop-init : goal.loop-init
loop-init g c =
    let m = c.args.store.now.state.map in
    (at-first (outer_fins (shape_of m) c.args.face) c.in_ok-fin.fin (c.first_of_outer.ensures.first ∙ c.in_ok-fin.was), refl)

pub start_of-requires-clause-fin : goal.start_of-requires-clause-fin
start_of-requires-clause-fin g c =
    let m = c.args.store.now.state.map in
    let less : c.loop.counter < length (outer_fins (shape_of m) c.args.face) = subst (λ n. c.loop.counter < n) c.count_fins-fins.ensures c.loop-test.true in
    ap (class_at (shape_of m)) (c.loop.invariant.0 less) ∙ walk-fin m c.requires.sound c.args.face c.requires.face c.loop.counter less

pub ring_next-fin-requires : goal.ring_next-fin-requires
ring_next-fin-requires g c =
    let m = c.args.store.now.state.map in
    let less : c.loop.counter < length (outer_fins (shape_of m) c.args.face) = subst (λ n. c.loop.counter < n) c.count_fins-fins.ensures c.loop-test.true in
    ap (λ t. is_some (next_at m t)) (c.loop.invariant.0 less) ∙ ap is_some (walk-next m c.requires.sound c.args.face c.requires.face c.loop.counter less)

pub loop-preserved : goal.loop-preserved
loop-preserved g c =
    let m = c.args.store.now.state.map in
    let S = shape_of m in
    let fins = outer_fins S c.args.face in
    let test : ℤ → Bool = λ v. not (is_coordinate v) in
    let less : c.loop.counter < length fins = subst (λ n. c.loop.counter < n) c.count_fins-fins.ensures c.loop-test.true in
    let fin_is = c.loop.invariant.0 less in
    let here : c.outside-sum.result ≡ find test (coordinates_of (moved c.args.by (point_at S (start_at S c.loop.fin)))) =
    c.outside-sum.ensures ∙ ap (λ p. find test (coordinates_of p)) (c.moved.ensures ∙ ap (moved c.args.by) c.start_of.ensures) in
    let none = none-by c.outside-sum.result (sym c.is_some.ensures ∙ c.if-is_some.false) in
    let next : Some c.ring_next-fin.result ≡ Some (next_place fins c.loop.counter) = sym c.ring_next-fin.ensures ∙ ap (next_at m) fin_is ∙ walk-next m c.requires.sound c.args.face c.requires.face c.loop.counter less in
    (at-next fins c.loop.counter c.ring_next-fin.result (same_Some _ _ next), none-more S c.args.by fins test c.loop.counter c.loop.fin less fin_is c.loop.invariant.1 (sym here ∙ none))

pub returns-then-is_some : goal.returns-then-is_some
returns-then-is_some g c =
    let m = c.args.store.now.state.map in
    let S = shape_of m in
    let fins = outer_fins S c.args.face in
    let test : ℤ → Bool = λ v. not (is_coordinate v) in
    let less : c.loop.counter < length fins = subst (λ n. c.loop.counter < n) c.count_fins-fins.ensures c.loop-test.true in
    let fin_is = c.loop.invariant.0 less in
    let here : c.outside-sum.result ≡ find test (coordinates_of (moved c.args.by (point_at S (start_at S c.loop.fin)))) =
    c.outside-sum.ensures ∙ ap (λ p. find test (coordinates_of p)) (c.moved.ensures ∙ ap (moved c.args.by) c.start_of.ensures) in
    let some = some-by c.outside-sum.result (sym c.is_some.ensures ∙ c.if-is_some.true) in
    some.1 ∙ sym (one-found S c.args.by fins test c.loop.counter c.loop.fin some.0 less fin_is c.loop.invariant.1 (sym here ∙ some.1))

pub returns : goal.returns
returns g c =
    let m = c.args.store.now.state.map in
    let last : c.loop.counter ≡ c.count_fins-fins.result = (let end = c.loop.auto.counter-end in let past = c.loop-test.false in omega (arith, end, past)) in
    sym (none-at_all (shape_of m) c.args.by (outer_fins (shape_of m) c.args.face) (λ v. not (is_coordinate v)) c.loop.counter (last ∙ c.count_fins-fins.ensures) c.loop.invariant.1)
