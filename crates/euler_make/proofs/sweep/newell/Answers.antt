use Rattle.std.proofs.Common.{◌≡◌, ◌+◌, ◌*◌, ◌^◌, ◌<◌, ◌≤◌, length, Some, refl, sym, ap, subst, ◌∙◌, lit≤, arith}
use Rattle.std.specs.Prelude.{ℤ, pos, is_some}
use Rattle.std.proofs.lemmas.Option.{same_Some}
use Rattle.pk_base.specs.declared.entity.Class.TheVariants as class
use Rattle.pk_plane.specs.Sizes.{IsWithin, IsTripleWithin}
use Rattle.pk_plane.specs.Vectors.{cross, plus, vector}
use Rattle.pk_plane.proofs.Within.{within-abs}
use Rattle.solid_model.specs.Shapes.{shape_of}
use Rattle.solid_model.specs.Sound.{class_at}
use Rattle.halfedge.specs.LinkedRings.{next_at}
use Rattle.euler_make.specs.Raising.{outer_fins}
use Rattle.euler_make.proofs.LoopWalk.{at-first, at-next, few-fins, fin-point, next_place, walk-fin, walk-next, walk-next_fin}
use Rattle.euler_make.proofs.NewellSums.{cross-within, point_of_fin, sum-end, sum-next, sum-start, sum_from, triple-more, triple-next}
use Rattle.euler_make.proofs.sweep.newell.Goals as goal

pub loop-init : goal.loop-init
loop-init g c =
    let m = c.args.store.now.state.map in
    let S = shape_of m in
    let fins = outer_fins S c.args.face in
    let zero_in : IsWithin 0 (pos 0) = within-abs 0 (pos 0) (omega arith) in
    record {
      at = at-first fins c.in-Some.first (c.first_of_outer.ensures.first ∙ c.in-Some.is);
      total = sum-start S fins;
      size = record { x = zero_in; y = zero_in; z = zero_in };
    }

pub ring_next-next-requires : goal.ring_next-next-requires
ring_next-next-requires g c =
    let m = c.args.store.now.state.map in
    let S = shape_of m in
    let fins = outer_fins S c.args.face in
    let less : c.loop.counter < length fins = subst (λ n. c.loop.counter < n) c.count_fins-fins.ensures c.loop-test.true in
    let fin_is = c.loop.invariant.at less in
    ap (λ t. is_some (next_at m t)) fin_is ∙ ap is_some (walk-next m c.requires.sound c.args.face c.requires.face c.loop.counter less)

pub start_of-requires-clause-fin : goal.start_of-requires-clause-fin
start_of-requires-clause-fin g c =
    let m = c.args.store.now.state.map in
    let S = shape_of m in
    let fins = outer_fins S c.args.face in
    let less : c.loop.counter < length fins = subst (λ n. c.loop.counter < n) c.count_fins-fins.ensures c.loop-test.true in
    let fin_is = c.loop.invariant.at less in
    ap (class_at S) fin_is ∙ walk-fin m c.requires.sound c.args.face c.requires.face c.loop.counter less

pub start_of-requires-in-loop-clause-fin : goal.start_of-requires-in-loop-clause-fin
start_of-requires-in-loop-clause-fin g c =
    let m = c.args.store.now.state.map in
    let S = shape_of m in
    let fins = outer_fins S c.args.face in
    let less : c.loop.counter < length fins = subst (λ n. c.loop.counter < n) c.count_fins-fins.ensures c.loop-test.true in
    let fin_is = c.loop.invariant.at less in
    let both : Some c.ring_next-next.result ≡ Some (next_place fins c.loop.counter) = sym c.ring_next-next.ensures ∙ ap (next_at m) fin_is ∙ walk-next m c.requires.sound c.args.face c.requires.face c.loop.counter less in
    let next_is = same_Some c.ring_next-next.result (next_place fins c.loop.counter) both in
    ap (class_at S) next_is ∙ walk-next_fin m c.requires.sound c.args.face c.requires.face c.loop.counter less

pub plus-sum-requires-clause-first : goal.plus-sum-requires-clause-first
plus-sum-requires-clause-first g c =
    let m = c.args.store.now.state.map in
    let S = shape_of m in
    let fins = outer_fins S c.args.face in
    let less : c.loop.counter < length fins = subst (λ n. c.loop.counter < n) c.count_fins-fins.ensures c.loop-test.true in
    let fin_is = c.loop.invariant.at less in
    let few = few-fins c.args.store.now.state c.blocks-blocks.ensures.ascending c.blocks-blocks.ensures.range c.blocks-blocks.ensures.hosted c.requires.sound c.args.face c.requires.face in
    triple-more (2 ^ 42 * c.loop.counter) (2 ^ 70) (vector c.loop.sum.0 c.loop.sum.1 c.loop.sum.2) (omega (arith, few, less)) c.loop.invariant.size

pub plus-sum-requires-clause-second : goal.plus-sum-requires-clause-second
plus-sum-requires-clause-second g c =
    let m = c.args.store.now.state.map in
    let S = shape_of m in
    let fins = outer_fins S c.args.face in
    let less : c.loop.counter < length fins = subst (λ n. c.loop.counter < n) c.count_fins-fins.ensures c.loop-test.true in
    let fin_is = c.loop.invariant.at less in
    let both : Some c.ring_next-next.result ≡ Some (next_place fins c.loop.counter) = sym c.ring_next-next.ensures ∙ ap (next_at m) fin_is ∙ walk-next m c.requires.sound c.args.face c.requires.face c.loop.counter less in
    let next_is = same_Some c.ring_next-next.result (next_place fins c.loop.counter) both in
    let fin_class : class_at S c.loop.fin ≡ Some class.Fin = ap (class_at S) fin_is ∙ walk-fin m c.requires.sound c.args.face c.requires.face c.loop.counter less in
    let next_class : class_at S c.ring_next-next.result ≡ Some class.Fin = ap (class_at S) next_is ∙ walk-next_fin m c.requires.sound c.args.face c.requires.face c.loop.counter less in
    let p = point_of_fin S c.loop.fin in
    let q = point_of_fin S c.ring_next-next.result in
    let within = cross-within p q (fin-point m c.requires.sound c.loop.fin fin_class) (fin-point m c.requires.sound c.ring_next-next.result next_class) in
    let product : vector c.cross-product.result.0 c.cross-product.result.1 c.cross-product.result.2 ≡ cross p q =
    (λ i. vector (c.cross-product.ensures.x i) (c.cross-product.ensures.y i) (c.cross-product.ensures.z i)) ∙ (λ i. cross (c.start_of.ensures i) (c.start_of-in-loop.ensures i)) in
    subst (IsTripleWithin (2 ^ 70)) (sym product) (triple-more (2 ^ 42) (2 ^ 70) (cross p q) (lit≤ tt) within)

pub loop-preserved : goal.loop-preserved
loop-preserved g c =
    let m = c.args.store.now.state.map in
    let S = shape_of m in
    let fins = outer_fins S c.args.face in
    let less : c.loop.counter < length fins = subst (λ n. c.loop.counter < n) c.count_fins-fins.ensures c.loop-test.true in
    let fin_is = c.loop.invariant.at less in
    let both : Some c.ring_next-next.result ≡ Some (next_place fins c.loop.counter) = sym c.ring_next-next.ensures ∙ ap (next_at m) fin_is ∙ walk-next m c.requires.sound c.args.face c.requires.face c.loop.counter less in
    let next_is = same_Some c.ring_next-next.result (next_place fins c.loop.counter) both in
    let fin_class : class_at S c.loop.fin ≡ Some class.Fin = ap (class_at S) fin_is ∙ walk-fin m c.requires.sound c.args.face c.requires.face c.loop.counter less in
    let next_class : class_at S c.ring_next-next.result ≡ Some class.Fin = ap (class_at S) next_is ∙ walk-next_fin m c.requires.sound c.args.face c.requires.face c.loop.counter less in
    let p = point_of_fin S c.loop.fin in
    let q = point_of_fin S c.ring_next-next.result in
    let within = cross-within p q (fin-point m c.requires.sound c.loop.fin fin_class) (fin-point m c.requires.sound c.ring_next-next.result next_class) in
    let product : vector c.cross-product.result.0 c.cross-product.result.1 c.cross-product.result.2 ≡ cross p q =
    (λ i. vector (c.cross-product.ensures.x i) (c.cross-product.ensures.y i) (c.cross-product.ensures.z i)) ∙ (λ i. cross (c.start_of.ensures i) (c.start_of-in-loop.ensures i)) in
    let sum = vector c.loop.sum.0 c.loop.sum.1 c.loop.sum.2 in
    let sum_is : vector c.plus-sum.result.0 c.plus-sum.result.1 c.plus-sum.result.2 ≡ plus sum (cross p q) = c.plus-sum.ensures ∙ ap (plus sum) product in
    record {
      at = at-next fins c.loop.counter c.ring_next-next.result next_is;
      total = ap (sum_from S fins (c.loop.counter + 1)) sum_is ∙ sum-next S fins c.loop.counter c.loop.fin c.ring_next-next.result sum less fin_is next_is ∙ c.loop.invariant.total;
      size = subst (IsTripleWithin (2 ^ 42 * (c.loop.counter + 1))) (sym sum_is) (triple-next c.loop.counter sum (cross p q) c.loop.invariant.size within);
    }

pub returns-clause-sum : goal.returns-clause-sum
returns-clause-sum g c =
    let m = c.args.store.now.state.map in
    let S = shape_of m in
    let fins = outer_fins S c.args.face in
    let last : c.loop.counter ≡ c.count_fins-fins.result = (let end = c.loop.auto.counter-end in let past = c.loop-test.false in omega (arith, end, past)) in
    sym (sum-end S fins c.loop.counter (vector c.loop.sum.0 c.loop.sum.1 c.loop.sum.2) (last ∙ c.count_fins-fins.ensures)) ∙ c.loop.invariant.total

pub returns-clause-size : goal.returns-clause-size
returns-clause-size g c =
    let m = c.args.store.now.state.map in
    let S = shape_of m in
    let fins = outer_fins S c.args.face in
    let few = few-fins c.args.store.now.state c.blocks-blocks.ensures.ascending c.blocks-blocks.ensures.range c.blocks-blocks.ensures.hosted c.requires.sound c.args.face c.requires.face in
    let end = c.loop.auto.counter-end in
    let all = c.count_fins-fins.ensures in
    triple-more (2 ^ 42 * c.loop.counter) (2 ^ 70) (vector c.loop.sum.0 c.loop.sum.1 c.loop.sum.2) (omega (arith, few, end, all)) c.loop.invariant.size
