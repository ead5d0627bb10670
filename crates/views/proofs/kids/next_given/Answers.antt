use Rattle.std.proofs.Common.{◌≡◌, [], ap, arith, length, sym, ◌∙◌}
use Rattle.std.specs.Prelude.{filter}
use Rattle.views.specs.Kids.{is_given}
use Rattle.views.proofs.Given.{filter-passes, filter-takes}
use Rattle.views.proofs.kids.next_given.Goals as goal

pub returns-then-is_given-clause-some : goal.returns-then-is_given-clause-some
returns-then-is_given-clause-some g c =
    c.loop-tag.invariant.given
    ∙ filter-takes (is_given c.args.class c.args.but) c.loop-tag.walk c.next.new.self (c.in-Some.tag, c.in-Some.kid.now) c.in-Some.ensures.some (sym c.is_given.ensures ∙ c.if-is_given.true)

pub returns-then-is_given-clause-cost : goal.returns-then-is_given-clause-cost
returns-then-is_given-clause-cost g c =
    let n = ap length c.in-Some.ensures.some in
    let one = c.in-Some.ensures.given in
    let sum = c.loop-tag.invariant.cost in
    omega (arith, n, one, sum)

pub loop-tag-preserved : goal.loop-tag-preserved
loop-tag-preserved g c =
    let n = ap length c.in-Some.ensures.some in
    let one = c.in-Some.ensures.given in
    let sum = c.loop-tag.invariant.cost in
    record {
      given = c.loop-tag.invariant.given
          ∙ filter-passes (is_given c.args.class c.args.but) c.loop-tag.walk c.next.new.self (c.in-Some.tag, c.in-Some.kid.now) c.in-Some.ensures.some (sym c.is_given.ensures ∙ c.if-is_given.false);
      cost = omega (arith, n, one, sum);
    }

pub returns-clause-none : goal.returns-clause-none
returns-clause-none g c = c.loop-tag.invariant.given ∙ ap (filter (is_given c.args.class c.args.but)) c.in_default.ensures.none

pub returns-clause-ended : goal.returns-clause-ended
returns-clause-ended g c = ap (filter (is_given c.args.class c.args.but)) c.in_default.ensures.ended

pub returns-clause-cost : goal.returns-clause-cost
returns-clause-cost g c =
    let n = ap length c.in_default.ensures.none in
    let m = ap length c.in_default.ensures.ended in
    let same = c.in_default.ensures.end in
    let sum = c.loop-tag.invariant.cost in
    omega (arith, n, m, same, sum)
