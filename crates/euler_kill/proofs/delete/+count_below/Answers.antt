use Rattle.std.proofs.Common.{◌≡◌, ◌-◌, suc, subst, arith}
use Rattle.euler_kill.specs.Below.{CountsBelow}
use Rattle.euler_kill.proofs.BelowCounted.{counts-all, counts-few, counts-first, counts-more, counts-one, next-owned}
use Rattle.euler_kill.proofs.OwnersBelow.{owned-live}
use Rattle.euler_kill.proofs.delete.+count_below.Goals as goal

pub returns-then-levels-eq0 : goal.returns-then-levels-eq0
returns-then-levels-eq0 g t c = counts-one c.args.store.now.state.map c.args.tag c.args.levels c.if-levels-eq0.true

pub loop-kid-init : goal.loop-kid-init
loop-kid-init g t c = counts-first (c.args.levels - 1) c.args.store.now.state.map c.args.tag c.kids-kids.result

pub count_below-count-requires : goal.count_below-count-requires
count_below-count-requires g t c =
    let m = c.args.store.now.state.map in
    let some = c.if-levels-eq0.false in
    let low = c.decreases in
    let live = owned-live m c.requires.sound c.args.tag c.in-Some.kid
    (next-owned m (c.args.levels - 1) c.args.tag c.kids-kids.result c.loop-kid.kids c.next.new.self (c.in-Some.kid, c.in-Some.field-0-1.now) c.loop-kid.count c.kids-kids.ensures c.loop-kid.invariant c.in-Some.ensures.some) in
    λ κs outlives. (omega (arith, some, low), (outlives, (c.requires.sound, live)))

pub overflow_add-count : goal.overflow_add-count
overflow_add-count g t c =
    let s = c.args.store.now.state in
    let more = counts-more s.map c.requires.sound (c.args.levels - 1) c.args.tag c.kids-kids.result c.kids-kids.ensures c.next.new.self (c.in-Some.kid, c.in-Some.field-0-1.now) c.loop-kid.kids c.loop-kid.count c.count_below-count.result c.loop-kid.invariant c.in-Some.ensures.some c.count_below-count.ensures in
    omega (arith, counts-few s c.blocks-blocks.ensures.ascending c.blocks-blocks.ensures.range c.blocks-blocks.ensures.hosted c.requires.sound (c.args.levels - 1) c.args.tag c.kids-kids.result c.kids-kids.ensures c.requires.live c.next.new.self _ more)

pub loop-kid-preserved : goal.loop-kid-preserved
loop-kid-preserved g t c =
    counts-more c.args.store.now.state.map c.requires.sound (c.args.levels - 1) c.args.tag c.kids-kids.result c.kids-kids.ensures c.next.new.self (c.in-Some.kid, c.in-Some.field-0-1.now) c.loop-kid.kids c.loop-kid.count c.count_below-count.result c.loop-kid.invariant c.in-Some.ensures.some c.count_below-count.ensures

pub returns : goal.returns
returns g t c =
    let m = c.args.store.now.state.map in
    let some = c.if-levels-eq0.false in
    let same : suc (c.args.levels - 1) ≡ c.args.levels = omega (arith, some) in
    subst (λ n. CountsBelow n m c.args.tag c.loop-kid.count) same
    (counts-all m c.requires.sound (c.args.levels - 1) c.args.tag c.kids-kids.result c.kids-kids.ensures c.loop-kid.kids c.loop-kid.count c.loop-kid.invariant c.in_default.ensures.none)
