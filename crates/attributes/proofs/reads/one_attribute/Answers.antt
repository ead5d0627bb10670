use Rattle.std.proofs.Common.{sym, ◌∙◌}
use Rattle.attributes.proofs.Walked.{attribute-among, count-walked, first-kid, kids-later, none_more, walked-kids}
use Rattle.attributes.proofs.reads.one_attribute.Goals as goal

pub loop-tag-init : goal.loop-tag-init
loop-tag-init g c =
    let m = c.args.store.now.state.map in
    (walked-kids m c.args.owner c.kids-kids.result c.kids-kids.ensures, count-walked m c.args.owner c.kids-kids.result c.kids-kids.ensures)

pub returns-then-is_attribute-clause-some : goal.returns-then-is_attribute-clause-some
returns-then-is_attribute-clause-some g c =
    let m = c.args.store.now.state.map in
    let kid = first-kid m c.args.owner c.loop-tag.kids c.next.new.self (c.in-Some.tag, c.in-Some.kid.now) c.in-Some.ensures.some c.loop-tag.invariant.0 in
    attribute-among m c.args.owner (c.in-Some.tag, c.in-Some.kid.now) kid (sym c.is_attribute.ensures ∙ c.if-is_attribute.true)

pub loop-tag-preserved : goal.loop-tag-preserved
loop-tag-preserved g c =
    let m = c.args.store.now.state.map in (
      kids-later m c.args.owner c.loop-tag.kids c.next.new.self (c.in-Some.tag, c.in-Some.kid.now) c.in-Some.ensures.some c.loop-tag.invariant.0,
      none_more c.loop-tag.kids c.next.new.self (c.in-Some.tag, c.in-Some.kid.now) c.in-Some.ensures.some (sym c.is_attribute.ensures ∙ c.if-is_attribute.false) ∙ c.loop-tag.invariant.1,
    )
