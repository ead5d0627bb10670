use Rattle.std.proofs.Common.{sym, ◌∙◌}
use Rattle.attributes.proofs.Walked.{first-kid, kid-met, kids-later, named-later, walked-kids}
use Rattle.attributes.proofs.Found.{named-found, named-none}
use Rattle.attributes.proofs.reads.attribute_named.Goals as goal

pub loop-tag-init : goal.loop-tag-init
loop-tag-init g c =
    let m = c.args.store.now.state.map in
    (walked-kids m c.args.owner c.kids-kids.result c.kids-kids.ensures, λ t v h. kid-met m c.args.owner c.kids-kids.result c.kids-kids.ensures _ h)

pub returns-then-is_named : goal.returns-then-is_named
returns-then-is_named g c =
    let m = c.args.store.now.state.map in
    let kid = first-kid m c.args.owner c.loop-tag.kids c.next.new.self (c.in-Some.tag, c.in-Some.entity.now) c.in-Some.ensures.some c.loop-tag.invariant.0 in
    sym (named-found m c.args.owner c.args.name (c.in-Some.tag, c.in-Some.entity.now) c.requires kid (sym c.is_named.ensures ∙ c.if-is_named.true))

pub loop-tag-preserved : goal.loop-tag-preserved
loop-tag-preserved g c =
    let m = c.args.store.now.state.map in (
      kids-later m c.args.owner c.loop-tag.kids c.next.new.self (c.in-Some.tag, c.in-Some.entity.now) c.in-Some.ensures.some c.loop-tag.invariant.0,
      named-later m c.args.owner c.args.name c.loop-tag.kids c.next.new.self (c.in-Some.tag, c.in-Some.entity.now) c.in-Some.ensures.some (sym c.is_named.ensures ∙ c.if-is_named.false) c.loop-tag.invariant.1,
    )

pub returns : goal.returns
returns g c = sym (named-none c.args.store.now.state.map c.args.owner c.args.name c.loop-tag.kids c.requires c.loop-tag.invariant.1 c.in_default.ensures.none)
