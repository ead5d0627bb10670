use Rattle.std.proofs.Common.{◌∙◌, ◌∷◌, sym, ap, subst}
use Rattle.pk_base.specs.declared.entity.Entity.{Entity}
use Rattle.solid_motion.proofs.Sought.{Seeks, seek-begins, seek-ends, seek-passes, seek-takes, point_same}
use Rattle.solid_motion.proofs.vertices.least_vertex.Goals as goal

pub loop-tag-init : goal.loop-tag-init
loop-tag-init g c = seek-begins c.args.store.now.state.map c.args.body c.args.wanted c.kids-kids.result c.kids-kids.ensures

pub loop-tag-preserved-then-is_wanted : goal.loop-tag-preserved-then-is_wanted
loop-tag-preserved-then-is_wanted g c =
    let m = c.args.store.now.state.map in
    subst (Seeks m c.args.body c.args.wanted c.next.new.self) (sym c.lesser-least.ensures)
    (seek-takes m c.args.body c.args.wanted c.loop-tag.kids c.next.new.self c.in-Some.tag c.in-Vertex.body c.in-Vertex.point c.loop-tag.least
    (c.in-Some.ensures.some ∙ ap (λ (e : Entity). (c.in-Some.tag, e) ∷ c.next.new.self) c.in-Vertex.is) (sym c.is_wanted.ensures ∙ c.if-is_wanted.true) c.loop-tag.invariant)

pub loop-tag-preserved-else-is_wanted : goal.loop-tag-preserved-else-is_wanted
loop-tag-preserved-else-is_wanted g c =
    let m = c.args.store.now.state.map in
    seek-passes m c.args.body c.args.wanted c.loop-tag.kids c.next.new.self (c.in-Some.tag, c.in-Some.kid.now) c.loop-tag.least c.in-Some.ensures.some
    (λ p e. point_same c.args.wanted c.in-Some.tag c.in-Vertex.body c.args.body c.in-Vertex.point p (sym c.in-Vertex.is ∙ e) (sym c.is_wanted.ensures ∙ c.if-is_wanted.false)) c.loop-tag.invariant

pub loop-tag-preserved : goal.loop-tag-preserved
loop-tag-preserved g c =
    let m = c.args.store.now.state.map in
    seek-passes m c.args.body c.args.wanted c.loop-tag.kids c.next.new.self (c.in-Some.tag, c.in-Some.kid.now) c.loop-tag.least c.in-Some.ensures.some
    (λ p e. absurd (c.in_default-kid.not-Vertex _ _ e)) c.loop-tag.invariant

pub returns : goal.returns
returns g c = seek-ends c.args.store.now.state.map c.args.body c.args.wanted c.loop-tag.kids c.loop-tag.least c.in_default.ensures.none c.loop-tag.invariant
