use Rattle.std.proofs.Common.{◌≡◌, Option, Some, refl, sym, ap, subst, ◌∙◌}
use Rattle.std.specs.Prelude.{IsSome}
use Rattle.std.proofs.lemmas.Option.{same_Some}
use Rattle.pk_base.specs.declared.entity.Point.{Point}
use Rattle.euler_laws.specs.Operands.{point_read, triple_of}
use Rattle.euler_laws.proofs.KevRead.{known, vertex-there}
use Rattle.euler_laws.proofs.reading.point_beyond.Goals as goal

pub unwrap-point-requires : goal.unwrap-point-requires
unwrap-point-requires g c =
    let p = c.in-Ok.placed in
    let q = c.in-Ok-fin_at.beyond in
    let there = vertex-there c.args.store.now.state.map c.requires.sound c.args.fin c.requires.goes p.mate p.edge p.vertex p.loop_ p.face p.shell p.body c.in-Ok.ensures.found c.in-Ok.ensures.ring q.mate q.edge q.vertex q.loop_ q.face q.shell q.body _ c.in-Ok-fin_at.ensures.found in
    let read = c.point_of.ensures ∙ ap point_read c.get.ensures.value ∙ ap point_read there in
    subst (λ (o : Option Point). IsSome o) (sym read) refl

pub returns : goal.returns
returns g c =
    let p = c.in-Ok.placed in
    let q = c.in-Ok-fin_at.beyond in
    let k = known c.args.store.now.state.map c.requires.sound c.args.fin c.requires.goes p.mate p.edge p.vertex p.loop_ p.face p.shell p.body c.in-Ok.ensures.found c.in-Ok.ensures.ring in
    let there = vertex-there c.args.store.now.state.map c.requires.sound c.args.fin c.requires.goes p.mate p.edge p.vertex p.loop_ p.face p.shell p.body c.in-Ok.ensures.found c.in-Ok.ensures.ring q.mate q.edge q.vertex q.loop_ q.face q.shell q.body _ c.in-Ok-fin_at.ensures.found in
    let read = c.point_of.ensures ∙ ap point_read c.get.ensures.value ∙ ap point_read there in
    let same : k.p ≡ c.unwrap-point.result = same_Some k.p c.unwrap-point.result (sym read ∙ c.unwrap-point.ensures) in
    c.as_triple.ensures ∙ ap triple_of (sym same) ∙ sym k.point_is
