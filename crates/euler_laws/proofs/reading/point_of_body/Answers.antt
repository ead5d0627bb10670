use Rattle.std.proofs.Common.{◌≡◌, Option, refl, sym, ap, subst, ◌∙◌}
use Rattle.std.specs.Prelude.{IsSome}
use Rattle.std.proofs.lemmas.Option.{same_Some}
use Rattle.pk_base.specs.declared.entity.Point.{Point}
use Rattle.euler_laws.specs.Operands.{point_read, triple_of}
use Rattle.euler_laws.proofs.KvfsRead.{has-vertex, vertex-point}
use Rattle.euler_laws.proofs.reading.point_of_body.Goals as goal

pub vertex_of-vertex-requires : goal.vertex_of-vertex-requires
vertex_of-vertex-requires g c = has-vertex c.args.store.now.state.map c.requires.sound c.args.body c.requires.goes

pub unwrap-point-requires : goal.unwrap-point-requires
unwrap-point-requires g c =
    let there = c.vertex_of-vertex.ensures in
    let read = c.point_of.ensures ∙ ap point_read c.get.ensures.value ∙ ap point_read there.1 in
    subst (λ (o : Option Point). IsSome o) (sym read) refl

pub returns : goal.returns
returns g c =
    let there = c.vertex_of-vertex.ensures in
    let read = c.point_of.ensures ∙ ap point_read c.get.ensures.value ∙ ap point_read there.1 in
    let same : there.0 ≡ c.unwrap-point.result = same_Some there.0 c.unwrap-point.result (sym read ∙ c.unwrap-point.ensures) in
    c.as_triple.ensures ∙ ap triple_of (sym same) ∙ vertex-point c.args.store.now.state.map c.requires.sound c.args.body c.requires.goes c.vertex_of-vertex.result there.0 there.1
