use Rattle.std.proofs.Common.{◌≡◌, ◌<◌, ◌^◌, ap, of_z, rules, sym, subst, to_z, w32, ◌∙◌, ℕ}
use Rattle.std.specs.Prelude.{ℤ, IsOk, pos}
use Rattle.pk_base.specs.declared.act.Reply.TheVariants.{Counts}
use Rattle.solid_model.specs.Rows.{tells}
use Rattle.queries.specs.Formula.{rings_by_formula}
use Rattle.solid_calls.proofs.Sizes.{few-items}
use Rattle.queries.proofs.BodyCounts.{counts-are, counts-goes, rings-fit}
use Rattle.queries.proofs.counts.counts_do.Goals as goal

pub unwrap-shell-requires : goal.unwrap-shell-requires
unwrap-shell-requires g c = subst IsOk (sym c.body_at.ensures) (counts-goes c.args.store.now.state.map c.args.body c.requires.goes)

pub q_of-q-requires-clause-shell : goal.q_of-q-requires-clause-shell
q_of-q-requires-clause-shell g c = (c.args.body, sym c.body_at.ensures ∙ c.unwrap-shell.ensures)

pub rings_of-rings-requires : goal.rings_of-rings-requires
rings_of-rings-requires g c =
    let s = c.args.store.now.state in
    let same : to_z w32 (of_z w32 c.q_of-q.result) ≡ c.q_of-q.result = search rules in
    subst (λ (q : ℤ). (rings : ℕ) × (rings < 2 ^ 32) × (rings_by_formula c.count_parts-vertices.result c.count_parts-edges.result c.count_parts-faces.result q ≡ pos rings)) (sym same)
    (rings-fit s.map c.requires.sound c.args.body c.unwrap-shell.result (sym c.body_at.ensures ∙ c.unwrap-shell.ensures) c.count_parts-vertices.result c.count_parts-edges.result c.count_parts-faces.result c.q_of-q.result
    (record { vertices = c.count_parts-vertices.ensures.parts; edges = c.count_parts-edges.ensures.parts; faces = c.count_parts-faces.ensures.parts; q_is = c.q_of-q.ensures })
    (few-items s c.blocks-blocks.ensures.ascending c.blocks-blocks.ensures.range c.blocks-blocks.ensures.hosted c.requires.sound))

pub returns : goal.returns
returns g c =
    let same : to_z w32 (of_z w32 c.q_of-q.result) ≡ c.q_of-q.result = search rules in
    counts-are c.args.store.now.state.map c.requires.sound c.args.body c.unwrap-shell.result (sym c.body_at.ensures ∙ c.unwrap-shell.ensures) c.count_parts-vertices.result c.count_parts-edges.result c.count_parts-faces.result c.q_of-q.result
    (record { vertices = c.count_parts-vertices.ensures.parts; edges = c.count_parts-edges.ensures.parts; faces = c.count_parts-faces.ensures.parts; q_is = c.q_of-q.ensures })
    c.rings_of-rings.result (c.rings_of-rings.ensures ∙ ap (rings_by_formula c.count_parts-vertices.result c.count_parts-edges.result c.count_parts-faces.result) same)
    ∙ ap (λ (q : ℤ). tells (Counts (record { vertices = c.count_parts-vertices.result; edges = c.count_parts-edges.result; faces = c.count_parts-faces.result; rings = c.rings_of-rings.result; q = q }))) (sym same)
