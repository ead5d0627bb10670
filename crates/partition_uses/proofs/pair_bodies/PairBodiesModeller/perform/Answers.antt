use Rattle.std.proofs.Common.{◌≡◌, ℕ, ◌+◌, ◌++◌, [], ◌∷◌, length, ap, ◌∙◌, arith}
use Rattle.pk_model.specs.Tags.{tag_at}
use Rattle.entity_store.specs.NextTags.{TagsView, left}
use Rattle.partition_uses.proofs.Pairs.{performed, second, two_left}
use Rattle.partition_uses.proofs.pair_bodies.PairBodiesModeller.perform.Goals as goal

pub take-body-requires : goal.take-body-requires
take-body-requires g c = omega (arith, two_left c.args.rec.now.store.now c.args._call.now c.args.tags.now c.args.out c.requires)

pub take-shell-requires : goal.take-shell-requires
take-shell-requires g c =
    let once : c.take-body.new.self ≡ record { blocks = c.args.tags.now.blocks; used = c.args.tags.now.used + 1 } = c.take-body.ensures.used in
    omega (arith, two_left c.args.rec.now.store.now c.args._call.now c.args.tags.now c.args.out c.requires, ap (λ (t : TagsView). t.used) once, ap (λ (t : TagsView). length t.blocks) once)

pub returns-clause-performs : goal.returns-clause-performs
returns-clause-performs g c =
    let old = c.args.tags.now in
    let body = c.take-body.result in
    let shell = c.take-shell.result in
    let next : shell ≡ tag_at (left old) 1 = c.take-shell.ensures.tag ∙ ap (λ (t : TagsView). tag_at (left t) 0) c.take-body.ensures.used ∙ second old.blocks old.used in
    let lists : c.finish.result ≡ body ∷ shell ∷ [] = c.finish.ensures ∙ c.push-2.ensures.items ∙ ap (λ ts. ts ++ shell ∷ []) (c.push.ensures.items ∙ ap (λ ts. ts ++ body ∷ []) c.requires.empty) in
    let used : ℕ → TagsView = λ n. record { blocks = old.blocks; used = n } in
    let takes : c.take-shell.new.self ≡ used (old.used + 2) = c.take-shell.ensures.used ∙ ap (λ (t : TagsView). record { blocks = t.blocks; used = t.used + 1 }) c.take-body.ensures.used ∙ ap used (omega arith) in
    performed c.args.rec.now.store.now c.args._call.now old c.args.out c.requires body shell c.finish.result c.put_pair.new.rec.store.now c.take-shell.new.self c.take-body.ensures.tag next lists c.put_pair.ensures.state c.put_pair.ensures.records takes
