use Rattle.pk_model.proofs.TagsTaken.{replay-sound}
use Rattle.partition.proofs.partition.Partition.short.Goals as goal

pub cost-requires-after_bounds : goal.cost-requires-after_bounds
cost-requires-after_bounds g c κs within =
    let p = c.self.inside in
    (replay-sound g.K.Meaning.modelling (g.met.K.Modeller g.world.𝓛 g.world.𝓜 g.world.𝓡 ((λ s x. x), (λ x. x), (λ x. x), λ x. x)).lawful p.number p.journal.items p.contents.state c.self.invariant.replays).now
