use Rattle.std.proofs.Common.{◌≡◌, None, Some, sym, ap, ◌∙◌}
use Rattle.pk_model.specs.State.{PartitionState}
use Rattle.pk_model.specs.Step.{short}
use Rattle.world_core.specs.World.{partition_at}
use Rattle.serial_run.specs.Serial.{draws}
use Rattle.serial_run.proofs.Events.{drawn_enough, drawn_spent}
use Rattle.serial_run.proofs.Drawing.{as_drawn}
use Rattle.serial_run.proofs.acts.do_act.Goals as goal

pub perform-requires-clause-thread : goal.perform-requires-clause-thread
perform-requires-clause-thread g c κs within = c.in_ok-draw.ensures.thread

pub perform-requires-clause-held : goal.perform-requires-clause-held
perform-requires-clause-held g c κs within =
    let K = g.K.Meaning.modelling in
    let w = c.args.world.now in
    let count = c.short-count.ensures ∙ ap (λ (s : PartitionState). short K s c.args.act) c.partition.ensures.state in
    let drawn : draws K c.args.t c.args.p (short K (partition_at w c.args.p).state c.args.act) w ≡ as_drawn c.draw.new.world None = ap (λ k. draws K c.args.t c.args.p k w) (sym count) ∙ c.in_ok-draw.ensures.drawn ∙ ap (as_drawn c.draw.new.world) c.in-None.is in
    (drawn_enough K (g.met.K.Modeller g.world.𝓛 g.world.𝓜 g.world.𝓡 ((λ s x. x), (λ x. x), (λ x. x), λ x. x)).lawful w c.draw.new.world c.args.t c.args.p c.args.act c.requires.session c.requires.thread.0 c.requires.thread.1 c.requires.held drawn).0

pub perform-requires-clause-enough : goal.perform-requires-clause-enough
perform-requires-clause-enough g c κs within =
    let K = g.K.Meaning.modelling in
    let w = c.args.world.now in
    let count = c.short-count.ensures ∙ ap (λ (s : PartitionState). short K s c.args.act) c.partition.ensures.state in
    let drawn : draws K c.args.t c.args.p (short K (partition_at w c.args.p).state c.args.act) w ≡ as_drawn c.draw.new.world None = ap (λ k. draws K c.args.t c.args.p k w) (sym count) ∙ c.in_ok-draw.ensures.drawn ∙ ap (as_drawn c.draw.new.world) c.in-None.is in
    (drawn_enough K (g.met.K.Modeller g.world.𝓛 g.world.𝓜 g.world.𝓡 ((λ s x. x), (λ x. x), (λ x. x), λ x. x)).lawful w c.draw.new.world c.args.t c.args.p c.args.act c.requires.session c.requires.thread.0 c.requires.thread.1 c.requires.held drawn).1

pub give_up-requires-clause-thread : goal.give_up-requires-clause-thread
give_up-requires-clause-thread g c κs within = c.in_ok-draw.ensures.thread

pub give_up-requires-clause-held : goal.give_up-requires-clause-held
give_up-requires-clause-held g c κs within =
    let K = g.K.Meaning.modelling in
    let w = c.args.world.now in
    let next = c.in-Some.next in
    let count = c.short-count.ensures ∙ ap (λ (s : PartitionState). short K s c.args.act) c.partition.ensures.state in
    let drawn : draws K c.args.t c.args.p (short K (partition_at w c.args.p).state c.args.act) w ≡ as_drawn c.draw.new.world (Some next) = ap (λ k. draws K c.args.t c.args.p k w) (sym count) ∙ c.in_ok-draw.ensures.drawn ∙ ap (as_drawn c.draw.new.world) c.in-Some.is in
    (drawn_spent K (g.met.K.Modeller g.world.𝓛 g.world.𝓜 g.world.𝓡 ((λ s x. x), (λ x. x), (λ x. x), λ x. x)).lawful w c.draw.new.world c.args.t c.args.p c.args.act next c.requires.session c.requires.thread.0 c.requires.thread.1 c.requires.held drawn).0

pub give_up-requires-clause-short : goal.give_up-requires-clause-short
give_up-requires-clause-short g c κs within =
    let K = g.K.Meaning.modelling in
    let w = c.args.world.now in
    let next = c.in-Some.next in
    let count = c.short-count.ensures ∙ ap (λ (s : PartitionState). short K s c.args.act) c.partition.ensures.state in
    let drawn : draws K c.args.t c.args.p (short K (partition_at w c.args.p).state c.args.act) w ≡ as_drawn c.draw.new.world (Some next) = ap (λ k. draws K c.args.t c.args.p k w) (sym count) ∙ c.in_ok-draw.ensures.drawn ∙ ap (as_drawn c.draw.new.world) c.in-Some.is in
    (drawn_spent K (g.met.K.Modeller g.world.𝓛 g.world.𝓜 g.world.𝓡 ((λ s x. x), (λ x. x), (λ x. x), λ x. x)).lawful w c.draw.new.world c.args.t c.args.p c.args.act next c.requires.session c.requires.thread.0 c.requires.thread.1 c.requires.held drawn).1

pub give_up-requires-clause-above : goal.give_up-requires-clause-above
give_up-requires-clause-above g c κs within =
    let K = g.K.Meaning.modelling in
    let w = c.args.world.now in
    let next = c.in-Some.next in
    let count = c.short-count.ensures ∙ ap (λ (s : PartitionState). short K s c.args.act) c.partition.ensures.state in
    let drawn : draws K c.args.t c.args.p (short K (partition_at w c.args.p).state c.args.act) w ≡ as_drawn c.draw.new.world (Some next) = ap (λ k. draws K c.args.t c.args.p k w) (sym count) ∙ c.in_ok-draw.ensures.drawn ∙ ap (as_drawn c.draw.new.world) c.in-Some.is in
    (drawn_spent K (g.met.K.Modeller g.world.𝓛 g.world.𝓜 g.world.𝓡 ((λ s x. x), (λ x. x), (λ x. x), λ x. x)).lawful w c.draw.new.world c.args.t c.args.p c.args.act next c.requires.session c.requires.thread.0 c.requires.thread.1 c.requires.held drawn).2

pub give_up-requires-clause-spent : goal.give_up-requires-clause-spent
give_up-requires-clause-spent g c κs within =
    let K = g.K.Meaning.modelling in
    let w = c.args.world.now in
    let next = c.in-Some.next in
    let count = c.short-count.ensures ∙ ap (λ (s : PartitionState). short K s c.args.act) c.partition.ensures.state in
    let drawn : draws K c.args.t c.args.p (short K (partition_at w c.args.p).state c.args.act) w ≡ as_drawn c.draw.new.world (Some next) = ap (λ k. draws K c.args.t c.args.p k w) (sym count) ∙ c.in_ok-draw.ensures.drawn ∙ ap (as_drawn c.draw.new.world) c.in-Some.is in
    (drawn_spent K (g.met.K.Modeller g.world.𝓛 g.world.𝓜 g.world.𝓡 ((λ s x. x), (λ x. x), (λ x. x), λ x. x)).lawful w c.draw.new.world c.args.t c.args.p c.args.act next c.requires.session c.requires.thread.0 c.requires.thread.1 c.requires.held drawn).3
