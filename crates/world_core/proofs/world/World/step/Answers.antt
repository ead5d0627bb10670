use Rattle.std.proofs.Common.{ℕ, ◌-◌, ◌<◌, ◌≤◌, length, map, refl, sym, ap, subst, ◌∙◌, arith}
use Rattle.std.specs.Prelude.{slice_set}
use Rattle.std.specs.List.{range_with_len}
use Rattle.std.proofs.lemmas.List.{length-map, length-set}
use Rattle.world_core.specs.Event.{supply, partition_of}
use Rattle.world_core.specs.World.{WorldState, Happens}
use Rattle.world_core.specs.Inside.{seen_as, world_of}
use Rattle.world_core.proofs.Sessions.{happens_kept}
use Rattle.world_core.proofs.Stepping.{blocks_below, does_step, numbers_stay, others_stay}
use Rattle.world_core.proofs.world.World.step.Goals as goal

pub do_event-answer-requires-clause-above : goal.do_event-answer-requires-clause-above
do_event-answer-requires-clause-above g c κs lives =
    let K = g.K.Meaning.modelling in
    let f = c.self.inside in
    let views = f.partitions.items in
    let p = c.partition.result in
    let count = ap (λ (w : WorldState). length w.partitions) c.self.view_is in
    let first : 1 ≤ p = omega (arith, c.requires.partition, c.partition.ensures) in
    let within : p - 1 < length views = omega (arith, count, length-map views seen_as, c.requires.partition, c.partition.ensures) in
    blocks_below K views (supply f.next f.last) f.threads c.args.thread c.args.event p c.index_mut-partition.result.now within (sym c.index_mut-partition.ensures.value) (g.met.K.Modeller g.world.𝓛 g.world.𝓜 g.world.𝓡 ((λ s x. x), (λ x. x), (λ x. x), λ x. x)).lawful c.self.invariant.session first

pub invariant_of-self : goal.invariant_of-self
invariant_of-self g c =
    let K = g.K.Meaning.modelling in
    let f = c.self.inside in
    let views = f.partitions.items in
    let p = c.partition.result in
    let old = c.index_mut-partition.result.now in
    let new = c.do_event-answer.new.partition in
    let answer = c.do_event-answer.result in
    let blocks = supply f.next f.last in
    let count = ap (λ (w : WorldState). length w.partitions) c.self.view_is in
    let named = c.partition.ensures in
    let within : p - 1 < length views = omega (arith, count, length-map views seen_as, c.requires.partition, named) in
    let first : 1 ≤ partition_of c.args.event = omega (arith, c.requires.partition) in
    let last : partition_of c.args.event ≤ length (map seen_as views) = omega (arith, count, c.requires.partition) in
    let is = sym c.index_mut-partition.ensures.value in
    let happens = does_step K views blocks f.threads c.args.thread c.args.event p old within is named answer new c.do_event-answer.ensures.does in
    let session = happens_kept K (g.met.K.Modeller g.world.𝓛 g.world.𝓜 g.world.𝓡 ((λ s x. x), (λ x. x), (λ x. x), λ x. x)).lawful (world_of views blocks f.threads) c.args.thread c.args.event c.self.invariant.session first last answer _ happens in
    let numbers = numbers_stay K views blocks f.threads c.args.thread c.args.event p old within is answer new c.do_event-answer.ensures.does in
    record {
      numbers = numbers ∙ c.self.invariant.numbers ∙ ap (range_with_len 1) (sym (length-set views (p - 1) new));
      last = c.self.invariant.last;
      session = rw c.next_after-self-inside.ensures session;
    }

pub returns-clause-happens : goal.returns-clause-happens
returns-clause-happens g c =
    let K = g.K.Meaning.modelling in
    let f = c.self.inside in
    let views = f.partitions.items in
    let p = c.partition.result in
    let count = ap (λ (w : WorldState). length w.partitions) c.self.view_is in
    let named = c.partition.ensures in
    let within : p - 1 < length views = omega (arith, count, length-map views seen_as, c.requires.partition, named) in
    let happens = does_step K views (supply f.next f.last) f.threads c.args.thread c.args.event p c.index_mut-partition.result.now within (sym c.index_mut-partition.ensures.value) named c.do_event-answer.result c.do_event-answer.new.partition c.do_event-answer.ensures.does in
    let after = slice_set views (p - 1) c.do_event-answer.new.partition in
    subst (λ (w : WorldState). Happens K w c.args.thread c.args.event c.do_event-answer.result (world_of after (supply c.next_after-self-inside.result f.last) f.threads)) c.self.view_is
    (subst (λ (n : ℕ). Happens K (world_of views (supply f.next f.last) f.threads) c.args.thread c.args.event c.do_event-answer.result (world_of after (supply n f.last) f.threads)) (sym c.next_after-self-inside.ensures) happens)

pub returns-clause-others : goal.returns-clause-others
returns-clause-others g c =
    let K = g.K.Meaning.modelling in
    let f = c.self.inside in
    let views = f.partitions.items in
    let p = c.partition.result in
    let count = ap (λ (w : WorldState). length w.partitions) c.self.view_is in
    let named = c.partition.ensures in
    let within : p - 1 < length views = omega (arith, count, length-map views seen_as, c.requires.partition, named) in
    let first : 1 ≤ p = omega (arith, c.requires.partition, named) in
    rw (← c.self.view_is) (λ q one other.
    others_stay K views (supply f.next f.last) f.threads c.args.thread c.args.event p c.index_mut-partition.result.now within (sym c.index_mut-partition.ensures.value) c.do_event-answer.new.partition (supply c.next_after-self-inside.result f.last) q one first (λ e. other (e ∙ named)))

pub returns-clause-session : goal.returns-clause-session
returns-clause-session g c = (invariant_of-self g c).session

pub returns-clause-large : goal.returns-clause-large
returns-clause-large g c =
    let f = c.self.inside in
    let views = f.partitions.items in
    let new = c.do_event-answer.new.partition in
    let place = c.partition.result - 1 in
    rw (← c.self.view_is) (record {
      partitions = length-map (slice_set views place new) seen_as ∙ length-set views place new ∙ sym (length-map views seen_as);
      threads = refl;
      last = refl;
    })
