use Rattle.std.proofs.Common.{◌≡◌, ◌-◌, ◌<◌, ◌≤◌, Some, Ok, length, map, unwrap_or, refl, sym, ap, subst, ◌∙◌, arith}
use Rattle.std.specs.Prelude.{slice_set}
use Rattle.std.specs.List.{range_with_len}
use Rattle.std.proofs.lemmas.List.{length-map, length-set}
use Rattle.pk_base.specs.declared.act.Entry.TheVariants.{Released}
use Rattle.world_core.specs.Event.{entry_of, supply}
use Rattle.world_core.specs.World.{WorldPartition, WorldState, Happens, partition_at}
use Rattle.world_core.specs.Doing.{Does}
use Rattle.world_core.specs.Inside.{seen_as, world_of}
use Rattle.world_core.specs.declared.event.Event.TheVariants as events
use Rattle.world_core.specs.declared.event.Said.TheVariants as said
use Rattle.world_core.proofs.Sessions.{happens_kept}
use Rattle.world_core.proofs.Stepping.{does_step, numbers_stay, old_is, others_stay}
use Rattle.world_core.proofs.world.World.release.Given.{Over}
use Rattle.world_core.proofs.world.World.release.Goals as goal

-- the partition is in its place
within : (g : Over) (c : goal.After-self-1 g) → c.args.p - 1 < length c.self.inside.partitions.items
within g c =
    let views = c.self.inside.partitions.items in
    let count = ap (λ (w : WorldState). length w.partitions) c.self.view_is in
    omega (arith, count, length-map views seen_as, c.requires.partition)

-- what was done to it is what the thread's release asks for
does : (g : Over) (c : goal.After-self-1 g) → Does g.K.Meaning.modelling c.index_mut.result.now (entry_of c.index_mut.result.now.state (supply c.self.inside.next c.self.inside.last) c.args.thread (events.Release c.args.p)) (Ok said.Done) c.release.new.partition
does g c =
    let K = g.K.Meaning.modelling in
    let f = c.self.inside in
    let old = c.index_mut.result.now in
    let t = c.args.thread in
    let p = c.args.p in
    let same = old_is K f.partitions.items (supply f.next f.last) f.threads t (events.Release p) p old (within g c) (sym c.index_mut.ensures.value) in
    let holder : old.state.holder ≡ Some t = ap (λ (q : WorldPartition). q.state.holder) (sym same) ∙ ap (λ (w : WorldState). (partition_at w p).state.holder) c.self.view_is ∙ c.requires.may in
    subst (λ h. Does K old (Ok (Released h)) (Ok said.Done) c.release.new.partition) (ap (λ o. unwrap_or o 0) holder) c.release.ensures

-- so that is how the world's step happened
happens : (g : Over) (c : goal.After-self-1 g) → Happens g.K.Meaning.modelling (world_of c.self.inside.partitions.items (supply c.self.inside.next c.self.inside.last) c.self.inside.threads) c.args.thread (events.Release c.args.p) (Ok said.Done) (world_of (slice_set c.self.inside.partitions.items (c.args.p - 1) c.release.new.partition) (supply c.self.inside.next c.self.inside.last) c.self.inside.threads)
happens g c =
    let f = c.self.inside in
    does_step g.K.Meaning.modelling f.partitions.items (supply f.next f.last) f.threads c.args.thread (events.Release c.args.p) c.args.p c.index_mut.result.now (within g c) (sym c.index_mut.ensures.value) refl (Ok said.Done) c.release.new.partition (does g c)

pub invariant_of-self : goal.invariant_of-self
invariant_of-self g c =
    let K = g.K.Meaning.modelling in
    let f = c.self.inside in
    let views = f.partitions.items in
    let p = c.args.p in
    let new = c.release.new.partition in
    let blocks = supply f.next f.last in
    let v = events.Release p in
    let last : p ≤ length (map seen_as views) = let count = ap (λ (w : WorldState). length w.partitions) c.self.view_is in omega (arith, count, c.requires.partition) in
    let numbers = numbers_stay K views blocks f.threads c.args.thread v p c.index_mut.result.now (within g c) (sym c.index_mut.ensures.value) (Ok said.Done) new (does g c) in
    record {
      numbers = numbers ∙ c.self.invariant.numbers ∙ ap (range_with_len 1) (sym (length-set views (p - 1) new));
      last = c.self.invariant.last;
      session = happens_kept K (g.met.K.Modeller g.world.𝓛 g.world.𝓜 g.world.𝓡 ((λ s x. x), (λ x. x), (λ x. x), λ x. x)).lawful (world_of views blocks f.threads) c.args.thread v c.self.invariant.session c.requires.partition.0 last (Ok said.Done) _ (happens g c);
    }

pub returns-clause-happens : goal.returns-clause-happens
returns-clause-happens g c = rw (← c.self.view_is) (happens g c)

pub returns-clause-others : goal.returns-clause-others
returns-clause-others g c =
    let f = c.self.inside in
    let p = c.args.p in
    rw (← c.self.view_is) (λ q one other.
    others_stay g.K.Meaning.modelling f.partitions.items (supply f.next f.last) f.threads c.args.thread (events.Release p) p c.index_mut.result.now (within g c) (sym c.index_mut.ensures.value) c.release.new.partition (supply f.next f.last) q one c.requires.partition.0 other)

pub returns-clause-session : goal.returns-clause-session
returns-clause-session g c = (invariant_of-self g c).session
