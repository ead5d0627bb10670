use Rattle.std.proofs.Common.{◌≡◌, ℕ, ◌+◌, List, length, drop, get_or, ap, sym, subst, ◌∙◌, arith}
use Rattle.std.specs.Prelude.{IsTrue}
use Rattle.std.specs.List.{AllByRecursion}
use Rattle.std.proofs.lemmas.List.{drop_all, length-map}
use Rattle.pk_base.specs.Blocks.{tag}
use Rattle.pk_model.specs.Tags.{owns}
use Rattle.entity_store.specs.Store.{IfHosted, Stored}
use Rattle.entity_store.specs.Recorder.{Records}
use Rattle.entity_store.specs.declared.changes.Change.{Change}
use Rattle.entity_store.proofs.Room.{records-of, room-of_length}
use Rattle.delta.specs.Deltas.{StartsAt, after, in_direction, tags_in}
use Rattle.delta.proofs.Applied.{state-put}
use Rattle.pmark_tree.specs.Marks.{delta_in}
use Rattle.partition.specs.Goes.{MayWalk, entries_in, walked}
use Rattle.partition.proofs.Walks.{MayGoOn, entries-next, walk-next, walked-next}
use Rattle.partition.proofs.goes.walk.Goals as goal

pub delta-requires : goal.delta-requires
delta-requires g c =
    let next = walk-next c.args.rec.now.store.now.state.blocks c.args.tree.now.marks c.args.forward c.loop-mark.rec.store.now.state.map c.args.marks.now c.loop-mark.mark-index (tag 0) (omega arith) c.loop-mark.invariant.walks in
    next.parent

pub apply-requires-clause-starts : goal.apply-requires-clause-starts
apply-requires-clause-starts g c =
    let next = walk-next c.args.rec.now.store.now.state.blocks c.args.tree.now.marks c.args.forward c.loop-mark.rec.store.now.state.map c.args.marks.now c.loop-mark.mark-index (tag 0) (omega arith) c.loop-mark.invariant.walks in
    subst (λ (d : List Change). StartsAt c.loop-mark.rec.store.now.state.map (in_direction c.args.forward d)) (sym c.delta.ensures) next.may.starts

pub apply-requires-clause-owned : goal.apply-requires-clause-owned
apply-requires-clause-owned g c =
    let next = walk-next c.args.rec.now.store.now.state.blocks c.args.tree.now.marks c.args.forward c.loop-mark.rec.store.now.state.map c.args.marks.now c.loop-mark.mark-index (tag 0) (omega arith) c.loop-mark.invariant.walks in
    let blocks = ap (λ (s : Stored). s.blocks) c.loop-mark.invariant.state in
    subst (λ (bs : List ℕ). AllByRecursion (λ t. IsTrue (owns bs t)) (tags_in c.delta.result.now)) (sym blocks)
    (subst (λ (d : List Change). AllByRecursion (λ t. IsTrue (owns c.args.rec.now.store.now.state.blocks t)) (tags_in d)) (sym c.delta.ensures) next.may.owned)

pub apply-requires-clause-hosted : goal.apply-requires-clause-hosted
apply-requires-clause-hosted g c =
    let next = walk-next c.args.rec.now.store.now.state.blocks c.args.tree.now.marks c.args.forward c.loop-mark.rec.store.now.state.map c.args.marks.now c.loop-mark.mark-index (tag 0) (omega arith) c.loop-mark.invariant.walks in
    let blocks = ap (λ (s : Stored). s.blocks) c.loop-mark.invariant.state in
    subst (λ (bs : List ℕ). AllByRecursion (λ (x : Change). IfHosted bs x.tag x.after) (in_direction c.args.forward c.delta.result.now)) (sym blocks)
    (subst (λ (d : List Change). AllByRecursion (λ (x : Change). IfHosted c.args.rec.now.store.now.state.blocks x.tag x.after) (in_direction c.args.forward d)) (sym c.delta.ensures) next.may.hosted)

pub apply-requires-clause-room : goal.apply-requires-clause-room
apply-requires-clause-room g c =
    let ks = c.args.tree.now.marks in
    let ts = c.args.marks.now in
    let i = c.loop-mark.mark-index in
    let next = entries-next ks ts i (tag 0) (omega arith) in
    room-of_length c.loop-mark.rec.store.now.recording (tags_in c.delta.result.now)
    (omega (arith, next, c.loop-mark.invariant.puts, c.loop-mark.invariant.room, c.requires.room, length-map c.delta.result.now (λ (x : Change). x.tag), ap length c.delta.ensures))

pub loop-mark-preserved : goal.loop-mark-preserved
loop-mark-preserved g c =
    let ks = c.args.tree.now.marks in
    let ts = c.args.marks.now in
    let i = c.loop-mark.mark-index in
    let forward = c.args.forward in
    let t = get_or ts i (tag 0) in
    let old = c.loop-mark.rec.store.now in
    let new = c.apply.new.rec.store.now in
    let d = c.delta.result.now in
    let next : MayGoOn c.args.rec.now.store.now.state.blocks ks forward old.state.map t (drop (i + 1) ts) = walk-next c.args.rec.now.store.now.state.blocks ks forward old.state.map ts i (tag 0) (omega arith) c.loop-mark.invariant.walks in
    let map_is : new.state.map ≡ after old.state.map (in_direction forward (delta_in ks t)) = ap (λ (s : Stored). s.map) c.apply.ensures.state ∙ ap (λ (x : List Change). after old.state.map (in_direction forward x)) c.delta.ensures in
    let entries = entries-next ks ts i (tag 0) (omega arith) in
    let records : Records (length d) old new = records-of (tags_in d) (length d) old new c.apply.ensures.puts (omega (arith, length-map d (λ (x : Change). x.tag))) in
    record {
      state = state-put c.args.rec.now.store.now.state old.state new.state _ (ap (λ (s : Stored). s.blocks) c.loop-mark.invariant.state) c.apply.ensures.state;
      leads = ap (λ n. walked ks forward n (drop (i + 1) ts)) map_is ∙ sym (walked-next ks forward old.state.map ts i (tag 0) (omega arith)) ∙ c.loop-mark.invariant.leads;
      walks = subst (λ n. MayWalk c.args.rec.now.store.now.state.blocks ks forward n (drop (i + 1) ts)) (sym map_is) next.further;
      began = records.began ∙ c.loop-mark.invariant.began;
      room = records.room ∙ c.loop-mark.invariant.room;
      puts = omega (arith, records.puts, entries, ap length c.delta.ensures, c.loop-mark.invariant.puts);
      same_store = c.apply.ensures.same_store ∙ c.loop-mark.invariant.same_store;
      cost = omega (arith, c.apply.ensures.cost, entries, ap length c.delta.ensures, c.loop-mark.invariant.cost);
    }

pub returns : goal.returns
returns g c =
    let ks = c.args.tree.now.marks in
    let ts = c.args.marks.now in
    let end = c.loop-mark.rec.store.now in
    let all = drop_all c.loop-mark.mark-index ts (omega arith) in
    let map_is = ap (walked ks c.args.forward end.state.map) (sym all) ∙ c.loop-mark.invariant.leads in
    let entries : entries_in ks (drop c.loop-mark.mark-index ts) ≡ 0 = ap (entries_in ks) all in
    record {
      state = c.loop-mark.invariant.state ∙ ap (λ n. record c.args.rec.now.store.now.state { map = n }) map_is;
      records = record { began = c.loop-mark.invariant.began; room = c.loop-mark.invariant.room; puts = omega (arith, c.loop-mark.invariant.puts, entries) };
      same_store = c.loop-mark.invariant.same_store;
      cost = omega (arith, c.loop-mark.invariant.cost, entries);
    }
