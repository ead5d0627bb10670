use Rattle.std.proofs.Common.{◌≡◌, ◌≤◌, length, ap, sym, subst, ◌∙◌, arith, rules}
use Rattle.pk_model.specs.Maps.{EntityMap, diff}
use Rattle.entity_store.specs.Changes.{net_changes}
use Rattle.entity_store.proofs.NetChanges.{AreChanges-net_changes}
use Rattle.entity_store.specs.Store.{Stored}
use Rattle.entity_store.specs.Recorder.{began}
use Rattle.entity_store.specs.Recording.{Recording}
use Rattle.delta.specs.Deltas.{StartsAt, after}
use Rattle.delta.proofs.Leads.{StartsAt-net_changes, after-net_changes}
use Rattle.partition.specs.Goes.{Made}
use Rattle.partition.specs.Unsaved.{IsUnsaved}
use Rattle.partition.specs.Work.{size}
use Rattle.partition.proofs.Performing.{may_perform, performed}
use Rattle.partition.proofs.CallSteps.{within_done}
use Rattle.partition.proofs.Joining.{lent_began, recorded_few}
use Rattle.partition.proofs.Loads.{size-none}
use Rattle.partition.proofs.WorkSteps.{size-changes}
use Rattle.partition.proofs.perform.perform.Goals as goal

pub perform-reply-requires : goal.perform-reply-requires
perform-reply-requires g c =
    let K = g.K.Meaning.modelling in
    let old = c.args.store.now.state in
    let next : c.of-tags.result ≡ record { blocks = old.blocks; used = c.args.used } = c.of-tags.ensures ∙ ap (λ bs. record { blocks = bs; used = c.args.used }) c.requires.blocks in
    may_perform K old c.args.used c.args.call.now c.in-Ok.need c.in-Ok.ensures.needs c.recorder_with-rec.result.store.now c.of-tags.result c.recorder_with-rec.ensures.state next
    c.in_ok-out.out c.requires.asked (c.recorder_with-rec.ensures.record ∙ c.in_ok-room.ensures) c.in_ok-out.ensures.empty (omega (arith, c.in_ok-out.ensures.room))

pub join-requires : goal.join-requires
join-requires g c =
    let K = g.K.Meaning.modelling in
    let old = c.args.store.now.state in
    let lent = c.recorder_with-rec.result.store.now in
    let end = c.perform-reply.new.rec.store.now in
    let few : length c.from_changes-changes.result ≤ K.changes lent.state.map c.args.call.now = recorded_few (K.changes lent.state.map c.args.call.now) lent end c.from_changes-changes.result c.perform-reply.ensures.performs.records (ap (λ (r : Recording). r.first) (c.recorder_with-rec.ensures.record ∙ c.in_ok-room.ensures)) (c.from_changes-changes.ensures ∙ c.finish.ensures.changes) in
    let same : K.changes lent.state.map c.args.call.now ≡ K.changes old.map c.args.call.now = ap (λ (s : Stored). K.changes s.map c.args.call.now) c.recorder_with-rec.ensures.state in
    omega (arith, few, same, c.in-Ok.ensures.needs.changes, c.in_ok-reserve.ensures.room)

pub returns-clause-performs : goal.returns-clause-performs
returns-clause-performs g c =
    let K = g.K.Meaning.modelling in
    let old = c.args.store.now.state in
    let next : c.of-tags.result ≡ record { blocks = old.blocks; used = c.args.used } = c.of-tags.ensures ∙ ap (λ bs. record { blocks = bs; used = c.args.used }) c.requires.blocks in
    let made = performed K old c.args.used c.args.call.now c.in-Ok.need c.in-Ok.ensures.needs c.recorder_with-rec.result.store.now c.of-tags.result c.recorder_with-rec.ensures.state next _ _ _ c.perform-reply.ensures.performs in
    subst (λ (s : Stored). Made K old c.args.used c.args.call.now c.perform-reply.result c.in-Ok.need.tags s) (search rules) made

pub returns-clause-unsaved : goal.returns-clause-unsaved
returns-clause-unsaved g c m is =
    let old = c.args.store.now.state in
    let lent = c.recorder_with-rec.result.store.now in
    let end = c.perform-reply.new.rec.store.now in
    let start : began lent ≡ old.map = lent_began old lent c.recorder_with-rec.ensures.state (ap (λ (r : Recording). r.first) (c.recorder_with-rec.ensures.record ∙ c.in_ok-room.ensures)) in
    let changed : c.from_changes-changes.result ≡ net_changes old.map end.state.map = c.from_changes-changes.ensures ∙ c.finish.ensures.changes ∙ ap (λ (m : EntityMap). net_changes m end.state.map) (c.perform-reply.ensures.performs.records.began ∙ start) in
    let kept : IsUnsaved m old.map c.reserve.new.self.changes.entries = subst (IsUnsaved m old.map) (sym c.reserve.ensures.same) is in
    let joined = c.join.ensures.joined m old.map kept (subst (StartsAt old.map) (sym changed) (StartsAt-net_changes old.map end.state.map)) in
    let there : after old.map c.from_changes-changes.result ≡ end.state.map = ap (after old.map) changed ∙ after-net_changes old.map end.state.map in
    subst (λ (n : EntityMap). IsUnsaved m n c.join.new.self.changes.entries) (there ∙ first_of (search rules, cc)) joined

pub returns-clause-cost : goal.returns-clause-cost
returns-clause-cost g c =
    let K = g.K.Meaning.modelling in
    let old = c.args.store.now.state in
    let lent = c.recorder_with-rec.result.store.now in
    let end = c.perform-reply.new.rec.store.now in
    let records = c.perform-reply.ensures.performs.records in
    let none = ap (λ (r : Recording). length r.first) (c.recorder_with-rec.ensures.record ∙ c.in_ok-room.ensures) in
    let same : K.changes lent.state.map c.args.call.now ≡ K.changes old.map c.args.call.now = ap (λ (s : Stored). K.changes s.map c.args.call.now) c.recorder_with-rec.ensures.state in
    let few : length c.from_changes-changes.result ≤ K.changes lent.state.map c.args.call.now = recorded_few (K.changes lent.state.map c.args.call.now) lent end c.from_changes-changes.result records (ap (λ (r : Recording). r.first) (c.recorder_with-rec.ensures.record ∙ c.in_ok-room.ensures)) (c.from_changes-changes.ensures ∙ c.finish.ensures.changes) in
    within_done _ _ _ _ _ _ c.need.ensures.cost c.perform-reply.ensures.cost (omega (arith, records.puts, none, same, few, c.finish.ensures.cost, c.join.ensures.cost))

pub returns-clause-few : goal.returns-clause-few
returns-clause-few g c =
    let K = g.K.Meaning.modelling in
    let old = c.args.store.now.state in
    let lent = c.recorder_with-rec.result.store.now in
    let end = c.perform-reply.new.rec.store.now in
    let start : began lent ≡ old.map = lent_began old lent c.recorder_with-rec.ensures.state (ap (λ (r : Recording). r.first) (c.recorder_with-rec.ensures.record ∙ c.in_ok-room.ensures)) in
    let changed : c.from_changes-changes.result ≡ net_changes old.map end.state.map = c.from_changes-changes.ensures ∙ c.finish.ensures.changes ∙ ap (λ (m : EntityMap). net_changes m end.state.map) (c.perform-reply.ensures.performs.records.began ∙ start) in
    let same : K.changes lent.state.map c.args.call.now ≡ K.changes old.map c.args.call.now = ap (λ (s : Stored). K.changes s.map c.args.call.now) c.recorder_with-rec.ensures.state in
    let few : length c.from_changes-changes.result ≤ K.changes lent.state.map c.args.call.now = recorded_few (K.changes lent.state.map c.args.call.now) lent end c.from_changes-changes.result c.perform-reply.ensures.performs.records (ap (λ (r : Recording). r.first) (c.recorder_with-rec.ensures.record ∙ c.in_ok-room.ensures)) (c.from_changes-changes.ensures ∙ c.finish.ensures.changes) in
    let many = size-changes old.map end.state.map (net_changes old.map end.state.map) (AreChanges-net_changes old.map end.state.map) (StartsAt-net_changes old.map end.state.map) (after-net_changes old.map end.state.map) in
    let within : size (diff old.map end.state.map) ≤ K.changes old.map c.args.call.now = omega (arith, few, same, many, ap length changed) in
    subst (λ (m : EntityMap). size (diff old.map m) ≤ K.changes old.map c.args.call.now) (first_of (search rules, cc)) within

pub returns-in-Err-clause-few : goal.returns-in-Err-clause-few
returns-in-Err-clause-few g c = omega (arith, size-none c.args.store.now.state.map)
