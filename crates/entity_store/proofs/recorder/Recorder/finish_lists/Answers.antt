use Rattle.std.proofs.Common.{ap, ◌∙◌}
use Rattle.entity_store.specs.Changes.{lists_among}
use Rattle.entity_store.specs.Recorder.{began}
use Rattle.entity_store.proofs.NetChanges.{lists_among-net_changes}
use Rattle.entity_store.proofs.recorder.Recorder.finish_lists.Goals as goal

pub returns-clause-lists : goal.returns-clause-lists
returns-clause-lists g c =
    let lent = c.args.self.store.now in
    c.lists_of.ensures ∙ ap lists_among c.take_changes-changes.ensures.changes ∙ lists_among-net_changes (began lent) lent.state.map
