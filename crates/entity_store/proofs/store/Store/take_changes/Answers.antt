use Rattle.std.proofs.Common.{◌≡◌, None, sym, ap, ◌∙◌}
use Rattle.entity_store.specs.Changes.{net_changes}
use Rattle.entity_store.specs.Recorder.{began}
use Rattle.entity_store.specs.Recording.{put_back}
use Rattle.entity_store.specs.Store.{StoreView, map_of, recording_of}
use Rattle.entity_store.proofs.NetChanges.{net_changes-none}
use Rattle.entity_store.proofs.store.Store.take_changes.Goals as goal

pub returns-in-None-clause-changes : goal.returns-in-None-clause-changes
returns-in-None-clause-changes g c =
    let m = map_of c.self.inside.blocks.items c.self.inside.slots.items in
    let none : c.self.inside.recorded ≡ None = sym c.take.ensures.value ∙ c.in-None.is in
    c.of.ensures ∙ c.new.ensures.items ∙ sym (net_changes-none m) ∙ ap (λ o. net_changes (put_back m (recording_of o).first) m) (sym none)
    ∙ ap (λ (s : StoreView). net_changes (began s) s.state.map) c.self.view_is
