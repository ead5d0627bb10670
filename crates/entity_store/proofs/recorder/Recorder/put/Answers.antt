use Rattle.std.proofs.Common.{ap}
use Rattle.entity_store.specs.Store.{Stored}
use Rattle.entity_store.specs.Recording.{Recording}
use Rattle.entity_store.proofs.FirstValues.{put_back-after}
use Rattle.entity_store.proofs.recorder.Recorder.put.Goals as goal

pub returns-clause-began : goal.returns-clause-began
returns-clause-began g c =
    put_back-after c.args.self.now.store.now.state.map _ c.args.self.now.store.now.recording.first _ c.args.tag c.args.to
    (ap (λ (s : Stored). s.map) c.put_recorded.ensures.state) (ap (λ (r : Recording). r.first) c.put_recorded.ensures.recorded)
