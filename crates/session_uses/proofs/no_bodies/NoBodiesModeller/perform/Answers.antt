use Rattle.std.proofs.Common.{◌≡◌, ℕ, ◌+◌, ap, refl, arith}
use Rattle.pk_base.specs.declared.act.Reply.TheVariants.{Done}
use Rattle.pk_base.specs.declared.call.Call.{Call}
use Rattle.entity_store.specs.Modeller.{Performs}
use Rattle.entity_store.specs.NextTags.{TagsView}
use Rattle.entity_store.specs.Recorder.{Records}
use Rattle.entity_store.specs.Store.{StoreView}
use Rattle.session_uses.specs.NoBodies.{no_bodies, unchanged}
use Rattle.session_uses.proofs.no_bodies.NoBodiesModeller.perform.Goals as goal

nothing_put : (s : StoreView) → Records 0 s s
nothing_put s = record { began = refl; room = refl; puts = omega arith }

nothing_done : (s : StoreView) (c : Call) (tags : TagsView) → Performs no_bodies s c tags Done s tags
nothing_done s c tags =
    let used : ℕ → TagsView = λ (n : ℕ). record { blocks = tags.blocks; used = n } in
    let same : tags.used ≡ tags.used + 0 = omega arith in record {
      outcome = unchanged s.state.map;
      steps = refl;
      replies = refl;
      state = refl;
      takes = ap used same;
      records = nothing_put s;
    }

pub returns-clause-performs : goal.returns-clause-performs
returns-clause-performs g c = nothing_done c.args._rec.now.store.now c.args._call.now c.args._tags.now
