use Rattle.std.proofs.Common.{◌∙◌, refl, arith}
use Rattle.solid_edits.proofs.ManyDeaths.{died-all, died-more, died-none, died-owned, died-room}
use Rattle.solid_edits.proofs.deaths.kill_all.Goals as goal

pub loop-tag-init : goal.loop-tag-init
loop-tag-init g c = (died-none c.args.rec.now.store.now c.args.tags.now, refl)

pub kill-requires-clause-owned : goal.kill-requires-clause-owned
kill-requires-clause-owned g c =
    died-owned c.args.rec.now.store.now c.loop-tag.rec.store.now c.args.tags.now c.loop-tag.tag-index (omega arith) c.loop-tag.invariant.0 c.requires.owned

pub kill-requires-clause-room : goal.kill-requires-clause-room
kill-requires-clause-room g c =
    died-room c.args.rec.now.store.now c.loop-tag.rec.store.now c.args.tags.now c.loop-tag.tag-index (omega arith) c.loop-tag.invariant.0 c.requires.room

pub loop-tag-preserved : goal.loop-tag-preserved
loop-tag-preserved g c = (
  died-more c.args.rec.now.store.now c.loop-tag.rec.store.now c.kill.new.rec.store.now c.args.tags.now c.loop-tag.tag-index (omega arith) c.loop-tag.invariant.0
      c.kill.ensures.dies c.kill.ensures.state c.kill.ensures.puts,
  c.kill.ensures.same_store ∙ c.loop-tag.invariant.1,
)

pub returns-clause-kills : goal.returns-clause-kills
returns-clause-kills g c = died-all c.args.rec.now.store.now c.loop-tag.rec.store.now c.args.tags.now c.loop-tag.tag-index (omega arith) c.loop-tag.invariant.0

pub returns-clause-state : goal.returns-clause-state
returns-clause-state g c = c.loop-tag.invariant.0.stage.state

pub returns-clause-puts : goal.returns-clause-puts
returns-clause-puts g c = c.loop-tag.invariant.0.stage.puts
