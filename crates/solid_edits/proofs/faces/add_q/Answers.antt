use Rattle.std.proofs.Common.{[], ◌∷◌, Some, sym, ap, ◌∙◌}
use Rattle.list_facts.proofs.Elements.{Contains-first}
use Rattle.solid_edits.proofs.Hosted.{hosted-seen, hosted-shell}
use Rattle.entity_store.proofs.Room.{puts-one}
use Rattle.solid_edits.proofs.faces.add_q.Goals as goal

pub put-requires-clause-owned : goal.put-requires-clause-owned
put-requires-clause-owned g c =
    let is = sym c.in-Some-Shell.ensures.value ∙ ap Some c.in-Some-Shell.field-0-is in
    (hosted-seen _ _ c.view.ensures c.blocks-blocks.ensures.hosted c.args.shell _ is).owned

pub put-requires-clause-hosted : goal.put-requires-clause-hosted
put-requires-clause-hosted g c =
    let is = sym c.in-Some-Shell.ensures.value ∙ ap Some c.in-Some-Shell.field-0-is in
    hosted-shell _ c.args.shell c.in-Some-Shell.body c.in-Some-Shell.q _ (hosted-seen _ _ c.view.ensures c.blocks-blocks.ensures.hosted c.args.shell _ is)

pub returns-clause-puts : goal.returns-clause-puts
returns-clause-puts g c =
    puts-one (c.args.shell ∷ []) c.args.rec.now.store.now c.put.new.self.store.now c.args.shell _ (Contains-first c.args.shell []) c.put.ensures.began c.put.ensures.recorded
