use Rattle.std.proofs.Common.{sym, ap, ◌∙◌}
use Rattle.pk_base.specs.declared.act.Reply.TheVariants.{List as Listed}
use Rattle.solid_model.specs.Rows.{tells}
use Rattle.queries.proofs.Told.{kids-listed, kids-live, kids-room, kids-told}
use Rattle.queries.proofs.entities.kids_do.Goals as goal

pub list_all-requires-clause-spare : goal.list_all-requires-clause-spare
list_all-requires-clause-spare g c = kids-room c.args.store.now.state.map c.requires.sound c.args.tag _ _ c.kids-walk.ensures c.requires.goes c.requires.spare

pub returns : goal.returns
returns g c =
    let m = c.args.store.now.state.map in
    let live = kids-live m c.args.tag c.requires.goes in
    kids-told m c.args.tag live.0 live.1 ∙ ap (λ ts. tells (Listed ts)) (sym (kids-listed m c.requires.sound c.args.tag _ _ c.kids-walk.ensures c.list_all.ensures))
