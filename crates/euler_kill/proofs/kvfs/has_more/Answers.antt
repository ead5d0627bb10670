use Rattle.std.proofs.Common.{sym, ◌∙◌}
use Rattle.solid_model.specs.Items.{item_at}
use Rattle.solid_model.specs.Shapes.{shape_of}
use Rattle.solid_sound.proofs.rows.RowKeeps.{well-shape}
use Rattle.solid_places.proofs.Read.{item-of}
use Rattle.euler_kill.proofs.KvfsFound.{more-edges, more-faces, loops-tell, asked-body, face-there}
use Rattle.euler_kill.proofs.kvfs.has_more.Goals as goal

pub face_of-face-requires : goal.face_of-face-requires
face_of-face-requires g c = face-there c.args.store.now.state.map c.requires.sound c.args.body c.args.shell c.requires.shell

pub returns-then-has_more_parts : goal.returns-then-has_more_parts
returns-then-has_more_parts g c =
    let m = c.args.store.now.state.map in
    let S = shape_of m in
    sym (more-edges S c.args.body (well-shape m c.requires.sound) c.args.shell (asked-body c.args.body c.args.shell (item_at S c.args.body) c.requires.shell) (sym c.has_more_parts.ensures ∙ c.if-has_more_parts.true))

pub returns-then-has_more_parts-2 : goal.returns-then-has_more_parts-2
returns-then-has_more_parts-2 g c =
    let m = c.args.store.now.state.map in
    let S = shape_of m in
    sym (more-faces S c.args.body (well-shape m c.requires.sound) c.args.shell (asked-body c.args.body c.args.shell (item_at S c.args.body) c.requires.shell) (sym c.has_more_parts-2.ensures ∙ c.if-has_more_parts-2.true))

pub returns : goal.returns
returns g c =
    let m = c.args.store.now.state.map in
    let S = shape_of m in
    let is = asked-body c.args.body c.args.shell (item_at S c.args.body) c.requires.shell in
    c.has_more_parts-3.ensures
    ∙ loops-tell S c.args.body (well-shape m c.requires.sound) c.args.shell c.face_of-face.result c.face_of-face.ensures.0 is (item-of m c.face_of-face.result _ c.face_of-face.ensures.1)
    (sym c.has_more_parts.ensures ∙ c.if-has_more_parts.false) (sym c.has_more_parts-2.ensures ∙ c.if-has_more_parts-2.false)
