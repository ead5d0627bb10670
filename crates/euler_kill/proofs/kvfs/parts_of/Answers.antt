use Rattle.std.proofs.Common.{Option, Some, refl, sym, ap, subst, ◌∙◌}
use Rattle.std.proofs.lemmas.Option.{same_Some}
use Rattle.std.specs.Prelude.{IsSome}
use Rattle.pk_base.specs.declared.tag.Tag.{Tag}
use Rattle.solid_model.specs.Shapes.{shape_of}
use Rattle.solid_edits.specs.BareParts.{lone_vertex}
use Rattle.euler_kill.proofs.KvfsFound.{face-there, lone-there, same-vertex}
use Rattle.euler_kill.proofs.KvfsReached.{face-read, kills-body}
use Rattle.euler_kill.proofs.kvfs.parts_of.Goals as goal

pub face_of-face-requires : goal.face_of-face-requires
face_of-face-requires g c = face-there c.args.store.now.state.map c.requires.sound c.args.body c.in-Ok.shell (sym c.in-Ok.ensures)

pub unwrap-vertex-requires : goal.unwrap-vertex-requires
unwrap-vertex-requires g c =
    let m = c.args.store.now.state.map in
    let face = face-read m c.face_of-face.result c.in-Ok.shell _ _ _ c.face_of-face.ensures.1 (sym c.in-Some-Face.ensures.value ∙ ap Some c.in-Some-Face.field-0-is) in
    let bare = (kills-body (shape_of m) c.args.body c.requires.goes).bare in
    let found = lone-there m c.requires.sound c.args.body c.in-Ok.shell c.face_of-face.result c.in-Some-Face.outer bare (sym c.in-Ok.ensures) face in
    let read = c.lone_vertex.ensures ∙ ap lone_vertex c.get-2.ensures.value ∙ found.1 in
    subst (λ (o : Option Tag). IsSome o) (sym read) refl

pub returns-clause-parts : goal.returns-clause-parts
returns-clause-parts g c =
    let m = c.args.store.now.state.map in
    let face = face-read m c.face_of-face.result c.in-Ok.shell _ _ _ c.face_of-face.ensures.1 (sym c.in-Some-Face.ensures.value ∙ ap Some c.in-Some-Face.field-0-is) in
    let bare = (kills-body (shape_of m) c.args.body c.requires.goes).bare in
    let found = lone-there m c.requires.sound c.args.body c.in-Ok.shell c.face_of-face.result c.in-Some-Face.outer bare (sym c.in-Ok.ensures) face in
    let read = c.lone_vertex.ensures ∙ ap lone_vertex c.get-2.ensures.value ∙ found.1 in
    let same = same_Some found.0 c.unwrap-vertex.result (sym read ∙ c.unwrap-vertex.ensures) in
    same-vertex (shape_of m) c.args.body c.in-Ok.shell c.face_of-face.result c.in-Some-Face.outer found.0 c.unwrap-vertex.result same found.2
