use Rattle.std.proofs.Common.{◌∙◌, refl, sym, ap, subst}
use Rattle.std.specs.Prelude.{IsOk}
use Rattle.solid_model.specs.Shapes.{shape_of}
use Rattle.solid_sound.proofs.rows.RowKeeps.{well-shape}
use Rattle.solid_places.specs.Placed.{placed_by, as_placed_face}
use Rattle.solid_places.specs.declared.faces.PlacedFace.{PlacedFace}
use Rattle.solid_places.specs.declared.loops.PlacedLoop.{PlacedLoop}
use Rattle.solid_places.proofs.Read.{same_Ok}
use Rattle.solid_places.proofs.Around.{face-place}
use Rattle.solid_places.proofs.Told.{face-placed}
use Rattle.solid_places.proofs.loops.in_face.Goals as goal

pub unwrap-placed-requires : goal.unwrap-placed-requires
unwrap-placed-requires g c =
    let m = c.args.store.now.state.map in
    subst IsOk (sym (face-placed _ _ c.face_at.ensures.found c.face_at.ensures.refused ∙ ap (placed_by as_placed_face) (face-place (shape_of m) (well-shape m c.requires.sound) c.args.face c.requires.face))) refl

pub returns : goal.returns
returns g c =
    let m = c.args.store.now.state.map in
    let is = same_Ok _ _ (sym c.unwrap-placed.ensures ∙ face-placed _ _ c.face_at.ensures.found c.face_at.ensures.refused ∙ ap (placed_by as_placed_face) (face-place (shape_of m) (well-shape m c.requires.sound) c.args.face c.requires.face)) in
    let loop_of : PlacedFace → PlacedLoop = λ p. record { face = c.args.face; outer = p.outer; shell = p.shell; body = p.body } in
    ap loop_of is
