use Rattle.std.proofs.Common.{◌∙◌, refl, sym, ap, subst}
use Rattle.std.specs.Prelude.{IsOk}
use Rattle.solid_model.specs.Shapes.{shape_of}
use Rattle.solid_model.specs.Owners.{owner_in}
use Rattle.solid_model.specs.Places.{outer_at}
use Rattle.solid_sound.proofs.rows.RowKeeps.{well-shape}
use Rattle.solid_places.specs.Placed.{placed_by, as_placed_loop}
use Rattle.solid_places.proofs.Read.{same_Ok}
use Rattle.solid_places.proofs.Around.{loop-place, loop-body}
use Rattle.solid_places.proofs.Told.{loop-placed}
use Rattle.solid_places.proofs.loops.known_loop.Goals as goal

pub unwrap-requires : goal.unwrap-requires
unwrap-requires g c =
    let m = c.args.store.now.state.map in
    subst IsOk (sym (loop-placed _ _ c.loop_at.ensures.found c.loop_at.ensures.refused ∙ ap (placed_by as_placed_loop) (loop-place (shape_of m) (well-shape m c.requires.sound) c.args.loop_ c.requires.loop_))) refl

pub returns : goal.returns
returns g c =
    let m = c.args.store.now.state.map in
    let face = owner_in (shape_of m) c.args.loop_ in
    same_Ok _ _ (sym c.unwrap.ensures ∙ loop-placed _ _ c.loop_at.ensures.found c.loop_at.ensures.refused ∙ ap (placed_by as_placed_loop) (loop-place (shape_of m) (well-shape m c.requires.sound) c.args.loop_ c.requires.loop_))
    ∙ (λ i. record {
      face = face;
      outer = outer_at (shape_of m) face;
      shell = owner_in (shape_of m) face;
      body = loop-body (shape_of m) (well-shape m c.requires.sound) c.args.loop_ c.requires.loop_ i;
    })
