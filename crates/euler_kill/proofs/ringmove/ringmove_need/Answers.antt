use Rattle.std.proofs.Common.{[], ◌∷◌, ap, rules, arith}
use Rattle.pk_base.specs.declared.call.Call.TheVariants.{RingMove}
use Rattle.solid_model.specs.Places.{PlacedLoop}
use Rattle.solid_model.specs.Room.{if_found}
use Rattle.solid_model.specs.Shapes.{shape_of}
use Rattle.solid_calls.proofs.RowKinds.{ringmove-changes}
use Rattle.solid_edits.proofs.TagsPut.{puts-changed}
use Rattle.euler_kill.proofs.ringmove.ringmove_need.Goals as goal

pub returns : goal.returns
returns g c =
    let S = shape_of c.args.store.now.state.map in
    let ring = c.args.ring in
    let counts = puts-changed S (RingMove ring c.args.to) (ring ∷ []) (ringmove-changes S ring c.args.to) (ap (if_found (λ (placed : PlacedLoop). ring ∷ [])) c.in_ok-moved.ensures.found) in
    record {
      goes = search rules;
      tags = search rules;
      changes = omega (arith, counts);
      list = search rules;
    }
