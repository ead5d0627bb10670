use Rattle.std.proofs.Common.{◌∙◌, sym, ap, Some, Ok, Err}
use Rattle.std.specs.FinMap.{entries}
use Rattle.std.proofs.lemmas.Result.{err_from_is_err_and}
use Rattle.pk_base.specs.declared.refusal.Refusal.TheVariants.{WrongClass}
use Rattle.solid_model.specs.Places.{as_fin, fin_at}
use Rattle.solid_model.specs.Shapes.{shape_of}
use Rattle.solid_places.specs.Placed.{placed_by, as_placed_fin}
use Rattle.solid_places.specs.declared.fins.PlacedFin.{PlacedFin}
use Rattle.solid_places.specs.declared.loops.PlacedLoop.{PlacedLoop}
use Rattle.solid_places.proofs.Read.{found, refused, refused-class, item-of}
use Rattle.solid_places.proofs.Classes.{not_fin}
use Rattle.solid_places.proofs.RingPlaces.{fin-ring, fins-of_fin, loop-found, fin-place}
use Rattle.halfedge.specs.LinkedRings.{ring_at}
use Rattle.solid_places.proofs.Told.{fin-told, if_refused-told, refused-told}
use Rattle.solid_places.proofs.fins.fin_at.Goals as goal

pub returns-in_err-entity-clause-refused : goal.returns-in_err-entity-clause-refused
returns-in_err-entity-clause-refused g c =
    let m = c.args.store.now.state.map in
    let p = err_from_is_err_and c.from_residual.result c.from_residual.ensures.1 in
    if_refused-told as_placed_fin (fin_at (shape_of c.args.store.now.state.map) c.args.fin) c.from_residual.result (p.1 ∙ ap Err p.2 ∙ ap (placed_by as_placed_fin) (sym (refused (as_fin (shape_of m) c.args.fin) m c.args.fin c.live.result _ c.live.ensures c.in_err-entity.was)))

pub returns-in_default-clause-refused : goal.returns-in_default-clause-refused
returns-in_default-clause-refused g c =
    let m = c.args.store.now.state.map in
    let e = c.in_ok-entity.entity in
    let h = found m c.args.fin c.live.result e c.live.ensures c.in_ok-entity.was in
    refused-told as_placed_fin (fin_at (shape_of c.args.store.now.state.map) c.args.fin) _ (ap (λ k. Err (WrongClass c.args.fin k)) c.class.ensures
    ∙ ap (placed_by as_placed_fin) (sym (refused-class (as_fin (shape_of m) c.args.fin) m c.args.fin e h (not_fin (shape_of m) c.args.fin (entries m) e c.in_default.not-Fin))))

pub known_loop-place-requires-clause-loop_ : goal.known_loop-place-requires-clause-loop_
known_loop-place-requires-clause-loop_ g c =
    let m = c.args.store.now.state.map in
    let h = found m c.args.fin c.live.result _ c.live.ensures c.in_ok-entity.was ∙ ap Some c.in-Fin.is in
    loop-found m c.requires c.args.fin c.in-Fin.loop_ _ _ _ _ _ h

pub returns-clause-found : goal.returns-clause-found
returns-clause-found g c =
    let m = c.args.store.now.state.map in
    let h = found m c.args.fin c.live.result _ c.live.ensures c.in_ok-entity.was ∙ ap Some c.in-Fin.is in
    let fin_of : PlacedLoop → PlacedFin = λ p. record {
      mate = c.in-Fin.mate;
      edge = c.in-Fin.edge;
      vertex = c.in-Fin.vertex;
      loop_ = c.in-Fin.loop_;
      face = p.face;
      shell = p.shell;
      body = p.body;
    } in
    fin-told (fin_at (shape_of c.args.store.now.state.map) c.args.fin) _ (ring_at c.args.store.now.state.map c.args.fin) (ap (λ p. Ok (fin_of p)) c.known_loop-place.ensures
    ∙ ap (placed_by as_placed_fin) (sym (fin-place m c.requires c.args.fin _ _ _ _ _ _ h))) (fins-of_fin c.args.store.now.state.map c.requires c.args.fin)

pub returns-clause-ring : goal.returns-clause-ring
returns-clause-ring g c =
    let m = c.args.store.now.state.map in
    let h = found m c.args.fin c.live.result _ c.live.ensures c.in_ok-entity.was ∙ ap Some c.in-Fin.is in
    (fin-ring m c.requires c.args.fin _ _ _ (item-of m c.args.fin _ h)).1
