use Rattle.std.proofs.Common.{◌∙◌, refl, sym, ap, subst, Some, Ok, Err, []}
use Rattle.std.specs.Prelude.{IfSome}
use Rattle.std.specs.FinMap.{entries}
use Rattle.std.proofs.lemmas.Result.{err_from_is_err_and}
use Rattle.pk_base.specs.declared.entity.Entity.TheVariants.{Loop}
use Rattle.solid_model.specs.Places.{end_at, end_of_item}
use Rattle.solid_model.specs.Shapes.{shape_of}
use Rattle.halfedge.specs.LinkedRings.{IsInRing, ring_at, ring_of_any}
use Rattle.solid_places.specs.Placed.{placed_by, as_placed_end, place_of_end}
use Rattle.solid_places.specs.declared.ends.End.{End}
use Rattle.solid_places.proofs.Read.{found, not_found, class-read, item-of}
use Rattle.pk_base.specs.declared.refusal.Refusal.TheVariants.{WrongClass}
use Rattle.solid_places.proofs.Classes.{not_end}
use Rattle.solid_places.proofs.RingPlaces.{fin-ring, fins-of_end, loop-found, end-fin, ring-first, end-lone, end-bare}
use Rattle.solid_places.proofs.Told.{end-told, outer-told, if_refused-told, refused-told}
use Rattle.solid_places.proofs.ends.end_at.Goals as goal

pub returns-in_err-entity-clause-refused : goal.returns-in_err-entity-clause-refused
returns-in_err-entity-clause-refused g c =
    let m = c.args.store.now.state.map in
    let p = err_from_is_err_and c.from_residual.result c.from_residual.ensures.1 in
    let was = not_found m c.args.end c.live.result _ c.live.ensures c.in_err-entity.was in
    if_refused-told (as_placed_end (shape_of c.args.store.now.state.map)) (end_at (shape_of c.args.store.now.state.map) c.args.end) c.from_residual.result (p.1 ∙ ap Err (p.2 ∙ sym was.1) ∙ ap (λ o. placed_by (as_placed_end (shape_of m)) (end_of_item (shape_of m) c.args.end o)) (sym was.0))

pub end_in-requires-clause-loop_ : goal.end_in-requires-clause-loop_
end_in-requires-clause-loop_ g c =
    let m = c.args.store.now.state.map in
    let h = found m c.args.end c.live.result _ c.live.ensures c.in_ok-entity.was ∙ ap Some c.in-Fin.is in
    loop-found m c.requires c.args.end c.in-Fin.loop_ _ _ _ _ _ h

pub end_in-requires-in-Some-clause-loop_ : goal.end_in-requires-in-Some-clause-loop_
end_in-requires-in-Some-clause-loop_ g c =
    let m = c.args.store.now.state.map in
    let h = found m c.args.end c.live.result _ c.live.ensures c.in_ok-entity.was ∙ ap Some c.in-Loop.is in
    class-read m c.args.end _ h

pub returns-in-Fin-clause-found : goal.returns-in-Fin-clause-found
returns-in-Fin-clause-found g c =
    let m = c.args.store.now.state.map in
    let h = found m c.args.end c.live.result _ c.live.ensures c.in_ok-entity.was ∙ ap Some c.in-Fin.is in
    end-told (shape_of c.args.store.now.state.map) (end_at (shape_of c.args.store.now.state.map) c.args.end) _ _ (ap Ok c.end_in.ensures
    ∙ ap (λ o. Ok (place_of_end (shape_of m) c.in-Fin.loop_ c.in-Fin.vertex o)) (sym (ring-first m c.requires c.args.end _ _ _ _ _ _ h))
    ∙ ap (placed_by (as_placed_end (shape_of m))) (sym (end-fin m c.requires c.args.end _ _ _ _ _ _ h)))
    (λ u is.
    let m = c.args.store.now.state.map in
    let h = found m c.args.end c.live.result _ c.live.ensures c.in_ok-entity.was ∙ ap Some c.in-Fin.is in
    fins-of_end m c.requires c.args.end u _ (ring_at m c.args.end) (end-fin m c.requires c.args.end _ _ _ _ _ _ h) refl is
    ∙ ap (λ (e : End). ring_of_any m e.first) (sym c.end_in.ensures))

pub returns-in-Fin-clause-outer : goal.returns-in-Fin-clause-outer
returns-in-Fin-clause-outer g c =
    let m = c.args.store.now.state.map in
    let h = found m c.args.end c.live.result _ c.live.ensures c.in_ok-entity.was ∙ ap Some c.in-Fin.is in
    outer-told (shape_of c.args.store.now.state.map) (end_at (shape_of c.args.store.now.state.map) c.args.end) _ (ap Ok c.end_in.ensures
    ∙ ap (λ o. Ok (place_of_end (shape_of m) c.in-Fin.loop_ c.in-Fin.vertex o)) (sym (ring-first m c.requires c.args.end _ _ _ _ _ _ h))
    ∙ ap (placed_by (as_placed_end (shape_of m))) (sym (end-fin m c.requires c.args.end _ _ _ _ _ _ h)))

pub returns-in-Fin-clause-ring : goal.returns-in-Fin-clause-ring
returns-in-Fin-clause-ring g c =
    let m = c.args.store.now.state.map in
    let h = found m c.args.end c.live.result _ c.live.ensures c.in_ok-entity.was ∙ ap Some c.in-Fin.is in
    subst (λ (e : End). IfSome e.first (IsInRing m)) (sym c.end_in.ensures) (fin-ring m c.requires c.args.end _ _ _ (item-of m c.args.end _ h)).1

pub returns-in-Body-clause-refused : goal.returns-in-Body-clause-refused
returns-in-Body-clause-refused g c =
    let m = c.args.store.now.state.map in
    let e = c.in_ok-entity.entity in
    let h = found m c.args.end c.live.result _ c.live.ensures c.in_ok-entity.was in
    refused-told (as_placed_end (shape_of c.args.store.now.state.map)) (end_at (shape_of c.args.store.now.state.map) c.args.end) _ (ap (λ k. Err (WrongClass c.args.end k)) c.class.ensures
    ∙ ap (placed_by (as_placed_end (shape_of m))) (sym (ap (end_of_item (shape_of m) c.args.end) (item-of m c.args.end e h) ∙ not_end (shape_of m) c.args.end (entries m) e c.in-Body.is)))

pub returns-in-Some-clause-found : goal.returns-in-Some-clause-found
returns-in-Some-clause-found g c =
    let m = c.args.store.now.state.map in
    let h = found m c.args.end c.live.result _ c.live.ensures c.in_ok-entity.was ∙ ap Some (c.in-Loop.is ∙ ap (λ o. Loop c.in-Loop.face c.in-Loop.first o) c.in-Some.is) in
    end-told (shape_of c.args.store.now.state.map) (end_at (shape_of c.args.store.now.state.map) c.args.end) _ _ (ap Ok c.end_in-in-Some.ensures
    ∙ ap (placed_by (as_placed_end (shape_of m))) (sym (end-lone m c.requires c.args.end _ c.in-Some.vertex _ h)))
    (λ u is.
    let m = c.args.store.now.state.map in
    let h = found m c.args.end c.live.result _ c.live.ensures c.in_ok-entity.was ∙ ap Some (c.in-Loop.is ∙ ap (λ o. Loop c.in-Loop.face c.in-Loop.first o) c.in-Some.is) in
    fins-of_end m c.requires c.args.end u _ [] (end-lone m c.requires c.args.end _ c.in-Some.vertex _ h) refl is
    ∙ ap (λ (e : End). ring_of_any m e.first) (sym c.end_in-in-Some.ensures))

pub returns-in-Some-clause-outer : goal.returns-in-Some-clause-outer
returns-in-Some-clause-outer g c =
    let m = c.args.store.now.state.map in
    let h = found m c.args.end c.live.result _ c.live.ensures c.in_ok-entity.was ∙ ap Some (c.in-Loop.is ∙ ap (λ o. Loop c.in-Loop.face c.in-Loop.first o) c.in-Some.is) in
    outer-told (shape_of c.args.store.now.state.map) (end_at (shape_of c.args.store.now.state.map) c.args.end) _ (ap Ok c.end_in-in-Some.ensures
    ∙ ap (placed_by (as_placed_end (shape_of m))) (sym (end-lone m c.requires c.args.end _ c.in-Some.vertex _ h)))

pub returns-in-None-clause-refused : goal.returns-in-None-clause-refused
returns-in-None-clause-refused g c =
    let m = c.args.store.now.state.map in
    let h = found m c.args.end c.live.result _ c.live.ensures c.in_ok-entity.was ∙ ap Some (c.in-Loop.is ∙ ap (λ o. Loop c.in-Loop.face c.in-Loop.first o) c.in-None.is) in
    refused-told (as_placed_end (shape_of c.args.store.now.state.map)) (end_at (shape_of c.args.store.now.state.map) c.args.end) _ (ap (placed_by (as_placed_end (shape_of m))) (sym (end-bare m c.requires c.args.end _ _ h)))
