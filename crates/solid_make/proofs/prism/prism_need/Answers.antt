use Rattle.std.proofs.Common.{◌≡◌, ◌+◌, ◌*◌, ◌∷◌, [], of_z, refl, rules, subst, to_z, w64}
use Rattle.std.proofs.lemmas.Int.{to_z-of_z}
use Rattle.std.specs.Prelude.{ℤ, ◌+ℤ◌, None, Some, length}
use Rattle.pk_base.specs.declared.call.Call.TheVariants.{Prism}
use Rattle.solid_model.specs.Ranges.{is_coordinate, is_size, refuse_outside}
use Rattle.solid_model.specs.Shapes.{shape_of}
use Rattle.solid_sound.proofs.rows.KeptMotions.{outside-none}
use Rattle.solid_make.proofs.PrismDone.{prism-corners, prism-is, prism-polygon, prism-top}
use Rattle.solid_make.proofs.Refusals.{are-corners, need-made}
use Rattle.solid_make.proofs.prism.prism_need.Goals as goal

pub check_top-requires-clause-z : goal.check_top-requires-clause-z
check_top-requires-clause-z g c = (outside-none is_coordinate (to_z w64 (of_z w64 c.args.z) ∷ []) c.in_ok-check_coordinate.ensures).0

pub check_top-requires-clause-h : goal.check_top-requires-clause-h
check_top-requires-clause-h g c = (outside-none is_size (to_z w64 (of_z w64 c.args.h) ∷ []) c.in_ok-check_size.ensures).0

pub returns-in_err-check_top : goal.returns-in_err-check_top
returns-in_err-check_top g c =
    let z_is = to_z-of_z w64 c.args.z c.ranges.z in
    let h_is = to_z-of_z w64 c.args.h c.ranges.h in
    let z = subst (λ (v : ℤ). refuse_outside is_coordinate (v ∷ []) ≡ None) z_is c.in_ok-check_coordinate.ensures in
    let h = subst (λ (v : ℤ). refuse_outside is_size (v ∷ []) ≡ None) h_is c.in_ok-check_size.ensures in
    let top = subst (λ (v : ℤ). refuse_outside is_coordinate ((c.args.z +ℤ v) ∷ []) ≡ Some c.in_err-check_top.field-0.0) h_is
    (subst (λ (v : ℤ). refuse_outside is_coordinate ((v +ℤ to_z w64 (of_z w64 c.args.h)) ∷ []) ≡ Some c.in_err-check_top.field-0.0) z_is c.in_err-check_top.ensures) in
    let row = prism-top (shape_of c.args.store.now.state.map) c.args.z c.args.h c.args.corners.now _ c.in_ok-check_count.ensures z h top in
    search rules

pub returns-in_err-check_corners : goal.returns-in_err-check_corners
returns-in_err-check_corners g c =
    let z_is = to_z-of_z w64 c.args.z c.ranges.z in
    let h_is = to_z-of_z w64 c.args.h c.ranges.h in
    let z = subst (λ (v : ℤ). refuse_outside is_coordinate (v ∷ []) ≡ None) z_is c.in_ok-check_coordinate.ensures in
    let h = subst (λ (v : ℤ). refuse_outside is_size (v ∷ []) ≡ None) h_is c.in_ok-check_size.ensures in
    let top = subst (λ (v : ℤ). refuse_outside is_coordinate ((c.args.z +ℤ v) ∷ []) ≡ None) h_is
    (subst (λ (v : ℤ). refuse_outside is_coordinate ((v +ℤ to_z w64 (of_z w64 c.args.h)) ∷ []) ≡ None) z_is c.in_ok-check_top.ensures) in
    let row = prism-corners (shape_of c.args.store.now.state.map) c.args.z c.args.h c.args.corners.now _ c.in_ok-check_count.ensures z h top c.in_err-check_corners.ensures in
    search rules

pub check_polygon-requires : goal.check_polygon-requires
check_polygon-requires g c = are-corners c.args.corners.now c.in_ok-check_count.ensures c.in_ok-check_corners.ensures

pub returns-in_err-check_polygon : goal.returns-in_err-check_polygon
returns-in_err-check_polygon g c =
    let z_is = to_z-of_z w64 c.args.z c.ranges.z in
    let h_is = to_z-of_z w64 c.args.h c.ranges.h in
    let z = subst (λ (v : ℤ). refuse_outside is_coordinate (v ∷ []) ≡ None) z_is c.in_ok-check_coordinate.ensures in
    let h = subst (λ (v : ℤ). refuse_outside is_size (v ∷ []) ≡ None) h_is c.in_ok-check_size.ensures in
    let top = subst (λ (v : ℤ). refuse_outside is_coordinate ((c.args.z +ℤ v) ∷ []) ≡ None) h_is
    (subst (λ (v : ℤ). refuse_outside is_coordinate ((v +ℤ to_z w64 (of_z w64 c.args.h)) ∷ []) ≡ None) z_is c.in_ok-check_top.ensures) in
    let row = prism-polygon (shape_of c.args.store.now.state.map) c.args.z c.args.h c.args.corners.now _ c.in_ok-check_count.ensures z h top c.in_ok-check_corners.ensures c.in_err-check_polygon.ensures in
    search rules

pub returns : goal.returns
returns g c =
    let z_is = to_z-of_z w64 c.args.z c.ranges.z in
    let h_is = to_z-of_z w64 c.args.h c.ranges.h in
    let z = subst (λ (v : ℤ). refuse_outside is_coordinate (v ∷ []) ≡ None) z_is c.in_ok-check_coordinate.ensures in
    let h = subst (λ (v : ℤ). refuse_outside is_size (v ∷ []) ≡ None) h_is c.in_ok-check_size.ensures in
    let top = subst (λ (v : ℤ). refuse_outside is_coordinate ((c.args.z +ℤ v) ∷ []) ≡ None) h_is
    (subst (λ (v : ℤ). refuse_outside is_coordinate ((v +ℤ to_z w64 (of_z w64 c.args.h)) ∷ []) ≡ None) z_is c.in_ok-check_top.ensures) in
    let m = c.args.store.now.state.map in
    need-made m (Prism c.args.z c.args.h c.args.corners.now) (13 * length c.args.corners.now + 6) _ _
    (prism-is (shape_of m) c.args.z c.args.h c.args.corners.now c.in_ok-check_count.ensures z h top c.in_ok-check_corners.ensures c.in_ok-check_polygon.ensures) refl refl refl refl
