use Rattle.std.proofs.Common.{◌≡◌, ◌∙◌, ◌+◌, ◌-◌, ◌<◌, List, of_z, sym, ap, subst, to_z, w64, arith}
use Rattle.std.proofs.lemmas.Int.{to_z-of_z}
use Rattle.std.specs.Prelude.{ℤ, drop, length, slice_index_or}
use Rattle.pk_base.specs.declared.tag.Tag.{Tag}
use Rattle.pk_base.specs.declared.entity.Pair.{Pair}
use Rattle.pk_base.specs.declared.entity.Triple.{Triple}
use Rattle.pk_model.specs.Tags.{tag_at}
use Rattle.pk_base.specs.declared.call.Call.TheVariants.{Mef, Mev, Mvfs}
use Rattle.entity_store.specs.NextTags.{left}
use Rattle.solid_model.specs.Rows.{cost_of}
use Rattle.solid_model.specs.Lamina.{after_lamina, at_height}
use Rattle.solid_calls.specs.Pairs.{HasDone, HasTags, MayDo, Takes, row_on}
use Rattle.solid_make.specs.Making.{HasMade, MayMake, begun, cost_of_lamina}
use Rattle.solid_make.proofs.Steps.{edge-back, edge-may, edge-steps, edge-tags, face-may, face-tags, first-listed, lamina-made, no_corner, others-are, start-long, start-loop, start-may, start-steps, start-tags}
use Rattle.solid_make.proofs.lamina.put_lamina.Goals as goal

pub mvfs_do-requires-clause-may : goal.mvfs_do-requires-clause-may
mvfs_do-requires-clause-may g c =
    let old = c.args.rec.now.store.now in
    let cs = c.args.corners.now in
    let ts = c.args.tags.now in
    let may = subst (λ (v : ℤ). MayMake old v cs (cost_of_lamina cs) (left ts)) (sym (to_z-of_z w64 c.args.z c.ranges.z)) c.requires.may in
    subst (λ (p : Triple). MayDo old (Mvfs p) (left ts)) (sym c.at_height.ensures) (start-may old ts c.args.out.now (to_z w64 (of_z w64 c.args.z)) cs may c.requires.tags no_corner)

pub mvfs_do-requires-clause-tags : goal.mvfs_do-requires-clause-tags
mvfs_do-requires-clause-tags g c =
    let old = c.args.rec.now.store.now in
    let cs = c.args.corners.now in
    let ts = c.args.tags.now in
    let may = subst (λ (v : ℤ). MayMake old v cs (cost_of_lamina cs) (left ts)) (sym (to_z-of_z w64 c.args.z c.ranges.z)) c.requires.may in
    subst (λ (p : Triple). HasTags old (cost_of (row_on old.state.map (Mvfs p))) ts c.args.out.now) (sym c.at_height.ensures) (start-tags old ts c.args.out.now (to_z w64 (of_z w64 c.args.z)) cs may c.requires.tags no_corner)

pub bounds-as_slice-listed : goal.bounds-as_slice-listed
bounds-as_slice-listed g c =
    let old = c.args.rec.now.store.now in
    let cs = c.args.corners.now in
    let ts = c.args.tags.now in
    let z = to_z w64 (of_z w64 c.args.z) in
    let may = subst (λ (v : ℤ). MayMake old v cs (cost_of_lamina cs) (left ts)) (sym (to_z-of_z w64 c.args.z c.ranges.z)) c.requires.may in
    let takes = subst (λ (p : Triple). Takes (cost_of (row_on old.state.map (Mvfs p))) ts c.args.out.now c.mvfs_do.new.tags c.mvfs_do.new.out) c.at_height.ensures c.mvfs_do.ensures.takes in
    let listed = ap length c.as_slice-listed.ensures in
    let now = ap length c.as_slice.ensures in
    omega (arith, start-long old ts c.args.out.now z cs may c.requires.tags no_corner c.mvfs_do.new.tags c.mvfs_do.new.out takes, listed, now)

pub loop-corner-init : goal.loop-corner-init
loop-corner-init g c =
    let old = c.args.rec.now.store.now in
    let cs = c.args.corners.now in
    let ts = c.args.tags.now in
    let z = to_z w64 (of_z w64 c.args.z) in
    let may = subst (λ (v : ℤ). MayMake old v cs (cost_of_lamina cs) (left ts)) (sym (to_z-of_z w64 c.args.z c.ranges.z)) c.requires.may in
    let takes = subst (λ (p : Triple). Takes (cost_of (row_on old.state.map (Mvfs p))) ts c.args.out.now c.mvfs_do.new.tags c.mvfs_do.new.out) c.at_height.ensures c.mvfs_do.ensures.takes in
    let done = subst (λ (p : Triple). HasDone old (Mvfs p) (left ts) c.mvfs_do.new.rec.store.now) c.at_height.ensures c.mvfs_do.ensures.done in
    let place : length c.as_slice-listed.result.now + 3 ≡ length c.args.out.now.items + 3 = ap (λ us. length us + 3) c.as_slice-listed.ensures in
    let end_is = ap (λ us. tag_at us (length c.as_slice-listed.result.now + 3)) c.as_slice.ensures ∙ start-loop old ts c.args.out.now z cs may c.requires.tags no_corner c.mvfs_do.new.tags c.mvfs_do.new.out _ takes place in
    (start-steps old ts c.args.out.now z cs may c.requires.tags no_corner c.mvfs_do.new.rec.store.now c.mvfs_do.new.tags c.mvfs_do.new.out _ done takes end_is, c.mvfs_do.ensures.same_store)

pub mev_do-requires-clause-may : goal.mev_do-requires-clause-may
mev_do-requires-clause-may g c =
    let old = c.args.rec.now.store.now in
    let cs = c.args.corners.now in
    let ts = c.args.tags.now in
    let z = to_z w64 (of_z w64 c.args.z) in
    let may = subst (λ (v : ℤ). MayMake old v cs (cost_of_lamina cs) (left ts)) (sym (to_z-of_z w64 c.args.z c.ranges.z)) c.requires.may in
    let l = c.loop-corner in
    let less : l.corner-index < length (drop 1 cs) = subst (λ (us : List Pair). l.corner-index < length us) (others-are cs) c.loop-corner-test.true in
    let at : c.at_height-in-loop-corner.result ≡ at_height z (slice_index_or (drop 1 cs) l.corner-index no_corner) = subst (λ (us : List Pair). c.at_height-in-loop-corner.result ≡ at_height z (slice_index_or us l.corner-index no_corner)) (others-are cs) c.at_height-in-loop-corner.ensures in
    subst (λ (p : Triple). MayDo l.rec.store.now (Mev l.end p) (left l.tags)) (sym at)
    (edge-may old ts c.args.out.now z cs may c.requires.tags l.corner-index l.rec.store.now l.tags l.out l.end l.invariant.0 no_corner less)

pub mev_do-requires-clause-tags : goal.mev_do-requires-clause-tags
mev_do-requires-clause-tags g c =
    let old = c.args.rec.now.store.now in
    let cs = c.args.corners.now in
    let ts = c.args.tags.now in
    let z = to_z w64 (of_z w64 c.args.z) in
    let may = subst (λ (v : ℤ). MayMake old v cs (cost_of_lamina cs) (left ts)) (sym (to_z-of_z w64 c.args.z c.ranges.z)) c.requires.may in
    let l = c.loop-corner in
    let less : l.corner-index < length (drop 1 cs) = subst (λ (us : List Pair). l.corner-index < length us) (others-are cs) c.loop-corner-test.true in
    let at : c.at_height-in-loop-corner.result ≡ at_height z (slice_index_or (drop 1 cs) l.corner-index no_corner) = subst (λ (us : List Pair). c.at_height-in-loop-corner.result ≡ at_height z (slice_index_or us l.corner-index no_corner)) (others-are cs) c.at_height-in-loop-corner.ensures in
    subst (λ (p : Triple). HasTags l.rec.store.now (cost_of (row_on l.rec.store.now.state.map (Mev l.end p))) l.tags l.out) (sym at)
    (edge-tags old ts c.args.out.now z cs may c.requires.tags l.corner-index l.rec.store.now l.tags l.out l.end l.invariant.0 no_corner less)

pub loop-corner-preserved : goal.loop-corner-preserved
loop-corner-preserved g c =
    let old = c.args.rec.now.store.now in
    let cs = c.args.corners.now in
    let ts = c.args.tags.now in
    let z = to_z w64 (of_z w64 c.args.z) in
    let may = subst (λ (v : ℤ). MayMake old v cs (cost_of_lamina cs) (left ts)) (sym (to_z-of_z w64 c.args.z c.ranges.z)) c.requires.may in
    let l = c.loop-corner in
    let less : l.corner-index < length (drop 1 cs) = subst (λ (us : List Pair). l.corner-index < length us) (others-are cs) c.loop-corner-test.true in
    let at : c.at_height-in-loop-corner.result ≡ at_height z (slice_index_or (drop 1 cs) l.corner-index no_corner) = subst (λ (us : List Pair). c.at_height-in-loop-corner.result ≡ at_height z (slice_index_or us l.corner-index no_corner)) (others-are cs) c.at_height-in-loop-corner.ensures in
    let now = l.rec.store.now in
    let takes = subst (λ (p : Triple). Takes (cost_of (row_on now.state.map (Mev l.end p))) l.tags l.out c.mev_do.new.tags c.mev_do.new.out) at c.mev_do.ensures.takes in
    let done = subst (λ (p : Triple). HasDone now (Mev l.end p) (left l.tags) c.mev_do.new.rec.store.now) at c.mev_do.ensures.done in
    let place : length c.as_slice-in-loop-corner-2.result.now - 1 ≡ length c.mev_do.new.out.items - 1 = ap (λ us. length us - 1) c.as_slice-in-loop-corner-2.ensures in
    let next_is = ap (λ us. tag_at us (length c.as_slice-in-loop-corner-2.result.now - 1)) c.as_slice-in-loop-corner.ensures
    ∙ edge-back old ts c.args.out.now z cs may c.requires.tags l.corner-index now l.tags l.out l.end l.invariant.0 no_corner less c.mev_do.new.tags c.mev_do.new.out _ takes place in
    (edge-steps old ts c.args.out.now z cs may c.requires.tags l.corner-index now l.tags l.out l.end l.invariant.0 no_corner less c.mev_do.new.rec.store.now c.mev_do.new.tags c.mev_do.new.out _ done takes next_is, c.mev_do.ensures.same_store ∙ l.invariant.1)

pub mef_do-requires-clause-may : goal.mef_do-requires-clause-may
mef_do-requires-clause-may g c =
    let old = c.args.rec.now.store.now in
    let cs = c.args.corners.now in
    let ts = c.args.tags.now in
    let z = to_z w64 (of_z w64 c.args.z) in
    let may = subst (λ (v : ℤ). MayMake old v cs (cost_of_lamina cs) (left ts)) (sym (to_z-of_z w64 c.args.z c.ranges.z)) c.requires.may in
    let l = c.loop-corner in
    let many = ap length (others-are cs) in
    let last : l.corner-index ≡ length (drop 1 cs) = omega (arith, many, c.loop-corner-test.false, l.auto.corner-index-end) in
    let first = ap (λ us. tag_at us (length c.as_slice-listed.result.now + 7)) c.as_slice-2.ensures
    ∙ first-listed old ts c.args.out.now z cs may c.requires.tags l.corner-index l.rec.store.now l.tags l.out l.end l.invariant.0 last _ (ap (λ us. length us + 7) c.as_slice-listed.ensures) in
    subst (λ (f : Tag). MayDo l.rec.store.now (Mef f l.end) (left l.tags)) (sym first)
    (face-may old ts c.args.out.now z cs may c.requires.tags l.corner-index l.rec.store.now l.tags l.out l.end l.invariant.0 last)

pub mef_do-requires-clause-tags : goal.mef_do-requires-clause-tags
mef_do-requires-clause-tags g c =
    let old = c.args.rec.now.store.now in
    let cs = c.args.corners.now in
    let ts = c.args.tags.now in
    let z = to_z w64 (of_z w64 c.args.z) in
    let may = subst (λ (v : ℤ). MayMake old v cs (cost_of_lamina cs) (left ts)) (sym (to_z-of_z w64 c.args.z c.ranges.z)) c.requires.may in
    let l = c.loop-corner in
    let many = ap length (others-are cs) in
    let last : l.corner-index ≡ length (drop 1 cs) = omega (arith, many, c.loop-corner-test.false, l.auto.corner-index-end) in
    let first = ap (λ us. tag_at us (length c.as_slice-listed.result.now + 7)) c.as_slice-2.ensures
    ∙ first-listed old ts c.args.out.now z cs may c.requires.tags l.corner-index l.rec.store.now l.tags l.out l.end l.invariant.0 last _ (ap (λ us. length us + 7) c.as_slice-listed.ensures) in
    subst (λ (f : Tag). HasTags l.rec.store.now (cost_of (row_on l.rec.store.now.state.map (Mef f l.end))) l.tags l.out) (sym first)
    (face-tags old ts c.args.out.now z cs may c.requires.tags l.corner-index l.rec.store.now l.tags l.out l.end l.invariant.0 last)

pub returns-clause-made : goal.returns-clause-made
returns-clause-made g c =
    let old = c.args.rec.now.store.now in
    let cs = c.args.corners.now in
    let ts = c.args.tags.now in
    let z = to_z w64 (of_z w64 c.args.z) in
    let may = subst (λ (v : ℤ). MayMake old v cs (cost_of_lamina cs) (left ts)) (sym (to_z-of_z w64 c.args.z c.ranges.z)) c.requires.may in
    let l = c.loop-corner in
    let many = ap length (others-are cs) in
    let last : l.corner-index ≡ length (drop 1 cs) = omega (arith, many, c.loop-corner-test.false, l.auto.corner-index-end) in
    let first = ap (λ us. tag_at us (length c.as_slice-listed.result.now + 7)) c.as_slice-2.ensures
    ∙ first-listed old ts c.args.out.now z cs may c.requires.tags l.corner-index l.rec.store.now l.tags l.out l.end l.invariant.0 last _ (ap (λ us. length us + 7) c.as_slice-listed.ensures) in
    let done = subst (λ (f : Tag). HasDone l.rec.store.now (Mef f l.end) (left l.tags) c.mef_do.new.rec.store.now) first c.mef_do.ensures.done in
    let takes = subst (λ (f : Tag). Takes (cost_of (row_on l.rec.store.now.state.map (Mef f l.end))) l.tags l.out c.mef_do.new.tags c.mef_do.new.out) first c.mef_do.ensures.takes in
    subst (λ (v : ℤ). HasMade old (cost_of_lamina cs) (left ts) (after_lamina v cs (begun old (left ts))) c.mef_do.new.rec.store.now) (to_z-of_z w64 c.args.z c.ranges.z)
    (lamina-made old ts c.args.out.now z cs may c.requires.tags l.corner-index l.rec.store.now l.tags l.out l.end l.invariant.0 last c.mef_do.new.rec.store.now c.mef_do.new.tags c.mef_do.new.out done takes).0

pub returns-clause-takes : goal.returns-clause-takes
returns-clause-takes g c =
    let old = c.args.rec.now.store.now in
    let cs = c.args.corners.now in
    let ts = c.args.tags.now in
    let z = to_z w64 (of_z w64 c.args.z) in
    let may = subst (λ (v : ℤ). MayMake old v cs (cost_of_lamina cs) (left ts)) (sym (to_z-of_z w64 c.args.z c.ranges.z)) c.requires.may in
    let l = c.loop-corner in
    let many = ap length (others-are cs) in
    let last : l.corner-index ≡ length (drop 1 cs) = omega (arith, many, c.loop-corner-test.false, l.auto.corner-index-end) in
    let first = ap (λ us. tag_at us (length c.as_slice-listed.result.now + 7)) c.as_slice-2.ensures
    ∙ first-listed old ts c.args.out.now z cs may c.requires.tags l.corner-index l.rec.store.now l.tags l.out l.end l.invariant.0 last _ (ap (λ us. length us + 7) c.as_slice-listed.ensures) in
    let done = subst (λ (f : Tag). HasDone l.rec.store.now (Mef f l.end) (left l.tags) c.mef_do.new.rec.store.now) first c.mef_do.ensures.done in
    let takes = subst (λ (f : Tag). Takes (cost_of (row_on l.rec.store.now.state.map (Mef f l.end))) l.tags l.out c.mef_do.new.tags c.mef_do.new.out) first c.mef_do.ensures.takes in
    (lamina-made old ts c.args.out.now z cs may c.requires.tags l.corner-index l.rec.store.now l.tags l.out l.end l.invariant.0 last c.mef_do.new.rec.store.now c.mef_do.new.tags c.mef_do.new.out done takes).1
