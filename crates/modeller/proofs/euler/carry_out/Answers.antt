use Rattle.std.proofs.lemmas.Int.{to_z-of_z}
use Rattle.std.specs.Prelude.{ℤ}
use Rattle.std.proofs.Common.{◌≡◌, List, [], of_z, rules, subst, sym, to_z, w64}
use Rattle.pk_base.specs.declared.call.Call.TheVariants.{Lamina, Prism, SetAttr, Turn}
use Rattle.solid_calls.specs.Pairs.{HasDone, HasTags, MayDo, Takes, row_on}
use Rattle.solid_model.specs.Rows.{cost_of}
use Rattle.pk_base.specs.declared.entity.Pair.{Pair}
use Rattle.entity_store.specs.NextTags.{left}
use Rattle.solid_model.specs.Shapes.{shape_of}
use Rattle.modeller.proofs.Performing.{done-as, done-changing, may-as, may-without, tags-as, takes-as, takes-changing}
use Rattle.solid_calls.proofs.RowKinds.{drop-changes, kef-changes, kev-changes, kfmrh-changes, kvfs-changes, ringmove-changes}
use Rattle.euler_kill.proofs.DeleteReached.{delete-changes}
use Rattle.solid_motion.proofs.RowKinds.{move-changes, turn-changes}
use Rattle.modeller.proofs.euler.carry_out.Goals as goal

pub mvfs_do-requires-clause-may : goal.mvfs_do-requires-clause-may
mvfs_do-requires-clause-may g c = may-as c.args.call.now _ c.in-Mvfs.is c.args.rec.now.store.now (left c.args.tags.now) c.requires.may

pub mvfs_do-requires-clause-tags : goal.mvfs_do-requires-clause-tags
mvfs_do-requires-clause-tags g c = tags-as c.args.call.now _ c.in-Mvfs.is c.args.rec.now.store.now c.args.tags.now c.args.out.now c.requires.tags

pub returns-in-Mvfs-clause-done : goal.returns-in-Mvfs-clause-done
returns-in-Mvfs-clause-done g c = done-as c.args.call.now _ c.in-Mvfs.is c.args.rec.now.store.now c.mvfs_do.new.rec.store.now (left c.args.tags.now) c.mvfs_do.ensures.done

pub returns-in-Mvfs-clause-takes : goal.returns-in-Mvfs-clause-takes
returns-in-Mvfs-clause-takes g c = takes-as c.args.call.now _ c.in-Mvfs.is c.args.rec.now.store.now.state.map c.args.tags.now c.mvfs_do.new.tags c.args.out.now c.mvfs_do.new.out c.mvfs_do.ensures.takes

pub mev_do-requires-clause-may : goal.mev_do-requires-clause-may
mev_do-requires-clause-may g c = may-as c.args.call.now _ c.in-Mev.is c.args.rec.now.store.now (left c.args.tags.now) c.requires.may

pub mev_do-requires-clause-tags : goal.mev_do-requires-clause-tags
mev_do-requires-clause-tags g c = tags-as c.args.call.now _ c.in-Mev.is c.args.rec.now.store.now c.args.tags.now c.args.out.now c.requires.tags

pub returns-in-Mev-clause-done : goal.returns-in-Mev-clause-done
returns-in-Mev-clause-done g c = done-as c.args.call.now _ c.in-Mev.is c.args.rec.now.store.now c.mev_do.new.rec.store.now (left c.args.tags.now) c.mev_do.ensures.done

pub returns-in-Mev-clause-takes : goal.returns-in-Mev-clause-takes
returns-in-Mev-clause-takes g c = takes-as c.args.call.now _ c.in-Mev.is c.args.rec.now.store.now.state.map c.args.tags.now c.mev_do.new.tags c.args.out.now c.mev_do.new.out c.mev_do.ensures.takes

pub mef_do-requires-clause-may : goal.mef_do-requires-clause-may
mef_do-requires-clause-may g c = may-as c.args.call.now _ c.in-Mef.is c.args.rec.now.store.now (left c.args.tags.now) c.requires.may

pub mef_do-requires-clause-tags : goal.mef_do-requires-clause-tags
mef_do-requires-clause-tags g c = tags-as c.args.call.now _ c.in-Mef.is c.args.rec.now.store.now c.args.tags.now c.args.out.now c.requires.tags

pub returns-in-Mef-clause-done : goal.returns-in-Mef-clause-done
returns-in-Mef-clause-done g c = done-as c.args.call.now _ c.in-Mef.is c.args.rec.now.store.now c.mef_do.new.rec.store.now (left c.args.tags.now) c.mef_do.ensures.done

pub returns-in-Mef-clause-takes : goal.returns-in-Mef-clause-takes
returns-in-Mef-clause-takes g c = takes-as c.args.call.now _ c.in-Mef.is c.args.rec.now.store.now.state.map c.args.tags.now c.mef_do.new.tags c.args.out.now c.mef_do.new.out c.mef_do.ensures.takes

pub mekr_do-requires-clause-may : goal.mekr_do-requires-clause-may
mekr_do-requires-clause-may g c = may-as c.args.call.now _ c.in-Mekr.is c.args.rec.now.store.now (left c.args.tags.now) c.requires.may

pub mekr_do-requires-clause-tags : goal.mekr_do-requires-clause-tags
mekr_do-requires-clause-tags g c = tags-as c.args.call.now _ c.in-Mekr.is c.args.rec.now.store.now c.args.tags.now c.args.out.now c.requires.tags

pub returns-in-Mekr-clause-done : goal.returns-in-Mekr-clause-done
returns-in-Mekr-clause-done g c = done-as c.args.call.now _ c.in-Mekr.is c.args.rec.now.store.now c.mekr_do.new.rec.store.now (left c.args.tags.now) c.mekr_do.ensures.done

pub returns-in-Mekr-clause-takes : goal.returns-in-Mekr-clause-takes
returns-in-Mekr-clause-takes g c = takes-as c.args.call.now _ c.in-Mekr.is c.args.rec.now.store.now.state.map c.args.tags.now c.mekr_do.new.tags c.args.out.now c.mekr_do.new.out c.mekr_do.ensures.takes

pub mfkrh_do-requires-clause-may : goal.mfkrh_do-requires-clause-may
mfkrh_do-requires-clause-may g c = may-as c.args.call.now _ c.in-Mfkrh.is c.args.rec.now.store.now (left c.args.tags.now) c.requires.may

pub mfkrh_do-requires-clause-tags : goal.mfkrh_do-requires-clause-tags
mfkrh_do-requires-clause-tags g c = tags-as c.args.call.now _ c.in-Mfkrh.is c.args.rec.now.store.now c.args.tags.now c.args.out.now c.requires.tags

pub returns-in-Mfkrh-clause-done : goal.returns-in-Mfkrh-clause-done
returns-in-Mfkrh-clause-done g c = done-as c.args.call.now _ c.in-Mfkrh.is c.args.rec.now.store.now c.mfkrh_do.new.rec.store.now (left c.args.tags.now) c.mfkrh_do.ensures.done

pub returns-in-Mfkrh-clause-takes : goal.returns-in-Mfkrh-clause-takes
returns-in-Mfkrh-clause-takes g c = takes-as c.args.call.now _ c.in-Mfkrh.is c.args.rec.now.store.now.state.map c.args.tags.now c.mfkrh_do.new.tags c.args.out.now c.mfkrh_do.new.out c.mfkrh_do.ensures.takes

pub kvfs_do-requires : goal.kvfs_do-requires
kvfs_do-requires g c = may-without c.args.call.now _ c.in-Kvfs.is c.args.rec.now.store.now (left c.args.tags.now) c.requires.may

pub returns-in-Kvfs-clause-done : goal.returns-in-Kvfs-clause-done
returns-in-Kvfs-clause-done g c = done-changing c.args.call.now _ c.in-Kvfs.is c.args.rec.now.store.now c.kvfs_do.new.rec.store.now (left c.args.tags.now) (kvfs-changes (shape_of c.args.rec.now.store.now.state.map) c.in-Kvfs.body) c.kvfs_do.ensures.done

pub returns-in-Kvfs-clause-takes : goal.returns-in-Kvfs-clause-takes
returns-in-Kvfs-clause-takes g c = takes-changing c.args.call.now _ c.in-Kvfs.is c.args.rec.now.store.now.state.map c.args.tags.now c.args.out.now (kvfs-changes (shape_of c.args.rec.now.store.now.state.map) c.in-Kvfs.body)

pub kev_do-requires : goal.kev_do-requires
kev_do-requires g c = may-without c.args.call.now _ c.in-Kev.is c.args.rec.now.store.now (left c.args.tags.now) c.requires.may

pub returns-in-Kev-clause-done : goal.returns-in-Kev-clause-done
returns-in-Kev-clause-done g c = done-changing c.args.call.now _ c.in-Kev.is c.args.rec.now.store.now c.kev_do.new.rec.store.now (left c.args.tags.now) (kev-changes (shape_of c.args.rec.now.store.now.state.map) c.in-Kev.fin) c.kev_do.ensures.done

pub returns-in-Kev-clause-takes : goal.returns-in-Kev-clause-takes
returns-in-Kev-clause-takes g c = takes-changing c.args.call.now _ c.in-Kev.is c.args.rec.now.store.now.state.map c.args.tags.now c.args.out.now (kev-changes (shape_of c.args.rec.now.store.now.state.map) c.in-Kev.fin)

pub kef_do-requires : goal.kef_do-requires
kef_do-requires g c = may-without c.args.call.now _ c.in-Kef.is c.args.rec.now.store.now (left c.args.tags.now) c.requires.may

pub returns-in-Kef-clause-done : goal.returns-in-Kef-clause-done
returns-in-Kef-clause-done g c = done-changing c.args.call.now _ c.in-Kef.is c.args.rec.now.store.now c.kef_do.new.rec.store.now (left c.args.tags.now) (kef-changes (shape_of c.args.rec.now.store.now.state.map) c.in-Kef.fin) c.kef_do.ensures.done

pub returns-in-Kef-clause-takes : goal.returns-in-Kef-clause-takes
returns-in-Kef-clause-takes g c = takes-changing c.args.call.now _ c.in-Kef.is c.args.rec.now.store.now.state.map c.args.tags.now c.args.out.now (kef-changes (shape_of c.args.rec.now.store.now.state.map) c.in-Kef.fin)

pub kemr_do-requires-clause-may : goal.kemr_do-requires-clause-may
kemr_do-requires-clause-may g c = may-as c.args.call.now _ c.in-Kemr.is c.args.rec.now.store.now (left c.args.tags.now) c.requires.may

pub kemr_do-requires-clause-tags : goal.kemr_do-requires-clause-tags
kemr_do-requires-clause-tags g c = tags-as c.args.call.now _ c.in-Kemr.is c.args.rec.now.store.now c.args.tags.now c.args.out.now c.requires.tags

pub returns-in-Kemr-clause-done : goal.returns-in-Kemr-clause-done
returns-in-Kemr-clause-done g c = done-as c.args.call.now _ c.in-Kemr.is c.args.rec.now.store.now c.kemr_do.new.rec.store.now (left c.args.tags.now) c.kemr_do.ensures.done

pub returns-in-Kemr-clause-takes : goal.returns-in-Kemr-clause-takes
returns-in-Kemr-clause-takes g c = takes-as c.args.call.now _ c.in-Kemr.is c.args.rec.now.store.now.state.map c.args.tags.now c.kemr_do.new.tags c.args.out.now c.kemr_do.new.out c.kemr_do.ensures.takes

pub kfmrh_do-requires : goal.kfmrh_do-requires
kfmrh_do-requires g c = may-without c.args.call.now _ c.in-Kfmrh.is c.args.rec.now.store.now (left c.args.tags.now) c.requires.may

pub returns-in-Kfmrh-clause-done : goal.returns-in-Kfmrh-clause-done
returns-in-Kfmrh-clause-done g c = done-changing c.args.call.now _ c.in-Kfmrh.is c.args.rec.now.store.now c.kfmrh_do.new.rec.store.now (left c.args.tags.now) (kfmrh-changes (shape_of c.args.rec.now.store.now.state.map) c.in-Kfmrh.keep c.in-Kfmrh.kill) c.kfmrh_do.ensures.done

pub returns-in-Kfmrh-clause-takes : goal.returns-in-Kfmrh-clause-takes
returns-in-Kfmrh-clause-takes g c = takes-changing c.args.call.now _ c.in-Kfmrh.is c.args.rec.now.store.now.state.map c.args.tags.now c.args.out.now (kfmrh-changes (shape_of c.args.rec.now.store.now.state.map) c.in-Kfmrh.keep c.in-Kfmrh.kill)

pub ringmove_do-requires : goal.ringmove_do-requires
ringmove_do-requires g c = may-without c.args.call.now _ c.in-RingMove.is c.args.rec.now.store.now (left c.args.tags.now) c.requires.may

pub returns-in-RingMove-clause-done : goal.returns-in-RingMove-clause-done
returns-in-RingMove-clause-done g c = done-changing c.args.call.now _ c.in-RingMove.is c.args.rec.now.store.now c.ringmove_do.new.rec.store.now (left c.args.tags.now) (ringmove-changes (shape_of c.args.rec.now.store.now.state.map) c.in-RingMove.ring c.in-RingMove.to) c.ringmove_do.ensures.done

pub returns-in-RingMove-clause-takes : goal.returns-in-RingMove-clause-takes
returns-in-RingMove-clause-takes g c = takes-changing c.args.call.now _ c.in-RingMove.is c.args.rec.now.store.now.state.map c.args.tags.now c.args.out.now (ringmove-changes (shape_of c.args.rec.now.store.now.state.map) c.in-RingMove.ring c.in-RingMove.to)

pub lamina_do-requires-clause-may : goal.lamina_do-requires-clause-may
lamina_do-requires-clause-may g c =
    subst (λ (v : List Pair). MayDo c.args.rec.now.store.now (Lamina (to_z w64 (of_z w64 c.in-Lamina.z)) v) (left c.args.tags.now)) (sym c.as_slice.ensures)
    (subst (λ (v : ℤ). MayDo c.args.rec.now.store.now (Lamina v c.in-Lamina.corners) (left c.args.tags.now)) (sym (to_z-of_z w64 c.in-Lamina.z (search rules)))
    (may-as c.args.call.now _ c.in-Lamina.is c.args.rec.now.store.now (left c.args.tags.now) c.requires.may))

pub lamina_do-requires-clause-tags : goal.lamina_do-requires-clause-tags
lamina_do-requires-clause-tags g c =
    subst (λ (v : List Pair). HasTags c.args.rec.now.store.now (cost_of (row_on c.args.rec.now.store.now.state.map (Lamina (to_z w64 (of_z w64 c.in-Lamina.z)) v))) c.args.tags.now c.args.out.now) (sym c.as_slice.ensures)
    (subst (λ (v : ℤ). HasTags c.args.rec.now.store.now (cost_of (row_on c.args.rec.now.store.now.state.map (Lamina v c.in-Lamina.corners))) c.args.tags.now c.args.out.now) (sym (to_z-of_z w64 c.in-Lamina.z (search rules)))
    (tags-as c.args.call.now _ c.in-Lamina.is c.args.rec.now.store.now c.args.tags.now c.args.out.now c.requires.tags))

pub returns-in-Lamina-clause-done : goal.returns-in-Lamina-clause-done
returns-in-Lamina-clause-done g c = done-as c.args.call.now _ c.in-Lamina.is c.args.rec.now.store.now c.lamina_do.new.rec.store.now (left c.args.tags.now)
    (subst (λ (v : List Pair). HasDone c.args.rec.now.store.now (Lamina c.in-Lamina.z v) (left c.args.tags.now) c.lamina_do.new.rec.store.now) c.as_slice.ensures
    (subst (λ (v : ℤ). HasDone c.args.rec.now.store.now (Lamina v c.as_slice.result.now) (left c.args.tags.now) c.lamina_do.new.rec.store.now) (to_z-of_z w64 c.in-Lamina.z (search rules))
    (c.lamina_do.ensures.done)))

pub returns-in-Lamina-clause-takes : goal.returns-in-Lamina-clause-takes
returns-in-Lamina-clause-takes g c = takes-as c.args.call.now _ c.in-Lamina.is c.args.rec.now.store.now.state.map c.args.tags.now c.lamina_do.new.tags c.args.out.now c.lamina_do.new.out
    (subst (λ (v : List Pair). Takes (cost_of (row_on c.args.rec.now.store.now.state.map (Lamina c.in-Lamina.z v))) c.args.tags.now c.args.out.now c.lamina_do.new.tags c.lamina_do.new.out) c.as_slice.ensures
    (subst (λ (v : ℤ). Takes (cost_of (row_on c.args.rec.now.store.now.state.map (Lamina v c.as_slice.result.now))) c.args.tags.now c.args.out.now c.lamina_do.new.tags c.lamina_do.new.out) (to_z-of_z w64 c.in-Lamina.z (search rules))
    (c.lamina_do.ensures.takes)))

pub block_do-requires-clause-may : goal.block_do-requires-clause-may
block_do-requires-clause-may g c =
    may-as c.args.call.now _ c.in-Block.is c.args.rec.now.store.now (left c.args.tags.now) c.requires.may

pub block_do-requires-clause-tags : goal.block_do-requires-clause-tags
block_do-requires-clause-tags g c =
    tags-as c.args.call.now _ c.in-Block.is c.args.rec.now.store.now c.args.tags.now c.args.out.now c.requires.tags

pub returns-in-Block-clause-done : goal.returns-in-Block-clause-done
returns-in-Block-clause-done g c = done-as c.args.call.now _ c.in-Block.is c.args.rec.now.store.now c.block_do.new.rec.store.now (left c.args.tags.now)
    (c.block_do.ensures.done)

pub returns-in-Block-clause-takes : goal.returns-in-Block-clause-takes
returns-in-Block-clause-takes g c = takes-as c.args.call.now _ c.in-Block.is c.args.rec.now.store.now.state.map c.args.tags.now c.block_do.new.tags c.args.out.now c.block_do.new.out
    (c.block_do.ensures.takes)

pub prism_do-requires-clause-may : goal.prism_do-requires-clause-may
prism_do-requires-clause-may g c =
    subst (λ (v : List Pair). MayDo c.args.rec.now.store.now (Prism (to_z w64 (of_z w64 c.in-Prism.z)) (to_z w64 (of_z w64 c.in-Prism.h)) v) (left c.args.tags.now)) (sym c.as_slice-in-Prism.ensures)
    (subst (λ (v : ℤ). MayDo c.args.rec.now.store.now (Prism (to_z w64 (of_z w64 c.in-Prism.z)) v c.in-Prism.corners) (left c.args.tags.now)) (sym (to_z-of_z w64 c.in-Prism.h (search rules)))
    (subst (λ (v : ℤ). MayDo c.args.rec.now.store.now (Prism v c.in-Prism.h c.in-Prism.corners) (left c.args.tags.now)) (sym (to_z-of_z w64 c.in-Prism.z (search rules)))
    (may-as c.args.call.now _ c.in-Prism.is c.args.rec.now.store.now (left c.args.tags.now) c.requires.may)))

pub prism_do-requires-clause-tags : goal.prism_do-requires-clause-tags
prism_do-requires-clause-tags g c =
    subst (λ (v : List Pair). HasTags c.args.rec.now.store.now (cost_of (row_on c.args.rec.now.store.now.state.map (Prism (to_z w64 (of_z w64 c.in-Prism.z)) (to_z w64 (of_z w64 c.in-Prism.h)) v))) c.args.tags.now c.args.out.now) (sym c.as_slice-in-Prism.ensures)
    (subst (λ (v : ℤ). HasTags c.args.rec.now.store.now (cost_of (row_on c.args.rec.now.store.now.state.map (Prism (to_z w64 (of_z w64 c.in-Prism.z)) v c.in-Prism.corners))) c.args.tags.now c.args.out.now) (sym (to_z-of_z w64 c.in-Prism.h (search rules)))
    (subst (λ (v : ℤ). HasTags c.args.rec.now.store.now (cost_of (row_on c.args.rec.now.store.now.state.map (Prism v c.in-Prism.h c.in-Prism.corners))) c.args.tags.now c.args.out.now) (sym (to_z-of_z w64 c.in-Prism.z (search rules)))
    (tags-as c.args.call.now _ c.in-Prism.is c.args.rec.now.store.now c.args.tags.now c.args.out.now c.requires.tags)))

pub returns-in-Prism-clause-done : goal.returns-in-Prism-clause-done
returns-in-Prism-clause-done g c = done-as c.args.call.now _ c.in-Prism.is c.args.rec.now.store.now c.prism_do.new.rec.store.now (left c.args.tags.now)
    (subst (λ (v : List Pair). HasDone c.args.rec.now.store.now (Prism c.in-Prism.z c.in-Prism.h v) (left c.args.tags.now) c.prism_do.new.rec.store.now) c.as_slice-in-Prism.ensures
    (subst (λ (v : ℤ). HasDone c.args.rec.now.store.now (Prism c.in-Prism.z v c.as_slice-in-Prism.result.now) (left c.args.tags.now) c.prism_do.new.rec.store.now) (to_z-of_z w64 c.in-Prism.h (search rules))
    (subst (λ (v : ℤ). HasDone c.args.rec.now.store.now (Prism v (to_z w64 (of_z w64 c.in-Prism.h)) c.as_slice-in-Prism.result.now) (left c.args.tags.now) c.prism_do.new.rec.store.now) (to_z-of_z w64 c.in-Prism.z (search rules))
    (c.prism_do.ensures.done))))

pub returns-in-Prism-clause-takes : goal.returns-in-Prism-clause-takes
returns-in-Prism-clause-takes g c = takes-as c.args.call.now _ c.in-Prism.is c.args.rec.now.store.now.state.map c.args.tags.now c.prism_do.new.tags c.args.out.now c.prism_do.new.out
    (subst (λ (v : List Pair). Takes (cost_of (row_on c.args.rec.now.store.now.state.map (Prism c.in-Prism.z c.in-Prism.h v))) c.args.tags.now c.args.out.now c.prism_do.new.tags c.prism_do.new.out) c.as_slice-in-Prism.ensures
    (subst (λ (v : ℤ). Takes (cost_of (row_on c.args.rec.now.store.now.state.map (Prism c.in-Prism.z v c.as_slice-in-Prism.result.now))) c.args.tags.now c.args.out.now c.prism_do.new.tags c.prism_do.new.out) (to_z-of_z w64 c.in-Prism.h (search rules))
    (subst (λ (v : ℤ). Takes (cost_of (row_on c.args.rec.now.store.now.state.map (Prism v (to_z w64 (of_z w64 c.in-Prism.h)) c.as_slice-in-Prism.result.now))) c.args.tags.now c.args.out.now c.prism_do.new.tags c.prism_do.new.out) (to_z-of_z w64 c.in-Prism.z (search rules))
    (c.prism_do.ensures.takes))))

pub move_do-requires : goal.move_do-requires
move_do-requires g c = may-without c.args.call.now _ c.in-Move.is c.args.rec.now.store.now (left c.args.tags.now) c.requires.may

pub returns-in-Move-clause-done : goal.returns-in-Move-clause-done
returns-in-Move-clause-done g c = done-changing c.args.call.now _ c.in-Move.is c.args.rec.now.store.now c.move_do.new.rec.store.now (left c.args.tags.now) (move-changes (shape_of c.args.rec.now.store.now.state.map) c.in-Move.body c.in-Move.by) c.move_do.ensures.done

pub returns-in-Move-clause-takes : goal.returns-in-Move-clause-takes
returns-in-Move-clause-takes g c = takes-changing c.args.call.now _ c.in-Move.is c.args.rec.now.store.now.state.map c.args.tags.now c.args.out.now (move-changes (shape_of c.args.rec.now.store.now.state.map) c.in-Move.body c.in-Move.by)

pub turn_do-requires : goal.turn_do-requires
turn_do-requires g c =
    let same : to_z w64 (of_z w64 c.in-Turn.turns) ≡ c.in-Turn.turns = search rules in
    subst (λ k. MayDo c.args.rec.now.store.now (Turn c.in-Turn.body c.in-Turn.axis k) []) (sym same) (may-without c.args.call.now _ c.in-Turn.is c.args.rec.now.store.now (left c.args.tags.now) c.requires.may)

pub returns-in-Turn-clause-done : goal.returns-in-Turn-clause-done
returns-in-Turn-clause-done g c =
    let same : to_z w64 (of_z w64 c.in-Turn.turns) ≡ c.in-Turn.turns = search rules in
    done-changing c.args.call.now _ c.in-Turn.is c.args.rec.now.store.now c.turn_do.new.rec.store.now (left c.args.tags.now) (turn-changes (shape_of c.args.rec.now.store.now.state.map) c.in-Turn.body c.in-Turn.axis c.in-Turn.turns)
    (subst (λ k. HasDone c.args.rec.now.store.now (Turn c.in-Turn.body c.in-Turn.axis k) [] c.turn_do.new.rec.store.now) same c.turn_do.ensures.done)

pub returns-in-Turn-clause-takes : goal.returns-in-Turn-clause-takes
returns-in-Turn-clause-takes g c = takes-changing c.args.call.now _ c.in-Turn.is c.args.rec.now.store.now.state.map c.args.tags.now c.args.out.now (turn-changes (shape_of c.args.rec.now.store.now.state.map) c.in-Turn.body c.in-Turn.axis c.in-Turn.turns)

pub returns-in-SetAttr-clause-done : goal.returns-in-SetAttr-clause-done
returns-in-SetAttr-clause-done g c =
    let same : to_z w64 (of_z w64 c.in-SetAttr.value) ≡ c.in-SetAttr.value = search rules in
    done-as c.args.call.now _ c.in-SetAttr.is c.args.rec.now.store.now c.set_do.new.rec.store.now (left c.args.tags.now)
    (subst (λ v. HasDone c.args.rec.now.store.now (SetAttr c.in-SetAttr.owner c.in-SetAttr.name v) (left c.args.tags.now) c.set_do.new.rec.store.now) same c.set_do.ensures.done)

pub drop_do-requires : goal.drop_do-requires
drop_do-requires g c = may-without c.args.call.now _ c.in-DropAttr.is c.args.rec.now.store.now (left c.args.tags.now) c.requires.may

pub returns-in-DropAttr-clause-done : goal.returns-in-DropAttr-clause-done
returns-in-DropAttr-clause-done g c = done-changing c.args.call.now _ c.in-DropAttr.is c.args.rec.now.store.now c.drop_do.new.rec.store.now (left c.args.tags.now) (drop-changes (shape_of c.args.rec.now.store.now.state.map) c.in-DropAttr.owner c.in-DropAttr.name) c.drop_do.ensures.done

pub returns-in-DropAttr-clause-takes : goal.returns-in-DropAttr-clause-takes
returns-in-DropAttr-clause-takes g c = takes-changing c.args.call.now _ c.in-DropAttr.is c.args.rec.now.store.now.state.map c.args.tags.now c.args.out.now (drop-changes (shape_of c.args.rec.now.store.now.state.map) c.in-DropAttr.owner c.in-DropAttr.name)

pub sweep_do-requires-clause-may : goal.sweep_do-requires-clause-may
sweep_do-requires-clause-may g c = may-as c.args.call.now _ c.in-Sweep.is c.args.rec.now.store.now (left c.args.tags.now) c.requires.may

pub sweep_do-requires-clause-tags : goal.sweep_do-requires-clause-tags
sweep_do-requires-clause-tags g c = tags-as c.args.call.now _ c.in-Sweep.is c.args.rec.now.store.now c.args.tags.now c.args.out.now c.requires.tags

pub returns-in-Sweep-clause-done : goal.returns-in-Sweep-clause-done
returns-in-Sweep-clause-done g c = done-as c.args.call.now _ c.in-Sweep.is c.args.rec.now.store.now c.sweep_do.new.rec.store.now (left c.args.tags.now) c.sweep_do.ensures.done

pub returns-in-Sweep-clause-takes : goal.returns-in-Sweep-clause-takes
returns-in-Sweep-clause-takes g c = takes-as c.args.call.now _ c.in-Sweep.is c.args.rec.now.store.now.state.map c.args.tags.now c.sweep_do.new.tags c.args.out.now c.sweep_do.new.out c.sweep_do.ensures.takes

pub delete_do-requires : goal.delete_do-requires
delete_do-requires g c = may-without c.args.call.now _ c.in-Delete.is c.args.rec.now.store.now (left c.args.tags.now) c.requires.may

pub returns-in-Delete-clause-done : goal.returns-in-Delete-clause-done
returns-in-Delete-clause-done g c = done-changing c.args.call.now _ c.in-Delete.is c.args.rec.now.store.now c.delete_do.new.rec.store.now (left c.args.tags.now) (delete-changes (shape_of c.args.rec.now.store.now.state.map) c.in-Delete.body) c.delete_do.ensures.done

pub returns-in-Delete-clause-takes : goal.returns-in-Delete-clause-takes
returns-in-Delete-clause-takes g c = takes-changing c.args.call.now _ c.in-Delete.is c.args.rec.now.store.now.state.map c.args.tags.now c.args.out.now (delete-changes (shape_of c.args.rec.now.store.now.state.map) c.in-Delete.body)
