use Rattle.std.proofs.Common.{◌≡◌, ap}
use Rattle.entity_store.specs.NextTags.{left}
use Rattle.solid_model.specs.Shapes.{shape_of}
use Rattle.solid_calls.proofs.RowKinds.{kef-changes, kev-changes, kfmrh-changes, kvfs-changes}
use Rattle.euler_laws.specs.Operators.{call_of}
use Rattle.euler_laws.proofs.Performing.{done-as, done-changing, may-as, may-without, tags-as, takes-as, takes-changing}
use Rattle.euler_laws.proofs.operator.perform.Goals as goal

pub mvfs_do-requires-clause-may : goal.mvfs_do-requires-clause-may
mvfs_do-requires-clause-may g c = may-as (call_of c.args.operator) _ (ap call_of c.in-Mvfs.is) c.args.rec.now.store.now (left c.args.tags.now) c.requires.may

pub mvfs_do-requires-clause-tags : goal.mvfs_do-requires-clause-tags
mvfs_do-requires-clause-tags g c = tags-as (call_of c.args.operator) _ (ap call_of c.in-Mvfs.is) c.args.rec.now.store.now c.args.tags.now c.args.out.now c.requires.tags

pub returns-in-Mvfs-clause-done : goal.returns-in-Mvfs-clause-done
returns-in-Mvfs-clause-done g c = done-as (call_of c.args.operator) _ (ap call_of c.in-Mvfs.is) c.args.rec.now.store.now c.mvfs_do.new.rec.store.now (left c.args.tags.now) c.mvfs_do.ensures.done

pub returns-in-Mvfs-clause-takes : goal.returns-in-Mvfs-clause-takes
returns-in-Mvfs-clause-takes g c = takes-as (call_of c.args.operator) _ (ap call_of c.in-Mvfs.is) c.args.rec.now.store.now.state.map c.args.tags.now c.mvfs_do.new.tags c.args.out.now c.mvfs_do.new.out c.mvfs_do.ensures.takes

pub mev_do-requires-clause-may : goal.mev_do-requires-clause-may
mev_do-requires-clause-may g c = may-as (call_of c.args.operator) _ (ap call_of c.in-Mev.is) c.args.rec.now.store.now (left c.args.tags.now) c.requires.may

pub mev_do-requires-clause-tags : goal.mev_do-requires-clause-tags
mev_do-requires-clause-tags g c = tags-as (call_of c.args.operator) _ (ap call_of c.in-Mev.is) c.args.rec.now.store.now c.args.tags.now c.args.out.now c.requires.tags

pub returns-in-Mev-clause-done : goal.returns-in-Mev-clause-done
returns-in-Mev-clause-done g c = done-as (call_of c.args.operator) _ (ap call_of c.in-Mev.is) c.args.rec.now.store.now c.mev_do.new.rec.store.now (left c.args.tags.now) c.mev_do.ensures.done

pub returns-in-Mev-clause-takes : goal.returns-in-Mev-clause-takes
returns-in-Mev-clause-takes g c = takes-as (call_of c.args.operator) _ (ap call_of c.in-Mev.is) c.args.rec.now.store.now.state.map c.args.tags.now c.mev_do.new.tags c.args.out.now c.mev_do.new.out c.mev_do.ensures.takes

pub mef_do-requires-clause-may : goal.mef_do-requires-clause-may
mef_do-requires-clause-may g c = may-as (call_of c.args.operator) _ (ap call_of c.in-Mef.is) c.args.rec.now.store.now (left c.args.tags.now) c.requires.may

pub mef_do-requires-clause-tags : goal.mef_do-requires-clause-tags
mef_do-requires-clause-tags g c = tags-as (call_of c.args.operator) _ (ap call_of c.in-Mef.is) c.args.rec.now.store.now c.args.tags.now c.args.out.now c.requires.tags

pub returns-in-Mef-clause-done : goal.returns-in-Mef-clause-done
returns-in-Mef-clause-done g c = done-as (call_of c.args.operator) _ (ap call_of c.in-Mef.is) c.args.rec.now.store.now c.mef_do.new.rec.store.now (left c.args.tags.now) c.mef_do.ensures.done

pub returns-in-Mef-clause-takes : goal.returns-in-Mef-clause-takes
returns-in-Mef-clause-takes g c = takes-as (call_of c.args.operator) _ (ap call_of c.in-Mef.is) c.args.rec.now.store.now.state.map c.args.tags.now c.mef_do.new.tags c.args.out.now c.mef_do.new.out c.mef_do.ensures.takes

pub mekr_do-requires-clause-may : goal.mekr_do-requires-clause-may
mekr_do-requires-clause-may g c = may-as (call_of c.args.operator) _ (ap call_of c.in-Mekr.is) c.args.rec.now.store.now (left c.args.tags.now) c.requires.may

pub mekr_do-requires-clause-tags : goal.mekr_do-requires-clause-tags
mekr_do-requires-clause-tags g c = tags-as (call_of c.args.operator) _ (ap call_of c.in-Mekr.is) c.args.rec.now.store.now c.args.tags.now c.args.out.now c.requires.tags

pub returns-in-Mekr-clause-done : goal.returns-in-Mekr-clause-done
returns-in-Mekr-clause-done g c = done-as (call_of c.args.operator) _ (ap call_of c.in-Mekr.is) c.args.rec.now.store.now c.mekr_do.new.rec.store.now (left c.args.tags.now) c.mekr_do.ensures.done

pub returns-in-Mekr-clause-takes : goal.returns-in-Mekr-clause-takes
returns-in-Mekr-clause-takes g c = takes-as (call_of c.args.operator) _ (ap call_of c.in-Mekr.is) c.args.rec.now.store.now.state.map c.args.tags.now c.mekr_do.new.tags c.args.out.now c.mekr_do.new.out c.mekr_do.ensures.takes

pub mfkrh_do-requires-clause-may : goal.mfkrh_do-requires-clause-may
mfkrh_do-requires-clause-may g c = may-as (call_of c.args.operator) _ (ap call_of c.in-Mfkrh.is) c.args.rec.now.store.now (left c.args.tags.now) c.requires.may

pub mfkrh_do-requires-clause-tags : goal.mfkrh_do-requires-clause-tags
mfkrh_do-requires-clause-tags g c = tags-as (call_of c.args.operator) _ (ap call_of c.in-Mfkrh.is) c.args.rec.now.store.now c.args.tags.now c.args.out.now c.requires.tags

pub returns-in-Mfkrh-clause-done : goal.returns-in-Mfkrh-clause-done
returns-in-Mfkrh-clause-done g c = done-as (call_of c.args.operator) _ (ap call_of c.in-Mfkrh.is) c.args.rec.now.store.now c.mfkrh_do.new.rec.store.now (left c.args.tags.now) c.mfkrh_do.ensures.done

pub returns-in-Mfkrh-clause-takes : goal.returns-in-Mfkrh-clause-takes
returns-in-Mfkrh-clause-takes g c = takes-as (call_of c.args.operator) _ (ap call_of c.in-Mfkrh.is) c.args.rec.now.store.now.state.map c.args.tags.now c.mfkrh_do.new.tags c.args.out.now c.mfkrh_do.new.out c.mfkrh_do.ensures.takes

pub kvfs_do-requires : goal.kvfs_do-requires
kvfs_do-requires g c = may-without (call_of c.args.operator) _ (ap call_of c.in-Kvfs.is) c.args.rec.now.store.now (left c.args.tags.now) c.requires.may

pub returns-in-Kvfs-clause-done : goal.returns-in-Kvfs-clause-done
returns-in-Kvfs-clause-done g c = done-changing (call_of c.args.operator) _ (ap call_of c.in-Kvfs.is) c.args.rec.now.store.now c.kvfs_do.new.rec.store.now (left c.args.tags.now) (kvfs-changes (shape_of c.args.rec.now.store.now.state.map) c.in-Kvfs.body) c.kvfs_do.ensures.done

pub returns-in-Kvfs-clause-takes : goal.returns-in-Kvfs-clause-takes
returns-in-Kvfs-clause-takes g c = takes-changing (call_of c.args.operator) _ (ap call_of c.in-Kvfs.is) c.args.rec.now.store.now.state.map c.args.tags.now c.args.out.now (kvfs-changes (shape_of c.args.rec.now.store.now.state.map) c.in-Kvfs.body)

pub kev_do-requires : goal.kev_do-requires
kev_do-requires g c = may-without (call_of c.args.operator) _ (ap call_of c.in-Kev.is) c.args.rec.now.store.now (left c.args.tags.now) c.requires.may

pub returns-in-Kev-clause-done : goal.returns-in-Kev-clause-done
returns-in-Kev-clause-done g c = done-changing (call_of c.args.operator) _ (ap call_of c.in-Kev.is) c.args.rec.now.store.now c.kev_do.new.rec.store.now (left c.args.tags.now) (kev-changes (shape_of c.args.rec.now.store.now.state.map) c.in-Kev.fin) c.kev_do.ensures.done

pub returns-in-Kev-clause-takes : goal.returns-in-Kev-clause-takes
returns-in-Kev-clause-takes g c = takes-changing (call_of c.args.operator) _ (ap call_of c.in-Kev.is) c.args.rec.now.store.now.state.map c.args.tags.now c.args.out.now (kev-changes (shape_of c.args.rec.now.store.now.state.map) c.in-Kev.fin)

pub kef_do-requires : goal.kef_do-requires
kef_do-requires g c = may-without (call_of c.args.operator) _ (ap call_of c.in-Kef.is) c.args.rec.now.store.now (left c.args.tags.now) c.requires.may

pub returns-in-Kef-clause-done : goal.returns-in-Kef-clause-done
returns-in-Kef-clause-done g c = done-changing (call_of c.args.operator) _ (ap call_of c.in-Kef.is) c.args.rec.now.store.now c.kef_do.new.rec.store.now (left c.args.tags.now) (kef-changes (shape_of c.args.rec.now.store.now.state.map) c.in-Kef.fin) c.kef_do.ensures.done

pub returns-in-Kef-clause-takes : goal.returns-in-Kef-clause-takes
returns-in-Kef-clause-takes g c = takes-changing (call_of c.args.operator) _ (ap call_of c.in-Kef.is) c.args.rec.now.store.now.state.map c.args.tags.now c.args.out.now (kef-changes (shape_of c.args.rec.now.store.now.state.map) c.in-Kef.fin)

pub kemr_do-requires-clause-may : goal.kemr_do-requires-clause-may
kemr_do-requires-clause-may g c = may-as (call_of c.args.operator) _ (ap call_of c.in-Kemr.is) c.args.rec.now.store.now (left c.args.tags.now) c.requires.may

pub kemr_do-requires-clause-tags : goal.kemr_do-requires-clause-tags
kemr_do-requires-clause-tags g c = tags-as (call_of c.args.operator) _ (ap call_of c.in-Kemr.is) c.args.rec.now.store.now c.args.tags.now c.args.out.now c.requires.tags

pub returns-in-Kemr-clause-done : goal.returns-in-Kemr-clause-done
returns-in-Kemr-clause-done g c = done-as (call_of c.args.operator) _ (ap call_of c.in-Kemr.is) c.args.rec.now.store.now c.kemr_do.new.rec.store.now (left c.args.tags.now) c.kemr_do.ensures.done

pub returns-in-Kemr-clause-takes : goal.returns-in-Kemr-clause-takes
returns-in-Kemr-clause-takes g c = takes-as (call_of c.args.operator) _ (ap call_of c.in-Kemr.is) c.args.rec.now.store.now.state.map c.args.tags.now c.kemr_do.new.tags c.args.out.now c.kemr_do.new.out c.kemr_do.ensures.takes

pub kfmrh_do-requires : goal.kfmrh_do-requires
kfmrh_do-requires g c = may-without (call_of c.args.operator) _ (ap call_of c.in-Kfmrh.is) c.args.rec.now.store.now (left c.args.tags.now) c.requires.may

pub returns-in-Kfmrh-clause-done : goal.returns-in-Kfmrh-clause-done
returns-in-Kfmrh-clause-done g c = done-changing (call_of c.args.operator) _ (ap call_of c.in-Kfmrh.is) c.args.rec.now.store.now c.kfmrh_do.new.rec.store.now (left c.args.tags.now) (kfmrh-changes (shape_of c.args.rec.now.store.now.state.map) c.in-Kfmrh.keep c.in-Kfmrh.kill) c.kfmrh_do.ensures.done

pub returns-in-Kfmrh-clause-takes : goal.returns-in-Kfmrh-clause-takes
returns-in-Kfmrh-clause-takes g c = takes-changing (call_of c.args.operator) _ (ap call_of c.in-Kfmrh.is) c.args.rec.now.store.now.state.map c.args.tags.now c.args.out.now (kfmrh-changes (shape_of c.args.rec.now.store.now.state.map) c.in-Kfmrh.keep c.in-Kfmrh.kill)
