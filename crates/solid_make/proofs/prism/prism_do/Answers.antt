use Rattle.std.proofs.Common.{of_z, sym, subst, to_z, w64}
use Rattle.std.proofs.lemmas.Int.{to_z-of_z}
use Rattle.std.specs.Prelude.{ℤ}
use Rattle.entity_store.specs.NextTags.{left}
use Rattle.solid_model.specs.Prism.{after_prism}
use Rattle.solid_calls.specs.Pairs.{HasTags, Takes}
use Rattle.solid_make.specs.Making.{HasMade, MayMake, MayRise, begun, cost_of_prism}
use Rattle.solid_make.proofs.PrismDone.{prism-cost, prism-done, prism-goes, prism-may}
use Rattle.solid_make.proofs.prism.prism_do.Goals as goal

pub put_prism-requires-clause-may : goal.put_prism-requires-clause-may
put_prism-requires-clause-may g c =
    let cs = c.args.corners.now in
    let ts = left c.args.tags.now in
    subst (λ (v : ℤ). MayMake c.args.rec.now.store.now v cs (cost_of_prism cs) ts) (sym (to_z-of_z w64 c.args.z c.ranges.z)) (prism-may c.args.rec.now.store.now c.args.z c.args.h cs ts c.requires.may)

pub put_prism-requires-clause-rise : goal.put_prism-requires-clause-rise
put_prism-requires-clause-rise g c =
    let rise = (prism-goes c.args.rec.now.store.now c.args.z c.args.h c.args.corners.now (left c.args.tags.now) c.requires.may).0.rise in
    subst (λ (v : ℤ). MayRise v (to_z w64 (of_z w64 c.args.h))) (sym (to_z-of_z w64 c.args.z c.ranges.z)) (subst (λ (v : ℤ). MayRise c.args.z v) (sym (to_z-of_z w64 c.args.h c.ranges.h)) rise)

pub put_prism-requires-clause-tags : goal.put_prism-requires-clause-tags
put_prism-requires-clause-tags g c =
    subst (λ n. HasTags c.args.rec.now.store.now n c.args.tags.now c.args.out.now) (prism-cost c.args.rec.now.store.now c.args.z c.args.h c.args.corners.now (left c.args.tags.now) c.requires.may) c.requires.tags

pub returns-clause-done : goal.returns-clause-done
returns-clause-done g c =
    let old = c.args.rec.now.store.now in
    let cs = c.args.corners.now in
    let ts = left c.args.tags.now in
    let new = c.put_prism.new.rec.store.now in
    let h = to_z w64 (of_z w64 c.args.h) in
    let made = subst (λ (v : ℤ). HasMade old (cost_of_prism cs) ts (after_prism v h cs (begun old ts)) new) (to_z-of_z w64 c.args.z c.ranges.z) c.put_prism.ensures.made in
    prism-done old c.args.z c.args.h cs ts c.requires.may new (subst (λ (v : ℤ). HasMade old (cost_of_prism cs) ts (after_prism c.args.z v cs (begun old ts)) new) (to_z-of_z w64 c.args.h c.ranges.h) made)

pub returns-clause-takes : goal.returns-clause-takes
returns-clause-takes g c =
    subst (λ n. Takes n c.args.tags.now c.args.out.now c.put_prism.new.tags c.put_prism.new.out) (sym (prism-cost c.args.rec.now.store.now c.args.z c.args.h c.args.corners.now (left c.args.tags.now) c.requires.may)) c.put_prism.ensures.takes
