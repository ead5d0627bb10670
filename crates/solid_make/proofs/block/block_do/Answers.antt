use Rattle.std.proofs.Common.{◌≡◌, List, of_z, rules, sym, subst, to_z, w64}
use Rattle.std.specs.Prelude.{ℤ}
use Rattle.pk_base.specs.declared.entity.Pair.{Pair}
use Rattle.entity_store.specs.NextTags.{left}
use Rattle.solid_model.specs.Prism.{after_prism, rectangle}
use Rattle.solid_model.specs.Ranges.{is_coordinate, is_size, numbers_of}
use Rattle.solid_sound.proofs.rows.KeptMotions.{outside-none}
use Rattle.solid_calls.specs.Pairs.{HasTags, Takes}
use Rattle.solid_make.specs.Making.{HasMade, MayMake, MayRise, begun, cost_of_prism}
use Rattle.solid_make.proofs.PrismDone.{block-cost, block-done, block-goes, block-may}
use Rattle.solid_make.proofs.block.block_do.Goals as goal

pub rectangle-corners-requires-clause-at : goal.rectangle-corners-requires-clause-at
rectangle-corners-requires-clause-at g c =
    let goes = block-goes c.args.rec.now.store.now c.args.at c.args.size (left c.args.tags.now) c.requires.may in
    outside-none is_coordinate (numbers_of c.args.at) goes.at_none

pub rectangle-corners-requires-clause-size : goal.rectangle-corners-requires-clause-size
rectangle-corners-requires-clause-size g c =
    let goes = block-goes c.args.rec.now.store.now c.args.at c.args.size (left c.args.tags.now) c.requires.may in
    outside-none is_size (numbers_of c.args.size) goes.size_none

pub put_prism-requires-clause-may : goal.put_prism-requires-clause-may
put_prism-requires-clause-may g c =
    let old = c.args.rec.now.store.now in
    let ts = left c.args.tags.now in
    let same : to_z w64 (of_z w64 c.args.at.z) ≡ c.args.at.z = search rules in
    subst (λ (v : ℤ). MayMake old v c.rectangle-corners.result (cost_of_prism c.rectangle-corners.result) ts) (sym same)
    (subst (λ (cs : List Pair). MayMake old c.args.at.z cs (cost_of_prism cs) ts) (sym c.rectangle-corners.ensures) (block-may old c.args.at c.args.size ts c.requires.may))

pub put_prism-requires-clause-rise : goal.put_prism-requires-clause-rise
put_prism-requires-clause-rise g c =
    let goes = block-goes c.args.rec.now.store.now c.args.at c.args.size (left c.args.tags.now) c.requires.may in
    let same : to_z w64 (of_z w64 c.args.at.z) ≡ c.args.at.z = search rules in
    let high : to_z w64 (of_z w64 c.args.size.z) ≡ c.args.size.z = search rules in
    subst (λ (v : ℤ). MayRise v (to_z w64 (of_z w64 c.args.size.z))) (sym same) (subst (λ (v : ℤ). MayRise c.args.at.z v) (sym high) goes.rise)

pub put_prism-requires-clause-tags : goal.put_prism-requires-clause-tags
put_prism-requires-clause-tags g c =
    let old = c.args.rec.now.store.now in
    let has = subst (λ n. HasTags old n c.args.tags.now c.args.out.now) (block-cost old c.args.at c.args.size (left c.args.tags.now) c.requires.may) c.requires.tags in
    subst (λ (cs : List Pair). HasTags old (cost_of_prism cs) c.args.tags.now c.args.out.now) (sym c.rectangle-corners.ensures) has

pub returns-clause-done : goal.returns-clause-done
returns-clause-done g c =
    let old = c.args.rec.now.store.now in
    let ts = left c.args.tags.now in
    let new = c.put_prism.new.rec.store.now in
    let same : to_z w64 (of_z w64 c.args.at.z) ≡ c.args.at.z = search rules in
    let high : to_z w64 (of_z w64 c.args.size.z) ≡ c.args.size.z = search rules in
    let a = subst (λ (cs : List Pair). HasMade old (cost_of_prism cs) ts (after_prism (to_z w64 (of_z w64 c.args.at.z)) (to_z w64 (of_z w64 c.args.size.z)) cs (begun old ts)) new) c.rectangle-corners.ensures c.put_prism.ensures.made in
    let corners = rectangle c.args.at.x c.args.at.y c.args.size.x c.args.size.y in
    let b = subst (λ (v : ℤ). HasMade old (cost_of_prism corners) ts (after_prism v (to_z w64 (of_z w64 c.args.size.z)) corners (begun old ts)) new) same a in
    block-done old c.args.at c.args.size ts c.requires.may new (subst (λ (v : ℤ). HasMade old (cost_of_prism corners) ts (after_prism c.args.at.z v corners (begun old ts)) new) high b)

pub returns-clause-takes : goal.returns-clause-takes
returns-clause-takes g c =
    let old = c.args.rec.now.store.now in
    let took = subst (λ (cs : List Pair). Takes (cost_of_prism cs) c.args.tags.now c.args.out.now c.put_prism.new.tags c.put_prism.new.out) c.rectangle-corners.ensures c.put_prism.ensures.takes in
    subst (λ n. Takes n c.args.tags.now c.args.out.now c.put_prism.new.tags c.put_prism.new.out) (sym (block-cost old c.args.at c.args.size (left c.args.tags.now) c.requires.may)) took
