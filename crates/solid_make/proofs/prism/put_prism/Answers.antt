use Rattle.std.proofs.Common.{◌≡◌, ◌∙◌, ◌-◌, ◌+◌, ◌*◌, sym, ap, subst, w64}
use Rattle.std.proofs.lemmas.Int.{to_z-of_z}
use Rattle.std.specs.Prelude.{ℤ, length}
use Rattle.pk_base.specs.declared.tag.Tag.{Tag}
use Rattle.pk_base.specs.declared.entity.Triple.{Triple}
use Rattle.pk_model.specs.Tags.{tag_at}
use Rattle.entity_store.specs.NextTags.{left}
use Rattle.solid_model.specs.Lamina.{after_lamina}
use Rattle.solid_model.specs.Prism.{upwards}
use Rattle.solid_model.specs.Shapes.{shape_of}
use Rattle.solid_calls.specs.Pairs.{HasTags, Takes}
use Rattle.euler_make.specs.Raising.{HasRaised, MayRaise, cost_of_raise}
use Rattle.solid_make.specs.Making.{HasMade, MayMake, begun, cost_of_lamina}
use Rattle.solid_make.proofs.PrismSteps.{face-listed, low-may, low-tags, prism-made, prism-takes, raise-may, raise-tags}
use Rattle.solid_make.proofs.prism.put_prism.Goals as goal

pub put_lamina-requires-clause-may : goal.put_lamina-requires-clause-may
put_lamina-requires-clause-may g c =
    let old = c.args.rec.now.store.now in
    let cs = c.args.corners.now in
    let ts = c.args.tags.now in
    subst (λ (v : ℤ). MayMake old v cs (cost_of_lamina cs) (left ts)) (sym (to_z-of_z w64 c.args.z c.ranges.z)) (low-may old ts c.args.out.now c.args.z cs c.requires.may c.requires.tags)

pub put_lamina-requires-clause-tags : goal.put_lamina-requires-clause-tags
put_lamina-requires-clause-tags g c = low-tags c.args.rec.now.store.now c.args.tags.now c.args.out.now c.args.z c.args.corners.now c.requires.may c.requires.tags

pub raise_face-requires-clause-may : goal.raise_face-requires-clause-may
raise_face-requires-clause-may g c =
    let old = c.args.rec.now.store.now in
    let cs = c.args.corners.now in
    let ts = c.args.tags.now in
    let now = c.put_lamina.new.rec.store.now in
    let tags = c.put_lamina.new.tags in
    let out = c.put_lamina.new.out in
    let made = subst (λ (v : ℤ). HasMade old (cost_of_lamina cs) (left ts) (after_lamina v cs (begun old (left ts))) now) (to_z-of_z w64 c.args.z c.ranges.z) c.put_lamina.ensures.made in
    let by : c.upwards.result ≡ upwards c.args.h = c.upwards.ensures ∙ ap upwards (to_z-of_z w64 c.args.h c.ranges.h) in
    let face = ap (λ us. tag_at us (length c.as_slice-2.result.now - 5)) c.as_slice.ensures
    ∙ face-listed old ts c.args.out.now c.args.z cs c.requires.may c.requires.tags now tags out made c.put_lamina.ensures.takes _ (ap (λ us. length us - 5) c.as_slice-2.ensures) in
    subst (λ (f : Tag). MayRaise now f c.upwards.result (left tags)) (sym face)
    (subst (λ (v : Triple). MayRaise now (tag_at (left ts) (4 * length cs + 1)) v (left tags)) (sym by) (raise-may old ts c.args.out.now c.args.z cs c.requires.may c.requires.tags now tags out made c.put_lamina.ensures.takes c.args.h c.requires.rise))

pub raise_face-requires-clause-tags : goal.raise_face-requires-clause-tags
raise_face-requires-clause-tags g c =
    let old = c.args.rec.now.store.now in
    let cs = c.args.corners.now in
    let ts = c.args.tags.now in
    let now = c.put_lamina.new.rec.store.now in
    let tags = c.put_lamina.new.tags in
    let out = c.put_lamina.new.out in
    let made = subst (λ (v : ℤ). HasMade old (cost_of_lamina cs) (left ts) (after_lamina v cs (begun old (left ts))) now) (to_z-of_z w64 c.args.z c.ranges.z) c.put_lamina.ensures.made in
    let face = ap (λ us. tag_at us (length c.as_slice-2.result.now - 5)) c.as_slice.ensures
    ∙ face-listed old ts c.args.out.now c.args.z cs c.requires.may c.requires.tags now tags out made c.put_lamina.ensures.takes _ (ap (λ us. length us - 5) c.as_slice-2.ensures) in
    subst (λ (f : Tag). HasTags now (cost_of_raise (shape_of now.state.map) f) tags out) (sym face) (raise-tags old ts c.args.out.now c.args.z cs c.requires.may c.requires.tags now tags out made c.put_lamina.ensures.takes)

pub returns-clause-made : goal.returns-clause-made
returns-clause-made g c =
    let old = c.args.rec.now.store.now in
    let cs = c.args.corners.now in
    let ts = c.args.tags.now in
    let now = c.put_lamina.new.rec.store.now in
    let tags = c.put_lamina.new.tags in
    let out = c.put_lamina.new.out in
    let made = subst (λ (v : ℤ). HasMade old (cost_of_lamina cs) (left ts) (after_lamina v cs (begun old (left ts))) now) (to_z-of_z w64 c.args.z c.ranges.z) c.put_lamina.ensures.made in
    let by : c.upwards.result ≡ upwards c.args.h = c.upwards.ensures ∙ ap upwards (to_z-of_z w64 c.args.h c.ranges.h) in
    let face = ap (λ us. tag_at us (length c.as_slice-2.result.now - 5)) c.as_slice.ensures
    ∙ face-listed old ts c.args.out.now c.args.z cs c.requires.may c.requires.tags now tags out made c.put_lamina.ensures.takes _ (ap (λ us. length us - 5) c.as_slice-2.ensures) in
    let then = c.raise_face.new.rec.store.now in
    let done = subst (λ (v : Triple). HasRaised now (tag_at (left ts) (4 * length cs + 1)) v (left tags) then) by (subst (λ (f : Tag). HasRaised now f c.upwards.result (left tags) then) face c.raise_face.ensures.done) in
    prism-made old ts c.args.out.now c.args.z cs c.requires.may c.requires.tags now tags out made c.put_lamina.ensures.takes c.args.h c.requires.rise then done

pub returns-clause-takes : goal.returns-clause-takes
returns-clause-takes g c =
    let old = c.args.rec.now.store.now in
    let cs = c.args.corners.now in
    let ts = c.args.tags.now in
    let now = c.put_lamina.new.rec.store.now in
    let tags = c.put_lamina.new.tags in
    let out = c.put_lamina.new.out in
    let made = subst (λ (v : ℤ). HasMade old (cost_of_lamina cs) (left ts) (after_lamina v cs (begun old (left ts))) now) (to_z-of_z w64 c.args.z c.ranges.z) c.put_lamina.ensures.made in
    let face = ap (λ us. tag_at us (length c.as_slice-2.result.now - 5)) c.as_slice.ensures
    ∙ face-listed old ts c.args.out.now c.args.z cs c.requires.may c.requires.tags now tags out made c.put_lamina.ensures.takes _ (ap (λ us. length us - 5) c.as_slice-2.ensures) in
    let took = subst (λ (f : Tag). Takes (cost_of_raise (shape_of now.state.map) f) tags out c.raise_face.new.tags c.raise_face.new.out) face c.raise_face.ensures.takes in
    prism-takes old ts c.args.out.now c.args.z cs c.requires.may c.requires.tags now tags out made c.put_lamina.ensures.takes c.raise_face.new.tags c.raise_face.new.out took
