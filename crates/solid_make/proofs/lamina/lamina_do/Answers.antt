use Rattle.std.proofs.Common.{subst, sym, w64}
use Rattle.std.proofs.lemmas.Int.{to_z-of_z}
use Rattle.std.specs.Prelude.{ℤ}
use Rattle.entity_store.specs.NextTags.{left}
use Rattle.solid_make.specs.Making.{MayMake, cost_of_lamina}
use Rattle.solid_make.proofs.LaminaDone.{lamina-done, lamina-may, lamina-tags, lamina-takes}
use Rattle.solid_make.proofs.lamina.lamina_do.Goals as goal

pub put_lamina-requires-clause-may : goal.put_lamina-requires-clause-may
put_lamina-requires-clause-may g c =
    subst (λ (v : ℤ). MayMake c.args.rec.now.store.now v c.args.corners.now (cost_of_lamina c.args.corners.now) (left c.args.tags.now)) (sym (to_z-of_z w64 c.args.z c.ranges.z))
    (lamina-may c.args.rec.now.store.now c.args.z c.args.corners.now (left c.args.tags.now) c.requires.may)

pub put_lamina-requires-clause-tags : goal.put_lamina-requires-clause-tags
put_lamina-requires-clause-tags g c = lamina-tags c.args.rec.now.store.now c.args.z c.args.corners.now c.args.tags.now c.args.out.now c.requires.may c.requires.tags

pub returns-clause-done : goal.returns-clause-done
returns-clause-done g c = lamina-done c.args.rec.now.store.now c.args.z c.args.corners.now (left c.args.tags.now) c.requires.may c.put_lamina.new.rec.store.now _ (to_z-of_z w64 c.args.z c.ranges.z) c.put_lamina.ensures.made

pub returns-clause-takes : goal.returns-clause-takes
returns-clause-takes g c = lamina-takes c.args.rec.now.store.now c.args.z c.args.corners.now c.args.tags.now c.put_lamina.new.tags c.args.out.now c.put_lamina.new.out c.requires.may c.put_lamina.ensures.takes
