use Rattle.std.proofs.Common.{◌≡◌, [], ◌∷◌, sym, ap, subst, ◌∙◌, arith, take}
use Rattle.pk_base.specs.declared.call.Call.TheVariants.{Kfmrh, Mfkrh}
use Rattle.entity_store.specs.NextTags.{left}
use Rattle.solid_model.specs.Shapes.{shape_of}
use Rattle.solid_model.specs.Places.{outer_at}
use Rattle.solid_calls.proofs.RowKinds.{kfmrh-changes, mfkrh-makes}
use Rattle.euler_laws.specs.Both.{cost_on, map_after}
use Rattle.solid_model.specs.SameButNames.{SameButNames}
use Rattle.euler_laws.proofs.Carrying.{cost-changed, cost-made, first-may, reached-both, second-may, taken-both}
use Rattle.euler_laws.proofs.KfmrhMfkrh.{kfmrh-mfkrh}
use Rattle.euler_laws.proofs.anew.kfmrh_mfkrh.Goals as goal

pub carry_out-requires : goal.carry_out-requires
carry_out-requires g c =
    let s = c.args.store.now.state in
    let tags = c.args.tags.now in
    let call = Kfmrh c.args.keep c.args.kill in
    let cost : cost_on s.map call ≡ 0 = cost-changed s.map call (kfmrh-changes (shape_of s.map) c.args.keep c.args.kill) in
    first-may s call 1 0 tags c.requires cost (omega arith)

pub returns-in_err-carry_out-clause-law : goal.returns-in_err-carry_out-clause-law
returns-in_err-carry_out-clause-law g c = kfmrh-mfkrh

pub carry_out-requires-2 : goal.carry_out-requires-2
carry_out-requires-2 g c =
    let s = c.args.store.now.state in
    let tags = c.args.tags.now in
    let call = Kfmrh c.args.keep c.args.kill in
    let cost : cost_on s.map call ≡ 0 = cost-changed s.map call (kfmrh-changes (shape_of s.map) c.args.keep c.args.kill) in
    let middle = map_after s.map call (left tags) in
    second-may s call (Mfkrh (outer_at (shape_of s.map) c.args.kill)) 1 0 1 tags c.requires cost (omega arith) (Mfkrh c.outer_of-ring.result) (ap Mfkrh c.outer_of-ring.ensures) c.carry_out.new.store.state c.carry_out.new.tags c.in_ok-carry_out.ensures.state c.in_ok-carry_out.ensures.tags
    c.in_ok-carry_out.ensures.sound (kfmrh-mfkrh s.map c.args.keep c.args.kill (left tags) c.requires.may).goes (cost-made 1 middle (Mfkrh (outer_at (shape_of s.map) c.args.kill)) (mfkrh-makes (shape_of middle) (outer_at (shape_of s.map) c.args.kill)) (kfmrh-mfkrh s.map c.args.keep c.args.kill (left tags) c.requires.may).goes)

pub returns-in_err-carry_out-2-clause-law : goal.returns-in_err-carry_out-2-clause-law
returns-in_err-carry_out-2-clause-law g c = kfmrh-mfkrh

pub returns-clause-law : goal.returns-clause-law
returns-clause-law g c = kfmrh-mfkrh

pub returns-clause-map : goal.returns-clause-map
returns-clause-map g c =
    let s = c.args.store.now.state in
    let tags = c.args.tags.now in
    let call = Kfmrh c.args.keep c.args.kill in
    let cost : cost_on s.map call ≡ 0 = cost-changed s.map call (kfmrh-changes (shape_of s.map) c.args.keep c.args.kill) in
    subst (λ n. SameButNames (c.args.kill ∷ []) (take 1 (left tags)) (shape_of s.map) (shape_of n)) (sym (reached-both s call (Mfkrh (outer_at (shape_of s.map) c.args.kill)) 1 0 1 tags c.requires cost (omega arith) (Mfkrh c.outer_of-ring.result) (ap Mfkrh c.outer_of-ring.ensures) c.carry_out.new.store.state c.carry_out.new.tags c.in_ok-carry_out.ensures.state c.in_ok-carry_out.ensures.tags
    c.carry_out-2.new.store.state c.in_ok-carry_out-2.ensures.state)) (kfmrh-mfkrh s.map c.args.keep c.args.kill (left tags) c.requires.may).same

pub returns-clause-carried : goal.returns-clause-carried
returns-clause-carried g c =
    let s = c.args.store.now.state in
    let tags = c.args.tags.now in
    let call = Kfmrh c.args.keep c.args.kill in
    let cost : cost_on s.map call ≡ 0 = cost-changed s.map call (kfmrh-changes (shape_of s.map) c.args.keep c.args.kill) in
    reached-both s call (Mfkrh (outer_at (shape_of s.map) c.args.kill)) 1 0 1 tags c.requires cost (omega arith) (Mfkrh c.outer_of-ring.result) (ap Mfkrh c.outer_of-ring.ensures) c.carry_out.new.store.state c.carry_out.new.tags c.in_ok-carry_out.ensures.state c.in_ok-carry_out.ensures.tags
    c.carry_out-2.new.store.state c.in_ok-carry_out-2.ensures.state

pub returns-clause-taken : goal.returns-clause-taken
returns-clause-taken g c =
    let s = c.args.store.now.state in
    let tags = c.args.tags.now in
    let call = Kfmrh c.args.keep c.args.kill in
    let cost : cost_on s.map call ≡ 0 = cost-changed s.map call (kfmrh-changes (shape_of s.map) c.args.keep c.args.kill) in
    let middle = map_after s.map call (left tags) in
    taken-both s call (Mfkrh (outer_at (shape_of s.map) c.args.kill)) 1 0 1 tags c.requires cost (omega arith) (Mfkrh c.outer_of-ring.result) (ap Mfkrh c.outer_of-ring.ensures) c.carry_out.new.store.state c.carry_out.new.tags c.in_ok-carry_out.ensures.state c.in_ok-carry_out.ensures.tags
    c.carry_out-2.new.tags c.in_ok-carry_out-2.ensures.tags (cost-made 1 middle (Mfkrh (outer_at (shape_of s.map) c.args.kill)) (mfkrh-makes (shape_of middle) (outer_at (shape_of s.map) c.args.kill)) (kfmrh-mfkrh s.map c.args.keep c.args.kill (left tags) c.requires.may).goes) (omega arith)
