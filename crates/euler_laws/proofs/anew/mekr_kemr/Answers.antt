use Rattle.std.proofs.Common.{◌≡◌, [], ◌∷◌, ◌<◌, length, sym, ap, subst, ◌∙◌, arith, take}
use Rattle.pk_base.specs.declared.call.Call.TheVariants.{Mekr, Kemr}
use Rattle.pk_model.specs.Tags.{tag_at}
use Rattle.entity_store.specs.NextTags.{left}
use Rattle.solid_model.specs.Shapes.{shape_of}
use Rattle.solid_calls.proofs.RowKinds.{kemr-makes, mekr-makes}
use Rattle.euler_laws.specs.Operands.{loop_at_end}
use Rattle.euler_laws.specs.Both.{cost_on, map_after}
use Rattle.solid_model.specs.SameButNames.{SameButNames}
use Rattle.euler_laws.proofs.Carrying.{cost-changed, cost-made, first-may, length-made, made-tag, reached-both, second-may, taken-both}
use Rattle.euler_laws.proofs.MekrKemr.{mekr-kemr}
use Rattle.euler_laws.proofs.anew.mekr_kemr.Goals as goal

pub carry_out-requires : goal.carry_out-requires
carry_out-requires g c =
    let s = c.args.store.now.state in
    let tags = c.args.tags.now in
    let call = Mekr c.args.keep c.args.ring in
    let cost : cost_on s.map call ≡ 3 = cost-made 3 s.map call (mekr-makes (shape_of s.map) c.args.keep c.args.ring) c.requires.may.goes in
    first-may s call 4 3 tags c.requires cost (omega arith)

pub returns-in_err-made-clause-law : goal.returns-in_err-made-clause-law
returns-in_err-made-clause-law g c = mekr-kemr

pub nth-fin-requires : goal.nth-fin-requires
nth-fin-requires g c =
    let s = c.args.store.now.state in
    let tags = c.args.tags.now in
    let call = Mekr c.args.keep c.args.ring in
    let cost : cost_on s.map call ≡ 3 = cost-made 3 s.map call (mekr-makes (shape_of s.map) c.args.keep c.args.ring) c.requires.may.goes in
    let is : length c.in_ok-made.made ≡ 3 = length-made s.map call 4 3 (left tags) c.in_ok-made.made c.requires.may cost (omega arith) c.in_ok-made.ensures.made in
    omega (arith, is)

pub carry_out-requires-2 : goal.carry_out-requires-2
carry_out-requires-2 g c =
    let s = c.args.store.now.state in
    let tags = c.args.tags.now in
    let call = Mekr c.args.keep c.args.ring in
    let cost : cost_on s.map call ≡ 3 = cost-made 3 s.map call (mekr-makes (shape_of s.map) c.args.keep c.args.ring) c.requires.may.goes in
    let fin : c.nth-fin.result ≡ tag_at (left tags) 1 = made-tag (cost_on s.map call) 3 1 (left tags) c.in_ok-made.made c.nth-fin.result c.in_ok-made.ensures.made cost (omega arith) c.nth-fin.ensures in
    let middle = map_after s.map call (left tags) in
    second-may s call (Kemr (tag_at (left tags) 1)) 4 3 1 tags c.requires cost (omega arith) (Kemr c.nth-fin.result) (ap Kemr fin) c.carry_out.new.store.state c.carry_out.new.tags c.in_ok-made.ensures.state c.in_ok-made.ensures.tags
    c.in_ok-made.ensures.sound (mekr-kemr s.map c.args.keep c.args.ring (left tags) c.requires.may).goes (cost-made 1 middle (Kemr (tag_at (left tags) 1)) (kemr-makes (shape_of middle) (tag_at (left tags) 1)) (mekr-kemr s.map c.args.keep c.args.ring (left tags) c.requires.may).goes)

pub returns-in_err-carry_out-clause-law : goal.returns-in_err-carry_out-clause-law
returns-in_err-carry_out-clause-law g c = mekr-kemr

pub returns-clause-law : goal.returns-clause-law
returns-clause-law g c = mekr-kemr

pub returns-clause-map : goal.returns-clause-map
returns-clause-map g c =
    let s = c.args.store.now.state in
    let tags = c.args.tags.now in
    let call = Mekr c.args.keep c.args.ring in
    let cost : cost_on s.map call ≡ 3 = cost-made 3 s.map call (mekr-makes (shape_of s.map) c.args.keep c.args.ring) c.requires.may.goes in
    let fin : c.nth-fin.result ≡ tag_at (left tags) 1 = made-tag (cost_on s.map call) 3 1 (left tags) c.in_ok-made.made c.nth-fin.result c.in_ok-made.ensures.made cost (omega arith) c.nth-fin.ensures in
    subst (λ n. SameButNames (loop_at_end (shape_of s.map) c.args.ring ∷ []) (tag_at (left tags) 3 ∷ []) (shape_of s.map) (shape_of n)) (sym (reached-both s call (Kemr (tag_at (left tags) 1)) 4 3 1 tags c.requires cost (omega arith) (Kemr c.nth-fin.result) (ap Kemr fin) c.carry_out.new.store.state c.carry_out.new.tags c.in_ok-made.ensures.state c.in_ok-made.ensures.tags
    c.carry_out-2.new.store.state c.in_ok-carry_out.ensures.state)) (mekr-kemr s.map c.args.keep c.args.ring (left tags) c.requires.may).same

pub returns-clause-carried : goal.returns-clause-carried
returns-clause-carried g c =
    let s = c.args.store.now.state in
    let tags = c.args.tags.now in
    let call = Mekr c.args.keep c.args.ring in
    let cost : cost_on s.map call ≡ 3 = cost-made 3 s.map call (mekr-makes (shape_of s.map) c.args.keep c.args.ring) c.requires.may.goes in
    let fin : c.nth-fin.result ≡ tag_at (left tags) 1 = made-tag (cost_on s.map call) 3 1 (left tags) c.in_ok-made.made c.nth-fin.result c.in_ok-made.ensures.made cost (omega arith) c.nth-fin.ensures in
    reached-both s call (Kemr (tag_at (left tags) 1)) 4 3 1 tags c.requires cost (omega arith) (Kemr c.nth-fin.result) (ap Kemr fin) c.carry_out.new.store.state c.carry_out.new.tags c.in_ok-made.ensures.state c.in_ok-made.ensures.tags
    c.carry_out-2.new.store.state c.in_ok-carry_out.ensures.state

pub returns-clause-taken : goal.returns-clause-taken
returns-clause-taken g c =
    let s = c.args.store.now.state in
    let tags = c.args.tags.now in
    let call = Mekr c.args.keep c.args.ring in
    let cost : cost_on s.map call ≡ 3 = cost-made 3 s.map call (mekr-makes (shape_of s.map) c.args.keep c.args.ring) c.requires.may.goes in
    let fin : c.nth-fin.result ≡ tag_at (left tags) 1 = made-tag (cost_on s.map call) 3 1 (left tags) c.in_ok-made.made c.nth-fin.result c.in_ok-made.ensures.made cost (omega arith) c.nth-fin.ensures in
    let middle = map_after s.map call (left tags) in
    taken-both s call (Kemr (tag_at (left tags) 1)) 4 3 1 tags c.requires cost (omega arith) (Kemr c.nth-fin.result) (ap Kemr fin) c.carry_out.new.store.state c.carry_out.new.tags c.in_ok-made.ensures.state c.in_ok-made.ensures.tags
    c.carry_out-2.new.tags c.in_ok-carry_out.ensures.tags (cost-made 1 middle (Kemr (tag_at (left tags) 1)) (kemr-makes (shape_of middle) (tag_at (left tags) 1)) (mekr-kemr s.map c.args.keep c.args.ring (left tags) c.requires.may).goes) (omega arith)
