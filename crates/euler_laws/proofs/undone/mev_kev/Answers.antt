use Rattle.std.proofs.Common.{◌≡◌, ◌<◌, length, sym, ap, ◌∙◌, arith}
use Rattle.pk_base.specs.declared.call.Call.TheVariants.{Mev, Kev}
use Rattle.pk_model.specs.Tags.{tag_at}
use Rattle.entity_store.specs.NextTags.{left}
use Rattle.solid_model.specs.Shapes.{shape_of}
use Rattle.solid_calls.proofs.RowKinds.{kev-changes, mev-makes}
use Rattle.euler_laws.specs.Both.{cost_on, map_after}
use Rattle.euler_laws.proofs.Carrying.{cost-changed, cost-made, first-may, length-made, made-tag, reached-both, second-may, taken-both}
use Rattle.euler_laws.proofs.MevKev.{mev-kev}
use Rattle.euler_laws.proofs.undone.mev_kev.Goals as goal

pub carry_out-requires : goal.carry_out-requires
carry_out-requires g c =
    let s = c.args.store.now.state in
    let tags = c.args.tags.now in
    let call = Mev c.args.end c.args.at in
    let cost : cost_on s.map call ≡ 4 = cost-made 4 s.map call (mev-makes (shape_of s.map) c.args.end c.args.at) c.requires.may.goes in
    first-may s call 4 4 tags c.requires cost (omega arith)

pub returns-in_err-made-clause-law : goal.returns-in_err-made-clause-law
returns-in_err-made-clause-law g c = mev-kev

pub nth-fin-requires : goal.nth-fin-requires
nth-fin-requires g c =
    let s = c.args.store.now.state in
    let tags = c.args.tags.now in
    let call = Mev c.args.end c.args.at in
    let cost : cost_on s.map call ≡ 4 = cost-made 4 s.map call (mev-makes (shape_of s.map) c.args.end c.args.at) c.requires.may.goes in
    let is : length c.in_ok-made.made ≡ 4 = length-made s.map call 4 4 (left tags) c.in_ok-made.made c.requires.may cost (omega arith) c.in_ok-made.ensures.made in
    omega (arith, is)

pub carry_out-requires-2 : goal.carry_out-requires-2
carry_out-requires-2 g c =
    let s = c.args.store.now.state in
    let tags = c.args.tags.now in
    let call = Mev c.args.end c.args.at in
    let cost : cost_on s.map call ≡ 4 = cost-made 4 s.map call (mev-makes (shape_of s.map) c.args.end c.args.at) c.requires.may.goes in
    let fin : c.nth-fin.result ≡ tag_at (left tags) 2 = made-tag (cost_on s.map call) 4 2 (left tags) c.in_ok-made.made c.nth-fin.result c.in_ok-made.ensures.made cost (omega arith) c.nth-fin.ensures in
    let middle = map_after s.map call (left tags) in
    second-may s call (Kev (tag_at (left tags) 2)) 4 4 0 tags c.requires cost (omega arith) (Kev c.nth-fin.result) (ap Kev fin) c.carry_out.new.store.state c.carry_out.new.tags c.in_ok-made.ensures.state c.in_ok-made.ensures.tags
    c.in_ok-made.ensures.sound (mev-kev s.map c.args.end c.args.at (left tags) c.requires.may).goes (cost-changed middle (Kev (tag_at (left tags) 2)) (kev-changes (shape_of middle) (tag_at (left tags) 2)))

pub returns-in_err-carry_out-clause-law : goal.returns-in_err-carry_out-clause-law
returns-in_err-carry_out-clause-law g c = mev-kev

pub returns-clause-law : goal.returns-clause-law
returns-clause-law g c = mev-kev

pub returns-clause-map : goal.returns-clause-map
returns-clause-map g c =
    let s = c.args.store.now.state in
    let tags = c.args.tags.now in
    let call = Mev c.args.end c.args.at in
    let cost : cost_on s.map call ≡ 4 = cost-made 4 s.map call (mev-makes (shape_of s.map) c.args.end c.args.at) c.requires.may.goes in
    let fin : c.nth-fin.result ≡ tag_at (left tags) 2 = made-tag (cost_on s.map call) 4 2 (left tags) c.in_ok-made.made c.nth-fin.result c.in_ok-made.ensures.made cost (omega arith) c.nth-fin.ensures in
    reached-both s call (Kev (tag_at (left tags) 2)) 4 4 0 tags c.requires cost (omega arith) (Kev c.nth-fin.result) (ap Kev fin) c.carry_out.new.store.state c.carry_out.new.tags c.in_ok-made.ensures.state c.in_ok-made.ensures.tags
    c.carry_out-2.new.store.state c.in_ok-carry_out.ensures.state
    ∙ (mev-kev s.map c.args.end c.args.at (left tags) c.requires.may).same

pub returns-clause-taken : goal.returns-clause-taken
returns-clause-taken g c =
    let s = c.args.store.now.state in
    let tags = c.args.tags.now in
    let call = Mev c.args.end c.args.at in
    let cost : cost_on s.map call ≡ 4 = cost-made 4 s.map call (mev-makes (shape_of s.map) c.args.end c.args.at) c.requires.may.goes in
    let fin : c.nth-fin.result ≡ tag_at (left tags) 2 = made-tag (cost_on s.map call) 4 2 (left tags) c.in_ok-made.made c.nth-fin.result c.in_ok-made.ensures.made cost (omega arith) c.nth-fin.ensures in
    let middle = map_after s.map call (left tags) in
    taken-both s call (Kev (tag_at (left tags) 2)) 4 4 0 tags c.requires cost (omega arith) (Kev c.nth-fin.result) (ap Kev fin) c.carry_out.new.store.state c.carry_out.new.tags c.in_ok-made.ensures.state c.in_ok-made.ensures.tags
    c.carry_out-2.new.tags c.in_ok-carry_out.ensures.tags (cost-changed middle (Kev (tag_at (left tags) 2)) (kev-changes (shape_of middle) (tag_at (left tags) 2))) (omega arith)
