use Rattle.std.proofs.Common.{◌≡◌, ◌<◌, length, sym, ap, ◌∙◌, arith}
use Rattle.pk_base.specs.declared.call.Call.TheVariants.{Mvfs, Kvfs}
use Rattle.pk_model.specs.Tags.{tag_at}
use Rattle.entity_store.specs.NextTags.{left}
use Rattle.solid_model.specs.Shapes.{shape_of}
use Rattle.solid_calls.proofs.RowKinds.{kvfs-changes, mvfs-makes}
use Rattle.euler_laws.specs.Both.{cost_on, map_after}
use Rattle.euler_laws.proofs.Carrying.{cost-changed, cost-made, first-may, length-made, made-tag, reached-both, second-may, taken-both}
use Rattle.euler_laws.proofs.MvfsKvfs.{mvfs-kvfs}
use Rattle.euler_laws.proofs.undone.mvfs_kvfs.Goals as goal

pub carry_out-requires : goal.carry_out-requires
carry_out-requires g c =
    let s = c.args.store.now.state in
    let tags = c.args.tags.now in
    let call = Mvfs c.args.at in
    let cost : cost_on s.map call ≡ 5 = cost-made 5 s.map call (mvfs-makes (shape_of s.map) c.args.at) c.requires.may.goes in
    first-may s call 5 5 tags c.requires cost (omega arith)

pub returns-in_err-made-clause-law : goal.returns-in_err-made-clause-law
returns-in_err-made-clause-law g c = mvfs-kvfs

pub nth-body-requires : goal.nth-body-requires
nth-body-requires g c =
    let s = c.args.store.now.state in
    let tags = c.args.tags.now in
    let call = Mvfs c.args.at in
    let cost : cost_on s.map call ≡ 5 = cost-made 5 s.map call (mvfs-makes (shape_of s.map) c.args.at) c.requires.may.goes in
    let is : length c.in_ok-made.made ≡ 5 = length-made s.map call 5 5 (left tags) c.in_ok-made.made c.requires.may cost (omega arith) c.in_ok-made.ensures.made in
    omega (arith, is)

pub carry_out-requires-2 : goal.carry_out-requires-2
carry_out-requires-2 g c =
    let s = c.args.store.now.state in
    let tags = c.args.tags.now in
    let call = Mvfs c.args.at in
    let cost : cost_on s.map call ≡ 5 = cost-made 5 s.map call (mvfs-makes (shape_of s.map) c.args.at) c.requires.may.goes in
    let body : c.nth-body.result ≡ tag_at (left tags) 0 = made-tag (cost_on s.map call) 5 0 (left tags) c.in_ok-made.made c.nth-body.result c.in_ok-made.ensures.made cost (omega arith) c.nth-body.ensures in
    let middle = map_after s.map call (left tags) in
    second-may s call (Kvfs (tag_at (left tags) 0)) 5 5 0 tags c.requires cost (omega arith) (Kvfs c.nth-body.result) (ap Kvfs body) c.carry_out.new.store.state c.carry_out.new.tags c.in_ok-made.ensures.state c.in_ok-made.ensures.tags
    c.in_ok-made.ensures.sound (mvfs-kvfs s.map c.args.at (left tags) c.requires.may).goes (cost-changed middle (Kvfs (tag_at (left tags) 0)) (kvfs-changes (shape_of middle) (tag_at (left tags) 0)))

pub returns-in_err-carry_out-clause-law : goal.returns-in_err-carry_out-clause-law
returns-in_err-carry_out-clause-law g c = mvfs-kvfs

pub returns-clause-law : goal.returns-clause-law
returns-clause-law g c = mvfs-kvfs

pub returns-clause-map : goal.returns-clause-map
returns-clause-map g c =
    let s = c.args.store.now.state in
    let tags = c.args.tags.now in
    let call = Mvfs c.args.at in
    let cost : cost_on s.map call ≡ 5 = cost-made 5 s.map call (mvfs-makes (shape_of s.map) c.args.at) c.requires.may.goes in
    let body : c.nth-body.result ≡ tag_at (left tags) 0 = made-tag (cost_on s.map call) 5 0 (left tags) c.in_ok-made.made c.nth-body.result c.in_ok-made.ensures.made cost (omega arith) c.nth-body.ensures in
    reached-both s call (Kvfs (tag_at (left tags) 0)) 5 5 0 tags c.requires cost (omega arith) (Kvfs c.nth-body.result) (ap Kvfs body) c.carry_out.new.store.state c.carry_out.new.tags c.in_ok-made.ensures.state c.in_ok-made.ensures.tags
    c.carry_out-2.new.store.state c.in_ok-carry_out.ensures.state
    ∙ (mvfs-kvfs s.map c.args.at (left tags) c.requires.may).same

pub returns-clause-taken : goal.returns-clause-taken
returns-clause-taken g c =
    let s = c.args.store.now.state in
    let tags = c.args.tags.now in
    let call = Mvfs c.args.at in
    let cost : cost_on s.map call ≡ 5 = cost-made 5 s.map call (mvfs-makes (shape_of s.map) c.args.at) c.requires.may.goes in
    let body : c.nth-body.result ≡ tag_at (left tags) 0 = made-tag (cost_on s.map call) 5 0 (left tags) c.in_ok-made.made c.nth-body.result c.in_ok-made.ensures.made cost (omega arith) c.nth-body.ensures in
    let middle = map_after s.map call (left tags) in
    taken-both s call (Kvfs (tag_at (left tags) 0)) 5 5 0 tags c.requires cost (omega arith) (Kvfs c.nth-body.result) (ap Kvfs body) c.carry_out.new.store.state c.carry_out.new.tags c.in_ok-made.ensures.state c.in_ok-made.ensures.tags
    c.carry_out-2.new.tags c.in_ok-carry_out.ensures.tags (cost-changed middle (Kvfs (tag_at (left tags) 0)) (kvfs-changes (shape_of middle) (tag_at (left tags) 0))) (omega arith)
