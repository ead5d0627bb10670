use Rattle.std.proofs.Common.{◌≡◌, sym, ap, subst, arith, take}
use Rattle.pk_base.specs.declared.call.Call.TheVariants.{Kvfs, Mvfs}
use Rattle.entity_store.specs.NextTags.{left}
use Rattle.solid_model.specs.Shapes.{shape_of}
use Rattle.solid_calls.proofs.RowKinds.{kvfs-changes, mvfs-makes}
use Rattle.euler_laws.specs.Operands.{bare_body, point_of_body}
use Rattle.euler_laws.specs.Both.{cost_on, map_after}
use Rattle.solid_model.specs.SameButNames.{SameButNames}
use Rattle.euler_laws.proofs.Carrying.{cost-changed, cost-made, first-may, reached-both, second-may, taken-both}
use Rattle.euler_laws.proofs.KvfsMvfs.{kvfs-mvfs}
use Rattle.euler_laws.proofs.anew.kvfs_mvfs.Goals as goal

pub carry_out-requires : goal.carry_out-requires
carry_out-requires g c =
    let s = c.args.store.now.state in
    let tags = c.args.tags.now in
    let call = Kvfs c.args.body in
    let cost : cost_on s.map call ≡ 0 = cost-changed s.map call (kvfs-changes (shape_of s.map) c.args.body) in
    first-may s call 5 0 tags c.requires cost (omega arith)

pub returns-in_err-carry_out-clause-law : goal.returns-in_err-carry_out-clause-law
returns-in_err-carry_out-clause-law g c = kvfs-mvfs

pub carry_out-requires-2 : goal.carry_out-requires-2
carry_out-requires-2 g c =
    let s = c.args.store.now.state in
    let tags = c.args.tags.now in
    let call = Kvfs c.args.body in
    let cost : cost_on s.map call ≡ 0 = cost-changed s.map call (kvfs-changes (shape_of s.map) c.args.body) in
    let middle = map_after s.map call (left tags) in
    second-may s call (Mvfs (point_of_body (shape_of s.map) c.args.body)) 5 0 5 tags c.requires cost (omega arith) (Mvfs c.point_of_body-at.result) (ap Mvfs c.point_of_body-at.ensures) c.carry_out.new.store.state c.carry_out.new.tags c.in_ok-carry_out.ensures.state c.in_ok-carry_out.ensures.tags
    c.in_ok-carry_out.ensures.sound (kvfs-mvfs s.map c.args.body (left tags) c.requires.may).goes (cost-made 5 middle (Mvfs (point_of_body (shape_of s.map) c.args.body)) (mvfs-makes (shape_of middle) (point_of_body (shape_of s.map) c.args.body)) (kvfs-mvfs s.map c.args.body (left tags) c.requires.may).goes)

pub returns-in_err-carry_out-2-clause-law : goal.returns-in_err-carry_out-2-clause-law
returns-in_err-carry_out-2-clause-law g c = kvfs-mvfs

pub returns-clause-law : goal.returns-clause-law
returns-clause-law g c = kvfs-mvfs

pub returns-clause-map : goal.returns-clause-map
returns-clause-map g c =
    let s = c.args.store.now.state in
    let tags = c.args.tags.now in
    let call = Kvfs c.args.body in
    let cost : cost_on s.map call ≡ 0 = cost-changed s.map call (kvfs-changes (shape_of s.map) c.args.body) in
    subst (λ n. SameButNames (bare_body (shape_of s.map) c.args.body) (take 5 (left tags)) (shape_of s.map) (shape_of n)) (sym (reached-both s call (Mvfs (point_of_body (shape_of s.map) c.args.body)) 5 0 5 tags c.requires cost (omega arith) (Mvfs c.point_of_body-at.result) (ap Mvfs c.point_of_body-at.ensures) c.carry_out.new.store.state c.carry_out.new.tags c.in_ok-carry_out.ensures.state c.in_ok-carry_out.ensures.tags
    c.carry_out-2.new.store.state c.in_ok-carry_out-2.ensures.state)) (kvfs-mvfs s.map c.args.body (left tags) c.requires.may).same

pub returns-clause-carried : goal.returns-clause-carried
returns-clause-carried g c =
    let s = c.args.store.now.state in
    let tags = c.args.tags.now in
    let call = Kvfs c.args.body in
    let cost : cost_on s.map call ≡ 0 = cost-changed s.map call (kvfs-changes (shape_of s.map) c.args.body) in
    reached-both s call (Mvfs (point_of_body (shape_of s.map) c.args.body)) 5 0 5 tags c.requires cost (omega arith) (Mvfs c.point_of_body-at.result) (ap Mvfs c.point_of_body-at.ensures) c.carry_out.new.store.state c.carry_out.new.tags c.in_ok-carry_out.ensures.state c.in_ok-carry_out.ensures.tags
    c.carry_out-2.new.store.state c.in_ok-carry_out-2.ensures.state

pub returns-clause-taken : goal.returns-clause-taken
returns-clause-taken g c =
    let s = c.args.store.now.state in
    let tags = c.args.tags.now in
    let call = Kvfs c.args.body in
    let cost : cost_on s.map call ≡ 0 = cost-changed s.map call (kvfs-changes (shape_of s.map) c.args.body) in
    let middle = map_after s.map call (left tags) in
    taken-both s call (Mvfs (point_of_body (shape_of s.map) c.args.body)) 5 0 5 tags c.requires cost (omega arith) (Mvfs c.point_of_body-at.result) (ap Mvfs c.point_of_body-at.ensures) c.carry_out.new.store.state c.carry_out.new.tags c.in_ok-carry_out.ensures.state c.in_ok-carry_out.ensures.tags
    c.carry_out-2.new.tags c.in_ok-carry_out-2.ensures.tags (cost-made 5 middle (Mvfs (point_of_body (shape_of s.map) c.args.body)) (mvfs-makes (shape_of middle) (point_of_body (shape_of s.map) c.args.body)) (kvfs-mvfs s.map c.args.body (left tags) c.requires.may).goes) (omega arith)
