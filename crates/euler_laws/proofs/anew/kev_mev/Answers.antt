use Rattle.std.proofs.Common.{◌≡◌, [], ◌∷◌, sym, ap, subst, ◌∙◌, arith, take}
use Rattle.pk_base.specs.declared.call.Call.TheVariants.{Kev, Mev}
use Rattle.entity_store.specs.NextTags.{left}
use Rattle.solid_model.specs.Shapes.{shape_of}
use Rattle.solid_calls.proofs.RowKinds.{kev-changes, mev-makes}
use Rattle.euler_laws.specs.Operands.{end_left, point_beyond, strut}
use Rattle.euler_laws.specs.Both.{cost_on, map_after}
use Rattle.solid_model.specs.SameButNames.{SameButNames}
use Rattle.euler_laws.proofs.Carrying.{cost-changed, cost-made, first-may, reached-both, second-may, taken-both}
use Rattle.euler_laws.proofs.KevMev.{kev-mev}
use Rattle.euler_laws.proofs.anew.kev_mev.Goals as goal

pub carry_out-requires : goal.carry_out-requires
carry_out-requires g c =
    let s = c.args.store.now.state in
    let tags = c.args.tags.now in
    let call = Kev c.args.fin in
    let cost : cost_on s.map call ≡ 0 = cost-changed s.map call (kev-changes (shape_of s.map) c.args.fin) in
    first-may s call 4 0 tags c.requires cost (omega arith)

pub returns-in_err-carry_out-clause-law : goal.returns-in_err-carry_out-clause-law
returns-in_err-carry_out-clause-law g c = kev-mev

pub carry_out-requires-2 : goal.carry_out-requires-2
carry_out-requires-2 g c =
    let s = c.args.store.now.state in
    let tags = c.args.tags.now in
    let call = Kev c.args.fin in
    let cost : cost_on s.map call ≡ 0 = cost-changed s.map call (kev-changes (shape_of s.map) c.args.fin) in
    let middle = map_after s.map call (left tags) in
    second-may s call (Mev (end_left (shape_of s.map) c.args.fin) (point_beyond (shape_of s.map) c.args.fin)) 4 0 4 tags c.requires cost (omega arith) (Mev c.end_left-end.result c.point_beyond-at.result) (λ i. Mev (c.end_left-end.ensures i) (c.point_beyond-at.ensures i)) c.carry_out.new.store.state c.carry_out.new.tags c.in_ok-carry_out.ensures.state c.in_ok-carry_out.ensures.tags
    c.in_ok-carry_out.ensures.sound (kev-mev s.map c.args.fin (left tags) c.requires.may).goes (cost-made 4 middle (Mev (end_left (shape_of s.map) c.args.fin) (point_beyond (shape_of s.map) c.args.fin)) (mev-makes (shape_of middle) (end_left (shape_of s.map) c.args.fin) (point_beyond (shape_of s.map) c.args.fin)) (kev-mev s.map c.args.fin (left tags) c.requires.may).goes)

pub returns-in_err-carry_out-2-clause-law : goal.returns-in_err-carry_out-2-clause-law
returns-in_err-carry_out-2-clause-law g c = kev-mev

pub returns-clause-law : goal.returns-clause-law
returns-clause-law g c = kev-mev

pub returns-clause-map : goal.returns-clause-map
returns-clause-map g c =
    let s = c.args.store.now.state in
    let tags = c.args.tags.now in
    let call = Kev c.args.fin in
    let cost : cost_on s.map call ≡ 0 = cost-changed s.map call (kev-changes (shape_of s.map) c.args.fin) in
    subst (λ n. SameButNames (strut (shape_of s.map) c.args.fin) (take 4 (left tags)) (shape_of s.map) (shape_of n)) (sym (reached-both s call (Mev (end_left (shape_of s.map) c.args.fin) (point_beyond (shape_of s.map) c.args.fin)) 4 0 4 tags c.requires cost (omega arith) (Mev c.end_left-end.result c.point_beyond-at.result) (λ i. Mev (c.end_left-end.ensures i) (c.point_beyond-at.ensures i)) c.carry_out.new.store.state c.carry_out.new.tags c.in_ok-carry_out.ensures.state c.in_ok-carry_out.ensures.tags
    c.carry_out-2.new.store.state c.in_ok-carry_out-2.ensures.state)) (kev-mev s.map c.args.fin (left tags) c.requires.may).same

pub returns-clause-carried : goal.returns-clause-carried
returns-clause-carried g c =
    let s = c.args.store.now.state in
    let tags = c.args.tags.now in
    let call = Kev c.args.fin in
    let cost : cost_on s.map call ≡ 0 = cost-changed s.map call (kev-changes (shape_of s.map) c.args.fin) in
    reached-both s call (Mev (end_left (shape_of s.map) c.args.fin) (point_beyond (shape_of s.map) c.args.fin)) 4 0 4 tags c.requires cost (omega arith) (Mev c.end_left-end.result c.point_beyond-at.result) (λ i. Mev (c.end_left-end.ensures i) (c.point_beyond-at.ensures i)) c.carry_out.new.store.state c.carry_out.new.tags c.in_ok-carry_out.ensures.state c.in_ok-carry_out.ensures.tags
    c.carry_out-2.new.store.state c.in_ok-carry_out-2.ensures.state

pub returns-clause-taken : goal.returns-clause-taken
returns-clause-taken g c =
    let s = c.args.store.now.state in
    let tags = c.args.tags.now in
    let call = Kev c.args.fin in
    let cost : cost_on s.map call ≡ 0 = cost-changed s.map call (kev-changes (shape_of s.map) c.args.fin) in
    let middle = map_after s.map call (left tags) in
    taken-both s call (Mev (end_left (shape_of s.map) c.args.fin) (point_beyond (shape_of s.map) c.args.fin)) 4 0 4 tags c.requires cost (omega arith) (Mev c.end_left-end.result c.point_beyond-at.result) (λ i. Mev (c.end_left-end.ensures i) (c.point_beyond-at.ensures i)) c.carry_out.new.store.state c.carry_out.new.tags c.in_ok-carry_out.ensures.state c.in_ok-carry_out.ensures.tags
    c.carry_out-2.new.tags c.in_ok-carry_out-2.ensures.tags (cost-made 4 middle (Mev (end_left (shape_of s.map) c.args.fin) (point_beyond (shape_of s.map) c.args.fin)) (mev-makes (shape_of middle) (end_left (shape_of s.map) c.args.fin) (point_beyond (shape_of s.map) c.args.fin)) (kev-mev s.map c.args.fin (left tags) c.requires.may).goes) (omega arith)
