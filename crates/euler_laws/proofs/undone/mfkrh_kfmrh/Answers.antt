use Rattle.std.proofs.Common.{◌≡◌, ◌<◌, length, sym, ap, ◌∙◌, arith}
use Rattle.pk_base.specs.declared.call.Call.TheVariants.{Mfkrh, Kfmrh}
use Rattle.pk_model.specs.Tags.{tag_at}
use Rattle.entity_store.specs.NextTags.{left}
use Rattle.solid_model.specs.Shapes.{shape_of}
use Rattle.solid_model.specs.Owners.{owner_in}
use Rattle.solid_calls.proofs.RowKinds.{kfmrh-changes, mfkrh-makes}
use Rattle.euler_laws.specs.Both.{cost_on, map_after}
use Rattle.euler_laws.proofs.Carrying.{cost-changed, cost-made, first-may, length-made, made-tag, reached-both, second-may, taken-both}
use Rattle.euler_laws.proofs.MfkrhKfmrh.{mfkrh-kfmrh}
use Rattle.euler_laws.proofs.undone.mfkrh_kfmrh.Goals as goal

pub carry_out-requires : goal.carry_out-requires
carry_out-requires g c =
    let s = c.args.store.now.state in
    let tags = c.args.tags.now in
    let call = Mfkrh c.args.ring in
    let cost : cost_on s.map call ≡ 1 = cost-made 1 s.map call (mfkrh-makes (shape_of s.map) c.args.ring) c.requires.may.goes in
    first-may s call 1 1 tags c.requires cost (omega arith)

pub returns-in_err-made-clause-law : goal.returns-in_err-made-clause-law
returns-in_err-made-clause-law g c = mfkrh-kfmrh

pub nth-kill-requires : goal.nth-kill-requires
nth-kill-requires g c =
    let s = c.args.store.now.state in
    let tags = c.args.tags.now in
    let call = Mfkrh c.args.ring in
    let cost : cost_on s.map call ≡ 1 = cost-made 1 s.map call (mfkrh-makes (shape_of s.map) c.args.ring) c.requires.may.goes in
    let is : length c.in_ok-made.made ≡ 1 = length-made s.map call 1 1 (left tags) c.in_ok-made.made c.requires.may cost (omega arith) c.in_ok-made.ensures.made in
    omega (arith, is)

pub carry_out-requires-2 : goal.carry_out-requires-2
carry_out-requires-2 g c =
    let s = c.args.store.now.state in
    let tags = c.args.tags.now in
    let call = Mfkrh c.args.ring in
    let cost : cost_on s.map call ≡ 1 = cost-made 1 s.map call (mfkrh-makes (shape_of s.map) c.args.ring) c.requires.may.goes in
    let kill : c.nth-kill.result ≡ tag_at (left tags) 0 = made-tag (cost_on s.map call) 1 0 (left tags) c.in_ok-made.made c.nth-kill.result c.in_ok-made.ensures.made cost (omega arith) c.nth-kill.ensures in
    let keep : c.face_of-keep.result ≡ owner_in (shape_of s.map) c.args.ring = c.face_of-keep.ensures in
    let middle = map_after s.map call (left tags) in
    second-may s call (Kfmrh (owner_in (shape_of s.map) c.args.ring) (tag_at (left tags) 0)) 1 1 0 tags c.requires cost (omega arith) (Kfmrh c.face_of-keep.result c.nth-kill.result) (λ i. Kfmrh (keep i) (kill i)) c.carry_out.new.store.state c.carry_out.new.tags c.in_ok-made.ensures.state c.in_ok-made.ensures.tags
    c.in_ok-made.ensures.sound (mfkrh-kfmrh s.map c.args.ring (left tags) c.requires.may).goes (cost-changed middle (Kfmrh (owner_in (shape_of s.map) c.args.ring) (tag_at (left tags) 0)) (kfmrh-changes (shape_of middle) (owner_in (shape_of s.map) c.args.ring) (tag_at (left tags) 0)))

pub returns-in_err-carry_out-clause-law : goal.returns-in_err-carry_out-clause-law
returns-in_err-carry_out-clause-law g c = mfkrh-kfmrh

pub returns-clause-law : goal.returns-clause-law
returns-clause-law g c = mfkrh-kfmrh

pub returns-clause-map : goal.returns-clause-map
returns-clause-map g c =
    let s = c.args.store.now.state in
    let tags = c.args.tags.now in
    let call = Mfkrh c.args.ring in
    let cost : cost_on s.map call ≡ 1 = cost-made 1 s.map call (mfkrh-makes (shape_of s.map) c.args.ring) c.requires.may.goes in
    let kill : c.nth-kill.result ≡ tag_at (left tags) 0 = made-tag (cost_on s.map call) 1 0 (left tags) c.in_ok-made.made c.nth-kill.result c.in_ok-made.ensures.made cost (omega arith) c.nth-kill.ensures in
    let keep : c.face_of-keep.result ≡ owner_in (shape_of s.map) c.args.ring = c.face_of-keep.ensures in
    reached-both s call (Kfmrh (owner_in (shape_of s.map) c.args.ring) (tag_at (left tags) 0)) 1 1 0 tags c.requires cost (omega arith) (Kfmrh c.face_of-keep.result c.nth-kill.result) (λ i. Kfmrh (keep i) (kill i)) c.carry_out.new.store.state c.carry_out.new.tags c.in_ok-made.ensures.state c.in_ok-made.ensures.tags
    c.carry_out-2.new.store.state c.in_ok-carry_out.ensures.state
    ∙ (mfkrh-kfmrh s.map c.args.ring (left tags) c.requires.may).same

pub returns-clause-taken : goal.returns-clause-taken
returns-clause-taken g c =
    let s = c.args.store.now.state in
    let tags = c.args.tags.now in
    let call = Mfkrh c.args.ring in
    let cost : cost_on s.map call ≡ 1 = cost-made 1 s.map call (mfkrh-makes (shape_of s.map) c.args.ring) c.requires.may.goes in
    let kill : c.nth-kill.result ≡ tag_at (left tags) 0 = made-tag (cost_on s.map call) 1 0 (left tags) c.in_ok-made.made c.nth-kill.result c.in_ok-made.ensures.made cost (omega arith) c.nth-kill.ensures in
    let keep : c.face_of-keep.result ≡ owner_in (shape_of s.map) c.args.ring = c.face_of-keep.ensures in
    let middle = map_after s.map call (left tags) in
    taken-both s call (Kfmrh (owner_in (shape_of s.map) c.args.ring) (tag_at (left tags) 0)) 1 1 0 tags c.requires cost (omega arith) (Kfmrh c.face_of-keep.result c.nth-kill.result) (λ i. Kfmrh (keep i) (kill i)) c.carry_out.new.store.state c.carry_out.new.tags c.in_ok-made.ensures.state c.in_ok-made.ensures.tags
    c.carry_out-2.new.tags c.in_ok-carry_out.ensures.tags (cost-changed middle (Kfmrh (owner_in (shape_of s.map) c.args.ring) (tag_at (left tags) 0)) (kfmrh-changes (shape_of middle) (owner_in (shape_of s.map) c.args.ring) (tag_at (left tags) 0))) (omega arith)
