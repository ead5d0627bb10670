use Rattle.std.proofs.Common.{◌≡◌, sym, ap, subst, ◌∙◌, arith, take}
use Rattle.pk_base.specs.declared.call.Call.TheVariants.{Kef, Mef}
use Rattle.entity_store.specs.NextTags.{left}
use Rattle.solid_model.specs.Shapes.{shape_of}
use Rattle.std.specs.Prelude.{IsOk}
use Rattle.solid_model.specs.Places.{fin_at, mate_at}
use Rattle.solid_calls.proofs.RowKinds.{kef-changes, mef-makes}
use Rattle.euler_laws.specs.Operands.{face_and_edge, fin_after}
use Rattle.euler_laws.specs.Both.{cost_on, map_after}
use Rattle.solid_model.specs.SameButNames.{SameButNames}
use Rattle.euler_laws.proofs.Carrying.{cost-changed, cost-made, first-may, reached-both, second-may, taken-both}
use Rattle.euler_laws.proofs.KefMef.{kef-live, kef-live_mate, kef-mef}
use Rattle.euler_laws.proofs.anew.kef_mef.Goals as goal

pub carry_out-requires : goal.carry_out-requires
carry_out-requires g c =
    let s = c.args.store.now.state in
    let tags = c.args.tags.now in
    let call = Kef c.args.fin in
    let cost : cost_on s.map call ≡ 0 = cost-changed s.map call (kef-changes (shape_of s.map) c.args.fin) in
    first-may s call 5 0 tags c.requires cost (omega arith)

pub returns-in_err-carry_out-clause-law : goal.returns-in_err-carry_out-clause-law
returns-in_err-carry_out-clause-law g c = kef-mef

pub carry_out-requires-2 : goal.carry_out-requires-2
carry_out-requires-2 g c =
    let s = c.args.store.now.state in
    let tags = c.args.tags.now in
    let call = Kef c.args.fin in
    let cost : cost_on s.map call ≡ 0 = cost-changed s.map call (kef-changes (shape_of s.map) c.args.fin) in
    let middle = map_after s.map call (left tags) in
    second-may s call (Mef (fin_after (shape_of s.map) c.args.fin) (fin_after (shape_of s.map) (mate_at (shape_of s.map) c.args.fin))) 5 0 5 tags c.requires cost (omega arith) (Mef c.fin_after-from.result c.fin_after-to.result) (λ i. Mef (c.fin_after-from.ensures i) ((c.fin_after-to.ensures ∙ ap (fin_after (shape_of s.map)) c.mate_of-mate.ensures) i)) c.carry_out.new.store.state c.carry_out.new.tags c.in_ok-carry_out.ensures.state c.in_ok-carry_out.ensures.tags
    c.in_ok-carry_out.ensures.sound (kef-mef s.map c.args.fin (left tags) c.requires.may).goes (cost-made 5 middle (Mef (fin_after (shape_of s.map) c.args.fin) (fin_after (shape_of s.map) (mate_at (shape_of s.map) c.args.fin))) (mef-makes (shape_of middle) (fin_after (shape_of s.map) c.args.fin) (fin_after (shape_of s.map) (mate_at (shape_of s.map) c.args.fin))) (kef-mef s.map c.args.fin (left tags) c.requires.may).goes)

pub returns-in_err-carry_out-2-clause-law : goal.returns-in_err-carry_out-2-clause-law
returns-in_err-carry_out-2-clause-law g c = kef-mef

pub returns-clause-law : goal.returns-clause-law
returns-clause-law g c = kef-mef

pub returns-clause-map : goal.returns-clause-map
returns-clause-map g c =
    let s = c.args.store.now.state in
    let tags = c.args.tags.now in
    let call = Kef c.args.fin in
    let cost : cost_on s.map call ≡ 0 = cost-changed s.map call (kef-changes (shape_of s.map) c.args.fin) in
    subst (λ n. SameButNames (face_and_edge (shape_of s.map) c.args.fin) (take 5 (left tags)) (shape_of s.map) (shape_of n)) (sym (reached-both s call (Mef (fin_after (shape_of s.map) c.args.fin) (fin_after (shape_of s.map) (mate_at (shape_of s.map) c.args.fin))) 5 0 5 tags c.requires cost (omega arith) (Mef c.fin_after-from.result c.fin_after-to.result) (λ i. Mef (c.fin_after-from.ensures i) ((c.fin_after-to.ensures ∙ ap (fin_after (shape_of s.map)) c.mate_of-mate.ensures) i)) c.carry_out.new.store.state c.carry_out.new.tags c.in_ok-carry_out.ensures.state c.in_ok-carry_out.ensures.tags
    c.carry_out-2.new.store.state c.in_ok-carry_out-2.ensures.state)) (kef-mef s.map c.args.fin (left tags) c.requires.may).same

pub returns-clause-carried : goal.returns-clause-carried
returns-clause-carried g c =
    let s = c.args.store.now.state in
    let tags = c.args.tags.now in
    let call = Kef c.args.fin in
    let cost : cost_on s.map call ≡ 0 = cost-changed s.map call (kef-changes (shape_of s.map) c.args.fin) in
    reached-both s call (Mef (fin_after (shape_of s.map) c.args.fin) (fin_after (shape_of s.map) (mate_at (shape_of s.map) c.args.fin))) 5 0 5 tags c.requires cost (omega arith) (Mef c.fin_after-from.result c.fin_after-to.result) (λ i. Mef (c.fin_after-from.ensures i) ((c.fin_after-to.ensures ∙ ap (fin_after (shape_of s.map)) c.mate_of-mate.ensures) i)) c.carry_out.new.store.state c.carry_out.new.tags c.in_ok-carry_out.ensures.state c.in_ok-carry_out.ensures.tags
    c.carry_out-2.new.store.state c.in_ok-carry_out-2.ensures.state

pub returns-clause-taken : goal.returns-clause-taken
returns-clause-taken g c =
    let s = c.args.store.now.state in
    let tags = c.args.tags.now in
    let call = Kef c.args.fin in
    let cost : cost_on s.map call ≡ 0 = cost-changed s.map call (kef-changes (shape_of s.map) c.args.fin) in
    let middle = map_after s.map call (left tags) in
    taken-both s call (Mef (fin_after (shape_of s.map) c.args.fin) (fin_after (shape_of s.map) (mate_at (shape_of s.map) c.args.fin))) 5 0 5 tags c.requires cost (omega arith) (Mef c.fin_after-from.result c.fin_after-to.result) (λ i. Mef (c.fin_after-from.ensures i) ((c.fin_after-to.ensures ∙ ap (fin_after (shape_of s.map)) c.mate_of-mate.ensures) i)) c.carry_out.new.store.state c.carry_out.new.tags c.in_ok-carry_out.ensures.state c.in_ok-carry_out.ensures.tags
    c.carry_out-2.new.tags c.in_ok-carry_out-2.ensures.tags (cost-made 5 middle (Mef (fin_after (shape_of s.map) c.args.fin) (fin_after (shape_of s.map) (mate_at (shape_of s.map) c.args.fin))) (mef-makes (shape_of middle) (fin_after (shape_of s.map) c.args.fin) (fin_after (shape_of s.map) (mate_at (shape_of s.map) c.args.fin))) (kef-mef s.map c.args.fin (left tags) c.requires.may).goes) (omega arith)

pub mate_of-mate-requires-clause-live : goal.mate_of-mate-requires-clause-live
mate_of-mate-requires-clause-live g c = kef-live (shape_of c.args.store.now.state.map) c.args.fin c.requires.may.goes

pub fin_after-from-requires-clause-live : goal.fin_after-from-requires-clause-live
fin_after-from-requires-clause-live g c = kef-live (shape_of c.args.store.now.state.map) c.args.fin c.requires.may.goes

pub fin_after-to-requires-clause-live : goal.fin_after-to-requires-clause-live
fin_after-to-requires-clause-live g c =
    let S = shape_of c.args.store.now.state.map in
    subst (λ t. IsOk (fin_at S t)) (sym c.mate_of-mate.ensures) (kef-live_mate S c.args.fin c.requires.may.goes)
