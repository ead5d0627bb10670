use Rattle.std.proofs.Common.{◌≡◌, ◌<◌, length, sym, ap, subst, ◌∙◌, arith, take}
use Rattle.pk_base.specs.declared.call.Call.TheVariants.{Kemr, Mekr}
use Rattle.pk_model.specs.Tags.{tag_at}
use Rattle.entity_store.specs.NextTags.{left}
use Rattle.solid_model.specs.Shapes.{shape_of}
use Rattle.std.specs.Prelude.{drop, unwrap_or}
use Rattle.solid_calls.proofs.RowKinds.{kemr-makes, mekr-makes}
use Rattle.euler_laws.specs.Operands.{bridge, cut_end, kept_end}
use Rattle.euler_laws.specs.Both.{cost_on, map_after}
use Rattle.solid_model.specs.SameButNames.{SameButNames}
use Rattle.euler_laws.proofs.Carrying.{cost-changed, cost-made, first-may, length-made, made-tag, reached-both, second-may, taken-both}
use Rattle.euler_laws.proofs.KemrMekr.{kemr-mekr}
use Rattle.euler_laws.proofs.anew.kemr_mekr.Goals as goal

pub carry_out-requires : goal.carry_out-requires
carry_out-requires g c =
    let s = c.args.store.now.state in
    let tags = c.args.tags.now in
    let call = Kemr c.args.fin in
    let cost : cost_on s.map call ≡ 1 = cost-made 1 s.map call (kemr-makes (shape_of s.map) c.args.fin) c.requires.may.goes in
    first-may s call 4 1 tags c.requires cost (omega arith)

pub returns-in_err-made-clause-law : goal.returns-in_err-made-clause-law
returns-in_err-made-clause-law g c = kemr-mekr

pub nth-cut-requires : goal.nth-cut-requires
nth-cut-requires g c =
    let s = c.args.store.now.state in
    let tags = c.args.tags.now in
    let call = Kemr c.args.fin in
    let cost : cost_on s.map call ≡ 1 = cost-made 1 s.map call (kemr-makes (shape_of s.map) c.args.fin) c.requires.may.goes in
    let is : length c.in_ok-made.made ≡ 1 = length-made s.map call 4 1 (left tags) c.in_ok-made.made c.requires.may cost (omega arith) c.in_ok-made.ensures.made in
    omega (arith, is)

pub carry_out-requires-2 : goal.carry_out-requires-2
carry_out-requires-2 g c =
    let s = c.args.store.now.state in
    let tags = c.args.tags.now in
    let call = Kemr c.args.fin in
    let cost : cost_on s.map call ≡ 1 = cost-made 1 s.map call (kemr-makes (shape_of s.map) c.args.fin) c.requires.may.goes in
    let cut : c.nth-cut.result ≡ tag_at (left tags) 0 = made-tag (cost_on s.map call) 1 0 (left tags) c.in_ok-made.made c.nth-cut.result c.in_ok-made.ensures.made cost (omega arith) c.nth-cut.ensures in
    let middle = map_after s.map call (left tags) in
    second-may s call (Mekr (kept_end (shape_of s.map) c.args.fin) (cut_end (shape_of s.map) c.args.fin (tag_at (left tags) 0))) 4 1 3 tags c.requires cost (omega arith) (Mekr c.kept_end-keep.result c.or_ring-ring.result) (λ i. Mekr (c.kept_end-keep.ensures i) ((c.or_ring-ring.ensures ∙ (λ j. unwrap_or (c.first_between-between.ensures j) (cut j))) i)) c.carry_out.new.store.state c.carry_out.new.tags c.in_ok-made.ensures.state c.in_ok-made.ensures.tags
    c.in_ok-made.ensures.sound (kemr-mekr s.map c.args.fin (left tags) c.requires.may).goes (cost-made 3 middle (Mekr (kept_end (shape_of s.map) c.args.fin) (cut_end (shape_of s.map) c.args.fin (tag_at (left tags) 0))) (mekr-makes (shape_of middle) (kept_end (shape_of s.map) c.args.fin) (cut_end (shape_of s.map) c.args.fin (tag_at (left tags) 0))) (kemr-mekr s.map c.args.fin (left tags) c.requires.may).goes)

pub returns-in_err-carry_out-clause-law : goal.returns-in_err-carry_out-clause-law
returns-in_err-carry_out-clause-law g c = kemr-mekr

pub returns-clause-law : goal.returns-clause-law
returns-clause-law g c = kemr-mekr

pub returns-clause-map : goal.returns-clause-map
returns-clause-map g c =
    let s = c.args.store.now.state in
    let tags = c.args.tags.now in
    let call = Kemr c.args.fin in
    let cost : cost_on s.map call ≡ 1 = cost-made 1 s.map call (kemr-makes (shape_of s.map) c.args.fin) c.requires.may.goes in
    let cut : c.nth-cut.result ≡ tag_at (left tags) 0 = made-tag (cost_on s.map call) 1 0 (left tags) c.in_ok-made.made c.nth-cut.result c.in_ok-made.ensures.made cost (omega arith) c.nth-cut.ensures in
    subst (λ n. SameButNames (bridge (shape_of s.map) c.args.fin) (drop 1 (take 4 (left tags))) (shape_of s.map) (shape_of n)) (sym (reached-both s call (Mekr (kept_end (shape_of s.map) c.args.fin) (cut_end (shape_of s.map) c.args.fin (tag_at (left tags) 0))) 4 1 3 tags c.requires cost (omega arith) (Mekr c.kept_end-keep.result c.or_ring-ring.result) (λ i. Mekr (c.kept_end-keep.ensures i) ((c.or_ring-ring.ensures ∙ (λ j. unwrap_or (c.first_between-between.ensures j) (cut j))) i)) c.carry_out.new.store.state c.carry_out.new.tags c.in_ok-made.ensures.state c.in_ok-made.ensures.tags
    c.carry_out-2.new.store.state c.in_ok-carry_out.ensures.state)) (kemr-mekr s.map c.args.fin (left tags) c.requires.may).same

pub returns-clause-carried : goal.returns-clause-carried
returns-clause-carried g c =
    let s = c.args.store.now.state in
    let tags = c.args.tags.now in
    let call = Kemr c.args.fin in
    let cost : cost_on s.map call ≡ 1 = cost-made 1 s.map call (kemr-makes (shape_of s.map) c.args.fin) c.requires.may.goes in
    let cut : c.nth-cut.result ≡ tag_at (left tags) 0 = made-tag (cost_on s.map call) 1 0 (left tags) c.in_ok-made.made c.nth-cut.result c.in_ok-made.ensures.made cost (omega arith) c.nth-cut.ensures in
    reached-both s call (Mekr (kept_end (shape_of s.map) c.args.fin) (cut_end (shape_of s.map) c.args.fin (tag_at (left tags) 0))) 4 1 3 tags c.requires cost (omega arith) (Mekr c.kept_end-keep.result c.or_ring-ring.result) (λ i. Mekr (c.kept_end-keep.ensures i) ((c.or_ring-ring.ensures ∙ (λ j. unwrap_or (c.first_between-between.ensures j) (cut j))) i)) c.carry_out.new.store.state c.carry_out.new.tags c.in_ok-made.ensures.state c.in_ok-made.ensures.tags
    c.carry_out-2.new.store.state c.in_ok-carry_out.ensures.state

pub returns-clause-taken : goal.returns-clause-taken
returns-clause-taken g c =
    let s = c.args.store.now.state in
    let tags = c.args.tags.now in
    let call = Kemr c.args.fin in
    let cost : cost_on s.map call ≡ 1 = cost-made 1 s.map call (kemr-makes (shape_of s.map) c.args.fin) c.requires.may.goes in
    let cut : c.nth-cut.result ≡ tag_at (left tags) 0 = made-tag (cost_on s.map call) 1 0 (left tags) c.in_ok-made.made c.nth-cut.result c.in_ok-made.ensures.made cost (omega arith) c.nth-cut.ensures in
    let middle = map_after s.map call (left tags) in
    taken-both s call (Mekr (kept_end (shape_of s.map) c.args.fin) (cut_end (shape_of s.map) c.args.fin (tag_at (left tags) 0))) 4 1 3 tags c.requires cost (omega arith) (Mekr c.kept_end-keep.result c.or_ring-ring.result) (λ i. Mekr (c.kept_end-keep.ensures i) ((c.or_ring-ring.ensures ∙ (λ j. unwrap_or (c.first_between-between.ensures j) (cut j))) i)) c.carry_out.new.store.state c.carry_out.new.tags c.in_ok-made.ensures.state c.in_ok-made.ensures.tags
    c.carry_out-2.new.tags c.in_ok-carry_out.ensures.tags (cost-made 3 middle (Mekr (kept_end (shape_of s.map) c.args.fin) (cut_end (shape_of s.map) c.args.fin (tag_at (left tags) 0))) (mekr-makes (shape_of middle) (kept_end (shape_of s.map) c.args.fin) (cut_end (shape_of s.map) c.args.fin (tag_at (left tags) 0))) (kemr-mekr s.map c.args.fin (left tags) c.requires.may).goes) (omega arith)
