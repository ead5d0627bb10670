use Rattle.std.proofs.Common.{◌≡◌, ◌*◌, ◌+◌, ◌≤◌, length, take, refl, sym, ap, subst, ◌∙◌, arith}
use Rattle.std.specs.Prelude.{slice_index_or}
use Rattle.std.proofs.lemmas.List.{length-append, length-take-le}
use Rattle.std.proofs.lemmas.List.FromFn.{length-map-range_with_len}
use Rattle.pk_base.specs.Blocks.{tag}
use Rattle.entity_store.specs.NextTags.{left}
use Rattle.solid_calls.specs.Pairs.{HasTags, Takes}
use Rattle.euler_make.specs.Cutting.{backs_listed}
use Rattle.euler_make.proofs.CutsDone.{CutsDone, cuts-start, cuts-end, cuts-step}
use Rattle.euler_make.proofs.raise.cut_sides.Goals as goal

pub loop-i-init : goal.loop-i-init
loop-i-init g c =
    let long = length-map-range_with_len (λ j. slice_index_or c.args.out.now.items (c.args.listed + 4 * j + 3) (tag 0)) 0 c.args.fins in
    (λ may. cuts-start c.args.rec.now.store.now _ c.args.tags.now c.args.out.now may (subst (λ n. HasTags c.args.rec.now.store.now (5 * n) c.args.tags.now c.args.out.now) (sym long) c.requires.tags), refl)

pub ends_of_cut-requires-clause-two : goal.ends_of_cut-requires-clause-two
ends_of_cut-requires-clause-two g c =
    let long = length-map-range_with_len (λ j. slice_index_or c.args.out.now.items (c.args.listed + 4 * j + 3) (tag 0)) 0 c.args.fins in
    let two = c.requires.may.two in
    omega (arith, two, long)

pub ends_of_cut-requires-clause-listed : goal.ends_of_cut-requires-clause-listed
ends_of_cut-requires-clause-listed g c =
    let i = c.loop-i.i in
    let tags = left c.args.tags.now in
    let taken = (c.loop-i.invariant.0 c.requires.may).folded.takes in
    let less = c.loop-i-test.true in
    let enough = c.requires.tags.enough in
    let all = ap length taken.lists ∙ length-append c.args.out.now.items (take (5 * i) tags) in
    let more = length-take-le (5 * i) tags (omega (arith, less, enough)) in
    let was = c.requires.listed in
    omega (arith, all, more, was)

pub mef_do-requires-clause-may : goal.mef_do-requires-clause-may
mef_do-requires-clause-may g c =
    (cuts-step c.args.rec.now.store.now c.loop-i.rec.store.now c.args.tags.now c.loop-i.tags c.args.out.now c.loop-i.out c.args.listed c.args.fins c.loop-i.i c.requires.may c.requires.tags c.requires.listed
    (c.loop-i.invariant.0 c.requires.may) c.loop-i-test.true c.ends_of_cut.result.0 c.ends_of_cut.result.1 c.ends_of_cut.ensures.from c.ends_of_cut.ensures.to).may_do

pub mef_do-requires-clause-tags : goal.mef_do-requires-clause-tags
mef_do-requires-clause-tags g c =
    (cuts-step c.args.rec.now.store.now c.loop-i.rec.store.now c.args.tags.now c.loop-i.tags c.args.out.now c.loop-i.out c.args.listed c.args.fins c.loop-i.i c.requires.may c.requires.tags c.requires.listed
    (c.loop-i.invariant.0 c.requires.may) c.loop-i-test.true c.ends_of_cut.result.0 c.ends_of_cut.result.1 c.ends_of_cut.ensures.from c.ends_of_cut.ensures.to).has

pub loop-i-preserved : goal.loop-i-preserved
loop-i-preserved g c = (
  λ may. (cuts-step c.args.rec.now.store.now c.loop-i.rec.store.now c.args.tags.now c.loop-i.tags c.args.out.now c.loop-i.out c.args.listed c.args.fins c.loop-i.i may c.requires.tags c.requires.listed
      (c.loop-i.invariant.0 may) c.loop-i-test.true c.ends_of_cut.result.0 c.ends_of_cut.result.1 c.ends_of_cut.ensures.from c.ends_of_cut.ensures.to).next
      c.mef_do.new.rec.store.now c.mef_do.new.tags c.mef_do.new.out c.mef_do.ensures.done c.mef_do.ensures.takes,
  c.mef_do.ensures.same_store ∙ c.loop-i.invariant.1,
)

pub returns-clause-done : goal.returns-clause-done
returns-clause-done g c =
    let long = length-map-range_with_len (λ j. slice_index_or c.args.out.now.items (c.args.listed + 4 * j + 3) (tag 0)) 0 c.args.fins in
    let fins = backs_listed c.args.out.now.items c.args.listed c.args.fins in
    let old = c.args.rec.now.store.now in
    let last : c.loop-i.i ≡ c.args.fins = (let end = c.loop-i.auto.i-end in let past = c.loop-i-test.false in omega (arith, end, past)) in
    cuts-end old fins c.args.tags.now c.args.out.now c.requires.may (subst (λ n. HasTags old (5 * n) c.args.tags.now c.args.out.now) (sym long) c.requires.tags)
    c.loop-i.rec.store.now c.loop-i.tags c.loop-i.out
    (subst (λ n. CutsDone old fins c.args.tags.now c.args.out.now c.requires.may.loop_ n c.loop-i.rec.store.now c.loop-i.tags c.loop-i.out) (last ∙ sym long) (c.loop-i.invariant.0 c.requires.may))

pub returns-clause-takes : goal.returns-clause-takes
returns-clause-takes g c =
    let last : c.loop-i.i ≡ c.args.fins = (let end = c.loop-i.auto.i-end in let past = c.loop-i-test.false in omega (arith, end, past)) in
    subst (λ n. Takes (5 * n) c.args.tags.now c.args.out.now c.loop-i.tags c.loop-i.out) last (c.loop-i.invariant.0 c.requires.may).folded.takes
