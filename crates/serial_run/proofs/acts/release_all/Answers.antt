use Rattle.std.proofs.Common.{◌≡◌, ◌+◌, drop, get_or, ◌∷◌, sym, ap, subst, ◌∙◌, arith}
use Rattle.std.proofs.Math.Seq.{drop-cons}
use Rattle.std.proofs.Math.Numerals.{suc-eq-add-one}
use Rattle.std.specs.List.{AllByRecursion}
use Rattle.pk_model.specs.Tags.{Ascends}
use Rattle.serial_run.specs.Serial.{released}
use Rattle.serial_run.specs.Reached.{IsHeldBy}
use Rattle.serial_run.proofs.Events.{held_above}
use Rattle.serial_run.proofs.acts.release_all.Goals as goal

pub loop-p-preserved : goal.loop-p-preserved
loop-p-preserved g c =
    let K = g.K.Meaning.modelling in
    let t = c.args.t in
    let ps = c.args.parts.now in
    let i = c.loop-p.p-index in
    let old = c.loop-p.world in
    let new = c.release.new.world in
    let here : drop i ps ≡ get_or ps i 0 ∷ drop (i + 1) ps = drop-cons ps i 0 c.loop-p-test.true ∙ ap (λ k. get_or ps i 0 ∷ drop k ps) (suc-eq-add-one i) in
    let held = subst (AllByRecursion (IsHeldBy old t)) here c.loop-p.invariant.1.0 in
    let up = subst Ascends here c.loop-p.invariant.1.1.0 in
    let large = c.release.ensures.large in (
      (c.loop-p.invariant.0.0, omega (arith, large.threads, c.loop-p.invariant.0.1)),
      (
        held_above old new t (get_or ps i 0) (drop (i + 1) ps) large c.release.ensures.others up.0 held.1,
        (
          up.1,
          ap (released K t (drop (i + 1) ps)) c.release.ensures.released ∙ sym (ap (λ qs. released K t qs old) here) ∙ c.loop-p.invariant.1.1.1,
        ),
      ),
    )
