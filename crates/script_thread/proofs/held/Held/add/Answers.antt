use Rattle.std.proofs.Common.{◌+◌, ◌<◌, ◌++◌, ◌∷◌, [], List, ℕ, length, sym, ap, subst, ◌∙◌, arith}
use Rattle.pk_model.specs.Tags.{Ascends}
use Rattle.script_text.specs.Walk.{greatest}
use Rattle.script_thread.proofs.HeldLists.{Ascends-with, all_with, few_ascend, with_greatest}
use Rattle.script_thread.proofs.held.Held.add.Goals as goal

pub push-requires : goal.push-requires
push-requires c =
    let held = c.self.inside.parts.items in
    let above : greatest held < c.args.p = subst (λ ps. greatest ps < c.args.p) (sym c.self.view_is) c.requires.above in
    let some : 0 < c.args.p = omega (arith, c.requires.above) in
    let few : length held + 0 < c.args.p = few_ascend 0 0 c.args.p held c.self.invariant above some in
    (omega arith, omega (arith, few, c.requires.few))

pub invariant_of-self : goal.invariant_of-self
invariant_of-self c =
    let held = c.self.inside.parts.items in
    let above : greatest held < c.args.p = subst (λ ps. greatest ps < c.args.p) (sym c.self.view_is) c.requires.above in
    let up = c.self.invariant in
    subst (λ ps. Ascends (0 ∷ ps)) (sym (c.push.ensures.items ∙ with_greatest c.args.p held above))
    (all_with (λ q. 0 < q) c.args.p held up.0 (omega (arith, above)), Ascends-with c.args.p held up.1)

pub returns : goal.returns
returns c =
    c.push.ensures.items
    ∙ ap (λ (ps : List ℕ). ps ++ c.args.p ∷ []) c.self.view_is
    ∙ with_greatest c.args.p c.args.self.now c.requires.above
