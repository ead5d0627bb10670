use Rattle.std.proofs.Common.{◌≡◌, ℕ, ◌<◌, ◌==◌, ◌∷◌, Bool, not, filter, sym, ap, subst, ◌∙◌, rules, tests}
use Rattle.arrayvec.proofs.ArrayVecLemmas.{filter-from_retain}
use Rattle.pk_model.specs.Tags.{Ascends}
use Rattle.list_facts.proofs.Each.{ByRecursion-filter}
use Rattle.script_thread.proofs.HeldLists.{Ascends-filter}
use Rattle.script_thread.proofs.held.Held.remove.Goals as goal

pub invariant_of-self : goal.invariant_of-self
invariant_of-self c =
    let test : ℕ → Bool = λ q. not (q == c.args.p) in
    let left : c.retain.new.self.items ≡ filter test c.self.inside.parts.items = filter-from_retain _ test _ (λ x b f y h. search (rules, tests)) _ _ c.retain.ensures.filtered in
    let held = c.self.inside.parts.items in
    let up = c.self.invariant in
    subst (λ ps. Ascends (0 ∷ ps)) (sym left) (ByRecursion-filter (λ q. 0 < q) test held up.0, Ascends-filter test held up.1)

pub returns : goal.returns
returns c =
    let test : ℕ → Bool = λ q. not (q == c.args.p) in
    filter-from_retain _ test _ (λ x b f y h. search (rules, tests)) _ _ c.retain.ensures.filtered
    ∙ ap (filter test) c.self.view_is
