use Rattle.std.proofs.Common.{◌≡◌, Some, ◌∙◌, sym, ap, subst, arith, length}
use Rattle.owner_links.specs.Slots.{EndsFrom, linked_from}
use Rattle.owner_links.proofs.Walks.{step_from}
use Rattle.owner_links.proofs.children.ChildrenIterator.next.Goals as goal

pub invariant_of-self : goal.invariant_of-self
invariant_of-self c =
    let slots = c.self.inside.slots.now in
    let at : c.self.inside.at ≡ Some c.in_ok-child.child = cc in
    (step_from slots c.in_ok-child.child (subst (EndsFrom slots) at c.self.invariant)).ends

pub returns-clause-steps : goal.returns-clause-steps
returns-clause-steps c =
    let slots = c.self.inside.slots.now in
    let child = c.in_ok-child.child in
    let at : c.self.inside.at ≡ Some child = cc in
    let step = step_from slots child (subst (EndsFrom slots) at c.self.invariant) in
    sym c.self.view_is ∙ ap (linked_from slots) at ∙ step.value

pub returns-clause-goes : goal.returns-clause-goes
returns-clause-goes c =
    let slots = c.self.inside.slots.now in
    let child = c.in_ok-child.child in
    let at : c.self.inside.at ≡ Some child = cc in
    let step = step_from slots child (subst (EndsFrom slots) at c.self.invariant) in
    let fewer = ap length (sym c.self.view_is ∙ ap (linked_from slots) at ∙ step.value) in
    record { on = λ _. (tt, tt, omega (arith, fewer)); keeps = tt; rests = λ _. tt }
