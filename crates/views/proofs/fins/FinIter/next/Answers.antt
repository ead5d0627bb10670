use Rattle.std.proofs.Common.{◌∷◌, option_copied, Some, refl, sym, ap, subst, ◌∙◌}
use Rattle.std.specs.Prelude.{IsSome}
use Rattle.std.proofs.lemmas.Option.{same_Some}
use Rattle.pk_base.specs.declared.entity.Entity.{Entity}
use Rattle.solid_model.proofs.Reading.{mapped-was}
use Rattle.views.specs.Fins.{IsWalk, fins_left, unless_first}
use Rattle.views.proofs.Onward.{fin-there, given, here-live, walk-goes}
use Rattle.views.proofs.fins.FinIter.next.Goals as goal

pub unwrap-fin-requires : goal.unwrap-fin-requires
unwrap-fin-requires g c =
    let m = c.self.inside.store.now.state.map in
    let first = c.self.inside.first in
    let here = c.in_ok-here.here in
    let on = subst (IsWalk m first) c.in_ok-here.was c.self.invariant in
    mapped-was _ c.get.result (subst IsSome (sym (c.get.ensures.value ∙ (fin-there m here (here-live m first here on)).1)) refl)

pub unreachable-requires : goal.unreachable-requires
unreachable-requires g c =
    let m = c.self.inside.store.now.state.map in
    let first = c.self.inside.first in
    let here = c.in_ok-here.here in
    let on = subst (IsWalk m first) c.in_ok-here.was c.self.invariant in
    let x = fin-there m here (here-live m first here on) in
    c.in_default.not-Fin x.0.loop_ x.0.next x.0.prev x.0.mate x.0.edge x.0.vertex (same_Some _ _ (ap option_copied (sym c.unwrap-fin.ensures) ∙ c.get.ensures.value ∙ x.1))

pub invariant_of-self : goal.invariant_of-self
invariant_of-self g c =
    let m = c.self.inside.store.now.state.map in
    let first = c.self.inside.first in
    let here = c.in_ok-here.here in
    let on = subst (IsWalk m first) c.in_ok-here.was c.self.invariant in
    let live = sym c.get.ensures.value ∙ ap option_copied c.unwrap-fin.ensures ∙ ap Some c.in-Fin.is in
    subst (IsWalk m first) (sym c.unless_first-self-inside.ensures) (walk-goes m first here on c.in-Fin.loop_ c.in-Fin.next c.in-Fin.prev c.in-Fin.mate c.in-Fin.edge c.in-Fin.vertex live)

pub returns-clause-some : goal.returns-clause-some
returns-clause-some g c =
    let m = c.self.inside.store.now.state.map in
    let first = c.self.inside.first in
    let here = c.in_ok-here.here in
    let on = subst (IsWalk m first) c.in_ok-here.was c.self.invariant in
    let live = sym c.get.ensures.value ∙ ap option_copied c.unwrap-fin.ensures ∙ ap Some c.in-Fin.is in
    sym c.self.view_is ∙ ap (fins_left m first) c.in_ok-here.was
    ∙ given m first here on c.in-Fin.loop_ c.in-Fin.next c.in-Fin.prev c.in-Fin.mate c.in-Fin.edge c.in-Fin.vertex live
    ∙ ap (λ (e : Entity). (here, e) ∷ fins_left m first (unless_first first c.in-Fin.next)) (sym c.in-Fin.is)
    ∙ ap (λ o. (here, c.unwrap-fin.result.now) ∷ fins_left m first o) (sym c.unless_first-self-inside.ensures)
