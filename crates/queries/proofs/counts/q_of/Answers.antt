use Rattle.std.proofs.Common.{◌≡◌, option_copied, Some, of_z, refl, rules, sym, to_z, w32, ap, subst, ◌∙◌}
use Rattle.std.specs.Prelude.{IsSome}
use Rattle.std.proofs.lemmas.Option.{same_Some}
use Rattle.solid_model.proofs.Reading.{mapped-was}
use Rattle.queries.proofs.BodyCounts.{shell-q, shell-read}
use Rattle.queries.proofs.counts.q_of.Goals as goal

pub unwrap-entity-requires : goal.unwrap-entity-requires
unwrap-entity-requires g c =
    let m = c.args.store.now.state.map in
    mapped-was _ c.get.result (subst IsSome (sym (c.get.ensures.value ∙ (shell-read m c.requires.sound c.requires.shell.0 c.args.shell c.requires.shell.1).1)) refl)

pub unreachable-requires : goal.unreachable-requires
unreachable-requires g c =
    let m = c.args.store.now.state.map in
    let x = shell-read m c.requires.sound c.requires.shell.0 c.args.shell c.requires.shell.1 in
    let is = ap option_copied (sym c.unwrap-entity.ensures) ∙ c.get.ensures.value ∙ x.1 in
    c.in_default.not-Shell c.requires.shell.0 x.0 (same_Some _ _ is)

pub returns : goal.returns
returns g c =
    let m = c.args.store.now.state.map in
    let h = sym c.get.ensures.value ∙ ap option_copied c.unwrap-entity.ensures ∙ ap Some c.in-Shell.is in
    let same : to_z w32 (of_z w32 c.in-Shell.q) ≡ c.in-Shell.q = search rules in
    same ∙ shell-q m c.requires.sound c.requires.shell.0 c.args.shell c.requires.shell.1 c.in-Shell.body c.in-Shell.q h
