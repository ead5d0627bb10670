use Rattle.std.proofs.Common.{◌≡◌, ◌+◌, ◌-◌, ◌<◌, length, ap, ◌∙◌, arith}
use Rattle.std.proofs.lemmas.List.{length-map}
use Rattle.world_core.specs.World.{WorldState}
use Rattle.world_core.specs.Inside.{seen_as}
use Rattle.world_core.proofs.Stepping.{number_at}
use Rattle.world_core.proofs.world.World.partition.Goals as goal

pub returns-clause-number : goal.returns-clause-number
returns-clause-number g c =
    let views = c.self.inside.partitions.items in
    let count = ap (λ (w : WorldState). length w.partitions) c.self.view_is in
    let within : c.args.p - 1 < length views = omega (arith, count, length-map views seen_as, c.requires.last, c.requires.first) in
    let place : 1 + (c.args.p - 1) ≡ c.args.p = omega (arith, c.requires.first) in
    ap (λ v. v.number) c.index.ensures ∙ number_at views (c.args.p - 1) c.index.result.now within c.self.invariant.numbers ∙ place
