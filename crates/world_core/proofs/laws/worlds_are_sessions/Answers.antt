use Rattle.std.proofs.Common.{◌≡◌, ◌+◌, ◌-◌, ◌<◌, ◌++◌, length, ap, ◌∙◌, arith}
use Rattle.std.proofs.lemmas.List.FromFn.{get_or-map-range_with_len}
use Rattle.world_core.specs.World.{WorldPartition, beginning, opened}
use Rattle.world_core.specs.Session.{journals_of}
use Rattle.world_core.specs.Runs.{entries_on, world_after}
use Rattle.world_core.proofs.Sessions.{beginning_session, counted, each_replays}
use Rattle.world_core.proofs.Running.{all_kept, journals_grow}
use Rattle.world_core.proofs.laws.worlds_are_sessions.Goals as goal

pub returns-clause-session : goal.returns-clause-session
returns-clause-session g c n last threads events fits may =
    let K = g.K.Meaning.modelling in
    all_kept K c.requires (beginning n last threads) events (beginning_session K n last threads fits) may

pub returns-clause-journals : goal.returns-clause-journals
returns-clause-journals g c n last threads events p fits may first within =
    let K = g.K.Meaning.modelling in
    let w = beginning n last threads in
    let place : p - 1 < n = omega arith in
    let number : 1 + (p - 1) ≡ p = omega arith in
    let empty = get_or-map-range_with_len opened 1 n (p - 1) p (opened p) place number in
    journals_grow K c.requires w events p (beginning_session K n last threads fits) may first
    ∙ ap (λ (q : WorldPartition). q.journal ++ entries_on K w p events) empty

pub returns-clause-apart : goal.returns-clause-apart
returns-clause-apart g c n last threads events fits may =
    let K = g.K.Meaning.modelling in
    let w = world_after K (beginning n last threads) events in
    let session = all_kept K c.requires (beginning n last threads) events (beginning_session K n last threads fits) may in
    c.journals_are_apart.ensures.counted (w.blocks.next - (length w.partitions + 1)) (journals_of w) (each_replays K 1 w.partitions session.replays) (counted K w session)
