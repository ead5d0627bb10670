use Rattle.std.proofs.Common.{◌+◌, List, sym, ap, subst, ◌∙◌}
use Rattle.std.specs.List.{range_with_len}
use Rattle.world_core.specs.Event.{supply}
use Rattle.world_core.specs.World.{WorldPartition}
use Rattle.world_core.specs.Session.{IsSession}
use Rattle.world_core.proofs.Sessions.{beginning_session}
use Rattle.world_core.proofs.Beginnings.{count_made}
use Rattle.world_core.proofs.world.World.begin.Goals as goal

pub invariant_of-result : goal.invariant_of-result
invariant_of-result g c =
    let K = g.K.Meaning.modelling in
    let made = c.in_ok-begin_all.ensures in
    record {
      numbers = made.numbers ∙ ap (range_with_len 1) (sym (count_made c.in_ok-begin_all.field-0.items c.args.n made.numbers));
      last = c.requires.last;
      session =
          subst (λ (qs : List WorldPartition). IsSession K (record { partitions = qs; blocks = supply (c.args.n + 1) c.args.last; threads = c.args.threads })) (sym made.opened)
          (beginning_session K c.args.n c.args.last c.args.threads c.requires.first);
    }
