use Rattle.std.proofs.Common.{rules, ◌≡◌}
use Rattle.std.proofs.lemmas.Bool.Decides.{Decides-at}
use Rattle.pk_base.specs.Entity.{same_entity}
use Rattle.pk_base.proofs.Same.{same_entity-Decides}
use Rattle.pk_base.proofs.entity.Entity.is_same.Goals as goal

pub returns-clause-same : goal.returns-clause-same
returns-clause-same c =
    let value : c.eq.result ≡ same_entity c.args.self.now c.args.other.now = search rules in
    Decides-at _ _ value (same_entity-Decides _ _)
