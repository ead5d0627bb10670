use Rattle.std.proofs.Common.{sym, subst}
use Rattle.pk_session.specs.Holding.{IsHeldBy}
use Rattle.pk_session.proofs.Acting.{acted}
use Rattle.pk_session.proofs.held.Held.act.Goals as goal

pub returns-clause-holds : goal.returns-clause-holds
returns-clause-holds g c s held =
    let f = c.self.inside in
    acted g.K.Meaning.modelling (record { session = f.session; partition = f.partition }) c.act.new.self s c.args.act c.act.result c.act.ensures.answers
    (subst (IsHeldBy s) (sym c.self.view_is) held)
