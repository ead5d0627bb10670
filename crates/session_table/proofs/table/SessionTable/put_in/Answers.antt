use Rattle.std.proofs.Common.{ap, sym, ◌∙◌}
use Rattle.std.specs.Prelude.{Some}
use Rattle.std.proofs.lemmas.Option.{none-some}
use Rattle.session_table.proofs.Telling.{empty_front, may_be_filled, replaced, one_front}
use Rattle.session_table.proofs.table.SessionTable.put_in.Goals as goal

pub unreachable-requires : goal.unreachable-requires
unreachable-requires g c =
    let mid = c.bring.new.self.place.me in let inf = c.bring.ensures.front in
    let none = empty_front g.X.Naming.named c.args.seat.now.place.me mid c.args.p c.bring.ensures.turned inf c.requires.seat.carries c.requires.empty in
    none-some c.in-Some.field-0 (sym none ∙ one_front mid.1 c.args.p _ _ inf.is c.exchange.ensures.2 ∙ c.in-Some.is)

pub returns-clause-seat : goal.returns-clause-seat
returns-clause-seat g c =
    let old = c.args.seat.now.place.me in let mid = c.bring.new.self.place.me in let p = c.args.p in let x = c.args.value in
    let fit = may_be_filled g.X.Naming.named old.0 p (g.X.Naming.named x) c.requires.value in
    let all = replaced g.X.Naming.named old mid c.exchange.new.seat.me p c.exchange.result (Some x) c.bring.ensures.turned c.exchange.ensures.2 c.exchange.ensures.3 fit c.requires.seat.carries in record {
      session = c.exchange.ensures.0 ∙ c.bring.ensures.seat.0 ∙ c.requires.seat.session;
      bounds = ap (λ m. m.0.bounds) c.exchange.ensures.3 ∙ ap (λ v. v.bounds) c.bring.ensures.turned.view ∙ c.requires.seat.bounds;
      carries = all.0;
    }

pub returns-clause-step : goal.returns-clause-step
returns-clause-step g c =
    let old = c.args.seat.now.place.me in let mid = c.bring.new.self.place.me in let p = c.args.p in let x = c.args.value in
    let fit = may_be_filled g.X.Naming.named old.0 p (g.X.Naming.named x) c.requires.value in
    let all = replaced g.X.Naming.named old mid c.exchange.new.seat.me p c.exchange.result (Some x) c.bring.ensures.turned c.exchange.ensures.2 c.exchange.ensures.3 fit c.requires.seat.carries in
    all.2
