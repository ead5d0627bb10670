use Rattle.std.proofs.Common.{◌≡◌, ◌∷◌, ap, sym, ◌∙◌}
use Rattle.std.specs.Prelude.{Some, None}
use Rattle.atomic_table.specs.Table.{rest}
use Rattle.std.proofs.lemmas.Option.{none-some}
use Rattle.session_table.proofs.Telling.{filled_front, noted_there, noted_held, may_be_empty, replaced, one_front}
use Rattle.session_table.proofs.table.SessionTable.take_out.Goals as goal

pub unreachable-requires : goal.unreachable-requires
unreachable-requires g c =
    let mid = c.bring.new.self.place.me in
    let has = filled_front g.X.Naming.named c.args.seat.now.place.me mid c.args.p c.bring.ensures.turned c.bring.ensures.front c.requires.seat.carries c.requires.filled in
    none-some has.value (sym c.in-None.is ∙ one_front mid.1 c.args.p _ _ c.exchange.ensures.2 has.is)

pub returns-clause-seat : goal.returns-clause-seat
returns-clause-seat g c =
    let old = c.args.seat.now.place.me in let mid = c.bring.new.self.place.me in let p = c.args.p in let x = c.in-Some.value in
    let was : mid.1 ≡ (p, Some x) ∷ rest mid.1 = c.exchange.ensures.2 ∙ (λ i. (p, c.in-Some.is i) ∷ rest mid.1) in
    let noted = noted_held g.X.Naming.named old p (Some c.requires.filled.0) c.requires.seat.carries c.requires.filled.1 in let fit = may_be_empty g.X.Naming.named old.0 p noted.0 noted.1 in
    let all = replaced g.X.Naming.named old mid c.exchange.new.seat.me p (Some x) None c.bring.ensures.turned was c.exchange.ensures.3 fit c.requires.seat.carries in record {
      session = c.exchange.ensures.0 ∙ c.bring.ensures.seat.0 ∙ c.requires.seat.session;
      bounds = ap (λ m. m.0.bounds) c.exchange.ensures.3 ∙ ap (λ v. v.bounds) c.bring.ensures.turned.view ∙ c.requires.seat.bounds;
      carries = all.0;
    }

pub returns-clause-step : goal.returns-clause-step
returns-clause-step g c =
    let old = c.args.seat.now.place.me in let mid = c.bring.new.self.place.me in let p = c.args.p in let x = c.in-Some.value in
    let was : mid.1 ≡ (p, Some x) ∷ rest mid.1 = c.exchange.ensures.2 ∙ (λ i. (p, c.in-Some.is i) ∷ rest mid.1) in
    let noted = noted_held g.X.Naming.named old p (Some c.requires.filled.0) c.requires.seat.carries c.requires.filled.1 in let fit = may_be_empty g.X.Naming.named old.0 p noted.0 noted.1 in
    let all = replaced g.X.Naming.named old mid c.exchange.new.seat.me p (Some x) None c.bring.ensures.turned was c.exchange.ensures.3 fit c.requires.seat.carries in
    record { was = all.1; noted = noted_there g.X.Naming.named old p (g.X.Naming.named x) c.requires.seat.carries all.1; seat = all.2 }
