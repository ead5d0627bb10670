use Rattle.std.proofs.Common.{ℕ, ◌+◌, ◌≤◌, eqb, ap, sym, subst, ◌∙◌, arith}
use mathlib.Core.Option.{none}
use prog.Atomic.{either}
use Rattle.atomic_table.specs.Table.{step, Allows}
use Rattle.session_table.specs.Rule.{Rule}
use Rattle.session_table.specs.Tells.{claims}
use Rattle.session_table.specs.Calls.{HasWon}
use Rattle.session_table.proofs.Claiming.{claims_allowed}
use Rattle.session_table.proofs.Telling.{Holds, face_of, won}
use Rattle.session_table.proofs.table.SessionTable.claim.Goals as goal

pub compare_exchange-found-requires : goal.compare_exchange-found-requires
compare_exchange-found-requires g c =
    let seat = c.args.seat.now in let shared = c.args.self.now.table.shared in let v = seat.place.me.0 in let p : ℕ = c.args.p in
    let words = c.args.self.now.words in let partitions = c.args.self.now.partitions in let one = c.requires.partition.0 in let most = c.requires.partition.1 in (
      c.requires.seat.session,
      omega arith,
      subst (λ (m : ℕ). Allows (Rule g.X.Naming.named shared.key) shared.table_id.slots seat.place.id seat.place.me p (λ n. either (eqb n 0) m n) (claims g.X.Naming.named (step shared.table_id.slots p 0 m none) seat.place.me))
          (ap (λ (n : ℕ). n + 1) (seat.numbered ∙ sym c.from-mine.ensures))
          (claims_allowed g.X.Naming.named shared.key shared.table_id.slots seat.place.id v seat.place.me.1 p none seat.live one (omega arith) c.requires.free),
    )

pub returns-then-found-eq0-clause-seat : goal.returns-then-found-eq0-clause-seat
returns-then-found-eq0-clause-seat g c =
    let told = c.compare_exchange-found.ensures.2.0 c.if-found-eq0.true in let after = c.compare_exchange-found.new.seat.me in
    let both = won g.X.Naming.named c.args.seat.now.place.me after c.args.p (c.requires.partition.0, subst (λ b. c.args.p ≤ b.partitions) (sym c.requires.seat.bounds) c.requires.partition.1) told c.requires.free c.requires.seat.carries in record {
      session = c.turn.ensures.0 ∙ c.compare_exchange-found.ensures.0 ∙ c.requires.seat.session;
      bounds = ap (λ m. m.0.bounds) c.turn.ensures.2 ∙ ap (λ v. v.bounds) told.view ∙ c.requires.seat.bounds;
      carries = subst (Holds g.X.Naming.named) (sym c.turn.ensures.2) both.0;
    }

pub returns-then-found-eq0-clause-step : goal.returns-then-found-eq0-clause-step
returns-then-found-eq0-clause-step g c =
    let told = c.compare_exchange-found.ensures.2.0 c.if-found-eq0.true in let after = c.compare_exchange-found.new.seat.me in
    let both = won g.X.Naming.named c.args.seat.now.place.me after c.args.p (c.requires.partition.0, subst (λ b. c.args.p ≤ b.partitions) (sym c.requires.seat.bounds) c.requires.partition.1) told c.requires.free c.requires.seat.carries in
    subst (λ m. HasWon (face_of g.X.Naming.named c.args.seat.now.place.me) c.args.p (face_of g.X.Naming.named m)) (sym c.turn.ensures.2) both.1
