use Rattle.std.proofs.Common.{ℕ, ap, sym, subst, ◌∙◌, arith}
use mathlib.Core.Option.{none}
use Rattle.atomic_table.specs.Table.{rest, step, Allows}
use Rattle.session_table.specs.Rule.{Rule}
use Rattle.session_table.specs.Slots.{numbers}
use Rattle.session_table.specs.Tells.{frees}
use Rattle.session_table.proofs.Releasing.{frees_allowed}
use Rattle.session_table.proofs.Rows.{matched}
use Rattle.session_table.proofs.Turning.{rest_numbers}
use Rattle.session_table.proofs.Telling.{filled_front, freed}
use Rattle.session_table.proofs.table.SessionTable.release.Goals as goal

pub store-requires : goal.store-requires
store-requires g c =
    let shared = c.args.self.now.table.shared in let seat = c.bring.new.self.place in let p : ℕ = c.args.p in
    let has = filled_front g.X.Naming.named c.args.seat.now.place.me seat.me p c.bring.ensures.turned c.bring.ensures.front c.requires.seat.carries c.requires.filled in
    let words = c.args.self.now.words in let partitions = c.args.self.now.partitions in
    let bounds = ap (λ v. v.bounds.partitions) c.bring.ensures.turned.view ∙ ap (λ b. b.partitions) c.requires.seat.bounds in
    let one = has.within.0 in let most = has.within.1 in (
      c.bring.ensures.seat.0 ∙ c.requires.seat.session,
      omega arith,
      subst (λ m. Allows (Rule g.X.Naming.named shared.key) shared.table_id.slots seat.id m p (λ _. 0) (λ _. frees g.X.Naming.named (step shared.table_id.slots p 0 0 none) m 0))
          (λ i. (seat.me.0, sym has.is i))
          (frees_allowed g.X.Naming.named shared.key shared.table_id.slots seat.id seat.me.0 (rest seat.me.1) p has.value has.noted.0 none c.bring.new.self.live one (omega arith) has.noted.1 has.noted.2),
    )

pub invariant_of-seat : goal.invariant_of-seat
invariant_of-seat g c =
    let old = c.args.seat.now.place.me in let mid = c.bring.new.self in let told = c.store.ensures.2 in let new = c.store.new.seat.me in
    let both = freed g.X.Naming.named old mid.place.me new c.args.p c.bring.ensures.turned told c.requires.seat.carries in
    let listed = rest_numbers mid.place.me.1 mid.held.items mid.listed in
    let left = ap numbers told.slots ∙ listed ∙ sym c.remove.ensures.items in record {
      live = ap (λ v. v.spent) told.view ∙ mid.live;
      numbered = ap (λ v. v.number) told.view ∙ mid.numbered;
      counted = ap (λ v. v.made) told.view ∙ mid.counted;
      listed = left;
      matched = matched g.X.Naming.named new.0 new.1 c.remove.new.self.items both.0 left;
    }

pub returns-clause-seat : goal.returns-clause-seat
returns-clause-seat g c =
    let told = c.store.ensures.2 in
    let both = freed g.X.Naming.named c.args.seat.now.place.me c.bring.new.self.place.me c.store.new.seat.me c.args.p c.bring.ensures.turned told c.requires.seat.carries in record {
      session = c.store.ensures.0 ∙ c.bring.ensures.seat.0 ∙ c.requires.seat.session;
      bounds = ap (λ v. v.bounds) told.view ∙ ap (λ v. v.bounds) c.bring.ensures.turned.view ∙ c.requires.seat.bounds;
      carries = both.0;
    }

pub returns-clause-step : goal.returns-clause-step
returns-clause-step g c =
    (freed g.X.Naming.named c.args.seat.now.place.me c.bring.new.self.place.me c.store.new.seat.me c.args.p c.bring.ensures.turned c.store.ensures.2 c.requires.seat.carries).1
