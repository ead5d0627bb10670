use Rattle.std.proofs.Common.{ℕ, ◌+◌, ◌%◌, ◌^◌, ◌∷◌, ap, sym, subst, ◌∙◌, arith}
use mathlib.Core.Option.{none}
use Rattle.std.specs.Prelude.{None}
use Rattle.atomic_table.specs.Table.{rest, step, Allows}
use Rattle.session_table.specs.Seats.{note_of}
use Rattle.session_table.specs.Rule.{Rule}
use Rattle.session_table.specs.Tells.{draws}
use Rattle.session_table.proofs.Drawing.{draws_allowed}
use Rattle.session_table.proofs.Telling.{noted_held, empty_front, has_drawn, has_passed}
use Rattle.session_table.proofs.table.SessionTable.draw.Goals as goal

pub fetch_add-found-requires : goal.fetch_add-found-requires
fetch_add-found-requires g c =
    let named = g.X.Naming.named in let shared = c.args.self.now.table.shared in let words = c.args.self.now.words in let p : ℕ = c.args.p in
    let old = c.args.seat.now.place.me in let seat = c.bring.new.self in let me = seat.place.me in let inf = c.bring.ensures.front in
    let empty = empty_front named old me p c.bring.ensures.turned inf c.requires.seat.carries c.requires.empty in
    let noted = noted_held named old p None c.requires.seat.carries c.requires.empty in
    let view = c.bring.ensures.turned.view in
    let here = c.requires.seat.carries.within p noted.0 noted.1 in
    let partitions = c.args.self.now.partitions in let bounds = ap (λ b. b.partitions) c.requires.seat.bounds in
    let one = here.0 in let most = here.1 in (
      c.bring.ensures.seat.0 ∙ c.requires.seat.session,
      omega arith,
      subst (λ m. Allows (Rule named shared.key) shared.table_id.slots seat.place.id m 0 (λ n. (n + 1) % 2 ^ 64) (draws (step shared.table_id.slots 0 1 0 none) m))
          (λ i. (me.0, sym (inf.is ∙ (λ j. (p, empty j) ∷ rest me.1)) i))
          (draws_allowed named shared.key shared.table_id.slots seat.place.id me.0 (rest me.1) p noted.0 none seat.live (ap (λ v. v.pending) view ∙ c.requires.looked) one (omega arith)
          (ap (λ v. note_of v p) view ∙ noted.1)),
    )

pub returns-then-found-from-clause-seat : goal.returns-then-found-from-clause-seat
returns-then-found-from-clause-seat g c =
    let old = c.args.seat.now.place.me in let mid = c.bring.new.self.place.me in let new = c.fetch_add-found.new.seat.me in
    let told = c.fetch_add-found.ensures.2.0 (let last = c.args.self.now.last in let w = c.if-found-from.true in let e = c.from.ensures in let b = ap (λ v. v.bounds.last) c.bring.ensures.turned.view ∙ ap (λ b. b.last) c.requires.seat.bounds in omega arith) in
    let both = has_drawn g.X.Naming.named old mid new c.args.p c.fetch_add-found.result c.bring.ensures.turned c.bring.ensures.front c.requires.empty told c.requires.seat.carries in record {
      session = c.fetch_add-found.ensures.0 ∙ c.bring.ensures.seat.0 ∙ c.requires.seat.session;
      bounds = ap (λ v. v.bounds) told.view ∙ ap (λ v. v.bounds) c.bring.ensures.turned.view ∙ c.requires.seat.bounds;
      carries = both.0;
    }

pub returns-then-found-from-clause-step : goal.returns-then-found-from-clause-step
returns-then-found-from-clause-step g c =
    let old = c.args.seat.now.place.me in let mid = c.bring.new.self.place.me in let new = c.fetch_add-found.new.seat.me in
    let told = c.fetch_add-found.ensures.2.0 (let last = c.args.self.now.last in let w = c.if-found-from.true in let e = c.from.ensures in let b = ap (λ v. v.bounds.last) c.bring.ensures.turned.view ∙ ap (λ b. b.last) c.requires.seat.bounds in omega arith) in
    (has_drawn g.X.Naming.named old mid new c.args.p c.fetch_add-found.result c.bring.ensures.turned c.bring.ensures.front c.requires.empty told c.requires.seat.carries).1

pub returns-else-found-from-clause-seat : goal.returns-else-found-from-clause-seat
returns-else-found-from-clause-seat g c =
    let old = c.args.seat.now.place.me in let mid = c.bring.new.self.place.me in let new = c.fetch_add-found.new.seat.me in
    let told = c.fetch_add-found.ensures.2.1 (let last = c.args.self.now.last in let w = c.if-found-from.false in let e = c.from.ensures in let b = ap (λ v. v.bounds.last) c.bring.ensures.turned.view ∙ ap (λ b. b.last) c.requires.seat.bounds in omega arith) in
    let both = has_passed g.X.Naming.named old mid new c.fetch_add-found.result c.bring.ensures.turned told c.requires.seat.carries in record {
      session = c.fetch_add-found.ensures.0 ∙ c.bring.ensures.seat.0 ∙ c.requires.seat.session;
      bounds = ap (λ v. v.bounds) told.view ∙ ap (λ v. v.bounds) c.bring.ensures.turned.view ∙ c.requires.seat.bounds;
      carries = both.0;
    }

pub returns-else-found-from-clause-step : goal.returns-else-found-from-clause-step
returns-else-found-from-clause-step g c =
    let old = c.args.seat.now.place.me in let mid = c.bring.new.self.place.me in let new = c.fetch_add-found.new.seat.me in
    let told = c.fetch_add-found.ensures.2.1 (let last = c.args.self.now.last in let w = c.if-found-from.false in let e = c.from.ensures in let b = ap (λ v. v.bounds.last) c.bring.ensures.turned.view ∙ ap (λ b. b.last) c.requires.seat.bounds in omega arith) in
    (has_passed g.X.Naming.named old mid new c.fetch_add-found.result c.bring.ensures.turned told c.requires.seat.carries).1
