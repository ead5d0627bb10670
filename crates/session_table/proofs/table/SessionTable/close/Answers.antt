use Rattle.std.proofs.Common.{ℕ, ◌+◌, ap, sym, ◌∙◌}
use Rattle.std.specs.Mem.Slots.{slots_items, slots_counts}
use Rattle.session_table.proofs.Closed.{leaves, filled}
use Rattle.session_table.proofs.table.SessionTable.close.Goals as goal

pub take_all-requires-clause-values : goal.take_all-requires-clause-values
take_all-requires-clause-values g c =
    let named = g.X.Naming.named in let slots = c.close_with.result.slots in let last = c.close_with.ensures.values.2 in
    let root = c.args.root in let me = root.place.me in let s = last.0 in
    let long = sym (slots_counts slots).0 ∙ c.close_with.ensures.counts.1 ∙ c.args.self.slots ∙ ap (λ (n : ℕ). n + 1) (sym c.args.self.partitions) in
    filled named c.args.self.table.shared.key s last.1.0 root.place.id me.0 last.1.1 root.live c.requires.root c.requires.idle c.requires.alone (slots_items slots) last.4 long

pub returns : goal.returns
returns g c =
    let named = g.X.Naming.named in let slots = c.close_with.result.slots in let last = c.close_with.ensures.values.2 in
    let root = c.args.root in let me = root.place.me in let s = last.0 in
    let long = sym (slots_counts slots).0 ∙ c.close_with.ensures.counts.1 ∙ c.args.self.slots ∙ ap (λ (n : ℕ). n + 1) (sym c.args.self.partitions) in
    leaves named c.args.self.table.shared.key s last.1.0 root.place.id me.0 last.1.1 root.live c.requires.root c.requires.idle c.requires.alone (slots_items slots) c.take_all.result.items last.4 long c.take_all.ensures
