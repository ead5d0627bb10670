use Rattle.std.proofs.Common.{◌≡◌, ◌+◌, ◌<◌, ◌++◌, Option, None, List, ℕ, sym, subst}
use Rattle.std.specs.Prelude.{replicate}
use Rattle.pmark_tree.specs.Rows.{AreKept}
use Rattle.pmark_tree.proofs.Kept.{kept-more, more_slots}
use Rattle.pmark_tree.proofs.tree.MarkTree.reserve.Goals as goal

pub invariant_of-self-then-self-len : goal.invariant_of-self-then-self-len
invariant_of-self-then-self-len c =
    let s = c.self.inside in
    let owners : List (Option ℕ) = s.links.owners ++ replicate 64 None in
    let more : AreKept s.rows.items s.live.items owners (s.slots + 64) = kept-more s.rows.items s.live.items s.links.owners s.slots c.self.invariant in
    let slots : s.slots + 64 ≡ c.in_ok-slots.slots = more_slots c.checked_add.result (s.slots + 64 < 18446744073709551616) (s.slots + 64) c.in_ok-slots.slots c.checked_add.ensures c.in_ok-slots.ensures.ok_part in
    subst (λ n. AreKept c.reserve.new.self.items c.reserve-2.new.self.items c.add_slots.new.links.owners n) slots
    (subst (λ os. AreKept c.reserve.new.self.items c.reserve-2.new.self.items os (s.slots + 64)) (sym c.in_ok-add_slots.ensures.ok)
    (subst (λ l. AreKept c.reserve.new.self.items l owners (s.slots + 64)) (sym c.in_ok-reserve-2.ensures.items)
    (subst (λ r. AreKept r s.live.items owners (s.slots + 64)) (sym c.in_ok-reserve.ensures.items) more)))
