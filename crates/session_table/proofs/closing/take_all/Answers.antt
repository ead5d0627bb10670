use Rattle.std.proofs.Common.{◌≡◌, ℕ, ◌+◌, ◌++◌, ◌∷◌, [], false, Some, map, get_or, set, drop, ap, sym, subst, ◌∙◌, arith, get_or-set_other}
use Rattle.std.proofs.lemmas.List.{map-append}
use native.Mathlib.Decide.{ℕ_discrete}
use mathlib.Core.Option as maybe
use lib.ListN.{get_elem?}
use Rattle.std.specs.Mem.Slots.{slots_items, slots_filled}
use Rattle.session_table.proofs.Emptied.{not_empty, one_taken, set_false}
use Rattle.session_table.proofs.closing.take_all.Goals as goal

pub unreachable-requires : goal.unreachable-requires
unreachable-requires g c =
    let same = c.loop-i.invariant.items ∙ c.take.ensures.others.0 in
    not_empty (slots_items c.loop-i.closed.slots) c.requires.values.0 c.loop-i.i (ap (drop 1) same ∙ c.requires.values.1)
    (c.take-in-loop-i.ensures.value ∙ ap (λ o. maybe.some o) c.in-None.is)

pub loop-i-preserved : goal.loop-i-preserved
loop-i-preserved g c =
    let inv = c.loop-i.invariant in let i : ℕ = c.loop-i.i in let took = c.take-in-loop-i.ensures in let x = c.in-Some.value in
    let old = slots_filled c.loop-i.closed.slots in record {
      items = took.others.0 ∙ inv.items;
      len = took.others.2 ∙ inv.len;
      filled = λ k low high. ap (λ fs. get_or fs k false) took.others.1 ∙ get_or-set_other old (i + 1) k false false (λ e. omega arith)
          ∙ inv.filled k (omega arith) (let h = took.others.2 in omega arith);
      empty = λ k below. ap (λ fs. get_or fs k false) took.others.1 ∙ (elim (ℕ_discrete k (i + 1)) as (λ _. get_or (set old (i + 1) false) k false ≡ false) [
        | yes e ↦ subst (λ (m : ℕ). get_or (set old (i + 1) false) m false ≡ false) (sym e) (set_false old (i + 1))
        | no ne ↦ get_or-set_other old (i + 1) k false false ne ∙ inv.empty k (omega arith)
      ]);
      all = ap (map Some) c.push_reserved.ensures.items ∙ map-append Some c.loop-i.all.items (x ∷ []) ∙ ap (λ l. l ++ Some x ∷ []) inv.all
          ∙ sym (one_taken (slots_items c.take.new.self.slots) i (Some x)
          (ap (λ l. get_elem? l (i + 1)) (sym inv.items) ∙ took.value ∙ ap (λ o. maybe.some o) c.in-Some.is));
      many = c.push_reserved.ensures.len ∙ ap (λ (n : ℕ). n + 1) inv.many;
      room = c.push_reserved.ensures.capacity ∙ inv.room;
    }
