use Rattle.std.proofs.Common.{◌≡◌, ℕ, suc, ◌+◌, List, [], ◌∷◌, ◌++◌, map, ap, ap₂, sym, ◌∙◌, arith}
use Rattle.std.proofs.lemmas.List.{map-append}
use Rattle.session_table.specs.Named.{Named, opening, openings}
use Rattle.table_visits.proofs.Visiting.{openings-snoc}
use Rattle.table_visits.proofs.tests.whole.sheets.Invariants.{named_sheet}
use Rattle.table_visits.proofs.tests.whole.sheets.Goals as goal

pub loop-i-preserved : goal.loop-i-preserved
loop-i-preserved c =
    let i : ℕ = c.loop-i.i in let s = c.in_ok-new.field-0 in let inv = c.loop-i.invariant in record {
      sheets = ap (map named_sheet) c.push_reserved.ensures.items ∙ map-append named_sheet c.loop-i.all.items (s ∷ [])
          ∙ ap₂ (λ (l : List Named) (x : Named). l ++ x ∷ []) inv.sheets (c.in_ok-new.ensures ∙ ap opening (let e : i + 1 ≡ 1 + i = omega arith in e))
          ∙ sym (openings-snoc 1 i) ∙ ap (openings 1) (let e : suc i ≡ i + 1 = omega arith in e);
      many = c.push_reserved.ensures.len ∙ ap (λ (n : ℕ). n + 1) inv.many;
      room = c.push_reserved.ensures.capacity ∙ inv.room;
    }
