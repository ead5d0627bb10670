-- Threads whose operands are counted.
use Rattle.std.proofs.Common.{◌≡◌, ◌≤◌, nat_le, Bool, true, List, [], ◌∷◌, ◌++◌, refl}
use Rattle.std.proofs.lemmas.Bool.{and_parts, leb-true}
use Rattle.std.specs.List.{AllByRecursion, list_all}
use Rattle.script_text.specs.declared.script.ScriptLine.{ScriptLine}
use Rattle.script_text.specs.declared.script.Order.TheVariants.{End}
use Rattle.script_thread.specs.WellFormed.{IsThread, operand_count}

-- whether the line has at most three tag operands
abbrev pub has_few : ScriptLine → Bool
has_few l = nat_le (operand_count l.order) 3

-- where the count says so of each line, it is so
few : (lines : List ScriptLine) → list_all has_few lines ≡ true → AllByRecursion (λ (l : ScriptLine). operand_count l.order ≤ 3) lines
few [] h = tt
few (l ∷ lines) h = let parts = and_parts (has_few l) (list_all has_few lines) h in (leb-true (operand_count l.order) 3 parts.0, few lines parts.1)

-- lines that end with `end`, and of which a count says that none has more than three tag operands
pub is_thread : (front : List ScriptLine) (last : ScriptLine) → last.order ≡ End → list_all has_few (front ++ last ∷ []) ≡ true → IsThread (front ++ last ∷ [])
is_thread front last ends counted = record { front = front; last = last; whole = refl; ends = ends; few = few (front ++ last ∷ []) counted }
