-- The names of a thread.
use Rattle.std.specs.Prelude.{◌≡◌, ℕ, List, Some, Result, Ok, Err, ⊤}
use Rattle.pk_base.specs.declared.tag.Tag.{Tag}
use Rattle.pk_base.specs.declared.entity.Name.{Name}
use Rattle.pk_base.specs.declared.refusal.Fault.{Fault}
use Rattle.pk_base.specs.declared.refusal.Fault.TheVariants as fault
use Rattle.script_text.specs.Walk.{refusal_of_operands, tags_of_operands}
use Rattle.script_text.specs.declared.script.Operand.{Operand}

-- a name by its bytes, and its tags
abbrev pub named : List ℕ × List Tag → Name × List Tag
named b = (record { 0 = b.0 }, b.1)

-- the tags that the operands name, or the refusal of the first that names none
abbrev pub ResolvesTo : List (Name × List Tag) → List Operand → Result (List Tag) Fault → Type 0
ResolvesTo names operands (Ok tags) = tags_of_operands names 1 operands ≡ Ok tags
ResolvesTo names operands (Err (fault.Refused e)) =
    refusal_of_operands (tags_of_operands names 1 operands) ≡ Some e
ResolvesTo names operands (Err fault.NoMemory) = ⊤
