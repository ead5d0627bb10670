-- A thread in a session of two partitions, and orders that it is given.
use Rattle.std.specs.Prelude.{ℕ, List, [], ◌∷◌, ◌++◌, None, codes, replicate}
use Rattle.pk_base.specs.declared.entity.Name.{Name}
use Rattle.pk_base.specs.declared.act.Act.TheVariants.{Goto}
use Rattle.pk_base.specs.Blocks.{tag}
use Rattle.pk_base.specs.declared.tag.Tag.{Tag}
use Rattle.script_text.specs.Walk.{Walker}
use Rattle.script_text.specs.declared.script.Order.{Order}
use Rattle.script_text.specs.declared.script.Order.TheVariants.{On}
use Rattle.script_text.specs.declared.script.Operand.{Operand}

-- the name b
abbrev pub name_b : Name
name_b = record { 0 = codes "b" ++ replicate 15 0 }

-- the name m
abbrev pub name_m : Name
name_m = record { 0 = codes "m" ++ replicate 15 0 }

-- the name q
abbrev pub name_q : Name
name_q = record { 0 = codes "q" ++ replicate 15 0 }

-- a thread that holds these partitions, and has bound b to the tags 129 to 133
abbrev pub holder_of : List ℕ → Walker
holder_of held = record {
  held = held;
  names = (name_b, tag 129 ∷ tag 130 ∷ tag 131 ∷ tag 132 ∷ tag 133 ∷ []) ∷ [];
  left = [] ∷ [] ∷ [];
}

-- an act in partition p that has this tag operand
abbrev pub goto_in : ℕ → Operand → Order
goto_in p operand = On p (Goto (tag 0)) (operand ∷ []) None

-- a name that is bound to a list of one tag
abbrev pub binding : Name → ℕ → Name × List Tag
binding name n = (name, tag n ∷ [])
