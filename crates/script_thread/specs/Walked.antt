-- What the lines of a thread have said so far, over its entries.
use Rattle.std.specs.Prelude.{◌≡◌, ℕ, List, [], replicate}
use Rattle.pk_base.specs.declared.entity.Name.{Name}
use Rattle.pk_base.specs.declared.tag.Tag.{Tag}
use Rattle.pk_base.specs.declared.act.Entry.{Entry}
use Rattle.pk_model.specs.Modelling.{Modelling}
use Rattle.script_text.specs.Walk.{Walker, Walks, bound_to, walker_of}
use Rattle.script_text.specs.declared.script.ScriptLine.{ScriptLine}
use Rattle.script_thread.specs.Thread.{ThreadState}

-- what names are bound to
abbrev pub Names : Type 0
Names = List (Name × List Tag)

-- each name is bound to the same tags by both
abbrev pub SameNames : Names → Names → Type 0
SameNames xs ys = (name : Name) → bound_to xs name ≡ bound_to ys name

-- the walker that holds these, whose names are bound so, and for which no entry of n partitions is
-- left
abbrev pub at_rest : ℕ → List ℕ → Names → Walker
at_rest n held names = record { held = held; names = names; left = replicate n [] }

-- What thread t was told so far is what these lines say, walked over its entries in these journals.
-- They take all of its entries there, and leave it as it is: it holds what it holds, and its names
-- are bound as they are.
pub record IsWalked (K : Modelling) (n t : ℕ) (journals : List (List Entry))
    (lines : List ScriptLine) (s : ThreadState) : Type 0 where
  pub bound : Names
  pub walked : Walks K n t (walker_of K t journals) lines s.said (at_rest n s.held bound)
  pub same : SameNames bound s.names
