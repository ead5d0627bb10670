-- A thread of a script between two of its lines.
use Rattle.std.specs.Prelude.{ℕ, if◌then◌else◌, List, [], ◌∷◌, Option, None, Some, Result, Ok, Err}
use Rattle.std.specs.Option.{option_map_or}
use Rattle.pk_base.specs.Entity.{same_name}
use Rattle.pk_base.specs.declared.tag.Tag.{Tag}
use Rattle.pk_base.specs.declared.entity.Name.{Name}
use Rattle.pk_base.specs.declared.act.Reply.{Reply}
use Rattle.pk_base.specs.declared.refusal.Refusal.{Refusal}
use Rattle.script_text.specs.Walk.{Walker, list_of}
use Rattle.script_text.specs.declared.report.Line.{Line}

-- A thread between two of its lines: the partitions that it holds, ascending; what its names are
-- bound to; and what was said to the lines before. Its next line is the one behind those.
pub record ThreadState : Type 0 where
  pub held : List ℕ
  pub names : List (Name × List Tag)
  pub said : List Line

-- a thread before its first line
abbrev pub fresh_thread : ThreadState
fresh_thread = record { held = []; names = []; said = [] }

-- as what its next order is resolved
abbrev pub walker_now : ThreadState → Walker
walker_now s = record { held = s.held; names = s.names; left = [] }

-- the name is bound to the tags, in its place where it stood, and else behind the others
abbrev pub bind_tags : List (Name × List Tag) → Name → List Tag → List (Name × List Tag)
bind_tags [] name tags = (name, tags) ∷ []
bind_tags (b ∷ bs) name tags =
    if same_name name b.0 then (b.0, tags) ∷ bs else b ∷ bind_tags bs name tags

-- the names after an answer, to whose list the name behind `as` is bound, where there are both
abbrev pub names_after : Result Reply Refusal → Option Name → List (Name × List Tag)
    → List (Name × List Tag)
names_after (Err e) bind names = names
names_after (Ok r) None names = names
names_after (Ok r) (Some name) names = option_map_or (bind_tags names name) (list_of r) names
