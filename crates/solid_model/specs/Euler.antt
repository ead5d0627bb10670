-- The modelling of all calls: each is read on the shape of the map, and written back as the map
-- that the shape reached stands for.
use Rattle.std.specs.Prelude.{ℕ, List, take, length, Result, Ok, Err}
use Rattle.pk_base.specs.declared.tag.Tag.{Tag}
use Rattle.pk_base.specs.declared.act.Reply.{Reply}
use Rattle.pk_base.specs.declared.act.Reply.TheVariants.{Made, Done, Is, List as Listed, Counts, Went, Marks, Delta}
use Rattle.pk_base.specs.declared.refusal.Refusal.{Refusal}
use Rattle.pk_model.specs.Maps.{EntityMap}
use Rattle.pk_model.specs.Modelling.{Modelling, Outcome}
use Rattle.solid_model.specs.Rows.{Row, Effect, cost_of}
use Rattle.solid_model.specs.Rows.Effect.{Makes, Changes, Tells}
use Rattle.solid_model.specs.Links.{links}
use Rattle.solid_model.specs.Shapes.{shape_of}
use Rattle.solid_model.specs.Sound.{IsSound}
use Rattle.solid_model.specs.Calls.{row_of}
use Rattle.solid_model.specs.Room.{puts_of}

-- the map and the reply
abbrev pub outcome_of : EntityMap → List Tag → Effect → Outcome
outcome_of m tags (Makes k reaches) =
    record { map = links (reaches tags); reply = Made (take k tags) }
outcome_of m tags (Changes reached) = record { map = links reached; reply = Done }
outcome_of m tags (Tells reply) = record { map = m; reply = reply }

abbrev pub step_by : EntityMap → List Tag → Row → Result Outcome Refusal
step_by m tags (Ok effect) = Ok (outcome_of m tags effect)
step_by m tags (Err e) = Err e

abbrev pub length_of_reply : Reply → ℕ
length_of_reply (Listed tags) = length tags
length_of_reply (Made tags) = length tags
length_of_reply Done = 0
length_of_reply (Is entity) = 0
length_of_reply (Counts counted) = 0
length_of_reply (Went lists) = 0
length_of_reply (Marks at rows) = 0
length_of_reply (Delta lists) = 0

-- how many tags are listed in the reply
abbrev pub list_of : Row → ℕ
list_of (Ok (Makes k reaches)) = k
list_of (Ok (Changes reached)) = 0
list_of (Ok (Tells reply)) = length_of_reply reply
list_of (Err e) = 0

abbrev pub euler : Modelling
euler = record {
  sound = IsSound;
  cost = λ m c. cost_of (row_of (shape_of m) c);
  changes = λ m c. puts_of (shape_of m) c;
  list = λ m c. list_of (row_of (shape_of m) c);
  step = λ m c tags. step_by m tags (row_of (shape_of m) c);
}
