-- The calls that ask, and change nothing.
use Rattle.std.specs.Prelude.{◌-◌, map, filter}
use Rattle.pk_base.specs.declared.tag.Tag.{Tag}
use Rattle.pk_base.specs.declared.entity.Class.TheVariants as class
use Rattle.pk_base.specs.declared.entity.Counted.{Counted}
use Rattle.pk_base.specs.declared.act.Reply.TheVariants.{Is, List as Listed, Counts}
use Rattle.pk_model.specs.Step.{◌>>=◌}
use Rattle.solid_model.specs.Items.{Shape, class_of_item}
use Rattle.solid_model.specs.Owners.{parts_of, number_in_body, same_class}
use Rattle.solid_model.specs.Links.{entity_of}
use Rattle.solid_model.specs.Rows.{Row, tells}
use Rattle.solid_model.specs.Places.{live_at, body_at, loop_at, fins_at, q_at}

-- the entity
abbrev pub ask : Shape → Tag → Row
ask S t = do
  x ← live_at S t
  tells (Is (entity_of S t x))

-- what the entity owns, ascending
abbrev pub kids : Shape → Tag → Row
kids S t = do
  x ← live_at S t
  tells (Listed (parts_of S t))

-- a loop's fins from its first one; none where it has a lone vertex
abbrev pub ring : Shape → Tag → Row
ring S l = do
  r ← loop_at S l
  tells (Listed (fins_at S l))

-- how many vertices, edges and faces a body has, how many loops more than faces, and its shell's q
abbrev pub counted : Shape → Tag → Tag → Counted
counted S b shell =
    let faces = number_in_body class.Face S b in
    record {
      vertices = number_in_body class.Vertex S b;
      edges = number_in_body class.Edge S b;
      faces = faces;
      rings = number_in_body class.Loop S b - faces;
      q = q_at S shell;
    }

abbrev pub counts : Shape → Tag → Row
counts S b = do
  shell ← body_at S b
  tells (Counts (counted S b shell))

-- all live bodies, ascending
abbrev pub bodies : Shape → Row
bodies S = tells (Listed (map (λ x. x.0)
    (filter (λ x. same_class (class_of_item x.1) class.Body) S)))
