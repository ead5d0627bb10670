-- kvfs kills a body of one vertex, and so undoes mvfs (Mäntylä 1988: kill vertex, face, solid).
--
--     before:  a body with one face, whose one loop has no fins        after:  nothing of it
use Rattle.std.specs.Prelude.{nat_lt, Bool, ◌||◌}
use Rattle.pk_base.specs.declared.tag.Tag.{Tag}
use Rattle.pk_base.specs.declared.entity.Class.TheVariants as class
use Rattle.pk_base.specs.declared.refusal.Refusal.TheVariants.{NotBare}
use Rattle.pk_model.specs.Step.{◌>>=◌}
use Rattle.solid_model.specs.Items.{Shape}
use Rattle.solid_model.specs.Owners.{all_in_body, number_in_body}
use Rattle.solid_model.specs.Deaths.{◌without◌}
use Rattle.solid_model.specs.Rows.{Row, changes, refuse_where, ◌>>◌}
use Rattle.solid_model.specs.Places.{body_at}

-- whether the body has an edge, a second face or a second loop
abbrev pub has_more_than_a_vertex : Shape → Tag → Bool
has_more_than_a_vertex S b =
    nat_lt 0 (number_in_body class.Edge S b)
    || nat_lt 1 (number_in_body class.Face S b)
    || nat_lt 1 (number_in_body class.Loop S b)

abbrev pub kvfs : Shape → Tag → Row
kvfs S b = do
  shell ← body_at S b
  refuse_where (has_more_than_a_vertex S b) (NotBare b)
  changes (S without all_in_body S b)
