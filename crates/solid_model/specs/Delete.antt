-- delete kills a body with all that it owns, directly or not.
use Rattle.pk_base.specs.declared.tag.Tag.{Tag}
use Rattle.pk_model.specs.Step.{◌>>=◌}
use Rattle.solid_model.specs.Items.{Shape}
use Rattle.solid_model.specs.Owners.{all_in_body}
use Rattle.solid_model.specs.Deaths.{◌without◌}
use Rattle.solid_model.specs.Rows.{Row, changes}
use Rattle.solid_model.specs.Places.{body_at}

abbrev pub delete : Shape → Tag → Row
delete S b = do
  shell ← body_at S b
  changes (S without all_in_body S b)
