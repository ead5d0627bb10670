-- drop kills the attribute of a name.
use Rattle.std.specs.Prelude.{[], ◌∷◌, Option, Some, None, Err}
use Rattle.pk_base.specs.declared.tag.Tag.{Tag}
use Rattle.pk_base.specs.declared.entity.Name.{Name}
use Rattle.pk_base.specs.declared.refusal.Refusal.TheVariants.{NoAttribute}
use Rattle.pk_model.specs.Step.{◌>>=◌}
use Rattle.solid_model.specs.Items.{Shape}
use Rattle.solid_model.specs.Deaths.{◌without◌}
use Rattle.solid_model.specs.Attributes.{owner_of_attributes_at, attribute_named}
use Rattle.solid_model.specs.Rows.{Row, changes}

abbrev pub dropped : Shape → Tag → Option Tag → Row
dropped S owner (Some t) = changes (S without t ∷ [])
dropped S owner None = Err (NoAttribute owner)

abbrev pub drop_attribute : Shape → Tag → Name → Row
drop_attribute S owner name = do
  x ← owner_of_attributes_at S owner
  dropped S owner (attribute_named S owner name)
