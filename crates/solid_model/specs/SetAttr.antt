-- set gives an entity an attribute: a new one, or a new value to the one of that name.
use Rattle.std.specs.Prelude.{ℤ, [], ◌∷◌, Option, Some, None}
use Rattle.pk_base.specs.declared.tag.Tag.{Tag}
use Rattle.pk_base.specs.declared.entity.Name.{Name}
use Rattle.pk_model.specs.Step.{◌>>=◌}
use Rattle.solid_model.specs.Items.{Item, Shape, ◌with◌}
use Rattle.solid_model.specs.Items.Item.{Attr}
use Rattle.solid_model.specs.Attributes.{owner_of_attributes_at, attribute_named}
use Rattle.solid_model.specs.Rows.{Row, makes_one, changes}

-- the attribute that the owner has of this name, or a new one
abbrev pub set_in : Shape → Item → Option Tag → Row
set_in S a (Some t) = changes (S with (t, a) ∷ [])
set_in S a None = makes_one (λ t. S with (t, a) ∷ [])

abbrev pub set_attribute : Shape → Tag → Name → ℤ → Row
set_attribute S owner name value = do
  x ← owner_of_attributes_at S owner
  set_in S (Attr owner name value) (attribute_named S owner name)
