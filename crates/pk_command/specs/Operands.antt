-- The tag operands of an act: the tags among its fields, from left to right.
use Rattle.std.specs.Prelude.{List, [], ◌∷◌, drop, unwrap_or, slice_index_or}
use Rattle.std.specs.List.{filter_map}
use Rattle.pk_base.specs.Blocks.{tag}
use Rattle.pk_base.specs.declared.tag.Tag.{Tag}
use Rattle.pk_base.specs.declared.act.Act.{Act}
use Rattle.pk_command.specs.declared.field.Field.{Field}
use Rattle.pk_command.specs.declared.field.Field.TheVariants as field
use Rattle.pk_command.specs.Fields.{the_tag}
use Rattle.pk_command.specs.Commands.{verb_of, fields_of, act_of}

abbrev pub operands_of : Act → List Tag
operands_of a = filter_map the_tag (fields_of a)

-- the fields with these tags in the place of theirs, from left to right
abbrev pub with_tags : List Field → List Tag → List Field
with_tags [] tags = []
with_tags (field.Tag t ∷ fields) tags =
    field.Tag (slice_index_or tags 0 (tag 0)) ∷ with_tags fields (drop 1 tags)
with_tags (field.Number n ∷ fields) tags = field.Number n ∷ with_tags fields tags
with_tags (field.Point p ∷ fields) tags = field.Point p ∷ with_tags fields tags
with_tags (field.Corners l ∷ fields) tags = field.Corners l ∷ with_tags fields tags
with_tags (field.Axis a ∷ fields) tags = field.Axis a ∷ with_tags fields tags
with_tags (field.Name n ∷ fields) tags = field.Name n ∷ with_tags fields tags

-- the act with these tags as its operands, from left to right
abbrev pub act_on : Act → List Tag → Act
act_on a tags = unwrap_or (act_of (verb_of a) (with_tags (fields_of a) tags)) a
