-- The fields of a command, each of one kind.
use Rattle.std.specs.Prelude.{ℕ, ℤ, List, Option, None, Some, slice_get}
use Rattle.std.specs.Option.{option_and_then}
use Rattle.pk_base.specs.declared.tag.Tag.{Tag}
use Rattle.pk_base.specs.declared.entity.Triple.{Triple}
use Rattle.pk_base.specs.declared.entity.Pair.{Pair}
use Rattle.pk_base.specs.declared.entity.Axis.{Axis}
use Rattle.pk_base.specs.declared.entity.Name.{Name}
use Rattle.pk_command.specs.declared.field.Field.{Field}
use Rattle.pk_command.specs.declared.field.Field.TheVariants as field
use Rattle.pk_command.specs.declared.field.Kind.{Kind}
use Rattle.pk_command.specs.declared.field.Kind.TheVariants as kind

abbrev pub kind_of : Field → Kind
kind_of (field.Tag x) = kind.Tag
kind_of (field.Number x) = kind.Number
kind_of (field.Point x) = kind.Point
kind_of (field.Corners x) = kind.Corners
kind_of (field.Axis x) = kind.Axis
kind_of (field.Name x) = kind.Name

-- what a field says, where it is of this kind
abbrev pub the_tag : Field → Option Tag
the_tag (field.Tag x) = Some x
the_tag (field.Number x) = None
the_tag (field.Point x) = None
the_tag (field.Corners x) = None
the_tag (field.Axis x) = None
the_tag (field.Name x) = None

abbrev pub the_number : Field → Option ℤ
the_number (field.Tag x) = None
the_number (field.Number x) = Some x
the_number (field.Point x) = None
the_number (field.Corners x) = None
the_number (field.Axis x) = None
the_number (field.Name x) = None

abbrev pub the_point : Field → Option Triple
the_point (field.Tag x) = None
the_point (field.Number x) = None
the_point (field.Point x) = Some x
the_point (field.Corners x) = None
the_point (field.Axis x) = None
the_point (field.Name x) = None

abbrev pub the_corners : Field → Option (List Pair)
the_corners (field.Tag x) = None
the_corners (field.Number x) = None
the_corners (field.Point x) = None
the_corners (field.Corners x) = Some x
the_corners (field.Axis x) = None
the_corners (field.Name x) = None

abbrev pub the_axis : Field → Option Axis
the_axis (field.Tag x) = None
the_axis (field.Number x) = None
the_axis (field.Point x) = None
the_axis (field.Corners x) = None
the_axis (field.Axis x) = Some x
the_axis (field.Name x) = None

abbrev pub the_name : Field → Option Name
the_name (field.Tag x) = None
the_name (field.Number x) = None
the_name (field.Point x) = None
the_name (field.Corners x) = None
the_name (field.Axis x) = None
the_name (field.Name x) = Some x

-- what the field at a place says, where there is one of this kind
abbrev pub tag_in : List Field → ℕ → Option Tag
tag_in fields i = option_and_then the_tag (slice_get fields i)

abbrev pub number_in : List Field → ℕ → Option ℤ
number_in fields i = option_and_then the_number (slice_get fields i)

abbrev pub point_in : List Field → ℕ → Option Triple
point_in fields i = option_and_then the_point (slice_get fields i)

abbrev pub corners_in : List Field → ℕ → Option (List Pair)
corners_in fields i = option_and_then the_corners (slice_get fields i)

abbrev pub axis_in : List Field → ℕ → Option Axis
axis_in fields i = option_and_then the_axis (slice_get fields i)

abbrev pub name_in : List Field → ℕ → Option Name
name_in fields i = option_and_then the_name (slice_get fields i)
