-- An edge that is removed.
use Rattle.std.specs.Prelude.{List, [], ◌∷◌}
use Rattle.pk_base.specs.declared.tag.Tag.{Tag}
use Rattle.solid_places.specs.declared.fins.PlacedFin.{PlacedFin}

-- a fin, its mate and their edge
abbrev pub edge_with_fins : Tag → PlacedFin → List Tag
edge_with_fins f u = f ∷ u.mate ∷ u.edge ∷ []
