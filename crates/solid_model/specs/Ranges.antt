-- The ranges of numbers that a call is given.
use Rattle.std.specs.Prelude.{ℤ, pos, negsuc, int_le, Bool, not, ◌&&◌, List, [], ◌∷◌, find, Option, option_map}
use Rattle.pk_base.specs.declared.entity.Point.{Point}
use Rattle.pk_base.specs.declared.entity.Triple.{Triple}
use Rattle.pk_base.specs.declared.refusal.Refusal.{Refusal}
use Rattle.pk_base.specs.declared.refusal.Refusal.TheVariants.{OutOfRange}

-- a coordinate is from -1,048,576 to 1,048,576
abbrev pub is_coordinate : ℤ → Bool
is_coordinate v = int_le (negsuc 1048575) v && int_le v (pos 1048576)

-- a component of a vector is from -2,097,152 to 2,097,152
abbrev pub is_component : ℤ → Bool
is_component v = int_le (negsuc 2097151) v && int_le v (pos 2097152)

-- a size is from 1 to 2,097,152
abbrev pub is_size : ℤ → Bool
is_size v = int_le (pos 1) v && int_le v (pos 2097152)

abbrev pub numbers_of : Triple → List ℤ
numbers_of p = p.x ∷ p.y ∷ p.z ∷ []

abbrev pub point_of : Triple → Point
point_of p = record { x = p.x; y = p.y; z = p.z }

-- the refusal of the first number that fails the test
abbrev pub refuse_outside : (ℤ → Bool) → List ℤ → Option Refusal
refuse_outside is_within vs = option_map OutOfRange (find (λ v. not (is_within v)) vs)

abbrev pub coordinates_of : Point → List ℤ
coordinates_of p = p.x ∷ p.y ∷ p.z ∷ []
