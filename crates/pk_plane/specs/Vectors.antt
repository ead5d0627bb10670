-- Vectors of space: their sum and their two products.
use Rattle.std.specs.Prelude.{ℤ, pos, ◌+ℤ◌, ◌-ℤ◌, ◌*ℤ◌}
use Rattle.pk_base.specs.declared.entity.Point.{Point}
use Rattle.pk_base.specs.declared.entity.Triple.{Triple}

abbrev pub vector : ℤ → ℤ → ℤ → Triple
vector x y z = record { x = x; y = y; z = z }

-- the product of two points as vectors from the origin, which is a vector: it stands on both, and
-- is zero where they lie in one line with the origin
abbrev pub cross : Point → Point → Triple
cross p q = record {
  x = (p.y *ℤ q.z) -ℤ (p.z *ℤ q.y);
  y = (p.z *ℤ q.x) -ℤ (p.x *ℤ q.z);
  z = (p.x *ℤ q.y) -ℤ (p.y *ℤ q.x);
}

abbrev pub plus : Triple → Triple → Triple
plus a b = record { x = a.x +ℤ b.x; y = a.y +ℤ b.y; z = a.z +ℤ b.z }

abbrev pub no_vector : Triple
no_vector = record { x = pos 0; y = pos 0; z = pos 0 }

-- the product of two vectors that is a number
abbrev pub dot : Triple → Triple → ℤ
dot a b = (a.x *ℤ b.x) +ℤ (a.y *ℤ b.y) +ℤ (a.z *ℤ b.z)
