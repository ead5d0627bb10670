-- What the formula of Euler and Poincaré says of the loops of a body.
use Rattle.std.specs.Prelude.{ℕ, ℤ, pos, ◌+ℤ◌, ◌-ℤ◌, ◌*ℤ◌}

-- how many loops more than faces there are, told by the vertices, the edges, the faces and q
abbrev pub rings_by_formula : (vertices edges faces : ℕ) → ℤ → ℤ
rings_by_formula vertices edges faces q =
    ((pos vertices -ℤ pos edges) +ℤ pos faces) -ℤ (pos 2 *ℤ q)
