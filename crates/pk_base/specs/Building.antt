-- A list that is being made in room taken before: its items, and how many more it has room for.
use Rattle.std.specs.Prelude.{ℕ, List}

pub record Building (A : Type 0) : Type 0 where
  pub items : List A
  pub spare : ℕ
