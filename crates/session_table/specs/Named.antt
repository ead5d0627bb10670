-- What is seen of a value that stands for a partition.
use Rattle.std.specs.Prelude.{ℕ, zero, suc, ◌+◌, List, [], ◌∷◌, Option, None}
use Rattle.pk_base.specs.declared.act.Entry.{Entry}

pub record Named : Type 0 where
  pub number : ℕ
  pub holder : Option ℕ
  pub blocks : List ℕ
  pub journal : List Entry

-- the partition p as a session begins: it has the block p, and nothing was done
abbrev pub opening : ℕ → Named
opening p = record { number = p; holder = None; blocks = p ∷ []; journal = [] }

-- so many partitions, from k on, as a session begins
abbrev pub openings : ℕ → ℕ → List Named
openings k zero = []
openings k (suc n) = opening k ∷ openings (k + 1) n
