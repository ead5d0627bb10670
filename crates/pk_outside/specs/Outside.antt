-- What reads and writes do to the bytes that a source or a sink tells.
use Rattle.std.specs.Prelude.{◌≡◌, ℕ, ◌+◌, min, List, [], ◌++◌, length, Option, None, Some, ⊤}

-- The bytes given are the next ones of those that were left, which lost them. A source that tells
-- none goes on so.
abbrev pub Takes : Option (List ℕ) → Option (List ℕ) → List ℕ → Type 0
Takes None new given = new ≡ None
Takes (Some bytes) new given = (rest : List ℕ) × (bytes ≡ given ++ rest) × (new ≡ Some rest)

-- none are left, where the source tells them
abbrev pub IsAtEnd : Option (List ℕ) → Type 0
IsAtEnd None = ⊤
IsAtEnd (Some bytes) = bytes ≡ []

-- What is held grew by these bytes. A sink that tells nothing goes on so.
abbrev pub Grows : Option (List ℕ) → Option (List ℕ) → List ℕ → Type 0
Grows None new more = new ≡ None
Grows (Some bytes) new more = new ≡ Some (bytes ++ more)

-- the next bytes were taken, of a number that has the property
abbrev pub Took : (ℕ → Type 0) → Option (List ℕ) → Option (List ℕ) → Type 0
Took P old new = (given : List ℕ) × (P (length given) × Takes old new given)

-- Where no bytes are told of one value, none are told of any. So bytes that were told once are told
-- at every moment.
abbrev pub TellsAllOrNone : {A : Type 0} → (A → Option (List ℕ)) → Type 0
TellsAllOrNone {A} bytes = (a b : A) → bytes a ≡ None → bytes b ≡ None

-- one more, of a count that stands still at the greatest u64
abbrev pub counted_on : ℕ → ℕ
counted_on n = min (n + 1) 18446744073709551615

-- one read or write failed: the count of faults rose by one, or stands at its last value
abbrev pub HasFailed : ℕ → ℕ → Type 0
HasFailed old new = new ≡ counted_on old

-- A source in memory: the bytes that are left, the most that a call gives, the numbers of the calls
-- that fail, how many calls had a buffer with room, and how many failed.
pub record Giving : Type 0 where
  pub left : List ℕ
  pub most : ℕ
  pub failing : List ℕ
  pub calls : ℕ
  pub faults : ℕ

-- A sink in memory: the bytes that it holds, how many it may hold, the most that a call takes, the
-- numbers of the calls that fail, how many calls had bytes, and how many failed.
pub record Taking : Type 0 where
  pub held : List ℕ
  pub room : ℕ
  pub most : ℕ
  pub failing : List ℕ
  pub calls : ℕ
  pub faults : ℕ
