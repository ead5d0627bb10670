-- Pieces of text in another grouping.
use Rattle.std.proofs.Common.{◌≡◌, ℕ, List, ◌++◌, append_assoc}

-- three pieces behind what is written, one after another
pub regrouped : (out a b c : List ℕ) → ((out ++ a) ++ b) ++ c ≡ out ++ ((a ++ b) ++ c)
regrouped out a b c = simp append_assoc

-- the lines of a report, as they are written
pub reported : (heading threads journals end line : List ℕ) → ((heading ++ threads) ++ journals) ++ (end ++ line) ≡ (((heading ++ threads) ++ journals) ++ end) ++ line
reported heading threads journals end line = simp append_assoc

-- a point behind its words
pub pointed : (out words x y z : List ℕ) → (out ++ words) ++ ((x ++ y) ++ z) ≡ out ++ (((words ++ x) ++ y) ++ z)
pointed out words x y z = simp append_assoc
