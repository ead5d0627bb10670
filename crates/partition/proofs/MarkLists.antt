-- A list of which one item is replaced.
use Rattle.std.proofs.Common.{ℕ, zero, suc, List, [], ◌∷◌}
use Rattle.std.specs.List.{AllByRecursion}
use Rattle.std.proofs.Math.ListN.{set}

-- what holds of each holds once one is replaced of which it holds
pub ByRecursion-set : {X : Type 0} (P : X → Type 0) (xs : List X) (i : ℕ) (x : X) → AllByRecursion P xs → P x → AllByRecursion P (set xs i x)
ByRecursion-set P [] i x h k = tt
ByRecursion-set P (y ∷ ys) zero x h k = (k, h.1)
ByRecursion-set P (y ∷ ys) (suc i) x h k = (h.0, ByRecursion-set P ys i x h.1 k)
