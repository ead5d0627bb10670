-- Blocks that ascend are no more than there may be.
use Rattle.std.proofs.Common.{ℕ, ◌+◌, ◌<◌, ◌≤◌, List, [], ◌∷◌, length, arith}
use Rattle.std.specs.List.{AllByRecursion}
use Rattle.pk_model.specs.Tags.{Ascends, AreInRange}

few_above : (low : ℕ) (bs : List ℕ) → AllByRecursion (λ c. low < c) bs → Ascends bs → AreInRange bs → low ≤ 262143 → length bs + low ≤ 262143
few_above low [] h a r k = omega arith
few_above low (b ∷ bs) h a r k = omega (arith, few_above b bs a.0 a.1 r.1 r.0.1, h.0)

above_zero : (bs : List ℕ) → AreInRange bs → AllByRecursion (λ c. 0 < c) bs
above_zero [] r = tt
above_zero (b ∷ bs) r = (omega (arith, r.0.0), above_zero bs r.1)

pub few_blocks : (bs : List ℕ) → Ascends bs → AreInRange bs → length bs ≤ 262143
few_blocks bs a r = omega (arith, few_above 0 bs (above_zero bs r) a r (omega arith))
