-- The number that is expected of a run is one.
use Rattle.std.proofs.Common.{◌≡◌, ℕ, List, ⊎_elim, sym, ◌∙◌}
use Rattle.session_cases.specs.Expected.{IsNumberOfReport, IsNumberExpected}
use Rattle.session_cases.specs.declared.expected.Expected.{Expected}
use Rattle.session_cases.specs.declared.expected.Expected.TheVariants.{Report, Refusal}

-- of two numbers that a report asks for, both are 1 or neither is
one_of_report : (report : List ℕ) (n m : ℕ) → IsNumberOfReport report n → IsNumberOfReport report m → n ≡ m
one_of_report report n m x y =
    ⊎_elim {C = n ≡ m}
    (λ (n0 : n ≡ 0). ⊎_elim {C = n ≡ m} (λ (m0 : m ≡ 0). n0 ∙ sym m0)
    (λ (m1 : m ≡ 1). x.refused.1 (y.refused.0 m1) ∙ sym m1) y.either)
    (λ (n1 : n ≡ 1). n1 ∙ sym (y.refused.1 (x.refused.0 n1))) x.either

-- two numbers that are expected are one
pub number_unique : (e : Expected) (n m : ℕ) → IsNumberExpected e n → IsNumberExpected e m → n ≡ m
number_unique (Report report) n m x y = one_of_report _ n m x y
number_unique (Refusal k message written) n m x y = x ∙ sym y
