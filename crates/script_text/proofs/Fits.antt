-- Words that fields of some kinds have.
use Rattle.std.proofs.Common.{◌≡◌, ℕ, zero, suc, ◌%◌, nat_eq, List, ◌∷◌, refl, ap, ◌∙◌, arith}
use Rattle.pk_command.specs.declared.field.Kind.{Kind}
use Rattle.pk_command.specs.declared.field.Kind.TheVariants as kind
use Rattle.script_text.specs.FieldWords.{fits, is_even}

pub even-mod : (n : ℕ) → nat_eq (n % 2) 0 ≡ is_even n
even-mod zero = refl
even-mod (suc zero) = refl
even-mod (suc (suc n)) =
    let same : suc (suc n) % 2 ≡ n % 2 = omega arith in
    ap (λ m. nat_eq m 0) same ∙ even-mod n

pub corners_fit : (k : Kind) (kinds : List Kind) (n : ℕ) → k ≡ kind.Corners → fits (k ∷ kinds) n ≡ is_even n
corners_fit k kinds n e = ap (λ k. fits (k ∷ kinds) n) e
