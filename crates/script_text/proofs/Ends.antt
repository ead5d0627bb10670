-- The last item of a list.
use Rattle.std.proofs.Common.{◌≡◌, ℕ, ◌-◌, ◌≤◌, ◌==◌, true, false, List, [], ◌∷◌, length, take, slice_index, refl, ap, arith}
use native.Mathlib.Numerals.{unary_clauses}
use Rattle.script_text.specs.Lines.{without_last}

pub without_last_of : (x : ℕ) (bs : List ℕ) → 1 ≤ length bs → (slice_index bs (length bs - 1) == x) ≡ true → take (length bs - 1) bs ≡ without_last x bs
without_last_of x [] some e = refl
without_last_of x (b ∷ []) some e = rw e
without_last_of x (b ∷ c ∷ bs) some e = simp unary_clauses (ap (λ l. b ∷ l) (simp unary_clauses at (without_last_of x (c ∷ bs) (omega arith) (simp unary_clauses (simp unary_clauses at e)))))

pub without_other_last : (x : ℕ) (bs : List ℕ) → 1 ≤ length bs → (slice_index bs (length bs - 1) == x) ≡ false → bs ≡ without_last x bs
without_other_last x [] some e = refl
without_other_last x (b ∷ []) some e = rw e
without_other_last x (b ∷ c ∷ bs) some e = ap (λ l. b ∷ l) (without_other_last x (c ∷ bs) (omega arith) (simp unary_clauses (simp unary_clauses at e)))
