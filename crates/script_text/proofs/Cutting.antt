-- A text cut at a byte, and the pieces that it was made of.
use Rattle.std.proofs.Common.{◌≡◌, ℕ, ◌==◌, ◌&&◌, not, Bool, true, false, if◌then◌else◌, List, [], ◌∷◌, ◌++◌, refl, ap, ◌∙◌}
use Rattle.std.specs.List.{list_all}
use Rattle.std.proofs.lemmas.Bool.{eq-eqb, not-true}

abbrev pub onto_piece : ℕ → List (List ℕ) → List (List ℕ)
onto_piece b [] = (b ∷ []) ∷ []
onto_piece b (p ∷ ps) = (b ∷ p) ∷ ps

-- the pieces between the bytes s
abbrev pub cut : ℕ → List ℕ → List (List ℕ)
cut s [] = [] ∷ []
cut s (b ∷ bs) = if b == s then [] ∷ cut s bs else onto_piece b (cut s bs)

-- no byte is s
abbrev pub lacks : ℕ → List ℕ → Bool
lacks s w = list_all (λ b. not (b == s)) w

pub and_first : (s t : Bool) → (s && t) ≡ true → s ≡ true
and_first true t e = refl
and_first false t e = e

pub and_second : (s t : Bool) → (s && t) ≡ true → t ≡ true
and_second true t e = e
and_second false t e = cc

pub cut-more : (s : ℕ) (w rest : List ℕ) → lacks s w ≡ true → cut s (w ++ s ∷ rest) ≡ w ∷ cut s rest
cut-more s [] rest h = ap (λ t. if t then [] ∷ cut s rest else onto_piece s (cut s rest)) (eq-eqb s s refl)
cut-more s (b ∷ bs) rest h =
    ap (λ t. if t then [] ∷ cut s (bs ++ s ∷ rest) else onto_piece b (cut s (bs ++ s ∷ rest))) (not-true (b == s) (and_first _ _ h))
    ∙ ap (onto_piece b) (cut-more s bs rest (and_second _ _ h))

pub cut-last : (s : ℕ) (w : List ℕ) → lacks s w ≡ true → cut s w ≡ w ∷ []
cut-last s [] h = refl
cut-last s (b ∷ bs) h =
    ap (λ t. if t then [] ∷ cut s bs else onto_piece b (cut s bs)) (not-true (b == s) (and_first _ _ h))
    ∙ ap (onto_piece b) (cut-last s bs (and_second _ _ h))
