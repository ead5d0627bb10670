-- Words with `as` and a name at their end.
use Rattle.std.proofs.Common.{◌≡◌, ℕ, suc, ◌-◌, ◌≤◌, ◌<◌, true, false, List, [], ◌∷◌, length, take, get_or, None, Some, Bor, bytes_eq, codes, refl, ap, arith}
use Rattle.script_text.specs.Form.{bound_of, onto_bound}
use Rattle.script_text.specs.Reading.{bound_now, words_now}

pub bound_yes : (ws : List (Bor (List ℕ))) (d : Bor (List ℕ)) → 2 ≤ length ws → bytes_eq (get_or ws (length ws - 2) d).now (codes "as") ≡ true → bound_now (take (length ws - 2) ws) (Some (get_or ws (length ws - 1) d)) ≡ bound_of (words_now ws)
bound_yes [] d two e = absurd (omega (arith, two))
bound_yes (w ∷ []) d two e = absurd (omega (arith, two))
bound_yes (v ∷ w ∷ []) d two e = rw e
bound_yes (u ∷ v ∷ w ∷ ws) d two e =
    let n = length ws in
    let before : suc (suc (suc n)) - 2 ≡ suc n = omega arith in
    let same : suc (suc n) - 2 ≡ n = omega arith in
    let last : suc (suc (suc n)) - 1 ≡ suc (suc n) = omega arith in
    let last' : suc (suc n) - 1 ≡ suc n = omega arith in
    let is : bytes_eq (get_or (v ∷ w ∷ ws) n d).now (codes "as") ≡ true = rw before at e in
    let more = bound_yes (v ∷ w ∷ ws) d (omega arith) (rw same is) in
    rw (before, last) (ap (onto_bound u.now) (rw (same, last') at more))

pub bound_no : (ws : List (Bor (List ℕ))) (d : Bor (List ℕ)) → 2 ≤ length ws → bytes_eq (get_or ws (length ws - 2) d).now (codes "as") ≡ false → bound_now ws None ≡ bound_of (words_now ws)
bound_no [] d two e = absurd (omega (arith, two))
bound_no (w ∷ []) d two e = absurd (omega (arith, two))
bound_no (v ∷ w ∷ []) d two e = rw e
bound_no (u ∷ v ∷ w ∷ ws) d two e =
    let n = length ws in
    let before : suc (suc (suc n)) - 2 ≡ suc n = omega arith in
    let same : suc (suc n) - 2 ≡ n = omega arith in
    let is : bytes_eq (get_or (v ∷ w ∷ ws) n d).now (codes "as") ≡ false = rw before at e in
    ap (onto_bound u.now) (bound_no (v ∷ w ∷ ws) d (omega arith) (rw same is))

pub bound_few : (ws : List (Bor (List ℕ))) → length ws < 2 → bound_now ws None ≡ bound_of (words_now ws)
bound_few [] few = refl
bound_few (w ∷ []) few = refl
bound_few (v ∷ w ∷ ws) few = absurd (omega (arith, few))
