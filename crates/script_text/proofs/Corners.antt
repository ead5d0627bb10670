-- Corners, one after another.
use Rattle.std.proofs.Common.{◌≡◌, ℕ, ◌≤◌, ◌<◌, List, [], ◌∷◌, ◌++◌, length, drop, Option, Result, Ok, Err, ok_or, Bor, ap, arith}
use Rattle.pk_base.specs.declared.entity.Pair.{Pair}
use Rattle.script_text.specs.FieldWords.{◌>>=◌, corners_after, pair_of}
use Rattle.script_text.specs.Reading.{first_corner, words_now}
use Rattle.script_text.specs.declared.script.Cause.{Cause}
use Rattle.script_text.specs.declared.script.Cause.TheVariants.{BadNumber}

one : (corners : List Pair) (o : Option Pair) (words : List (List ℕ)) (p : Pair) → ok_or o BadNumber ≡ Ok p → (ok_or o BadNumber >>= λ q. corners_after (corners ++ q ∷ []) words) ≡ corners_after (corners ++ p ∷ []) words
one corners o words p e = ap (λ (r : Result Pair Cause). r >>= λ q. corners_after (corners ++ q ∷ []) words) e

pub corners_step : (corners : List Pair) (ws : List (Bor (List ℕ))) (p : Pair) → first_corner (words_now ws) ≡ Ok p → corners_after corners (words_now ws) ≡ corners_after (corners ++ p ∷ []) (words_now (drop 2 ws))
corners_step corners [] p e = cc
corners_step corners (x ∷ []) p e = cc
corners_step corners (x ∷ y ∷ ws) p e = one corners (pair_of x.now y.now) (words_now ws) p e

pub corners_none : (corners : List Pair) (ws : List (Bor (List ℕ))) (c : Cause) → 0 < length ws → first_corner (words_now ws) ≡ Err c → corners_after corners (words_now ws) ≡ Err c
corners_none corners [] c some e = absurd (omega (arith, some))
corners_none corners (x ∷ []) c some e = cc
corners_none corners (x ∷ y ∷ ws) c some e = ap (λ (r : Result Pair Cause). r >>= λ q. corners_after (corners ++ q ∷ []) (words_now ws)) e

pub corners_two : (ws : List (Bor (List ℕ))) (p : Pair) → first_corner (words_now ws) ≡ Ok p → 2 ≤ length ws
corners_two [] p e = cc
corners_two (x ∷ []) p e = cc
corners_two (x ∷ y ∷ ws) p e = omega arith
