-- Rings made and killed by hand: a loop that is cut in two lone vertices, and a hole that is
-- filled.
use Rattle.std.specs.Prelude.{pos, List, [], ◌∷◌, Some, None}
use Rattle.pk_base.specs.Blocks.{tag}
use Rattle.pk_base.specs.declared.entity.Entity.TheVariants.{Loop}
use Rattle.pk_base.specs.declared.call.Call.TheVariants.{Mvfs, Mev, Mekr, Mfkrh, Kemr, Kfmrh, RingMove, Ask, Ring, Counts}
use Rattle.pk_base.specs.declared.refusal.Refusal.TheVariants.{IsOuter, SameFace}
use Rattle.solid_laws.specs.WorkedCalls.{Line, Answer, made, listed, done, is, counts, refused, at}
use Rattle.solid_laws.specs.WorkedCalls.Line.{Does}

abbrev pub rings : List Line
rings =
    Does (Mvfs (at 0 0 0)) ∷
    Does (Mev (tag 68) (at 1 0 0)) ∷
    Does (Kemr (tag 72)) ∷
    Does (Ask (tag 68)) ∷
    Does (Ask (tag 74)) ∷
    Does (Mekr (tag 68) (tag 74)) ∷
    Does (Ring (tag 68)) ∷
    Does (Kemr (tag 76)) ∷
    Does (Mfkrh (tag 78)) ∷
    Does (Counts (tag 65)) ∷
    Does (Kfmrh (tag 67) (tag 79)) ∷
    Does (Counts (tag 65)) ∷
    Does (Mekr (tag 78) (tag 68)) ∷
    Does (RingMove (tag 78) (tag 67)) ∷
    Does (Mfkrh (tag 68)) ∷ []

-- what must be answered, after the claim
abbrev pub rings_answers : List Answer
rings_answers =
    None ∷
    made 65 69 ∷
    made 70 73 ∷
    made 74 74 ∷
    is (Loop (tag 67) None (Some (tag 69))) ∷
    is (Loop (tag 67) None (Some (tag 70))) ∷
    made 75 77 ∷
    listed (76 ∷ 77 ∷ []) ∷
    made 78 78 ∷
    made 79 79 ∷
    counts 2 0 2 0 (pos 2) ∷
    done ∷
    counts 2 0 1 1 (pos 1) ∷
    refused (IsOuter (tag 68)) ∷
    refused (SameFace (tag 67)) ∷
    refused (IsOuter (tag 68)) ∷ []
