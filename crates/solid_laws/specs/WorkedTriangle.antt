-- A triangle: two edges are made from a vertex, and a third one closes a face. Each operator is
-- refused once for each reason that comes up, and in the end all is unmade.
use Rattle.std.specs.Prelude.{List, [], ◌∷◌, None}
use Rattle.pk_base.specs.Blocks.{tag}
use Rattle.pk_base.specs.declared.entity.Class.TheVariants as class
use Rattle.pk_base.specs.declared.call.Call.TheVariants.{Mvfs, Mev, Mef, Mekr, Mfkrh, Kvfs, Kev, Kef, Kemr, Kfmrh, Ask, Ring, Bodies}
use Rattle.pk_base.specs.declared.refusal.Refusal.TheVariants as refusal
use Rattle.solid_laws.specs.WorkedCalls.{Line, Answer, made, listed, done, refused, at}
use Rattle.solid_laws.specs.WorkedCalls.Line.{Does}

abbrev pub triangle : List Line
triangle =
    Does (Mvfs (at 0 0 0)) ∷
    Does (Mev (tag 68) (at 1 0 0)) ∷
    Does (Mev (tag 73) (at 1 1 0)) ∷
    Does (Ring (tag 68)) ∷
    Does (Mef (tag 72) (tag 72)) ∷
    Does (Kev (tag 72)) ∷
    Does (Kef (tag 72)) ∷
    Does (Mef (tag 72) (tag 77)) ∷
    Does (Ring (tag 79)) ∷
    Does (Ring (tag 68)) ∷
    Does (Mef (tag 72) (tag 73)) ∷
    Does (Mekr (tag 73) (tag 72)) ∷
    Does (Kemr (tag 81)) ∷
    Does (Mev (tag 68) (at 5 5 5)) ∷
    Does (Kvfs (tag 65)) ∷
    Does (Mfkrh (tag 68)) ∷
    Does (Kfmrh (tag 67) (tag 67)) ∷
    Does (Kef (tag 65)) ∷
    Does (Ask (tag 64)) ∷
    Does (Kef (tag 81)) ∷
    Does (Ring (tag 68)) ∷
    Does (Kev (tag 76)) ∷
    Does (Kev (tag 72)) ∷
    Does (Kvfs (tag 65)) ∷
    Does Bodies ∷ []

-- what must be answered, after the claim
abbrev pub triangle_answers : List Answer
triangle_answers =
    None ∷
    made 65 69 ∷
    made 70 73 ∷
    made 74 77 ∷
    listed (72 ∷ 76 ∷ 77 ∷ 73 ∷ []) ∷
    refused (refusal.SameVertex (tag 69)) ∷
    refused (refusal.NotStrut (tag 72)) ∷
    refused (refusal.OneLoop (tag 68)) ∷
    made 78 82 ∷
    listed (72 ∷ 76 ∷ 81 ∷ []) ∷
    listed (73 ∷ 82 ∷ 77 ∷ []) ∷
    refused (refusal.NotOneLoop (tag 79) (tag 68)) ∷
    refused (refusal.NotOneFace (tag 67) (tag 78)) ∷
    refused (refusal.TwoLoops (tag 79) (tag 68)) ∷
    refused (refusal.NotBare (tag 68)) ∷
    refused (refusal.NotBare (tag 65)) ∷
    refused (refusal.IsOuter (tag 68)) ∷
    refused (refusal.SameFace (tag 67)) ∷
    refused (refusal.WrongClass (tag 65) class.Body) ∷
    refused (refusal.NoSuchTag (tag 64)) ∷
    done ∷
    listed (72 ∷ 76 ∷ 77 ∷ 73 ∷ []) ∷
    done ∷
    done ∷
    done ∷
    listed [] ∷ []
