-- A block: its lists, what is asked of it, and a hole that is made through one.
use Rattle.std.specs.Prelude.{pos, negsuc, List, [], ◌∷◌, Some, None, codes}
use Rattle.pk_base.specs.Blocks.{tag}
use Rattle.pk_base.specs.declared.entity.Entity.TheVariants.{Loop, Fin, Vertex, Attr}
use Rattle.pk_base.specs.declared.entity.Name.{Name}
use Rattle.pk_base.specs.declared.call.Call.TheVariants.{Block, Mev, Mef, Mfkrh, Kemr, Kfmrh, Sweep, Delete, SetAttr, DropAttr, Ask, Kids, Ring, Counts, Bodies}
use Rattle.pk_base.specs.declared.refusal.Refusal.TheVariants.{NoSuchTag, HasRings, FlatSweep, NoAttribute}
use Rattle.solid_laws.specs.WorkedCalls.{Line, Answer, made, listed, done, is, counts, refused, at, name}
use Rattle.solid_laws.specs.WorkedCalls.Line.{Does, Draws}

abbrev pub k_top : Name
k_top = name (codes "k_top")

abbrev pub queries : List Line
queries =
    Does (Block (at 0 0 0) (at 2 3 4)) ∷
    Does (Ring (tag 83)) ∷
    Does (Ring (tag 68)) ∷
    Does (Ring (tag 104)) ∷
    Does (Ask (tag 72)) ∷
    Does (Ask (tag 83)) ∷
    Does (Ask (tag 87)) ∷
    Does (Kids (tag 66)) ∷
    Does (Kids (tag 68)) ∷
    Does (Counts (tag 65)) ∷
    Does (Sweep (tag 82) (record { x = pos 0; y = pos 0; z = negsuc 0 })) ∷
    Does (DropAttr (tag 65) (name (codes "k"))) ∷
    Does (SetAttr (tag 82) k_top (negsuc 4)) ∷
    Does (Ask (tag 123)) ∷
    Does (Delete (tag 65)) ∷
    Does (Ask (tag 123)) ∷
    Does Bodies ∷ []

-- what must be answered, after the claim
abbrev pub queries_answers : List Answer
queries_answers =
    None ∷
    made 65 122 ∷
    listed (107 ∷ 112 ∷ 117 ∷ 122 ∷ []) ∷
    listed (73 ∷ 86 ∷ 81 ∷ 77 ∷ []) ∷
    listed (72 ∷ 93 ∷ 106 ∷ 90 ∷ []) ∷
    is (Fin (tag 104) (tag 93) (tag 90) (tag 73) (tag 71) (tag 69)) ∷
    is (Loop (tag 82) (Some (tag 107)) None) ∷
    is (Vertex (tag 65) (record { x = pos 0; y = pos 0; z = pos 4 })) ∷
    listed (67 ∷ 82 ∷ 103 ∷ 108 ∷ 113 ∷ 118 ∷ []) ∷
    listed (73 ∷ 77 ∷ 81 ∷ 86 ∷ []) ∷
    counts 8 12 6 0 (pos 1) ∷
    refused FlatSweep ∷
    refused (NoAttribute (tag 65)) ∷
    made 123 123 ∷
    is (Attr (tag 82) k_top (negsuc 4)) ∷
    done ∷
    refused (NoSuchTag (tag 123)) ∷
    listed [] ∷ []

-- A square is drawn on the upper face, and cut out of it. Its face is then killed, and the square
-- is a ring of the lower face: that is a hole. It is filled again.
abbrev pub hole : List Line
hole =
    Does (Block (at 0 0 0) (at 8 8 8)) ∷
    Does (Mev (tag 107) (at 2 2 8)) ∷
    Does (Kemr (tag 125)) ∷
    Draws 2 ∷
    Does (Mev (tag 127) (at 6 2 8)) ∷
    Does (Mev (tag 131) (at 6 6 8)) ∷
    Does (Mef (tag 130) (tag 135)) ∷
    Does (Ring (tag 127)) ∷
    Does (Counts (tag 65)) ∷
    Does (Kfmrh (tag 67) (tag 82)) ∷
    Does (Kfmrh (tag 67) (tag 136)) ∷
    Does (Counts (tag 65)) ∷
    Does (Mfkrh (tag 137)) ∷
    Does (Counts (tag 65)) ∷ []

-- what must be answered, after the claim
abbrev pub hole_answers : List Answer
hole_answers =
    None ∷
    made 65 122 ∷
    made 123 126 ∷
    made 127 127 ∷
    None ∷
    made 128 131 ∷
    made 132 135 ∷
    made 136 140 ∷
    listed (131 ∷ 140 ∷ 135 ∷ []) ∷
    counts 11 15 7 1 (pos 1) ∷
    refused (HasRings (tag 82)) ∷
    done ∷
    counts 11 15 6 2 (pos 0) ∷
    made 141 141 ∷
    counts 11 15 7 1 (pos 1) ∷ []
