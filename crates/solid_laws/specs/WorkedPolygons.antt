-- Prisms, and what is refused of polygons, points and sizes.
use Rattle.std.specs.Prelude.{ℕ, ◌*◌, pos, negsuc, List, [], ◌∷◌, ◌++◌, map, replicate, None, Some, Ok}
use Rattle.std.specs.List.{range_with_len}
use Rattle.pk_base.specs.Blocks.{tag}
use Rattle.pk_base.specs.declared.entity.Pair.{Pair}
use Rattle.pk_base.specs.declared.act.Reply.TheVariants.{Made}
use Rattle.pk_base.specs.declared.call.Call.{Call}
use Rattle.pk_base.specs.declared.call.Call.TheVariants.{Mvfs, Block, Prism, Sweep, Counts}
use Rattle.pk_base.specs.declared.refusal.Refusal.TheVariants.{OutOfRange, CornerCount, BadPolygon}
use Rattle.solid_laws.specs.WorkedCalls.{Line, Answer, tags_to, made, counts, refused, at, corner}
use Rattle.solid_laws.specs.WorkedCalls.Line.{Does, Draws}

-- a prism of height 1 from height 0
abbrev pub unit_prism : List Pair → Call
unit_prism corners = Prism (pos 0) (pos 1) corners

-- so many corners of a parabola
abbrev pub parabola : ℕ → List Pair
parabola n = map (λ i. corner i (i * i)) (range_with_len 0 n)

abbrev pub limits : List Line
limits =
    Does (unit_prism (parabola 257)) ∷
    Does (unit_prism (corner 0 0 ∷ corner 2 2 ∷ corner 2 0 ∷ corner 0 2 ∷ [])) ∷
    Does (unit_prism (corner 0 0 ∷ corner 0 1 ∷ corner 1 0 ∷ [])) ∷
    Does (unit_prism []) ∷
    Does (Mvfs (at 1048577 0 0)) ∷
    Does (Block (at 0 0 0) (at 0 1 1)) ∷
    Does (Mvfs (record { x = pos 1048576; y = negsuc 1048575; z = pos 0 })) ∷ []

-- what must be answered, after the claim
abbrev pub limits_answers : List Answer
limits_answers =
    None ∷
    refused (CornerCount 257) ∷
    refused (BadPolygon 2) ∷
    refused (BadPolygon 3) ∷
    refused (CornerCount 0) ∷
    refused (OutOfRange (pos 1048577)) ∷
    refused (OutOfRange (pos 0)) ∷
    made 65 69 ∷ []

-- A prism of the greatest number of corners. It takes 3,334 tags, of the blocks 1 to 53.
abbrev pub largest : List Line
largest = map Draws (range_with_len 2 52) ++ Does (unit_prism (parabola 256)) ∷ []

-- what must be answered, after the claim
abbrev pub largest_answers : List Answer
largest_answers = None ∷ replicate 52 None ++ made 65 3398 ∷ []

-- A plate with two notches, whose faces are no convex polygons. It takes tags of the blocks 1, 3
-- and 4. Then its upper face is swept, with tags of the blocks 4 to 6.
abbrev pub plate : List Line
plate =
    Draws 3 ∷
    Draws 4 ∷
    Does (Prism (pos 0) (pos 30)
    (corner 0 0 ∷ corner 60 0 ∷ corner 60 20 ∷ corner 50 20 ∷ corner 50 30 ∷ corner 60 30 ∷
    corner 60 50 ∷ corner 0 50 ∷ corner 0 30 ∷ corner 10 30 ∷ corner 10 20 ∷ corner 0 20 ∷ [])) ∷
    Does (Counts (tag 65)) ∷
    Draws 5 ∷
    Draws 6 ∷
    Does (Sweep (tag 114) (at 0 0 10)) ∷
    Does (Counts (tag 65)) ∷ []

-- what must be answered, after the claim
abbrev pub plate_answers : List Answer
plate_answers =
    None ∷
    None ∷
    None ∷
    Some (Ok (Made (tags_to 65 127 ++ tags_to 192 290))) ∷
    counts 24 36 14 0 (pos 1) ∷
    None ∷
    None ∷
    made 291 398 ∷
    counts 36 60 26 0 (pos 1) ∷ []
