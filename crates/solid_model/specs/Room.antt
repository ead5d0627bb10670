-- The tags that a call may put: those that it takes, and those of what stands already that it may
-- change or kill. The body that does it writes no others, and takes room for them first.
use Rattle.std.specs.Prelude.{ℕ, ◌+◌, ◌&&◌, List, [], ◌∷◌, ◌++◌, map, filter, take, length, Result, Ok, Err}
use Rattle.pk_base.specs.Entity.{same_tag}
use Rattle.pk_base.specs.declared.tag.Tag.{Tag}
use Rattle.pk_base.specs.declared.entity.Class.TheVariants as class
use Rattle.pk_base.specs.declared.refusal.Refusal.{Refusal}
use Rattle.pk_base.specs.declared.call.Call.{Call}
use Rattle.pk_base.specs.declared.call.Call.TheVariants.{Mvfs, Mev, Mef, Mekr, Mfkrh, Kvfs, Kev, Kef, Kemr, Kfmrh, RingMove, Lamina, Block, Prism, Sweep, Move, Turn, Delete, SetAttr, DropAttr, Ask, Kids, Ring, Counts, Bodies}
use Rattle.solid_model.specs.Items.{Shape, class_of_item}
use Rattle.solid_model.specs.Rings.{ends_of, next_in, previous_in}
use Rattle.solid_model.specs.Owners.{all_in_body, body_of, same_class}
use Rattle.solid_model.specs.Deaths.{dies_with}
use Rattle.solid_model.specs.Rows.{cost_of}
use Rattle.solid_model.specs.Places.{PlacedFace, PlacedFin, PlacedLoop, End, face_at, loop_at, fin_at, end_at, fins_at, start_at}
use Rattle.solid_model.specs.Attributes.{attribute_named}
use Rattle.solid_model.specs.Calls.{row_of}
use Rattle.solid_model.specs.Sound.{optional}

-- what dies with these: they themselves, and their attributes
abbrev pub dying : Shape → List Tag → List Tag
dying S killed = map (λ x. x.0) (filter (dies_with killed) S)

-- none where the operand is refused
abbrev pub if_found : {A : Type 0} → (A → List Tag) → Result A Refusal → List Tag
if_found tags (Ok a) = tags a
if_found tags (Err e) = []

-- ---- what stands already, and is changed or killed

-- mev: the loop, and the fins beside the new edge
abbrev pub changed_by_mev : End → List Tag
changed_by_mev u = u.loop_ ∷ ends_of u.fins

-- mef: the loop, and its fins, all of which may be given to the new loop
abbrev pub changed_by_mef : PlacedFin → List Tag
changed_by_mef u = u.loop_ ∷ u.fins

-- mekr: the ring, which dies, the loop that is kept, its fins beside the new edge, and the fins of
-- the ring
abbrev pub changed_by_mekr : Shape → End → End → List Tag
changed_by_mekr S u v = dying S (v.loop_ ∷ []) ++ u.loop_ ∷ ends_of u.fins ++ v.fins

-- mfkrh: the loop, and the shell
abbrev pub changed_by_mfkrh : Tag → PlacedLoop → List Tag
changed_by_mfkrh l r = l ∷ r.shell ∷ []

-- kev: what dies, the loop, and its fins beside the edge
abbrev pub changed_by_kev : Shape → Tag → PlacedFin → List Tag
changed_by_kev S f u =
    dying S (f ∷ u.mate ∷ u.edge ∷ start_at S u.mate ∷ [])
    ++ u.loop_ ∷ next_in u.fins u.mate ∷ previous_in u.fins f ∷ []

-- kef: what dies, the loop that stays, its fins beside the edge, and the fins of the other loop
abbrev pub changed_by_kef : Shape → Tag → PlacedFin → PlacedFin → List Tag
changed_by_kef S x u v =
    dying S (u.loop_ ∷ u.face ∷ x ∷ u.mate ∷ u.edge ∷ [])
    ++ v.loop_ ∷ next_in v.fins u.mate ∷ previous_in v.fins u.mate ∷ u.fins

-- kemr: what dies, the loop, and its fins
abbrev pub changed_by_kemr : Shape → Tag → PlacedFin → List Tag
changed_by_kemr S f u = dying S (f ∷ u.mate ∷ u.edge ∷ []) ++ u.loop_ ∷ u.fins

-- kfmrh: the face, which dies, its loop, and the shell
abbrev pub changed_by_kfmrh : Shape → Tag → PlacedFace → List Tag
changed_by_kfmrh S b kill = dying S (b ∷ []) ++ kill.outer ∷ kill.shell ∷ []

-- sweep: the outer loop of the face, and its fins
abbrev pub changed_by_sweep : Shape → PlacedFace → List Tag
changed_by_sweep S face = face.outer ∷ fins_at S face.outer

-- move and turn: the vertices of the body
abbrev pub vertices_in_body : Shape → Tag → List Tag
vertices_in_body S b =
    map (λ x. x.0) (filter (λ x. same_class (class_of_item x.1) class.Vertex
    && same_tag (body_of S x.0) b) S)

-- the tags of what stands already that the call may change or kill
abbrev pub tags_changed : Shape → Call → List Tag
tags_changed S (Mvfs at) = []
tags_changed S (Mev end at) = if_found changed_by_mev (end_at S end)
tags_changed S (Mef start end) = if_found changed_by_mef (fin_at S start)
tags_changed S (Mekr keep r) =
    if_found (λ u. if_found (changed_by_mekr S u) (end_at S r)) (end_at S keep)
tags_changed S (Mfkrh r) = if_found (changed_by_mfkrh r) (loop_at S r)
tags_changed S (Kvfs body) = all_in_body S body
tags_changed S (Kev fin) = if_found (changed_by_kev S fin) (fin_at S fin)
tags_changed S (Kef fin) =
    if_found (λ u. if_found (changed_by_kef S fin u) (fin_at S u.mate)) (fin_at S fin)
tags_changed S (Kemr fin) = if_found (changed_by_kemr S fin) (fin_at S fin)
tags_changed S (Kfmrh keep kill) = if_found (changed_by_kfmrh S kill) (face_at S kill)
tags_changed S (RingMove r face) = if_found (λ placed. r ∷ []) (loop_at S r)
tags_changed S (Lamina z corners) = []
tags_changed S (Block at size) = []
tags_changed S (Prism z h corners) = []
tags_changed S (Sweep face by) = if_found (changed_by_sweep S) (face_at S face)
tags_changed S (Move body by) = vertices_in_body S body
tags_changed S (Turn body axis turns) = vertices_in_body S body
tags_changed S (Delete body) = all_in_body S body
-- the attribute that has the name, where there is one: else it is taken
tags_changed S (SetAttr owner name value) = optional (attribute_named S owner name)
tags_changed S (DropAttr owner name) = optional (attribute_named S owner name)
tags_changed S (Ask t) = []
tags_changed S (Kids t) = []
tags_changed S (Ring r) = []
tags_changed S (Counts body) = []
tags_changed S Bodies = []

-- ---- all that is put

-- the tags that the call may put, with these next
abbrev pub tags_put : Shape → Call → List Tag → List Tag
tags_put S c tags = take (cost_of (row_of S c)) tags ++ tags_changed S c

-- how many they are at most
abbrev pub puts_of : Shape → Call → ℕ
puts_of S c = cost_of (row_of S c) + length (tags_changed S c)
