-- Journals of partition 1 with vertex bodies, and what each must answer.
use Rattle.std.specs.Prelude.{ℕ, ℤ, pos, negsuc, List, [], ◌∷◌, ◌++◌, map, drop, replicate, Option, Some, None, Result, Ok, Err, option_map}
use Rattle.std.specs.FinMap.{insert}
use Rattle.pk_base.specs.declared.tag.Tag.{Tag}
use Rattle.pk_base.specs.declared.entity.Entity.TheVariants.{Body}
use Rattle.pk_base.specs.declared.list.MarkRow.{MarkRow}
use Rattle.pk_base.specs.declared.act.Act.{Act}
use Rattle.pk_base.specs.declared.act.Act.TheVariants as act
use Rattle.pk_base.specs.declared.call.Call.TheVariants.{Mvfs}
use Rattle.pk_base.specs.declared.act.Entry.{Entry}
use Rattle.pk_base.specs.declared.act.Entry.TheVariants.{Claimed, Drew, Did, Spent, Released}
use Rattle.pk_base.specs.declared.act.Reply.{Reply}
use Rattle.pk_base.specs.declared.act.Reply.TheVariants.{Made, Done, Went}
use Rattle.pk_base.specs.declared.act.Reply.TheVariants as reply
use Rattle.pk_base.specs.declared.refusal.Refusal.{Refusal}
use Rattle.pk_base.specs.declared.refusal.Refusal.TheVariants.{OutOfRange, NotOurs, NotAMark, MarkDeleted, InitialMark}
use Rattle.pk_base.specs.Blocks.{tag}
use Rattle.pk_model.specs.State.{PartitionState}
use Rattle.pk_model.specs.Modelling.{Modelling}
use Rattle.pk_model.specs.Replay.{replay, AnsweredEntry, answered_entries}
use Rattle.pk_model.specs.VertexBodies.{vertex_bodies, IsClosed}
use Rattle.pk_laws.specs.WorkedMaps.{lists, tags_from}

-- the act that makes a vertex body at (x, 0, 0)
abbrev pub vertex_body : ℕ → Act
vertex_body x = act.Call (Mvfs (record { x = pos x; y = pos 0; z = pos 0 }))

-- what an entry answers: nothing where it has no act
abbrev pub Answer : Type 0
Answer = Option (Result Reply Refusal)

-- these tags were taken
abbrev pub made : List ℕ → Answer
made ns = Some (Ok (Made (tags_from ns)))

-- how what was reached differs from what was left
abbrev pub went : List ℕ → List ℕ → List ℕ → Answer
went fresh gone changed = Some (Ok (Went (lists fresh gone changed)))

-- the act was refused
abbrev pub refused : Refusal → Answer
refused e = Some (Err e)

-- what the entries of partition 1 answer, with vertex bodies
abbrev pub answers : List Entry → List Answer
answers journal = map (λ (x : AnsweredEntry). x.answer) (answered_entries vertex_bodies 1 journal)

-- how many tags are taken at the end
abbrev pub used_by : List Entry → Option ℕ
used_by journal = option_map (λ (s : PartitionState). s.used) (replay vertex_bodies 1 journal)

-- a body, a mark and a second body; then back to the mark, and to the beginning
abbrev pub there_and_back : List Entry
there_and_back =
    Claimed 1 ∷
    Did 1 (vertex_body 0) ∷
    Did 1 act.Mark ∷
    Did 1 (vertex_body 1) ∷
    Did 1 (act.Goto (tag 70)) ∷
    Did 1 (act.Goto (tag 64)) ∷
    Released 1 ∷ []

-- what its entries must answer
abbrev pub there_and_back_answers : List Answer
there_and_back_answers =
    None ∷
    made (65 ∷ 66 ∷ 67 ∷ 68 ∷ 69 ∷ []) ∷
    made (70 ∷ []) ∷
    made (71 ∷ 72 ∷ 73 ∷ 74 ∷ 75 ∷ []) ∷
    went [] (71 ∷ 72 ∷ 73 ∷ 74 ∷ 75 ∷ []) [] ∷
    went [] (65 ∷ 66 ∷ 67 ∷ 68 ∷ 69 ∷ []) [] ∷
    None ∷ []

-- two branches below the mark 70: what is made on the second has new tags, and the first comes back
-- under its own
abbrev pub two_branches : List Entry
two_branches =
    Claimed 1 ∷
    Did 1 (vertex_body 0) ∷
    Did 1 act.Mark ∷
    Did 1 (vertex_body 1) ∷
    Did 1 act.Mark ∷
    Did 1 (act.Goto (tag 70)) ∷
    Did 1 (vertex_body 2) ∷
    Did 1 (act.Goto (tag 76)) ∷ []

-- what its entries must answer
abbrev pub two_branches_answers : List Answer
two_branches_answers =
    None ∷
    made (65 ∷ 66 ∷ 67 ∷ 68 ∷ 69 ∷ []) ∷
    made (70 ∷ []) ∷
    made (71 ∷ 72 ∷ 73 ∷ 74 ∷ 75 ∷ []) ∷
    made (76 ∷ []) ∷
    went [] (71 ∷ 72 ∷ 73 ∷ 74 ∷ 75 ∷ []) [] ∷
    made (77 ∷ 78 ∷ 79 ∷ 80 ∷ 81 ∷ []) ∷
    went (71 ∷ 72 ∷ 73 ∷ 74 ∷ 75 ∷ []) (77 ∷ 78 ∷ 79 ∷ 80 ∷ 81 ∷ []) [] ∷ []

-- tags that are no live mark of partition 1
abbrev pub no_marks : List Entry
no_marks =
    Claimed 1 ∷
    Did 1 (act.Goto (tag 128)) ∷
    Did 1 (act.Goto (tag 65)) ∷
    Did 1 (act.Unmark (tag 64)) ∷
    Did 1 act.Mark ∷
    Did 1 (act.Unmark (tag 65)) ∷
    Did 1 (act.Goto (tag 65)) ∷ []

-- what its entries must answer
abbrev pub no_marks_answers : List Answer
no_marks_answers =
    None ∷
    refused (NotOurs (tag 128)) ∷
    refused (NotAMark (tag 65)) ∷
    refused InitialMark ∷
    made (65 ∷ []) ∷
    Some (Ok Done) ∷
    refused (MarkDeleted (tag 65)) ∷ []

-- marks below marks: the children of a deleted mark become its parent's
abbrev pub below_a_deleted_mark : List Entry
below_a_deleted_mark =
    Claimed 1 ∷
    Did 1 act.Mark ∷
    Did 1 (vertex_body 0) ∷
    Did 1 act.Mark ∷
    Did 1 (act.Delta (tag 71)) ∷
    Did 1 act.Marks ∷
    Did 1 (act.Unmark (tag 65)) ∷
    Did 1 act.Marks ∷
    Did 1 (act.Delta (tag 71)) ∷
    Did 1 (act.Delta (tag 64)) ∷ []

-- a live mark and its parent
abbrev pub row : ℕ → Option Tag → MarkRow
row n parent = record { tag = tag n; parent = parent }

-- the current mark, and the live ones
abbrev pub marks_are : ℕ → List MarkRow → Answer
marks_are at rows = Some (Ok (reply.Marks (tag at) rows))

-- a mark from its parent: only these tags are new
abbrev pub delta : List ℕ → Answer
delta fresh = Some (Ok (reply.Delta (lists fresh [] [])))

-- what its entries must answer
abbrev pub below_a_deleted_mark_answers : List Answer
below_a_deleted_mark_answers =
    None ∷
    made (65 ∷ []) ∷
    made (66 ∷ 67 ∷ 68 ∷ 69 ∷ 70 ∷ []) ∷
    made (71 ∷ []) ∷
    delta (66 ∷ 67 ∷ 68 ∷ 69 ∷ 70 ∷ []) ∷
    marks_are 71 (row 64 None ∷ row 65 (Some (tag 64)) ∷ row 71 (Some (tag 65)) ∷ []) ∷
    Some (Ok Done) ∷
    marks_are 71 (row 64 None ∷ row 71 (Some (tag 64)) ∷ []) ∷
    delta (66 ∷ 67 ∷ 68 ∷ 69 ∷ 70 ∷ []) ∷
    refused InitialMark ∷ []

-- thread 1 makes a vertex body here
abbrev pub vertex_body_at : ℤ → ℤ → ℤ → Entry
vertex_body_at x y z = Did 1 (act.Call (Mvfs (record { x = x; y = y; z = z })))

-- Points of which the first two are outside and the third is just within: a coordinate may be
-- 1,048,576 at most, and -1,048,576 at least. A call that is refused takes no tags.
abbrev pub outside : List Entry
outside =
    Claimed 1 ∷
    vertex_body_at (pos 1048577) (pos 0) (negsuc 1048576) ∷
    vertex_body_at (pos 0) (pos 0) (negsuc 1048576) ∷
    vertex_body_at (pos 1048576) (pos 0) (negsuc 1048575) ∷ []

-- what its entries must answer
abbrev pub outside_answers : List Answer
outside_answers = None ∷ refused (OutOfRange (pos 1048577)) ∷ refused (OutOfRange (negsuc 1048576))
    ∷ made (65 ∷ 66 ∷ 67 ∷ 68 ∷ 69 ∷ []) ∷ []

-- Twelve bodies take the tags 65 to 124 of block 1, so a thirteenth wants a block first, and takes
-- tags of both.
abbrev pub twelve_bodies : List Entry
twelve_bodies = Claimed 1 ∷ replicate 12 (Did 1 (vertex_body 0))

-- what these entries answer after the twelve bodies
abbrev pub then_answers : List Entry → List Answer
then_answers es = drop 13 (answers (twelve_bodies ++ es))

-- a journal that draws block b
abbrev pub drawn_journal : ℕ → List Entry
drawn_journal b = Claimed 1 ∷ Drew 1 b ∷ Released 1 ∷ []

-- a journal of a thread that wants more tags than are left, and finds the next block k above the
-- last
abbrev pub spent_journal : ℕ → List Entry
spent_journal k = twelve_bodies ++ Spent 1 k (vertex_body 1) ∷ Released 1 ∷ []

-- ---- a modeller that makes a body under tag 65, and says that it takes no tag

-- its maps are sound as those of vertex bodies are, and each of its calls, whatever it is, makes
-- that body
abbrev pub untidy : Modelling
untidy = record {
  sound = IsClosed;
  cost = λ m c. 0;
  changes = λ m c. 1;
  list = λ m c. 0;
  step = λ m c tags. Ok (record { map = insert m (tag 65) (Body (tag 65)); reply = Done });
}
