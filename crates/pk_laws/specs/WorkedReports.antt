-- Scripts, and reports of them with vertex bodies: one mark; two threads that share two partitions;
-- and a thread that uses up its block.
use Rattle.std.specs.Prelude.{ℕ, ◌+◌, ◌*◌, List, [], ◌∷◌, ◌++◌, map, None, Some}
use Rattle.std.specs.List.{range_with_len}
use Rattle.pk_base.specs.Blocks.{tag}
use Rattle.pk_base.specs.declared.act.Act.{Act}
use Rattle.pk_base.specs.declared.act.Act.TheVariants as act
use Rattle.pk_base.specs.declared.act.Entry.{Entry}
use Rattle.pk_base.specs.declared.act.Entry.TheVariants.{Claimed, Drew, Did, Spent, Released}
use Rattle.pk_base.specs.declared.act.Reply.TheVariants.{Made, Went}
use Rattle.pk_base.specs.declared.refusal.Refusal.TheVariants.{TagsSpent, NotLocked}
use Rattle.script_text.specs.declared.script.Script.{Script}
use Rattle.script_text.specs.declared.script.ScriptLine.{ScriptLine}
use Rattle.script_text.specs.declared.script.Order.{Order}
use Rattle.script_text.specs.declared.script.Order.TheVariants.{Lock, Unlock, End, On}
use Rattle.script_text.specs.declared.script.Operand.TheVariants.{Named}
use Rattle.script_text.specs.declared.report.Report.{Report}
use Rattle.script_text.specs.declared.report.Line.{Line}
use Rattle.script_text.specs.declared.report.LineSaid.{LineSaid}
use Rattle.script_text.specs.declared.report.LineSaid.TheVariants.{Locked, Unlocked, Ended, Answer, Refused}
use Rattle.pk_laws.specs.WorkedMaps.{lists, tags_from}
use Rattle.pk_laws.specs.WorkedJournals.{vertex_body}
use Rattle.pk_laws.specs.WorkedOrders.{name_m}

-- ---- pieces

-- line k of a script
abbrev pub line : ℕ → Order → ScriptLine
line k order = record { number = k; order = order }

-- an act in partition p without tag operands
abbrev pub plain_order : ℕ → Act → Order
plain_order p a = On p a [] None

-- the answer to line k
abbrev pub told_at : ℕ → LineSaid → Line
told_at k said = record { number = k; said = said }

-- these tags were taken
abbrev pub made : List ℕ → LineSaid
made ns = Answer (Made (tags_from ns))

-- a script of n partitions and these threads
abbrev pub script_of_threads : ℕ → ℕ → List (List ScriptLine) → Script
script_of_threads n last threads = record { n = n; last = last; schedule = []; threads = threads }

-- a report of n partitions, with these transcripts and journals
abbrev pub report_of : ℕ → ℕ → List (List Line) → List (List Entry) → Report
report_of n last threads journals =
    record { n = n; last = last; threads = threads; journals = journals }

-- ---- one mark

-- lock 1, mark, end
abbrev pub mark_lines : List ScriptLine
mark_lines = line 3 (Lock 1) ∷ line 4 (plain_order 1 act.Mark) ∷ line 5 End ∷ []

-- one thread with these lines
abbrev pub mark_script : Script
mark_script = script_of_threads 1 1 (mark_lines ∷ [])

-- what the thread does to the partition
abbrev pub mark_journal : List Entry
mark_journal = Claimed 1 ∷ Did 1 act.Mark ∷ Released 1 ∷ []

-- the transcript in which the mark's line is told this
abbrev pub mark_said : LineSaid → List Line
mark_said said = told_at 3 Locked ∷ told_at 4 said ∷ told_at 5 (Ended (1 ∷ [])) ∷ []

-- the report with this transcript
abbrev pub mark_report : LineSaid → Report
mark_report said = report_of 1 1 (mark_said said ∷ []) (mark_journal ∷ [])

-- lock 1, end
abbrev pub bare_lines : List ScriptLine
bare_lines = line 3 (Lock 1) ∷ line 5 End ∷ []

-- one thread with these lines
abbrev pub bare_script : Script
bare_script = script_of_threads 1 1 (bare_lines ∷ [])

-- its transcript
abbrev pub bare_said : List Line
bare_said = told_at 3 Locked ∷ told_at 5 (Ended (1 ∷ [])) ∷ []

-- this transcript beside the journal with the mark: no line tells of it
abbrev pub untold_report : Report
untold_report = report_of 1 1 (bare_said ∷ []) (mark_journal ∷ [])

-- a script without an end
abbrev pub endless_script : Script
endless_script = script_of_threads 1 1 ((line 3 (Lock 1) ∷ []) ∷ [])

-- a report of it, in which nobody lets the partition go
abbrev pub held_report : Report
held_report = report_of 1 1 ((told_at 3 Locked ∷ []) ∷ []) ((Claimed 1 ∷ []) ∷ [])

-- ---- two threads and two partitions

-- Thread 1 holds both partitions. It makes a mark between two bodies, names it m, goes back to it
-- by that name, and ends, which lets both go.
abbrev pub first_lines : List ScriptLine
first_lines =
    line 3 (Lock 1) ∷
    line 4 (Lock 2) ∷
    line 5 (plain_order 1 (vertex_body 0)) ∷
    line 6 (On 1 act.Mark [] (Some name_m)) ∷
    line 7 (plain_order 1 (vertex_body 1)) ∷
    line 8 (On 1 (act.Goto (tag 0)) (Named name_m 0 ∷ []) None) ∷
    line 9 End ∷ []

-- what it is told
abbrev pub first_said : List Line
first_said =
    told_at 3 Locked ∷
    told_at 4 Locked ∷
    told_at 5 (made (65 ∷ 66 ∷ 67 ∷ 68 ∷ 69 ∷ [])) ∷
    told_at 6 (made (70 ∷ [])) ∷
    told_at 7 (made (71 ∷ 72 ∷ 73 ∷ 74 ∷ 75 ∷ [])) ∷
    told_at 8 (Answer (Went (lists [] (71 ∷ 72 ∷ 73 ∷ 74 ∷ 75 ∷ []) []))) ∷
    told_at 9 (Ended (1 ∷ 2 ∷ [])) ∷ []

-- Thread 2 makes a mark in partition 2, lets it go, wants a mark in it again, claims partition 1
-- and ends.
abbrev pub second_lines : List ScriptLine
second_lines =
    line 11 (Lock 2) ∷
    line 12 (plain_order 2 act.Mark) ∷
    line 13 (Unlock 2) ∷
    line 14 (plain_order 2 act.Mark) ∷
    line 15 (Lock 1) ∷
    line 16 End ∷ []

-- what it is told
abbrev pub second_said : List Line
second_said =
    told_at 11 Locked ∷
    told_at 12 (made (129 ∷ [])) ∷
    told_at 13 Unlocked ∷
    told_at 14 (Refused (NotLocked 2)) ∷
    told_at 15 Locked ∷
    told_at 16 (Ended (1 ∷ [])) ∷ []

-- partition 1: thread 1 comes first
abbrev pub first_journal : List Entry
first_journal =
    Claimed 1 ∷
    Did 1 (vertex_body 0) ∷
    Did 1 act.Mark ∷
    Did 1 (vertex_body 1) ∷
    Did 1 (act.Goto (tag 70)) ∷
    Released 1 ∷
    Claimed 2 ∷
    Released 2 ∷ []

-- partition 2: thread 2 comes first
abbrev pub second_journal : List Entry
second_journal = Claimed 2 ∷ Did 2 act.Mark ∷ Released 2 ∷ Claimed 1 ∷ Released 1 ∷ []

-- both threads
abbrev pub shared_script : Script
shared_script = script_of_threads 2 2 (first_lines ∷ second_lines ∷ [])

-- both transcripts and both journals
abbrev pub shared_report : Report
shared_report = report_of 2 2 (first_said ∷ second_said ∷ []) (first_journal ∷ second_journal ∷ [])

-- ---- a wrong order

-- thread 1 makes a body and then a mark in partition 1, and a mark in partition 2
abbrev pub ordered_lines : List ScriptLine
ordered_lines =
    line 3 (Lock 1) ∷
    line 4 (Lock 2) ∷
    line 5 (plain_order 1 (vertex_body 0)) ∷
    line 6 (plain_order 1 act.Mark) ∷
    line 7 (plain_order 2 act.Mark) ∷
    line 8 End ∷ []

-- one thread with these lines
abbrev pub ordered_script : Script
ordered_script = script_of_threads 2 2 (ordered_lines ∷ [])

-- its transcript, where the body takes these tags and the mark takes that one
abbrev pub ordered_said : List ℕ → ℕ → List Line
ordered_said body mark =
    told_at 3 Locked ∷
    told_at 4 Locked ∷
    told_at 5 (made body) ∷
    told_at 6 (made (mark ∷ [])) ∷
    told_at 7 (made (129 ∷ [])) ∷
    told_at 8 (Ended (1 ∷ 2 ∷ [])) ∷ []

-- the journal of partition 1 with these two acts of thread 1, in this order
abbrev pub ordered_journal : Act → Act → List Entry
ordered_journal one other = Claimed 1 ∷ Did 1 one ∷ Did 1 other ∷ Released 1 ∷ []

-- this journal, and that of partition 2 with its mark
abbrev pub ordered_journals : Act → Act → List (List Entry)
ordered_journals one other = ordered_journal one other ∷ mark_journal ∷ []

-- the report whose journals tell the lines in their order
abbrev pub in_order : Report
in_order = report_of 2 2 (ordered_said (65 ∷ 66 ∷ 67 ∷ 68 ∷ 69 ∷ []) 70 ∷ [])
    (ordered_journals (vertex_body 0) act.Mark)

-- the one whose journals tell the mark before the body; what the lines are told fits the journals
abbrev pub out_of_order : Report
out_of_order = report_of 2 2 (ordered_said (66 ∷ 67 ∷ 68 ∷ 69 ∷ 70 ∷ []) 65 ∷ [])
    (ordered_journals act.Mark (vertex_body 0))

-- ---- a block that is used up

-- A line that makes a body. Twelve bodies take the tags 65 to 124 of block 1, and a thirteenth
-- wants two more than are left.
abbrev pub body_line : ℕ → ScriptLine
body_line k = line k (plain_order 1 (vertex_body 0))

-- lock 1, thirteen bodies, end
abbrev pub full_lines : List ScriptLine
full_lines = line 3 (Lock 1) ∷ map body_line (range_with_len 4 13) ++ line 17 End ∷ []

-- one thread with these lines, and this last block
abbrev pub full_script : ℕ → Script
full_script last = script_of_threads 1 last (full_lines ∷ [])

-- the body of line k takes five tags
abbrev pub body_said : ℕ → Line
body_said k =
    let n = 45 + 5 * k in told_at k (made (n ∷ (n + 1) ∷ (n + 2) ∷ (n + 3) ∷ (n + 4) ∷ []))

-- the transcript in which the thirteenth body is told this
abbrev pub full_said : LineSaid → List Line
full_said said = told_at 3 Locked ∷ map body_said (range_with_len 4 12) ++ told_at 16 said
    ∷ told_at 17 (Ended (1 ∷ [])) ∷ []

-- a journal of twelve bodies and then these entries
abbrev pub full_journal : List Entry → List Entry
full_journal more =
    Claimed 1 ∷ map (λ k. Did 1 (vertex_body 0)) (range_with_len 4 12) ++ more ++ Released 1 ∷ []

-- the report in which the thirteenth body is told this, after these entries
abbrev pub full_report : ℕ → LineSaid → List Entry → Report
full_report last said more = report_of 1 last (full_said said ∷ []) (full_journal more ∷ [])

-- block b is drawn, and the body takes tags of both
abbrev pub drawn_report : ℕ → ℕ → Report
drawn_report last b =
    full_report last (made (125 ∷ 126 ∷ 127 ∷ (64 * b) ∷ (64 * b + 1) ∷ []))
    (Drew 1 b ∷ Did 1 (vertex_body 0) ∷ [])

-- the next block is above the last, and the body is refused
abbrev pub spent_report : ℕ → ℕ → Report
spent_report last next =
    full_report last (Refused (TagsSpent next)) (Spent 1 next (vertex_body 0) ∷ [])

-- the script of one mark, with two blocks
abbrev pub wasteful_script : Script
wasteful_script = script_of_threads 1 2 (mark_lines ∷ [])

-- the report whose mark draws block 2, though block 1 has tags enough
abbrev pub wasteful_report : Report
wasteful_report = report_of 1 2 (mark_said (made (65 ∷ [])) ∷ [])
    ((Claimed 1 ∷ Drew 1 2 ∷ Did 1 act.Mark ∷ Released 1 ∷ []) ∷ [])
