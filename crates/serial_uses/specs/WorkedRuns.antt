-- Scripts as data, each with the report of its run over vertex bodies.
use Rattle.std.specs.Prelude.{ℕ, ◌+◌, ◌*◌, pos, [], ◌∷◌, ◌++◌, map, replicate, Some, None}
use Rattle.std.specs.List.{range_with_len}
use Rattle.pk_base.specs.Blocks.{tag}
use Rattle.pk_base.specs.declared.entity.Name.{Name}
use Rattle.pk_base.specs.declared.act.Act.{Act}
use Rattle.pk_base.specs.declared.act.Act.TheVariants as act
use Rattle.pk_base.specs.declared.act.Entry.TheVariants.{Claimed, Did, Spent, Released}
use Rattle.pk_base.specs.declared.act.Reply.TheVariants.{Done, Made}
use Rattle.pk_base.specs.declared.call.Call.TheVariants.{Mvfs}
use Rattle.pk_base.specs.declared.refusal.Refusal.TheVariants.{LockOrder, NoName, NotAMark, NotLocked, TagsSpent}
use Rattle.script_text.specs.declared.script.Script.{Script}
use Rattle.script_text.specs.declared.script.ScriptLine.{ScriptLine}
use Rattle.script_text.specs.declared.script.Order.{Order}
use Rattle.script_text.specs.declared.script.Order.TheVariants.{Lock, Unlock, End, On}
use Rattle.script_text.specs.declared.script.Operand.TheVariants.{Named}
use Rattle.script_text.specs.declared.report.Report.{Report}
use Rattle.script_text.specs.declared.report.Line.{Line}
use Rattle.script_text.specs.declared.report.LineSaid.{LineSaid}
use Rattle.script_text.specs.declared.report.LineSaid.TheVariants.{Locked, Unlocked, Ended, Answer, Refused}

-- ---- lines and what is said to them

abbrev pub line : ℕ → Order → ScriptLine
line k order = record { number = k; order = order }

abbrev pub told : ℕ → LineSaid → Line
told k said = record { number = k; said = said }

-- the act that makes a vertex body at (x, y, z)
abbrev pub vertex_body : ℕ → ℕ → ℕ → Act
vertex_body x y z = act.Call (Mvfs (record { x = pos x; y = pos y; z = pos z }))

-- an act without operands on partition p, and with none to bind
abbrev pub plain : ℕ → Act → Order
plain p a = On p a [] None

-- so many tags from this one on were taken
abbrev pub made : ℕ → ℕ → LineSaid
made first count = Answer (Made (map tag (range_with_len first count)))

-- the name b
abbrev pub name_b : Name
name_b = record { 0 = 98 ∷ replicate 15 0 }

-- an act on partition p, whose one operand is the tag at a place of the list that b is bound to
abbrev pub with_b : ℕ → Act → ℕ → Order
with_b p a place = On p a (Named name_b place ∷ []) None

-- ---- a lock that waits

-- One partition and two threads, of which the second one waits for the first.
abbrev pub blocked_script : Script
blocked_script = record {
  n = 1;
  last = 10;
  schedule = 1 ∷ 2 ∷ 2 ∷ 1 ∷ [];
  threads =
      (line 4 (Lock 1)
      ∷ line 5 (plain 1 (vertex_body 0 0 0))
      ∷ line 6 (Unlock 1)
      ∷ line 7 End
      ∷ [])
      ∷ (line 9 (Lock 1) ∷ line 10 (plain 1 (vertex_body 1 1 1)) ∷ line 11 End ∷ [])
      ∷ [];
}

abbrev pub blocked_report : Report
blocked_report = record {
  n = 1;
  last = 10;
  threads =
      (told 4 Locked ∷ told 5 (made 65 5) ∷ told 6 Unlocked ∷ told 7 (Ended []) ∷ [])
      ∷ (told 9 Locked ∷ told 10 (made 70 5) ∷ told 11 (Ended (1 ∷ [])) ∷ [])
      ∷ [];
  journals =
      (Claimed 1
      ∷ Did 1 (vertex_body 0 0 0)
      ∷ Released 1
      ∷ Claimed 2
      ∷ Did 2 (vertex_body 1 1 1)
      ∷ Released 2
      ∷ [])
      ∷ [];
}

-- ---- lines that are turned away, and a name

-- Two partitions and one thread: an act on a partition that is not locked, a lock out of order, and
-- a name that is bound twice and used with places.
abbrev pub named_script : Script
named_script = record {
  n = 2;
  last = 10;
  schedule = [];
  threads =
      (line 3 (plain 1 (vertex_body 0 0 0))
      ∷ line 4 (Lock 2)
      ∷ line 5 (Lock 1)
      ∷ line 6 (On 2 (vertex_body 0 0 0) [] (Some name_b))
      ∷ line 7 (with_b 2 (act.Goto (tag 0)) 4)
      ∷ line 8 (with_b 2 (act.Goto (tag 0)) 5)
      ∷ line 9 (On 2 act.Mark [] (Some name_b))
      ∷ line 10 (plain 2 (vertex_body 1 0 0))
      ∷ line 11 (with_b 2 (act.Unmark (tag 0)) 0)
      ∷ line 12 End
      ∷ [])
      ∷ [];
}

abbrev pub named_report : Report
named_report = record {
  n = 2;
  last = 10;
  threads =
      (told 3 (Refused (NotLocked 1))
      ∷ told 4 Locked
      ∷ told 5 (Refused (LockOrder 2))
      ∷ told 6 (made 129 5)
      ∷ told 7 (Refused (NotAMark (tag 133)))
      ∷ told 8 (Refused (NoName 1))
      ∷ told 9 (made 134 1)
      ∷ told 10 (made 135 5)
      ∷ told 11 (Answer Done)
      ∷ told 12 (Ended (2 ∷ []))
      ∷ [])
      ∷ [];
  journals =
      []
      ∷ (Claimed 1
      ∷ Did 1 (vertex_body 0 0 0)
      ∷ Did 1 (act.Goto (tag 133))
      ∷ Did 1 act.Mark
      ∷ Did 1 (vertex_body 1 0 0)
      ∷ Did 1 (act.Unmark (tag 134))
      ∷ Released 1
      ∷ [])
      ∷ [];
}

-- ---- tags that are spent

-- One partition, whose block is the last: twelve bodies, a thirteenth that is given up, and a mark,
-- for which there is a tag.
abbrev pub spent_script : Script
spent_script = record {
  n = 1;
  last = 1;
  schedule = [];
  threads =
      (line 3 (Lock 1)
      ∷ map (λ k. line k (plain 1 (vertex_body 0 0 0))) (range_with_len 4 13)
      ++ line 17 (plain 1 act.Mark)
      ∷ line 18 End
      ∷ [])
      ∷ [];
}

abbrev pub spent_report : Report
spent_report = record {
  n = 1;
  last = 1;
  threads =
      (told 3 Locked
      ∷ map (λ i. told (4 + i) (made (65 + 5 * i) 5)) (range_with_len 0 12)
      ++ told 16 (Refused (TagsSpent 2))
      ∷ told 17 (made 125 1)
      ∷ told 18 (Ended (1 ∷ []))
      ∷ [])
      ∷ [];
  journals =
      (Claimed 1
      ∷ replicate 12 (Did 1 (vertex_body 0 0 0))
      ++ Spent 1 2 (vertex_body 0 0 0)
      ∷ Did 1 act.Mark
      ∷ Released 1
      ∷ [])
      ∷ [];
}
