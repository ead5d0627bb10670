-- Calls of one thread on partition 1, and their answers.
use Rattle.std.specs.Prelude.{ℕ, ◌+◌, ◌-◌, ℤ, pos, List, ◌∷◌, ◌++◌, map, replicate, Option, Some, Result, Ok, Err, length}
use Rattle.std.specs.List.{range_with_len}
use Rattle.pk_base.specs.Blocks.{tag}
use Rattle.pk_base.specs.declared.tag.Tag.{Tag}
use Rattle.pk_base.specs.declared.entity.Name.{Name}
use Rattle.pk_base.specs.declared.entity.Pair.{Pair}
use Rattle.pk_base.specs.declared.entity.Triple.{Triple}
use Rattle.pk_base.specs.declared.entity.Entity.{Entity}
use Rattle.pk_base.specs.declared.act.Act.TheVariants as act
use Rattle.pk_base.specs.declared.act.Entry.{Entry}
use Rattle.pk_base.specs.declared.act.Entry.TheVariants.{Claimed, Drew, Did}
use Rattle.pk_base.specs.declared.act.Reply.{Reply}
use Rattle.pk_base.specs.declared.act.Reply.TheVariants as reply
use Rattle.pk_base.specs.declared.call.Call.{Call}
use Rattle.pk_base.specs.declared.refusal.Refusal.{Refusal}
use Rattle.pk_model.specs.Replay.{AnsweredEntry, answered_entries}
use Rattle.solid_model.specs.Euler.{euler}

-- what an entry answers: nothing where it has no act
abbrev pub Answer : Type 0
Answer = Option (Result Reply Refusal)

-- a call that is done, or a block that is drawn before one
pub data Line : Type 0 where
  Does : (call : Call) → Line
  Draws : (block : ℕ) → Line

abbrev pub entry_of : Line → Entry
entry_of (Does c) = Did 1 (act.Call c)
entry_of (Draws b) = Drew 1 b

-- what is answered in partition 1 to the thread that holds it
abbrev pub answers : List Line → List Answer
answers lines = map (λ (x : AnsweredEntry). x.answer)
    (answered_entries euler 1 (Claimed 1 ∷ map entry_of lines))

-- ---- answers by numbers

-- the tags from the first to the last of these numbers
abbrev pub tags_to : ℕ → ℕ → List Tag
tags_to first last = map tag (range_with_len first (last + 1 - first))

-- so many tags from this one on were taken
abbrev pub made : ℕ → ℕ → Answer
made first last = Some (Ok (reply.Made (tags_to first last)))

abbrev pub listed : List ℕ → Answer
listed ns = Some (Ok (reply.List (map tag ns)))

abbrev pub done : Answer
done = Some (Ok reply.Done)

-- it is this entity
abbrev pub is : Entity → Answer
is e = Some (Ok (reply.Is e))

-- so many vertices, edges, faces and rings, and this q
abbrev pub counts : ℕ → ℕ → ℕ → ℕ → ℤ → Answer
counts v e f r q = Some (Ok (reply.Counts (record {
  vertices = v;
  edges = e;
  faces = f;
  rings = r;
  q = q;
})))

abbrev pub refused : Refusal → Answer
refused e = Some (Err e)

-- ---- operands

-- a point whose coordinates are not negative
abbrev pub at : ℕ → ℕ → ℕ → Triple
at x y z = record { x = pos x; y = pos y; z = pos z }

-- the name of these bytes
abbrev pub name : List ℕ → Name
name bytes = record { 0 = bytes ++ replicate (16 - length bytes) 0 }

-- a corner whose coordinates are not negative
abbrev pub corner : ℕ → ℕ → Pair
corner x y = record { x = pos x; y = pos y }
