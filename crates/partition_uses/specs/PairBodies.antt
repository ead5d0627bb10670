-- A modeller that is as small as one can be: its one call is `mvfs`, which makes a pair, a body and
-- its shell.
use Rattle.std.specs.Prelude.{ℕ, pos, Bool, true, false, List, take, Result, Ok, Err}
use Rattle.std.specs.FinMap.{insert}
use Rattle.pk_base.specs.Blocks.{tag}
use Rattle.pk_base.specs.declared.tag.Tag.{Tag}
use Rattle.pk_base.specs.declared.entity.Entity.TheVariants.{Body, Shell}
use Rattle.pk_base.specs.declared.call.Call.{Call}
use Rattle.pk_base.specs.declared.call.Call.TheVariants.{Mvfs, Mev, Mef, Mekr, Mfkrh, Kvfs, Kev, Kef, Kemr, Kfmrh, RingMove, Lamina, Block, Prism, Sweep, Move, Turn, Delete, SetAttr, DropAttr, Ask, Kids, Ring, Counts, Bodies}
use Rattle.pk_base.specs.declared.act.Reply.TheVariants.{Made}
use Rattle.pk_base.specs.declared.refusal.Refusal.{Refusal}
use Rattle.pk_base.specs.declared.refusal.Refusal.TheVariants.{NoSuchTag}
use Rattle.pk_model.specs.Tags.{tag_at}
use Rattle.pk_model.specs.Maps.{EntityMap}
use Rattle.pk_model.specs.Modelling.{Modelling, Outcome}
use Rattle.pk_model.specs.VertexBodies.{IsClosed}

-- whether the call makes a pair
abbrev pub makes_pair : Call → Bool
makes_pair (Mvfs at) = true
makes_pair (Mev end at) = false
makes_pair (Mef from to) = false
makes_pair (Mekr keep ring) = false
makes_pair (Mfkrh ring) = false
makes_pair (Kvfs body) = false
makes_pair (Kev fin) = false
makes_pair (Kef fin) = false
makes_pair (Kemr fin) = false
makes_pair (Kfmrh keep kill) = false
makes_pair (RingMove ring to) = false
makes_pair (Lamina z corners) = false
makes_pair (Block at size) = false
makes_pair (Prism z h corners) = false
makes_pair (Sweep face by) = false
makes_pair (Move body by) = false
makes_pair (Turn body axis turns) = false
makes_pair (Delete body) = false
makes_pair (SetAttr owner name value) = false
makes_pair (DropAttr owner name) = false
makes_pair (Ask t) = false
makes_pair (Kids t) = false
makes_pair (Ring ring) = false
makes_pair (Counts body) = false
makes_pair Bodies = false

-- a body and its shell, whose q is 1; each names the other
abbrev pub with_pair : EntityMap → Tag → Tag → EntityMap
with_pair m body shell = insert (insert m body (Body shell)) shell (Shell body (pos 1))

abbrev pub pair_of : EntityMap → List Tag → Outcome
pair_of m tags =
    record { map = with_pair m (tag_at tags 0) (tag_at tags 1); reply = Made (take 2 tags) }

abbrev pub pair_step : EntityMap → List Tag → Bool → Result Outcome Refusal
pair_step m tags true = Ok (pair_of m tags)
pair_step m tags false = Err (NoSuchTag (tag 0))

abbrev pub pair_cost : Bool → ℕ
pair_cost true = 2
pair_cost false = 0

-- a map is sound where it names live tags alone and none of its entities is its own owner, whatever
-- else it has
abbrev pub pair_bodies : Modelling
pair_bodies = record {
  sound = IsClosed;
  cost = λ m c. pair_cost (makes_pair c);
  changes = λ m c. pair_cost (makes_pair c);
  list = λ m c. pair_cost (makes_pair c);
  step = λ m c tags. pair_step m tags (makes_pair c);
}
