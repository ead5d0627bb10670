-- The reply to a call: one that takes tags, or none, and one that asks.
use Rattle.std.specs.Prelude.{Bool, true, false, List, [], ◌∷◌}
use Rattle.pk_base.specs.declared.tag.Tag.{Tag}
use Rattle.pk_base.specs.declared.call.Call.{Call}
use Rattle.pk_base.specs.declared.call.Call.TheVariants.{Mvfs, Mev, Mef, Mekr, Mfkrh, Kvfs, Kev, Kef, Kemr, Kfmrh, RingMove, Lamina, Block, Prism, Sweep, Move, Turn, Delete, SetAttr, DropAttr, Ask, Kids, Ring, Counts, Bodies}
use Rattle.pk_base.specs.declared.act.Reply.{Reply}
use Rattle.pk_base.specs.declared.act.Reply.TheVariants.{Made, Done}

-- Made with the tags that were taken, Done where there are none
abbrev pub reply_of : List Tag → Reply
reply_of [] = Done
reply_of (t ∷ ts) = Made (t ∷ ts)

-- whether the call asks, and its reply is what its row tells
abbrev pub is_told : Call → Bool
is_told (Ask t) = true
is_told (Kids t) = true
is_told (Ring ring) = true
is_told (Counts body) = true
is_told Bodies = true
is_told (Mvfs at) = false
is_told (Mev end at) = false
is_told (Mef from to) = false
is_told (Mekr keep ring) = false
is_told (Mfkrh ring) = false
is_told (Kvfs body) = false
is_told (Kev fin) = false
is_told (Kef fin) = false
is_told (Kemr fin) = false
is_told (Kfmrh keep kill) = false
is_told (RingMove ring to) = false
is_told (Lamina z corners) = false
is_told (Block at size) = false
is_told (Prism z h corners) = false
is_told (Sweep face by) = false
is_told (Move body by) = false
is_told (Turn body axis turns) = false
is_told (Delete body) = false
is_told (SetAttr owner name value) = false
is_told (DropAttr owner name) = false
