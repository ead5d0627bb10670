-- Each arm is the clause of its last call.
use Rattle.std.proofs.Common.{w64, append_assoc, rules}
use mir.Val.{SFits}
use Rattle.std.proofs.lemmas.Int.{to_z-of_z}
use Rattle.std.proofs.lemmas.Result.{IfOk-equal}
use Rattle.script_text.proofs.printing.said.write_refusal.Goals as goal

pub returns-in_ok-write_tag-in-WrongClass : goal.returns-in_ok-write_tag-in-WrongClass
returns-in_ok-write_tag-in-WrongClass c =
    rw c.in-WrongClass.is (IfOk-equal _ _ _ _ c.write.ensures (rw c.in_ok-write_tag-in-WrongClass.ensures (simp append_assoc)))

pub returns-in-OutOfRange : goal.returns-in-OutOfRange
returns-in-OutOfRange c =
    let fits : SFits w64 c.in-OutOfRange.v = search rules in
    rw c.in-OutOfRange.is (rw to_z-of_z at c.write_signed.ensures)

pub returns-in-NoSuchTag : goal.returns-in-NoSuchTag
returns-in-NoSuchTag c = rw c.in-NoSuchTag.is c.write_tag.ensures

pub returns-in-NotOneLoop : goal.returns-in-NotOneLoop
returns-in-NotOneLoop c = rw c.in-NotOneLoop.is c.write_pair.ensures

pub returns-in-SameVertex : goal.returns-in-SameVertex
returns-in-SameVertex c = rw c.in-SameVertex.is c.write_tag-in-SameVertex.ensures

pub returns-in-NotStrut : goal.returns-in-NotStrut
returns-in-NotStrut c = rw c.in-NotStrut.is c.write_tag-in-NotStrut.ensures

pub returns-in-OneLoop : goal.returns-in-OneLoop
returns-in-OneLoop c = rw c.in-OneLoop.is c.write_tag-in-OneLoop.ensures

pub returns-in-TwoLoops : goal.returns-in-TwoLoops
returns-in-TwoLoops c = rw c.in-TwoLoops.is c.write_pair-in-TwoLoops.ensures

pub returns-in-HasRings : goal.returns-in-HasRings
returns-in-HasRings c = rw c.in-HasRings.is c.write_tag-in-HasRings.ensures

pub returns-in-IsOuter : goal.returns-in-IsOuter
returns-in-IsOuter c = rw c.in-IsOuter.is c.write_tag-in-IsOuter.ensures

pub returns-in-NotOneFace : goal.returns-in-NotOneFace
returns-in-NotOneFace c = rw c.in-NotOneFace.is c.write_pair-in-NotOneFace.ensures

pub returns-in-NotOneBody : goal.returns-in-NotOneBody
returns-in-NotOneBody c = rw c.in-NotOneBody.is c.write_pair-in-NotOneBody.ensures

pub returns-in-NotBare : goal.returns-in-NotBare
returns-in-NotBare c = rw c.in-NotBare.is c.write_tag-in-NotBare.ensures

pub returns-in-CornerCount : goal.returns-in-CornerCount
returns-in-CornerCount c = rw c.in-CornerCount.is c.write_number.ensures

pub returns-in-BadPolygon : goal.returns-in-BadPolygon
returns-in-BadPolygon c = rw c.in-BadPolygon.is c.write_number-in-BadPolygon.ensures

pub returns-in-FlatSweep : goal.returns-in-FlatSweep
returns-in-FlatSweep c = rw c.in-FlatSweep.is c.write-in-FlatSweep.ensures

pub returns-in-NoAttribute : goal.returns-in-NoAttribute
returns-in-NoAttribute c = rw c.in-NoAttribute.is c.write_tag-in-NoAttribute.ensures

pub returns-in-NotOurs : goal.returns-in-NotOurs
returns-in-NotOurs c = rw c.in-NotOurs.is c.write_tag-in-NotOurs.ensures

pub returns-in-NotAMark : goal.returns-in-NotAMark
returns-in-NotAMark c = rw c.in-NotAMark.is c.write_tag-in-NotAMark.ensures

pub returns-in-MarkDeleted : goal.returns-in-MarkDeleted
returns-in-MarkDeleted c = rw c.in-MarkDeleted.is c.write_tag-in-MarkDeleted.ensures

pub returns-in-InitialMark : goal.returns-in-InitialMark
returns-in-InitialMark c = rw c.in-InitialMark.is c.write-in-InitialMark.ensures

pub returns-in-TagsSpent : goal.returns-in-TagsSpent
returns-in-TagsSpent c = rw c.in-TagsSpent.is c.write_number-in-TagsSpent.ensures

pub returns-in-NoPartition : goal.returns-in-NoPartition
returns-in-NoPartition c = rw (c.in-NoPartition.is, ← c.into.ensures) c.write_number-in-NoPartition.ensures

pub returns-in-NotLocked : goal.returns-in-NotLocked
returns-in-NotLocked c = rw (c.in-NotLocked.is, ← c.into-in-NotLocked.ensures) c.write_number-in-NotLocked.ensures

pub returns-in-AlreadyLocked : goal.returns-in-AlreadyLocked
returns-in-AlreadyLocked c = rw (c.in-AlreadyLocked.is, ← c.into-in-AlreadyLocked.ensures) c.write_number-in-AlreadyLocked.ensures

pub returns-in-LockOrder : goal.returns-in-LockOrder
returns-in-LockOrder c = rw (c.in-LockOrder.is, ← c.into-in-LockOrder.ensures) c.write_number-in-LockOrder.ensures

pub returns-in-NoName : goal.returns-in-NoName
returns-in-NoName c = rw (c.in-NoName.is, ← c.into-in-NoName.ensures) c.write_number-in-NoName.ensures

pub returns-in-SameFace : goal.returns-in-SameFace
returns-in-SameFace c = rw c.in-SameFace.is c.write_tag-in-SameFace.ensures
