-- Each call that does not only ask does something, and what it makes takes a tag.
use Rattle.std.proofs.Common.{◌≡◌, ◌+◌, ◌*◌, false, length, arith}
use Rattle.pk_base.specs.declared.call.Call.{Call}
use Rattle.pk_base.specs.declared.call.Call.TheVariants.{Mvfs, Mev, Mef, Mekr, Mfkrh, Kvfs, Kev, Kef, Kemr, Kfmrh, RingMove, Lamina, Block, Prism, Sweep, Move, Turn, Delete, SetAttr, DropAttr, Ask, Kids, Ring, Counts, Bodies}
use Rattle.solid_model.specs.Items.{Shape}
use Rattle.solid_model.specs.Mvfs.{mvfs}
use Rattle.solid_model.specs.Mev.{mev}
use Rattle.solid_model.specs.Mef.{mef}
use Rattle.solid_model.specs.Mekr.{mekr}
use Rattle.solid_model.specs.Mfkrh.{mfkrh}
use Rattle.solid_model.specs.Kvfs.{kvfs}
use Rattle.solid_model.specs.Kev.{kev}
use Rattle.solid_model.specs.Kef.{kef}
use Rattle.solid_model.specs.Kemr.{kemr}
use Rattle.solid_model.specs.Kfmrh.{kfmrh}
use Rattle.solid_model.specs.RingMove.{ringmove}
use Rattle.solid_model.specs.DropAttr.{drop_attribute}
use Rattle.solid_model.specs.Motions.{move, turn}
use Rattle.solid_model.specs.Delete.{delete}
use Rattle.solid_model.specs.Lamina.{lamina}
use Rattle.solid_model.specs.Prism.{block, prism}
use Rattle.solid_model.specs.Calls.{row_of}
use Rattle.solid_calls.proofs.RowKinds.{IsPlain, drop-changes, kef-changes, kemr-makes, kev-changes, kfmrh-changes, kvfs-changes, mef-makes, mekr-makes, mev-makes, mfkrh-makes, mvfs-makes, plain-changing, plain-making, ringmove-changes, set-plain}
use Rattle.euler_kill.proofs.DeleteReached.{delete-changes}
use Rattle.euler_make.proofs.SweepFound.{sweep-plain}
use Rattle.solid_make.proofs.RowKinds.{block-makes, lamina-makes, prism-makes}
use Rattle.solid_motion.proofs.RowKinds.{move-changes, turn-changes}
use Rattle.modeller.specs.Replies.{is_told}

pub plain : (S : Shape) (c : Call) → is_told c ≡ false → IsPlain (row_of S c)
plain S (Mvfs at) h = plain-making 5 (mvfs S at) (omega arith) (mvfs-makes S at)
plain S (Mev end at) h = plain-making 4 (mev S end at) (omega arith) (mev-makes S end at)
plain S (Mef from to) h = plain-making 5 (mef S from to) (omega arith) (mef-makes S from to)
plain S (Mekr keep r) h = plain-making 3 (mekr S keep r) (omega arith) (mekr-makes S keep r)
plain S (Mfkrh r) h = plain-making 1 (mfkrh S r) (omega arith) (mfkrh-makes S r)
plain S (Kvfs body) h = plain-changing (kvfs S body) (kvfs-changes S body)
plain S (Kev fin) h = plain-changing (kev S fin) (kev-changes S fin)
plain S (Kef fin) h = plain-changing (kef S fin) (kef-changes S fin)
plain S (Kemr fin) h = plain-making 1 (kemr S fin) (omega arith) (kemr-makes S fin)
plain S (Kfmrh keep kill) h = plain-changing (kfmrh S keep kill) (kfmrh-changes S keep kill)
plain S (RingMove r face) h = plain-changing (ringmove S r face) (ringmove-changes S r face)
plain S (Lamina z corners) h = plain-making (4 * length corners + 6) (lamina S z corners) (omega arith) (lamina-makes S z corners)
plain S (Block at size) h = plain-making 58 (block S at size) (omega arith) (block-makes S at size)
plain S (Prism z h' corners) h = plain-making (13 * length corners + 6) (prism S z h' corners) (omega arith) (prism-makes S z h' corners)
plain S (Sweep face by) h = sweep-plain S face by
plain S (Move body by) h = plain-changing (move S body by) (move-changes S body by)
plain S (Turn body axis turns) h = plain-changing (turn S body axis turns) (turn-changes S body axis turns)
plain S (Delete body) h = plain-changing (delete S body) (delete-changes S body)
plain S (SetAttr owner name value) h = set-plain S owner name value
plain S (DropAttr owner name) h = plain-changing (drop_attribute S owner name) (drop-changes S owner name)
plain S (Ask t) h = absurd (cc)
plain S (Kids t) h = absurd (cc)
plain S (Ring r) h = absurd (cc)
plain S (Counts body) h = absurd (cc)
plain S Bodies h = absurd (cc)
