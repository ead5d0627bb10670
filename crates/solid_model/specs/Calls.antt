-- The row of each call.
use Rattle.pk_base.specs.declared.call.Call.{Call}
use Rattle.pk_base.specs.declared.call.Call.TheVariants.{Mvfs, Mev, Mef, Mekr, Mfkrh, Kvfs, Kev, Kef, Kemr, Kfmrh, RingMove, Lamina, Block, Prism, Sweep, Move, Turn, Delete, SetAttr, DropAttr, Ask, Kids, Ring, Counts, Bodies}
use Rattle.solid_model.specs.Items.{Shape}
use Rattle.solid_model.specs.Rows.{Row}
use Rattle.solid_model.specs.Mvfs.{mvfs}
use Rattle.solid_model.specs.Mev.{mev}
use Rattle.solid_model.specs.Mef.{mef}
use Rattle.solid_model.specs.Mekr.{mekr}
use Rattle.solid_model.specs.Mfkrh.{mfkrh}
use Rattle.solid_model.specs.Kvfs.{kvfs}
use Rattle.solid_model.specs.Kev.{kev}
use Rattle.solid_model.specs.Kef.{kef}
use Rattle.solid_model.specs.Kemr.{kemr}
use Rattle.solid_model.specs.Kfmrh.{kfmrh}
use Rattle.solid_model.specs.RingMove.{ringmove}
use Rattle.solid_model.specs.SetAttr.{set_attribute}
use Rattle.solid_model.specs.DropAttr.{drop_attribute}
use Rattle.solid_model.specs.Delete.{delete}
use Rattle.solid_model.specs.Motions.{move, turn}
use Rattle.solid_model.specs.Lamina.{lamina}
use Rattle.solid_model.specs.Sweep.{sweep}
use Rattle.solid_model.specs.Prism.{prism, block}
use Rattle.solid_model.specs.Queries.{ask, kids, ring, counts, bodies}

abbrev pub row_of : Shape → Call → Row
row_of S (Mvfs at) = mvfs S at
row_of S (Mev end at) = mev S end at
row_of S (Mef start end) = mef S start end
row_of S (Mekr keep r) = mekr S keep r
row_of S (Mfkrh r) = mfkrh S r
row_of S (Kvfs body) = kvfs S body
row_of S (Kev fin) = kev S fin
row_of S (Kef fin) = kef S fin
row_of S (Kemr fin) = kemr S fin
row_of S (Kfmrh keep kill) = kfmrh S keep kill
row_of S (RingMove r face) = ringmove S r face
row_of S (Lamina z corners) = lamina S z corners
row_of S (Block at size) = block S at size
row_of S (Prism z h corners) = prism S z h corners
row_of S (Sweep face by) = sweep S face by
row_of S (Move body by) = move S body by
row_of S (Turn body axis turns) = turn S body axis turns
row_of S (Delete body) = delete S body
row_of S (SetAttr owner name value) = set_attribute S owner name value
row_of S (DropAttr owner name) = drop_attribute S owner name
row_of S (Ask t) = ask S t
row_of S (Kids t) = kids S t
row_of S (Ring r) = ring S r
row_of S (Counts body) = counts S body
row_of S Bodies = bodies S
