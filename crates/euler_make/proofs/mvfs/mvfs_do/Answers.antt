use Rattle.std.proofs.Common.{◌≤◌, length, sym, ap, subst, ◌∙◌, arith}
use Rattle.entity_store.specs.NextTags.{left}
use Rattle.entity_store.specs.Room.{HasRoomForThese, PutsAmong}
use Rattle.list_facts.proofs.Each.{ByRecursion-weaker}
use Rattle.solid_sound.proofs.rows.Asked.{free_item}
use Rattle.solid_sound.proofs.rows.KeptMvfs.{mvfs-keeps}
use Rattle.solid_sound.proofs.rows.RowKeeps.{well-shape}
use Rattle.solid_model.specs.Shapes.{shape_of}
use Rattle.solid_calls.specs.Pairs.{Takes}
use Rattle.solid_edits.specs.BareParts.{with_bare_body}
use Rattle.solid_edits.proofs.Going.{done}
use Rattle.euler_make.proofs.MvfsReached.{mvfs-cost, mvfs-row, mvfs-tags, body-made}
use Rattle.euler_make.proofs.mvfs.mvfs_do.Goals as goal

pub take_parts-parts-requires : goal.take_parts-parts-requires
take_parts-parts-requires g c =
    let cost = mvfs-cost (shape_of c.args.rec.now.store.now.state.map) c.args.at c.requires.may.goes in
    let enough = c.requires.tags.enough in
    let spare = c.requires.tags.spare in
    record { tags = omega (arith, cost, enough); spare = omega (arith, cost, spare) }

pub put_parts-requires-clause-room : goal.put_parts-requires-clause-room
put_parts-requires-clause-room g c =
    let s0 = c.args.rec.now.store.now in
    let are = mvfs-tags (shape_of s0.state.map) c.args.at c.take_parts-parts.result (left c.args.tags.now) _ c.requires.may.goes c.take_parts-parts.ensures.parts in
    subst (HasRoomForThese s0.recording) are c.requires.may.room

pub returns-clause-done : goal.returns-clause-done
returns-clause-done g c =
    let s0 = c.args.rec.now.store.now in
    let s1 = c.put_parts.new.rec.store.now in
    let m = s0.state.map in
    let at = c.args.at in
    let tags = left c.args.tags.now in
    let parts = c.take_parts-parts.result in
    let made = body-made m c.requires.may.sound at parts tags _ c.requires.may.goes c.take_parts-parts.ensures.parts c.requires.tags.ascend c.requires.tags.free in
    let point = ap (λ p. with_bare_body m parts p) c.point_of.ensures in
    let are = mvfs-tags (shape_of m) at parts tags _ c.requires.may.goes c.take_parts-parts.ensures.parts in
    let cost = mvfs-cost (shape_of m) at c.requires.may.goes in
    let enough = c.requires.tags.enough in
    let five : 5 ≤ length tags = omega (arith, cost, enough) in
    done s0 s1 _ tags _ (mvfs-row (shape_of m) at c.requires.may.goes) c.requires.may.sound five
    (mvfs-keeps (shape_of m) tags at (well-shape m c.requires.may.sound) c.requires.tags.ascend (ByRecursion-weaker _ _ (λ t none. free_item m c.requires.may.sound t none) tags c.requires.tags.free))
    (c.put_parts.ensures.state ∙ ap (λ n. record s0.state { map = n }) (point ∙ made))
    (subst (λ ts. PutsAmong ts s0 s1) (sym are) c.put_parts.ensures.puts)

pub returns-clause-takes : goal.returns-clause-takes
returns-clause-takes g c =
    let cost = mvfs-cost (shape_of c.args.rec.now.store.now.state.map) c.args.at c.requires.may.goes in
    subst (λ n. Takes n c.args.tags.now c.args.out.now c.take_parts-parts.new.tags c.take_parts-parts.new.out) (sym cost) c.take_parts-parts.ensures.takes
