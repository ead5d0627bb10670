use Rattle.std.proofs.Common.{◌≡◌, ◌∷◌, ◌++◌, drop, Option, sym, ap, subst, ◌∙◌}
use Rattle.std.specs.Prelude.{IfSome, IsSome}
use Rattle.pk_base.specs.declared.tag.Tag.{Tag}
use Rattle.entity_store.specs.Store.{StoreView}
use Rattle.solid_model.specs.Rings.{before, first_tag, from, ends_of}
use Rattle.halfedge.specs.LinkedRings.{IsInRing, IsRing, next_at, ring_at, ring_of_any}
use Rattle.entity_store.specs.Room.{HasRoomForThese, PutsAmong}
use Rattle.solid_edits.specs.EditedLoops.{fins_behind, fins_between}
use Rattle.solid_edits.proofs.PartedRings.{after-fin, after-mate, in-ring_first, mate-next, ring_of_first}
use Rattle.euler_kill.proofs.parted.cut_out.Goals as goal

pub ring_next-after_mate-requires : goal.ring_next-after_mate-requires
ring_next-after_mate-requires g c =
    let m = c.args.rec.now.store.now.state.map in
    subst (λ (v : StoreView). IsSome (next_at v.state.map c.args.mate)) (sym c.view-2.ensures) (mate-next m c.args.fin c.args.mate c.requires.ring c.requires.among c.requires.other)

pub cut_ring-requires-clause-room : goal.cut_ring-requires-clause-room
cut_ring-requires-clause-room g c =
    let s = c.args.rec.now.store.now in
    let ring = ring_at s.state.map c.args.fin in
    subst (λ (t : Tag). HasRoomForThese s.recording (c.args.fin ∷ t ∷ ends_of (drop 1 (before t ring)) ++ ends_of (drop 1 (from t ring)))) (sym c.requires.mate) c.requires.room

pub returns-clause-kept : goal.returns-clause-kept
returns-clause-kept g c =
    let m = c.args.rec.now.store.now.state.map in
    let n = c.cut_ring.new.rec.store.now.state.map in
    let next = ap (λ (v : StoreView). next_at v.state.map c.args.mate) (sym c.view-2.ensures) ∙ c.ring_next-after_mate.ensures in
    let first : c.other_than.result ≡ first_tag (fins_behind m c.args.fin c.args.mate) =
    c.other_than.ensures ∙ after-mate m c.args.fin c.args.mate c.requires.ring c.requires.among c.requires.other c.ring_next-after_mate.result next in
    let is : IsRing n (fins_behind m c.args.fin c.args.mate) = subst (λ (t : Tag). IsRing n (fins_behind m c.args.fin t)) c.requires.mate c.cut_ring.ensures.links.rings.1.0 in
    ap (ring_of_any n) first ∙ ring_of_first n (fins_behind m c.args.fin c.args.mate) is

pub returns-clause-kept_ring : goal.returns-clause-kept_ring
returns-clause-kept_ring g c =
    let m = c.args.rec.now.store.now.state.map in
    let n = c.cut_ring.new.rec.store.now.state.map in
    let next = ap (λ (v : StoreView). next_at v.state.map c.args.mate) (sym c.view-2.ensures) ∙ c.ring_next-after_mate.ensures in
    let first : c.other_than.result ≡ first_tag (fins_behind m c.args.fin c.args.mate) =
    c.other_than.ensures ∙ after-mate m c.args.fin c.args.mate c.requires.ring c.requires.among c.requires.other c.ring_next-after_mate.result next in
    let is : IsRing n (fins_behind m c.args.fin c.args.mate) = subst (λ (t : Tag). IsRing n (fins_behind m c.args.fin t)) c.requires.mate c.cut_ring.ensures.links.rings.1.0 in
    subst (λ (o : Option Tag). IfSome o (IsInRing n)) (sym first) (in-ring_first n (fins_behind m c.args.fin c.args.mate) is)

pub returns-clause-off : goal.returns-clause-off
returns-clause-off g c =
    let m = c.args.rec.now.store.now.state.map in
    let n = c.cut_ring.new.rec.store.now.state.map in
    let next = ap (λ (v : StoreView). next_at v.state.map c.args.fin) (sym c.view.ensures) ∙ c.ring_next-after_fin.ensures in
    let first : c.other_than-2.result ≡ first_tag (fins_between m c.args.fin c.args.mate) =
    c.other_than-2.ensures ∙ after-fin m c.args.fin c.args.mate c.requires.ring c.requires.among c.requires.other c.ring_next-after_fin.result next in
    let is : IsRing n (fins_between m c.args.fin c.args.mate) = subst (λ (t : Tag). IsRing n (fins_between m c.args.fin t)) c.requires.mate c.cut_ring.ensures.links.rings.0 in
    ap (ring_of_any n) first ∙ ring_of_first n (fins_between m c.args.fin c.args.mate) is

pub returns-clause-off_ring : goal.returns-clause-off_ring
returns-clause-off_ring g c =
    let m = c.args.rec.now.store.now.state.map in
    let n = c.cut_ring.new.rec.store.now.state.map in
    let next = ap (λ (v : StoreView). next_at v.state.map c.args.fin) (sym c.view.ensures) ∙ c.ring_next-after_fin.ensures in
    let first : c.other_than-2.result ≡ first_tag (fins_between m c.args.fin c.args.mate) =
    c.other_than-2.ensures ∙ after-fin m c.args.fin c.args.mate c.requires.ring c.requires.among c.requires.other c.ring_next-after_fin.result next in
    let is : IsRing n (fins_between m c.args.fin c.args.mate) = subst (λ (t : Tag). IsRing n (fins_between m c.args.fin t)) c.requires.mate c.cut_ring.ensures.links.rings.0 in
    subst (λ (o : Option Tag). IfSome o (IsInRing n)) (sym first) (in-ring_first n (fins_between m c.args.fin c.args.mate) is)

pub returns-clause-puts : goal.returns-clause-puts
returns-clause-puts g c =
    let s = c.args.rec.now.store.now in
    let ring = ring_at s.state.map c.args.fin in
    subst (λ (t : Tag). PutsAmong (c.args.fin ∷ t ∷ ends_of (drop 1 (before t ring)) ++ ends_of (drop 1 (from t ring))) s c.cut_ring.new.rec.store.now) c.requires.mate c.cut_ring.ensures.puts
