use Rattle.std.proofs.Common.{List, ◌∷◌, ◌++◌, ap, subst, ◌∙◌}
use Rattle.std.specs.Prelude.{Contains}
use Rattle.pk_base.specs.declared.tag.Tag.{Tag}
use Rattle.solid_model.specs.Rings.{ends_of, first_tag, from_least}
use Rattle.halfedge.specs.LinkedRings.{Relabels, ring_at, ring_of_any}
use Rattle.solid_edits.proofs.PartedRings.{between-within, cut-within, ring-live}
use Rattle.pk_model.specs.Maps.{EntityMap}
use Rattle.entity_store.proofs.Room.{room-part}
use Rattle.solid_edits.specs.EditedLoops.{fins_behind, fins_between}
use Rattle.solid_edits.proofs.Stages.{Within, stage-none, stage-room, stage-then}
use Rattle.euler_kill.proofs.kemr.part_ring.Goals as goal

-- the fins that the cut puts
abbrev cut_tags : EntityMap → Tag → Tag → List Tag
cut_tags m f mate = f ∷ mate ∷ ends_of (fins_between m f mate) ++ ends_of (fins_behind m f mate)

pub cut_out-parts-requires-clause-room : goal.cut_out-parts-requires-clause-room
cut_out-parts-requires-clause-room g c =
    let s = c.args.rec.now.store.now in
    let ring = ring_at s.state.map c.args.fin in
    room-part s.recording ring (cut_tags s.state.map c.args.fin c.args.mate) c.requires.room (cut-within c.args.fin c.args.mate ring c.requires.ring.among c.requires.among)

pub give_ring-requires-clause-other : goal.give_ring-requires-clause-other
give_ring-requires-clause-other g c k =
    let m = c.args.rec.now.store.now.state.map in
    ring-live m (ring_at m c.args.fin) c.args.to c.requires.ring.ring c.requires.free
    (between-within m c.args.fin c.args.mate c.args.to (subst (λ (ts : List Tag). Contains ts c.args.to) c.cut_out-parts.ensures.off k))

pub give_ring-requires-clause-room : goal.give_ring-requires-clause-room
give_ring-requires-clause-room g c =
    let s0 = c.args.rec.now.store.now in
    let s1 = c.cut_out-parts.new.rec.store.now in
    let ring = ring_at s0.state.map c.args.fin in
    let cut = stage-then ring (cut_tags s0.state.map c.args.fin c.args.mate) s0 s0 s1 (stage-none ring s0) (cut-within c.args.fin c.args.mate ring c.requires.ring.among c.requires.among) c.cut_out-parts.ensures.state c.cut_out-parts.ensures.puts in
    let within : Within (ring_of_any s1.state.map c.cut_out-parts.result.off) ring = λ t k. between-within s0.state.map c.args.fin c.args.mate t (subst (λ (ts : List Tag). Contains ts t) c.cut_out-parts.ensures.off k) in
    stage-room ring (ring_of_any s1.state.map c.cut_out-parts.result.off) s0 s1 c.requires.room cut within

pub returns-clause-parts : goal.returns-clause-parts
returns-clause-parts g c =
    let n = c.cut_out-parts.new.rec.store.now.state.map in
    record {
      cut = n;
      links = c.cut_out-parts.ensures.links;
      labels = subst (λ (ts : List Tag). Relabels n ts c.args.to c.give_ring.new.rec.store.now.state.map) c.cut_out-parts.ensures.off c.give_ring.ensures.labels;
      kept_is = c.least_of_any-kept.ensures ∙ ap (λ ts. first_tag (from_least ts)) c.cut_out-parts.ensures.kept;
      off_is = c.least_of_any-off.ensures ∙ ap (λ ts. first_tag (from_least ts)) c.cut_out-parts.ensures.off;
    }

pub returns-clause-puts : goal.returns-clause-puts
returns-clause-puts g c =
    let s0 = c.args.rec.now.store.now in
    let s1 = c.cut_out-parts.new.rec.store.now in
    let s2 = c.give_ring.new.rec.store.now in
    let ring = ring_at s0.state.map c.args.fin in
    let cut = stage-then ring (cut_tags s0.state.map c.args.fin c.args.mate) s0 s0 s1 (stage-none ring s0) (cut-within c.args.fin c.args.mate ring c.requires.ring.among c.requires.among) c.cut_out-parts.ensures.state c.cut_out-parts.ensures.puts in
    let within : Within (ring_of_any s1.state.map c.cut_out-parts.result.off) ring = λ t k. between-within s0.state.map c.args.fin c.args.mate t (subst (λ (ts : List Tag). Contains ts t) c.cut_out-parts.ensures.off k) in
    (stage-then ring (ring_of_any s1.state.map c.cut_out-parts.result.off) s0 s1 s2 cut within c.give_ring.ensures.state c.give_ring.ensures.puts).puts
