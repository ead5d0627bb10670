use Rattle.std.proofs.Common.{sym, ap, subst, ◌∙◌}
use Rattle.std.specs.Prelude.{IsSome}
use Rattle.entity_store.specs.Store.{StoreView}
use Rattle.halfedge.specs.LinkedRings.{prev_at}
use Rattle.halfedge.proofs.RingFins.{in-ring_next, in-ring_prev, in-ring_before}
use Rattle.halfedge.proofs.Joined.{joined-live}
use Rattle.halfedge.proofs.Among.{room-one, room-other, puts-spliced}
use Rattle.halfedge.proofs.links.splice.Goals as goal

pub ring_prev-before_f-requires : goal.ring_prev-before_f-requires
ring_prev-before_f-requires g c = subst (λ (s : StoreView). IsSome (prev_at s.state.map c.args.f)) (sym c.view.ensures) (in-ring_prev c.args.rec.now.store.now.state.map c.args.f c.requires.f)

pub ring_prev-before_g-requires : goal.ring_prev-before_g-requires
ring_prev-before_g-requires g c = subst (λ (s : StoreView). IsSome (prev_at s.state.map c.args.g)) (sym c.view-2.ensures) (in-ring_prev c.args.rec.now.store.now.state.map c.args.g c.requires.g)

pub link-requires-clause-f : goal.link-requires-clause-f
link-requires-clause-f g c =
    let m = c.args.rec.now.store.now.state.map in
    let f_was = ap (λ (s : StoreView). prev_at s.state.map c.args.f) (sym c.view.ensures) ∙ c.ring_prev-before_f.ensures in
    in-ring_next m c.ring_prev-before_f.result (in-ring_before m c.args.f c.ring_prev-before_f.result c.requires.f f_was)

pub link-requires-clause-room : goal.link-requires-clause-room
link-requires-clause-room g c =
    let s = c.args.rec.now.store.now in
    let f_was = ap (λ (s : StoreView). prev_at s.state.map c.args.f) (sym c.view.ensures) ∙ c.ring_prev-before_f.ensures in
    let g_was = ap (λ (s : StoreView). prev_at s.state.map c.args.g) (sym c.view-2.ensures) ∙ c.ring_prev-before_g.ensures in
    room-one s.state.map c.args.f c.args.g _ _ f_was g_was s.recording c.requires.room

pub link-requires-2-clause-f : goal.link-requires-2-clause-f
link-requires-2-clause-f g c =
    let m = c.args.rec.now.store.now.state.map in
    let g_was = ap (λ (s : StoreView). prev_at s.state.map c.args.g) (sym c.view-2.ensures) ∙ c.ring_prev-before_g.ensures in
    joined-live m c.link.new.rec.store.now.state.map c.ring_prev-before_f.result c.args.g c.link.ensures.links c.ring_prev-before_g.result
    (in-ring_next m c.ring_prev-before_g.result (in-ring_before m c.args.g c.ring_prev-before_g.result c.requires.g g_was))

pub link-requires-2-clause-room : goal.link-requires-2-clause-room
link-requires-2-clause-room g c =
    let s = c.args.rec.now.store.now in
    let f_was = ap (λ (s : StoreView). prev_at s.state.map c.args.f) (sym c.view.ensures) ∙ c.ring_prev-before_f.ensures in
    let g_was = ap (λ (s : StoreView). prev_at s.state.map c.args.g) (sym c.view-2.ensures) ∙ c.ring_prev-before_g.ensures in
    room-other s.state.map c.args.f c.args.g _ _ f_was g_was s c.link.new.rec.store.now c.requires.room c.link.ensures.puts

pub returns-clause-links : goal.returns-clause-links
returns-clause-links g c = record {
  before_f = c.ring_prev-before_f.result;
  before_g = c.ring_prev-before_g.result;
  f_was = ap (λ (s : StoreView). prev_at s.state.map c.args.f) (sym c.view.ensures) ∙ c.ring_prev-before_f.ensures;
  g_was = ap (λ (s : StoreView). prev_at s.state.map c.args.g) (sym c.view-2.ensures) ∙ c.ring_prev-before_g.ensures;
  between = c.link.new.rec.store.now.state.map;
  one = c.link.ensures.links;
  other = c.link-2.ensures.links;
}

pub returns-clause-puts : goal.returns-clause-puts
returns-clause-puts g c =
    let s = c.args.rec.now.store.now in
    let f_was = ap (λ (s : StoreView). prev_at s.state.map c.args.f) (sym c.view.ensures) ∙ c.ring_prev-before_f.ensures in
    let g_was = ap (λ (s : StoreView). prev_at s.state.map c.args.g) (sym c.view-2.ensures) ∙ c.ring_prev-before_g.ensures in
    puts-spliced s.state.map c.args.f c.args.g _ _ f_was g_was s c.link.new.rec.store.now c.link-2.new.rec.store.now c.link.ensures.puts c.link-2.ensures.puts
