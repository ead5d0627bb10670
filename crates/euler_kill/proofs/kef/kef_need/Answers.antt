-- The sums are within what a store has tags for, and just what the row puts.
use Rattle.std.proofs.Common.{◌≡◌, ◌+◌, false, length, refl, sym, ap, ◌∙◌, rules, arith}
use Rattle.pk_base.specs.Entity.{same_tag}
use Rattle.pk_base.proofs.Same.{differs_means}
use Rattle.halfedge.specs.LinkedRings.{ring_at}
use Rattle.solid_calls.proofs.Sizes.{few-ring}
use Rattle.solid_edits.specs.Deaths.{with_attributes}
use Rattle.solid_edits.proofs.PlacedFins.{found_fin}
use Rattle.euler_kill.proofs.KefFound.{kef-need}
use Rattle.euler_kill.proofs.kef.kef_need.Goals as goal

pub overflow_add-result-2 : goal.overflow_add-result-2
overflow_add-result-2 g c =
    let s = c.args.store.now.state in
    let b = c.blocks-blocks.ensures in
    let one = few-ring s b.ascending b.range b.hosted (ring_at s.map c.args.fin) c.in_ok-u.ensures.ring.ring in
    let fins = c.ring_len-fins.ensures in
    let dead = c.count_dead-dead.ensures.few in
    omega (arith, one, fins, dead)

pub returns : goal.returns
returns g c =
    let m = c.args.store.now.state.map in
    let x = c.args.fin in
    let u = found_fin m x c.in_ok-u.u in
    let v = found_fin m u.mate c.in_ok-v.v in
    let apart : same_tag u.loop_ v.loop_ ≡ false = search rules in
    let fins = c.ring_len-fins.ensures in
    let dead = c.count_dead-dead.ensures.dead ∙ ap (λ ts. length (with_attributes m ts)) (c.as_slice.ensures ∙ c.side_of.ensures) in
    kef-need m c.requires x u v c.in_ok-u.ensures.found c.in_ok-v.ensures.found (differs_means u.loop_ v.loop_ apart) _ apart (sym c.has_rings.ensures ∙ c.if-has_rings.false) refl (λ i. dead i + 3 + fins i) refl
