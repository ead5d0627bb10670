-- The first fin of a ring to which two fins come.
use Rattle.std.proofs.Common.{◌≡◌, ◌<◌, ◌≤◌, ⊎_elim, List, [], ◌∷◌, Some, sym, ap, subst, ◌∙◌, arith}
use Rattle.std.specs.Prelude.{Contains}
use Rattle.std.specs.List.{AllByRecursion}
use Rattle.std.specs.Option.{option_map_or}
use Rattle.std.proofs.lemmas.Option.{same_Some}
use Rattle.pk_base.specs.Blocks.{tag}
use Rattle.pk_base.specs.declared.tag.Tag.{Tag}
use Rattle.list_facts.proofs.Each.{ByRecursion-at, ByRecursion-contains}
use Rattle.list_facts.proofs.Elements.{Contains-cases, Contains-first, Contains-later, Contains-only, not_in_nil}
use Rattle.solid_model.specs.Rings.{first_tag, from_least, least_of, lesser}
use Rattle.solid_model.proofs.lists.Cycles.{least, least-first}
use Rattle.solid_model.proofs.lists.Turned.{Turned, turned-back, turned-in}
use Rattle.halfedge.proofs.Walks.{least-of_ring}

-- f and g come to the ring that a list written from its least fin has, and f is the lesser of them
pub first-more : (list fins : List Tag) (f g : Tag) → Turned list fins → from_least list ≡ list → f.0 < g.0
    → first_tag (from_least (f ∷ g ∷ fins)) ≡ Some (option_map_or (λ t. lesser t f) (first_tag list) f)
first-more [] fins f g turned written less =
    let none = ByRecursion-contains (λ (u : Tag). f.0 ≤ u.0) fins (λ u k. absurd (not_in_nil u (turned-in fins [] (turned-back [] fins turned) u k))) in
    least-of_ring f (g ∷ fins) ∙ ap Some (least-first f (g ∷ fins) (omega (arith, less), none))
first-more (t ∷ ts) fins f g turned written less =
    let ring : List Tag = f ∷ g ∷ fins in
    let x : Tag = lesser t f in
    let two = least t (f ∷ []) in
    let low : Tag = least_of f (g ∷ fins) in
    let is_low = least f (g ∷ fins) in
    let first : least_of t ts ≡ t = same_Some (least_of t ts) t (sym (least-of_ring t ts) ∙ ap first_tag written) in
    let below : AllByRecursion (λ (u : Tag). t.0 ≤ u.0) (t ∷ ts) = subst (λ (v : Tag). AllByRecursion (λ (u : Tag). v.0 ≤ u.0) (t ∷ ts)) first ((least t ts).first, (least t ts).rest) in
    let under : AllByRecursion (λ (u : Tag). x.0 ≤ u.0) ring = (
      two.rest.0,
      (
        let le = two.rest.0 in omega (arith, le, less),
        ByRecursion-contains (λ (u : Tag). x.0 ≤ u.0) fins (λ u k.
            let at = ByRecursion-at (λ (v : Tag). t.0 ≤ v.0) (t ∷ ts) u below (turned-in fins (t ∷ ts) (turned-back (t ∷ ts) fins turned) u k) in
            let le = two.first in
            omega (arith, at, le)),
      ),
    ) in
    let among : Contains ring x = ⊎_elim {C = Contains ring x}
    (λ (e : t ≡ x). subst (Contains ring) e (Contains-later f (g ∷ fins) t (Contains-later g fins t (turned-in (t ∷ ts) fins turned t (Contains-first t ts)))))
    (λ (k : Contains (f ∷ []) x). subst (Contains ring) (Contains-only f x k) (Contains-first f (g ∷ fins)))
    (Contains-cases t (f ∷ []) x two.among) in
    let above : low.0 ≤ x.0 = ByRecursion-at (λ (u : Tag). low.0 ≤ u.0) ring x (is_low.first, is_low.rest) among in
    let beneath : x.0 ≤ low.0 = ByRecursion-at (λ (u : Tag). x.0 ≤ u.0) ring low under is_low.among in
    let same : low.0 ≡ x.0 = omega (arith, above, beneath) in
    least-of_ring f (g ∷ fins) ∙ ap Some (ap tag same)
