-- The fins of a ring, and of the fins beside them.
use Rattle.std.proofs.Common.{◌≡◌, List, [], ◌∷◌, drop, Some, sym, ap, subst, ◌∙◌}
use Rattle.std.specs.Prelude.{IsSome, is_some, Contains}
use Rattle.std.proofs.lemmas.Option.{same_Some}
use Rattle.pk_base.specs.declared.tag.Tag.{Tag}
use Rattle.pk_model.specs.Maps.{EntityMap}
use Rattle.solid_model.specs.Rings.{last_of}
use Rattle.solid_model.proofs.lists.Neighbours.{head_or}
use Rattle.solid_model.proofs.lists.Cycles.{last_of-in}
use Rattle.halfedge.specs.LinkedRings.{next_at, prev_at, IsRing, ring_at, IsInRing}
use Rattle.halfedge.proofs.LinkedRings.{in-ring_of, in-ring_starts, first-links}
use Rattle.list_facts.proofs.Elements.{Contains-first, Contains-later}

-- the first of a list, or f, stands in the list with f
pub head_or-in : (f : Tag) (fins : List Tag) → Contains (f ∷ fins) (head_or f fins)
head_or-in f [] = Contains-first f []
head_or-in f (g ∷ fins) = Contains-later f (g ∷ fins) g (Contains-first g fins)

-- the ring from a fin on begins with it
pub starts-ring : (m : EntityMap) (f : Tag) → IsInRing m f → IsRing m (f ∷ drop 1 (ring_at m f))
starts-ring m f h = subst (IsRing m) (in-ring_starts m f h) h.ring

pub in-ring_next : (m : EntityMap) (f : Tag) → IsInRing m f → IsSome (next_at m f)
in-ring_next m f h = ap is_some (first-links m f (drop 1 (ring_at m f)) (starts-ring m f h)).0

pub in-ring_prev : (m : EntityMap) (f : Tag) → IsInRing m f → IsSome (prev_at m f)
in-ring_prev m f h = ap is_some (first-links m f (drop 1 (ring_at m f)) (starts-ring m f h)).1

-- the fins beside a fin stand in its ring
pub in-ring_before : (m : EntityMap) (f p : Tag) → IsInRing m f → prev_at m f ≡ Some p → IsInRing m p
in-ring_before m f p h is =
    let rest = drop 1 (ring_at m f) in
    let r = starts-ring m f h in
    let same : last_of f rest ≡ p = same_Some (last_of f rest) p (sym (first-links m f rest r).1 ∙ is) in
    in-ring_of m (f ∷ rest) p r (subst (Contains (f ∷ rest)) same (last_of-in f rest))

pub in-ring_after : (m : EntityMap) (f g : Tag) → IsInRing m f → next_at m f ≡ Some g → IsInRing m g
in-ring_after m f g h is =
    let rest = drop 1 (ring_at m f) in
    let r = starts-ring m f h in
    let same : head_or f rest ≡ g = same_Some (head_or f rest) g (sym (first-links m f rest r).0 ∙ is) in
    in-ring_of m (f ∷ rest) g r (subst (Contains (f ∷ rest)) same (head_or-in f rest))
