-- From a fin of a ring to the next one.
use Rattle.std.proofs.Common.{◌≡◌, ◌≢◌, ⊎_elim, Bool, true, false, cond, List, [], ◌∷◌, ◌++◌, Option, None, Some, refl, sym, ap, subst, ◌∙◌, append-nil, append_assoc, drop}
use Rattle.std.specs.Prelude.{Contains, IfSome, IsSome, option_map, unwrap_or}
use Rattle.std.specs.Option.{option_and_then}
use Rattle.std.specs.List.{cons_option}
use Rattle.std.specs.FinMap.{get}
use Rattle.std.proofs.lemmas.Option.{same_Some}
use Rattle.std.proofs.lemmas.List.Elements.{Contains-append_right}
use Rattle.pk_base.specs.Blocks.{tag}
use Rattle.pk_base.specs.Entity.{same_tag}
use Rattle.pk_base.specs.declared.tag.Tag.{Tag}
use Rattle.pk_base.specs.declared.entity.Entity.{Entity}
use Rattle.pk_base.specs.declared.entity.Entity.TheVariants as entity
use Rattle.pk_base.proofs.Same.{not_same, same_itself}
use Rattle.pk_model.specs.Apart.{NoRepeats}
use Rattle.pk_model.specs.Maps.{EntityMap}
use Rattle.entity_store.specs.Kids.{live_of}
use Rattle.list_facts.proofs.Each.{ByRecursion-at}
use Rattle.list_facts.proofs.Elements.{Contains-first, Contains-later}
use Rattle.halfedge.specs.LinkedRings.{AreLinked, FinFields, IsInRing, IsRing, as_fin, next_at, ring_at, ring_of_any}
use Rattle.halfedge.proofs.LinkedRings.{in-ring_of, in-ring_starts}
use Rattle.halfedge.proofs.RingFins.{in-ring_next, starts-ring}
use Rattle.solid_model.specs.Rings.{from, neighbours}
use Rattle.solid_model.proofs.Reading.{not_before}
use Rattle.solid_model.proofs.lists.Neighbours.{head_or, neighbour_of, parts, parts_at}
use Rattle.views.specs.Fins.{IsOnRing, IsWalk, fins_from, fins_left, unless_first}

-- ---- the walk begins

from-first : (m : EntityMap) (f : Tag) → IsInRing m f → from f (ring_at m f) ≡ ring_at m f
from-first m f h =
    let starts = in-ring_starts m f h in
    ap (from f) starts ∙ ap (λ b. cond b (f ∷ rest) (from f rest)) (same_itself f) ∙ sym starts
  where
    rest : List Tag
    rest = drop 1 (ring_at m f)

pub begins : (m : EntityMap) (first : Option Tag) (f : Tag) → IfSome first (IsInRing m) → f ≡ unwrap_or first (tag 0) → fins_left m f first ≡ live_of m (ring_of_any m first)
begins m None f h e = refl
begins m (Some g) f h e = ap (λ u. live_of m (from g (ring_at m u))) e ∙ ap (live_of m) (from-first m g h)

pub begins-walk : (m : EntityMap) (first : Option Tag) (f : Tag) → IfSome first (IsInRing m) → f ≡ unwrap_or first (tag 0) → IsWalk m f first
begins-walk m None f h e = tt
begins-walk m (Some g) f h e = subst (λ u. IsOnRing m u g) (sym e) (record { ring = h; among = h.among })

-- ---- the fin that is given

-- what a fin is that is linked
pub fin-there : (m : EntityMap) (f : Tag) → IsSome (next_at m f) → (x : FinFields) × (get m f ≡ Some (entity.Fin x.loop_ x.next x.prev x.mate x.edge x.vertex))
fin-there m f h = by_entity (get m f) refl h
  where
    by_entity : (o : Option Entity) → get m f ≡ o → IsSome (option_map (λ (x : FinFields). x.next) (option_and_then as_fin o)) → (x : FinFields) × (get m f ≡ Some (entity.Fin x.loop_ x.next x.prev x.mate x.edge x.vertex))
    by_entity None is k = absurd (cc)
    by_entity (Some (entity.Fin l next prev mate edge vertex)) is k = (record { loop_ = l; next = next; prev = prev; mate = mate; edge = edge; vertex = vertex }, is)
    by_entity (Some (entity.Body shell)) is k = absurd (cc)
    by_entity (Some (entity.Shell body q)) is k = absurd (cc)
    by_entity (Some (entity.Face shell outer)) is k = absurd (cc)
    by_entity (Some (entity.Loop face first vertex)) is k = absurd (cc)
    by_entity (Some (entity.Edge body fin)) is k = absurd (cc)
    by_entity (Some (entity.Vertex body point)) is k = absurd (cc)
    by_entity (Some (entity.Attr owner name value)) is k = absurd (cc)

module _ (m : EntityMap) (first here : Tag) (on : IsOnRing m first here) where
  abbrev ring : List Tag
  ring = ring_at m first

  is_ring : IsRing m ring
  is_ring = subst (IsRing m) (sym (in-ring_starts m first on.ring)) (starts-ring m first on.ring)

  pub here-live : IsSome (next_at m here)
  here-live = in-ring_next m here (in-ring_of m ring here is_ring on.among)

  -- ---- and the next one

  -- where the next one stands, and what is left from here on
  record Onward (n : Tag) : Type 0 where
    left : from here ring ≡ here ∷ fins_from m first (unless_first first n)
    walk : IsWalk m first (unless_first first n)

  head_is : (pre : List Tag) (post : List Tag) → ring ≡ pre ++ here ∷ post → (rest : List Tag) → ring ≡ first ∷ rest → head_or here pre ≡ first
  head_is [] post is rest starts = let both : here ∷ post ≡ first ∷ rest = sym is ∙ starts in cc
  head_is (p ∷ pre) post is rest starts = let both : p ∷ (pre ++ here ∷ post) ≡ first ∷ rest = sym is ∙ starts in cc

  ends : (n : Tag) → n ≡ first → from here ring ≡ here ∷ [] → Onward n
  ends n e left =
      let none : unless_first first n ≡ None = ap (λ b. cond b None (Some n)) (ap (λ t. same_tag t first) e ∙ same_itself first) in
      record {
        left = left ∙ ap (λ o. here ∷ fins_from m first o) (sym none);
        walk = subst (IsWalk m first) (sym none) tt;
      }

  goes : (n : Tag) → n ≢ first → from here ring ≡ here ∷ from n ring → Contains ring n → Onward n
  goes n other left among =
      let some : unless_first first n ≡ Some n = ap (λ b. cond b None (Some n)) (not_same n first other) in
      record {
        left = left ∙ ap (λ o. here ∷ fins_from m first o) (sym some);
        walk = subst (IsWalk m first) (sym some) (record { ring = on.ring; among = among });
      }

  further : (n : Tag) (pre post : List Tag) → ring ≡ pre ++ here ∷ post → NoRepeats ring → n ≡ head_or here (post ++ pre) → Onward n
  further n pre [] is once next =
      let starts = in-ring_starts m first on.ring in
      ends n (next ∙ head_is pre [] is _ starts) (ap (from here) is ∙ (parts_at here pre [] (not_before here pre [] (subst NoRepeats is once))).1)
  further n pre (q ∷ post) is once next =
      let all = subst NoRepeats is once in
      let here_on : from here ring ≡ here ∷ q ∷ post = ap (from here) is ∙ (parts_at here pre (q ∷ post) (not_before here pre (q ∷ post) all)).1 in
      let split : ring ≡ (pre ++ here ∷ []) ++ q ∷ post = is ∙ sym (append_assoc pre (here ∷ []) (q ∷ post)) in
      let q_on : from q ring ≡ q ∷ post = ap (from q) split ∙ (parts_at q (pre ++ here ∷ []) post (not_before q (pre ++ here ∷ []) post (subst NoRepeats split once))).1 in
      let among : Contains ring q = subst (λ ts. Contains ts q) (sym is) (Contains-append_right pre (here ∷ q ∷ post) q (Contains-later here (q ∷ post) q (Contains-first q post))) in
      let other : q ≢ first = λ e. not_before q (pre ++ here ∷ []) post (subst NoRepeats split once) (subst (Contains (pre ++ here ∷ [])) (sym e) (first_before pre is)) in
      goes n (λ e. other (sym next ∙ e)) (here_on ∙ ap (λ ts. here ∷ ts) (sym q_on) ∙ ap (λ t. here ∷ from t ring) (sym next)) (subst (Contains ring) (sym next) among)
    where
      first_before : (pre : List Tag) → ring ≡ pre ++ here ∷ q ∷ post → Contains (pre ++ here ∷ []) first
      first_before [] is =
          let both : here ∷ q ∷ post ≡ first ∷ _ = sym is ∙ in-ring_starts m first on.ring in
          let same : here ≡ first = cc in
          subst (Contains (here ∷ [])) same (Contains-first here [])
      first_before (p ∷ pre) is =
          let both : p ∷ (pre ++ here ∷ q ∷ post) ≡ first ∷ _ = sym is ∙ in-ring_starts m first on.ring in
          let same : p ≡ first = cc in
          subst (Contains (p ∷ (pre ++ here ∷ []))) same (Contains-first p (pre ++ here ∷ []))

  onward : (n : Tag) → next_at m here ≡ Some n → Onward n
  onward n next =
      let p = parts here ring on.among in
      let pair = subst (λ ts. Contains (neighbours ts) (here, head_or here (p.post ++ p.pre))) (sym p.is) (neighbour_of here p.pre p.post) in
      let linked = ByRecursion-at (λ x. AreLinked m x.0 x.1) (neighbours ring) (here, head_or here (p.post ++ p.pre)) is_ring.linked pair in
      further n p.pre p.post p.is is_ring.once (same_Some n (head_or here (p.post ++ p.pre)) (sym next ∙ linked.next))

  -- the fin is given, and the walk goes on
  pub given : (l n prev mate edge vertex : Tag) → get m here ≡ Some (entity.Fin l n prev mate edge vertex)
      → fins_left m first (Some here) ≡ (here, entity.Fin l n prev mate edge vertex) ∷ fins_left m first (unless_first first n)
  given l n prev mate edge vertex live =
      let on' = onward n (ap (λ (o : Option Entity). option_map (λ (x : FinFields). x.next) (option_and_then as_fin o)) live) in
      ap (live_of m) on'.left ∙ ap (λ (o : Option Entity). cons_option (option_map (λ e. (here, e)) o) (fins_left m first (unless_first first n))) live

  pub walk-goes : (l n prev mate edge vertex : Tag) → get m here ≡ Some (entity.Fin l n prev mate edge vertex) → IsWalk m first (unless_first first n)
  walk-goes l n prev mate edge vertex live = (onward n (ap (λ (o : Option Entity). option_map (λ (x : FinFields). x.next) (option_and_then as_fin o)) live)).walk
