-- Maps that differ only in where fins stand: in their links and in their loops.
use Rattle.std.proofs.Common.{◌≡◌, ◌≢◌, ⊎_elim, List, Option, Some, None, refl, sym, ap, ◌∙◌}
use Rattle.std.specs.Prelude.{Contains, option_map}
use Rattle.std.specs.Option.{option_and_then}
use Rattle.std.specs.FinMap.{get}
use Rattle.std.proofs.lemmas.Option.{same_Some}
use Rattle.pk_base.specs.Blocks.{tag}
use Rattle.pk_base.specs.declared.tag.Tag.{Tag}
use Rattle.pk_base.specs.declared.entity.Entity.{Entity}
use Rattle.pk_base.specs.declared.entity.Entity.TheVariants as entity
use Rattle.pk_model.specs.Maps.{EntityMap}
use Rattle.list_facts.proofs.Each.{ByRecursion-at}
use Rattle.halfedge.specs.LinkedRings.{FinFields, IsRing, Relabels, Relinks, as_fin, in_loop, loop_named, next_at, prev_at, unlinked}
use Rattle.halfedge.proofs.LinkedRings.{ring-links}
use Rattle.pk_model.proofs.TagLists.{NoneOf}
use Rattle.solid_model.proofs.lists.Neighbours.{among_or_none}

-- a fin without its links and its loop, any other entity as it is
abbrev pub unplaced : Entity → Entity
unplaced (entity.Fin l next prev mate edge vertex) = entity.Fin (tag 0) (tag 0) (tag 0) mate edge vertex
unplaced (entity.Body shell) = entity.Body shell
unplaced (entity.Shell body q) = entity.Shell body q
unplaced (entity.Face shell outer) = entity.Face shell outer
unplaced (entity.Loop face first vertex) = entity.Loop face first vertex
unplaced (entity.Edge body fin) = entity.Edge body fin
unplaced (entity.Vertex body point) = entity.Vertex body point
unplaced (entity.Attr owner name value) = entity.Attr owner name value

-- under the tag there is the same, but for the place of a fin
abbrev pub IsSameElsewhere : EntityMap → EntityMap → Tag → Type 0
IsSameElsewhere m n t = option_map unplaced (get n t) ≡ option_map unplaced (get m t)

unplaced-unlinked : (e : Option Entity) → option_map unplaced (option_map unlinked e) ≡ option_map unplaced e
unplaced-unlinked None = refl
unplaced-unlinked (Some (entity.Fin l next prev mate edge vertex)) = refl
unplaced-unlinked (Some (entity.Body shell)) = refl
unplaced-unlinked (Some (entity.Shell body q)) = refl
unplaced-unlinked (Some (entity.Face shell outer)) = refl
unplaced-unlinked (Some (entity.Loop face first vertex)) = refl
unplaced-unlinked (Some (entity.Edge body fin)) = refl
unplaced-unlinked (Some (entity.Vertex body point)) = refl
unplaced-unlinked (Some (entity.Attr owner name value)) = refl

unplaced-in_loop : (to : Tag) (e : Option Entity) → option_map unplaced (option_map (in_loop to) e) ≡ option_map unplaced e
unplaced-in_loop to None = refl
unplaced-in_loop to (Some (entity.Fin l next prev mate edge vertex)) = refl
unplaced-in_loop to (Some (entity.Body shell)) = refl
unplaced-in_loop to (Some (entity.Shell body q)) = refl
unplaced-in_loop to (Some (entity.Face shell outer)) = refl
unplaced-in_loop to (Some (entity.Loop face first vertex)) = refl
unplaced-in_loop to (Some (entity.Edge body fin)) = refl
unplaced-in_loop to (Some (entity.Vertex body point)) = refl
unplaced-in_loop to (Some (entity.Attr owner name value)) = refl

-- ---- rings that are linked anew

pub relinks-elsewhere : (m n : EntityMap) (before after : List (List Tag)) → Relinks m before n after → (t : Tag) → IsSameElsewhere m n t
relinks-elsewhere m n before after h t = sym (unplaced-unlinked (get n t)) ∙ ap (option_map unplaced) (h.fields t) ∙ unplaced-unlinked (get m t)

abbrev named_by : Option Entity → Option Tag
named_by e = option_map (λ (x : FinFields). x.loop_) (option_and_then as_fin e)

named-unlinked : (e : Option Entity) → named_by (option_map unlinked e) ≡ named_by e
named-unlinked None = refl
named-unlinked (Some (entity.Fin l next prev mate edge vertex)) = refl
named-unlinked (Some (entity.Body shell)) = refl
named-unlinked (Some (entity.Shell body q)) = refl
named-unlinked (Some (entity.Face shell outer)) = refl
named-unlinked (Some (entity.Loop face first vertex)) = refl
named-unlinked (Some (entity.Edge body fin)) = refl
named-unlinked (Some (entity.Vertex body point)) = refl
named-unlinked (Some (entity.Attr owner name value)) = refl

-- a fin names its loop
pub named-by_fin : (m : EntityMap) (t l next prev mate edge vertex : Tag) → get m t ≡ Some (entity.Fin l next prev mate edge vertex) → loop_named m t ≡ Some l
named-by_fin m t l next prev mate edge vertex h = ap named_by h

-- each fin names its loop as before
pub relinks-named : (m n : EntityMap) (before after : List (List Tag)) → Relinks m before n after → (t : Tag) → loop_named n t ≡ loop_named m t
relinks-named m n before after h t = sym (named-unlinked (get n t)) ∙ ap named_by (h.fields t) ∙ named-unlinked (get m t)

-- ---- rings that are given to another loop

pub relabels-elsewhere : (m n : EntityMap) (ring : List Tag) (to : Tag) → Relabels m ring to n → (t : Tag) → IsSameElsewhere m n t
relabels-elsewhere m n ring to h t = ⊎_elim
    (λ (k : Contains ring t). ap (option_map unplaced) (h.fins t k) ∙ unplaced-in_loop to (get m t))
    (λ (none : NoneOf t ring). ap (option_map unplaced) (h.others t (λ k. ByRecursion-at (λ u. t ≢ u) ring t none k refl)))
    (among_or_none t ring)

abbrev next_by : Option Entity → Option Tag
next_by e = option_map (λ (x : FinFields). x.next) (option_and_then as_fin e)

abbrev prev_by : Option Entity → Option Tag
prev_by e = option_map (λ (x : FinFields). x.prev) (option_and_then as_fin e)

links-in_loop : (to : Tag) (e : Option Entity) → (next_by (option_map (in_loop to) e) ≡ next_by e) × (prev_by (option_map (in_loop to) e) ≡ prev_by e)
links-in_loop to None = (refl, refl)
links-in_loop to (Some (entity.Fin l next prev mate edge vertex)) = (refl, refl)
links-in_loop to (Some (entity.Body shell)) = (refl, refl)
links-in_loop to (Some (entity.Shell body q)) = (refl, refl)
links-in_loop to (Some (entity.Face shell outer)) = (refl, refl)
links-in_loop to (Some (entity.Loop face first vertex)) = (refl, refl)
links-in_loop to (Some (entity.Edge body fin)) = (refl, refl)
links-in_loop to (Some (entity.Vertex body point)) = (refl, refl)
links-in_loop to (Some (entity.Attr owner name value)) = (refl, refl)

-- the links stay
pub relabels-links : (m n : EntityMap) (ring : List Tag) (to : Tag) → Relabels m ring to n → (t : Tag) → (next_at n t ≡ next_at m t) × (prev_at n t ≡ prev_at m t)
relabels-links m n ring to h t = ⊎_elim {C = (next_at n t ≡ next_at m t) × (prev_at n t ≡ prev_at m t)}
    (λ (k : Contains ring t). let both = links-in_loop to (get m t) in (ap next_by (h.fins t k) ∙ both.0, ap prev_by (h.fins t k) ∙ both.1))
    (λ (none : NoneOf t ring).
    let same = h.others t (λ k. ByRecursion-at (λ u. t ≢ u) ring t none k refl) in (ap next_by same, ap prev_by same))
    (among_or_none t ring)

named-in_loop : (to g : Tag) (e : Option Entity) → next_by e ≡ Some g → named_by (option_map (in_loop to) e) ≡ Some to
named-in_loop to g None h = absurd (cc)
named-in_loop to g (Some (entity.Fin l next prev mate edge vertex)) h = refl
named-in_loop to g (Some (entity.Body shell)) h = absurd (cc)
named-in_loop to g (Some (entity.Shell body q)) h = absurd (cc)
named-in_loop to g (Some (entity.Face shell outer)) h = absurd (cc)
named-in_loop to g (Some (entity.Loop face first vertex)) h = absurd (cc)
named-in_loop to g (Some (entity.Edge body fin)) h = absurd (cc)
named-in_loop to g (Some (entity.Vertex body point)) h = absurd (cc)
named-in_loop to g (Some (entity.Attr owner name value)) h = absurd (cc)

-- each fin of the ring names the loop
pub relabels-named : (m n : EntityMap) (ring : List Tag) (to : Tag) → IsRing m ring → Relabels m ring to n → (t : Tag) → Contains ring t → loop_named n t ≡ Some to
relabels-named m n ring to is h t k = ap named_by (h.fins t k) ∙ named-in_loop to _ (get m t) (ring-links m ring t is k).0

-- ---- what is there

none_mapped : (e : Option Entity) → option_map unplaced e ≡ None → e ≡ None
none_mapped None h = refl
none_mapped (Some e) h = absurd (cc)

pub elsewhere-none : (m n : EntityMap) (t : Tag) → IsSameElsewhere m n t → get m t ≡ None → get n t ≡ None
elsewhere-none m n t h is = none_mapped (get n t) (h ∙ ap (option_map unplaced) is)

plain-is : (e x : Entity) → as_fin x ≡ None → unplaced e ≡ x → e ≡ x
plain-is (entity.Fin l next prev mate edge vertex) x none h =
    let fin : as_fin (entity.Fin (tag 0) (tag 0) (tag 0) mate edge vertex) ≡ None = ap as_fin h ∙ none in
    absurd (cc)
plain-is (entity.Body shell) x none h = h
plain-is (entity.Shell body q) x none h = h
plain-is (entity.Face shell outer) x none h = h
plain-is (entity.Loop face first vertex) x none h = h
plain-is (entity.Edge body fin) x none h = h
plain-is (entity.Vertex body point) x none h = h
plain-is (entity.Attr owner name value) x none h = h

plain-unplaced : (x : Entity) → as_fin x ≡ None → unplaced x ≡ x
plain-unplaced (entity.Fin l next prev mate edge vertex) none = absurd (cc)
plain-unplaced (entity.Body shell) none = refl
plain-unplaced (entity.Shell body q) none = refl
plain-unplaced (entity.Face shell outer) none = refl
plain-unplaced (entity.Loop face first vertex) none = refl
plain-unplaced (entity.Edge body fin) none = refl
plain-unplaced (entity.Vertex body point) none = refl
plain-unplaced (entity.Attr owner name value) none = refl

plain_there : (e : Option Entity) (x : Entity) → as_fin x ≡ None → option_map unplaced e ≡ Some x → e ≡ Some x
plain_there None x none h = absurd (cc)
plain_there (Some e) x none h = ap Some (plain-is e x none (same_Some (unplaced e) x h))

-- what is no fin is the same
pub elsewhere-plain : (m n : EntityMap) (t : Tag) (x : Entity) → IsSameElsewhere m n t → as_fin x ≡ None → get m t ≡ Some x → get n t ≡ Some x
elsewhere-plain m n t x h none is = plain_there (get n t) x none (h ∙ ap (option_map unplaced) is ∙ ap Some (plain-unplaced x none))

-- a fin, wherever it stands
abbrev pub IsFinOf : Option Entity → Tag → Tag → Tag → Type 0
IsFinOf e mate edge vertex = (l : Tag) × (next : Tag) × (prev : Tag) × (e ≡ Some (entity.Fin l next prev mate edge vertex))

fin_there : (e : Option Entity) (mate edge vertex : Tag) → option_map unplaced e ≡ Some (entity.Fin (tag 0) (tag 0) (tag 0) mate edge vertex) → IsFinOf e mate edge vertex
fin_there None mate edge vertex h = absurd (cc)
fin_there (Some (entity.Fin l next prev a b c)) mate edge vertex h =
    let mate_is : a ≡ mate = cc in
    let edge_is : b ≡ edge = cc in
    let vertex_is : c ≡ vertex = cc in
    (l, next, prev, λ i. Some (entity.Fin l next prev (mate_is i) (edge_is i) (vertex_is i)))
fin_there (Some (entity.Body shell)) mate edge vertex h = absurd (cc)
fin_there (Some (entity.Shell body q)) mate edge vertex h = absurd (cc)
fin_there (Some (entity.Face shell outer)) mate edge vertex h = absurd (cc)
fin_there (Some (entity.Loop face first alone)) mate edge vertex h = absurd (cc)
fin_there (Some (entity.Edge body fin)) mate edge vertex h = absurd (cc)
fin_there (Some (entity.Vertex body point)) mate edge vertex h = absurd (cc)
fin_there (Some (entity.Attr owner name value)) mate edge vertex h = absurd (cc)

-- a fin has the same mate, edge and vertex
pub elsewhere-fin : (m n : EntityMap) (t mate edge vertex : Tag) → IsSameElsewhere m n t → IsFinOf (get m t) mate edge vertex → IsFinOf (get n t) mate edge vertex
elsewhere-fin m n t mate edge vertex h (l, next, prev, is) = fin_there (get n t) mate edge vertex (h ∙ ap (option_map unplaced) is)
