-- When a map is the one of a shape, tag by tag.
use Rattle.std.proofs.Common.{◌≡◌, ◌≢◌, ℕ, ◌<◌, ◌≤◌, ⊎_elim, Bool, true, false, cond, List, [], ◌∷◌, Option, Some, None, refl, sym, ap, subst, ◌∙◌, arith}
use Rattle.std.specs.Prelude.{T, ◌==◌, ◌+◌, nat_lt, find, unwrap_or, option_map, is_some, IsSome, Contains}
use Rattle.std.specs.Option.{option_and_then, option_map_or}
use Rattle.std.specs.List.{AllByRecursion, count_by}
use Rattle.std.specs.Ordering.{eq_by_cmp, is_lt}
use Rattle.std.specs.declared.cmp.Ordering.TheVariants.{Less, Equal, Greater}
use Rattle.std.specs.FinMap.{get, is_sorted, same_map}
use Rattle.std.specs.FinMap.Entries.{below_all}
use Rattle.std.proofs.lemmas.Bool.{cases_Bool, ltb-true}
use Rattle.std.proofs.lemmas.Option.{same_Some}
use Rattle.std.proofs.lemmas.List.Sums.{sum_by-cons}
use Rattle.pk_base.specs.Blocks.{tag}
use Rattle.pk_base.specs.declared.tag.Tag.{Tag}
use Rattle.pk_base.specs.declared.entity.Entity.{Entity}
use Rattle.pk_base.specs.declared.entity.Entity.TheVariants as entity
use Rattle.pk_model.specs.Maps.{EntityMap, tag_cmp}
use Rattle.pk_model.proofs.TagLists.{tag_total, tag_antisymmetric, same_from_tie}
use Rattle.solid_model.specs.Items.{Item, Shape, item_at}
use Rattle.solid_model.specs.Items.Item.{Body, Shell, Face, Loop, Fin, Edge, Vertex, Attr}
use Rattle.solid_model.specs.Rings.{first_tag, written_from, next_in, previous_in}
use Rattle.solid_model.specs.Owners.{fins_of, owner_in}
use Rattle.solid_model.specs.Places.{fins_at}
use Rattle.solid_model.specs.Links.{is_fin_of, fin_of_edge, entity_of, links}
use Rattle.solid_model.specs.Shapes.{shape_of}
use Rattle.solid_model.specs.Sound.{IsSound, fins_with_edge}
use Rattle.solid_model.proofs.lists.Neighbours.{both_parts}
use Rattle.pk_base.proofs.Same.{same_itself, same_means, same_or_other}
use Rattle.solid_sound.proofs.shapes.Found.{none_or_some, find-some, find-none, among-item, item-among}
use Rattle.solid_sound.proofs.shapes.Reading.{fin_in, fins-once, loop-of_fin}
use Rattle.solid_sound.proofs.shapes.FinRings.{ring_with, ring_owner, ring_fins}
use Rattle.solid_sound.proofs.edges.EdgeDeaths.{edge-other}
use Rattle.solid_sound.proofs.rows.RowKeeps.{IsWell, well-shape}
use Rattle.solid_sound.proofs.shapes.OnlyShape.{shape-read}
use Rattle.solid_sound.proofs.rows.Asked.{get-links}
use Rattle.list_facts.proofs.Each.{ByRecursion-contains, ByRecursion-at}
use Rattle.halfedge.specs.LinkedRings.{as_fin, next_at, prev_at, loop_named, IsRing, IsInRing, ring_at}
use Rattle.halfedge.proofs.LinkedRings.{ring_at-is, in-ring_from, ring-written, ring-kept, ring-links, links-ring}

-- ---- what is shown

-- the fin is one of the edge's, and the lesser
pub record IsLesserFin (S : Shape) (e f : Tag) : Type 0 where
  pub mate : Tag
  pub vertex : Tag
  pub fin_is : item_at S f ≡ Some (Fin mate e vertex)
  pub less : f.0 < mate.0

-- what the map has under tag t, where the shape has this item there
abbrev pub Shows : Shape → EntityMap → Tag → Item → Type 0
Shows S m t (Body shell) = get m t ≡ Some (entity.Body shell)
Shows S m t (Shell body q) = get m t ≡ Some (entity.Shell body q)
Shows S m t (Face shell outer) = get m t ≡ Some (entity.Face shell outer)
Shows S m t (Loop face fins vertex) = (get m t ≡ Some (entity.Loop face (first_tag fins) vertex)) × IsRing m fins × AllByRecursion (λ f. loop_named m f ≡ Some t) fins
Shows S m t (Fin mate edge vertex) = (l : Tag) × (next : Tag) × (prev : Tag) × (get m t ≡ Some (entity.Fin l next prev mate edge vertex))
Shows S m t (Edge body) = (f : Tag) × (get m t ≡ Some (entity.Edge body f)) × IsLesserFin S t f
Shows S m t (Vertex body point) = get m t ≡ Some (entity.Vertex body point)
Shows S m t (Attr owner name value) = get m t ≡ Some (entity.Attr owner name value)

-- each tag of the shape is shown, and the map has no other
pub record Represents (S : Shape) (m : EntityMap) : Type 0 where
  pub items : (t : Tag) (x : Item) → item_at S t ≡ Some x → Shows S m t x
  pub nothing : (t : Tag) → item_at S t ≡ None → get m t ≡ None

-- ---- the first that is found is the least

lt_from_is_lt : (t u : Tag) → T (is_lt (tag_cmp t u)) → t.0 < u.0
lt_from_is_lt t u h =
    elim (nat_lt t.0 u.0) as (λ b. nat_lt t.0 u.0 ≡ b → T (is_lt (cond b Less (cond (t.0 == u.0) Equal Greater))) → t.0 < u.0) [
      | true ↦ λ e k. ltb-true t.0 u.0 e
      | false ↦ λ e k. absurd (never (t.0 == u.0) k)
    ] refl h
  where
    never : (b : Bool) → T (is_lt (cond b Equal Greater)) → ⊥
    never true k = absurd k
    never false k = absurd k

pub below_all-less : (t : Tag) (S : Shape) → T (below_all tag_cmp t S) → AllByRecursion (λ (x : Tag × Item). t.0 < x.0.0) S
below_all-less t [] h = tt
below_all-less t (x ∷ S) h =
    let both = both_parts (is_lt (tag_cmp t x.0)) (below_all tag_cmp t S) h in
    (lt_from_is_lt t x.0 both.0, below_all-less t S both.1)

find-least : (p : Tag × Item → Bool) (S : Shape) → T (is_sorted tag_cmp S) → (q : Tag) (x : Item) → item_at S q ≡ Some x → p (q, x) ≡ true
    → (y : Tag × Item) × (find p S ≡ Some y) × (y.0.0 ≤ q.0)
find-least p [] sorted q x e h = absurd (cc)
find-least p (y ∷ S) sorted q x e h =
    let both = both_parts (below_all tag_cmp y.0 S) (is_sorted tag_cmp S) sorted in
    ⊎_elim {C = (z : Tag × Item) × (find p (y ∷ S) ≡ Some z) × (z.0.0 ≤ q.0)}
    (λ (here : eq_by_cmp tag_cmp q y.0 ≡ true).
    let same : q ≡ y.0 = same_from_tie q y.0 here in
    let value : y.1 ≡ x = same_Some y.1 x (sym (ap (λ b. cond b (Some y.1) (item_at S q)) here) ∙ e) in
    let passes : p y ≡ true = (λ i. p (sym same i, value i)) ∙ h in
    let number : q.0 ≡ y.0.0 = ap (λ (t : Tag). t.0) same in
    (y, ap (λ b. cond b (Some y) (find p S)) passes, omega (arith, number)))
    (λ (later : eq_by_cmp tag_cmp q y.0 ≡ false).
    let there : item_at S q ≡ Some x = sym (ap (λ b. cond b (Some y.1) (item_at S q)) later) ∙ e in
    ⊎_elim {C = (z : Tag × Item) × (find p (y ∷ S) ≡ Some z) × (z.0.0 ≤ q.0)}
    (λ (c : p y ≡ true).
    let less : y.0.0 < q.0 = ByRecursion-at (λ (z : Tag × Item). y.0.0 < z.0.0) S (q, x) (below_all-less y.0 S both.0) (item-among S q x there) in
    (y, ap (λ b. cond b (Some y) (find p S)) c, omega (arith, less)))
    (λ (d : p y ≡ false).
    let rest = find-least p S both.1 q x there h in
    (rest.0, ap (λ b. cond b (Some y) (find p S)) d ∙ rest.1, rest.2))
    (cases_Bool (p y)))
    (cases_Bool (eq_by_cmp tag_cmp q y.0))

count_none : (p : Tag × Item → Bool) (S : Shape) → AllByRecursion (λ x. p x ≡ false) S → count_by p S ≡ 0
count_none p [] h = refl
count_none p (x ∷ S) h =
    let sum : count_by p (x ∷ S) ≡ cond {A = ℕ} (p x) 1 0 + count_by p S = sum_by-cons (λ (z : Tag × Item). cond {A = ℕ} (p z) 1 0) x S in
    let here : cond {A = ℕ} (p x) 1 0 ≡ 0 = ap (λ b. cond {A = ℕ} b 1 0) h.0 in
    omega (arith, sum, here, count_none p S h.1)

-- ---- the lesser fin of an edge

fin_of_is : (e : Tag) (x : Item) → is_fin_of e x ≡ true → (mate : Tag) × (vertex : Tag) × (x ≡ Fin mate e vertex)
fin_of_is e (Fin mate edge vertex) h = (mate, vertex, ap (λ t. Fin mate t vertex) (same_means edge e h))
fin_of_is e (Body shell) h = absurd (cc)
fin_of_is e (Shell body q) h = absurd (cc)
fin_of_is e (Face shell outer) h = absurd (cc)
fin_of_is e (Loop face fins vertex) h = absurd (cc)
fin_of_is e (Edge body) h = absurd (cc)
fin_of_is e (Vertex body point) h = absurd (cc)
fin_of_is e (Attr owner name value) h = absurd (cc)

module _ (S : Shape) (well : IsWell S) where
  -- the first fin of the edge that is found is the lesser
  found_lesser : (e : Tag) (y : Tag × Item) → find (λ x. is_fin_of e x.1) S ≡ Some y → IsLesserFin S e y.0
  found_lesser e y h =
      let k = find-some (λ x. is_fin_of e x.1) S y h in
      let x = fin_of_is e y.1 k.0 in
      let is : item_at S y.0 ≡ Some (Fin x.0 e x.1) = among-item S well.written.ascends y.0 y.1 k.1 ∙ ap Some x.2 in
      let mated = well.sound.mates.fins y.0 x.0 e x.1 is in
      let first = find-least (λ x. is_fin_of e x.1) S well.written.ascends x.0 (Fin y.0 e mated.end) mated.mate_is (same_itself e) in
      let same : first.0 ≡ y = same_Some first.0 y (sym first.1 ∙ h) in
      let number : first.0.0.0 ≡ y.0.0 = ap (λ (z : Tag × Item). z.0.0) same in
      let apart : y.0.0 ≢ x.0.0 = λ n. mated.other (ap tag (sym n)) in
      record { mate = x.0; vertex = x.1; fin_is = is; less = let le = first.2 in omega (arith, number, apart, le) }

  -- the fin that a map of the shape has for an edge
  pub lesser-found : (e body : Tag) → item_at S e ≡ Some (Edge body) → IsLesserFin S e (fin_of_edge S e)
  lesser-found e body e_is =
      ⊎_elim {C = IsLesserFin S e (fin_of_edge S e)}
      (λ (none : find (λ x. is_fin_of e x.1) S ≡ None).
      let two : fins_with_edge S e ≡ 2 = well.sound.mates.edges e body e_is in
      let zero : fins_with_edge S e ≡ 0 = count_none (λ x. is_fin_of e x.1) S (find-none (λ x. is_fin_of e x.1) S none) in
      absurd (omega (arith, two, zero)))
      (λ (some : (y : Tag × Item) × (find (λ x. is_fin_of e x.1) S ≡ Some y)).
      let is : fin_of_edge S e ≡ some.0.0 = ap (λ (o : Option (Tag × Item)). unwrap_or (option_map (λ x. x.0) o) (tag 0)) some.1 in
      subst (IsLesserFin S e) (sym is) (found_lesser e some.0 some.1))
      (none_or_some (find (λ x. is_fin_of e x.1) S))

  -- an edge has one lesser fin
  pub lesser-one : (e f g : Tag) → IsLesserFin S e f → IsLesserFin S e g → f ≡ g
  lesser-one e f g a b =
      let mated = well.sound.mates.fins f a.mate e a.vertex a.fin_is in
      ⊎_elim {C = f ≡ g} (λ (same : f ≡ g). same)
      (λ (other : f ≢ g).
      ⊎_elim {C = f ≡ g}
      (λ (mate : a.mate ≡ g).
      let both : Some (Fin f e mated.end) ≡ Some (Fin b.mate e b.vertex) = sym mated.mate_is ∙ ap (item_at S) mate ∙ b.fin_is in
      let back : f ≡ b.mate = cc in
      let one : a.mate.0 ≡ g.0 = ap (λ (t : Tag). t.0) mate in
      let two : f.0 ≡ b.mate.0 = ap (λ (t : Tag). t.0) back in
      let less = a.less in
      let more = b.less in
      absurd (omega (arith, one, two, less, more)))
      (λ (apart : a.mate ≢ g). absurd (edge-other S well f a.mate e a.vertex mated.end a.fin_is mated.mate_is g b.mate e b.vertex b.fin_is (λ k. other (sym k)) (λ k. apart (sym k)) refl))
      (same_or_other a.mate g))
      (same_or_other f g)

-- ---- a map that shows a shape is its map

module _ (S : Shape) (m : EntityMap) (well : IsWell S) (shown : Represents S m) where
  -- a fin is linked as in the list of its loop
  fin_shown : (l face : Tag) (fins : List Tag) (vertex : Option Tag) → item_at S l ≡ Some (Loop face fins vertex)
      → (f : Tag) → Contains fins f → (mate edge start : Tag) → item_at S f ≡ Some (Fin mate edge start)
      → get m f ≡ Some (entity.Fin l (next_in fins f) (previous_in fins f) mate edge start)
  fin_shown l face fins vertex l_is f k mate edge start f_is =
      let fin = shown.items f (Fin mate edge start) f_is in
      let loop_ = shown.items l (Loop face fins vertex) l_is in
      let to = ring-links m fins f loop_.1 k in
      let named : loop_named m f ≡ Some l = ByRecursion-at (λ t. loop_named m t ≡ Some l) fins f loop_.2 k in
      let l_same : fin.0 ≡ l = same_Some fin.0 l (sym (ap (λ (o : Option Entity). option_map (λ x. x.loop_) (option_and_then as_fin o)) fin.3) ∙ named) in
      let next_same : fin.1 ≡ next_in fins f = same_Some fin.1 (next_in fins f) (sym (ap (λ (o : Option Entity). option_map (λ x. x.next) (option_and_then as_fin o)) fin.3) ∙ to.0) in
      let prev_same : fin.2 ≡ previous_in fins f = same_Some fin.2 (previous_in fins f) (sym (ap (λ (o : Option Entity). option_map (λ x. x.prev) (option_and_then as_fin o)) fin.3) ∙ to.1) in
      fin.3 ∙ (λ i. Some (entity.Fin (l_same i) (next_same i) (prev_same i) mate edge start))

  fin_entity : (t mate edge vertex : Tag) → item_at S t ≡ Some (Fin mate edge vertex) → get m t ≡ Some (entity_of S t (Fin mate edge vertex))
  fin_entity t mate edge vertex is =
      let r = ring_with S well t mate edge vertex is in
      let own : owner_in S t ≡ r.0 = ring_owner S well t r.0 r.1 r.2 _ r.3 t r.3.among in
      let fins : fins_at S (owner_in S t) ≡ r.2 = ap (fins_at S) own ∙ ap (λ (o : Option Item). option_map_or fins_of o []) r.3.loop_is in
      fin_shown r.0 r.1 r.2 None r.3.loop_is t r.3.among mate edge vertex is
      ∙ (λ i. Some (entity.Fin (sym own i) (next_in (sym fins i) t) (previous_in (sym fins i) t) mate edge vertex))

  entity_shown : (t : Tag) (x : Item) → item_at S t ≡ Some x → get m t ≡ Some (entity_of S t x)
  entity_shown t (Body shell) is = shown.items t (Body shell) is
  entity_shown t (Shell body q) is = shown.items t (Shell body q) is
  entity_shown t (Face shell outer) is = shown.items t (Face shell outer) is
  entity_shown t (Loop face fins vertex) is = (shown.items t (Loop face fins vertex) is).0
  entity_shown t (Fin mate edge vertex) is = fin_entity t mate edge vertex is
  entity_shown t (Edge body) is =
      let x = shown.items t (Edge body) is in
      x.1 ∙ ap (λ f. Some (entity.Edge body f)) (lesser-one S well t x.0 (fin_of_edge S t) x.2 (lesser-found S well t body is))
  entity_shown t (Vertex body point) is = shown.items t (Vertex body point) is
  entity_shown t (Attr owner name value) is = shown.items t (Attr owner name value) is

  finds_shown : (q : Tag) → get m q ≡ get (links S) q
  finds_shown q =
      ⊎_elim {C = get m q ≡ get (links S) q}
      (λ (none : item_at S q ≡ None). shown.nothing q none ∙ sym (get-links S q well.written.ascends ∙ ap (option_map (entity_of S q)) none))
      (λ (some : (x : Item) × (item_at S q ≡ Some x)). entity_shown q some.0 some.1 ∙ sym (get-links S q well.written.ascends ∙ ap (option_map (entity_of S q)) some.1))
      (none_or_some (item_at S q))

-- a map that shows a shape is its map
pub represented : (S : Shape) (m : EntityMap) → IsWell S → Represents S m → m ≡ links S
represented S m well shown = same_map tag_total tag_antisymmetric m (links S) (finds_shown S m well shown)

-- ---- the map of a shape shows it

module _ (S : Shape) (well : IsWell S) where
  links_at : (t : Tag) (x : Item) → item_at S t ≡ Some x → get (links S) t ≡ Some (entity_of S t x)
  links_at t x is = get-links S t well.written.ascends ∙ ap (option_map (entity_of S t)) is

  module _ (l face : Tag) (fins : List Tag) (vertex : Option Tag) (l_is : item_at S l ≡ Some (Loop face fins vertex)) where
    fin_linked : (f : Tag) → Contains fins f → (mate : Tag) × (edge : Tag) × (start : Tag) × (get (links S) f ≡ Some (entity.Fin l (next_in fins f) (previous_in fins f) mate edge start))
    fin_linked f k =
        let x = fin_in S well.written well.sound l face fins vertex l_is f k in
        let own : owner_in S f ≡ l = loop-of_fin S well.written well.sound l face fins vertex l_is f k in
        let there : fins_at S (owner_in S f) ≡ fins = ap (fins_at S) own ∙ ap (λ (o : Option Item). option_map_or fins_of o []) l_is in (
          x.0,
          x.1,
          x.2,
          links_at f (Fin x.0 x.1 x.2) x.3 ∙ (λ i. Some (entity.Fin (own i) (next_in (there i) f) (previous_in (there i) f) x.0 x.1 x.2)),
        )

    loop_ring : IsRing (links S) fins
    loop_ring = links-ring (links S) fins (fins-once S well.written well.sound l face fins vertex l_is) (λ f k.
        let x = fin_linked f k in (
          ap (λ (o : Option Entity). option_map (λ y. y.next) (option_and_then as_fin o)) x.3,
          ap (λ (o : Option Entity). option_map (λ y. y.prev) (option_and_then as_fin o)) x.3,
        ))

    loop_names : AllByRecursion (λ f. loop_named (links S) f ≡ Some l) fins
    loop_names = ByRecursion-contains (λ f. loop_named (links S) f ≡ Some l) fins (λ f k. ap (λ (o : Option Entity). option_map (λ y. y.loop_) (option_and_then as_fin o)) (fin_linked f k).3)

  links_show : (t : Tag) (x : Item) → item_at S t ≡ Some x → Shows S (links S) t x
  links_show t (Body shell) is = links_at t (Body shell) is
  links_show t (Shell body q) is = links_at t (Shell body q) is
  links_show t (Face shell outer) is = links_at t (Face shell outer) is
  links_show t (Loop face fins vertex) is = (links_at t (Loop face fins vertex) is, loop_ring t face fins vertex is, loop_names t face fins vertex is)
  links_show t (Fin mate edge vertex) is = (owner_in S t, next_in (fins_at S (owner_in S t)) t, previous_in (fins_at S (owner_in S t)) t, links_at t (Fin mate edge vertex) is)
  links_show t (Edge body) is = (fin_of_edge S t, links_at t (Edge body) is, lesser-found S well t body is)
  links_show t (Vertex body point) is = links_at t (Vertex body point) is
  links_show t (Attr owner name value) is = links_at t (Attr owner name value) is

-- the map of a shape shows it
pub represents : (S : Shape) → IsWell S → Represents S (links S)
represents S well = record {
  items = links_show S well;
  nothing = λ t none. get-links S t well.written.ascends ∙ ap (option_map (entity_of S t)) none;
}

-- a sound map shows its shape
pub represents-sound : (m : EntityMap) → IsSound m → Represents (shape_of m) m
represents-sound m s =
    let is : m ≡ links (shape_of m) = s.map_is ∙ ap links (sym (shape-read m s)) in
    subst (Represents (shape_of m)) (sym is) (represents (shape_of m) (well-shape m s))

-- ---- what stays

-- An item is shown as before where its entity and the links of its fins stay, and where the fins of
-- an edge keep their mates.
pub shows-linked : (S R : Shape) (m n : EntityMap) (t : Tag) (x : Item) → Shows S m t x → get n t ≡ get m t
    → ((f : Tag) → Contains (fins_of x) f → (next_at n f ≡ next_at m f) × (prev_at n f ≡ prev_at m f) × (loop_named n f ≡ loop_named m f))
    → ((f mate vertex : Tag) → item_at S f ≡ Some (Fin mate t vertex) → (start : Tag) × (item_at R f ≡ Some (Fin mate t start)))
    → Shows R n t x
shows-linked S R m n t (Body shell) h same fins edges = same ∙ h
shows-linked S R m n t (Shell body q) h same fins edges = same ∙ h
shows-linked S R m n t (Face shell outer) h same fins edges = same ∙ h
shows-linked S R m n t (Loop face ring vertex) h same fins edges = (
  same ∙ h.0,
  ring-kept m n ring h.1 (λ f k. let x = fins f k in (x.0, x.1)),
  ByRecursion-contains (λ f. loop_named n f ≡ Some t) ring (λ f k. (fins f k).2 ∙ ByRecursion-at (λ g. loop_named m g ≡ Some t) ring f h.2 k),
)
shows-linked S R m n t (Fin mate edge vertex) h same fins edges = (h.0, h.1, h.2, same ∙ h.3)
shows-linked S R m n t (Edge body) h same fins edges =
    let x = h.2 in
    let y = edges h.0 x.mate x.vertex x.fin_is in
    (h.0, same ∙ h.1, record { mate = x.mate; vertex = y.0; fin_is = y.1; less = x.less })
shows-linked S R m n t (Vertex body point) h same fins edges = same ∙ h
shows-linked S R m n t (Attr owner name value) h same fins edges = same ∙ h

-- an item that stays is shown as before, where the map has not changed there
pub shows-kept : (S R : Shape) (m n : EntityMap) (t : Tag) (x : Item) → Shows S m t x → get n t ≡ get m t → ((f : Tag) → Contains (fins_of x) f → get n f ≡ get m f)
    → ((f mate edge vertex : Tag) → item_at S f ≡ Some (Fin mate edge vertex) → edge ≡ t → item_at R f ≡ Some (Fin mate edge vertex)) → Shows R n t x
shows-kept S R m n t x h same fins edges =
    shows-linked S R m n t x h same
    (λ f k. let e = fins f k in (
      ap (λ (o : Option Entity). option_map (λ y. y.next) (option_and_then as_fin o)) e,
      ap (λ (o : Option Entity). option_map (λ y. y.prev) (option_and_then as_fin o)) e,
      ap (λ (o : Option Entity). option_map (λ y. y.loop_) (option_and_then as_fin o)) e,
    ))
    (λ f mate vertex is. (vertex, edges f mate t vertex is refl))

-- ---- the ring of a fin

-- the ring of a fin of a sound solid
pub ring-of_fin : (S : Shape) (m : EntityMap) → IsWell S → Represents S m → (f mate edge vertex : Tag) → item_at S f ≡ Some (Fin mate edge vertex)
    → (ring_at m f ≡ written_from f (fins_at S (owner_in S f))) × IsInRing m f
ring-of_fin S m well shown f mate edge vertex is =
    let r = ring_with S well f mate edge vertex is in
    let ring = (shown.items r.0 (Loop r.1 r.2 None) r.3.loop_is).1 in
    let from_f : IsRing m (f ∷ _) = subst (IsRing m) r.3.written_is (ring-written m f r.2 ring r.3.among) in (
      ring_at-is m f _ from_f ∙ sym (ring_fins S well f r.0 r.1 r.2 _ r.3),
      in-ring_from m f _ from_f,
    )

-- ---- what a shown tag has

-- a tag of the shape is live
pub shown-live : (S : Shape) (m : EntityMap) (t : Tag) (x : Item) → Shows S m t x → IsSome (get m t)
shown-live S m t (Body shell) h = ap is_some h
shown-live S m t (Shell body q) h = ap is_some h
shown-live S m t (Face shell outer) h = ap is_some h
shown-live S m t (Loop face fins vertex) h = ap is_some h.0
shown-live S m t (Fin mate edge vertex) h = ap is_some h.3
shown-live S m t (Edge body) h = ap is_some h.1
shown-live S m t (Vertex body point) h = ap is_some h
shown-live S m t (Attr owner name value) h = ap is_some h
