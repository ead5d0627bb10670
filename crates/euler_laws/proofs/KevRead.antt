-- What mev needs after kev, as it is read from the store before.
use Rattle.std.proofs.Common.{◌≡◌, ◌≢◌, List, [], ◌∷◌, ◌++◌, drop, Option, Some, Ok, refl, sym, ap, subst, ◌∙◌}
use Rattle.std.specs.Prelude.{IsOk, IsSome, option_map, unwrap_or, Contains}
use Rattle.std.specs.List.{AllByRecursion}
use Rattle.std.specs.FinMap.{get}
use Rattle.pk_base.specs.declared.tag.Tag.{Tag}
use Rattle.pk_base.specs.declared.entity.Entity.TheVariants as entity
use Rattle.pk_base.specs.declared.entity.Point.{Point}
use Rattle.pk_model.specs.Apart.{NoRepeats}
use Rattle.pk_model.specs.Maps.{EntityMap}
use Rattle.list_facts.proofs.Elements.{Contains-first, Contains-later, Contains-only}
use Rattle.list_facts.proofs.Each.{ByRecursion-at}
use Rattle.solid_model.specs.Items.{Item, Shape, item_at}
use Rattle.solid_model.specs.Items.Item.{Fin, Vertex}
use Rattle.solid_model.specs.Kev.{kev}
use Rattle.solid_model.specs.Links.{entity_of, links}
use Rattle.solid_model.specs.Places.{PlacedFin, fin_at, placed_fin}
use Rattle.solid_model.specs.Rings.{first_tag, next_in}
use Rattle.solid_model.specs.Owners.{owner_in}
use Rattle.solid_model.specs.Shapes.{shape_of}
use Rattle.solid_model.specs.Sound.{IsSound}
use Rattle.solid_model.proofs.lists.Neighbours.{head_or}
use Rattle.solid_model.proofs.Reading.{next_in-parts}
use Rattle.solid_sound.proofs.shapes.FinRings.{asked_fin}
use Rattle.solid_sound.proofs.rows.RowKeeps.{IsWell, well-shape}
use Rattle.solid_sound.proofs.rows.Asked.{get-links}
use Rattle.halfedge.specs.LinkedRings.{IsInRing, IsRing, next_at, ring_at}
use Rattle.euler_kill.proofs.KevFound.{has-next, next-is}
use Rattle.euler_laws.specs.Operands.{end_left, fins_from, point_beyond, triple_of}
use Rattle.euler_laws.proofs.KevMev.{IsStrut, is-strut}
use Rattle.euler_laws.proofs.Laws.{back-again}

module _ (m : EntityMap) (sound : IsSound m) (f : Tag) (goes : IsOk (kev (shape_of m) f)) (mate edge vertex l face shell body : Tag)
    (found : fin_at (shape_of m) f ≡ Ok (record { mate = mate; edge = edge; vertex = vertex; loop_ = l; face = face; shell = shell; body = body; fins = ring_at m f })) (ring : IsInRing m f) where
  abbrev S : Shape
  S = shape_of m

  pub known : IsStrut S f
  known = is-strut S (well-shape m sound) f goes

  mate_is : mate ≡ known.m
  mate_is =
      let x = asked_fin S f (item_at S f) _ found in
      let both : Some (Fin x.0 x.1 x.2) ≡ Some (Fin known.m known.e known.s) = sym x.3 ∙ known.f_is in
      let same : x.0 ≡ known.m = cc in
      sym (ap (λ (r : PlacedFin). r.mate) x.4) ∙ same

  ring_is : ring_at m f ≡ f ∷ known.m ∷ known.A
  ring_is = let x = asked_fin S f (item_at S f) _ found in sym (ap (λ (r : PlacedFin). r.fins) x.4) ∙ known.fins_are

  linked : IsRing m (f ∷ known.m ∷ known.A)
  linked = subst (IsRing m) ring_is ring.ring

  mate_in : Contains (f ∷ known.m ∷ known.A) known.m
  mate_in = Contains-later f (known.m ∷ known.A) known.m (Contains-first known.m known.A)

  pub mate-linked : IsSome (next_at m mate)
  mate-linked = subst (λ t. IsSome (next_at m t)) (sym mate_is) (has-next m (f ∷ known.m ∷ known.A) known.m linked mate_in)

  after_is : (next : Tag) → next_at m mate ≡ Some next → next ≡ head_or known.m (known.A ++ f ∷ [])
  after_is next is =
      next-is m (f ∷ known.m ∷ known.A) known.m next linked mate_in (ap (next_at m) (sym mate_is) ∙ is)
      ∙ next_in-parts known.m (f ∷ []) known.A (λ k. linked.once.0.0 (Contains-only f known.m k))

  end_read : end_left S f ≡ unwrap_or (first_tag known.A) l
  end_read =
      let x = asked_fin S f (item_at S f) _ found in
      let owner : owner_in S f ≡ l = ap (λ (r : PlacedFin). r.loop_) x.4 in
      λ i. unwrap_or (first_tag (drop 2 (known.fins_are i))) (owner i)

  pub end-loop : (next : Tag) → next_at m mate ≡ Some next → next ≡ f → end_left S f ≡ l
  end-loop next is same = end_read ∙ by_list known.A linked.once.0.1 (sym (after_is next is) ∙ same)
    where
      by_list : (A : List Tag) → AllByRecursion (λ t. f ≢ t) A → head_or known.m (A ++ f ∷ []) ≡ f → unwrap_or (first_tag A) l ≡ l
      by_list [] none h = refl
      by_list (g ∷ gs) none h = absurd (none.0 (sym h))

  pub end-fin : (next : Tag) → next_at m mate ≡ Some next → next ≢ f → end_left S f ≡ next
  end-fin next is other = end_read ∙ by_list known.A (after_is next is)
    where
      by_list : (A : List Tag) → next ≡ head_or known.m (A ++ f ∷ []) → unwrap_or (first_tag A) l ≡ next
      by_list [] h = absurd (other h)
      by_list (g ∷ gs) h = sym h

  -- the vertex of the mate, in the map
  pub vertex-there : (mate' edge' v l' face' shell' body' : Tag) (ring' : List Tag) → fin_at S mate ≡ Ok (record { mate = mate'; edge = edge'; vertex = v; loop_ = l'; face = face'; shell = shell'; body = body'; fins = ring' })
      → get m v ≡ Some (entity.Vertex known.b known.p)
  vertex-there mate' edge' v l' face' shell' body' ring' also =
      let x = asked_fin S mate (item_at S mate) _ also in
      let both : Some (Fin x.0 x.1 x.2) ≡ Some (Fin f known.e known.v) = sym x.3 ∙ ap (item_at S) mate_is ∙ known.m_is in
      let same : x.2 ≡ known.v = cc in
      let v_is : v ≡ known.v = sym (ap (λ (r : PlacedFin). r.vertex) x.4) ∙ same in
      ap (λ n. get n v) (sym (back-again m sound)) ∙ get-links S v (well-shape m sound).written.ascends ∙ ap (option_map (entity_of S v)) (ap (item_at S) v_is ∙ known.v_is)

  pub point-read : (b : Tag) (p : Point) (mate' edge' v l' face' shell' body' : Tag) (ring' : List Tag) → fin_at S mate ≡ Ok (record { mate = mate'; edge = edge'; vertex = v; loop_ = l'; face = face'; shell = shell'; body = body'; fins = ring' })
      → get m v ≡ Some (entity.Vertex b p) → triple_of p ≡ point_beyond S f
  point-read b p mate' edge' v l' face' shell' body' ring' also is =
      let both : Some (entity.Vertex b p) ≡ Some (entity.Vertex known.b known.p) = sym is ∙ vertex-there mate' edge' v l' face' shell' body' ring' also in
      let same : p ≡ known.p = cc in
      ap triple_of same ∙ sym known.point_is
