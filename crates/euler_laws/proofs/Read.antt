-- What mef needs after kef, and mekr after kemr, as it is read from the store before.
use Rattle.std.proofs.Common.{◌≡◌, ◌≢◌, List, [], ◌∷◌, ◌++◌, drop, Option, Some, None, Ok, refl, sym, ap, subst, ◌∙◌}
use Rattle.std.specs.Prelude.{IsOk, IsSome, unwrap_or, Contains}
use Rattle.std.specs.Option.{option_map_or}
use Rattle.std.specs.List.{AllByRecursion}
use Rattle.std.proofs.lemmas.List.Elements.{Contains-append_right}
use Rattle.pk_base.specs.Blocks.{tag}
use Rattle.pk_base.specs.declared.tag.Tag.{Tag}
use Rattle.pk_model.specs.Apart.{NoRepeats}
use Rattle.pk_model.specs.Maps.{EntityMap}
use Rattle.list_facts.proofs.Elements.{Contains-first, Contains-later, not_in_nil}
use Rattle.list_facts.proofs.Each.{ByRecursion-at}
use Rattle.pk_model.proofs.TagLists.{NoRepeats-between}
use Rattle.solid_model.specs.Items.{Item, Shape, item_at}
use Rattle.solid_model.specs.Items.Item.{Fin}
use Rattle.solid_model.specs.Kemr.{kemr}
use Rattle.solid_model.specs.Places.{PlacedFin, fin_at, mate_at, mate_of}
use Rattle.solid_model.specs.Rings.{before, first_tag, from, next_in}
use Rattle.solid_model.specs.Owners.{owner_in}
use Rattle.solid_model.specs.Shapes.{shape_of}
use Rattle.solid_model.specs.Sound.{IsSound}
use Rattle.solid_model.proofs.lists.Neighbours.{head_or, parts_at}
use Rattle.solid_model.proofs.Reading.{next_in-parts}
use Rattle.solid_sound.proofs.shapes.FinRings.{asked_fin}
use Rattle.solid_sound.proofs.rows.RowKeeps.{IsWell, well-shape}
use Rattle.halfedge.specs.LinkedRings.{IsInRing, IsRing, next_at, ring_at}
use Rattle.euler_kill.proofs.KevFound.{has-next, next-is}
use Rattle.euler_laws.specs.Operands.{fin_after, fins_between, fins_from, kept_end}
use Rattle.euler_laws.proofs.KemrMekr.{IsBridge, is-bridge}

-- ---- a fin that was found

module _ (m : EntityMap) (f mate edge vertex l face shell body : Tag)
    (found : fin_at (shape_of m) f ≡ Ok (record { mate = mate; edge = edge; vertex = vertex; loop_ = l; face = face; shell = shell; body = body; fins = ring_at m f })) (ring : IsInRing m f) where
  pub mate-read : mate ≡ mate_at (shape_of m) f
  mate-read =
      let x = asked_fin (shape_of m) f (item_at (shape_of m) f) _ found in
      sym (ap (λ (r : PlacedFin). r.mate) x.4) ∙ sym (ap (λ (o : Option Item). option_map_or mate_of o (tag 0)) x.3)

  pub ring-read : fins_from (shape_of m) f ≡ ring_at m f
  ring-read = let x = asked_fin (shape_of m) f (item_at (shape_of m) f) _ found in ap (λ (r : PlacedFin). r.fins) x.4

  pub loop-read : owner_in (shape_of m) f ≡ l
  loop-read = let x = asked_fin (shape_of m) f (item_at (shape_of m) f) _ found in ap (λ (r : PlacedFin). r.loop_) x.4

  pub fin-linked : IsSome (next_at m f)
  fin-linked = has-next m (ring_at m f) f ring.ring ring.among

  pub after-read : (next : Tag) → next_at m f ≡ Some next → next ≡ fin_after (shape_of m) f
  after-read next is = next-is m (ring_at m f) f next ring.ring ring.among is ∙ ap (λ ts. next_in ts f) (sym ring-read)

  -- ---- a fin that kemr kills

  module _ (sound : IsSound m) (goes : IsOk (kemr (shape_of m) f)) where
    abbrev S : Shape
    S = shape_of m

    bridge : IsBridge S f
    bridge = is-bridge S (well-shape m sound) f goes

    abbrev whole : List Tag
    whole = f ∷ bridge.A ++ bridge.m ∷ bridge.B

    mate_is : mate ≡ bridge.m
    mate_is = mate-read ∙ ap (λ (o : Option Item). option_map_or mate_of o (tag 0)) bridge.f_is

    linked : IsRing m whole
    linked = subst (IsRing m) (sym ring-read ∙ bridge.fins_are) ring.ring

    mate_in : Contains whole bridge.m
    mate_in = Contains-append_right (f ∷ bridge.A) (bridge.m ∷ bridge.B) bridge.m (Contains-first bridge.m bridge.B)

    pub mate-linked : IsSome (next_at m mate)
    mate-linked = subst (λ t. IsSome (next_at m t)) (sym mate_is) (has-next m whole bridge.m linked mate_in)

    not_before : ¬ (Contains (f ∷ bridge.A) bridge.m)
    not_before k = NoRepeats-between (f ∷ bridge.A) (bridge.m ∷ bridge.B) bridge.m linked.once k (Contains-first bridge.m bridge.B)

    after_mate : (next : Tag) → next_at m mate ≡ Some next → next ≡ head_or bridge.m (bridge.B ++ f ∷ bridge.A)
    after_mate next is = next-is m whole bridge.m next linked mate_in (ap (next_at m) (sym mate_is) ∙ is) ∙ next_in-parts bridge.m (f ∷ bridge.A) bridge.B not_before

    mate_at_is : mate_at S f ≡ bridge.m
    mate_at_is = ap (λ (o : Option Item). option_map_or mate_of o (tag 0)) bridge.f_is

    kept_read : kept_end S f ≡ unwrap_or (first_tag bridge.B) l
    kept_read =
        let behind : from (mate_at S f) (fins_from S f) ≡ bridge.m ∷ bridge.B = (λ i. from (mate_at_is i) (bridge.fins_are i)) ∙ (parts_at bridge.m (f ∷ bridge.A) bridge.B not_before).1 in
        λ i. unwrap_or (first_tag (drop 1 (behind i))) (loop-read i)

    pub kept-loop : (next : Tag) → next_at m mate ≡ Some next → next ≡ f → kept_end S f ≡ l
    kept-loop next is same = kept_read ∙ by_list bridge.B (λ k. NoRepeats-between (f ∷ bridge.A) (bridge.m ∷ bridge.B) f linked.once (Contains-first f bridge.A) (Contains-later bridge.m bridge.B f k)) (sym (after_mate next is) ∙ same)
      where
        by_list : (B : List Tag) → ¬ (Contains B f) → head_or bridge.m (B ++ f ∷ bridge.A) ≡ f → unwrap_or (first_tag B) l ≡ l
        by_list [] none h = refl
        by_list (g ∷ gs) none h = absurd (none (subst (Contains (g ∷ gs)) h (Contains-first g gs)))

    pub kept-fin : (next : Tag) → next_at m mate ≡ Some next → next ≢ f → kept_end S f ≡ next
    kept-fin next is other = kept_read ∙ by_list bridge.B (after_mate next is)
      where
        by_list : (B : List Tag) → next ≡ head_or bridge.m (B ++ f ∷ bridge.A) → unwrap_or (first_tag B) l ≡ next
        by_list [] h = absurd (other h)
        by_list (g ∷ gs) h = sym h

    between_is : fins_between S f ≡ bridge.A
    between_is =
        let ahead : before (mate_at S f) (fins_from S f) ≡ f ∷ bridge.A = (λ i. before (mate_at_is i) (bridge.fins_are i)) ∙ (parts_at bridge.m (f ∷ bridge.A) bridge.B not_before).0 in
        ap (drop 1) ahead

    after_fin : (next : Tag) → next_at m f ≡ Some next → next ≡ head_or f ((bridge.A ++ bridge.m ∷ bridge.B) ++ [])
    after_fin next is = next-is m whole f next linked (Contains-first f (bridge.A ++ bridge.m ∷ bridge.B)) is ∙ next_in-parts f [] (bridge.A ++ bridge.m ∷ bridge.B) (λ k. no_fin k)
      where
        no_fin : Contains [] f → ⊥
        no_fin k = not_in_nil f k

    pub between-none : (next : Tag) → next_at m f ≡ Some next → next ≡ mate → None ≡ first_tag (fins_between S f)
    between-none next is same = by_list bridge.A (λ k. not_before (Contains-later f bridge.A bridge.m k)) (sym (after_fin next is) ∙ same ∙ mate_is) ∙ ap first_tag (sym between_is)
      where
        by_list : (A : List Tag) → ¬ (Contains A bridge.m) → head_or f ((A ++ bridge.m ∷ bridge.B) ++ []) ≡ bridge.m → None ≡ first_tag A
        by_list [] none h = refl
        by_list (g ∷ gs) none h = absurd (none (subst (Contains (g ∷ gs)) h (Contains-first g gs)))

    pub between-some : (next : Tag) → next_at m f ≡ Some next → next ≢ mate → Some next ≡ first_tag (fins_between S f)
    between-some next is other = by_list bridge.A (after_fin next is) ∙ ap first_tag (sym between_is)
      where
        by_list : (A : List Tag) → next ≡ head_or f ((A ++ bridge.m ∷ bridge.B) ++ []) → Some next ≡ first_tag A
        by_list [] h = absurd (other (h ∙ sym mate_is))
        by_list (g ∷ gs) h = ap Some h
