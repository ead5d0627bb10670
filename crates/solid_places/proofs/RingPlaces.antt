-- Fins and ends of a sound map, and their rings.
use Rattle.std.proofs.Common.{◌≡◌, List, [], Option, Some, None, Ok, refl, sym, ap, subst, ◌∙◌}
use Rattle.std.specs.FinMap.{get}
use Rattle.std.proofs.lemmas.Option.{same_Some}
use Rattle.pk_base.specs.declared.tag.Tag.{Tag}
use Rattle.pk_base.specs.declared.entity.Class.TheVariants as class
use Rattle.pk_base.specs.declared.entity.Entity.TheVariants as entity
use Rattle.pk_model.specs.Maps.{EntityMap}
use Rattle.solid_model.specs.Items.{item_at}
use Rattle.solid_model.specs.Items.Item.{Fin, Loop}
use Rattle.solid_model.specs.Rings.{first_tag, written_from}
use Rattle.solid_model.specs.Owners.{owner_in}
use Rattle.solid_model.specs.Places as place
use Rattle.solid_model.specs.Places.{as_fin, fin_at, placed_fin, fins_at, end_at, end_in, end_of_item}
use Rattle.solid_model.specs.Shapes.{shape_of}
use Rattle.solid_model.specs.Sound.{IsSound, class_at}
use Rattle.solid_sound.proofs.shapes.FinRings.{asked_fin}
use Rattle.solid_sound.proofs.rows.RowKeeps.{well-shape}
use Rattle.halfedge.specs.LinkedRings.{IsInRing, ring_at}
use Rattle.solid_calls.proofs.Represented.{represents-sound, ring-of_fin}
use Rattle.solid_places.proofs.Read.{item-of, entity-of, answered, same_Ok}
use Rattle.solid_places.proofs.Around.{fin-loop, fin-first}

module _ (m : EntityMap) (s : IsSound m) where
  pub fin-ring : (f mate edge vertex : Tag) → item_at (shape_of m) f ≡ Some (Fin mate edge vertex) → (ring_at m f ≡ written_from f (fins_at (shape_of m) (owner_in (shape_of m) f))) × IsInRing m f
  fin-ring f mate edge vertex h = ring-of_fin (shape_of m) m (well-shape m s) (represents-sound m s) f mate edge vertex h

  -- the fins of a fin's place
  pub fins-of_fin : (f : Tag) (u : place.PlacedFin) → fin_at (shape_of m) f ≡ Ok u → u.fins ≡ ring_at m f
  fins-of_fin f u h =
      let x = asked_fin (shape_of m) f (item_at (shape_of m) f) u h in
      ap (λ (p : place.PlacedFin). p.fins) (sym x.4) ∙ sym (fin-ring f x.0 x.1 x.2 x.3).0

  -- the loop that a fin names
  pub loop-of : (f l next prev mate edge vertex : Tag) → get m f ≡ Some (entity.Fin l next prev mate edge vertex) → owner_in (shape_of m) f ≡ l
  loop-of f l next prev mate edge vertex h =
      let both = same_Some _ _ (sym (entity-of m s f (Fin mate edge vertex) (item-of m f _ h)) ∙ h) in
      cc

  pub loop-found : (f l next prev mate edge vertex : Tag) → get m f ≡ Some (entity.Fin l next prev mate edge vertex) → class_at (shape_of m) l ≡ Some class.Loop
  loop-found f l next prev mate edge vertex h =
      subst (λ (t : Tag). class_at (shape_of m) t ≡ Some class.Loop) (loop-of f l next prev mate edge vertex h)
      (fin-loop (shape_of m) (well-shape m s) f mate edge vertex (item-of m f _ h))

  pub fin-place : (f l next prev mate edge vertex : Tag) → get m f ≡ Some (entity.Fin l next prev mate edge vertex) → fin_at (shape_of m) f ≡ Ok (placed_fin (shape_of m) f mate edge vertex l)
  fin-place f l next prev mate edge vertex h =
      answered (as_fin (shape_of m) f) (shape_of m) f (Fin mate edge vertex) _ (item-of m f _ h) refl
      ∙ ap (λ t. Ok (placed_fin (shape_of m) f mate edge vertex t)) (loop-of f l next prev mate edge vertex h)

  -- ---- ends

  pub end-fin : (f l next prev mate edge vertex : Tag) → get m f ≡ Some (entity.Fin l next prev mate edge vertex)
      → end_at (shape_of m) f ≡ Ok (end_in (shape_of m) vertex l (ring_at m f))
  end-fin f l next prev mate edge vertex h =
      let is = item-of m f _ h in
      ap (end_of_item (shape_of m) f) is
      ∙ ap (λ t. Ok (end_in (shape_of m) vertex (owner_in (shape_of m) f) t)) (sym (fin-ring f mate edge vertex is).0)
      ∙ ap (λ t. Ok (end_in (shape_of m) vertex t (ring_at m f))) (loop-of f l next prev mate edge vertex h)

  pub ring-first : (f l next prev mate edge vertex : Tag) → get m f ≡ Some (entity.Fin l next prev mate edge vertex) → first_tag (ring_at m f) ≡ Some f
  ring-first f l next prev mate edge vertex h =
      let is = item-of m f _ h in
      ap first_tag (fin-ring f mate edge vertex is).0 ∙ fin-first (shape_of m) (well-shape m s) f mate edge vertex is

  pub end-lone : (l face vertex : Tag) (first : Option Tag) → get m l ≡ Some (entity.Loop face first (Some vertex)) → end_at (shape_of m) l ≡ Ok (end_in (shape_of m) vertex l [])
  end-lone l face vertex first h = ap (end_of_item (shape_of m) l) (item-of m l _ h)

  pub end-bare : (l face : Tag) (first : Option Tag) → get m l ≡ Some (entity.Loop face first None) → end_at (shape_of m) l ≡ end_of_item (shape_of m) l (Some (Loop face [] None))
  end-bare l face first h = ap (end_of_item (shape_of m) l) (item-of m l _ h)

  -- the fins of an end's place
  pub fins-of_end : (t : Tag) (u v : place.End) (ring : List Tag) → end_at (shape_of m) t ≡ Ok v → v.fins ≡ ring → end_at (shape_of m) t ≡ Ok u → u.fins ≡ ring
  fins-of_end t u v ring is fins h = ap (λ (p : place.End). p.fins) (same_Ok u v (sym h ∙ is)) ∙ fins
