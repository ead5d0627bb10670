-- The first fin of a loop, as a map names it, and the ring from it on.
use Rattle.std.proofs.Common.{◌≡◌, List, [], ◌∷◌, Option, Some, None, refl, sym, ap, subst, ◌∙◌}
use Rattle.std.specs.Prelude.{IfSome}
use Rattle.std.specs.Option.{option_map_or}
use Rattle.std.specs.FinMap.{get}
use Rattle.pk_base.specs.declared.tag.Tag.{Tag}
use Rattle.pk_base.specs.declared.entity.Entity.TheVariants as entity
use Rattle.pk_model.specs.Maps.{EntityMap}
use Rattle.list_facts.proofs.Elements.{Contains-first}
use Rattle.solid_model.specs.Items.{Item, Shape, item_at}
use Rattle.solid_model.specs.Items.Item.{Loop}
use Rattle.solid_model.specs.Rings.{first_tag, written_from}
use Rattle.solid_model.specs.Owners.{fins_of}
use Rattle.solid_model.specs.Places.{fins_at}
use Rattle.solid_model.specs.Shapes.{shape_of}
use Rattle.solid_model.specs.Sound.{IsSound}
use Rattle.solid_model.proofs.lists.Cycles.{written-itself}
use Rattle.halfedge.specs.LinkedRings.{IsInRing, ring_of_any}
use Rattle.solid_sound.proofs.shapes.Reading.{fin_in, loop-of_fin}
use Rattle.solid_sound.proofs.rows.RowKeeps.{well-shape}
use Rattle.solid_places.proofs.Read.{entity-of}
use Rattle.solid_places.proofs.RingPlaces.{fin-ring}

pub loop-read : (m : EntityMap) (s : IsSound m) (l face : Tag) (fins : List Tag) (lone : Option Tag) → item_at (shape_of m) l ≡ Some (Loop face fins lone) → (f : Tag) (first lone2 : Option Tag) → get m l ≡ Some (entity.Loop f first lone2)
    → (first_tag (fins_at (shape_of m) l) ≡ first) × IfSome first (IsInRing m) × (ring_of_any m first ≡ fins_at (shape_of m) l)
loop-read m s l face fins lone is f first lone2 live =
    let both : Some (entity.Loop f first lone2) ≡ Some (entity.Loop face (first_tag fins) lone) = sym live ∙ entity-of m s l (Loop face fins lone) is in
    let first_is : first_tag fins ≡ first = cc in
    let list : fins_at (shape_of m) l ≡ fins = ap (λ (o : Option Item). option_map_or fins_of o []) is in
    let r = ring_read fins is in
    (ap first_tag list ∙ first_is, subst (λ o. IfSome o (IsInRing m)) first_is r.0, ap (ring_of_any m) (sym first_is) ∙ r.1 ∙ sym list)
  where
    ring_read : (fins : List Tag) → item_at (shape_of m) l ≡ Some (Loop face fins lone) → IfSome (first_tag fins) (IsInRing m) × (ring_of_any m (first_tag fins) ≡ fins)
    ring_read [] is = (tt, refl)
    ring_read (x ∷ xs) is =
        let well = well-shape m s in
        let among = Contains-first x xs in
        let fin = fin_in (shape_of m) well.written well.sound l face (x ∷ xs) lone is x among in
        let ring = fin-ring m s x fin.0 fin.1 fin.2 fin.3 in
        let owner = loop-of_fin (shape_of m) well.written well.sound l face (x ∷ xs) lone is x among in
        (ring.1, ring.0 ∙ ap (λ k. written_from x (fins_at (shape_of m) k)) owner ∙ ap (λ (o : Option Item). written_from x (option_map_or fins_of o [])) is ∙ written-itself x xs)
