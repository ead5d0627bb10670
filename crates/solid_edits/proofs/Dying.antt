-- What is put where entities die is among what dies as their row names it.
use Rattle.std.proofs.Common.{◌≡◌, ◌≢◌, List, Some}
use Rattle.std.specs.Prelude.{Contains}
use Rattle.std.specs.List.{AllByRecursion}
use Rattle.pk_base.specs.declared.tag.Tag.{Tag}
use Rattle.pk_base.specs.declared.entity.Class.{Class}
use Rattle.pk_base.specs.declared.entity.Class.TheVariants as class
use Rattle.pk_model.specs.Maps.{EntityMap}
use Rattle.list_facts.proofs.Each.{ByRecursion-at}
use Rattle.solid_model.specs.Items.{item_at}
use Rattle.solid_model.specs.Room.{dying}
use Rattle.solid_model.specs.Shapes.{shape_of}
use Rattle.solid_model.specs.Sound.{class_at}
use Rattle.solid_sound.proofs.shapes.Bodies.{item_of_class}
use Rattle.solid_calls.proofs.Deaths.{dying-attribute, dying-itself}
use Rattle.solid_edits.specs.Deaths.{with_attributes}
use Rattle.solid_edits.proofs.KilledMaps.{with_attributes-cases}

pub dying-has : (m : EntityMap) (ts : List Tag) → AllByRecursion (λ t. (c : Class) × (class_at (shape_of m) t ≡ Some c) × (c ≢ class.Attr)) ts
    → (t : Tag) → Contains (with_attributes m ts) t → Contains (dying (shape_of m) ts) t
dying-has m ts live t k = with_attributes-cases m ts t k (Contains (dying (shape_of m) ts) t)
    (λ (own : Contains ts t).
    let c = ByRecursion-at (λ u. (c : Class) × (class_at (shape_of m) u ≡ Some c) × (c ≢ class.Attr)) ts t live own in
    let x = item_of_class (item_at (shape_of m) t) c.0 c.1 in
    dying-itself (shape_of m) ts t x.0 x.1 own)
    (λ o among is. dying-attribute m ts o t is.0 is.1 among is.2)
