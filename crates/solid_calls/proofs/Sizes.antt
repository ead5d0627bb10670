-- How much a store holds at most: as many entities as its blocks have tags. So counts of them, and the numbers of
-- shells, fit their types.
use Rattle.std.proofs.Common.{◌≡◌, ◌≢◌, ℕ, ◌<◌, ◌≤◌, Bool, true, false, List, [], ◌∷◌, ◌++◌, length, Option, Some, None, refl, sym, subst, arith}
use Rattle.std.specs.Prelude.{ℤ, pos, negsuc, ◌+ℤ◌, ◌-ℤ◌, ◌*ℤ◌, ◌≤ℤ◌, ◌&&◌, is_some, option_map, Contains}
use Rattle.std.specs.List.{AllByRecursion}
use Rattle.std.specs.FinMap.{get, keys, entries}
use Rattle.std.specs.Option.{option_and_then, option_map_or}
use Rattle.std.proofs.lemmas.Int.{ints}
use Rattle.std.proofs.lemmas.List.{length-map}
use Rattle.std.proofs.lemmas.List.Sums.{count_by-le-length, length-filter}
use Rattle.pk_base.specs.Entity.{same_tag}
use Rattle.pk_base.specs.declared.tag.Tag.{Tag}
use Rattle.pk_base.specs.declared.entity.Entity.{Entity}
use Rattle.pk_base.specs.declared.entity.Class.{Class}
use Rattle.pk_base.specs.declared.entity.Class.TheVariants as class
use Rattle.pk_model.specs.Apart.{NoRepeats}
use Rattle.pk_model.specs.Maps.{EntityMap}
use Rattle.pk_model.specs.Tags.{Ascends, AreInRange, TagsAscend, tags_of}
use Rattle.pk_model.proofs.TagLists.{length-tags_of, owns-Contains}
use Rattle.entity_store.specs.Store.{Stored, IsHosted}
use Rattle.entity_store.proofs.FewBlocks.{few_blocks}
use Rattle.solid_model.specs.Items.{Item, Shape, item_at, class_of_item}
use Rattle.solid_model.specs.Items.Item.{Shell}
use Rattle.solid_model.specs.Owners.{body_of, number_in_body, same_class}
use Rattle.solid_model.specs.Rings.{neighbours}
use Rattle.solid_model.specs.Shapes.{item_of, shape_of}
use Rattle.solid_model.specs.Sound.{IsSound}
use Rattle.solid_model.proofs.lists.Neighbours.{head_or, neighbour_of, parts, below}
use Rattle.solid_sound.proofs.rows.RowKeeps.{well-shape}
use Rattle.list_facts.proofs.Each.{ByRecursion-weaker, ByRecursion-contains, ByRecursion-at, ByRecursion-left}
use Rattle.pk_model.proofs.Keys.{keys_contain, TagsAscend-keys}
use Rattle.solid_calls.specs.Attributes.{attributes_on, is_attribute_on}
use Rattle.halfedge.specs.LinkedRings.{AreLinked, FinFields, IsRing, as_fin}
use Rattle.entity_store.proofs.Room.{no_more-different}

-- ---- live tags

some_where : {A : Type 0} (o : Option A) → is_some o ≡ true → (x : A) × (o ≡ Some x)
some_where None h = absurd (cc)
some_where (Some x) h = (x, refl)

pub apart-ascending : (ts : List Tag) → TagsAscend ts → NoRepeats ts
apart-ascending [] h = tt
apart-ascending (t ∷ ts) h =
    (ByRecursion-weaker (λ u. t.0 < u.0) (λ u. t ≢ u) (λ u l. below t u l) ts h.0, apart-ascending ts h.1)

-- the first of tags that ascend ascend
pub ascend-left : (ts us : List Tag) → TagsAscend (ts ++ us) → TagsAscend ts
ascend-left [] us h = tt
ascend-left (t ∷ ts) us h = (ByRecursion-left (λ u. t.0 < u.0) ts us h.0, ascend-left ts us h.1)

-- different tags that are all live are no more than the blocks have
pub few-live : (s : Stored) → Ascends s.blocks → AreInRange s.blocks → ((t : Tag) (e : Entity) → get s.map t ≡ Some e → IsHosted s.blocks t e) → (ts : List Tag) → NoRepeats ts
    → ((t : Tag) → Contains ts t → is_some (get s.map t) ≡ true) → length ts ≤ 16777152
few-live s ascends range hosted ts once live =
    let owned : AllByRecursion (Contains (tags_of s.blocks)) ts = ByRecursion-contains _ ts (λ t h.
    let e = some_where (get s.map t) (live t h) in
    owns-Contains s.blocks t (hosted t e.0 e.1).owned) in
    let fewer : length ts ≤ length (tags_of s.blocks) = no_more-different ts (tags_of s.blocks) once owned in
    omega (arith, length-tags_of s.blocks, few_blocks s.blocks ascends range)

few-keys : (s : Stored) → Ascends s.blocks → AreInRange s.blocks → ((t : Tag) (e : Entity) → get s.map t ≡ Some e → IsHosted s.blocks t e) → length (keys s.map) ≤ 16777152
few-keys s ascends range hosted = few-live s ascends range hosted (keys s.map) (apart-ascending (keys s.map) (TagsAscend-keys s.map)) (λ t h. keys_contain s.map t h)

pub few-items : (s : Stored) → Ascends s.blocks → AreInRange s.blocks → ((t : Tag) (e : Entity) → get s.map t ≡ Some e → IsHosted s.blocks t e) → IsSound s.map → length (shape_of s.map) ≤ 16777152
few-items s ascends range hosted sound =
    omega (
      arith,
      few-keys s ascends range hosted,
      length-map {B = Tag × Item} (entries s.map) (λ e. (e.0, item_of (entries s.map) e.1)),
      length-map {B = Tag} (entries s.map) (λ e. e.0),
    )

-- ---- rings

live_fin : (o : Option Entity) (g : Tag) → option_map (λ (x : FinFields). x.next) (option_and_then as_fin o) ≡ Some g → is_some o ≡ true
live_fin None g h = absurd (cc)
live_fin (Some e) g h = refl

in_ring-live : (m : EntityMap) (ring : List Tag) (t : Tag) → IsRing m ring → Contains ring t → is_some (get m t) ≡ true
in_ring-live m ring t r h =
    let p = parts t ring h in
    let pair = subst (λ l. Contains (neighbours l) (t, head_or t (p.post ++ p.pre))) (sym p.is) (neighbour_of t p.pre p.post) in
    live_fin (get m t) _ (ByRecursion-at (λ n. AreLinked m n.0 n.1) (neighbours ring) (t, head_or t (p.post ++ p.pre)) r.linked pair).next

pub few-ring : (s : Stored) → Ascends s.blocks → AreInRange s.blocks → ((t : Tag) (e : Entity) → get s.map t ≡ Some e → IsHosted s.blocks t e) → (ring : List Tag) → IsRing s.map ring → length ring ≤ 16777152
few-ring s ascends range hosted ring r = few-live s ascends range hosted ring r.once (λ t h. in_ring-live s.map ring t r h)

-- ---- attributes

pub few-attributes : (s : Stored) → Ascends s.blocks → AreInRange s.blocks → ((t : Tag) (e : Entity) → get s.map t ≡ Some e → IsHosted s.blocks t e) → (o : Tag) → length (attributes_on s.map o) ≤ 16777152
few-attributes s ascends range hosted o =
    let test : Tag → Bool = λ t. option_map_or (is_attribute_on o) (get s.map t) false in
    omega (arith, few-keys s ascends range hosted, length-filter test (keys s.map), count_by-le-length test (keys s.map))

-- ---- the number of a shell

few_in_body : (c : Class) (S : Shape) (b : Tag) → number_in_body c S b ≤ length S
few_in_body c S b = count_by-le-length (λ x. same_class (class_of_item x.1) c && same_tag (body_of S x.0) b) S

bounded : (v e f l : ℕ) (q : ℤ) → v ≤ 16777152 → e ≤ 16777152 → f ≤ 16777152 → l ≤ 16777152
    → ((pos v -ℤ pos e) +ℤ pos f) -ℤ (pos l -ℤ pos f) ≡ pos 2 *ℤ q → (negsuc 33554431 ≤ℤ q) × (q ≤ℤ pos 33554432)
bounded v e f l q hv he hf hl is = (omega (arith, ints), omega (arith, ints))

pub q-fits : (s : Stored) → Ascends s.blocks → AreInRange s.blocks → ((t : Tag) (e : Entity) → get s.map t ≡ Some e → IsHosted s.blocks t e) → IsSound s.map → (t b : Tag) (q : ℤ)
    → item_at (shape_of s.map) t ≡ Some (Shell b q) → (negsuc 33554431 ≤ℤ q) × (q ≤ℤ pos 33554432)
q-fits s ascends range hosted sound t b q is =
    let S : Shape = shape_of s.map in
    let well = well-shape s.map sound in
    let few = few-items s ascends range hosted sound in
    bounded (number_in_body class.Vertex S b) (number_in_body class.Edge S b) (number_in_body class.Face S b) (number_in_body class.Loop S b) q
    (omega (arith, few, few_in_body class.Vertex S b))
    (omega (arith, few, few_in_body class.Edge S b))
    (omega (arith, few, few_in_body class.Face S b))
    (omega (arith, few, few_in_body class.Loop S b))
    (well.sound.measure.formula b t q (well.sound.names.bodies t b q is) is)
