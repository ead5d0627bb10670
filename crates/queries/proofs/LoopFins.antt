-- The fins of a loop: from its first fin on, they are those of its ring.
use Rattle.std.proofs.Common.{◌≡◌, ◌≢◌, ℕ, ◌+◌, ◌≤◌, ⊎_elim, List, [], ◌∷◌, ◌++◌, length, Option, Some, None, Result, Ok, Err, refl, sym, ap, subst, ◌∙◌, arith}
use Rattle.std.specs.Prelude.{IsOk, IfSome, Contains, option_map}
use Rattle.std.specs.Option.{option_map_or}
use Rattle.std.specs.FinMap.{get, entries}
use Rattle.pk_base.specs.Entity.{class_of}
use Rattle.pk_base.specs.declared.tag.Tag.{Tag}
use Rattle.pk_base.specs.declared.entity.Entity.{Entity}
use Rattle.pk_base.specs.declared.entity.Entity.TheVariants as entity
use Rattle.pk_base.specs.declared.act.Reply.TheVariants.{List as Listed}
use Rattle.pk_base.specs.declared.call.Call.TheVariants.{Ring}
use Rattle.pk_base.specs.declared.refusal.Refusal.{Refusal}
use Rattle.pk_base.specs.declared.refusal.Refusal.TheVariants.{NoSuchTag, WrongClass}
use Rattle.pk_model.specs.Maps.{EntityMap}
use Rattle.pk_model.specs.Step.{◌>>=◌}
use Rattle.list_facts.proofs.Elements.{Contains-first}
use Rattle.halfedge.specs.LinkedRings.{IsInRing, next_at, ring_at, ring_of_any}
use Rattle.halfedge.proofs.LinkedRings.{in-ring_starts}
use Rattle.halfedge.proofs.Walks.{Walked, none-passed, rest_of, walk-back, walk-first, walk-on, passed-fewer}
use Rattle.solid_model.specs.Items.{Item}
use Rattle.solid_model.specs.Items.Item.{Loop}
use Rattle.solid_model.specs.Owners.{fins_of}
use Rattle.solid_model.specs.Places.{PlacedLoop, as_loop, asked, fins_at, loop_at}
use Rattle.solid_model.specs.Rings.{first_tag}
use Rattle.solid_model.specs.Rows.{tells}
use Rattle.solid_model.specs.Shapes.{fins_read, item_of, shape_of}
use Rattle.solid_model.specs.Sound.{IsSound}
use Rattle.solid_calls.specs.Pairs.{row_on}
use Rattle.solid_calls.proofs.Represented.{represents-sound}
use Rattle.solid_places.proofs.Classes.{not_loop}
use Rattle.solid_places.proofs.Read.{item-of, refused-class}
use Rattle.solid_calls.proofs.Deaths.{item-mapped}
use Rattle.solid_sound.proofs.shapes.Found.{none_or_some}

-- ---- the loop

-- an entity that is not the one of a loop is refused
pub no_loop : (m : EntityMap) (l : Tag) (e : Entity) → IsOk (loop_at (shape_of m) l) → get m l ≡ Some e → ((face : Tag) (first lone : Option Tag) → e ≡ entity.Loop face first lone → ⊥) → ⊥
no_loop m l e goes live other =
    let r : Result PlacedLoop Refusal = Err (WrongClass l (class_of e)) in
    let err : IsOk r = subst IsOk (refused-class (as_loop (shape_of m)) m l e live (not_loop (shape_of m) (entries m) e other)) goes in
    absurd (cc)

pub loop-live : (m : EntityMap) (l : Tag) → IsOk (loop_at (shape_of m) l) → (e : Entity) × (get m l ≡ Some e)
loop-live m l goes = ⊎_elim {C = (e : Entity) × (get m l ≡ Some e)}
    (λ (none : get m l ≡ None).
    let r : Result PlacedLoop Refusal = Err (NoSuchTag l) in
    let no : IsOk r = subst IsOk (ap (asked (as_loop (shape_of m)) l) (item-mapped m l ∙ ap (option_map (item_of (entries m))) none)) goes in
    absurd (cc))
    (λ (some : (e : Entity) × (get m l ≡ Some e)). some)
    (none_or_some (get m l))

first-among : (ring : List Tag) (f : Tag) → first_tag ring ≡ Some f → Contains ring f
first-among [] f h = absurd (cc)
first-among (g ∷ ring) f h =
    let same : g ≡ f = cc in
    subst (Contains (g ∷ ring)) same (Contains-first g ring)

module _ (m : EntityMap) (s : IsSound m) (l face : Tag) where
  pub first-in_ring : (f : Tag) (lone : Option Tag) → get m l ≡ Some (entity.Loop face (Some f) lone) → IsInRing m f
  unfolding ring_at
  first-in_ring f lone live =
      let shows = (represents-sound m s).items l (Loop face (ring_at m f) lone) (item-of m l _ live) in
      let both : Some (entity.Loop face (first_tag (ring_at m f)) lone) ≡ Some (entity.Loop face (Some f) lone) = sym shows.0 ∙ live in
      let first : first_tag (ring_at m f) ≡ Some f = cc in
      record { ring = shows.1; among = first-among (ring_at m f) f first }

  read-ring : (first : Option Tag) → fins_read (entries m) first ≡ ring_of_any m first
  unfolding ring_at
  read-ring None = refl
  read-ring (Some f) = refl

  pub loop-fins : (first alone : Option Tag) → get m l ≡ Some (entity.Loop face first alone) → fins_at (shape_of m) l ≡ ring_of_any m first
  loop-fins first alone live = ap (λ (o : Option Item). option_map_or fins_of o []) (item-of m l _ live) ∙ read-ring first

  pub loop-ring : (first alone : Option Tag) → get m l ≡ Some (entity.Loop face first alone) → IfSome first (IsInRing m)
  loop-ring None alone live = tt
  loop-ring (Some f) alone live = first-in_ring f alone live

-- ---- the row

pub ring-goes : (m : EntityMap) (l : Tag) → IsOk (row_on m (Ring l)) → IsOk (loop_at (shape_of m) l)
ring-goes m l goes = from (loop_at (shape_of m) l) goes
  where
    from : (r : Result PlacedLoop Refusal) → IsOk (r >>= (λ p. tells (Listed (fins_at (shape_of m) l)))) → IsOk r
    from (Ok p) h = refl
    from (Err e) h = absurd (cc)

pub ring-told : (m : EntityMap) (l : Tag) → IsOk (loop_at (shape_of m) l) → row_on m (Ring l) ≡ tells (Listed (fins_at (shape_of m) l))
ring-told m l goes = told (loop_at (shape_of m) l) goes
  where
    told : (r : Result PlacedLoop Refusal) → IsOk r → (r >>= (λ p. tells (Listed (fins_at (shape_of m) l)))) ≡ tells (Listed (fins_at (shape_of m) l))
    told (Ok p) h = refl
    told (Err e) h = absurd (cc)

-- ---- a ring that is listed

-- the fins that were passed are listed, and there is room for the others
pub record ListedRing (m : EntityMap) (f here : Tag) (items : List Tag) (spare : ℕ) : Type 0 where
  pub walked : Walked f (rest_of m f) here
  pub items_are : items ≡ f ∷ walked.passed
  pub room : length (ring_at m f) ≤ length items + spare

module _ (m : EntityMap) (f : Tag) (h : IsInRing m f) where
  pub ring-some : 1 ≤ length (ring_at m f)
  ring-some = let whole = ap length (in-ring_starts m f h) in omega (arith, whole)

  pub listed-first : (here : Tag) (old items : List Tag) (room spare : ℕ) → next_at m f ≡ Some here → old ≡ [] → items ≡ old ++ f ∷ [] → spare + 1 ≡ room → length (ring_at m f) ≤ room → ListedRing m f here items spare
  listed-first here old items room spare next none more less fits =
      let is : items ≡ f ∷ [] = more ∙ ap (λ ts. ts ++ f ∷ []) none in
      let one = ap length is in
      record {
        walked = walk-first m f h here next;
        items_are = is ∙ ap (λ ts. f ∷ ts) (sym (none-passed m f h here next));
        room = omega (arith, one, less, fits);
      }

  module _ (here next : Tag) (items : List Tag) (spare : ℕ) (l : ListedRing m f here items spare) (other : here ≢ f) (next_is : next_at m here ≡ Some next) where
    pub listed-room : 1 ≤ spare
    listed-room =
        let on = walk-on m f h here next l.walked other next_is in
        let whole = ap length (in-ring_starts m f h) in
        let listed = ap length l.items_are in
        let room = l.room in
        omega (arith, whole, listed, room, passed-fewer f (rest_of m f) here next l.walked on)

    pub listed-on : (items' : List Tag) (spare' : ℕ) → items' ≡ items ++ here ∷ [] → spare' + 1 ≡ spare → ListedRing m f next items' spare'
    listed-on items' spare' more less =
        let on = walk-on m f h here next l.walked other next_is in
        let listed = ap length l.items_are in
        let room = l.room in
        let is : items' ≡ f ∷ on.walked.passed = more ∙ ap (λ ts. ts ++ here ∷ []) l.items_are ∙ ap (λ ts. f ∷ ts) (sym on.passed_is) in
        let one = ap length more in
        record {
          walked = on.walked;
          items_are = is;
          room = omega (arith, one, less, room, length-more items);
        }
      where
        length-more : (ts : List Tag) → length (ts ++ here ∷ []) ≡ length ts + 1
        length-more [] = refl
        length-more (t ∷ ts) = let rest = length-more ts in omega (arith, rest)

  pub listed-all : (here : Tag) (items : List Tag) (spare : ℕ) → ListedRing m f here items spare → here ≡ f → items ≡ ring_at m f
  listed-all here items spare l back = l.items_are ∙ ap (λ ts. f ∷ ts) (sym (walk-back m f h here l.walked back)) ∙ sym (in-ring_starts m f h)
