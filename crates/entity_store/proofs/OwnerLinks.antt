-- Who owns what stands in each slot: by the places of tags, after a write and after a new block.
use Rattle.std.proofs.Common.{◌≡◌, ◌≢◌, ℕ, zero, suc, ◌+◌, ◌-◌, ◌*◌, ◌/◌, ◌%◌, ◌<◌, ◌≤◌, ◌==◌, ◌||◌, true, false, cond, List, [], ◌∷◌, ◌++◌, length, map, replicate, get_or, set, Option, None, Some, option_map, refl, sym, ap, ◌∙◌, arith, append_assoc}
use Rattle.std.specs.Prelude.{IfSome, IsTrue, MatchOption, ⊤}
use Rattle.std.specs.List.{AllByRecursion}
use Rattle.std.specs.FinMap.{get}
use Rattle.std.proofs.lemmas.Bool.{eq-eqb, eqb-true, ne_eqb}
use Rattle.std.proofs.lemmas.List.{get_or_default, get_or_append_left, get_or-append_right, get_or-map, get_or-replicate, get_or_past, length-append, length-replicate, length-map, map-append, map-set, set-append_right, replicate-append-replicate}
use Rattle.std.proofs.lemmas.List.Folds.{Any-from_list_any}
use Rattle.pk_base.specs.Blocks.{block_of}
use Rattle.pk_base.specs.Entity.{owner_of}
use Rattle.pk_base.specs.declared.tag.Tag.{Tag}
use Rattle.pk_base.specs.declared.entity.Entity.{Entity}
use Rattle.pk_model.specs.Tags.{Ascends, owns, tag_at, tags_of}
use Rattle.pk_model.proofs.TagLists.{tag_at-tags_of}
use Rattle.list_facts.proofs.Each.{ByRecursion-contains, ByRecursion-get_or}
use Rattle.list_facts.proofs.Lengths.{nil_of_length}
use Rattle.entity_store.specs.OwnerLinks.{link_to, links_missing, owner_link, owners_of, place_in}
use Rattle.entity_store.specs.Store.{IfHosted, IsHosted, IsKept, map_of}
use Rattle.entity_store.proofs.MapOf.{get-map_of_slot}
use Rattle.entity_store.proofs.Places.{tag_at_place}

-- ---- the place of a tag

pub place-found : (bs : List ℕ) (t : Tag) (p : ℕ) → Ascends bs → p < length bs → get_or bs p 0 ≡ block_of t → place_in bs t ≡ 64 * p + t.0 % 64
place-found [] t p a h e = absurd (omega arith)
place-found (b ∷ bs) t zero a h e =
    let first : place_in (b ∷ bs) t ≡ t.0 % 64 = ap (λ c. cond c (t.0 % 64) (64 + place_in bs t)) (eq-eqb b (block_of t) e) in
    omega (arith, first)
place-found (b ∷ bs) t (suc p) a h e =
    let below : b < get_or bs p 0 = ByRecursion-get_or (λ c. b < c) bs p 0 (omega arith) a.0 in
    let rest = place-found bs t p a.1 (omega arith) e in
    let later : place_in (b ∷ bs) t ≡ 64 + place_in bs t = ap (λ c. cond c (t.0 % 64) (64 + place_in bs t)) (ne_eqb b (block_of t) (λ s. absurd (omega (arith, below, s, e)))) in
    omega (arith, later, rest)

-- the block of an owned tag, by its place
pub record Placed (bs : List ℕ) (t : Tag) : Type 0 where
  pub block : ℕ
  pub below : block < length bs
  pub is : get_or bs block 0 ≡ block_of t

pub placed : (bs : List ℕ) (t : Tag) → owns bs t ≡ true → Placed bs t
placed bs t h =
    let some = Any-from_list_any (λ b. b == block_of t) bs h in
    record {
      block = some.0;
      below = some.2;
      is = get_or_default bs some.0 0 some.1 some.2 ∙ some.3 ∙ eqb-true some.1 (block_of t) some.4;
    }

pub place-within : (bs : List ℕ) (t : Tag) → Ascends bs → owns bs t ≡ true → place_in bs t < 64 * length bs
place-within bs t a h =
    let p = placed bs t h in
    let below = p.below in
    omega (arith, place-found bs t p.block a below p.is)

-- the tag at a tag's place is that tag
pub place-tag : (bs : List ℕ) (t : Tag) → Ascends bs → owns bs t ≡ true → tag_at (tags_of bs) (place_in bs t) ≡ t
place-tag bs t a h =
    let p = placed bs t h in
    ap (tag_at (tags_of bs)) (place-found bs t p.block a p.below p.is) ∙ tag_at_place bs t p.block p.below p.is

-- the place of the tag at a place is that place
pub tag-place : (bs : List ℕ) (i : ℕ) → Ascends bs → i < 64 * length bs → place_in bs (tag_at (tags_of bs) i) ≡ i
tag-place bs i a h =
    let t = tag_at (tags_of bs) i in
    let number : t.0 ≡ 64 * get_or bs (i / 64) 0 + i % 64 = ap (λ (u : Tag). u.0) (tag_at-tags_of bs i h) in
    let block : get_or bs (i / 64) 0 ≡ block_of t = omega (arith, number) in
    place-found bs t (i / 64) a (omega arith) block ∙ omega (arith, number)

-- more blocks behind leave the place of an owned tag
pub place-more : (bs more : List ℕ) (t : Tag) → owns bs t ≡ true → place_in (bs ++ more) t ≡ place_in bs t
place-more [] more t h = absurd (cc)
place-more (b ∷ bs) more t h = elim (b == block_of t) as (λ c. (c || owns bs t) ≡ true → cond c (t.0 % 64) (64 + place_in (bs ++ more) t) ≡ cond c (t.0 % 64) (64 + place_in bs t)) [
  | true ↦ λ _. refl
  | false ↦ λ k. ap (λ n. 64 + n) (place-more bs more t k)
] h

-- ---- a write

pub owners-written : (blocks : List ℕ) (slots : List (Option Entity)) (i : ℕ) (to : Option Entity) → i < 64 * length blocks → owners_of blocks (set slots i to) ≡ set (owners_of blocks slots) (64 + i) (option_map (owner_link blocks) to)
owners-written [] slots i to h = absurd (omega arith)
owners-written (b ∷ bs) slots i to h =
    let f = option_map (owner_link (b ∷ bs)) in
    let first : List (Option ℕ) = replicate 64 None in
    let at : 64 + i - 64 ≡ i = omega arith in
    ap (λ l. first ++ l) (map-set f slots i to ∙ ap (λ n. set (map f slots) n (f to)) (sym at))
    ∙ sym (set-append_right first (map f slots) 64 (64 + i) (f to) (length-replicate {A = Option ℕ} 64 None) (omega arith))

-- ---- a new block

-- the owner of what stands in a slot stands in a block of these
abbrev pub OwnerOwned : List ℕ → Option Entity → Type 0
OwnerOwned blocks slot = IfSome slot (λ e. IfSome (owner_of e) (λ o. IsTrue (owns blocks o)))

link-more : (blocks more : List ℕ) (slot : Option Entity) → OwnerOwned blocks slot → option_map (owner_link (blocks ++ more)) slot ≡ option_map (owner_link blocks) slot
link-more blocks more None h = refl
link-more blocks more (Some e) h = elim (owner_of e) as (λ (o : Option Tag). IfSome o (λ u. IsTrue (owns blocks u)) → Some (link_to (blocks ++ more) o) ≡ Some (link_to blocks o)) [
  | None ↦ λ _. refl
  | Some u ↦ λ k. ap (λ n. Some (64 + n)) (place-more blocks more u k)
] h

links-more : (blocks more : List ℕ) (slots : List (Option Entity)) → AllByRecursion (OwnerOwned blocks) slots → map (option_map (owner_link (blocks ++ more))) slots ≡ map (option_map (owner_link blocks)) slots
links-more blocks more [] h = refl
links-more blocks more (s ∷ slots) h = cc (link-more blocks more s h.0, links-more blocks more slots h.1)

none-linked : (f : Entity → ℕ) (n : ℕ) → map (option_map f) (replicate n None) ≡ replicate n None
none-linked f zero = refl
none-linked f (suc n) = ap (λ l. None ∷ l) (none-linked f n)

-- the owner of an entity that is hosted stands in an owned block
pub owner-owned : (blocks : List ℕ) (t : Tag) (e : Entity) → IsHosted blocks t e → IfSome (owner_of e) (λ o. IsTrue (owns blocks o))
owner-owned blocks t e h = of_owner (owner_of e) h.owner
  where
    of_owner : (o : Option Tag) → MatchOption o ⊤ (λ u. (u ≢ t) × IsTrue (owns blocks u)) → IfSome o (λ u. IsTrue (owns blocks u))
    of_owner None h = tt
    of_owner (Some u) h = h.1

owned_in : (blocks : List ℕ) (m : Option Entity) (t : Tag) (slot : Option Entity) → m ≡ slot → ((e : Entity) → m ≡ Some e → IsHosted blocks t e) → OwnerOwned blocks slot
owned_in blocks m t None is hosted = tt
owned_in blocks m t (Some e) is hosted = owner-owned blocks t e (hosted e is)

module _ (blocks : List ℕ) (slots : List (Option Entity)) (count : ℕ) (links : List (Option ℕ)) (k : IsKept blocks slots count links) where
  -- what stands in a slot is what the map has under its tag
  in_slot : (i : ℕ) → i < 64 * length blocks → get (map_of blocks slots) (tag_at (tags_of blocks) i) ≡ get_or slots i None
  in_slot i h = get-map_of_slot blocks slots k.ascending k.places i h

  slots-owned : AllByRecursion (OwnerOwned blocks) slots
  slots-owned = ByRecursion-contains (OwnerOwned blocks) slots (λ slot h.
      let here : h.0 < 64 * length blocks = omega (arith, h.1, k.places) in
      let t = tag_at (tags_of blocks) h.0 in
      let is : get (map_of blocks slots) t ≡ slot = in_slot h.0 here ∙ get_or_default slots h.0 None slot h.1 ∙ h.2 in
      owned_in blocks (get (map_of blocks slots) t) t slot is (λ e found. k.hosted t e found))

  -- a new block brings its own links, and the first one those before them
  pub owners-block : (b : ℕ) → owners_of (blocks ++ b ∷ []) (slots ++ replicate 64 None) ≡ links ++ replicate (links_missing (length blocks) + 64) None
  owners-block b = block-of blocks slots slots-owned k.places ∙ ap (λ l. l ++ replicate (links_missing (length blocks) + 64) None) (sym k.owners)
    where
      block-of : (bs : List ℕ) (ss : List (Option Entity)) → AllByRecursion (OwnerOwned bs) ss → length ss ≡ 64 * length bs → owners_of (bs ++ b ∷ []) (ss ++ replicate 64 None) ≡ owners_of bs ss ++ replicate (links_missing (length bs) + 64) None
      block-of [] ss owned n =
          ap (λ l. owners_of (b ∷ []) (l ++ replicate 64 None)) (nil_of_length ss (omega (arith, n)))
          ∙ ap (λ l. replicate 64 None ++ l) (none-linked (owner_link (b ∷ [])) 64) ∙ replicate-append-replicate 64 64 None
      block-of (c ∷ bs) ss owned n =
          let f = option_map (owner_link (c ∷ bs ++ b ∷ [])) in
          let first : List (Option ℕ) = replicate 64 None in
          ap (λ l. first ++ l) (map-append f ss (replicate 64 None) ∙ ap (λ l. l ++ map f (replicate 64 None)) (links-more (c ∷ bs) (b ∷ []) ss owned)
          ∙ ap (λ l. map (option_map (owner_link (c ∷ bs))) ss ++ l) (none-linked (owner_link (c ∷ bs ++ b ∷ [])) 64))
          ∙ sym (append_assoc first (map (option_map (owner_link (c ∷ bs))) ss) (replicate 64 None))

-- ---- what is owned

pub length-owners : (blocks : List ℕ) (slots : List (Option Entity)) → 1 ≤ length blocks → length (owners_of blocks slots) ≡ 64 + length slots
length-owners [] slots h = absurd (omega arith)
length-owners (b ∷ bs) slots h =
    let first : List (Option ℕ) = replicate 64 None in
    length-append first (map (option_map (owner_link (b ∷ bs))) slots) ∙ omega (arith, length-replicate {A = Option ℕ} 64 None, length-map slots (option_map (owner_link (b ∷ bs))))

-- the owner of a slot
pub owner_of_slot : (blocks : List ℕ) (slots : List (Option Entity)) (i : ℕ) → length slots ≡ 64 * length blocks → i < length slots → get_or (owners_of blocks slots) (64 + i) None ≡ option_map (owner_link blocks) (get_or slots i None)
owner_of_slot [] slots i n h = absurd (omega (arith, n))
owner_of_slot (b ∷ bs) slots i n h =
    let f = option_map (owner_link (b ∷ bs)) in
    let first : List (Option ℕ) = replicate 64 None in
    let at : 64 + i - 64 ≡ i = omega arith in
    get_or-append_right first (map f slots) 64 (64 + i) None (length-replicate {A = Option ℕ} 64 None) (omega arith)
    ∙ ap (λ n. get_or (map f slots) n None) at ∙ get_or-map f slots i None None h

-- a link before those of the slots has none
pub owner_of_first : (blocks : List ℕ) (slots : List (Option Entity)) (c : ℕ) → c < 64 → get_or (owners_of blocks slots) c None ≡ None
owner_of_first [] slots c h = refl
owner_of_first (b ∷ bs) slots c h =
    get_or_append_left (replicate 64 None) (map (option_map (owner_link (b ∷ bs))) slots) None c (omega (arith, length-replicate {A = Option ℕ} 64 None)) ∙ get_or-replicate 64 c None None h

-- nor has one past them
pub owner_past : (blocks : List ℕ) (slots : List (Option Entity)) (c : ℕ) → length slots ≡ 64 * length blocks → 64 + length slots ≤ c → get_or (owners_of blocks slots) c None ≡ None
owner_past [] slots c n h = refl
owner_past (b ∷ bs) slots c n h = get_or_past (owners_of (b ∷ bs) slots) c None (omega (arith, length-owners (b ∷ bs) slots (omega arith)))

-- the link of an owner is among those of the blocks, and is another than that of what it owns
pub owner-fits : (blocks : List ℕ) (slots : List (Option Entity)) (count : ℕ) (links : List (Option ℕ)) → IsKept blocks slots count links → (i : ℕ) (t : Tag) → i < 64 * length blocks → tag_at (tags_of blocks) i ≡ t → (to : Option Entity) → IfHosted blocks t to
    → IfSome (option_map (owner_link blocks) to) (λ o. (o < length links) × (64 + i ≢ o))
owner-fits blocks slots count links k i t h place None hosted = tt
owner-fits blocks slots count links k i t h place (Some e) hosted = of_owner (owner_of e) hosted.owner
  where
    long : length links ≡ 64 + 64 * length blocks
    long = ap length k.owners ∙ length-owners blocks slots (omega (arith, h)) ∙ ap (λ n. 64 + n) k.places

    of_owner : (o : Option Tag) → MatchOption o ⊤ (λ u. (u ≢ t) × IsTrue (owns blocks u)) → (link_to blocks o < length links) × (64 + i ≢ link_to blocks o)
    of_owner None host = (omega (arith, long), λ e. absurd (omega (arith, e)))
    of_owner (Some u) host = (
      omega (arith, long, place-within blocks u k.ascending host.1),
      λ e.
          let same : i ≡ place_in blocks u = omega (arith, e) in
          host.0 (sym (place-tag blocks u k.ascending host.1) ∙ ap (tag_at (tags_of blocks)) (sym same) ∙ place),
    )
