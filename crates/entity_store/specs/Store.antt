-- What contracts see of a store: what it holds, which is its blocks and a map over their tags; how
-- many more blocks it has room for; and what the last recorder has recorded.
use Rattle.std.specs.Prelude.{◌≡◌, ◌≢◌, ℕ, ◌*◌, ◌-◌, ◌/◌, min, List, [], ◌∷◌, length, Option, None, Some, IsTrue, MatchOption, ⊤, refl}
use Rattle.std.specs.FinMap.{get, len, from_entries}
use Rattle.pk_base.specs.declared.tag.Tag.{Tag}
use Rattle.pk_base.specs.declared.entity.Entity.{Entity}
use Rattle.pk_base.specs.declared.tag.TheConstants.{TAGS_OF_A_BLOCK}
use Rattle.pk_base.specs.Entity.{owner_of}
use Rattle.pk_model.specs.Tags.{AreInRange, tags_of, owns, Ascends}
use Rattle.std.specs.Coded.{Coded, code_by, coded×, coded_list, coded_ℕ}
use Rattle.pk_model.specs.Maps.{EntityMap}
use Rattle.pk_model.specs.Codes.{map_code}
use Rattle.entity_store.specs.Recording.{Recording, recording_code, nothing_recorded}
use Rattle.entity_store.specs.OwnerLinks.{links_missing, owners_of}

pub record Stored : Type 0 where
  pub blocks : List ℕ
  pub map : EntityMap

pub record StoreView : Type 0 where
  pub state : Stored
  pub reserved : ℕ
  pub recording : Recording

abbrev pub stored_code : Coded Stored
stored_code = code_by (List ℕ × EntityMap) (coded× (coded_list coded_ℕ) map_code)
    (λ s. (s.blocks, s.map)) (λ p. record { blocks = p.0; map = p.1 }) (λ _. refl)

abbrev pub view_code : Coded StoreView
view_code =
    code_by (Stored × (ℕ × Recording)) (coded× stored_code (coded× coded_ℕ recording_code))
    (λ v. (v.state, (v.reserved, v.recording)))
    (λ p. record { state = p.0; reserved = p.1.0; recording = p.1.1 }) (λ _. refl)

abbrev pub recording_of : Option Recording → Recording
recording_of None = nothing_recorded
recording_of (Some r) = r

-- How many blocks there is room for, beside so many that are owned, where the lists of blocks, of
-- slots and of links have so much room left.
abbrev pub room_for : (owned blocks slots links : ℕ) → ℕ
room_for owned blocks slots links =
    min blocks (min (slots / TAGS_OF_A_BLOCK) ((links - links_missing owned) / TAGS_OF_A_BLOCK))

-- the tag's block is owned, and so is that of the entity's owner, which is another tag
pub record IsHosted (blocks : List ℕ) (t : Tag) (e : Entity) : Type 0 where
  pub owned : IsTrue (owns blocks t)
  pub owner : MatchOption (owner_of e) ⊤ (λ o. (o ≢ t) × IsTrue (owns blocks o))

abbrev pub IfHosted : List ℕ → Tag → Option Entity → Type 0
IfHosted blocks t to = MatchOption to ⊤ (IsHosted blocks t)

-- the tags that have an entity in their slot, with it
abbrev pub live_entries : List Tag → List (Option Entity) → List (Tag × Entity)
live_entries (t ∷ ts) (Some e ∷ slots) = (t, e) ∷ live_entries ts slots
live_entries (t ∷ ts) (None ∷ slots) = live_entries ts slots
live_entries [] slots = []
live_entries (t ∷ ts) [] = []

unfoldable pub map_of : List ℕ → List (Option Entity) → EntityMap
map_of blocks slots = from_entries (live_entries (tags_of blocks) slots)

abbrev pub stored : List ℕ → List (Option Entity) → Stored
stored blocks slots = record { blocks = blocks; map = map_of blocks slots }

-- the slots of the blocks, who owns what stands in them, and how many of them have an entity
pub record IsKept (blocks : List ℕ) (slots : List (Option Entity)) (live : ℕ)
    (links : List (Option ℕ)) : Type 0 where
  pub places : length slots ≡ TAGS_OF_A_BLOCK * length blocks
  pub ascending : Ascends blocks
  pub range : AreInRange blocks
  pub count : live ≡ len (map_of blocks slots)
  pub owners : links ≡ owners_of blocks slots
  pub hosted : (t : Tag) (e : Entity) → get (map_of blocks slots) t ≡ Some e → IsHosted blocks t e
