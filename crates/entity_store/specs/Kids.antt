-- The live entities with one owner, or with none.
use Rattle.std.specs.Prelude.{ℕ, ◌+◌, ◌-◌, ◌*◌, ◌<◌, ◌≤◌, List, length, map, Option, Some, None, IsSome, if◌then◌else◌}
use Rattle.std.specs.Option.{option_map}
use Rattle.std.specs.List.{filter_map}
use Rattle.std.specs.FinMap.{get, keys}
use Rattle.std.specs.Coded.{Coded, coded×, coded_list}
use Rattle.pk_base.specs.contracts.entity.Entity as entity
use Rattle.pk_base.specs.Entity.{owner_of, same_optional}
use Rattle.pk_base.specs.declared.tag.Tag.{Tag}
use Rattle.pk_base.specs.declared.entity.Entity.{Entity}
use Rattle.pk_base.specs.declared.tag.TheConstants.{TAGS_OF_A_BLOCK}
use Rattle.pk_model.specs.Codes.{tag_code}
use Rattle.pk_model.specs.Maps.{EntityMap}
use Rattle.pk_model.specs.Tags.{tag_at, tags_of}
use Rattle.entity_store.specs.Store.{Stored}

abbrev pub kids_code : Coded (List (Tag × Entity))
kids_code = coded_list (coded× tag_code entity.the_row.coded)

-- those of the tags that name an entity, with it
abbrev pub live_of : EntityMap → List Tag → List (Tag × Entity)
live_of m tags = filter_map (λ t. option_map (λ e. (t, e)) (get m t)) tags

-- the entity with its tag, where there is one and it has this owner
abbrev pub kid_at : Option Tag → Tag → Option Entity → Option (Tag × Entity)
kid_at owner t None = None
kid_at owner t (Some e) = if same_optional (owner_of e) owner then Some (t, e) else None

-- those of the tags whose entity has this owner, with it
abbrev pub kids_among : EntityMap → Option Tag → List Tag → List (Tag × Entity)
kids_among m owner tags = filter_map (λ t. kid_at owner t (get m t)) tags

-- all of a map with this owner, ascending by their tags
abbrev pub kids_of : EntityMap → Option Tag → List (Tag × Entity)
kids_of m owner = kids_among m owner (keys m)

-- ---- how they are linked

-- the tag whose slot has this link
abbrev pub tag_linked : List ℕ → ℕ → Tag
tag_linked blocks link = tag_at (tags_of blocks) (link - TAGS_OF_A_BLOCK)

-- the entities in the slots of these links, with their tags
abbrev pub kids_at : Stored → List ℕ → List (Tag × Entity)
kids_at s links = live_of s.map (map (tag_linked s.blocks) links)

-- it is the link of a slot that has an entity
pub record IsLinkOfLive (s : Stored) (link : ℕ) : Type 0 where
  pub from : TAGS_OF_A_BLOCK ≤ link
  pub below : link < TAGS_OF_A_BLOCK + TAGS_OF_A_BLOCK * length s.blocks
  pub live : IsSome (get s.map (tag_linked s.blocks link))
