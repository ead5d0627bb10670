-- Changes of a map: what a tag named before, and what it names after.
use Rattle.std.specs.Prelude.{◌≢◌, Bool, true, false, ◌&&◌, if◌then◌else◌, List, ◌++◌, map, filter, Option, Some, None, is_none, is_some}
use Rattle.std.specs.List.{AllByRecursion, filter_map}
use Rattle.std.specs.FinMap.{get, keys, entries, from_entries}
use Rattle.pk_base.specs.Entity.{same_entity}
use Rattle.pk_base.specs.declared.tag.Tag.{Tag}
use Rattle.pk_base.specs.declared.entity.Entity.{Entity}
use Rattle.pk_base.specs.declared.list.Lists.{Lists}
use Rattle.pk_model.specs.Tags.{TagsAscend}
use Rattle.pk_model.specs.Maps.{EntityMap, tag_cmp}
use Rattle.entity_store.specs.declared.changes.Change.{Change}

-- they ascend by their tags, and each is one
pub record AreChanges (changes : List Change) : Type 0 where
  pub ascend : TagsAscend (map (λ (c : Change). c.tag) changes)
  pub differ : AllByRecursion (λ (c : Change). c.before ≢ c.after) changes

abbrev pub same_value : Option Entity → Option Entity → Bool
same_value (Some a) (Some b) = same_entity a b
same_value None None = true
same_value (Some a) None = false
same_value None (Some b) = false

-- the tags that name something in the one map or in the other, ascending
abbrev pub tags_of_either : EntityMap → EntityMap → List Tag
tags_of_either old new = keys (from_entries {R = tag_cmp} (entries old ++ entries new))

-- how the maps differ at a tag, where they do
abbrev pub change_at : EntityMap → EntityMap → Tag → Option Change
change_at old new t =
    if same_value (get old t) (get new t) then None
    else Some (record { tag = t; before = get old t; after = get new t })

-- the net change from the one map to the other, ascending by the tags
unfoldable pub net_changes : EntityMap → EntityMap → List Change
net_changes old new = filter_map (change_at old new) (tags_of_either old new)

-- the tags of the changes: of those that came, of those that went, and of those in between
abbrev pub lists_among : List Change → Lists
lists_among changes = record {
  fresh = map (λ (c : Change). c.tag) (filter (λ (c : Change). is_none c.before) changes);
  gone = map (λ (c : Change). c.tag)
      (filter (λ (c : Change). is_some c.before && is_none c.after) changes);
  changed = map (λ (c : Change). c.tag)
      (filter (λ (c : Change). is_some c.before && is_some c.after) changes);
}
