-- A state of solids is a finite map from tags to entities. How one map differs from another.
use Rattle.std.specs.Prelude.{Bool, false, not, List, Option, Some, None, is_none, filter}
use Rattle.std.specs.Ordering.{nat_cmp}
use Rattle.std.specs.FinMap.{FinMap, get, keys, insert, remove}
use Rattle.std.specs.declared.cmp.Ordering.{Ordering}
use Rattle.pk_base.specs.Entity.{same_entity}
use Rattle.pk_base.specs.declared.tag.Tag.{Tag}
use Rattle.pk_base.specs.declared.entity.Entity.{Entity}
use Rattle.pk_base.specs.declared.list.Lists.{Lists}

-- tags are in the order of their numbers
abbrev pub tag_cmp : Tag → Tag → Ordering
tag_cmp a b = nat_cmp a.0 b.0

abbrev pub EntityMap : Type 0
EntityMap = FinMap tag_cmp Entity

-- the map with this entity at the tag, or with none
abbrev pub with_entity : EntityMap → Tag → Option Entity → EntityMap
with_entity m t (Some e) = insert m t e
with_entity m t None = remove m t

-- both are there, with different fields
abbrev pub differ : Option Entity → Option Entity → Bool
differ (Some a) (Some b) = not (same_entity a b)
differ _ _ = false

-- the tags of the new map that are not in the old one
abbrev pub fresh_tags : EntityMap → EntityMap → List Tag
fresh_tags old new = filter (λ t. is_none (get old t)) (keys new)

-- the tags of the old map that are not in the new one
abbrev pub gone_tags : EntityMap → EntityMap → List Tag
gone_tags old new = filter (λ t. is_none (get new t)) (keys old)

-- the tags of both whose entities differ
abbrev pub changed_tags : EntityMap → EntityMap → List Tag
changed_tags old new = filter (λ t. differ (get old t) (get new t)) (keys new)

-- the three lists, each ascending as keys do
unfoldable pub diff : EntityMap → EntityMap → Lists
diff old new = record {
  fresh = fresh_tags old new;
  gone = gone_tags old new;
  changed = changed_tags old new;
}
