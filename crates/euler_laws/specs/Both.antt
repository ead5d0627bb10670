-- Two operators, one after the other, each with the tags that the one before left.
use Rattle.std.specs.Prelude.{◌≡◌, ℕ, ◌+◌, ◌≤◌, List, length, take, drop, Option, None, IsOk, IsTrue}
use Rattle.std.specs.List.{AllByRecursion}
use Rattle.std.specs.FinMap.{get}
use Rattle.pk_base.specs.declared.tag.Tag.{Tag}
use Rattle.pk_base.specs.declared.call.Call.{Call}
use Rattle.pk_model.specs.Tags.{TagsAscend, owns}
use Rattle.pk_model.specs.Maps.{EntityMap}
use Rattle.entity_store.specs.NextTags.{TagsView, left}
use Rattle.entity_store.specs.Store.{Stored}
use Rattle.solid_model.specs.Rows.{cost_of}
use Rattle.solid_model.specs.Links.{links}
use Rattle.solid_model.specs.Shapes.{shape_of}
use Rattle.solid_model.specs.Sound.{IsSound}
use Rattle.solid_calls.specs.Pairs.{reached, row_on}
use Rattle.solid_model.specs.SameButNames.{SameButNames}

-- ---- one operator

-- the map that a call reaches by its row, with these tags
unfoldable pub map_after : EntityMap → Call → List Tag → EntityMap
map_after m c tags = links (reached (shape_of m) tags (row_on m c))

-- how many tags it takes
unfoldable pub cost_on : EntityMap → Call → ℕ
cost_on m c = cost_of (row_on m c)

-- the tags that it leaves
abbrev pub tags_after : EntityMap → Call → List Tag → List Tag
tags_after m c tags = drop (cost_on m c) tags

-- the tags once so many more were taken
abbrev pub taken : ℕ → TagsView → TagsView
taken n tags = record tags { used = tags.used + n }

-- ---- two operators

-- The map is sound, and the call is not refused. There are n tags or more: they ascend, and none
-- is live.
pub record MayFollow (m : EntityMap) (c : Call) (n : ℕ) (tags : List Tag) : Type 0 where
  pub sound : IsSound m
  pub goes : IsOk (row_on m c)
  pub enough : n ≤ length tags
  pub ascend : TagsAscend tags
  pub free : AllByRecursion (λ t. get m t ≡ None) tags

-- the same of what a store holds and of the next tags, the first n of which are of owned blocks
pub record MayTake (s : Stored) (c : Call) (n : ℕ) (tags : TagsView) : Type 0 where
  pub may : MayFollow s.map c n (left tags)
  pub owned : AllByRecursion (λ t. IsTrue (owns s.blocks t)) (take n (left tags))

-- the map that two calls reach, one after the other
abbrev pub map_after_both : EntityMap → Call → Call → List Tag → EntityMap
map_after_both m c d tags = map_after (map_after m c tags) d (tags_after m c tags)

-- The second call is not refused after the first, and gives back the very map before.
pub record GivesBack (m : EntityMap) (c d : Call) (tags : List Tag) : Type 0 where
  pub goes : IsOk (row_on (map_after m c tags) d)
  pub same : map_after_both m c d tags ≡ m

-- The second call is not refused after the first, and gives the map back but for the names of what
-- was killed and made anew.
pub record GivesBackButNames (m : EntityMap) (c d : Call) (tags killed made : List Tag)
    : Type 0 where
  pub goes : IsOk (row_on (map_after m c tags) d)
  pub same : SameButNames killed made (shape_of m) (shape_of (map_after_both m c d tags))

-- ---- where memory runs out

-- nothing was done
pub record IsUntouched (m : EntityMap) (tags : TagsView) (m' : EntityMap) (tags' : TagsView)
    : Type 0 where
  pub map_is : m' ≡ m
  pub tags_are : tags' ≡ tags

-- the first call was carried out
pub record IsBetween (m : EntityMap) (c : Call) (tags : TagsView) (m' : EntityMap)
    (tags' : TagsView) : Type 0 where
  pub map_is : m' ≡ map_after m c (left tags)
  pub tags_are : tags' ≡ taken (cost_on m c) tags
