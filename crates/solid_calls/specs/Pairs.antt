-- What the two functions of a call on solids promise: the one that says what the call needs, and
-- the one that does it. Both are told by the call's row, read on the shape of the map.
use Rattle.std.specs.Prelude.{◌≡◌, ℕ, ◌+◌, ◌≤◌, List, ◌++◌, length, take, Result, Ok, Err, None, IsOk, IsTrue}
use Rattle.std.specs.List.{AllByRecursion}
use Rattle.std.specs.FinMap.{get}
use Rattle.pk_base.specs.Building.{Building}
use Rattle.pk_base.specs.declared.tag.Tag.{Tag}
use Rattle.pk_base.specs.declared.call.Call.{Call}
use Rattle.pk_base.specs.declared.refusal.Refusal.{Refusal}
use Rattle.pk_model.specs.Tags.{TagsAscend, owns}
use Rattle.pk_model.specs.Maps.{EntityMap}
use Rattle.entity_store.specs.NextTags.{TagsView, left}
use Rattle.entity_store.specs.Store.{StoreView}
use Rattle.entity_store.specs.Room.{HasRoomForThese, PutsAmong}
use Rattle.entity_store.specs.declared.modeller.Need.{Need}
use Rattle.solid_model.specs.Items.{Shape}
use Rattle.solid_model.specs.Rows.{Row, cost_of}
use Rattle.solid_model.specs.Rows.Effect.{Makes, Changes, Tells}
use Rattle.solid_model.specs.Links.{links}
use Rattle.solid_model.specs.Shapes.{shape_of}
use Rattle.solid_model.specs.Sound.{IsSound}
use Rattle.solid_model.specs.Calls.{row_of}
use Rattle.solid_model.specs.Room.{puts_of, tags_put}
use Rattle.solid_model.specs.Euler.{list_of}

-- the row of the call, on the shape of the map
abbrev pub row_on : EntityMap → Call → Row
row_on m c = row_of (shape_of m) c

-- ---- what a call needs

-- The row does not refuse, and what is named is how many tags it takes, puts and lists.
pub record IsNeedOf (m : EntityMap) (c : Call) (n : Need) : Type 0 where
  pub goes : IsOk (row_on m c)
  pub tags : n.tags ≡ cost_of (row_on m c)
  pub changes : n.changes ≡ puts_of (shape_of m) c
  pub list : n.list ≡ list_of (row_on m c)

-- what the call needs is told, or it is refused, as its row says
abbrev pub NeedsAsRow : EntityMap → Call → Result Need Refusal → Type 0
NeedsAsRow m c (Ok n) = IsNeedOf m c n
NeedsAsRow m c (Err e) = row_on m c ≡ Err e

-- ---- what doing it asks for

-- The map is sound, the call is not refused, and there is room for what it puts with these tags
-- next.
pub record MayDo (s : StoreView) (c : Call) (tags : List Tag) : Type 0 where
  pub sound : IsSound s.state.map
  pub goes : IsOk (row_on s.state.map c)
  pub room : HasRoomForThese s.recording (tags_put (shape_of s.state.map) c tags)

-- There are n tags or more; they ascend, and none is live. The first n are owned, and there is room
-- to list them.
pub record HasTags (s : StoreView) (n : ℕ) (tags : TagsView) (out : Building Tag) : Type 0 where
  pub enough : n ≤ length (left tags)
  pub ascend : TagsAscend (left tags)
  pub free : AllByRecursion (λ t. get s.state.map t ≡ None) (left tags)
  pub owned : AllByRecursion (λ t. IsTrue (owns s.state.blocks t)) (take n (left tags))
  pub spare : n ≤ out.spare

-- ---- what doing it leaves

-- the shape that a row reaches with these tags: the one that was, where it changes nothing
abbrev pub reached : Shape → List Tag → Row → Shape
reached S tags (Ok (Makes k reaches)) = reaches tags
reached S tags (Ok (Changes other)) = other
reached S tags (Ok (Tells reply)) = S
reached S tags (Err e) = S

-- The map is that of the shape that the row reaches with these tags, which is sound, and nothing
-- else of the state has changed; no other tags were put than the call may put with these.
pub record HasDone (old : StoreView) (c : Call) (tags : List Tag) (new : StoreView)
    : Type 0 where
  pub state : new.state ≡ record old.state {
    map = links (reached (shape_of old.state.map) tags (row_on old.state.map c));
  }
  pub sound : IsSound new.state.map
  pub puts : PutsAmong (tags_put (shape_of old.state.map) c tags) old new

-- The first n tags were taken, and are listed behind what was listed before.
pub record Takes (n : ℕ) (tags : TagsView) (out : Building Tag) (tags' : TagsView)
    (out' : Building Tag) : Type 0 where
  pub taken : tags' ≡ record tags { used = tags.used + n }
  pub lists : out'.items ≡ out.items ++ take n (left tags)
  pub spare : out'.spare + n ≡ out.spare
