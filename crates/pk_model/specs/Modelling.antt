-- What a modeller means: all that a partition asks of the calls on its solids. And what is asked of
-- a modeller.
use Rattle.std.specs.Prelude.{◌≡◌, ◌≢◌, ◌⊎◌, ℕ, ◌≤◌, List, length, take, Result, Ok, Err, Some, None, IsSome, Contains}
use Rattle.std.specs.List.{AllByRecursion}
use Rattle.std.specs.FinMap.{empty, get}
use Rattle.pk_base.specs.Entity.{named_by, owner_of}
use Rattle.pk_base.specs.declared.tag.Tag.{Tag}
use Rattle.pk_base.specs.declared.entity.Entity.{Entity}
use Rattle.pk_base.specs.declared.call.Call.{Call}
use Rattle.pk_base.specs.declared.act.Reply.{Reply}
use Rattle.pk_base.specs.declared.refusal.Refusal.{Refusal}
use Rattle.pk_model.specs.Tags.{TagsAscend}
use Rattle.pk_model.specs.Maps.{EntityMap}

-- the map that a call leaves, and its reply
pub record Outcome : Type 0 where
  pub map : EntityMap
  pub reply : Reply

-- Which maps are sound; how many tags a call takes; how many tags the body that does it may write,
-- and how many it may list, for which it takes room first; and what the call does, with the first
-- `cost` of the tags that it is given.
pub record Modelling : Type 1 where
  pub sound : EntityMap → Type 0
  pub cost : EntityMap → Call → ℕ
  pub changes : EntityMap → Call → ℕ
  pub list : EntityMap → Call → ℕ
  pub step : EntityMap → Call → List Tag → Result Outcome Refusal

-- `step` is asked only so: the map is sound, there are as many tags as the call takes or more, they
-- ascend, and none is live.
pub record MayBeAsked (K : Modelling) (m : EntityMap) (c : Call) (tags : List Tag) : Type 0 where
  pub sound : K.sound m
  pub enough : K.cost m c ≤ length tags
  pub ascend : TagsAscend tags
  pub free : AllByRecursion (λ t. get m t ≡ None) tags

-- every tag that an entity of the map names is live in it
abbrev pub NamesLiveTags : EntityMap → Type 0
NamesLiveTags m =
    (t : Tag) (e : Entity) → get m t ≡ Some e → AllByRecursion (λ n. IsSome (get m n)) (named_by e)

-- no entity of the map is its own owner
abbrev pub NoneOwnsItself : EntityMap → Type 0
NoneOwnsItself m = (t : Tag) (e : Entity) → get m t ≡ Some e → owner_of e ≢ Some t

-- The empty map is sound; a sound map names live tags alone, and none of its entities is its own
-- owner. A call keeps soundness, and what is live afterwards was live before or is a tag that it
-- took. Whether it is refused, and why, does not depend on the tags, and a call that is refused
-- takes none.
pub record IsModeller (K : Modelling) : Type 0 where
  pub empty : K.sound empty
  pub names : (m : EntityMap) → K.sound m → NamesLiveTags m
  pub owners : (m : EntityMap) → K.sound m → NoneOwnsItself m
  pub keeps : (m : EntityMap) (c : Call) (tags : List Tag) (o : Outcome) → MayBeAsked K m c tags
      → K.step m c tags ≡ Ok o → K.sound o.map
  pub keys : (m : EntityMap) (c : Call) (tags : List Tag) (o : Outcome) → MayBeAsked K m c tags
      → K.step m c tags ≡ Ok o → (t : Tag) → IsSome (get o.map t)
      → IsSome (get m t) ⊎ Contains (take (K.cost m c) tags) t
  pub alike : (m : EntityMap) (c : Call) (tags other : List Tag) (e : Refusal)
      → MayBeAsked K m c tags → MayBeAsked K m c other
      → K.step m c tags ≡ Err e → K.step m c other ≡ Err e
  pub free : (m : EntityMap) (c : Call) (tags : List Tag) (e : Refusal) → MayBeAsked K m c tags
      → K.step m c tags ≡ Err e → K.cost m c ≡ 0
