-- Lists of changes: where they start, where they lead, the way back, and when one may come behind
-- another.
use Rattle.std.specs.Prelude.{◌≡◌, Bool, true, false, List, [], ◌∷◌, map}
use Rattle.std.specs.List.{AllByRecursion}
use Rattle.std.specs.FinMap.{get}
use Rattle.pk_base.specs.declared.tag.Tag.{Tag}
use Rattle.pk_model.specs.Maps.{EntityMap, with_entity}
use Rattle.entity_store.specs.declared.changes.Change.{Change}

-- the map has at the tag of each change what the change says was before
abbrev pub StartsAt : EntityMap → List Change → Type 0
StartsAt m cs = AllByRecursion (λ c. get m c.tag ≡ c.before) cs

-- the map with what each change says is after
abbrev pub after : EntityMap → List Change → EntityMap
after m [] = m
after m (c ∷ cs) = after (with_entity m c.tag c.after) cs

abbrev pub tags_in : List Change → List Tag
tags_in cs = map (λ (c : Change). c.tag) cs

abbrev pub inverse_change : Change → Change
inverse_change c = record { tag = c.tag; before = c.after; after = c.before }

-- the way back
abbrev pub inverse : List Change → List Change
inverse cs = map inverse_change cs

-- the changes themselves, or the way back
abbrev pub in_direction : Bool → List Change → List Change
in_direction true cs = cs
in_direction false cs = inverse cs

-- Each change of the second list whose tag the first one changes too begins with what that change
-- ends with.
abbrev pub Follows : List Change → List Change → Type 0
Follows cs ds =
    AllByRecursion (λ d. AllByRecursion (λ c. c.tag ≡ d.tag → c.after ≡ d.before) cs) ds
