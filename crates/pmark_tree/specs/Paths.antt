-- Ways through a tree, given the parent of each mark, where it has one.
use Rattle.std.specs.Prelude.{◌≡◌, ℕ, zero, suc, not, List, [], ◌∷◌, filter, Option, None, Some}
use Rattle.std.specs.List.{list_any}
use Rattle.pk_base.specs.Entity.{same_tag}
use Rattle.pk_base.specs.declared.tag.Tag.{Tag}

-- the marks from one on, each the parent of the one before, at most so many
abbrev pub up_from : ℕ → (Tag → Option Tag) → Option Tag → List Tag
up_from zero parents t = []
up_from (suc most) parents None = []
up_from (suc most) parents (Some t) = t ∷ up_from most parents (parents t)

-- a mark, its parent, and so on up to the initial one: a parent has a smaller tag than its child
abbrev pub line_of : (Tag → Option Tag) → Tag → List Tag
line_of parents t = up_from (suc t.0) parents (Some t)

-- the marks of one line that are not in the other, on the way up
abbrev pub apart_of : (Tag → Option Tag) → Tag → Tag → List Tag
apart_of parents t other =
    filter (λ u. not (list_any (same_tag u) (line_of parents other))) (line_of parents t)

-- These marks are left upwards, one behind the other, from the one mark to the other.
abbrev pub Climbs : (Tag → Option Tag) → Tag → List Tag → Tag → Type 0
Climbs parents from [] to = from ≡ to
Climbs parents from (t ∷ ts) to =
    (from ≡ t) × ((p : Tag) × ((parents t ≡ Some p) × Climbs parents p ts to))

-- These marks are entered downwards, one behind the other, from the one mark to the other.
abbrev pub Descends : (Tag → Option Tag) → Tag → List Tag → Tag → Type 0
Descends parents from [] to = from ≡ to
Descends parents from (t ∷ ts) to = (parents t ≡ Some from) × Descends parents t ts to

-- the way up to a mark, and from there down
pub record Leads (parents : Tag → Option Tag) (from to : Tag) (up down : List Tag) : Type 0 where
  pub top : Tag
  pub climbs : Climbs parents from up top
  pub descends : Descends parents top down to
