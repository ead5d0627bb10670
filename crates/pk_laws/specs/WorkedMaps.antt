-- Two maps, and lists that are written by numbers.
use Rattle.std.specs.Prelude.{ℕ, pos, List, map}
use Rattle.std.specs.FinMap.{empty, insert}
use Rattle.pk_base.specs.Blocks.{tag}
use Rattle.pk_base.specs.declared.tag.Tag.{Tag}
use Rattle.pk_base.specs.declared.entity.Entity.{Entity}
use Rattle.pk_base.specs.declared.entity.Entity.TheVariants.{Vertex}
use Rattle.pk_base.specs.declared.list.Lists.{Lists}
use Rattle.pk_model.specs.Maps.{EntityMap}

-- the tags of these numbers
abbrev pub tags_from : List ℕ → List Tag
tags_from ns = map tag ns

-- a difference with the tags of these numbers
abbrev pub lists : List ℕ → List ℕ → List ℕ → Lists
lists fresh gone changed =
    record { fresh = (tags_from fresh); gone = (tags_from gone); changed = (tags_from changed) }

-- a vertex of body 64 at (x, 0, 0)
abbrev pub vertex_at : ℕ → Entity
vertex_at x = Vertex (tag 64) (record { x = pos x; y = pos 0; z = pos 0 })

-- vertices at the tags 65, 66 and 67
abbrev pub older : EntityMap
older =
    insert (insert (insert empty (tag 67) (vertex_at 7)) (tag 65) (vertex_at 5))
    (tag 66) (vertex_at 6)

-- 65 is gone, 66 stands elsewhere, 67 is as it was, and 68 is new
abbrev pub newer : EntityMap
newer =
    insert (insert (insert empty (tag 68) (vertex_at 8)) (tag 66) (vertex_at 9))
    (tag 67) (vertex_at 7)
