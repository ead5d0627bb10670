-- What marks stand for.
use Rattle.std.specs.Prelude.{if◌then◌else◌, List, [], ◌∷◌, map, reverse, Option, None, Some}
use Rattle.std.specs.FinMap.{empty}
use Rattle.pk_base.specs.Entity.{same_tag}
use Rattle.pk_base.specs.declared.tag.Tag.{Tag}
use Rattle.pk_model.specs.Maps.{EntityMap}
use Rattle.pk_model.specs.State.{Mark}
use Rattle.delta.specs.Deltas.{after}
use Rattle.pmark_tree.specs.declared.mark.TreeMark.{TreeMark}

-- What a mark stands for, where the newest of the marks is the first: what its parent stands for
-- among the older ones, followed by the changes from there. Without a mark it is the empty map.
abbrev pub map_among : List TreeMark → Option Tag → EntityMap
map_among [] t = empty
map_among (k ∷ older) None = empty
map_among (k ∷ older) (Some t) =
    if same_tag k.tag t then after (map_among older k.parent) k.delta
    else map_among older (Some t)

-- what the mark with this tag stands for
unfoldable pub map_of : List TreeMark → Tag → EntityMap
map_of ks t = map_among (reverse ks) (Some t)

-- a mark with its whole map
abbrev pub whole_mark : List TreeMark → TreeMark → Mark
whole_mark ks k =
    record { tag = k.tag; parent = k.parent; map = map_of ks k.tag; live = k.live }

-- all marks with their whole maps
abbrev pub whole_marks : List TreeMark → List Mark
whole_marks ks = map (whole_mark ks) ks
