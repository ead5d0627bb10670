-- When two shapes are the same but for the names of what was killed and of what was made anew.
use Rattle.std.specs.Prelude.{◌≡◌, false, if◌then◌else◌, List, ◌++◌, map, Option, Some, None, option_map}
use Rattle.pk_base.specs.declared.tag.Tag.{Tag}
use Rattle.solid_model.specs.Items.{Item, Shape, item_at}
use Rattle.solid_model.specs.Items.Item.{Body, Shell, Face, Loop, Fin, Edge, Vertex, Attr}
use Rattle.solid_model.specs.Rings.{is_among}
use Rattle.solid_model.specs.Deaths.{is_attribute_of}

-- the cyclic list xs, written from another of its tags
pub record IsTurned (xs ys : List Tag) : Type 0 where
  pub pre : List Tag
  pub post : List Tag
  pub here : xs ≡ pre ++ post
  pub there : ys ≡ post ++ pre

-- The second item is the first one, with each tag t that it names named r t. The list of a loop may
-- be written from any of its fins.
abbrev pub SameItem : (Tag → Tag) → Item → Item → Type 0
SameItem r (Body shell) y = y ≡ Body (r shell)
SameItem r (Shell body q) y = y ≡ Shell (r body) q
SameItem r (Face shell outer) y = y ≡ Face (r shell) (r outer)
SameItem r (Loop face fins vertex) y =
    (turned : List Tag) × IsTurned (map r fins) turned
    × (y ≡ Loop (r face) turned (option_map r vertex))
SameItem r (Fin mate edge vertex) y = y ≡ Fin (r mate) (r edge) (r vertex)
SameItem r (Edge body) y = y ≡ Edge (r body)
SameItem r (Vertex body point) y = y ≡ Vertex (r body) point
SameItem r (Attr owner name value) y = y ≡ Attr (r owner) name value

-- both are nothing, or the second is the first one under r
abbrev pub SameIfAny : (Tag → Tag) → Option Item → Option Item → Type 0
SameIfAny r None None = Unit {0}
SameIfAny r None (Some y) = ⊥
SameIfAny r (Some x) None = ⊥
SameIfAny r (Some x) (Some y) = SameItem r x y

-- what stands there, where it is no attribute of one of these
abbrev pub but_attributes : List Tag → Option Item → Option Item
but_attributes ts None = None
but_attributes ts (Some x) = if is_attribute_of ts x then None else Some x

-- a one-to-one renaming, and the way back; it moves none but these tags
pub record IsRenaming (ts : List Tag) (there back : Tag → Tag) : Type 0 where
  pub undone : (t : Tag) → back (there t) ≡ t
  pub redone : (t : Tag) → there (back t) ≡ t
  pub leaves : (t : Tag) → is_among t ts ≡ false → there t ≡ t

-- A one-to-one renaming, which moves none but the tags that were killed and those that were made
-- anew, takes the one shape to the other. The attributes of both are left out.
pub record SameButNames (killed made : List Tag) (S R : Shape) : Type 0 where
  pub there : Tag → Tag
  pub back : Tag → Tag
  pub renaming : IsRenaming (killed ++ made) there back
  pub same : (t : Tag) → SameIfAny there (but_attributes (killed ++ made) (item_at S t))
      (but_attributes (killed ++ made) (item_at R (there t)))
