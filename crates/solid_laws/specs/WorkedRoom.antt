-- The calls of which a lamina, a prism and a sweep are made, and the tags that they may put.
use Rattle.std.specs.Prelude.{◌≡◌, ℕ, Bool, true, false, ◌&&◌, if◌then◌else◌, List, [], ◌∷◌, ◌++◌, length}
use Rattle.std.specs.List.{list_all}
use Rattle.pk_base.specs.Blocks.{tag}
use Rattle.pk_base.specs.Entity.{same_entity, same_tag}
use Rattle.pk_base.specs.declared.tag.Tag.{Tag}
use Rattle.pk_base.specs.declared.entity.Entity.{Entity}
use Rattle.pk_base.specs.declared.entity.Pair.{Pair}
use Rattle.pk_base.specs.declared.call.Call.{Call}
use Rattle.pk_base.specs.declared.call.Call.TheVariants.{Mvfs, Mev, Mef}
use Rattle.solid_model.specs.Rings.{is_among}
use Rattle.solid_model.specs.Folds.{Progress, after_row}
use Rattle.solid_model.specs.Calls.{row_of}
use Rattle.solid_model.specs.Links.{entities_of}
use Rattle.solid_model.specs.Room.{puts_of, tags_put}
use Rattle.solid_laws.specs.WorkedCalls.{tags_to, at, corner}

-- ---- calls one after another

-- what they reach
abbrev pub after_calls : List Call → Progress → Progress
after_calls [] p = p
after_calls (c ∷ cs) p = after_calls cs (after_row (row_of p.shape c) p)

-- the tags that they may put
abbrev pub put_by : List Call → Progress → List Tag
put_by [] p = []
put_by (c ∷ cs) p = tags_put p.shape c p.tags ++ put_by cs (after_row (row_of p.shape c) p)

abbrev pub each_once : List Tag → List Tag
each_once [] = []
each_once (t ∷ ts) = if is_among t ts then each_once ts else (t ∷ each_once ts)

-- whether these are the same entities under the same tags
abbrev pub are_same : List (Tag × Entity) → List (Tag × Entity) → Bool
are_same [] [] = true
are_same (x ∷ xs) (y ∷ ys) = same_tag x.0 y.0 && same_entity x.1 y.1 && are_same xs ys
are_same [] (y ∷ ys) = false
are_same (x ∷ xs) [] = false

-- A call reaches the entities that these calls reach one after another. They may put just n tags,
-- all together and each counted once, and no other ones than the one call may put.
pub record IsMadeOf (p : Progress) (whole : Call) (calls : List Call) (n : ℕ) : Type 0 where
  pub reaches : are_same (entities_of (after_row (row_of p.shape whole) p).shape)
      (entities_of (after_calls calls p).shape) ≡ true
  pub number : length (each_once (put_by calls p)) ≡ n
  pub whole_number : puts_of p.shape whole ≡ n
  pub among : list_all (λ t. is_among t (tags_put p.shape whole p.tags)) (put_by calls p) ≡ true

-- nothing stands, and these are the tags
abbrev pub start : Progress
start = record { shape = []; tags = tags_to 65 122 }

-- ---- of three corners

abbrev pub three : List Pair
three = corner 0 0 ∷ corner 1 0 ∷ corner 0 1 ∷ []

abbrev pub lamina_of_three : List Call
lamina_of_three =
    Mvfs (at 0 0 0) ∷
    Mev (tag 68) (at 1 0 0) ∷
    Mev (tag 73) (at 0 1 0) ∷
    Mef (tag 72) (tag 77) ∷ []

-- the sweep of its upper face 78 by one upwards
abbrev pub sweep_of_three : List Call
sweep_of_three =
    Mev (tag 72) (at 0 0 1) ∷
    Mev (tag 76) (at 1 0 1) ∷
    Mev (tag 81) (at 0 1 1) ∷
    Mef (tag 86) (tag 90) ∷
    Mef (tag 90) (tag 94) ∷
    Mef (tag 94) (tag 99) ∷ []

-- ---- of four corners

abbrev pub four : List Pair
four = corner 0 0 ∷ corner 1 0 ∷ corner 1 1 ∷ corner 0 1 ∷ []

abbrev pub lamina_of_four : List Call
lamina_of_four =
    Mvfs (at 0 0 0) ∷
    Mev (tag 68) (at 1 0 0) ∷
    Mev (tag 73) (at 1 1 0) ∷
    Mev (tag 77) (at 0 1 0) ∷
    Mef (tag 72) (tag 81) ∷ []

-- the sweep of its upper face 82 by one upwards
abbrev pub sweep_of_four : List Call
sweep_of_four =
    Mev (tag 72) (at 0 0 1) ∷
    Mev (tag 76) (at 1 0 1) ∷
    Mev (tag 80) (at 1 1 1) ∷
    Mev (tag 85) (at 0 1 1) ∷
    Mef (tag 90) (tag 94) ∷
    Mef (tag 94) (tag 98) ∷
    Mef (tag 98) (tag 102) ∷
    Mef (tag 102) (tag 107) ∷ []
