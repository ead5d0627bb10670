-- A lamina and a prism of three corners, made where nothing stands: what the laws say of them, in
-- numbers.
use Rattle.std.specs.Prelude.{ℕ, ◌+◌, ◌-◌, pos, List, [], ◌∷◌, map}
use Rattle.std.specs.List.{range_with_len}
use Rattle.pk_base.specs.Blocks.{tag}
use Rattle.pk_base.specs.declared.tag.Tag.{Tag}
use Rattle.pk_base.specs.declared.entity.Pair.{Pair}
use Rattle.solid_model.specs.Items.{Shape}
use Rattle.solid_model.specs.Lamina.{after_lamina}
use Rattle.solid_model.specs.Prism.{pair, after_prism}

-- the corners (0, 0), (3, 0) and (0, 3)
abbrev pub three : List Pair
three = pair (pos 0) (pos 0) ∷ pair (pos 3) (pos 0) ∷ pair (pos 0) (pos 3) ∷ []

abbrev pub tags_to : ℕ → ℕ → List Tag
tags_to first last = map tag (range_with_len first (last + 1 - first))

abbrev pub the_lamina : Shape
the_lamina = (after_lamina (pos 0) three (record { shape = []; tags = tags_to 65 82 })).shape

-- of height 1
abbrev pub the_prism : Shape
the_prism =
    (after_prism (pos 0) (pos 1) three (record { shape = []; tags = tags_to 65 109 })).shape

-- the lists of the lower and of the upper face of the lamina, each from its least tag
abbrev pub lamina_lists : List (List ℕ)
lamina_lists = (73 ∷ 82 ∷ 77 ∷ []) ∷ (72 ∷ 76 ∷ 81 ∷ []) ∷ []

-- those of the prism, and of its sides
abbrev pub prism_lists : List (List ℕ)
prism_lists =
    (73 ∷ 82 ∷ 77 ∷ []) ∷
    (99 ∷ 104 ∷ 109 ∷ []) ∷
    (72 ∷ 89 ∷ 98 ∷ 86 ∷ []) ∷
    (76 ∷ 93 ∷ 103 ∷ 90 ∷ []) ∷
    (81 ∷ 85 ∷ 108 ∷ 94 ∷ []) ∷ []
