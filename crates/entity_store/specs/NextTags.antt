-- The next tags of a partition, as they are lent to a call.
use Rattle.std.specs.Prelude.{ℕ, ◌*◌, ◌≤◌, List, length, refl}
use Rattle.std.specs.Coded.{Coded, code_by, coded×, coded_list, coded_ℕ}
use Rattle.pk_base.specs.declared.tag.Tag.{Tag}
use Rattle.pk_base.specs.declared.tag.TheConstants.{TAGS_OF_A_BLOCK}
use Rattle.pk_model.specs.Tags.{AreInRange, Ascends, next_tags}

pub record TagsView : Type 0 where
  pub blocks : List ℕ
  pub used : ℕ

abbrev pub tags_code : Coded TagsView
tags_code = code_by (List ℕ × ℕ) (coded× (coded_list coded_ℕ) coded_ℕ) (λ t. (t.blocks, t.used))
    (λ p. record { blocks = p.0; used = p.1 }) (λ _. refl)

-- the tags that are left
abbrev pub left : TagsView → List Tag
left t = next_tags t.blocks t.used

-- the blocks ascend and are such as there may be, and no more tags are used than they have
pub record AreTags (blocks : List ℕ) (used : ℕ) : Type 0 where
  pub ascending : Ascends blocks
  pub range : AreInRange blocks
  pub within : used ≤ TAGS_OF_A_BLOCK * length blocks
