-- The tags of the blocks that a partition owns.
use Rattle.std.specs.Prelude.{ℕ, ◌-◌, ◌*◌, ◌<◌, ◌≤◌, ◌==◌, Bool, List, [], ◌∷◌, map, length, drop, slice_index_or}
use Rattle.std.specs.List.{range_with_len, list_any, flat_map, AllByRecursion}
use Rattle.pk_base.specs.Blocks.{tag, block_of}
use Rattle.pk_base.specs.declared.tag.Tag.{Tag}
use Rattle.pk_base.specs.declared.tag.TheConstants.{TAGS_OF_A_BLOCK, LAST_BLOCK}

-- the tags of a block, ascending
unfoldable pub tags_of_block : ℕ → List Tag
tags_of_block b = map tag (range_with_len (TAGS_OF_A_BLOCK * b) TAGS_OF_A_BLOCK)

-- the tags of blocks: those of the first, then those of the next
unfoldable pub tags_of : List ℕ → List Tag
tags_of blocks = flat_map tags_of_block blocks

-- each block is below all later ones
abbrev pub Ascends : List ℕ → Type 0
Ascends [] = Unit {0}
Ascends (b ∷ bs) = AllByRecursion (λ c. b < c) bs × Ascends bs

-- each tag is below all later ones, so none stands twice
abbrev pub TagsAscend : List Tag → Type 0
TagsAscend [] = Unit {0}
TagsAscend (t ∷ ts) = AllByRecursion (λ u. t.0 < u.0) ts × TagsAscend ts

-- each block is one that there may be
abbrev pub AreInRange : List ℕ → Type 0
AreInRange blocks = AllByRecursion (λ b. (1 ≤ b) × (b ≤ LAST_BLOCK)) blocks

-- whether the tag's block is one of these
abbrev pub owns : List ℕ → Tag → Bool
owns blocks t = list_any (λ b. b == block_of t) blocks

-- how many tags of the blocks are left, once `used` were taken
abbrev pub spare_of : List ℕ → ℕ → ℕ
spare_of blocks used = TAGS_OF_A_BLOCK * length blocks - used

-- the tags after the first `used`
abbrev pub next_tags : List ℕ → ℕ → List Tag
next_tags blocks used = drop used (tags_of blocks)

-- the tag at a place of a list that is longer
abbrev pub tag_at : List Tag → ℕ → Tag
tag_at tags i = slice_index_or tags i (tag 0)
