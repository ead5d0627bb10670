-- Tags stand in blocks: block b has the 64 tags from `64 * b` on.
use Rattle.std.specs.Prelude.{ℕ, ◌*◌, ◌/◌}
use Rattle.pk_base.specs.declared.tag.Tag.{Tag}
use Rattle.pk_base.specs.declared.tag.TheConstants.{TAGS_OF_A_BLOCK}

-- the tag of a number
abbrev pub tag : ℕ → Tag
tag n = record { 0 = n }

-- the block that a tag stands in
abbrev pub block_of : Tag → ℕ
block_of t = t.0 / TAGS_OF_A_BLOCK

-- the first tag of a block
abbrev pub first_tag_of : ℕ → Tag
first_tag_of b = tag (TAGS_OF_A_BLOCK * b)
