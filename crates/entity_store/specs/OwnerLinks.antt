-- Who owns what stands in each slot, as child lists over links have it. Each slot has its link,
-- and before these stand as many links as a block has, of which link 0 is the owner of what has no
-- owner.
use Rattle.std.specs.Prelude.{ℕ, zero, suc, ◌+◌, ◌%◌, ◌==◌, if◌then◌else◌, List, [], ◌∷◌, ◌++◌, map, replicate, Option, None, Some, option_map}
use Rattle.pk_base.specs.Blocks.{block_of}
use Rattle.pk_base.specs.Entity.{owner_of}
use Rattle.pk_base.specs.declared.tag.Tag.{Tag}
use Rattle.pk_base.specs.declared.tag.TheConstants.{TAGS_OF_A_BLOCK}
use Rattle.pk_base.specs.declared.entity.Entity.{Entity}

-- the place of a tag among those of the blocks
abbrev pub place_in : List ℕ → Tag → ℕ
place_in [] t = 0
place_in (b ∷ bs) t =
    if b == block_of t then t.0 % TAGS_OF_A_BLOCK else TAGS_OF_A_BLOCK + place_in bs t

-- the link of this owner, or link 0 where there is none
abbrev pub link_to : List ℕ → Option Tag → ℕ
link_to blocks None = 0
link_to blocks (Some o) = TAGS_OF_A_BLOCK + place_in blocks o

abbrev pub owner_link : List ℕ → Entity → ℕ
owner_link blocks e = link_to blocks (owner_of e)

-- for each link the one that owns what stands in its slot
abbrev pub owners_of : List ℕ → List (Option Entity) → List (Option ℕ)
owners_of [] slots = []
owners_of (b ∷ bs) slots =
    replicate TAGS_OF_A_BLOCK None ++ map (option_map (owner_link (b ∷ bs))) slots

-- how many links come with the first block, beside those of its slots
abbrev pub links_missing : (owned : ℕ) → ℕ
links_missing zero = TAGS_OF_A_BLOCK
links_missing (suc n) = 0
