-- The state of a partition.
use Rattle.std.specs.Prelude.{ℕ, ◌==◌, Bool, true, false, List, [], ◌∷◌, Option, None, unwrap_or, option_map}
use Rattle.std.specs.FinMap.{empty}
use Rattle.pk_base.specs.declared.tag.Tag.{Tag}
use Rattle.pk_base.specs.Blocks.{first_tag_of}
use Rattle.pk_model.specs.Maps.{EntityMap}

-- a mark, its parent, the whole map that it stands for, and whether it is live
pub record Mark : Type 0 where
  pub tag : Tag
  pub parent : Option Tag
  pub map : EntityMap
  pub live : Bool

pub record PartitionState : Type 0 where
  pub now : EntityMap
  pub marks : List Mark
  pub at : Tag
  pub blocks : List ℕ
  pub used : ℕ
  pub holder : Option ℕ

-- the initial mark of partition p
abbrev pub initial_mark : ℕ → Tag
initial_mark p = first_tag_of p

-- Partition p at its beginning: it owns block p, of which the initial mark took the first tag, and
-- nothing is live.
abbrev pub opening : ℕ → PartitionState
opening p = record {
  now = empty;
  marks = record { tag = initial_mark p; parent = None; map = empty; live = true } ∷ [];
  at = initial_mark p;
  blocks = p ∷ [];
  used = 1;
  holder = None;
}

-- whether this thread holds the partition
abbrev pub holds : PartitionState → ℕ → Bool
holds s t = unwrap_or (option_map (λ h. h == t) s.holder) false
