-- What a partition's state stands for, and what an act does to it.
use Rattle.std.specs.Prelude.{◌≡◌, ℕ, ◌*◌, ◌≤◌, List, take, true, length, Option, Some, Result, Ok, Err, Contains, refl}
use Rattle.std.specs.List.{AllByRecursion}
use Rattle.std.specs.FinMap.{get}
use Rattle.pk_base.specs.declared.tag.Tag.{Tag}
use Rattle.pk_base.specs.declared.entity.Entity.{Entity}
use Rattle.pk_base.specs.declared.tag.TheConstants.{TAGS_OF_A_BLOCK, LAST_BLOCK}
use Rattle.pk_base.specs.declared.act.Act.{Act}
use Rattle.pk_base.specs.declared.act.Reply.{Reply}
use Rattle.pk_base.specs.declared.refusal.Refusal.{Refusal}
use Rattle.pk_base.specs.declared.refusal.NoMemory.{NoMemory}
use Rattle.std.specs.Coded.{Coded, code_by, coded×, coded_ℕ}
use Rattle.pk_model.specs.Codes.{state_code}
use Rattle.pk_model.specs.Tags.{tags_of}
use Rattle.pk_model.specs.Maps.{EntityMap}
use Rattle.pk_model.specs.State.{Mark, PartitionState}
use Rattle.pk_model.specs.Modelling.{Modelling}
use Rattle.pk_model.specs.Step.{reach_of}
use Rattle.entity_store.specs.declared.changes.Change.{Change}
use Rattle.entity_store.specs.Store.{IsHosted, StoreView}
use Rattle.pmark_tree.specs.declared.mark.TreeMark.{TreeMark}
use Rattle.pmark_tree.specs.Marks.{is_live}
use Rattle.pmark_tree.specs.Maps.{map_of, whole_marks}
use Rattle.partition.specs.Unsaved.{IsUnsaved}

-- what contracts inside the crate see: the state, and for how many more blocks there is room
pub record ContentsView : Type 0 where
  pub state : PartitionState
  pub reserved : ℕ

abbrev pub contents_code : Coded ContentsView
contents_code = code_by (PartitionState × ℕ) (coded× state_code coded_ℕ)
    (λ v. (v.state, v.reserved)) (λ p. record { state = p.0; reserved = p.1 }) (λ _. refl)

-- the marks of the tree stand for their whole maps
abbrev pub state_of : StoreView → List TreeMark → Tag → ℕ → Option ℕ → PartitionState
state_of store marks at used holder = record {
  now = store.state.map;
  marks = whole_marks marks;
  at = at;
  blocks = store.state.blocks;
  used = used;
  holder = holder;
}

-- each entity stands in one of these blocks, and so does its owner
abbrev pub AreHosted : List ℕ → EntityMap → Type 0
AreHosted blocks m = (t : Tag) (e : Entity) → get m t ≡ Some e → IsHosted blocks t e

-- the mark has one of the tags that were taken, and its entities are hosted
pub record IsOurs (blocks : List ℕ) (used : ℕ) (k : Mark) : Type 0 where
  pub taken : Contains (take used (tags_of blocks)) k.tag
  pub hosted : AreHosted blocks k.map

-- The list of the blocks is the store's, no more tags are taken than the blocks have, and the
-- blocks are no more than there may be. The current mark is live, and what is unsaved is how what
-- there is now differs from what it stands for.
pub record AreContents (blocks list : List ℕ) (now : EntityMap) (marks : List TreeMark)
    (unsaved : List (ℕ × Change)) (at : Tag) (used : ℕ) : Type 0 where
  pub listed : list ≡ blocks
  pub ours : AllByRecursion (IsOurs blocks used) (whole_marks marks)
  pub lives : is_live marks at ≡ true
  pub net : IsUnsaved (map_of marks at) now unsaved
  pub within : used ≤ TAGS_OF_A_BLOCK * length blocks
  pub few : length blocks ≤ LAST_BLOCK

-- The act reaches the new state with this reply, or is refused so and changes nothing. For want of
-- memory nothing changed.
abbrev pub Does : Modelling → PartitionState → Act → Result (Result Reply Refusal) NoMemory
    → PartitionState → Type 0
Does K old a (Ok (Ok r)) new = reach_of K old a ≡ Ok (record { state = new; reply = r })
Does K old a (Ok (Err e)) new = (reach_of K old a ≡ Err e) × (new ≡ old)
Does K old a (Err e) new = new ≡ old
