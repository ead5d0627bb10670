-- What a store says of its blocks, once what was lent is seen through.
use Rattle.std.proofs.Common.{◌≡◌, ◌≢◌, ℤ, ℕ, suc, List, ◌∷◌, take, Some, None, subst}
use Rattle.std.specs.Prelude.{IsTrue}
use Rattle.std.specs.List.{AllByRecursion}
use Rattle.pk_base.specs.Building.{Building}
use Rattle.pk_model.specs.Tags.{Ascends, AreInRange, owns}
use Rattle.entity_store.specs.NextTags.{TagsView, left}
use Rattle.solid_calls.specs.Pairs.{HasTags}
use Rattle.std.specs.FinMap.{get}
use Rattle.pk_base.specs.declared.tag.Tag.{Tag}
use Rattle.pk_base.specs.declared.entity.Entity.{Entity}
use Rattle.pk_base.specs.declared.entity.Entity.TheVariants as entity
use Rattle.entity_store.specs.Store.{Stored, StoreView, IsHosted}

-- each entity stands in an owned block, and so does its owner
abbrev pub AreHosted : Stored → Type 0
AreHosted s = (t : Tag) (e : Entity) → get s.map t ≡ Some e → IsHosted s.blocks t e

pub hosted-seen : (v s : StoreView) → v ≡ s → AreHosted v.state → AreHosted s.state
hosted-seen v s e h = subst (λ (x : StoreView). AreHosted x.state) e h

pub hosted-shell : (blocks : List ℕ) (t body : Tag) (p q : ℤ) → IsHosted blocks t (entity.Shell body p) → IsHosted blocks t (entity.Shell body q)
hosted-shell blocks t body p q h = record { owned = h.owned; owner = h.owner }

pub hosted-face : (blocks : List ℕ) (t shell outer : Tag) → IsTrue (owns blocks t) → IsTrue (owns blocks shell) → shell ≢ t → IsHosted blocks t (entity.Face shell outer)
hosted-face blocks t shell outer own owner other = record { owned = own; owner = (other, owner) }

-- the first of the tags that are taken is owned, and none is live
pub first-owned : (s : StoreView) (n : ℕ) (tags : TagsView) (out : Building Tag) (t : Tag) (ts : List Tag) → HasTags s (suc n) tags out → left tags ≡ t ∷ ts → IsTrue (owns s.state.blocks t)
first-owned s n tags out t ts h e = (subst (λ us. AllByRecursion (λ u. IsTrue (owns s.state.blocks u)) (take (suc n) us)) e h.owned).0

pub first-free : (s : StoreView) (n : ℕ) (tags : TagsView) (out : Building Tag) (t : Tag) (ts : List Tag) → HasTags s n tags out → left tags ≡ t ∷ ts → get s.state.map t ≡ None
first-free s n tags out t ts h e = (subst (AllByRecursion (λ u. get s.state.map u ≡ None)) e h.free).0

-- what a store says of its blocks
pub record KnowsBlocks (s : Stored) : Type 0 where
  pub ascending : Ascends s.blocks
  pub range : AreInRange s.blocks
  pub hosted : AreHosted s

pub blocks-seen : (v s : StoreView) → v ≡ s → Ascends v.state.blocks → AreInRange v.state.blocks → AreHosted v.state → KnowsBlocks s.state
blocks-seen v s e a r h = subst (λ (x : StoreView). KnowsBlocks x.state) e (record { ascending = a; range = r; hosted = h })
