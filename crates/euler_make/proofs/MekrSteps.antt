-- mekr: the steps from one map to the next, and how far each has come.
use Rattle.std.proofs.Common.{◌≡◌, ⊎_elim, List, [], ◌∷◌, ◌++◌, Option, Some, sym, ap, subst, ◌∙◌}
use Rattle.std.specs.Prelude.{Contains}
use Rattle.std.specs.FinMap.{get}
use Rattle.std.proofs.lemmas.List.Elements.{Contains-append_cases, Contains-append_left, Contains-append_right}
use Rattle.pk_base.specs.declared.tag.Tag.{Tag}
use Rattle.pk_base.specs.declared.entity.Entity.{Entity}
use Rattle.pk_base.specs.declared.entity.Class.TheVariants as class
use Rattle.pk_model.specs.Maps.{EntityMap, with_entity}
use Rattle.entity_store.specs.Recorder.{began}
use Rattle.entity_store.specs.Recording.{recorded_put}
use Rattle.entity_store.specs.Store.{Stored, StoreView}
use Rattle.solid_model.specs.Places.{End}
use Rattle.solid_model.specs.Room.{dying}
use Rattle.solid_model.specs.Shapes.{shape_of}
use Rattle.solid_calls.specs.Attributes.{attributes_on}
use Rattle.solid_model.specs.Rings.{ends_of}
use Rattle.halfedge.specs.LinkedRings.{ring_of_any}
use Rattle.entity_store.specs.Room.{PutsAmong}
use Rattle.solid_edits.proofs.EditedMaps.{ends-among}
use Rattle.solid_edits.proofs.KilledMaps.{GainsNoAttribute, death-among}
use Rattle.list_facts.proofs.Elements.{Contains-first, Contains-later}
use Rattle.euler_make.proofs.MekrFound.{AreEnds}
use Rattle.euler_make.proofs.MekrReached.{mekr_tags, ring-class}
use Rattle.solid_edits.proofs.Dying.{dying-has}
use Rattle.solid_edits.proofs.Stages.{IsStage, Within, stage-none, stage-put, stage-then}

module _ (s0 : StoreView) (k r : Tag) (u v : End) (at_k at_r : Option Tag) (at : AreEnds s0.state.map k r u v at_k at_r) (e f g : Tag) where
  abbrev m : EntityMap
  m = s0.state.map

  abbrev A : List Tag
  A = ring_of_any m at_r

  abbrev B : List Tag
  B = ring_of_any m at_k

  abbrev news : List Tag
  news = e ∷ f ∷ g ∷ []

  abbrev ts : List Tag
  ts = mekr_tags m k r u v at_k at_r at e f g

  abbrev dead : List Tag
  dead = dying (shape_of m) (v.loop_ ∷ [])

  -- the loop, and the fins that the edge is put beside
  abbrev kept : List Tag
  kept = u.loop_ ∷ ends_of B

  pub mekr-has_new : Within news ts
  mekr-has_new t c = Contains-append_left news ((dead ++ kept) ++ A) t c

  pub mekr-has_a : Within A ts
  mekr-has_a t c = Contains-append_right news ((dead ++ kept) ++ A) t (Contains-append_right (dead ++ kept) A t c)

  front_in : Within (dead ++ kept) ts
  front_in t c = Contains-append_right news ((dead ++ kept) ++ A) t (Contains-append_left (dead ++ kept) A t c)

  kept_in : Within kept ts
  kept_in t c = front_in t (Contains-append_right dead kept t c)

  pub mekr-has_loop : Contains ts u.loop_
  mekr-has_loop = kept_in u.loop_ (Contains-first u.loop_ (ends_of B))

  pub mekr-has_ends : Within (f ∷ g ∷ ends_of A ++ ends_of B) ts
  mekr-has_ends t c = ⊎_elim
      (λ (i : Contains (f ∷ g ∷ ends_of A) t). ⊎_elim
      (λ (n : Contains (f ∷ g ∷ []) t). mekr-has_new t (Contains-later e (f ∷ g ∷ []) t n))
      (λ (a : Contains (ends_of A) t). mekr-has_a t (ends-among A t a))
      (Contains-append_cases (f ∷ g ∷ []) (ends_of A) t i))
      (λ (b : Contains (ends_of B) t). kept_in t (Contains-later u.loop_ (ends_of B) t b))
      (Contains-append_cases (f ∷ g ∷ ends_of A) (ends_of B) t c)

  pub mekr-has_dead : (n : EntityMap) → GainsNoAttribute m n → Within (v.loop_ ∷ attributes_on n v.loop_) ts
  mekr-has_dead n were t c = front_in t (Contains-append_left dead kept t
      (dying-has m (v.loop_ ∷ []) ((class.Loop, ring-class m k r u v at_k at_r at, (λ h. cc)), tt) t
      (death-among m n (v.loop_ ∷ []) v.loop_ were (Contains-first v.loop_ []) t c)))

  -- the ring is given to the loop
  pub mekr-one : (s1 : StoreView) → s1.state ≡ record s0.state { map = s1.state.map } → PutsAmong A s0 s1 → IsStage ts s0 s1
  mekr-one s1 state puts = stage-then ts A s0 s0 s1 (stage-none ts s0) mekr-has_a state puts

  -- the edge is put
  pub mekr-two : (s1 s2 : StoreView) → IsStage ts s0 s1 → (n : EntityMap) → s2.state ≡ record s1.state { map = n } → PutsAmong news s1 s2 → IsStage ts s0 s2
  mekr-two s1 s2 one n state puts =
      let map_is : s2.state.map ≡ n = ap (λ (s : Stored). s.map) state in
      stage-then ts news s0 s1 s2 one mekr-has_new (state ∙ ap (λ (x : EntityMap). record s1.state { map = x }) (sym map_is)) puts

  -- the rings are linked to one
  pub mekr-three : (s2 s3 : StoreView) → IsStage ts s0 s2 → s3.state ≡ record s2.state { map = s3.state.map } → PutsAmong (f ∷ g ∷ ends_of A ++ ends_of B) s2 s3 → IsStage ts s0 s3
  mekr-three s2 s3 two state puts = stage-then ts (f ∷ g ∷ ends_of A ++ ends_of B) s0 s2 s3 two mekr-has_ends state puts

  -- the loop is put
  pub mekr-four : (s3 s4 : StoreView) (x : Entity) → IsStage ts s0 s3 → s4.state ≡ record s3.state { map = with_entity s3.state.map u.loop_ (Some x) } → began s4 ≡ began s3
      → s4.recording ≡ record s3.recording { first = recorded_put s3.recording.first u.loop_ (get s3.state.map u.loop_) } → IsStage ts s0 s4
  mekr-four s3 s4 x three state same recorded = stage-put ts s0 s3 s4 u.loop_ (Some x) three mekr-has_loop state same recorded

-- what holds of two lists holds of the same ones
pub of-both : (P : List Tag → List Tag → Type 0) (a b c d : List Tag) → a ≡ c → b ≡ d → P a b → P c d
of-both P a b c d h k p = subst (λ (x : List Tag × List Tag). P x.0 x.1) (λ i. (h i, k i)) p
