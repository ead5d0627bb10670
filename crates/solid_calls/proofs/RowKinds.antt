-- Which rows make something, of how many tags, and which take none.
use Rattle.std.proofs.Common.{◌≡◌, ℕ, ◌≤◌, not, Option, Some, None, Result, Ok, Err, refl, arith}
use Rattle.std.specs.Prelude.{ℤ, IsOk}
use Rattle.pk_base.specs.declared.tag.Tag.{Tag}
use Rattle.pk_base.specs.declared.entity.Name.{Name}
use Rattle.pk_base.specs.declared.entity.Triple.{Triple}
use Rattle.pk_base.specs.Entity.{same_tag}
use Rattle.pk_base.specs.declared.refusal.Refusal.{Refusal}
use Rattle.pk_base.specs.declared.refusal.Refusal.TheVariants.{NotOneLoop, SameVertex, NotOneFace, OneLoop, IsOuter, TwoLoops, NotBare, NotStrut, HasRings, SameFace, NotOneBody}
use Rattle.pk_model.specs.Step.{◌>>=◌}
use Rattle.solid_model.specs.Items.{Item, Shape}
use Rattle.solid_model.specs.Items.Item.{Attr}
use Rattle.solid_model.specs.Rows.{Row, ◌>>◌, refuse_where, cost_of}
use Rattle.solid_model.specs.Rows.Effect.{Makes, Changes, Tells}
use Rattle.solid_model.specs.Ranges.{is_coordinate, numbers_of, refuse_outside}
use Rattle.solid_model.specs.Rings.{next_in}
use Rattle.solid_model.specs.Owners.{has_rings}
use Rattle.solid_model.specs.Places.{body_at, end_at, face_at, fin_at, loop_at, outer_at}
use Rattle.solid_model.specs.Attributes.{attribute_named, owner_of_attributes_at}
use Rattle.solid_model.specs.Mvfs.{mvfs}
use Rattle.solid_model.specs.Mev.{mev}
use Rattle.solid_model.specs.Mef.{mef}
use Rattle.solid_model.specs.Mekr.{mekr}
use Rattle.solid_model.specs.Mfkrh.{mfkrh}
use Rattle.solid_model.specs.Kvfs.{kvfs, has_more_than_a_vertex}
use Rattle.solid_model.specs.Kev.{kev}
use Rattle.solid_model.specs.Kef.{kef}
use Rattle.solid_model.specs.Kemr.{kemr}
use Rattle.solid_model.specs.Kfmrh.{kfmrh}
use Rattle.solid_model.specs.RingMove.{ringmove}
use Rattle.solid_model.specs.SetAttr.{set_attribute, set_in}
use Rattle.solid_model.specs.DropAttr.{drop_attribute, dropped}

-- where it is not refused, it takes so many tags
abbrev pub IsMaking : ℕ → Row → Type 0
IsMaking k (Ok (Makes n reaches)) = n ≡ k
IsMaking k (Ok (Changes reached)) = ⊥
IsMaking k (Ok (Tells reply)) = ⊥
IsMaking k (Err e) = Unit {0}

-- where it is not refused, it changes the shape and takes none
abbrev pub IsChanging : Row → Type 0
IsChanging (Ok (Makes n reaches)) = ⊥
IsChanging (Ok (Changes reached)) = Unit {0}
IsChanging (Ok (Tells reply)) = ⊥
IsChanging (Err e) = Unit {0}

-- where it is not refused, it does either, and what it makes takes a tag
abbrev pub IsPlain : Row → Type 0
IsPlain (Ok (Makes n reaches)) = 1 ≤ n
IsPlain (Ok (Changes reached)) = Unit {0}
IsPlain (Ok (Tells reply)) = ⊥
IsPlain (Err e) = Unit {0}

module _ (P : Row → Type 0) (refused : (e : Refusal) → P (Err e)) where
  bind : {A : Type 0} (r : Result A Refusal) (row : A → Row) → ((a : A) → P (row a)) → P (r >>= row)
  bind (Ok a) row h = h a
  bind (Err e) row h = refused e

  after : (o : Option Refusal) (row : Row) → P row → P (o >> row)
  after None row h = h
  after (Some e) row h = refused e

pub plain-making : (k : ℕ) (row : Row) → 1 ≤ k → IsMaking k row → IsPlain row
plain-making k (Ok (Makes n reaches)) some h = omega (arith, some, h)
plain-making k (Ok (Changes reached)) some h = absurd h
plain-making k (Ok (Tells reply)) some h = absurd h
plain-making k (Err e) some h = tt

pub plain-changing : (row : Row) → IsChanging row → IsPlain row
plain-changing (Ok (Makes n reaches)) h = absurd h
plain-changing (Ok (Changes reached)) h = tt
plain-changing (Ok (Tells reply)) h = absurd h
plain-changing (Err e) h = tt

pub cost-making : (k : ℕ) (row : Row) → IsMaking k row → IsOk row → cost_of row ≡ k
cost-making k (Ok (Makes n reaches)) h goes = h
cost-making k (Ok (Changes reached)) h goes = absurd h
cost-making k (Ok (Tells reply)) h goes = absurd h
cost-making k (Err e) h goes = absurd (cc)

pub cost-changing : (row : Row) → IsChanging row → cost_of row ≡ 0
cost-changing (Ok (Makes n reaches)) h = absurd h
cost-changing (Ok (Changes reached)) h = refl
cost-changing (Ok (Tells reply)) h = absurd h
cost-changing (Err e) h = refl

-- ---- the rows

module _ (S : Shape) where
  pub mvfs-makes : (at : Triple) → IsMaking 5 (mvfs S at)
  mvfs-makes at = after (IsMaking 5) (λ e. tt) (refuse_outside is_coordinate (numbers_of at)) _ refl

  pub mev-makes : (end : Tag) (at : Triple) → IsMaking 4 (mev S end at)
  mev-makes end at = bind (IsMaking 4) (λ e. tt) (end_at S end) _ (λ u. after (IsMaking 4) (λ e. tt) (refuse_outside is_coordinate (numbers_of at)) _ refl)

  pub mef-makes : (f g : Tag) → IsMaking 5 (mef S f g)
  mef-makes f g = bind (IsMaking 5) (λ e. tt) (fin_at S f) _ (λ u. bind (IsMaking 5) (λ e. tt) (fin_at S g) _ (λ v.
      after (IsMaking 5) (λ e. tt) (refuse_where (not (same_tag u.loop_ v.loop_)) (NotOneLoop u.loop_ v.loop_)) _ (after (IsMaking 5) (λ e. tt) (refuse_where (same_tag u.vertex v.vertex) (SameVertex u.vertex)) _ (refl))))

  pub mekr-makes : (k r : Tag) → IsMaking 3 (mekr S k r)
  mekr-makes k r = bind (IsMaking 3) (λ e. tt) (end_at S k) _ (λ u. bind (IsMaking 3) (λ e. tt) (end_at S r) _ (λ v.
      after (IsMaking 3) (λ e. tt) (refuse_where (not (same_tag u.face v.face)) (NotOneFace u.face v.face)) _ (after (IsMaking 3) (λ e. tt) (refuse_where (same_tag u.loop_ v.loop_) (OneLoop u.loop_)) _ (after (IsMaking 3) (λ e. tt) (refuse_where (same_tag v.loop_ (outer_at S v.face)) (IsOuter v.loop_)) _ (after (IsMaking 3) (λ e. tt) (refuse_where (same_tag u.vertex v.vertex) (SameVertex u.vertex)) _ (refl))))))

  pub mfkrh-makes : (l : Tag) → IsMaking 1 (mfkrh S l)
  mfkrh-makes l = bind (IsMaking 1) (λ e. tt) (loop_at S l) _ (λ r. after (IsMaking 1) (λ e. tt) (refuse_where (same_tag l r.outer) (IsOuter l)) _ (refl))

  pub kemr-makes : (f : Tag) → IsMaking 1 (kemr S f)
  kemr-makes f = bind (IsMaking 1) (λ e. tt) (fin_at S f) _ (λ u. bind (IsMaking 1) (λ e. tt) (fin_at S u.mate) _ (λ w.
      after (IsMaking 1) (λ e. tt) (refuse_where (not (same_tag u.loop_ w.loop_)) (TwoLoops u.loop_ w.loop_)) _ (refl)))

  pub kvfs-changes : (b : Tag) → IsChanging (kvfs S b)
  kvfs-changes b = bind IsChanging (λ e. tt) (body_at S b) _ (λ s. after IsChanging (λ e. tt) (refuse_where (has_more_than_a_vertex S b) (NotBare b)) _ (tt))

  pub kev-changes : (f : Tag) → IsChanging (kev S f)
  kev-changes f = bind IsChanging (λ e. tt) (fin_at S f) _ (λ u. bind IsChanging (λ e. tt) (fin_at S u.mate) _ (λ w.
      after IsChanging (λ e. tt) (refuse_where (not (same_tag (next_in u.fins f) u.mate)) (NotStrut f)) _ (tt)))

  pub kef-changes : (x : Tag) → IsChanging (kef S x)
  kef-changes x = bind IsChanging (λ e. tt) (fin_at S x) _ (λ u. bind IsChanging (λ e. tt) (fin_at S u.mate) _ (λ v.
      after IsChanging (λ e. tt) (refuse_where (same_tag u.loop_ v.loop_) (OneLoop u.loop_)) _ (after IsChanging (λ e. tt) (refuse_where (has_rings S u.face) (HasRings u.face)) _ (tt))))

  pub kfmrh-changes : (a b : Tag) → IsChanging (kfmrh S a b)
  kfmrh-changes a b = bind IsChanging (λ e. tt) (face_at S a) _ (λ keep. bind IsChanging (λ e. tt) (face_at S b) _ (λ kill.
      after IsChanging (λ e. tt) (refuse_where (same_tag a b) (SameFace a)) _ (after IsChanging (λ e. tt) (refuse_where (not (same_tag keep.body kill.body)) (NotOneBody keep.body kill.body)) _ (after IsChanging (λ e. tt) (refuse_where (has_rings S b) (HasRings b)) _ (tt)))))

  pub ringmove-changes : (l a : Tag) → IsChanging (ringmove S l a)
  ringmove-changes l a = bind IsChanging (λ e. tt) (loop_at S l) _ (λ r. bind IsChanging (λ e. tt) (face_at S a) _ (λ to.
      after IsChanging (λ e. tt) (refuse_where (same_tag l r.outer) (IsOuter l)) _ (after IsChanging (λ e. tt) (refuse_where (not (same_tag r.body to.body)) (NotOneBody r.body to.body)) _ (after IsChanging (λ e. tt) (refuse_where (same_tag r.face a) (SameFace a)) _ (tt)))))

  set_in-plain : (a : Item) (o : Option Tag) → IsPlain (set_in S a o)
  set_in-plain a None = omega arith
  set_in-plain a (Some t) = tt

  pub set-plain : (owner : Tag) (name : Name) (value : ℤ) → IsPlain (set_attribute S owner name value)
  set-plain owner name value = bind IsPlain (λ e. tt) (owner_of_attributes_at S owner) _ (λ x. set_in-plain (Attr owner name value) (attribute_named S owner name))

  dropped-changes : (owner : Tag) (o : Option Tag) → IsChanging (dropped S owner o)
  dropped-changes owner None = tt
  dropped-changes owner (Some t) = tt

  pub drop-changes : (owner : Tag) (name : Name) → IsChanging (drop_attribute S owner name)
  drop-changes owner name = bind IsChanging (λ e. tt) (owner_of_attributes_at S owner) _ (λ x. dropped-changes owner (attribute_named S owner name))
