-- Every row keeps soundness, and takes no tags but its own; so the modelling of all calls is what is asked of a modeller.
use Rattle.std.proofs.Common.{◌≡◌, ◌≤◌, ◌⊎◌, inl, inr, ⊎_elim, List, [], length, take, None, Ok, Err, sym, subst, arith}
use Rattle.std.specs.Prelude.{IsSome, Contains}
use Rattle.std.specs.List.{AllByRecursion}
use Rattle.std.specs.FinMap.{get}
use Rattle.pk_base.specs.declared.tag.Tag.{Tag}
use Rattle.pk_base.specs.declared.call.Call.{Call}
use Rattle.pk_base.specs.declared.call.Call.TheVariants.{Mvfs, Mev, Mef, Mekr, Mfkrh, Kvfs, Kev, Kef, Kemr, Kfmrh, RingMove, Lamina, Block, Prism, Sweep, Move, Turn, Delete, SetAttr, DropAttr, Ask, Kids, Ring, Counts, Bodies}
use Rattle.pk_model.specs.Tags.{TagsAscend}
use Rattle.pk_model.specs.Maps.{EntityMap}
use Rattle.pk_model.specs.Modelling.{Outcome, MayBeAsked, IsModeller}
use Rattle.list_facts.proofs.Each.{ByRecursion-weaker}
use Rattle.solid_model.specs.Items.{Shape, item_at}
use Rattle.solid_model.specs.Rows.{Row, cost_of}
use Rattle.solid_model.specs.Rows.Effect.{Makes, Changes, Tells}
use Rattle.solid_model.specs.Places.{live_at, body_at, loop_at}
use Rattle.solid_model.specs.Links.{links}
use Rattle.solid_model.specs.Shapes.{shape_of}
use Rattle.solid_model.specs.Sound.{IsSound}
use Rattle.solid_model.specs.Calls.{row_of}
use Rattle.solid_model.specs.Euler.{euler, step_by, outcome_of}
use Rattle.solid_sound.specs.Keeping.{KeepsSoundness}
use Rattle.list_facts.proofs.Elements.{not_in_nil}
use Rattle.solid_sound.proofs.shapes.OnlyShape.{shape-read}
use Rattle.solid_sound.proofs.rows.RowKeeps.{IsWell, Keeps, keeps-bind, well-shape}
use Rattle.solid_sound.proofs.rows.Asked.{free_item, free_at, keeps-by_row}
use Rattle.solid_sound.proofs.rows.Refused.{alike_by, free_by}
use Rattle.solid_sound.proofs.rows.Taken.{TakesOnly, takes-bind, mvfs-takes, mev-takes, mef-takes, mekr-takes, mfkrh-takes, kvfs-takes, delete-takes, kev-takes, kef-takes, kemr-takes, kfmrh-takes, ringmove-takes, set-takes, drop-takes, move-takes, turn-takes}
use Rattle.solid_sound.proofs.shapes.LiveNames.{links-live, live-links, sound-names, sound-owners, empty-sound}
use Rattle.solid_sound.proofs.rows.KeptMvfs.{mvfs-keeps}
use Rattle.solid_sound.proofs.rows.KeptMev.{mev-keeps}
use Rattle.solid_sound.proofs.rows.KeptMef.{mef-keeps}
use Rattle.solid_sound.proofs.rows.KeptMekr.{mekr-keeps}
use Rattle.solid_sound.proofs.rows.KeptMfkrh.{mfkrh-keeps}
use Rattle.solid_sound.proofs.rows.KeptDeaths.{kvfs-keeps, delete-keeps}
use Rattle.solid_sound.proofs.rows.KeptKev.{kev-keeps}
use Rattle.solid_sound.proofs.rows.KeptKef.{kef-keeps}
use Rattle.solid_sound.proofs.rows.KeptKemr.{kemr-keeps}
use Rattle.solid_sound.proofs.rows.KeptKfmrh.{kfmrh-keeps}
use Rattle.solid_sound.proofs.rows.KeptRings.{ringmove-keeps}
use Rattle.solid_sound.proofs.rows.KeptMotions.{move-keeps, turn-keeps}
use Rattle.solid_sound.proofs.rows.KeptAttributes.{set-keeps, drop-keeps}
use Rattle.solid_sound.proofs.rows.KeptFolds.{lamina-keeps, lamina-takes, sweep-keeps, sweep-takes}
use Rattle.solid_sound.proofs.rows.KeptPrism.{prism-keeps, prism-takes, block-keeps, block-takes}

-- ---- each row

-- on the shape S, with these tags
module _ (S : Shape) (tags : List Tag) (well : IsWell S) (ascend : TagsAscend tags) (free : AllByRecursion (λ t. item_at S t ≡ None) tags) where
  row-keeps : (c : Call) → Keeps tags (row_of S c)
  row-keeps (Mvfs at) = mvfs-keeps S tags at well ascend free
  row-keeps (Mev end at) = mev-keeps S tags end at well ascend free
  row-keeps (Mef start end) = mef-keeps S tags start end well ascend free
  row-keeps (Mekr keep r) = mekr-keeps S tags keep r well ascend free
  row-keeps (Mfkrh r) = mfkrh-keeps S tags r well (λ enough. free_at S tags 0 free (omega (arith, enough)))
  row-keeps (Kvfs body) = kvfs-keeps S tags body well
  row-keeps (Kev fin) = kev-keeps S tags fin well
  row-keeps (Kef fin) = kef-keeps S tags fin well
  row-keeps (Kemr fin) = kemr-keeps S tags fin well (λ enough. free_at S tags 0 free (omega (arith, enough)))
  row-keeps (Kfmrh keep kill) = kfmrh-keeps S tags keep kill well
  row-keeps (RingMove r face) = ringmove-keeps S tags r face well
  row-keeps (Lamina z corners) = lamina-keeps S tags well ascend free z corners
  row-keeps (Block at size) = block-keeps S tags well ascend free at size
  row-keeps (Prism z h corners) = prism-keeps S tags well ascend free z h corners
  row-keeps (Sweep face by) = sweep-keeps S tags well ascend free face by
  row-keeps (Move body by) = move-keeps S tags body by well
  row-keeps (Turn body axis turns) = turn-keeps S tags body axis turns well
  row-keeps (Delete body) = delete-keeps S tags body well
  row-keeps (SetAttr owner name value) = set-keeps S tags owner name value well (λ enough. free_at S tags 0 free (omega (arith, enough)))
  row-keeps (DropAttr owner name) = drop-keeps S tags owner name well
  row-keeps (Ask t) = keeps-bind tags (live_at S t) _ (λ x e. tt)
  row-keeps (Kids t) = keeps-bind tags (live_at S t) _ (λ x e. tt)
  row-keeps (Ring r) = keeps-bind tags (loop_at S r) _ (λ x e. tt)
  row-keeps (Counts body) = keeps-bind tags (body_at S body) _ (λ x e. tt)
  row-keeps Bodies = tt

  row-takes : (c : Call) → TakesOnly S tags (row_of S c)
  row-takes (Mvfs at) = mvfs-takes S tags at
  row-takes (Mev end at) = mev-takes S well tags end at
  row-takes (Mef start end) = mef-takes S well tags start end
  row-takes (Mekr keep r) = mekr-takes S well tags keep r
  row-takes (Mfkrh r) = mfkrh-takes S well tags r
  row-takes (Kvfs body) = kvfs-takes S tags body
  row-takes (Kev fin) = kev-takes S well tags fin
  row-takes (Kef fin) = kef-takes S well tags fin
  row-takes (Kemr fin) = kemr-takes S well tags fin
  row-takes (Kfmrh keep kill) = kfmrh-takes S well tags keep kill
  row-takes (RingMove r face) = ringmove-takes S tags r face
  row-takes (Lamina z corners) = lamina-takes S tags well ascend free z corners
  row-takes (Block at size) = block-takes S tags well ascend free at size
  row-takes (Prism z h corners) = prism-takes S tags well ascend free z h corners
  row-takes (Sweep face by) = sweep-takes S tags well ascend free face by
  row-takes (Move body by) = move-takes S tags body by
  row-takes (Turn body axis turns) = turn-takes S tags body axis turns
  row-takes (Delete body) = delete-takes S tags body
  row-takes (SetAttr owner name value) = set-takes S well tags owner name value
  row-takes (DropAttr owner name) = drop-takes S tags owner name
  row-takes (Ask t) = takes-bind S tags (live_at S t) _ (λ x e. tt)
  row-takes (Kids t) = takes-bind S tags (live_at S t) _ (λ x e. tt)
  row-takes (Ring r) = takes-bind S tags (loop_at S r) _ (λ x e. tt)
  row-takes (Counts body) = takes-bind S tags (body_at S body) _ (λ x e. tt)
  row-takes Bodies = tt

-- ---- each call

pub call-keeps : (c : Call) → KeepsSoundness c
call-keeps c = keeps-by_row c (λ S tags well ascend free. row-keeps S tags well ascend free c)

-- what is live in the shape of a sound map is live in it
live_item : (m : EntityMap) → IsSound m → (t : Tag) → IsSome (item_at (shape_of m) t) → IsSome (get m t)
live_item m s t h = subst (λ n. IsSome (get n t)) (sym s.map_is) (links-live s.shape t s.written (subst (λ S. IsSome (item_at S t)) (shape-read m s) h))

keys_by : (m : EntityMap) (tags : List Tag) (row : Row) (o : Outcome) → IsSound m → cost_of row ≤ length tags → Keeps tags row → TakesOnly (shape_of m) tags row → step_by m tags row ≡ Ok o
    → (t : Tag) → IsSome (get o.map t) → IsSome (get m t) ⊎ Contains (take (cost_of row) tags) t
keys_by m tags (Ok (Makes k reaches)) o s enough keeps takes is t h =
    let e : outcome_of m tags (Makes k reaches) ≡ o = cc in
    let live : IsSome (get (links (reaches tags)) t) = subst (λ (x : Outcome). IsSome (get x.map t)) (sym e) h in
    ⊎_elim {C = IsSome (get m t) ⊎ Contains (take k tags) t}
    (λ (l : IsSome (item_at (shape_of m) t)). inl (live_item m s t l))
    (λ (r : Contains (take k tags) t). inr r)
    (takes enough t (live-links (reaches tags) t (keeps enough).written live))
keys_by m tags (Ok (Changes reached)) o s enough keeps takes is t h =
    let e : outcome_of m tags (Changes reached) ≡ o = cc in
    let live : IsSome (get (links reached) t) = subst (λ (x : Outcome). IsSome (get x.map t)) (sym e) h in
    inl (⊎_elim
    (λ (l : IsSome (item_at (shape_of m) t)). live_item m s t l)
    (λ (r : Contains [] t). absurd (not_in_nil t r))
    (takes t (live-links reached t keeps.written live)))
keys_by m tags (Ok (Tells reply)) o s enough keeps takes is t h =
    let e : outcome_of m tags (Tells reply) ≡ o = cc in
    inl (subst (λ (x : Outcome). IsSome (get x.map t)) (sym e) h)
keys_by m tags (Err e) o s enough keeps takes is t h = absurd (cc)

keys : (m : EntityMap) (c : Call) (tags : List Tag) (o : Outcome) → MayBeAsked euler m c tags → euler.step m c tags ≡ Ok o → (t : Tag) → IsSome (get o.map t) → IsSome (get m t) ⊎ Contains (take (euler.cost m c) tags) t
keys m c tags o may is =
    let S = shape_of m in
    let well = well-shape m may.sound in
    let free = ByRecursion-weaker (λ t. get m t ≡ None) (λ t. item_at S t ≡ None) (λ t e. free_item m may.sound t e) tags may.free in
    keys_by m tags (row_of S c) o may.sound may.enough (row-keeps S tags well may.ascend free c) (row-takes S tags well may.ascend free c) is

pub euler-IsModeller : IsModeller euler
euler-IsModeller = record {
  empty = empty-sound;
  names = sound-names;
  owners = sound-owners;
  keeps = λ m c tags o may is. call-keeps c m tags o may is;
  keys = keys;
  alike = λ m c tags other e a b is. alike_by m (row_of (shape_of m) c) tags other e is;
  free = λ m c tags e a is. free_by m (row_of (shape_of m) c) tags e is;
}
