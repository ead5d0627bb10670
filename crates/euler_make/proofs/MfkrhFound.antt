-- mfkrh: what it finds before it changes anything, and its row.
use Rattle.std.proofs.Common.{◌≡◌, List, [], ◌∷◌, ◌++◌, take, Option, Some, Ok, sym, ap, subst, ◌∙◌}
use Rattle.std.specs.Prelude.{ℤ, pos, ◌+ℤ◌, IsOk}
use Rattle.pk_base.specs.Entity.{same_tag}
use Rattle.pk_base.specs.declared.tag.Tag.{Tag}
use Rattle.pk_base.specs.declared.refusal.Refusal.TheVariants.{IsOuter}
use Rattle.entity_store.specs.Store.{StoreView}
use Rattle.solid_model.specs.Items.{Shape, item_at, ◌with◌}
use Rattle.solid_model.specs.Items.Item.{Face, Loop, Shell}
use Rattle.solid_model.specs.Room.{changed_by_mfkrh, if_found, tags_put}
use Rattle.solid_model.specs.Rows.{cost_of, refuse_where, makes_one}
use Rattle.solid_model.specs.Places.{PlacedLoop, loop_at, q_at}
use Rattle.solid_model.specs.Shapes.{shape_of}
use Rattle.solid_model.specs.Mfkrh.{mfkrh}
use Rattle.solid_sound.proofs.rows.RowKeeps.{IsWell, well-shape}
use Rattle.solid_sound.proofs.rows.KeptRings.{asked_loop, face_of_class, face_in, in_face-is}
use Rattle.solid_edits.proofs.Going.{goes-on, goes-past}
use Rattle.pk_base.specs.Building.{Building}
use Rattle.pk_base.specs.declared.call.Call.TheVariants.{Mfkrh}
use Rattle.pk_model.specs.Tags.{AreInRange, Ascends}
use Rattle.entity_store.specs.NextTags.{TagsView, left}
use Rattle.solid_calls.specs.Pairs.{HasTags, MayDo, row_on}
use Rattle.solid_calls.proofs.RowKinds.{cost-making, mfkrh-makes}
use Rattle.solid_places.specs.declared.loops.PlacedLoop.{PlacedLoop as FoundLoop}
use Rattle.solid_edits.proofs.Hosted.{AreHosted, KnowsBlocks, blocks-seen}

-- ---- the row

-- the shape with the new face, which has the ring, and with one more handle
abbrev pub with_face : Shape → Tag → Tag → List Tag → Option Tag → Tag → Tag → ℤ → Shape
with_face S new l fins vertex shell body q =
    S with (new, Face shell l) ∷ (l, Loop new fins vertex) ∷ (shell, Shell body (q +ℤ pos 1)) ∷ []

-- the ring that a call that goes was asked for, its shell, and what the row reaches
pub record MakesFace (S : Shape) (l shell : Tag) : Type 0 where
  pub face : Tag
  pub fins : List Tag
  pub vertex : Option Tag
  pub ring_is : item_at S l ≡ Some (Loop face fins vertex)
  pub body : Tag
  pub q : ℤ
  pub shell_is : item_at S shell ≡ Some (Shell body q)
  pub row_is : mfkrh S l ≡ makes_one (λ new. with_face S new l fins vertex shell body q)

pub makes : (S : Shape) → IsWell S → (l : Tag) (p : PlacedLoop) → loop_at S l ≡ Ok p → IsOk (mfkrh S l) → MakesFace S l p.shell
makes S well l p at h =
    let a = goes-on (loop_at S l) _ h in
    let c = goes-past (refuse_where (same_tag l a.found.outer) (IsOuter l)) _ a.goes in
    let both : Ok a.found ≡ Ok p = sym a.is ∙ at in
    let same : a.found ≡ p = cc in
    let x = asked_loop S l (item_at S l) a.found a.is in
    let y = face_of_class (item_at S x.0) (well.sound.names.kinds l (Loop x.0 x.1 x.2) x.3).0.0 in
    let F = face_in S well x.0 y.0 y.1 y.2 in
    let shell_is : a.found.shell ≡ y.0 = sym (sym F.shell_of ∙ ap (λ (r : PlacedLoop). r.shell) x.4) in
    let body_is : a.found.body ≡ F.body = sym (sym F.face_body ∙ ap (λ (r : PlacedLoop). r.body) x.4) in
    let q_is : q_at S a.found.shell ≡ F.q = ap (q_at S) shell_is ∙ F.q_is in
    let l_is = λ (new : Tag). in_face-is S l x.0 new x.1 x.2 x.3 in
    let made : MakesFace S l y.0 = record {
      face = x.0;
      fins = x.1;
      vertex = x.2;
      ring_is = x.3;
      body = F.body;
      q = F.q;
      shell_is = F.shell_is;
      row_is = a.same ∙ c.same
          ∙ (λ i. makes_one (λ new. S with (new, Face (shell_is i) l) ∷ (l, l_is new i) ∷ (shell_is i, Shell (body_is i) (q_is i +ℤ pos 1)) ∷ []));
    } in
    subst (MakesFace S l) (sym shell_is ∙ ap (λ (r : PlacedLoop). r.shell) same) made

-- ---- what is found

-- it takes one tag
pub mfkrh-cost : (S : Shape) (l : Tag) → IsOk (mfkrh S l) → cost_of (mfkrh S l) ≡ 1
mfkrh-cost S l goes = cost-making 1 (mfkrh S l) (mfkrh-makes S l) goes

-- the call goes, the ring was found, and the tag of the face was taken
pub record IsReady (old : StoreView) (l : Tag) (p : FoundLoop) (tags : TagsView) (out : Building Tag) (new : Tag) : Type 0 where
  pub may : MayDo old (Mfkrh l) (left tags)
  pub has : HasTags old 1 tags out
  pub known : KnowsBlocks old.state
  pub goes : MakesFace (shape_of old.state.map) l p.shell
  pub rest : List Tag
  pub taken : left tags ≡ new ∷ rest
  pub puts : tags_put (shape_of old.state.map) (Mfkrh l) (left tags) ≡ new ∷ l ∷ p.shell ∷ []

-- what views of the store say is said of the store
pub ready-viewed : {old v w : StoreView} {l : Tag} {tags : TagsView} {out : Building Tag} (p : FoundLoop) (new : Tag) (rest : List Tag) → MayDo old (Mfkrh l) (left tags) → HasTags old (cost_of (row_on old.state.map (Mfkrh l))) tags out
    → v ≡ old → w ≡ old → Ascends v.state.blocks → AreInRange v.state.blocks → AreHosted v.state
    → loop_at (shape_of w.state.map) l ≡ Ok (record { face = p.face; outer = p.outer; shell = p.shell; body = p.body }) → left tags ≡ new ∷ rest → IsReady old l p tags out new
ready-viewed {old = old} {v = v} {w = w} {l = l} {tags = tags} {out = out} p new rest may has is_v is_w ascend range hosted found taken =
    let place : PlacedLoop = record { face = p.face; outer = p.outer; shell = p.shell; body = p.body } in
    let cost = mfkrh-cost (shape_of old.state.map) l may.goes in
    let here = subst (λ (z : StoreView). loop_at (shape_of z.state.map) l ≡ Ok place) is_w found in
    record {
      may = may;
      has = subst (λ n. HasTags old n tags out) cost has;
      known = blocks-seen v old is_v ascend range hosted;
      goes = makes (shape_of old.state.map) (well-shape old.state.map may.sound) l place here may.goes;
      rest = rest;
      taken = taken;
      puts = λ i. take (cost i) (taken i) ++ if_found (changed_by_mfkrh l) (here i);
    }
