-- kfmrh: what it finds before it changes anything, its row, and what it puts.
use Rattle.std.proofs.Common.{◌≡◌, ⊎_elim, not, List, [], ◌∷◌, ◌++◌, Option, Some, Ok, sym, ap, subst, ◌∙◌, arith, ◌+◌, length, append-nil, length-append}
use Rattle.std.proofs.lemmas.List.Elements.{Contains-append_left, Contains-append_right, Contains-append_cases}
use Rattle.std.specs.Prelude.{ℤ, pos, ◌-ℤ◌, IsOk, option_map, Contains}
use Rattle.pk_base.specs.Entity.{same_tag}
use Rattle.pk_base.specs.declared.tag.Tag.{Tag}
use Rattle.pk_base.specs.declared.refusal.Refusal.TheVariants.{NotOneBody, SameFace, HasRings}
use Rattle.pk_model.specs.Maps.{EntityMap}
use Rattle.entity_store.specs.Store.{StoreView}
use Rattle.solid_model.specs.Items.{Shape, item_at, ◌with◌, class_of_item}
use Rattle.solid_model.specs.Items.Item.{Face, Loop, Shell}
use Rattle.solid_model.specs.Owners.{has_rings}
use Rattle.solid_model.specs.Deaths.{◌without◌}
use Rattle.solid_model.specs.Rows.{refuse_where, changes}
use Rattle.solid_model.specs.Places.{PlacedFace, face_at, in_face, q_at}
use Rattle.solid_model.specs.Shapes.{shape_of}
use Rattle.solid_model.specs.Sound.{IsSound}
use Rattle.solid_model.specs.Kfmrh.{kfmrh}
use Rattle.solid_sound.proofs.rows.RowKeeps.{IsWell, well-shape}
use Rattle.solid_sound.proofs.rows.KeptRings.{asked_face, face_in, in_face-is}
use Rattle.solid_edits.proofs.Going.{goes-on, goes-past}
use Rattle.list_facts.proofs.Elements.{Contains-first}
use Rattle.pk_base.specs.declared.entity.Class.TheVariants as class
use Rattle.solid_model.specs.Room.{changed_by_kfmrh, dying, if_found, puts_of, tags_changed, tags_put}
use Rattle.solid_calls.specs.Attributes.{attributes_on}
use Rattle.solid_calls.proofs.Deaths.{all_attributes, length-dying}
use Rattle.solid_calls.proofs.RowKinds.{kfmrh-changes}
use Rattle.solid_edits.proofs.KilledMaps.{death-among}
use Rattle.solid_edits.proofs.Stages.{Within}
use Rattle.solid_edits.proofs.TagsPut.{AreOwners, puts-changed, within-changed}
use Rattle.solid_edits.proofs.Dying.{dying-has}
use Rattle.pk_base.specs.declared.call.Call.TheVariants.{Kfmrh}
use Rattle.pk_model.specs.Tags.{AreInRange, Ascends}
use Rattle.solid_calls.specs.Pairs.{MayDo}
use Rattle.solid_places.specs.declared.faces.PlacedFace.{PlacedFace as FoundFace}
use Rattle.solid_edits.proofs.Hosted.{AreHosted, KnowsBlocks, blocks-seen}

-- ---- the row

-- the shape with the loop in the other face and one handle less, and then without the face
abbrev pub with_ring : Shape → Tag → Tag → List Tag → Option Tag → Tag → Tag → ℤ → Shape
with_ring S l keep fins vertex shell body q =
    S with (l, Loop keep fins vertex) ∷ (shell, Shell body (q -ℤ pos 1)) ∷ []

-- the faces that a call that goes was asked for, and what the row reaches
pub record KillsFace (S : Shape) (keep kill l shell : Tag) : Type 0 where
  pub fins : List Tag
  pub vertex : Option Tag
  pub loop_is : item_at S l ≡ Some (Loop kill fins vertex)
  pub body : Tag
  pub q : ℤ
  pub shell_is : item_at S shell ≡ Some (Shell body q)
  pub kill_is : item_at S kill ≡ Some (Face shell l)
  pub keep_shell : Tag
  pub keep_outer : Tag
  pub keep_is : item_at S keep ≡ Some (Face keep_shell keep_outer)
  pub row_is : kfmrh S keep kill ≡ changes (with_ring S l keep fins vertex shell body q without kill ∷ [])

pub kills : (S : Shape) → IsWell S → (keep kill : Tag) (p : PlacedFace) → face_at S kill ≡ Ok p → IsOk (kfmrh S keep kill) → KillsFace S keep kill p.outer p.shell
kills S well keep kill p at h =
    let a = goes-on (face_at S keep) _ h in
    let b = goes-on (face_at S kill) _ a.goes in
    let c = goes-past (refuse_where (same_tag keep kill) (SameFace keep)) _ b.goes in
    let d = goes-past (refuse_where (not (same_tag a.found.body b.found.body)) (NotOneBody a.found.body b.found.body)) _ c.goes in
    let e = goes-past (refuse_where (has_rings S kill) (HasRings kill)) _ d.goes in
    let both : Ok b.found ≡ Ok p = sym b.is ∙ at in
    let same : b.found ≡ p = cc in
    let x = asked_face S keep (item_at S keep) a.found a.is in
    let y = asked_face S kill (item_at S kill) b.found b.is in
    let F = face_in S well kill y.0 y.1 y.2 in
    let o = well.sound.outer kill y.0 y.1 y.2 in
    let l_is : in_face S b.found.outer keep ≡ Loop keep o.0 o.1 = ap (λ t. in_face S t keep) (sym y.5) ∙ in_face-is S y.1 kill keep o.0 o.1 o.2 in
    let body_is : b.found.body ≡ F.body = sym (sym F.owner_is ∙ y.4) in
    let q_is : q_at S b.found.shell ≡ F.q = ap (q_at S) (sym y.3) ∙ F.q_is in
    let killed : KillsFace S keep kill y.1 y.0 = record {
      fins = o.0;
      vertex = o.1;
      loop_is = o.2;
      body = F.body;
      q = F.q;
      shell_is = F.shell_is;
      kill_is = y.2;
      keep_shell = x.0;
      keep_outer = x.1;
      keep_is = x.2;
      row_is = a.same ∙ b.same ∙ c.same ∙ d.same ∙ e.same
          ∙ (λ i. changes (S with (sym y.5 i, l_is i) ∷ (sym y.3 i, Shell (body_is i) (q_is i -ℤ pos 1)) ∷ [] without kill ∷ []));
    } in
    let moved : KillsFace S keep kill b.found.outer b.found.shell = subst (λ t. KillsFace S keep kill t b.found.shell) y.5 (subst (KillsFace S keep kill y.1) y.3 killed) in
    subst (λ (r : PlacedFace). KillsFace S keep kill r.outer r.shell) same moved

-- ---- what is put

-- the faces that a call that goes was asked for, as it was found
abbrev pub found_face : FoundFace → PlacedFace
found_face p = record { shell = p.shell; body = p.body; outer = p.outer }

module _ (m : EntityMap) (keep kill : Tag) (p : FoundFace) (found : face_at (shape_of m) kill ≡ Ok (found_face p)) (shell outer : Tag) (face_is : item_at (shape_of m) kill ≡ Some (Face shell outer)) where
  abbrev S : Shape
  S = shape_of m

  changed : tags_changed S (Kfmrh keep kill) ≡ changed_by_kfmrh S kill (found_face p)
  changed = ap (if_found (changed_by_kfmrh S kill)) found

  owner : AreOwners S (kill ∷ [])
  owner = ((class.Face, ap (option_map class_of_item) face_is, λ k. cc), tt)

  -- the face with its attributes, its loop and the shell
  pub kfmrh-within : Within ((kill ∷ attributes_on m kill) ++ p.outer ∷ p.shell ∷ []) (tags_put S (Kfmrh keep kill) [])
  kfmrh-within t k = within-changed S (Kfmrh keep kill) [] (changed_by_kfmrh S kill (found_face p)) changed t (⊎_elim
      (λ (l : Contains (kill ∷ attributes_on m kill) t). Contains-append_left (dying S (kill ∷ [])) (p.outer ∷ p.shell ∷ []) t
      (dying-has m (kill ∷ []) owner t (death-among m m (kill ∷ []) kill (λ o u is. is) (Contains-first kill []) t l)))
      (λ (r : Contains (p.outer ∷ p.shell ∷ []) t). Contains-append_right (dying S (kill ∷ [])) (p.outer ∷ p.shell ∷ []) t r)
      (Contains-append_cases (kill ∷ attributes_on m kill) (p.outer ∷ p.shell ∷ []) t k))

  pub kfmrh-counts : IsSound m → puts_of S (Kfmrh keep kill) ≡ 3 + length (attributes_on m kill)
  kfmrh-counts sound =
      let puts = puts-changed S (Kfmrh keep kill) (changed_by_kfmrh S kill (found_face p)) (kfmrh-changes S keep kill) changed in
      let dead = length-dying m (kill ∷ []) sound (tt, tt) owner in
      let same : length (all_attributes m (kill ∷ [])) ≡ length (attributes_on m kill) = ap length (append-nil (attributes_on m kill)) in
      omega (arith, puts, dead, same, length-append (dying S (kill ∷ [])) (p.outer ∷ p.shell ∷ []))

-- ---- what is found

-- the call goes, and the face that dies was found
pub record IsReady (old : StoreView) (keep kill : Tag) (p : FoundFace) : Type 0 where
  pub may : MayDo old (Kfmrh keep kill) []
  pub known : KnowsBlocks old.state
  pub found : face_at (shape_of old.state.map) kill ≡ Ok (found_face p)
  pub goes : KillsFace (shape_of old.state.map) keep kill p.outer p.shell

-- what views of the store say is said of the store
pub ready-viewed : {old v w : StoreView} {keep kill : Tag} (p : FoundFace) → MayDo old (Kfmrh keep kill) [] → v ≡ old → w ≡ old → Ascends v.state.blocks → AreInRange v.state.blocks → AreHosted v.state
    → face_at (shape_of w.state.map) kill ≡ Ok (found_face p) → IsReady old keep kill p
ready-viewed {old = old} {v = v} {w = w} {keep = keep} {kill = kill} p may is_v is_w ascend range hosted seen =
    let found = subst (λ (z : StoreView). face_at (shape_of z.state.map) kill ≡ Ok (found_face p)) is_w seen in
    record {
      may = may;
      known = blocks-seen v old is_v ascend range hosted;
      found = found;
      goes = kills (shape_of old.state.map) (well-shape old.state.map may.sound) keep kill (found_face p) found may.goes;
    }
