-- ringmove: what it finds before it changes anything, and its row.
use Rattle.std.proofs.Common.{◌≡◌, List, [], ◌∷◌, Option, Some, Ok, ap, ◌∙◌}
use Rattle.std.specs.Prelude.{IsOk, not}
use Rattle.std.specs.FinMap.{put}
use Rattle.pk_base.specs.Entity.{same_tag}
use Rattle.pk_base.specs.declared.tag.Tag.{Tag}
use Rattle.pk_base.specs.declared.call.Call.TheVariants.{RingMove}
use Rattle.pk_base.specs.declared.refusal.Refusal.TheVariants.{IsOuter, NotOneBody, SameFace}
use Rattle.pk_model.specs.Maps.{tag_cmp}
use Rattle.solid_model.specs.Items.{Item, Shape, item_at}
use Rattle.solid_model.specs.Items.Item.{Face, Loop}
use Rattle.solid_model.specs.Rows.{refuse_where, changes}
use Rattle.solid_model.specs.Rows.Effect.{Changes}
use Rattle.solid_model.specs.Room.{if_found, tags_changed}
use Rattle.solid_model.specs.Places.{PlacedLoop, loop_at, face_at}
use Rattle.solid_model.specs.RingMove.{ringmove}
use Rattle.solid_sound.proofs.rows.KeptRings.{asked_loop, asked_face, in_face-is}
use Rattle.solid_edits.proofs.Going.{goes-on, goes-past}

-- the ring and the face that a call that goes was asked for, and what the row reaches
pub record MovesRing (S : Shape) (l to : Tag) : Type 0 where
  pub face : Tag
  pub fins : List Tag
  pub vertex : Option Tag
  pub ring_is : item_at S l ≡ Some (Loop face fins vertex)
  pub shell : Tag
  pub outer : Tag
  pub face_is : item_at S to ≡ Some (Face shell outer)
  pub row_is : ringmove S l to ≡ Ok (Changes (put tag_cmp l (Loop to fins vertex) S))
  pub changed : tags_changed S (RingMove l to) ≡ l ∷ []

pub moves : (S : Shape) (l to : Tag) → IsOk (ringmove S l to) → MovesRing S l to
moves S l to h =
    let a = goes-on (loop_at S l) _ h in
    let b = goes-on (face_at S to) _ a.goes in
    let c = goes-past (refuse_where (same_tag l a.found.outer) (IsOuter l)) _ b.goes in
    let d = goes-past (refuse_where (not (same_tag a.found.body b.found.body)) (NotOneBody a.found.body b.found.body)) _ c.goes in
    let e = goes-past (refuse_where (same_tag a.found.face to) (SameFace to)) _ d.goes in
    let ring = asked_loop S l (item_at S l) a.found a.is in
    let face = asked_face S to (item_at S to) b.found b.is in
    record {
      face = ring.0;
      fins = ring.1;
      vertex = ring.2;
      ring_is = ring.3;
      shell = face.0;
      outer = face.1;
      face_is = face.2;
      row_is = a.same ∙ b.same ∙ c.same ∙ d.same ∙ e.same
          ∙ ap (λ (x : Item). changes (put tag_cmp l x S)) (in_face-is S l ring.0 to ring.1 ring.2 ring.3);
      changed = ap (if_found (λ (placed : PlacedLoop). l ∷ [])) a.is;
    }
