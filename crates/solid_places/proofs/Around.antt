-- What stands around an item of a sound shape.
use Rattle.std.proofs.Common.{◌≡◌, List, Option, Some, None, Ok, drop, refl, sym, ap, ◌∙◌}
use Rattle.std.specs.Prelude.{option_map, unwrap_or}
use Rattle.std.specs.Option.{option_and_then, option_map_or}
use Rattle.pk_base.specs.Blocks.{tag}
use Rattle.pk_base.specs.declared.tag.Tag.{Tag}
use Rattle.pk_base.specs.declared.entity.Class.TheVariants as class
use Rattle.solid_model.specs.Items.{Item, Shape, item_at, class_of_item}
use Rattle.solid_model.specs.Items.Item.{Body, Shell, Face, Loop, Fin, Edge, Vertex, Attr}
use Rattle.solid_model.specs.Rings.{first_tag, written_from}
use Rattle.solid_model.specs.Owners.{owner_of_item, owner_in, body_of}
use Rattle.solid_model.specs.Places as place
use Rattle.solid_model.specs.Places.{outer_of, outer_at, fins_at, face_at, as_face, loop_at, as_loop, placed_loop}
use Rattle.solid_model.specs.Sound.{class_at}
use Rattle.solid_sound.proofs.shapes.Bodies.{leads_up}
use Rattle.solid_sound.proofs.shapes.FinRings.{ring_with, ring_owner, ring_fins}
use Rattle.solid_sound.proofs.rows.RowKeeps.{IsWell}
use Rattle.solid_sound.proofs.rows.KeptRings.{shell_of_class, face_of_class}
use Rattle.solid_places.proofs.Read.{answered}

-- ---- items of a class

pub loop_item : (o : Option Item) → option_map class_of_item o ≡ Some class.Loop → (face : Tag) × (fins : List Tag) × (vertex : Option Tag) × (o ≡ Some (Loop face fins vertex))
loop_item None h = absurd (cc)
loop_item (Some (Loop face fins vertex)) h = (face, fins, vertex, refl)
loop_item (Some (Body shell)) h = absurd (cc)
loop_item (Some (Shell body q)) h = absurd (cc)
loop_item (Some (Face shell outer)) h = absurd (cc)
loop_item (Some (Fin mate edge vertex)) h = absurd (cc)
loop_item (Some (Edge body)) h = absurd (cc)
loop_item (Some (Vertex body point)) h = absurd (cc)
loop_item (Some (Attr owner name value)) h = absurd (cc)

-- ---- owners

pub owner-is : (S : Shape) (t u : Tag) (x : Item) → item_at S t ≡ Some x → owner_of_item S t x ≡ Some u → owner_in S t ≡ u
owner-is S t u x h own = ap (λ (o : Option Item). unwrap_or (option_and_then (owner_of_item S t) o) (tag 0)) h ∙ ap (λ (o : Option Tag). unwrap_or o (tag 0)) own

pub outer-is : (S : Shape) (f shell outer : Tag) → item_at S f ≡ Some (Face shell outer) → outer_at S f ≡ outer
outer-is S f shell outer h = ap (λ (o : Option Item). option_map_or outer_of o (tag 0)) h

pub class-is : (S : Shape) (t : Tag) (x : Item) → item_at S t ≡ Some x → class_at S t ≡ Some (class_of_item x)
class-is S t x h = ap (option_map class_of_item) h

-- ---- where faces and loops stand

module _ (S : Shape) (well : IsWell S) where
  -- a face with the body of its shell
  face_body : (f shell outer : Tag) → item_at S f ≡ Some (Face shell outer) → owner_in S shell ≡ body_of S f
  face_body f shell outer h =
      let up = leads_up S well.written well.sound in
      let s = shell_of_class (item_at S shell) (well.sound.names.kinds f (Face shell outer) h).0.0 in
      owner-is S shell s.0 (Shell s.0 s.1) s.2 refl
      ∙ sym (up.bodies s.0 shell (well.sound.names.bodies shell s.0 s.1 s.2))
      ∙ up.shells shell s.0 s.1 s.2
      ∙ up.faces f shell outer h

  -- where a face stands, told from its tag
  abbrev pub face_place : Tag → place.PlacedFace
  face_place f = record { shell = owner_in S f; body = body_of S f; outer = outer_at S f }

  pub face-place : (f : Tag) → class_at S f ≡ Some class.Face → face_at S f ≡ Ok (face_place f)
  face-place f h =
      let x = face_of_class (item_at S f) h in
      answered (as_face S) S f (Face x.0 x.1) _ x.2 refl
      ∙ (λ i. Ok (record {
        shell = sym (owner-is S f x.0 (Face x.0 x.1) x.2 refl) i;
        body = face_body f x.0 x.1 x.2 i;
        outer = sym (outer-is S f x.0 x.1 x.2) i;
      }))

  pub loop-place : (l : Tag) → class_at S l ≡ Some class.Loop → loop_at S l ≡ Ok (placed_loop S (owner_in S l))
  loop-place l h =
      let x = loop_item (item_at S l) h in
      answered (as_loop S) S l (Loop x.0 x.1 x.2) _ x.3 refl
      ∙ ap (λ t. Ok (placed_loop S t)) (sym (owner-is S l x.0 (Loop x.0 x.1 x.2) x.3 refl))

  pub loop-body : (l : Tag) → class_at S l ≡ Some class.Loop → body_of S (owner_in S l) ≡ body_of S l
  loop-body l h =
      let x = loop_item (item_at S l) h in
      ap (body_of S) (owner-is S l x.0 (Loop x.0 x.1 x.2) x.3 refl)
      ∙ (leads_up S well.written well.sound).loops l x.0 x.1 x.2 x.3

  -- what the loop of a fin is
  pub fin-loop : (f mate edge vertex : Tag) → item_at S f ≡ Some (Fin mate edge vertex) → class_at S (owner_in S f) ≡ Some class.Loop
  fin-loop f mate edge vertex h =
      let r = ring_with S well f mate edge vertex h in
      ap (class_at S) (ring_owner S well f r.0 r.1 r.2 (drop 1 (written_from f r.2)) r.3 f r.3.among)
      ∙ class-is S r.0 (Loop r.1 r.2 None) r.3.loop_is

  -- and the first of its fins from the fin on
  pub fin-first : (f mate edge vertex : Tag) → item_at S f ≡ Some (Fin mate edge vertex) → first_tag (written_from f (fins_at S (owner_in S f))) ≡ Some f
  fin-first f mate edge vertex h =
      let r = ring_with S well f mate edge vertex h in
      ap first_tag (ring_fins S well f r.0 r.1 r.2 (drop 1 (written_from f r.2)) r.3)
