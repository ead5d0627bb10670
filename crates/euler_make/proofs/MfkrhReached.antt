-- mfkrh: the map that is reached, and that it is that of the shape of its row.
use Rattle.std.proofs.Common.{◌≡◌, ◌≢◌, ⊎_elim, [], ◌∷◌, Some, None, sym, ap, subst, ◌∙◌, arith}
use Rattle.std.specs.Prelude.{pos, ◌+ℤ◌, option_map}
use Rattle.std.specs.FinMap.{get}
use Rattle.pk_base.specs.declared.tag.Tag.{Tag}
use Rattle.pk_base.specs.declared.entity.Entity.TheVariants as entity
use Rattle.pk_model.specs.Maps.{EntityMap, with_entity}
use Rattle.solid_model.specs.Items.{Shape, item_at}
use Rattle.solid_model.specs.Items.Item.{Face, Loop, Shell}
use Rattle.solid_model.specs.Rings.{first_tag}
use Rattle.solid_model.specs.Links.{links}
use Rattle.solid_model.specs.Shapes.{shape_of}
use Rattle.solid_model.specs.Sound.{IsSound}
use Rattle.solid_sound.proofs.shapes.Lookups.{put-same, put-other}
use Rattle.pk_base.proofs.Same.{same_or_other}
use Rattle.solid_sound.proofs.rows.RowKeeps.{IsWell, Keeps, well-shape}
use Rattle.solid_sound.proofs.rows.KeptRings.{apart, free_apart}
use Rattle.solid_sound.proofs.rows.KeptMfkrh.{mfkrh-keeps}
use Rattle.solid_edits.specs.Faces.{of_face, with_more}
use Rattle.solid_calls.proofs.Represented.{Represents, represented, represents-sound}
use Rattle.solid_edits.proofs.StaysRepresented.{IsShown, KeepsFins, are-shown, shown-by, stays-shown, loop-given}
use Rattle.entity_store.proofs.FirstValues.{get_other, get_put}
use Rattle.euler_make.proofs.MfkrhFound.{with_face, MakesFace}

module _ (m : EntityMap) (sound : IsSound m) (l shell new : Tag) (x : MakesFace (shape_of m) l shell) (free : item_at (shape_of m) new ≡ None) where
  abbrev S : Shape
  S = shape_of m

  abbrev R : Shape
  R = with_face S new l x.fins x.vertex shell x.body x.q

  -- the map with the face, then with the ring in it, then with one more handle
  abbrev pub faced : EntityMap
  faced = with_entity m new (Some (entity.Face shell l))

  abbrev pub ringed : EntityMap
  ringed = with_entity faced l (option_map (of_face new) (get faced l))

  abbrev pub counted : EntityMap
  counted = with_entity ringed shell (option_map (with_more (pos 1)) (get ringed shell))

  well : IsWell S
  well = well-shape m sound

  was : Represents S m
  was = represents-sound m sound

  pub l_new : l ≢ new
  l_new = free_apart S l new _ free x.ring_is

  pub shell_new : shell ≢ new
  shell_new = free_apart S shell new _ free x.shell_is

  l_shell : l ≢ shell
  l_shell = apart S l shell _ _ x.ring_is x.shell_is (λ k. cc)

  pub ring-has : get m l ≡ Some (entity.Loop x.face (first_tag x.fins) x.vertex)
  ring-has = (was.items l _ x.ring_is).0

  pub shell-has : get m shell ≡ Some (entity.Shell x.body x.q)
  shell-has = was.items shell _ x.shell_is

  pub ring-then : get faced l ≡ Some (entity.Loop x.face (first_tag x.fins) x.vertex)
  ring-then = get_other m new (Some (entity.Face shell l)) l l_new ∙ ring-has

  pub shell-then : get ringed shell ≡ Some (entity.Shell x.body x.q)
  shell-then = get_other faced l _ shell (λ k. l_shell (sym k)) ∙ get_other m new (Some (entity.Face shell l)) shell shell_new ∙ shell-has

  face_now : get counted new ≡ Some (entity.Face shell l)
  face_now = get_other ringed shell _ new (λ k. shell_new (sym k)) ∙ get_other faced l _ new (λ k. l_new (sym k)) ∙ get_put m new _

  ring_now : get counted l ≡ Some (entity.Loop new (first_tag x.fins) x.vertex)
  ring_now = get_other ringed shell _ l l_shell ∙ get_put faced l _ ∙ ap (option_map (of_face new)) ring-then

  shell_now : get counted shell ≡ Some (entity.Shell x.body (x.q +ℤ pos 1))
  shell_now = get_put ringed shell _ ∙ ap (option_map (with_more (pos 1))) shell-then

  elsewhere : (t : Tag) → t ≢ new → t ≢ l → t ≢ shell → (item_at R t ≡ item_at S t) × (get counted t ≡ get m t)
  elsewhere t h k s = (
    put-other _ shell t _ s ∙ put-other _ l t _ k ∙ put-other S new t _ h,
    get_other ringed shell _ t s ∙ get_other faced l _ t k ∙ get_other m new (Some (entity.Face shell l)) t h,
  )

  fins : KeepsFins S R m counted
  fins f mate edge vertex e =
      let other = elsewhere f (free_apart S f new _ free e) (apart S f l _ _ e x.ring_is (λ k. cc)) (apart S f shell _ _ e x.shell_is (λ k. cc)) in
      (other.0 ∙ e, other.1)

  new_shown : IsShown R counted new
  new_shown = shown-by R counted new (Face shell l)
      (put-other _ shell new _ (λ k. shell_new (sym k)) ∙ put-other _ l new _ (λ k. l_new (sym k)) ∙ put-same S new _) face_now

  ring_shown : IsShown R counted l
  ring_shown = shown-by R counted l (Loop new x.fins x.vertex) (put-other _ shell l _ l_shell ∙ put-same _ l _)
      (loop-given S R m counted well fins l x.face new x.fins x.vertex x.ring_is (was.items l _ x.ring_is) ring_now)

  shell_shown : IsShown R counted shell
  shell_shown = shown-by R counted shell (Shell x.body (x.q +ℤ pos 1)) (put-same _ shell _) shell_now

  each : (t : Tag) → IsShown R counted t
  each t = ⊎_elim {C = IsShown R counted t} (λ (e : t ≡ new). subst (IsShown R counted) (sym e) new_shown)
      (λ (h : t ≢ new). ⊎_elim {C = IsShown R counted t} (λ (e : t ≡ l). subst (IsShown R counted) (sym e) ring_shown)
      (λ (k : t ≢ l). ⊎_elim {C = IsShown R counted t} (λ (e : t ≡ shell). subst (IsShown R counted) (sym e) shell_shown)
      (λ (s : t ≢ shell). let other = elsewhere t h k s in stays-shown S R m counted well fins was t other.0 other.1)
      (same_or_other t shell))
      (same_or_other t l))
      (same_or_other t new)

  reached_well : IsWell R
  reached_well = subst (Keeps (new ∷ [])) x.row_is (mfkrh-keeps S (new ∷ []) l well (λ enough. free)) (omega arith)

  pub face-made : counted ≡ links R
  face-made = represented R counted reached_well (are-shown R counted each)
