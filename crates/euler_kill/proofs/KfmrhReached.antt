-- kfmrh: the map that is reached, and that it is that of the shape of its row.
use Rattle.std.proofs.Common.{◌≡◌, ◌≢◌, ⊎_elim, true, false, not, ◌||◌, Bool, List, [], ◌∷◌, Option, Some, None, refl, sym, ap, subst, ◌∙◌, arith}
use Rattle.std.specs.Prelude.{T, ℤ, pos, negsuc, ◌+ℤ◌, ◌-ℤ◌, option_map}
use Rattle.std.specs.FinMap.{get, is_sorted}
use Rattle.std.proofs.lemmas.Bool.{cases_Bool}
use Rattle.std.proofs.lemmas.Int.{ints}
use Rattle.pk_base.specs.declared.tag.Tag.{Tag}
use Rattle.pk_base.specs.declared.entity.Entity.TheVariants as entity
use Rattle.pk_model.specs.Maps.{EntityMap, with_entity, tag_cmp}
use Rattle.solid_model.specs.Items.{Item, Shape, item_at}
use Rattle.solid_model.specs.Items.Item.{Attr, Face, Loop, Fin, Shell}
use Rattle.solid_model.specs.Rings.{first_tag, is_among}
use Rattle.solid_model.specs.Deaths.{dies_with, is_attribute_of, ◌without◌}
use Rattle.solid_model.specs.Links.{links}
use Rattle.solid_model.specs.Shapes.{shape_of}
use Rattle.solid_model.specs.Sound.{IsSound}
use Rattle.solid_model.proofs.lists.Neighbours.{is_among-in, not_among, neither_from, none-is}
use Rattle.solid_sound.proofs.shapes.Lookups.{put-same, put-other, with-sorted, filter-kept}
use Rattle.pk_base.proofs.Same.{same_or_other}
use Rattle.solid_sound.proofs.shapes.Found.{filter-none, filter-lost}
use Rattle.solid_sound.proofs.rows.RowKeeps.{IsWell, Keeps, well-shape}
use Rattle.solid_sound.proofs.rows.KeptRings.{apart}
use Rattle.solid_sound.proofs.rows.KeptKfmrh.{kfmrh-keeps}
use Rattle.solid_edits.specs.Deaths.{Dies, Kills}
use Rattle.solid_edits.specs.Faces.{of_face, with_more}
use Rattle.solid_edits.proofs.KilledMaps.{attribute-of, kills-none, kills-one, kills-owned, kills-stays, shown-attribute}
use Rattle.solid_calls.proofs.Represented.{Represents, represented, represents-sound}
use Rattle.solid_edits.proofs.StaysRepresented.{IsShown, KeepsFins, are-shown, shown-by, shown-gone, stays-shown, loop-given}
use Rattle.entity_store.proofs.FirstValues.{get_other, get_put}
use Rattle.list_facts.proofs.Elements.{Contains-first, Contains-only}
use Rattle.euler_kill.proofs.KfmrhFound.{with_ring, KillsFace}

one-less : (q : ℤ) → q +ℤ negsuc 0 ≡ q -ℤ pos 1
one-less q = omega (arith, ints)

module _ (m n : EntityMap) (sound : IsSound m) (keep kill l shell : Tag) (dies : Dies m kill n) (x : KillsFace (shape_of m) keep kill l shell) where
  abbrev S : Shape
  S = shape_of m

  abbrev W : Shape
  W = with_ring S l keep x.fins x.vertex shell x.body x.q

  abbrev R : Shape
  R = W without kill ∷ []

  -- the map without the face, with the loop in the other face, and then with one handle less
  abbrev pub ringed : EntityMap
  ringed = with_entity n l (option_map (of_face keep) (get n l))

  abbrev pub counted : EntityMap
  counted = with_entity ringed shell (option_map (with_more (negsuc 0)) (get ringed shell))

  well : IsWell S
  well = well-shape m sound

  was : Represents S m
  was = represents-sound m sound

  abbrev alone : List Tag
  alone = kill ∷ []

  dead : Kills m alone n
  dead = kills-one m n kill dies

  -- what is no attribute of the face is as it was, and an attribute of it is gone
  left : (t : Tag) (y : Item) → item_at S t ≡ Some y → t ≢ kill → is_attribute_of alone y ≡ false → get n t ≡ get m t
  left t y e h a = kills-stays m n alone dead t (h, tt)
      (λ owner name value is. none-is owner alone (ap (is_attribute_of alone) (sym (shown-attribute S m t y owner name value (was.items t y e) is)) ∙ a))

  lost : (t : Tag) (y : Item) → item_at S t ≡ Some y → is_attribute_of alone y ≡ true → get n t ≡ None
  lost t y e h =
      let a = attribute-of alone y h in
      kills-owned m n alone dead t a.0 a.1 a.2 (was.items t (Attr a.0 a.1 a.2) (e ∙ ap Some a.3)) a.4

  l_shell : l ≢ shell
  l_shell = apart S l shell _ _ x.loop_is x.shell_is (λ k. cc)

  l_kill : l ≢ kill
  l_kill = apart S l kill _ _ x.loop_is x.kill_is (λ k. cc)

  shell_kill : shell ≢ kill
  shell_kill = apart S shell kill _ _ x.shell_is x.kill_is (λ k. cc)

  pub keep_l : keep ≢ l
  keep_l = apart S keep l _ _ x.keep_is x.loop_is (λ k. cc)

  pub loop-has : get m l ≡ Some (entity.Loop kill (first_tag x.fins) x.vertex)
  loop-has = (was.items l _ x.loop_is).0

  pub shell-has : get m shell ≡ Some (entity.Shell x.body x.q)
  shell-has = was.items shell _ x.shell_is

  pub keep-has : get m keep ≡ Some (entity.Face x.keep_shell x.keep_outer)
  keep-has = was.items keep _ x.keep_is

  pub loop-then : get n l ≡ Some (entity.Loop kill (first_tag x.fins) x.vertex)
  loop-then = left l (Loop kill x.fins x.vertex) x.loop_is l_kill refl ∙ loop-has

  pub shell-then : get ringed shell ≡ Some (entity.Shell x.body x.q)
  shell-then = get_other n l _ shell (λ k. l_shell (sym k)) ∙ left shell (Shell x.body x.q) x.shell_is shell_kill refl ∙ shell-has

  loop_now : get counted l ≡ Some (entity.Loop keep (first_tag x.fins) x.vertex)
  loop_now = get_other ringed shell _ l l_shell ∙ get_put n l _ ∙ ap (option_map (of_face keep)) loop-then

  shell_now : get counted shell ≡ Some (entity.Shell x.body (x.q -ℤ pos 1))
  shell_now = get_put ringed shell _ ∙ ap (option_map (with_more (negsuc 0))) shell-then ∙ ap (λ q. Some (entity.Shell x.body q)) (one-less x.q)

  elsewhere : (t : Tag) → t ≢ l → t ≢ shell → (item_at W t ≡ item_at S t) × (get counted t ≡ get n t)
  elsewhere t k s = (
    put-other _ shell t _ s ∙ put-other S l t _ k,
    get_other ringed shell _ t s ∙ get_other n l _ t k,
  )

  sorted : T (is_sorted tag_cmp W)
  sorted = with-sorted S ((l, Loop keep x.fins x.vertex) ∷ (shell, Shell x.body (x.q -ℤ pos 1)) ∷ []) well.written.ascends

  abbrev lives : Tag × Item → Bool
  lives y = not (dies_with (kill ∷ []) y)

  lives_on : (t : Tag) (y : Item) → t ≢ kill → is_attribute_of (kill ∷ []) y ≡ false → lives (t, y) ≡ true
  lives_on t y h a = neither_from (is_among t (kill ∷ [])) (is_attribute_of (kill ∷ []) y) (not_among t (kill ∷ []) (λ k. h (sym (Contains-only kill t k)))) a

  stays : (t : Tag) (y : Item) → item_at W t ≡ Some y → t ≢ kill → is_attribute_of (kill ∷ []) y ≡ false → item_at R t ≡ Some y
  stays t y e h a = filter-kept lives W t y e (lives_on t y h a)

  fins : KeepsFins S R m counted
  fins f mate edge vertex e =
      let h = apart S f kill _ _ e x.kill_is (λ k. cc) in
      let other = elsewhere f (apart S f l _ _ e x.loop_is (λ k. cc)) (apart S f shell _ _ e x.shell_is (λ k. cc)) in
      (stays f _ (other.0 ∙ e) h refl, other.1 ∙ left f (Fin mate edge vertex) e h refl)

  kill_dead : item_at R kill ≡ None
  kill_dead = filter-lost lives W sorted kill (Face shell l)
      (put-other _ shell kill _ (λ k. shell_kill (sym k)) ∙ put-other S l kill _ (λ k. l_kill (sym k)) ∙ x.kill_is)
      (ap (λ b. not (b || false)) (is_among-in kill (kill ∷ []) (Contains-first kill [])))

  kill_gone : get counted kill ≡ None
  kill_gone = get_other ringed shell _ kill (λ k. shell_kill (sym k)) ∙ get_other n l _ kill (λ k. l_kill (sym k)) ∙ dies.gone

  loop_shown : IsShown R counted l
  loop_shown = shown-by R counted l (Loop keep x.fins x.vertex) (stays l _ (put-other _ shell l _ l_shell ∙ put-same S l _) l_kill refl)
      (loop-given S R m counted well fins l kill keep x.fins x.vertex x.loop_is (was.items l _ x.loop_is) loop_now)

  shell_shown : IsShown R counted shell
  shell_shown = shown-by R counted shell (Shell x.body (x.q -ℤ pos 1)) (stays shell _ (put-same _ shell _) shell_kill refl) shell_now

  -- what is not written stays, but for the attributes of the face
  other_shown : (t : Tag) (o : Option Item) → item_at S t ≡ o → t ≢ kill → t ≢ l → t ≢ shell → IsShown R counted t
  other_shown t None e h k s =
      let other = elsewhere t k s in
      shown-gone R counted t (filter-none lives W sorted t (other.0 ∙ e)) (other.1 ∙ kills-none m n alone dead t (was.nothing t e))
  other_shown t (Some y) e h k s =
      let other = elsewhere t k s in
      ⊎_elim {C = IsShown R counted t}
      (λ (gone : is_attribute_of (kill ∷ []) y ≡ true).
      shown-gone R counted t (filter-lost lives W sorted t y (other.0 ∙ e) (ap (λ b. not (b || is_attribute_of (kill ∷ []) y)) (not_among t (kill ∷ []) (λ c. h (sym (Contains-only kill t c)))) ∙ ap not gone)) (other.1 ∙ lost t y e gone))
      (λ (on : is_attribute_of (kill ∷ []) y ≡ false).
      stays-shown S R m counted well fins was t (stays t y (other.0 ∙ e) h on ∙ sym e) (other.1 ∙ left t y e h on))
      (cases_Bool (is_attribute_of (kill ∷ []) y))

  each : (t : Tag) → IsShown R counted t
  each t = ⊎_elim {C = IsShown R counted t} (λ (e : t ≡ kill). subst (IsShown R counted) (sym e) (shown-gone R counted kill kill_dead kill_gone))
      (λ (h : t ≢ kill). ⊎_elim {C = IsShown R counted t} (λ (e : t ≡ l). subst (IsShown R counted) (sym e) loop_shown)
      (λ (k : t ≢ l). ⊎_elim {C = IsShown R counted t} (λ (e : t ≡ shell). subst (IsShown R counted) (sym e) shell_shown)
      (λ (s : t ≢ shell). other_shown t (item_at S t) refl h k s)
      (same_or_other t shell))
      (same_or_other t l))
      (same_or_other t kill)

  reached_well : IsWell R
  reached_well = subst (Keeps []) x.row_is (kfmrh-keeps S [] keep kill well)

  pub face-killed : counted ≡ links R
  face-killed = represented R counted reached_well (are-shown R counted each)
