-- mfkrh, and then kfmrh.
use Rattle.std.proofs.Common.{◌≡◌, ◌≢◌, ◌+◌, ◌≤◌, ◌⊎◌, inl, inr, ⊎_elim, Bool, true, false, not, List, [], ◌∷◌, length, Option, Some, None, Result, Ok, refl, sym, ap, subst, ◌∙◌, arith}
use Rattle.std.specs.Prelude.{T, ℤ, pos, ◌+ℤ◌, ◌-ℤ◌, IsOk, option_map, Contains}
use Rattle.std.specs.Option.{option_map_or}
use Rattle.std.specs.List.{AllByRecursion}
use Rattle.std.proofs.lemmas.Int.{ints}
use Rattle.pk_base.specs.Entity.{same_tag}
use Rattle.pk_base.specs.declared.tag.Tag.{Tag}
use Rattle.pk_base.specs.declared.call.Call.TheVariants as call
use Rattle.pk_base.specs.declared.entity.Class.TheVariants as class
use Rattle.pk_base.specs.declared.refusal.Refusal.TheVariants.{SameFace, NotOneBody, HasRings}
use Rattle.pk_base.proofs.Same.{not_same, same_itself}
use Rattle.pk_model.specs.Apart.{NoRepeats}
use Rattle.pk_model.specs.Maps.{EntityMap}
use Rattle.pk_model.specs.Step.{◌>>=◌}
use Rattle.pk_model.specs.Tags.{tag_at}
use Rattle.list_facts.proofs.Elements.{Contains-cases, not_in_nil}
use Rattle.solid_model.specs.Items.{Item, Shape, item_at, class_of_item, ◌with◌}
use Rattle.solid_model.specs.Items.Item.{Body, Shell, Face, Loop, Fin, Edge, Vertex, Attr}
use Rattle.solid_model.specs.Deaths.{◌without◌}
use Rattle.solid_model.specs.Owners.{has_rings, owner_in}
use Rattle.solid_model.specs.Rows.{Row, changes, cost_of, refuse_where, ◌>>◌}
use Rattle.solid_model.specs.Places.{PlacedFace, PlacedLoop, face_at, in_face, loop_at, q_at, q_of}
use Rattle.solid_model.specs.Shapes.{shape_of}
use Rattle.solid_model.specs.Mfkrh.{mfkrh}
use Rattle.solid_model.specs.Kfmrh.{kfmrh}
use Rattle.solid_sound.proofs.shapes.Edits.{Edits, class_apart, live-none_of, written}
use Rattle.solid_sound.proofs.shapes.Lookups.{Items, with-other}
use Rattle.solid_sound.proofs.rows.RowKeeps.{IsWell, well-shape}
use Rattle.solid_sound.proofs.rows.KeptMfkrh.{mfkrh-keeps}
use Rattle.solid_sound.proofs.rows.KeptRings.{FaceIn, asked_loop, face_in, face_of_class, in_face-is}
use Rattle.solid_calls.specs.Pairs.{reached, row_on}
use Rattle.solid_calls.proofs.Kept.{reached-well}
use Rattle.solid_edits.proofs.Going.{goes-on}
use Rattle.euler_make.proofs.MfkrhFound.{MakesFace, makes, mfkrh-cost, with_face}
use Rattle.euler_laws.specs.Both.{GivesBack, MayFollow}
use Rattle.euler_laws.proofs.GivenBack.{given-back}
use Rattle.euler_laws.proofs.Laws.{free-items, gives-back}
use Rattle.euler_laws.proofs.OneLoop.{face-placed, one-loop}
use Rattle.euler_laws.proofs.Placed.{owner-of_loop, owns-none}

-- ---- the row of kfmrh

abbrev rest_of : Shape → Tag → Tag → PlacedFace → PlacedFace → Row
rest_of S a b keep kill = refuse_where (same_tag a b) (SameFace a) >> (refuse_where (not (same_tag keep.body kill.body)) (NotOneBody keep.body kill.body) >> (refuse_where (has_rings S b) (HasRings b) >> changes (S with
    (kill.outer, in_face S kill.outer a) ∷
    (kill.shell, Shell kill.body (q_at S kill.shell -ℤ pos 1)) ∷ []
    without b ∷ [])))

-- two faces of one body, of which the second has one loop
pub kfmrh-row : (S : Shape) (a b : Tag) (keep kill : PlacedFace) → face_at S a ≡ Ok keep → face_at S b ≡ Ok kill → a ≢ b → keep.body ≡ kill.body → has_rings S b ≡ false
    → kfmrh S a b ≡ changes (S with (kill.outer, in_face S kill.outer a) ∷ (kill.shell, Shell kill.body (q_at S kill.shell -ℤ pos 1)) ∷ [] without b ∷ [])
kfmrh-row S a b keep kill at_a at_b other body rings =
    let one : same_tag keep.body kill.body ≡ true = ap (λ t. same_tag t kill.body) body ∙ same_itself kill.body in
    ap (λ r. r >>= (λ x. face_at S b >>= (λ y. rest_of S a b x y))) at_a
    ∙ ap (λ r. r >>= (λ y. rest_of S a b keep y)) at_b
    ∙ (λ i. refuse_where (not_same a b other i) (SameFace a) >> (refuse_where (not (one i)) (NotOneBody keep.body kill.body) >> (refuse_where (rings i) (HasRings b) >> changes (S with
    (kill.outer, in_face S kill.outer a) ∷
    (kill.shell, Shell kill.body (q_at S kill.shell -ℤ pos 1)) ∷ []
    without b ∷ []))))

-- ---- a face is made, and killed

q_same : (q : ℤ) → (q +ℤ pos 1) -ℤ pos 1 ≡ q
q_same q = omega (arith, ints)

-- the ring l of the face becomes the loop of the new face
module _ (S : Shape) (well : IsWell S) (l new face shell outer body : Tag) (q : ℤ) (fins : List Tag) (vertex : Option Tag)
    (ring_is : item_at S l ≡ Some (Loop face fins vertex)) (face_is : item_at S face ≡ Some (Face shell outer)) (shell_is : item_at S shell ≡ Some (Shell body q)) (free : item_at S new ≡ None) where
  abbrev xs : Items
  xs = (new, Face shell l) ∷ (l, Loop new fins vertex) ∷ (shell, Shell body (q +ℤ pos 1)) ∷ []

  abbrev pub refaced : Shape
  refaced = S with xs

  new_apart : (t : Tag) (x : Item) → item_at S t ≡ Some x → t ≢ new
  new_apart t x is = (live-none_of S (new ∷ []) t x (free, tt) is).0

  class_is : (t : Tag) (x : Item) → item_at S t ≡ Some x → option_map class_of_item (item_at S t) ≡ Some (class_of_item x)
  class_is t x is = ap (option_map class_of_item) is

  l_shell : l ≢ shell
  l_shell = class_apart S l shell class.Loop class.Shell (class_is l _ ring_is) (class_is shell _ shell_is) (λ h. cc)

  face_l : face ≢ l
  face_l = class_apart S face l class.Face class.Loop (class_is face _ face_is) (class_is l _ ring_is) (λ h. cc)

  face_shell : face ≢ shell
  face_shell = class_apart S face shell class.Face class.Shell (class_is face _ face_is) (class_is shell _ shell_is) (λ h. cc)

  once : NoRepeats (new ∷ l ∷ shell ∷ [])
  once = (((λ e. new_apart l _ ring_is (sym e)), ((λ e. new_apart shell _ shell_is (sym e)), tt)), ((l_shell, tt), (tt, tt)))

  change : Edits S refaced xs []
  change = written S xs well.written.ascends once

  new_is : item_at refaced new ≡ Some (Face shell l)
  new_is = change.news new _ (0, omega arith, refl)

  l_now : item_at refaced l ≡ Some (Loop new fins vertex)
  l_now = change.news l _ (1, omega arith, refl)

  shell_now : item_at refaced shell ≡ Some (Shell body (q +ℤ pos 1))
  shell_now = change.news shell _ (2, omega arith, refl)

  face_now : item_at refaced face ≡ Some (Face shell outer)
  face_now = with-other S xs face (new_apart face _ face_is, (face_l, (face_shell, tt))) ∙ face_is

  only_l : (t : Tag) (fs : List Tag) (v : Option Tag) → item_at refaced t ≡ Some (Loop new fs v) → t ≡ l
  only_l t fs v is = ⊎_elim {C = t ≡ l}
      (λ (k : Contains xs (t, Loop new fs v)). ⊎_elim {C = t ≡ l}
      (λ (a : (new, Face shell l) ≡ (t, Loop new fs v)). let e : Face shell l ≡ Loop new fs v = ap (λ (y : Tag × Item). y.1) a in absurd (cc))
      (λ (r : Contains ((l, Loop new fins vertex) ∷ (shell, Shell body (q +ℤ pos 1)) ∷ []) (t, Loop new fs v)). ⊎_elim {C = t ≡ l}
      (λ (a : (l, Loop new fins vertex) ≡ (t, Loop new fs v)). sym (ap (λ (y : Tag × Item). y.0) a))
      (λ (m : Contains ((shell, Shell body (q +ℤ pos 1)) ∷ []) (t, Loop new fs v)). ⊎_elim {C = t ≡ l}
      (λ (a : (shell, Shell body (q +ℤ pos 1)) ≡ (t, Loop new fs v)). let e : Shell body (q +ℤ pos 1) ≡ Loop new fs v = ap (λ (y : Tag × Item). y.1) a in absurd (cc))
      (λ (n : Contains [] (t, Loop new fs v)). absurd (not_in_nil (t, Loop new fs v) n))
      (Contains-cases (shell, Shell body (q +ℤ pos 1)) [] (t, Loop new fs v) m))
      (Contains-cases (l, Loop new fins vertex) ((shell, Shell body (q +ℤ pos 1)) ∷ []) (t, Loop new fs v) r))
      (Contains-cases (new, Face shell l) ((l, Loop new fins vertex) ∷ (shell, Shell body (q +ℤ pos 1)) ∷ []) (t, Loop new fs v) k))
      (λ (r : (item_at S t ≡ Some (Loop new fs v)) × _).
      let named = (well.sound.names.kinds t (Loop new fs v) r.0).0.0 in
      let both : None ≡ Some class.Face = sym (ap (option_map class_of_item) free) ∙ named in
      absurd (cc))
      (change.was t (Loop new fs v) is)

  pub face-back : kfmrh refaced face new ≡ changes S
  face-back =
      let row = kfmrh-row refaced face new (record { shell = shell; body = body; outer = outer }) (record { shell = shell; body = body; outer = l })
      (face-placed refaced face shell outer body (q +ℤ pos 1) face_now shell_now) (face-placed refaced new shell l body (q +ℤ pos 1) new_is shell_now)
      (new_apart face _ face_is) refl (one-loop refaced new l change.ascends only_l) in
      let q_is : q_at refaced shell -ℤ pos 1 ≡ q = ap (λ (o : Option Item). option_map_or q_of o (pos 0) -ℤ pos 1) shell_now ∙ q_same q in
      let loop_is = in_face-is refaced l new face fins vertex l_now in
      row ∙ (λ i. changes (refaced with (l, loop_is i) ∷ (shell, Shell body (q_is i)) ∷ [] without new ∷ []))
      ∙ ap changes (given-back S xs ((l, Loop face fins vertex) ∷ (shell, Shell body q) ∷ []) (new ∷ []) well.written.ascends ((l_shell, tt), (tt, tt))
      (free, tt) (ring_is, (shell_is, tt)) (inl (0, omega arith, refl), (inr (0, omega arith, refl), (inr (1, omega arith, refl), tt))) (owns-none S well (new ∷ []) (free, tt)))

-- the law, for tags of which the first is known
mfkrh-kfmrh_at : (m : EntityMap) (ring new : Tag) (rest : List Tag) → MayFollow m (call.Mfkrh ring) 1 (new ∷ rest) → GivesBack m (call.Mfkrh ring) (call.Kfmrh (owner_in (shape_of m) ring) new) (new ∷ rest)
mfkrh-kfmrh_at m ring new rest may =
    let S = shape_of m in
    let tags = new ∷ rest in
    let well = well-shape m may.sound in
    let free = free-items m may.sound tags may.free in
    let g = goes-on (loop_at S ring) _ may.goes in
    let k = makes S well ring g.found g.is may.goes in
    let y = face_of_class (item_at S k.face) (well.sound.names.kinds ring (Loop k.face k.fins k.vertex) k.ring_is).0.0 in
    let F = face_in S well k.face y.0 y.1 y.2 in
    let a = asked_loop S ring (item_at S ring) g.found g.is in
    let both : Some (Loop a.0 a.1 a.2) ≡ Some (Loop k.face k.fins k.vertex) = sym a.3 ∙ k.ring_is in
    let same_face : a.0 ≡ k.face = cc in
    let shell_same : g.found.shell ≡ y.0 = sym (ap (λ (p : PlacedLoop). p.shell) a.4) ∙ ap (owner_in S) same_face ∙ F.shell_of in
    let face_is : item_at S k.face ≡ Some (Face g.found.shell y.1) = y.2 ∙ ap (λ t. Some (Face t y.1)) (sym shell_same) in
    let R = with_face S new ring k.fins k.vertex g.found.shell k.body k.q in
    let is : reached S tags (mfkrh S ring) ≡ R = ap (reached S tags) k.row_is in
    let made : IsWell R = subst IsWell is (reached-well S tags (mfkrh S ring) well (let cost = mfkrh-cost S ring may.goes in let enough = may.enough in omega (arith, cost, enough)) (mfkrh-keeps S tags ring well (λ more. free.0))) in
    let back = face-back S well ring new k.face g.found.shell y.1 k.body k.q k.fins k.vertex k.ring_is face_is k.shell_is free.0 in
    let owner : owner_in S ring ≡ k.face = owner-of_loop S ring k.face k.fins k.vertex k.ring_is in
    subst (λ t. GivesBack m (call.Mfkrh ring) (call.Kfmrh t new) tags) (sym owner)
    (gives-back m (call.Mfkrh ring) (call.Kfmrh k.face new) tags R may.sound is made (subst IsOk (sym back) refl) (λ more. ap (reached R more) back))

pub mfkrh-kfmrh : (m : EntityMap) (ring : Tag) (tags : List Tag) → MayFollow m (call.Mfkrh ring) 1 tags → GivesBack m (call.Mfkrh ring) (call.Kfmrh (owner_in (shape_of m) ring) (tag_at tags 0)) tags
mfkrh-kfmrh m ring [] may = absurd (let h = may.enough in omega (arith, h))
mfkrh-kfmrh m ring (t ∷ rest) may = mfkrh-kfmrh_at m ring t rest may
