-- The rows that give a loop to another face keep soundness: mfkrh, kfmrh and ringmove.
use Rattle.std.proofs.Common.{◌≡◌, ◌≢◌, ⊎_elim, false, not, List, [], ◌∷◌, Option, Some, None, Ok, refl, sym, ap, subst, ◌∙◌, arith}
use Rattle.std.specs.Prelude.{ℤ, pos, ◌+ℤ◌, ◌-ℤ◌, option_map, unwrap_or}
use Rattle.std.specs.Option.{option_and_then, option_map_or}
use Rattle.std.specs.List.{AllByRecursion, sum_by}
use Rattle.std.specs.FinMap.{put}
use Rattle.std.proofs.lemmas.Bool.{not-false}
use Rattle.std.proofs.lemmas.Option.{same_Some}
use Rattle.pk_base.specs.Blocks.{tag}
use Rattle.pk_base.specs.Entity.{same_tag}
use Rattle.pk_base.specs.declared.refusal.Refusal.TheVariants.{IsOuter, NotOneBody, SameFace}
use Rattle.pk_base.specs.declared.tag.Tag.{Tag}
use Rattle.pk_base.specs.declared.entity.Class.{Class}
use Rattle.pk_base.specs.declared.entity.Class.TheVariants as class
use Rattle.pk_model.specs.Maps.{tag_cmp}
use Rattle.solid_model.specs.Items.{Item, Shape, item_at, class_of_item}
use Rattle.solid_model.specs.Items.Item.{Body, Shell, Face, Loop, Fin, Edge, Vertex, Attr}
use Rattle.solid_model.specs.Owners.{fins_of, same_class, owner_of_item, owner_in, body_of, number_in_body}
use Rattle.solid_model.specs.Rows.{refuse_where}
use Rattle.solid_model.specs.Places.{asked, PlacedLoop, placed_loop, as_loop, loop_at, PlacedFace, as_face, face_at, outer_of, outer_at, q_of, q_at, lone_of, in_face}
use Rattle.solid_model.specs.RingMove.{ringmove}
use Rattle.solid_model.specs.Sound.{HasAttributes, MeetsEulerPoincare, NamesItsKind, class_at, optional, AreOf}
use Rattle.pk_base.proofs.Same.{same_means, differs_means, same_or_other}
use Rattle.solid_sound.proofs.shapes.Lookups.{put-same, put-other}
use Rattle.solid_sound.proofs.shapes.Names.{NotAttr}
use Rattle.solid_sound.proofs.shapes.Numbers.{number-alike, counts_in}
use Rattle.solid_sound.proofs.shapes.Sums.{weight_at, sum-alike, sum-put}
use Rattle.solid_sound.proofs.shapes.Bodies.{LeadsUp, leads_up, body_of-leads, item_of_class, low_item, agreed-LeadsUp}
use Rattle.solid_sound.proofs.shapes.EachItem.{SoundItem, SoundFace, sound-by_item, item-of_sound}
use Rattle.solid_sound.proofs.shapes.Frames.{SameFrame, frame_of, same_frame-put, NotFace, frame_back, frame_forth, loop_back, shell_back, shell_forth, frame_class, frame_placed, frame_edges, frame_mated, frame_follow, frame_round, frame_written, frame_kinds, class-ByFrame, sums_by}
use Rattle.solid_sound.proofs.rows.RowKeeps.{IsWell, Keeps, keeps-after, keeps-bind, not_refused}

-- What is shown of faces, and of the body of each item, where R has the frame of S; g is the body of
-- each item of R.
pub record Refaced (S R : Shape) (g : Tag → Tag) : Type 0 where
  pub frame : SameFrame S R
  pub agree : (t : Tag) (x : Item) → item_at S t ≡ Some x → g t ≡ body_of S t
  pub faces : (f shell outer : Tag) → item_at R f ≡ Some (Face shell outer)
      → (class_at R shell ≡ Some class.Shell) × SoundFace R f outer × (g shell ≡ g f)
  pub loops : (l face : Tag) (fins : List Tag) (vertex : Option Tag) → item_at R l ≡ Some (Loop face fins vertex)
      → (class_at R face ≡ Some class.Face) × (g face ≡ g l)
  pub has_face : (shell body face outer : Tag) (q : ℤ) → item_at S shell ≡ Some (Shell body q) → item_at S face ≡ Some (Face shell outer)
      → (f : Tag) × (o : Tag) × (item_at R f ≡ Some (Face shell o))
  pub attributes : HasAttributes R
  pub formula : (b shell : Tag) (q : ℤ) → item_at R b ≡ Some (Body shell) → item_at R shell ≡ Some (Shell b q)
      → ((c : Class) → same_class class.Attr c ≡ false → same_class class.Face c ≡ false → number_in_body c R b ≡ number_in_body c S b)
      → number_in_body class.Face R b ≡ sum_by (λ (x : Tag × Item). counts_in class.Face b (g x.0) x.1) R
      → MeetsEulerPoincare R b q

module _ (S R : Shape) (g : Tag → Tag) (well : IsWell S) (re : Refaced S R g) where
  kinds : (t : Tag) (x : Item) → item_at R t ≡ Some x → NamesItsKind R x
  kinds t x e = frame_kinds S R well re.frame t x e
      (λ shell outer is.
      let face = re.faces t shell outer (e ∙ ap Some is) in
      (face.0, ap (option_map class_of_item) face.1.outer_is))
      (λ face fins vertex is. (re.loops t face fins vertex (e ∙ ap Some is)).0)

  agreed : LeadsUp S g
  agreed = agreed-LeadsUp S well.written well.sound g re.agree

  up : LeadsUp R g
  up = record {
    bodies = λ b shell e. agreed.bodies b shell (frame_back S R well re.frame b _ e refl);
    shells = λ s body q e. let was = shell_back S R well re.frame s body q e in agreed.shells s body was.0 was.1;
    faces = λ f shell outer e. (re.faces f shell outer e).2;
    loops = λ l face fins vertex e. (re.loops l face fins vertex e).1;
    fins = λ l face fins vertex e f k. let was = loop_back S R well re.frame l face fins vertex e in agreed.fins l was.0 fins vertex was.1 f k;
    edges = λ e body is. agreed.edges e body (frame_back S R well re.frame e _ is refl);
    vertices = λ v body point e. agreed.vertices v body point (frame_back S R well re.frame v _ e refl);
  }

  body_at : (t : Tag) (x : Item) → item_at R t ≡ Some x → NotAttr (class_of_item x) → body_of R t ≡ g t
  body_at t x e na = body_of-leads R re.frame.ascends kinds (frame_placed S R well re.frame) g up t x e (low_item x na)

  -- the body of what was and is
  body_same : (t : Tag) (c : Class) → NotAttr c → NotFace c → class_at S t ≡ Some c → body_of R t ≡ body_of S t
  body_same t c na nf h =
      let x = item_of_class (item_at S t) c h in
      let y = item_of_class (item_at R t) c (frame_class S R well re.frame t c na nf h) in
      body_at t y.0 y.1 (subst NotAttr (sym y.2) na) ∙ re.agree t x.0 x.1

  faces_by : (b : Tag) → number_in_body class.Face R b ≡ sum_by (λ (x : Tag × Item). counts_in class.Face b (g x.0) x.1) R
  faces_by b = sum-alike (λ x. counts_in class.Face b (body_of R x.0) x.1) (λ x. counts_in class.Face b (g x.0) x.1) R re.frame.ascends
      (λ t x e. number-alike class.Face refl b (body_of R t) (g t) x (λ na. body_at t x e na))

  number_same : (b : Tag) (c : Class) → same_class class.Attr c ≡ false → same_class class.Face c ≡ false → number_in_body c R b ≡ number_in_body c S b
  number_same b c na nf =
      sum-alike (λ x. counts_in c b (body_of R x.0) x.1) (λ x. counts_in c b (g x.0) x.1) R re.frame.ascends
      (λ t x e. number-alike c na b (body_of R t) (g t) x (λ other. body_at t x e other))
      ∙ sums_by S R well re.frame (λ t x. counts_in c b (g t) x) (λ t. class-ByFrame c na nf b (g t))
      ∙ sum-alike (λ x. counts_in c b (g x.0) x.1) (λ x. counts_in c b (body_of S x.0) x.1) S well.written.ascends
      (λ t x e. ap (λ u. counts_in c b u x) (re.agree t x e))

  lone_bodies : (t : Tag) (vs : List Tag) → AreOf S class.Vertex vs → AllByRecursion (λ u. body_of S u ≡ body_of S t) vs → body_of R t ≡ body_of S t → AllByRecursion (λ u. body_of R u ≡ body_of R t) vs
  lone_bodies t [] a h own = tt
  lone_bodies t (u ∷ us) a h own = (body_same u class.Vertex (λ k. cc) (λ k. cc) a.0 ∙ h.0 ∙ sym own, lone_bodies t us a.1 h.1 own)

  each : (t : Tag) (x : Item) → item_at R t ≡ Some x → SoundItem R t x
  each t (Body shell) e =
      let h = well.sound.names.shells t shell (frame_back S R well re.frame t _ e refl) in
      let s = shell_forth S R well re.frame shell t h.q h.shell_is in
      let f = re.has_face shell t h.face h.outer h.q h.shell_is h.face_is in
      record {
        has_shell = record { q = s.0; shell_is = s.1; face = f.0; outer = f.1; face_is = f.2 };
        formula = λ q is. re.formula t shell q e is (number_same t) (faces_by t);
      }
  each t (Shell body q) e =
      let was = shell_back S R well re.frame t body q e in
      frame_forth S R well re.frame body _ (well.sound.names.bodies t body was.0 was.1) refl
  each t (Face shell outer) e = (re.faces t shell outer e).1
  each t (Loop face fins vertex) e =
      let was = loop_back S R well re.frame t face fins vertex e in
      let h = item-of_sound S well.sound t (Loop was.0 fins vertex) was.1 in
      record {
        follow = frame_follow S R well re.frame t face fins vertex e;
        lone = h.lone;
        body = lone_bodies t (optional vertex) (well.sound.names.kinds t (Loop was.0 fins vertex) was.1).2 h.body (body_at t _ e (λ k. cc) ∙ re.agree t _ was.1);
      }
  each t (Fin mate edge vertex) e =
      let was = frame_back S R well re.frame t _ e refl in
      let b = well.sound.bodies.fins t mate edge vertex was in
      let named = well.sound.names.kinds t (Fin mate edge vertex) was in
      let own = body_at t _ e (λ k. cc) ∙ re.agree t _ was in
      record {
        placed = frame_placed S R well re.frame t mate edge vertex e;
        mated = frame_mated S R well re.frame t mate edge vertex e;
        edge_body = body_same edge class.Edge (λ k. cc) (λ k. cc) named.1.0 ∙ b.0 ∙ sym own;
        vertex_body = body_same vertex class.Vertex (λ k. cc) (λ k. cc) named.2.0 ∙ b.1 ∙ sym own;
      }
  each t (Edge body) e = frame_edges S R well re.frame t body e
  each t (Vertex body point) e = (frame_round S R well re.frame t body point e, well.sound.measure.points t body point (frame_back S R well re.frame t _ e refl))
  each t (Attr owner name value) e = re.attributes.owned t owner name value e

  pub refaced-well : IsWell R
  refaced-well = record {
    written = frame_written S R well re.frame;
    sound = sound-by_item R kinds each re.attributes.one;
  }

-- ---- what stands where

pub apart : (S : Shape) (t u : Tag) (x y : Item) → item_at S t ≡ Some x → item_at S u ≡ Some y → x ≢ y → t ≢ u
apart S t u x y ex ey h e = h (same_Some x y (sym ex ∙ ap (item_at S) e ∙ ey))

pub free_apart : (S : Shape) (t u : Tag) (x : Item) → item_at S u ≡ None → item_at S t ≡ Some x → t ≢ u
free_apart S t u x free ex e = let both : Some x ≡ None = sym ex ∙ ap (item_at S) e ∙ free in cc

pub shell_of_class : (o : Option Item) → option_map class_of_item o ≡ Some class.Shell → (body : Tag) × (q : ℤ) × (o ≡ Some (Shell body q))
shell_of_class None h = absurd (cc)
shell_of_class (Some (Shell body q)) h = (body, q, refl)
shell_of_class (Some (Body shell)) h = absurd (cc)
shell_of_class (Some (Face shell outer)) h = absurd (cc)
shell_of_class (Some (Loop face fins vertex)) h = absurd (cc)
shell_of_class (Some (Fin mate edge vertex)) h = absurd (cc)
shell_of_class (Some (Edge body)) h = absurd (cc)
shell_of_class (Some (Vertex body point)) h = absurd (cc)
shell_of_class (Some (Attr owner name value)) h = absurd (cc)

pub face_of_class : (o : Option Item) → option_map class_of_item o ≡ Some class.Face → (shell : Tag) × (outer : Tag) × (o ≡ Some (Face shell outer))
face_of_class None h = absurd (cc)
face_of_class (Some (Face shell outer)) h = (shell, outer, refl)
face_of_class (Some (Body shell)) h = absurd (cc)
face_of_class (Some (Shell body q)) h = absurd (cc)
face_of_class (Some (Loop face fins vertex)) h = absurd (cc)
face_of_class (Some (Fin mate edge vertex)) h = absurd (cc)
face_of_class (Some (Edge body)) h = absurd (cc)
face_of_class (Some (Vertex body point)) h = absurd (cc)
face_of_class (Some (Attr owner name value)) h = absurd (cc)

pub asked_loop : (S : Shape) (l : Tag) (o : Option Item) (r : PlacedLoop) → asked (as_loop S) l o ≡ Ok r
    → (face : Tag) × (fins : List Tag) × (vertex : Option Tag) × (o ≡ Some (Loop face fins vertex)) × (placed_loop S face ≡ r)
asked_loop S l None r h = absurd (cc)
asked_loop S l (Some (Loop face fins vertex)) r h = (face, fins, vertex, refl, cc)
asked_loop S l (Some (Body shell)) r h = absurd (cc)
asked_loop S l (Some (Shell body q)) r h = absurd (cc)
asked_loop S l (Some (Face shell outer)) r h = absurd (cc)
asked_loop S l (Some (Fin mate edge vertex)) r h = absurd (cc)
asked_loop S l (Some (Edge body)) r h = absurd (cc)
asked_loop S l (Some (Vertex body point)) r h = absurd (cc)
asked_loop S l (Some (Attr owner name value)) r h = absurd (cc)

pub asked_face : (S : Shape) (f : Tag) (o : Option Item) (r : PlacedFace) → asked (as_face S) f o ≡ Ok r
    → (shell : Tag) × (outer : Tag) × (o ≡ Some (Face shell outer)) × (shell ≡ r.shell) × (owner_in S shell ≡ r.body) × (outer ≡ r.outer)
asked_face S f None r h = absurd (cc)
asked_face S f (Some (Face shell outer)) r h =
    let e : record_of shell (owner_in S shell) outer ≡ r = cc in
    (shell, outer, refl, ap (λ (p : PlacedFace). p.shell) e, ap (λ (p : PlacedFace). p.body) e, ap (λ (p : PlacedFace). p.outer) e)
  where
    record_of : Tag → Tag → Tag → PlacedFace
    record_of shell body outer = record { shell = shell; body = body; outer = outer }
asked_face S f (Some (Body shell)) r h = absurd (cc)
asked_face S f (Some (Shell body q)) r h = absurd (cc)
asked_face S f (Some (Loop face fins vertex)) r h = absurd (cc)
asked_face S f (Some (Fin mate edge vertex)) r h = absurd (cc)
asked_face S f (Some (Edge body)) r h = absurd (cc)
asked_face S f (Some (Vertex body point)) r h = absurd (cc)
asked_face S f (Some (Attr owner name value)) r h = absurd (cc)

-- a face, its shell and its body
pub record FaceIn (S : Shape) (f shell outer : Tag) : Type 0 where
  pub body : Tag
  pub q : ℤ
  pub shell_is : item_at S shell ≡ Some (Shell body q)
  pub body_is : item_at S body ≡ Some (Body shell)
  pub face_body : body_of S f ≡ body
  pub shell_body : body_of S shell ≡ body
  pub owner_is : owner_in S shell ≡ body
  pub shell_of : owner_in S f ≡ shell
  pub outer_is : outer_at S f ≡ outer
  pub q_is : q_at S shell ≡ q

pub face_in : (S : Shape) → IsWell S → (f shell outer : Tag) → item_at S f ≡ Some (Face shell outer) → FaceIn S f shell outer
face_in S well f shell outer e =
    let up = leads_up S well.written well.sound in
    let s = shell_of_class (item_at S shell) (well.sound.names.kinds f (Face shell outer) e).0.0 in
    let b = well.sound.names.bodies shell s.0 s.1 s.2 in
    let shell_body = sym (up.shells shell s.0 s.1 s.2) ∙ up.bodies s.0 shell b in
    record {
      body = s.0;
      q = s.1;
      shell_is = s.2;
      body_is = b;
      face_body = sym (up.faces f shell outer e) ∙ shell_body;
      shell_body = shell_body;
      owner_is = ap (λ (o : Option Item). unwrap_or (option_and_then (owner_of_item S shell) o) (tag 0)) s.2;
      shell_of = ap (λ (o : Option Item). unwrap_or (option_and_then (owner_of_item S f) o) (tag 0)) e;
      outer_is = ap (λ (o : Option Item). option_map_or outer_of o (tag 0)) e;
      q_is = ap (λ (o : Option Item). option_map_or q_of o (pos 0)) s.2;
    }

pub in_face-is : (S : Shape) (l face a : Tag) (fins : List Tag) (vertex : Option Tag) → item_at S l ≡ Some (Loop face fins vertex) → in_face S l a ≡ Loop a fins vertex
in_face-is S l face a fins vertex e = λ i. Loop a (option_map_or fins_of (e i) []) (option_and_then lone_of (e i))

-- ---- ringmove

module _ (S : Shape) (well : IsWell S) (l face a shell outer : Tag) (fins : List Tag) (vertex : Option Tag)
    (l_is : item_at S l ≡ Some (Loop face fins vertex)) (a_is : item_at S a ≡ Some (Face shell outer))
    (ring : l ≢ outer_at S face) (one_body : body_of S face ≡ body_of S a) where
  abbrev R : Shape
  R = put tag_cmp l (Loop a fins vertex) S

  -- all but the loop stays, which has another face
  stays : (t : Tag) (x : Item) → item_at S t ≡ Some x → t ≢ l → item_at R t ≡ Some x
  stays t x e other = put-other S l t (Loop a fins vertex) other ∙ e

  was : (t : Tag) (x : Item) → item_at R t ≡ Some x → t ≢ l → item_at S t ≡ Some x
  was t x e other = sym (put-other S l t (Loop a fins vertex) other) ∙ e

  l_now : item_at R l ≡ Some (Loop a fins vertex)
  l_now = put-same S l (Loop a fins vertex)

  class_stays : (t : Tag) (c : Class) → class_at S t ≡ Some c → class_at R t ≡ Some c
  class_stays t c h = ⊎_elim
      (λ (e : t ≡ l). ap (λ u. class_at R u) e ∙ ap (option_map class_of_item) l_now ∙ sym (ap (option_map class_of_item) l_is) ∙ ap (class_at S) (sym e) ∙ h)
      (λ (other : t ≢ l). ap (option_map class_of_item) (put-other S l t (Loop a fins vertex) other) ∙ h)
      (same_or_other t l)

  moved_ring : Refaced S R (body_of S)
  moved_ring =
      let up = leads_up S well.written well.sound in
      record {
        frame = same_frame-put S l (Loop a fins vertex) well.written.ascends (sym (ap frame_of l_is));
        agree = λ t x e. refl;
        faces = λ f s o e.
            let f_was = was f _ e (apart R f l _ _ e l_now (λ k. cc)) in
            let old = well.sound.outer f s o f_was in
            let other : o ≢ l = λ k.
            let both : Some (Loop f old.0 old.1) ≡ Some (Loop face fins vertex) = sym old.2 ∙ ap (item_at S) k ∙ l_is in
            let same : f ≡ face = cc in
            ring (sym k ∙ sym (ap (λ (i : Option Item). option_map_or outer_of i (tag 0)) f_was) ∙ ap (outer_at S) same) in
            let sound_face : SoundFace R f o = record { fins = old.0; vertex = old.1; outer_is = stays o _ old.2 other } in
            (class_stays s class.Shell (well.sound.names.kinds f (Face s o) f_was).0.0, sound_face, up.faces f s o f_was);
        loops = λ k h fs v e. ⊎_elim {C = (class_at R h ≡ Some class.Face) × (body_of S h ≡ body_of S k)}
            (λ (same : k ≡ l).
            let both : Some (Loop a fins vertex) ≡ Some (Loop h fs v) = sym l_now ∙ ap (item_at R) (sym same) ∙ e in
            let a_same : a ≡ h = cc in (
              ap (class_at R) (sym a_same) ∙ class_stays a class.Face (ap (option_map class_of_item) a_is),
              ap (body_of S) (sym a_same) ∙ sym one_body ∙ up.loops l face fins vertex l_is ∙ ap (body_of S) (sym same),
            ))
            (λ (other : k ≢ l).
            let k_was = was k _ e other in
            (class_stays h class.Face (well.sound.names.kinds k (Loop h fs v) k_was).0.0, up.loops k h fs v k_was))
            (same_or_other k l);
        has_face = λ s b f o q s_is f_is. (f, o, stays f _ f_is (apart S f l _ _ f_is l_is (λ k. cc)));
        attributes = record {
          owned = λ t o n v e.
              let h = well.sound.attributes.owned t o n v (was t _ e (apart R t l _ _ e l_now (λ k. cc))) in
              (h.0, class_stays o h.0 h.1, h.2);
          one = λ t u o n v w e k. well.sound.attributes.one t u o n v w (was t _ e (apart R t l _ _ e l_now (λ m. cc))) (was u _ k (apart R u l _ _ k l_now (λ m. cc)));
        };
        formula = λ b s q b_is s_is same faces.
            let b_was = was b _ b_is (apart R b l _ _ b_is l_now (λ k. cc)) in
            let s_was = was s _ s_is (apart R s l _ _ s_is l_now (λ k. cc)) in
            let there : weight_at (λ x. counts_in class.Face b (body_of S x.0) x.1) S l ≡ 0 = ap (λ (o : Option Item). option_map_or (λ x. counts_in class.Face b (body_of S l) x) o 0) l_is in
            let sum = sum-put (λ x. counts_in class.Face b (body_of S x.0) x.1) S l (Loop a fins vertex) well.written.ascends in
            let fn : number_in_body class.Face R b ≡ number_in_body class.Face S b = faces ∙ omega (arith, there, sum) in
            let vn = same class.Vertex refl refl in
            let en = same class.Edge refl refl in
            let ln = same class.Loop refl refl in
            (λ i. ((pos (vn i) -ℤ pos (en i)) +ℤ pos (fn i)) -ℤ (pos (ln i) -ℤ pos (fn i))) ∙ well.sound.measure.formula b s q b_was s_was;
      }

  pub ring-moved : IsWell R
  ring-moved = refaced-well S R (body_of S) well moved_ring

pub ringmove-keeps : (S : Shape) (tags : List Tag) (l a : Tag) → IsWell S → Keeps tags (ringmove S l a)
ringmove-keeps S tags l a well = keeps-bind tags (loop_at S l) _ (λ r e. keeps-bind tags (face_at S a) _ (λ to k.
    keeps-after tags (refuse_where (same_tag l r.outer) (IsOuter l)) _ (λ n. keeps-after tags (refuse_where (not (same_tag r.body to.body)) (NotOneBody r.body to.body)) _ (λ m.
    keeps-after tags (refuse_where (same_tag r.face a) (SameFace a)) _ (λ o.
    let x = asked_loop S l (item_at S l) r e in
    let y = asked_face S a (item_at S a) to k in
    let a_in = face_in S well a y.0 y.1 y.2 in
    let ring : l ≢ outer_at S x.0 = λ h. differs_means l r.outer (not_refused _ _ n) (h ∙ ap (λ (p : PlacedLoop). p.outer) x.4) in
    let one_body : body_of S x.0 ≡ body_of S a = ap (λ (p : PlacedLoop). p.body) x.4 ∙ same_means r.body to.body (not-false (same_tag r.body to.body) (not_refused _ _ m)) ∙ sym y.4 ∙ a_in.owner_is ∙ sym a_in.face_body in
    subst (λ (z : Item). IsWell (put tag_cmp l z S)) (sym (in_face-is S l x.0 a x.1 x.2 x.3)) (ring-moved S well l x.0 a y.0 y.1 x.1 x.2 x.3 y.2 ring one_body))))))
