-- The loop of a fin, written from it.
use Rattle.std.proofs.Common.{◌≡◌, ◌≢◌, ℕ, ◌≤◌, inl, cond, List, [], ◌∷◌, drop, Option, Some, None, Ok, refl, sym, ap, subst, ◌∙◌, arith, false}
use Rattle.std.specs.Prelude.{is_some, unwrap_or, option_map, Contains}
use Rattle.std.specs.Option.{option_and_then, option_map_or}
use Rattle.std.specs.List.{AllByRecursion}
use Rattle.pk_base.specs.Blocks.{tag}
use Rattle.pk_base.specs.declared.tag.Tag.{Tag}
use Rattle.pk_base.specs.declared.entity.Class.TheVariants as class
use Rattle.pk_model.specs.Apart.{NoRepeats}
use Rattle.solid_model.specs.Items.{Item, Shape, item_at, class_of_item}
use Rattle.solid_model.specs.Items.Item.{Body, Shell, Face, Loop, Fin, Edge, Vertex, Attr}
use Rattle.solid_model.specs.Rings.{written_from, neighbours, from_least, ring_or_lone}
use Rattle.solid_model.specs.Owners.{fins_of, owner_of_item, owner_in, body_of}
use Rattle.solid_model.specs.Places.{asked, PlacedFin, placed_fin, as_fin, fins_at}
use Rattle.solid_model.specs.Sound.{ComesAfter, AreOf, class_at, times_in_loops, is_alone_in, loops_alone_at, is_empty, optional}
use Rattle.pk_base.proofs.Same.{same_itself, not_same}
use Rattle.solid_model.proofs.lists.Neighbours.{times, times-in, neighbours-in}
use Rattle.solid_model.proofs.lists.Cycles.{written-first, once-written, times-written, in-written, written-in, neighbours-written, written-neighbours}
use Rattle.solid_sound.proofs.shapes.Reading.{vertex_of_class, fin_in, fins-once, loop-of_fin, found-le}
use Rattle.solid_sound.proofs.shapes.Bodies.{LeadsUp, leads_up, item_of_class, agreed-LeadsUp, loop_with-some, loop_with-found}
use Rattle.solid_sound.proofs.edges.EdgeDeaths.{LoopLeft}
use Rattle.solid_sound.proofs.rows.RowKeeps.{IsWell}

-- ---- the operand

pub asked_fin : (S : Shape) (f : Tag) (o : Option Item) (r : PlacedFin) → asked (as_fin S f) f o ≡ Ok r
    → (mate : Tag) × (edge : Tag) × (vertex : Tag) × (o ≡ Some (Fin mate edge vertex)) × (placed_fin S f mate edge vertex (owner_in S f) ≡ r)
asked_fin S f None r h = absurd (cc)
asked_fin S f (Some (Fin mate edge vertex)) r h = (mate, edge, vertex, refl, cc)
asked_fin S f (Some (Body shell)) r h = absurd (cc)
asked_fin S f (Some (Shell body q)) r h = absurd (cc)
asked_fin S f (Some (Face shell outer)) r h = absurd (cc)
asked_fin S f (Some (Loop face fins vertex)) r h = absurd (cc)
asked_fin S f (Some (Edge body)) r h = absurd (cc)
asked_fin S f (Some (Vertex body point)) r h = absurd (cc)
asked_fin S f (Some (Attr owner name value)) r h = absurd (cc)

-- ---- its loop

-- l has the list ring, which from f on is f and these
pub record RingOf (S : Shape) (f l face : Tag) (ring rest : List Tag) : Type 0 where
  pub loop_is : item_at S l ≡ Some (Loop face ring None)
  pub among : Contains ring f
  pub written_is : written_from f ring ≡ f ∷ rest
  pub once : NoRepeats (f ∷ rest)

pub ring_with : (S : Shape) → IsWell S → (f mate edge vertex : Tag) → item_at S f ≡ Some (Fin mate edge vertex)
    → (l : Tag) × (face : Tag) × (ring : List Tag) × RingOf S f l face ring (drop 1 (written_from f ring))
ring_with S well f mate edge vertex f_is =
    let one : times_in_loops S f ≡ 1 = well.sound.placed f mate edge vertex f_is in
    let l = loop_with-some S f (omega arith) in
    let w = loop_with-found S f l.0 well.written.ascends l.1 in
    let bare : w.vertex ≡ None = not_lone f w.vertex w.fins w.among (well.sound.lone l.0 w.face w.fins w.vertex w.loop_is) in
    let is = written-first f w.fins w.among in (
      l.0,
      w.face,
      w.fins,
      record {
        loop_is = w.loop_is ∙ ap (λ (o : Option Tag). Some (Loop w.face w.fins o)) bare;
        among = w.among;
        written_is = is;
        once = subst NoRepeats is (once-written f w.fins (fins-once S well.written well.sound l.0 w.face w.fins w.vertex w.loop_is));
      },
    )
  where
    not_lone : (g : Tag) (o : Option Tag) (ts : List Tag) → Contains ts g → is_some o ≡ is_empty ts → o ≡ None
    not_lone g None ts k h = refl
    not_lone g (Some t) [] k h = let (i, less, e) = k in absurd (omega arith)
    not_lone g (Some t) (u ∷ ts) k h = absurd (cc)

module _ (S : Shape) (well : IsWell S) (f l face : Tag) (ring rest : List Tag) (r : RingOf S f l face ring rest) where
  pub ring-in : (t : Tag) → Contains ring t → Contains (f ∷ rest) t
  ring-in t k = subst (λ ts. Contains ts t) r.written_is (in-written t f ring k)

  pub in-ring : (t : Tag) → Contains (f ∷ rest) t → Contains ring t
  in-ring t k = written-in t f ring (subst (λ ts. Contains ts t) (sym r.written_is) k)

  pub ring-times : (t : Tag) → times t ring ≡ times t (f ∷ rest)
  ring-times t = sym (times-written t f ring) ∙ ap (times t) r.written_is

  pub ring_owner : (t : Tag) → Contains ring t → owner_in S t ≡ l
  ring_owner t k = loop-of_fin S well.written well.sound l face ring None r.loop_is t k

  pub ring_fins : written_from f (fins_at S (owner_in S f)) ≡ f ∷ rest
  ring_fins = ap (λ t. written_from f (fins_at S t)) (ring_owner f r.among) ∙ ap (λ (o : Option Item). written_from f (option_map_or fins_of o [])) r.loop_is ∙ r.written_is

  pub ring_face : owner_in S (owner_in S f) ≡ face
  ring_face = ap (owner_in S) (ring_owner f r.among) ∙ ap (λ (o : Option Item). unwrap_or (option_and_then (owner_of_item S l) o) (tag 0)) r.loop_is

  -- a loop that shares a fin with it is the same
  pub one_loop : (k h : Tag) (fins : List Tag) (vertex : Option Tag) → item_at S k ≡ Some (Loop h fins vertex) → (t : Tag) → Contains fins t → Contains ring t → k ≡ l
  one_loop k h fins vertex k_is t a b = sym (loop-of_fin S well.written well.sound k h fins vertex k_is t a) ∙ ring_owner t b

  pub ring_fin : (t : Tag) → Contains ring t → class_at S t ≡ Some class.Fin
  ring_fin t k = ap (option_map class_of_item) (fin_in S well.written well.sound l face ring None r.loop_is t k).3

  pub ring_body : (t : Tag) → Contains ring t → body_of S l ≡ body_of S t
  ring_body t k = (leads_up S well.written well.sound).fins l face ring None r.loop_is t k

  pub ring-after : (a b : Tag) → Contains (neighbours (f ∷ rest)) (a, b) → ComesAfter S a b
  ring-after a b k = record {
    loop_ = l;
    face = face;
    fins = ring;
    vertex = None;
    loop_is = r.loop_is;
    among = written-neighbours f ring (a, b) (subst (λ ts. Contains (neighbours ts) (a, b)) (sym r.written_is) k);
  }

  after_in_loop : (a b : Tag) (h : ComesAfter S a b) → h.loop_ ≡ l → Contains (neighbours (f ∷ rest)) (a, b)
  after_in_loop a b h same =
      let both : Some (Loop h.face h.fins h.vertex) ≡ Some (Loop face ring None) = sym h.loop_is ∙ ap (item_at S) same ∙ r.loop_is in
      let fins_same : h.fins ≡ ring = cc in
      subst (λ ts. Contains (neighbours ts) (a, b)) r.written_is (neighbours-written f ring (a, b) (subst (λ ts. Contains (neighbours ts) (a, b)) fins_same h.among))

  -- what comes after a fin of it, and what before
  pub after-ring : (a b : Tag) → ComesAfter S a b → Contains ring a → Contains (neighbours (f ∷ rest)) (a, b)
  after-ring a b h k = after_in_loop a b h (one_loop h.loop_ h.face h.fins h.vertex h.loop_is a (neighbours-in h.fins (a, b) h.among).0 k)

  pub before-ring : (a b : Tag) → ComesAfter S a b → Contains ring b → Contains (neighbours (f ∷ rest)) (a, b)
  before-ring a b h k = after_in_loop a b h (one_loop h.loop_ h.face h.fins h.vertex h.loop_is b (neighbours-in h.fins (a, b) h.among).1 k)

  pub same-ring : (a b : Tag) (h : ComesAfter S a b) → h.loop_ ≡ l → Contains (neighbours (f ∷ rest)) (a, b)
  same-ring a b h same = after_in_loop a b h same

-- ---- lone vertices

-- where a fin starts is no loop's lone vertex
pub nowhere_alone : (S : Shape) → IsWell S → (f mate edge vertex : Tag) → item_at S f ≡ Some (Fin mate edge vertex) → loops_alone_at S vertex ≡ 0
nowhere_alone S well f mate edge vertex f_is =
    let v = vertex_of_class (item_at S vertex) (well.sound.names.kinds f _ f_is).2.0 in
    let round = well.sound.round vertex v.0 v.1 v.2 in
    round.lone ∙ not_empty round.fins (times-in f round.fins ((round.are_all f).1 (mate, edge, f_is)))
  where
    not_empty : (ts : List Tag) → 1 ≤ times f ts → cond {A = ℕ} (is_empty ts) 1 0 ≡ 0
    not_empty [] some = absurd (omega arith)
    not_empty (t ∷ ts) some = refl

pub lone-other : (S : Shape) → IsWell S → (f mate edge vertex : Tag) → item_at S f ≡ Some (Fin mate edge vertex)
    → (k h c : Tag) (fins : List Tag) → item_at S k ≡ Some (Loop h fins (Some c)) → c ≢ vertex
lone-other S well f mate edge vertex f_is k h c fins k_is same =
    let none = nowhere_alone S well f mate edge vertex f_is in
    let one : cond {A = ℕ} (is_alone_in vertex (Loop h fins (Some c))) 1 0 ≡ 1 = ap (λ t. cond {A = ℕ} (is_alone_in vertex (Loop h fins (Some t))) 1 0) same ∙ ap (λ b. cond {A = ℕ} b 1 0) (same_itself vertex) in
    let le = found-le (λ (x : Item). cond {A = ℕ} (is_alone_in vertex x) 1 0) S k (Loop h fins (Some c)) k_is in
    absurd (omega (arith, none, one, le))

-- ---- loops that are made

abbrev pub lone_for : List Tag → Tag → Option Tag
lone_for [] vertex = Some vertex
lone_for (f ∷ fins) vertex = None

pub ring_or_lone-is : (face : Tag) (fins : List Tag) (vertex : Tag) → ring_or_lone face fins vertex ≡ Loop face (from_least fins) (lone_for fins vertex)
ring_or_lone-is face [] vertex = refl
ring_or_lone-is face (f ∷ fins) vertex = refl

pub lone_for-empty : (fins : List Tag) (vertex : Tag) → is_some (lone_for fins vertex) ≡ is_empty fins
lone_for-empty [] vertex = refl
lone_for-empty (f ∷ fins) vertex = refl

-- whether t is the lone vertex of a loop of the fins ts, written as fs, or with this vertex where there are none
abbrev pub alone_if : Tag → Tag → List Tag → List Tag → Tag → ℕ
alone_if t face fs ts vertex = cond {A = ℕ} (is_alone_in t (Loop face fs (lone_for ts vertex))) 1 0

pub alone-other : (t face : Tag) (fs ts : List Tag) (vertex : Tag) → t ≢ vertex → alone_if t face fs ts vertex ≡ 0
alone-other t face fs [] vertex other = ap (λ c. cond {A = ℕ} c 1 0) (not_same vertex t (λ k. other (sym k)))
alone-other t face fs (x ∷ ts) vertex other = refl

pub alone-there : (t face : Tag) (fs ts : List Tag) → ts ≡ [] → alone_if t face fs ts t ≡ 1
alone-there t face fs ts empty = ap (λ us. alone_if t face fs us t) empty ∙ ap (λ c. cond {A = ℕ} c 1 0) (same_itself t)

pub alone-nowhere : (t face : Tag) (fs ts : List Tag) → is_empty ts ≡ false → alone_if t face fs ts t ≡ 0
alone-nowhere t face fs [] h = absurd (cc)
alone-nowhere t face fs (x ∷ ts) h = refl

-- ---- loops that stay

-- what holds of a loop holds of it under its other names
pub loop_as : (P : Tag → Tag → List Tag → Option Tag → Type 0) (l k face h : Tag) (fins fs : List Tag) (vertex o : Option Tag)
    → k ≡ l → Loop face fins vertex ≡ Loop h fs o → P l face fins vertex → P k h fs o
loop_as P l k face h fins fs vertex o same is left =
    let face_is : face ≡ h = cc in
    let fins_is : fins ≡ fs = cc in
    let lone_is : vertex ≡ o = cc in
    subst (λ (x : Tag × Tag × List Tag × Option Tag). P x.0 x.1 x.2 x.3) (λ i. (sym same i, face_is i, fins_is i, lone_is i)) left

-- a loop that stays, and has neither of the fins
pub loop-left : (S R : Shape) (n m : Tag) (g : Tag → Tag) → IsWell S → ((t : Tag) (x : Item) → item_at S t ≡ Some x → g t ≡ body_of S t)
    → (l face : Tag) (fins : List Tag) (vertex : Option Tag) → item_at S l ≡ Some (Loop face fins vertex)
    → class_at R face ≡ Some class.Face → AreOf R class.Vertex (optional vertex) → ¬ (Contains fins n) → ¬ (Contains fins m) → LoopLeft S R n m g l face fins vertex
loop-left S R n m g well agree l face fins vertex l_is face_is lone_is no_n no_m = record {
  face_is = face_is;
  fins_are = λ f k. (ap (option_map class_of_item) (fin_in S well.written well.sound l face fins vertex l_is f k).3, (λ e. no_n (subst (Contains fins) e k)), (λ e. no_m (subst (Contains fins) e k)));
  lone_is = lone_is;
  lone = well.sound.lone l face fins vertex l_is;
  follows = λ a b k. inl (record { loop_ = l; face = face; fins = fins; vertex = vertex; loop_is = l_is; among = k });
  least = well.written.loops l face fins vertex l_is;
  face_body = up.loops l face fins vertex l_is;
  fin_bodies = λ f k. up.fins l face fins vertex l_is f k;
  lone_body = lone_body vertex l_is;
}
  where
    up : LeadsUp S g
    up = agreed-LeadsUp S well.written well.sound g agree

    lone_body : (vertex : Option Tag) → item_at S l ≡ Some (Loop face fins vertex) → AllByRecursion (λ c. g c ≡ g l) (optional vertex)
    lone_body None is = tt
    lone_body (Some c) is =
        let y = item_of_class (item_at S c) class.Vertex (well.sound.names.kinds l (Loop face fins (Some c)) is).2.0 in
        (agree c y.0 y.1 ∙ well.sound.bodies.lone l face c fins is ∙ sym (agree l _ is), tt)
