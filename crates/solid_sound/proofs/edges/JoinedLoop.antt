-- The loop in which a new edge joins two ends.
use Rattle.std.proofs.Common.{◌≡◌, ◌≢◌, ℕ, Bool, true, false, cond, List, [], ◌∷◌, ◌++◌, Option, Some, None, refl, sym, ap, subst, ◌∙◌}
use Rattle.std.specs.Prelude.{option_map, unwrap_or, Contains}
use Rattle.std.specs.List.{AllByRecursion}
use Rattle.std.proofs.lemmas.Option.{same_Some}
use Rattle.pk_base.specs.Entity.{same_tag}
use Rattle.pk_base.specs.declared.tag.Tag.{Tag}
use Rattle.pk_base.specs.declared.entity.Class.TheVariants as class
use Rattle.pk_model.specs.Apart.{NoRepeats}
use Rattle.solid_model.specs.Items.{Item, Shape, item_at, class_of_item}
use Rattle.solid_model.specs.Items.Item.{Loop}
use Rattle.solid_model.specs.Rings.{first_tag, from_least, neighbours}
use Rattle.solid_model.specs.Owners.{body_of}
use Rattle.solid_model.specs.Places.{start_at, End}
use Rattle.solid_model.specs.Sound.{ComesAfter, AreOf, class_at, end_of, is_empty, is_alone_in}
use Rattle.list_facts.proofs.Elements.{Contains-first}
use Rattle.list_facts.proofs.Each.{ByRecursion-weaker, ByRecursion-contains}
use Rattle.solid_model.proofs.lists.Neighbours.{one_if}
use Rattle.pk_base.proofs.Same.{same_itself, not_same}
use Rattle.solid_model.proofs.lists.Cycles.{from_least-again}
use Rattle.solid_model.proofs.lists.Turned.{turned-in, turned-least, turned-each, turned-all, turned-neighbours, turned-once}
use Rattle.solid_sound.proofs.shapes.Reading.{vertex_of_class, fin_in, fins-once}
use Rattle.solid_sound.proofs.shapes.Bodies.{leads_up, item_of_class}
use Rattle.solid_sound.proofs.edges.Corners.{IsFin, Follows, CornerAt, mate_of_fin, start_of_fin, follow-stays}
use Rattle.solid_sound.proofs.edges.Ends.{some-empty, joined, joined-all, joined-each, EndIn}
use Rattle.solid_sound.proofs.edges.EdgeMade.{LoopIn}
use Rattle.solid_sound.proofs.rows.RowKeeps.{IsWell}

-- a loop of this list, written from its least tag
pub loop-comes : (R : Shape) (l face : Tag) (ring : List Tag) → item_at R l ≡ Some (Loop face (from_least ring) None) → (p q : Tag) → Contains {X = Tag × Tag} (neighbours ring) (p, q) → ComesAfter R p q
loop-comes R l face ring is p q k = record {
  loop_ = l;
  face = face;
  fins = from_least ring;
  vertex = None;
  loop_is = is;
  among = turned-neighbours ring (from_least ring) (turned-least ring) (p, q) k;
}

pub loop-of_ring : (R : Shape) (g : Tag → Tag) (l face f : Tag) (ring : List Tag) → class_at R face ≡ Some class.Face → g face ≡ g l → Contains ring f
    → AreOf R class.Fin ring → AllByRecursion (λ t. g l ≡ g t) ring → AllByRecursion (Follows R) (neighbours ring) → LoopIn R g l face (from_least ring) None
loop-of_ring R g l face f ring face_is face_body some fins bodies follow = record {
  face_is = face_is;
  face_body = face_body;
  fins_are = turned-each (λ t. class_at R t ≡ Some class.Fin) ring (from_least ring) (turned-least ring) fins;
  fins_body = turned-each (λ t. g l ≡ g t) ring (from_least ring) (turned-least ring) bodies;
  vertices = tt;
  vertex_body = tt;
  follow = turned-all (Follows R) ring (from_least ring) (turned-least ring) follow;
  lone = sym (some-empty (from_least ring) f (turned-in ring (from_least ring) (turned-least ring) f some));
  least = from_least-again ring;
}

-- ---- one end

-- what is shown in R of the list from one end, whose vertex is u
pub record Side (R : Shape) (g : Tag → Tag) (b u : Tag) (ts : List Tag) : Type 0 where
  pub starts : (f : Tag) → first_tag ts ≡ Some f → start_at R f ≡ u
  pub fins : AreOf R class.Fin ts
  pub bodies : AllByRecursion (λ t. b ≡ g t) ts
  pub follow : AllByRecursion (Follows R) (neighbours ts)

pub side-none : (R : Shape) (g : Tag → Tag) (b u : Tag) → Side R g b u []
side-none R g b u = record { starts = λ f h. absurd (cc); fins = tt; bodies = tt; follow = tt }

starts-at : (S R : Shape) (u : Tag) (j : Option Tag) → ((f mate edge vertex : Tag) → IsFin S f mate edge vertex → IsFin R f mate edge vertex) → CornerAt S u j → (f : Tag) → j ≡ Some f → start_at R f ≡ u
starts-at S R u None stays c f h = absurd (cc)
starts-at S R u (Some t) stays c f h = start_of_fin R f c.0 c.1 u (subst (λ w. IsFin R w c.0 c.1 u) (same_Some t f h) (stays t c.0 c.1 u c.2))

module _ (S R : Shape) (well : IsWell S) (g : Tag → Tag) (agree : (t : Tag) (x : Item) → item_at S t ≡ Some x → g t ≡ body_of S t)
    (stays : (f mate edge vertex : Tag) → IsFin S f mate edge vertex → IsFin R f mate edge vertex) where
  pub fins-live : (l face : Tag) (fins : List Tag) (vertex : Option Tag) → item_at S l ≡ Some (Loop face fins vertex) → AreOf R class.Fin fins
  fins-live l face fins vertex is = ByRecursion-contains (λ t. class_at R t ≡ Some class.Fin) fins (λ f k.
      let x = fin_in S well.written well.sound l face fins vertex is f k in
      ap (option_map class_of_item) (stays f x.0 x.1 x.2 x.3))

  pub fins-in_body : (l face : Tag) (fins : List Tag) (vertex : Option Tag) → item_at S l ≡ Some (Loop face fins vertex) → AllByRecursion (λ t. body_of S l ≡ g t) fins
  fins-in_body l face fins vertex is = ByRecursion-contains (λ t. body_of S l ≡ g t) fins (λ f k.
      let x = fin_in S well.written well.sound l face fins vertex is f k in
      (leads_up S well.written well.sound).fins l face fins vertex is f k ∙ sym (agree f _ x.3))

  pub side-of_end : (u : End) → EndIn S u → Side R g u.body u.vertex u.fins
  side-of_end u E = record {
    starts = starts-at S R u.vertex (first_tag u.fins) stays E.corner;
    fins = turned-each (λ t. class_at R t ≡ Some class.Fin) E.list u.fins E.turned (fins-live u.loop_ u.face E.list E.lone E.loop_is);
    bodies = turned-each (λ t. u.body ≡ g t) E.list u.fins E.turned
        (ByRecursion-weaker (λ t. body_of S u.loop_ ≡ g t) (λ t. u.body ≡ g t) (λ t h. sym E.loop_body ∙ h) E.list (fins-in_body u.loop_ u.face E.list E.lone E.loop_is));
    follow = turned-all (Follows R) E.list u.fins E.turned (follow-stays S R well stays u.loop_ u.face E.list E.lone E.loop_is);
  }

-- what is around an end stands in its body
module _ (S : Shape) (well : IsWell S) (g : Tag → Tag) (agree : (t : Tag) (x : Item) → item_at S t ≡ Some x → g t ≡ body_of S t) (u : End) (E : EndIn S u) where
  pub end-once : NoRepeats u.fins
  end-once = turned-once E.list u.fins E.turned (fins-once S well.written well.sound u.loop_ u.face E.list E.lone E.loop_is)

  pub end-loop_body : g u.loop_ ≡ u.body
  end-loop_body = agree u.loop_ _ E.loop_is ∙ E.loop_body

  pub end-vertex_body : g u.vertex ≡ u.body
  end-vertex_body = let v = vertex_of_class (item_at S u.vertex) E.vertex_is in agree u.vertex _ v.2 ∙ E.vertex_body

  pub end-body : g u.body ≡ u.body
  end-body = agree u.body _ E.body_is ∙ (leads_up S well.written well.sound).bodies u.body E.shell E.body_is

  pub end-face : class_at S u.face ≡ Some class.Face
  end-face = (well.sound.names.kinds u.loop_ (Loop u.face E.list E.lone) E.loop_is).0.0

  pub end-face_body : g u.face ≡ g u.loop_
  end-face_body =
      let f = item_of_class (item_at S u.face) class.Face end-face in
      agree u.face f.0 f.1 ∙ (leads_up S well.written well.sound).loops u.loop_ u.face E.list E.lone E.loop_is ∙ sym (agree u.loop_ _ E.loop_is)

-- how often a vertex is alone in the loop of an end
pub end-alone : (S : Shape) (u : End) (E : EndIn S u) (t : Tag) → cond {A = ℕ} (is_alone_in t (Loop u.face E.list E.lone)) 1 0 ≡ cond (is_empty u.fins) (one_if (same_tag u.vertex t)) 0
end-alone S u E t = by (is_empty u.fins) E.lone E.lone_is
  where
    by : (b : Bool) (o : Option Tag) → o ≡ cond b (Some u.vertex) None → cond {A = ℕ} (is_alone_in t (Loop u.face E.list o)) 1 0 ≡ cond b (one_if (same_tag u.vertex t)) 0
    by true None h = absurd (cc)
    by true (Some w) h = ap (λ s. cond {A = ℕ} (same_tag s t) 1 0) (same_Some w u.vertex h)
    by false None h = refl
    by false (Some w) h = absurd (cc)

pub end-alone_own : (S : Shape) (u : End) (E : EndIn S u) → cond {A = ℕ} (is_alone_in u.vertex (Loop u.face E.list E.lone)) 1 0 ≡ cond (is_empty u.fins) 1 0
end-alone_own S u E = end-alone S u E u.vertex ∙ ap (λ c. cond {A = ℕ} (is_empty u.fins) (one_if c) 0) (same_itself u.vertex)

pub end-alone_other : (S : Shape) (u : End) (E : EndIn S u) (t : Tag) → t ≢ u.vertex → cond {A = ℕ} (is_alone_in t (Loop u.face E.list E.lone)) 1 0 ≡ 0
end-alone_other S u E t other = end-alone S u E t ∙ ap (λ c. cond {A = ℕ} (is_empty u.fins) (one_if c) 0) (not_same u.vertex t (λ h. other (sym h))) ∙ never (is_empty u.fins)
  where
    never : (b : Bool) → cond {A = ℕ} b 0 0 ≡ 0
    never true = refl
    never false = refl

-- ---- both

-- the start of the corner, or of the fin that is new at the vertex
corner_or : (R : Shape) (u n : Tag) (j : Option Tag) → ((f : Tag) → j ≡ Some f → start_at R f ≡ u) → start_at R n ≡ u → start_at R (unwrap_or j n) ≡ u
corner_or R u n None h k = k
corner_or R u n (Some f) h k = h f refl

-- n starts at u and m at v; ts is the list from v, and us that from u
pub joined-loop : (R : Shape) (g : Tag → Tag) (l face n m e u v : Tag) (ts us : List Tag) → class_at R face ≡ Some class.Face → g face ≡ g l → g l ≡ g n → g l ≡ g m
    → IsFin R n m e u → IsFin R m n e v → Side R g (g l) v ts → Side R g (g l) u us → LoopIn R g l face (from_least (joined n m ts us)) None
joined-loop R g l face n m e u v ts us face_is face_body n_body m_body n_is m_is first second =
    let n_start = start_of_fin R n m e u n_is in
    let m_start = start_of_fin R m n e v m_is in
    let n_end : end_of R n ≡ v = ap (start_at R) (mate_of_fin R n m e u n_is) ∙ m_start in
    let m_end : end_of R m ≡ u = ap (start_at R) (mate_of_fin R m n e v m_is) ∙ n_start in
    loop-of_ring R g l face n (joined n m ts us) face_is face_body (Contains-first n (ts ++ m ∷ us))
    (joined-each n m ts us (λ t. class_at R t ≡ Some class.Fin) (ap (option_map class_of_item) n_is) (ap (option_map class_of_item) m_is) first.fins second.fins)
    (joined-each n m ts us (λ t. g l ≡ g t) n_body m_body first.bodies second.bodies)
    (joined-all n m ts us (Follows R)
    (corner_or R v m (first_tag ts) first.starts m_start ∙ sym n_end)
    (corner_or R u n (first_tag us) second.starts n_start ∙ sym m_end)
    (λ p q h follows. m_start ∙ sym (first.starts q h) ∙ follows)
    (λ p q h follows. n_start ∙ sym (second.starts q h) ∙ follows)
    first.follow second.follow)
