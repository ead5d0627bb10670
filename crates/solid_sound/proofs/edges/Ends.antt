-- The ends of a new edge, and the ring in which it joins them.
use Rattle.std.proofs.Common.{◌≡◌, ◌≢◌, ℕ, ◌+◌, ◌≤◌, ◌⊎◌, inl, inr, ⊎_elim, Bool, true, false, cond, List, [], ◌∷◌, ◌++◌, drop, Option, Some, None, Ok, refl, sym, ap, subst, ◌∙◌, arith}
use Rattle.std.specs.Prelude.{is_some, unwrap_or, Contains}
use Rattle.std.specs.Option.{option_and_then, option_map_or}
use Rattle.std.specs.List.{AllByRecursion}
use Rattle.std.proofs.lemmas.Option.{same_Some}
use Rattle.pk_base.specs.Blocks.{tag}
use Rattle.pk_base.specs.Entity.{same_tag}
use Rattle.pk_base.specs.declared.tag.Tag.{Tag}
use Rattle.pk_base.specs.declared.entity.Class.TheVariants as class
use Rattle.pk_model.specs.Apart.{NoRepeats}
use Rattle.solid_model.specs.Items.{Item, Shape, item_at}
use Rattle.solid_model.specs.Items.Item.{Body, Shell, Face, Loop, Fin, Edge, Vertex, Attr}
use Rattle.solid_model.specs.Rings.{first_tag, written_from, neighbours, neighbours_from}
use Rattle.solid_model.specs.Owners.{fins_of, owner_of_item, owner_in, body_of}
use Rattle.solid_model.specs.Places.{asked, fins_at, End, end_in, end_of_item, PlacedFin, placed_fin, as_fin}
use Rattle.solid_model.specs.Sound.{class_at, is_empty, is_alone_in, loops_alone_at}
use Rattle.list_facts.proofs.Elements.{not_in_nil, Contains-first, Contains-later}
use Rattle.list_facts.proofs.Each.{ByRecursion-append, ByRecursion-at}
use Rattle.solid_model.proofs.lists.Neighbours.{one_if, times, times-cons, times-append, neighbours_from-append}
use Rattle.pk_base.proofs.Same.{same_itself}
use Rattle.solid_model.proofs.lists.Cycles.{written-first, merge-first, merge-second}
use Rattle.solid_model.proofs.lists.Turned.{Turned, chain_end, all_to_end, turned-written}
use Rattle.solid_sound.proofs.shapes.Reading.{vertex_of_class, found-le, loop-of_fin}
use Rattle.solid_sound.proofs.edges.Corners.{IsFin, CornerAt, Round, round-of}
use Rattle.solid_sound.proofs.shapes.Bodies.{leads_up, loop_with-some, loop_with-found, body_of-live}
use Rattle.solid_sound.proofs.rows.RowKeeps.{IsWell}

-- ---- the ring in which an edge joins two lists

-- From m through ts to n, where ts was a ring: what came before its first fin now comes before n.
module _ (n m : Tag) where
  pub half-first : (ts : List Tag) → Contains {X = Tag × Tag} (neighbours_from n m ts) (m, unwrap_or (first_tag ts) n)
  half-first [] = Contains-first {X = Tag × Tag} (m, n) []
  half-first (t ∷ ts) = Contains-first {X = Tag × Tag} (m, t) (neighbours_from n t ts)

  pub half-keeps : (ts : List Tag) → NoRepeats ts → (p q : Tag) → Contains {X = Tag × Tag} (neighbours ts) (p, q)
      → ((first_tag ts ≡ Some q) × Contains {X = Tag × Tag} (neighbours_from n m ts) (p, n)) ⊎ ((first_tag ts ≢ Some q) × Contains {X = Tag × Tag} (neighbours_from n m ts) (p, q))
  half-keeps [] once p q k = absurd (not_in_nil {X = Tag × Tag} (p, q) k)
  half-keeps (t ∷ ts) once p q k = ⊎_elim
      {C = ((first_tag (t ∷ ts) ≡ Some q) × Contains {X = Tag × Tag} (neighbours_from n m (t ∷ ts)) (p, n)) ⊎ ((first_tag (t ∷ ts) ≢ Some q) × Contains {X = Tag × Tag} (neighbours_from n m (t ∷ ts)) (p, q))}
      (λ (l : (q ≡ t) × Contains {X = Tag × Tag} (neighbours_from n t ts) (p, n)). inl (ap Some (sym l.0), Contains-later {X = Tag × Tag} (m, t) (neighbours_from n t ts) (p, n) l.1))
      (λ (r : Contains ts q × Contains {X = Tag × Tag} (neighbours_from n t ts) (p, q)).
      inr ((λ e. ByRecursion-at (λ u. t ≢ u) ts q once.0 r.0 (same_Some t q e)), Contains-later {X = Tag × Tag} (m, t) (neighbours_from n t ts) (p, q) r.1))
      (chain_end t n t ts p q k)

  pub half-all : (P : Tag × Tag → Type 0) (ts : List Tag) → P (m, unwrap_or (first_tag ts) n) → ((p q : Tag) → first_tag ts ≡ Some q → P (p, q) → P (p, n)) → AllByRecursion P (neighbours ts) → AllByRecursion P (neighbours_from n m ts)
  half-all P [] first last all = (first, tt)
  half-all P (t ∷ ts) first last all = (first, all_to_end P t n t ts (λ p h. last p t refl h) all)

-- the ring of n, the list ts, m and the list us
module _ (n m : Tag) (ts us : List Tag) where
  abbrev pub joined : List Tag
  joined = n ∷ ts ++ m ∷ us

  joined-is : neighbours joined ≡ neighbours_from m n ts ++ neighbours_from n m us
  joined-is = neighbours_from-append n n ts m us

  pub joined-after_n : Contains {X = Tag × Tag} (neighbours joined) (n, unwrap_or (first_tag ts) m)
  joined-after_n = merge-first n ts m us (n, unwrap_or (first_tag ts) m) (half-first m n ts)

  pub joined-after_m : Contains {X = Tag × Tag} (neighbours joined) (m, unwrap_or (first_tag us) n)
  joined-after_m = merge-second n ts m us (m, unwrap_or (first_tag us) n) (half-first n m us)

  pub joined-first : NoRepeats ts → (p q : Tag) → Contains {X = Tag × Tag} (neighbours ts) (p, q)
      → ((first_tag ts ≡ Some q) × Contains {X = Tag × Tag} (neighbours joined) (p, m)) ⊎ ((first_tag ts ≢ Some q) × Contains {X = Tag × Tag} (neighbours joined) (p, q))
  joined-first once p q k = ⊎_elim
      {C = ((first_tag ts ≡ Some q) × Contains {X = Tag × Tag} (neighbours joined) (p, m)) ⊎ ((first_tag ts ≢ Some q) × Contains {X = Tag × Tag} (neighbours joined) (p, q))}
      (λ (l : (first_tag ts ≡ Some q) × Contains {X = Tag × Tag} (neighbours_from m n ts) (p, m)). inl (l.0, merge-first n ts m us (p, m) l.1))
      (λ (r : (first_tag ts ≢ Some q) × Contains {X = Tag × Tag} (neighbours_from m n ts) (p, q)). inr (r.0, merge-first n ts m us (p, q) r.1))
      (half-keeps m n ts once p q k)

  pub joined-second : NoRepeats us → (p q : Tag) → Contains {X = Tag × Tag} (neighbours us) (p, q)
      → ((first_tag us ≡ Some q) × Contains {X = Tag × Tag} (neighbours joined) (p, n)) ⊎ ((first_tag us ≢ Some q) × Contains {X = Tag × Tag} (neighbours joined) (p, q))
  joined-second once p q k = ⊎_elim
      {C = ((first_tag us ≡ Some q) × Contains {X = Tag × Tag} (neighbours joined) (p, n)) ⊎ ((first_tag us ≢ Some q) × Contains {X = Tag × Tag} (neighbours joined) (p, q))}
      (λ (l : (first_tag us ≡ Some q) × Contains {X = Tag × Tag} (neighbours_from n m us) (p, n)). inl (l.0, merge-second n ts m us (p, n) l.1))
      (λ (r : (first_tag us ≢ Some q) × Contains {X = Tag × Tag} (neighbours_from n m us) (p, q)). inr (r.0, merge-second n ts m us (p, q) r.1))
      (half-keeps n m us once p q k)

  pub joined-all : (P : Tag × Tag → Type 0) → P (n, unwrap_or (first_tag ts) m) → P (m, unwrap_or (first_tag us) n)
      → ((p q : Tag) → first_tag ts ≡ Some q → P (p, q) → P (p, m)) → ((p q : Tag) → first_tag us ≡ Some q → P (p, q) → P (p, n))
      → AllByRecursion P (neighbours ts) → AllByRecursion P (neighbours us) → AllByRecursion P (neighbours joined)
  joined-all P a b c d all more = subst (AllByRecursion P) (sym joined-is) (ByRecursion-append P (neighbours_from m n ts) (neighbours_from n m us) (half-all m n P ts a c all) (half-all n m P us b d more))

  pub joined-times : (f : Tag) → times f joined ≡ ((one_if (same_tag n f) + one_if (same_tag m f)) + times f ts) + times f us
  joined-times f =
      let a = times-cons f n (ts ++ m ∷ us) in
      let b = times-append f ts (m ∷ us) in
      let c = times-cons f m us in
      omega (arith, a, b, c)

  pub joined-each : (P : Tag → Type 0) → P n → P m → AllByRecursion P ts → AllByRecursion P us → AllByRecursion P joined
  joined-each P a b all more = (a, ByRecursion-append P ts (m ∷ us) all (b, more))

-- ---- an end

-- a vertex, a loop in which it is a corner, and the loop's list from there
pub record EndIn (S : Shape) (u : End) : Type 0 where
  pub list : List Tag
  pub lone : Option Tag
  pub loop_is : item_at S u.loop_ ≡ Some (Loop u.face list lone)
  pub turned : Turned list u.fins
  pub lone_is : lone ≡ cond (is_empty u.fins) (Some u.vertex) None
  pub corner : CornerAt S u.vertex (first_tag u.fins)
  pub round : Round S u.vertex
  pub alone : loops_alone_at S u.vertex ≡ cond (is_empty u.fins) 1 0
  pub vertex_is : class_at S u.vertex ≡ Some class.Vertex
  pub vertex_body : body_of S u.vertex ≡ u.body
  pub loop_body : body_of S u.loop_ ≡ u.body
  pub shell : Tag
  pub body_is : item_at S u.body ≡ Some (Body shell)

pub first-in : (ts : List Tag) (f : Tag) → first_tag ts ≡ Some f → Contains ts f
first-in [] f h = absurd (cc)
first-in (t ∷ ts) f h = subst (Contains (t ∷ ts)) (same_Some t f h) (Contains-first t ts)

empty-nil : (ts : List Tag) → is_empty ts ≡ true → ts ≡ []
empty-nil [] h = refl
empty-nil (t ∷ ts) h = absurd (cc)

pub some-empty : (ts : List Tag) (f : Tag) → Contains ts f → is_empty ts ≡ false
some-empty [] f k = absurd (not_in_nil f k)
some-empty (t ∷ ts) f k = refl

not_some : (o : Option Tag) → is_some o ≡ false → o ≡ None
not_some None h = refl
not_some (Some t) h = absurd (cc)

empty_count : (b : Bool) → 1 ≤ cond {A = ℕ} b 1 0 → b ≡ true
empty_count true h = refl
empty_count false h = absurd (omega arith)

owner_of_loop : (S : Shape) (l face : Tag) (fins : List Tag) (vertex : Option Tag) → item_at S l ≡ Some (Loop face fins vertex) → owner_in S l ≡ face
owner_of_loop S l face fins vertex e = ap (λ (o : Option Item). unwrap_or (option_and_then (owner_of_item S l) o) (tag 0)) e

-- where a fin starts
pub end-fin : (S : Shape) → IsWell S → (t mate edge vertex : Tag) → IsFin S t mate edge vertex → EndIn S (end_in S vertex (owner_in S t) (written_from t (fins_at S (owner_in S t))))
end-fin S well t mate edge vertex is =
    let some = loop_with-some S t (let once = well.sound.placed t mate edge vertex is in omega (arith, once)) in
    let w = loop_with-found S t some.0 well.written.ascends some.1 in
    let owner : owner_in S t ≡ some.0 = loop-of_fin S well.written well.sound some.0 w.face w.fins w.vertex w.loop_is t w.among in
    let fins : fins_at S (owner_in S t) ≡ w.fins = ap (fins_at S) owner ∙ ap (λ (o : Option Item). option_map_or fins_of o []) w.loop_is in
    let up = leads_up S well.written well.sound in
    let v = vertex_of_class (item_at S vertex) (well.sound.names.kinds t (Fin mate edge vertex) is).2.0 in
    let h = well.sound.round vertex v.0 v.1 v.2 in
    let first = written-first t w.fins w.among in
    let body = body_of-live S well.written.ascends well.sound.names.kinds well.sound.placed some.0 _ w.loop_is (omega arith) in
    subst (EndIn S) (λ i. end_in S vertex (sym owner i) (written_from t (sym fins i)))
    (record {
      list = w.fins;
      lone = w.vertex;
      loop_is = w.loop_is ∙ ap (λ f. Some (Loop f w.fins w.vertex)) (sym (owner_of_loop S some.0 w.face w.fins w.vertex w.loop_is));
      turned = turned-written t w.fins;
      lone_is = not_some w.vertex (well.sound.lone some.0 w.face w.fins w.vertex w.loop_is ∙ some-empty w.fins t w.among) ∙ ap (λ ts. cond (is_empty ts) (Some vertex) None) (sym first);
      corner = subst (λ ts. CornerAt S vertex (first_tag ts)) (sym first) (mate, edge, is);
      round = round-of S vertex h;
      alone = h.lone ∙ ap (λ c. cond {A = ℕ} c 1 0) (some-empty h.fins t ((h.are_all t).1 (mate, edge, is))) ∙ ap (λ ts. cond {A = ℕ} (is_empty ts) 1 0) (sym first);
      vertex_is = (well.sound.names.kinds t (Fin mate edge vertex) is).2.0;
      vertex_body = (well.sound.bodies.fins t mate edge vertex is).1 ∙ sym (up.fins some.0 w.face w.fins w.vertex w.loop_is t w.among);
      loop_body = refl;
      shell = body.0;
      body_is = body.1;
    })

-- the lone vertex of a loop
end-loop : (S : Shape) → IsWell S → (l face vertex : Tag) (fins : List Tag) → item_at S l ≡ Some (Loop face fins (Some vertex)) → EndIn S (end_in S vertex l [])
end-loop S well l face vertex fins is =
    let v = vertex_of_class (item_at S vertex) (well.sound.names.kinds l (Loop face fins (Some vertex)) is).2.0 in
    let h = well.sound.round vertex v.0 v.1 v.2 in
    let none : fins ≡ [] = empty-nil fins (sym (well.sound.lone l face fins (Some vertex) is)) in
    let one : cond {A = ℕ} (same_tag vertex vertex) 1 0 ≡ 1 = ap (λ c. cond {A = ℕ} c 1 0) (same_itself vertex) in
    let some : cond {A = ℕ} (same_tag vertex vertex) 1 0 ≤ loops_alone_at S vertex = found-le (λ (i : Item). cond (is_alone_in vertex i) 1 0) S l (Loop face fins (Some vertex)) is in
    let empty : is_empty h.fins ≡ true = empty_count (is_empty h.fins) (let lone = h.lone in omega (arith, one, some, lone)) in
    let body = body_of-live S well.written.ascends well.sound.names.kinds well.sound.placed l _ is (omega arith) in
    record {
      list = fins;
      lone = Some vertex;
      loop_is = is ∙ ap (λ f. Some (Loop f fins (Some vertex))) (sym (owner_of_loop S l face fins (Some vertex) is));
      turned = record { pre = []; post = []; here = none; there = refl };
      lone_is = refl;
      corner = λ f mate edge e. not_in_nil f (subst (λ ts. Contains ts f) (empty-nil h.fins empty) ((h.are_all f).1 (mate, edge, e)));
      round = round-of S vertex h;
      alone = h.lone ∙ ap (λ c. cond {A = ℕ} c 1 0) empty;
      vertex_is = (well.sound.names.kinds l (Loop face fins (Some vertex)) is).2.0;
      vertex_body = well.sound.bodies.lone l face vertex fins is;
      loop_body = refl;
      shell = body.0;
      body_is = body.1;
    }

pub end-well : (S : Shape) → IsWell S → (t : Tag) (o : Option Item) → item_at S t ≡ o → (u : End) → end_of_item S t o ≡ Ok u → EndIn S u
end-well S well t None is u h = absurd (cc)
end-well S well t (Some (Fin mate edge vertex)) is u h =
    let e : end_in S vertex (owner_in S t) (written_from t (fins_at S (owner_in S t))) ≡ u = cc in
    subst (EndIn S) e (end-fin S well t mate edge vertex is)
end-well S well t (Some (Loop face fins (Some vertex))) is u h =
    let e : end_in S vertex t [] ≡ u = cc in
    subst (EndIn S) e (end-loop S well t face vertex fins is)
end-well S well t (Some (Loop face fins None)) is u h = absurd (cc)
end-well S well t (Some (Body shell)) is u h = absurd (cc)
end-well S well t (Some (Shell body q)) is u h = absurd (cc)
end-well S well t (Some (Face shell outer)) is u h = absurd (cc)
end-well S well t (Some (Edge body)) is u h = absurd (cc)
end-well S well t (Some (Vertex body point)) is u h = absurd (cc)
end-well S well t (Some (Attr owner name value)) is u h = absurd (cc)

-- ---- a fin

-- the end at a fin
abbrev pub as_end : PlacedFin → End
as_end u = record { vertex = u.vertex; loop_ = u.loop_; face = u.face; body = u.body; fins = u.fins }

-- a fin, and the list of its loop from it
pub record FinIn (S : Shape) (f : Tag) (u : PlacedFin) : Type 0 where
  pub fin_is : IsFin S f u.mate u.edge u.vertex
  pub end : EndIn S (as_end u)
  pub rest : List Tag
  pub fins_are : u.fins ≡ f ∷ rest
  pub shell_is : owner_in S u.face ≡ u.shell

fin-in : (S : Shape) → IsWell S → (f mate edge vertex : Tag) → IsFin S f mate edge vertex → FinIn S f (placed_fin S f mate edge vertex (owner_in S f))
fin-in S well f mate edge vertex is =
    let some = loop_with-some S f (let once = well.sound.placed f mate edge vertex is in omega (arith, once)) in
    let w = loop_with-found S f some.0 well.written.ascends some.1 in
    let owner : owner_in S f ≡ some.0 = loop-of_fin S well.written well.sound some.0 w.face w.fins w.vertex w.loop_is f w.among in
    let fins : fins_at S (owner_in S f) ≡ w.fins = ap (fins_at S) owner ∙ ap (λ (o : Option Item). option_map_or fins_of o []) w.loop_is in
    let first = written-first f w.fins w.among in
    record {
      fin_is = is;
      end = end-fin S well f mate edge vertex is;
      rest = drop 1 (written_from f w.fins);
      fins_are = ap (written_from f) fins ∙ first;
      shell_is = refl;
    }

pub fin-well : (S : Shape) → IsWell S → (f : Tag) (o : Option Item) → item_at S f ≡ o → (u : PlacedFin) → asked (as_fin S f) f o ≡ Ok u → FinIn S f u
fin-well S well f None is u h = absurd (cc)
fin-well S well f (Some (Fin mate edge vertex)) is u h =
    let e : placed_fin S f mate edge vertex (owner_in S f) ≡ u = cc in
    subst (FinIn S f) e (fin-in S well f mate edge vertex is)
fin-well S well f (Some (Loop face fins vertex)) is u h = absurd (cc)
fin-well S well f (Some (Body shell)) is u h = absurd (cc)
fin-well S well f (Some (Shell body q)) is u h = absurd (cc)
fin-well S well f (Some (Face shell outer)) is u h = absurd (cc)
fin-well S well f (Some (Edge body)) is u h = absurd (cc)
fin-well S well f (Some (Vertex body point)) is u h = absurd (cc)
fin-well S well f (Some (Attr owner name value)) is u h = absurd (cc)
