-- Which body an item stands in, told by what owns it.
use Rattle.std.proofs.Common.{◌≡◌, ◌≢◌, ℕ, zero, suc, ◌+◌, ◌<◌, ◌≤◌, ◌⊎◌, inl, inr, ⊎_elim, Bool, true, false, cond, List, [], ◌∷◌, Option, Some, None, refl, sym, ap, ◌∙◌, arith}
use Rattle.std.specs.Prelude.{T, ℤ, find, option_map, unwrap_or, Contains}
use Rattle.std.specs.Option.{option_and_then}
use Rattle.std.specs.List.{AllByRecursion}
use Rattle.std.specs.FinMap.{is_sorted}
use Rattle.std.proofs.lemmas.Bool.{cases_Bool}
use Rattle.std.proofs.lemmas.List.Sums.{sum_by-cons}
use Rattle.std.proofs.lemmas.Option.{same_Some}
use Rattle.pk_base.specs.declared.tag.Tag.{Tag}
use Rattle.pk_base.specs.declared.entity.Point.{Point}
use Rattle.pk_base.specs.declared.entity.Class.{Class}
use Rattle.pk_base.specs.declared.entity.Class.TheVariants as class
use Rattle.pk_model.specs.Maps.{tag_cmp}
use Rattle.solid_model.specs.Items.{Item, Shape, item_at, class_of_item}
use Rattle.solid_model.specs.Items.Item.{Body, Shell, Face, Loop, Fin, Edge, Vertex, Attr}
use Rattle.solid_model.specs.Rings.{is_among}
use Rattle.solid_model.specs.Owners.{fins_of, loop_with, owner_of_item, owner_or_itself, above, body_of}
use Rattle.solid_model.specs.Sound.{IsWritten, IsSoundShape, NamesItsKind, times_in_loops, class_at}
use Rattle.list_facts.proofs.Elements.{not_in_nil}
use Rattle.list_facts.proofs.Each.{ByRecursion-contains, ByRecursion-at}
use Rattle.solid_model.proofs.lists.Neighbours.{times, in-is_among, is_among-in, in-times, zero_or_more, not_among}
use Rattle.solid_sound.proofs.shapes.Names.{EachNamed}
use Rattle.solid_sound.proofs.shapes.Reading.{each-found, fin_of_class, loop_with-is}

-- ---- what stands under a tag of a class

pub item_of_class : (o : Option Item) (c : Class) → option_map class_of_item o ≡ Some c → (x : Item) × (o ≡ Some x) × (class_of_item x ≡ c)
item_of_class None c h = absurd (cc)
item_of_class (Some x) c h = (x, refl, same_Some (class_of_item x) c h)

-- how many owners stand above an item of the class at most
abbrev pub height_of : Class → ℕ
height_of class.Body = 0
height_of class.Shell = 1
height_of class.Edge = 1
height_of class.Vertex = 1
height_of class.Face = 2
height_of class.Loop = 3
height_of class.Fin = 4
height_of class.Attr = 5

abbrev pub height : Item → ℕ
height x = height_of (class_of_item x)

-- ---- the loop of a fin

pub record LoopWith (S : Shape) (f l : Tag) : Type 0 where
  pub face : Tag
  pub fins : List Tag
  pub vertex : Option Tag
  pub loop_is : item_at S l ≡ Some (Loop face fins vertex)
  pub among : Contains fins f

-- an item with fins is a loop
pub loop_by_item : (S : Shape) (f l : Tag) (x : Item) → item_at S l ≡ Some x → Contains (fins_of x) f → LoopWith S f l
loop_by_item S f l (Loop face fins vertex) e k = record { face = face; fins = fins; vertex = vertex; loop_is = e; among = k }
loop_by_item S f l (Body shell) e k = absurd (not_in_nil f k)
loop_by_item S f l (Shell body q) e k = absurd (not_in_nil f k)
loop_by_item S f l (Face shell outer) e k = absurd (not_in_nil f k)
loop_by_item S f l (Fin mate edge vertex) e k = absurd (not_in_nil f k)
loop_by_item S f l (Edge body) e k = absurd (not_in_nil f k)
loop_by_item S f l (Vertex body point) e k = absurd (not_in_nil f k)
loop_by_item S f l (Attr owner name value) e k = absurd (not_in_nil f k)

loop_among : (S xs : Shape) (f l : Tag) → AllByRecursion (λ (x : Tag × Item). item_at S x.0 ≡ Some x.1) xs
    → option_map (λ (x : Tag × Item). x.0) (find (λ (x : Tag × Item). is_among f (fins_of x.1)) xs) ≡ Some l → LoopWith S f l
loop_among S [] f l found h = absurd (cc)
loop_among S (x ∷ xs) f l found h =
    ⊎_elim (λ (t : is_among f (fins_of x.1) ≡ true).
    let here : x.0 ≡ l = same_Some x.0 l (sym (ap (λ b. option_map (λ (z : Tag × Item). z.0) (cond b (Some x) (find (λ (z : Tag × Item). is_among f (fins_of z.1)) xs))) t) ∙ h) in
    loop_by_item S f l x.1 (ap (item_at S) (sym here) ∙ found.0) (in-is_among f (fins_of x.1) t))
    (λ (r : is_among f (fins_of x.1) ≡ false).
    loop_among S xs f l found.1 (sym (ap (λ b. option_map (λ (z : Tag × Item). z.0) (cond b (Some x) (find (λ (z : Tag × Item). is_among f (fins_of z.1)) xs))) r) ∙ h))
    (cases_Bool (is_among f (fins_of x.1)))

pub loop_with-found : (S : Shape) (f l : Tag) → T (is_sorted tag_cmp S) → loop_with S f ≡ Some l → LoopWith S f l
loop_with-found S f l sorted h = loop_among S S f l (each-found S sorted) h

pub loop_with-some : (S : Shape) (f : Tag) → 1 ≤ times_in_loops S f → (l : Tag) × (loop_with S f ≡ Some l)
loop_with-some [] f h = absurd (omega arith)
loop_with-some (x ∷ S) f h =
    let sum : times_in_loops (x ∷ S) f ≡ times f (fins_of x.1) + times_in_loops S f = sum_by-cons (λ (z : Tag × Item). times f (fins_of z.1)) x S in
    ⊎_elim {C = (l : Tag) × (loop_with (x ∷ S) f ≡ Some l)} (λ (t : is_among f (fins_of x.1) ≡ true).
    (x.0, ap (λ b. option_map (λ (z : Tag × Item). z.0) (cond b (Some x) (find (λ (z : Tag × Item). is_among f (fins_of z.1)) S))) t))
    (λ (r : is_among f (fins_of x.1) ≡ false).
    let none : times f (fins_of x.1) ≡ 0 = ⊎_elim (λ (z : times f (fins_of x.1) ≡ 0). z)
    (λ (p : 1 ≤ times f (fins_of x.1)). let b : true ≡ false = sym (is_among-in f (fins_of x.1) (in-times f (fins_of x.1) p)) ∙ r in absurd (cc)) (zero_or_more (times f (fins_of x.1))) in
    let rest = loop_with-some S f (omega arith) in
    (rest.0, ap (λ b. option_map (λ (z : Tag × Item). z.0) (cond b (Some x) (find (λ (z : Tag × Item). is_among f (fins_of z.1)) S))) r ∙ rest.1))
    (cases_Bool (is_among f (fins_of x.1)))

-- ---- one way up

-- g leads from each item to the same as from its owner, and from a body to itself
pub record LeadsUp (S : Shape) (g : Tag → Tag) : Type 0 where
  pub bodies : (b shell : Tag) → item_at S b ≡ Some (Body shell) → g b ≡ b
  pub shells : (s body : Tag) (q : ℤ) → item_at S s ≡ Some (Shell body q) → g body ≡ g s
  pub faces : (f shell outer : Tag) → item_at S f ≡ Some (Face shell outer) → g shell ≡ g f
  pub loops : (l face : Tag) (fins : List Tag) (vertex : Option Tag) → item_at S l ≡ Some (Loop face fins vertex) → g face ≡ g l
  pub fins : (l face : Tag) (fins : List Tag) (vertex : Option Tag) → item_at S l ≡ Some (Loop face fins vertex)
      → (f : Tag) → Contains fins f → g l ≡ g f
  pub edges : (e body : Tag) → item_at S e ≡ Some (Edge body) → g body ≡ g e
  pub vertices : (v body : Tag) (point : Point) → item_at S v ≡ Some (Vertex body point) → g body ≡ g v

-- what owns an item that is neither a body nor an attribute, and stands lower
pub record Lower (S : Shape) (t : Tag) (x : Item) : Type 0 where
  pub owner : Tag
  pub owner_is : owner_of_item S t x ≡ Some owner
  pub item : Item
  pub item_is : item_at S owner ≡ Some item
  pub less : height item < height x

abbrev pub is_part : Item → Bool
is_part (Body shell) = false
is_part (Attr owner name value) = false
is_part (Shell body q) = true
is_part (Face shell outer) = true
is_part (Loop face fins vertex) = true
is_part (Fin mate edge vertex) = true
is_part (Edge body) = true
is_part (Vertex body point) = true

abbrev pub ArePlaced : Shape → Type 0
ArePlaced S = (f mate edge vertex : Tag) → item_at S f ≡ Some (Fin mate edge vertex) → times_in_loops S f ≡ 1

body_or_part : (x : Item) → height x < 5 → ((shell : Tag) × (x ≡ Body shell)) ⊎ (is_part x ≡ true)
body_or_part (Body shell) h = inl (shell, refl)
body_or_part (Attr owner name value) h = absurd (omega arith)
body_or_part (Shell body q) h = inr refl
body_or_part (Face shell outer) h = inr refl
body_or_part (Loop face fins vertex) h = inr refl
body_or_part (Fin mate edge vertex) h = inr refl
body_or_part (Edge body) h = inr refl
body_or_part (Vertex body point) h = inr refl

module _ (S : Shape) (sorted : T (is_sorted tag_cmp S)) (kinds : (t : Tag) (x : Item) → item_at S t ≡ Some x → NamesItsKind S x) (placed : ArePlaced S) where
  lower : (t : Tag) (x : Item) (u : Tag) (c : Class) → owner_of_item S t x ≡ Some u → class_at S u ≡ Some c → height_of c < height x → Lower S t x
  lower t x u c own live less =
      let y = item_of_class (item_at S u) c live in
      let same : height y.0 ≡ height_of c = ap height_of y.2 in
      record { owner = u; owner_is = own; item = y.0; item_is = y.1; less = omega arith }

  pub owner-lower : (t : Tag) (x : Item) → item_at S t ≡ Some x → is_part x ≡ true → Lower S t x
  owner-lower t (Body shell) e h = absurd (cc)
  owner-lower t (Attr owner name value) e h = absurd (cc)
  owner-lower t (Shell body q) e h = lower t (Shell body q) body class.Body refl (kinds t _ e).0 (omega arith)
  owner-lower t (Face shell outer) e h = lower t (Face shell outer) shell class.Shell refl (kinds t _ e).0.0 (omega arith)
  owner-lower t (Loop face fins vertex) e h = lower t (Loop face fins vertex) face class.Face refl (kinds t _ e).0.0 (omega arith)
  owner-lower t (Edge body) e h = lower t (Edge body) body class.Body refl (kinds t _ e).0 (omega arith)
  owner-lower t (Vertex body point) e h = lower t (Vertex body point) body class.Body refl (kinds t _ e).0 (omega arith)
  owner-lower t (Fin mate edge vertex) e h =
      let once : times_in_loops S t ≡ 1 = placed t mate edge vertex e in
      let l = loop_with-some S t (omega arith) in
      let w = loop_with-found S t l.0 sorted l.1 in
      record { owner = l.0; owner_is = l.1; item = Loop w.face w.fins w.vertex; item_is = w.loop_is; less = omega arith }

  pub owner_or_itself-owner : (t u : Tag) (x : Item) → item_at S t ≡ Some x → owner_of_item S t x ≡ Some u → owner_or_itself S t ≡ u
  owner_or_itself-owner t u x e own = ap (λ (o : Option Item). unwrap_or (option_and_then (owner_of_item S t) o) t) e ∙ ap (λ (o : Option Tag). unwrap_or o t) own

  owner_or_itself-body : (t shell : Tag) → item_at S t ≡ Some (Body shell) → owner_or_itself S t ≡ t
  owner_or_itself-body t shell e = ap (λ (o : Option Item). unwrap_or (option_and_then (owner_of_item S t) o) t) e

  above-body : (n : ℕ) (t shell : Tag) → item_at S t ≡ Some (Body shell) → above n S t ≡ t
  above-body zero t shell e = refl
  above-body (suc n) t shell e = ap (above n S) (owner_or_itself-body t shell e) ∙ above-body n t shell e

  pub leads-owner : (g : Tag → Tag) → LeadsUp S g → (t : Tag) (x : Item) (u : Tag) → item_at S t ≡ Some x → is_part x ≡ true → owner_of_item S t x ≡ Some u → g u ≡ g t
  leads-owner g up t (Body shell) u e h own = absurd (cc)
  leads-owner g up t (Attr owner name value) u e h own = absurd (cc)
  leads-owner g up t (Shell body q) u e h own = ap g (sym (same_Some body u own)) ∙ up.shells t body q e
  leads-owner g up t (Face shell outer) u e h own = ap g (sym (same_Some shell u own)) ∙ up.faces t shell outer e
  leads-owner g up t (Loop face fins vertex) u e h own = ap g (sym (same_Some face u own)) ∙ up.loops t face fins vertex e
  leads-owner g up t (Edge body) u e h own = ap g (sym (same_Some body u own)) ∙ up.edges t body e
  leads-owner g up t (Vertex body point) u e h own = ap g (sym (same_Some body u own)) ∙ up.vertices t body point e
  leads-owner g up t (Fin mate edge vertex) u e h own = let w = loop_with-found S t u sorted own in up.fins u w.face w.fins w.vertex w.loop_is t w.among

  -- past the body nothing stands
  above-more : (n : ℕ) (t : Tag) (x : Item) → item_at S t ≡ Some x → height x < 5 → height x ≤ n → above (suc n) S t ≡ above n S t
  above-more zero t x e low h = ⊎_elim
      (λ (b : (shell : Tag) × (x ≡ Body shell)). let is = e ∙ ap Some b.1 in above-body 1 t b.0 is ∙ sym (above-body 0 t b.0 is))
      (λ (p : is_part x ≡ true). let o = owner-lower t x e p in let less : height o.item < height x = o.less in absurd (omega arith))
      (body_or_part x low)
  above-more (suc n) t x e low h = ⊎_elim
      (λ (b : (shell : Tag) × (x ≡ Body shell)). let is = e ∙ ap Some b.1 in above-body (suc (suc n)) t b.0 is ∙ sym (above-body (suc n) t b.0 is))
      (λ (p : is_part x ≡ true).
      let o = owner-lower t x e p in
      let less : height o.item < height x = o.less in
      let q = owner_or_itself-owner t o.owner x e o.owner_is in
      ap (above (suc n) S) q ∙ above-more n o.owner o.item o.item_is (omega arith) (omega arith) ∙ sym (ap (above n S) q))
      (body_or_part x low)

  above-leads : (g : Tag → Tag) → LeadsUp S g → (n : ℕ) (t : Tag) (x : Item) → item_at S t ≡ Some x → height x < 5 → height x ≤ n → above n S t ≡ g t
  above-leads g up zero t x e low h = ⊎_elim
      (λ (b : (shell : Tag) × (x ≡ Body shell)). sym (up.bodies t b.0 (e ∙ ap Some b.1)))
      (λ (p : is_part x ≡ true). let o = owner-lower t x e p in let less : height o.item < height x = o.less in absurd (omega arith))
      (body_or_part x low)
  above-leads g up (suc n) t x e low h = ⊎_elim
      (λ (b : (shell : Tag) × (x ≡ Body shell)). let is = e ∙ ap Some b.1 in above-body (suc n) t b.0 is ∙ sym (up.bodies t b.0 is))
      (λ (p : is_part x ≡ true).
      let o = owner-lower t x e p in
      let less : height o.item < height x = o.less in
      let q = owner_or_itself-owner t o.owner x e o.owner_is in
      ap (above n S) q ∙ above-leads g up n o.owner o.item o.item_is (omega arith) (omega arith) ∙ leads-owner g up t x o.owner e p o.owner_is)
      (body_or_part x low)

  above-live : (n : ℕ) (t : Tag) (x : Item) → item_at S t ≡ Some x → height x < 5 → height x ≤ n → (shell : Tag) × (item_at S (above n S t) ≡ Some (Body shell))
  above-live zero t x e low h = ⊎_elim {C = (shell : Tag) × (item_at S t ≡ Some (Body shell))}
      (λ (b : (shell : Tag) × (x ≡ Body shell)). (b.0, e ∙ ap Some b.1))
      (λ (p : is_part x ≡ true). let o = owner-lower t x e p in let less : height o.item < height x = o.less in absurd (omega arith))
      (body_or_part x low)
  above-live (suc n) t x e low h = ⊎_elim {C = (shell : Tag) × (item_at S (above n S (owner_or_itself S t)) ≡ Some (Body shell))}
      (λ (b : (shell : Tag) × (x ≡ Body shell)). let is = e ∙ ap Some b.1 in (b.0, ap (item_at S) (above-body (suc n) t b.0 is) ∙ is))
      (λ (p : is_part x ≡ true).
      let o = owner-lower t x e p in
      let less : height o.item < height x = o.less in
      let rest = above-live n o.owner o.item o.item_is (omega arith) (omega arith) in
      (rest.0, ap (λ u. item_at S (above n S u)) (owner_or_itself-owner t o.owner x e o.owner_is) ∙ rest.1))
      (body_or_part x low)

  -- the body of a live tag is live
  pub body_of-live : (t : Tag) (x : Item) → item_at S t ≡ Some x → height x < 5 → (shell : Tag) × (item_at S (body_of S t) ≡ Some (Body shell))
  body_of-live t x e low = above-live 5 t x e low (omega arith)

  -- the body of what is no attribute, by any way up
  pub body_of-leads : (g : Tag → Tag) → LeadsUp S g → (t : Tag) (x : Item) → item_at S t ≡ Some x → height x < 5 → body_of S t ≡ g t
  body_of-leads g up t x e low = above-leads g up 5 t x e low (omega arith)

  pub body_of-body : (t shell : Tag) → item_at S t ≡ Some (Body shell) → body_of S t ≡ t
  body_of-body t shell e = above-body 5 t shell e

  body_of-step : (t u : Tag) (x : Item) → item_at S t ≡ Some x → height x < 5 → owner_of_item S t x ≡ Some u → body_of S u ≡ body_of S t
  body_of-step t u x e low own = sym (ap (above 5 S) (owner_or_itself-owner t u x e own)) ∙ above-more 5 t x e low (omega arith)

  -- the body of the owner is that of what it owns
  pub body_of-LeadsUp : ((l face : Tag) (fins : List Tag) (vertex : Option Tag) → item_at S l ≡ Some (Loop face fins vertex) → (f : Tag) → Contains fins f → loop_with S f ≡ Some l) → LeadsUp S (body_of S)
  body_of-LeadsUp in_loop = record {
    bodies = λ b shell e. body_of-body b shell e;
    shells = λ s body q e. body_of-step s body (Shell body q) e (omega arith) refl;
    faces = λ f shell outer e. body_of-step f shell (Face shell outer) e (omega arith) refl;
    loops = λ l face fins vertex e. body_of-step l face (Loop face fins vertex) e (omega arith) refl;
    fins = λ l face fins vertex e f k.
        let y = fin_of_class (item_at S f) (ByRecursion-at (λ t. class_at S t ≡ Some class.Fin) fins f (kinds l (Loop face fins vertex) e).1 k) in
        body_of-step f l (Fin y.0 y.1 y.2) y.3 (omega arith) (in_loop l face fins vertex e f k);
    edges = λ e body is. body_of-step e body (Edge body) is (omega arith) refl;
    vertices = λ v body point e. body_of-step v body (Vertex body point) e (omega arith) refl;
  }

-- in a sound shape
module _ (S : Shape) (written : IsWritten S) (sound : IsSoundShape S) where
  in_loop : (l face : Tag) (fins : List Tag) (vertex : Option Tag) → item_at S l ≡ Some (Loop face fins vertex) → (f : Tag) → Contains fins f → loop_with S f ≡ Some l
  in_loop l face fins vertex e f k =
      let y = fin_of_class (item_at S f) (ByRecursion-at (λ t. class_at S t ≡ Some class.Fin) fins f (sound.names.kinds l (Loop face fins vertex) e).1 k) in
      loop_with-is S f l (Loop face fins vertex) e k (sound.placed f y.0 y.1 y.2 y.3)

  pub leads_up : LeadsUp S (body_of S)
  leads_up = body_of-LeadsUp S written.ascends sound.names.kinds sound.placed in_loop

  -- what an item names stands in its body
  pub named-in_body : (t : Tag) (x : Item) → item_at S t ≡ Some x → EachNamed (λ u. body_of S u ≡ body_of S t) x
  named-in_body t (Body shell) e = sym (leads_up.shells shell t (sound.names.shells t shell e).q (sound.names.shells t shell e).shell_is)
  named-in_body t (Shell body q) e = leads_up.shells t body q e
  named-in_body t (Face shell outer) e = let o = sound.outer t shell outer e in (leads_up.faces t shell outer e, sym (leads_up.loops outer t o.0 o.1 o.2))
  named-in_body t (Loop face fins None) e = (
    leads_up.loops t face fins None e,
    ByRecursion-contains (λ u. body_of S u ≡ body_of S t) fins (λ f k. sym (leads_up.fins t face fins None e f k)),
    tt,
  )
  named-in_body t (Loop face fins (Some vertex)) e = (
    leads_up.loops t face fins (Some vertex) e,
    ByRecursion-contains (λ u. body_of S u ≡ body_of S t) fins (λ f k. sym (leads_up.fins t face fins (Some vertex) e f k)),
    (sound.bodies.lone t face vertex fins e, tt),
  )
  named-in_body t (Fin mate edge vertex) e =
      let own = sound.bodies.fins t mate edge vertex e in
      let m = sound.mates.fins t mate edge vertex e in
      let other = sound.bodies.fins mate t edge m.end m.mate_is in
      (sym other.0 ∙ own.0, own.0, own.1)
  named-in_body t (Edge body) e = leads_up.edges t body e
  named-in_body t (Vertex body point) e = leads_up.vertices t body point e
  named-in_body t (Attr owner name value) e = tt

-- an item of a class that is not that of attributes has few owners
pub low_item : (x : Item) → class_of_item x ≢ class.Attr → height x < 5
low_item (Body shell) na = omega arith
low_item (Shell body q) na = omega arith
low_item (Face shell outer) na = omega arith
low_item (Loop face fins vertex) na = omega arith
low_item (Fin mate edge vertex) na = omega arith
low_item (Edge body) na = omega arith
low_item (Vertex body point) na = omega arith
low_item (Attr owner name value) na = absurd (na refl)

-- ---- where tags are new

-- the body of each of these tags, and else that in S
abbrev pub body_or_new : Shape → List Tag → Tag → Tag → Tag
body_or_new S new body t = cond (is_among t new) body (body_of S t)

pub new-body : (S : Shape) (new : List Tag) (body t : Tag) → Contains new t → body_or_new S new body t ≡ body
new-body S new body t k = ap (λ c. cond c body (body_of S t)) (is_among-in t new k)

pub old-body : (S : Shape) (new : List Tag) (body t : Tag) (x : Item) → AllByRecursion (λ u. item_at S u ≡ None) new → item_at S t ≡ Some x → body_or_new S new body t ≡ body_of S t
old-body S new body t x free e = ap (λ c. cond c body (body_of S t)) (not_among t new (λ k.
    let both : None ≡ Some x = sym (ByRecursion-at (λ u. item_at S u ≡ None) new t free k) ∙ e in
    cc))

-- a way that agrees with the body on live tags leads up
module _ (S : Shape) (written : IsWritten S) (sound : IsSoundShape S) (g : Tag → Tag) (agree : (t : Tag) (x : Item) → item_at S t ≡ Some x → g t ≡ body_of S t) where
  agree_class : (t : Tag) (c : Class) → class_at S t ≡ Some c → g t ≡ body_of S t
  agree_class t c h = let y = item_of_class (item_at S t) c h in agree t y.0 y.1

  pub agreed-LeadsUp : LeadsUp S g
  agreed-LeadsUp = let up = leads_up S written sound in record {
    bodies = λ b shell e. agree b _ e ∙ up.bodies b shell e;
    shells = λ s body q e. agree_class body class.Body (sound.names.kinds s (Shell body q) e).0 ∙ up.shells s body q e ∙ sym (agree s _ e);
    faces = λ f shell outer e. agree_class shell class.Shell (sound.names.kinds f (Face shell outer) e).0.0 ∙ up.faces f shell outer e ∙ sym (agree f _ e);
    loops = λ l face fins vertex e. agree_class face class.Face (sound.names.kinds l (Loop face fins vertex) e).0.0 ∙ up.loops l face fins vertex e ∙ sym (agree l _ e);
    fins = λ l face fins vertex e f k.
        agree l _ e ∙ up.fins l face fins vertex e f k ∙ sym (agree_class f class.Fin (ByRecursion-at (λ t. class_at S t ≡ Some class.Fin) fins f (sound.names.kinds l (Loop face fins vertex) e).1 k));
    edges = λ e body is. agree_class body class.Body (sound.names.kinds e (Edge body) is).0 ∙ up.edges e body is ∙ sym (agree e _ is);
    vertices = λ v body point e. agree_class body class.Body (sound.names.kinds v (Vertex body point) e).0 ∙ up.vertices v body point e ∙ sym (agree v _ e);
  }
