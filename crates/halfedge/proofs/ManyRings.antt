-- Several rings of one map, no fin of which stands in two of them: what a splice makes of them.
use Rattle.std.proofs.Common.{◌≡◌, ◌⊎◌, inl, inr, ⊎_elim, List, [], ◌∷◌, ◌++◌, Some, sym, ap, subst, ◌∙◌, append_assoc, arith}
use Rattle.std.specs.Prelude.{Contains}
use Rattle.std.specs.List.{AllByRecursion}
use Rattle.std.proofs.lemmas.Option.{same_Some}
use Rattle.std.proofs.lemmas.List.Elements.{Contains-append_left, Contains-append_right, Contains-append_cases}
use Rattle.pk_base.specs.declared.tag.Tag.{Tag}
use Rattle.pk_model.specs.Apart.{NoRepeats}
use Rattle.pk_model.specs.Maps.{EntityMap}
use Rattle.pk_model.proofs.TagLists.{NoRepeats-between}
use Rattle.solid_model.specs.Rings.{last_of, next_in, previous_in, neighbours, neighbours_from}
use Rattle.solid_model.proofs.lists.Neighbours.{head_or, neighbours-in, times, times-append, times-once, once-times}
use Rattle.solid_model.proofs.lists.Cycles.{steps, step_or_last, step-in, last-in, merge-first, merge-second, merge-cases, last_of-append}
use Rattle.solid_model.proofs.lists.Turned.{Turned, turned-times}
use Rattle.halfedge.specs.LinkedRings.{AreLinked, IsRing, prev_at}
use Rattle.halfedge.proofs.LinkedRings.{next-told, linked-at, first-links, ring-turned}
use Rattle.list_facts.proofs.Elements.{Contains-first}
use Rattle.list_facts.proofs.Each.{ByRecursion-contains}
use Rattle.halfedge.specs.Splices.{Joins, Splices}
use Rattle.halfedge.proofs.Joined.{linked-joined}

-- the fins of all rings
abbrev pub all_fins : List (List Tag) → List Tag
all_fins [] = []
all_fins (ring ∷ rings) = ring ++ all_fins rings

abbrev all_neighbours : List (List Tag) → List (Tag × Tag)
all_neighbours [] = []
all_neighbours (ring ∷ rings) = neighbours ring ++ all_neighbours rings

-- each is a ring, and no fin stands twice in all of them
pub record AreRings (m : EntityMap) (rings : List (List Tag)) : Type 0 where
  pub once : NoRepeats (all_fins rings)
  pub each : AllByRecursion (IsRing m) rings

-- ---- no fin has two next ones

once-left : (xs ys : List Tag) → NoRepeats (xs ++ ys) → NoRepeats xs
once-left xs ys once = once-times xs (λ f k. omega (arith, times-append f xs ys, times-once (xs ++ ys) f once))

once-right : (xs ys : List Tag) → NoRepeats (xs ++ ys) → NoRepeats ys
once-right xs ys once = once-times ys (λ f k. omega (arith, times-append f xs ys, times-once (xs ++ ys) f once))

neighbours_in_all : (rings : List (List Tag)) (n : Tag × Tag) → Contains (all_neighbours rings) n → Contains (all_fins rings) n.0 × Contains (all_fins rings) n.1
neighbours_in_all [] n k = absurd (let (i, less, e) = k in omega arith)
neighbours_in_all (ring ∷ rings) n k =
    ⊎_elim {C = Contains (ring ++ all_fins rings) n.0 × Contains (ring ++ all_fins rings) n.1}
    (λ (l : Contains (neighbours ring) n).
    let both = neighbours-in ring n l in
    (Contains-append_left ring (all_fins rings) n.0 both.0, Contains-append_left ring (all_fins rings) n.1 both.1))
    (λ (r : Contains (all_neighbours rings) n).
    let both = neighbours_in_all rings n r in
    (Contains-append_right ring (all_fins rings) n.0 both.0, Contains-append_right ring (all_fins rings) n.1 both.1))
    (Contains-append_cases (neighbours ring) (all_neighbours rings) n k)

-- two pairs of neighbours begin with one fin just where they end with one fin
agree : (rings : List (List Tag)) → NoRepeats (all_fins rings) → (a b c d : Tag) → Contains (all_neighbours rings) (a, b) → Contains (all_neighbours rings) (c, d) → (a ≡ c → b ≡ d) × (b ≡ d → a ≡ c)
agree [] once a b c d h k = absurd (let (i, less, e) = h in omega arith)
agree (ring ∷ rings) once a b c d h k =
    ⊎_elim {C = (a ≡ c → b ≡ d) × (b ≡ d → a ≡ c)}
    (λ (l : Contains (neighbours ring) (a, b)).
    ⊎_elim {C = (a ≡ c → b ≡ d) × (b ≡ d → a ≡ c)}
    (λ (j : Contains (neighbours ring) (c, d)).
    let one = next-told ring (once-left ring (all_fins rings) once) a b l in
    let other = next-told ring (once-left ring (all_fins rings) once) c d j in
    (λ e. sym one.0 ∙ ap (next_in ring) e ∙ other.0, λ e. sym one.1 ∙ ap (previous_in ring) e ∙ other.1))
    (λ (j : Contains (all_neighbours rings) (c, d)).
    let one = neighbours-in ring (a, b) l in
    let other = neighbours_in_all rings (c, d) j in (
      λ e. absurd (NoRepeats-between ring (all_fins rings) a once one.0 (subst (Contains (all_fins rings)) (sym e) other.0)),
      λ e. absurd (NoRepeats-between ring (all_fins rings) b once one.1 (subst (Contains (all_fins rings)) (sym e) other.1)),
    ))
    (Contains-append_cases (neighbours ring) (all_neighbours rings) (c, d) k))
    (λ (r : Contains (all_neighbours rings) (a, b)).
    ⊎_elim {C = (a ≡ c → b ≡ d) × (b ≡ d → a ≡ c)}
    (λ (j : Contains (neighbours ring) (c, d)).
    let one = neighbours_in_all rings (a, b) r in
    let other = neighbours-in ring (c, d) j in (
      λ e. absurd (NoRepeats-between ring (all_fins rings) c once other.0 (subst (Contains (all_fins rings)) e one.0)),
      λ e. absurd (NoRepeats-between ring (all_fins rings) d once other.1 (subst (Contains (all_fins rings)) e one.1)),
    ))
    (λ (j : Contains (all_neighbours rings) (c, d)). agree rings (once-right ring (all_fins rings) once) a b c d r j)
    (Contains-append_cases (neighbours ring) (all_neighbours rings) (c, d) k))
    (Contains-append_cases (neighbours ring) (all_neighbours rings) (a, b) h)

-- ---- rings are their links

rings-linked : (m : EntityMap) (rings : List (List Tag)) → AllByRecursion (IsRing m) rings → (n : Tag × Tag) → Contains (all_neighbours rings) n → AreLinked m n.0 n.1
rings-linked m [] each n k = absurd (let (i, less, e) = k in omega arith)
rings-linked m (ring ∷ rings) each n k =
    ⊎_elim {C = AreLinked m n.0 n.1}
    (λ (l : Contains (neighbours ring) n). linked-at m ring each.0 n.0 n.1 l)
    (λ (r : Contains (all_neighbours rings) n). rings-linked m rings each.1 n r)
    (Contains-append_cases (neighbours ring) (all_neighbours rings) n k)

linked-rings : (m : EntityMap) (rings : List (List Tag)) → NoRepeats (all_fins rings) → ((n : Tag × Tag) → Contains (all_neighbours rings) n → AreLinked m n.0 n.1) → AllByRecursion (IsRing m) rings
linked-rings m [] once linked = tt
linked-rings m (ring ∷ rings) once linked = (
  record {
    once = once-left ring (all_fins rings) once;
    linked = ByRecursion-contains (λ (n : Tag × Tag). AreLinked m n.0 n.1) (neighbours ring) (λ n k. linked n (Contains-append_left (neighbours ring) (all_neighbours rings) n k));
  },
  linked-rings m rings (once-right ring (all_fins rings) once) (λ n k. linked n (Contains-append_right (neighbours ring) (all_neighbours rings) n k)),
)

-- Two fins are joined with their next ones of the rings that come to be; all else of these rings
-- is linked already.
joined-twice : (m k n : EntityMap) (a b c d : Tag) → Joins m a b k → Joins k c d n → (rings : List (List Tag)) → NoRepeats (all_fins rings)
    → Contains (all_neighbours rings) (a, b) → Contains (all_neighbours rings) (c, d)
    → ((p : Tag × Tag) → Contains (all_neighbours rings) p → ((a, b) ≡ p) ⊎ ((c, d) ≡ p) ⊎ AreLinked m p.0 p.1)
    → AreRings n rings
joined-twice m k n a b c d one other rings once ab cd was = record { once = once; each = linked-rings n rings once all }
  where
    then : (x y : Tag) → Contains (all_neighbours rings) (x, y) → AreLinked k x y → AreLinked n x y
    then x y h l = let both = agree rings once x y c d h cd in linked-joined k n c d x y other both.0 both.1 l

    first : (x y : Tag) → Contains (all_neighbours rings) (x, y) → AreLinked m x y → AreLinked n x y
    first x y h l = let both = agree rings once x y a b h ab in then x y h (linked-joined m k a b x y one both.0 both.1 l)

    all : (p : Tag × Tag) → Contains (all_neighbours rings) p → AreLinked n p.0 p.1
    all p h =
        ⊎_elim {C = AreLinked n p.0 p.1}
        (λ (e : (a, b) ≡ p). subst (λ (q : Tag × Tag). AreLinked n q.0 q.1) e (then a b ab one.linked))
        (λ (r : ((c, d) ≡ p) ⊎ AreLinked m p.0 p.1).
        ⊎_elim {C = AreLinked n p.0 p.1} (λ (e : (c, d) ≡ p). subst (λ (q : Tag × Tag). AreLinked n q.0 q.1) e other.linked) (λ (l : AreLinked m p.0 p.1). first p.0 p.1 h l) r)
        (was p h)

-- ---- the rings in another order, or written from other fins

pub rings-as : (m : EntityMap) (rings others : List (List Tag)) → AreRings m rings → AllByRecursion (IsRing m) others → ((t : Tag) → times t (all_fins others) ≡ times t (all_fins rings)) → AreRings m others
rings-as m rings others h each same = record {
  once = once-times (all_fins others) (λ f k. omega (arith, same f, times-once (all_fins rings) f h.once));
  each = each;
}

module _ (m : EntityMap) (P Q : List Tag) (rings : List (List Tag)) where
  pub rings-swapped : AreRings m (P ∷ Q ∷ rings) → AreRings m (Q ∷ P ∷ rings)
  rings-swapped h = rings-as m (P ∷ Q ∷ rings) (Q ∷ P ∷ rings) h (h.each.1.0, (h.each.0, h.each.1.1)) (λ t.
      omega (arith, times-append t P (Q ++ all_fins rings), times-append t Q (all_fins rings), times-append t Q (P ++ all_fins rings), times-append t P (all_fins rings)))

  pub rings-turned : Turned P Q → AreRings m (P ∷ rings) → AreRings m (Q ∷ rings)
  rings-turned turned h = rings-as m (P ∷ rings) (Q ∷ rings) h (ring-turned m P Q turned h.each.0, h.each.1) (λ t.
      omega (arith, times-append t P (all_fins rings), times-append t Q (all_fins rings), turned-times P Q turned t))

pub rings-later : (m : EntityMap) (P Q R : List Tag) (rings : List (List Tag)) → AreRings m (P ∷ Q ∷ R ∷ rings) → AreRings m (P ∷ R ∷ Q ∷ rings)
rings-later m P Q R rings h = rings-as m (P ∷ Q ∷ R ∷ rings) (P ∷ R ∷ Q ∷ rings) h (h.each.0, (h.each.1.1.0, (h.each.1.0, h.each.1.1.1))) (λ t.
    omega (arith, times-append t P (Q ++ (R ++ all_fins rings)), times-append t P (R ++ (Q ++ all_fins rings)), times-append t Q (R ++ all_fins rings), times-append t R (Q ++ all_fins rings), times-append t R (all_fins rings), times-append t Q (all_fins rings)))

-- ---- what a splice makes

-- the fins before f and g, where they stand in one ring
pub before-first : (m : EntityMap) (f g : Tag) (A B : List Tag) → IsRing m ((f ∷ A) ++ g ∷ B) → prev_at m f ≡ Some (last_of g B)
before-first m f g A B r = (first-links m f (A ++ g ∷ B) r).1 ∙ ap Some (last_of-append f A g B)

pub before-second : (m : EntityMap) (f g : Tag) (A B : List Tag) → IsRing m ((f ∷ A) ++ g ∷ B) → prev_at m g ≡ Some (last_of f A)
before-second m f g A B r = (linked-at m ((f ∷ A) ++ g ∷ B) r (last_of f A) g (merge-first f A g B (last_of f A, g) (last-in g f A))).prev

module _ (m n : EntityMap) (f g : Tag) (s : Splices m f g n) (A B : List Tag) (rings : List (List Tag)) where
  abbrev apart : List (List Tag)
  apart = (f ∷ A) ∷ (g ∷ B) ∷ rings

  abbrev together : List (List Tag)
  together = ((f ∷ A) ++ g ∷ B) ∷ rings

  -- of two rings one
  pub spliced-one : AreRings m apart → AreRings n together
  spliced-one h =
      let before_f : s.before_f ≡ last_of f A = same_Some s.before_f (last_of f A) (sym s.f_was ∙ (first-links m f A h.each.0).1) in
      let before_g : s.before_g ≡ last_of g B = same_Some s.before_g (last_of g B) (sym s.g_was ∙ (first-links m g B h.each.1.0).1) in
      joined-twice m s.between n (last_of f A) g (last_of g B) f (subst (λ t. Joins m t g s.between) before_f s.one) (subst (λ t. Joins s.between t f n) before_g s.other)
      together (subst NoRepeats (sym (append_assoc (f ∷ A) (g ∷ B) (all_fins rings))) h.once)
      (Contains-append_left (neighbours ((f ∷ A) ++ g ∷ B)) (all_neighbours rings) (last_of f A, g) (merge-first f A g B (last_of f A, g) (last-in g f A)))
      (Contains-append_left (neighbours ((f ∷ A) ++ g ∷ B)) (all_neighbours rings) (last_of g B, f) (merge-second f A g B (last_of g B, f) (last-in f g B)))
      (λ p k. ⊎_elim {C = ((last_of f A, g) ≡ p) ⊎ ((last_of g B, f) ≡ p) ⊎ AreLinked m p.0 p.1}
      (λ (l : Contains (neighbours ((f ∷ A) ++ g ∷ B)) p).
      ⊎_elim {C = ((last_of f A, g) ≡ p) ⊎ ((last_of g B, f) ≡ p) ⊎ AreLinked m p.0 p.1}
      (λ (x : Contains (neighbours_from g f A) p).
      ⊎_elim {C = ((last_of f A, g) ≡ p) ⊎ ((last_of g B, f) ≡ p) ⊎ AreLinked m p.0 p.1}
      (λ (i : Contains (steps f A) p). inr (inr (linked-at m (f ∷ A) h.each.0 p.0 p.1 (step-in f f A p i))))
      (λ (e : (last_of f A, g) ≡ p). inl e)
      (step_or_last g f A p x))
      (λ (x : Contains (neighbours_from f g B) p).
      ⊎_elim {C = ((last_of f A, g) ≡ p) ⊎ ((last_of g B, f) ≡ p) ⊎ AreLinked m p.0 p.1}
      (λ (i : Contains (steps g B) p). inr (inr (linked-at m (g ∷ B) h.each.1.0 p.0 p.1 (step-in g g B p i))))
      (λ (e : (last_of g B, f) ≡ p). inr (inl e))
      (step_or_last f g B p x))
      (merge-cases f A g B p l))
      (λ (r : Contains (all_neighbours rings) p). inr (inr (rings-linked m rings h.each.1.1 p r)))
      (Contains-append_cases (neighbours ((f ∷ A) ++ g ∷ B)) (all_neighbours rings) p k))

  -- of one ring two
  pub spliced-two : AreRings m together → AreRings n apart
  spliced-two h =
      let before_f : s.before_f ≡ last_of g B = same_Some s.before_f (last_of g B) (sym s.f_was ∙ before-first m f g A B h.each.0) in
      let before_g : s.before_g ≡ last_of f A = same_Some s.before_g (last_of f A) (sym s.g_was ∙ before-second m f g A B h.each.0) in
      let rest = neighbours (g ∷ B) ++ all_neighbours rings in
      joined-twice m s.between n (last_of g B) g (last_of f A) f (subst (λ t. Joins m t g s.between) before_f s.one) (subst (λ t. Joins s.between t f n) before_g s.other)
      apart (subst NoRepeats (append_assoc (f ∷ A) (g ∷ B) (all_fins rings)) h.once)
      (Contains-append_right (neighbours (f ∷ A)) rest (last_of g B, g) (Contains-append_left (neighbours (g ∷ B)) (all_neighbours rings) (last_of g B, g) (last-in g g B)))
      (Contains-append_left (neighbours (f ∷ A)) rest (last_of f A, f) (last-in f f A))
      (λ p k. ⊎_elim {C = ((last_of g B, g) ≡ p) ⊎ ((last_of f A, f) ≡ p) ⊎ AreLinked m p.0 p.1}
      (λ (x : Contains (neighbours_from f f A) p).
      ⊎_elim {C = ((last_of g B, g) ≡ p) ⊎ ((last_of f A, f) ≡ p) ⊎ AreLinked m p.0 p.1}
      (λ (i : Contains (steps f A) p). inr (inr (linked-at m ((f ∷ A) ++ g ∷ B) h.each.0 p.0 p.1 (merge-first f A g B p (step-in g f A p i)))))
      (λ (e : (last_of f A, f) ≡ p). inr (inl e))
      (step_or_last f f A p x))
      (λ (y : Contains rest p).
      ⊎_elim {C = ((last_of g B, g) ≡ p) ⊎ ((last_of f A, f) ≡ p) ⊎ AreLinked m p.0 p.1}
      (λ (x : Contains (neighbours_from g g B) p).
      ⊎_elim {C = ((last_of g B, g) ≡ p) ⊎ ((last_of f A, f) ≡ p) ⊎ AreLinked m p.0 p.1}
      (λ (i : Contains (steps g B) p). inr (inr (linked-at m ((f ∷ A) ++ g ∷ B) h.each.0 p.0 p.1 (merge-second f A g B p (step-in f g B p i)))))
      (λ (e : (last_of g B, g) ≡ p). inl e)
      (step_or_last g g B p x))
      (λ (r : Contains (all_neighbours rings) p). inr (inr (rings-linked m rings h.each.1 p r)))
      (Contains-append_cases (neighbours (g ∷ B)) (all_neighbours rings) p y))
      (Contains-append_cases (neighbours (f ∷ A)) rest p k))

-- f is taken out of its ring
pub unhooked : (m n : EntityMap) (f : Tag) (A : List Tag) (rings : List (List Tag)) → Splices m f (head_or f A) n → AreRings m ((f ∷ A) ∷ rings) → AreRings n ((f ∷ []) ∷ A ∷ rings)
unhooked m n f [] rings s h =
    let before_f : s.before_f ≡ f = same_Some s.before_f f (sym s.f_was ∙ (first-links m f [] h.each.0).1) in
    let before_g : s.before_g ≡ f = same_Some s.before_g f (sym s.g_was ∙ (first-links m f [] h.each.0).1) in
    let alone = Contains-first (f, f) (all_neighbours rings) in
    let still = joined-twice m s.between n f f f f (subst (λ t. Joins m t f s.between) before_f s.one) (subst (λ t. Joins s.between t f n) before_g s.other)
    ((f ∷ []) ∷ rings) h.once alone alone (λ p k. inr (inr (rings-linked m ((f ∷ []) ∷ rings) h.each p k))) in
    record { once = still.once; each = (still.each.0, (record { once = tt; linked = tt }, still.each.1)) }
unhooked m n f (g ∷ B) rings s h = spliced-two m n f g s [] B rings h
