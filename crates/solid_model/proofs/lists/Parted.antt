-- The two rings in which a new edge parts a ring.
use Rattle.std.proofs.Common.{◌≡◌, ◌≢◌, ◌+◌, ◌≤◌, ◌⊎◌, inl, inr, ⊎_elim, List, [], ◌∷◌, ◌++◌, sym, ap, subst, ◌∙◌, arith}
use Rattle.std.specs.Prelude.{Contains}
use Rattle.std.specs.List.{AllByRecursion}
use Rattle.std.proofs.lemmas.List.Elements.{Contains-append_left, Contains-append_right}
use Rattle.pk_base.specs.Entity.{same_tag}
use Rattle.pk_base.specs.declared.tag.Tag.{Tag}
use Rattle.pk_model.specs.Apart.{NoRepeats}
use Rattle.solid_model.specs.Rings.{neighbours, neighbours_from}
use Rattle.list_facts.proofs.Elements.{Contains-first, Contains-later}
use Rattle.list_facts.proofs.Each.{ByRecursion-append, ByRecursion-at, ByRecursion-left, ByRecursion-right}
use Rattle.solid_model.proofs.lists.Neighbours.{one_if, times, times-cons, times-append, times-in, times-once, neighbours_from-append}
use Rattle.pk_base.proofs.Same.{same_itself}
use Rattle.solid_model.proofs.lists.Cycles.{merge-first, merge-second, merge-cases}
use Rattle.solid_model.proofs.lists.Turned.{chain_end, all_to_end}

-- Of the ring of f, the list ts, g and the list us: the ring of f, ts and n, and that of g, us and m.
module _ (f g n m : Tag) (ts us : List Tag) where
  abbrev pub whole : List Tag
  whole = f ∷ ts ++ g ∷ us

  abbrev pub first_part : List Tag
  first_part = f ∷ ts ++ n ∷ []

  abbrev pub second_part : List Tag
  second_part = g ∷ us ++ m ∷ []

  whole-is : neighbours whole ≡ neighbours_from g f ts ++ neighbours_from f g us
  whole-is = neighbours_from-append f f ts g us

  first-is : neighbours first_part ≡ neighbours_from n f ts ++ (n, f) ∷ []
  first-is = neighbours_from-append f f ts n []

  second-is : neighbours second_part ≡ neighbours_from m g us ++ (m, g) ∷ []
  second-is = neighbours_from-append g g us m []

  in_first : (x : Tag × Tag) → Contains (neighbours_from n f ts) x → Contains (neighbours first_part) x
  in_first x k = merge-first f ts n [] x k

  in_second : (x : Tag × Tag) → Contains (neighbours_from m g us) x → Contains (neighbours second_part) x
  in_second x k = merge-first g us m [] x k

  pub parted-after_n : Contains {X = Tag × Tag} (neighbours first_part) (n, f)
  parted-after_n = merge-second f ts n [] (n, f) (Contains-first {X = Tag × Tag} (n, f) [])

  pub parted-after_m : Contains {X = Tag × Tag} (neighbours second_part) (m, g)
  parted-after_m = merge-second g us m [] (m, g) (Contains-first {X = Tag × Tag} (m, g) [])

  -- a tag of the one list is neither f nor g
  not_first : NoRepeats whole → (q : Tag) → Contains (ts ++ g ∷ us) q → q ≢ f
  not_first once q k e = ByRecursion-at (λ t. f ≢ t) (ts ++ g ∷ us) q once.0 k (sym e)

  not_middle : NoRepeats whole → (q : Tag) → 1 ≤ times q ts + times q us → q ≢ g
  not_middle once q k e =
      let most = times-once (ts ++ g ∷ us) q once.1 in
      let sum = times-append q ts (g ∷ us) in
      let more = times-cons q g us in
      let one : one_if (same_tag g q) ≡ 1 = ap (λ t. one_if (same_tag t q)) (sym e) ∙ ap one_if (same_itself q) in
      omega (arith, most, sum, more, one, k)

  in_ts : NoRepeats whole → (q : Tag) → Contains ts q → (q ≢ f) × (q ≢ g)
  in_ts once q k = (not_first once q (Contains-append_left ts (g ∷ us) q k), not_middle once q (let some = times-in q ts k in omega (arith, some)))

  in_us : NoRepeats whole → (q : Tag) → Contains us q → (q ≢ f) × (q ≢ g)
  in_us once q k = (not_first once q (Contains-append_right ts (g ∷ us) q (Contains-later g us q k)), not_middle once q (let some = times-in q us k in omega (arith, some)))

  pub ends_apart : NoRepeats whole → g ≢ f
  ends_apart once = not_first once g (Contains-append_right ts (g ∷ us) g (Contains-first g us))

  -- where the neighbours of the whole come to stand
  abbrev pub Place : Tag → Tag → Type 0
  Place p q = ((q ≡ g) × Contains {X = Tag × Tag} (neighbours first_part) (p, n)) ⊎ ((q ≡ f) × Contains {X = Tag × Tag} (neighbours second_part) (p, m))
      ⊎ ((q ≢ f) × (q ≢ g) × (Contains {X = Tag × Tag} (neighbours first_part) (p, q) ⊎ Contains {X = Tag × Tag} (neighbours second_part) (p, q)))

  pub parted : NoRepeats whole → (p q : Tag) → Contains {X = Tag × Tag} (neighbours whole) (p, q) → Place p q
  parted once p q k = ⊎_elim {C = Place p q}
      (λ (l : Contains {X = Tag × Tag} (neighbours_from g f ts) (p, q)). ⊎_elim {C = Place p q}
      (λ (a : (q ≡ g) × Contains {X = Tag × Tag} (neighbours_from n f ts) (p, n)). inl (a.0, in_first (p, n) a.1))
      (λ (a : Contains ts q × Contains {X = Tag × Tag} (neighbours_from n f ts) (p, q)). let other = in_ts once q a.0 in inr (inr (other.0, other.1, inl (in_first (p, q) a.1))))
      (chain_end g n f ts p q l))
      (λ (r : Contains {X = Tag × Tag} (neighbours_from f g us) (p, q)). ⊎_elim {C = Place p q}
      (λ (a : (q ≡ f) × Contains {X = Tag × Tag} (neighbours_from m g us) (p, m)). inr (inl (a.0, in_second (p, m) a.1)))
      (λ (a : Contains us q × Contains {X = Tag × Tag} (neighbours_from m g us) (p, q)). let other = in_us once q a.0 in inr (inr (other.0, other.1, inr (in_second (p, q) a.1))))
      (chain_end f m g us p q r))
      (merge-cases f ts g us (p, q) k)

  pub first-all : (P : Tag × Tag → Type 0) → P (n, f) → ((p : Tag) → P (p, g) → P (p, n)) → AllByRecursion P (neighbours whole) → AllByRecursion P (neighbours first_part)
  first-all P last h all = subst (AllByRecursion P) (sym first-is) (ByRecursion-append P (neighbours_from n f ts) ((n, f) ∷ [])
      (all_to_end P g n f ts h (ByRecursion-left P (neighbours_from g f ts) (neighbours_from f g us) (subst (AllByRecursion P) whole-is all))) (last, tt))

  pub second-all : (P : Tag × Tag → Type 0) → P (m, g) → ((p : Tag) → P (p, f) → P (p, m)) → AllByRecursion P (neighbours whole) → AllByRecursion P (neighbours second_part)
  second-all P last h all = subst (AllByRecursion P) (sym second-is) (ByRecursion-append P (neighbours_from m g us) ((m, g) ∷ [])
      (all_to_end P f m g us h (ByRecursion-right P (neighbours_from g f ts) (neighbours_from f g us) (subst (AllByRecursion P) whole-is all))) (last, tt))

  pub first-each : (P : Tag → Type 0) → P n → AllByRecursion P whole → AllByRecursion P first_part
  first-each P h all = (all.0, ByRecursion-append P ts (n ∷ []) (ByRecursion-left P ts (g ∷ us) all.1) (h, tt))

  pub second-each : (P : Tag → Type 0) → P m → AllByRecursion P whole → AllByRecursion P second_part
  second-each P h all = let rest = ByRecursion-right P ts (g ∷ us) all.1 in (rest.0, ByRecursion-append P us (m ∷ []) rest.1 (h, tt))

  pub parted-times : (t : Tag) → times t first_part + times t second_part ≡ (one_if (same_tag n t) + one_if (same_tag m t)) + times t whole
  parted-times t =
      let a = times-cons t f (ts ++ n ∷ []) in
      let b = times-append t ts (n ∷ []) in
      let c = times-cons t n [] in
      let d = times-cons t g (us ++ m ∷ []) in
      let e = times-append t us (m ∷ []) in
      let i = times-cons t m [] in
      let j = times-cons t f (ts ++ g ∷ us) in
      let k = times-append t ts (g ∷ us) in
      let l = times-cons t g us in
      omega (arith, a, b, c, d, e, i, j, k, l)
