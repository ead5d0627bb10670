-- What is in a list.
use Rattle.std.proofs.Common.{◌≡◌, ℕ, zero, suc, ◌⊎◌, inl, inr, ⊎_elim, Bool, true, false, cond, List, [], ◌∷◌, ◌++◌, refl, sym, ap, subst, ◌∙◌, arith}
use Rattle.std.specs.Prelude.{map, filter, take, drop, Contains}
use Rattle.std.specs.List.{flat_map}
use Rattle.std.proofs.lemmas.List.{take-append-drop}
use Rattle.std.proofs.lemmas.List.Concat.{flat_map-cons}
use Rattle.std.proofs.lemmas.List.Elements.{Contains-append_left, Contains-append_right}

pub not_in_nil : {X : Type 0} (x : X) → Contains [] x → ⊥
not_in_nil x (k, h, e) = omega arith

pub Contains-first : {X : Type 0} (x : X) (xs : List X) → Contains (x ∷ xs) x
Contains-first x xs = (0, omega arith, refl)

pub Contains-later : {X : Type 0} (x : X) (xs : List X) (y : X) → Contains xs y → Contains (x ∷ xs) y
Contains-later x xs y (k, h, e) = (suc k, omega arith, e)

pub Contains-cases : {X : Type 0} (x : X) (xs : List X) (y : X) → Contains (x ∷ xs) y → (x ≡ y) ⊎ Contains xs y
Contains-cases x xs y (zero, h, e) = inl e
Contains-cases x xs y (suc k, h, e) = inr (k, omega arith, e)

-- a list of one has only that
pub Contains-only : {X : Type 0} (x y : X) → Contains (x ∷ []) y → x ≡ y
Contains-only x y (zero, h, e) = e
Contains-only x y (suc k, h, e) = absurd (omega arith)

pub Contains-take : {X : Type 0} (n : ℕ) (xs : List X) (x : X) → Contains (take n xs) x → Contains xs x
Contains-take n xs x h = subst (λ l. Contains l x) (take-append-drop n xs) (Contains-append_left (take n xs) (drop n xs) x h)

-- a list around one of its elements
pub record Around {X : Type 0} (x : X) (xs : List X) : Type 0 where
  pub ahead : List X
  pub behind : List X
  pub is : xs ≡ ahead ++ x ∷ behind

pub around : {X : Type 0} (x : X) (xs : List X) → Contains xs x → Around x xs
around x [] h = absurd (not_in_nil x h)
around x (y ∷ ys) h =
    ⊎_elim {C = Around x (y ∷ ys)} (λ (e : y ≡ x). record { ahead = []; behind = ys; is = ap (λ z. z ∷ ys) e })
    (λ (k : Contains ys x).
    let rest = around x ys k in
    record { ahead = y ∷ rest.ahead; behind = rest.behind; is = ap (λ zs. y ∷ zs) rest.is })
    (Contains-cases y ys x h)

-- ---- those that pass a test

pub Contains-filter : {X : Type 0} (p : X → Bool) (xs : List X) (x : X) → Contains xs x → p x ≡ true → Contains (filter p xs) x
Contains-filter p [] x h k = absurd (not_in_nil x h)
Contains-filter p (y ∷ ys) x h k =
    ⊎_elim (λ (e : y ≡ x). subst (λ b. Contains (cond b (y ∷ filter p ys) (filter p ys)) x) (sym (ap p e ∙ k)) (subst (Contains (y ∷ filter p ys)) e (Contains-first y (filter p ys))))
    (λ (r : Contains ys x).
    let there = Contains-filter p ys x r k in
    elim (p y) as (λ b. Contains (cond b (y ∷ filter p ys) (filter p ys)) x) [ true ↦ Contains-later y (filter p ys) x there | false ↦ there ])
    (Contains-cases y ys x h)

pub filter_contains : {X : Type 0} (p : X → Bool) (xs : List X) (x : X) → Contains (filter p xs) x → Contains xs x × (p x ≡ true)
filter_contains p [] x h = absurd (not_in_nil x h)
filter_contains p (y ∷ ys) x h =
    elim (p y) as (λ b. p y ≡ b → Contains (cond b (y ∷ filter p ys) (filter p ys)) x → Contains (y ∷ ys) x × (p x ≡ true)) [
      | true ↦ λ e k.
          ⊎_elim (λ (s : y ≡ x). (subst (Contains (y ∷ ys)) s (Contains-first y ys), ap p (sym s) ∙ e))
          (λ (r : Contains (filter p ys) x). let q = filter_contains p ys x r in (Contains-later y ys x q.0, q.1))
          (Contains-cases y (filter p ys) x k)
      | false ↦ λ e k. let q = filter_contains p ys x k in (Contains-later y ys x q.0, q.1)
    ] refl h

-- ---- those that a function gives

pub Contains-map : {A B : Type 0} (g : A → B) (xs : List A) (x : A) → Contains xs x → Contains (map g xs) (g x)
Contains-map g [] x k = absurd (not_in_nil x k)
Contains-map g (y ∷ ys) x k =
    ⊎_elim (λ (e : y ≡ x). subst (λ z. Contains (map g (y ∷ ys)) (g z)) e (Contains-first (g y) (map g ys)))
    (λ (r : Contains ys x). Contains-later (g y) (map g ys) (g x) (Contains-map g ys x r))
    (Contains-cases y ys x k)

pub map_contains : {A B : Type 0} (g : A → B) (xs : List A) (y : B) → Contains (map g xs) y → (x : A) × Contains xs x × (g x ≡ y)
map_contains {A = A} g [] y k = absurd (not_in_nil y k)
map_contains {A = A} g (x ∷ xs) y k =
    ⊎_elim {C = (z : A) × Contains (x ∷ xs) z × (g z ≡ y)} (λ (e : g x ≡ y). (x, Contains-first x xs, e))
    (λ (r : Contains (map g xs) y). let rest = map_contains g xs y r in (rest.0, Contains-later x xs rest.0 rest.1, rest.2))
    (Contains-cases (g x) (map g xs) y k)

pub Contains-flat_map : {A B : Type 0} (f : A → List B) (xs : List A) (x : A) (y : B) → Contains xs x → Contains (f x) y → Contains (flat_map f xs) y
Contains-flat_map f [] x y k l = absurd (not_in_nil x k)
Contains-flat_map f (z ∷ xs) x y k l = subst (λ ys. Contains ys y) (sym (flat_map-cons f z xs))
    (⊎_elim (λ (h : z ≡ x). Contains-append_left (f z) (flat_map f xs) y (subst (λ u. Contains (f u) y) (sym h) l))
    (λ (r : Contains xs x). Contains-append_right (f z) (flat_map f xs) y (Contains-flat_map f xs x y r l))
    (Contains-cases z xs x k))
