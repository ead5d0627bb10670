-- What holds of each element of a list.
use Rattle.std.proofs.Common.{ℕ, zero, suc, ◌<◌, Bool, true, false, cond, List, [], ◌∷◌, ◌++◌, length, take, drop, get_or, arith}
use Rattle.std.specs.Prelude.{map, filter, Contains}
use Rattle.std.specs.List.{AllByRecursion}
use Rattle.std.proofs.lemmas.List.Elements.{All-weaker, All-contains, All-contains_itself, All-from_recursion, recursion_from_All}

pub ByRecursion-append : {X : Type 0} (P : X → Type 0) (xs ys : List X) → AllByRecursion P xs → AllByRecursion P ys → AllByRecursion P (xs ++ ys)
ByRecursion-append P [] ys h k = k
ByRecursion-append P (x ∷ xs) ys h k = (h.0, ByRecursion-append P xs ys h.1 k)

pub ByRecursion-left : {X : Type 0} (P : X → Type 0) (xs ys : List X) → AllByRecursion P (xs ++ ys) → AllByRecursion P xs
ByRecursion-left P [] ys h = tt
ByRecursion-left P (x ∷ xs) ys h = (h.0, ByRecursion-left P xs ys h.1)

pub ByRecursion-right : {X : Type 0} (P : X → Type 0) (xs ys : List X) → AllByRecursion P (xs ++ ys) → AllByRecursion P ys
ByRecursion-right P [] ys h = h
ByRecursion-right P (x ∷ xs) ys h = ByRecursion-right P xs ys h.1

pub ByRecursion-take : {X : Type 0} (P : X → Type 0) (n : ℕ) (xs : List X) → AllByRecursion P xs → AllByRecursion P (take n xs)
ByRecursion-take P zero xs h = tt
ByRecursion-take P (suc n) [] h = tt
ByRecursion-take P (suc n) (x ∷ xs) h = (h.0, ByRecursion-take P n xs h.1)

pub ByRecursion-drop : {X : Type 0} (P : X → Type 0) (n : ℕ) (xs : List X) → AllByRecursion P xs → AllByRecursion P (drop n xs)
ByRecursion-drop P zero xs h = h
ByRecursion-drop P (suc n) [] h = h
ByRecursion-drop P (suc n) (x ∷ xs) h = ByRecursion-drop P n xs h.1

pub ByRecursion-filter : {X : Type 0} (P : X → Type 0) (p : X → Bool) (xs : List X) → AllByRecursion P xs → AllByRecursion P (filter p xs)
ByRecursion-filter P p [] h = tt
ByRecursion-filter P p (x ∷ xs) h =
    let rest = ByRecursion-filter P p xs h.1 in
    elim (p x) as (λ b. AllByRecursion P (cond b (x ∷ filter p xs) (filter p xs))) [ true ↦ (h.0, rest) | false ↦ rest ]

pub ByRecursion-weaker : {X : Type 0} (P Q : X → Type 0) → ((x : X) → P x → Q x) → (xs : List X) → AllByRecursion P xs → AllByRecursion Q xs
ByRecursion-weaker P Q f [] h = tt
ByRecursion-weaker P Q f (x ∷ xs) h = (f x h.0, ByRecursion-weaker P Q f xs h.1)

pub ByRecursion-map : {X Y : Type 0} (P : X → Type 0) (Q : Y → Type 0) (f : X → Y) → ((x : X) → P x → Q (f x)) → (xs : List X) → AllByRecursion P xs → AllByRecursion Q (map f xs)
ByRecursion-map P Q f g [] h = tt
ByRecursion-map P Q f g (x ∷ xs) h = (g x h.0, ByRecursion-map P Q f g xs h.1)

pub ByRecursion-contains : {X : Type 0} (P : X → Type 0) (xs : List X) → ((x : X) → Contains xs x → P x) → AllByRecursion P xs
ByRecursion-contains P xs f = recursion_from_All P xs (All-weaker (Contains xs) P f xs (All-contains_itself xs))

-- what holds of each element holds of the one at a place
pub ByRecursion-get_or : {X : Type 0} (P : X → Type 0) (xs : List X) (i : ℕ) (d : X) → i < length xs → AllByRecursion P xs → P (get_or xs i d)
ByRecursion-get_or P [] i d h k = absurd (omega arith)
ByRecursion-get_or P (x ∷ xs) zero d h k = k.0
ByRecursion-get_or P (x ∷ xs) (suc i) d h k = ByRecursion-get_or P xs i d (omega arith) k.1

-- and of one that is in the list
pub ByRecursion-at : {X : Type 0} (P : X → Type 0) (xs : List X) (x : X) → AllByRecursion P xs → Contains xs x → P x
ByRecursion-at P xs x h k = All-contains P xs x (All-from_recursion P xs h) k
