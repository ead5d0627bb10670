-- A cyclic list is the same from wherever it is written.
use Rattle.std.proofs.Common.{◌≡◌, ◌≤◌, ◌⊎◌, inl, inr, ⊎_elim, List, [], ◌∷◌, ◌++◌, length, refl, sym, ap, subst, ◌∙◌, append_assoc, arith}
use Rattle.std.specs.Prelude.{Contains}
use Rattle.std.specs.List.{AllByRecursion}
use Rattle.std.proofs.lemmas.List.{length-append}
use Rattle.pk_base.specs.Blocks.{tag}
use Rattle.pk_base.specs.declared.tag.Tag.{Tag}
use Rattle.pk_model.specs.Apart.{NoRepeats}
use Rattle.solid_model.specs.Rings.{written_from, least_of, from_least}
use Rattle.list_facts.proofs.Lengths.{nil_of_length}
use Rattle.list_facts.proofs.Each.{ByRecursion-at}
use Rattle.solid_model.proofs.lists.Neighbours.{parts, parts_at}
use Rattle.solid_model.proofs.lists.Cycles.{least, least-first, written-itself}
use Rattle.solid_model.proofs.lists.Turned.{Turned, turned-back, turned-in, turned-once, turned-least}
use Rattle.solid_model.proofs.Reading.{not_before}
use Rattle.solid_forms.proofs.InOrder.{head_is, tail_is}

pub written_at : (f : Tag) (pre post : List Tag) → ¬ (Contains pre f) → written_from f (pre ++ f ∷ post) ≡ (f ∷ post) ++ pre
written_at f pre post h = let p = parts_at f pre post h in λ i. p.1 i ++ p.0 i

-- ---- one list in two parts, in two ways

-- the place t is in the first part, or in the second
record InFirst (t : Tag) (pre post P Q : List Tag) : Type 0 where
  rest : List Tag
  first_is : P ≡ pre ++ t ∷ rest
  post_is : post ≡ rest ++ Q

record InSecond (t : Tag) (pre post P Q : List Tag) : Type 0 where
  rest : List Tag
  pre_is : pre ≡ P ++ rest
  second_is : Q ≡ rest ++ t ∷ post

in_part : (t : Tag) (pre post P Q : List Tag) → pre ++ t ∷ post ≡ P ++ Q → InFirst t pre post P Q ⊎ InSecond t pre post P Q
in_part t pre post [] Q h = inr (record { rest = pre; pre_is = refl; second_is = sym h })
in_part t [] post (p ∷ P) Q h = inl (record { rest = P; first_is = ap (λ x. x ∷ P) (sym (head_is t p post (P ++ Q) h)); post_is = tail_is t p post (P ++ Q) h })
in_part t (a ∷ pre) post (p ∷ P) Q h =
    let same : a ≡ p = head_is a p (pre ++ t ∷ post) (P ++ Q) h in
    ⊎_elim {C = InFirst t (a ∷ pre) post (p ∷ P) Q ⊎ InSecond t (a ∷ pre) post (p ∷ P) Q}
    (λ (l : InFirst t pre post P Q). inl (record { rest = l.rest; first_is = λ i. sym same i ∷ l.first_is i; post_is = l.post_is }))
    (λ (r : InSecond t pre post P Q). inr (record { rest = r.rest; pre_is = λ i. same i ∷ r.pre_is i; second_is = r.second_is }))
    (in_part t pre post P Q (tail_is a p (pre ++ t ∷ post) (P ++ Q) h))

-- ---- written from one of its tags

pub written-turned : (t : Tag) (pre post xs : List Tag) → Turned (pre ++ t ∷ post) xs → NoRepeats (pre ++ t ∷ post) → written_from t xs ≡ (t ∷ post) ++ pre
written-turned t pre post xs turned once =
    let xs_once = turned-once (pre ++ t ∷ post) xs turned once in
    ⊎_elim
    (λ (l : InFirst t pre post turned.pre turned.post).
    let is : xs ≡ (turned.post ++ pre) ++ t ∷ l.rest = turned.there ∙ ap (λ ts. turned.post ++ ts) l.first_is ∙ sym (append_assoc turned.post pre (t ∷ l.rest)) in
    let out = not_before t (turned.post ++ pre) l.rest (subst NoRepeats is xs_once) in
    ap (written_from t) is ∙ written_at t (turned.post ++ pre) l.rest out
    ∙ sym (append_assoc (t ∷ l.rest) turned.post pre) ∙ ap (λ ts. (t ∷ ts) ++ pre) (sym l.post_is))
    (λ (r : InSecond t pre post turned.pre turned.post).
    let is : xs ≡ r.rest ++ t ∷ (post ++ turned.pre) = turned.there ∙ ap (λ ts. ts ++ turned.pre) r.second_is ∙ append_assoc r.rest (t ∷ post) turned.pre in
    let out = not_before t r.rest (post ++ turned.pre) (subst NoRepeats is xs_once) in
    ap (written_from t) is ∙ written_at t r.rest (post ++ turned.pre) out
    ∙ append_assoc (t ∷ post) turned.pre r.rest ∙ ap (λ ts. (t ∷ post) ++ ts) (sym r.pre_is))
    (in_part t pre post turned.pre turned.post turned.here)

-- of a list that is written from its least tag
pub written-least : (t : Tag) (pre post : List Tag) → NoRepeats (from_least (pre ++ t ∷ post)) → written_from t (from_least (pre ++ t ∷ post)) ≡ (t ∷ post) ++ pre
written-least t pre post once =
    let turned = turned-least (pre ++ t ∷ post) in
    written-turned t pre post (from_least (pre ++ t ∷ post)) turned (turned-once (from_least (pre ++ t ∷ post)) (pre ++ t ∷ post) (turned-back (pre ++ t ∷ post) (from_least (pre ++ t ∷ post)) turned) once)

-- ---- written from the least

length-turned : (xs ys : List Tag) → Turned xs ys → length xs ≡ length ys
length-turned xs ys h =
    let a = ap length h.here in
    let b = ap length h.there in
    let c = length-append h.pre h.post in
    let d = length-append h.post h.pre in
    omega (arith, a, b, c, d)

least-turned : (x y : Tag) (xs ys : List Tag) → Turned (x ∷ xs) (y ∷ ys) → least_of x xs ≡ least_of y ys
least-turned x y xs ys h =
    let a = least x xs in
    let b = least y ys in
    let one : (least_of y ys).0 ≤ (least_of x xs).0 = ByRecursion-at (λ u. (least_of y ys).0 ≤ u.0) (y ∷ ys) (least_of x xs) (b.first, b.rest) (turned-in (x ∷ xs) (y ∷ ys) h (least_of x xs) a.among) in
    let two : (least_of x xs).0 ≤ (least_of y ys).0 = ByRecursion-at (λ u. (least_of x xs).0 ≤ u.0) (x ∷ xs) (least_of y ys) (a.first, a.rest)
    (turned-in (y ∷ ys) (x ∷ xs) (turned-back (x ∷ xs) (y ∷ ys) h) (least_of y ys) b.among) in
    let same : (least_of x xs).0 ≡ (least_of y ys).0 = omega (arith, one, two) in
    ap tag same

pub from_least-turned : (xs ys : List Tag) → Turned xs ys → NoRepeats xs → from_least xs ≡ from_least ys
from_least-turned [] ys h once =
    let long = length-turned [] ys h in
    let none : ys ≡ [] = nil_of_length ys (omega (arith, long)) in
    ap from_least (sym none)
from_least-turned (x ∷ xs) [] h once = absurd (let long = length-turned (x ∷ xs) [] h in omega (arith, long))
from_least-turned (x ∷ xs) (y ∷ ys) h once =
    let t = least_of x xs in
    let p = parts t (x ∷ xs) (least x xs).among in
    let here : written_from t (x ∷ xs) ≡ (t ∷ p.post) ++ p.pre = λ i. p.from_is i ++ p.before_is i in
    let there : written_from t (y ∷ ys) ≡ (t ∷ p.post) ++ p.pre = written-turned t p.pre p.post (y ∷ ys) (subst (λ ts. Turned ts (y ∷ ys)) p.is h) (subst NoRepeats p.is once) in
    here ∙ sym there ∙ ap (λ u. written_from u (y ∷ ys)) (least-turned x y xs ys h)

-- the two parts of a cyclic list may be written the other way round
pub from_least-swapped : (xs ys : List Tag) → NoRepeats (from_least (xs ++ ys)) → from_least (xs ++ ys) ≡ from_least (ys ++ xs)
from_least-swapped xs ys once =
    let turned = turned-least (xs ++ ys) in
    from_least-turned (xs ++ ys) (ys ++ xs) (record { pre = xs; post = ys; here = refl; there = refl })
    (turned-once (from_least (xs ++ ys)) (xs ++ ys) (turned-back (xs ++ ys) (from_least (xs ++ ys)) turned) once)

-- a list that begins with its least tag
pub from_least-itself : (t : Tag) (ts : List Tag) → AllByRecursion (λ u. t.0 ≤ u.0) ts → from_least (t ∷ ts) ≡ t ∷ ts
from_least-itself t ts low = ap (λ u. written_from u (t ∷ ts)) (least-first t ts low) ∙ written-itself t ts
