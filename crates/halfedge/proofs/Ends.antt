-- The first and the last fin of runs.
use Rattle.std.proofs.Common.{◌≤◌, List, [], ◌∷◌, ◌++◌, length, refl, sym, subst, append-nil, arith}
use Rattle.std.specs.Prelude.{Contains}
use Rattle.std.proofs.lemmas.List.Elements.{Contains-append_left, Contains-append_right}
use Rattle.pk_base.specs.declared.tag.Tag.{Tag}
use Rattle.solid_model.specs.Rings.{last_of, ends_of}
use Rattle.solid_model.proofs.lists.Neighbours.{head_or}
use Rattle.solid_model.proofs.lists.Cycles.{last_of-in, last_of-append}
use Rattle.list_facts.proofs.Elements.{Contains-first, Contains-later}
use Rattle.halfedge.proofs.Among.{HasAll, has-none, has-more, has-each, has-both}

-- a run has its ends
pub run-ends : (A : List Tag) → HasAll A (ends_of A)
run-ends [] = has-none []
run-ends (f ∷ A) = has-each (f ∷ A) (f ∷ last_of f A ∷ []) (Contains-first f A, (last_of-in f A, tt))

-- and they are two at most
pub length-ends : (A : List Tag) → length (ends_of A) ≤ 2
length-ends [] = omega arith
length-ends (f ∷ A) = omega arith

-- what has the ends of a run has what comes first and last behind f
pub has-head : (ts : List Tag) (f : Tag) (A : List Tag) → Contains ts f → HasAll ts (ends_of A) → Contains ts (head_or f A)
has-head ts f [] k h = k
has-head ts f (g ∷ A) k h = h g (0, omega arith, refl)

pub has-last : (ts : List Tag) (f : Tag) (A : List Tag) → Contains ts f → HasAll ts (ends_of A) → Contains ts (last_of f A)
has-last ts f [] k h = k
has-last ts f (g ∷ A) k h = h (last_of g A) (1, omega arith, refl)

-- behind two runs
pub has-head_both : (ts : List Tag) (f : Tag) (A B : List Tag) → Contains ts f → HasAll ts (ends_of A) → HasAll ts (ends_of B) → Contains ts (head_or f (A ++ B))
has-head_both ts f [] B k h j = has-head ts f B k j
has-head_both ts f (g ∷ A) B k h j = h g (0, omega arith, refl)

pub has-last_both : (ts : List Tag) (f : Tag) (A B : List Tag) → Contains ts f → HasAll ts (ends_of A) → HasAll ts (ends_of B) → Contains ts (last_of f (A ++ B))
has-last_both ts f A [] k h j = subst (λ us. Contains ts (last_of f us)) (sym (append-nil A)) (has-last ts f A k h)
has-last_both ts f A (g ∷ B) k h j = subst (Contains ts) (sym (last_of-append f A g B)) (j (last_of g B) (1, omega arith, refl))

-- ---- two fins and the ends of two runs

abbrev pub two_and_ends : Tag → Tag → List Tag → List Tag → List Tag
two_and_ends f g A B = (f ∷ g ∷ ends_of A) ++ ends_of B

module _ (f g : Tag) (A B : List Tag) where
  pub two-first : Contains (two_and_ends f g A B) f
  two-first = Contains-first f ((g ∷ ends_of A) ++ ends_of B)

  pub two-second : Contains (two_and_ends f g A B) g
  two-second = Contains-later f ((g ∷ ends_of A) ++ ends_of B) g (Contains-first g (ends_of A ++ ends_of B))

  pub two-ends : HasAll (two_and_ends f g A B) (ends_of A)
  two-ends t k = Contains-later f ((g ∷ ends_of A) ++ ends_of B) t (Contains-later g (ends_of A ++ ends_of B) t (Contains-append_left (ends_of A) (ends_of B) t k))

  pub two-other_ends : HasAll (two_and_ends f g A B) (ends_of B)
  two-other_ends t k = Contains-append_right (f ∷ g ∷ ends_of A) (ends_of B) t k

-- what has the two fins and the two runs has these
pub has-two : (ts : List Tag) (f g : Tag) (A B : List Tag) → Contains ts f → Contains ts g → HasAll ts A → HasAll ts B → HasAll ts (two_and_ends f g A B)
has-two ts f g A B k j a b =
    has-both ts (f ∷ g ∷ ends_of A) (ends_of B) (has-more ts f (g ∷ ends_of A) k (has-more ts g (ends_of A) j (λ t i. a t (run-ends A t i)))) (λ t i. b t (run-ends B t i))
