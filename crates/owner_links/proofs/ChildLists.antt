-- The children of a slot as a list: once a slot is its child, and once it is no more.
use Rattle.std.proofs.Common.{◌≡◌, ◌≢◌, ℕ, zero, suc, ◌<◌, ◌≤◌, ◌⊎◌, inl, inr, ⊎_elim, List, [], ◌∷◌, ◌++◌, length, take, drop, set, Option, None, Some, Contains, sym, ap, subst, ◌∙◌, arith, length-append, take-append-drop, drop-cons, get_or-set_same, get_or-set_other}
use Rattle.std.specs.List.{AllByRecursion}
use Rattle.std.proofs.lemmas.Bool.{cases_eq, cases_lt}
use Rattle.std.proofs.lemmas.List.{get_or_past}
use Rattle.std.proofs.lemmas.List.Elements.{Contains-append_left, Contains-append_right, Contains-append_cases}
use Rattle.list_facts.proofs.Elements.{Contains-first, Contains-later, Contains-cases}
use Rattle.list_facts.proofs.Each.{ByRecursion-append, ByRecursion-left, ByRecursion-right, ByRecursion-contains, ByRecursion-at}
use Rattle.owner_links.specs.Links.{owner_at, NoRepeats, AreChildren}

-- ---- lists without repeats

-- an element stands between two parts of the list
pub parts_at : (cs : List ℕ) (c : ℕ) → Contains cs c → (front : List ℕ) × (back : List ℕ) × (cs ≡ front ++ c ∷ back)
parts_at cs c (k, h, e) = (take k cs, drop (suc k) cs, sym (take-append-drop k cs) ∙ ap (λ t. take k cs ++ t) (drop-cons cs k c h ∙ ap (λ x. x ∷ drop (suc k) cs) e))

pub contains_middle : (front back : List ℕ) (c : ℕ) → Contains (front ++ c ∷ back) c
contains_middle front back c = Contains-append_right front (c ∷ back) c (Contains-first c back)

-- an element of the two parts is in the whole
pub contains_around : (front back : List ℕ) (c x : ℕ) → Contains (front ++ back) x → Contains (front ++ c ∷ back) x
contains_around front back c x h =
    ⊎_elim (λ (l : Contains front x). Contains-append_left front (c ∷ back) x l)
    (λ (r : Contains back x). Contains-append_right front (c ∷ back) x (Contains-later c back x r))
    (Contains-append_cases front back x h)

-- and an element of the whole is in one of the parts, or is the one between
pub around_contains : (front back : List ℕ) (c x : ℕ) → Contains (front ++ c ∷ back) x → (c ≡ x) ⊎ Contains (front ++ back) x
around_contains front back c x h =
    ⊎_elim (λ (l : Contains front x). inr (Contains-append_left front back x l))
    (λ (r : Contains (c ∷ back) x). ⊎_elim (λ (e : c ≡ x). inl e) (λ (k : Contains back x). inr (Contains-append_right front back x k)) (Contains-cases c back x r))
    (Contains-append_cases front (c ∷ back) x h)

-- the one between is in neither part
pub NoRepeats-middle : (front back : List ℕ) (c : ℕ) → NoRepeats (front ++ c ∷ back) → AllByRecursion (λ m. c ≢ m) (front ++ back) × NoRepeats (front ++ back)
NoRepeats-middle [] back c h = h
NoRepeats-middle (x ∷ front) back c h =
    let rest = NoRepeats-middle front back c h.1 in
    let ahead = ByRecursion-right (λ m. x ≢ m) front (c ∷ back) h.0 in
    ((λ e. ahead.0 (sym e), rest.0), (ByRecursion-append (λ m. x ≢ m) front back (ByRecursion-left (λ m. x ≢ m) front (c ∷ back) h.0) ahead.1, rest.1))

held_or_not : (cs : List ℕ) (c : ℕ) → Contains cs c ⊎ AllByRecursion (λ m. c ≢ m) cs
held_or_not [] c = inr tt
held_or_not (x ∷ cs) c =
    ⊎_elim (λ (e : c ≡ x). inl (subst (Contains (x ∷ cs)) (sym e) (Contains-first x cs)))
    (λ (other : c ≡ x → ⊥). ⊎_elim (λ (h : Contains cs c). inl (Contains-later x cs c h)) (λ (h : AllByRecursion (λ m. c ≢ m) cs). inr (other, h)) (held_or_not cs c))
    (cases_eq c x)

below_less : (n : ℕ) (cs : List ℕ) → AllByRecursion (λ m. n ≢ m) cs → AllByRecursion (λ m. m < suc n) cs → AllByRecursion (λ m. m < n) cs
below_less n [] h k = tt
below_less n (c ∷ cs) h k = (omega (arith, h.0, k.0), below_less n cs h.1 k.1)

-- of numbers below n there are at most n
pub few-below : (n : ℕ) (cs : List ℕ) → NoRepeats cs → AllByRecursion (λ m. m < n) cs → length cs ≤ n
few-below zero [] once below = omega arith
few-below zero (c ∷ cs) once below = absurd (omega (arith, below.0))
few-below (suc n) cs once below =
    ⊎_elim (λ (h : Contains cs n).
    let parts = parts_at cs n h in
    let left = NoRepeats-middle parts.0 parts.1 n (subst NoRepeats parts.2 once) in
    let whole = subst (AllByRecursion (λ m. m < suc n)) parts.2 below in
    let around = ByRecursion-append (λ m. m < suc n) parts.0 parts.1 (ByRecursion-left (λ m. m < suc n) parts.0 (n ∷ parts.1) whole) (ByRecursion-right (λ m. m < suc n) parts.0 (n ∷ parts.1) whole).1 in
    let few = few-below n (parts.0 ++ parts.1) left.1 (below_less n (parts.0 ++ parts.1) left.0 around) in
    omega (arith, few, ap length parts.2, length-append parts.0 (n ∷ parts.1), length-append parts.0 parts.1))
    (λ (h : AllByRecursion (λ m. n ≢ m) cs). omega (arith, few-below n cs once (below_less n cs h below)))
    (held_or_not cs n)

-- ---- the owners

-- a slot with an owner is one of the slots
pub owned_within : (owners : List (Option ℕ)) (c o : ℕ) → owner_at owners c ≡ Some o → c < length owners
owned_within owners c o h = ⊎_elim (λ (l : c < length owners). l) (λ (past : length owners ≤ c). absurd (let e = get_or_past owners c None past in cc)) (cases_lt c (length owners))

pub AreChildren-apart : (owners : List (Option ℕ)) (o c : ℕ) (cs : List ℕ) → owner_at owners c ≢ Some o → AreChildren owners o cs → AllByRecursion (λ x. c ≢ x) cs
AreChildren-apart owners o c cs h a = ByRecursion-contains (λ x. c ≢ x) cs (λ x k e. h (ap (owner_at owners) e ∙ (a.all x).0 k))

-- a slot more is the owner's child
pub AreChildren-more : (owners : List (Option ℕ)) (o c : ℕ) (cs : List ℕ) → c < length owners → owner_at owners c ≢ Some o → AreChildren owners o cs → AreChildren (set owners c (Some o)) o (c ∷ cs)
AreChildren-more owners o c cs within free a = record {
  once = (AreChildren-apart owners o c cs free a, a.once);
  all = λ x. ⊎_elim (λ (e : x ≡ c).
      let at : owner_at (set owners c (Some o)) x ≡ Some o = ap (owner_at (set owners c (Some o))) e ∙ get_or-set_same owners c (Some o) None within in
      (λ _. at, λ _. subst (Contains (c ∷ cs)) (sym e) (Contains-first c cs)))
      (λ (other : x ≡ c → ⊥).
      let same = get_or-set_other owners c x (Some o) None other in
      (λ h. ⊎_elim (λ (e : c ≡ x). absurd (other (sym e))) (λ (k : Contains cs x). same ∙ (a.all x).0 k) (Contains-cases c cs x h), λ h. Contains-later c cs x ((a.all x).1 (sym same ∙ h))))
      (cases_eq x c);
}

-- a child less
pub AreChildren-less : (owners : List (Option ℕ)) (o c : ℕ) (front back : List ℕ) → AreChildren owners o (front ++ c ∷ back) → AreChildren (set owners c None) o (front ++ back)
AreChildren-less owners o c front back a =
    let left = NoRepeats-middle front back c a.once in
    let within = owned_within owners c o ((a.all c).0 (contains_middle front back c)) in
    record {
      once = left.1;
      all = λ x. ⊎_elim (λ (e : x ≡ c).
          let none : owner_at (set owners c None) x ≡ None = ap (owner_at (set owners c None)) e ∙ get_or-set_same owners c None None within in
          (λ h. absurd (ByRecursion-at (λ m. c ≢ m) (front ++ back) x left.0 h (sym e)), λ h. absurd (let k = sym none ∙ h in cc)))
          (λ (other : x ≡ c → ⊥).
          let same = get_or-set_other owners c x None None other in
          (λ h. same ∙ (a.all x).0 (contains_around front back c x h), λ h. ⊎_elim (λ (e : c ≡ x). absurd (other (sym e))) (λ (k : Contains (front ++ back) x). k) (around_contains front back c x ((a.all x).1 (sym same ∙ h)))))
          (cases_eq x c);
    }

-- a slot that was not the owner's child, and is not now, changes nothing
pub AreChildren-others : (owners : List (Option ℕ)) (o c : ℕ) (to : Option ℕ) (cs : List ℕ) → c < length owners → owner_at owners c ≢ Some o → to ≢ Some o → AreChildren owners o cs → AreChildren (set owners c to) o cs
AreChildren-others owners o c to cs within before after a = record {
  once = a.once;
  all = λ x. ⊎_elim (λ (e : x ≡ c).
      let at : owner_at (set owners c to) x ≡ to = ap (owner_at (set owners c to)) e ∙ get_or-set_same owners c to None within in
      (λ h. absurd (before (ap (owner_at owners) (sym e) ∙ (a.all x).0 h)), λ h. absurd (after (sym at ∙ h))))
      (λ (other : x ≡ c → ⊥).
      let same = get_or-set_other owners c x to None other in
      (λ h. same ∙ (a.all x).0 h, λ h. (a.all x).1 (sym same ∙ h)))
      (cases_eq x c);
}
