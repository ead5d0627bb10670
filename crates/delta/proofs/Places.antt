-- A list of changes at a place: what is ahead, and what comes from there on.
use Rattle.std.proofs.Common.{◌≡◌, ℕ, zero, suc, ◌+◌, ◌<◌, Bool, true, false, cond, is_none, is_some, ◌&&◌, List, [], ◌∷◌, ◌++◌, take, drop, Some, refl, sym, ap, subst, ◌∙◌, arith}
use Rattle.std.specs.Prelude.{filter, slice_get, Contains}
use Rattle.std.specs.List.{AllByRecursion}
use Rattle.std.proofs.lemmas.List.{map-append}
use Rattle.pk_base.specs.declared.tag.Tag.{Tag}
use Rattle.list_facts.proofs.Elements.{Contains-first, Contains-later}
use Rattle.entity_store.specs.declared.changes.Change.{Change}
use Rattle.entity_store.specs.Changes.{AreChanges, lists_among}
use Rattle.delta.specs.Deltas.{tags_in, inverse_change, inverse, in_direction}

-- ---- any list

pub drop-next : {X : Type 0} (xs : List X) (i : ℕ) (x : X) → slice_get xs i ≡ Some x → drop i xs ≡ x ∷ drop (i + 1) xs
drop-next [] i x h = absurd (cc)
drop-next (y ∷ ys) zero x h = let same : y ≡ x = cc in ap (λ z. z ∷ ys) same
drop-next (y ∷ ys) (suc i) x h = let e : suc i + 1 ≡ suc (i + 1) = omega arith in drop-next ys i x h ∙ ap (λ n. x ∷ drop n (y ∷ ys)) (sym e)

pub take-next : {X : Type 0} (xs : List X) (i : ℕ) (x : X) → slice_get xs i ≡ Some x → take (i + 1) xs ≡ take i xs ++ x ∷ []
take-next [] i x h = absurd (cc)
take-next (y ∷ ys) zero x h = let same : y ≡ x = cc in ap (λ z. z ∷ []) same
take-next (y ∷ ys) (suc i) x h = let e : suc i + 1 ≡ suc (i + 1) = omega arith in ap (λ n. take n (y ∷ ys)) e ∙ ap (λ zs. y ∷ zs) (take-next ys i x h)

pub get-dropped : {X : Type 0} (xs : List X) (i : ℕ) → slice_get (drop i xs) 0 ≡ slice_get xs i
get-dropped xs zero = refl
get-dropped [] (suc i) = refl
get-dropped (x ∷ xs) (suc i) = get-dropped xs i

drop-none : {X : Type 0} (i : ℕ) → drop {A = X} i [] ≡ []
drop-none zero = refl
drop-none (suc i) = refl

pub drop-dropped : {X : Type 0} (xs : List X) (i j : ℕ) → drop j (drop i xs) ≡ drop (i + j) xs
drop-dropped xs zero j = let e : 0 + j ≡ j = omega arith in ap (λ n. drop n xs) (sym e)
drop-dropped [] (suc i) j = drop-none j ∙ sym (drop-none (suc i + j))
drop-dropped (x ∷ xs) (suc i) j = let e : suc i + j ≡ suc (i + j) = omega arith in drop-dropped xs i j ∙ ap (λ n. drop n (x ∷ xs)) (sym e)

pub each-at : {X : Type 0} (P : X → Type 0) (xs : List X) (i : ℕ) (x : X) → slice_get xs i ≡ Some x → AllByRecursion P xs → P x
each-at P [] i x h k = absurd (cc)
each-at P (y ∷ ys) zero x h k = let same : y ≡ x = cc in subst P same k.0
each-at P (y ∷ ys) (suc i) x h k = each-at P ys i x h k.1

-- ---- of changes

pub tag-among : (cs : List Change) (i : ℕ) (c : Change) → slice_get cs i ≡ Some c → Contains (tags_in cs) c.tag
tag-among [] i c h = absurd (cc)
tag-among (d ∷ ds) zero c h = let same : d ≡ c = cc in subst (λ x. Contains (tags_in (d ∷ ds)) x.tag) same (Contains-first d.tag (tags_in ds))
tag-among (d ∷ ds) (suc i) c h = Contains-later d.tag (tags_in ds) c.tag (tag-among ds i c h)

-- those ahead of a place have lower tags
pub lower-ahead : (cs : List Change) (i : ℕ) (c : Change) → slice_get cs i ≡ Some c → AreChanges cs → AllByRecursion (λ (d : Change). d.tag.0 < c.tag.0) (take i cs)
lower-ahead [] i c h k = absurd (cc)
lower-ahead (d ∷ ds) zero c h k = tt
lower-ahead (d ∷ ds) (suc i) c h k = (lower i ds h k.ascend.0, lower-ahead ds i c h (record { ascend = k.ascend.1; differ = k.differ.1 }))
  where
    lower : (i : ℕ) (es : List Change) → slice_get es i ≡ Some c → AllByRecursion (λ (u : Tag). d.tag.0 < u.0) (tags_in es) → d.tag.0 < c.tag.0
    lower i [] h l = absurd (cc)
    lower zero (e ∷ es) h l = let same : e ≡ c = cc in subst (λ (x : Change). d.tag.0 < x.tag.0) same l.0
    lower (suc i) (e ∷ es) h l = lower i es h l.1

pub lower-inverse : (n : ℕ) (cs : List Change) → AllByRecursion (λ (d : Change). d.tag.0 < n) cs → AllByRecursion (λ (d : Change). d.tag.0 < n) (inverse cs)
lower-inverse n [] h = tt
lower-inverse n (c ∷ cs) h = (h.0, lower-inverse n cs h.1)

pub inverse-next : (cs : List Change) (i : ℕ) (c : Change) → slice_get cs i ≡ Some c → inverse (take (i + 1) cs) ≡ inverse (take i cs) ++ inverse_change c ∷ []
inverse-next cs i c h = ap inverse (take-next cs i c h) ∙ map-append inverse_change (take i cs) (c ∷ [])

-- the change at a place, or the one back
abbrev pub turned : Bool → Change → Change
turned true c = c
turned false c = inverse_change c

pub get-inverse : (cs : List Change) (i : ℕ) (c : Change) → slice_get cs i ≡ Some c → slice_get (inverse cs) i ≡ Some (inverse_change c)
get-inverse [] i c h = absurd (cc)
get-inverse (d ∷ ds) zero c h = let same : d ≡ c = cc in ap (λ x. Some (inverse_change x)) same
get-inverse (d ∷ ds) (suc i) c h = get-inverse ds i c h

pub get-in_direction : (forward : Bool) (cs : List Change) (i : ℕ) (c : Change) → slice_get cs i ≡ Some c → slice_get (in_direction forward cs) i ≡ Some (turned forward c)
get-in_direction true cs i c h = h
get-in_direction false cs i c h = get-inverse cs i c h

pub turned-tag : (forward : Bool) (c : Change) → (turned forward c).tag ≡ c.tag
turned-tag true c = refl
turned-tag false c = refl

pub turned-after : (forward : Bool) (c : Change) → (turned forward c).after ≡ cond forward c.after c.before
turned-after true c = refl
turned-after false c = refl

-- ---- the three lists among them

filter-append : {X : Type 0} (p : X → Bool) (xs ys : List X) → filter p (xs ++ ys) ≡ filter p xs ++ filter p ys
filter-append p [] ys = refl
filter-append p (x ∷ xs) ys =
    let rest = filter-append p xs ys in
    elim (p x) as (λ b. cond b (x ∷ filter p (xs ++ ys)) (filter p (xs ++ ys)) ≡ cond b (x ∷ filter p xs) (filter p xs) ++ filter p ys) [
      | true ↦ ap (λ zs. x ∷ zs) rest
      | false ↦ rest
    ]

tags_where-next : (p : Change → Bool) (cs : List Change) (i : ℕ) (c : Change) → slice_get cs i ≡ Some c → tags_in (filter p (take (i + 1) cs)) ≡ tags_in (filter p (take i cs)) ++ tags_in (filter p (c ∷ []))
tags_where-next p cs i c h =
    ap (λ xs. tags_in (filter p xs)) (take-next cs i c h)
    ∙ ap tags_in (filter-append p (take i cs) (c ∷ []))
    ∙ map-append (λ (d : Change). d.tag) (filter p (take i cs)) (filter p (c ∷ []))

pub fresh-next : (cs : List Change) (i : ℕ) (c : Change) → slice_get cs i ≡ Some c → (lists_among (take (i + 1) cs)).fresh ≡ (lists_among (take i cs)).fresh ++ (lists_among (c ∷ [])).fresh
fresh-next cs i c h = tags_where-next (λ (d : Change). is_none d.before) cs i c h

pub gone-next : (cs : List Change) (i : ℕ) (c : Change) → slice_get cs i ≡ Some c → (lists_among (take (i + 1) cs)).gone ≡ (lists_among (take i cs)).gone ++ (lists_among (c ∷ [])).gone
gone-next cs i c h = tags_where-next (λ (d : Change). is_some d.before && is_none d.after) cs i c h

pub changed-next : (cs : List Change) (i : ℕ) (c : Change) → slice_get cs i ≡ Some c → (lists_among (take (i + 1) cs)).changed ≡ (lists_among (take i cs)).changed ++ (lists_among (c ∷ [])).changed
changed-next cs i c h = tags_where-next (λ (d : Change). is_some d.before && is_some d.after) cs i c h
