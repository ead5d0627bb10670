-- Renamings that exchange the tags of pairs.
use Rattle.std.proofs.Common.{◌≡◌, ◌≢◌, ◌⊎◌, inl, inr, ⊎_elim, Bool, true, false, cond, List, [], ◌∷◌, ◌++◌, refl, sym, ap, subst, ◌∙◌}
use Rattle.std.specs.Prelude.{map, Contains}
use Rattle.std.specs.List.{AllByRecursion}
use Rattle.pk_base.specs.Entity.{same_tag}
use Rattle.pk_base.specs.declared.tag.Tag.{Tag}
use Rattle.pk_base.proofs.Same.{not_same, same_itself, same_or_other}
use Rattle.pk_model.specs.Apart.{NoRepeats}
use Rattle.pk_model.proofs.TagLists.{NoneOf}
use Rattle.list_facts.proofs.Elements.{Contains-cases, Contains-first, Contains-later, not_in_nil}
use Rattle.list_facts.proofs.Each.{ByRecursion-at, ByRecursion-left, ByRecursion-right}
use Rattle.solid_model.specs.Rings.{is_among}
use Rattle.solid_model.proofs.lists.Neighbours.{none-is}
use Rattle.solid_model.specs.SameButNames.{IsRenaming}

-- each tag that was killed, with the one that was made in its place
abbrev pub Pairs : Type 0
Pairs = List (Tag × Tag)

abbrev pub killed_of : Pairs → List Tag
killed_of ps = map (λ p. p.0) ps

abbrev pub made_of : Pairs → List Tag
made_of ps = map (λ p. p.1) ps

abbrev pub both_of : Pairs → List Tag
both_of [] = []
both_of (p ∷ ps) = p.0 ∷ p.1 ∷ both_of ps

-- the two of each pair are exchanged
abbrev pub renamed : Pairs → Tag → Tag
renamed [] t = t
renamed (p ∷ ps) t = cond (same_tag p.0 t) p.1 (cond (same_tag p.1 t) p.0 (renamed ps t))

-- ---- the first pair

at_first : (p : Tag × Tag) (ps : Pairs) → renamed (p ∷ ps) p.0 ≡ p.1
at_first p ps = ap (λ b. cond b p.1 (cond (same_tag p.1 p.0) p.0 (renamed ps p.0))) (same_itself p.0)

at_second : (p : Tag × Tag) (ps : Pairs) → p.0 ≢ p.1 → renamed (p ∷ ps) p.1 ≡ p.0
at_second p ps h =
    ap (λ b. cond b p.1 (cond (same_tag p.1 p.1) p.0 (renamed ps p.1))) (not_same p.0 p.1 h) ∙ ap (λ b. cond b p.0 (renamed ps p.1)) (same_itself p.1)

past_first : (p : Tag × Tag) (ps : Pairs) (t : Tag) → p.0 ≢ t → p.1 ≢ t → renamed (p ∷ ps) t ≡ renamed ps t
past_first p ps t h k = ap (λ b. cond b p.1 (cond (same_tag p.1 t) p.0 (renamed ps t))) (not_same p.0 t h) ∙ ap (λ b. cond b p.0 (renamed ps t)) (not_same p.1 t k)

-- t is the one or the other of the pair, or none of them
by_pair : (p : Tag × Tag) (t : Tag) (C : Type 0) → (p.0 ≡ t → C) → (p.1 ≡ t → C) → (p.0 ≢ t → p.1 ≢ t → C) → C
by_pair p t C a b c = ⊎_elim {C = C} a (λ (n : p.0 ≢ t). ⊎_elim {C = C} b (λ (m : p.1 ≢ t). c n m) (same_or_other p.1 t)) (same_or_other p.0 t)

-- ---- all pairs

-- what is none of the pairs' tags is not what another is renamed to
never_renamed : (ps : Pairs) (q t : Tag) → NoneOf q (both_of ps) → q ≢ t → q ≢ renamed ps t
never_renamed [] q t none other = other
never_renamed (p ∷ ps) q t none other = by_pair p t (q ≢ renamed (p ∷ ps) t)
    (λ e same. none.1.0 (same ∙ ap (renamed (p ∷ ps)) (sym e) ∙ at_first p ps))
    (λ e. ⊎_elim {C = q ≢ renamed (p ∷ ps) t}
    (λ (l : p.0 ≡ t) same. none.1.0 (same ∙ ap (renamed (p ∷ ps)) (sym l) ∙ at_first p ps))
    (λ (r : p.0 ≢ t) same. none.0 (same ∙ ap (renamed (p ∷ ps)) (sym e) ∙ at_second p ps (λ k. r (k ∙ e))))
    (same_or_other p.0 t))
    (λ h k same. never_renamed ps q t none.1.1 other (same ∙ past_first p ps t h k))

pub renamed-twice : (ps : Pairs) → NoRepeats (both_of ps) → (t : Tag) → renamed ps (renamed ps t) ≡ t
renamed-twice [] once t = refl
renamed-twice (p ∷ ps) once t = by_pair p t (renamed (p ∷ ps) (renamed (p ∷ ps) t) ≡ t)
    (λ e. ap (λ u. renamed (p ∷ ps) (renamed (p ∷ ps) u)) (sym e) ∙ ap (renamed (p ∷ ps)) (at_first p ps) ∙ at_second p ps once.0.0 ∙ e)
    (λ e. ap (λ u. renamed (p ∷ ps) (renamed (p ∷ ps) u)) (sym e) ∙ ap (renamed (p ∷ ps)) (at_second p ps once.0.0) ∙ at_first p ps ∙ e)
    (λ h k. ap (renamed (p ∷ ps)) (past_first p ps t h k)
    ∙ past_first p ps (renamed ps t) (never_renamed ps p.0 t once.0.1 h) (never_renamed ps p.1 t once.1.0 k)
    ∙ renamed-twice ps once.1.1 t)

pub renamed-other : (ps : Pairs) (t : Tag) → NoneOf t (killed_of ps) → NoneOf t (made_of ps) → renamed ps t ≡ t
renamed-other [] t h k = refl
renamed-other (p ∷ ps) t h k = past_first p ps t (λ e. h.0 (sym e)) (λ e. k.0 (sym e)) ∙ renamed-other ps t h.1 k.1

-- the one of a pair is renamed to the other
pub renamed-pair : (ps : Pairs) → NoRepeats (both_of ps) → (p : Tag × Tag) → Contains ps p → (renamed ps p.0 ≡ p.1) × (renamed ps p.1 ≡ p.0)
renamed-pair [] once p k = absurd (not_in_nil p k)
renamed-pair (q ∷ ps) once p k = ⊎_elim {C = (renamed (q ∷ ps) p.0 ≡ p.1) × (renamed (q ∷ ps) p.1 ≡ p.0)}
    (λ (l : q ≡ p). subst (λ (z : Tag × Tag). (renamed (q ∷ ps) z.0 ≡ z.1) × (renamed (q ∷ ps) z.1 ≡ z.0)) l (at_first q ps, at_second q ps once.0.0))
    (λ (r : Contains ps p).
    let rest = renamed-pair ps once.1.1 p r in
    let within = both-in ps p r in (
      past_first q ps p.0 (ByRecursion-at (λ u. q.0 ≢ u) (both_of ps) p.0 once.0.1 within.0) (ByRecursion-at (λ u. q.1 ≢ u) (both_of ps) p.0 once.1.0 within.0) ∙ rest.0,
      past_first q ps p.1 (ByRecursion-at (λ u. q.0 ≢ u) (both_of ps) p.1 once.0.1 within.1) (ByRecursion-at (λ u. q.1 ≢ u) (both_of ps) p.1 once.1.0 within.1) ∙ rest.1,
    ))
    (Contains-cases q ps p k)
  where
    both-in : (ps : Pairs) (p : Tag × Tag) → Contains ps p → Contains (both_of ps) p.0 × Contains (both_of ps) p.1
    both-in [] p k = absurd (not_in_nil p k)
    both-in (q ∷ ps) p k = ⊎_elim {C = Contains (both_of (q ∷ ps)) p.0 × Contains (both_of (q ∷ ps)) p.1}
        (λ (l : q ≡ p). subst (λ (z : Tag × Tag). Contains (both_of (q ∷ ps)) z.0 × Contains (both_of (q ∷ ps)) z.1) l
        (Contains-first q.0 (q.1 ∷ both_of ps), Contains-later q.0 (q.1 ∷ both_of ps) q.1 (Contains-first q.1 (both_of ps))))
        (λ (r : Contains ps p). let rest = both-in ps p r in (
          Contains-later q.0 (q.1 ∷ both_of ps) p.0 (Contains-later q.1 (both_of ps) p.0 rest.0),
          Contains-later q.0 (q.1 ∷ both_of ps) p.1 (Contains-later q.1 (both_of ps) p.1 rest.1),
        ))
        (Contains-cases q ps p k)

-- they make a renaming, which is its own way back
pub exchanges : (ps : Pairs) → NoRepeats (both_of ps) → IsRenaming (killed_of ps ++ made_of ps) (renamed ps) (renamed ps)
exchanges ps once = record {
  undone = renamed-twice ps once;
  redone = renamed-twice ps once;
  leaves = λ t out.
      let none = none-is t (killed_of ps ++ made_of ps) out in
      renamed-other ps t (ByRecursion-left (λ u. t ≢ u) (killed_of ps) (made_of ps) none) (ByRecursion-right (λ u. t ≢ u) (killed_of ps) (made_of ps) none);
}

-- ---- any renaming

-- a tag is among those that a renaming may move just where what it is renamed to is
pub renames-within : (ts : List Tag) (there back : Tag → Tag) → IsRenaming ts there back → (t : Tag) → is_among (there t) ts ≡ is_among t ts
renames-within ts there back r t = by_both (is_among t ts) (is_among (there t) ts) refl refl
  where
    by_both : (a b : Bool) → is_among t ts ≡ a → is_among (there t) ts ≡ b → is_among (there t) ts ≡ is_among t ts
    by_both true true h k = k ∙ sym h
    by_both false false h k = k ∙ sym h
    by_both false true h k = ap (λ u. is_among u ts) (r.leaves t h)
    by_both true false h k =
        let again : there (there t) ≡ there t = r.leaves (there t) k in
        let same : there t ≡ t = sym (r.undone (there t)) ∙ ap back again ∙ r.undone t in
        ap (λ u. is_among u ts) same
