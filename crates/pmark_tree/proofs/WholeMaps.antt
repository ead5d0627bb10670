-- What a mark stands for, by its parent.
use Rattle.std.proofs.Common.{◌≡◌, ◌≢◌, ◌<◌, ⊎_elim, cond, List, [], ◌∷◌, ◌++◌, Option, None, Some, refl, sym, ap, subst, ◌∙◌, arith}
use Rattle.std.specs.Prelude.{reverse, Contains}
use Rattle.std.specs.List.{AllByRecursion}
use Rattle.std.specs.FinMap.{empty}
use Rattle.std.proofs.lemmas.List.{reverse-append, reverse-reverse}
use Rattle.std.proofs.lemmas.List.Elements.{Contains-append_left, Contains-append_right}
use Rattle.pk_base.specs.declared.tag.Tag.{Tag}
use Rattle.pk_base.proofs.Same.{same_itself, not_same}
use Rattle.pk_model.specs.Tags.{TagsAscend}
use Rattle.list_facts.proofs.Elements.{not_in_nil, Contains-first, Contains-later, Contains-cases}
use Rattle.list_facts.proofs.Each.{ByRecursion-append, ByRecursion-at}
use Rattle.delta.specs.Deltas.{after}
use Rattle.pmark_tree.specs.declared.mark.TreeMark.{TreeMark}
use Rattle.pmark_tree.specs.Marks.{mark_at}
use Rattle.pmark_tree.specs.Maps.{map_among, map_of}
use Rattle.pmark_tree.proofs.Found.{tags_of, below_other, mark_at-found, mark_at-contained}

-- ---- the newest first

-- each mark is newer than those behind it
abbrev pub Falls : List TreeMark → Type 0
Falls [] = Unit {0}
Falls (k ∷ older) = AllByRecursion (λ (j : TreeMark). j.tag.0 < k.tag.0) older × Falls older

pub Falls-append : (ks : List TreeMark) (k : TreeMark) → Falls ks → AllByRecursion (λ (j : TreeMark). k.tag.0 < j.tag.0) ks → Falls (ks ++ k ∷ [])
Falls-append [] k h l = (tt, tt)
Falls-append (j ∷ ks) k h l = (ByRecursion-append (λ (i : TreeMark). i.tag.0 < j.tag.0) ks (k ∷ []) h.0 (l.0, tt), Falls-append ks k h.1 l.1)

each_reversed : (P : TreeMark → Type 0) (ks : List TreeMark) → AllByRecursion P ks → AllByRecursion P (reverse ks)
each_reversed P [] h = tt
each_reversed P (k ∷ ks) h = subst (AllByRecursion P) (sym (reverse-append (k ∷ []) ks)) (ByRecursion-append P (reverse ks) (k ∷ []) (each_reversed P ks h.1) (h.0, tt))

above_each : (k : TreeMark) (ks : List TreeMark) → AllByRecursion (λ (u : Tag). k.tag.0 < u.0) (tags_of ks) → AllByRecursion (λ (j : TreeMark). k.tag.0 < j.tag.0) ks
above_each k [] h = tt
above_each k (j ∷ ks) h = (h.0, above_each k ks h.1)

pub Falls-reversed : (ks : List TreeMark) → TagsAscend (tags_of ks) → Falls (reverse ks)
Falls-reversed [] h = tt
Falls-reversed (k ∷ ks) h =
    subst Falls (sym (reverse-append (k ∷ []) ks))
    (Falls-append (reverse ks) k (Falls-reversed ks h.1) (each_reversed (λ (j : TreeMark). k.tag.0 < j.tag.0) ks (above_each k ks h.0)))

contains_reversed : (ks : List TreeMark) (k : TreeMark) → Contains ks k → Contains (reverse ks) k
contains_reversed [] k h = absurd (not_in_nil k h)
contains_reversed (j ∷ ks) k h =
    subst (λ l. Contains l k) (sym (reverse-append (j ∷ []) ks))
    (⊎_elim (λ (e : j ≡ k). Contains-append_right (reverse ks) (j ∷ []) k (subst (Contains (j ∷ [])) e (Contains-first j [])))
    (λ (r : Contains ks k). Contains-append_left (reverse ks) (j ∷ []) k (contains_reversed ks k r))
    (Contains-cases j ks k h))

-- ---- the map, the newest first

pub map_among-nothing : (ks : List TreeMark) → map_among ks None ≡ empty
map_among-nothing [] = refl
map_among-nothing (k ∷ ks) = refl

-- the newest mark does not matter to older ones
pub map_among-older : (k : TreeMark) (ks : List TreeMark) (o : Option Tag) → ((p : Tag) → o ≡ Some p → p ≢ k.tag) → map_among (k ∷ ks) o ≡ map_among ks o
map_among-older k ks None h = sym (map_among-nothing ks)
map_among-older k ks (Some p) h = ap (λ b. cond b (after (map_among ks k.parent) k.delta) (map_among ks (Some p))) (not_same k.tag p (λ e. h p refl (sym e)))

pub map_among-newest : (k : TreeMark) (ks : List TreeMark) → map_among (k ∷ ks) (Some k.tag) ≡ after (map_among ks k.parent) k.delta
map_among-newest k ks = ap (λ b. cond b (after (map_among ks k.parent) k.delta) (map_among ks (Some k.tag))) (same_itself k.tag)

abbrev pub ParentsBelow : TreeMark → Type 0
ParentsBelow k = (p : Tag) → k.parent ≡ Some p → p.0 < k.tag.0

pub map_among-edge : (ks : List TreeMark) (k : TreeMark) → Falls ks → Contains ks k → ParentsBelow k → map_among ks (Some k.tag) ≡ after (map_among ks k.parent) k.delta
map_among-edge [] k h c below = absurd (not_in_nil k c)
map_among-edge (j ∷ ks) k h c below =
    ⊎_elim (λ (e : j ≡ k).
    subst (λ i. map_among (i ∷ ks) (Some k.tag) ≡ after (map_among (i ∷ ks) k.parent) k.delta) (sym e)
    (map_among-newest k ks ∙ ap (λ m. after m k.delta) (sym (map_among-older k ks k.parent (λ p is. below_other p k.tag (below p is))))))
    (λ (r : Contains ks k).
    let older : k.tag.0 < j.tag.0 = ByRecursion-at (λ (i : TreeMark). i.tag.0 < j.tag.0) ks k h.0 r in
    map_among-older j ks (Some k.tag) (λ p e. subst (λ q. q ≢ j.tag) (let f : k.tag ≡ p = cc in f) (below_other k.tag j.tag older))
    ∙ map_among-edge ks k h.1 r below
    ∙ ap (λ m. after m k.delta) (sym (map_among-older j ks k.parent (λ p is. below_other p j.tag (let b = below p is in omega (arith, b, older))))))
    (Contains-cases j ks k c)

pub map_among-absent : (ks : List TreeMark) (t : Tag) → ((k : TreeMark) → Contains ks k → k.tag ≢ t) → map_among ks (Some t) ≡ empty
map_among-absent [] t h = refl
map_among-absent (k ∷ ks) t h =
    map_among-older k ks (Some t) (λ p e s. h k (Contains-first k ks) (sym s ∙ (let f : p ≡ t = cc in f)))
    ∙ map_among-absent ks t (λ j c. h j (Contains-later k ks j c))

-- ---- the map, among all marks

pub map_of-older : (ks : List TreeMark) (k : TreeMark) (t : Tag) → t ≢ k.tag → map_of (ks ++ k ∷ []) t ≡ map_of ks t
unfolding map_of
map_of-older ks k t n =
    ap (λ l. map_among l (Some t)) (reverse-append ks (k ∷ [])) ∙ map_among-older k (reverse ks) (Some t) (λ p e s. n ((let f : t ≡ p = cc in f) ∙ s))

pub map_of-newest : (ks : List TreeMark) (k : TreeMark) (p : Tag) → k.parent ≡ Some p → map_of (ks ++ k ∷ []) k.tag ≡ after (map_of ks p) k.delta
unfolding map_of
map_of-newest ks k p e =
    ap (λ l. map_among l (Some k.tag)) (reverse-append ks (k ∷ [])) ∙ map_among-newest k (reverse ks) ∙ ap (λ o. after (map_among (reverse ks) o) k.delta) e

map_of-edge : (ks : List TreeMark) (t : Tag) (k : TreeMark) → TagsAscend (tags_of ks) → mark_at ks t ≡ Some k → ParentsBelow k → map_of ks t ≡ after (map_among (reverse ks) k.parent) k.delta
unfolding map_of
map_of-edge ks t k up at below =
    let found = mark_at-found ks t k at in
    ap (λ u. map_among (reverse ks) (Some u)) (sym found.tag) ∙ map_among-edge (reverse ks) k (Falls-reversed ks up) (contains_reversed ks k found.there) below

pub map_of-child : (ks : List TreeMark) (t : Tag) (k : TreeMark) (p : Tag) → TagsAscend (tags_of ks) → mark_at ks t ≡ Some k → k.parent ≡ Some p → p.0 < t.0 → map_of ks t ≡ after (map_of ks p) k.delta
unfolding map_of
map_of-child ks t k p up at e older =
    let tag = (mark_at-found ks t k at).tag in
    map_of-edge ks t k up at (λ q is. let same : q ≡ p = (let f : Some q ≡ Some p = sym is ∙ e in cc) in subst (λ u. u.0 < k.tag.0) (sym same) (subst (λ (u : Tag). p.0 < u.0) (sym tag) older))
    ∙ ap (λ o. after (map_among (reverse ks) o) k.delta) e

pub map_of-loose : (ks : List TreeMark) (t : Tag) (k : TreeMark) → TagsAscend (tags_of ks) → mark_at ks t ≡ Some k → k.parent ≡ None → k.delta ≡ [] → map_of ks t ≡ empty
map_of-loose ks t k up at e d =
    map_of-edge ks t k up at (λ q is. let bad : None ≡ Some q = sym e ∙ is in absurd (cc))
    ∙ (λ i. after (map_among (reverse ks) (e i)) (d i))
    ∙ map_among-nothing (reverse ks)

contains_unreversed : (ks : List TreeMark) (k : TreeMark) → Contains (reverse ks) k → Contains ks k
contains_unreversed ks k h = subst (λ l. Contains l k) (reverse-reverse ks) (contains_reversed (reverse ks) k h)

pub map_of-absent : (ks : List TreeMark) (t : Tag) → TagsAscend (tags_of ks) → mark_at ks t ≡ None → map_of ks t ≡ empty
unfolding map_of
map_of-absent ks t up at =
    map_among-absent (reverse ks) t (λ k c e.
    let bad : None ≡ Some k = sym at ∙ ap (mark_at ks) (sym e) ∙ mark_at-contained ks k up (contains_unreversed ks k c) in
    absurd (cc))
