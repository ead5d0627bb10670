-- Two lists of changes merged: what comes first, that the merged list ascends, where it starts, and where it leads.
use Rattle.std.proofs.Common.{◌≡◌, ◌≢◌, ℕ, ◌+◌, ◌<◌, ◌≤◌, ⊎_elim, nat_lt, true, false, cond, List, [], ◌∷◌, ◌++◌, drop, length, Option, None, Some, refl, sym, ap, subst, ◌∙◌, append-nil, append_assoc, arith, length-drop}
use Rattle.std.specs.Prelude.{slice_get}
use Rattle.std.specs.List.{AllByRecursion, cons_option}
use Rattle.std.specs.FinMap.{get}
use Rattle.std.proofs.lemmas.Bool.{cases_lt, lt-ltb, le-ltb}
use Rattle.std.proofs.lemmas.List.{drop_all}
use Rattle.pk_base.specs.Blocks.{tag}
use Rattle.pk_base.specs.declared.tag.Tag.{Tag}
use Rattle.pk_model.specs.Tags.{TagsAscend}
use Rattle.pk_model.specs.Maps.{EntityMap, with_entity}
use Rattle.entity_store.specs.declared.changes.Change.{Change}
use Rattle.entity_store.specs.Changes.{AreChanges, net_changes, same_value}
use Rattle.entity_store.proofs.NetChanges.{same_value-itself, different_values, values_that_differ}
use Rattle.delta.specs.Deltas.{StartsAt, after, tags_in}
use Rattle.delta.specs.Composed.{joined, merged, composed, ComesNext}
use Rattle.list_facts.proofs.Each.{ByRecursion-left, ByRecursion-right}
use Rattle.list_facts.proofs.Lengths.{cons_option-append}
use Rattle.delta.proofs.Places.{drop-dropped}
use Rattle.delta.proofs.Leads.{Untouched, Below, Untouched-below, Below-lower, Below-same, get-after_untouched, after-put, StartsAt-put, StartsAt-unput, with_entity-twice, with_entity-same, same_values, net_changes-only}

-- ---- one step of the merge

-- whose tag comes first; and where both have one tag, whether it comes back
data Meeting (c d : Change) : Type 0 where
  second : d.tag.0 < c.tag.0 → Meeting c d
  first : c.tag.0 < d.tag.0 → Meeting c d
  back : c.tag ≡ d.tag → c.before ≡ d.after → Meeting c d
  on : c.tag ≡ d.tag → c.before ≢ d.after → Meeting c d

abbrev join_of : Change → Change → Change
join_of c d = record { tag = c.tag; before = c.before; after = d.after }

meeting : (c d : Change) → Meeting c d
meeting c d =
    ⊎_elim (λ (l : d.tag.0 < c.tag.0). second l)
    (λ (g : c.tag.0 ≤ d.tag.0).
    ⊎_elim (λ (l : c.tag.0 < d.tag.0). first l)
    (λ (h : d.tag.0 ≤ c.tag.0).
    let n : c.tag.0 ≡ d.tag.0 = omega arith in
    elim (same_value c.before d.after) as (λ b. same_value c.before d.after ≡ b → Meeting c d) [
      | true ↦ λ e. back (ap tag n) (same_values c.before d.after e)
      | false ↦ λ e. on (ap tag n) (different_values c.before d.after e)
    ] refl)
    (cases_lt c.tag.0 d.tag.0))
    (cases_lt d.tag.0 c.tag.0)

merged-second : (c d : Change) (rest : List Change → List Change) (ds : List Change) → d.tag.0 < c.tag.0 → merged c rest (d ∷ ds) ≡ d ∷ merged c rest ds
merged-second c d rest ds l = ap (λ b. cond b (d ∷ merged c rest ds) (cond (nat_lt c.tag.0 d.tag.0) (c ∷ rest (d ∷ ds)) (cons_option (joined c d) (rest ds)))) (lt-ltb d.tag.0 c.tag.0 l)

not_second : (c d : Change) (rest : List Change → List Change) (ds : List Change) → c.tag.0 ≤ d.tag.0 → merged c rest (d ∷ ds) ≡ cond (nat_lt c.tag.0 d.tag.0) (c ∷ rest (d ∷ ds)) (cons_option (joined c d) (rest ds))
not_second c d rest ds l = ap (λ b. cond b (d ∷ merged c rest ds) (cond (nat_lt c.tag.0 d.tag.0) (c ∷ rest (d ∷ ds)) (cons_option (joined c d) (rest ds)))) (le-ltb d.tag.0 c.tag.0 l)

merged-first : (c d : Change) (rest : List Change → List Change) (ds : List Change) → c.tag.0 < d.tag.0 → merged c rest (d ∷ ds) ≡ c ∷ rest (d ∷ ds)
merged-first c d rest ds l = not_second c d rest ds (omega (arith, l)) ∙ ap (λ b. cond b (c ∷ rest (d ∷ ds)) (cons_option (joined c d) (rest ds))) (lt-ltb c.tag.0 d.tag.0 l)

merged-same : (c d : Change) (rest : List Change → List Change) (ds : List Change) → c.tag ≡ d.tag → merged c rest (d ∷ ds) ≡ cons_option (joined c d) (rest ds)
merged-same c d rest ds e =
    let n : c.tag.0 ≡ d.tag.0 = ap (λ (t : Tag). t.0) e in
    not_second c d rest ds (omega (arith, n)) ∙ ap (λ b. cond b (c ∷ rest (d ∷ ds)) (cons_option (joined c d) (rest ds))) (le-ltb c.tag.0 d.tag.0 (omega (arith, n)))

merged-back : (c d : Change) (rest : List Change → List Change) (ds : List Change) → c.tag ≡ d.tag → c.before ≡ d.after → merged c rest (d ∷ ds) ≡ rest ds
merged-back c d rest ds e b =
    let same : same_value c.before d.after ≡ true = subst (λ o. same_value c.before o ≡ true) b (same_value-itself c.before) in
    merged-same c d rest ds e ∙ ap (λ x. cons_option (cond x None (Some (join_of c d))) (rest ds)) same

merged-on : (c d : Change) (rest : List Change → List Change) (ds : List Change) → c.tag ≡ d.tag → c.before ≢ d.after → merged c rest (d ∷ ds) ≡ join_of c d ∷ rest ds
merged-on c d rest ds e n = merged-same c d rest ds e ∙ ap (λ x. cons_option (cond x None (Some (join_of c d))) (rest ds)) (values_that_differ c.before d.after n)

-- ---- it ascends

abbrev Rises : List Change → Type 0
Rises cs = TagsAscend (tags_in cs)

below-merged : (t : Tag) (c : Change) (rest : List Change → List Change) → t.0 < c.tag.0 → ((es : List Change) → Below t es → Below t (rest es)) → (ds : List Change) → Below t ds → Below t (merged c rest ds)
below-merged t c rest l k [] h = (l, k [] tt)
below-merged t c rest l k (d ∷ ds) h =
    let more = below-merged t c rest l k ds h.1 in
    elim (meeting c d) [
      | second s ↦ subst (Below t) (sym (merged-second c d rest ds s)) (h.0, more)
      | first s ↦ subst (Below t) (sym (merged-first c d rest ds s)) (l, k (d ∷ ds) h)
      | back e b ↦ subst (Below t) (sym (merged-back c d rest ds e b)) (k ds h.1)
      | on e n ↦ subst (Below t) (sym (merged-on c d rest ds e n)) (l, k ds h.1)
    ]

below-composed : (t : Tag) (cs ds : List Change) → Below t cs → Below t ds → Below t (composed cs ds)
below-composed t [] ds h k = k
below-composed t (c ∷ cs) ds h k = below-merged t c (λ es. composed cs es) h.0 (λ es l. below-composed t cs es h.1 l) ds k

rises-merged : (c : Change) (rest : List Change → List Change) → ((t : Tag) → t.0 ≤ c.tag.0 → (es : List Change) → Below t es → Below t (rest es)) → ((es : List Change) → Rises es → Rises (rest es)) → (ds : List Change) → Rises ds → Rises (merged c rest ds)
rises-merged c rest b k [] h = (b c.tag (omega arith) [] tt, k [] tt)
rises-merged c rest b k (d ∷ ds) h =
    let more = rises-merged c rest b k ds h.1 in
    elim (meeting c d) [
      | second s ↦ subst Rises (sym (merged-second c d rest ds s)) (below-merged d.tag c rest s (b d.tag (omega (arith, s))) ds h.0, more)
      | first s ↦ subst Rises (sym (merged-first c d rest ds s)) (b c.tag (omega arith) (d ∷ ds) (s, Below-lower c.tag d.tag ds (omega (arith, s)) h.0), k (d ∷ ds) h)
      | back e s ↦ subst Rises (sym (merged-back c d rest ds e s)) (k ds h.1)
      | on e n ↦ subst Rises (sym (merged-on c d rest ds e n)) (b c.tag (omega arith) ds (Below-same c.tag d.tag ds e h.0), k ds h.1)
    ]

rises-composed : (cs ds : List Change) → Rises cs → Rises ds → Rises (composed cs ds)
rises-composed [] ds h k = k
rises-composed (c ∷ cs) ds h k =
    rises-merged c (λ es. composed cs es) (λ t l es b. below-composed t cs es (Below-lower t c.tag cs l h.0) b) (λ es r. rises-composed cs es h.1 r) ds k

abbrev Differ : List Change → Type 0
Differ cs = AllByRecursion (λ (c : Change). c.before ≢ c.after) cs

differ-merged : (c : Change) (rest : List Change → List Change) → c.before ≢ c.after → ((es : List Change) → Differ es → Differ (rest es)) → (ds : List Change) → Differ ds → Differ (merged c rest ds)
differ-merged c rest x k [] h = (x, k [] tt)
differ-merged c rest x k (d ∷ ds) h =
    let more = differ-merged c rest x k ds h.1 in
    elim (meeting c d) [
      | second s ↦ subst Differ (sym (merged-second c d rest ds s)) (h.0, more)
      | first s ↦ subst Differ (sym (merged-first c d rest ds s)) (x, k (d ∷ ds) h)
      | back e b ↦ subst Differ (sym (merged-back c d rest ds e b)) (k ds h.1)
      | on e n ↦ subst Differ (sym (merged-on c d rest ds e n)) (n, k ds h.1)
    ]

differ-composed : (cs ds : List Change) → Differ cs → Differ ds → Differ (composed cs ds)
differ-composed [] ds h k = k
differ-composed (c ∷ cs) ds h k = differ-merged c (λ es. composed cs es) h.0 (λ es l. differ-composed cs es h.1 l) ds k

pub AreChanges-composed : (cs ds : List Change) → AreChanges cs → AreChanges ds → AreChanges (composed cs ds)
AreChanges-composed cs ds h k = record { ascend = rises-composed cs ds h.ascend k.ascend; differ = differ-composed cs ds h.differ k.differ }

-- ---- where it starts

-- behind the first change they start where they would without it, as none of them has its tag
starts_without : (m : EntityMap) (c : Change) (cs es : List Change) → Below c.tag cs → Below c.tag es → StartsAt (after m (c ∷ cs)) es → StartsAt (after m cs) es
starts_without m c cs es b u h =
    StartsAt-unput (after m cs) es c.tag c.after (Untouched-below c.tag es u) (subst (λ n. StartsAt n es) (after-put m cs c.tag c.after (Untouched-below c.tag cs b)) h)

starts-merged : (m : EntityMap) (c : Change) (cs : List Change) → get m c.tag ≡ c.before → Below c.tag cs → ((es : List Change) → Rises es → StartsAt (after m cs) es → StartsAt m (composed cs es)) → (ds : List Change) → Rises ds → StartsAt (after m (c ∷ cs)) ds
    → StartsAt m (merged c (λ es. composed cs es) ds)
starts-merged m c cs x b k [] h s = (x, k [] tt tt)
starts-merged m c cs x b k (d ∷ ds) h s =
    let more = starts-merged m c cs x b k ds h.1 s.1 in
    let rest : List Change → List Change = λ es. composed cs es in
    elim (meeting c d) [
      | second l ↦
          let below : Below d.tag (c ∷ cs) = (l, Below-lower d.tag c.tag cs (omega (arith, l)) b) in
          subst (StartsAt m) (sym (merged-second c d rest ds l)) (sym (get-after_untouched m (c ∷ cs) d.tag (Untouched-below d.tag (c ∷ cs) below)) ∙ s.0, more)
      | first l ↦
          let below : Below c.tag (d ∷ ds) = (l, Below-lower c.tag d.tag ds (omega (arith, l)) h.0) in
          subst (StartsAt m) (sym (merged-first c d rest ds l)) (x, k (d ∷ ds) h (starts_without m c cs (d ∷ ds) b below s))
      | back e n ↦ subst (StartsAt m) (sym (merged-back c d rest ds e n)) (k ds h.1 (starts_without m c cs ds b (Below-same c.tag d.tag ds e h.0) s.1))
      | on e n ↦ subst (StartsAt m) (sym (merged-on c d rest ds e n)) (x, k ds h.1 (starts_without m c cs ds b (Below-same c.tag d.tag ds e h.0) s.1))
    ]

starts-composed : (cs ds : List Change) (m : EntityMap) → Rises cs → Rises ds → StartsAt m cs → StartsAt (after m cs) ds → StartsAt m (composed cs ds)
starts-composed [] ds m h k x y = y
starts-composed (c ∷ cs) ds m h k x y = starts-merged m c cs x.0 h.0 (λ es r s. starts-composed cs es m h.1 r x.1 s) ds k y

-- ---- where it leads

-- the second change of a tag put behind the first list
put_behind : (m : EntityMap) (c d : Change) (cs : List Change) → Below c.tag cs → c.tag ≡ d.tag → with_entity (after m (c ∷ cs)) d.tag d.after ≡ after (with_entity m c.tag d.after) cs
put_behind m c d cs b e =
    ap (λ t. with_entity (after m (c ∷ cs)) t d.after) (sym e)
    ∙ sym (after-put (with_entity m c.tag c.after) cs c.tag d.after (Untouched-below c.tag cs b))
    ∙ ap (λ n. after n cs) (with_entity-twice m c.tag c.after d.after)

leads-merged : (c : Change) (cs : List Change) → Below c.tag cs → ((n : EntityMap) → StartsAt n cs → (es : List Change) → Rises es → after n (composed cs es) ≡ after (after n cs) es) → (ds : List Change) → Rises ds → (m : EntityMap) → StartsAt m (c ∷ cs)
    → after m (merged c (λ es. composed cs es) ds) ≡ after (after m (c ∷ cs)) ds
leads-merged c cs b k [] h m s = k (with_entity m c.tag c.after) (StartsAt-put m cs c.tag c.after (Untouched-below c.tag cs b) s.1) [] tt
leads-merged c cs b k (d ∷ ds) h m s =
    let more = leads-merged c cs b k ds h.1 in
    let rest : List Change → List Change = λ es. composed cs es in
    elim (meeting c d) [
      | second l ↦
          let none : Untouched d.tag (c ∷ cs) = Untouched-below d.tag (c ∷ cs) (l, Below-lower d.tag c.tag cs (omega (arith, l)) b) in
          ap (after m) (merged-second c d rest ds l)
          ∙ more (with_entity m d.tag d.after) (StartsAt-put m (c ∷ cs) d.tag d.after none s)
          ∙ ap (λ n. after n ds) (after-put m (c ∷ cs) d.tag d.after none)
      | first l ↦ ap (after m) (merged-first c d rest ds l) ∙ k (with_entity m c.tag c.after) (StartsAt-put m cs c.tag c.after (Untouched-below c.tag cs b) s.1) (d ∷ ds) h
      | back e n ↦
          ap (after m) (merged-back c d rest ds e n)
          ∙ k m s.1 ds h.1
          ∙ ap (λ l. after l ds) (sym (put_behind m c d cs b e ∙ ap (λ l. after l cs) (with_entity-same m c.tag d.after (s.0 ∙ n))))
      | on e n ↦
          ap (after m) (merged-on c d rest ds e n)
          ∙ k (with_entity m c.tag d.after) (StartsAt-put m cs c.tag d.after (Untouched-below c.tag cs b) s.1) ds h.1
          ∙ ap (λ l. after l ds) (sym (put_behind m c d cs b e))
    ]

leads-composed : (cs ds : List Change) (m : EntityMap) → Rises cs → Rises ds → StartsAt m cs → after m (composed cs ds) ≡ after (after m cs) ds
leads-composed [] ds m h k s = refl
leads-composed (c ∷ cs) ds m h k s = leads-merged c cs h.0 (λ n x es r. leads-composed cs es n h.1 r x) ds k m s

-- it is the net change from where the first list starts to where the second leads
pub composed-net : (cs ds : List Change) → AreChanges cs → AreChanges ds → (m : EntityMap) → StartsAt m cs → StartsAt (after m cs) ds → composed cs ds ≡ net_changes m (after (after m cs) ds)
composed-net cs ds h k m x y =
    net_changes-only m (composed cs ds) (AreChanges-composed cs ds h k) (starts-composed cs ds m h.ascend k.ascend x y)
    ∙ ap (net_changes m) (leads-composed cs ds m h.ascend k.ascend x)

-- ---- what comes next

pub next-none : (cs ds : List Change) → slice_get cs 0 ≡ None → slice_get ds 0 ≡ None → ComesNext cs ds None 0 0
next-none [] [] p q = record { is = refl; first = omega arith; second = omega arith; further = λ l. absurd (omega (arith, l)) }
next-none (c ∷ cs) ds p q = absurd (cc)
next-none [] (d ∷ ds) p q = absurd (cc)

pub next-first : (cs ds : List Change) (x : Change) → slice_get cs 0 ≡ Some x → slice_get ds 0 ≡ None → ComesNext cs ds (Some x) 1 0
next-first [] ds x p q = absurd (cc)
next-first (c ∷ cs) (d ∷ ds) x p q = absurd (cc)
next-first (c ∷ cs) [] x p q =
    let same : c ≡ x = cc in
    record { is = ap (λ y. y ∷ composed cs []) same; first = omega arith; second = omega arith; further = λ l. omega arith }

pub next-second : (cs ds : List Change) (y : Change) → slice_get cs 0 ≡ None → slice_get ds 0 ≡ Some y → ComesNext cs ds (Some y) 0 1
next-second (c ∷ cs) ds y p q = absurd (cc)
next-second [] [] y p q = absurd (cc)
next-second [] (d ∷ ds) y p q =
    let same : d ≡ y = cc in
    record { is = ap (λ z. z ∷ ds) same; first = omega arith; second = omega arith; further = λ l. omega arith }

pub next-both : (cs ds : List Change) (x y : Change) (change : Option Change) (i j : ℕ) → slice_get cs 0 ≡ Some x → slice_get ds 0 ≡ Some y → ((es fs : List Change) → ComesNext (x ∷ es) (y ∷ fs) change i j) → ComesNext cs ds change i j
next-both [] ds x y change i j p q h = absurd (cc)
next-both (c ∷ cs) [] x y change i j p q h = absurd (cc)
next-both (c ∷ cs) (d ∷ ds) x y change i j p q h =
    let left : x ≡ c = cc in
    let right : y ≡ d = cc in
    subst (λ z. ComesNext (z ∷ cs) (d ∷ ds) change i j) left (subst (λ z. ComesNext (x ∷ cs) (z ∷ ds) change i j) right (h cs ds))

-- once so many changes of each were taken, so many more are, and what they become is added
pub taken-next : (xs cs ds : List Change) (f s p q : ℕ) (change : Option Change) → ComesNext (drop f cs) (drop s ds) change p q → (xs ++ cons_option change []) ++ composed (drop (f + p) cs) (drop (s + q) ds) ≡ xs ++ composed (drop f cs) (drop s ds)
taken-next xs cs ds f s p q change n =
    let rest : List Change = composed (drop p (drop f cs)) (drop q (drop s ds)) in
    let same : composed (drop (f + p) cs) (drop (s + q) ds) ≡ rest = λ i. composed (sym (drop-dropped cs f p) i) (sym (drop-dropped ds s q) i) in
    ap (λ ys. (xs ++ cons_option change []) ++ ys) same
    ∙ append_assoc xs (cons_option change []) rest
    ∙ ap (λ ys. xs ++ ys) (cons_option-append change rest ∙ sym n.is)

pub taken-within : (cs : List Change) (f p : ℕ) → f ≤ length cs → p ≤ length (drop f cs) → f + p ≤ length cs
taken-within cs f p h k = omega (arith, length-drop f cs, h, k)

pub taken-further : (cs ds : List Change) (f s p q : ℕ) (change : Option Change) → f + s < length cs + length ds → f ≤ length cs → s ≤ length ds → ComesNext (drop f cs) (drop s ds) change p q → f + s < f + p + (s + q)
taken-further cs ds f s p q change l h k n =
    let some : 0 < length (drop f cs) + length (drop s ds) = omega (arith, length-drop f cs, length-drop s ds, l, h, k) in
    omega (arith, n.further some)

-- ---- a change that comes behind others

first_of_rest : (t : Tag) (xs : List Change) (c : Change) (ys : List Change) → Below t (xs ++ c ∷ ys) → t.0 < c.tag.0
first_of_rest t [] c ys h = h.0
first_of_rest t (x ∷ xs) c ys h = first_of_rest t xs c ys h.1

pub above-those_ahead : (xs : List Change) (c : Change) (ys : List Change) → Rises (xs ++ c ∷ ys) → AllByRecursion (λ (d : Change). d.tag.0 < c.tag.0) xs
above-those_ahead [] c ys h = tt
above-those_ahead (x ∷ xs) c ys h = (first_of_rest x.tag xs c ys h.0, above-those_ahead xs c ys h.1)

pub differs-behind : (xs : List Change) (c : Change) (ys : List Change) → AreChanges (xs ++ c ∷ ys) → c.before ≢ c.after
differs-behind xs c ys h = (ByRecursion-right (λ (d : Change). d.before ≢ d.after) xs (c ∷ ys) h.differ).0

rises-ahead : (xs ys : List Change) → Rises (xs ++ ys) → Rises xs
rises-ahead [] ys h = tt
rises-ahead (x ∷ xs) ys h = (below-ahead x.tag xs h.0, rises-ahead xs ys h.1)
  where
    below-ahead : (t : Tag) (zs : List Change) → Below t (zs ++ ys) → Below t zs
    below-ahead t [] l = tt
    below-ahead t (z ∷ zs) l = (l.0, below-ahead t zs l.1)

pub AreChanges-ahead : (xs ys : List Change) → AreChanges (xs ++ ys) → AreChanges xs
AreChanges-ahead xs ys h = record { ascend = rises-ahead xs ys h.ascend; differ = ByRecursion-left (λ (d : Change). d.before ≢ d.after) xs ys h.differ }

-- ---- all

pub all-taken : (xs cs ds : List Change) (f s : ℕ) → xs ++ composed (drop f cs) (drop s ds) ≡ composed cs ds → length cs + length ds ≤ f + s → f ≤ length cs → s ≤ length ds → xs ≡ composed cs ds
all-taken xs cs ds f s is l h k =
    let none : drop f cs ≡ [] = drop_all f cs (omega (arith, l, h, k)) in
    let nothing : drop s ds ≡ [] = drop_all s ds (omega (arith, l, h, k)) in
    sym (append-nil xs) ∙ ap (λ ys. xs ++ ys) (λ i. composed (sym none i) (sym nothing i)) ∙ is
