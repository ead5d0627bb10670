-- Where changes lead: what the map has afterwards, tag by tag; and that they are the net change.
use Rattle.std.proofs.Common.{◌≡◌, ◌≢◌, ◌<◌, ◌≤◌, ◌⊎◌, inl, inr, ⊎_elim, true, false, not, cond, List, [], ◌∷◌, Option, None, Some, refl, sym, ap, subst, ◌∙◌, arith}
use Rattle.std.specs.Prelude.{map, Contains}
use Rattle.std.specs.List.{AllByRecursion}
use Rattle.std.specs.Ordering.{eq_by_cmp}
use Rattle.std.specs.FinMap.{get, same_map}
use Rattle.pk_base.specs.declared.tag.Tag.{Tag}
use Rattle.pk_base.specs.declared.entity.Entity.{Entity}
use Rattle.pk_base.proofs.Same.{same_entity-Decides, same_or_other}
use Rattle.pk_model.specs.Tags.{TagsAscend}
use Rattle.pk_model.specs.Maps.{EntityMap, tag_cmp, with_entity, diff}
use Rattle.pk_model.proofs.TagLists.{tag_total, tag_antisymmetric, same_from_tie, ties_no_other}
use Rattle.list_facts.proofs.Elements.{not_in_nil, Contains-first, Contains-later, Contains-cases, Contains-filter}
use Rattle.entity_store.specs.declared.changes.Change.{Change}
use Rattle.entity_store.specs.Changes.{AreChanges, net_changes, same_value, tags_of_either, lists_among}
use Rattle.entity_store.proofs.FirstValues.{get-with_entity, get_put, get_other}
use Rattle.entity_store.proofs.NetChanges.{differs_at, change_between, differs_from_values, values_from_differs, tags_that_differ, net_changes-listed, net_changes-is, Contains-either, lists_among-net_changes}
use Rattle.delta.specs.Deltas.{StartsAt, after, tags_in, inverse, Follows}

-- ---- two values put into a map

-- at different tags their order does not matter
with_entity-swap : (m : EntityMap) (t u : Tag) (v w : Option Entity) → t ≢ u → with_entity (with_entity m t v) u w ≡ with_entity (with_entity m u w) t v
with_entity-swap m t u v w apart =
    same_map tag_total tag_antisymmetric _ _ (λ q.
    get-with_entity (with_entity m t v) u w q
    ∙ ap (cond (eq_by_cmp tag_cmp q u) w) (get-with_entity m t v q)
    ∙ elim (eq_by_cmp tag_cmp q u) as (λ b. eq_by_cmp tag_cmp q u ≡ b → cond b w (cond (eq_by_cmp tag_cmp q t) v (get m q)) ≡ cond (eq_by_cmp tag_cmp q t) v (cond b w (get m q))) [
      | true ↦ λ e. ap (λ b. cond b v w) (sym (ties_no_other q t (λ s. apart (sym s ∙ same_from_tie q u e))))
      | false ↦ λ e. refl
    ] refl
    ∙ sym (ap (cond (eq_by_cmp tag_cmp q t) v) (get-with_entity m u w q))
    ∙ sym (get-with_entity (with_entity m u w) t v q))

-- at one tag the second stays
pub with_entity-twice : (m : EntityMap) (t : Tag) (v w : Option Entity) → with_entity (with_entity m t v) t w ≡ with_entity m t w
with_entity-twice m t v w =
    same_map tag_total tag_antisymmetric _ _ (λ q.
    get-with_entity (with_entity m t v) t w q
    ∙ ap (cond (eq_by_cmp tag_cmp q t) w) (get-with_entity m t v q)
    ∙ elim (eq_by_cmp tag_cmp q t) as (λ b. cond b w (cond b v (get m q)) ≡ cond b w (get m q)) [ true ↦ refl | false ↦ refl ]
    ∙ sym (get-with_entity m t w q))

-- what is there already changes nothing
pub with_entity-same : (m : EntityMap) (t : Tag) (v : Option Entity) → get m t ≡ v → with_entity m t v ≡ m
with_entity-same m t v is =
    same_map tag_total tag_antisymmetric _ _ (λ q. get-with_entity m t v q ∙ elim (eq_by_cmp tag_cmp q t) as (λ b. eq_by_cmp tag_cmp q t ≡ b → cond b v (get m q) ≡ get m q) [
      | true ↦ λ e. sym is ∙ ap (get m) (sym (same_from_tie q t e))
      | false ↦ λ e. refl
    ] refl)

-- ---- a tag of none of the changes

abbrev pub Untouched : Tag → List Change → Type 0
Untouched t cs = AllByRecursion (λ (c : Change). t ≢ c.tag) cs

-- the tag is below those of all of them
abbrev pub Below : Tag → List Change → Type 0
Below t cs = AllByRecursion (λ (u : Tag). t.0 < u.0) (tags_in cs)

pub Untouched-below : (t : Tag) (cs : List Change) → Below t cs → Untouched t cs
Untouched-below t [] h = tt
Untouched-below t (c ∷ cs) h = (λ e. let n : t.0 ≡ c.tag.0 = ap (λ (x : Tag). x.0) e in let less = h.0 in omega (arith, n, less), Untouched-below t cs h.1)

pub Below-lower : (t u : Tag) (cs : List Change) → t.0 ≤ u.0 → Below u cs → Below t cs
Below-lower t u [] l h = tt
Below-lower t u (c ∷ cs) l h = (omega (arith, l, h.0), Below-lower t u cs l h.1)

pub Below-same : (t u : Tag) (cs : List Change) → t ≡ u → Below u cs → Below t cs
Below-same t u cs e h = subst (λ x. Below x cs) (sym e) h

pub get-after_untouched : (m : EntityMap) (cs : List Change) (t : Tag) → Untouched t cs → get (after m cs) t ≡ get m t
get-after_untouched m [] t h = refl
get-after_untouched m (c ∷ cs) t h = get-after_untouched (with_entity m c.tag c.after) cs t h.1 ∙ get_other m c.tag c.after t h.0

-- a value is put there before or afterwards
pub after-put : (m : EntityMap) (cs : List Change) (t : Tag) (v : Option Entity) → Untouched t cs → after (with_entity m t v) cs ≡ with_entity (after m cs) t v
after-put m [] t v h = refl
after-put m (c ∷ cs) t v h = ap (λ n. after n cs) (with_entity-swap m t c.tag v c.after h.0) ∙ after-put (with_entity m c.tag c.after) cs t v h.1

pub StartsAt-put : (m : EntityMap) (cs : List Change) (t : Tag) (v : Option Entity) → Untouched t cs → StartsAt m cs → StartsAt (with_entity m t v) cs
StartsAt-put m [] t v h k = tt
StartsAt-put m (c ∷ cs) t v h k = (get_other m t v c.tag (λ e. h.0 (sym e)) ∙ k.0, StartsAt-put m cs t v h.1 k.1)

pub StartsAt-unput : (m : EntityMap) (cs : List Change) (t : Tag) (v : Option Entity) → Untouched t cs → StartsAt (with_entity m t v) cs → StartsAt m cs
StartsAt-unput m [] t v h k = tt
StartsAt-unput m (c ∷ cs) t v h k = (sym (get_other m t v c.tag (λ e. h.0 (sym e))) ∙ k.0, StartsAt-unput m cs t v h.1 k.1)

-- ---- the tags of the changes

-- where they ascend, the map has afterwards what each says
pub get-after_each : (m : EntityMap) (cs : List Change) → TagsAscend (tags_in cs) → AllByRecursion (λ (c : Change). get (after m cs) c.tag ≡ c.after) cs
get-after_each m [] h = tt
get-after_each m (c ∷ cs) h =
    (get-after_untouched (with_entity m c.tag c.after) cs c.tag (Untouched-below c.tag cs h.0) ∙ get_put m c.tag c.after, get-after_each (with_entity m c.tag c.after) cs h.1)

between_each : (m n : EntityMap) (cs : List Change) → StartsAt m cs → AllByRecursion (λ (c : Change). get n c.tag ≡ c.after) cs → AllByRecursion (λ c. c ≡ change_between m n c.tag) cs
between_each m n [] h k = tt
between_each m n (c ∷ cs) h k = (λ i. record { tag = c.tag; before = sym h.0 i; after = sym k.0 i }, between_each m n cs h.1 k.1)

differs_each : (m n : EntityMap) (cs : List Change) → StartsAt m cs → AllByRecursion (λ (c : Change). get n c.tag ≡ c.after) cs → AllByRecursion (λ (c : Change). c.before ≢ c.after) cs → (t : Tag) → Contains (tags_in cs) t → differs_at m n t ≡ true
differs_each m n [] h k d t l = absurd (not_in_nil t l)
differs_each m n (c ∷ cs) h k d t l =
    ⊎_elim (λ (e : c.tag ≡ t). subst (λ u. differs_at m n u ≡ true) e (differs_from_values m n c.tag (λ s. d.0 (sym h.0 ∙ s ∙ k.0))))
    (λ (r : Contains (tags_in cs) t). differs_each m n cs h.1 k.1 d.1 t r)
    (Contains-cases c.tag (tags_in cs) t l)

-- a tag is that of some change, or of none
touched_or_not : (t : Tag) (cs : List Change) → Contains (tags_in cs) t ⊎ Untouched t cs
touched_or_not t [] = inr tt
touched_or_not t (c ∷ cs) =
    ⊎_elim {C = Contains (tags_in (c ∷ cs)) t ⊎ Untouched t (c ∷ cs)} (λ (e : c.tag ≡ t). inl (subst (Contains (tags_in (c ∷ cs))) e (Contains-first c.tag (tags_in cs))))
    (λ (n : c.tag ≢ t).
    ⊎_elim {C = Contains (tags_in (c ∷ cs)) t ⊎ Untouched t (c ∷ cs)} (λ (k : Contains (tags_in cs) t). inl (Contains-later c.tag (tags_in cs) t k))
    (λ (u : Untouched t cs). inr (λ e. n (sym e), u))
    (touched_or_not t cs))
    (same_or_other c.tag t)

-- where the map differs afterwards there is a change
touched_where_it_differs : (m : EntityMap) (cs : List Change) (t : Tag) → differs_at m (after m cs) t ≡ true → Contains (tags_in cs) t
touched_where_it_differs m cs t h =
    ⊎_elim (λ (k : Contains (tags_in cs) t). k) (λ (u : Untouched t cs). absurd (values_from_differs m (after m cs) t h (sym (get-after_untouched m cs t u)))) (touched_or_not t cs)

-- ---- the net change

-- changes are the net change between where they start and where they lead
pub net_changes-only : (m : EntityMap) (cs : List Change) → AreChanges cs → StartsAt m cs → cs ≡ net_changes m (after m cs)
net_changes-only m cs are starts =
    let each = get-after_each m cs are.ascend in
    net_changes-is m (after m cs) cs are.ascend (between_each m (after m cs) cs starts each) (differs_each m (after m cs) cs starts each are.differ) (touched_where_it_differs m cs)

-- so the lists of tags among them are the difference
pub lists-difference : (m : EntityMap) (cs : List Change) → AreChanges cs → StartsAt m cs → lists_among cs ≡ diff m (after m cs)
lists-difference m cs are starts = ap lists_among (net_changes-only m cs are starts) ∙ lists_among-net_changes m (after m cs)

starts_between : (m n : EntityMap) (ts : List Tag) → StartsAt m (map (change_between m n) ts)
starts_between m n [] = tt
starts_between m n (t ∷ ts) = (refl, starts_between m n ts)

pub StartsAt-net_changes : (m n : EntityMap) → StartsAt m (net_changes m n)
StartsAt-net_changes m n = subst (StartsAt m) (sym (net_changes-listed m n)) (starts_between m n (tags_that_differ m n))

-- a tag that has the new value already keeps it
keeps_between : (m n l : EntityMap) (ts : List Tag) (q : Tag) → get l q ≡ get n q → get (after l (map (change_between m n) ts)) q ≡ get n q
keeps_between m n l [] q h = h
keeps_between m n l (t ∷ ts) q h =
    keeps_between m n (with_entity l t (get n t)) ts q
    (get-with_entity l t (get n t) q ∙ elim (eq_by_cmp tag_cmp q t) as (λ b. eq_by_cmp tag_cmp q t ≡ b → cond b (get n t) (get l q) ≡ get n q) [
      | true ↦ λ e. ap (get n) (sym (same_from_tie q t e))
      | false ↦ λ e. h
    ] refl)

-- and a tag among those gets it
reaches_between : (m n l : EntityMap) (ts : List Tag) (q : Tag) → Contains ts q → get (after l (map (change_between m n) ts)) q ≡ get n q
reaches_between m n l [] q h = absurd (not_in_nil q h)
reaches_between m n l (t ∷ ts) q h =
    ⊎_elim (λ (e : t ≡ q). keeps_between m n (with_entity l t (get n t)) ts q (subst (λ u. get (with_entity l t (get n t)) u ≡ get n u) e (get_put l t (get n t))))
    (λ (r : Contains ts q). reaches_between m n (with_entity l t (get n t)) ts q r)
    (Contains-cases t ts q h)

pub same_values : (a b : Option Entity) → same_value a b ≡ true → a ≡ b
same_values None None h = refl
same_values None (Some b) h = cc
same_values (Some a) None h = cc
same_values (Some a) (Some b) h = ap Some ((same_entity-Decides a b).0 h)

pub after-net_changes : (m n : EntityMap) → after m (net_changes m n) ≡ n
after-net_changes m n =
    ap (after m) (net_changes-listed m n)
    ∙ same_map tag_total tag_antisymmetric _ _ (λ q. elim (same_value (get m q) (get n q)) as (λ b. same_value (get m q) (get n q) ≡ b → get (after m (map (change_between m n) (tags_that_differ m n))) q ≡ get n q) [
      | true ↦ λ e. keeps_between m n m (tags_that_differ m n) q (same_values (get m q) (get n q) e)
      | false ↦ λ e. let d : differs_at m n q ≡ true = ap not e in reaches_between m n m (tags_that_differ m n) q (Contains-filter (differs_at m n) (tags_of_either m n) q (Contains-either m n q d) d)
    ] refl)

-- ---- the way back

StartsAt-each : (m : EntityMap) (cs : List Change) → AllByRecursion (λ (c : Change). get m c.tag ≡ c.after) cs → StartsAt m (inverse cs)
StartsAt-each m [] h = tt
StartsAt-each m (c ∷ cs) h = (h.0, StartsAt-each m cs h.1)

pub StartsAt-inverse : (m : EntityMap) (cs : List Change) → TagsAscend (tags_in cs) → StartsAt (after m cs) (inverse cs)
StartsAt-inverse m cs h = StartsAt-each (after m cs) cs (get-after_each m cs h)

pub after-inverse : (m : EntityMap) (cs : List Change) → TagsAscend (tags_in cs) → StartsAt m cs → after (after m cs) (inverse cs) ≡ m
after-inverse m [] h k = refl
after-inverse m (c ∷ cs) h k =
    let first = Untouched-below c.tag cs h.0 in
    let back : with_entity (after (with_entity m c.tag c.after) cs) c.tag c.before ≡ after m cs =
    sym (after-put (with_entity m c.tag c.after) cs c.tag c.before first)
    ∙ ap (λ n. after n cs) (with_entity-twice m c.tag c.after c.before ∙ with_entity-same m c.tag c.before k.0) in
    ap (λ n. after n (inverse cs)) back ∙ after-inverse m cs h.1 k.1

pub tags_in-inverse : (cs : List Change) → tags_in (inverse cs) ≡ tags_in cs
tags_in-inverse [] = refl
tags_in-inverse (c ∷ cs) = ap (λ ts. c.tag ∷ ts) (tags_in-inverse cs)

differ-inverse : (cs : List Change) → AllByRecursion (λ (c : Change). c.before ≢ c.after) cs → AllByRecursion (λ (c : Change). c.before ≢ c.after) (inverse cs)
differ-inverse [] h = tt
differ-inverse (c ∷ cs) h = (λ e. h.0 (sym e), differ-inverse cs h.1)

pub AreChanges-inverse : (cs : List Change) → AreChanges cs → AreChanges (inverse cs)
AreChanges-inverse cs h = record {
  ascend = subst TagsAscend (sym (tags_in-inverse cs)) h.ascend;
  differ = differ-inverse cs h.differ;
}

-- ---- behind others

begins_with_end : (m : EntityMap) (cs : List Change) (d : Change) → AllByRecursion (λ (c : Change). get m c.tag ≡ c.after) cs → get m d.tag ≡ d.before → AllByRecursion (λ (c : Change). c.tag ≡ d.tag → c.after ≡ d.before) cs
begins_with_end m [] d h k = tt
begins_with_end m (c ∷ cs) d h k = (λ e. sym h.0 ∙ ap (get m) e ∙ k, begins_with_end m cs d h.1 k)

follows_each : (m : EntityMap) (cs ds : List Change) → AllByRecursion (λ (c : Change). get m c.tag ≡ c.after) cs → StartsAt m ds → Follows cs ds
follows_each m cs [] h k = tt
follows_each m cs (d ∷ ds) h k = (begins_with_end m cs d h k.0, follows_each m cs ds h k.1)

pub follows-after : (m : EntityMap) (cs ds : List Change) → AreChanges cs → StartsAt (after m cs) ds → Follows cs ds
follows-after m cs ds h k = follows_each (after m cs) cs ds (get-after_each m cs h.ascend) k
