-- A call's changes are no more than were put, and what a recorder begins with.
use Rattle.std.proofs.Common.{◌≡◌, ◌≢◌, ℕ, ◌<◌, ◌≤◌, true, false, List, [], ◌∷◌, map, length, Option, refl, sym, ap, subst, ◌∙◌, ⊎_elim, arith}
use Rattle.std.specs.Prelude.{Contains}
use Rattle.std.specs.List.{AllByRecursion, list_any}
use Rattle.std.specs.Ordering.{eq_by_cmp}
use Rattle.std.proofs.lemmas.Bool.{or_cases, true≢false}
use Rattle.std.proofs.lemmas.List.{length-map}
use Rattle.std.specs.FinMap.{get}
use Rattle.pk_base.specs.declared.tag.Tag.{Tag}
use Rattle.pk_base.specs.declared.entity.Entity.{Entity}
use Rattle.pk_model.specs.Tags.{TagsAscend}
use Rattle.pk_model.specs.Maps.{EntityMap, tag_cmp}
use Rattle.list_facts.proofs.Elements.{Contains-first, Contains-later, filter_contains}
use Rattle.list_facts.proofs.Each.{ByRecursion-contains, ByRecursion-weaker}
use Rattle.pk_model.specs.Apart.{NoRepeats}
use Rattle.pk_model.proofs.TagLists.{same_from_tie}
use Rattle.entity_store.specs.declared.changes.Change.{Change}
use Rattle.entity_store.specs.Changes.{net_changes, tags_of_either}
use Rattle.entity_store.specs.Recording.{put_back}
use Rattle.entity_store.specs.Recorder.{began, Records}
use Rattle.entity_store.specs.Store.{Stored, StoreView}
use Rattle.entity_store.proofs.FirstValues.{get_other}
use Rattle.entity_store.proofs.Live.{ties_with_one}
use Rattle.entity_store.proofs.Room.{no_more-different}
use Rattle.entity_store.proofs.NetChanges.{TagsAscend-differ, change_between, differs_at, net_changes-listed, tags_that_differ, values_from_differs}

-- ---- how many changes were recorded

-- a tag that was not put has what it had
unput_same : (m : EntityMap) (ps : List (Tag × Option Entity)) (q : Tag) → (Contains (map (λ p. p.0) ps) q → ⊥) → get (put_back m ps) q ≡ get m q
unput_same m [] q h = refl
unput_same m (p ∷ ps) q h =
    get_other (put_back m ps) p.0 p.1 q (λ e. h (subst (Contains (map (λ p. p.0) (p ∷ ps))) (sym e) (Contains-first p.0 (map (λ p. p.0) ps))))
    ∙ unput_same m ps q (λ k. h (Contains-later p.0 (map (λ p. p.0) ps) q k))

among_tied : (t : Tag) (ts : List Tag) → list_any (eq_by_cmp tag_cmp t) ts ≡ true → Contains ts t
among_tied t [] h = cc
among_tied t (u ∷ us) h =
    ⊎_elim (λ (e : eq_by_cmp tag_cmp t u ≡ true). subst (λ (v : Tag). Contains (u ∷ us) v) (sym (same_from_tie t u e)) (Contains-first u us))
    (λ (k : list_any (eq_by_cmp tag_cmp t) us ≡ true). Contains-later u us t (among_tied t us k))
    (or_cases _ _ h)

put_where_changed : (m : EntityMap) (ps : List (Tag × Option Entity)) (t : Tag) → differs_at (put_back m ps) m t ≡ true → Contains (map (λ p. p.0) ps) t
put_where_changed m ps t h =
    let put = map (λ (p : Tag × Option Entity). p.0) ps in
    elim (list_any (eq_by_cmp tag_cmp t) put) as (λ b. list_any (eq_by_cmp tag_cmp t) put ≡ b → Contains put t) [
      | true ↦ λ e. among_tied t put e
      | false ↦ λ e.
          let absent : Contains put t → ⊥ = λ k. true≢false (sym (ties_with_one put t k) ∙ e) in
          absurd (values_from_differs (put_back m ps) m t h (unput_same m ps t absent))
    ] refl

ascending_once : (ts : List Tag) → TagsAscend ts → NoRepeats ts
ascending_once [] h = tt
ascending_once (t ∷ ts) h = (ByRecursion-weaker (λ u. t.0 < u.0) (λ u. t ≢ u) (λ u l e. let same : t.0 ≡ u.0 = ap (λ (x : Tag). x.0) e in omega arith) ts h.0, ascending_once ts h.1)

-- no more tags changed than were put
few_changes : (m : EntityMap) (ps : List (Tag × Option Entity)) → length (net_changes (put_back m ps) m) ≤ length ps
few_changes m ps =
    let old = put_back m ps in
    let ts = tags_that_differ old m in
    let put = map (λ (p : Tag × Option Entity). p.0) ps in
    let among : AllByRecursion (Contains put) ts = ByRecursion-contains (Contains put) ts (λ t h. put_where_changed m ps t (filter_contains (differs_at old m) (tags_of_either old m) t h).1) in
    let fewer : length ts ≤ length put = no_more-different ts put (ascending_once ts (TagsAscend-differ old m)) among in
    omega (arith, fewer, ap length (net_changes-listed old m), length-map ts (change_between old m), length-map ps (λ (p : Tag × Option Entity). p.0))

pub recorded_few : (n : ℕ) (a b : StoreView) (cs : List Change) → Records n a b → a.recording.first ≡ [] → cs ≡ net_changes (began b) b.state.map → length cs ≤ n
recorded_few n a b cs records none is =
    let few : length (net_changes (began b) b.state.map) ≤ length b.recording.first = few_changes b.state.map b.recording.first in
    omega (arith, few, records.puts, ap length is, ap length none)

-- a store that is lent with nothing recorded began with what it has
pub lent_began : (old : Stored) (lent : StoreView) → lent.state ≡ old → lent.recording.first ≡ [] → began lent ≡ old.map
lent_began old lent same none = λ i. put_back (same i).map (none i)
