-- The marks of a partition have tags that were taken, and their entities are hosted; so the changes between two of
-- their maps may be applied.
use Rattle.std.proofs.Common.{◌≡◌, ◌≢◌, ℕ, zero, suc, ◌+◌, ◌*◌, ◌<◌, ◌≤◌, true, false, cond, List, [], ◌∷◌, ◌++◌, map, take, length, get_or, Option, Some, None, refl, sym, subst, ◌∙◌, ⊎_elim, arith}
use Rattle.std.specs.Prelude.{Contains, IsTrue}
use Rattle.std.specs.List.{AllByRecursion}
use Rattle.std.specs.FinMap.{empty, get, get-empty}
use Rattle.pk_base.specs.Blocks.{tag}
use Rattle.pk_base.specs.Entity.{same_tag, same_optional}
use Rattle.pk_base.specs.declared.tag.Tag.{Tag}
use Rattle.pk_base.specs.declared.entity.Entity.{Entity}
use Rattle.pk_model.specs.Tags.{Ascends, TagsAscend, owns, next_tags, tag_at, tags_of}
use Rattle.pk_model.specs.Maps.{EntityMap, tag_cmp}
use Rattle.pk_model.specs.State.{Mark}
use Rattle.pk_model.specs.Step.{after_deletion, deleted_mark}
use Rattle.pk_model.proofs.TagLists.{TagsAscend-tags_of, length-tags_of, take-tags_of-append, take-tags_of-more}
use Rattle.pk_model.proofs.TagsTaken.{ByRecursion-find}
use Rattle.list_facts.proofs.Each.{ByRecursion-get_or, ByRecursion-map, ByRecursion-weaker}
use Rattle.list_facts.proofs.Elements.{not_in_nil, Contains-cases}
use Rattle.std.proofs.lemmas.List.Elements.{Contains-append_left}
use Rattle.entity_store.specs.declared.changes.Change.{Change}
use Rattle.entity_store.specs.Changes.{AreChanges}
use Rattle.entity_store.specs.Store.{IfHosted}
use Rattle.entity_store.proofs.KeptSlots.{hosted_more}
use Rattle.delta.specs.Deltas.{StartsAt, after, inverse, tags_in}
use Rattle.delta.proofs.Leads.{StartsAt-inverse, get-after_each}
use Rattle.pmark_tree.specs.declared.mark.TreeMark.{TreeMark}
use Rattle.pmark_tree.specs.Marks.{is_live}
use Rattle.pmark_tree.specs.Maps.{map_of, whole_mark, whole_marks}
use Rattle.partition.specs.Contents.{AreHosted, IsOurs}
use Rattle.partition.specs.Goes.{MayApply, whole_of}
use Rattle.partition.proofs.Named.{live_named}

-- ---- the marks that are kept

pub ours-more_blocks : (blocks more : List ℕ) (used : ℕ) (ks : List Mark) → used ≤ 64 * length blocks → AllByRecursion (IsOurs blocks used) ks → AllByRecursion (IsOurs (blocks ++ more) used) ks
ours-more_blocks blocks more used ks within all =
    ByRecursion-weaker (IsOurs blocks used) (IsOurs (blocks ++ more) used) (λ k h. record {
      taken = subst (λ ts. Contains ts k.tag) (sym (take-tags_of-append blocks more used within)) h.taken;
      hosted = λ t e f. hosted_more blocks more t e (h.hosted t e f);
    }) ks all

pub ours-more_used : (blocks : List ℕ) (used n : ℕ) (ks : List Mark) → AllByRecursion (IsOurs blocks used) ks → AllByRecursion (IsOurs blocks (used + n)) ks
ours-more_used blocks used n ks all =
    ByRecursion-weaker (IsOurs blocks used) (IsOurs blocks (used + n)) (λ k h. record {
      taken = subst (λ ts. Contains ts k.tag) (sym (take-tags_of-more blocks used n)) (Contains-append_left (take used (tags_of blocks)) (take n (next_tags blocks used)) k.tag h.taken);
      hosted = h.hosted;
    }) ks all

some_from_none : (e : Entity) → None ≡ Some e → ⊥
some_from_none e h = cc

pub nothing_hosted : (blocks : List ℕ) → AreHosted blocks empty
nothing_hosted blocks = λ t e f. absurd (let none = get-empty {K = Tag} {X = Entity} tag_cmp t in let no : None ≡ Some e = sym none ∙ f in some_from_none e no)

pub ours-deletion : (blocks : List ℕ) (used : ℕ) (m p : Tag) (ks : List Mark) → AllByRecursion (IsOurs blocks used) ks → AllByRecursion (IsOurs blocks used) (map (after_deletion m p) ks)
ours-deletion blocks used m p ks all =
    ByRecursion-map (IsOurs blocks used) (IsOurs blocks used) (after_deletion m p) (λ k h.
    elim (same_tag k.tag m) as (λ b. IsOurs blocks used (cond b (deleted_mark k) (cond (same_optional k.parent (Some m)) (record k { parent = Some p }) k))) [
      | true ↦ record { taken = h.taken; hosted = nothing_hosted blocks }
      | false ↦ elim (same_optional k.parent (Some m)) as (λ b. IsOurs blocks used (cond b (record k { parent = Some p }) k)) [
        | true ↦ record { taken = h.taken; hosted = h.hosted }
        | false ↦ h
      ]
    ]) ks all

-- what is hosted of each is hosted of a live one
pub ours-hosted : (blocks : List ℕ) (used : ℕ) (ks : List Mark) → AllByRecursion (IsOurs blocks used) ks → AllByRecursion (λ (k : Mark). AreHosted blocks k.map) ks
ours-hosted blocks used ks all = ByRecursion-weaker (IsOurs blocks used) (λ (k : Mark). AreHosted blocks k.map) (λ k h. h.hosted) ks all

pub hosted_live : (blocks : List ℕ) (ks : List TreeMark) (t : Tag) → AllByRecursion (λ (k : Mark). AreHosted blocks k.map) (whole_marks ks) → is_live ks t ≡ true → AreHosted blocks (map_of ks t)
hosted_live blocks ks t all lives = ByRecursion-find (λ (k : Mark). AreHosted blocks k.map) (λ (k : Mark). same_tag k.tag t) (whole_marks ks) (whole_of ks t) all (live_named ks t lives)

-- ---- the next tag is above those that were taken

below_next : (ts : List Tag) (n : ℕ) (t : Tag) → TagsAscend ts → n < length ts → Contains (take n ts) t → t.0 < (get_or ts n (tag 0)).0
below_next [] n t up less h = absurd (omega (arith, less))
below_next (u ∷ us) zero t up less h = absurd (not_in_nil t h)
below_next (u ∷ us) (suc n) t up less h =
    ⊎_elim (λ (e : u ≡ t). subst (λ (v : Tag). v.0 < (get_or us n (tag 0)).0) e (ByRecursion-get_or (λ v. u.0 < v.0) us n (tag 0) (omega (arith, less)) up.0))
    (λ (k : Contains (take n us) t). below_next us n t up.1 (omega (arith, less)) k)
    (Contains-cases u (take n us) t h)

pub ours-newest : (blocks : List ℕ) (used : ℕ) (all ks : List TreeMark) (t : Tag) → Ascends blocks → used < 64 * length blocks → t ≡ tag_at (tags_of blocks) used → AllByRecursion (IsOurs blocks used) (map (whole_mark all) ks) → AllByRecursion (λ (k : TreeMark). k.tag.0 < t.0) ks
ours-newest blocks used all [] t up less is h = tt
ours-newest blocks used all (k ∷ ks) t up less is h = (
  subst (λ (u : Tag). k.tag.0 < u.0) (sym is) (below_next (tags_of blocks) used k.tag (TagsAscend-tags_of blocks up) (omega (arith, less, length-tags_of blocks)) h.0.taken),
  ours-newest blocks used all ks t up less is h.1,
)

-- ---- the changes between two maps

record IsBetween (m n : EntityMap) (c : Change) : Type 0 where
  before : get m c.tag ≡ c.before
  after : get n c.tag ≡ c.after
  differ : c.before ≢ c.after

between_each : (m n : EntityMap) (cs : List Change) → AllByRecursion (λ (c : Change). get m c.tag ≡ c.before) cs → AllByRecursion (λ (c : Change). get n c.tag ≡ c.after) cs → AllByRecursion (λ (c : Change). c.before ≢ c.after) cs → AllByRecursion (IsBetween m n) cs
between_each m n [] a b d = tt
between_each m n (c ∷ cs) a b d = (record { before = a.0; after = b.0; differ = d.0 }, between_each m n cs a.1 b.1 d.1)

between : (m n : EntityMap) (cs : List Change) → AreChanges cs → StartsAt m cs → after m cs ≡ n → AllByRecursion (IsBetween m n) cs
between m n cs are starts leads =
    between_each m n cs starts (subst (λ o. AllByRecursion (λ (c : Change). get o c.tag ≡ c.after) cs) leads (get-after_each m cs are.ascend)) are.differ

hosted_value : (blocks : List ℕ) (m : EntityMap) (t : Tag) (o : Option Entity) → AreHosted blocks m → get m t ≡ o → IfHosted blocks t o
hosted_value blocks m t None h e = tt
hosted_value blocks m t (Some x) h e = h t x e

owned_value : (blocks : List ℕ) (t : Tag) (o : Option Entity) → IfHosted blocks t o → o ≢ None → owns blocks t ≡ true
owned_value blocks t None h e = absurd (e refl)
owned_value blocks t (Some x) h e = h.owned

owned_tag : (blocks : List ℕ) (t : Tag) (a b : Option Entity) → IfHosted blocks t a → IfHosted blocks t b → a ≢ b → owns blocks t ≡ true
owned_tag blocks t None b h k d = owned_value blocks t b k (λ e. d (sym e))
owned_tag blocks t (Some x) b h k d = h.owned

module _ (blocks : List ℕ) (m n : EntityMap) (from : AreHosted blocks m) (to : AreHosted blocks n) where
  owned_between : (cs : List Change) → AllByRecursion (IsBetween m n) cs → AllByRecursion (λ t. IsTrue (owns blocks t)) (tags_in cs)
  owned_between [] h = tt
  owned_between (c ∷ cs) h =
      (owned_tag blocks c.tag c.before c.after (hosted_value blocks m c.tag c.before from h.0.before) (hosted_value blocks n c.tag c.after to h.0.after) h.0.differ, owned_between cs h.1)

  hosted_after : (cs : List Change) → AllByRecursion (IsBetween m n) cs → AllByRecursion (λ (c : Change). IfHosted blocks c.tag c.after) cs
  hosted_after [] h = tt
  hosted_after (c ∷ cs) h = (hosted_value blocks n c.tag c.after to h.0.after, hosted_after cs h.1)

  hosted_before : (cs : List Change) → AllByRecursion (IsBetween m n) cs → AllByRecursion (λ (c : Change). IfHosted blocks c.tag c.after) (inverse cs)
  hosted_before [] h = tt
  hosted_before (c ∷ cs) h = (hosted_value blocks m c.tag c.before from h.0.before, hosted_before cs h.1)

  -- they may be applied to the one, and undone in the other
  pub may_apply : (cs : List Change) → AreChanges cs → StartsAt m cs → after m cs ≡ n → MayApply blocks true m cs
  may_apply cs are starts leads =
      let all = between m n cs are starts leads in
      record { starts = starts; owned = owned_between cs all; hosted = hosted_after cs all }

  pub may_undo : (cs : List Change) → AreChanges cs → StartsAt m cs → after m cs ≡ n → MayApply blocks false n cs
  may_undo cs are starts leads =
      let all = between m n cs are starts leads in
      record { starts = subst (λ o. StartsAt o (inverse cs)) leads (StartsAt-inverse m cs are.ascend); owned = owned_between cs all; hosted = hosted_before cs all }
