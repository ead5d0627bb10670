-- What is kept of the fields stays so: at the beginning, and after each act.
use Rattle.std.proofs.Common.{◌≡◌, ℕ, ◌+◌, ◌*◌, ◌<◌, ◌≤◌, true, false, Bool, cond, List, [], ◌∷◌, ◌++◌, map, take, length, None, Some, refl, sym, ap, subst, ◌∙◌, arith, length-append}
use Rattle.std.specs.Prelude.{Contains}
use Rattle.std.specs.List.{AllByRecursion}
use Rattle.std.specs.FinMap.{empty}
use Rattle.pk_base.specs.Entity.{same_tag}
use Rattle.pk_base.proofs.Same.{same_tag-Decides}
use Rattle.pk_base.specs.declared.tag.Tag.{Tag}
use Rattle.pk_model.specs.Tags.{Ascends, next_tags, tag_at, tags_of}
use Rattle.pk_model.specs.Maps.{EntityMap}
use Rattle.pk_model.specs.State.{Mark, initial_mark}
use Rattle.pk_model.specs.Step.{after_deletion}
use Rattle.pk_model.proofs.TagLists.{length-next_tags, tag_at-next_tags, take-tags_of-more}
use Rattle.pk_model.proofs.TagsTaken.{first_tag}
use Rattle.list_facts.proofs.Each.{ByRecursion-append}
use Rattle.list_facts.proofs.Elements.{Contains-first}
use Rattle.std.proofs.lemmas.List.Elements.{Contains-append_right}
use Rattle.entity_store.specs.declared.changes.Change.{Change}
use Rattle.entity_store.specs.Changes.{net_changes}
use Rattle.delta.specs.Deltas.{StartsAt, after}
use Rattle.delta.proofs.Leads.{StartsAt-net_changes, after-net_changes}
use Rattle.pmark_tree.specs.declared.mark.TreeMark.{TreeMark}
use Rattle.pmark_tree.specs.Marks as tree
use Rattle.pmark_tree.specs.Maps.{map_of, whole_marks}
use Rattle.partition.specs.Work.{map_named}
use Rattle.partition.specs.Unsaved.{IsUnsaved}
use Rattle.partition.specs.Contents.{AreContents, AreHosted, IsOurs}
use Rattle.partition.proofs.Differences.{Entries, none_unsaved}
use Rattle.partition.proofs.Named.{deletion_leaves, map_named-live, new_mark}
use Rattle.partition.proofs.Ours.{nothing_hosted, ours-deletion, ours-hosted, ours-more_blocks, ours-more_used, ours-newest}

one : (ts : List Tag) → 0 < length ts → take 1 ts ≡ tag_at ts 0 ∷ []
one [] h = absurd (omega (arith, h))
one (t ∷ ts) h = refl

pub begun : (p : ℕ) (blocks list : List ℕ) (now : EntityMap) (ks : List TreeMark) (unsaved : Entries) (t : Tag) → p ≤ 32 → blocks ≡ p ∷ [] → list ≡ p ∷ [] → now ≡ empty → t ≡ initial_mark p → ks ≡ tree.initial_mark t ∷ [] → whole_marks ks ≡ record { tag = t; parent = None; map = empty; live = true } ∷ [] → unsaved ≡ [] → AreContents blocks list now ks unsaved t 1
begun p blocks list now ks unsaved t few bs ls nothing is marks whole none =
    let self : same_tag t t ≡ true = (same_tag-Decides t t).1 refl in
    let first : Mark = record { tag = t; parent = None; map = empty; live = true } in
    let lives : tree.is_live ks t ≡ true =
    ap (λ ms. tree.is_live ms t) marks ∙ ap (λ b. elim (cond b (Some (tree.initial_mark t)) None) as (λ _. Bool) [ None ↦ false | Some k ↦ k.live ]) self
    in
    let stands : map_of ks t ≡ empty =
    sym (map_named-live ks t lives)
    ∙ ap (λ ms. map_named ms t) whole ∙ ap (λ b. elim (cond b (Some first) None) as (λ _. EntityMap) [ None ↦ empty | Some k ↦ k.map ]) self
    in
    let taken : Contains (take 1 (tags_of blocks)) t = subst (λ (bs : List ℕ). Contains (take 1 (tags_of bs)) t) (sym bs) (subst (λ (ts : List Tag). Contains ts t) (first_tag p) (subst (λ (u : Tag). Contains (initial_mark p ∷ []) u) (sym is) (Contains-first (initial_mark p) []))) in
    record {
      listed = ls ∙ sym bs;
      ours = subst (AllByRecursion (IsOurs blocks 1)) (sym whole) (record { taken = taken; hosted = nothing_hosted blocks }, tt);
      lives = lives;
      net = none_unsaved (map_of ks t) now unsaved (stands ∙ sym nothing) none;
      within = omega (arith, ap length bs);
      few = omega (arith, ap length bs);
    }

module _ (blocks list : List ℕ) (now : EntityMap) (ks : List TreeMark) (unsaved : Entries) (at : Tag) (used : ℕ) (kept : AreContents blocks list now ks unsaved at used) where
  pub hosted_all : AllByRecursion (λ (k : Mark). AreHosted blocks k.map) (whole_marks ks)
  hosted_all = ours-hosted blocks used (whole_marks ks) kept.ours

  -- the net change since the current mark
  module _ (d : List Change) (is : d ≡ net_changes (map_of ks at) now) where
    pub starts : StartsAt (map_of ks at) d
    starts = subst (StartsAt (map_of ks at)) (sym is) (StartsAt-net_changes (map_of ks at) now)

    pub leads : after (map_of ks at) d ≡ now
    leads = ap (after (map_of ks at)) is ∙ after-net_changes (map_of ks at) now

  -- after a call that took so many tags
  pub called : (blocks' : List ℕ) (now' : EntityMap) (unsaved' : Entries) (n : ℕ) → blocks' ≡ blocks → IsUnsaved (map_of ks at) now' unsaved' → used + n ≤ 64 * length blocks → AreContents blocks' list now' ks unsaved' at (used + n)
  called blocks' now' unsaved' n same net fits = record {
    listed = kept.listed ∙ sym same;
    ours = subst (λ bs. AllByRecursion (IsOurs bs (used + n)) (whole_marks ks)) (sym same) (ours-more_used blocks used n (whole_marks ks) kept.ours);
    lives = kept.lives;
    net = net;
    within = omega (arith, fits, ap length same);
    few = omega (arith, kept.few, ap length same);
  }

  -- after one that was refused, or for which memory ran out
  pub uncalled : (blocks' : List ℕ) (now' : EntityMap) (unsaved' : Entries) → blocks' ≡ blocks → IsUnsaved (map_of ks at) now' unsaved' → AreContents blocks' list now' ks unsaved' at used
  uncalled blocks' now' unsaved' same net = record {
    listed = kept.listed ∙ sym same;
    ours = subst (λ bs. AllByRecursion (IsOurs bs used) (whole_marks ks)) (sym same) kept.ours;
    lives = kept.lives;
    net = net;
    within = omega (arith, kept.within, ap length same);
    few = omega (arith, kept.few, ap length same);
  }

  pub newest : (t : Tag) → Ascends blocks → used < 64 * length blocks → t ≡ tag_at (tags_of blocks) used → AllByRecursion (λ (k : TreeMark). k.tag.0 < t.0) ks
  newest t up fits is = ours-newest blocks used ks ks t up fits is kept.ours

  -- after a mark with the next tag
  pub marked : (t : Tag) (d : List Change) (new : List TreeMark) (cs : Entries) → d ≡ net_changes (map_of ks at) now → AreHosted blocks now → Ascends blocks → used < 64 * length blocks → t ≡ tag_at (tags_of blocks) used → new ≡ ks ++ tree.child_mark t at d ∷ [] → whole_marks new ≡ whole_marks ks ++ record { tag = t; parent = Some at; map = after (map_of ks at) d; live = true } ∷ [] → cs ≡ [] → AreContents blocks list now new cs t (used + 1)
  marked t d new cs net hosted_now up fits is marks whole none =
      let k : Mark = record { tag = t; parent = Some at; map = after (map_of ks at) d; live = true } in
      let stands = new_mark ks new (tree.child_mark t at d) k marks refl (newest t up fits is) whole refl in
      let next : take 1 (next_tags blocks used) ≡ t ∷ [] = one (next_tags blocks used) (omega (arith, length-next_tags blocks used, fits)) ∙ ap (λ (u : Tag). u ∷ []) (tag_at-next_tags blocks used 0 ∙ ap (tag_at (tags_of blocks)) (omega arith) ∙ sym is) in
      let taken : Contains (take (used + 1) (tags_of blocks)) t = subst (λ ts. Contains ts t) (sym (take-tags_of-more blocks used 1)) (Contains-append_right (take used (tags_of blocks)) (take 1 (next_tags blocks used)) t (subst (λ ts. Contains ts t) (sym next) (Contains-first t []))) in
      let hosted : AreHosted blocks (after (map_of ks at) d) = subst (AreHosted blocks) (sym (leads d net)) hosted_now in
      record {
        listed = kept.listed;
        ours = subst (AllByRecursion (IsOurs blocks (used + 1))) (sym whole) (ByRecursion-append (IsOurs blocks (used + 1)) (whole_marks ks) (k ∷ []) (ours-more_used blocks used 1 (whole_marks ks) kept.ours) (record { taken = taken; hosted = hosted }, tt));
        lives = stands.lives;
        net = none_unsaved (map_of new t) now cs (stands.map ∙ leads d net) none;
        within = omega (arith, fits);
        few = kept.few;
      }

  -- after a goto to a live mark
  pub gone_to : (m : Tag) (blocks' : List ℕ) (now' : EntityMap) (cs : Entries) → tree.is_live ks m ≡ true → blocks' ≡ blocks → now' ≡ map_of ks m → cs ≡ [] → AreContents blocks' list now' ks cs m used
  gone_to m blocks' now' cs lives same is none = record {
    listed = kept.listed ∙ sym same;
    ours = subst (λ bs. AllByRecursion (IsOurs bs used) (whole_marks ks)) (sym same) kept.ours;
    lives = lives;
    net = none_unsaved (map_of ks m) now' cs (sym is) none;
    within = omega (arith, kept.within, ap length same);
    few = omega (arith, kept.few, ap length same);
  }

  -- after a mark is deleted that is not the current one
  pub removed_other : (m p : Tag) (new : List TreeMark) → whole_marks new ≡ map (after_deletion m p) (whole_marks ks) → same_tag at m ≡ false → AreContents blocks list now new unsaved at used
  removed_other m p new whole other =
      let stands = deletion_leaves m p at ks new whole kept.lives other in
      record {
        listed = kept.listed;
        ours = subst (AllByRecursion (IsOurs blocks used)) (sym whole) (ours-deletion blocks used m p (whole_marks ks) kept.ours);
        lives = stands.lives;
        net = subst (λ n. IsUnsaved n now unsaved) (sym stands.map) kept.net;
        within = kept.within;
        few = kept.few;
      }

  -- after the current one is deleted, whose parent is current then
  pub removed_current : (p : Tag) (new : List TreeMark) (unsaved' : Entries) → whole_marks new ≡ map (after_deletion at p) (whole_marks ks) → tree.is_live ks p ≡ true → same_tag p at ≡ false → IsUnsaved (map_of ks p) now unsaved' → AreContents blocks list now new unsaved' p used
  removed_current p new unsaved' whole lives other net =
      let stands = deletion_leaves at p p ks new whole lives other in
      record {
        listed = kept.listed;
        ours = subst (AllByRecursion (IsOurs blocks used)) (sym whole) (ours-deletion blocks used at p (whole_marks ks) kept.ours);
        lives = stands.lives;
        net = subst (λ n. IsUnsaved n now unsaved') (sym stands.map) net;
        within = kept.within;
        few = kept.few;
      }

  -- after a block is drawn
  pub drawn : (blocks' list' : List ℕ) (now' : EntityMap) (b : ℕ) → blocks' ≡ blocks ++ b ∷ [] → list' ≡ list ++ b ∷ [] → now' ≡ now → length blocks' ≤ 262143 → AreContents blocks' list' now' ks unsaved at used
  drawn blocks' list' now' b same lists is few = record {
    listed = lists ∙ ap (λ bs. bs ++ b ∷ []) kept.listed ∙ sym same;
    ours = subst (λ bs. AllByRecursion (IsOurs bs used) (whole_marks ks)) (sym same) (ours-more_blocks blocks (b ∷ []) used (whole_marks ks) kept.within kept.ours);
    lives = kept.lives;
    net = subst (λ n. IsUnsaved (map_of ks at) n unsaved) (sym is) kept.net;
    within = omega (arith, kept.within, ap length same, length-append blocks (b ∷ []));
    few = few;
  }
