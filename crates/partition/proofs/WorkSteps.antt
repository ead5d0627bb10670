-- The changes on a way are as many as its work counts.
use Rattle.std.proofs.Common.{◌≡◌, ℕ, suc, ◌+◌, ◌*◌, ◌≤◌, true, cond, ◌&&◌, List, [], ◌∷◌, ◌++◌, map, filter, reverse, length, Option, None, Some, Result, Ok, Err, is_none, is_some, refl, sym, ap, ◌∙◌, arith}
use Rattle.std.specs.Prelude.{IfErr, sum_by}
use Rattle.std.proofs.lemmas.List.{reverse-append}
use Rattle.std.proofs.lemmas.List.Sums.{sum_by-append, sum_by-cons}
use Rattle.pk_base.specs.declared.tag.Tag.{Tag}
use Rattle.pk_base.specs.declared.entity.Entity.{Entity}
use Rattle.pk_base.specs.declared.act.Reply.{Reply}
use Rattle.pk_base.specs.declared.refusal.Refusal.{Refusal}
use Rattle.pk_model.specs.Maps.{EntityMap, diff}
use Rattle.pk_model.specs.State.{PartitionState}
use Rattle.entity_store.specs.declared.changes.Change.{Change}
use Rattle.entity_store.specs.Changes.{AreChanges, lists_among, net_changes}
use Rattle.entity_store.proofs.NetChanges.{AreChanges-net_changes}
use Rattle.entity_store.specs.Store.{StoreView}
use Rattle.delta.specs.Deltas.{StartsAt, after}
use Rattle.delta.proofs.Leads.{StartsAt-net_changes, after-net_changes, lists-difference}
use Rattle.pmark_tree.specs.declared.mark.TreeMark.{TreeMark}
use Rattle.pmark_tree.specs.Marks.{delta_in, is_live, parent_in}
use Rattle.pmark_tree.specs.Maps.{map_of, whole_marks}
use Rattle.pmark_tree.specs.Paths.{apart_of}
use Rattle.pmark_tree.specs.Trees.{IsTree}
use Rattle.partition.specs.Contents.{state_of}
use Rattle.partition.specs.Goes.{entries_between, entries_in}
use Rattle.partition.specs.Partition.{answer_of}
use Rattle.partition.specs.Work.{GoesWithin, edge_size, edges_to, map_named, parent_named, size, work}
use Rattle.partition.proofs.Named.{map_named-live, parent_named-whole}

-- ---- the size of a difference

size_listed : (cs : List Change) → size (lists_among cs) ≡ length cs
size_listed [] = refl
size_listed (c ∷ cs) =
    let rest = size_listed cs in
    let fresh = filter (λ (c : Change). is_none c.before) cs in
    let gone = filter (λ (c : Change). is_some c.before && is_none c.after) cs in
    let changed = filter (λ (c : Change). is_some c.before && is_some c.after) cs in
    counted c.before c.after (map (λ (c : Change). c.tag) fresh) (map (λ (c : Change). c.tag) gone) (map (λ (c : Change). c.tag) changed) fresh gone changed rest
  where
    counted : (b a : Option Entity) (ts us vs : List Tag) (fresh gone changed : List Change) → length (map (λ (c : Change). c.tag) fresh) + length (map (λ (c : Change). c.tag) gone) + length (map (λ (c : Change). c.tag) changed) ≡ length cs
        → length (map (λ (c : Change). c.tag) (cond (is_none b) (c ∷ fresh) fresh)) + length (map (λ (c : Change). c.tag) (cond (is_some b && is_none a) (c ∷ gone) gone)) + length (map (λ (c : Change). c.tag) (cond (is_some b && is_some a) (c ∷ changed) changed)) ≡ suc (length cs)
    counted None a ts us vs fresh gone changed h = omega (arith, h)
    counted (Some x) None ts us vs fresh gone changed h = omega (arith, h)
    counted (Some x) (Some y) ts us vs fresh gone changed h = omega (arith, h)

pub size-changes : (m n : EntityMap) (cs : List Change) → AreChanges cs → StartsAt m cs → after m cs ≡ n → size (diff m n) ≡ length cs
size-changes m n cs are starts leads = sym (ap size (lists-difference m cs are starts ∙ ap (diff m) leads)) ∙ size_listed cs

-- ---- the edges of a way

sum-reversed : (f : Tag → ℕ) (ts : List Tag) → sum_by f (reverse ts) ≡ sum_by f ts
sum-reversed f [] = refl
sum-reversed f (t ∷ ts) =
    let turned = ap (sum_by f) (reverse-append (t ∷ []) ts) in
    omega (arith, turned, sum_by-append f (reverse ts) (t ∷ []), sum_by-cons f t ts, sum_by-cons f t [], sum-reversed f ts)

module _ (ks : List TreeMark) (tree : IsTree ks) where
  edge-is : (t : Tag) (o : Option Tag) → parent_in ks t ≡ o → edge_size (whole_marks ks) t ≡ length (delta_in ks t)
  edge-is t None none =
      ap (λ (q : Option Tag). elim q as (λ _. ℕ) [ None ↦ 0 | Some p ↦ size (diff (map_named (whole_marks ks) p) (map_named (whole_marks ks) t)) ]) (parent_named-whole ks t ∙ none)
      ∙ sym (ap length (tree.loose t none))
  edge-is t (Some p) some =
      let edge = tree.edges p t some in
      ap (λ (q : Option Tag). elim q as (λ _. ℕ) [ None ↦ 0 | Some p ↦ size (diff (map_named (whole_marks ks) p) (map_named (whole_marks ks) t)) ]) (parent_named-whole ks t ∙ some)
      ∙ (λ i. size (diff (map_named-live ks p edge.parent_lives i) (map_named-live ks t edge.lives i)))
      ∙ size-changes (map_of ks p) (map_of ks t) (delta_in ks t) edge.changes edge.starts edge.leads

  edges-are : (ts : List Tag) → entries_in ks ts ≡ sum_by (edge_size (whole_marks ks)) ts
  edges-are [] = refl
  edges-are (t ∷ ts) =
      sum_by-cons (λ (u : Tag). length (delta_in ks u)) t ts
      ∙ (λ i. sym (edge-is t (parent_in ks t) refl) i + edges-are ts i)
      ∙ sym (sum_by-cons (edge_size (whole_marks ks)) t ts)

  pub entries-within : (store : StoreView) (at m : Tag) (used : ℕ) (holder : Option ℕ) (unsaved : List Change) → is_live ks at ≡ true → unsaved ≡ net_changes (map_of ks at) store.state.map → length unsaved + entries_between ks at m ≤ work (state_of store ks at used holder) m
  entries-within store at m used holder unsaved lives net =
      let parents : parent_named (whole_marks ks) ≡ parent_in ks = λ i t. parent_named-whole ks t i in
      let f = edge_size (whole_marks ks) in
      let up = apart_of (parent_in ks) at m in
      let down = apart_of (parent_in ks) m at in
      let ways : edges_to (state_of store ks at used holder) m ≡ up ++ down = λ i. apart_of (parents i) at m ++ apart_of (parents i) m at in
      let sums : sum_by f (edges_to (state_of store ks at used holder) m) ≡ sum_by f up + sum_by f down = ap (sum_by f) ways ∙ sum_by-append f up down in
      let turned : entries_in ks (reverse down) ≡ sum_by f down = edges-are (reverse down) ∙ sum-reversed f down in
      let now : size (diff (map_named (whole_marks ks) at) store.state.map) ≡ length unsaved =
      ap (λ n. size (diff n store.state.map)) (map_named-live ks at lives)
      ∙ size-changes (map_of ks at) store.state.map (net_changes (map_of ks at) store.state.map) (AreChanges-net_changes (map_of ks at) store.state.map) (StartsAt-net_changes (map_of ks at) store.state.map) (after-net_changes (map_of ks at) store.state.map)
      ∙ ap length (sym net)
      in
      omega (arith, sums, turned, now, edges-are up)

-- the bound stays where the answer is handed on
pub goes_answered : (s : PartitionState) (m : Tag) (done : Result Reply Refusal) (before after : ℕ) → after ≤ before + 4 * work s m → IfErr done (λ _. after ≡ before) → GoesWithin s m (answer_of done) before after
goes_answered s m (Ok r) before after h k = h
goes_answered s m (Err e) before after h k = k
