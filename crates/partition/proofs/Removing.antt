-- What is unsaved behind the parent of a mark, where so much is unsaved behind the mark.
use Rattle.std.proofs.Common.{◌≡◌, true, false, List, Some, None, refl, sym, ap, subst, ◌∙◌, arith}
use Rattle.std.specs.Prelude.{IsSome}
use Rattle.pk_base.specs.Entity.{same_tag}
use Rattle.pk_base.proofs.Same.{same_tag-Decides}
use Rattle.pk_base.specs.declared.tag.Tag.{Tag}
use Rattle.pk_model.specs.Maps.{EntityMap}
use Rattle.entity_store.specs.declared.changes.Change.{Change}
use Rattle.entity_store.specs.Changes.{net_changes}
use Rattle.delta.specs.Deltas.{Follows, StartsAt, after}
use Rattle.delta.proofs.Leads.{StartsAt-net_changes, after-net_changes, follows-after}
use Rattle.pmark_tree.specs.declared.mark.TreeMark.{TreeMark}
use Rattle.pmark_tree.specs.Marks.{delta_in, parent_in}
use Rattle.pmark_tree.specs.Maps.{map_of}
use Rattle.pmark_tree.specs.Trees.{IsEdge}

pub behind_follows : (ks : List TreeMark) (m : Tag) (d cs : List Change) → d ≡ delta_in ks m → IsSome (parent_in ks m) → ((p : Tag) → parent_in ks m ≡ Some p → IsEdge ks p m) → StartsAt (map_of ks m) cs → Follows d cs
behind_follows ks m d cs is some edge starts =
    elim (parent_in ks m) as (λ o. parent_in ks m ≡ o → IsSome o → Follows d cs) [
      | None ↦ λ e no. absurd (let none = no in cc)
      | Some p ↦ λ e yes.
          let k = edge p e in
          let there : StartsAt (after (map_of ks p) (delta_in ks m)) cs = subst (λ n. StartsAt n cs) (sym k.leads) starts in
          subst (λ ds. Follows ds cs) (sym is) (follows-after (map_of ks p) (delta_in ks m) cs k.changes there)
    ] refl some

pub behind_net : (ks : List TreeMark) (m p : Tag) (n : EntityMap) (d cs out : List Change) → d ≡ delta_in ks m → IsEdge ks p m → cs ≡ net_changes (map_of ks m) n → ((a : EntityMap) → StartsAt a d → StartsAt (after a d) cs → out ≡ net_changes a (after (after a d) cs)) → out ≡ net_changes (map_of ks p) n
behind_net ks m p n d cs out is edge net composed =
    let starts : StartsAt (map_of ks p) d = subst (StartsAt (map_of ks p)) (sym is) edge.starts in
    let there : after (map_of ks p) d ≡ map_of ks m = ap (after (map_of ks p)) is ∙ edge.leads in
    let on : StartsAt (after (map_of ks p) d) cs = subst (λ a. StartsAt a cs) (sym there) (subst (StartsAt (map_of ks m)) (sym net) (StartsAt-net_changes (map_of ks m) n)) in
    let end : after (after (map_of ks p) d) cs ≡ n = (λ i. after (there i) (net i)) ∙ after-net_changes (map_of ks m) n in
    composed (map_of ks p) starts on ∙ ap (net_changes (map_of ks p)) end

-- a parent has another tag
pub older_other : (ks : List TreeMark) (p t : Tag) → IsEdge ks p t → same_tag p t ≡ false
older_other ks p t edge =
    elim (same_tag p t) as (λ b. same_tag p t ≡ b → b ≡ false) [
      | true ↦ λ e. absurd (let same : p.0 ≡ t.0 = ap (λ (x : Tag). x.0) ((same_tag-Decides p t).0 e) in let older = edge.older in omega (arith, same, older))
      | false ↦ λ e. refl
    ] refl
