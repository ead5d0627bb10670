use Rattle.std.proofs.Common.{◌≡◌, ◌⊎◌, ◌↔◌, false, Some, None, ap, sym, subst, ◌∙◌}
use Rattle.pmark_tree.specs.Marks.{TreeView, initial_of, is_live, mark_at}
use Rattle.pmark_tree.specs.Trees.{IsEdge}
use Rattle.pmark_tree.proofs.Found.{parent_in-at}
use Rattle.pmark_tree.proofs.Kept.{without_parent}
use Rattle.pmark_tree.proofs.tree.MarkTree.parent.Goals as goal

pub returns-clause-edge : goal.returns-clause-edge
returns-clause-edge c p e =
    let ks = c.self.inside.rows.items in
    let k = c.in_ok-find_mark.field-0.now in
    let t = c.args.t in
    let at : mark_at ks t ≡ Some k = ap (λ l. mark_at l t) (sym c.deref.ensures.value) ∙ sym c.in_ok-find_mark.ensures in
    subst (λ l. IsEdge l p t) (ap (λ (v : TreeView). v.marks) c.self.view_is) (c.self.invariant.tree.edges p t (parent_in-at ks t k at ∙ e))

pub returns-clause-none : goal.returns-clause-none
returns-clause-none c =
    let ks = c.self.inside.rows.items in
    let k = c.in_ok-find_mark.field-0.now in
    let t = c.args.t in
    let at : mark_at ks t ≡ Some k = ap (λ l. mark_at l t) (sym c.deref.ensures.value) ∙ sym c.in_ok-find_mark.ensures in
    let none : (k.parent ≡ None) ↔ ((is_live ks t ≡ false) ⊎ (initial_of ks ≡ Some t)) = subst (λ o. (o ≡ None) ↔ ((is_live ks t ≡ false) ⊎ (initial_of ks ≡ Some t))) (parent_in-at ks t k at) (without_parent ks t c.self.invariant.tree) in
    subst (λ l. (k.parent ≡ None) ↔ ((is_live l t ≡ false) ⊎ (initial_of l ≡ Some t))) (ap (λ (v : TreeView). v.marks) c.self.view_is) none
