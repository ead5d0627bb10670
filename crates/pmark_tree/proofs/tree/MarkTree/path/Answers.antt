use Rattle.std.proofs.Common.{ap, sym, subst, ◌∙◌, List}
use Rattle.std.specs.Prelude.{reverse}
use Rattle.pk_base.specs.declared.tag.Tag.{Tag}
use Rattle.pmark_tree.specs.Marks.{TreeView, parent_in}
use Rattle.pmark_tree.specs.Paths.{Leads, apart_of}
use Rattle.pmark_tree.specs.Walks.{IsWalk}
use Rattle.pmark_tree.proofs.Lines.{walk-met, met-up, met-down, met-leads}
use Rattle.pmark_tree.proofs.tree.MarkTree.path.Goals as goal

pub loop-walk-preserved : goal.loop-walk-preserved
loop-walk-preserved c =
    let new = c.step.new.walk in
    let w = c.loop-walk.walk in
    let same = c.deref.ensures.value in
    subst (λ l. IsWalk l c.args.from c.args.to new.from new.to new.up.items new.down.items) same
    (c.in_ok-step.ensures.walk c.args.from c.args.to (subst (λ l. IsWalk l c.args.from c.args.to w.from w.to w.up.items w.down.items) (sym same) c.loop-walk.invariant))

pub returns-clause-up : goal.returns-clause-up
returns-clause-up c =
    let ks = c.self.inside.rows.items in
    let w = c.loop-walk.walk in
    let met = walk-met ks c.args.from c.args.to w.from w.to w.up.items w.down.items c.loop-walk-test.false c.loop-walk.invariant in
    let same = ap (λ (v : TreeView). v.marks) c.self.view_is in
    c.of.ensures ∙ met-up ks c.self.invariant.tree c.args.from c.args.to w.from w.up.items w.down.items met ∙ ap (λ l. apart_of (parent_in l) c.args.from c.args.to) same

pub returns-clause-down : goal.returns-clause-down
returns-clause-down c =
    let ks = c.self.inside.rows.items in
    let w = c.loop-walk.walk in
    let met = walk-met ks c.args.from c.args.to w.from w.to w.up.items w.down.items c.loop-walk-test.false c.loop-walk.invariant in
    let same = ap (λ (v : TreeView). v.marks) c.self.view_is in
    c.of-2.ensures ∙ c.reverse.ensures.items ∙ ap (λ (l : List Tag). reverse l) (met-down ks c.self.invariant.tree c.args.from c.args.to w.from w.up.items w.down.items met ∙ ap (λ l. apart_of (parent_in l) c.args.to c.args.from) same)

pub returns-clause-leads : goal.returns-clause-leads
returns-clause-leads c =
    let ks = c.self.inside.rows.items in
    let w = c.loop-walk.walk in
    let met = walk-met ks c.args.from c.args.to w.from w.to w.up.items w.down.items c.loop-walk-test.false c.loop-walk.invariant in
    let same = ap (λ (v : TreeView). v.marks) c.self.view_is in
    subst (λ l. Leads (parent_in l) c.args.from c.args.to c.of.result c.of-2.result) same
    (subst (λ u. Leads (parent_in ks) c.args.from c.args.to u c.of-2.result) (sym c.of.ensures)
    (subst (Leads (parent_in ks) c.args.from c.args.to w.up.items) (sym (c.of-2.ensures ∙ c.reverse.ensures.items)) (met-leads ks c.self.invariant.tree c.args.from c.args.to w.from w.up.items w.down.items met)))
