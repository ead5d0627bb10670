use Rattle.std.proofs.Common.{ℕ, List, [], ◌∷◌, ◌++◌, None, true, ap, ◌∙◌}
use Rattle.std.specs.FinMap.{empty}
use Rattle.pk_base.specs.declared.tag.Tag.{Tag}
use Rattle.pk_model.specs.State.{Mark}
use Rattle.entity_store.specs.Store.{Stored}
use Rattle.partition.proofs.Keeping.{begun}
use Rattle.partition.proofs.contents.Contents.begin.Goals as goal

pub invariant_of-result : goal.invariant_of-result
invariant_of-result g c =
    begun c.args.p c.add_block.new.self.state.blocks c.push.new.self.items c.add_block.new.self.state.map c.in_ok-tree.tree.marks c.new-unsaved.result.changes.entries c.first_of-initial.result c.requires.last
    (ap (λ (s : Stored). s.blocks) c.in_ok-add_block.ensures.ok ∙ ap (λ (bs : List ℕ). bs ++ c.args.p ∷ []) c.new-store.ensures.blocks)
    (c.in_ok-push.ensures.items ∙ ap (λ (bs : List ℕ). bs ++ c.args.p ∷ []) c.new-blocks.ensures.items)
    (ap (λ (s : Stored). s.map) c.in_ok-add_block.ensures.ok ∙ c.new-store.ensures.map)
    c.first_of-initial.ensures c.in_ok-tree.ensures.marks c.in_ok-tree.ensures.whole c.new-unsaved.ensures

pub returns : goal.returns
returns g c =
    let blocks = ap (λ (s : Stored). s.blocks) c.in_ok-add_block.ensures.ok ∙ ap (λ (bs : List ℕ). bs ++ c.args.p ∷ []) c.new-store.ensures.blocks in
    let now = ap (λ (s : Stored). s.map) c.in_ok-add_block.ensures.ok ∙ c.new-store.ensures.map in
    let first : Tag → List Mark = λ t. record { tag = t; parent = None; map = empty; live = true } ∷ [] in
    let marks = c.in_ok-tree.ensures.whole ∙ ap first c.first_of-initial.ensures in
    λ i. record { now = now i; marks = marks i; at = c.first_of-initial.ensures i; blocks = blocks i; used = 1; holder = None }
