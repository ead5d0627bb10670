use Rattle.std.proofs.Common.{ap, ◌∙◌}
use Rattle.pmark_tree.specs.Maps.{whole_marks}
use Rattle.pmark_tree.proofs.Grown.{initial-whole}
use Rattle.pmark_tree.proofs.Kept.{kept-first, first_row, first_of, first_slots}
use Rattle.pmark_tree.proofs.tree.MarkTree.begin.Goals as goal

pub invariant_of-result : goal.invariant_of-result
invariant_of-result c =
    let t = c.args.initial in
    kept-first c.push.new.self.items c.push-2.new.self.items c.add_slots.new.links.owners t
    (first_row c.new-rows.result.items c.push.new.self.items c.empty.result t c.new-rows.ensures.items c.empty.ensures c.in_ok-push.ensures.items)
    (first_of c.new-live.result.items c.push-2.new.self.items t c.new-live.ensures.items c.in_ok-push-2.ensures.items)
    (first_slots c.new-links.result.owners c.add_slots.new.links.owners c.new-links.ensures c.in_ok-add_slots.ensures.ok)

pub returns-clause-whole : goal.returns-clause-whole
returns-clause-whole c =
    let t = c.args.initial in
    ap whole_marks (first_row c.new-rows.result.items c.push.new.self.items c.empty.result t c.new-rows.ensures.items c.empty.ensures c.in_ok-push.ensures.items) ∙ initial-whole t
