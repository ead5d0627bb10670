use Rattle.std.proofs.Common.{◌≤◌, List, length, sym, ap, subst, ◌∙◌}
use Rattle.entity_store.specs.declared.changes.Change.{Change}
use Rattle.entity_store.specs.Changes.{AreChanges, net_changes}
use Rattle.entity_store.specs.Recording.{Recording, first_values, put_back}
use Rattle.entity_store.proofs.FirstValues.{IsPermutation-listed, net_changes-sorted, length-reordered}
use Rattle.entity_store.proofs.NetChanges.{AreChanges-net_changes}
use Rattle.entity_store.proofs.record.RecordRoom.into_changes.Goals as goal

pub of-requires : goal.of-requires
of-requires g c =
    let m = c.args.store.now.state.map in
    let ps = first_values c.self.inside.first.entries in
    let reordered = IsPermutation-listed m ps c.self.inside.changes.items c.list_changes.new.changes.items _ c.self.invariant.none_yet c.list_changes.ensures.items c.sort_by_tag.ensures.same in
    let net = net_changes-sorted m ps _ c.self.invariant.once reordered c.sort_by_tag.ensures.ascending in
    subst AreChanges (sym net) (AreChanges-net_changes (put_back m ps) m)

pub returns-clause-changes : goal.returns-clause-changes
returns-clause-changes g c =
    let m = c.args.store.now.state.map in
    let ps = first_values c.self.inside.first.entries in
    let reordered = IsPermutation-listed m ps c.self.inside.changes.items c.list_changes.new.changes.items _ c.self.invariant.none_yet c.list_changes.ensures.items c.sort_by_tag.ensures.same in
    c.of.ensures ∙ net_changes-sorted m ps _ c.self.invariant.once reordered c.sort_by_tag.ensures.ascending
    ∙ ap (λ (r : Recording). net_changes (put_back m r.first) m) c.self.view_is

pub returns-clause-length : goal.returns-clause-length
returns-clause-length g c =
    let m = c.args.store.now.state.map in
    let ps = first_values c.self.inside.first.entries in
    let reordered = IsPermutation-listed m ps c.self.inside.changes.items c.list_changes.new.changes.items _ c.self.invariant.none_yet c.list_changes.ensures.items c.sort_by_tag.ensures.same in
    let short = length-reordered m ps _ c.self.invariant.once reordered in
    subst (λ (r : Recording). length c.of.result ≤ length r.first) c.self.view_is (subst (λ (xs : List Change). length xs ≤ length ps) (sym c.of.ensures) short)
