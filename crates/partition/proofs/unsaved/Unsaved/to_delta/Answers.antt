use Rattle.std.proofs.Common.{List, sym, subst, ◌∙◌, arith}
use Rattle.std.specs.Prelude.{IsPermutation}
use Rattle.std.specs.List.Sorted.{IsNonDecreasingBy}
use Rattle.std.specs.Map.{values_of}
use Rattle.std.proofs.lemmas.List.{length-map}
use Rattle.std.proofs.lemmas.List.Sorted.{length_permutation}
use Rattle.entity_store.specs.declared.changes.Change.{Change}
use Rattle.entity_store.specs.Changes.{AreChanges}
use Rattle.entity_store.proofs.NetChanges.{AreChanges-net_changes}
use Rattle.partition.proofs.Differences.{net_sorted}
use Rattle.partition.proofs.unsaved.Unsaved.to_delta.Goals as goal

pub listed-requires-clause-changes : goal.listed-requires-clause-changes
listed-requires-clause-changes c =
    let es = c.args.self.now.changes.entries in
    let cs = c.deref.result.now in
    let same : IsPermutation (values_of es) cs = subst (λ (xs : List Change). IsPermutation xs cs) c.list.ensures (subst (λ (xs : List Change). IsPermutation c.list.new.out.items xs) (sym c.deref.ensures.value) c.sort_by_tag.ensures.same) in
    let sorted = subst (λ (xs : List Change). IsNonDecreasingBy (λ (x : Change). x.tag.0) xs) (sym c.deref.ensures.value) c.sort_by_tag.ensures.ascending in
    subst AreChanges (sym (net_sorted c.requires.base c.requires.now es c.requires.net c.len.ensures.unique cs same sorted)) (AreChanges-net_changes c.requires.base c.requires.now)

pub listed-requires-clause-room : goal.listed-requires-clause-room
listed-requires-clause-room c =
    let es = c.args.self.now.changes.entries in
    let cs = c.deref.result.now in
    let same : IsPermutation (values_of es) cs = subst (λ (xs : List Change). IsPermutation xs cs) c.list.ensures (subst (λ (xs : List Change). IsPermutation c.list.new.out.items xs) (sym c.deref.ensures.value) c.sort_by_tag.ensures.same) in
    omega (arith, length_permutation (values_of es) cs same, length-map es (λ e. e.1), c.len-2.ensures.len, c.in_ok-out.ensures.room)

pub returns : goal.returns
returns c base now net =
    let es = c.args.self.now.changes.entries in
    let cs = c.deref.result.now in
    let same : IsPermutation (values_of es) cs = subst (λ (xs : List Change). IsPermutation xs cs) c.list.ensures (subst (λ (xs : List Change). IsPermutation c.list.new.out.items xs) (sym c.deref.ensures.value) c.sort_by_tag.ensures.same) in
    let sorted = subst (λ (xs : List Change). IsNonDecreasingBy (λ (x : Change). x.tag.0) xs) (sym c.deref.ensures.value) c.sort_by_tag.ensures.ascending in
    c.listed.ensures ∙ net_sorted base now es net c.len.ensures.unique cs same sorted
