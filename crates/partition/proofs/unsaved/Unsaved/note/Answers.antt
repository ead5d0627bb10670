use Rattle.std.proofs.Common.{◌≡◌, ◌==◌, cond, None, Some, Option, sym, ap, ◌∙◌}
use Rattle.std.specs.Map.{lookup}
use Rattle.entity_store.specs.declared.changes.Change.{Change}
use Rattle.partition.specs.Unsaved.{change_of, joined_to}
use Rattle.partition.proofs.Differences.{noted}
use Rattle.partition.proofs.unsaved.Unsaved.note.Goals as goal

pub returns-in-Some-clause-net : goal.returns-in-Some-clause-net
returns-in-Some-clause-net c base now net starts =
    let es = c.args.self.now.changes.entries in
    let x = c.args.change in
    let joined : joined_to (change_of es x.tag) x ≡ Some c.in-Some.joined = ap (λ o. joined_to o x) (sym (c.copied.ensures ∙ c.get.ensures.value)) ∙ sym c.join_to.ensures ∙ c.in-Some.is in
    let updates = rw c.unwrap.ensures at c.insert.ensures.updates in
    noted base now es c.insert.new.self.entries x c.requires.differ
    (λ q. updates.0 q ∙ ap (λ (o : Option Change). cond (x.tag.0 == q) o (lookup (λ k. q == k) es)) (sym joined)) net starts

pub returns-in-None-clause-net : goal.returns-in-None-clause-net
returns-in-None-clause-net c base now net starts =
    let es = c.args.self.now.changes.entries in
    let x = c.args.change in
    let joined : joined_to (change_of es x.tag) x ≡ None = ap (λ o. joined_to o x) (sym (c.copied.ensures ∙ c.get.ensures.value)) ∙ sym c.join_to.ensures ∙ c.in-None.is in
    noted base now es c.swap_remove.new.self.entries x c.requires.differ
    (λ q. c.swap_remove.ensures.updates.0 q ∙ ap (λ (o : Option Change). cond (x.tag.0 == q) o (lookup (λ k. q == k) es)) (sym joined)) net starts
