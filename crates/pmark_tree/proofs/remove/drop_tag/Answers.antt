use Rattle.std.proofs.Common.{rules, ◌<◌, length, ◌∙◌, Ok, Err, List, subst}
use Rattle.std.specs.Ordering.{nat_cmp}
use Rattle.std.specs.List.Sorted.{IsBinarySearchResult}
use Rattle.std.proofs.lemmas.List.Sorted.{answers_always}
use Rattle.pk_base.specs.declared.tag.Tag.{Tag}
use Rattle.pmark_tree.proofs.Dropped.{found_place, not_missing}
use Rattle.pmark_tree.proofs.remove.drop_tag.Goals as goal

pub returns-in-Ok : goal.returns-in-Ok
returns-in-Ok c =
    let t = c.args.t in
    let place = c.in-Ok.place in
    let same = c.deref.ensures.value in
    let within = subst (λ (l : List Tag). place < length l) same c.in-Ok.ensures.bound in
    let found = c.in-Ok.ensures.position (λ (u : Tag). u.0) (answers_always _ _ _ (λ f a r g called. search rules)) in
    c.remove.ensures.items
    ∙ found_place c.args.tags.now.items t place c.requires.ascend within (subst (λ l. IsBinarySearchResult (λ (u : Tag). nat_cmp u.0 t.0) l (Ok place)) same found)

pub returns-in_default : goal.returns-in_default
returns-in_default c =
    let t = c.args.t in
    let place = c.in_default.field-0 in
    let found = c.in_default.ensures.position (λ (u : Tag). u.0) (answers_always _ _ _ (λ f a r g called. search rules)) in
    absurd (not_missing c.args.tags.now.items t place c.requires.ascend c.requires.there (subst (λ l. IsBinarySearchResult (λ (u : Tag). nat_cmp u.0 t.0) l (Err place)) c.deref.ensures.value found))
