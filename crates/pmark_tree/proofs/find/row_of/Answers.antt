use Rattle.std.proofs.Common.{rules}
use Rattle.std.proofs.lemmas.List.Sorted.{answers_always}
use Rattle.pmark_tree.specs.declared.mark.TreeMark.{TreeMark}
use Rattle.pmark_tree.proofs.Search.{found_tag, found_row, found_none}
use Rattle.pmark_tree.proofs.find.row_of.Goals as goal

pub returns-in-Ok-clause-tag : goal.returns-in-Ok-clause-tag
returns-in-Ok-clause-tag c =
    found_tag c.args.rows.now c.args.t c.in-Ok.row (c.in-Ok.ensures.position (λ (k : TreeMark). k.tag.0) (answers_always _ _ _ (λ f a r g called. search rules)))

pub returns-in-Ok-clause-found : goal.returns-in-Ok-clause-found
returns-in-Ok-clause-found c =
    found_row c.args.rows.now c.args.t c.in-Ok.row c.requires c.in-Ok.ensures.bound (c.in-Ok.ensures.position (λ (k : TreeMark). k.tag.0) (answers_always _ _ _ (λ f a r g called. search rules)))

pub returns-in-Err-clause-none : goal.returns-in-Err-clause-none
returns-in-Err-clause-none c =
    found_none c.args.rows.now c.args.t c.in-Err.field-0 c.requires (c.in-Err.ensures.position (λ (k : TreeMark). k.tag.0) (answers_always _ _ _ (λ f a r g called. search rules)))
