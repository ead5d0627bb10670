use Rattle.std.proofs.Common.{◌≡◌, ◌<◌, ◌≤◌, length, List, None, Some, slice_get, option_and_then, refl, sym, ap, subst, ◌∙◌, rules}
use Rattle.std.specs.Option.{option_copied}
use Rattle.std.proofs.lemmas.Bool.{ltb-false, ltb-true}
use Rattle.std.proofs.lemmas.Option.{slice_get_past, slice_get_read}
use Rattle.pk_base.specs.declared.tag.Tag.{Tag}
use Rattle.script_text.specs.Walk.{bound_to, tag_of_operand}
use Rattle.script_thread.proofs.Naming.{found_bound}
use Rattle.script_thread.proofs.names.Names.tag_of.Goals as goal

pub returns-in_err-tags-in-Named : goal.returns-in_err-tags-in-Named
returns-in_err-tags-in-Named c =
    let found : option_copied c.get.result ≡ bound_to c.args.self.now c.in-Named.name = c.get.ensures.value ∙ found_bound c.self.inside.bound.entries c.in-Named.name ∙ ap (λ ns. bound_to ns c.in-Named.name) c.self.view_is in
    search rules

pub returns-in_err-tag-in-Named : goal.returns-in_err-tag-in-Named
returns-in_err-tag-in-Named c =
    let at = c.in-Named.at in
    let tags = c.in_ok-tags-in-Named.tags.now in
    let found : option_copied c.get.result ≡ bound_to c.args.self.now c.in-Named.name = c.get.ensures.value ∙ found_bound c.self.inside.bound.entries c.in-Named.name ∙ ap (λ ns. bound_to ns c.in-Named.name) c.self.view_is in
    let past : length c.as_slice.result.now ≤ at = ltb-false at (length c.as_slice.result.now) (sym c.in_err-tag-in-Named.ensures.lookup.0) in
    let none : slice_get tags at ≡ None = slice_get_past tags at (subst (λ (ts : List Tag). length ts ≤ at) c.as_slice.ensures past) in
    c.from_residual-in_err-tag-in-Named.ensures
    ∙ sym (ap (tag_of_operand c.args.self.now) c.in-Named.is ∙ ap (option_and_then (λ ts. slice_get ts at)) (sym found ∙ ap option_copied c.in_ok-tags-in-Named.was) ∙ none)

pub returns-in_ok-tag-in-Named : goal.returns-in_ok-tag-in-Named
returns-in_ok-tag-in-Named c =
    let at = c.in-Named.at in
    let tags = c.in_ok-tags-in-Named.tags.now in
    let found : option_copied c.get.result ≡ bound_to c.args.self.now c.in-Named.name = c.get.ensures.value ∙ found_bound c.self.inside.bound.entries c.in-Named.name ∙ ap (λ ns. bound_to ns c.in-Named.name) c.self.view_is in
    let within : at < length c.as_slice.result.now = ltb-true at (length c.as_slice.result.now) (sym c.in_ok-tag-in-Named.ensures.lookup.0) in
    let some : slice_get c.as_slice.result.now at ≡ Some c.in_ok-tag-in-Named.tag.now = slice_get_read c.as_slice.result.now _ at c.in_ok-tag-in-Named.tag.now refl within c.in_ok-tag-in-Named.ensures.lookup.1 in
    sym (ap (tag_of_operand c.args.self.now) c.in-Named.is ∙ ap (option_and_then (λ ts. slice_get ts at)) (sym found ∙ ap option_copied c.in_ok-tags-in-Named.was) ∙ ap (λ ts. slice_get ts at) (sym c.as_slice.ensures) ∙ some)
