use Rattle.std.proofs.Common.{◌≡◌, List, Some, ap, ◌∙◌}
use Rattle.pk_command.specs.declared.field.Field.{Field}
use Rattle.pk_command.specs.Commands.{act_of}
use Rattle.pk_command.specs.Operands.{act_on, with_tags}
use Rattle.pk_command.proofs.OtherTags.{act_of-with_tags}
use Rattle.pk_command.proofs.operands.act_on.Goals as goal

pub unreachable-requires : goal.unreachable-requires
unreachable-requires c =
    let act = c.args.act.now in
    let tags = c.args.tags.now in
    let fields = c.deref.ensures.value ∙ c.in_ok-fields.ensures ∙ ap (λ (fs : List Field). with_tags fs tags) c.in_ok-fields_of.ensures in
    let made : c.in_ok-act.field-0 ≡ Some (act_on act tags) = c.in_ok-act.ensures ∙ ap (λ v. act_of v c.deref.result.now) c.verb_of.ensures ∙ ap (act_of _) fields ∙ act_of-with_tags act tags in
    absurd (cc)
