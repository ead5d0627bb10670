use Rattle.std.proofs.Common.{rules, sym, ◌∙◌, get_or}
use Rattle.pk_command.specs.declared.field.Kind.TheVariants as kind
use Rattle.std.proofs.lemmas.List.{at_drop_more}
use Rattle.script_text.specs.FieldWords.{fits}
use Rattle.script_text.proofs.Fits.{corners_fit, even-mod}
use Rattle.script_text.proofs.reading.fields.fits.Goals as goal

pub returns-then-eq : goal.returns-then-eq
returns-then-eq c =
    even-mod c.loop-kind.left
    ∙ sym (corners_fit (get_or c.args.kinds.now c.loop-kind.kind-index kind.Tag) _ c.loop-kind.left (search rules))
    ∙ sym (at_drop_more (λ ks. fits ks c.loop-kind.left) c.args.kinds.now c.loop-kind.kind-index _ c.loop-kind-test.true)
    ∙ c.loop-kind.invariant
