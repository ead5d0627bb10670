use Rattle.std.proofs.Common.{◌≡◌, drop}
use Rattle.script_text.specs.FieldWords.{fits}
use Rattle.script_text.proofs.reading.fields.fits.Given as goal

abbrev pub invariant-loop-kind : goal.invariant-loop-kind
invariant-loop-kind l = fits (drop l.kind-index l.kinds) l.left ≡ fits l.kinds l.fn.words
