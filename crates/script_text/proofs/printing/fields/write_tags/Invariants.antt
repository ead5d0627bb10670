use Rattle.std.proofs.Common.{◌≡◌, ◌++◌, drop}
use Rattle.script_text.specs.Text.{tags_field}
use Rattle.script_text.proofs.TagRuns.{tags_from}
use Rattle.script_text.proofs.printing.fields.write_tags.Given as goal

abbrev pub invariant-loop-tag : goal.invariant-loop-tag
invariant-loop-tag l =
    l.out ++ tags_from l.first l.last (drop l.tag-index l.rest) ≡ l.initial.out ++ tags_field l.fn.tags
