use Rattle.std.proofs.Common.{◌+◌, drop, slice_index_or, append_assoc, arith, rules}
use Rattle.std.proofs.lemmas.Grind.{common_steps}
use Rattle.std.proofs.lemmas.List.{at_drop_more}
use Rattle.script_text.proofs.TagRuns.{tags_from, tags_from-start, tags_from-end, tags_from-joins, tags_from-parts, tags_field-none}
use Rattle.script_text.proofs.printing.fields.write_tags.Goals as goal
use Rattle.script_text.proofs.printing.fields.write_tags.Goals.{then-not-follows+in_ok-write_run, else-not-follows}

pub returns-in_default : goal.returns-in_default
returns-in_default c = grind (arith, common_steps, tags_field-none)

pub loop-tag-init : goal.loop-tag-init
loop-tag-init c = grind (arith, common_steps, tags_from-start)

pub loop-tag-preserved : goal.loop-tag-preserved
loop-tag-preserved c =
    let rest = c.in-Some.rest.now in
    let i = c.loop-tag.tag-index in
    let t = slice_index_or rest i (record { 0 = 0 }) in
    let step = at_drop_more (tags_from c.loop-tag.first c.loop-tag.last) rest i (record { 0 = 0 }) c.loop-tag-test.true in
    elim c.if-not-follows.branch [
      | then-not-follows+in_ok-write_run w ↦
          let parts = tags_from-parts c.loop-tag.first c.loop-tag.last t (drop (i + 1) rest) (λ e. let yes = c.follows.ensures.1 e in cc) in
          rw (w.out-is, w.first-is, w.in_ok-write_run.ensures, append_assoc c.loop-tag.out, ← parts, ← step) c.loop-tag.invariant
      | else-not-follows w ↦
          let joins = tags_from-joins c.loop-tag.first c.loop-tag.last t (drop (i + 1) rest) (c.follows.ensures.0 (search rules)) in
          rw (w.out-is, w.first-is, ← joins, ← step) c.loop-tag.invariant
    ]

pub returns : goal.returns
returns c = grind (arith, common_steps, tags_from-end)
