use Rattle.std.proofs.Common.{◌≡◌, ◌+◌, ◌++◌, codes, drop, sym, ap, ◌∙◌}
use Rattle.std.specs.List.{flat_map}
use Rattle.std.proofs.lemmas.List.{at_drop_more}
use Rattle.script_text.specs.Text.{number, newline, journals_text, entry_line}
use Rattle.script_text.proofs.Grouping.{regrouped}
use Rattle.script_text.proofs.printing.write_journals.Goals as goal

pub loop-i-preserved : goal.loop-i-preserved
loop-i-preserved c =
    let i = c.loop-i.i in
    let journals = c.args.journals.now in
    let entries = c.as_slice.result.now in
    let step = at_drop_more (journals_text (i + 1)) journals i c.index-journals-i.result c.loop-i-test.true in
    let same : flat_map entry_line c.index-journals-i.result ≡ flat_map entry_line entries = ap (flat_map entry_line) (sym c.as_slice.ensures) in
    let rest = rw (step, ← c.index-journals-i.is, same) at c.loop-i.invariant in
    rw (c.in_ok-write_entries.ensures, c.in_ok-writeln.ensures) (regrouped c.loop-i.out (codes "partition" ++ number (i + 1) ++ newline) (flat_map entry_line entries) (journals_text (i + 1 + 1) (drop (i + 1) journals)) ∙ rest)
