use Rattle.std.proofs.Common.{◌≡◌, ◌+◌, ◌++◌, codes, drop, sym, ap, ◌∙◌}
use Rattle.std.specs.List.{flat_map}
use Rattle.std.proofs.lemmas.List.{at_drop_more}
use Rattle.script_text.specs.Text.{number, newline, threads_text, line_text}
use Rattle.script_text.proofs.Grouping.{regrouped}
use Rattle.script_text.proofs.printing.write_threads.Goals as goal

pub loop-i-preserved : goal.loop-i-preserved
loop-i-preserved c =
    let i = c.loop-i.i in
    let threads = c.args.threads.now in
    let lines = c.as_slice.result.now in
    let step = at_drop_more (threads_text (i + 1)) threads i c.index-threads-i.result c.loop-i-test.true in
    let same : flat_map line_text c.index-threads-i.result ≡ flat_map line_text lines = ap (flat_map line_text) (sym c.as_slice.ensures) in
    let rest = rw (step, ← c.index-threads-i.is, same) at c.loop-i.invariant in
    rw (c.in_ok-write_lines.ensures, c.in_ok-writeln.ensures) (regrouped c.loop-i.out (codes "thread" ++ number (i + 1) ++ newline) (flat_map line_text lines) (threads_text (i + 1 + 1) (drop (i + 1) threads)) ∙ rest)
