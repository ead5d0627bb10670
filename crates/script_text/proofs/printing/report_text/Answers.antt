use Rattle.std.proofs.Common.{◌++◌, codes}
use Rattle.script_text.specs.Text.{text_of, number, newline, threads_text, journals_text}
use Rattle.script_text.proofs.Grouping.{reported}
use Rattle.script_text.proofs.printing.report_text.Goals as goal

pub returns : goal.returns
unfolding text_of
returns c =
    let report = c.args.report.now in
    rw (c.in_ok-write_end.ensures, c.in_ok-write_journals.ensures, c.as_slice-2.ensures, c.in_ok-write_threads.ensures, c.as_slice.ensures, c.in_ok-write_heading.ensures, c.new-out.ensures) (reported (codes "report" ++ number report.n ++ number report.last ++ newline) (threads_text 1 report.threads) (journals_text 1 report.journals) (codes "end") newline)
