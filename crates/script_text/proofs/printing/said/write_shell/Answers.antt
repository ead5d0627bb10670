use Rattle.std.proofs.Common.{ℕ, List, ◌++◌, codes, sym, ap, append_assoc}
use Rattle.std.proofs.lemmas.Int.{to_z-of_z}
use Rattle.std.proofs.lemmas.Result.{IfOk-equal}
use Rattle.script_text.specs.Text.{tag_field, signed}
use Rattle.script_text.proofs.printing.said.write_shell.Goals as goal

pub returns : goal.returns
returns c =
    let fits = c.ranges.q in
    let words = append_assoc (codes " shell body" ++ tag_field c.args.body) (codes " q") (signed c.args.q) in
    IfOk-equal _ _ _ _ (rw to_z-of_z at c.write.ensures) (ap (λ (x : List ℕ). c.args.out.now ++ x) (sym words))
