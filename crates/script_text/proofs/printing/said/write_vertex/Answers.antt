use Rattle.std.proofs.Common.{◌++◌, codes}
use Rattle.std.proofs.lemmas.Result.{IfOk-equal}
use Rattle.script_text.specs.Text.{tag_field, signed}
use Rattle.script_text.proofs.Grouping.{pointed}
use Rattle.script_text.proofs.printing.said.write_vertex.Goals as goal

pub returns : goal.returns
returns c =
    let words = codes " vertex body" ++ tag_field c.args.body ++ codes " at" in
    let p = c.args.point in
    IfOk-equal _ _ _ _ c.write_point.ensures (rw c.in_ok-write.ensures (pointed c.args.out.now words (signed p.x) (signed p.y) (signed p.z)))
