use Rattle.std.proofs.Common.{append_assoc}
use Rattle.std.proofs.lemmas.Result.{IfOk-equal}
use Rattle.script_text.proofs.printing.said.write_reply.Goals as goal

pub returns-in_ok-write-in-Delta : goal.returns-in_ok-write-in-Delta
returns-in_ok-write-in-Delta c =
    rw c.in-Delta.is (IfOk-equal _ _ _ _ c.write_lists-in-Delta.ensures (rw c.in_ok-write-in-Delta.ensures (simp append_assoc)))
