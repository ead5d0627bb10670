use Rattle.std.proofs.Common.{◌≤◌, map, ap, ◌∙◌, arith}
use Rattle.pk_session.specs.Inside.{named_of}
use Rattle.pk_session.proofs.Opening.{one_more}
use Rattle.pk_session.proofs.beginning.begin_all.Goals as goal

pub loop-p-preserved : goal.loop-p-preserved
loop-p-preserved g c =
    let inv = c.loop-p.invariant in let low : 1 ≤ c.loop-p.p = omega arith in record {
      names = ap (map named_of) c.push_reserved.ensures.items ∙ one_more c.loop-p.p c.loop-p.all.items c.in_ok-begin.field-0 low c.in_ok-begin.ensures inv.names;
      many = let m = inv.many in let l = c.push_reserved.ensures.len in omega arith;
      room = c.push_reserved.ensures.capacity ∙ inv.room;
    }
