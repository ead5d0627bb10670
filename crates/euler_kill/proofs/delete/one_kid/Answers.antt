use Rattle.std.proofs.Common.{List, sym, subst}
use Rattle.std.specs.Prelude.{Contains}
use Rattle.pk_base.specs.declared.tag.Tag.{Tag}
use Rattle.pk_base.specs.declared.entity.Entity.{Entity}
use Rattle.list_facts.proofs.Elements.{Contains-first}
use Rattle.euler_kill.proofs.BelowCounted.{none-owned, walked-owned}
use Rattle.euler_kill.proofs.delete.one_kid.Goals as goal

pub returns-clause-some : goal.returns-clause-some
returns-clause-some g c =
    let k : Tag × Entity = (c.in_ok-kid.kid, c.in_ok-kid.field-0-1.now) in
    walked-owned c.args.store.now.state.map c.args.owner c.kids-kids.result c.kids-kids.ensures k
    (subst (λ (ks : List (Tag × Entity)). Contains ks k) (sym c.in_ok-kid.ensures.some) (Contains-first k c.next.new.self))

pub returns-in_err-kid-clause-none : goal.returns-in_err-kid-clause-none
returns-in_err-kid-clause-none g c = none-owned c.args.store.now.state.map c.args.owner c.kids-kids.result _ c.kids-kids.ensures c.in_err-kid.ensures.none
