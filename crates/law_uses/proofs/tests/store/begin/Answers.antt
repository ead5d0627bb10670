use Rattle.std.proofs.Common.{sym, ap, subst, ◌∙◌}
use Rattle.entity_store.specs.Store.{Stored}
use Rattle.solid_model.specs.Sound.{IsSound}
use Rattle.modeller.specs.EulerLaws.{euler-IsModeller}
use Rattle.law_uses.proofs.tests.store.begin.Goals as goal

pub returns : goal.returns
returns c = subst IsSound (sym (ap (λ (s : Stored). s.map) c.in_ok-add_block.ensures.ok ∙ c.new-store.ensures.map)) euler-IsModeller.empty
