use Rattle.std.proofs.Common.{◌∙◌}
use Rattle.modeller.specs.Euler.{euler}
use Rattle.partition.specs.Partition.{holder_of}
use Rattle.partition.specs.Work.{load}
use Rattle.partition.proofs.Loads.{load-drew}
use Rattle.euler_uses.proofs.tests.thousand.draw.Goals as goal

pub returns : goal.returns
returns g c =
    let p = c.reserve_block.new.self in
    let drew = c.take_block.ensures.drew in
    let stays = c.in_ok-reserve_block.ensures.stays in
    (λ i. load euler (drew.number i) (drew.journal i))
    ∙ load-drew euler p.number p.journal p.state _ (holder_of p) c.args.block c.journal-journal.ensures.replays drew.steps
    ∙ (λ i. load euler (stays.number i) (stays.journal i))
