use Rattle.std.proofs.Common.{◌∙◌}
use Rattle.pmark_tree.specs.Maps.{map_of}
use Rattle.partition.proofs.Removing.{behind_follows, behind_net}
use Rattle.partition.proofs.contents.remove_current.Goals as goal

pub compose-requires : goal.compose-requires
compose-requires g c =
    behind_follows c.args.tree.now.marks c.args.m c.delta-delta.result.now c.args.unsaved.now c.delta-delta.ensures c.requires.parent (λ p e. c.parent-parent.ensures.edge p (c.parent-parent.ensures.value ∙ e)) c.requires.starts

pub returns-clause-net : goal.returns-clause-net
returns-clause-net g c p e n is =
    c.in_ok-joined.ensures (map_of c.args.tree.now.marks p) n
    (behind_net c.args.tree.now.marks c.args.m p n c.delta-delta.result.now c.args.unsaved.now c.in_ok-behind.behind c.delta-delta.ensures (c.parent-parent.ensures.edge p (c.parent-parent.ensures.value ∙ e)) is c.in_ok-behind.ensures.net)
