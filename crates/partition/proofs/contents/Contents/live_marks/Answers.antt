use Rattle.std.proofs.Common.{length, ap, sym, ◌∙◌}
use Rattle.pk_model.specs.Step.{live_rows}
use Rattle.partition.specs.Contents.{ContentsView}
use Rattle.partition.proofs.Named.{live_rows-length}
use Rattle.partition.proofs.contents.Contents.live_marks.Goals as goal

pub returns : goal.returns
returns g c = c.live_len.ensures ∙ sym (live_rows-length c.self.inside.tree.marks) ∙ ap (λ (v : ContentsView). length (live_rows v.state.marks)) c.self.view_is
