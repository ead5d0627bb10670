use Rattle.std.proofs.Common.{◌≡◌, ◌<◌, true, Some, length, ap, sym, subst, ◌∙◌}
use Rattle.std.specs.Prelude.{slice_get}
use Rattle.std.proofs.lemmas.Option.{slice_get-get_or}
use Rattle.pmark_tree.specs.Marks.{TreeView, is_live, live_tags}
use Rattle.pmark_tree.proofs.Kept.{lives_at}
use Rattle.pmark_tree.proofs.tree.MarkTree.live_at.Goals as goal

pub returns-clause-lives : goal.returns-clause-lives
returns-clause-lives c =
    let ks = c.self.inside.rows.items in
    let ts = c.self.inside.live.items in
    let t = c.index.result.now in
    let i = c.args.i in
    let same : ks ≡ c.args.self.now.marks = ap (λ (v : TreeView). v.marks) c.self.view_is in
    let within : i < length ts = subst (λ l. i < length l) (ap live_tags (sym same) ∙ sym c.self.invariant.live) c.requires in
    let at : slice_get (live_tags ks) i ≡ Some t = ap (λ l. slice_get l i) (sym c.self.invariant.live) ∙ slice_get-get_or ts i t within ∙ ap Some (sym c.index.ensures) in
    subst (λ l. is_live l t ≡ true) same (lives_at ks i t c.self.invariant.tree at)
