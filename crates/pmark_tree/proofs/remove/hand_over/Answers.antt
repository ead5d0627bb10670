use Rattle.std.proofs.Common.{◌≡◌, ◌∷◌, [], ◌<◌, length, Some, sym, ap, subst, ◌∙◌}
use Rattle.std.specs.List.{AllByRecursion}
use Rattle.std.proofs.lemmas.List.{length-set}
use Rattle.list_facts.proofs.Each.{ByRecursion-left, ByRecursion-right}
use Rattle.pmark_tree.specs.Rows.{row_at}
use Rattle.pmark_tree.specs.Removal.{handed_over, owned_by, rows_in, MayMove}
use Rattle.pmark_tree.proofs.Handed.{handed_over-last, owned_by-last, rows_in-push, all_still_may}
use Rattle.pmark_tree.proofs.remove.hand_over.Goals as goal

pub move_to-requires-clause-may : goal.move_to-requires-clause-may
move_to-requires-clause-may c =
    let m = c.in-Some.child in
    let rest = c.pop.new.self.items in
    let P = MayMove (length c.loop-child.rows.items) c.args.owner c.loop-child.links.owners in
    (ByRecursion-right P (rows_in rest) (m.row ∷ []) (subst (AllByRecursion P) (ap rows_in c.in-Some.ensures.items ∙ rows_in-push rest m) c.loop-child.invariant.may)).0

pub loop-child-preserved : goal.loop-child-preserved
loop-child-preserved c =
    let m = c.in-Some.child in
    let p = c.args.parent in
    let o = c.args.owner in
    let rest = c.pop.new.self.items in
    let rows = c.loop-child.rows.items in
    let owners = c.loop-child.links.owners in
    let P = MayMove (length rows) o owners in
    let last = c.in-Some.ensures.items in
    let names = ap rows_in last ∙ rows_in-push rest m in
    let before = ByRecursion-left P (rows_in rest) (m.row ∷ []) (subst (AllByRecursion P) names c.loop-child.invariant.may) in
    let longer : length c.move_to.new.rows.items ≡ length rows = ap length c.move_to.ensures.rows ∙ length-set rows m.row (record (row_at rows m.row) { parent = Some p; delta = m.delta }) in
    record {
      rows = ap (handed_over p rest) c.move_to.ensures.rows ∙ sym (handed_over-last p rest m rows) ∙ ap (λ ms. handed_over p ms rows) (sym last) ∙ c.loop-child.invariant.rows;
      owners = ap (owned_by o (rows_in rest)) c.move_to.ensures.owners ∙ sym (owned_by-last o (rows_in rest) m.row owners) ∙ ap (λ cs. owned_by o cs owners) (sym names) ∙ c.loop-child.invariant.owners;
      may = subst (λ n. AllByRecursion (MayMove n o c.move_to.new.links.owners) (rows_in rest)) (sym longer)
          (subst (λ os. AllByRecursion (MayMove (length rows) o os) (rows_in rest)) (sym c.move_to.ensures.owners) (all_still_may (length rows) o owners (rows_in rest) m.row before));
      within = subst (λ os. o < length os) (sym c.move_to.ensures.owners) (subst (λ n. o < n) (sym (length-set owners m.row (Some o))) c.loop-child.invariant.within);
    }
