use Rattle.std.proofs.Common.{◌≡◌, ◌+◌, ◌++◌, ◌∷◌, [], List, map, take, sym, ap, ◌∙◌, append_assoc, arith}
use Rattle.std.proofs.lemmas.List.{map-append, take_all}
use Rattle.pk_base.specs.declared.list.MarkRow.{MarkRow}
use Rattle.delta.proofs.Places.{take-next}
use Rattle.pmark_tree.specs.Marks.{live_tags}
use Rattle.partition.proofs.Named.{live_rows-length, live_rows-tags, row_in}
use Rattle.partition.proofs.marks.list_live.Goals as goal

pub push-requires : goal.push-requires
push-requires c = omega (arith, c.requires.spare, live_rows-length c.args.tree.now.marks, c.loop-i.invariant.spare)

pub loop-i-preserved : goal.loop-i-preserved
loop-i-preserved c =
    let ks = c.args.tree.now.marks in
    let tag = c.live_at-tag.result in
    let row : MarkRow = record { tag = tag; parent = c.parent.result } in
    let is : row ≡ row_in ks tag = ap (λ o. record { tag = tag; parent = o }) c.parent.ensures.value in
    let more : map (row_in ks) (take (c.loop-i.i + 1) (live_tags ks)) ≡ map (row_in ks) (take c.loop-i.i (live_tags ks)) ++ row_in ks tag ∷ [] = ap (map (row_in ks)) (take-next (live_tags ks) c.loop-i.i tag c.live_at-tag.ensures.value) ∙ map-append (row_in ks) (take c.loop-i.i (live_tags ks)) (tag ∷ []) in
    record {
      items = c.push.ensures.items ∙ (λ j. c.loop-i.invariant.items j ++ is j ∷ []) ∙ append_assoc c.args.rows.now.items (map (row_in ks) (take c.loop-i.i (live_tags ks))) (row_in ks tag ∷ []) ∙ ap (λ (rs : List MarkRow). c.args.rows.now.items ++ rs) (sym more);
      spare = omega (arith, c.push.ensures.spare, c.loop-i.invariant.spare);
    }

pub returns : goal.returns
returns c =
    let ks = c.args.tree.now.marks in
    c.loop-i.invariant.items ∙ ap (λ (rs : List MarkRow). c.args.rows.now.items ++ rs) (ap (map (row_in ks)) (take_all c.loop-i.i (live_tags ks) (omega arith)) ∙ sym (live_rows-tags ks c.requires.tree.ascend))
