use Rattle.std.proofs.Common.{length, sym, ap, subst, ◌∙◌, rules, arith}
use Rattle.solid_model.specs.Shapes.{shape_of}
use Rattle.solid_edits.specs.Deaths.{with_attributes}
use Rattle.euler_kill.proofs.KvfsDone.{kvfs-counts}
use Rattle.euler_kill.proofs.KvfsFound.{IsBare, is-bare}
use Rattle.euler_kill.proofs.kvfs.kvfs_need.Goals as goal

pub returns : goal.returns
returns g c =
    let m = c.args.store.now.state.map in
    let S = shape_of m in
    let p = c.parts_of-parts.result in
    let same = c.parts_of-parts.ensures.body in
    let bare = is-bare S c.args.body (sym c.has_more.ensures ∙ c.if-has_more.false) in
    let counts = kvfs-counts m c.requires p c.parts_of-parts.ensures.parts (subst (IsBare S) (sym same) bare) c.args.body same in
    let dead = c.count_dead.ensures.dead ∙ ap (λ ts. length (with_attributes m ts)) (c.as_slice.ensures ∙ c.tags_of.ensures) in
    record {
      goes = search rules;
      tags = search rules;
      changes = omega (arith, counts, dead);
      list = search rules;
    }
