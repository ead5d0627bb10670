use Rattle.std.proofs.Common.{◌≡◌, ◌+◌, ◌∷◌, drop, sym, ap, subst, ◌∙◌, arith}
use Rattle.std.proofs.lemmas.List.{drop_all}
use Rattle.pk_model.specs.Maps.{EntityMap, with_entity}
use Rattle.delta.specs.Deltas.{StartsAt, after}
use Rattle.delta.proofs.Leads.{StartsAt-put}
use Rattle.delta.proofs.Places.{drop-next}
use Rattle.partition.specs.Unsaved.{IsUnsaved}
use Rattle.partition.proofs.Differences.{untouched_behind}
use Rattle.partition.proofs.unsaved.Unsaved.join.Goals as goal

pub loop-i-preserved : goal.loop-i-preserved
loop-i-preserved g c =
    let d = c.args.delta.now in
    let x = c.entry.result.now in
    let i = c.loop-i.i in
    let next : drop i d ≡ x ∷ drop (i + 1) d = drop-next d i x c.entry.ensures.value in
    record {
      net = λ base now h k.
          let w = c.loop-i.invariant.net base now h k in
          let m : EntityMap = w.0 in
          let starts : StartsAt m (x ∷ drop (i + 1) d) = subst (StartsAt m) next w.2 in
          let rest = untouched_behind d i x (drop (i + 1) d) c.len-i-end.ensures.changes next in
          (with_entity m x.tag x.after, c.note.ensures.net base m w.1 starts.0, StartsAt-put m (drop (i + 1) d) x.tag x.after rest starts.1, ap (after m) (sym next) ∙ w.3);
      room = omega (arith, c.loop-i.invariant.room, c.note.ensures.room);
      cost = omega (arith, c.loop-i.invariant.cost, c.entry.ensures.cost);
    }

pub returns-clause-joined : goal.returns-clause-joined
returns-clause-joined g c base now h k =
    let d = c.args.delta.now in
    let w = c.loop-i.invariant.net base now h k in
    let none = drop_all c.loop-i.i d (omega (arith, c.loop-i-test.false, c.len-i-end.ensures.value)) in
    subst (λ (n : EntityMap). IsUnsaved base n c.loop-i.self.changes.entries) (sym (ap (after w.0) none) ∙ w.3) w.1
