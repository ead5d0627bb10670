use Rattle.std.proofs.Common.{◌≡◌, Some, [], ◌∷◌, ◌++◌, List, map, ap, sym, ◌∙◌, arith}
use Rattle.std.proofs.lemmas.List.{length-append, map-append}
use Rattle.std.proofs.lemmas.Iterator.Adapters.{YieldsList-from_vec}
use Rattle.std.proofs.lemmas.Iterator.Consumers.{YieldsList-end}
use Rattle.pk_model.specs.Replay.{replay}
use Rattle.partition.specs.Partition.{PartitionView}
use Rattle.pk_session.proofs.Leaving.{all_push}
use Rattle.pk_session.proofs.closing.take_all.Goals as goal

pub loop-value-preserved : goal.loop-value-preserved
loop-value-preserved g c =
    let inv = c.loop-value.invariant in let x : PartitionView = c.value.inside.partition in let K = g.K.Meaning.modelling in
    let same = λ (y : PartitionView). y in record {
      can = tt;
      ends = tt;
      items = c.push_reserved.ensures.items ∙ ap (λ (l : List PartitionView). l ++ x ∷ []) inv.items
          ∙ (λ i. map same c.loop-value.yielded ++ c.value.view_is i ∷ []) ∙ sym (map-append same c.loop-value.yielded (c.in-Some.value ∷ []));
      many = let m = inv.many in let l = c.push_reserved.ensures.len in omega (arith, length-append c.loop-value.yielded (c.in-Some.value ∷ []));
      capacity = c.push_reserved.ensures.capacity ∙ inv.capacity;
      replays = all_push (λ (y : PartitionView). replay K y.number y.journal ≡ Some y.state) c.loop-value.all.items x c.push_reserved.new.self.items c.push_reserved.ensures.items inv.replays
          c.journal.ensures.replays;
    }

pub returns-clause-items : goal.returns-clause-items
returns-clause-items g c =
    let gives = c.into_iter-value-iterator.ensures.into_iter_gives in
    let all = YieldsList-from_vec {s = c.into_iter-value-iterator.result} c.args.kept.items gives.0 (gives.1 ∙ c.args.kept.ok.0) in
    c.loop-value.invariant.items ∙ (YieldsList-end all c.loop-value.yielded c.loop-value.value-iterator c.loop-value.yielded_by c.next.result c.next.new.self c.in-None.is c.next.ensures.steps).0
