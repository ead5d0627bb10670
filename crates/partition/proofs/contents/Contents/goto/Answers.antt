use Rattle.std.proofs.Common.{◌≡◌, ◌+◌, ◌≤◌, length, ap, subst, arith}
use Rattle.pk_model.specs.State.{PartitionState}
use Rattle.entity_store.specs.Store.{Stored}
use Rattle.pmark_tree.specs.Maps.{map_of}
use Rattle.partition.specs.Contents.{ContentsView}
use Rattle.partition.specs.Goes.{entries_between}
use Rattle.partition.specs.Work.{work}
use Rattle.partition.proofs.Keeping.{gone_to, hosted_all}
use Rattle.partition.proofs.WorkSteps.{entries-within}
use Rattle.partition.proofs.contents.Contents.goto.Goals as goal

pub to_delta-requires : goal.to_delta-requires
to_delta-requires g c =
    let p = c.self.inside in
    record { base = map_of p.tree.marks p.at; now = p.store.state.map; net = c.self.invariant.net }

pub go-requires : goal.go-requires
go-requires g c =
    let p = c.self.inside in
    record {
      tree = c.in_default.ensures.tree;
      at = c.self.invariant.lives;
      to = c.in_default.ensures.found.lives;
      hosted = hosted_all p.store.state.blocks p.blocks.items p.store.state.map p.tree.marks p.unsaved.changes.entries p.at p.used c.self.invariant;
      net = c.in_ok-unsaved.ensures (map_of p.tree.marks p.at) p.store.state.map c.self.invariant.net;
    }

pub returns-in_err-lists-clause-cost : goal.returns-in_err-lists-clause-cost
returns-in_err-lists-clause-cost g c =
    let p = c.self.inside in
    let within : length c.in_ok-unsaved.unsaved + entries_between p.tree.marks p.at c.args.m ≤ work c.args.self.now.state c.args.m = subst (λ (s : PartitionState). length c.in_ok-unsaved.unsaved + entries_between p.tree.marks p.at c.args.m ≤ work s c.args.m) (ap (λ (v : ContentsView). v.state) c.self.view_is) (entries-within p.tree.marks c.in_default.ensures.tree p.store p.at c.args.m p.used p.holder c.in_ok-unsaved.unsaved c.self.invariant.lives (c.in_ok-unsaved.ensures (map_of p.tree.marks p.at) p.store.state.map c.self.invariant.net)) in
    omega (arith, within, c.go.ensures.cost)

pub invariant_of-self-2 : goal.invariant_of-self-2
invariant_of-self-2 g c =
    let p = c.self.inside in
    let new = c.go.new.store.state in
    let there : new ≡ record p.store.state { map = map_of p.tree.marks c.args.m } = c.in_ok-lists.ensures.goes.1 in
    gone_to p.store.state.blocks p.blocks.items p.store.state.map p.tree.marks p.unsaved.changes.entries p.at p.used c.self.invariant c.args.m new.blocks new.map c.new.result.changes.entries c.in_default.ensures.found.lives
    (ap (λ (s : Stored). s.blocks) there) (ap (λ (s : Stored). s.map) there) c.new.ensures

pub returns-clause-cost : goal.returns-clause-cost
returns-clause-cost g c =
    let p = c.self.inside in
    let within : length c.in_ok-unsaved.unsaved + entries_between p.tree.marks p.at c.args.m ≤ work c.args.self.now.state c.args.m = subst (λ (s : PartitionState). length c.in_ok-unsaved.unsaved + entries_between p.tree.marks p.at c.args.m ≤ work s c.args.m) (ap (λ (v : ContentsView). v.state) c.self.view_is) (entries-within p.tree.marks c.in_default.ensures.tree p.store p.at c.args.m p.used p.holder c.in_ok-unsaved.unsaved c.self.invariant.lives (c.in_ok-unsaved.ensures (map_of p.tree.marks p.at) p.store.state.map c.self.invariant.net)) in
    omega (arith, within, c.go.ensures.cost)
