use Rattle.std.proofs.Common.{None, sym, subst}
use Rattle.std.specs.Prelude.{IsPermutation}
use Rattle.std.specs.List.{AllByRecursion}
use Rattle.entity_store.specs.Kids.{IsLinkOfLive, kids_at, kids_of}
use Rattle.entity_store.specs.Store.{StoreView}
use Rattle.entity_store.proofs.Children.{all-live, walked}
use Rattle.entity_store.proofs.store.Store.roots.Goals as goal

pub over-requires : goal.over-requires
over-requires c =
    subst (λ (s : StoreView). AllByRecursion (IsLinkOfLive s.state) c.children.result) c.self.view_is
    (all-live c.self.inside.blocks.items c.self.inside.slots.items c.self.inside.live c.self.inside.links.owners c.self.invariant None tt c.children.result c.children.ensures)

pub returns : goal.returns
returns c =
    subst (IsPermutation (kids_of c.args.self.now.state.map None)) (sym c.over.ensures)
    (subst (λ (s : StoreView). IsPermutation (kids_of s.state.map None) (kids_at s.state c.children.result)) c.self.view_is
    (walked c.self.inside.blocks.items c.self.inside.slots.items c.self.inside.live c.self.inside.links.owners c.self.invariant None tt c.children.result c.children.ensures))
