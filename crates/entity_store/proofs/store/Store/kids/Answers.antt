use Rattle.std.proofs.Common.{◌≡◌, false, true, ◌+◌, Some, [], sym, ap, refl, subst, ◌∙◌, arith}
use Rattle.std.specs.Prelude.{IsPermutation}
use Rattle.std.specs.List.{AllByRecursion}
use Rattle.std.proofs.lemmas.Bool.{false_from_ne_true}
use Rattle.std.proofs.lemmas.List.Sorted.{IsPermutation-refl}
use Rattle.owner_links.specs.Links.{AreChildren}
use Rattle.pk_model.specs.Tags.{owns}
use Rattle.entity_store.specs.Kids.{IsLinkOfLive, kids_at, kids_of}
use Rattle.entity_store.specs.OwnerLinks.{place_in}
use Rattle.entity_store.specs.Store.{StoreView}
use Rattle.entity_store.proofs.Children.{all-live, no-kids, walked}
use Rattle.entity_store.proofs.FewBlocks.{few_blocks}
use Rattle.entity_store.proofs.store.Store.kids.Goals as goal

pub link_of-requires : goal.link_of-requires
link_of-requires c =
    let within = rw c.deref.ensures.value at c.in-Some.ensures.within in
    omega (arith, few_blocks c.self.inside.blocks.items c.self.invariant.ascending c.self.invariant.range, within)

pub over-requires : goal.over-requires
over-requires c =
    let blocks = c.self.inside.blocks.items in
    let owned = rw c.deref.ensures.value at c.in-Some.ensures.variant in
    let link : c.link_of.result ≡ 64 + place_in blocks c.args.owner = c.link_of.ensures ∙ ap (λ n. 64 + n) (rw c.deref.ensures.value at c.in-Some.ensures.value) in
    subst (λ (s : StoreView). AllByRecursion (IsLinkOfLive s.state) c.children.result) c.self.view_is
    (all-live blocks c.self.inside.slots.items c.self.inside.live c.self.inside.links.owners c.self.invariant (Some c.args.owner) (owned.0 refl) c.children.result (subst (λ n. AreChildren c.self.inside.links.owners n c.children.result) link c.children.ensures))

pub returns-in-Some : goal.returns-in-Some
returns-in-Some c =
    let blocks = c.self.inside.blocks.items in
    let owned = rw c.deref.ensures.value at c.in-Some.ensures.variant in
    let link : c.link_of.result ≡ 64 + place_in blocks c.args.owner = c.link_of.ensures ∙ ap (λ n. 64 + n) (rw c.deref.ensures.value at c.in-Some.ensures.value) in
    subst (IsPermutation (kids_of c.args.self.now.state.map (Some c.args.owner))) (sym c.over.ensures)
    (subst (λ (s : StoreView). IsPermutation (kids_of s.state.map (Some c.args.owner)) (kids_at s.state c.children.result)) c.self.view_is
    (walked blocks c.self.inside.slots.items c.self.inside.live c.self.inside.links.owners c.self.invariant (Some c.args.owner) (owned.0 refl) c.children.result (subst (λ n. AreChildren c.self.inside.links.owners n c.children.result) link c.children.ensures)))

pub returns-in-None : goal.returns-in-None
returns-in-None c =
    let blocks = c.self.inside.blocks.items in
    let slots = c.self.inside.slots.items in
    let owner = c.args.owner in
    let other = false_from_ne_true (owns blocks owner) (λ h. let no : false ≡ true = (rw c.deref.ensures.value at c.in-None.ensures.variant).1 h in cc) in
    let none : kids_of c.args.self.now.state.map (Some owner) ≡ [] = ap (λ (s : StoreView). kids_of s.state.map (Some owner)) (sym c.self.view_is) ∙ no-kids blocks slots c.self.inside.live c.self.inside.links.owners c.self.invariant owner other in
    let nothing = c.over-in-None.ensures ∙ ap (kids_at c.args.self.now.state) c.none.ensures in
    subst (λ l. IsPermutation l c.over-in-None.result) (sym none) (subst (IsPermutation []) (sym nothing) (IsPermutation-refl []))
