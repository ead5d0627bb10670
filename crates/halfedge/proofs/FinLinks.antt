-- One fin is put with another field: what that changes of links, and that it may be put.
use Rattle.std.proofs.Common.{◌≡◌, ◌≢◌, ⊎_elim, Some, sym, ap, subst, ◌∙◌}
use Rattle.std.specs.Prelude.{◌∷◌, [], option_map, IsTrue, Contains}
use Rattle.std.specs.Option.{option_and_then}
use Rattle.std.specs.FinMap.{get}
use Rattle.pk_base.specs.declared.tag.Tag.{Tag}
use Rattle.pk_base.specs.declared.entity.Entity.{Entity}
use Rattle.pk_base.specs.declared.entity.Entity.TheVariants as entity
use Rattle.pk_model.specs.Tags.{owns}
use Rattle.pk_model.specs.Maps.{EntityMap, with_entity}
use Rattle.entity_store.specs.Store.{Stored, StoreView, IsHosted}
use Rattle.entity_store.proofs.FirstValues.{get_put, get_other}
use Rattle.halfedge.specs.LinkedRings.{as_fin, unlinked, in_loop, Relabels}
use Rattle.list_facts.proofs.Elements.{not_in_nil, Contains-first, Contains-cases}
use Rattle.halfedge.specs.Splices.{ChangesLinks, SetsNext, SetsPrev}

-- the store's blocks are those of its entities and of their owners
abbrev pub Hosts : Stored → Type 0
Hosts s = (t : Tag) (e : Entity) → get s.map t ≡ Some e → IsHosted s.blocks t e

pub hosts-viewed : (v s : StoreView) → v ≡ s → Hosts v.state → Hosts s.state
hosts-viewed v s e h = subst (λ (x : StoreView). Hosts x.state) e h

pub only_one : (f t : Tag) → Contains (f ∷ []) t → f ≡ t
only_one f t k = ⊎_elim (λ (e : f ≡ t). e) (λ (n : Contains [] t). absurd (not_in_nil t n)) (Contains-cases f [] t k)

-- a fin that stands in the store may be put again with other neighbours
pub hosted-links : (s : Stored) (f l next prev mate edge vertex x y : Tag) → Hosts s → get s.map f ≡ Some (entity.Fin l next prev mate edge vertex) → IsHosted s.blocks f (entity.Fin l x y mate edge vertex)
hosted-links s f l next prev mate edge vertex x y hosts is =
    let h = hosts f (entity.Fin l next prev mate edge vertex) is in
    record { owned = h.owned; owner = h.owner }

-- it may be put with another loop, where that stands in an owned block and is another tag
pub hosted-loop : (s : Stored) (f l next prev mate edge vertex to : Tag) → Hosts s → get s.map f ≡ Some (entity.Fin l next prev mate edge vertex) → to ≢ f → IsTrue (owns s.blocks to) → IsHosted s.blocks f (entity.Fin to next prev mate edge vertex)
hosted-loop s f l next prev mate edge vertex to hosts is other owned =
    let h = hosts f (entity.Fin l next prev mate edge vertex) is in
    record { owned = h.owned; owner = (other, owned) }

module _ (m n : EntityMap) (f l next prev mate edge vertex : Tag) (is : get m f ≡ Some (entity.Fin l next prev mate edge vertex)) where
  pub changes-links : (x y : Tag) → n ≡ with_entity m f (Some (entity.Fin l x y mate edge vertex)) → ChangesLinks m f n
  changes-links x y put = record {
    fields = ap (λ k. option_map unlinked (get k f)) put ∙ ap (option_map unlinked) (get_put m f (Some (entity.Fin l x y mate edge vertex))) ∙ sym (ap (option_map unlinked) is);
    others = λ t other. ap (λ k. get k t) put ∙ get_other m f (Some (entity.Fin l x y mate edge vertex)) t other;
  }

  pub sets-next : (g : Tag) → n ≡ with_entity m f (Some (entity.Fin l g prev mate edge vertex)) → SetsNext m f g n
  sets-next g put =
      let now : get n f ≡ Some (entity.Fin l g prev mate edge vertex) = ap (λ k. get k f) put ∙ get_put m f (Some (entity.Fin l g prev mate edge vertex)) in
      record {
        next = ap (λ o. option_map (λ x. x.next) (option_and_then as_fin o)) now;
        prev = ap (λ o. option_map (λ x. x.prev) (option_and_then as_fin o)) now ∙ sym (ap (λ o. option_map (λ x. x.prev) (option_and_then as_fin o)) is);
        rest = changes-links g prev put;
      }

  pub sets-prev : (g : Tag) → n ≡ with_entity m f (Some (entity.Fin l next g mate edge vertex)) → SetsPrev m f g n
  sets-prev g put =
      let now : get n f ≡ Some (entity.Fin l next g mate edge vertex) = ap (λ k. get k f) put ∙ get_put m f (Some (entity.Fin l next g mate edge vertex)) in
      record {
        prev = ap (λ o. option_map (λ x. x.prev) (option_and_then as_fin o)) now;
        next = ap (λ o. option_map (λ x. x.next) (option_and_then as_fin o)) now ∙ sym (ap (λ o. option_map (λ x. x.next) (option_and_then as_fin o)) is);
        rest = changes-links next g put;
      }

  pub sets-loop : (to : Tag) → n ≡ with_entity m f (Some (entity.Fin to next prev mate edge vertex)) → Relabels m (f ∷ []) to n
  sets-loop to put =
      let now : get n f ≡ Some (entity.Fin to next prev mate edge vertex) = ap (λ k. get k f) put ∙ get_put m f (Some (entity.Fin to next prev mate edge vertex)) in
      let same : get n f ≡ option_map (in_loop to) (get m f) = now ∙ sym (ap (option_map (in_loop to)) is) in
      record {
        fins = λ t k. subst (λ (u : Tag). get n u ≡ option_map (in_loop to) (get m u)) (only_one f t k) same;
        others = λ t out. ap (λ x. get x t) put ∙ get_other m f (Some (entity.Fin to next prev mate edge vertex)) t (λ e. out (subst (Contains (f ∷ [])) (sym e) (Contains-first f [])));
      }
