-- A call that is not refused, as the modeller performs it on a store that is lent.
use Rattle.std.proofs.Common.{◌≡◌, ℕ, ◌≤◌, [], take, sym, ap, subst, ◌∙◌, arith}
use Rattle.std.specs.Prelude.{IsOk, IsTrue}
use Rattle.std.specs.List.{AllByRecursion}
use Rattle.pk_base.specs.Building.{Building}
use Rattle.pk_base.specs.declared.tag.Tag.{Tag}
use Rattle.pk_base.specs.declared.call.Call.{Call}
use Rattle.pk_base.specs.declared.act.Reply.{Reply}
use Rattle.pk_model.specs.Tags.{next_tags, owns}
use Rattle.pk_model.specs.Modelling.{Modelling, MayBeAsked}
use Rattle.entity_store.specs.NextTags.{TagsView, left}
use Rattle.entity_store.specs.Store.{Stored, StoreView}
use Rattle.entity_store.specs.Recording.{Recording, room_left}
use Rattle.entity_store.specs.Modeller.{IsNeed, MayPerform, Performs}
use Rattle.entity_store.specs.declared.modeller.Need.{Need}
use Rattle.partition.specs.Goes.{Made}
use Rattle.partition.proofs.Blocks.{owns_next}

-- the store, lent with room for the changes, is the old one, and the tags are its next ones
module _ (K : Modelling) (old : Stored) (used : ℕ) (c : Call) (need : Need) (is_need : IsNeed K old.map c need) (lent : StoreView) (tags : TagsView) (same : lent.state ≡ old) (next : tags ≡ record { blocks = old.blocks; used = used }) where
  pub may_perform : (out : Building Tag) → MayBeAsked K old.map c (next_tags old.blocks used) → lent.recording ≡ record { first = []; room = need.changes } → out.items ≡ [] → need.list ≤ out.spare → MayPerform K lent c tags out
  may_perform out asked room empty fits = record {
    asked = subst (λ (t : TagsView). MayBeAsked K lent.state.map c (left t)) (sym next) (subst (λ (s : Stored). MayBeAsked K s.map c (next_tags old.blocks used)) (sym same) asked);
    goes = subst (λ (t : TagsView). IsOk (K.step lent.state.map c (left t))) (sym next) (subst (λ (s : Stored). IsOk (K.step s.map c (next_tags old.blocks used))) (sym same) (is_need.goes (next_tags old.blocks used) asked));
    owned = subst (λ (t : TagsView). AllByRecursion (λ u. IsTrue (owns lent.state.blocks u)) (take (K.cost lent.state.map c) (left t))) (sym next) (subst (λ (s : Stored). AllByRecursion (λ u. IsTrue (owns s.blocks u)) (take (K.cost s.map c) (next_tags old.blocks used))) (sym same) (owns_next old.blocks used (K.cost old.map c)));
    changes = omega (arith, ap (λ (s : Stored). K.changes s.map c) same, is_need.changes, ap (λ (r : Recording). room_left r) room);
    empty = empty;
    list = omega (arith, ap (λ (s : Stored). K.list s.map c) same, is_need.list, fits);
  }

  pub performed : (reply : Reply) (after : StoreView) (rest : TagsView) → Performs K lent c tags reply after rest → Made K old used c reply need.tags after.state
  performed reply after rest p = record {
    outcome = p.outcome;
    steps = ap (λ (s : Stored). K.step s.map c (next_tags old.blocks used)) (sym same) ∙ ap (λ (t : TagsView). K.step lent.state.map c (left t)) (sym next) ∙ p.steps;
    replies = p.replies;
    takes = is_need.tags;
    store = p.state ∙ ap (λ (s : Stored). record s { map = p.outcome.map }) same;
  }
