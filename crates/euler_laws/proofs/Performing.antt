-- An operator is carried out by its own function: what that asks and promises, of the call that the operator is.
use Rattle.std.proofs.Common.{◌≡◌, ℕ, ◌+◌, ◌-◌, ◌≤◌, ⊎_elim, List, [], ◌∷◌, ◌++◌, length, take, Ok, Err, refl, sym, ap, subst, ◌∙◌, arith}
use Rattle.std.specs.Prelude.{Contains, IsOk, IsTrue}
use Rattle.std.specs.List.{AllByRecursion}
use Rattle.std.proofs.lemmas.List.Elements.{Contains-append_cases, Contains-append_right}
use Rattle.pk_base.specs.Building.{Building}
use Rattle.pk_base.specs.declared.call.Call.{Call}
use Rattle.pk_base.specs.declared.tag.Tag.{Tag}
use Rattle.pk_model.specs.Maps.{EntityMap}
use Rattle.entity_store.specs.NextTags.{TagsView, left}
use Rattle.entity_store.specs.Recording.{room_left}
use Rattle.entity_store.specs.Store.{StoreView, Stored}
use Rattle.entity_store.specs.declared.modeller.Need.{Need}
use Rattle.entity_store.proofs.Room.{puts-wider, room-of_length, room-part}
use Rattle.list_facts.proofs.Elements.{Contains-take, not_in_nil}
use Rattle.solid_model.specs.Items.{Shape}
use Rattle.solid_model.specs.Rows.{Row, cost_of}
use Rattle.solid_model.specs.Rows.Effect.{Makes, Changes, Tells}
use Rattle.solid_model.specs.Links.{links}
use Rattle.solid_model.specs.Shapes.{shape_of}
use Rattle.solid_model.specs.Calls.{row_of}
use Rattle.solid_model.specs.Euler.{list_of}
use Rattle.solid_model.specs.Room.{puts_of, tags_changed, tags_put}
use Rattle.solid_model.specs.Sound.{IsSound}
use Rattle.solid_model.proofs.Room.{length-tags_put}
use Rattle.solid_calls.specs.Pairs.{HasDone, HasTags, IsNeedOf, MayDo, Takes, reached, row_on}
use Rattle.solid_calls.proofs.NextTags.{takes-none}
use Rattle.solid_calls.proofs.RowKinds.{IsChanging, cost-changing}
use Rattle.euler_laws.specs.Both.{MayTake, cost_on, map_after, taken}

pub reached-changing : (S : Shape) (tags other : List Tag) (row : Row) → IsChanging row → reached S tags row ≡ reached S other row
reached-changing S tags other (Ok (Makes k reaches)) h = absurd h
reached-changing S tags other (Ok (Changes o)) h = refl
reached-changing S tags other (Ok (Tells reply)) h = absurd h
reached-changing S tags other (Err e) h = refl

-- what a call may put without tags, it may put with any
put-without : (S : Shape) (c : Call) (tags : List Tag) (t : Tag) → Contains (tags_put S c []) t → Contains (tags_put S c tags) t
put-without S c tags t h =
    let n : ℕ = cost_of (row_of S c) in
    ⊎_elim (λ (l : Contains (take n []) t). absurd (not_in_nil t (Contains-take n [] t l)))
    (λ (r : Contains (tags_changed S c) t). Contains-append_right (take n tags) (tags_changed S c) t r)
    (Contains-append_cases (take n []) (tags_changed S c) t h)

-- c is the call that the operator is, and d the same, as the operator's function has it
module _ (c d : Call) (is : c ≡ d) where
  pub may-as : (s : StoreView) (tags : List Tag) → MayDo s c tags → MayDo s d tags
  may-as s tags may = subst (λ x. MayDo s x tags) is may

  pub may-without : (s : StoreView) (tags : List Tag) → MayDo s c tags → MayDo s d []
  may-without s tags may =
      let here = may-as s tags may in
      let S : Shape = shape_of s.state.map in
      record {
        sound = here.sound;
        goes = here.goes;
        room = room-part s.recording (tags_put S d tags) (tags_put S d []) here.room (put-without S d tags);
      }

  pub done-as : (old new : StoreView) (tags : List Tag) → HasDone old d tags new → HasDone old c tags new
  done-as old new tags done = subst (λ x. HasDone old x tags new) (sym is) done

  pub done-changing : (old new : StoreView) (tags : List Tag) → IsChanging (row_on old.state.map d) → HasDone old d [] new → HasDone old c tags new
  done-changing old new tags changing done =
      let S : Shape = shape_of old.state.map in
      done-as old new tags (record {
        state = done.state ∙ ap (λ R. record old.state { map = links R }) (reached-changing S [] tags (row_on old.state.map d) changing);
        sound = done.sound;
        puts = puts-wider (tags_put S d []) (tags_put S d tags) old new done.puts (put-without S d tags);
      })

  pub takes-changing : (m : EntityMap) (tags : TagsView) (out : Building Tag) → IsChanging (row_on m d) → Takes (cost_of (row_on m c)) tags out tags out
  takes-changing m tags out changing =
      let cost : cost_of (row_on m c) ≡ 0 = ap (λ x. cost_of (row_on m x)) is ∙ cost-changing (row_on m d) changing in
      subst (λ n. Takes n tags out tags out) (sym cost) (takes-none tags out)

  pub tags-as : (s : StoreView) (tags : TagsView) (out : Building Tag) → HasTags s (cost_of (row_on s.state.map c)) tags out → HasTags s (cost_of (row_on s.state.map d)) tags out
  tags-as s tags out has = subst (λ x. HasTags s (cost_of (row_on s.state.map x)) tags out) is has

  pub takes-as : (m : EntityMap) (tags tags' : TagsView) (out out' : Building Tag) → Takes (cost_of (row_on m d)) tags out tags' out' → Takes (cost_of (row_on m c)) tags out tags' out'
  takes-as m tags tags' out out' takes = subst (λ x. Takes (cost_of (row_on m x)) tags out tags' out') (sym is) takes

-- ---- the store that is lent, with room taken for it

list-cost : (row : Row) → cost_of row ≤ list_of row
list-cost (Ok (Makes k reaches)) = omega arith
list-cost (Ok (Changes other)) = omega arith
list-cost (Ok (Tells reply)) = omega arith
list-cost (Err e) = omega arith

module _ (s : StoreView) (old : Stored) (c : Call) (n : Need) (tags : TagsView) (is : s.state ≡ old) (may : MayTake old c (cost_on old.map c) tags) (need : IsNeedOf old.map c n) where
  pub may-do : s.recording ≡ record { first = []; room = n.changes } → MayDo s c (left tags)
  may-do room =
      let S : Shape = shape_of s.state.map in
      let changes : n.changes ≡ puts_of S c = need.changes ∙ ap (λ (o : Stored). puts_of (shape_of o.map) c) (sym is) in
      let left_over : room_left s.recording ≡ n.changes - 0 = ap room_left room in
      record {
        sound = subst (λ (o : Stored). IsSound o.map) (sym is) may.may.sound;
        goes = subst (λ (o : Stored). IsOk (row_on o.map c)) (sym is) may.may.goes;
        room = room-of_length s.recording (tags_put S c (left tags)) (omega (arith, length-tags_put S c (left tags), changes, left_over));
      }

  pub has-tags : (out : Building Tag) → out.spare ≡ n.list → HasTags s (cost_of (row_on s.state.map c)) tags out
  unfolding cost_on
  has-tags out spare = subst (λ (o : Stored). HasTags (record s { state = o }) (cost_of (row_on o.map c)) tags out) (sym is) (record {
    enough = may.may.enough;
    ascend = may.may.ascend;
    free = may.may.free;
    owned = may.owned;
    spare = let list = need.list in omega (arith, list-cost (row_on old.map c), list, spare);
  })

module _ (s new : StoreView) (old : Stored) (c : Call) (tags : TagsView) (is : s.state ≡ old) where
  pub done-state : HasDone s c (left tags) new → new.state ≡ record old { map = map_after old.map c (left tags) }
  unfolding map_after
  done-state done = done.state ∙ ap (λ (o : Stored). record o { map = links (reached (shape_of o.map) (left tags) (row_on o.map c)) }) is

  module _ (tags' : TagsView) (out out' : Building Tag) (takes : Takes (cost_of (row_on s.state.map c)) tags out tags' out') where
    cost_is : cost_of (row_on s.state.map c) ≡ cost_on old.map c
    unfolding cost_on
    cost_is = ap (λ (o : Stored). cost_of (row_on o.map c)) is

    pub taken-tags : tags' ≡ taken (cost_on old.map c) tags
    taken-tags = takes.taken ∙ ap (λ k. taken k tags) cost_is

    pub taken-list : out.items ≡ [] → out'.items ≡ take (cost_on old.map c) (left tags)
    taken-list none = takes.lists ∙ (λ i. none i ++ take (cost_is i) (left tags))
