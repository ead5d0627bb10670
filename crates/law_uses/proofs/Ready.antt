-- The next tags of a store, and a call that is carried out with them.
use Rattle.std.proofs.Common.{◌≡◌, ℕ, ◌+◌, ◌*◌, ◌<◌, ◌≤◌, List, [], ◌∷◌, length, take, Option, None, Ok, Err, refl, sym, ap, subst, ◌∙◌, arith}
use Rattle.std.specs.Prelude.{IsOk, IsTrue}
use Rattle.std.specs.List.{AllByRecursion}
use Rattle.std.specs.FinMap.{get}
use Rattle.std.proofs.lemmas.List.{drop_more}
use Rattle.pk_base.specs.Blocks.{tag}
use Rattle.pk_base.specs.Building.{Building}
use Rattle.pk_base.specs.declared.act.Reply.{Reply}
use Rattle.pk_base.specs.declared.call.Call.{Call}
use Rattle.pk_base.specs.declared.tag.Tag.{Tag}
use Rattle.pk_model.specs.Maps.{EntityMap}
use Rattle.pk_model.specs.Modelling.{MayBeAsked}
use Rattle.pk_model.specs.Tags.{Ascends, next_tags, owns, tag_at, tags_of}
use Rattle.pk_model.proofs.TagLists.{Contains-owns, TagsAscend-next_tags, length-next_tags, length-tags_of, tag_at-next_tags}
use Rattle.entity_store.specs.Modeller.{IsNeed, MayPerform, Performs}
use Rattle.entity_store.specs.NextTags.{TagsView, left}
use Rattle.entity_store.specs.Recording.{Recording, room_left}
use Rattle.entity_store.specs.Store.{Stored, StoreView}
use Rattle.entity_store.specs.declared.modeller.Need.{Need}
use Rattle.list_facts.proofs.Each.{ByRecursion-contains, ByRecursion-drop, ByRecursion-take}
use Rattle.solid_model.specs.Rows.{Row}
use Rattle.solid_model.specs.Euler.{step_by}
use Rattle.solid_model.specs.Sound.{IsSound}
use Rattle.solid_calls.specs.Pairs.{row_on}
use Rattle.euler_laws.specs.Both.{MayTake}
use Rattle.modeller.specs.Euler.{euler}
use Rattle.modeller.specs.EulerLaws.{euler-IsModeller}

-- ---- the next tags

-- where no tag is left, none is live
pub none-left : (m : EntityMap) (tags : TagsView) → tags.used ≡ 64 * length tags.blocks → AllByRecursion (λ t. get m t ≡ None) (left tags)
none-left m tags all = nothing (left tags) (omega (arith, all, length-next_tags tags.blocks tags.used))
  where
    nothing : (ts : List Tag) → length ts ≡ 0 → AllByRecursion (λ t. get m t ≡ None) ts
    nothing [] h = tt
    nothing (t ∷ ts) h = absurd (omega (arith, h))

-- where the next tag is not live, and none of those behind it
pub one-more : (m : EntityMap) (tags : TagsView) → tags.used < 64 * length tags.blocks → get m (tag_at (left tags) 0) ≡ None
    → AllByRecursion (λ t. get m t ≡ None) (left (record tags { used = tags.used + 1 })) → AllByRecursion (λ t. get m t ≡ None) (left tags)
one-more m tags some free rest =
    let Free = λ (t : Tag). get m t ≡ None in
    let all = tags_of tags.blocks in
    let first : tag_at (left tags) 0 ≡ tag_at all tags.used = tag_at-next_tags tags.blocks tags.used 0 ∙ ap (tag_at all) (omega arith) in
    let split = drop_more all tags.used (tag 0) (omega (arith, some, length-tags_of tags.blocks)) in
    subst (AllByRecursion Free) (sym split) (subst Free first free, rest)

-- ---- what a call asks for

goes-on : (m : EntityMap) (tags : List Tag) (row : Row) → IsOk (step_by m tags row) → IsOk row
goes-on m tags (Ok effect) h = refl
goes-on m tags (Err e) h = absurd (cc)

pub may-take : (s : Stored) (c : Call) (n : ℕ) (need : Need) (tags : TagsView) → IsSound s.map → IsNeed euler s.map c need → need.tags ≤ n
    → s.blocks ≡ tags.blocks → Ascends tags.blocks → tags.used + n ≤ 64 * length tags.blocks → AllByRecursion (λ t. get s.map t ≡ None) (left tags) → MayTake s c n tags
may-take s c n need tags sound is_need within same ascends fits free =
    let enough : n ≤ length (left tags) = omega (arith, fits, length-next_tags tags.blocks tags.used) in
    let ascend = TagsAscend-next_tags tags.blocks tags.used ascends in
    let Owned = λ (t : Tag). IsTrue (owns tags.blocks t) in
    let all : AllByRecursion Owned (tags_of tags.blocks) = ByRecursion-contains Owned (tags_of tags.blocks) (Contains-owns tags.blocks) in
    let asked : MayBeAsked euler s.map c (left tags) = record { sound = sound; enough = omega (arith, enough, within, is_need.tags); ascend = ascend; free = free } in
    record {
      may = record { sound = sound; goes = goes-on s.map (left tags) (row_on s.map c) (is_need.goes (left tags) asked); enough = enough; ascend = ascend; free = free };
      owned = subst (λ bs. AllByRecursion (λ t. IsTrue (owns bs t)) (take n (left tags))) (sym same) (ByRecursion-take Owned n (left tags) (ByRecursion-drop Owned tags.used (tags_of tags.blocks) all));
    }

-- ---- what is carried out

module _ (old : Stored) (c : Call) (need : Need) (tags : TagsView) (may : MayTake old c need.tags tags) (is_need : IsNeed euler old.map c need) where
  asked : MayBeAsked euler old.map c (left tags)
  asked = record { sound = may.may.sound; enough = let h = may.may.enough in omega (arith, h, is_need.tags); ascend = may.may.ascend; free = may.may.free }

  module _ (lent : StoreView) (same : lent.state ≡ old) where
    pub may-perform : (out : Building Tag) → lent.recording ≡ record { first = []; room = need.changes } → out.items ≡ [] → need.list ≤ out.spare → MayPerform euler lent c tags out
    may-perform out room empty fits = record {
      asked = subst (λ (s : Stored). MayBeAsked euler s.map c (left tags)) (sym same) asked;
      goes = subst (λ (s : Stored). IsOk (euler.step s.map c (left tags))) (sym same) (is_need.goes (left tags) asked);
      owned = subst (λ (s : Stored). AllByRecursion (λ t. IsTrue (owns s.blocks t)) (take (euler.cost s.map c) (left tags))) (sym same) (subst (λ (n : ℕ). AllByRecursion (λ t. IsTrue (owns old.blocks t)) (take n (left tags))) is_need.tags may.owned);
      changes = omega (arith, ap (λ (s : Stored). euler.changes s.map c) same, is_need.changes, ap (λ (r : Recording). room_left r) room);
      empty = empty;
      list = omega (arith, ap (λ (s : Stored). euler.list s.map c) same, is_need.list, fits);
    }

    pub still-sound : (reply : Reply) (after : StoreView) (rest : TagsView) → Performs euler lent c tags reply after rest → IsSound after.state.map
    still-sound reply after rest p =
        let steps = ap (λ (s : Stored). euler.step s.map c (left tags)) (sym same) ∙ p.steps in
        subst (λ (s : Stored). IsSound s.map) (sym p.state) (euler-IsModeller.keeps old.map c (left tags) p.outcome asked steps)
