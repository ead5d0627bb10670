-- A pair that is made of the next two tags is what the meaning says.
use Rattle.std.proofs.Common.{◌≡◌, ◌≢◌, ℕ, ◌+◌, ◌*◌, ◌<◌, ◌≤◌, Bool, true, false, List, [], ◌∷◌, length, take, refl, sym, ap, subst, ◌∙◌, arith}
use Rattle.std.specs.Prelude.{IsOk, IsTrue}
use Rattle.std.specs.List.{AllByRecursion}
use Rattle.pk_base.specs.Building.{Building}
use Rattle.pk_base.specs.declared.tag.Tag.{Tag}
use Rattle.pk_base.specs.declared.call.Call.{Call}
use Rattle.pk_base.specs.declared.act.Reply.TheVariants.{Made}
use Rattle.pk_model.specs.Tags.{next_tags, owns, tag_at, tags_of, TagsAscend}
use Rattle.pk_model.specs.Maps.{EntityMap}
use Rattle.pk_model.proofs.TagLists.{length-next_tags, tag_at-next_tags}
use Rattle.entity_store.specs.NextTags.{TagsView, left}
use Rattle.entity_store.specs.Store.{StoreView}
use Rattle.entity_store.specs.Recorder.{Records}
use Rattle.entity_store.specs.Modeller.{MayPerform, Performs}
use Rattle.partition_uses.specs.PairBodies.{makes_pair, pair_bodies, pair_cost, pair_of, pair_step, with_pair}

-- a call that is not refused makes a pair
is_pair : (m : EntityMap) (tags : List Tag) (makes : Bool) → IsOk (pair_step m tags makes) → makes ≡ true
is_pair m tags true h = refl
is_pair m tags false h = absurd (cc)

-- the second tag, once the first is taken
pub second : (blocks : List ℕ) (used : ℕ) → tag_at (next_tags blocks (used + 1)) 0 ≡ tag_at (next_tags blocks used) 1
second blocks used = tag_at-next_tags blocks (used + 1) 0 ∙ ap (tag_at (tags_of blocks)) (omega arith) ∙ sym (tag_at-next_tags blocks used 1)

-- what is known of the first two of two tags or more
pub record AreTwo (blocks : List ℕ) (tags : List Tag) : Type 0 where
  pub taken : take 2 tags ≡ tag_at tags 0 ∷ tag_at tags 1 ∷ []
  pub body : IsTrue (owns blocks (tag_at tags 0))
  pub shell : IsTrue (owns blocks (tag_at tags 1))
  pub apart : tag_at tags 0 ≢ tag_at tags 1

two_of : (blocks : List ℕ) (tags : List Tag) → 2 ≤ length tags → TagsAscend tags → AllByRecursion (λ t. IsTrue (owns blocks t)) (take 2 tags) → AreTwo blocks tags
two_of blocks [] fits ascend owned = absurd (omega arith)
two_of blocks (a ∷ []) fits ascend owned = absurd (omega arith)
two_of blocks (a ∷ b ∷ more) fits ascend owned = record {
  taken = refl;
  body = owned.0;
  shell = owned.1.0;
  apart = λ e. let same : a.0 ≡ b.0 = ap (λ (t : Tag). t.0) e in let below : a.0 < b.0 = ascend.0.0 in omega arith;
}

module _ (s : StoreView) (c : Call) (tags : TagsView) (out : Building Tag) (may : MayPerform pair_bodies s c tags out) where
  makes : makes_pair c ≡ true
  makes = is_pair s.state.map (left tags) (makes_pair c) may.goes

  costs : pair_cost (makes_pair c) ≡ 2
  costs = ap pair_cost makes

  pub two_left : tags.used + 2 ≤ 64 * length tags.blocks
  two_left = omega (arith, may.asked.enough, costs, length-next_tags tags.blocks tags.used)

  pub two : AreTwo s.state.blocks (left tags)
  two = two_of s.state.blocks (left tags) (omega (arith, may.asked.enough, costs)) may.asked.ascend (subst (λ n. AllByRecursion (λ t. IsTrue (owns s.state.blocks t)) (take n (left tags))) costs may.owned)

  pub performed : (body shell : Tag) (made : List Tag) (after : StoreView) (rest : TagsView) → body ≡ tag_at (left tags) 0 → shell ≡ tag_at (left tags) 1 → made ≡ body ∷ shell ∷ [] → after.state ≡ record s.state { map = with_pair s.state.map body shell } → Records 2 s after → rest ≡ record tags { used = tags.used + 2 } → Performs pair_bodies s c tags (Made made) after rest
  performed body shell made after rest first next lists state records takes = record {
    outcome = pair_of s.state.map (left tags);
    steps = ap (pair_step s.state.map (left tags)) makes;
    replies = ap (λ ts. Made ts) (lists ∙ (λ i. first i ∷ next i ∷ []) ∙ sym two.taken);
    state = state ∙ (λ i. record s.state { map = with_pair s.state.map (first i) (next i) });
    takes = takes ∙ ap (λ n. record tags { used = tags.used + n }) (sym costs);
    records = subst (λ n. Records n s after) (sym costs) records;
  }
