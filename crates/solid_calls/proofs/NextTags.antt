-- The next tags, as they are taken one after another.
use Rattle.std.proofs.Common.{◌≡◌, ℕ, zero, suc, ◌+◌, ◌*◌, ◌<◌, ◌≤◌, List, [], ◌∷◌, ◌++◌, length, take, drop, refl, sym, ap, ◌∙◌, append-nil, arith}
use Rattle.pk_base.specs.Building.{Building}
use Rattle.pk_base.specs.declared.tag.Tag.{Tag}
use Rattle.pk_model.specs.Tags.{next_tags, tag_at, tags_of}
use Rattle.pk_model.proofs.TagLists.{length-next_tags}
use Rattle.entity_store.specs.NextTags.{TagsView, left}
use Rattle.solid_calls.specs.Pairs.{Takes}

pub used_within : (t : TagsView) → 1 ≤ length (left t) → t.used < 64 * length t.blocks
used_within t fits = omega (arith, length-next_tags t.blocks t.used)

-- the first of a list that is not empty, and the rest
first-drop : (ts : List Tag) (n : ℕ) → 1 ≤ length (drop n ts) → drop n ts ≡ tag_at (drop n ts) 0 ∷ drop (n + 1) ts
first-drop [] n h = absurd (length-nothing n h)
  where
    length-nothing : (n : ℕ) → 1 ≤ length (drop {A = Tag} n []) → ⊥
    length-nothing zero h = omega arith
    length-nothing (suc n) h = omega arith
first-drop (t ∷ ts) zero h = refl
first-drop (t ∷ ts) (suc n) h =
    let more : suc (n + 1) ≡ suc n + 1 = omega arith in
    first-drop ts n h ∙ ap (λ k. tag_at (drop n ts) 0 ∷ drop k (t ∷ ts)) more

pub left-taken : (old new : TagsView) (t : Tag) → 1 ≤ length (left old) → t ≡ tag_at (next_tags old.blocks old.used) 0 → new ≡ record old { used = old.used + 1 } → left old ≡ t ∷ left new
left-taken old new t fits is taken =
    first-drop (tags_of old.blocks) old.used fits ∙ ap (λ u. u ∷ next_tags old.blocks (old.used + 1)) (sym is) ∙ ap (λ (v : TagsView). t ∷ left v) (sym taken)

pub takes-one : (old new : TagsView) (t : Tag) (out out' : Building Tag) → left old ≡ t ∷ left new → new ≡ record old { used = old.used + 1 } → out'.items ≡ out.items ++ t ∷ [] → out'.spare + 1 ≡ out.spare → Takes 1 old out new out'
takes-one old new t out out' first taken lists spare = record {
  taken = taken;
  lists = lists ∙ ap (λ ts. out.items ++ ts) (sym (ap (take 1) first));
  spare = spare;
}

-- no tag is taken
pub takes-none : (t : TagsView) (o : Building Tag) → Takes 0 t o t o
takes-none t o =
    let same : t.used ≡ t.used + 0 = omega arith in
    record { taken = ap (λ u. record t { used = u }) same; lists = sym (append-nil o.items); spare = omega arith }
