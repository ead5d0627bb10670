-- What holds of a shape and of the tags where a call may be asked.
use Rattle.std.proofs.Common.{◌≡◌, ◌≢◌, ℕ, ◌<◌, List, length, Option, Some, None, refl, sym, ap, subst, ◌∙◌, arith}
use Rattle.std.specs.Prelude.{T, option_map}
use Rattle.std.specs.List.{AllByRecursion}
use Rattle.std.specs.FinMap.{get, get-from_sorted, is_sorted}
use Rattle.pk_base.specs.Blocks.{tag}
use Rattle.pk_base.specs.declared.tag.Tag.{Tag}
use Rattle.pk_base.specs.declared.entity.Entity.{Entity}
use Rattle.pk_base.specs.declared.call.Call.{Call}
use Rattle.pk_model.specs.Tags.{TagsAscend, tag_at}
use Rattle.pk_model.specs.Maps.{EntityMap, tag_cmp}
use Rattle.solid_model.specs.Items.{Item, Shape, item_at}
use Rattle.solid_model.specs.Links.{entities_of, entity_of, links}
use Rattle.solid_model.specs.Shapes.{shape_of}
use Rattle.solid_model.specs.Sound.{IsSound}
use Rattle.solid_model.specs.Calls.{row_of}
use Rattle.solid_model.proofs.Written.{is_sorted-map}
use Rattle.list_facts.proofs.Each.{ByRecursion-weaker, ByRecursion-get_or}
use Rattle.pk_model.proofs.VertexModeller.{TagsAscend-at}
use Rattle.solid_sound.specs.Keeping.{KeepsSoundness}
use Rattle.solid_sound.proofs.shapes.OnlyShape.{shape-read}
use Rattle.solid_sound.proofs.shapes.Reading.{entity-found}
use Rattle.solid_sound.proofs.rows.RowKeeps.{IsWell, Keeps, keeps-step, well-shape}

none_mapped : (g : Item → Entity) (o : Option Item) → option_map g o ≡ None → o ≡ None
none_mapped g None h = refl
none_mapped g (Some x) h = absurd (cc)

-- what the map of a shape has under a tag
pub get-links : (S : Shape) (t : Tag) → T (is_sorted tag_cmp S) → get (links S) t ≡ option_map (entity_of S t) (item_at S t)
unfolding links
get-links S t sorted = get-from_sorted tag_cmp (entities_of S) t (subst T (sym (is_sorted-map (λ x. entity_of S x.0 x.1) S)) sorted) ∙ entity-found S t

-- what is not live in the map has no item
pub free_item : (m : EntityMap) → IsSound m → (t : Tag) → get m t ≡ None → item_at (shape_of m) t ≡ None
free_item m s t h = ap (λ S. item_at S t) (shape-read m s)
    ∙ none_mapped (entity_of s.shape t) (item_at s.shape t) (sym (get-links s.shape t s.written.ascends) ∙ ap (λ n. get n t) (sym s.map_is) ∙ h)

-- A call keeps soundness where its row does on every well shape, with tags that ascend and have no
-- item.
pub keeps-by_row : (c : Call) → ((S : Shape) (tags : List Tag) → IsWell S → TagsAscend tags → AllByRecursion (λ t. item_at S t ≡ None) tags → Keeps tags (row_of S c)) → KeepsSoundness c
keeps-by_row c h m tags o may is =
    keeps-step m tags (row_of (shape_of m) c) o may.sound may.enough
    (h (shape_of m) tags (well-shape m may.sound) may.ascend (ByRecursion-weaker _ _ (λ t e. free_item m may.sound t e) tags may.free)) is

pub free_at : (S : Shape) (tags : List Tag) (i : ℕ) → AllByRecursion (λ t. item_at S t ≡ None) tags → i < length tags → item_at S (tag_at tags i) ≡ None
free_at S tags i free less = ByRecursion-get_or (λ t. item_at S t ≡ None) tags i (tag 0) less free

pub apart_at : (tags : List Tag) (i j : ℕ) → TagsAscend tags → i < j → j < length tags → tag_at tags i ≢ tag_at tags j
apart_at tags i j a h k = λ e.
    let less = TagsAscend-at tags i j a h k in
    let same : (tag_at tags i).0 ≡ (tag_at tags j).0 = ap (λ (u : Tag). u.0) e in
    omega (arith, less, same)
