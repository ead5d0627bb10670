-- Maps by their entries, so that what is asked of inserted entries computes.
use Rattle.std.proofs.Common.{◌≡◌, List, [], sym, ap, ◌∙◌}
use Rattle.std.specs.Prelude.{map, filter, is_none}
use Rattle.std.specs.FinMap.{empty, insert, keys, entries, put, find, entries-insert, get-entries, len-empty, len-entries}
use Rattle.pk_base.specs.declared.tag.Tag.{Tag}
use Rattle.pk_base.specs.declared.entity.Entity.{Entity}
use Rattle.pk_base.specs.declared.list.Lists.{Lists}
use Rattle.pk_model.specs.Maps.{EntityMap, tag_cmp, differ, diff}
use Rattle.pk_model.proofs.TagLists.{tag_total}
use Rattle.list_facts.proofs.Lengths.{nil_of_length}

abbrev pub Entries : Type 0
Entries = List (Tag × Entity)

abbrev pub no_entities : EntityMap
no_entities = empty

pub entries-empty : entries no_entities ≡ []
entries-empty = nil_of_length _ (sym (len-entries no_entities) ∙ len-empty tag_cmp Entity)

-- one more entry
pub entries-more : (m : EntityMap) (es : Entries) (k : Tag) (v : Entity) → entries m ≡ es → entries (insert m k v) ≡ put tag_cmp k v es
entries-more m es k v h = entries-insert tag_total m k v ∙ ap (put tag_cmp k v) h

-- the difference of two maps, from their entries
abbrev pub diff_entries : Entries → Entries → Lists
diff_entries old new = record {
  fresh = filter (λ t. is_none (find tag_cmp t old)) (map (λ e. e.0) new);
  gone = filter (λ t. is_none (find tag_cmp t new)) (map (λ e. e.0) old);
  changed = filter (λ t. differ (find tag_cmp t old) (find tag_cmp t new)) (map (λ e. e.0) new);
}

diff-entries : (old new : EntityMap) → diff old new ≡ diff_entries (entries old) (entries new)
unfolding diff
diff-entries old new i = record {
  fresh = filter (λ t. is_none (get-entries old t i)) (keys new);
  gone = filter (λ t. is_none (get-entries new t i)) (keys old);
  changed = filter (λ t. differ (get-entries old t i) (get-entries new t i)) (keys new);
}

pub diff_by_entries : (old new : EntityMap) (os ns : Entries) → entries old ≡ os → entries new ≡ ns → diff old new ≡ diff_entries os ns
diff_by_entries old new os ns h k = diff-entries old new ∙ (λ i. diff_entries (h i) (k i))
