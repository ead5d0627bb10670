-- What holds of the marks of a tree at every moment.
use Rattle.std.specs.Prelude.{◌≡◌, ◌<◌, true, List, [], map, None, Some}
use Rattle.pk_base.specs.declared.tag.Tag.{Tag}
use Rattle.pk_model.specs.Tags.{TagsAscend}
use Rattle.entity_store.specs.Changes.{AreChanges}
use Rattle.delta.specs.Deltas.{StartsAt, after}
use Rattle.pmark_tree.specs.declared.mark.TreeMark.{TreeMark}
use Rattle.pmark_tree.specs.Marks.{is_live, parent_in, delta_in, initial_of}
use Rattle.pmark_tree.specs.Maps.{map_of}

-- The live mark p is the parent of the live mark t: it is the older one, and the changes of t start
-- at its map and lead to that of t.
pub record IsEdge (ks : List TreeMark) (p t : Tag) : Type 0 where
  pub older : p.0 < t.0
  pub parent_lives : is_live ks p ≡ true
  pub lives : is_live ks t ≡ true
  pub changes : AreChanges (delta_in ks t)
  pub starts : StartsAt (map_of ks p) (delta_in ks t)
  pub leads : after (map_of ks p) (delta_in ks t) ≡ map_of ks t

pub record IsTree (ks : List TreeMark) : Type 0 where
  pub ascend : TagsAscend (map (λ (k : TreeMark). k.tag) ks)
  pub edges : (p t : Tag) → parent_in ks t ≡ Some p → IsEdge ks p t
  -- without a parent there are no changes
  pub loose : (t : Tag) → parent_in ks t ≡ None → delta_in ks t ≡ []
  -- the initial mark is live and has no parent, and is the only such mark
  pub initial : (t : Tag) → initial_of ks ≡ Some t
      → (is_live ks t ≡ true) × (parent_in ks t ≡ None)
  pub root : (t : Tag) → is_live ks t ≡ true → parent_in ks t ≡ None → initial_of ks ≡ Some t
