-- A walk up from both ends of a way through a tree.
use Rattle.std.specs.Prelude.{◌≡◌, ◌≢◌, ◌<◌, true, List, ◌++◌}
use Rattle.std.specs.List.{AllByRecursion}
use Rattle.pk_base.specs.declared.tag.Tag.{Tag}
use Rattle.pmark_tree.specs.declared.mark.TreeMark.{TreeMark}
use Rattle.pmark_tree.specs.Marks.{is_live, parent_in}
use Rattle.pmark_tree.specs.Paths.{Climbs, line_of}

-- From the one end the walk came to `a` and left the marks `up`, from the other it came to `b` and
-- left the marks `down`.
pub record IsWalk (ks : List TreeMark) (from to a b : Tag) (up down : List Tag) : Type 0 where
  pub lives : is_live ks a ≡ true
  pub other_lives : is_live ks b ≡ true
  pub climbs : Climbs (parent_in ks) from up a
  pub other_climbs : Climbs (parent_in ks) to down b
  pub line : line_of (parent_in ks) from ≡ up ++ line_of (parent_in ks) a
  pub other_line : line_of (parent_in ks) to ≡ down ++ line_of (parent_in ks) b
  pub above : AllByRecursion (λ (u : Tag). b.0 < u.0) up
  pub other_above : AllByRecursion (λ (d : Tag). a.0 < d.0) down
  pub apart : AllByRecursion (λ (u : Tag). AllByRecursion (λ (d : Tag). u ≢ d) down) up
