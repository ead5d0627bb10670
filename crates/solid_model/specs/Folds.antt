-- Rows that are carried out one after another, each with the next tags.
use Rattle.std.specs.Prelude.{List, [], ◌∷◌, drop, Ok, Err}
use Rattle.pk_base.specs.declared.tag.Tag.{Tag}
use Rattle.pk_base.specs.declared.entity.Triple.{Triple}
use Rattle.pk_model.specs.Tags.{tag_at}
use Rattle.solid_model.specs.Items.{Shape}
use Rattle.solid_model.specs.Rows.{Row}
use Rattle.solid_model.specs.Rows.Effect.{Makes, Changes, Tells}
use Rattle.solid_model.specs.Mev.{mev}
use Rattle.solid_model.specs.Mef.{mef}

-- a shape that is being made, and the next tags
pub record Progress : Type 0 where
  pub shape : Shape
  pub tags : List Tag

abbrev pub after_row : Row → Progress → Progress
after_row (Ok (Makes k reaches)) p = record { shape = reaches p.tags; tags = drop k p.tags }
after_row (Ok (Changes reached)) p = record p { shape = reached }
after_row (Ok (Tells reply)) p = p
after_row (Err e) p = p

-- mev from each of these ends to its point
abbrev pub after_edges : List (Tag × Triple) → Progress → Progress
after_edges [] p = p
after_edges (x ∷ xs) p = after_edges xs (after_row (mev p.shape x.0 x.1) p)

-- A path: mev to each of these points, the first from the end t, and each later one from the fin
-- back of the one before, which is the last of the four tags that mev takes.
abbrev pub after_path : Tag → List Triple → Progress → Progress
after_path t [] p = p
after_path t (c ∷ cs) p = after_path (tag_at p.tags 3) cs (after_row (mev p.shape t c) p)

-- mef from each of these fins to the one that stands next
abbrev pub after_cuts : List Tag → Progress → Progress
after_cuts [] p = p
after_cuts (f ∷ []) p = p
after_cuts (f ∷ g ∷ fs) p = after_cuts (g ∷ fs) (after_row (mef p.shape f g) p)
