-- The steps of which each change of rings is made.
use Rattle.std.specs.Prelude.{◌≡◌, ◌≢◌, List, ◌∷◌, ◌++◌, Some, option_map}
use Rattle.std.specs.FinMap.{get}
use Rattle.pk_base.specs.declared.tag.Tag.{Tag}
use Rattle.pk_model.specs.Maps.{EntityMap}
use Rattle.solid_model.specs.Sound.{optional}
use Rattle.halfedge.specs.LinkedRings.{AreLinked, next_at, prev_at, unlinked}

-- No other entity than f has changed, and of f nothing but its links.
pub record ChangesLinks (old : EntityMap) (f : Tag) (new : EntityMap) : Type 0 where
  pub fields : option_map unlinked (get new f) ≡ option_map unlinked (get old f)
  pub others : (t : Tag) → t ≢ f → get new t ≡ get old t

-- The next fin of f is g now.
pub record SetsNext (old : EntityMap) (f g : Tag) (new : EntityMap) : Type 0 where
  pub next : next_at new f ≡ Some g
  pub prev : prev_at new f ≡ prev_at old f
  pub rest : ChangesLinks old f new

-- The fin before f is g now.
pub record SetsPrev (old : EntityMap) (f g : Tag) (new : EntityMap) : Type 0 where
  pub prev : prev_at new f ≡ Some g
  pub next : next_at new f ≡ next_at old f
  pub rest : ChangesLinks old f new

-- The fin after f is g now, and the one before g is f. No other link has changed, no other field of
-- a fin, and no other entity.
pub record Joins (old : EntityMap) (f g : Tag) (new : EntityMap) : Type 0 where
  pub linked : AreLinked new f g
  pub nexts : (t : Tag) → t ≢ f → next_at new t ≡ next_at old t
  pub prevs : (t : Tag) → t ≢ g → prev_at new t ≡ prev_at old t
  pub fields : (t : Tag) → option_map unlinked (get new t) ≡ option_map unlinked (get old t)
  pub others : (t : Tag) → t ≢ f → t ≢ g → get new t ≡ get old t

-- What came before f comes before g now, and what came before g comes before f.
pub record Splices (old : EntityMap) (f g : Tag) (new : EntityMap) : Type 0 where
  pub before_f : Tag
  pub before_g : Tag
  pub f_was : prev_at old f ≡ Some before_f
  pub g_was : prev_at old g ≡ Some before_g
  pub between : EntityMap
  pub one : Joins old before_f g between
  pub other : Joins between before_g f new

-- the fins whose links this changes
abbrev pub spliced : EntityMap → Tag → Tag → List Tag
spliced m f g = f ∷ g ∷ optional (prev_at m f) ++ optional (prev_at m g)
