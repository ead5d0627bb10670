-- The children of an owner that a walk gives: those of one class, without one of them maybe.
use Rattle.std.specs.Prelude.{◌≡◌, ◌↔◌, Bool, false, not, ◌&&◌, List, Option, None, Some, Contains, IsTrue, filter, map, refl}
use Rattle.std.specs.FinMap.{get}
use Rattle.std.specs.Coded.{Coded, code_by, coded×, coded_option}
use Rattle.pk_base.specs.contracts.entity.Class as class
use Rattle.pk_base.specs.Entity.{class_of, owner_of, same_tag}
use Rattle.pk_base.specs.declared.tag.Tag.{Tag}
use Rattle.pk_base.specs.declared.entity.Class.{Class}
use Rattle.pk_base.specs.declared.entity.Entity.{Entity}
use Rattle.pk_model.specs.Codes.{tag_code}
use Rattle.pk_model.specs.Maps.{EntityMap}
use Rattle.pk_model.specs.Apart.{NoRepeats}
use Rattle.entity_store.specs.Kids.{kids_code}
use Rattle.solid_model.specs.Owners.{same_class}

-- what a walk is over: the children of the owner that are left, the class of those that are given,
-- and the one that is not
pub record KidsView : Type 0 where
  pub left : List (Tag × Entity)
  pub class : Class
  pub but : Option Tag

abbrev pub kids_view_code : Coded KidsView
kids_view_code =
    code_by (List (Tag × Entity) × (Class × Option Tag))
    (coded× kids_code (coded× class.the_row.coded (coded_option tag_code)))
    (λ v. (v.left, (v.class, v.but))) (λ p. record { left = p.0; class = p.1.0; but = p.1.1 })
    (λ _. refl)

abbrev pub is_but : Option Tag → Tag → Bool
is_but None t = false
is_but (Some u) t = same_tag u t

-- whether this child is given
abbrev pub is_given : Class → Option Tag → Tag × Entity → Bool
is_given c but k = same_class (class_of k.1) c && not (is_but but k.0)

-- the children that are still to be given
abbrev pub to_give : KidsView → List (Tag × Entity)
to_give v = filter (is_given v.class v.but) v.left

-- The walk gives each once: the live entities of this class with this owner, but that one, each
-- with its tag.
pub record Gives (m : EntityMap) (owner : Tag) (v : KidsView) : Type 0 where
  pub once : NoRepeats (map (λ k. k.0) (to_give v))
  pub are : (k : Tag × Entity) → Contains (to_give v) k ↔ ((get m k.0 ≡ Some k.1)
      × (owner_of k.1 ≡ Some owner) × IsTrue (is_given v.class v.but k))

-- those of one class, or those of it but one
pub record GivesClass (c : Class) (but : Option Tag) (m : EntityMap) (owner : Tag) (v : KidsView)
    : Type 0 where
  pub class : v.class ≡ c
  pub but_one : v.but ≡ but
  pub gives : Gives m owner v
