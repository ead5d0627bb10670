-- What a call makes of a sound shape where it is not refused.
use Rattle.std.specs.Prelude.{◌≡◌, ℕ, ◌≤◌, ◌⊎◌, List, length, take, None, Some, Ok, IsSome, Contains}
use Rattle.std.specs.List.{AllByRecursion}
use Rattle.pk_base.specs.declared.tag.Tag.{Tag}
use Rattle.pk_base.specs.declared.call.Call.{Call}
use Rattle.pk_model.specs.Tags.{TagsAscend}
use Rattle.solid_model.specs.Items.{Item, Shape, item_at}
use Rattle.solid_model.specs.Rows.Effect.{Makes}
use Rattle.solid_model.specs.Calls.{row_of}
use Rattle.solid_model.specs.Sound.{IsSoundShape, IsWritten}

-- The call makes R of the sound shape S, of so many of these tags: they are enough, ascend, and are
-- not live, and the call is not refused.
pub record Reaches (S : Shape) (c : Call) (tags : List Tag) (R : Shape) : Type 0 where
  pub written : IsWritten S
  pub sound : IsSoundShape S
  pub ascend : TagsAscend tags
  pub free : AllByRecursion (λ t. item_at S t ≡ None) tags
  pub takes : ℕ
  pub reaches : List Tag → Shape
  pub row_is : row_of S c ≡ Ok (Makes takes reaches)
  pub enough : takes ≤ length tags
  pub reached : R ≡ reaches tags

-- all that stood stands as it was
abbrev pub AllStays : Shape → Shape → Type 0
AllStays S R = (t : Tag) (x : Item) → item_at S t ≡ Some x → item_at R t ≡ Some x

-- what is live was live, or has one of the first so many tags
abbrev pub MadeOf : Shape → ℕ → List Tag → Shape → Type 0
MadeOf S n tags R =
    (t : Tag) → IsSome (item_at R t) → IsSome (item_at S t) ⊎ Contains (take n tags) t
