-- What a check of numbers answers, and sizes.
use Rattle.std.specs.Prelude.{◌≡◌, Option, Some, None, Result, MatchResult, IsTrue}
use Rattle.std.specs.List.{AllByRecursion}
use Rattle.pk_base.specs.declared.entity.Triple.{Triple}
use Rattle.pk_base.specs.declared.refusal.Refusal.{Refusal}
use Rattle.solid_model.specs.Ranges.{is_size, numbers_of}

-- it is refused as is said, or passes where nothing is refused
abbrev pub IsRefusedAs : {A : Type 0} → Option Refusal → Result A Refusal → Type 0
IsRefusedAs said answer = MatchResult answer (λ _. said ≡ None) (λ e. said ≡ Some e)

-- each of the three is a size
abbrev pub AreSizes : Triple → Type 0
AreSizes sizes = AllByRecursion (λ v. IsTrue (is_size v)) (numbers_of sizes)
