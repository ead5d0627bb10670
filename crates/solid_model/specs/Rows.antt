-- What a row is: why a call is refused, or what it does to a shape.
use Rattle.std.specs.Prelude.{ℕ, Bool, true, false, List, Option, Some, None, Result, Ok, Err}
use Rattle.pk_base.specs.declared.tag.Tag.{Tag}
use Rattle.pk_base.specs.declared.act.Reply.{Reply}
use Rattle.pk_base.specs.declared.refusal.Refusal.{Refusal}
use Rattle.pk_model.specs.Tags.{tag_at}
use Rattle.solid_model.specs.Items.{Shape}

-- What a call does that is not refused. It makes entities of the first `takes` of the tags that it
-- is given, and replies Made with these tags; or it changes the shape, takes no tag, and replies
-- Done; or it changes nothing, and tells what was asked.
pub data Effect : Type 0 where
  Makes : (takes : ℕ) → (reaches : List Tag → Shape) → Effect
  Changes : (reached : Shape) → Effect
  Tells : (reply : Reply) → Effect

-- a row of a call: the first of its refusals that applies, else what it does
abbrev pub Row : Type 0
Row = Result Effect Refusal

-- what is made of the next tags, each by its name
abbrev pub makes_one : (Tag → Shape) → Row
makes_one reach = Ok (Makes 1 (λ tags. reach (tag_at tags 0)))

abbrev pub makes_three : (Tag → Tag → Tag → Shape) → Row
makes_three reach = Ok (Makes 3 (λ tags. reach (tag_at tags 0) (tag_at tags 1) (tag_at tags 2)))

abbrev pub makes_four : (Tag → Tag → Tag → Tag → Shape) → Row
makes_four reach =
    Ok (Makes 4 (λ tags. reach (tag_at tags 0) (tag_at tags 1) (tag_at tags 2) (tag_at tags 3)))

abbrev pub makes_five : (Tag → Tag → Tag → Tag → Tag → Shape) → Row
makes_five reach =
    Ok (Makes 5 (λ tags. reach (tag_at tags 0) (tag_at tags 1) (tag_at tags 2) (tag_at tags 3)
    (tag_at tags 4)))

abbrev pub changes : Shape → Row
changes reached = Ok (Changes reached)

abbrev pub tells : Reply → Row
tells reply = Ok (Tells reply)

-- a refusal comes before what follows it
infixr 10 ◌>>◌
abbrev pub ◌>>◌ : {A : Type 0} → Option Refusal → Result A Refusal → Result A Refusal
None >> r = r
(Some e) >> r = Err e

-- a refusal that applies where the test holds
abbrev pub refuse_where : Bool → Refusal → Option Refusal
refuse_where true e = Some e
refuse_where false e = None

-- how many tags the row takes
abbrev pub cost_of : Row → ℕ
cost_of (Ok (Makes k reaches)) = k
cost_of (Ok (Changes reached)) = 0
cost_of (Ok (Tells reply)) = 0
cost_of (Err e) = 0
