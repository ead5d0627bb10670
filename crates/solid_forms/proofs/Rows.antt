-- What a row asks for that is not refused, and how many tags it takes.
use Rattle.std.proofs.Common.{◌≡◌, ℕ, ◌≤◌, Bool, false, List, [], ◌∷◌, length, Option, Some, None, Result, Ok, Err, refl, sym, ap, ◌∙◌, arith}
use Rattle.std.specs.Prelude.{ℤ, not, find, cond, IsTrue, Contains, option_map}
use Rattle.std.specs.List.{AllByRecursion, flat_map}
use Rattle.pk_base.specs.declared.tag.Tag.{Tag}
use Rattle.pk_base.specs.declared.entity.Pair.{Pair}
use Rattle.pk_base.specs.declared.refusal.Refusal.{Refusal}
use Rattle.pk_base.specs.declared.refusal.Refusal.TheVariants.{OutOfRange}
use Rattle.pk_model.specs.Step.{◌>>=◌}
use Rattle.solid_model.specs.Items.{Shape}
use Rattle.solid_model.specs.Rows.{Row, ◌>>◌}
use Rattle.solid_model.specs.Rows.Effect.{Makes, Changes}
use Rattle.solid_model.specs.Ranges.{is_coordinate, numbers_of, refuse_outside}
use Rattle.solid_model.specs.Lamina.{at_height, refuse_count, refuse_corners}
use Rattle.list_facts.proofs.Elements.{Contains-first, Contains-later, Contains-flat_map}
use Rattle.list_facts.proofs.Each.{ByRecursion-contains, ByRecursion-at}
use Rattle.solid_sound.proofs.rows.KeptMotions.{outside-none}

-- ---- what is not refused

-- a refusal that does not apply, and what follows it
pub after-none : {A : Type 0} (o : Option Refusal) (r : Result A Refusal) (a : A) → (o >> r) ≡ Ok a → (o ≡ None) × (r ≡ Ok a)
after-none None r a h = (refl, h)
after-none (Some e) r a h = absurd (cc)

pub bind-ok : {A B : Type 0} (r : Result A Refusal) (f : A → Result B Refusal) (b : B) → (r >>= f) ≡ Ok b → (a : A) × (r ≡ Ok a) × (f a ≡ Ok b)
bind-ok (Ok a) f b h = (a, refl, h)
bind-ok (Err e) f b h = absurd (cc)

pub bind-known : {A B : Type 0} (r : Result A Refusal) (f : A → Result B Refusal) (a : A) (b : B) → r ≡ Ok a → (r >>= f) ≡ Ok b → f a ≡ Ok b
bind-known r f a b e h = sym (ap (λ x. x >>= f) e) ∙ h

-- the row that makes this is that one
pub record MadeAs (k : ℕ) (makes : List Tag → Shape) (takes : ℕ) (reaches : List Tag → Shape) : Type 0 where
  pub takes_is : takes ≡ k
  pub reaches_is : reaches ≡ makes

pub makes-same : (k : ℕ) (makes : List Tag → Shape) (takes : ℕ) (reaches : List Tag → Shape) → ◌≡◌ {A = Row} (Ok (Makes k makes)) (Ok (Makes takes reaches)) → MadeAs k makes takes reaches
makes-same k makes takes reaches h = record { takes_is = cc; reaches_is = cc }

pub changes-same : (a b : Shape) → ◌≡◌ {A = Row} (Ok (Changes a)) (Ok (Changes b)) → a ≡ b
changes-same a b h = cc

-- ---- points within the limit

passes : (b : Bool) → IsTrue b → not b ≡ false
passes b h = ap not h

all_pass : (test : ℤ → Bool) (vs : List ℤ) → AllByRecursion (λ v. IsTrue (test v)) vs → find (λ v. not (test v)) vs ≡ None
all_pass test [] h = refl
all_pass test (v ∷ vs) h = ap (λ b. cond b (Some v) (find (λ w. not (test w)) vs)) (passes (test v) h.0) ∙ all_pass test vs h.1

pub within-none : (test : ℤ → Bool) (vs : List ℤ) → AllByRecursion (λ v. IsTrue (test v)) vs → refuse_outside test vs ≡ None
within-none test vs h = ap (option_map OutOfRange) (all_pass test vs h)

-- mvfs and mev do not refuse this point
abbrev pub NotRefused : ℤ → Pair → Type 0
NotRefused z c = refuse_outside is_coordinate (numbers_of (at_height z c)) ≡ None

pub corners_within : (z : ℤ) (corners : List Pair) → refuse_outside is_coordinate (z ∷ []) ≡ None → refuse_corners corners ≡ None → AllByRecursion (NotRefused z) corners
corners_within z corners a b =
    let height = (outside-none is_coordinate (z ∷ []) a).0 in
    let all = outside-none is_coordinate (flat_map (λ (c : Pair). c.x ∷ c.y ∷ []) corners) b in
    ByRecursion-contains (NotRefused z) corners (λ c k.
    let at = λ (v : ℤ) (h : Contains (c.x ∷ c.y ∷ []) v). ByRecursion-at (λ w. IsTrue (is_coordinate w)) (flat_map (λ (d : Pair). d.x ∷ d.y ∷ []) corners) v all (Contains-flat_map (λ (d : Pair). d.x ∷ d.y ∷ []) corners c v k h) in
    within-none is_coordinate (numbers_of (at_height z c)) (at c.x (Contains-first c.x (c.y ∷ [])), (at c.y (Contains-later c.x (c.y ∷ []) c.y (Contains-first c.y [])), (height, tt))))

pub three_corners : (corners : List Pair) → refuse_count corners ≡ None → 3 ≤ length corners
three_corners [] h = absurd (cc)
three_corners (c ∷ []) h = absurd (cc)
three_corners (c ∷ d ∷ []) h = absurd (cc)
three_corners (c ∷ d ∷ e ∷ cs) h = omega arith
