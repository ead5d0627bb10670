-- A row that keeps soundness, and how rows are made of their parts.
use Rattle.std.proofs.Common.{◌≡◌, ◌≤◌, Bool, true, false, List, length, Option, Some, None, Result, Ok, Err, refl, sym, subst}
use Rattle.pk_base.specs.declared.tag.Tag.{Tag}
use Rattle.pk_base.specs.declared.refusal.Refusal.{Refusal}
use Rattle.pk_model.specs.Maps.{EntityMap}
use Rattle.pk_model.specs.Modelling.{Outcome}
use Rattle.pk_model.specs.Step.{◌>>=◌}
use Rattle.solid_model.specs.Items.{Shape}
use Rattle.solid_model.specs.Rows.{Row, refuse_where, ◌>>◌, cost_of}
use Rattle.solid_model.specs.Rows.Effect.{Makes, Changes, Tells}
use Rattle.solid_model.specs.Links.{links}
use Rattle.solid_model.specs.Shapes.{shape_of}
use Rattle.solid_model.specs.Sound.{IsWritten, IsSoundShape, IsSound}
use Rattle.solid_model.specs.Euler.{step_by, outcome_of}
use Rattle.solid_sound.proofs.shapes.OnlyShape.{shape-read}

pub record IsWell (S : Shape) : Type 0 where
  pub written : IsWritten S
  pub sound : IsSoundShape S

pub sound-links : (S : Shape) → IsWell S → IsSound (links S)
sound-links S h = record { shape = S; written = h.written; sound = h.sound; map_is = refl }

-- what the row reaches with these tags is well, where they are enough
abbrev pub Keeps : List Tag → Row → Type 0
Keeps tags (Ok (Makes k reaches)) = k ≤ length tags → IsWell (reaches tags)
Keeps tags (Ok (Changes reached)) = IsWell reached
Keeps tags (Ok (Tells reply)) = Unit {0}
Keeps tags (Err e) = Unit {0}

pub keeps-after : (tags : List Tag) (o : Option Refusal) (row : Row) → (o ≡ None → Keeps tags row) → Keeps tags (o >> row)
keeps-after tags None row h = h refl
keeps-after tags (Some e) row h = tt

pub keeps-bind : {A : Type 0} (tags : List Tag) (r : Result A Refusal) (row : A → Row) → ((a : A) → r ≡ Ok a → Keeps tags (row a)) → Keeps tags (r >>= row)
keeps-bind tags (Ok a) row h = h a refl
keeps-bind tags (Err e) row h = tt

pub not_refused : (b : Bool) (e : Refusal) → refuse_where b e ≡ None → b ≡ false
not_refused true e h = absurd (cc)
not_refused false e h = refl

-- and so the step by the row
pub keeps-step : (m : EntityMap) (tags : List Tag) (row : Row) (o : Outcome) → IsSound m → cost_of row ≤ length tags → Keeps tags row → step_by m tags row ≡ Ok o → IsSound o.map
keeps-step m tags (Ok (Makes k reaches)) o s enough h is =
    let e : outcome_of m tags (Makes k reaches) ≡ o = cc in
    subst (λ (x : Outcome). IsSound x.map) e (sound-links (reaches tags) (h enough))
keeps-step m tags (Ok (Changes reached)) o s enough h is =
    let e : outcome_of m tags (Changes reached) ≡ o = cc in
    subst (λ (x : Outcome). IsSound x.map) e (sound-links reached h)
keeps-step m tags (Ok (Tells reply)) o s enough h is =
    let e : outcome_of m tags (Tells reply) ≡ o = cc in
    subst (λ (x : Outcome). IsSound x.map) e s
keeps-step m tags (Err e) o s enough h is = absurd (cc)

-- the shape of a sound map is well
pub well-shape : (m : EntityMap) → IsSound m → IsWell (shape_of m)
well-shape m s = subst IsWell (sym (shape-read m s)) (record { written = s.written; sound = s.sound })
