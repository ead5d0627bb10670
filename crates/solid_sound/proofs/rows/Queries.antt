-- Rows that only tell.
use Rattle.std.proofs.Common.{◌≡◌, List, Result, Ok, Err, sym, ap, subst}
use Rattle.pk_base.specs.declared.tag.Tag.{Tag}
use Rattle.pk_base.specs.declared.call.Call.{Call}
use Rattle.pk_base.specs.declared.refusal.Refusal.{Refusal}
use Rattle.pk_model.specs.Maps.{EntityMap}
use Rattle.pk_model.specs.Modelling.{Outcome}
use Rattle.pk_model.specs.Step.{◌>>=◌}
use Rattle.solid_model.specs.Items.{Shape}
use Rattle.solid_model.specs.Rows.{Row}
use Rattle.solid_model.specs.Rows.Effect.{Makes, Changes, Tells}
use Rattle.solid_model.specs.Shapes.{shape_of}
use Rattle.solid_model.specs.Sound.{IsSound}
use Rattle.solid_model.specs.Calls.{row_of}
use Rattle.solid_model.specs.Euler.{step_by, outcome_of}
use Rattle.solid_sound.specs.Keeping.{KeepsSoundness, ChangesNothing}

-- the row refuses or tells
abbrev pub OnlyTells : Row → Type 0
OnlyTells (Ok (Makes k reaches)) = ⊥
OnlyTells (Ok (Changes reached)) = ⊥
OnlyTells (Ok (Tells reply)) = Unit {0}
OnlyTells (Err e) = Unit {0}

pub tells-bind : {A : Type 0} (r : Result A Refusal) (row : A → Row) → ((a : A) → OnlyTells (row a)) → OnlyTells (r >>= row)
tells-bind (Ok a) row h = h a
tells-bind (Err e) row h = tt

told-map : (m : EntityMap) (tags : List Tag) (row : Row) (o : Outcome) → OnlyTells row → step_by m tags row ≡ Ok o → o.map ≡ m
told-map m tags (Ok (Makes k reaches)) o h is = absurd h
told-map m tags (Ok (Changes reached)) o h is = absurd h
told-map m tags (Ok (Tells reply)) o h is =
    let e : outcome_of m tags (Tells reply) ≡ o = cc in
    sym (ap (λ (x : Outcome). x.map) e)
told-map m tags (Err e) o h is = absurd (cc)

pub told-same : (c : Call) → ((S : Shape) → OnlyTells (row_of S c)) → ChangesNothing c
told-same c h m tags o is = told-map m tags (row_of (shape_of m) c) o (h (shape_of m)) is

pub same-sound : (c : Call) → ChangesNothing c → KeepsSoundness c
same-sound c h m tags o may is = subst IsSound (sym (h m tags o is)) may.sound
