-- Rows that do not refuse, and the map of what they reach.
use Rattle.std.proofs.Common.{◌≡◌, Bool, true, false, Option, None, Some, Result, Ok, Err, refl, ap, ◌∙◌, sym, subst, List, length, ◌≤◌}
use Rattle.std.specs.Prelude.{IsOk}
use Rattle.pk_base.specs.declared.tag.Tag.{Tag}
use Rattle.pk_base.specs.declared.refusal.Refusal.{Refusal}
use Rattle.pk_base.specs.declared.call.Call.{Call}
use Rattle.pk_model.specs.Step.{◌>>=◌}
use Rattle.entity_store.specs.Store.{StoreView}
use Rattle.entity_store.specs.Room.{PutsAmong}
use Rattle.solid_calls.proofs.Kept.{done-sound}
use Rattle.solid_sound.proofs.rows.RowKeeps.{Keeps}
use Rattle.solid_model.specs.Rows.{cost_of, Row, refuse_where, ◌>>◌}
use Rattle.solid_model.specs.Sound.{IsSound}
use Rattle.solid_model.specs.Links.{links}
use Rattle.solid_model.specs.Shapes.{shape_of}
use Rattle.solid_model.specs.Room.{tags_put}
use Rattle.solid_calls.specs.Pairs.{HasDone, row_on, reached}

-- a row that goes on after an operand was found
pub record GoesOn {A : Type 0} (r : Result A Refusal) (row : A → Row) : Type 0 where
  pub found : A
  pub is : r ≡ Ok found
  pub goes : IsOk (row found)
  pub same : (r >>= row) ≡ row found

pub goes-on : {A : Type 0} (r : Result A Refusal) (row : A → Row) → IsOk (r >>= row) → GoesOn r row
goes-on (Ok a) row h = record { found = a; is = refl; goes = h; same = refl }
goes-on (Err e) row h = absurd (cc)

-- a row that goes on after a test
pub record GoesPast (o : Option Refusal) (row : Row) : Type 0 where
  pub is : o ≡ None
  pub goes : IsOk row
  pub same : (o >> row) ≡ row

pub goes-past : (o : Option Refusal) (row : Row) → IsOk (o >> row) → GoesPast o row
goes-past None row h = record { is = refl; goes = h; same = refl }
goes-past (Some e) row h = absurd (cc)

-- a row that goes on after two tests
pub not_refused_twice : (a b : Bool) (d e : Refusal) (row : Row) → IsOk (refuse_where a d >> (refuse_where b e >> row)) → (a ≡ false) × (b ≡ false) × (refuse_where a d >> (refuse_where b e >> row) ≡ row)
not_refused_twice true b d e row h = absurd (cc)
not_refused_twice false true d e row h = absurd (cc)
not_refused_twice false false d e row h = (refl, refl, refl)

-- the map is that of the shape that the row reaches, and so is sound
pub done : (old new : StoreView) (c : Call) (tags : List Tag) (row : Row) → row_on old.state.map c ≡ row → IsSound old.state.map → cost_of row ≤ length tags → Keeps tags (row_on old.state.map c)
    → new.state ≡ record old.state { map = links (reached (shape_of old.state.map) tags row) }
    → PutsAmong (tags_put (shape_of old.state.map) c tags) old new → HasDone old c tags new
done old new c tags row same sound enough keeps state puts =
    let reaches = state ∙ ap (λ (r : Row). record old.state { map = links (reached (shape_of old.state.map) tags r) }) (sym same) in
    record {
      state = reaches;
      sound = done-sound old new c tags sound (subst (λ r. cost_of r ≤ length tags) (sym same) enough) keeps reaches;
      puts = puts;
    }
