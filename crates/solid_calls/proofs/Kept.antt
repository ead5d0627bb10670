-- What a row that keeps soundness reaches is sound.
use Rattle.std.proofs.Common.{◌≡◌, ◌≤◌, List, length, Ok, Err, sym, subst}
use Rattle.pk_base.specs.declared.tag.Tag.{Tag}
use Rattle.pk_base.specs.declared.call.Call.{Call}
use Rattle.entity_store.specs.Store.{StoreView, Stored}
use Rattle.solid_model.specs.Items.{Shape}
use Rattle.solid_model.specs.Links.{links}
use Rattle.solid_model.specs.Rows.{Row, cost_of}
use Rattle.solid_model.specs.Rows.Effect.{Makes, Changes, Tells}
use Rattle.solid_model.specs.Shapes.{shape_of}
use Rattle.solid_model.specs.Sound.{IsSound}
use Rattle.solid_sound.proofs.rows.RowKeeps.{IsWell, Keeps, sound-links, well-shape}
use Rattle.solid_calls.specs.Pairs.{reached, row_on}

pub reached-well : (S : Shape) (tags : List Tag) (row : Row) → IsWell S → cost_of row ≤ length tags → Keeps tags row → IsWell (reached S tags row)
reached-well S tags (Ok (Makes k reaches)) well enough h = h enough
reached-well S tags (Ok (Changes other)) well enough h = h
reached-well S tags (Ok (Tells reply)) well enough h = well
reached-well S tags (Err e) well enough h = well

-- so is the map of a store that has it
pub done-sound : (old new : StoreView) (c : Call) (tags : List Tag) → IsSound old.state.map → cost_of (row_on old.state.map c) ≤ length tags → Keeps tags (row_on old.state.map c)
    → new.state ≡ record old.state { map = links (reached (shape_of old.state.map) tags (row_on old.state.map c)) } → IsSound new.state.map
done-sound old new c tags sound enough keeps state =
    let R = reached (shape_of old.state.map) tags (row_on old.state.map c) in
    let well = reached-well (shape_of old.state.map) tags (row_on old.state.map c) (well-shape old.state.map sound) enough keeps in
    subst (λ (s : Stored). IsSound s.map) (sym state) (sound-links R well)
