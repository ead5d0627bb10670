use Rattle.std.proofs.Common.{◌∙◌, refl, sym, ap, subst}
use Rattle.std.specs.Prelude.{IsOk}
use Rattle.pk_base.specs.declared.call.Call.TheVariants.{Delete}
use Rattle.solid_edits.proofs.TagsPut.{puts-changed}
use Rattle.solid_model.specs.Euler.{list_of}
use Rattle.solid_model.specs.Items.{item_at}
use Rattle.solid_model.specs.Owners.{all_in_body}
use Rattle.solid_model.specs.Rows.{cost_of}
use Rattle.solid_model.specs.Shapes.{shape_of}
use Rattle.euler_kill.proofs.DeleteReached.{all-counted, body-live, delete-changes, delete-row}
use Rattle.euler_kill.proofs.KvfsFound.{asked-body}
use Rattle.euler_kill.proofs.delete.delete_need.Goals as goal

pub count_below-changes-requires-clause-live : goal.count_below-changes-requires-clause-live
count_below-changes-requires-clause-live g c = body-live c.args.store.now.state.map c.requires c.args.body c.in_ok-body_at.field-0 (sym c.body_at.ensures ∙ c.in_ok-body_at.was)

pub returns : goal.returns
returns g c =
    let m = c.args.store.now.state.map in
    let S = shape_of m in
    let b = c.args.body in
    let found = sym c.body_at.ensures ∙ c.in_ok-body_at.was in
    let row = delete-row S b c.in_ok-body_at.field-0 found in
    let all = all-counted m c.requires b c.in_ok-body_at.field-0 c.count_below-changes.result (asked-body b c.in_ok-body_at.field-0 (item_at S b) found) c.count_below-changes.ensures in
    record {
      goes = subst IsOk (sym row) refl;
      tags = sym (ap cost_of row);
      changes = all ∙ sym (puts-changed S (Delete b) (all_in_body S b) (delete-changes S b) refl);
      list = sym (ap list_of row);
    }
