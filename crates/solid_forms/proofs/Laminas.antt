-- The row lamina makes its closed form.
use Rattle.std.proofs.Common.{◌≡◌, ℕ, ◌+◌, ◌*◌, ◌≤◌, List, [], ◌∷◌, length, sym, ap, subst, ◌∙◌, arith}
use Rattle.std.specs.Prelude.{ℤ}
use Rattle.pk_base.specs.declared.tag.Tag.{Tag}
use Rattle.pk_base.specs.declared.entity.Pair.{Pair}
use Rattle.pk_base.specs.declared.call.Call.{Call}
use Rattle.pk_base.specs.declared.call.Call.TheVariants.{Lamina}
use Rattle.solid_model.specs.Items.{Shape}
use Rattle.solid_model.specs.Ranges.{is_coordinate, refuse_outside}
use Rattle.solid_model.specs.Lamina.{after_lamina, refuse_count, refuse_corners, refuse_polygon}
use Rattle.solid_sound.proofs.rows.RowKeeps.{IsWell}
use Rattle.solid_sound.proofs.rows.Taken.{TakesOnly}
use Rattle.solid_sound.proofs.rows.KeptFolds.{lamina-takes}
use Rattle.solid_sound.proofs.rows.Progress.{start}
use Rattle.solid_forms.specs.Reached.{Reaches, MadeOf}
use Rattle.solid_forms.proofs.Rows.{after-none, makes-same, corners_within, three_corners}
use Rattle.solid_forms.proofs.Paths.{LaminaStands, lamina-made}

pub reached-well : (S : Shape) (c : Call) (tags : List Tag) (R : Shape) → Reaches S c tags R → IsWell S
reached-well S c tags R r = record { written = r.written; sound = r.sound }

pub record LaminaReached (S : Shape) (tags : List Tag) (z : ℤ) (corners : List Pair) (R : Shape) (takes : ℕ) : Type 0 where
  pub takes_is : takes ≡ 4 * length corners + 6
  pub few : 3 ≤ length corners
  pub stands : LaminaStands S tags z corners (length corners) R
  pub enough : 4 * length corners + 6 ≤ length tags
  pub all : MadeOf S (4 * length corners + 6) tags R

pub lamina-reached : (S R : Shape) (tags : List Tag) (z : ℤ) (corners : List Pair) → (r : Reaches S (Lamina z corners) tags R) → LaminaReached S tags z corners R r.takes
lamina-reached S R tags z corners r =
    let well = reached-well S (Lamina z corners) tags R r in
    let a = after-none (refuse_count corners) _ _ r.row_is in
    let b = after-none (refuse_outside is_coordinate (z ∷ [])) _ _ a.1 in
    let c = after-none (refuse_corners corners) _ _ b.1 in
    let d = after-none (refuse_polygon corners) _ _ c.1 in
    let made = makes-same (4 * length corners + 6) (λ ts. (after_lamina z corners (start S ts)).shape) r.takes r.reaches d.1 in
    let takes = made.takes_is in
    let had = r.enough in
    let enough : 4 * length corners + 6 ≤ length tags = omega (arith, takes, had) in
    let is : R ≡ (after_lamina z corners (start S tags)).shape = r.reached ∙ ap (λ g. g tags) made.reaches_is in
    let three = three_corners corners a.0 in
    let live = subst (TakesOnly S tags) r.row_is (lamina-takes S tags well r.ascend r.free z corners) r.enough in
    record {
      takes_is = takes;
      few = three;
      enough = enough;
      stands = subst (LaminaStands S tags z corners (length corners)) (sym is) (lamina-made S tags well r.ascend r.free z corners (omega (arith, three)) enough (corners_within z corners b.0 c.0)).stands;
      all = subst (λ k. MadeOf S k tags R) takes (subst (MadeOf S r.takes tags) (sym r.reached) live);
    }
