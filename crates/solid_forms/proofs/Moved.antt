-- A motion of a body changes the points of its vertices alone.
use Rattle.std.proofs.Common.{◌≡◌, ◌≢◌, ⊎_elim, true, false, cond, Option, Some, None, Ok, refl, ap, subst, ◌∙◌}
use Rattle.std.specs.Prelude.{ℤ, nat_abs, option_map}
use Rattle.std.proofs.lemmas.Bool.{cases_Bool}
use Rattle.pk_base.specs.Entity.{same_tag}
use Rattle.pk_base.specs.declared.tag.Tag.{Tag}
use Rattle.pk_base.specs.declared.entity.Axis.{Axis}
use Rattle.pk_base.specs.declared.entity.Point.{Point}
use Rattle.pk_base.specs.declared.entity.Triple.{Triple}
use Rattle.pk_plane.specs.Turns.{moved, quarters}
use Rattle.solid_model.specs.Items.{Item, Shape, item_at}
use Rattle.solid_model.specs.Items.Item.{Body, Shell, Face, Loop, Fin, Edge, Vertex, Attr}
use Rattle.solid_model.specs.Rows.Effect.{Changes}
use Rattle.solid_model.specs.Places.{body_at}
use Rattle.solid_model.specs.Motions.{with_point, with_points, move, turn}
use Rattle.solid_model.proofs.Reading.{find-map}
use Rattle.pk_base.proofs.Same.{same_itself, same_means}
use Rattle.solid_forms.specs.Motion.{ChangesPoints}
use Rattle.solid_forms.proofs.Rows.{after-none, bind-ok, changes-same}

as_it_was : (motion : Point → Point) (b : Tag) (x : Item) → ((p : Point) → x ≢ Vertex b p) → with_point motion b x ≡ x
as_it_was motion b (Body shell) h = refl
as_it_was motion b (Shell body q) h = refl
as_it_was motion b (Face shell outer) h = refl
as_it_was motion b (Loop face fins vertex) h = refl
as_it_was motion b (Fin mate edge vertex) h = refl
as_it_was motion b (Edge body) h = refl
as_it_was motion b (Vertex body point) h = ⊎_elim
    (λ (l : same_tag body b ≡ true). absurd (h point (ap (λ t. Vertex t point) (same_means body b l))))
    (λ (r : same_tag body b ≡ false). ap (λ c. Vertex body (cond c (motion point) point)) r)
    (cases_Bool (same_tag body b))
as_it_was motion b (Attr owner name value) h = refl

found : (motion : Point → Point) (S : Shape) (b t : Tag) → item_at (with_points motion S b) t ≡ option_map (with_point motion b) (item_at S t)
found motion S b t = find-map (λ (u : Tag) (x : Item). with_point motion b x) t S

others_at : (motion : Point → Point) (b : Tag) (o : Option Item) → ((p : Point) → o ≢ Some (Vertex b p)) → option_map (with_point motion b) o ≡ o
others_at motion b None h = refl
others_at motion b (Some x) h = ap Some (as_it_was motion b x (λ p e. h p (ap Some e)))

pub points-change : (motion : Point → Point) (S : Shape) (b : Tag) → ChangesPoints motion b S (with_points motion S b)
points-change motion S b = record {
  points = λ v p is. found motion S b v ∙ ap (option_map (with_point motion b)) is ∙ ap (λ c. Some (Vertex b (cond c (motion p) p))) (same_itself b);
  others = λ t other. found motion S b t ∙ others_at motion b (item_at S t) other;
}

pub move-changes : (S R : Shape) (b : Tag) (by : Triple) → move S b by ≡ Ok (Changes R) → ChangesPoints (moved by) b S R
move-changes S R b by h =
    let shell = bind-ok (body_at S b) _ _ h in
    let one = after-none _ _ _ shell.2 in
    let two = after-none _ _ _ one.1 in
    subst (ChangesPoints (moved by) b S) (changes-same (with_points (moved by) S b) R two.1) (points-change (moved by) S b)

pub turn-changes : (S R : Shape) (b : Tag) (axis : Axis) (k : ℤ) → turn S b axis k ≡ Ok (Changes R) → ChangesPoints (quarters (nat_abs k) axis) b S R
turn-changes S R b axis k h =
    let shell = bind-ok (body_at S b) _ _ h in
    let one = after-none _ _ _ shell.2 in
    let motion = quarters (nat_abs k) axis in
    subst (ChangesPoints motion b S) (changes-same (with_points motion S b) R one.1) (points-change motion S b)
