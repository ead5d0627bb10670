-- The row sweep makes its closed form.
use Rattle.std.proofs.Common.{◌≡◌, ℕ, ◌*◌, ◌<◌, ◌≤◌, ⊎_elim, false, not, List, [], ◌∷◌, length, Option, Some, None, Ok, refl, sym, ap, subst, ◌∙◌, arith}
use Rattle.std.specs.Prelude.{pos, int_lt, is_some, IsTrue, Contains}
use Rattle.std.specs.Option.{option_map_or}
use Rattle.std.specs.List.{AllByRecursion, flat_map}
use Rattle.std.proofs.lemmas.Bool.{true≢false}
use Rattle.std.proofs.lemmas.List.{length-map}
use Rattle.pk_base.specs.declared.tag.Tag.{Tag}
use Rattle.pk_base.specs.declared.entity.Triple.{Triple}
use Rattle.pk_base.specs.declared.call.Call.TheVariants.{Sweep}
use Rattle.pk_base.specs.declared.refusal.Refusal.TheVariants.{HasRings, FlatSweep}
use Rattle.pk_plane.specs.Vectors.{dot}
use Rattle.pk_plane.specs.Turns.{moved}
use Rattle.solid_model.specs.Items.{Item, Shape, item_at}
use Rattle.solid_model.specs.Items.Item.{Shell, Face, Loop}
use Rattle.solid_model.specs.Owners.{fins_of, has_rings, owner_in}
use Rattle.solid_model.specs.Rows.{refuse_where}
use Rattle.solid_model.specs.Places.{PlacedFace, face_at, fins_at, start_at, point_at}
use Rattle.solid_model.specs.Ranges.{is_component, is_coordinate, numbers_of, coordinates_of, refuse_outside}
use Rattle.solid_model.specs.Newell.{newell, starts_of}
use Rattle.solid_model.specs.Sound.{is_empty}
use Rattle.solid_model.specs.Sweep.{after_sweep}
use Rattle.list_facts.proofs.Elements.{Contains-map, Contains-flat_map}
use Rattle.list_facts.proofs.Each.{ByRecursion-contains, ByRecursion-at}
use Rattle.solid_sound.proofs.rows.RowKeeps.{IsWell, not_refused}
use Rattle.solid_sound.proofs.rows.KeptMotions.{outside-none}
use Rattle.solid_sound.proofs.rows.KeptRings.{asked_face, face_in}
use Rattle.solid_sound.proofs.rows.Taken.{TakesOnly}
use Rattle.solid_sound.proofs.rows.KeptFolds.{sweep-takes}
use Rattle.solid_sound.proofs.rows.Progress.{start}
use Rattle.solid_forms.specs.Reached.{Reaches, MadeOf}
use Rattle.solid_forms.proofs.Rows.{after-none, bind-known, makes-same, within-none}
use Rattle.solid_forms.proofs.Laminas.{reached-well}
use Rattle.solid_forms.proofs.Newells.{few-flat}
use Rattle.solid_forms.proofs.Raised.{Swept, LeadsWithin}
use Rattle.solid_forms.proofs.Sides.{SweepStands, sweep-stands}
use Rattle.solid_forms.proofs.InOrder.{or_more}

-- the points to which the starts of the fins move are within the limit
along_within : (S : Shape) (l : Tag) (by : Triple) → refuse_outside is_coordinate (flat_map (λ p. coordinates_of (moved by p)) (starts_of S l)) ≡ None → AllByRecursion (LeadsWithin S by) (fins_at S l)
along_within S l by h =
    let all = outside-none is_coordinate (flat_map (λ p. coordinates_of (moved by p)) (starts_of S l)) h in
    ByRecursion-contains (LeadsWithin S by) (fins_at S l) (λ g k.
    let p = point_at S (start_at S g) in
    let among : Contains (starts_of S l) p = Contains-map (λ f. point_at S (start_at S f)) (fins_at S l) g k in
    within-none is_coordinate (coordinates_of (moved by p)) (ByRecursion-contains (λ v. IsTrue (is_coordinate v)) (coordinates_of (moved by p)) (λ v j.
    ByRecursion-at (λ u. IsTrue (is_coordinate u)) (flat_map (λ q. coordinates_of (moved by q)) (starts_of S l)) v all (Contains-flat_map (λ q. coordinates_of (moved by q)) (starts_of S l) p v among j))))

-- a loop whose vector has a positive product has three fins or more
three_fins : (S : Shape) (l : Tag) (by : Triple) → refuse_where (not (int_lt (pos 0) (dot (newell S l) by))) FlatSweep ≡ None → 3 ≤ length (fins_at S l)
three_fins S l by h =
    ⊎_elim
    (λ (few : length (fins_at S l) < 3).
    let long : length (starts_of S l) ≡ length (fins_at S l) = length-map (fins_at S l) (λ f. point_at S (start_at S f)) in
    let flat : dot (newell S l) by ≡ pos 0 = few-flat (starts_of S l) by (omega (arith, few, long)) in
    absurd (true≢false (sym (ap (λ v. not (int_lt (pos 0) v)) flat) ∙ not_refused (not (int_lt (pos 0) (dot (newell S l) by))) FlatSweep h)))
    (λ (more : 3 ≤ length (fins_at S l)). more)
    (or_more (length (fins_at S l)) 3)

none_of : (o : Option Tag) → is_some o ≡ false → o ≡ None
none_of None h = refl
none_of (Some t) h = absurd (true≢false h)

not_empty : (ts : List Tag) → 1 ≤ length ts → is_empty ts ≡ false
not_empty [] h = absurd (omega (arith, h))
not_empty (t ∷ ts) h = refl

pub swept-of : (S : Shape) → IsWell S → (f : Tag) (face : PlacedFace) → face_at S f ≡ Ok face → 1 ≤ length (fins_at S face.outer) → Swept S f face.shell face.body face.outer (fins_at S face.outer)
swept-of S well f face is some =
    let x = asked_face S f (item_at S f) face is in
    let face_is : item_at S f ≡ Some (Face face.shell face.outer) = x.2 ∙ (λ i. Some (Face (x.3 i) (x.5 i))) in
    let F = face_in S well f face.shell face.outer face_is in
    let body : F.body ≡ face.body = sym F.owner_is ∙ ap (owner_in S) (sym x.3) ∙ x.4 in
    let o = well.sound.outer f face.shell face.outer face_is in
    let fins : fins_at S face.outer ≡ o.0 = ap (λ (y : Option Item). option_map_or fins_of y []) o.2 in
    let count = ap length fins in
    let lone : o.1 ≡ None = none_of o.1 (well.sound.lone face.outer f o.0 o.1 o.2 ∙ not_empty o.0 (omega (arith, count, some))) in
    record {
      home = record {
        outer = face.outer;
        q = F.q;
        face_is = face_is;
        shell_is = F.shell_is ∙ ap (λ b. Some (Shell b F.q)) body;
        body_is = ap (item_at S) (sym body) ∙ F.body_is;
      };
      face_is = face_is;
      loop_is = o.2 ∙ (λ i. Some (Loop f (sym fins i) (lone i)));
    }

pub record SweepReached (S R : Shape) (tags : List Tag) (f : Tag) (by : Triple) (face : PlacedFace) (takes : ℕ) : Type 0 where
  pub takes_is : takes ≡ 9 * length (fins_at S face.outer)
  pub few : 3 ≤ length (fins_at S face.outer)
  pub swept : Swept S f face.shell face.body face.outer (fins_at S face.outer)
  pub no_rings : has_rings S f ≡ false
  pub enough : 9 * length (fins_at S face.outer) ≤ length tags
  pub stands : SweepStands S R tags by f face.shell face.body face.outer (fins_at S face.outer)
  pub all : MadeOf S (9 * length (fins_at S face.outer)) tags R

pub sweep-reached : (S R : Shape) (tags : List Tag) (f : Tag) (by : Triple) (face : PlacedFace) → face_at S f ≡ Ok face → (r : Reaches S (Sweep f by) tags R) → SweepReached S R tags f by face r.takes
sweep-reached S R tags f by face is r =
    let well = reached-well S (Sweep f by) tags R r in
    let n = length (fins_at S face.outer) in
    let a = after-none (refuse_where (has_rings S f) (HasRings f)) _ _ (bind-known (face_at S f) _ face _ is r.row_is) in
    let b = after-none (refuse_outside is_component (numbers_of by)) _ _ a.1 in
    let c = after-none (refuse_outside is_coordinate (flat_map (λ p. coordinates_of (moved by p)) (starts_of S face.outer))) _ _ b.1 in
    let d = after-none (refuse_where (not (int_lt (pos 0) (dot (newell S face.outer) by))) FlatSweep) _ _ c.1 in
    let made = makes-same (9 * n) (λ ts. (after_sweep f by (start S ts)).shape) r.takes r.reaches d.1 in
    let takes = made.takes_is in
    let had = r.enough in
    let enough : 9 * n ≤ length tags = omega (arith, takes, had) in
    let R_is : R ≡ (after_sweep f by (start S tags)).shape = r.reached ∙ ap (λ g. g tags) made.reaches_is in
    let three = three_fins S face.outer by d.0 in
    let swept = swept-of S well f face is (omega (arith, three)) in
    let live = subst (TakesOnly S tags) r.row_is (sweep-takes S tags well r.ascend r.free f by) r.enough in
    record {
      takes_is = takes;
      few = three;
      swept = swept;
      no_rings = not_refused (has_rings S f) (HasRings f) a.0;
      enough = enough;
      stands = subst (λ X. SweepStands S X tags by f face.shell face.body face.outer (fins_at S face.outer)) (sym R_is)
          (sweep-stands S tags well r.ascend r.free by f face.shell face.body face.outer (fins_at S face.outer) swept enough (omega (arith, three)) (along_within S face.outer by c.0));
      all = subst (λ k. MadeOf S k tags R) takes (subst (MadeOf S r.takes tags) (sym r.reached) live);
    }
