-- sweep: what its row says where it does not refuse.
use Rattle.std.proofs.Common.{◌≡◌, ℕ, ◌+◌, ◌*◌, ◌≤◌, Bool, true, false, not, List, [], ◌∷◌, ◌++◌, length, take, Option, Some, None, Ok, Err, refl, sym, ap, subst, ◌∙◌, arith}
use Rattle.std.specs.Prelude.{ℤ, pos, int_lt, map, find, ◌+ℤ◌, ◌-ℤ◌, ◌*ℤ◌, Contains, IsOk, IsTrue}
use Rattle.std.specs.Option.{option_map_or}
use Rattle.std.specs.List.{AllByRecursion, flat_map, fold}
use Rattle.std.proofs.Math.IntN.{*ℤ_comm}
use Rattle.std.proofs.lemmas.Int.{ints}
use Rattle.std.proofs.lemmas.Bool.{not-false, true≢false}
use Rattle.pk_base.specs.Blocks.{tag}
use Rattle.pk_base.specs.declared.tag.Tag.{Tag}
use Rattle.pk_base.specs.declared.call.Call.TheVariants.{Sweep}
use Rattle.pk_base.specs.declared.entity.Point.{Point}
use Rattle.pk_base.specs.declared.entity.Triple.{Triple}
use Rattle.pk_base.specs.declared.refusal.Refusal.TheVariants.{HasRings, FlatSweep}
use Rattle.pk_plane.specs.Vectors.{cross, dot, plus, no_vector}
use Rattle.pk_plane.specs.Turns.{moved}
use Rattle.list_facts.proofs.Elements.{Contains-flat_map}
use Rattle.list_facts.proofs.Each.{ByRecursion-at, ByRecursion-contains}
use Rattle.solid_model.specs.Items.{Item, Shape, item_at}
use Rattle.solid_model.specs.Owners.{has_rings}
use Rattle.solid_model.specs.Rings.{neighbours}
use Rattle.solid_model.specs.Rows.{Row, cost_of, refuse_where, ◌>>◌}
use Rattle.solid_model.specs.Rows.Effect.{Makes, Changes, Tells}
use Rattle.solid_calls.proofs.RowKinds.{IsPlain}
use Rattle.solid_model.specs.Places.{PlacedFace, face_at, fins_at, outer_at, outer_of, start_at, point_at}
use Rattle.solid_model.specs.Ranges.{is_component, is_coordinate, numbers_of, coordinates_of, refuse_outside}
use Rattle.solid_model.specs.Newell.{newell, starts_of}
use Rattle.solid_model.specs.Room.{changed_by_sweep, if_found, tags_put}
use Rattle.solid_model.specs.Sweep.{after_sweep, sweep}
use Rattle.solid_places.specs.Points.{AreComponents, AreCoordinates}
use Rattle.solid_edits.proofs.Going.{goes-on, goes-past}
use Rattle.solid_sound.proofs.rows.KeptMotions.{outside-none}
use Rattle.solid_sound.proofs.rows.KeptRings.{asked_face}
use Rattle.solid_sound.proofs.rows.RowKeeps.{not_refused}
use Rattle.euler_make.specs.Raising.{cost_of_raise, outer_fins, raised, tags_raised}

-- ---- a loop of fewer than two fins has no Newell vector

zero-mul : (x : ℤ) → pos 0 *ℤ x ≡ pos 0
zero-mul x = omega (arith, ints)

self-less : (v : ℤ) → pos 0 +ℤ (v -ℤ v) ≡ pos 0
self-less v = omega (arith, ints)

same-product : (a b : ℤ) → pos 0 +ℤ ((a *ℤ b) -ℤ (b *ℤ a)) ≡ pos 0
same-product a b = ap (λ v. pos 0 +ℤ ((a *ℤ b) -ℤ v)) (*ℤ_comm b a) ∙ self-less (a *ℤ b)

flat : (v by : Triple) → v.x ≡ pos 0 → v.y ≡ pos 0 → v.z ≡ pos 0 → int_lt (pos 0) (dot v by) ≡ false
flat v by a b c =
    let x : v.x *ℤ by.x ≡ pos 0 = ap (λ n. n *ℤ by.x) a ∙ zero-mul by.x in
    let y : v.y *ℤ by.y ≡ pos 0 = ap (λ n. n *ℤ by.y) b ∙ zero-mul by.y in
    let z : v.z *ℤ by.z ≡ pos 0 = ap (λ n. n *ℤ by.z) c ∙ zero-mul by.z in
    λ i. int_lt (pos 0) ((x i +ℤ y i) +ℤ z i)

pub two-fins : (S : Shape) (by : Triple) (fs : List Tag) → int_lt (pos 0) (dot (fold plus no_vector (map (λ x. cross x.0 x.1) (neighbours (map (λ f. point_at S (start_at S f)) fs)))) by) ≡ true → 2 ≤ length fs
two-fins S by [] h = absurd (true≢false (sym h ∙ flat no_vector by refl refl refl))
two-fins S by (f ∷ []) h =
    let p = point_at S (start_at S f) in
    absurd (true≢false (sym h ∙ flat (plus no_vector (cross p p)) by (same-product p.y p.z) (same-product p.z p.x) (same-product p.x p.y)))
two-fins S by (f ∷ g ∷ fs) h = omega arith

-- ---- the row

pub record SweepGoes (S : Shape) (f : Tag) (by : Triple) : Type 0 where
  pub face : PlacedFace
  pub found : face_at S f ≡ Ok face
  pub outer : outer_at S f ≡ face.outer
  pub vector : AreComponents by
  pub within : AllByRecursion (λ p. AreCoordinates (moved by p)) (starts_of S (outer_at S f))
  pub two : 2 ≤ length (outer_fins S f)
  pub row_is : sweep S f by ≡ Ok (Makes (9 * length (fins_at S face.outer)) (λ tags. (after_sweep f by (record { shape = S; tags = tags })).shape))

pub sweep-goes : (S : Shape) (f : Tag) (by : Triple) → IsOk (sweep S f by) → SweepGoes S f by
sweep-goes S f by goes =
    let a = goes-on (face_at S f) _ goes in
    let b = goes-past (refuse_where (has_rings S f) (HasRings f)) _ a.goes in
    let c = goes-past (refuse_outside is_component (numbers_of by)) _ b.goes in
    let d = goes-past (refuse_outside is_coordinate (flat_map (λ p. coordinates_of (moved by p)) (starts_of S a.found.outer))) _ c.goes in
    let e = goes-past (refuse_where (not (int_lt (pos 0) (dot (newell S a.found.outer) by))) FlatSweep) _ d.goes in
    let x = asked_face S f (item_at S f) a.found a.is in
    let outer : outer_at S f ≡ a.found.outer = ap (λ (o : Option Item). option_map_or outer_of o (tag 0)) x.2 ∙ x.5 in
    let all = outside-none is_coordinate (flat_map (λ p. coordinates_of (moved by p)) (starts_of S a.found.outer)) d.is in
    let within : AllByRecursion (λ p. AreCoordinates (moved by p)) (starts_of S a.found.outer) =
    ByRecursion-contains (λ p. AreCoordinates (moved by p)) (starts_of S a.found.outer) (λ p k. ByRecursion-contains (λ v. IsTrue (is_coordinate v)) (coordinates_of (moved by p)) (λ v j.
    ByRecursion-at (λ v. IsTrue (is_coordinate v)) (flat_map (λ p. coordinates_of (moved by p)) (starts_of S a.found.outer)) v all
    (Contains-flat_map (λ p. coordinates_of (moved by p)) (starts_of S a.found.outer) p v k j))) in
    let out = not-false (int_lt (pos 0) (dot (newell S a.found.outer) by)) (not_refused (not (int_lt (pos 0) (dot (newell S a.found.outer) by))) FlatSweep e.is) in
    record {
      face = a.found;
      found = a.is;
      outer = outer;
      vector = outside-none is_component (numbers_of by) c.is;
      within = subst (λ l. AllByRecursion (λ p. AreCoordinates (moved by p)) (starts_of S l)) (sym outer) within;
      two = subst (λ l. 2 ≤ length (fins_at S l)) (sym outer) (two-fins S by (fins_at S a.found.outer) out);
      row_is = a.same ∙ b.same ∙ c.same ∙ d.same ∙ e.same;
    }

pub sweep-cost : (S : Shape) (f : Tag) (by : Triple) → SweepGoes S f by → cost_of (sweep S f by) ≡ cost_of_raise S f
sweep-cost S f by g = ap cost_of g.row_is ∙ ap (λ l. 9 * length (fins_at S l)) (sym g.outer)

pub sweep-puts : (S : Shape) (f : Tag) (by : Triple) (tags : List Tag) → SweepGoes S f by → tags_put S (Sweep f by) tags ≡ tags_raised S f tags
sweep-puts S f by tags g =
    let changed : if_found (changed_by_sweep S) (face_at S f) ≡ outer_at S f ∷ outer_fins S f = ap (if_found (changed_by_sweep S)) g.found ∙ ap (λ l. l ∷ fins_at S l) (sym g.outer) in
    λ i. take (sweep-cost S f by g i) tags ++ changed i

-- what it makes takes a tag
plain_where : (row : Row) → (IsOk row → IsPlain row) → IsPlain row
plain_where (Ok (Makes n reaches)) h = h refl
plain_where (Ok (Changes reached)) h = tt
plain_where (Ok (Tells reply)) h = h refl
plain_where (Err e) h = tt

pub sweep-plain : (S : Shape) (f : Tag) (by : Triple) → IsPlain (sweep S f by)
sweep-plain S f by = plain_where (sweep S f by) (λ goes.
    let g = sweep-goes S f by goes in
    let two : 2 ≤ length (fins_at S g.face.outer) = subst (λ l. 2 ≤ length (fins_at S l)) g.outer g.two in
    let some : 1 ≤ 9 * length (fins_at S g.face.outer) = omega (arith, two) in
    subst (λ (r : Row). IsPlain r) (sym g.row_is) some)
