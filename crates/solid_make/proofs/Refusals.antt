-- The rows of a lamina, a prism and a block that are not refused, and what their refusals say of the numbers.
use Rattle.std.proofs.Common.{◌≡◌, ℕ, ◌+◌, ◌*◌, ◌≤◌, Bool, true, false, not, ◌||◌, cond, List, [], ◌∷◌, length, Option, Some, None, Ok, refl, sym, ap, subst, ◌∙◌, arith}
use Rattle.std.specs.Prelude.{ℤ, pos, negsuc, int_le, ◌+ℤ◌, find, nat_lt, option_map, IsTrue, IsOk, Contains}
use Rattle.std.specs.List.{AllByRecursion, flat_map}
use Rattle.std.proofs.lemmas.Bool.{and_parts, ltb-false}
use Rattle.std.proofs.lemmas.Float.{T_from_true}
use Rattle.std.proofs.lemmas.List.Elements.{All-from_recursion}
use Rattle.std.specs.Int.Signed.{le_z_yes}
use Rattle.pk_base.specs.declared.tag.Tag.{Tag}
use Rattle.pk_base.specs.declared.entity.Pair.{Pair}
use Rattle.pk_base.specs.declared.entity.Triple.{Triple}
use Rattle.pk_base.specs.declared.call.Call.{Call}
use Rattle.pk_base.specs.declared.refusal.Refusal.{Refusal}
use Rattle.pk_base.specs.declared.refusal.Refusal.TheVariants.{OutOfRange}
use Rattle.pk_plane.specs.Sizes.{AreCorners, IsPairWithin, IsWithin, reach}
use Rattle.pk_model.specs.Maps.{EntityMap}
use Rattle.entity_store.specs.declared.modeller.Need.{Need}
use Rattle.solid_model.specs.Items.{Shape}
use Rattle.solid_model.specs.Rows.{Row, cost_of, refuse_where, ◌>>◌}
use Rattle.solid_model.specs.Rows.Effect.{Makes}
use Rattle.solid_model.specs.Ranges.{is_coordinate, numbers_of, refuse_outside}
use Rattle.solid_model.specs.Room.{tags_changed}
use Rattle.solid_model.specs.Euler.{list_of}
use Rattle.solid_model.specs.Shapes.{shape_of}
use Rattle.solid_model.specs.Lamina.{after_lamina, at_height, lamina, refuse_corners, refuse_count, refuse_polygon}
use Rattle.solid_model.specs.Prism.{rectangle}
use Rattle.list_facts.proofs.Each.{ByRecursion-at, ByRecursion-contains}
use Rattle.list_facts.proofs.Elements.{Contains-first, Contains-flat_map, Contains-later}
use Rattle.solid_sound.proofs.rows.KeptMotions.{outside-none}
use Rattle.solid_calls.specs.Pairs.{IsNeedOf, row_on}
use Rattle.solid_edits.proofs.Going.{goes-past}
use Rattle.solid_make.specs.Making.{AreInReach}

-- ---- numbers, one after another

first_by : (b : Bool) (v : ℤ) (o : Option ℤ) (e : Refusal) → option_map OutOfRange (cond b (Some v) None) ≡ Some e → option_map OutOfRange (cond b (Some v) o) ≡ Some e
first_by true v o e h = h
first_by false v o e h = absurd (cc)

passed_by : (b : Bool) (v : ℤ) (o : Option ℤ) → option_map OutOfRange (cond b (Some v) None) ≡ None → option_map OutOfRange (cond b (Some v) o) ≡ option_map OutOfRange o
passed_by true v o h = absurd (cc)
passed_by false v o h = refl

pub refused-first : (test : ℤ → Bool) (v : ℤ) (vs : List ℤ) (e : Refusal) → refuse_outside test (v ∷ []) ≡ Some e → refuse_outside test (v ∷ vs) ≡ Some e
refused-first test v vs e h = first_by (not (test v)) v (find (λ w. not (test w)) vs) e h

pub passed-first : (test : ℤ → Bool) (v : ℤ) (vs : List ℤ) → refuse_outside test (v ∷ []) ≡ None → refuse_outside test (v ∷ vs) ≡ refuse_outside test vs
passed-first test v vs h = passed_by (not (test v)) v (find (λ w. not (test w)) vs) h

all_pass : (test : ℤ → Bool) (vs : List ℤ) → AllByRecursion (λ v. IsTrue (test v)) vs → find (λ v. not (test v)) vs ≡ None
all_pass test [] h = refl
all_pass test (v ∷ vs) h = ap (λ b. cond b (Some v) (find (λ w. not (test w)) vs)) (ap not h.0) ∙ all_pass test vs h.1

pub within-none : (test : ℤ → Bool) (vs : List ℤ) → AllByRecursion (λ v. IsTrue (test v)) vs → refuse_outside test vs ≡ None
within-none test vs h = ap (option_map OutOfRange) (all_pass test vs h)

-- ---- points of corners

pub corners-within : (corners : List Pair) → refuse_corners corners ≡ None → (c : Pair) → Contains corners c → IsTrue (is_coordinate c.x) × IsTrue (is_coordinate c.y)
corners-within corners none c k =
    let all = outside-none is_coordinate (flat_map (λ (d : Pair). d.x ∷ d.y ∷ []) corners) none in
    let at = λ (v : ℤ) (h : Contains (c.x ∷ c.y ∷ []) v). ByRecursion-at (λ w. IsTrue (is_coordinate w)) (flat_map (λ (d : Pair). d.x ∷ d.y ∷ []) corners) v all (Contains-flat_map (λ (d : Pair). d.x ∷ d.y ∷ []) corners c v k h) in
    (at c.x (Contains-first c.x (c.y ∷ [])), at c.y (Contains-later c.x (c.y ∷ []) c.y (Contains-first c.y [])))

pub corners-reach : (z : ℤ) (corners : List Pair) → refuse_outside is_coordinate (z ∷ []) ≡ None → refuse_corners corners ≡ None → AreInReach z corners
corners-reach z corners a b =
    let height = (outside-none is_coordinate (z ∷ []) a).0 in
    ByRecursion-contains (λ c. refuse_outside is_coordinate (numbers_of (at_height z c)) ≡ None) corners (λ c k.
    let at = corners-within corners b c k in
    within-none is_coordinate (numbers_of (at_height z c)) (at.0, (at.1, (height, tt))))

pub rectangle-reach : (at size : Triple) → refuse_outside is_coordinate (numbers_of at) ≡ None → refuse_outside is_coordinate ((at.x +ℤ size.x) ∷ (at.y +ℤ size.y) ∷ (at.z +ℤ size.z) ∷ []) ≡ None
    → AreInReach at.z (rectangle at.x at.y size.x size.y)
rectangle-reach at size a b =
    let near = outside-none is_coordinate (numbers_of at) a in
    let far = outside-none is_coordinate ((at.x +ℤ size.x) ∷ (at.y +ℤ size.y) ∷ (at.z +ℤ size.z) ∷ []) b in
    let point = λ (x y : ℤ) (h : IsTrue (is_coordinate x)) (k : IsTrue (is_coordinate y)). within-none is_coordinate (x ∷ y ∷ at.z ∷ []) (h, (k, (near.1.1.0, tt))) in
    (point at.x at.y near.0 near.1.0, (point (at.x +ℤ size.x) at.y far.0 near.1.0, (point (at.x +ℤ size.x) (at.y +ℤ size.y) far.0 far.1.0, (point at.x (at.y +ℤ size.y) near.0 far.1.0, tt))))

-- ---- how many corners

count_by : (a b : Bool) (e : Refusal) → refuse_where (a || b) e ≡ None → (a ≡ false) × (b ≡ false)
count_by true b e h = absurd (cc)
count_by false true e h = absurd (cc)
count_by false false e h = (refl, refl)

pub count-within : (corners : List Pair) → refuse_count corners ≡ None → (3 ≤ length corners) × (length corners ≤ 256)
count-within corners h =
    let x = count_by (nat_lt (length corners) 3) (nat_lt 256 (length corners)) _ h in
    (ltb-false (length corners) 3 x.0, ltb-false 256 (length corners) x.1)

-- a coordinate is within the reach of polygons
coordinate_within : (v : ℤ) → IsTrue (is_coordinate v) → IsWithin reach v
coordinate_within v h =
    let both = and_parts (int_le (negsuc 1048575) v) (int_le v (pos 1048576)) h in
    record { low = le_z_yes (T_from_true _ both.0); high = le_z_yes (T_from_true _ both.1) }

pub are-corners : (corners : List Pair) → refuse_count corners ≡ None → refuse_corners corners ≡ None → AreCorners corners
are-corners corners a b =
    let count = count-within corners a in
    record {
      least = count.0;
      most = count.1;
      placed = All-from_recursion (IsPairWithin reach) corners (ByRecursion-contains (IsPairWithin reach) corners (λ c k. let w = corners-within corners b c k in record { x = coordinate_within c.x w.0; y = coordinate_within c.y w.1 }));
    }

-- ---- the rows

abbrev pub makes_lamina : Shape → ℤ → List Pair → Row
makes_lamina S z corners = Ok (Makes (4 * length corners + 6) (λ tags. (after_lamina z corners (record { shape = S; tags = tags })).shape))

pub lamina-is : (S : Shape) (z : ℤ) (corners : List Pair) → refuse_count corners ≡ None → refuse_outside is_coordinate (z ∷ []) ≡ None → refuse_corners corners ≡ None → refuse_polygon corners ≡ None
    → lamina S z corners ≡ makes_lamina S z corners
lamina-is S z corners a b c d = λ i. a i >> (b i >> (c i >> (d i >> makes_lamina S z corners)))

pub record LaminaGoes (S : Shape) (z : ℤ) (corners : List Pair) : Type 0 where
  pub is : lamina S z corners ≡ makes_lamina S z corners
  pub three : 3 ≤ length corners
  pub reach : AreInReach z corners

pub lamina-goes : (S : Shape) (z : ℤ) (corners : List Pair) → IsOk (lamina S z corners) → LaminaGoes S z corners
lamina-goes S z corners goes =
    let a = goes-past (refuse_count corners) _ goes in
    let b = goes-past (refuse_outside is_coordinate (z ∷ [])) _ a.goes in
    let c = goes-past (refuse_corners corners) _ b.goes in
    let d = goes-past (refuse_polygon corners) _ c.goes in
    record {
      is = lamina-is S z corners a.is b.is c.is d.is;
      three = (count-within corners a.is).0;
      reach = corners-reach z corners b.is c.is;
    }

-- ---- what a call needs that makes so many

pub need-made : (m : EntityMap) (c : Call) (k : ℕ) (made : List Tag → Shape) (n : Need) → row_on m c ≡ Ok (Makes k made) → tags_changed (shape_of m) c ≡ [] → n.tags ≡ k → n.changes ≡ k → n.list ≡ k → IsNeedOf m c n
need-made m c k made n is nothing tags changes list =
    let cost : cost_of (row_on m c) ≡ k = ap cost_of is in
    let none : length (tags_changed (shape_of m) c) ≡ 0 = ap length nothing in
    record {
      goes = subst (λ (r : Row). IsOk r) (sym is) refl;
      tags = tags ∙ sym cost;
      changes = omega (arith, changes, cost, none);
      list = list ∙ sym (ap list_of is);
    }
