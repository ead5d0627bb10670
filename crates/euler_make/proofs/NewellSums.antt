-- The Newell vector of a loop, summed as its fins are walked.
use Rattle.std.proofs.Common.{◌≡◌, ℕ, zero, suc, ◌+◌, ◌*◌, ◌^◌, ◌<◌, ◌≤◌, List, [], ◌∷◌, length, drop, get_or, refl, sym, ap, subst, ◌∙◌, lit≤, arith}
use Rattle.std.specs.Int.Signed.{le_z_yes}
use Rattle.std.proofs.lemmas.Bool.{and_parts}
use Rattle.std.proofs.lemmas.Float.{T_from_true}
use Rattle.std.specs.Prelude.{ℤ, pos, negsuc, int_le, map, IsTrue, ◌*ℤ◌, ◌-ℤ◌, ◌+ℤ◌}
use Rattle.std.specs.List.{AllByRecursion, fold}
use Rattle.std.proofs.Math.Seq.{drop-length}
use Rattle.std.proofs.lemmas.List.{drop_more}
use Rattle.pk_base.specs.Blocks.{tag}
use Rattle.pk_base.specs.declared.tag.Tag.{Tag}
use Rattle.pk_base.specs.declared.entity.Point.{Point}
use Rattle.pk_base.specs.declared.entity.Triple.{Triple}
use Rattle.pk_plane.specs.Sizes.{IsWithin, IsTripleWithin, reach}
use Rattle.pk_plane.specs.Vectors.{cross, no_vector, plus}
use Rattle.pk_plane.proofs.Within.{within-add, within-more, within-mul, within-sub}
use Rattle.solid_model.specs.Items.{Shape}
use Rattle.solid_model.specs.Places.{start_at, point_at}
use Rattle.solid_model.specs.Rings.{neighbours, neighbours_from}
use Rattle.solid_model.proofs.lists.Neighbours.{head_or}
use Rattle.solid_model.specs.Ranges.{is_component, is_coordinate}
use Rattle.solid_places.specs.Points.{AreCoordinates}
use Rattle.euler_make.proofs.LoopWalk.{next_place}

abbrev pub point_of_fin : Shape → Tag → Point
point_of_fin S f = point_at S (start_at S f)

-- the pairs from these fins on, each start with the next one, the last one with the first
abbrev pub pairs_left : Shape → Point → List Tag → List (Point × Point)
pairs_left S first [] = []
pairs_left S first (f ∷ fs) = neighbours_from first (point_of_fin S f) (map (point_of_fin S) fs)

-- the sum, with the products from this place on added
abbrev pub sum_from : Shape → List Tag → ℕ → Triple → Triple
sum_from S fins i v = fold plus v (map (λ x. cross x.0 x.1) (pairs_left S (point_of_fin S (get_or fins 0 (tag 0))) (drop i fins)))

pub sum-start : (S : Shape) (fins : List Tag) → sum_from S fins 0 no_vector ≡ fold plus no_vector (map (λ x. cross x.0 x.1) (neighbours (map (point_of_fin S) fins)))
sum-start S [] = refl
sum-start S (f ∷ fs) = refl

pub sum-end : (S : Shape) (fins : List Tag) (i : ℕ) (v : Triple) → i ≡ length fins → sum_from S fins i v ≡ v
sum-end S fins i v is = ap (λ us. fold plus v (map (λ x. cross x.0 x.1) (pairs_left S (point_of_fin S (get_or fins 0 (tag 0))) us))) (ap (λ n. drop n fins) is ∙ drop-length fins)

one_more : (S : Shape) (first f : Tag) (rest : List Tag) (v : Triple)
    → fold plus v (map (λ x. cross x.0 x.1) (pairs_left S (point_of_fin S first) (f ∷ rest))) ≡ fold plus (plus v (cross (point_of_fin S f) (point_of_fin S (head_or first rest)))) (map (λ x. cross x.0 x.1) (pairs_left S (point_of_fin S first) rest))
one_more S first f [] v = refl
one_more S first f (g ∷ rest) v = refl

pub sum-next : (S : Shape) (fins : List Tag) (i : ℕ) (fin next : Tag) (v : Triple) → i < length fins → fin ≡ get_or fins i (tag 0) → next ≡ next_place fins i
    → sum_from S fins (i + 1) (plus v (cross (point_of_fin S fin) (point_of_fin S next))) ≡ sum_from S fins i v
sum-next S fins i fin next v less fin_is next_is =
    let first = get_or fins 0 (tag 0) in
    (λ j. sum_from S fins (i + 1) (plus v (cross (point_of_fin S (fin_is j)) (point_of_fin S (next_is j)))))
    ∙ sym (one_more S first (get_or fins i (tag 0)) (drop (i + 1) fins) v)
    ∙ sym (ap (λ us. fold plus v (map (λ x. cross x.0 x.1) (pairs_left S (point_of_fin S first) us))) (drop_more fins i (tag 0) less))

-- ---- sizes

pub coordinate-within : (v : ℤ) → IsTrue (is_coordinate v) → IsWithin reach v
coordinate-within v h =
    let both = and_parts (int_le (negsuc 1048575) v) (int_le v (pos 1048576)) h in
    record { low = le_z_yes (T_from_true _ both.0); high = le_z_yes (T_from_true _ both.1) }

pub component-within : (v : ℤ) → IsTrue (is_component v) → IsWithin (2 ^ 21) v
component-within v h =
    let both = and_parts (int_le (negsuc 2097151) v) (int_le v (pos 2097152)) h in
    record { low = le_z_yes (T_from_true _ both.0); high = le_z_yes (T_from_true _ both.1) }

pub cross-within : (p q : Point) → AreCoordinates p → AreCoordinates q → IsTripleWithin (2 ^ 42) (cross p q)
cross-within p q a b =
    let two = λ (x y : ℤ) (h : IsWithin reach x) (k : IsWithin reach y). within-mul reach reach x y h k in
    let less = λ (x y z w : ℤ) (h : IsWithin reach x) (k : IsWithin reach y) (j : IsWithin reach z) (l : IsWithin reach w).
    within-more (reach * reach + reach * reach) (2 ^ 42) ((x *ℤ y) -ℤ (z *ℤ w)) (lit≤ tt) (within-sub (reach * reach) (reach * reach) (x *ℤ y) (z *ℤ w) (two x y h k) (two z w j l)) in
    let px = coordinate-within p.x a.0 in
    let py = coordinate-within p.y a.1.0 in
    let pz = coordinate-within p.z a.1.1.0 in
    let qx = coordinate-within q.x b.0 in
    let qy = coordinate-within q.y b.1.0 in
    let qz = coordinate-within q.z b.1.1.0 in
    record { x = less p.y q.z p.z q.y py qz pz qy; y = less p.z q.x p.x q.z pz qx px qz; z = less p.x q.y p.y q.x px qy py qx }

pub triple-more : (m n : ℕ) (v : Triple) → m ≤ n → IsTripleWithin m v → IsTripleWithin n v
triple-more m n v le h = record { x = within-more m n v.x le h.x; y = within-more m n v.y le h.y; z = within-more m n v.z le h.z }

pub triple-next : (i : ℕ) (v w : Triple) → IsTripleWithin (2 ^ 42 * i) v → IsTripleWithin (2 ^ 42) w → IsTripleWithin (2 ^ 42 * (i + 1)) (plus v w)
triple-next i v w h k =
    let one = λ (a b : ℤ) (x : IsWithin (2 ^ 42 * i) a) (y : IsWithin (2 ^ 42) b). within-more (2 ^ 42 * i + 2 ^ 42) (2 ^ 42 * (i + 1)) (a +ℤ b) (omega arith) (within-add (2 ^ 42 * i) (2 ^ 42) a b x y) in
    record { x = one v.x w.x h.x k.x; y = one v.y w.y h.y k.y; z = one v.z w.z h.z k.z }
