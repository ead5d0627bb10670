-- Points and the Newell vector of their cyclic list: four points of a side, points of one height, and points that are moved.
use Rattle.std.proofs.Common.{◌≡◌, List, [], ◌∷◌, refl, sym, ap, ◌∙◌, arith}
use Rattle.std.specs.Prelude.{ℤ, pos, ◌+ℤ◌, ◌-ℤ◌, ◌*ℤ◌, map}
use Rattle.std.specs.List.{AllByRecursion}
use Rattle.std.proofs.Math.IntN.{*ℤ_comm, *ℤ-zero, +ℤ_idl, +ℤ_idr}
use Rattle.std.proofs.lemmas.Int.{ints}
use Rattle.pk_base.specs.declared.entity.Point.{Point}
use Rattle.pk_base.specs.declared.entity.Triple.{Triple}
use Rattle.pk_plane.specs.Vectors.{cross, plus, no_vector, dot}
use Rattle.pk_plane.specs.Turns.{moved}
use Rattle.solid_model.specs.Rings.{neighbours_from}
use Rattle.solid_model.specs.Sweep.{triple_of}
use Rattle.list_facts.proofs.Each.{ByRecursion-weaker}
use Rattle.solid_forms.proofs.Ints.{sum-times, times-sum, gap-times, across, on-first, on-second, dot-sum, sum-dot}
use Rattle.solid_forms.proofs.Newells.{pair_cross, sum_of, newell_of, sum-more}

-- ---- a side: two points, and the same two moved

-- each product is named, so that the sum is linear
in_sums : (P1 P2 Q R P3 P4 P5 P6 G7 G8 ab sb ta aB Ab AB At Bs st : ℤ) → P1 ≡ ab +ℤ sb → P2 ≡ ab +ℤ ta → Q ≡ aB → R ≡ Ab → P3 ≡ AB +ℤ At → P4 ≡ AB +ℤ Bs
    → P5 ≡ (Ab +ℤ At) +ℤ (sb +ℤ st) → P6 ≡ (aB +ℤ Bs) +ℤ (ta +ℤ st) → G7 ≡ At -ℤ ta → G8 ≡ Bs -ℤ sb
    → (((pos 0 +ℤ (P1 -ℤ P2)) +ℤ (Q -ℤ R)) +ℤ (P3 -ℤ P4)) +ℤ (P5 -ℤ P6) ≡ (G7 -ℤ G8) +ℤ (G7 -ℤ G8)
in_sums P1 P2 Q R P3 P4 P5 P6 G7 G8 ab sb ta aB Ab AB At Bs st h1 h2 h3 h4 h5 h6 h7 h8 h9 h10 = omega (arith, ints)

quad : (a b A B s t : ℤ)
    → (((pos 0 +ℤ (((a +ℤ s) *ℤ b) -ℤ ((b +ℤ t) *ℤ a))) +ℤ ((a *ℤ B) -ℤ (b *ℤ A))) +ℤ ((A *ℤ (B +ℤ t)) -ℤ (B *ℤ (A +ℤ s)))) +ℤ (((A +ℤ s) *ℤ (b +ℤ t)) -ℤ ((B +ℤ t) *ℤ (a +ℤ s)))
    ≡ (((A -ℤ a) *ℤ t) -ℤ ((B -ℤ b) *ℤ s)) +ℤ (((A -ℤ a) *ℤ t) -ℤ ((B -ℤ b) *ℤ s))
quad a b A B s t = in_sums _ _ _ _ _ _ _ _ _ _ (a *ℤ b) (s *ℤ b) (t *ℤ a) (a *ℤ B) (A *ℤ b) (A *ℤ B) (A *ℤ t) (B *ℤ s) (s *ℤ t)
    (sum-times a s b)
    (sum-times b t a ∙ ap (λ x. x +ℤ (t *ℤ a)) (*ℤ_comm b a))
    refl
    (*ℤ_comm b A)
    (times-sum A B t)
    (times-sum B A s ∙ ap (λ x. x +ℤ (B *ℤ s)) (*ℤ_comm B A))
    (sum-times A s (b +ℤ t) ∙ (λ i. times-sum A b t i +ℤ times-sum s b t i))
    (sum-times B t (a +ℤ s) ∙ (λ i. times-sum B a s i +ℤ times-sum t a s i) ∙ (λ i. (*ℤ_comm B a i +ℤ (B *ℤ s)) +ℤ ((t *ℤ a) +ℤ *ℤ_comm t s i)))
    (gap-times A a t ∙ ap (λ x. (A *ℤ t) -ℤ x) (*ℤ_comm a t))
    (gap-times B b s ∙ ap (λ x. (B *ℤ s) -ℤ x) (*ℤ_comm b s))

abbrev gap : Point → Point → Triple
gap q p = record { x = q.x -ℤ p.x; y = q.y -ℤ p.y; z = q.z -ℤ p.z }

abbrev pub side_of : Triple → Point → Point → List Point
side_of v p q = moved v p ∷ p ∷ q ∷ moved v q ∷ []

side-newell : (v : Triple) (p q : Point) → newell_of (side_of v p q) ≡ plus (across (gap q p) v) (across (gap q p) v)
side-newell v p q = λ i. record {
  x = quad p.y p.z q.y q.z v.y v.z i;
  y = quad p.z p.x q.z q.x v.z v.x i;
  z = quad p.x p.y q.x q.y v.x v.y i;
}

twice_none : (n D : Triple) → dot n D ≡ pos 0 → dot n (plus D D) ≡ pos 0
twice_none n D h = sum-dot n D D ∙ (λ i. h i +ℤ h i)

from_there : (a b : ℤ) → b ≡ a +ℤ (b -ℤ a)
from_there a b = omega (arith, ints)

gap-there : (p q : Point) → triple_of q ≡ plus (triple_of p) (gap q p)
gap-there p q = λ i. record { x = from_there p.x q.x i; y = from_there p.y q.y i; z = from_there p.z q.z i }

dot-more : (a b n : Triple) → dot b n ≡ pos 0 → dot (plus a b) n ≡ dot a n
dot-more a b n h = dot-sum a b n ∙ ap (λ x. dot a n +ℤ x) h ∙ +ℤ_idr (dot a n)

-- each point of a side has the product of p
pub side-level : (v : Triple) (p q : Point) → AllByRecursion (λ r. dot (triple_of r) (newell_of (side_of v p q)) ≡ dot (triple_of p) (newell_of (side_of v p q))) (side_of v p q)
side-level v p q =
    let D = across (gap q p) v in
    let N = newell_of (side_of v p q) in
    let along : dot v N ≡ pos 0 = ap (dot v) (side-newell v p q) ∙ twice_none v D (on-second (gap q p) v) in
    let across_it : dot (gap q p) N ≡ pos 0 = ap (dot (gap q p)) (side-newell v p q) ∙ twice_none (gap q p) D (on-first (gap q p) v) in
    let second : dot (triple_of q) N ≡ dot (triple_of p) N = ap (λ t. dot t N) (gap-there p q) ∙ dot-more (triple_of p) (gap q p) N across_it in
    (dot-more (triple_of p) v N along, (refl, (second, (dot-more (triple_of q) v N along ∙ second, tt))))

-- ---- points of one height

abbrev AtHeight : ℤ → Point → Type 0
AtHeight h p = p.z ≡ h

-- what is summed from x on to the end a
abbrev run : Point → Point → List Point → Triple
run a x xs = sum_of (map pair_cross (neighbours_from a x xs))

telescope_one : (x a : ℤ) (P Q : ℤ) → P ≡ x → Q ≡ a → pos 0 +ℤ (P -ℤ Q) ≡ x -ℤ a
telescope_one x a P Q h k = omega (arith, ints)

telescope_more : (x y a P Q : ℤ) → P ≡ x → Q ≡ y → (P -ℤ Q) +ℤ (y -ℤ a) ≡ x -ℤ a
telescope_more x y a P Q h k = omega (arith, ints)

run-x : (h : ℤ) (a x : Point) (xs : List Point) → AtHeight h a → AllByRecursion (AtHeight h) (x ∷ xs) → (run a x xs).x ≡ (x.y *ℤ h) -ℤ (a.y *ℤ h)
run-x h a x [] ha hx = telescope_one (x.y *ℤ h) (a.y *ℤ h) (x.y *ℤ a.z) (x.z *ℤ a.y) (ap (λ t. x.y *ℤ t) ha) (ap (λ t. t *ℤ a.y) hx.0 ∙ *ℤ_comm h a.y)
run-x h a x (y ∷ ys) ha hx =
    ap (λ (t : Triple). t.x) (sum-more (cross x y) (map pair_cross (neighbours_from a y ys)))
    ∙ ap (λ t. ((x.y *ℤ y.z) -ℤ (x.z *ℤ y.y)) +ℤ t) (run-x h a y ys ha hx.1)
    ∙ telescope_more (x.y *ℤ h) (y.y *ℤ h) (a.y *ℤ h) (x.y *ℤ y.z) (x.z *ℤ y.y) (ap (λ t. x.y *ℤ t) hx.1.0) (ap (λ t. t *ℤ y.y) hx.0 ∙ *ℤ_comm h y.y)

telescope_back : (x a : ℤ) (P Q : ℤ) → P ≡ a → Q ≡ x → pos 0 +ℤ (P -ℤ Q) ≡ a -ℤ x
telescope_back x a P Q h k = omega (arith, ints)

telescope_back_more : (x y a P Q : ℤ) → P ≡ y → Q ≡ x → (P -ℤ Q) +ℤ (a -ℤ y) ≡ a -ℤ x
telescope_back_more x y a P Q h k = omega (arith, ints)

run-y : (h : ℤ) (a x : Point) (xs : List Point) → AtHeight h a → AllByRecursion (AtHeight h) (x ∷ xs) → (run a x xs).y ≡ (a.x *ℤ h) -ℤ (x.x *ℤ h)
run-y h a x [] ha hx = telescope_back (x.x *ℤ h) (a.x *ℤ h) (x.z *ℤ a.x) (x.x *ℤ a.z) (ap (λ t. t *ℤ a.x) hx.0 ∙ *ℤ_comm h a.x) (ap (λ t. x.x *ℤ t) ha)
run-y h a x (y ∷ ys) ha hx =
    ap (λ (t : Triple). t.y) (sum-more (cross x y) (map pair_cross (neighbours_from a y ys)))
    ∙ ap (λ t. ((x.z *ℤ y.x) -ℤ (x.x *ℤ y.z)) +ℤ t) (run-y h a y ys ha hx.1)
    ∙ telescope_back_more (x.x *ℤ h) (y.x *ℤ h) (a.x *ℤ h) (x.z *ℤ y.x) (x.x *ℤ y.z) (ap (λ t. t *ℤ y.x) hx.0 ∙ *ℤ_comm h y.x) (ap (λ t. x.x *ℤ t) hx.1.0)

none_of_itself : (a : ℤ) → a -ℤ a ≡ pos 0
none_of_itself a = omega (arith, ints)

flat-dot : (h X Y Z : ℤ) (p : Point) → X ≡ pos 0 → Y ≡ pos 0 → AtHeight h p → ((p.x *ℤ X) +ℤ (p.y *ℤ Y)) +ℤ (p.z *ℤ Z) ≡ h *ℤ Z
flat-dot h X Y Z p a b c =
    (λ i. ((p.x *ℤ a i) +ℤ (p.y *ℤ b i)) +ℤ (c i *ℤ Z))
    ∙ (λ i. (*ℤ-zero p.x i +ℤ *ℤ-zero p.y i) +ℤ (h *ℤ Z))
    ∙ +ℤ_idl (h *ℤ Z)

-- points of one height have one product
pub flat-level : (h : ℤ) (ps : List Point) → AllByRecursion (λ p. p.z ≡ h) ps → AllByRecursion (λ p. dot (triple_of p) (newell_of ps) ≡ h *ℤ (newell_of ps).z) ps
flat-level h [] all = tt
flat-level h (x ∷ xs) all =
    let N = newell_of (x ∷ xs) in
    let a : N.x ≡ pos 0 = run-x h x x xs all.0 all ∙ none_of_itself (x.y *ℤ h) in
    let b : N.y ≡ pos 0 = run-y h x x xs all.0 all ∙ none_of_itself (x.x *ℤ h) in
    ByRecursion-weaker (λ p. p.z ≡ h) (λ p. dot (triple_of p) N ≡ h *ℤ N.z) (λ p c. flat-dot h N.x N.y N.z p a b c) (x ∷ xs) all

-- ---- points that are moved

in_moved_sums : (P1 P2 G7 G8 pQ pv sQ sv qP qs tP : ℤ) → P1 ≡ (pQ +ℤ pv) +ℤ (sQ +ℤ sv) → P2 ≡ (qP +ℤ qs) +ℤ (tP +ℤ sv) → G7 ≡ pv -ℤ tP → G8 ≡ qs -ℤ sQ
    → P1 -ℤ P2 ≡ (pQ -ℤ qP) +ℤ (G7 -ℤ G8)
in_moved_sums P1 P2 G7 G8 pQ pv sQ sv qP qs tP h1 h2 h3 h4 = omega (arith, ints)

moved_pair : (a b A B s t : ℤ) → ((a +ℤ s) *ℤ (B +ℤ t)) -ℤ ((b +ℤ t) *ℤ (A +ℤ s)) ≡ ((a *ℤ B) -ℤ (b *ℤ A)) +ℤ (((a -ℤ A) *ℤ t) -ℤ ((b -ℤ B) *ℤ s))
moved_pair a b A B s t = in_moved_sums _ _ _ _ (a *ℤ B) (a *ℤ t) (s *ℤ B) (s *ℤ t) (b *ℤ A) (b *ℤ s) (t *ℤ A)
    (sum-times a s (B +ℤ t) ∙ (λ i. times-sum a B t i +ℤ times-sum s B t i))
    (sum-times b t (A +ℤ s) ∙ (λ i. times-sum b A s i +ℤ times-sum t A s i) ∙ (λ i. ((b *ℤ A) +ℤ (b *ℤ s)) +ℤ ((t *ℤ A) +ℤ *ℤ_comm t s i)))
    (gap-times a A t ∙ ap (λ x. (a *ℤ t) -ℤ x) (*ℤ_comm A t))
    (gap-times b B s ∙ ap (λ x. (b *ℤ s) -ℤ x) (*ℤ_comm B s))

cross-moved : (v : Triple) (p q : Point) → cross (moved v p) (moved v q) ≡ plus (cross p q) (across (gap p q) v)
cross-moved v p q = λ i. record {
  x = moved_pair p.y p.z q.y q.z v.y v.z i;
  y = moved_pair p.z p.x q.z q.x v.z v.x i;
  z = moved_pair p.x p.y q.x q.y v.x v.y i;
}

end_sum : (c g : ℤ) → pos 0 +ℤ (c +ℤ g) ≡ (pos 0 +ℤ c) +ℤ g
end_sum c g = omega (arith, ints)

-- the gaps from x to y and from y to a are that from x to a
gap_sum : (xy ya xa r c : ℤ) → xy +ℤ ya ≡ xa → (c +ℤ xy) +ℤ (r +ℤ ya) ≡ (c +ℤ r) +ℤ xa
gap_sum xy ya xa r c h = omega (arith, ints)

gap_terms : (X1 X2 Y1 Y2 Z1 Z2 xt xs yt ys a_t a_s : ℤ) → X1 ≡ xt -ℤ yt → X2 ≡ xs -ℤ ys → Y1 ≡ yt -ℤ a_t → Y2 ≡ ys -ℤ a_s → Z1 ≡ xt -ℤ a_t → Z2 ≡ xs -ℤ a_s → (X1 -ℤ X2) +ℤ (Y1 -ℤ Y2) ≡ Z1 -ℤ Z2
gap_terms X1 X2 Y1 Y2 Z1 Z2 xt xs yt ys a_t a_s h1 h2 h3 h4 h5 h6 = omega (arith, ints)

gap_part : (x y a X Y A s t : ℤ) → (((x -ℤ y) *ℤ t) -ℤ ((X -ℤ Y) *ℤ s)) +ℤ (((y -ℤ a) *ℤ t) -ℤ ((Y -ℤ A) *ℤ s)) ≡ ((x -ℤ a) *ℤ t) -ℤ ((X -ℤ A) *ℤ s)
gap_part x y a X Y A s t = gap_terms _ _ _ _ _ _ (x *ℤ t) (X *ℤ s) (y *ℤ t) (Y *ℤ s) (a *ℤ t) (A *ℤ s)
    (gap-times x y t) (gap-times X Y s) (gap-times y a t) (gap-times Y A s) (gap-times x a t) (gap-times X A s)

run-moved : (v : Triple) (a x : Point) (xs : List Point) → run (moved v a) (moved v x) (map (moved v) xs) ≡ plus (run a x xs) (across (gap x a) v)
run-moved v a x [] =
    ap (plus no_vector) (cross-moved v x a)
    ∙ (λ i. record {
      x = end_sum (cross x a).x (across (gap x a) v).x i;
      y = end_sum (cross x a).y (across (gap x a) v).y i;
      z = end_sum (cross x a).z (across (gap x a) v).z i;
    })
run-moved v a x (y ∷ ys) =
    let r = run a y ys in
    let c = cross x y in
    sum-more (cross (moved v x) (moved v y)) (map pair_cross (neighbours_from (moved v a) (moved v y) (map (moved v) ys)))
    ∙ (λ i. plus (cross-moved v x y i) (run-moved v a y ys i))
    ∙ (λ i. record {
      x = gap_sum (across (gap x y) v).x (across (gap y a) v).x (across (gap x a) v).x r.x c.x (gap_part x.y y.y a.y x.z y.z a.z v.y v.z) i;
      y = gap_sum (across (gap x y) v).y (across (gap y a) v).y (across (gap x a) v).y r.y c.y (gap_part x.z y.z a.z x.x y.x a.x v.z v.x) i;
      z = gap_sum (across (gap x y) v).z (across (gap y a) v).z (across (gap x a) v).z r.z c.z (gap_part x.x y.x a.x x.y y.y a.y v.x v.y) i;
    })
    ∙ ap (λ t. plus t (across (gap x a) v)) (sym (sum-more c (map pair_cross (neighbours_from a y ys))))

no_gap : (P Q a b s t : ℤ) → P ≡ (a *ℤ t) -ℤ (a *ℤ t) → Q ≡ (b *ℤ s) -ℤ (b *ℤ s) → P -ℤ Q ≡ pos 0
no_gap P Q a b s t h k = none (a *ℤ t) (b *ℤ s) P Q h k
  where
    none : (m n P Q : ℤ) → P ≡ m -ℤ m → Q ≡ n -ℤ n → P -ℤ Q ≡ pos 0
    none m n P Q h k = omega (arith, ints)

with_no_gap : (r P : ℤ) → P ≡ pos 0 → r +ℤ P ≡ r
with_no_gap r P h = omega (arith, ints)

-- the vector is as it was
pub newell-moved : (v : Triple) (ps : List Point) → newell_of (map (moved v) ps) ≡ newell_of ps
newell-moved v [] = refl
newell-moved v (x ∷ xs) =
    let r = run x x xs in
    let none = λ (a b s t : ℤ). no_gap ((a -ℤ a) *ℤ t) ((b -ℤ b) *ℤ s) a b s t (gap-times a a t) (gap-times b b s) in
    run-moved v x x xs
    ∙ (λ i. record {
      x = with_no_gap r.x (across (gap x x) v).x (none x.y x.z v.y v.z) i;
      y = with_no_gap r.y (across (gap x x) v).y (none x.z x.x v.z v.x) i;
      z = with_no_gap r.z (across (gap x x) v).z (none x.x x.y v.x v.y) i;
    })

-- the product of a moved point
pub dot-moved : (v N : Triple) (p : Point) → dot (triple_of (moved v p)) N ≡ dot (triple_of p) N +ℤ dot v N
dot-moved v N p = dot-sum (triple_of p) v N
