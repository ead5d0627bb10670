-- The rows move and turn keep soundness.
use Rattle.std.proofs.Common.{◌≡◌, ℕ, zero, suc, ◌+◌, ⊎_elim, Bool, true, false, not, cond, List, [], ◌∷◌, Option, Some, None, refl, sym, ap, subst, ◌∙◌, arith}
use Rattle.std.specs.Prelude.{T, ℤ, neg_ℤ, nat_abs, map, find, option_map, Contains, IsTrue}
use Rattle.std.specs.Option.{option_map_or}
use Rattle.std.specs.List.{AllByRecursion, sum_by, flat_map, cons_option}
use Rattle.std.specs.Ordering.{eq_by_cmp}
use Rattle.std.specs.FinMap.{is_sorted}
use Rattle.std.proofs.lemmas.Bool.{cases_Bool, not-false}
use Rattle.std.proofs.lemmas.List.Sums.{sum_by-cons}
use Rattle.std.proofs.lemmas.Option.{same_Some}
use Rattle.std.proofs.lemmas.Int.{ints}
use Rattle.pk_base.specs.Entity.{same_tag}
use Rattle.pk_base.specs.declared.tag.Tag.{Tag}
use Rattle.pk_base.specs.declared.entity.Axis.{Axis}
use Rattle.pk_base.specs.declared.entity.Axis.TheVariants.{X, Y, Z}
use Rattle.pk_base.specs.declared.entity.Point.{Point}
use Rattle.pk_base.specs.declared.entity.Name.{Name}
use Rattle.pk_base.specs.declared.entity.Triple.{Triple}
use Rattle.pk_base.specs.declared.refusal.Refusal.TheVariants.{OutOfRange}
use Rattle.pk_model.specs.Maps.{tag_cmp}
use Rattle.solid_model.specs.Items.{Item, Shape, item_at}
use Rattle.solid_model.specs.Items.Item.{Body, Shell, Face, Loop, Fin, Edge, Vertex, Attr}
use Rattle.solid_model.specs.Places.{body_at}
use Rattle.solid_model.specs.Ranges.{is_component, is_coordinate, numbers_of, coordinates_of, refuse_outside}
use Rattle.pk_plane.specs.Turns.{moved, quarter, quarters}
use Rattle.solid_model.specs.Motions.{with_point, with_points, point_in, points_of, move, is_turn, turn}
use Rattle.solid_model.specs.Sound.{HasAttributes}
use Rattle.solid_model.proofs.Written.{is_sorted-map}
use Rattle.list_facts.proofs.Elements.{Contains-first, Contains-later, Contains-flat_map}
use Rattle.list_facts.proofs.Each.{ByRecursion-weaker, ByRecursion-contains, ByRecursion-at}
use Rattle.solid_model.proofs.Reading.{find-map}
use Rattle.solid_sound.proofs.shapes.Found.{find-none}
use Rattle.solid_sound.proofs.shapes.Bones.{bone, bone_of, SameBones, class_forth, bones-sound, bones-written, sum-every}
use Rattle.solid_sound.proofs.rows.RowKeeps.{IsWell, Keeps, keeps-after, keeps-bind}

abbrev pub AreCoordinates : Point → Type 0
AreCoordinates p = AllByRecursion (λ c. IsTrue (is_coordinate c)) (coordinates_of p)

-- ---- what a motion leaves

bone-moved : (motion : Point → Point) (b : Tag) (x : Item) → bone (with_point motion b x) ≡ bone x
bone-moved motion b (Body shell) = refl
bone-moved motion b (Shell body q) = refl
bone-moved motion b (Face shell outer) = refl
bone-moved motion b (Loop face fins vertex) = refl
bone-moved motion b (Fin mate edge vertex) = refl
bone-moved motion b (Edge body) = refl
bone-moved motion b (Vertex body point) = refl
bone-moved motion b (Attr owner name value) = refl

bone_of-moved : (motion : Point → Point) (b : Tag) (o : Option Item) → bone_of (option_map (with_point motion b) o) ≡ bone_of o
bone_of-moved motion b None = refl
bone_of-moved motion b (Some x) = bone-moved motion b x

sum-map : {A B : Type 0} (w : B → ℕ) (g : A → B) (xs : List A) → sum_by w (map g xs) ≡ sum_by (λ x. w (g x)) xs
sum-map w g [] = refl
sum-map w g (x ∷ xs) = sum_by-cons w (g x) (map g xs) ∙ ap (λ n. w (g x) + n) (sum-map w g xs) ∙ sym (sum_by-cons (λ y. w (g y)) x xs)

moved_bones : (motion : Point → Point) (b : Tag) (S : Shape) → T (is_sorted tag_cmp S) → SameBones S (with_points motion S b)
moved_bones motion b S sorted = record {
  ascends = subst T (sym (is_sorted-map (λ x. with_point motion b x.1) S)) sorted;
  at = λ t. ap bone_of (find-map (λ u. with_point motion b) t S) ∙ bone_of-moved motion b (item_at S t);
  sums = λ w. sum-map (λ x. option_map_or (w x.0) (bone x.1) 0) (λ (x : Tag × Item). (x.0, with_point motion b x.1)) S
      ∙ sum-every _ _ (λ x. ap (λ o. option_map_or (w x.0) o 0) (bone-moved motion b x.1)) S;
}

attribute_stays : (motion : Point → Point) (b : Tag) (o : Option Item) (owner : Tag) (name : Name) (value : ℤ) → option_map (with_point motion b) o ≡ Some (Attr owner name value) → o ≡ Some (Attr owner name value)
attribute_stays motion b None owner name value h = absurd (cc)
attribute_stays motion b (Some (Attr p n v)) owner name value h = h
attribute_stays motion b (Some (Body shell)) owner name value h = absurd (cc)
attribute_stays motion b (Some (Shell body q)) owner name value h = absurd (cc)
attribute_stays motion b (Some (Face shell outer)) owner name value h = absurd (cc)
attribute_stays motion b (Some (Loop face fins vertex)) owner name value h = absurd (cc)
attribute_stays motion b (Some (Fin mate edge vertex)) owner name value h = absurd (cc)
attribute_stays motion b (Some (Edge body)) owner name value h = absurd (cc)
attribute_stays motion b (Some (Vertex body point)) owner name value h = absurd (cc)

-- the point that a vertex of the item has after the motion is in range
abbrev MovesWithin : (Point → Point) → Tag → Option Item → Type 0
MovesWithin motion b o = (body : Tag) (p : Point) → o ≡ Some (Vertex body p) → same_tag body b ≡ true → AreCoordinates (motion p)

point_by : (motion : Point → Point) (b : Tag) (o : Option Item) (body : Tag) (point : Point) → option_map (with_point motion b) o ≡ Some (Vertex body point)
    → ((c : Tag) (p : Point) → o ≡ Some (Vertex c p) → AreCoordinates p) → MovesWithin motion b o → AreCoordinates point
point_by motion b None body point h was within = absurd (cc)
point_by motion b (Some (Vertex c p)) body point h was within =
    ⊎_elim {C = AreCoordinates point} (λ (l : same_tag c b ≡ true).
    let is : motion p ≡ point = sym (ap (λ (a : Bool). cond a (motion p) p) l) ∙ cc in
    subst AreCoordinates is (within c p refl l))
    (λ (r : same_tag c b ≡ false).
    let is : p ≡ point = sym (ap (λ (a : Bool). cond a (motion p) p) r) ∙ cc in
    subst AreCoordinates is (was c p refl))
    (cases_Bool (same_tag c b))
point_by motion b (Some (Attr p n v)) body point h was within = absurd (cc)
point_by motion b (Some (Body shell)) body point h was within = absurd (cc)
point_by motion b (Some (Shell c q)) body point h was within = absurd (cc)
point_by motion b (Some (Face shell outer)) body point h was within = absurd (cc)
point_by motion b (Some (Loop face fins vertex)) body point h was within = absurd (cc)
point_by motion b (Some (Fin mate edge vertex)) body point h was within = absurd (cc)
point_by motion b (Some (Edge c)) body point h was within = absurd (cc)

points-kept : (motion : Point → Point) (b : Tag) (S : Shape) → IsWell S → ((v : Tag) → MovesWithin motion b (item_at S v)) → IsWell (with_points motion S b)
points-kept motion b S well within =
    let bones = moved_bones motion b S well.written.ascends in
    let found = λ (t : Tag). find-map (λ u. with_point motion b) t S in
    let attributes : HasAttributes (with_points motion S b) = record {
      owned = λ a o n v e.
          let was = well.sound.attributes.owned a o n v (attribute_stays motion b (item_at S a) o n v (sym (found a) ∙ e)) in
          (was.0, class_forth S _ well.written well.sound bones o was.0 was.2 was.1, was.2);
      one = λ a d o n v w e f. well.sound.attributes.one a d o n v w (attribute_stays motion b (item_at S a) o n v (sym (found a) ∙ e)) (attribute_stays motion b (item_at S d) o n w (sym (found d) ∙ f));
    } in
    record {
      written = bones-written S _ well.written well.sound bones;
      sound = bones-sound S _ well.written well.sound bones attributes
          (λ v body point e. point_by motion b (item_at S v) body point (sym (found v) ∙ e) (λ c p k. well.sound.measure.points v c p k) (within v));
    }

-- ---- turn

coordinate-negated : (v : ℤ) → IsTrue (is_coordinate v) → IsTrue (is_coordinate (neg_ℤ v))
coordinate-negated v h = grind (arith, ints)

quarter-within : (axis : Axis) (p : Point) → AreCoordinates p → AreCoordinates (quarter axis p)
quarter-within X p h = (h.0, (coordinate-negated p.z h.1.1.0, (h.1.0, tt)))
quarter-within Y p h = (h.1.1.0, (h.1.0, (coordinate-negated p.x h.0, tt)))
quarter-within Z p h = (coordinate-negated p.y h.1.0, (h.0, (h.1.1.0, tt)))

quarters-within : (k : ℕ) (axis : Axis) (p : Point) → AreCoordinates p → AreCoordinates (quarters k axis p)
quarters-within zero axis p h = h
quarters-within (suc k) axis p h = quarter-within axis (quarters k axis p) (quarters-within k axis p h)

pub turn-keeps : (S : Shape) (tags : List Tag) (b : Tag) (axis : Axis) (k : ℤ) → IsWell S → Keeps tags (turn S b axis k)
turn-keeps S tags b axis k well = keeps-bind tags (body_at S b) _ (λ shell e. keeps-after tags (refuse_outside is_turn (k ∷ [])) _ (λ n.
    points-kept (quarters (nat_abs k) axis) b S well (λ v body p is l. quarters-within (nat_abs k) axis p (well.sound.measure.points v body p is))))

-- ---- move

none_found : (o : Option ℤ) → option_map OutOfRange o ≡ None → o ≡ None
none_found None h = refl
none_found (Some v) h = absurd (cc)

-- numbers that are not refused pass the test
pub outside-none : (test : ℤ → Bool) (vs : List ℤ) → refuse_outside test vs ≡ None → AllByRecursion (λ v. IsTrue (test v)) vs
outside-none test vs h = ByRecursion-weaker (λ v. not (test v) ≡ false) (λ v. IsTrue (test v)) (λ v e. not-false (test v) e) vs
    (find-none (λ v. not (test v)) vs (none_found (find (λ v. not (test v)) vs) h))

among_kept : (o : Option Point) (ps : List Point) (p : Point) → Contains ps p → Contains (cons_option o ps) p
among_kept None ps p k = k
among_kept (Some q) ps p k = Contains-later q ps p k

point_among : (S : Shape) (b v body : Tag) (p : Point) → item_at S v ≡ Some (Vertex body p) → same_tag body b ≡ true → Contains (points_of S b) p
point_among [] b v body p e l = absurd (cc)
point_among (y ∷ S) b v body p e l =
    ⊎_elim (λ (t : eq_by_cmp tag_cmp v y.0 ≡ true).
    let value : y.1 ≡ Vertex body p = same_Some y.1 (Vertex body p) (sym (ap (λ c. cond c (Some y.1) (item_at S v)) t) ∙ e) in
    let point : point_in b y.1 ≡ Some p = ap (point_in b) value ∙ ap (λ (c : Bool). cond c (Some p) None) l in
    subst (λ o. Contains (cons_option o (points_of S b)) p) (sym point) (Contains-first p (points_of S b)))
    (λ (r : eq_by_cmp tag_cmp v y.0 ≡ false).
    among_kept (point_in b y.1) (points_of S b) p (point_among S b v body p (sym (ap (λ c. cond c (Some y.1) (item_at S v)) r) ∙ e) l))
    (cases_Bool (eq_by_cmp tag_cmp v y.0))

pub move-keeps : (S : Shape) (tags : List Tag) (b : Tag) (by : Triple) → IsWell S → Keeps tags (move S b by)
move-keeps S tags b by well = keeps-bind tags (body_at S b) _ (λ shell e. keeps-after tags (refuse_outside is_component (numbers_of by)) _ (λ n.
    keeps-after tags (refuse_outside is_coordinate (flat_map (λ p. coordinates_of (moved by p)) (points_of S b))) _ (λ within.
    points-kept (moved by) b S well (λ v body p is l.
    ByRecursion-contains (λ c. IsTrue (is_coordinate c)) (coordinates_of (moved by p)) (λ c k.
    ByRecursion-at (λ d. IsTrue (is_coordinate d)) (flat_map (λ q. coordinates_of (moved by q)) (points_of S b)) c
    (outside-none is_coordinate (flat_map (λ q. coordinates_of (moved by q)) (points_of S b)) within)
    (Contains-flat_map (λ q. coordinates_of (moved by q)) (points_of S b) p c (point_among S b v body p is l) k))))))
