-- When a face of one loop is plane: where its loop is a side, or its points have one height.
use Rattle.std.proofs.Common.{◌≡◌, List, [], ◌∷◌, Option, Some, None, refl, sym, ap, subst, ◌∙◌, append-nil}
use Rattle.std.specs.Prelude.{ℤ, ◌*ℤ◌, map}
use Rattle.std.specs.Option.{option_map_or}
use Rattle.std.specs.List.{AllByRecursion}
use Rattle.pk_base.specs.declared.tag.Tag.{Tag}
use Rattle.pk_base.specs.declared.entity.Point.{Point}
use Rattle.pk_base.specs.declared.entity.Triple.{Triple}
use Rattle.pk_plane.specs.Vectors.{dot}
use Rattle.pk_plane.specs.Turns.{moved}
use Rattle.solid_model.specs.Items.{Item, Shape, item_at}
use Rattle.solid_model.specs.Items.Item.{Loop}
use Rattle.solid_model.specs.Rings.{from_least, ring_of}
use Rattle.solid_model.specs.Owners.{fins_of}
use Rattle.solid_model.specs.Places.{fins_at, outer_at, start_at, point_at}
use Rattle.solid_model.specs.Newell.{newell}
use Rattle.solid_model.specs.Sweep.{triple_of}
use Rattle.list_facts.proofs.Each.{ByRecursion-map}
use Rattle.solid_model.proofs.lists.Turned.{turned-each, turned-least}
use Rattle.solid_forms.specs.Planes.{points_round, IsPlane}
use Rattle.solid_forms.proofs.Newells.{newell_of, newell-turned}
use Rattle.solid_forms.proofs.Levels.{side_of, side-level, flat-level}
use Rattle.std.proofs.lemmas.List.{map-append}

-- where a fin starts
abbrev pub start_point : Shape → Tag → Point
start_point R g = point_at R (start_at R g)

unmapped : {A B : Type 0} (P : B → Type 0) (f : A → B) (xs : List A) → AllByRecursion P (map f xs) → AllByRecursion (λ x. P (f x)) xs
unmapped P f [] h = tt
unmapped P f (x ∷ xs) h = (h.0, unmapped P f xs h.1)

pub newell-ring : (R : Shape) (f l : Tag) (L : List Tag) → item_at R l ≡ Some (ring_of f L) → newell R l ≡ newell_of (map (start_point R) L)
newell-ring R f l L is =
    let t = turned-least L in
    let st = start_point R in
    let fins : fins_at R l ≡ from_least L = ap (λ (o : Option Item). option_map_or fins_of o []) is in
    ap (λ fs. newell_of (map st fs)) (fins ∙ t.there)
    ∙ ap newell_of (map-append st t.post t.pre)
    ∙ newell-turned (map st t.post) (map st t.pre)
    ∙ ap newell_of (sym (map-append st t.pre t.post))
    ∙ ap (λ fs. newell_of (map st fs)) (sym t.here)

-- the loop l is the face's only one
abbrev pub OnlyLoop : Shape → Tag → Tag → Type 0
OnlyLoop R f l = (q : Tag) (fins : List Tag) (lone : Option Tag) → item_at R q ≡ Some (Loop f fins lone) → q ≡ l

-- the points of the loop, from some fin on, have one product with its vector
pub plane-of_ring : (R : Shape) (f l : Tag) (L : List Tag) (e : ℤ) (ps : List Point) → item_at R l ≡ Some (ring_of f L) → outer_at R f ≡ l → OnlyLoop R f l → map (start_point R) L ≡ ps
    → AllByRecursion (λ p. dot (triple_of p) (newell_of ps) ≡ e) ps → IsPlane R f
plane-of_ring R f l L e ps list outer only points all =
    let st = start_point R in
    let N = newell R (outer_at R f) in
    let vector : N ≡ newell_of ps = ap (newell R) outer ∙ newell-ring R f l L list ∙ ap newell_of points in
    let has = λ (p : Point). ◌≡◌ {A = ℤ} (dot (triple_of p) N) e in
    let here : AllByRecursion has ps = subst (λ (v : Triple). AllByRecursion (λ p. dot (triple_of p) v ≡ e) ps) (sym vector) all in
    let on_fins : AllByRecursion (λ g. has (st g)) L = unmapped has st L (subst (AllByRecursion has) (sym points) here) in
    let turned : AllByRecursion (λ g. has (st g)) (from_least L) = turned-each (λ g. has (st g)) L (from_least L) (turned-least L) on_fins in
    let round : AllByRecursion has (points_round R (from_least L) None) = subst (AllByRecursion has) (sym (append-nil (map st (from_least L)))) (ByRecursion-map (λ g. has (st g)) has st (λ g h. h) (from_least L) turned) in
    record {
      level = e;
      points = λ q fins lone is.
          (let both : Some (Loop f fins lone) ≡ Some (ring_of f L) = sym is ∙ ap (item_at R) (only q fins lone is) ∙ list in
          let fins_are : fins ≡ from_least L = cc in
          let none : lone ≡ None = cc in
          subst (λ fs. AllByRecursion has (points_round R fs lone)) (sym fins_are) (subst (λ o. AllByRecursion has (points_round R (from_least L) o)) (sym none) round));
    }

pub side-plane : (R : Shape) (v : Triple) (p q : Point) (face l b f o x : Tag) → item_at R l ≡ Some (ring_of face (b ∷ f ∷ o ∷ x ∷ [])) → outer_at R face ≡ l → OnlyLoop R face l
    → start_point R b ≡ moved v p → start_point R f ≡ p → start_point R o ≡ q → start_point R x ≡ moved v q → IsPlane R face
side-plane R v p q face l b f o x list outer only b_at f_at o_at x_at =
    plane-of_ring R face l (b ∷ f ∷ o ∷ x ∷ []) (dot (triple_of p) (newell_of (side_of v p q))) (side_of v p q) list outer only (λ i. b_at i ∷ f_at i ∷ o_at i ∷ x_at i ∷ []) (side-level v p q)

pub flat-plane : (R : Shape) (h : ℤ) (face l : Tag) (L : List Tag) → item_at R l ≡ Some (ring_of face L) → outer_at R face ≡ l → OnlyLoop R face l
    → AllByRecursion (λ g. (start_point R g).z ≡ h) L → IsPlane R face
flat-plane R h face l L list outer only all =
    let ps = map (start_point R) L in
    plane-of_ring R face l L (h *ℤ (newell_of ps).z) ps list outer only refl (flat-level h ps (ByRecursion-map (λ g. (start_point R g).z ≡ h) (λ p. p.z ≡ h) (start_point R) (λ g e. e) L all))
