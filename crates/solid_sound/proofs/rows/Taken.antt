-- What is live once a row was carried out: what was live before, and tags that it took.
use Rattle.std.proofs.Common.{◌≡◌, ◌≢◌, ℕ, ◌<◌, ◌≤◌, ◌⊎◌, inl, inr, ⊎_elim, Bool, true, false, cond, List, [], ◌∷◌, length, take, Option, Some, None, Result, Ok, Err, refl, sym, ap, subst, ◌∙◌, arith}
use Rattle.std.specs.Prelude.{ℤ, nat_abs, filter, is_some, IsSome, not, Contains}
use Rattle.std.specs.List.{flat_map}
use Rattle.std.specs.FinMap.{put}
use Rattle.std.specs.Ordering.{eq_by_cmp}
use Rattle.std.proofs.lemmas.Bool.{cases_Bool}
use Rattle.std.proofs.lemmas.List.{get_or-take, length-take-le}
use Rattle.std.proofs.lemmas.List.Elements.{Contains-get_or}
use Rattle.pk_base.specs.Blocks.{tag}
use Rattle.pk_base.specs.Entity.{same_tag}
use Rattle.pk_base.specs.declared.tag.Tag.{Tag}
use Rattle.pk_base.specs.declared.entity.Axis.{Axis}
use Rattle.pk_base.specs.declared.entity.Name.{Name}
use Rattle.pk_base.specs.declared.entity.Point.{Point}
use Rattle.pk_base.specs.declared.entity.Triple.{Triple}
use Rattle.pk_base.specs.declared.refusal.Refusal.{Refusal}
use Rattle.pk_base.specs.declared.refusal.Refusal.TheVariants.{NotOneLoop, SameVertex, NotOneFace, OneLoop, IsOuter, NotBare, NotStrut, HasRings, TwoLoops, SameFace, NotOneBody}
use Rattle.pk_model.specs.Tags.{tag_at}
use Rattle.pk_model.specs.Maps.{tag_cmp}
use Rattle.pk_model.specs.Step.{◌>>=◌}
use Rattle.solid_model.specs.Items.{Item, Shape, item_at}
use Rattle.solid_model.specs.Items.Item.{Attr}
use Rattle.solid_model.specs.Rings.{next_in}
use Rattle.solid_model.specs.Owners.{all_in_body, has_rings}
use Rattle.solid_model.specs.Deaths.{dies_with}
use Rattle.solid_model.specs.Ranges.{is_component, is_coordinate, numbers_of, coordinates_of, refuse_outside}
use Rattle.solid_model.specs.Rows.{Row, refuse_where, ◌>>◌}
use Rattle.solid_model.specs.Rows.Effect.{Makes, Changes, Tells}
use Rattle.solid_model.specs.Places.{loop_at, face_at, fin_at, end_at, body_at, outer_at, PlacedLoop}
use Rattle.pk_plane.specs.Turns.{moved, quarters}
use Rattle.solid_model.specs.Motions.{with_point, with_points, points_of, is_turn, move, turn}
use Rattle.solid_model.specs.Attributes.{attribute_named, owner_of_attributes_at}
use Rattle.solid_model.specs.SetAttr.{set_in, set_attribute}
use Rattle.solid_model.specs.DropAttr.{dropped, drop_attribute}
use Rattle.solid_model.specs.Mvfs.{mvfs}
use Rattle.solid_model.specs.Mev.{mev}
use Rattle.solid_model.specs.Mef.{mef}
use Rattle.solid_model.specs.Mekr.{mekr}
use Rattle.solid_model.specs.Mfkrh.{mfkrh}
use Rattle.solid_model.specs.Kvfs.{has_more_than_a_vertex, kvfs}
use Rattle.solid_model.specs.Delete.{delete}
use Rattle.solid_model.specs.Kev.{kev}
use Rattle.solid_model.specs.Kef.{kef}
use Rattle.solid_model.specs.Kemr.{kemr}
use Rattle.solid_model.specs.Kfmrh.{kfmrh}
use Rattle.solid_model.specs.RingMove.{ringmove}
use Rattle.solid_sound.proofs.shapes.Lookups.{put-other}
use Rattle.solid_model.proofs.Reading.{mapped-was, find-map}
use Rattle.pk_base.proofs.Same.{same_or_other}
use Rattle.solid_sound.proofs.rows.RowKeeps.{IsWell}
use Rattle.solid_sound.proofs.edges.Ends.{end-well, fin-well}
use Rattle.solid_sound.proofs.rows.KeptRings.{face_of_class, asked_loop, asked_face, face_in}
use Rattle.solid_sound.proofs.rows.KeptAttributes.{attribute_named-some}

-- ---- shapes

-- what is live in R was live in S, or is one of the tags taken
abbrev pub LiveFrom : Shape → List Tag → Shape → Type 0
LiveFrom S taken R = (t : Tag) → IsSome (item_at R t) → IsSome (item_at S t) ⊎ Contains taken t

pub live-same : (S : Shape) (taken : List Tag) → LiveFrom S taken S
live-same S taken t h = inl h

-- an item is written under a tag that was live, or is taken
pub live-put : (S R : Shape) (taken : List Tag) (t : Tag) (x : Item) → LiveFrom S taken R → IsSome (item_at S t) ⊎ Contains taken t → LiveFrom S taken (put tag_cmp t x R)
live-put S R taken t x h here u live = ⊎_elim
    (λ (l : u ≡ t). subst (λ v. IsSome (item_at S v) ⊎ Contains taken v) (sym l) here)
    (λ (r : u ≢ t). h u (subst (λ (o : Option Item). IsSome o) (put-other R t u x r) live))
    (same_or_other u t)

-- some of it is killed
left_was : (p : Tag × Item → Bool) (R : Shape) (t : Tag) → IsSome (item_at (filter p R) t) → IsSome (item_at R t)
left_was p [] t h = h
left_was p (y ∷ R) t h = ⊎_elim
    (λ (l : eq_by_cmp tag_cmp t y.0 ≡ true). ap (λ b. is_some (cond b (Some y.1) (item_at R t))) l)
    (λ (r : eq_by_cmp tag_cmp t y.0 ≡ false).
    let rest : IsSome (item_at (filter p R) t) = subst (λ (o : Option Item). IsSome o) (elim (p y) as (λ c. item_at (cond c (y ∷ filter p R) (filter p R)) t ≡ item_at (filter p R) t) [
      | true ↦ ap (λ b. cond b (Some y.1) (item_at (filter p R) t)) r
      | false ↦ refl
    ]) h in
    ap (λ b. is_some (cond b (Some y.1) (item_at R t))) r ∙ left_was p R t rest)
    (cases_Bool (eq_by_cmp tag_cmp t y.0))

pub live-left : (S R : Shape) (taken : List Tag) (p : Tag × Item → Bool) → LiveFrom S taken R → LiveFrom S taken (filter p R)
live-left S R taken p h t live = h t (left_was p R t live)

live-points : (S : Shape) (taken : List Tag) (motion : Point → Point) (b : Tag) → LiveFrom S taken (with_points motion S b)
live-points S taken motion b t live = inl (mapped-was (with_point motion b) (item_at S t)
    (subst (λ (o : Option Item). IsSome o) (find-map (λ (u : Tag) (x : Item). with_point motion b x) t S) live))

-- ---- rows

-- the row takes no tags but its own, where they are enough
abbrev pub TakesOnly : Shape → List Tag → Row → Type 0
TakesOnly S tags (Ok (Makes k reaches)) = k ≤ length tags → LiveFrom S (take k tags) (reaches tags)
TakesOnly S tags (Ok (Changes reached)) = LiveFrom S [] reached
TakesOnly S tags (Ok (Tells reply)) = Unit {0}
TakesOnly S tags (Err e) = Unit {0}

pub takes-after : (S : Shape) (tags : List Tag) (o : Option Refusal) (row : Row) → (o ≡ None → TakesOnly S tags row) → TakesOnly S tags (o >> row)
takes-after S tags None row h = h refl
takes-after S tags (Some e) row h = tt

pub takes-bind : {A : Type 0} (S : Shape) (tags : List Tag) (r : Result A Refusal) (row : A → Row) → ((a : A) → r ≡ Ok a → TakesOnly S tags (row a)) → TakesOnly S tags (r >>= row)
takes-bind S tags (Ok a) row h = h a refl
takes-bind S tags (Err e) row h = tt

-- a tag that is taken
new_at : (S : Shape) (tags : List Tag) (k i : ℕ) → k ≤ length tags → i < k → IsSome (item_at S (tag_at tags i)) ⊎ Contains (take k tags) (tag_at tags i)
new_at S tags k i enough less = inr (
    let within : i < length (take k tags) = omega (arith, length-take-le k tags enough, less) in
    subst (Contains (take k tags)) (get_or-take k tags i (tag 0) less) (Contains-get_or (take k tags) i (tag 0) within))

-- a tag that was live
old_at : (S : Shape) (taken : List Tag) (t : Tag) (x : Item) → item_at S t ≡ Some x → IsSome (item_at S t) ⊎ Contains taken t
old_at S taken t x is = inl (ap is_some is)

-- ---- each row

pub mvfs-takes : (S : Shape) (tags : List Tag) (at : Triple) → TakesOnly S tags (mvfs S at)
mvfs-takes S tags at = takes-after S tags (refuse_outside is_coordinate (numbers_of at)) _ (λ none enough.
    let new = λ (i : ℕ) (h : i < 5). new_at S tags 5 i enough h in
    live-put S _ _ _ _ (live-put S _ _ _ _ (live-put S _ _ _ _ (live-put S _ _ _ _ (live-put S _ _ _ _ (live-same S _)
    (new 0 (omega arith))) (new 1 (omega arith))) (new 2 (omega arith))) (new 3 (omega arith))) (new 4 (omega arith)))

pub mev-takes : (S : Shape) → IsWell S → (tags : List Tag) (t : Tag) (at : Triple) → TakesOnly S tags (mev S t at)
mev-takes S well tags t at = takes-bind S tags (end_at S t) _ (λ u h. takes-after S tags (refuse_outside is_coordinate (numbers_of at)) _ (λ none enough.
    let new = λ (i : ℕ) (h : i < 4). new_at S tags 4 i enough h in
    let E = end-well S well t (item_at S t) refl u h in
    live-put S _ _ _ _ (live-put S _ _ _ _ (live-put S _ _ _ _ (live-put S _ _ _ _ (live-put S _ _ _ _ (live-same S _)
    (new 0 (omega arith))) (new 1 (omega arith))) (new 2 (omega arith))) (new 3 (omega arith))) (old_at S _ u.loop_ _ E.loop_is)))

pub mef-takes : (S : Shape) → IsWell S → (tags : List Tag) (f g : Tag) → TakesOnly S tags (mef S f g)
mef-takes S well tags f g = takes-bind S tags (fin_at S f) _ (λ u h. takes-bind S tags (fin_at S g) _ (λ v k.
    takes-after S tags (refuse_where (not (same_tag u.loop_ v.loop_)) (NotOneLoop u.loop_ v.loop_)) _ (λ one. takes-after S tags (refuse_where (same_tag u.vertex v.vertex) (SameVertex u.vertex)) _ (λ two enough.
    let new = λ (i : ℕ) (h : i < 5). new_at S tags 5 i enough h in
    let F = fin-well S well f (item_at S f) refl u h in
    live-put S _ _ _ _ (live-put S _ _ _ _ (live-put S _ _ _ _ (live-put S _ _ _ _ (live-put S _ _ _ _ (live-put S _ _ _ _ (live-same S _)
    (new 0 (omega arith))) (new 1 (omega arith))) (new 2 (omega arith))) (new 3 (omega arith))) (new 4 (omega arith))) (old_at S _ u.loop_ _ F.end.loop_is)))))

pub mekr-takes : (S : Shape) → IsWell S → (tags : List Tag) (k r : Tag) → TakesOnly S tags (mekr S k r)
mekr-takes S well tags k r = takes-bind S tags (end_at S k) _ (λ u h. takes-bind S tags (end_at S r) _ (λ v j.
    takes-after S tags (refuse_where (not (same_tag u.face v.face)) (NotOneFace u.face v.face)) _ (λ a. takes-after S tags (refuse_where (same_tag u.loop_ v.loop_) (OneLoop u.loop_)) _ (λ b.
    takes-after S tags (refuse_where (same_tag v.loop_ (outer_at S v.face)) (IsOuter v.loop_)) _ (λ c. takes-after S tags (refuse_where (same_tag u.vertex v.vertex) (SameVertex u.vertex)) _ (λ d enough.
    let new = λ (i : ℕ) (h : i < 3). new_at S tags 3 i enough h in
    let E = end-well S well k (item_at S k) refl u h in
    live-left S _ (take 3 tags) (λ x. not (dies_with (v.loop_ ∷ []) x))
    (live-put S _ _ _ _ (live-put S _ _ _ _ (live-put S _ _ _ _ (live-put S _ _ _ _ (live-same S _)
    (new 0 (omega arith))) (new 1 (omega arith))) (new 2 (omega arith))) (old_at S _ u.loop_ _ E.loop_is))))))))

pub mfkrh-takes : (S : Shape) → IsWell S → (tags : List Tag) (l : Tag) → TakesOnly S tags (mfkrh S l)
mfkrh-takes S well tags l = takes-bind S tags (loop_at S l) _ (λ r e. takes-after S tags (refuse_where (same_tag l r.outer) (IsOuter l)) _ (λ n enough.
    let x = asked_loop S l (item_at S l) r e in
    let y = face_of_class (item_at S x.0) (well.sound.names.kinds l _ x.3).0.0 in
    let F = face_in S well x.0 y.0 y.1 y.2 in
    let shell_is : y.0 ≡ r.shell = sym F.shell_of ∙ ap (λ (p : PlacedLoop). p.shell) x.4 in
    live-put S _ _ _ _ (live-put S _ _ _ _ (live-put S _ _ _ _ (live-same S _)
    (new_at S tags 1 0 enough (omega arith))) (old_at S _ l _ x.3)) (old_at S _ r.shell _ (ap (item_at S) (sym shell_is) ∙ F.shell_is))))

pub kvfs-takes : (S : Shape) (tags : List Tag) (b : Tag) → TakesOnly S tags (kvfs S b)
kvfs-takes S tags b = takes-bind S tags (body_at S b) _ (λ shell e. takes-after S tags (refuse_where (has_more_than_a_vertex S b) (NotBare b)) _ (λ n.
    live-left S S [] (λ x. not (dies_with (all_in_body S b) x)) (live-same S [])))

pub delete-takes : (S : Shape) (tags : List Tag) (b : Tag) → TakesOnly S tags (delete S b)
delete-takes S tags b = takes-bind S tags (body_at S b) _ (λ shell e. live-left S S [] (λ x. not (dies_with (all_in_body S b) x)) (live-same S []))

pub kev-takes : (S : Shape) → IsWell S → (tags : List Tag) (f : Tag) → TakesOnly S tags (kev S f)
kev-takes S well tags f = takes-bind S tags (fin_at S f) _ (λ u h. takes-bind S tags (fin_at S u.mate) _ (λ w k.
    takes-after S tags (refuse_where (not (same_tag (next_in u.fins f) u.mate)) (NotStrut f)) _ (λ n.
    let F = fin-well S well f (item_at S f) refl u h in
    live-left S _ [] (λ x. not (dies_with (f ∷ u.mate ∷ u.edge ∷ w.vertex ∷ []) x)) (live-put S S [] u.loop_ _ (live-same S []) (old_at S [] u.loop_ _ F.end.loop_is)))))

pub kef-takes : (S : Shape) → IsWell S → (tags : List Tag) (f : Tag) → TakesOnly S tags (kef S f)
kef-takes S well tags f = takes-bind S tags (fin_at S f) _ (λ u h. takes-bind S tags (fin_at S u.mate) _ (λ v k.
    takes-after S tags (refuse_where (same_tag u.loop_ v.loop_) (OneLoop u.loop_)) _ (λ n. takes-after S tags (refuse_where (has_rings S u.face) (HasRings u.face)) _ (λ m.
    let F = fin-well S well u.mate (item_at S u.mate) refl v k in
    live-left S _ [] (λ x. not (dies_with (u.loop_ ∷ u.face ∷ f ∷ u.mate ∷ u.edge ∷ []) x)) (live-put S S [] v.loop_ _ (live-same S []) (old_at S [] v.loop_ _ F.end.loop_is))))))

pub kemr-takes : (S : Shape) → IsWell S → (tags : List Tag) (f : Tag) → TakesOnly S tags (kemr S f)
kemr-takes S well tags f = takes-bind S tags (fin_at S f) _ (λ u h. takes-bind S tags (fin_at S u.mate) _ (λ w k.
    takes-after S tags (refuse_where (not (same_tag u.loop_ w.loop_)) (TwoLoops u.loop_ w.loop_)) _ (λ n enough.
    let F = fin-well S well f (item_at S f) refl u h in
    live-left S _ (take 1 tags) (λ x. not (dies_with (f ∷ u.mate ∷ u.edge ∷ []) x))
    (live-put S _ _ _ _ (live-put S _ _ _ _ (live-same S _) (old_at S _ u.loop_ _ F.end.loop_is)) (new_at S tags 1 0 enough (omega arith))))))

pub kfmrh-takes : (S : Shape) → IsWell S → (tags : List Tag) (a b : Tag) → TakesOnly S tags (kfmrh S a b)
kfmrh-takes S well tags a b = takes-bind S tags (face_at S a) _ (λ keep e. takes-bind S tags (face_at S b) _ (λ kill k.
    takes-after S tags (refuse_where (same_tag a b) (SameFace a)) _ (λ n. takes-after S tags (refuse_where (not (same_tag keep.body kill.body)) (NotOneBody keep.body kill.body)) _ (λ m.
    takes-after S tags (refuse_where (has_rings S b) (HasRings b)) _ (λ o.
    let y = asked_face S b (item_at S b) kill k in
    let F = face_in S well b y.0 y.1 y.2 in
    let l = well.sound.outer b y.0 y.1 y.2 in
    live-left S _ [] (λ x. not (dies_with (b ∷ []) x))
    (live-put S _ [] kill.shell _ (live-put S S [] kill.outer _ (live-same S []) (old_at S [] kill.outer _ (ap (item_at S) (sym y.5) ∙ l.2))) (old_at S [] kill.shell _ (ap (item_at S) (sym y.3) ∙ F.shell_is))))))))

pub ringmove-takes : (S : Shape) (tags : List Tag) (l a : Tag) → TakesOnly S tags (ringmove S l a)
ringmove-takes S tags l a = takes-bind S tags (loop_at S l) _ (λ r e. takes-bind S tags (face_at S a) _ (λ to k.
    takes-after S tags (refuse_where (same_tag l r.outer) (IsOuter l)) _ (λ n. takes-after S tags (refuse_where (not (same_tag r.body to.body)) (NotOneBody r.body to.body)) _ (λ m.
    takes-after S tags (refuse_where (same_tag r.face a) (SameFace a)) _ (λ o.
    let x = asked_loop S l (item_at S l) r e in
    live-put S S [] l _ (live-same S []) (old_at S [] l _ x.3))))))

set_takes_by : (S : Shape) (tags : List Tag) (owner : Tag) (name : Name) (value : ℤ) (o : Option Tag) → IsWell S → attribute_named S owner name ≡ o → TakesOnly S tags (set_in S (Attr owner name value) o)
set_takes_by S tags owner name value (Some t) well is =
    let found = attribute_named-some S well.written.ascends owner name t is in
    live-put S S [] t _ (live-same S []) (old_at S [] t _ found.1)
set_takes_by S tags owner name value None well is = λ enough. live-put S S _ (tag_at tags 0) _ (live-same S _) (new_at S tags 1 0 enough (omega arith))

pub set-takes : (S : Shape) → IsWell S → (tags : List Tag) (owner : Tag) (name : Name) (value : ℤ) → TakesOnly S tags (set_attribute S owner name value)
set-takes S well tags owner name value = takes-bind S tags (owner_of_attributes_at S owner) _ (λ x e. set_takes_by S tags owner name value (attribute_named S owner name) well refl)

drop_takes_by : (S : Shape) (tags : List Tag) (owner : Tag) (o : Option Tag) → TakesOnly S tags (dropped S owner o)
drop_takes_by S tags owner (Some t) = live-left S S [] (λ x. not (dies_with (t ∷ []) x)) (live-same S [])
drop_takes_by S tags owner None = tt

pub drop-takes : (S : Shape) (tags : List Tag) (owner : Tag) (name : Name) → TakesOnly S tags (drop_attribute S owner name)
drop-takes S tags owner name = takes-bind S tags (owner_of_attributes_at S owner) _ (λ x e. drop_takes_by S tags owner (attribute_named S owner name))

pub move-takes : (S : Shape) (tags : List Tag) (b : Tag) (by : Triple) → TakesOnly S tags (move S b by)
move-takes S tags b by = takes-bind S tags (body_at S b) _ (λ shell e. takes-after S tags (refuse_outside is_component (numbers_of by)) _ (λ n.
    takes-after S tags (refuse_outside is_coordinate (flat_map (λ p. coordinates_of (moved by p)) (points_of S b))) _ (λ m. live-points S [] (moved by) b)))

pub turn-takes : (S : Shape) (tags : List Tag) (b : Tag) (axis : Axis) (k : ℤ) → TakesOnly S tags (turn S b axis k)
turn-takes S tags b axis k = takes-bind S tags (body_at S b) _ (λ shell e. takes-after S tags (refuse_outside is_turn (k ∷ [])) _ (λ n. live-points S [] (quarters (nat_abs k) axis) b))
