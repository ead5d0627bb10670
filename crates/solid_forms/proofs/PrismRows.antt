-- The rows prism and block make their closed forms.
use Rattle.std.proofs.Common.{◌≡◌, ℕ, ◌+◌, ◌*◌, ◌≤◌, List, [], ◌∷◌, length, Some, refl, sym, ap, subst, ◌∙◌, arith}
use Rattle.std.specs.Prelude.{ℤ, ◌+ℤ◌, map, IsTrue}
use Rattle.std.specs.List.{AllByRecursion}
use Rattle.std.proofs.lemmas.List.{get_or-drop}
use Rattle.pk_base.specs.Blocks.{tag}
use Rattle.pk_base.specs.declared.tag.Tag.{Tag}
use Rattle.pk_base.specs.declared.entity.Pair.{Pair}
use Rattle.pk_base.specs.declared.entity.Triple.{Triple}
use Rattle.pk_base.specs.declared.call.Call.{Call}
use Rattle.pk_base.specs.declared.call.Call.TheVariants.{Prism, Block}
use Rattle.pk_model.specs.Tags.{tag_at}
use Rattle.solid_model.specs.Items.{Shape, item_at}
use Rattle.solid_model.specs.Items.Item.{Face}
use Rattle.solid_model.specs.Rings.{ring_of}
use Rattle.solid_model.specs.Ranges.{is_coordinate, is_size, numbers_of, refuse_outside}
use Rattle.solid_model.specs.Lamina.{refuse_count, refuse_corners, refuse_polygon}
use Rattle.solid_model.specs.Prism.{after_prism, rectangle}
use Rattle.solid_model.specs.Calls.{row_of}
use Rattle.solid_sound.proofs.rows.KeptMotions.{outside-none}
use Rattle.solid_sound.proofs.rows.Taken.{TakesOnly}
use Rattle.solid_sound.proofs.rows.KeptPrism.{prism-takes, block-takes}
use Rattle.solid_sound.proofs.rows.Progress.{start}
use Rattle.solid_forms.specs.Reached.{Reaches, MadeOf}
use Rattle.solid_forms.specs.PrismForm.{sweep_tags}
use Rattle.solid_forms.specs.BlockForm.{BlockVertices, HasFins, BlockFaces}
use Rattle.solid_forms.proofs.Rows.{after-none, makes-same, within-none, NotRefused, corners_within, three_corners}
use Rattle.solid_forms.proofs.Laminas.{reached-well}
use Rattle.solid_forms.proofs.Prisms.{PrismStands, prism-stands}

pub record PrismReached (S : Shape) (tags : List Tag) (z h : ℤ) (corners : List Pair) (R : Shape) (takes : ℕ) : Type 0 where
  pub takes_is : takes ≡ 13 * length corners + 6
  pub few : 3 ≤ length corners
  pub stands : PrismStands R S tags z h corners (length corners)
  pub enough : 13 * length corners + 6 ≤ length tags
  pub all : MadeOf S (13 * length corners + 6) tags R

-- a call whose row makes a prism
made_prism : (S R : Shape) (tags : List Tag) (c : Call) (z h : ℤ) (corners : List Pair) → (r : Reaches S c tags R) → 3 ≤ length corners
    → AllByRecursion (NotRefused z) corners → AllByRecursion (NotRefused (z +ℤ h)) corners → TakesOnly S tags (row_of S c)
    → r.takes ≡ 13 * length corners + 6 → r.reaches ≡ (λ ts. (after_prism z h corners (start S ts)).shape) → PrismReached S tags z h corners R r.takes
made_prism S R tags c z h corners r three low high only takes reaches =
    let well = reached-well S c tags R r in
    let had = r.enough in
    let enough : 13 * length corners + 6 ≤ length tags = omega (arith, takes, had) in
    let is : R ≡ (after_prism z h corners (start S tags)).shape = r.reached ∙ ap (λ g. g tags) reaches in
    let live = subst (TakesOnly S tags) r.row_is only r.enough in
    record {
      takes_is = takes;
      few = three;
      enough = enough;
      stands = subst (λ X. PrismStands X S tags z h corners (length corners)) (sym is)
          (prism-stands S tags well r.ascend r.free z h corners (length corners) refl (omega (arith, three)) enough low high);
      all = subst (λ k. MadeOf S k tags R) takes (subst (MadeOf S r.takes tags) (sym r.reached) live);
    }

pub prism-reached : (S R : Shape) (tags : List Tag) (z h : ℤ) (corners : List Pair) → (r : Reaches S (Prism z h corners) tags R) → PrismReached S tags z h corners R r.takes
prism-reached S R tags z h corners r =
    let a = after-none (refuse_count corners) _ _ r.row_is in
    let b = after-none (refuse_outside is_coordinate (z ∷ [])) _ _ a.1 in
    let c = after-none (refuse_outside is_size (h ∷ [])) _ _ b.1 in
    let d = after-none (refuse_outside is_coordinate ((z +ℤ h) ∷ [])) _ _ c.1 in
    let e = after-none (refuse_corners corners) _ _ d.1 in
    let f = after-none (refuse_polygon corners) _ _ e.1 in
    let made = makes-same (13 * length corners + 6) (λ ts. (after_prism z h corners (start S ts)).shape) r.takes r.reaches f.1 in
    made_prism S R tags (Prism z h corners) z h corners r (three_corners corners a.0) (corners_within z corners b.0 e.0) (corners_within (z +ℤ h) corners d.0 e.0)
    (prism-takes S tags (reached-well S (Prism z h corners) tags R r) r.ascend r.free z h corners) made.takes_is made.reaches_is

-- ---- blocks

abbrev pub base : Triple → Triple → List Pair
base at size = rectangle at.x at.y size.x size.y

pub block-reached : (S R : Shape) (tags : List Tag) (at size : Triple) → (r : Reaches S (Block at size) tags R) → PrismReached S tags at.z size.z (base at size) R r.takes
block-reached S R tags at size r =
    let a = after-none (refuse_outside is_coordinate (numbers_of at)) _ _ r.row_is in
    let b = after-none (refuse_outside is_size (numbers_of size)) _ _ a.1 in
    let c = after-none (refuse_outside is_coordinate ((at.x +ℤ size.x) ∷ (at.y +ℤ size.y) ∷ (at.z +ℤ size.z) ∷ [])) _ _ b.1 in
    let made = makes-same 58 (λ ts. (after_prism at.z size.z (base at size) (start S ts)).shape) r.takes r.reaches c.1 in
    let near = outside-none is_coordinate (numbers_of at) a.0 in
    let far = outside-none is_coordinate ((at.x +ℤ size.x) ∷ (at.y +ℤ size.y) ∷ (at.z +ℤ size.z) ∷ []) c.0 in
    let corners = λ (z : ℤ) (high : IsTrue (is_coordinate z)).
    (let point = λ (x y : ℤ) (h : IsTrue (is_coordinate x)) (k : IsTrue (is_coordinate y)). within-none is_coordinate (x ∷ y ∷ z ∷ []) (h, (k, (high, tt))) in
    let all : AllByRecursion (NotRefused z) (base at size) =
    (point at.x at.y near.0 near.1.0, (point (at.x +ℤ size.x) at.y far.0 near.1.0, (point (at.x +ℤ size.x) (at.y +ℤ size.y) far.0 far.1.0, (point at.x (at.y +ℤ size.y) near.0 far.1.0, tt)))) in
    all) in
    made_prism S R tags (Block at size) at.z size.z (base at size) r (omega arith) (corners at.z near.1.1.0) (corners (at.z +ℤ size.z) far.1.1.0)
    (block-takes S tags (reached-well S (Block at size) tags R r) r.ascend r.free at size) made.takes_is made.reaches_is

pub block-vertices : (S R : Shape) (tags : List Tag) (at size : Triple) (takes : ℕ) → PrismReached S tags at.z size.z (base at size) R takes → BlockVertices R tags at size
block-vertices S R tags at size takes r =
    let p = r.stands.points in
    let u = r.stands.upper_points in
    record {
      lower = (p 0 (omega arith), (p 1 (omega arith), (p 2 (omega arith), (p 3 (omega arith), tt))));
      upper = (u 0 (omega arith), (u 1 (omega arith), (u 2 (omega arith), (u 3 (omega arith), tt))));
    }

-- the tags of the sweep are those from place 22 on
later : (tags : List Tag) (i : ℕ) → tag_at (sweep_tags tags 4) i ≡ tag_at tags (22 + i)
later tags i = get_or-drop 22 tags i (tag 0)

has-fins : (R : Shape) (tags : List Tag) (place : ℕ) (face loop_ : Tag) (fs : List Tag) (fins : List ℕ) → face ≡ tag_at tags place → loop_ ≡ tag_at tags (place + 1) → fs ≡ map (tag_at tags) fins
    → item_at R face ≡ Some (Face (tag_at tags 1) loop_) → item_at R loop_ ≡ Some (ring_of face fs) → HasFins R tags place fins
has-fins R tags place face loop_ fs fins a b c face_is list = record {
  face = ap (item_at R) (sym a) ∙ face_is ∙ ap (λ l. Some (Face (tag_at tags 1) l)) b;
  list = ap (item_at R) (sym b) ∙ list ∙ (λ i. Some (ring_of (a i) (c i)));
}

pub block-faces : (S R : Shape) (tags : List Tag) (at size : Triple) (takes : ℕ) → PrismReached S tags at.z size.z (base at size) R takes → BlockFaces R tags
block-faces S R tags at size takes r =
    let f = r.stands.faces in
    let s = f.sides in
    let t = tag_at tags in
    let U = sweep_tags tags 4 in
    let l = later tags in
    record {
      lower = record { face = f.lower; list = f.lower_list };
      upper = record { face = f.upper; list = f.upper_list ∙ (λ i. Some (ring_of (t 17) (l 20 i ∷ l 25 i ∷ l 30 i ∷ l 35 i ∷ []))) };
      first = has-fins R tags 38 (tag_at U 16) (tag_at U 17) (tag_at U 3 ∷ t 7 ∷ tag_at U 6 ∷ tag_at U 19 ∷ []) (25 ∷ 7 ∷ 28 ∷ 41 ∷ []) (l 16) (l 17) (λ i. l 3 i ∷ t 7 ∷ l 6 i ∷ l 19 i ∷ []) (s.faces 0 (omega arith)) (s.lists 0 (omega arith));
      second = has-fins R tags 43 (tag_at U 21) (tag_at U 22) (tag_at U 7 ∷ t 11 ∷ tag_at U 10 ∷ tag_at U 24 ∷ []) (29 ∷ 11 ∷ 32 ∷ 46 ∷ []) (l 21) (l 22) (λ i. l 7 i ∷ t 11 ∷ l 10 i ∷ l 24 i ∷ []) (s.faces 1 (omega arith)) (s.lists 1 (omega arith));
      third = has-fins R tags 48 (tag_at U 26) (tag_at U 27) (tag_at U 11 ∷ t 15 ∷ tag_at U 14 ∷ tag_at U 29 ∷ []) (33 ∷ 15 ∷ 36 ∷ 51 ∷ []) (l 26) (l 27) (λ i. l 11 i ∷ t 15 ∷ l 14 i ∷ l 29 i ∷ []) (s.faces 2 (omega arith)) (s.lists 2 (omega arith));
      fourth = has-fins R tags 53 (tag_at U 31) (tag_at U 32) (tag_at U 15 ∷ t 20 ∷ tag_at U 2 ∷ tag_at U 34 ∷ []) (37 ∷ 20 ∷ 24 ∷ 56 ∷ []) (l 31) (l 32) (λ i. l 15 i ∷ t 20 ∷ l 2 i ∷ l 34 i ∷ []) (s.faces 3 (omega arith)) (s.lists 3 (omega arith));
    }
