-- The path along the corners of a lamina: after each of its edges the next one can be made, and after the last one the
-- new face can be cut off.
use Rattle.std.proofs.Common.{◌≡◌, ◌≢◌, ℕ, zero, suc, ◌+◌, ◌*◌, ◌<◌, ◌≤◌, List, [], ◌∷◌, ◌++◌, length, drop, Some, None, Ok, refl, sym, ap, subst, ◌∙◌, add-one, arith}
use Rattle.std.specs.Prelude.{ℤ, map, Contains}
use Rattle.std.specs.List.{AllByRecursion}
use Rattle.std.proofs.lemmas.List.{drop-drop, get_or-drop}
use Rattle.std.proofs.lemmas.List.Elements.{Contains-append_right}
use Rattle.pk_base.specs.Blocks.{tag}
use Rattle.pk_base.specs.Entity.{same_tag}
use Rattle.pk_base.specs.declared.tag.Tag.{Tag}
use Rattle.pk_base.specs.declared.entity.Pair.{Pair}
use Rattle.pk_base.specs.declared.entity.Triple.{Triple}
use Rattle.pk_model.specs.Apart.{NoRepeats}
use Rattle.pk_model.specs.Tags.{TagsAscend, tag_at}
use Rattle.solid_model.specs.Items.{Shape, item_at, ◌with◌}
use Rattle.solid_model.specs.Items.Item.{Loop}
use Rattle.solid_model.specs.Rows.Effect.{Makes}
use Rattle.solid_model.specs.Owners.{owner_in}
use Rattle.solid_model.specs.Places.{End, end_in, end_of_item, end_at, PlacedFin, placed_fin, as_fin, asked, fin_at}
use Rattle.solid_model.specs.Ranges.{is_coordinate, numbers_of, refuse_outside}
use Rattle.solid_model.specs.Folds.{Progress, after_row, after_path}
use Rattle.solid_model.specs.Lamina.{at_height}
use Rattle.solid_model.specs.Mvfs.{mvfs}
use Rattle.solid_model.specs.Mev.{mev}
use Rattle.solid_model.specs.Mef.{mef}
use Rattle.list_facts.proofs.Elements.{Contains-first}
use Rattle.pk_base.proofs.Same.{same_itself, not_same}
use Rattle.solid_sound.proofs.shapes.Reading.{loop-of_fin}
use Rattle.solid_sound.proofs.shapes.Lookups.{with-written}
use Rattle.solid_sound.proofs.rows.Asked.{apart_at, free_at}
use Rattle.solid_sound.proofs.rows.RowKeeps.{IsWell}
use Rattle.solid_sound.proofs.rows.Progress.{Began, began-mev, began-mvfs, began-start, start, left-ascend, left-enough, left-free}
use Rattle.solid_sound.proofs.edges.Chains.{Chain, chain-first, chain-next}
use Rattle.solid_make.specs.Making.{AreInReach}
use Rattle.solid_make.proofs.Own.{IsOwn, own-mev, own-mvfs}
use Rattle.solid_make.proofs.Rows.{body_items, cut_items, edge_items, mef-is, mev-is, mvfs-is}

-- the next edge starts at this end, in the loop l
pub record EndFound (S : Shape) (l t : Tag) : Type 0 where
  pub end : End
  pub found : end_at S t ≡ Ok end
  pub in_loop : end.loop_ ≡ l

-- the fins between which the new face is cut off, in the loop l
pub record CutFound (S : Shape) (l f g : Tag) : Type 0 where
  pub u : PlacedFin
  pub v : PlacedFin
  pub u_found : fin_at S f ≡ Ok u
  pub v_found : fin_at S g ≡ Ok v
  pub u_in : u.loop_ ≡ l
  pub v_in : v.loop_ ≡ l
  pub apart : u.vertex ≢ v.vertex

-- S is the shape at the beginning, and these are the tags that there were.
module _ (S : Shape) (tags : List Tag) where
  -- the loop, its first vertex, and its first fin out
  abbrev pub ring : Tag
  ring = tag_at tags 3

  abbrev pub corner : Tag
  corner = tag_at tags 4

  abbrev pub out : Tag
  out = tag_at tags 7

  -- so many edges were made, and the next one starts at t
  abbrev pub IsEnd : ℕ → Tag → Progress → Type 0
  IsEnd zero t p = (t ≡ ring) × (p.tags ≡ drop 5 tags) × ((face : Tag) × (item_at p.shape ring ≡ Some (Loop face [] (Some corner))))
  IsEnd (suc i) t p = Chain ring out corner i t p.tags p

  pub record IsAlong (z : ℤ) (k : ℕ) (t : Tag) (p : Progress) : Type 0 where
    pub began : Began S tags (5 + 4 * k) p
    pub left : p.tags ≡ drop (5 + 4 * k) tags
    pub own : IsOwn S tags (5 + 4 * k) z p.shape
    pub new : item_at S t ≡ None
    pub end : IsEnd k t p

module _ (S : Shape) (tags : List Tag) (ascend : TagsAscend tags) (free : AllByRecursion (λ t. item_at S t ≡ None) tags) where
  -- ---- the first vertex

  pub along-start : (z : ℤ) (at : Triple) → IsWell S → refuse_outside is_coordinate (numbers_of at) ≡ None → at.z ≡ z → 5 ≤ length tags
      → IsAlong S tags z 0 (ring S tags) (after_row (mvfs S at) (start S tags))
  along-start z at well none height enough =
      let p = after_row (mvfs S at) (start S tags) in
      let is : p ≡ record { shape = S with body_items at tags; tags = drop 5 tags } = ap (λ r. after_row r (start S tags)) (mvfs-is S at none) in
      let apart = λ (i j : ℕ) (h : i < j) (k : j < 5). apart_at tags i j ascend h (omega (arith, k, enough)) in
      let once : NoRepeats (tag_at tags 0 ∷ tag_at tags 1 ∷ tag_at tags 2 ∷ tag_at tags 3 ∷ tag_at tags 4 ∷ []) = (
        (apart 0 1 (omega arith) (omega arith), (apart 0 2 (omega arith) (omega arith), (apart 0 3 (omega arith) (omega arith), (apart 0 4 (omega arith) (omega arith), tt)))),
        (
          (apart 1 2 (omega arith) (omega arith), (apart 1 3 (omega arith) (omega arith), (apart 1 4 (omega arith) (omega arith), tt))),
          ((apart 2 3 (omega arith) (omega arith), (apart 2 4 (omega arith) (omega arith), tt)), ((apart 3 4 (omega arith) (omega arith), tt), (tt, tt))),
        ),
      ) in
      let loop_is : item_at (S with body_items at tags) (tag_at tags 3) ≡ Some (Loop (tag_at tags 2) [] (Some (tag_at tags 4))) = with-written S (body_items at tags) _ _ once (3, omega arith, refl) in
      let own = own-mvfs S tags at well.written.ascends ascend enough in
      record {
        began = began-mvfs S tags ascend free 0 (start S tags) at (began-start S tags well) enough;
        left = ap (λ (q : Progress). q.tags) is;
        own = subst (λ (q : Progress). IsOwn S tags 5 z q.shape) (sym is) (subst (λ y. IsOwn S tags 5 y (S with body_items at tags)) height own);
        new = free_at S tags 3 free (omega (arith, enough));
        end = (refl, ap (λ (q : Progress). q.tags) is, (tag_at tags 2, ap (λ (q : Progress). item_at q.shape (tag_at tags 3)) is ∙ loop_is));
      }

  -- ---- the next edge

  found : (k : ℕ) (t : Tag) (p : Progress) → IsWell p.shape → IsEnd S tags k t p → EndFound p.shape (ring S tags) t
  found zero t p well e = record {
    end = end_in p.shape (corner S tags) (ring S tags) [];
    found = ap (end_at p.shape) e.0 ∙ ap (end_of_item p.shape (ring S tags)) e.2.1;
    in_loop = refl;
  }
  found (suc i) t p well c = record {
    end = _;
    found = ap (end_of_item p.shape t) c.last_is;
    in_loop = loop-of_fin p.shape well.written well.sound (ring S tags) c.face (((out S tags) ∷ c.outs) ++ t ∷ c.backs) None c.loop_is t (Contains-append_right ((out S tags) ∷ c.outs) (t ∷ c.backs) t (Contains-first t c.backs));
  }

  pub along-found : (z : ℤ) (k : ℕ) (t : Tag) (p : Progress) → IsAlong S tags z k t p → EndFound p.shape (ring S tags) t
  along-found z k t p a = found k t p a.began.well a.end

  pub along-row : (z : ℤ) (k : ℕ) (t : Tag) (p : Progress) (at : Triple) (a : IsAlong S tags z k t p) → refuse_outside is_coordinate (numbers_of at) ≡ None
      → mev p.shape t at ≡ Ok (Makes 4 (λ ts. p.shape with edge_items (along-found z k t p a).end at ts))
  along-row z k t p at a none = mev-is p.shape t at (along-found z k t p a).end (along-found z k t p a).found none

  end_next : (k : ℕ) (t : Tag) (p : Progress) (at : Triple) → IsWell p.shape → TagsAscend p.tags → AllByRecursion (λ u. item_at p.shape u ≡ None) p.tags → 4 ≤ length p.tags
      → refuse_outside is_coordinate (numbers_of at) ≡ None → IsEnd S tags k t p → IsEnd S tags (suc k) (tag_at p.tags 3) (after_row (mev p.shape t at) p)
  end_next zero t p at well up none_live long none e =
      let q = after_row (mev p.shape (ring S tags) at) p in
      let c = chain-first p.shape p.tags well up none_live (ring S tags) e.2.0 (corner S tags) at e.2.1 long none in
      let first : tag_at p.tags 2 ≡ (out S tags) = ap (λ ts. tag_at ts 2) e.1 ∙ get_or-drop 5 tags 2 (tag 0) in
      let here : Chain (ring S tags) (tag_at p.tags 2) (corner S tags) 0 (tag_at p.tags 3) q.tags q = subst (λ ts. Chain (ring S tags) (tag_at p.tags 2) (corner S tags) 0 (tag_at p.tags 3) ts q) (sym c.tags_are) c in
      let named : Chain (ring S tags) (out S tags) (corner S tags) 0 (tag_at p.tags 3) q.tags q = subst (λ f. Chain (ring S tags) f (corner S tags) 0 (tag_at p.tags 3) q.tags q) first here in
      subst (λ u. IsEnd S tags 1 (tag_at p.tags 3) (after_row (mev p.shape u at) p)) (sym e.0) named
  end_next (suc i) t p at well up none_live long none c =
      let q = after_row (mev p.shape t at) p in
      let n = chain-next p.shape p.tags well up none_live (ring S tags) (out S tags) (corner S tags) i t p.tags c at long none in
      let here : Chain (ring S tags) (out S tags) (corner S tags) (i + 1) (tag_at p.tags 3) q.tags q = subst (λ ts. Chain (ring S tags) (out S tags) (corner S tags) (i + 1) (tag_at p.tags 3) ts q) (sym n.tags_are) n in
      subst (λ j. Chain (ring S tags) (out S tags) (corner S tags) j (tag_at p.tags 3) q.tags q) (add-one i) here

  pub along-next : (z : ℤ) (k : ℕ) (t : Tag) (p : Progress) (at : Triple) → IsAlong S tags z k t p → refuse_outside is_coordinate (numbers_of at) ≡ None → at.z ≡ z → 5 + 4 * k + 4 ≤ length tags
      → IsAlong S tags z (k + 1) (tag_at p.tags 3) (after_row (mev p.shape t at) p)
  along-next z k t p at a none height enough =
      let n = 5 + 4 * k in
      let q = after_row (mev p.shape t at) p in
      let f = along-found z k t p a in
      let row = along-row z k t p at a none in
      let long = left-enough S tags ascend free n 4 p a.began enough in
      let up = left-ascend S tags ascend free n p a.began in
      let none_live = left-free S tags ascend free n p a.began in
      let more : n + 4 ≡ 5 + 4 * (k + 1) = omega arith in
      let made : after_row (mev p.shape t at) p ≡ record { shape = p.shape with edge_items f.end at p.tags; tags = drop 4 p.tags } = ap (λ r. after_row r p) row in
      let l_new : item_at S f.end.loop_ ≡ None = ap (item_at S) f.in_loop ∙ free_at S tags 3 free (omega (arith, enough)) in
      let own = own-mev S tags p.shape p.tags n z a.left a.began.well up none_live a.own t at f.end f.found a.new l_new height enough long in
      let next : tag_at p.tags 3 ≡ tag_at tags (n + 3) = ap (λ ts. tag_at ts 3) a.left ∙ get_or-drop n tags 3 (tag 0) in
      record {
        began = subst (λ m. Began S tags m q) more (began-mev S tags ascend free n p t at a.began enough);
        left = ap (λ (r : Progress). r.tags) made ∙ ap (drop 4) a.left ∙ drop-drop 4 n tags ∙ ap (λ m. drop m tags) more;
        own = subst (λ m. IsOwn S tags m z q.shape) more (subst (λ (r : Progress). IsOwn S tags (n + 4) z r.shape) (sym made) own);
        new = ap (item_at S) next ∙ free_at S tags (n + 3) free (omega (arith, enough));
        end = subst (λ m. IsEnd S tags m (tag_at p.tags 3) q) (sym (add-one k)) (end_next k t p at a.began.well up none_live long none a.end);
      }

  -- ---- the new face

  cut : (i : ℕ) (t : Tag) (p : Progress) → IsWell p.shape → Chain (ring S tags) (out S tags) (corner S tags) i t p.tags p → CutFound p.shape (ring S tags) (out S tags) t
  cut i t p well c =
      let list = ((out S tags) ∷ c.outs) ++ t ∷ c.backs in
      let in_ring = λ (f : Tag) (k : Contains list f). loop-of_fin p.shape well.written well.sound (ring S tags) c.face list None c.loop_is f k in
      let first_in : Contains list (out S tags) = Contains-first (out S tags) (c.outs ++ t ∷ c.backs) in
      let last_in : Contains list t = Contains-append_right ((out S tags) ∷ c.outs) (t ∷ c.backs) t (Contains-first t c.backs) in
      record {
        u = placed_fin p.shape (out S tags) c.mate c.edge (corner S tags) (owner_in p.shape (out S tags));
        v = placed_fin p.shape t c.last_mate c.last_edge c.last (owner_in p.shape t);
        u_found = ap (asked (as_fin p.shape (out S tags)) (out S tags)) c.first_is;
        v_found = ap (asked (as_fin p.shape t) t) c.last_is;
        u_in = in_ring (out S tags) first_in;
        v_in = in_ring t last_in;
        apart = λ e. c.apart (sym e);
      }

  pub along-cut : (z : ℤ) (i : ℕ) (t : Tag) (p : Progress) → IsAlong S tags z (suc i) t p → CutFound p.shape (ring S tags) (out S tags) t
  along-cut z i t p a = cut i t p a.began.well a.end

  pub cut-row : (R : Shape) (l f g : Tag) (c : CutFound R l f g) → mef R f g ≡ Ok (Makes 5 (λ ts. R with cut_items g c.u c.v ts))
  cut-row R l f g c =
      mef-is R f g c.u c.v c.u_found c.v_found (ap (same_tag c.u.loop_) (c.v_in ∙ sym c.u_in) ∙ same_itself c.u.loop_) (not_same c.u.vertex c.v.vertex c.apart)

  -- ---- the whole path

  -- after the edges to these corners
  pub record PathEnd (z : ℤ) (k : ℕ) (p : Progress) : Type 0 where
    pub end : Tag
    pub along : IsAlong S tags z k end p
    pub place : 1 ≤ k → end ≡ tag_at tags (4 + 4 * k)

  pub along-path : (z : ℤ) (cs : List Pair) (k : ℕ) (t : Tag) (p : Progress) → AreInReach z cs → 5 + 4 * k + 4 * length cs ≤ length tags → IsAlong S tags z k t p → (1 ≤ k → t ≡ tag_at tags (4 + 4 * k))
      → PathEnd z (k + length cs) (after_path t (map (at_height z) cs) p)
  along-path z [] k t p reach enough a place = subst (λ j. PathEnd z j p) (let same : k ≡ k + length {A = Pair} [] = omega arith in same) (record { end = t; along = a; place = place })
  along-path z (c ∷ cs) k t p reach enough a place =
      let n = 5 + 4 * k in
      let fits : n + 4 ≤ length tags = omega (arith, enough) in
      let next = along-next z k t p (at_height z c) a reach.0 refl fits in
      let same : n + 3 ≡ 4 + 4 * (k + 1) = omega arith in
      let here : tag_at p.tags 3 ≡ tag_at tags (4 + 4 * (k + 1)) = ap (λ ts. tag_at ts 3) a.left ∙ get_or-drop n tags 3 (tag 0) ∙ ap (tag_at tags) same in
      let more : k + 1 + length cs ≡ k + length (c ∷ cs) = omega arith in
      subst (λ j. PathEnd z j (after_path t (map (at_height z) (c ∷ cs)) p)) more
      (along-path z cs (k + 1) (tag_at p.tags 3) (after_row (mev p.shape t (at_height z c)) p) reach.1 (omega (arith, enough)) next (λ h. here))
