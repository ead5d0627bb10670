-- Rows that are carried out one after another keep soundness.
use Rattle.std.proofs.Common.{◌≡◌, ℕ, zero, suc, ◌+◌, ◌-◌, ◌*◌, ◌<◌, ◌≤◌, ◌⊎◌, inl, inr, ⊎_elim, List, [], ◌∷◌, ◌++◌, length, take, drop, None, Result, Ok, Err, Option, Some, refl, sym, ap, subst, ◌∙◌, arith}
use Rattle.std.specs.Prelude.{ℤ, map, is_some, IsSome, not, Contains}
use Rattle.std.specs.List.{AllByRecursion, range_with_len}
use Rattle.std.proofs.lemmas.Bool.{true≢false}
use Rattle.std.proofs.Math.Seq.{take-add}
use Rattle.std.proofs.lemmas.List.{drop-drop, length-drop, length-append, length-map}
use Rattle.std.proofs.lemmas.List.FromFn.{length-map-range_with_len}
use Rattle.std.proofs.lemmas.List.Elements.{Contains-append_left, Contains-append_right}
use Rattle.pk_base.specs.Entity.{same_tag}
use Rattle.pk_base.specs.declared.tag.Tag.{Tag}
use Rattle.pk_base.specs.declared.entity.Pair.{Pair}
use Rattle.pk_base.specs.declared.entity.Triple.{Triple}
use Rattle.pk_base.specs.declared.refusal.Refusal.{Refusal}
use Rattle.pk_base.specs.declared.refusal.Refusal.TheVariants.{NotOneLoop, SameVertex}
use Rattle.pk_model.specs.Tags.{TagsAscend, tag_at}
use Rattle.pk_model.specs.Step.{◌>>=◌}
use Rattle.pk_model.proofs.TagLists.{TagsAscend-drop}
use Rattle.solid_model.specs.Items.{Shape, item_at}
use Rattle.solid_model.specs.Rows.{Row, refuse_where, ◌>>◌, cost_of}
use Rattle.solid_model.specs.Rows.Effect.{Makes, Changes, Tells}
use Rattle.solid_model.specs.Places.{end_at, fin_at, fins_at, outer_at}
use Rattle.solid_model.specs.Ranges.{is_coordinate, numbers_of, refuse_outside}
use Rattle.solid_model.specs.Mvfs.{mvfs}
use Rattle.solid_model.specs.Mev.{mev}
use Rattle.solid_model.specs.Mef.{mef}
use Rattle.solid_model.specs.Folds.{Progress, after_row, after_edges, after_path, after_cuts}
use Rattle.solid_model.specs.Lamina.{at_height, after_lamina}
use Rattle.solid_model.specs.Sweep.{along, after_sweep}
use Rattle.list_facts.proofs.Elements.{not_in_nil, Contains-later, Contains-cases}
use Rattle.list_facts.proofs.Each.{ByRecursion-contains, ByRecursion-at}
use Rattle.solid_sound.proofs.shapes.Found.{none_where}
use Rattle.solid_sound.proofs.rows.RowKeeps.{IsWell, Keeps}
use Rattle.solid_sound.proofs.rows.Taken.{LiveFrom, TakesOnly, live-same, mvfs-takes, mev-takes, mef-takes}
use Rattle.solid_sound.proofs.rows.KeptMvfs.{mvfs-keeps}
use Rattle.solid_sound.proofs.rows.KeptMev.{mev-keeps}
use Rattle.solid_sound.proofs.rows.KeptMef.{mef-keeps}

-- ---- tags that were taken, and tags that are left

pub in_drop : (k : ℕ) (ts : List Tag) (t : Tag) → Contains (drop k ts) t → Contains ts t
in_drop zero ts t h = h
in_drop (suc k) [] t h = h
in_drop (suc k) (u ∷ us) t h = Contains-later u us t (in_drop k us t h)

left_not_taken : (k : ℕ) (ts : List Tag) (t : Tag) → TagsAscend ts → Contains (take k ts) t → Contains (drop k ts) t → ⊥
left_not_taken zero ts t a h l = not_in_nil t h
left_not_taken (suc k) [] t a h l = not_in_nil t h
left_not_taken (suc k) (u ∷ us) t a h l = ⊎_elim
    (λ (e : u ≡ t).
    let less = ByRecursion-at (λ (v : Tag). u.0 < v.0) us t a.0 (in_drop k us t l) in
    let same : u.0 ≡ t.0 = ap (λ (v : Tag). v.0) e in
    omega (arith, less, same))
    (λ (r : Contains (take k us) t). left_not_taken k us t a.1 r l)
    (Contains-cases u (take k us) t h)

taken_before : (i j : ℕ) (ts : List Tag) (t : Tag) → Contains (take i ts) t → Contains (take (i + j) ts) t
taken_before i j ts t h = subst (λ us. Contains us t) (sym (take-add i j ts)) (Contains-append_left (take i ts) (take j (drop i ts)) t h)

taken_then : (i j : ℕ) (ts : List Tag) (t : Tag) → Contains (take j (drop i ts)) t → Contains (take (i + j) ts) t
taken_then i j ts t h = subst (λ us. Contains us t) (sym (take-add i j ts)) (Contains-append_right (take i ts) (take j (drop i ts)) t h)

taken_more : (i k : ℕ) (ts : List Tag) (t : Tag) → i ≤ k → Contains (take i ts) t → Contains (take k ts) t
taken_more i k ts t h c =
    let e : i + (k - i) ≡ k = omega (arith, h) in
    subst (λ n. Contains (take n ts) t) e (taken_before i (k - i) ts t c)

-- ---- how many tags a row takes

costs-after : (k : ℕ) (o : Option Refusal) (row : Row) → cost_of row ≤ k → cost_of (o >> row) ≤ k
costs-after k None row h = h
costs-after k (Some e) row h = omega arith

costs-bind : {A : Type 0} (k : ℕ) (r : Result A Refusal) (row : A → Row) → ((a : A) → cost_of (row a) ≤ k) → cost_of (r >>= row) ≤ k
costs-bind k (Ok a) row h = h a
costs-bind k (Err e) row h = omega arith

costs_mvfs : (S : Shape) (at : Triple) → cost_of (mvfs S at) ≤ 5
costs_mvfs S at = costs-after 5 (refuse_outside is_coordinate (numbers_of at)) _ (omega arith)

costs_mev : (S : Shape) (t : Tag) (at : Triple) → cost_of (mev S t at) ≤ 4
costs_mev S t at = costs-bind 4 (end_at S t) _ (λ u. costs-after 4 (refuse_outside is_coordinate (numbers_of at)) _ (omega arith))

costs_mef : (S : Shape) (f g : Tag) → cost_of (mef S f g) ≤ 5
costs_mef S f g = costs-bind 5 (fin_at S f) _ (λ u. costs-bind 5 (fin_at S g) _ (λ v.
    costs-after 5 (refuse_where (not (same_tag u.loop_ v.loop_)) (NotOneLoop u.loop_ v.loop_)) _ (costs-after 5 (refuse_where (same_tag u.vertex v.vertex) (SameVertex u.vertex)) _ (omega arith))))

-- ---- one row after another

-- A shape that is being made. It began as S with these tags, of which n were taken at most.
pub record Began (S : Shape) (tags : List Tag) (n : ℕ) (p : Progress) : Type 0 where
  pub taken : ℕ
  pub few : taken ≤ n
  pub tags_are : p.tags ≡ drop taken tags
  pub well : IsWell p.shape
  pub live : LiveFrom S (take taken tags) p.shape

-- nothing was made yet
abbrev pub start : Shape → List Tag → Progress
start S tags = record { shape = S; tags = tags }

pub began-start : (S : Shape) (tags : List Tag) → IsWell S → Began S tags 0 (start S tags)
began-start S tags well = record { taken = 0; few = omega arith; tags_are = refl; well = well; live = live-same S [] }

pub began-more : (S : Shape) (tags : List Tag) (n m : ℕ) (p : Progress) → n ≤ m → Began S tags n p → Began S tags m p
began-more S tags n m p h b = record { taken = b.taken; few = (let few = b.few in omega (arith, few, h)); tags_are = b.tags_are; well = b.well; live = b.live }

-- what is live in it was live at the beginning, or is one of these tags
pub began-live : (S : Shape) (tags : List Tag) (n : ℕ) (p : Progress) → Began S tags n p → LiveFrom S (take n tags) p.shape
began-live S tags n p b t h = ⊎_elim (λ (l : IsSome (item_at S t)). inl l) (λ (r : Contains (take b.taken tags) t). inr (taken_more b.taken n tags t b.few r)) (b.live t h)

-- S is the shape at the beginning, and these are the tags that there were.
module _ (S : Shape) (tags : List Tag) (ascend : TagsAscend tags) (free : AllByRecursion (λ t. item_at S t ≡ None) tags) where
  -- the tags that are left ascend, and are not live
  pub left-ascend : (n : ℕ) (p : Progress) → Began S tags n p → TagsAscend p.tags
  left-ascend n p b = subst TagsAscend (sym b.tags_are) (TagsAscend-drop b.taken tags ascend)

  pub left-free : (n : ℕ) (p : Progress) → Began S tags n p → AllByRecursion (λ t. item_at p.shape t ≡ None) p.tags
  left-free n p b = ByRecursion-contains (λ t. item_at p.shape t ≡ None) p.tags (λ t k.
      let left : Contains (drop b.taken tags) t = subst (λ ts. Contains ts t) b.tags_are k in
      let none : item_at S t ≡ None = ByRecursion-at (λ u. item_at S u ≡ None) tags t free (in_drop b.taken tags t left) in
      none_where (item_at p.shape t) (λ x e. ⊎_elim
      (λ (l : IsSome (item_at S t)). absurd (true≢false (sym l ∙ ap is_some none)))
      (λ (r : Contains (take b.taken tags) t). left_not_taken b.taken tags t ascend r left)
      (b.live t (ap is_some e))))

  pub left-enough : (n k : ℕ) (p : Progress) → Began S tags n p → n + k ≤ length tags → k ≤ length p.tags
  left-enough n k p b enough =
      let few = b.few in
      let long = ap length b.tags_are ∙ length-drop b.taken tags in
      omega (arith, few, long, enough)

  -- A row that keeps soundness and takes no tags but its own. So a fold of such rows does both.
  pub began-row : (n k : ℕ) (p : Progress) (row : Row) → Began S tags n p → cost_of row ≤ k → n + k ≤ length tags → Keeps p.tags row → TakesOnly p.shape p.tags row → Began S tags (n + k) (after_row row p)
  began-row n k p (Ok (Makes j reaches)) b cost enough keeps takes =
      let fits : j ≤ length p.tags = left-enough n j p b (omega (arith, cost, enough)) in
      record {
        taken = b.taken + j;
        few = (let few = b.few in omega (arith, few, cost));
        tags_are = ap (drop j) b.tags_are ∙ drop-drop j b.taken tags;
        well = keeps fits;
        live = λ t h. ⊎_elim {C = IsSome (item_at S t) ⊎ Contains (take (b.taken + j) tags) t}
            (λ (l : IsSome (item_at p.shape t)). ⊎_elim {C = IsSome (item_at S t) ⊎ Contains (take (b.taken + j) tags) t}
            (λ (was : IsSome (item_at S t)). inl was)
            (λ (before : Contains (take b.taken tags) t). inr (taken_before b.taken j tags t before))
            (b.live t l))
            (λ (r : Contains (take j p.tags) t). inr (taken_then b.taken j tags t (subst (λ ts. Contains (take j ts) t) b.tags_are r)))
            (takes fits t h);
      }
  began-row n k p (Ok (Changes reached)) b cost enough keeps takes = record {
    taken = b.taken;
    few = (let few = b.few in omega (arith, few));
    tags_are = b.tags_are;
    well = keeps;
    live = λ t h. ⊎_elim (λ (l : IsSome (item_at p.shape t)). b.live t l) (λ (r : Contains [] t). absurd (not_in_nil t r)) (takes t h);
  }
  began-row n k p (Ok (Tells reply)) b cost enough keeps takes = began-more S tags n (n + k) p (omega arith) b
  began-row n k p (Err e) b cost enough keeps takes = began-more S tags n (n + k) p (omega arith) b

  pub began-mvfs : (n : ℕ) (p : Progress) (at : Triple) → Began S tags n p → n + 5 ≤ length tags → Began S tags (n + 5) (after_row (mvfs p.shape at) p)
  began-mvfs n p at b enough = began-row n 5 p (mvfs p.shape at) b (costs_mvfs p.shape at) enough
      (mvfs-keeps p.shape p.tags at b.well (left-ascend n p b) (left-free n p b)) (mvfs-takes p.shape p.tags at)

  pub began-mev : (n : ℕ) (p : Progress) (t : Tag) (at : Triple) → Began S tags n p → n + 4 ≤ length tags → Began S tags (n + 4) (after_row (mev p.shape t at) p)
  began-mev n p t at b enough = began-row n 4 p (mev p.shape t at) b (costs_mev p.shape t at) enough
      (mev-keeps p.shape p.tags t at b.well (left-ascend n p b) (left-free n p b)) (mev-takes p.shape b.well p.tags t at)

  pub began-mef : (n : ℕ) (p : Progress) (f g : Tag) → Began S tags n p → n + 5 ≤ length tags → Began S tags (n + 5) (after_row (mef p.shape f g) p)
  began-mef n p f g b enough = began-row n 5 p (mef p.shape f g) b (costs_mef p.shape f g) enough
      (mef-keeps p.shape p.tags f g b.well (left-ascend n p b) (left-free n p b)) (mef-takes p.shape b.well p.tags f g)

  pub began-path : (n : ℕ) (t : Tag) (cs : List Triple) (p : Progress) → Began S tags n p → n + 4 * length cs ≤ length tags → Began S tags (n + 4 * length cs) (after_path t cs p)
  began-path n t [] p b enough = began-more S tags n (n + 4 * length {A = Triple} []) p (omega arith) b
  began-path n t (c ∷ cs) p b enough =
      let q = after_row (mev p.shape t c) p in
      let more : n + 4 + 4 * length cs ≤ n + 4 * length (c ∷ cs) = omega arith in
      began-more S tags (n + 4 + 4 * length cs) (n + 4 * length (c ∷ cs)) (after_path (tag_at p.tags 3) cs q) more
      (began-path (n + 4) (tag_at p.tags 3) cs q (began-mev n p t c b (omega (arith, enough))) (omega (arith, enough, more)))

  pub began-edges : (n : ℕ) (xs : List (Tag × Triple)) (p : Progress) → Began S tags n p → n + 4 * length xs ≤ length tags → Began S tags (n + 4 * length xs) (after_edges xs p)
  began-edges n [] p b enough = began-more S tags n (n + 4 * length {A = Tag × Triple} []) p (omega arith) b
  began-edges n (x ∷ xs) p b enough =
      let q = after_row (mev p.shape x.0 x.1) p in
      let more : n + 4 + 4 * length xs ≤ n + 4 * length (x ∷ xs) = omega arith in
      began-more S tags (n + 4 + 4 * length xs) (n + 4 * length (x ∷ xs)) (after_edges xs q) more
      (began-edges (n + 4) xs q (began-mev n p x.0 x.1 b (omega (arith, enough))) (omega (arith, enough, more)))

  -- one cut fewer than there are fins
  pub began-cuts : (n m : ℕ) (fs : List Tag) (p : Progress) → length fs ≤ m + 1 → Began S tags n p → n + 5 * m ≤ length tags → Began S tags (n + 5 * m) (after_cuts fs p)
  began-cuts n m [] p few b enough = began-more S tags n (n + 5 * m) p (omega arith) b
  began-cuts n m (f ∷ []) p few b enough = began-more S tags n (n + 5 * m) p (omega arith) b
  began-cuts n zero (f ∷ g ∷ fs) p few b enough = absurd (omega (arith, few))
  began-cuts n (suc m) (f ∷ g ∷ fs) p few b enough =
      let q = after_row (mef p.shape f g) p in
      began-more S tags (n + 5 + 5 * m) (n + 5 * suc m) (after_cuts (g ∷ fs) q) (omega arith)
      (began-cuts (n + 5) m (g ∷ fs) q (omega (arith, few)) (began-mef n p f g b (omega (arith, enough))) (omega (arith, enough)))

  -- ---- a lamina, and a sweep

  pub began-lamina : (n : ℕ) (z : ℤ) (corners : List Pair) (p : Progress) → Began S tags n p → n + (4 * length corners + 6) ≤ length tags → Began S tags (n + (4 * length corners + 6)) (after_lamina z corners p)
  began-lamina n z [] p b enough = began-more S tags n (n + (4 * length {A = Pair} [] + 6)) p (omega arith) b
  began-lamina n z (c ∷ cs) p b enough =
      let points = map (at_height z) cs in
      let long : length points ≡ length cs = length-map cs (at_height z) in
      let vertex = after_row (mvfs p.shape (at_height z c)) p in
      let path = after_path (tag_at p.tags 3) points vertex in
      began-more S tags (n + 5 + 4 * length points + 5) (n + (4 * length (c ∷ cs) + 6)) (after_lamina z (c ∷ cs) p) (omega (arith, long))
      (began-mef (n + 5 + 4 * length points) path (tag_at p.tags 7) (tag_at p.tags (4 * length (c ∷ cs)))
      (began-path (n + 5) (tag_at p.tags 3) points vertex (began-mvfs n p (at_height z c) b (omega (arith, enough))) (omega (arith, enough, long)))
      (omega (arith, enough, long)))

  pub began-sweep : (n k : ℕ) (face : Tag) (by : Triple) (p : Progress) → length (fins_at p.shape (outer_at p.shape face)) ≤ k → Began S tags n p → n + 9 * k ≤ length tags → Began S tags (n + 9 * k) (after_sweep face by p)
  began-sweep n k face by p few b enough =
      let fins = fins_at p.shape (outer_at p.shape face) in
      let ends = map (along p.shape by) fins in
      let long : length ends ≡ length fins = length-map fins (along p.shape by) in
      let backs = map (λ i. tag_at p.tags (4 * i + 3)) (range_with_len 0 (length fins)) in
      let back : length backs ≡ length fins = length-map-range_with_len (λ i. tag_at p.tags (4 * i + 3)) 0 (length fins) in
      let all = length-append backs (tag_at p.tags (4 * length fins + 4) ∷ []) in
      began-more S tags (n + 4 * length ends + 5 * k) (n + 9 * k) (after_sweep face by p) (omega (arith, long, few))
      (began-cuts (n + 4 * length ends) k (backs ++ tag_at p.tags (4 * length fins + 4) ∷ []) (after_edges ends p) (omega (arith, all, back, few))
      (began-edges n ends p b (omega (arith, enough, long, few))) (omega (arith, enough, long, few)))
