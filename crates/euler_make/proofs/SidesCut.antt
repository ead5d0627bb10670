-- The cuts behind fins of one loop, one after another: what stands there once the first i of them are made.
use Rattle.std.proofs.Common.{◌≡◌, ◌≢◌, ℕ, zero, suc, ◌+◌, ◌*◌, ◌-◌, ◌<◌, ◌≤◌, ◌⊎◌, inl, inr, ⊎_elim, List, [], ◌∷◌, ◌++◌, length, take, drop, get_or, Option, Some, None, refl, sym, ap, subst, ◌∙◌, append_assoc, append-nil, arith}
use Rattle.std.specs.Prelude.{map, Contains, IsOk}
use Rattle.std.specs.List.{AllByRecursion}
use Rattle.std.proofs.Math.Seq.{drop-length}
use Rattle.std.proofs.lemmas.List.{drop-drop, drop_more, get_or-take, length-append, length-drop, length-take-le}
use Rattle.std.proofs.lemmas.List.Elements.{Contains-append_left, Contains-append_right, Contains-get_or}
use Rattle.pk_base.specs.Blocks.{tag}
use Rattle.pk_base.specs.declared.tag.Tag.{Tag}
use Rattle.pk_base.specs.declared.call.Call.TheVariants.{Mef}
use Rattle.pk_model.specs.Apart.{NoRepeats}
use Rattle.pk_model.specs.Tags.{TagsAscend, tag_at}
use Rattle.list_facts.proofs.Elements.{Contains-first, Contains-later, Contains-cases}
use Rattle.list_facts.proofs.Each.{ByRecursion-at}
use Rattle.solid_model.specs.Items.{Shape, item_at}
use Rattle.solid_model.specs.Rings.{first_tag}
use Rattle.solid_model.specs.Places.{fins_at, start_at}
use Rattle.solid_model.specs.Folds.{Progress, after_row, after_cuts}
use Rattle.solid_model.specs.Mef.{mef}
use Rattle.solid_model.specs.Room.{tags_put}
use Rattle.solid_model.proofs.lists.Neighbours.{head_or}
use Rattle.solid_sound.proofs.rows.RowKeeps.{IsWell}
use Rattle.solid_sound.proofs.rows.Progress.{start, Began, began-start, began-mef, left-ascend, left-free, left-enough}
use Rattle.euler_make.specs.Cutting.{Stand, StandFrom, StandInLoop, tags_cut}
use Rattle.euler_make.proofs.CutMade.{CutMade, cut-made}
use Rattle.euler_make.proofs.EdgesRaised.{taken-within, in_either}

-- The first i cuts were made, behind the first i of the fins. What stands in the loop then are the other fins, and behind
-- them those that the cuts left.
pub record Cutting (S : Shape) (l : Tag) (fins tags : List Tag) (i : ℕ) (p : Progress) : Type 0 where
  pub began : Began S tags (5 * i) p
  pub tags_are : p.tags ≡ drop (5 * i) tags
  pub left : List Tag
  pub long : length left ≡ i
  pub first : head_or (tag_at p.tags 4) left ≡ tag_at tags 4
  pub stand : StandInLoop p.shape l (drop i fins ++ left)
  pub apart : NoRepeats (map (start_at p.shape) (drop i fins ++ left))
  pub fins_in : (t : Tag) → Contains (fins_at p.shape l) t → Contains (fins_at S l) t ⊎ Contains (take (5 * i) tags) t
  pub total : after_cuts (drop i fins ++ tag_at tags 4 ∷ []) p ≡ after_cuts (fins ++ tag_at tags 4 ∷ []) (start S tags)

-- where the cut behind the fin at a place leads
abbrev pub cut_to : List Tag → List Tag → ℕ → Tag
cut_to fins tags i = head_or (tag_at tags 4) (drop (i + 1) fins)

-- what comes behind the first of the fins, in the loop and in the fold
pub record Second (rest left : List Tag) (y : Tag) : Type 0 where
  pub to_left : List Tag
  pub to_fold : List Tag
  pub in_left : rest ++ left ≡ head_or y rest ∷ to_left
  pub in_fold : rest ++ y ∷ [] ≡ head_or y rest ∷ to_fold

pub second : (rest left : List Tag) (y z : Tag) → 1 ≤ length rest + length left → head_or z left ≡ y → Second rest left y
second [] [] y z some is = absurd (omega (arith, some))
second [] (a ∷ left) y z some is = record { to_left = left; to_fold = []; in_left = ap (λ u. u ∷ left) is; in_fold = refl }
second (r ∷ rest) left y z some is = record { to_left = rest ++ left; to_fold = rest ++ y ∷ []; in_left = refl; in_fold = refl }

head_more : (a y : Tag) (left : List Tag) → head_or a (left ++ y ∷ []) ≡ head_or y left
head_more a y [] = refl
head_more a y (x ∷ left) = refl

module _ (S : Shape) (l : Tag) (fins tags : List Tag) where
  pub cutting-start : IsWell S → StandInLoop S l fins → NoRepeats (map (start_at S) fins) → Cutting S l fins tags 0 (start S tags)
  cutting-start well stand apart = record {
    began = began-start S tags well;
    tags_are = refl;
    left = [];
    long = refl;
    first = refl;
    stand = subst (StandInLoop S l) (sym (append-nil fins)) stand;
    apart = subst (λ us. NoRepeats (map (start_at S) us)) (sym (append-nil fins)) apart;
    fins_in = λ t k. inl k;
    total = refl;
  }

  module _ (ascend : TagsAscend tags) (free : AllByRecursion (λ t. item_at S t ≡ None) tags) (two : 2 ≤ length fins) (i : ℕ) (p : Progress) (r : Cutting S l fins tags i p)
      (less : i < length fins) (enough : 5 * (i + 1) ≤ length tags) where
    abbrev from : Tag
    from = get_or fins i (tag 0)

    abbrev to : Tag
    to = cut_to fins tags i

    abbrev rest : List Tag
    rest = drop (i + 1) fins

    left_is : drop i fins ≡ from ∷ rest
    left_is = drop_more fins i (tag 0) less

    abbrev pub next : Second rest r.left (tag_at tags 4)
    next =
        let dropped = length-drop (i + 1) fins in
        let long = r.long in
        second rest r.left (tag_at tags 4) (tag_at p.tags 4) (omega (arith, dropped, long, two, less)) r.first

    all_is : drop i fins ++ r.left ≡ from ∷ to ∷ next.to_left
    all_is = ap (λ us. us ++ r.left) left_is ∙ ap (λ us. from ∷ us) next.in_left

    stand_now : StandFrom p.shape l from (to ∷ next.to_left)
    stand_now = subst (StandInLoop p.shape l) all_is r.stand

    apart_now : NoRepeats (map (start_at p.shape) (from ∷ to ∷ next.to_left))
    apart_now = subst (λ us. NoRepeats (map (start_at p.shape) us)) all_is r.apart

    fits : 5 ≤ length p.tags
    fits = left-enough S tags ascend free (5 * i) 5 p r.began (omega (arith, enough))

    pub cut : CutMade p.shape p.tags l from to next.to_left
    cut = cut-made p.shape p.tags r.began.well (left-ascend S tags ascend free (5 * i) p r.began) (left-free S tags ascend free (5 * i) p r.began) fits
        l from to next.to_left stand_now apart_now.0.0

    -- the shape and the tags that the cut leaves
    abbrev pub now : Progress
    now = record { shape = cut.shape; tags = drop 5 p.tags }

    now_is : after_row (mef p.shape from to) p ≡ now
    now_is = cut.after

    abbrev y : Tag
    y = tag_at p.tags 4

    five_more : 5 * i + 5 ≡ 5 * (i + 1)
    five_more = omega arith

    order : to ∷ next.to_left ++ y ∷ [] ≡ rest ++ (r.left ++ y ∷ [])
    order = ap (λ us. us ++ y ∷ []) (sym next.in_left) ∙ append_assoc rest r.left (y ∷ [])

    pub cutting-next : Cutting S l fins tags (i + 1) now
    cutting-next =
        let began : Began S tags (5 * i + 5) now = subst (Began S tags (5 * i + 5)) now_is (began-mef S tags ascend free (5 * i) p from to r.began (omega (arith, enough))) in
        record {
          began = subst (λ n. Began S tags n now) five_more began;
          tags_are = ap (drop 5) r.tags_are ∙ drop-drop 5 (5 * i) tags ∙ ap (λ n. drop n tags) five_more;
          left = r.left ++ y ∷ [];
          long = (let long = r.long in let more = length-append r.left (y ∷ []) in omega (arith, long, more));
          first = head_more (tag_at (drop 5 p.tags) 4) y r.left ∙ r.first;
          stand = subst (StandInLoop cut.shape l) order cut.stand;
          apart = subst (λ us. NoRepeats (map (start_at cut.shape) us)) order (cut.apart apart_now);
          fins_in = λ t k. ⊎_elim {C = Contains (fins_at S l) t ⊎ Contains (take (5 * (i + 1)) tags) t}
              (λ (was : Contains (fins_at p.shape l) t). ⊎_elim {C = Contains (fins_at S l) t ⊎ Contains (take (5 * (i + 1)) tags) t}
              (λ (old : Contains (fins_at S l) t). inl old)
              (λ (taken : Contains (take (5 * i) tags) t). inr (taken-within 0 (5 * i) (5 * (i + 1)) tags t (omega arith) taken))
              (r.fins_in t was))
              (λ (new : t ≡ y). inr (taken-within (5 * i) 5 (5 * (i + 1)) tags t (omega arith) (subst (λ ts. Contains (take 5 ts) t) r.tags_are (subst (Contains (take 5 p.tags)) (sym new) (y_taken p.tags fits)))))
              (cut.fins t k);
          total =
              let here : drop i fins ++ tag_at tags 4 ∷ [] ≡ from ∷ to ∷ next.to_fold = ap (λ us. us ++ tag_at tags 4 ∷ []) left_is ∙ ap (λ us. from ∷ us) next.in_fold in
              let there : after_cuts (from ∷ to ∷ next.to_fold) p ≡ after_cuts (to ∷ next.to_fold) now = ap (after_cuts (to ∷ next.to_fold)) now_is in
              ap (λ us. after_cuts us now) next.in_fold ∙ sym there ∙ sym (ap (λ us. after_cuts us p) here) ∙ r.total;
        }
      where
        y_taken : (ts : List Tag) → 5 ≤ length ts → Contains (take 5 ts) (tag_at ts 4)
        y_taken ts e = subst (Contains (take 5 ts)) (get_or-take 5 ts 4 (tag 0) (omega arith)) (Contains-get_or (take 5 ts) 4 (tag 0) (omega (arith, length-take-le 5 ts e)))

    -- the tags that the cut puts
    pub cut-puts : i + 1 ≤ length fins → (t : Tag) → Contains (tags_put p.shape (Mef from to) p.tags) t → Contains (tags_cut S l (length fins) tags) t
    cut-puts few t k = in_either (take 5 p.tags) (l ∷ fins_at p.shape l) t (cut.puts t k)
        (λ (c : Contains (take 5 p.tags) t). Contains-append_left (take (5 * length fins) tags) (l ∷ fins_at S l) t
        (taken-within (5 * i) 5 (5 * length fins) tags t (omega (arith, few)) (subst (λ ts. Contains (take 5 ts) t) r.tags_are c)))
        (λ (c : Contains (l ∷ fins_at p.shape l) t). ⊎_elim {C = Contains (tags_cut S l (length fins) tags) t}
        (λ (e : l ≡ t). Contains-append_right (take (5 * length fins) tags) (l ∷ fins_at S l) t (subst (Contains (l ∷ fins_at S l)) e (Contains-first l (fins_at S l))))
        (λ (q : Contains (fins_at p.shape l) t). ⊎_elim {C = Contains (tags_cut S l (length fins) tags) t}
        (λ (old : Contains (fins_at S l) t). Contains-append_right (take (5 * length fins) tags) (l ∷ fins_at S l) t (Contains-later l (fins_at S l) t old))
        (λ (taken : Contains (take (5 * i) tags) t). Contains-append_left (take (5 * length fins) tags) (l ∷ fins_at S l) t (taken-within 0 (5 * i) (5 * length fins) tags t (omega (arith, few)) taken))
        (r.fins_in t q))
        (Contains-cases l (fins_at p.shape l) t c))

  -- all cuts are made
  pub cutting-end : (p : Progress) → 1 ≤ length fins → Cutting S l fins tags (length fins) p → p ≡ after_cuts (fins ++ tag_at tags 4 ∷ []) (start S tags)
  cutting-end p some r = ap (λ us. after_cuts (us ++ tag_at tags 4 ∷ []) p) (sym (drop-length fins)) ∙ r.total
