-- The order of tags, and the tags of blocks.
use Rattle.std.proofs.Common.{◌≡◌, ◌≢◌, ℕ, zero, suc, ◌+◌, ◌-◌, ◌*◌, ◌/◌, ◌%◌, ◌<◌, ◌≤◌, ⊎_elim, true, false, List, [], ◌∷◌, ◌++◌, length, take, drop, get_or, refl, sym, ap, subst, ◌∙◌, arith}
use Rattle.std.specs.Prelude.{◌==◌, nat_lt, map, slice_index, slice_index_or, Contains}
use Rattle.std.specs.List.{range_with_len, list_all, AllByRecursion}
use Rattle.std.specs.Cmp.{IsTotalOrder, nat_cmp_total}
use Rattle.std.specs.FinMap.{IsAntisymmetric, nat_cmp-IsAntisymmetric}
use Rattle.std.specs.Ordering.{eq_by_cmp, is_eq}
use Rattle.std.specs.declared.cmp.Ordering.{Ordering}
use Rattle.std.specs.declared.cmp.Ordering.TheVariants.{Less, Equal, Greater}
use Rattle.std.proofs.lemmas.Cmp.{on_total, tied_itself}
use Rattle.std.proofs.Math.Seq.{take-add}
use Rattle.std.proofs.lemmas.List.{take-append-drop, length-append, length-drop, get_or-drop, take-append-le, get_or_append_left, get_or-append_right}
use Rattle.std.proofs.lemmas.List.Concat.{flat_map-append}
use Rattle.std.proofs.lemmas.List.FromFn.{length-map-range_with_len, get_or-map-range_with_len}
use Rattle.std.proofs.lemmas.List.Elements.{Contains-append_left, Contains-append_right, Contains-append_cases}
use Rattle.std.proofs.lemmas.Bool.{cases_lt, eqb-true, eq-eqb, or_cases, or_left, or_right, and_parts, ltb-true}
use Rattle.pk_base.specs.declared.tag.Tag.{Tag}
use Rattle.list_facts.proofs.Elements.{not_in_nil, Contains-only}
use Rattle.list_facts.proofs.Each.{ByRecursion-append, ByRecursion-weaker, ByRecursion-contains, ByRecursion-at, ByRecursion-take}
pub use Rattle.pk_model.specs.Tags.{Ascends}
use Rattle.pk_base.specs.Blocks.{tag, block_of}
use Rattle.pk_model.specs.Tags.{TagsAscend, owns, next_tags, tag_at, tags_of, tags_of_block}
use Rattle.pk_model.specs.Maps.{tag_cmp}
use Rattle.pk_model.specs.Apart.{NoRepeats}
use Rattle.pk_model.specs.Sessions.{BlocksApart}

-- ---- the order

pub tag_total : IsTotalOrder tag_cmp
tag_total = on_total (λ (t : Tag). t.0) nat_cmp_total

pub tag_antisymmetric : IsAntisymmetric tag_cmp
tag_antisymmetric x y e = ap tag (nat_cmp-IsAntisymmetric x.0 y.0 e)

-- the test by which a map finds a tag
pub ties_itself : (t : Tag) → eq_by_cmp tag_cmp t t ≡ true
ties_itself t = ap is_eq (tied_itself tag_total t)

is_equal : (o : Ordering) → is_eq o ≡ true → o ≡ Equal
is_equal Less h = cc
is_equal Equal h = refl
is_equal Greater h = cc

pub same_from_tie : (t u : Tag) → eq_by_cmp tag_cmp t u ≡ true → t ≡ u
same_from_tie t u h = tag_antisymmetric t u (is_equal (tag_cmp t u) h)

pub ties_no_other : (t u : Tag) → t ≢ u → eq_by_cmp tag_cmp t u ≡ false
ties_no_other t u h = elim (eq_by_cmp tag_cmp t u) as (λ b. eq_by_cmp tag_cmp t u ≡ b → b ≡ false) [
  | true ↦ λ e. absurd (h (same_from_tie t u e))
  | false ↦ λ e. refl
] refl

-- ---- lengths, places and parts

pub length-tags_of_block : (b : ℕ) → length (tags_of_block b) ≡ 64
unfolding tags_of_block
length-tags_of_block b = length-map-range_with_len tag (64 * b) 64

pub tags_of-cons : (b : ℕ) (bs : List ℕ) → tags_of (b ∷ bs) ≡ tags_of_block b ++ tags_of bs
unfolding tags_of
tags_of-cons b bs = refl

pub tags_of-nil : tags_of [] ≡ []
unfolding tags_of
tags_of-nil = refl

pub tags_of-append : (bs cs : List ℕ) → tags_of (bs ++ cs) ≡ tags_of bs ++ tags_of cs
unfolding tags_of
tags_of-append bs cs = flat_map-append tags_of_block bs cs

pub length-tags_of : (blocks : List ℕ) → length (tags_of blocks) ≡ 64 * length blocks
length-tags_of [] = ap length tags_of-nil
length-tags_of (b ∷ bs) =
    let e = ap length (tags_of-cons b bs) in
    let f = length-append (tags_of_block b) (tags_of bs) in
    let g = length-tags_of_block b in
    let h = length-tags_of bs in
    omega arith

pub block_place : (b i : ℕ) (d : Tag) → i < 64 → get_or (tags_of_block b) i d ≡ tag (64 * b + i)
unfolding tags_of_block
block_place b i d h = get_or-map-range_with_len tag (64 * b) 64 i (64 * b + i) d h refl

later_quotient : (i : ℕ) → 64 ≤ i → i / 64 ≡ suc ((i - 64) / 64)
later_quotient i h = omega arith

later_rest : (i : ℕ) → 64 ≤ i → i % 64 ≡ (i - 64) % 64
later_rest i h = omega arith

-- the tag at a place: the blocks come one after the other
pub slice_index_or-tags_of : (blocks : List ℕ) (i : ℕ) (d : Tag) → i < 64 * length blocks → slice_index_or (tags_of blocks) i d ≡ tag (64 * slice_index blocks (i / 64) + i % 64)
slice_index_or-tags_of [] i d h = absurd (omega arith)
slice_index_or-tags_of (b ∷ bs) i d h =
    ap (λ l. get_or l i d) (tags_of-cons b bs)
    ∙ ⊎_elim (λ (l : i < 64).
    let in' : i < length (tags_of_block b) = omega (arith, length-tags_of_block b) in
    let q : i / 64 ≡ 0 = omega arith in
    let r : i % 64 ≡ i = omega arith in
    get_or_append_left (tags_of_block b) (tags_of bs) d i in'
    ∙ block_place b i d l
    ∙ ap tag (sym (rw (q, r) refl)))
    (λ (g : 64 ≤ i).
    get_or-append_right (tags_of_block b) (tags_of bs) 64 i d (length-tags_of_block b) g
    ∙ slice_index_or-tags_of bs (i - 64) d (omega arith)
    ∙ ap tag (sym (rw (later_quotient i g, later_rest i g) refl)))
    (cases_lt i 64)

pub tag_at-tags_of : (blocks : List ℕ) (i : ℕ) → i < 64 * length blocks → tag_at (tags_of blocks) i ≡ tag (64 * slice_index blocks (i / 64) + i % 64)
tag_at-tags_of blocks i h = slice_index_or-tags_of blocks i (tag 0) h

-- ---- what is taken, and what comes next

pub take-tags_of-more : (blocks : List ℕ) (used k : ℕ) → take (used + k) (tags_of blocks) ≡ take used (tags_of blocks) ++ take k (next_tags blocks used)
take-tags_of-more blocks used k = take-add used k (tags_of blocks)

pub length-next_tags : (blocks : List ℕ) (used : ℕ) → length (next_tags blocks used) ≡ 64 * length blocks - used
length-next_tags blocks used = length-drop used (tags_of blocks) ∙ ap (λ n. n - used) (length-tags_of blocks)

-- the place of a next tag
pub tag_at-next_tags : (blocks : List ℕ) (used i : ℕ) → tag_at (next_tags blocks used) i ≡ tag_at (tags_of blocks) (used + i)
tag_at-next_tags blocks used i = get_or-drop used (tags_of blocks) i (tag 0)

-- an appended block changes nothing of what is taken
pub take-tags_of-append : (bs cs : List ℕ) (used : ℕ) → used ≤ 64 * length bs → take used (tags_of (bs ++ cs)) ≡ take used (tags_of bs)
take-tags_of-append bs cs used h =
    let in' : used ≤ length (tags_of bs) = omega (arith, length-tags_of bs) in
    ap (take used) (tags_of-append bs cs) ∙ take-append-le used (tags_of bs) (tags_of cs) in'

-- ---- which tags they are

block_contains : (b : ℕ) (t : Tag) → b ≡ block_of t → Contains (tags_of_block b) t
block_contains b t e =
    let in' : t.0 % 64 < 64 = omega arith in
    let n : 64 * b + t.0 % 64 ≡ t.0 = omega arith in
    (t.0 % 64, omega (arith, length-tags_of_block b), block_place b (t.0 % 64) t in' ∙ ap tag n)

block_of_contained : (b : ℕ) (t : Tag) → Contains (tags_of_block b) t → b ≡ block_of t
block_of_contained b t (k, h, e) =
    let in' : k < 64 = omega (arith, length-tags_of_block b) in
    let n : 64 * b + k ≡ t.0 = ap (λ (x : Tag). x.0) (sym (block_place b k t in') ∙ e) in
    omega arith

-- a tag is among those of blocks exactly where its block is one of them
pub Contains-owns : (blocks : List ℕ) (t : Tag) → Contains (tags_of blocks) t → owns blocks t ≡ true
Contains-owns [] t h = absurd (not_in_nil t (subst (λ l. Contains l t) tags_of-nil h))
Contains-owns (b ∷ bs) t h =
    ⊎_elim (λ (l : Contains (tags_of_block b) t). or_left _ _ (eq-eqb b (block_of t) (block_of_contained b t l)))
    (λ (r : Contains (tags_of bs) t). or_right _ _ (Contains-owns bs t r))
    (Contains-append_cases (tags_of_block b) (tags_of bs) t (subst (λ l. Contains l t) (tags_of-cons b bs) h))

pub owns-Contains : (blocks : List ℕ) (t : Tag) → owns blocks t ≡ true → Contains (tags_of blocks) t
owns-Contains [] t h = absurd (cc)
owns-Contains (b ∷ bs) t h =
    subst (λ l. Contains l t) (sym (tags_of-cons b bs))
    (⊎_elim (λ (l : (b == block_of t) ≡ true). Contains-append_left (tags_of_block b) (tags_of bs) t (block_contains b t (eqb-true b (block_of t) l)))
    (λ (r : owns bs t ≡ true). Contains-append_right (tags_of_block b) (tags_of bs) t (owns-Contains bs t r))
    (or_cases _ _ h))

-- ---- no repeats

-- a tag that is none of these
abbrev pub NoneOf : Tag → List Tag → Type 0
NoneOf t us = AllByRecursion (λ u. t ≢ u) us

-- no tag of the one list is in the other
abbrev pub Disjoint : List Tag → List Tag → Type 0
Disjoint xs ys = AllByRecursion (λ x. NoneOf x ys) xs

pub NoRepeats-append : (xs ys : List Tag) → NoRepeats xs → NoRepeats ys → Disjoint xs ys → NoRepeats (xs ++ ys)
NoRepeats-append [] ys h k d = k
NoRepeats-append (x ∷ xs) ys h k d = (ByRecursion-append _ xs ys h.0 d.0, NoRepeats-append xs ys h.1 k d.1)

pub NoRepeats-take : (n : ℕ) (xs : List Tag) → NoRepeats xs → NoRepeats (take n xs)
NoRepeats-take zero xs h = tt
NoRepeats-take (suc n) [] h = tt
NoRepeats-take (suc n) (x ∷ xs) h = (ByRecursion-take _ n xs h.0, NoRepeats-take n xs h.1)

later_numbers : (a b n : ℕ) → a < b → AllByRecursion (λ u. tag a ≢ u) (map tag (range_with_len b n))
later_numbers a b zero h = tt
later_numbers a b (suc n) h = (λ e. let f : a ≡ b = ap (λ (x : Tag). x.0) e in omega arith, later_numbers a (b + 1) n (omega arith))

numbers_apart : (a n : ℕ) → NoRepeats (map tag (range_with_len a n))
numbers_apart a zero = tt
numbers_apart a (suc n) = (later_numbers a (a + 1) n (omega arith), numbers_apart (a + 1) n)

pub NoRepeats-tags_of_block : (b : ℕ) → NoRepeats (tags_of_block b)
unfolding tags_of_block
NoRepeats-tags_of_block b = numbers_apart (64 * b) 64

-- a tag of one block is in no other
pub not_owned : (b : ℕ) (bs : List ℕ) (x : Tag) → AllByRecursion (λ c. b ≢ c) bs → b ≡ block_of x → owns bs x ≡ true → ⊥
not_owned b [] x h p q = cc
not_owned b (c ∷ bs) x h p q =
    ⊎_elim (λ (l : (c == block_of x) ≡ true). h.0 (p ∙ sym (eqb-true c (block_of x) l))) (λ (r : owns bs x ≡ true). not_owned b bs x h.1 p r) (or_cases _ _ q)

-- tags of different blocks are different
pub Disjoint-tags_of_block : (b : ℕ) (bs : List ℕ) → AllByRecursion (λ c. b ≢ c) bs → Disjoint (tags_of_block b) (tags_of bs)
Disjoint-tags_of_block b bs h =
    ByRecursion-contains _ (tags_of_block b) (λ x hx. ByRecursion-contains _ (tags_of bs) (λ y hy e. not_owned b bs x h (block_of_contained b x hx) (Contains-owns bs x (subst (Contains (tags_of bs)) (sym e) hy))))

pub BlocksApart-ascends : (bs : List ℕ) → Ascends bs → BlocksApart bs
BlocksApart-ascends [] h = tt
BlocksApart-ascends (b ∷ bs) h = (ByRecursion-weaker _ _ (λ c l e. let k : b ≡ c = e in omega arith) bs h.0, BlocksApart-ascends bs h.1)

pub NoRepeats-blocks_apart : (bs : List ℕ) → BlocksApart bs → NoRepeats (tags_of bs)
NoRepeats-blocks_apart [] h = subst NoRepeats (sym tags_of-nil) tt
NoRepeats-blocks_apart (b ∷ bs) h =
    subst NoRepeats (sym (tags_of-cons b bs)) (NoRepeats-append (tags_of_block b) (tags_of bs) (NoRepeats-tags_of_block b) (NoRepeats-blocks_apart bs h.1) (Disjoint-tags_of_block b bs h.0))

pub NoRepeats-tags_of : (bs : List ℕ) → Ascends bs → NoRepeats (tags_of bs)
NoRepeats-tags_of bs h = NoRepeats-blocks_apart bs (BlocksApart-ascends bs h)

-- a block above all is drawn
pub Ascends-push : (bs : List ℕ) (b : ℕ) → Ascends bs → list_all (λ o. nat_lt o b) bs ≡ true → Ascends (bs ++ b ∷ [])
Ascends-push [] b h k = (tt, tt)
Ascends-push (c ∷ bs) b h k =
    let p = and_parts (nat_lt c b) (list_all (λ o. nat_lt o b) bs) k in
    (ByRecursion-append _ bs (b ∷ []) h.0 (ltb-true c b p.0, tt), Ascends-push bs b h.1 p.1)

-- ---- the tags of ascending blocks ascend

TagsAscend-append : (low : ℕ) (ts us : List Tag) → TagsAscend ts → TagsAscend us → AllByRecursion (λ t. t.0 < low) ts → AllByRecursion (λ u. low ≤ u.0) us → TagsAscend (ts ++ us)
TagsAscend-append low [] us h k b f = k
TagsAscend-append low (t ∷ ts) us h k b f = (ByRecursion-append _ ts us h.0 (ByRecursion-weaker _ _ (λ u l. omega (arith, b.0, l)) us f), TagsAscend-append low ts us h.1 k b.1 f)

numbers_from : (low a n : ℕ) → low ≤ a → AllByRecursion (λ u. low ≤ u.0) (map tag (range_with_len a n))
numbers_from low a zero h = tt
numbers_from low a (suc n) h = (h, numbers_from low (a + 1) n (omega arith))

numbers_below : (high a n : ℕ) → a + n ≤ high → AllByRecursion (λ u. u.0 < high) (map tag (range_with_len a n))
numbers_below high a zero h = tt
numbers_below high a (suc n) h = (omega arith, numbers_below high (a + 1) n (omega arith))

numbers_ascend : (a n : ℕ) → TagsAscend (map tag (range_with_len a n))
numbers_ascend a zero = tt
numbers_ascend a (suc n) = (ByRecursion-weaker _ _ (λ u l. omega (arith, l)) (map tag (range_with_len (a + 1) n)) (numbers_from (a + 1) (a + 1) n (omega arith)), numbers_ascend (a + 1) n)

block_from : (low b : ℕ) → low ≤ b → AllByRecursion (λ u. 64 * low ≤ u.0) (tags_of_block b)
unfolding tags_of_block
block_from low b h = numbers_from (64 * low) (64 * b) 64 (omega arith)

block_below : (b : ℕ) → AllByRecursion (λ u. u.0 < 64 * (b + 1)) (tags_of_block b)
unfolding tags_of_block
block_below b = numbers_below (64 * (b + 1)) (64 * b) 64 (omega arith)

block_ascends : (b : ℕ) → TagsAscend (tags_of_block b)
unfolding tags_of_block
block_ascends b = numbers_ascend (64 * b) 64

tags_from : (low : ℕ) (bs : List ℕ) → AllByRecursion (λ b. low ≤ b) bs → AllByRecursion (λ u. 64 * low ≤ u.0) (tags_of bs)
tags_from low [] h = subst (AllByRecursion (λ u. 64 * low ≤ u.0)) (sym tags_of-nil) tt
tags_from low (b ∷ bs) h = subst (AllByRecursion (λ u. 64 * low ≤ u.0)) (sym (tags_of-cons b bs)) (ByRecursion-append _ (tags_of_block b) (tags_of bs) (block_from low b h.0) (tags_from low bs h.1))

pub TagsAscend-tags_of : (bs : List ℕ) → Ascends bs → TagsAscend (tags_of bs)
TagsAscend-tags_of [] h = subst TagsAscend (sym tags_of-nil) tt
TagsAscend-tags_of (b ∷ bs) h =
    subst TagsAscend (sym (tags_of-cons b bs))
    (TagsAscend-append (64 * (b + 1)) (tags_of_block b) (tags_of bs) (block_ascends b) (TagsAscend-tags_of bs h.1) (block_below b) (tags_from (b + 1) bs (ByRecursion-weaker _ _ (λ c l. omega (arith, l)) bs h.0)))

pub TagsAscend-drop : (n : ℕ) (ts : List Tag) → TagsAscend ts → TagsAscend (drop n ts)
TagsAscend-drop zero ts h = h
TagsAscend-drop (suc n) [] h = tt
TagsAscend-drop (suc n) (t ∷ ts) h = TagsAscend-drop n ts h.1

pub TagsAscend-next_tags : (blocks : List ℕ) (used : ℕ) → Ascends blocks → TagsAscend (next_tags blocks used)
TagsAscend-next_tags blocks used h = TagsAscend-drop used (tags_of blocks) (TagsAscend-tags_of blocks h)

-- where no tag stands twice, none of the first part is in the second
pub NoRepeats-between : (xs ys : List Tag) (t : Tag) → NoRepeats (xs ++ ys) → Contains xs t → Contains ys t → ⊥
NoRepeats-between [] ys t n h k = not_in_nil t h
NoRepeats-between (x ∷ xs) ys t n h k =
    ⊎_elim (λ (l : Contains (x ∷ []) t). ByRecursion-at (λ u. x ≢ u) (xs ++ ys) t n.0 (Contains-append_right xs ys t k) (Contains-only x t l))
    (λ (r : Contains xs t). NoRepeats-between xs ys t n.1 r k)
    (Contains-append_cases (x ∷ []) xs t h)

-- a tag that was taken is none of the next
pub taken_or_next : (blocks : List ℕ) (used : ℕ) (t : Tag) → Ascends blocks → Contains (take used (tags_of blocks)) t → Contains (next_tags blocks used) t → ⊥
taken_or_next blocks used t h k l =
    NoRepeats-between (take used (tags_of blocks)) (drop used (tags_of blocks)) t (subst NoRepeats (sym (take-append-drop used (tags_of blocks))) (NoRepeats-tags_of blocks h)) k l
