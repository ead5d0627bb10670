-- The first mark of a tag, over a replay, for any modeller.
use Rattle.std.proofs.Common.{◌≡◌, ◌≢◌, ℕ, ◌+◌, ◌-◌, ◌*◌, ◌≤◌, Bool, true, false, cond, List, [], ◌∷◌, ◌++◌, length, take, drop, Option, Some, None, Ok, Err, refl, sym, ap, subst, ◌∙◌, arith}
use Rattle.std.specs.Prelude.{◌<◌, if◌then◌else◌, map, find, Contains}
use Rattle.std.specs.Option.{option_or}
use Rattle.std.specs.List.{AllByRecursion}
use Rattle.std.proofs.lemmas.Bool.{ne_eqb}
use Rattle.std.proofs.lemmas.Option.{same_Some}
use Rattle.std.proofs.lemmas.List.{length-append, take-append-drop, take_more}
use Rattle.std.proofs.lemmas.List.Folds.{find-append}
use Rattle.std.proofs.lemmas.List.Elements.{Contains-append_left, Contains-append_right}
use Rattle.pk_base.specs.Entity.{same_tag, same_optional}
use Rattle.pk_base.specs.declared.tag.Tag.{Tag}
use Rattle.pk_base.specs.declared.act.Act.TheVariants as act
use Rattle.pk_base.specs.declared.act.Entry.{Entry}
use Rattle.pk_base.specs.declared.act.Entry.TheVariants.{Did}
use Rattle.pk_base.specs.declared.refusal.Refusal.TheVariants as refusal
use Rattle.pk_base.specs.Blocks.{tag}
use Rattle.pk_base.proofs.Same.{same_tag-Decides}
use Rattle.pk_model.specs.Tags.{owns, next_tags, tag_at, tags_of}
use Rattle.pk_model.specs.State.{Mark, PartitionState, initial_mark, opening}
use Rattle.pk_model.specs.Modelling.{Modelling}
use Rattle.pk_model.specs.Step.{mark_at, live_mark, parent_of, after_deletion, deleted_mark}
use Rattle.pk_model.specs.Replay.{replay_from, replay}
use Rattle.pk_model.specs.Apart.{NoRepeats}
use Rattle.pk_model.proofs.TagLists.{Ascends, Ascends-push, length-tags_of, tag_at-next_tags, take-tags_of-more, take-tags_of-append, NoRepeats-take, NoRepeats-tags_of, Contains-owns}
use Rattle.pk_model.proofs.Transitions.{EachWay, replay_way}
use Rattle.pk_model.proofs.TagsTaken.{first_tag, ByRecursion-find}
use Rattle.list_facts.proofs.Elements.{Contains-first}
use Rattle.list_facts.proofs.Each.{ByRecursion-append, ByRecursion-weaker, ByRecursion-map, ByRecursion-at}

-- ---- what a search finds

-- what is found passes the test
find_passes : {X : Type 0} (test : X → Bool) (xs : List X) (x : X) → find test xs ≡ Some x → test x ≡ true
find_passes test [] x h = absurd (cc)
find_passes test (y ∷ ys) x h =
    elim (test y) as (λ b. test y ≡ b → cond b (Some y) (find test ys) ≡ Some x → test x ≡ true) [
      | true ↦ λ is k. subst (λ z. test z ≡ true) (same_Some y x k) is
      | false ↦ λ is k. find_passes test ys x k
    ] refl h

-- where no element passes, nothing is found
find_none : {X : Type 0} (test : X → Bool) (xs : List X) → AllByRecursion (λ x. test x ≡ false) xs → find test xs ≡ None
find_none test [] h = refl
find_none test (x ∷ xs) h = ap (λ b. cond b (Some x) (find test xs)) h.0 ∙ find_none test xs h.1

-- the first mark of this tag
abbrev pub find_mark : Tag → List Mark → Option Mark
find_mark m marks = find (λ (k : Mark). same_tag k.tag m) marks

pub find_mark-tag : (m : Tag) (marks : List Mark) (k : Mark) → find_mark m marks ≡ Some k → k.tag ≡ m
find_mark-tag m marks k h = (same_tag-Decides k.tag m).0 (find_passes (λ (x : Mark). same_tag x.tag m) marks k h)

-- what a mark is after a deletion: deleted itself, below another parent, or as before
pub deletion_by : (P : Mark → Type 0) (n q : Tag) (k : Mark) → (same_tag k.tag n ≡ true → P (deleted_mark k)) → (same_tag k.tag n ≡ false → same_optional k.parent (Some n) ≡ true → P (record k { parent = Some q })) → (same_tag k.tag n ≡ false → P k) → P (after_deletion n q k)
deletion_by P n q k gone child other =
    elim (same_tag k.tag n) as (λ b. same_tag k.tag n ≡ b → P (cond b (deleted_mark k) (cond (same_optional k.parent (Some n)) (record k { parent = Some q }) k))) [
      | true ↦ λ is. gone is
      | false ↦ λ is.
          elim (same_optional k.parent (Some n)) as (λ b. same_optional k.parent (Some n) ≡ b → P (cond b (record k { parent = Some q }) k)) [
            | true ↦ λ below. child is below
            | false ↦ λ below. other is
          ] refl
    ] refl

-- a deletion keeps tags and order
pub deletion-tag : (n q : Tag) (k : Mark) → (after_deletion n q k).tag ≡ k.tag
deletion-tag n q k = deletion_by (λ (x : Mark). x.tag ≡ k.tag) n q k (λ _. refl) (λ _ _. refl) (λ _. refl)

pub find_mark-deletion : (m n q : Tag) (marks : List Mark) (k : Mark) → find_mark m marks ≡ Some k → find_mark m (map (after_deletion n q) marks) ≡ Some (after_deletion n q k)
find_mark-deletion m n q [] k h = absurd (cc)
find_mark-deletion m n q (x ∷ xs) k h =
    ap (λ t. cond (same_tag t m) (Some (after_deletion n q x)) (find_mark m (map (after_deletion n q) xs))) (deletion-tag n q x)
    ∙ elim (same_tag x.tag m) as (λ b. cond b (Some x) (find_mark m xs) ≡ Some k → cond b (Some (after_deletion n q x)) (find_mark m (map (after_deletion n q) xs)) ≡ Some (after_deletion n q k)) [
      | true ↦ λ e. ap (λ y. Some (after_deletion n q y)) (same_Some x k e)
      | false ↦ λ e. find_mark-deletion m n q xs k e
    ] h

find_mark-append : (m : Tag) (marks more : List Mark) (k : Mark) → find_mark m marks ≡ Some k → find_mark m (marks ++ more) ≡ Some k
find_mark-append m marks more k h = let test = λ (x : Mark). same_tag x.tag m in find-append test marks more ∙ ap (λ o. option_or o (find test more)) h

-- what is told of a live mark, and what tells it
pub mark_at_found : (s : PartitionState) (m : Tag) (k : Mark) → mark_at s m ≡ Ok k → (find_mark m s.marks ≡ Some k) × (k.live ≡ true)
mark_at_found s m k h =
    elim (owns s.blocks m) as (λ b. cond b (live_mark m (find_mark m s.marks)) (Err (refusal.NotOurs m)) ≡ Ok k → (find_mark m s.marks ≡ Some k) × (k.live ≡ true)) [
      | true ↦ live_mark_found (find_mark m s.marks)
      | false ↦ λ f. absurd (cc)
    ] h
  where
    live_found : (x : Mark) → (if x.live then Ok x else Err (refusal.MarkDeleted m)) ≡ Ok k → (x ≡ k) × (x.live ≡ true)
    live_found x e =
        elim x.live as (λ b. cond b (Ok x) (Err (refusal.MarkDeleted m)) ≡ Ok k → (x ≡ k) × (b ≡ true)) [ true ↦ λ g. (cc, refl) | false ↦ λ g. absurd (cc) ] e

    live_mark_found : (o : Option Mark) → live_mark m o ≡ Ok k → (o ≡ Some k) × (k.live ≡ true)
    live_mark_found None e = absurd (cc)
    live_mark_found (Some x) e = let f = live_found x e in (ap Some f.0, subst (λ (y : Mark). y.live ≡ true) f.0 f.1)

pub mark_at_live : (s : PartitionState) (m : Tag) (k : Mark) → owns s.blocks m ≡ true → find_mark m s.marks ≡ Some k → k.live ≡ true → mark_at s m ≡ Ok k
mark_at_live s m k own found live =
    ap (λ b. cond b (live_mark m (find_mark m s.marks)) (Err (refusal.NotOurs m))) own
    ∙ ap (live_mark m) found
    ∙ ap (λ b. cond b (Ok k) (Err (refusal.MarkDeleted m))) live

pub mark_at_dead : (s : PartitionState) (m : Tag) (k : Mark) → owns s.blocks m ≡ true → find_mark m s.marks ≡ Some k → k.live ≡ false → mark_at s m ≡ Err (refusal.MarkDeleted m)
mark_at_dead s m k own found dead =
    ap (λ b. cond b (live_mark m (find_mark m s.marks)) (Err (refusal.NotOurs m))) own
    ∙ ap (live_mark m) found
    ∙ ap (λ b. cond b (Ok k) (Err (refusal.MarkDeleted m))) dead

-- ---- the tags of the marks are among those that were taken

-- the tags that were taken
abbrev pub taken_tags : PartitionState → List Tag
taken_tags s = take s.used (tags_of s.blocks)

-- The blocks ascend, no more tags are taken than there are, and each mark has a tag that was taken.
pub record MarksTaken (s : PartitionState) : Type 0 where
  pub ascends : Ascends s.blocks
  pub within : s.used ≤ 64 * length s.blocks
  pub marks : AllByRecursion (λ (k : Mark). Contains (taken_tags s) k.tag) s.marks

pub MarksTaken-opening : (p : ℕ) → MarksTaken (opening p)
MarksTaken-opening p = record {
  ascends = (tt, tt);
  within = omega arith;
  marks = (subst (λ l. Contains l (initial_mark p)) (first_tag p) (Contains-first (initial_mark p) []), tt);
}

-- the tags of the marks stay among those taken
marks_more : (s : PartitionState) (n : ℕ) → MarksTaken s → AllByRecursion (λ (k : Mark). Contains (take (s.used + n) (tags_of s.blocks)) k.tag) s.marks
marks_more s n k =
    ByRecursion-weaker _ _ (λ (x : Mark) h. subst (λ l. Contains l x.tag) (sym (take-tags_of-more s.blocks s.used n)) (Contains-append_left (taken_tags s) (take n (next_tags s.blocks s.used)) x.tag h)) s.marks k.marks

-- the tag that a new mark has
abbrev pub next_tag : PartitionState → Tag
next_tag s = tag_at (next_tags s.blocks s.used) 0

-- with one tag more, that is the last
pub taken_with_next : (s : PartitionState) → 1 ≤ 64 * length s.blocks - s.used → take (s.used + 1) (tags_of s.blocks) ≡ taken_tags s ++ next_tag s ∷ []
taken_with_next s fits =
    let within : s.used < length (tags_of s.blocks) = omega (arith, length-tags_of s.blocks) in
    let place : s.used + 0 ≡ s.used = omega arith in
    take_more (tags_of s.blocks) s.used (tag 0) within ∙ ap (λ x. taken_tags s ++ x ∷ []) (sym (tag_at-next_tags s.blocks s.used 0 ∙ ap (tag_at (tags_of s.blocks)) place))

pub MarksTaken-way : (s : PartitionState) (e : Entry) → MarksTaken s → EachWay s e MarksTaken
MarksTaken-way s e k =
    let w = k.within in
    record {
      same = λ now at holder. record { ascends = k.ascends; within = k.within; marks = k.marks };
      draws = λ b above. record {
        ascends = Ascends-push s.blocks b k.ascends above;
        within = omega (arith, length-append s.blocks (b ∷ []));
        marks = subst (λ l. AllByRecursion (λ (x : Mark). Contains l x.tag) s.marks) (sym (take-tags_of-append s.blocks (b ∷ []) s.used k.within)) k.marks;
      };
      takes = λ now n fits. record { ascends = k.ascends; within = omega arith; marks = marks_more s n k };
      marks = λ fits. record {
        ascends = k.ascends;
        within = omega arith;
        marks = ByRecursion-append _ s.marks _ (marks_more s 1 k)
            (subst (λ l. Contains l (next_tag s)) (sym (taken_with_next s fits)) (Contains-append_right (taken_tags s) (next_tag s ∷ []) (next_tag s) (Contains-first (next_tag s) [])), tt);
      };
      deletes = λ t n q x _ _ _. record {
        ascends = k.ascends;
        within = k.within;
        marks = let taken : Mark → Type 0 = λ y. Contains (taken_tags s) y.tag in
            ByRecursion-map taken taken (after_deletion n q) (λ y h. subst (Contains (taken_tags s)) (sym (deletion-tag n q y)) h) s.marks k.marks;
      };
    }

-- no mark has the next tag yet
pub no_mark_yet : (s : PartitionState) → MarksTaken s → 1 ≤ 64 * length s.blocks - s.used → find_mark (next_tag s) s.marks ≡ None
no_mark_yet s k fits =
    let more : NoRepeats (taken_tags s ++ next_tag s ∷ []) = subst NoRepeats (taken_with_next s fits) (NoRepeats-take (s.used + 1) (tags_of s.blocks) (NoRepeats-tags_of s.blocks k.ascends)) in
    let new = last_is_new (taken_tags s) (next_tag s) more in
    find_none _ s.marks (ByRecursion-weaker _ _ (λ (x : Mark) h.
    ne_eqb x.tag.0 (next_tag s).0 (λ e. ByRecursion-at (λ y. y ≢ next_tag s) (taken_tags s) x.tag new h (ap tag e))) s.marks k.marks)
  where
    last_is_new : (ts : List Tag) (t : Tag) → NoRepeats (ts ++ t ∷ []) → AllByRecursion (λ u. u ≢ t) ts
    last_is_new [] t h = tt
    last_is_new (u ∷ us) t h = (ByRecursion-at (λ x. u ≢ x) (us ++ t ∷ []) t h.0 (Contains-append_right us (t ∷ []) t (Contains-first t [])), last_is_new us t h.1)

pub replay-MarksTaken : (K : Modelling) (p : ℕ) (es : List Entry) (s : PartitionState) → replay K p es ≡ Some s → MarksTaken s
replay-MarksTaken K p es s h = replay_way K MarksTaken es (λ r e _ k. MarksTaken-way r e k) (opening p) s (MarksTaken-opening p) h

-- ---- the first mark of a tag stays the first

-- The first mark of this tag, and what holds of it.
pub record Found (m : Tag) (P : Mark → Type 0) (s : PartitionState) : Type 0 where
  pub mark : Mark
  pub is : find_mark m s.marks ≡ Some mark
  pub fact : P mark

-- what holds of the first mark of this tag holds of it after the entry too
abbrev pub Outlives : Tag → (Mark → Type 0) → PartitionState → Entry → Type 0
Outlives m P s e = (t : ℕ) (n q : Tag) (x k : Mark) → e ≡ Did t (act.Unmark n) → mark_at s n ≡ Ok x → parent_of x ≡ Ok q → find_mark m s.marks ≡ Some k → P k → P (after_deletion n q k)

pub Found-way : (m : Tag) (P : Mark → Type 0) (s : PartitionState) (e : Entry) → Outlives m P s e → Found m P s → EachWay s e (Found m P)
Found-way m P s e outlives f =
    record {
      same = λ now at holder. record { mark = f.mark; is = f.is; fact = f.fact };
      draws = λ b _. record { mark = f.mark; is = f.is; fact = f.fact };
      takes = λ now n _. record { mark = f.mark; is = f.is; fact = f.fact };
      marks = λ _. record { mark = f.mark; is = find_mark-append m s.marks _ f.mark f.is; fact = f.fact };
      deletes = λ t n q x asked at below. record {
        mark = after_deletion n q f.mark;
        is = find_mark-deletion m n q s.marks f.mark f.is;
        fact = outlives t n q x f.mark asked at below f.is f.fact;
      };
    }

pub replay-Found : (K : Modelling) (m : Tag) (P : Mark → Type 0) (es : List Entry) → ((s : PartitionState) (e : Entry) → Contains es e → Outlives m P s e) → (s end : PartitionState) → Found m P s → replay_from K s es ≡ Some end → Found m P end
replay-Found K m P es outlives s end f h = replay_way K (Found m P) es (λ r e c k. Found-way m P r e (outlives r e c) k) s end f h

-- the block of a mark is owned
pub mark_owned : (s : PartitionState) (m : Tag) (k : Mark) → MarksTaken s → find_mark m s.marks ≡ Some k → owns s.blocks m ≡ true
mark_owned s m k taken is =
    let all = tags_of s.blocks in
    let c = ByRecursion-find (λ (x : Mark). Contains (taken_tags s) x.tag) (λ (x : Mark). same_tag x.tag m) s.marks k taken.marks is in
    let d = Contains-append_left (taken_tags s) (drop s.used all) k.tag c in
    Contains-owns s.blocks m (subst (Contains all) (find_mark-tag m s.marks k is) (subst (λ l. Contains l k.tag) (take-append-drop s.used all) d))
