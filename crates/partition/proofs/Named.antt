-- A mark of the tree among the marks with their whole maps.
use Rattle.std.proofs.Common.{◌≡◌, ℕ, suc, ◌<◌, true, false, Bool, cond, List, [], ◌∷◌, ◌++◌, map, filter, find, length, Option, Some, None, option_map, is_some, Result, Ok, Err, refl, sym, ap, ◌∙◌, arith}
use Rattle.std.specs.List.{AllByRecursion}
use Rattle.std.specs.FinMap.{empty}
use Rattle.pk_base.specs.Entity.{same_tag, same_optional}
use Rattle.pk_base.proofs.Same.{same_tag-Decides}
use Rattle.pk_base.specs.declared.tag.Tag.{Tag}
use Rattle.pk_base.specs.declared.list.MarkRow.{MarkRow}
use Rattle.pk_base.specs.declared.refusal.Refusal.{Refusal}
use Rattle.pk_base.specs.declared.refusal.Refusal.TheVariants.{NotAMark, NotOurs, MarkDeleted, InitialMark}
use Rattle.pk_model.specs.Tags.{TagsAscend, owns}
use Rattle.pk_model.specs.Maps.{EntityMap}
use Rattle.pk_model.specs.State.{Mark}
use Rattle.pk_model.specs.Step.{◌>>=◌, after_deletion, deleted_mark, live_mark, live_rows, mark_among, parent_of, row_of}
use Rattle.pmark_tree.specs.declared.mark.TreeMark.{TreeMark}
use Rattle.pmark_tree.specs.Marks.{is_live, live_tags, mark_at, parent_in}
use Rattle.pmark_tree.specs.Maps.{map_of, whole_mark, whole_marks}
use Rattle.partition.specs.Goes.{IsFound, whole_of}
use Rattle.partition.specs.Work.{map_named, mark_named, parent_named}

-- ---- found among the whole marks

find-whole : (all ks : List TreeMark) (t : Tag) → find (λ (k : Mark). same_tag k.tag t) (map (whole_mark all) ks) ≡ option_map (whole_mark all) (find (λ (k : TreeMark). same_tag k.tag t) ks)
find-whole all [] t = refl
find-whole all (k ∷ ks) t =
    elim (same_tag k.tag t) as (λ b. cond b (Some (whole_mark all k)) (find (λ (k : Mark). same_tag k.tag t) (map (whole_mark all) ks)) ≡ option_map (whole_mark all) (cond b (Some k) (find (λ (k : TreeMark). same_tag k.tag t) ks))) [
      | true ↦ refl
      | false ↦ find-whole all ks t
    ]

pub named-whole : (ks : List TreeMark) (t : Tag) → mark_named (whole_marks ks) t ≡ option_map (whole_mark ks) (mark_at ks t)
named-whole ks t = find-whole ks ks t

-- the mark that is found has the tag
pub found_tag : (ks : List TreeMark) (t : Tag) (k : TreeMark) → find (λ (k : TreeMark). same_tag k.tag t) ks ≡ Some k → k.tag ≡ t
found_tag [] t k e = cc
found_tag (x ∷ xs) t k e =
    elim (same_tag x.tag t) as (λ b. same_tag x.tag t ≡ b → cond b (Some x) (find (λ (k : TreeMark). same_tag k.tag t) xs) ≡ Some k → k.tag ≡ t) [
      | true ↦ λ s f. let same : x ≡ k = cc in ap (λ (y : TreeMark). y.tag) (sym same) ∙ (same_tag-Decides x.tag t).0 s
      | false ↦ λ s f. found_tag xs t k f
    ] refl e

-- ---- why a mark is none

among_owned : (blocks : List ℕ) (ks : List TreeMark) (m : Tag) → owns blocks m ≡ true → mark_among blocks (whole_marks ks) m ≡ live_mark m (option_map (whole_mark ks) (mark_at ks m))
among_owned blocks ks m h = ap (λ b. cond b (live_mark m (mark_named (whole_marks ks) m)) (Err (NotOurs m))) h ∙ ap (live_mark m) (named-whole ks m)

pub not_ours : (blocks : List ℕ) (ks : List TreeMark) (m : Tag) → owns blocks m ≡ false → mark_among blocks (whole_marks ks) m ≡ Err (NotOurs m)
not_ours blocks ks m h = ap (λ b. cond b (live_mark m (mark_named (whole_marks ks) m)) (Err (NotOurs m))) h

pub not_a_mark : (blocks : List ℕ) (ks : List TreeMark) (m : Tag) → owns blocks m ≡ true → is_some (mark_at ks m) ≡ false → mark_among blocks (whole_marks ks) m ≡ Err (NotAMark m)
not_a_mark blocks ks m h k =
    among_owned blocks ks m h
    ∙ elim (mark_at ks m) as (λ o. is_some o ≡ false → live_mark m (option_map (whole_mark ks) o) ≡ Err (NotAMark m)) [
      | None ↦ λ _. refl
      | Some x ↦ λ no. cc
    ] k

live_of_mark : Option TreeMark → Bool
live_of_mark o = elim o as (λ _. Bool) [ None ↦ false | Some k ↦ k.live ]

pub deleted : (blocks : List ℕ) (ks : List TreeMark) (m : Tag) → owns blocks m ≡ true → is_some (mark_at ks m) ≡ true → is_live ks m ≡ false → mark_among blocks (whole_marks ks) m ≡ Err (MarkDeleted m)
deleted blocks ks m h there dead =
    among_owned blocks ks m h
    ∙ elim (mark_at ks m) as (λ o. is_some o ≡ true → elim o as (λ _. Bool) [ None ↦ false | Some k ↦ k.live ] ≡ false → live_mark m (option_map (whole_mark ks) o) ≡ Err (MarkDeleted m)) [
      | None ↦ λ no _. cc
      | Some k ↦ λ _ e. ap (λ b. cond b (Ok (whole_mark ks k)) (Err (MarkDeleted m))) e
    ] there dead

-- ---- a live mark

-- what is found where a mark is live
pub record LiveMark (ks : List TreeMark) (t : Tag) : Type 0 where
  pub mark : TreeMark
  pub found : mark_at ks t ≡ Some mark
  pub tag : mark.tag ≡ t
  pub live : mark.live ≡ true
  pub parent : parent_in ks t ≡ mark.parent

pub live_found : (ks : List TreeMark) (t : Tag) → is_live ks t ≡ true → LiveMark ks t
live_found ks t h =
    elim (mark_at ks t) as (λ o. mark_at ks t ≡ o → elim o as (λ _. Bool) [ None ↦ false | Some k ↦ k.live ] ≡ true → LiveMark ks t) [
      | None ↦ λ e no. cc
      | Some k ↦ λ e yes. record {
        mark = k;
        found = e;
        tag = found_tag ks t k e;
        live = yes;
        parent = ap (λ (o : Option TreeMark). elim o as (λ _. Option Tag) [ None ↦ None | Some k ↦ k.parent ]) e;
      }
    ] refl h

-- with its whole map it is this one
whole_is : (ks : List TreeMark) (t : Tag) (l : LiveMark ks t) → whole_mark ks l.mark ≡ whole_of ks t
whole_is ks t l = λ i. record { tag = l.tag i; parent = sym l.parent i; map = map_of ks (l.tag i); live = l.live i }

pub is_found : (blocks : List ℕ) (ks : List TreeMark) (t : Tag) → owns blocks t ≡ true → is_live ks t ≡ true → IsFound blocks ks t
is_found blocks ks t h lives =
    let l = live_found ks t lives in
    record {
      lives = lives;
      found = among_owned blocks ks t h ∙ ap (λ o. live_mark t (option_map (whole_mark ks) o)) l.found ∙ ap (λ b. cond b (Ok (whole_mark ks l.mark)) (Err (MarkDeleted t))) l.live ∙ ap {B = Result Mark Refusal} (λ k. Ok k) (whole_is ks t l);
    }

pub live_named : (ks : List TreeMark) (t : Tag) → is_live ks t ≡ true → mark_named (whole_marks ks) t ≡ Some (whole_of ks t)
live_named ks t lives =
    let l = live_found ks t lives in
    named-whole ks t ∙ ap (option_map (whole_mark ks)) l.found ∙ ap Some (whole_is ks t l)

pub map_named-live : (ks : List TreeMark) (t : Tag) → is_live ks t ≡ true → map_named (whole_marks ks) t ≡ map_of ks t
map_named-live ks t lives = ap (λ (o : Option Mark). elim o as (λ _. EntityMap) [ None ↦ empty | Some k ↦ k.map ]) (live_named ks t lives)

pub parent_named-whole : (ks : List TreeMark) (t : Tag) → parent_named (whole_marks ks) t ≡ parent_in ks t
parent_named-whole ks t =
    ap (λ (o : Option Mark). elim o as (λ _. Option Tag) [ None ↦ None | Some k ↦ k.parent ]) (named-whole ks t)
    ∙ elim (mark_at ks t) as (λ o. elim (option_map (whole_mark ks) o) as (λ _. Option Tag) [ None ↦ None | Some k ↦ k.parent ] ≡ elim o as (λ _. Option Tag) [ None ↦ None | Some k ↦ k.parent ]) [ None ↦ refl | Some k ↦ refl ]

-- whether a mark is live can be seen of the whole marks
abbrev pub lives_named : List Mark → Tag → Bool
lives_named marks t = elim (mark_named marks t) as (λ _. Bool) [ None ↦ false | Some k ↦ k.live ]

pub lives-whole : (ks : List TreeMark) (t : Tag) → lives_named (whole_marks ks) t ≡ is_live ks t
lives-whole ks t =
    ap (λ (o : Option Mark). elim o as (λ _. Bool) [ None ↦ false | Some k ↦ k.live ]) (named-whole ks t)
    ∙ elim (mark_at ks t) as (λ o. elim (option_map (whole_mark ks) o) as (λ _. Bool) [ None ↦ false | Some k ↦ k.live ] ≡ elim o as (λ _. Bool) [ None ↦ false | Some k ↦ k.live ]) [ None ↦ refl | Some k ↦ refl ]

-- ---- the parent that is asked for

pub refused-mark : (blocks : List ℕ) (ks : List TreeMark) (m : Tag) (e : Refusal) → mark_among blocks (whole_marks ks) m ≡ Err e → (mark_among blocks (whole_marks ks) m >>= parent_of) ≡ Err e
refused-mark blocks ks m e h = ap (λ (r : Result Mark Refusal). r >>= parent_of) h

pub refused-parent : (blocks : List ℕ) (ks : List TreeMark) (m : Tag) → IsFound blocks ks m → parent_in ks m ≡ None → (mark_among blocks (whole_marks ks) m >>= parent_of) ≡ Err InitialMark
refused-parent blocks ks m f none = ap (λ (r : Result Mark Refusal). r >>= parent_of) f.found ∙ ap {B = Result Tag Refusal} (λ (o : Option Tag). elim o as (λ _. Result Tag Refusal) [ None ↦ Err InitialMark | Some q ↦ Ok q ]) none

-- ---- after a deletion

deletion-tag : (m p : Tag) (k : Mark) → (after_deletion m p k).tag ≡ k.tag
deletion-tag m p k =
    elim (same_tag k.tag m) as (λ b. (cond b (deleted_mark k) (cond (same_optional k.parent (Some m)) (record k { parent = Some p }) k)).tag ≡ k.tag) [
      | true ↦ refl
      | false ↦ elim (same_optional k.parent (Some m)) as (λ b. (cond b (record k { parent = Some p }) k).tag ≡ k.tag) [ true ↦ refl | false ↦ refl ]
    ]

find-deletion : (m p : Tag) (marks : List Mark) (t : Tag) → find (λ (k : Mark). same_tag k.tag t) (map (after_deletion m p) marks) ≡ option_map (after_deletion m p) (find (λ (k : Mark). same_tag k.tag t) marks)
find-deletion m p [] t = refl
find-deletion m p (k ∷ ks) t =
    ap (λ u. cond (same_tag u t) (Some (after_deletion m p k)) (find (λ (k : Mark). same_tag k.tag t) (map (after_deletion m p) ks))) (deletion-tag m p k)
    ∙ elim (same_tag k.tag t) as (λ b. cond b (Some (after_deletion m p k)) (find (λ (k : Mark). same_tag k.tag t) (map (after_deletion m p) ks)) ≡ option_map (after_deletion m p) (cond b (Some k) (find (λ (k : Mark). same_tag k.tag t) ks))) [
      | true ↦ refl
      | false ↦ find-deletion m p ks t
    ]

-- another mark stays live, and stands for what it stood for
pub record Stands (ks : List TreeMark) (t : Tag) (n : EntityMap) : Type 0 where
  pub lives : is_live ks t ≡ true
  pub map : map_of ks t ≡ n

pub deletion_leaves : (m p t : Tag) (old new : List TreeMark) → whole_marks new ≡ map (after_deletion m p) (whole_marks old) → is_live old t ≡ true → same_tag t m ≡ false → Stands new t (map_of old t)
deletion_leaves m p t old new whole lives other =
    let k = whole_of old t in
    let after : mark_named (whole_marks new) t ≡ Some (after_deletion m p k) = ap (λ ms. mark_named ms t) whole ∙ find-deletion m p (whole_marks old) t ∙ ap (option_map (after_deletion m p)) (live_named old t lives) in
    let keeps : (o : Option Tag) → (after_deletion m p k).live ≡ true = λ o.
    ap (λ b. (cond b (deleted_mark k) (cond (same_optional k.parent (Some m)) (record k { parent = Some p }) k)).live) other
    ∙ elim (same_optional k.parent (Some m)) as (λ b. (cond b (record k { parent = Some p }) k).live ≡ true) [ true ↦ refl | false ↦ refl ]
    in
    let same : (after_deletion m p k).map ≡ map_of old t =
    ap (λ b. (cond b (deleted_mark k) (cond (same_optional k.parent (Some m)) (record k { parent = Some p }) k)).map) other
    ∙ elim (same_optional k.parent (Some m)) as (λ b. (cond b (record k { parent = Some p }) k).map ≡ map_of old t) [ true ↦ refl | false ↦ refl ]
    in
    let still : is_live new t ≡ true = sym (lives-whole new t) ∙ ap (λ (o : Option Mark). elim o as (λ _. Bool) [ None ↦ false | Some k ↦ k.live ]) after ∙ keeps None in
    record {
      lives = still;
      map = sym (map_named-live new t still) ∙ ap (λ (o : Option Mark). elim o as (λ _. EntityMap) [ None ↦ empty | Some k ↦ k.map ]) after ∙ same;
    }

-- ---- after a new mark

find-new : (ks : List TreeMark) (c : TreeMark) → AllByRecursion (λ (k : TreeMark). k.tag.0 < c.tag.0) ks → find (λ (k : TreeMark). same_tag k.tag c.tag) (ks ++ c ∷ []) ≡ Some c
find-new [] c h = ap (λ b. cond b (Some c) None) ((same_tag-Decides c.tag c.tag).1 refl)
find-new (k ∷ ks) c h =
    elim (same_tag k.tag c.tag) as (λ b. same_tag k.tag c.tag ≡ b → cond b (Some k) (find (λ (k : TreeMark). same_tag k.tag c.tag) (ks ++ c ∷ [])) ≡ Some c) [
      | true ↦ λ e. absurd (let same : k.tag.0 ≡ c.tag.0 = ap (λ (t : Tag). t.0) ((same_tag-Decides k.tag c.tag).0 e) in let less = h.0 in omega (arith, same, less))
      | false ↦ λ e. find-new ks c h.1
    ] refl

pub new_mark : (old new : List TreeMark) (c : TreeMark) (k : Mark) → new ≡ old ++ c ∷ [] → c.live ≡ true → AllByRecursion (λ (k : TreeMark). k.tag.0 < c.tag.0) old → whole_marks new ≡ whole_marks old ++ k ∷ [] → k.tag ≡ c.tag → Stands new c.tag k.map
new_mark old new c k is lives newest whole same =
    let found : mark_at new c.tag ≡ Some c = ap (λ ks. mark_at ks c.tag) is ∙ find-new old c newest in
    let alive : is_live new c.tag ≡ true = ap (λ (o : Option TreeMark). elim o as (λ _. Bool) [ None ↦ false | Some k ↦ k.live ]) found ∙ lives in
    let named : mark_named (whole_marks new) c.tag ≡ Some k =
    ap (λ ms. mark_named ms c.tag) whole ∙ find-last (whole_marks old) c.tag (none_there old old c.tag newest) ∙ ap (λ b. cond b (Some k) None) (ap (λ t. same_tag t c.tag) same ∙ (same_tag-Decides c.tag c.tag).1 refl)
    in
    record {
      lives = alive;
      map = sym (map_named-live new c.tag alive) ∙ ap (λ (o : Option Mark). elim o as (λ _. EntityMap) [ None ↦ empty | Some k ↦ k.map ]) named;
    }
  where
    find-last : (marks : List Mark) (t : Tag) → find (λ (k : Mark). same_tag k.tag t) marks ≡ None → find (λ (k : Mark). same_tag k.tag t) (marks ++ k ∷ []) ≡ cond (same_tag k.tag t) (Some k) None
    find-last [] t e = refl
    find-last (x ∷ xs) t e =
        elim (same_tag x.tag t) as (λ b. cond b (Some x) (find (λ (k : Mark). same_tag k.tag t) xs) ≡ None → cond b (Some x) (find (λ (k : Mark). same_tag k.tag t) (xs ++ k ∷ [])) ≡ cond (same_tag k.tag t) (Some k) None) [
          | true ↦ λ f. cc
          | false ↦ λ f. find-last xs t f
        ] e

    none_there : (all ks : List TreeMark) (t : Tag) → AllByRecursion (λ (k : TreeMark). k.tag.0 < t.0) ks → find (λ (k : Mark). same_tag k.tag t) (map (whole_mark all) ks) ≡ None
    none_there all [] t h = refl
    none_there all (x ∷ xs) t h =
        elim (same_tag x.tag t) as (λ b. same_tag x.tag t ≡ b → cond b (Some (whole_mark all x)) (find (λ (k : Mark). same_tag k.tag t) (map (whole_mark all) xs)) ≡ None) [
          | true ↦ λ e. absurd (let n : x.tag.0 ≡ t.0 = ap (λ (t : Tag). t.0) ((same_tag-Decides x.tag t).0 e) in let less = h.0 in omega (arith, n, less))
          | false ↦ λ e. none_there all xs t h.1
        ] refl

-- ---- the rows of the live marks

abbrev pub row_in : List TreeMark → Tag → MarkRow
row_in ks t = record { tag = t; parent = parent_in ks t }

rows_among : (all ks : List TreeMark) → AllByRecursion (λ (k : TreeMark). mark_at all k.tag ≡ Some k) ks → map row_of (filter (λ (k : Mark). k.live) (map (whole_mark all) ks)) ≡ map (row_in all) (map (λ (k : TreeMark). k.tag) (filter (λ (k : TreeMark). k.live) ks))
rows_among all [] h = refl
rows_among all (k ∷ ks) h =
    let rest = rows_among all ks h.1 in
    let row : row_of (whole_mark all k) ≡ row_in all k.tag = ap (λ (o : Option Tag). record { tag = k.tag; parent = o }) (sym (ap (λ (o : Option TreeMark). elim o as (λ _. Option Tag) [ None ↦ None | Some k ↦ k.parent ]) h.0)) in
    elim k.live as (λ b. map row_of (cond b (whole_mark all k ∷ filter (λ (k : Mark). k.live) (map (whole_mark all) ks)) (filter (λ (k : Mark). k.live) (map (whole_mark all) ks))) ≡ map (row_in all) (map (λ (k : TreeMark). k.tag) (cond b (k ∷ filter (λ (k : TreeMark). k.live) ks) (filter (λ (k : TreeMark). k.live) ks)))) [
      | true ↦ λ i. row i ∷ rest i
      | false ↦ rest
    ]

-- where no tag stands twice each mark is the one that is found
each_at : (ks : List TreeMark) → TagsAscend (map (λ (k : TreeMark). k.tag) ks) → AllByRecursion (λ (k : TreeMark). mark_at ks k.tag ≡ Some k) ks
each_at [] h = tt
each_at (k ∷ ks) h =
    (ap (λ b. cond b (Some k) (mark_at ks k.tag)) ((same_tag-Decides k.tag k.tag).1 refl), later ks h.0 (each_at ks h.1))
  where
    later : (xs : List TreeMark) → AllByRecursion (λ (u : Tag). k.tag.0 < u.0) (map (λ (x : TreeMark). x.tag) xs) → AllByRecursion (λ (x : TreeMark). mark_at ks x.tag ≡ Some x) xs → AllByRecursion (λ (x : TreeMark). mark_at (k ∷ ks) x.tag ≡ Some x) xs
    later [] l e = tt
    later (x ∷ xs) l e =
        let apart : same_tag k.tag x.tag ≡ false = elim (same_tag k.tag x.tag) as (λ b. same_tag k.tag x.tag ≡ b → b ≡ false) [
          | true ↦ λ s. absurd (let n : k.tag.0 ≡ x.tag.0 = ap (λ (t : Tag). t.0) ((same_tag-Decides k.tag x.tag).0 s) in let less = l.0 in omega (arith, n, less))
          | false ↦ λ s. refl
        ] refl in
        (ap (λ b. cond b (Some k) (mark_at ks x.tag)) apart ∙ e.0, later xs l.1 e.1)

pub live_rows-tags : (ks : List TreeMark) → TagsAscend (map (λ (k : TreeMark). k.tag) ks) → live_rows (whole_marks ks) ≡ map (row_in ks) (live_tags ks)
live_rows-tags ks h = rows_among ks ks (each_at ks h)

rows_counted : (all ks : List TreeMark) → length (map row_of (filter (λ (k : Mark). k.live) (map (whole_mark all) ks))) ≡ length (map (λ (k : TreeMark). k.tag) (filter (λ (k : TreeMark). k.live) ks))
rows_counted all [] = refl
rows_counted all (k ∷ ks) =
    let rest = rows_counted all ks in
    elim k.live as (λ b. length (map row_of (cond b (whole_mark all k ∷ filter (λ (k : Mark). k.live) (map (whole_mark all) ks)) (filter (λ (k : Mark). k.live) (map (whole_mark all) ks)))) ≡ length (map (λ (k : TreeMark). k.tag) (cond b (k ∷ filter (λ (k : TreeMark). k.live) ks) (filter (λ (k : TreeMark). k.live) ks)))) [
      | true ↦ ap suc rest
      | false ↦ rest
    ]

pub live_rows-length : (ks : List TreeMark) → length (live_rows (whole_marks ks)) ≡ length (live_tags ks)
live_rows-length ks = rows_counted ks ks
