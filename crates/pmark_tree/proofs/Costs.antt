-- The steps that the removal of a mark takes.
use Rattle.std.proofs.Common.{◌≡◌, ◌≢◌, ℕ, zero, suc, ◌+◌, ◌*◌, ◌<◌, ◌≤◌, cond, List, [], ◌∷◌, ◌++◌, length, get_or, set, Option, Some, refl, sym, ap, ◌∙◌, arith}
use Rattle.std.specs.Prelude.{map, sum_by}
use Rattle.std.specs.List.{AllByRecursion}
use Rattle.std.proofs.lemmas.List.{get_or-set_other}
use Rattle.std.proofs.lemmas.List.Sums.{sum_by-append, sum_by-cons}
use Rattle.pk_base.proofs.Same.{same_optional-Decides}
use Rattle.list_facts.proofs.Each.{ByRecursion-contains}
use Rattle.owner_links.specs.Links.{NoRepeats, AreChildren}
use Rattle.pmark_tree.specs.declared.mark.TreeMark.{TreeMark}
use Rattle.pmark_tree.specs.declared.remove.Moved.{Moved}
use Rattle.pmark_tree.specs.Marks.{delta_in, steps_for, removal_steps}
use Rattle.pmark_tree.specs.Trees.{IsTree}
use Rattle.pmark_tree.specs.Rows.{row_at, IsChildRow, AreLinked}
use Rattle.pmark_tree.specs.Removal.{rows_in, steps_of, child_steps}
use Rattle.pmark_tree.proofs.Found.{mark_at-row, delta_in-at}
use Rattle.pmark_tree.proofs.Handed.{rows_in-push}
use Rattle.pmark_tree.proofs.Moves.{child_within}

-- ---- some of the numbers in a list, each once

abbrev it : ℕ → ℕ
it n = n

without_one : (ns : List ℕ) (c : ℕ) → sum_by it (set ns c 0) + get_or ns c 0 ≡ sum_by it ns
without_one [] c = refl
without_one (n ∷ ns) zero =
    let new : sum_by it (set (n ∷ ns) 0 0) ≡ 0 + sum_by it ns = sum_by-cons it 0 ns in
    let old : sum_by it (n ∷ ns) ≡ n + sum_by it ns = sum_by-cons it n ns in
    let here : get_or (n ∷ ns) 0 0 ≡ n = refl in
    omega (arith, new, old, here)
without_one (n ∷ ns) (suc c) =
    let rest = without_one ns c in
    let new : sum_by it (set (n ∷ ns) (suc c) 0) ≡ n + sum_by it (set ns c 0) = sum_by-cons it n (set ns c 0) in
    let old : sum_by it (n ∷ ns) ≡ n + sum_by it ns = sum_by-cons it n ns in
    let here : get_or (n ∷ ns) (suc c) 0 ≡ get_or ns c 0 = refl in
    omega (arith, rest, new, old, here)

same_picks : (ns cs : List ℕ) (c : ℕ) → AllByRecursion (λ d. c ≢ d) cs → sum_by (λ d. get_or (set ns c 0) d 0) cs ≡ sum_by (λ d. get_or ns d 0) cs
same_picks ns [] c h = refl
same_picks ns (d ∷ cs) c h =
    sum_by-cons (λ e. get_or (set ns c 0) e 0) d cs
    ∙ (λ i. get_or-set_other ns c d 0 0 (λ e. h.0 (sym e)) i + same_picks ns cs c h.1 i)
    ∙ sym (sum_by-cons (λ e. get_or ns e 0) d cs)

picks_within : (ns cs : List ℕ) → NoRepeats cs → sum_by (λ c. get_or ns c 0) cs ≤ sum_by it ns
picks_within ns [] h = let none : sum_by (λ c. get_or ns c 0) [] ≡ 0 = refl in omega (arith, none)
picks_within ns (c ∷ cs) h =
    let rest = picks_within (set ns c 0) cs h.1 in
    let same = same_picks ns cs c h.0 in
    let one = without_one ns c in
    let first = sum_by-cons (λ d. get_or ns d 0) c cs in
    omega (arith, rest, same, one, first)

sum_of_map : (f : TreeMark → ℕ) (ks : List TreeMark) → sum_by it (map f ks) ≡ sum_by f ks
sum_of_map f [] = refl
sum_of_map f (k ∷ ks) = sum_by-cons it (f k) (map f ks) ∙ ap (λ n. f k + n) (sum_of_map f ks) ∙ sym (sum_by-cons f k ks)

-- ---- the children of a mark

number_of_row : (f : TreeMark → ℕ) (ks : List TreeMark) (c : ℕ) → c < length ks → get_or (map f ks) c 0 ≡ f (row_at ks c)
number_of_row f [] c h = absurd (omega arith)
number_of_row f (k ∷ ks) zero h = refl
number_of_row f (k ∷ ks) (suc c) h = number_of_row f ks c (omega arith)

steps_of_child : (ks : List TreeMark) (at c : ℕ) → IsTree ks → IsChildRow ks c at → get_or (map (steps_for ks (row_at ks at).tag) ks) c 0 ≡ child_steps ks at c
steps_of_child ks at c tree child =
    let t = (row_at ks at).tag in
    let k = row_at ks c in
    number_of_row (steps_for ks t) ks c (child_within ks c at child)
    ∙ ap (λ b. cond b (2 * (length (delta_in ks t) + length k.delta)) 0) ((same_optional-Decides k.parent (Some t)).1 child.parent)
    ∙ ap (λ ds. 2 * (length ds + length k.delta)) (delta_in-at ks t (row_at ks at) (mark_at-row ks at tree.ascend child.within))

steps_of_children : (ks : List TreeMark) (at : ℕ) (cs : List ℕ) → IsTree ks → AllByRecursion (λ c. IsChildRow ks c at) cs → sum_by (λ c. get_or (map (steps_for ks (row_at ks at).tag) ks) c 0) cs ≡ steps_of ks at cs
steps_of_children ks at [] tree h = refl
steps_of_children ks at (c ∷ cs) tree h =
    sum_by-cons (λ d. get_or (map (steps_for ks (row_at ks at).tag) ks) d 0) c cs
    ∙ (λ i. steps_of_child ks at c tree h.0 i + steps_of_children ks at cs tree h.1 i)
    ∙ sym (sum_by-cons (child_steps ks at) c cs)

pub steps_of-append : (ks : List TreeMark) (at : ℕ) (cs ds : List ℕ) → steps_of ks at (cs ++ ds) ≡ steps_of ks at cs + steps_of ks at ds
steps_of-append ks at cs ds = sum_by-append (child_steps ks at) cs ds

-- the steps for all children are those of the removal at most
pub steps_within : (ks : List TreeMark) (owners : List (Option ℕ)) (at : ℕ) (cs : List ℕ) → IsTree ks → AreLinked ks owners → AreChildren owners at cs → steps_of ks at cs ≤ removal_steps ks (row_at ks at).tag
steps_within ks owners at cs tree linked are =
    let f = steps_for ks (row_at ks at).tag in
    let children = ByRecursion-contains (λ c. IsChildRow ks c at) cs (λ c k. (linked c at).0 ((are.all c).0 k)) in
    let within = picks_within (map f ks) cs are.once in
    let same = steps_of_children ks at cs tree children in
    let all = sum_of_map f ks in
    omega (arith, within, same, all)

-- after some children, and in the midst of the next one
pub done_within : (ks : List TreeMark) (owners : List (Option ℕ)) (at : ℕ) (done left : List ℕ) (before now : ℕ) → IsTree ks → AreLinked ks owners → AreChildren owners at (done ++ left) → now ≤ before + steps_of ks at done → now ≤ before + removal_steps ks (row_at ks at).tag
done_within ks owners at done left before now tree linked are h =
    let all = steps_within ks owners at (done ++ left) tree linked are in
    let parts = steps_of-append ks at done left in
    omega (arith, h, all, parts)

pub next_within : (ks : List TreeMark) (owners : List (Option ℕ)) (at child : ℕ) (done left rest : List ℕ) (before mid now : ℕ) → IsTree ks → AreLinked ks owners → AreChildren owners at (done ++ left) → left ≡ child ∷ rest → mid ≤ before + steps_of ks at done → now ≤ mid + child_steps ks at child → now ≤ before + removal_steps ks (row_at ks at).tag
next_within ks owners at child done left rest before mid now tree linked are e h k =
    let all = steps_within ks owners at (done ++ left) tree linked are in
    let parts = steps_of-append ks at done left in
    let first : steps_of ks at left ≡ child_steps ks at child + steps_of ks at rest = ap (steps_of ks at) e ∙ sum_by-cons (child_steps ks at) child rest in
    omega (arith, h, k, all, parts, first)

pub steps_of-push : (ks : List TreeMark) (at : ℕ) (moved new : List Moved) (m : Moved) (child before mid now : ℕ) → new ≡ moved ++ m ∷ [] → m.row ≡ child → mid ≤ before + steps_of ks at (rows_in moved) → now ≤ mid + child_steps ks at child → now ≤ before + steps_of ks at (rows_in new)
steps_of-push ks at moved new m child before mid now f g h k =
    let names = ap rows_in f ∙ rows_in-push moved m in
    let parts : steps_of ks at (rows_in new) ≡ steps_of ks at (rows_in moved) + steps_of ks at (m.row ∷ []) = ap (steps_of ks at) names ∙ steps_of-append ks at (rows_in moved) (m.row ∷ []) in
    let one : steps_of ks at (m.row ∷ []) ≡ child_steps ks at child + 0 = sum_by-cons (child_steps ks at) m.row [] ∙ ap (λ c. child_steps ks at c + 0) g in
    omega (arith, h, k, parts, one)
