-- The worked loads and works: a replay computes but for the maps' differences, and those by the maps' entries.
use Rattle.std.proofs.Common.{◌≡◌, ◌==◌, ℕ, ◌+◌, ◌&&◌, true, false, cond, List, [], ◌∷◌, ◌++◌, length, None, Some, refl, sym, ap, ◌∙◌, arith}
use Rattle.std.specs.Prelude.{pos, sum_by, IsSome}
use Rattle.std.proofs.lemmas.Bool.{true≢false}
use Rattle.std.specs.Option.{option_and_then}
use Rattle.std.specs.FinMap.{entries, put}
use Rattle.pk_base.specs.Blocks.{tag}
use Rattle.pk_base.specs.declared.tag.Tag.{Tag}
use Rattle.pk_base.specs.declared.entity.Entity.TheVariants.{Body, Shell}
use Rattle.pk_base.specs.declared.act.Act.TheVariants as act
use Rattle.pk_base.specs.declared.act.Entry.{Entry}
use Rattle.pk_base.specs.declared.act.Entry.TheVariants.{Did}
use Rattle.pk_model.specs.Tags.{tags_of, tags_of_block}
use Rattle.pk_model.specs.Maps.{EntityMap, diff, tag_cmp}
use Rattle.pk_model.specs.State.{PartitionState, holds}
use Rattle.pk_model.specs.Modelling.{Modelling}
use Rattle.pk_model.specs.Step.{Stepped, reach_of, short, step, with_answer}
use Rattle.pk_model.specs.Replay.{replay_from}
use Rattle.pk_laws.proofs.Computed.{Entries, no_entities, entries-empty, entries-more, diff_by_entries}
use Rattle.pk_laws.specs.WorkedMaps.{lists}
use Rattle.pmark_tree.specs.Paths.{apart_of, line_of}
use Rattle.pmark_tree.proofs.Lines.{apart_of-is}
use Rattle.partition.specs.Work.{edge_size, load_after, load_from, map_named, parent_named, size, work}
use Rattle.partition_uses.specs.PairBodies.{with_pair}
use Rattle.partition_uses.specs.WorkedWork.{behind_a_mark, load_of, mark, pair, to, two_branches, unmark, work_to}

-- ---- the maps

-- one more pair, with the tag n and the one after it
abbrev paired : EntityMap → ℕ → EntityMap
paired m n = with_pair m (tag n) (tag (n + 1))

abbrev entries_with : Entries → ℕ → Entries
entries_with es n = put tag_cmp (tag (n + 1)) (Shell (tag n) (pos 1)) (put tag_cmp (tag n) (Body (tag (n + 1))) es)

entries-paired : (m : EntityMap) (es : Entries) (n : ℕ) → entries m ≡ es → entries (paired m n) ≡ entries_with es n
entries-paired m es n h = entries-more _ _ _ _ (entries-more _ _ _ _ h)

abbrev first : EntityMap
first = paired no_entities 65

first_entries : entries first ≡ entries_with [] 65
first_entries = entries-paired no_entities [] 65 entries-empty

-- after the first, one of the tag n
then_entries : (n : ℕ) → entries (paired first n) ≡ entries_with (entries_with [] 65) n
then_entries n = entries-paired first (entries_with [] 65) n first_entries

none_first : diff no_entities first ≡ lists (65 ∷ 66 ∷ []) [] []
none_first = diff_by_entries no_entities first _ _ entries-empty first_entries

first_none : diff first no_entities ≡ lists [] (65 ∷ 66 ∷ []) []
first_none = diff_by_entries first no_entities _ _ first_entries entries-empty

none_none : diff no_entities no_entities ≡ lists [] [] []
none_none = diff_by_entries no_entities no_entities _ _ entries-empty entries-empty

first_first : diff first first ≡ lists [] [] []
first_first = diff_by_entries first first _ _ first_entries first_entries

-- a pair behind the first
abbrev on_first : ℕ → EntityMap
on_first n = paired first n

first_67 : diff first (on_first 67) ≡ lists (67 ∷ 68 ∷ []) [] []
first_67 = diff_by_entries first (on_first 67) _ _ first_entries (then_entries 67)

first_68 : diff first (on_first 68) ≡ lists (68 ∷ 69 ∷ []) [] []
first_68 = diff_by_entries first (on_first 68) _ _ first_entries (then_entries 68)

first_71 : diff first (on_first 71) ≡ lists (71 ∷ 72 ∷ []) [] []
first_71 = diff_by_entries first (on_first 71) _ _ first_entries (then_entries 71)

-- and a third one
two_more : (n k : ℕ) → entries (paired (on_first n) k) ≡ entries_with (entries_with (entries_with [] 65) n) k
two_more n k = entries-paired (on_first n) (entries_with (entries_with [] 65) n) k (then_entries n)

third_69 : diff (on_first 67) (paired (on_first 67) 69) ≡ lists (69 ∷ 70 ∷ []) [] []
third_69 = diff_by_entries (on_first 67) (paired (on_first 67) 69) _ _ (then_entries 67) (two_more 67 69)

third_74 : diff (on_first 71) (paired (on_first 71) 74) ≡ lists (74 ∷ 75 ∷ []) [] []
third_74 = diff_by_entries (on_first 71) (paired (on_first 71) 74) _ _ (then_entries 71) (two_more 71 74)

-- ---- loads

pub load_one : load_of (pair ∷ []) ≡ 2
unfolding tags_of tags_of_block
load_one = λ i. 0 + size (none_first i)

pub load_three : load_of (pair ∷ pair ∷ pair ∷ []) ≡ 6
unfolding tags_of tags_of_block
load_three = λ i. 0 + size (none_first i) + size (first_67 i) + size (third_69 i)

pub load_marked : load_of (pair ∷ mark ∷ []) ≡ 0
unfolding tags_of tags_of_block
load_marked = refl

pub load_behind : load_of behind_a_mark ≡ 2
unfolding tags_of tags_of_block
load_behind = λ i. 0 + size (first_68 i)

pub load_refused : load_of (behind_a_mark ++ to 65 ∷ []) ≡ 2
unfolding tags_of tags_of_block
load_refused = λ i. 0 + size (first_68 i)

pub load_gone : load_of (behind_a_mark ++ to 64 ∷ []) ≡ 0
unfolding tags_of tags_of_block
load_gone = refl

pub load_deleted : load_of (behind_a_mark ++ unmark 67 ∷ []) ≡ 4
unfolding tags_of tags_of_block
load_deleted = λ i. 0 + size (first_68 i) + size (none_first i)

-- ---- works

pub work_nothing : work_to 67 (pair ∷ mark ∷ []) ≡ Some 1
unfolding tags_of tags_of_block
work_nothing = λ i. Some (0 + size (first_first i) + 0 + 1)

pub work_unsaved : work_to 67 behind_a_mark ≡ Some 3
unfolding tags_of tags_of_block
work_unsaved = λ i. Some (0 + size (first_68 i) + 0 + 1)

pub work_up : work_to 64 behind_a_mark ≡ Some 6
unfolding tags_of tags_of_block
work_up = λ i. Some (0 + size (none_first i) + size (first_68 i) + 1 + 1)

pub work_down : work_to 67 (pair ∷ mark ∷ to 64 ∷ []) ≡ Some 4
unfolding tags_of tags_of_block
work_down = λ i. Some (0 + size (none_first i) + size (none_none i) + 1 + 1)

pub work_across : work_to 70 two_branches ≡ Some 9
unfolding tags_of tags_of_block
work_across = λ i. Some (0 + size (first_71 i) + size (first_68 i) + size (third_74 i) + 2 + 1)

-- ---- for every state, and every modeller

pub work-here : (s : PartitionState) → work s s.at ≡ size (diff (map_named s.marks s.at) s.now) + 1
work-here s =
    let parents = parent_named s.marks in
    let none : apart_of parents s.at s.at ≡ [] = apart_of-is parents s.at s.at [] [] (line_of parents s.at) refl refl tt in
    let unsaved = size (diff (map_named s.marks s.at) s.now) in
    let counted : 0 + unsaved + 0 + 1 ≡ unsaved + 1 = omega arith in
    ap (λ (ts : List Tag). sum_by (edge_size s.marks) ts + unsaved + length ts + 1) (ap (λ (ts : List Tag). ts ++ ts) none) ∙ counted

-- a mark that is made is not refused
marked_anew : (K : Modelling) (s : PartitionState) (l t : ℕ) → IsSome (replay_from K s (Did t act.Mark ∷ [])) → load_from K s l (Did t act.Mark ∷ []) ≡ 0
marked_anew K s l t h =
    let x : Stepped = with_answer s (reach_of K s act.Mark) in
    elim (holds s t && (short K s act.Mark == 0)) as (λ b. IsSome (option_and_then (λ (r : Stepped). replay_from K r.state []) (cond b (Some x) None))
    → elim (cond b (Some x) None) as (λ _. ℕ) [ None ↦ l | Some r ↦ load_from K r.state (load_after s r l (Did t act.Mark)) [] ] ≡ 0) [
      | true ↦ λ k. refl
      | false ↦ λ k. absurd (true≢false (sym k))
    ] h

-- so it is behind other entries
pub load-marked : (K : Modelling) (s : PartitionState) (l t : ℕ) (es : List Entry) → IsSome (replay_from K s (es ++ Did t act.Mark ∷ [])) → load_from K s l (es ++ Did t act.Mark ∷ []) ≡ 0
load-marked K s l t [] h = marked_anew K s l t h
load-marked K s l t (e ∷ es) h =
    elim (step K s e) as (λ o. IsSome (option_and_then (λ (r : Stepped). replay_from K r.state (es ++ Did t act.Mark ∷ [])) o)
    → elim o as (λ _. ℕ) [ None ↦ l | Some r ↦ load_from K r.state (load_after s r l e) (es ++ Did t act.Mark ∷ []) ] ≡ 0) [
      | None ↦ λ k. absurd (true≢false (sym k))
      | Some r ↦ λ k. load-marked K r.state (load_after s r l e) t es k
    ] h
