-- The worked maps and journals: a replay computes but for the maps' differences, and those by the maps' entries.
use Rattle.std.proofs.Common.{◌≡◌, ◌∷◌, ◌++◌, ℕ, ◌+◌, ◌*◌, ◌<◌, ◌≤◌, inl, List, [], Some, None, Ok, refl, sym, ap, ◌∙◌, arith}
use Rattle.std.specs.Prelude.{pos, is_some, IsSome}
use Rattle.std.specs.FinMap.{entries, put, get, insert, get-insert}
use Rattle.std.proofs.lemmas.Bool.{true≢false}
use Rattle.pk_base.specs.declared.list.Lists.{Lists}
use Rattle.pk_base.specs.declared.entity.Entity.TheVariants.{Body, Shell, Face, Loop, Vertex}
use Rattle.pk_base.specs.declared.entity.Entity.{Entity}
use Rattle.pk_base.specs.declared.act.Act.TheVariants as act
use Rattle.pk_base.specs.declared.act.Entry.{Entry}
use Rattle.pk_base.specs.declared.act.Entry.TheVariants.{Claimed, Drew, Did, Spent, Released}
use Rattle.pk_base.specs.declared.act.Reply.TheVariants.{Done, Went, Delta}
use Rattle.pk_base.specs.declared.refusal.Refusal.TheVariants.{TagsSpent, InitialMark}
use Rattle.pk_base.specs.Blocks.{tag}
use Rattle.pk_model.specs.Tags.{tags_of, tags_of_block}
use Rattle.pk_model.specs.Maps.{EntityMap, tag_cmp, diff}
use Rattle.pk_model.specs.Step.{blocks_short}
use Rattle.pk_model.specs.Replay.{replay, Legal}
use Rattle.pk_model.specs.Apart.{NoRepeats, Apart}
use Rattle.pk_model.specs.VertexBodies.{vertex_bodies, with_vertex_body}
use Rattle.pk_model.specs.Modelling.{IsModeller}
use Rattle.pk_laws.specs.WorkedMaps.{older, newer, vertex_at, lists}
use Rattle.pk_laws.specs.WorkedJournals.{Answer, answers, used_by, made, refused, there_and_back, there_and_back_answers, two_branches, two_branches_answers, no_marks, no_marks_answers, below_a_deleted_mark, below_a_deleted_mark_answers, row, marks_are, outside, outside_answers, twelve_bodies, then_answers, drawn_journal, spent_journal, vertex_body, untidy}
use Rattle.pk_model.proofs.TagLists.{tag_total}
use Rattle.pk_model.proofs.Apartness.{one_journal_apart}
use Rattle.pk_laws.proofs.Computed.{Entries, no_entities, entries-empty, entries-more, diff_by_entries}

pub older_newer : diff older newer ≡ lists (68 ∷ []) (65 ∷ []) (66 ∷ [])
older_newer =
    diff_by_entries older newer _ _ (entries-more _ _ (tag 66) (vertex_at 6) (entries-more _ _ (tag 65) (vertex_at 5) (entries-more _ _ (tag 67) (vertex_at 7) entries-empty)))
    (entries-more _ _ (tag 67) (vertex_at 7) (entries-more _ _ (tag 66) (vertex_at 9) (entries-more _ _ (tag 68) (vertex_at 8) entries-empty)))

-- a vertex body at (x, 0, 0), and the four tags after its own
abbrev body_in : EntityMap → ℕ → ℕ → EntityMap
body_in m x n = with_vertex_body m (record { x = pos x; y = pos 0; z = pos 0 }) (tag n) (tag (n + 1)) (tag (n + 2)) (tag (n + 3)) (tag (n + 4))

abbrev pub first_body : EntityMap
first_body = body_in no_entities 0 65

abbrev pub second_body : EntityMap
second_body = body_in first_body 1 71

abbrev other_body : EntityMap
other_body = body_in first_body 2 77

-- what going from the one map to the other answers
abbrev moved : EntityMap → EntityMap → Answer
moved old new = Some (Ok (Went (diff old new)))

abbrev entries_in : Entries → ℕ → ℕ → Entries
entries_in es x n =
    let e1 = put tag_cmp (tag n) (Body (tag (n + 1))) es in
    let e2 = put tag_cmp (tag (n + 1)) (Shell (tag n) (pos 1)) e1 in
    let e3 = put tag_cmp (tag (n + 2)) (Face (tag (n + 1)) (tag (n + 3))) e2 in
    let e4 = put tag_cmp (tag (n + 3)) (Loop (tag (n + 2)) None (Some (tag (n + 4)))) e3 in
    put tag_cmp (tag (n + 4)) (Vertex (tag n) (record { x = pos x; y = pos 0; z = pos 0 })) e4

entries-body_in : (m : EntityMap) (es : Entries) (x n : ℕ) → entries m ≡ es → entries (body_in m x n) ≡ entries_in es x n
entries-body_in m es x n h = entries-more _ _ _ _ (entries-more _ _ _ _ (entries-more _ _ _ _ (entries-more _ _ _ _ (entries-more _ _ _ _ h))))

first_entries : entries first_body ≡ entries_in [] 0 65
first_entries = entries-body_in no_entities [] 0 65 entries-empty

second_entries : entries second_body ≡ entries_in (entries_in [] 0 65) 1 71
second_entries = entries-body_in first_body (entries_in [] 0 65) 1 71 first_entries

other_entries : entries other_body ≡ entries_in (entries_in [] 0 65) 2 77
other_entries = entries-body_in first_body (entries_in [] 0 65) 2 77 first_entries

pub second_first : diff second_body first_body ≡ lists [] (71 ∷ 72 ∷ 73 ∷ 74 ∷ 75 ∷ []) []
second_first = diff_by_entries second_body first_body _ _ second_entries first_entries

first_none : diff first_body no_entities ≡ lists [] (65 ∷ 66 ∷ 67 ∷ 68 ∷ 69 ∷ []) []
first_none = diff_by_entries first_body no_entities _ _ first_entries entries-empty

other_second : diff other_body second_body ≡ lists (71 ∷ 72 ∷ 73 ∷ 74 ∷ 75 ∷ []) (77 ∷ 78 ∷ 79 ∷ 80 ∷ 81 ∷ []) []
other_second = diff_by_entries other_body second_body _ _ other_entries second_entries

there_and_back_told : answers there_and_back ≡ None ∷ made (65 ∷ 66 ∷ 67 ∷ 68 ∷ 69 ∷ []) ∷ made (70 ∷ []) ∷ made (71 ∷ 72 ∷ 73 ∷ 74 ∷ 75 ∷ []) ∷ moved second_body first_body ∷ moved first_body no_entities ∷ None ∷ []
unfolding tags_of tags_of_block
there_and_back_told = refl

pub there_and_back_answered : answers there_and_back ≡ there_and_back_answers
there_and_back_answered =
    there_and_back_told
    ∙ (λ i. None ∷ made (65 ∷ 66 ∷ 67 ∷ 68 ∷ 69 ∷ []) ∷ made (70 ∷ []) ∷ made (71 ∷ 72 ∷ 73 ∷ 74 ∷ 75 ∷ []) ∷ Some (Ok (Went (second_first i))) ∷ Some (Ok (Went (first_none i))) ∷ None ∷ [])

pub there_and_back_used : used_by there_and_back ≡ Some 12
unfolding tags_of tags_of_block
there_and_back_used = refl

two_branches_told : answers two_branches ≡ None ∷ made (65 ∷ 66 ∷ 67 ∷ 68 ∷ 69 ∷ []) ∷ made (70 ∷ []) ∷ made (71 ∷ 72 ∷ 73 ∷ 74 ∷ 75 ∷ []) ∷ made (76 ∷ []) ∷ moved second_body first_body ∷ made (77 ∷ 78 ∷ 79 ∷ 80 ∷ 81 ∷ []) ∷ moved other_body second_body ∷ []
unfolding tags_of tags_of_block
two_branches_told = refl

pub two_branches_answered : answers two_branches ≡ two_branches_answers
two_branches_answered =
    two_branches_told
    ∙ (λ i. None ∷ made (65 ∷ 66 ∷ 67 ∷ 68 ∷ 69 ∷ []) ∷ made (70 ∷ []) ∷ made (71 ∷ 72 ∷ 73 ∷ 74 ∷ 75 ∷ []) ∷ made (76 ∷ []) ∷ Some (Ok (Went (second_first i))) ∷ made (77 ∷ 78 ∷ 79 ∷ 80 ∷ 81 ∷ []) ∷ Some (Ok (Went (other_second i))) ∷ [])

pub two_branches_used : used_by two_branches ≡ Some 18
unfolding tags_of tags_of_block
two_branches_used = refl

pub no_marks_answered : answers no_marks ≡ no_marks_answers
unfolding tags_of tags_of_block
no_marks_answered = refl

-- the body that is made between the marks 65 and 71
abbrev marked_body : EntityMap
marked_body = body_in no_entities 0 66

marked_entries : entries marked_body ≡ entries_in [] 0 66
marked_entries = entries-body_in no_entities [] 0 66 entries-empty

none_marked : diff no_entities marked_body ≡ lists (66 ∷ 67 ∷ 68 ∷ 69 ∷ 70 ∷ []) [] []
none_marked = diff_by_entries no_entities marked_body _ _ entries-empty marked_entries

abbrev below_a_deleted_mark_with : Lists → List Answer
below_a_deleted_mark_with d =
    None ∷
    made (65 ∷ []) ∷
    made (66 ∷ 67 ∷ 68 ∷ 69 ∷ 70 ∷ []) ∷
    made (71 ∷ []) ∷
    Some (Ok (Delta d)) ∷
    marks_are 71 (row 64 None ∷ row 65 (Some (tag 64)) ∷ row 71 (Some (tag 65)) ∷ []) ∷
    Some (Ok Done) ∷
    marks_are 71 (row 64 None ∷ row 71 (Some (tag 64)) ∷ []) ∷
    Some (Ok (Delta d)) ∷
    refused InitialMark ∷ []

below_a_deleted_mark_told : answers below_a_deleted_mark ≡ below_a_deleted_mark_with (diff no_entities marked_body)
unfolding tags_of tags_of_block
below_a_deleted_mark_told = refl

pub below_a_deleted_mark_answered : answers below_a_deleted_mark ≡ below_a_deleted_mark_answers
below_a_deleted_mark_answered = below_a_deleted_mark_told ∙ ap below_a_deleted_mark_with none_marked

pub outside_answered : answers outside ≡ outside_answers
unfolding tags_of tags_of_block
outside_answered = refl

-- ---- tags of two blocks

pub drew_answered : then_answers (Drew 1 9 ∷ Did 1 (vertex_body 1) ∷ []) ≡ None ∷ made (125 ∷ 126 ∷ 127 ∷ 576 ∷ 577 ∷ []) ∷ []
unfolding tags_of tags_of_block
drew_answered = refl

pub spent_answered : then_answers (Spent 1 100 (vertex_body 1) ∷ []) ≡ refused (TagsSpent 100) ∷ []
unfolding tags_of tags_of_block
spent_answered = refl

pub short_of_tags : replay vertex_bodies 1 (twelve_bodies ++ Did 1 (vertex_body 1) ∷ []) ≡ None
unfolding tags_of tags_of_block
short_of_tags = refl

pub tags_to_spare : (next : ℕ) → replay vertex_bodies 1 (Claimed 1 ∷ Spent 1 next (vertex_body 1) ∷ []) ≡ None
tags_to_spare next = refl

pub block_below : replay vertex_bodies 1 (Claimed 1 ∷ Drew 1 9 ∷ Drew 1 9 ∷ []) ≡ None
block_below = refl

-- ---- what is not legal

pub no_replay : (n last : ℕ) (journal : List Entry) → replay vertex_bodies 1 journal ≡ None → Legal vertex_bodies 1 n last journal → ⊥
no_replay n last journal h l = true≢false (sym l.replays ∙ ap is_some h)

pub unheld : replay vertex_bodies 1 (Did 1 act.Mark ∷ []) ≡ None
unheld = refl

pub held_by_another : replay vertex_bodies 1 (Claimed 1 ∷ Did 2 act.Mark ∷ []) ≡ None
held_by_another = refl

pub claimed_twice : replay vertex_bodies 1 (Claimed 1 ∷ Claimed 2 ∷ []) ≡ None
claimed_twice = refl

pub released_by_another : replay vertex_bodies 1 (Claimed 1 ∷ Released 2 ∷ []) ≡ None
released_by_another = refl

pub drawn_only_within : (b : ℕ) → Legal vertex_bodies 1 3 9 (drawn_journal b) → (3 < b) × (b ≤ 9)
drawn_only_within b l = l.drawn.0

-- ---- the bounds of what is drawn and found spent

pub drawn_within_bounds : (b : ℕ) → IsSome (replay vertex_bodies 1 (drawn_journal b)) → 3 < b → b ≤ 9 → Legal vertex_bodies 1 3 9 (drawn_journal b)
drawn_within_bounds b h above below = record { replays = h; drawn = ((above, below), tt); spent = tt }

pub spent_within_bounds : (k : ℕ) → 9 < k → k ≤ 65544 → Legal vertex_bodies 1 3 9 (spent_journal k)
unfolding tags_of tags_of_block
spent_within_bounds k above below = record { replays = refl; drawn = tt; spent = ((above, below), tt) }

pub spent_only_within : (k : ℕ) → Legal vertex_bodies 1 3 9 (spent_journal k) → (9 < k) × (k ≤ 65544)
spent_only_within k l = l.spent.0

-- ---- blocks

pub blocks_short-enough : (cost spare : ℕ) → cost ≤ spare + 64 * blocks_short cost spare
blocks_short-enough cost spare = omega arith

pub blocks_short-least : (cost spare k : ℕ) → cost ≤ spare + 64 * k → blocks_short cost spare ≤ k
blocks_short-least cost spare k h = omega arith

-- ---- what is not apart

pub repeated : NoRepeats (tag 65 ∷ tag 65 ∷ []) → ⊥
repeated h = h.0.0 refl

live_untidy : (v : Entity) → IsSome (get (insert no_entities (tag 65) v) (tag 65))
live_untidy v = ap is_some (get-insert tag_total no_entities (tag 65) v (tag 65))

pub untidy_found : Apart untidy ((Claimed 1 ∷ Did 1 (vertex_body 0) ∷ []) ∷ []) → ⊥
untidy_found h =
    let taken = h.taken.0 2 _ refl (tag 65) (inl (live_untidy _)) in
    let within = taken.1 in
    omega arith

pub untidy_is_no_modeller : IsModeller untidy → ⊥
untidy_is_no_modeller t = untidy_found (one_journal_apart untidy t (Claimed 1 ∷ Did 1 (vertex_body 0) ∷ []) refl)
