-- Which of the worked reports are legal.
use Rattle.std.proofs.Common.{◌≡◌, ℕ, ◌≤◌, ◌&&◌, Bool, true, List, [], ◌∷◌, Option, None, Some, option_map, Ok, refl, sym, ap, ◌∙◌, arith}
use Rattle.std.specs.Prelude.{nat_le, IsSome}
use Rattle.std.specs.List.{list_all, AllByRecursion}
use Rattle.std.proofs.lemmas.Bool.{and_parts, leb-true}
use Rattle.std.proofs.lemmas.Option.{same_Some}
use Rattle.std.proofs.lemmas.List.Sorted.{IsPermutation-refl}
use Rattle.pk_base.specs.Blocks.{tag}
use Rattle.pk_base.specs.declared.tag.Tag.{Tag}
use Rattle.pk_base.specs.declared.act.Act.{Act}
use Rattle.pk_base.specs.declared.act.Act.TheVariants as act
use Rattle.pk_base.specs.declared.act.Entry.{Entry}
use Rattle.pk_base.specs.declared.act.Entry.TheVariants.{Did, Released}
use Rattle.pk_base.specs.declared.act.Reply.TheVariants.{Made, Went}
use Rattle.pk_model.specs.Tags.{tags_of, tags_of_block, tag_at}
use Rattle.pk_model.specs.Maps.{diff}
use Rattle.pk_model.specs.VertexBodies.{vertex_bodies}
use Rattle.pk_model.specs.State.{PartitionState}
use Rattle.pk_model.specs.Replay.{replay, thread_of}
use Rattle.script_text.specs.LegalReport.{LegalReport, LegalJournals, HasLegalJournals, OfThreads}
use Rattle.script_text.specs.Walk.{Walker, walker_of, left_at, said_of}
use Rattle.script_text.specs.declared.report.LineSaid.{LineSaid}
use Rattle.script_text.specs.declared.report.LineSaid.TheVariants.{Answer}
use Rattle.pk_laws.specs.WorkedMaps.{tags_from}
use Rattle.pk_laws.specs.WorkedJournals.{vertex_body}
use Rattle.pk_laws.specs.WorkedReports.{bare_lines, bare_said, bare_script, made, mark_journal, mark_lines, mark_report, mark_said, mark_script, untold_report, endless_script, held_report, first_lines, first_said, first_journal, second_lines, second_said, second_journal, shared_script, shared_report, ordered_lines, ordered_said, ordered_script, ordered_journal, ordered_journals, in_order, out_of_order}
use Rattle.pk_laws.specs.WorkedOrders.{name_m}
use Rattle.pk_laws.proofs.WorkedJournals.{first_body, second_body, second_first}
use Rattle.pk_laws.proofs.Walks.{Walked, done, locks, unlocks, ends, does, refuses, after_lock, act_says, act_did, end_releases, next_entry, next_answer, locked}

-- ---- the threads of journals, by a test

abbrev is_of : ℕ → Entry → Bool
is_of T e = nat_le 1 (thread_of e) && nat_le (thread_of e) T

entries_of_threads : (T : ℕ) (journal : List Entry) → list_all (is_of T) journal ≡ true → AllByRecursion (λ e. (1 ≤ thread_of e) × (thread_of e ≤ T)) journal
entries_of_threads T [] h = tt
entries_of_threads T (e ∷ es) h =
    let parts = and_parts _ _ h in
    let here = and_parts _ _ parts.0 in
    ((leb-true 1 (thread_of e) here.0, leb-true (thread_of e) T here.1), entries_of_threads T es parts.1)

pub of_threads : (T : ℕ) (journals : List (List Entry)) → list_all (list_all (is_of T)) journals ≡ true → OfThreads T journals
of_threads T [] h = tt
of_threads T (journal ∷ journals) h = let parts = and_parts _ _ h in (entries_of_threads T journal parts.0, of_threads T journals parts.1)

-- ---- one mark

mark_journals : LegalJournals vertex_bodies 1 1 1 (mark_journal ∷ [])
mark_journals = record {
  count = refl;
  each = (record { legal = record { replays = refl; drawn = tt; spent = tt }; free = refl }, tt);
  threads = of_threads 1 (mark_journal ∷ []) refl;
  drawn = IsPermutation-refl [];
  spent = λ h. absurd (omega arith);
}

abbrev at_mark : Walker
at_mark = walker_of vertex_bodies 1 (mark_journal ∷ [])

mark_walked : Walked vertex_bodies 1 1 at_mark mark_lines (mark_said (made (65 ∷ []))) (record { held = []; names = []; left = [] ∷ [] })
unfolding tags_of tags_of_block
mark_walked = locks refl refl (does 1 (Ok (Made (tags_from (65 ∷ [])))) refl (refl, (refl, refl)) refl (ends refl (refl, tt) done))

pub mark_is_legal : LegalReport vertex_bodies mark_script (mark_report (made (65 ∷ [])))
mark_is_legal = record {
  n = refl;
  last = refl;
  journals = mark_journals;
  transcripts = (record { after = _; walked = mark_walked.walks; all_taken = (refl, tt) }, tt);
}

abbrev tags_said : LineSaid → List Tag
tags_said (Answer (Made ts)) = ts
tags_said _ = []

other_tag : made (66 ∷ []) ≡ made (65 ∷ []) → ⊥
other_tag h = let same : 66 ≡ 65 = ap (λ said. (tag_at (tags_said said) 0).0) h in absurd (omega (arith, same))

mark_answers : next_answer (left_at (locked at_mark 1) 1) ≡ Some (Ok (Made (tags_from (65 ∷ []))))
unfolding tags_of tags_of_block
mark_answers = refl

pub no_other_answer : LegalReport vertex_bodies mark_script (mark_report (made (66 ∷ []))) → ⊥
no_other_answer h =
    let walked : Walked vertex_bodies 1 1 at_mark mark_lines (mark_said (made (66 ∷ []))) h.transcripts.0.after = record { walks = h.transcripts.0.walked } in
    let says = (act_says refl (after_lock refl walked)).1 in
    let did = act_did vertex_bodies 1 1 act.Mark act.Mark (left_at (locked at_mark 1) 1) says.answer says.rest refl says.taken in
    let same : Ok (Made (tags_from (65 ∷ []))) ≡ says.answer = same_Some _ _ (sym mark_answers ∙ did.1) in
    other_tag (says.tells ∙ ap said_of (sym same))

pub none_left_over : LegalReport vertex_bodies bare_script untold_report → ⊥
none_left_over h =
    let walked : Walked vertex_bodies 1 1 at_mark bare_lines bare_said h.transcripts.0.after = record { walks = h.transcripts.0.walked } in
    let next : next_entry (left_at (locked at_mark 1) 1) ≡ Some (Released 1) = end_releases refl (after_lock refl walked) in
    let same : Did 1 act.Mark ≡ Released 1 = same_Some _ _ next in
    absurd (cc)

pub none_held : LegalReport vertex_bodies endless_script held_report → ⊥
none_held h =
    let holder : Option ℕ = Some 1 in
    let same : holder ≡ None = same_Some holder None h.journals.each.0.free in
    absurd (cc)

-- ---- two threads and two partitions

shared_journals : LegalJournals vertex_bodies 2 2 2 (first_journal ∷ second_journal ∷ [])
unfolding tags_of tags_of_block
shared_journals = record {
  count = refl;
  each = (
    record { legal = record { replays = refl; drawn = tt; spent = tt }; free = refl },
    (record { legal = record { replays = refl; drawn = tt; spent = tt }; free = refl }, tt),
  );
  threads = of_threads 2 (first_journal ∷ second_journal ∷ []) refl;
  drawn = IsPermutation-refl [];
  spent = λ h. absurd (omega arith);
}

first_walked : Walked vertex_bodies 2 1 (walker_of vertex_bodies 1 (first_journal ∷ second_journal ∷ [])) first_lines first_said (record { held = []; names = (name_m, tag 70 ∷ []) ∷ []; left = [] ∷ [] ∷ [] })
unfolding tags_of tags_of_block
first_walked =
    locks refl refl
    (locks refl refl
    (does 1 (Ok (Made (tags_from (65 ∷ 66 ∷ 67 ∷ 68 ∷ 69 ∷ [])))) refl (refl, (refl, refl)) refl
    (does 1 (Ok (Made (tags_from (70 ∷ [])))) refl (refl, (refl, refl)) refl
    (does 1 (Ok (Made (tags_from (71 ∷ 72 ∷ 73 ∷ 74 ∷ 75 ∷ [])))) refl (refl, (refl, refl)) refl
    (does 1 (Ok (Went (diff second_body first_body))) refl (refl, (refl, refl)) (ap (λ d. Answer (Went d)) (sym second_first)) (ends refl (refl, (refl, tt)) done))))))

second_walked : Walked vertex_bodies 2 2 (walker_of vertex_bodies 2 (first_journal ∷ second_journal ∷ [])) second_lines second_said (record { held = []; names = []; left = [] ∷ [] ∷ [] })
unfolding tags_of tags_of_block
second_walked =
    locks refl refl
    (does 1 (Ok (Made (tags_from (129 ∷ [])))) refl (refl, (refl, refl)) refl
    (unlocks refl refl
    (refuses refl
    (locks refl refl
    (ends refl (refl, tt) done)))))

pub shared_is_legal : LegalReport vertex_bodies shared_script shared_report
shared_is_legal = record {
  n = refl;
  last = refl;
  journals = shared_journals;
  transcripts = (
    record { after = _; walked = first_walked.walks; all_taken = (refl, (refl, tt)) },
    (record { after = _; walked = second_walked.walks; all_taken = (refl, (refl, tt)) }, tt),
  );
}

-- ---- in order, and out of order

ordered_legal : (one other : Act) → IsSome (replay vertex_bodies 1 (ordered_journal one other)) → option_map (λ (s : PartitionState). s.holder) (replay vertex_bodies 1 (ordered_journal one other)) ≡ Some None → LegalJournals vertex_bodies 2 2 1 (ordered_journals one other)
ordered_legal one other replays free = record {
  count = refl;
  each = (
    record { legal = record { replays = replays; drawn = tt; spent = tt }; free = free },
    (record { legal = record { replays = refl; drawn = tt; spent = tt }; free = refl }, tt),
  );
  threads = of_threads 1 (ordered_journals one other) refl;
  drawn = IsPermutation-refl [];
  spent = λ h. absurd (omega arith);
}

in_order_walked : Walked vertex_bodies 2 1 (walker_of vertex_bodies 1 (ordered_journals (vertex_body 0) act.Mark)) ordered_lines (ordered_said (65 ∷ 66 ∷ 67 ∷ 68 ∷ 69 ∷ []) 70) (record { held = []; names = []; left = [] ∷ [] ∷ [] })
unfolding tags_of tags_of_block
in_order_walked =
    locks refl refl
    (locks refl refl
    (does 1 (Ok (Made (tags_from (65 ∷ 66 ∷ 67 ∷ 68 ∷ 69 ∷ [])))) refl (refl, (refl, refl)) refl
    (does 1 (Ok (Made (tags_from (70 ∷ [])))) refl (refl, (refl, refl)) refl
    (does 1 (Ok (Made (tags_from (129 ∷ [])))) refl (refl, (refl, refl)) refl
    (ends refl (refl, (refl, tt)) done)))))

pub in_order_is_legal : LegalReport vertex_bodies ordered_script in_order
in_order_is_legal = record {
  n = refl;
  last = refl;
  journals = ordered_legal (vertex_body 0) act.Mark refl refl;
  transcripts = (record { after = _; walked = in_order_walked.walks; all_taken = (refl, (refl, tt)) }, tt);
}

-- the journals by themselves are legal
pub out_of_order_journals : HasLegalJournals vertex_bodies out_of_order
out_of_order_journals = ordered_legal act.Mark (vertex_body 0) refl refl

abbrev out_of_order_walker : Walker
out_of_order_walker = walker_of vertex_bodies 1 (ordered_journals act.Mark (vertex_body 0))

pub out_of_order_is_not_legal : LegalReport vertex_bodies ordered_script out_of_order → ⊥
out_of_order_is_not_legal h =
    let walked : Walked vertex_bodies 2 1 out_of_order_walker ordered_lines (ordered_said (66 ∷ 67 ∷ 68 ∷ 69 ∷ 70 ∷ []) 65) h.transcripts.0.after = record { walks = h.transcripts.0.walked } in
    let says = (act_says refl (after_lock refl (after_lock refl walked))).1 in
    let did = act_did vertex_bodies 1 1 (vertex_body 0) act.Mark (left_at (locked (locked out_of_order_walker 1) 2) 1) says.answer says.rest refl says.taken in
    let same : Did 1 act.Mark ≡ Did 1 (vertex_body 0) = did.0 in
    absurd (cc)
