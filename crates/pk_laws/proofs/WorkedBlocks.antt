-- A thread uses up its block: it draws the next one, or finds that there is none.
use Rattle.std.proofs.Common.{◌≡◌, ℕ, ◌+◌, ◌<◌, List, [], ◌∷◌, drop, Result, Ok, Err, refl, arith}
use Rattle.std.proofs.lemmas.List.Sorted.{IsPermutation-refl, All-permutation}
use Rattle.std.proofs.lemmas.List.Elements.{All-from_recursion, recursion_from_All}
use Rattle.pk_base.specs.declared.act.Act.TheVariants as act
use Rattle.pk_base.specs.declared.act.Entry.{Entry}
use Rattle.pk_base.specs.declared.act.Entry.TheVariants.{Claimed, Drew, Did, Spent, Released}
use Rattle.pk_base.specs.declared.act.Reply.{Reply}
use Rattle.pk_base.specs.declared.act.Reply.TheVariants.{Made}
use Rattle.pk_base.specs.declared.refusal.Refusal.{Refusal}
use Rattle.pk_base.specs.declared.refusal.Refusal.TheVariants.{TagsSpent}
use Rattle.pk_model.specs.Tags.{tags_of, tags_of_block}
use Rattle.pk_model.specs.VertexBodies.{vertex_bodies}
use Rattle.script_text.specs.LegalReport.{LegalReport, LegalJournals}
use Rattle.script_text.specs.Walk.{Walker, walker_of, left_at}
use Rattle.script_text.specs.declared.script.Order.TheVariants.{End}
use Rattle.script_text.specs.declared.report.LineSaid.{LineSaid}
use Rattle.script_text.specs.declared.report.LineSaid.TheVariants.{Refused, Ended}
use Rattle.pk_laws.specs.WorkedMaps.{tags_from}
use Rattle.pk_laws.specs.WorkedJournals.{vertex_body}
use Rattle.pk_laws.specs.WorkedReports.{line, told_at, made, body_line, full_lines, full_script, full_said, full_journal, drawn_report, spent_report, mark_lines, mark_said, wasteful_script, wasteful_report}
use Rattle.pk_laws.proofs.Walks.{Walked, done, locks, ends, does, after_lock, act_says}
use Rattle.pk_laws.proofs.WorkedReports.{of_threads}

-- what a body answers that takes these five tags
abbrev five : ℕ → Result Reply Refusal
five n = Ok (Made (tags_from (n ∷ (n + 1) ∷ (n + 2) ∷ (n + 3) ∷ (n + 4) ∷ [])))

abbrev after : Walker
after = record { held = []; names = []; left = [] ∷ [] }

-- ---- the twelve bodies

-- the thread after these, with the entries of what comes then
abbrev before_last : List Entry → Walker
before_last more = record { held = 1 ∷ []; names = []; left = drop 13 (left_at (walker_of vertex_bodies 1 (full_journal more ∷ [])) 1) ∷ [] }

-- what is walked from there is walked from the beginning
bodies_walked : (more : List Entry) (said : LineSaid) → Walked vertex_bodies 1 1 (before_last more) (body_line 16 ∷ line 17 End ∷ []) (told_at 16 said ∷ told_at 17 (Ended (1 ∷ [])) ∷ []) after → Walked vertex_bodies 1 1 (walker_of vertex_bodies 1 (full_journal more ∷ [])) full_lines (full_said said) after
unfolding tags_of tags_of_block
bodies_walked more said rest =
    locks refl refl
    (does 1 (five 65) refl (refl, (refl, refl)) refl
    (does 1 (five 70) refl (refl, (refl, refl)) refl
    (does 1 (five 75) refl (refl, (refl, refl)) refl
    (does 1 (five 80) refl (refl, (refl, refl)) refl
    (does 1 (five 85) refl (refl, (refl, refl)) refl
    (does 1 (five 90) refl (refl, (refl, refl)) refl
    (does 1 (five 95) refl (refl, (refl, refl)) refl
    (does 1 (five 100) refl (refl, (refl, refl)) refl
    (does 1 (five 105) refl (refl, (refl, refl)) refl
    (does 1 (five 110) refl (refl, (refl, refl)) refl
    (does 1 (five 115) refl (refl, (refl, refl)) refl
    (does 1 (five 120) refl (refl, (refl, refl)) refl
    rest))))))))))))

-- ---- a block is drawn

abbrev drawn : List Entry
drawn = Drew 1 2 ∷ Did 1 (vertex_body 0) ∷ []

drawn_walked : Walked vertex_bodies 1 1 (walker_of vertex_bodies 1 (full_journal drawn ∷ [])) full_lines (full_said (made (125 ∷ 126 ∷ 127 ∷ 128 ∷ 129 ∷ []))) after
unfolding tags_of tags_of_block
drawn_walked = bodies_walked drawn _ (does 2 (five 125) refl (refl, (omega arith, (refl, (refl, refl)))) refl (ends refl (refl, tt) done))

drawn_journals : LegalJournals vertex_bodies 1 2 1 (full_journal drawn ∷ [])
unfolding tags_of tags_of_block
drawn_journals = record {
  count = refl;
  each = (record { legal = record { replays = refl; drawn = ((omega arith, omega arith), tt); spent = tt }; free = refl }, tt);
  threads = of_threads 1 (full_journal drawn ∷ []) refl;
  drawn = IsPermutation-refl (2 ∷ []);
  spent = λ h. absurd (omega arith);
}

pub drawn_is_legal : LegalReport vertex_bodies (full_script 2) (drawn_report 2 2)
drawn_is_legal = record {
  n = refl;
  last = refl;
  journals = drawn_journals;
  transcripts = (record { after = _; walked = drawn_walked.walks; all_taken = (refl, tt) }, tt);
}

-- ---- there is none

abbrev spent : List Entry
spent = Spent 1 2 (vertex_body 0) ∷ []

spent_walked : Walked vertex_bodies 1 1 (walker_of vertex_bodies 1 (full_journal spent ∷ [])) full_lines (full_said (Refused (TagsSpent 2))) after
unfolding tags_of tags_of_block
spent_walked = bodies_walked spent _ (does 1 (Err (TagsSpent 2)) refl (refl, (refl, refl)) refl (ends refl (refl, tt) done))

spent_journals : LegalJournals vertex_bodies 1 1 1 (full_journal spent ∷ [])
unfolding tags_of tags_of_block
spent_journals = record {
  count = refl;
  each = (record { legal = record { replays = refl; drawn = tt; spent = ((omega arith, omega arith), tt) }; free = refl }, tt);
  threads = of_threads 1 (full_journal spent ∷ []) refl;
  drawn = IsPermutation-refl [];
  spent = λ h. refl;
}

pub spent_is_legal : LegalReport vertex_bodies (full_script 1) (spent_report 1 2)
spent_is_legal = record {
  n = refl;
  last = refl;
  journals = spent_journals;
  transcripts = (record { after = _; walked = spent_walked.walks; all_taken = (refl, tt) }, tt);
}

-- ---- what the journals may not do

-- a block is passed over
pub gap_is_not_legal : LegalReport vertex_bodies (full_script 3) (drawn_report 3 3) → ⊥
gap_is_not_legal h =
    let all = recursion_from_All (λ b. 3 ≡ b) (2 ∷ []) (All-permutation (λ b. 3 ≡ b) (3 ∷ []) (2 ∷ []) h.journals.drawn (All-from_recursion (λ b. 3 ≡ b) (3 ∷ []) (refl, tt))) in
    let same : 3 ≡ 2 = all.0 in
    absurd (omega (arith, same))

-- a number is found spent while a block is left
pub too_soon_is_not_legal : LegalReport vertex_bodies (full_script 2) (spent_report 2 3) → ⊥
too_soon_is_not_legal h =
    let some : 0 < 1 = omega arith in
    let same : 1 ≡ 2 = h.journals.spent some in
    absurd (omega (arith, same))

-- a block is drawn for an act that has tags enough
pub waste_is_not_legal : LegalReport vertex_bodies wasteful_script wasteful_report → ⊥
unfolding tags_of tags_of_block
waste_is_not_legal h =
    let start = walker_of vertex_bodies 1 ((Claimed 1 ∷ Drew 1 2 ∷ Did 1 act.Mark ∷ Released 1 ∷ []) ∷ []) in
    let walked : Walked vertex_bodies 1 1 start mark_lines (mark_said (made (65 ∷ []))) h.transcripts.0.after = record { walks = h.transcripts.0.walked } in
    let says = (act_says refl (after_lock refl walked)).1 in
    let short : 0 < 0 = says.taken.1.0 in
    absurd (omega (arith, short))
