-- What a thread has seen goes on in the journal that is left; and what is known of each entry of it.
use Rattle.std.proofs.Common.{◌≡◌, ℕ, suc, ◌+◌, ◌==◌, ◌≢◌, true, false, cond, List, [], ◌∷◌, ◌++◌, length, length-append, map, Some, refl, sym, ap, subst, ◌∙◌, arith, append_assoc}
use Rattle.std.specs.Prelude.{slice_get}
use Rattle.std.specs.List.{AllByRecursion, range_with_len}
use Rattle.std.proofs.lemmas.Bool.{eq-eqb, false≢true}
use Rattle.std.proofs.lemmas.List.Elements.{filter-append}
use Rattle.pk_base.specs.declared.act.Entry.{Entry}
use Rattle.pk_base.specs.declared.act.Entry.TheVariants.{Claimed, Drew, Did, Spent, Released}
use Rattle.pk_model.specs.Modelling.{Modelling}
use Rattle.pk_model.specs.Replay.{thread_of}
use Rattle.partition.specs.Partition.{PartitionView}
use Rattle.script_text.specs.declared.script.ScriptLine.{ScriptLine}
use Rattle.script_text.specs.declared.report.Line.{Line}
use Rattle.script_thread.specs.Journals.{EachGoesOnWithout, GoesOnWithout}
use Rattle.session_table.specs.Entries.{only, thread_of as seat_of}
use Rattle.session_table.specs.Seats.{line_in, mine_of, seen_of}
use Rattle.session_table.specs.declared.view.Line.{Line as SeatLine}
use Rattle.pk_session.specs.Ends.{IsLeft, journals_of}
use Rattle.pk_session.specs.Views.{SeatView}
use Rattle.threaded_run.specs.Promise.{HasRun, IsKeptBy}

-- the number of an entry's thread has two definitions
pub one_thread : (e : Entry) → seat_of e ≡ thread_of e
one_thread (Claimed t) = refl
one_thread (Drew t b) = refl
one_thread (Did t a) = refl
one_thread (Spent t next a) = refl
one_thread (Released t) = refl

-- a list of which none is the seat's has none of its thread
none_only : (s : ℕ) (es : List Entry) → only s es ≡ [] → AllByRecursion (λ e. thread_of e ≢ s) es
none_only s [] none = tt
none_only s (e ∷ es) none =
    elim (seat_of e == s) as (λ b. seat_of e == s ≡ b → cond b (e ∷ only s es) (only s es) ≡ [] → AllByRecursion (λ x. thread_of x ≢ s) (e ∷ es)) [
      | true ↦ λ is k. absurd (cc)
      | false ↦ λ is k. ((λ same. false≢true (sym is ∙ eq-eqb (seat_of e) s (one_thread e ∙ same))), none_only s es k)
    ] refl none

module _ (K : Modelling) (root s : SeatView) (lines : List ScriptLine) (said : List Line) (run : HasRun K lines s said) (kept : IsKeptBy root s) where
  -- of the seat the journal has what the seat did
  pub only_mine : (p : ℕ) (x : PartitionView) → IsLeft K root p x → only s.view.number x.journal ≡ mine_of s.view p
  only_mine p x left =
      sym (left.joined s.view.number kept.joined kept.there) ∙ ap (λ (ls : List SeatLine). (line_in ls p).mine) kept.lines

  -- so it goes on without the seat
  goes_on : (p : ℕ) (x : PartitionView) → IsLeft K root p x → GoesOnWithout s.view.number (seen_of s.view p) x.journal
  goes_on p x left =
      let t = s.view.number in
      let seen = seen_of s.view p in
      let later = (kept.seen p).0 in
      let more = later ++ left.seen.0 in
      let whole : x.journal ≡ seen ++ more = left.seen.1 ∙ ap (λ j. j ++ left.seen.0) (kept.seen p).1 ∙ append_assoc seen later left.seen.0 in
      let same : only t seen ++ only t more ≡ only t seen = sym (filter-append (λ e. seat_of e == t) seen more) ∙ ap (only t) (sym whole) ∙ only_mine p x left ∙ run.whole p in
      record {
        more = more;
        whole = whole;
        others = none_only t more (nothing_more (only t seen) (only t more) same);
      }
    where
      nothing_more : (xs ys : List Entry) → xs ++ ys ≡ xs → ys ≡ []
      nothing_more xs [] h = refl
      nothing_more xs (y ∷ ys) h = absurd (omega (arith, ap length h, length-append xs (y ∷ ys)))

  -- each of the journals does
  pub each_goes_on : (a : ℕ) (xs : List PartitionView) → ((i : ℕ) (x : PartitionView) → slice_get xs i ≡ Some x → IsLeft K root (a + i) x) → EachGoesOnWithout s.view.number (map (seen_of s.view) (range_with_len a (length xs))) (journals_of xs)
  each_goes_on a [] each = tt
  each_goes_on a (x ∷ xs) each =
      let here : a + 0 ≡ a = omega arith in (
        goes_on a x (subst (λ p. IsLeft K root p x) here (each 0 x refl)),
        each_goes_on (a + 1) xs (λ i y h. let next : a + suc i ≡ (a + 1) + i = omega arith in subst (λ p. IsLeft K root p y) next (each (suc i) y h)),
      )
