-- The words of the clauses on reading.
use Rattle.std.specs.Prelude.{◌≡◌, ℕ, List, [], ◌∷◌, Option, option_map, map, Result, Ok, Err, ok_or}
use Rattle.std.specs.Result.{result_map_both}
use Rattle.std.specs.Borrow.{Bor}
use Rattle.pk_base.specs.declared.entity.Pair.{Pair}
use Rattle.script_text.specs.FieldWords.{Spelled, pair_of}
use Rattle.script_text.specs.Form.{BadLine, Bound, Draft}
use Rattle.script_text.specs.declared.script.Cause.{Cause}
use Rattle.script_text.specs.declared.script.Cause.TheVariants.{BadNumber, WordCount}
use Rattle.script_text.specs.declared.reading.draft.Draft.{Draft as DraftHeld}
use Rattle.script_text.specs.declared.reading.fields.Spelled.{Spelled as SpelledHeld}
use Rattle.script_text.specs.declared.reading.fault.ScriptNo.{ScriptNo}
use Rattle.script_text.specs.declared.reading.fault.ScriptNo.TheVariants as no
use Rattle.script_text.specs.declared.reading.fault.LineFault.{LineFault}
use Rattle.script_text.specs.declared.reading.fault.LineFault.TheVariants as fault

-- the words that a slice of slices holds
abbrev pub words_now : List (Bor (List ℕ)) → List (List ℕ)
words_now words = map (λ w. w.now) words

-- what was read of a command, with its lists that grow and the words in slices
abbrev pub spelled_now : SpelledHeld → Spelled
spelled_now s =
    record { fields = s.fields.items; operands = s.operands.items; left = words_now s.left.now }

-- the corner at the front of the words
abbrev pub first_corner : List (List ℕ) → Result Pair Cause
first_corner [] = Err WordCount
first_corner (x ∷ []) = Err WordCount
first_corner (x ∷ y ∷ words) = ok_or (pair_of x y) BadNumber

-- the words without a name, and the name, that slices hold
abbrev pub bound_now : List (Bor (List ℕ)) → Option (Bor (List ℕ)) → Bound
bound_now words name = record { words = words_now words; name = option_map (λ w. w.now) name }

-- the draft with its finished lists and those that grow
abbrev pub draft_now : DraftHeld → Draft
draft_now d = record {
  stage = d.stage;
  n = d.n;
  last = d.last;
  schedule = d.schedule;
  threads = d.threads.items;
  lines = d.lines.items;
}

-- A reader that takes no memory answers what the form says, seen by view.
abbrev pub Gives : {A B : Type 0} → (A → B) → Result A Cause → Result B Cause → Type 0
Gives view result form = result_map_both view (λ c. c) result ≡ form

-- a fault of line k
abbrev pub fault_at : ℕ → LineFault → ScriptNo
fault_at k (fault.Bad cause) = no.Bad k cause
fault_at k fault.NoMemory = no.NoMemory

-- A reader of a line answers what the form says, seen by view, unless memory ran out.
abbrev pub Takes : {A B : Type 0} → (A → B) → Result A LineFault → Result B Cause → Type 0
Takes view (Ok x) form = form ≡ Ok (view x)
Takes view (Err (fault.Bad cause)) form = form ≡ Err cause
Takes view (Err fault.NoMemory) form = Unit {0}

-- A reader of lines answers what the form says, seen by view, unless memory ran out.
abbrev pub Reads : {A B : Type 0} → (A → B) → Result A ScriptNo → Result B BadLine → Type 0
Reads view (Ok x) form = form ≡ Ok (view x)
Reads view (Err (no.Bad line cause)) form = form ≡ Err (record { line = line; cause = cause })
Reads view (Err no.NoMemory) form = Unit {0}
