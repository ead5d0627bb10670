-- The lines of a text, one after another.
use Rattle.std.proofs.Common.{◌≡◌, ℕ, ◌+◌, ◌<◌, ◌==◌, false, List, [], ◌∷◌, length, map, drop, get_or, Result, Err, refl, ap, sym, ◌∙◌}
use Rattle.std.proofs.lemmas.List.{at_drop_more}
use Rattle.std.proofs.Math.Seq.{drop-length}
use Rattle.std.specs.List.{slice_split}
use Rattle.script_text.specs.Lines.{text_lines, without_last}
use Rattle.script_text.specs.FieldWords.{◌>>=◌}
use Rattle.script_text.specs.Form.{BadLine, Draft, after_line, at_line, blank_draft, finished, script_from, script_of}
use Rattle.script_text.specs.Reading.{Reads}
use Rattle.script_text.specs.declared.script.Script.{Script}
use Rattle.script_text.specs.declared.reading.fault.ScriptNo.{ScriptNo}
use Rattle.script_text.specs.declared.reading.fault.ScriptNo.TheVariants as no

-- what stands between the bytes 10 of a text that is not empty
abbrev pub pieces : List ℕ → List (List ℕ)
pieces bytes = slice_split (λ c. c == 10) (without_last 10 bytes)

-- the script of the pieces n and on
abbrev pub script_after : ℕ → Draft → List (List ℕ) → Result Script BadLine
script_after n d lines = script_from (n + 1) d (map (without_last 13) (drop n lines))

pub script_of-pieces : (bytes : List ℕ) → (length bytes == 0) ≡ false → script_of bytes ≡ script_after 0 blank_draft (pieces bytes)
unfolding script_of text_lines
script_of-pieces [] some = cc
script_of-pieces (b ∷ bs) some = refl

pub script_of-none : (bytes : List ℕ) → length bytes ≡ 0 → script_of bytes ≡ at_line 1 (finished blank_draft)
unfolding script_of text_lines
script_of-none [] none = refl
script_of-none (b ∷ bs) none = cc

-- one line more
pub script_turn : (lines : List (List ℕ)) (n : ℕ) (line : List ℕ) (d : Draft) → n < length lines → line ≡ get_or lines n line → script_after n d lines ≡ (at_line (n + 1) (after_line (n + 1) d (without_last 13 line)) >>= λ a. script_after (n + 1) a lines)
script_turn lines n line d more is =
    at_drop_more (λ ls. script_from (n + 1) d (map (without_last 13) ls)) lines n line more
    ∙ ap (λ l. at_line (n + 1) (after_line (n + 1) d (without_last 13 l)) >>= λ a. script_after (n + 1) a lines) (sym is)

-- and none
pub script_end : (lines : List (List ℕ)) (n : ℕ) (d : Draft) → length lines ≡ n → script_after n d lines ≡ at_line (n + 1) (finished d)
script_end lines n d all = rw (sym all) (ap (λ ls. script_from (length lines + 1) d (map (without_last 13) ls)) (drop-length lines))

-- what offends on a line is what offends in the whole
pub offends : {D : Type 0} (view : D → Draft) (e : ScriptNo) (r : Result Draft BadLine) (f : Draft → Result Script BadLine) → Reads view (Err e) r → Reads (λ (s : Script). s) (Err e) (r >>= f)
offends view (no.Bad line cause) r f h = ap (λ x. x >>= f) h
offends view no.NoMemory r f h = tt
