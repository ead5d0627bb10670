-- The script that bytes are; or the first line that offends, with the first cause that applies to
-- it.
use Rattle.std.specs.Prelude.{ℕ, ◌+◌, nat_lt, nat_le, ◌&&◌, if◌then◌else◌, List, [], ◌∷◌, ◌++◌, length, Option, None, Some, Result, Ok, Err, ok_or, codes, bytes_eq}
use Rattle.pk_base.specs.declared.tag.TheConstants.{LAST_BLOCK}
use Rattle.pk_base.specs.declared.entity.Name.{Name}
use Rattle.pk_command.specs.declared.verb.Verb.{Verb}
use Rattle.pk_command.specs.Commands.{act_of, kinds_of, verb_of_word}
use Rattle.script_text.specs.Lines.{are_text_bytes, is_comment, text_lines, words_of}
use Rattle.script_text.specs.Numbers.{begins_with_digit, small_number_of}
use Rattle.script_text.specs.FieldWords.{◌>>=◌, fits, name_of, spelled}
use Rattle.script_text.specs.declared.limits.TheConstants.{MOST_LINES, MOST_LINE_BYTES, MOST_PARTITIONS, MOST_THREADS}
use Rattle.script_text.specs.declared.script.Cause.{Cause}
use Rattle.script_text.specs.declared.script.Cause.TheVariants.{TooManyLines, LongLine, BadByte, NoSession, NoThread, TooManyThreads, Unended, UnknownCommand, WordCount, BadNumber, BadName, BadSession}
use Rattle.script_text.specs.declared.script.Script.{Script}
use Rattle.script_text.specs.declared.script.ScriptLine.{ScriptLine}
use Rattle.script_text.specs.declared.script.Order.{Order}
use Rattle.script_text.specs.declared.script.Order.TheVariants.{Lock, Unlock, End, On}
use Rattle.script_text.specs.declared.reading.draft.Stage.{Stage}
use Rattle.script_text.specs.declared.reading.draft.Stage.TheVariants as stage

-- ---- what was read so far

-- which line comes next (`stage`); the header's numbers and the turns; the threads that have ended;
-- and the lines of the one that has not
pub record Draft : Type 0 where
  pub stage : Stage
  pub n : ℕ
  pub last : ℕ
  pub schedule : List ℕ
  pub threads : List (List ScriptLine)
  pub lines : List ScriptLine

abbrev pub blank_draft : Draft
blank_draft =
    record { stage = stage.Header; n = 0; last = 0; schedule = []; threads = []; lines = [] }

-- a number of 32 bits
abbrev pub small_or_bad : List ℕ → Result ℕ Cause
small_or_bad word = ok_or (small_number_of word) BadNumber

-- ---- the lines outside the scripts of threads, by their words after the first

abbrev pub session_of : Draft → ℕ → ℕ → Result Draft Cause
session_of d n last =
    if nat_le 1 n && (nat_le n MOST_PARTITIONS && (nat_le n last && nat_le last LAST_BLOCK))
    then Ok (record d { stage = stage.Schedule; n = n; last = last }) else Err BadSession

-- `session n last`
abbrev pub after_header : Draft → List (List ℕ) → Result Draft Cause
after_header d (n ∷ last ∷ []) = do
  n ← small_or_bad n
  last ← small_or_bad last
  session_of d n last
after_header d [] = Err WordCount
after_header d (n ∷ []) = Err WordCount
after_header d (n ∷ last ∷ w ∷ words) = Err WordCount

-- a number from 1 to the most threads
abbrev pub turn_of : List ℕ → Result ℕ Cause
turn_of word =
    small_or_bad word >>= λ t. if nat_le 1 t && nat_le t MOST_THREADS then Ok t else Err BadNumber

-- the turns before, and those of these words
abbrev pub turns_after : List ℕ → List (List ℕ) → Result (List ℕ) Cause
turns_after turns [] = Ok turns
turns_after turns (w ∷ words) = turn_of w >>= λ t. turns_after (turns ++ t ∷ []) words

-- `schedule` and its turns
abbrev pub after_schedule : Draft → List (List ℕ) → Result Draft Cause
after_schedule d words =
    turns_after [] words >>= λ turns. Ok (record d { stage = stage.Thread; schedule = turns })

-- `thread`, where there may be one more
abbrev pub after_thread : Draft → List (List ℕ) → Result Draft Cause
after_thread d words =
    if nat_le MOST_THREADS (length d.threads) then Err TooManyThreads
    else elim words [
      | [] ↦ Ok (record d { stage = stage.Line })
      | w ∷ more ↦ Err WordCount
    ]

-- ---- a thread's line

-- the partition of `lock p` and `unlock p`
abbrev pub one_number : List (List ℕ) → Result ℕ Cause
one_number [] = Err WordCount
one_number (p ∷ []) = small_or_bad p
one_number (p ∷ w ∷ words) = Err WordCount

abbrev pub no_words : List (List ℕ) → Order → Result Order Cause
no_words [] order = Ok order
no_words (w ∷ words) order = Err WordCount

-- words without `as` and a name at their end, and that name where they have one
pub record Bound : Type 0 where
  pub words : List (List ℕ)
  pub name : Option (List ℕ)

abbrev pub onto_bound : List ℕ → Bound → Bound
onto_bound w b = record b { words = w ∷ b.words }

abbrev pub bound_of : List (List ℕ) → Bound
bound_of [] = record { words = []; name = None }
bound_of (w ∷ []) = record { words = w ∷ []; name = None }
bound_of (v ∷ w ∷ []) =
    if bytes_eq v (codes "as") then record { words = []; name = Some w }
    else record { words = v ∷ w ∷ []; name = None }
bound_of (u ∷ v ∷ w ∷ words) = onto_bound u (bound_of (v ∷ w ∷ words))

abbrev pub name_bound : Option (List ℕ) → Result (Option Name) Cause
name_bound None = Ok None
name_bound (Some word) = ok_or (name_of word) BadName >>= λ n. Ok (Some n)

-- the partition, the fields of the verb, and the name after `as`, from left to right
abbrev pub order_with : List ℕ → Verb → Bound → Result Order Cause
order_with partition v b = do
  p ← small_or_bad partition
  s ← spelled (kinds_of v) b.words
  bind ← name_bound b.name
  a ← ok_or (act_of v s.fields) WordCount
  Ok (On p a s.operands bind)

-- an act, whose words are as many as the fields of its verb ask for
abbrev pub act_order : List ℕ → Verb → Bound → Result Order Cause
act_order partition v b =
    if fits (kinds_of v) (length b.words) then order_with partition v b else Err WordCount

abbrev pub order_of_command : List ℕ → List (List ℕ) → Result Order Cause
order_of_command partition [] = Err UnknownCommand
order_of_command partition (command ∷ words) =
    ok_or (verb_of_word command) UnknownCommand >>= λ v. act_order partition v (bound_of words)

-- a partition, and an act with the words of its fields
abbrev pub order_of_words : List ℕ → List (List ℕ) → Result Order Cause
order_of_words partition words =
    if begins_with_digit partition then order_of_command partition words else Err UnknownCommand

-- the order of a thread's line, by its first word and those after it
abbrev pub order_of : List ℕ → List (List ℕ) → Result Order Cause
order_of first words =
    if bytes_eq first (codes "thread") then Err Unended
    else (if bytes_eq first (codes "lock") then one_number words >>= (λ p. Ok (Lock p))
    else (if bytes_eq first (codes "unlock") then one_number words >>= (λ p. Ok (Unlock p))
    else (if bytes_eq first (codes "end") then no_words words End
    else order_of_words first words)))

abbrev pub line_of : ℕ → Order → ScriptLine
line_of k order = record { number = k; order = order }

abbrev pub with_line : ℕ → Draft → Order → Draft
with_line k d order = record d { lines = d.lines ++ line_of k order ∷ [] }

-- the thread has ended with the lines that it has
abbrev pub thread_ended : Draft → Draft
thread_ended d = record d { stage = stage.Thread; threads = d.threads ++ d.lines ∷ []; lines = [] }

-- line k of the thread; `end` is its last
abbrev pub with_order : ℕ → Draft → Order → Draft
with_order k d End = thread_ended (with_line k d End)
with_order k d (Lock p) = with_line k d (Lock p)
with_order k d (Unlock p) = with_line k d (Unlock p)
with_order k d (On p a operands bind) = with_line k d (On p a operands bind)

-- ---- a line, by its stage

-- a line within the script of a thread
abbrev pub inside : ℕ → Draft → List ℕ → List (List ℕ) → Result Draft Cause
inside k d first words = order_of first words >>= λ order. Ok (with_order k d order)

-- a line between the scripts of threads
abbrev pub outside : Draft → List ℕ → List (List ℕ) → Result Draft Cause
outside d first words =
    if bytes_eq first (codes "thread") then after_thread d words else Err NoThread

abbrev pub by_stage : Stage → ℕ → Draft → List ℕ → List (List ℕ) → Result Draft Cause
by_stage stage.Header k d first words =
    if bytes_eq first (codes "session") then after_header d words else Err NoSession
by_stage stage.Schedule k d first words =
    if bytes_eq first (codes "schedule") then after_schedule d words else outside d first words
by_stage stage.Thread k d first words = outside d first words
by_stage stage.Line k d first words = inside k d first words

-- a line of blanks alone is skipped
abbrev pub by_words : ℕ → Draft → List (List ℕ) → Result Draft Cause
by_words k d [] = Ok d
by_words k d (first ∷ words) = by_stage d.stage k d first words

-- Line k: too late, too long, a comment, with a byte that is no text, or as its stage asks.
unfoldable pub after_line : ℕ → Draft → List ℕ → Result Draft Cause
after_line k d line =
    if nat_lt MOST_LINES k then Err TooManyLines
    else (if nat_lt MOST_LINE_BYTES (length line) then Err LongLine
    else (let words = words_of line in
    if is_comment words then Ok d
    else (if are_text_bytes line then by_words k d words else Err BadByte)))

-- ---- the whole

-- the first line that offends, and why
pub record BadLine : Type 0 where
  pub line : ℕ
  pub cause : Cause

abbrev pub at_line : {A : Type 0} → ℕ → Result A Cause → Result A BadLine
at_line k (Ok x) = Ok x
at_line k (Err c) = Err (record { line = k; cause = c })

-- the script, once the input has ended
abbrev pub finished : Draft → Result Script Cause
finished d = elim d.stage [
  | stage.Header ↦ Err NoSession
  | stage.Schedule ↦ Err NoThread
  | stage.Thread ↦ elim d.threads [
    | [] ↦ Err NoThread
    | lines ∷ threads ↦ Ok (record
        { n = d.n; last = d.last; schedule = d.schedule; threads = d.threads })
  ]
  | stage.Line ↦ Err Unended
]

-- Lines k and on. What offends at the end of the input has the number of lines plus 1.
abbrev pub script_from : ℕ → Draft → List (List ℕ) → Result Script BadLine
script_from k d [] = at_line k (finished d)
script_from k d (line ∷ lines) =
    at_line k (after_line k d line) >>= λ after. script_from (k + 1) after lines

-- the script that the bytes are, or the first line that offends
unfoldable pub script_of : List ℕ → Result Script BadLine
script_of bytes = script_from 1 blank_draft (text_lines bytes)
