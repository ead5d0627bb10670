-- A script that was read is well formed: the header's numbers are within their limits, each thread
-- ends with `end`, and no line has more than three tag operands.
use Rattle.std.proofs.Common.{◌≡◌, ℕ, ◌+◌, ◌≤◌, nat_le, ◌&&◌, Bool, true, false, cond, List, [], ◌∷◌, ◌++◌, length, length-append, refl, sym, ap, subst, arith}
use Rattle.std.proofs.lemmas.Bool.{and_parts, leb-false, leb-true}
use Rattle.std.proofs.lemmas.Result.{IfOk-at_ok}
use Rattle.std.specs.Prelude.{IfOk, Result, Ok, Err, bytes_eq, codes, nat_lt, ok_or, ⊤}
use Rattle.std.specs.List.{AllByRecursion}
use Rattle.pk_base.specs.declared.tag.TheConstants.{LAST_BLOCK}
use Rattle.pk_command.specs.Commands.{act_of, kinds_of, verb_of_word}
use Rattle.pk_command.specs.declared.field.Field.{Field}
use Rattle.pk_command.specs.declared.field.Kind.{Kind}
use Rattle.pk_command.specs.declared.field.Kind.TheVariants as kind
use Rattle.pk_command.specs.declared.verb.Verb.{Verb}
use Rattle.pk_command.specs.declared.verb.Verb.TheVariants as verb
use Rattle.list_facts.proofs.Each.{ByRecursion-append}
use Rattle.script_text.specs.FieldWords.{◌>>=◌, Spelled, after_field, after_fields, corners_after, fits, one_word, operand_of, point_words, spelled, tag_word, triple_of}
use Rattle.script_text.specs.Form.{Bound, Draft, after_header, after_line, after_schedule, after_thread, at_line, blank_draft, bound_of, by_stage, by_words, finished, inside, line_of, name_bound, no_words, one_number, order_of, order_of_command, order_with, outside, script_from, script_of, session_of, small_or_bad, thread_ended, turns_after, with_line, with_order}
use Rattle.script_text.specs.Lines.{are_text_bytes, is_comment, text_lines, words_of}
use Rattle.script_text.specs.Numbers.{begins_with_digit}
use Rattle.script_text.specs.declared.limits.TheConstants.{MOST_LINES, MOST_LINE_BYTES, MOST_PARTITIONS, MOST_THREADS}
use Rattle.script_text.specs.declared.script.Cause.{Cause}
use Rattle.script_text.specs.declared.script.Cause.TheVariants.{BadNumber, UnknownCommand, WordCount}
use Rattle.script_text.specs.declared.script.Operand.{Operand}
use Rattle.script_text.specs.declared.script.Order.{Order}
use Rattle.script_text.specs.declared.script.Order.TheVariants.{Lock, Unlock, End, On}
use Rattle.script_text.specs.declared.script.Script.{Script}
use Rattle.script_text.specs.declared.script.ScriptLine.{ScriptLine}
use Rattle.script_thread.specs.WellFormed.{IsThread, IsWellFormed, operand_count}

-- ---- what holds of the value of a reader, if it gives one

-- what always holds
any : {A E : Type 0} (r : Result A E) → IfOk r (λ _. ⊤)
any (Ok x) = tt
any (Err e) = tt

-- of what comes next, if it holds there for each value that came before
next : {A B E : Type 0} (P : A → Type 0) (Q : B → Type 0) (r : Result A E) (f : A → Result B E) → IfOk r P → ((x : A) → P x → IfOk (f x) Q) → IfOk (r >>= f) Q
next P Q (Ok x) f h k = k x h
next P Q (Err e) f h k = tt

-- of what comes next, whatever came before
then : {A B E : Type 0} (Q : B → Type 0) (r : Result A E) (f : A → Result B E) → ((x : A) → IfOk (f x) Q) → IfOk (r >>= f) Q
then Q r f k = next (λ _. ⊤) Q r f (any r) (λ x _. k x)

-- of either answer to a test
either : {A E : Type 0} (P : A → Type 0) (b : Bool) (x y : Result A E) → (b ≡ true → IfOk x P) → (b ≡ false → IfOk y P) → IfOk (cond b x y) P
either P true x y h k = h refl
either P false x y h k = k refl

-- ---- the tag operands of a line

-- no more operands than b were read
abbrev pub HasUpTo : ℕ → Spelled → Type 0
HasUpTo b s = length s.operands ≤ b

-- a tag adds one
tag_operands : (b : ℕ) (fields : List Field) (operands : List Operand) (left : List (List ℕ)) → length operands + 1 ≤ b →
    IfOk (tag_word (record { fields = fields; operands = operands; left = left })) (HasUpTo b)
tag_operands b fields operands [] h = tt
tag_operands b fields operands (w ∷ left) h = then (HasUpTo b) (operand_of w) _ (λ o. omega (arith, h, length-append operands (o ∷ [])))

-- a field of one word adds none
word_operands : (b : ℕ) (read : List ℕ → Result Field Cause) (fields : List Field) (operands : List Operand) (left : List (List ℕ)) → length operands + 1 ≤ b →
    IfOk (one_word read (record { fields = fields; operands = operands; left = left })) (HasUpTo b)
word_operands b read fields operands [] h = tt
word_operands b read fields operands (w ∷ left) h = then (HasUpTo b) (read w) _ (λ f. omega (arith, h))

-- a point adds none
point_operands : (b : ℕ) (words : List (List ℕ)) (s : Spelled) → length s.operands + 1 ≤ b → IfOk (point_words words s) (HasUpTo b)
point_operands b [] s h = tt
point_operands b (x ∷ []) s h = tt
point_operands b (x ∷ y ∷ []) s h = tt
point_operands b (x ∷ y ∷ z ∷ left) s h = then (HasUpTo b) (ok_or (triple_of x y z) BadNumber) _ (λ p. omega (arith, h))

-- the field of any kind adds at most one
field_operands : (b : ℕ) (k : Kind) (s : Spelled) → length s.operands + 1 ≤ b → IfOk (after_field k s) (HasUpTo b)
field_operands b kind.Tag s h = tag_operands b s.fields s.operands s.left h
field_operands b kind.Number s h = word_operands b _ s.fields s.operands s.left h
field_operands b kind.Point s h = point_operands b s.left s h
field_operands b kind.Corners s h = then (HasUpTo b) (corners_after [] s.left) _ (λ c. omega (arith, h))
field_operands b kind.Axis s h = word_operands b _ s.fields s.operands s.left h
field_operands b kind.Name s h = word_operands b _ s.fields s.operands s.left h

-- so fields add at most as many as they are
fields_operands : (b : ℕ) (kinds : List Kind) (s : Spelled) → length s.operands + length kinds ≤ b → IfOk (after_fields kinds s) (HasUpTo b)
fields_operands b [] s h = omega (arith, h)
fields_operands b (k ∷ kinds) s h =
    next (HasUpTo (length s.operands + 1)) (HasUpTo b) (after_field k s) _ (field_operands (length s.operands + 1) k s (omega arith))
    (λ t few. fields_operands b kinds t (omega (arith, h, few)))

-- no verb has more than three fields
few_fields : (v : Verb) → length (kinds_of v) ≤ 3
few_fields verb.Bodies = omega arith
few_fields v = omega arith

-- at most three operands
abbrev pub IsFew : Order → Type 0
IsFew order = operand_count order ≤ 3

-- the order of a verb and the words of its fields
few_with : (partition : List ℕ) (v : Verb) (b : Bound) → IfOk (order_with partition v b) IsFew
few_with partition v b =
    then IsFew (small_or_bad partition) _ (λ p.
    next (HasUpTo 3) IsFew (spelled (kinds_of v) b.words) _ (fields_operands 3 (kinds_of v) _ (omega (arith, few_fields v))) (λ s few.
    then IsFew (name_bound b.name) _ (λ bind.
    then IsFew (ok_or (act_of v s.fields) WordCount) _ (λ a. few))))

-- the order of a command
few_command : (partition : List ℕ) (words : List (List ℕ)) → IfOk (order_of_command partition words) IsFew
few_command partition [] = tt
few_command partition (command ∷ words) = then IsFew (ok_or (verb_of_word command) UnknownCommand) _ (λ v.
    either IsFew (fits (kinds_of v) (length (bound_of words).words)) _ _ (λ _. few_with partition v (bound_of words)) (λ _. tt))

-- `end` has none
few_end : (words : List (List ℕ)) → IfOk (no_words words End) IsFew
few_end [] = omega arith
few_end (w ∷ words) = tt

-- the order of a line has at most three operands
few_operands : (first : List ℕ) (words : List (List ℕ)) → IfOk (order_of first words) IsFew
few_operands first words =
    either IsFew (bytes_eq first (codes "thread")) _ _ (λ _. tt) (λ _.
    either IsFew (bytes_eq first (codes "lock")) _ _ (λ _. then IsFew (one_number words) _ (λ p. omega arith)) (λ _.
    either IsFew (bytes_eq first (codes "unlock")) _ _ (λ _. then IsFew (one_number words) _ (λ p. omega arith)) (λ _.
    either IsFew (bytes_eq first (codes "end")) _ _ (λ _. few_end words) (λ _.
    either IsFew (begins_with_digit first) _ _ (λ _. few_command first words) (λ _. tt)))))

-- ---- what was read so far

-- the draft that was read, or the blank one
abbrev pub draft_of : Result Draft Cause → Draft
draft_of (Ok d) = d
draft_of (Err c) = blank_draft

-- Drafts that have the four stages, which have no names outside the crate that reads.
abbrev pub header_next : Draft
header_next = blank_draft

abbrev pub schedule_next : Draft
schedule_next = draft_of (session_of blank_draft 1 1)

abbrev pub thread_next : Draft
thread_next = thread_ended blank_draft

abbrev pub line_next : Draft
line_next = draft_of (after_thread blank_draft [])

-- the header's numbers are within their limits
pub record HasHeader (n : ℕ) (last : ℕ) : Type 0 where
  pub some_partition : 1 ≤ n
  pub partitions : n ≤ MOST_PARTITIONS
  pub first : n ≤ last
  pub last_block : last ≤ LAST_BLOCK

-- a line with at most three operands
abbrev pub IsFewLine : ScriptLine → Type 0
IsFewLine line = IsFew line.order

-- There may be so many threads more than have ended, which are whole; and no line of the one that has
-- not ended has more than three operands.
pub record HasThreads (more : ℕ) (threads : List (List ScriptLine)) (lines : List ScriptLine) : Type 0 where
  pub room : length threads + more ≤ MOST_THREADS
  pub each : AllByRecursion IsThread threads
  pub few : AllByRecursion IsFewLine lines

-- what was read so far is in order, by its stage
pub data IsSound (d : Draft) : Type 0 where
  before_header : d.stage ≡ header_next.stage → HasThreads 0 d.threads d.lines → IsSound d
  before_schedule : d.stage ≡ schedule_next.stage → HasHeader d.n d.last → HasThreads 0 d.threads d.lines → IsSound d
  between_threads : d.stage ≡ thread_next.stage → HasHeader d.n d.last → HasThreads 0 d.threads d.lines → IsSound d
  in_thread : d.stage ≡ line_next.stage → HasHeader d.n d.last → HasThreads 1 d.threads d.lines → IsSound d

-- after the header
sound_header : (d : Draft) (words : List (List ℕ)) → HasThreads 0 d.threads d.lines → IfOk (after_header d words) IsSound
sound_header d [] h = tt
sound_header d (n ∷ []) h = tt
sound_header d (n ∷ last ∷ []) h =
    then IsSound (small_or_bad n) _ (λ n.
    then IsSound (small_or_bad last) _ (λ last.
    either IsSound (nat_le 1 n && (nat_le n MOST_PARTITIONS && (nat_le n last && nat_le last LAST_BLOCK))) _ _ (λ e.
    let a = and_parts (nat_le 1 n) (nat_le n MOST_PARTITIONS && (nat_le n last && nat_le last LAST_BLOCK)) e in
    let b = and_parts (nat_le n MOST_PARTITIONS) (nat_le n last && nat_le last LAST_BLOCK) a.1 in
    let c = and_parts (nat_le n last) (nat_le last LAST_BLOCK) b.1 in
    before_schedule refl
    (record {
      some_partition = leb-true 1 n a.0;
      partitions = leb-true n MOST_PARTITIONS b.0;
      first = leb-true n last c.0;
      last_block = leb-true last LAST_BLOCK c.1;
    })
    h) (λ _. tt)))
sound_header d (n ∷ last ∷ w ∷ words) h = tt

-- after the schedule
sound_schedule : (d : Draft) (words : List (List ℕ)) → HasHeader d.n d.last → HasThreads 0 d.threads d.lines → IfOk (after_schedule d words) IsSound
sound_schedule d words m h = then IsSound (turns_after [] words) _ (λ turns. between_threads refl m h)

-- a thread begins where there may be one more
sound_thread : (d : Draft) (words : List (List ℕ)) → HasHeader d.n d.last → HasThreads 0 d.threads d.lines → IfOk (after_thread d words) IsSound
sound_thread d [] m h = either IsSound (nat_le MOST_THREADS (length d.threads)) _ _ (λ _. tt) (λ more.
    let below = leb-false MOST_THREADS (length d.threads) more in
    in_thread refl m (record { room = omega (arith, below); each = h.each; few = h.few }))
sound_thread d (w ∷ words) m h = either IsSound (nat_le MOST_THREADS (length d.threads)) _ _ (λ _. tt) (λ _. tt)

-- after a line between the scripts of threads
sound_outside : (d : Draft) (first : List ℕ) (words : List (List ℕ)) → HasHeader d.n d.last → HasThreads 0 d.threads d.lines → IfOk (outside d first words) IsSound
sound_outside d first words m h = either IsSound (bytes_eq first (codes "thread")) _ _ (λ _. sound_thread d words m h) (λ _. tt)

-- the lines with one more
few_lines : (k : ℕ) (d : Draft) (order : Order) → AllByRecursion IsFewLine d.lines → IsFew order → AllByRecursion IsFewLine (d.lines ++ line_of k order ∷ [])
few_lines k d order h few = ByRecursion-append IsFewLine d.lines (line_of k order ∷ []) h (few, tt)

-- after an order with which the thread goes on
sound_more : (k : ℕ) (d : Draft) (order : Order) → d.stage ≡ line_next.stage → HasHeader d.n d.last → HasThreads 1 d.threads d.lines → IsFew order → IsSound (with_line k d order)
sound_more k d order at m h few =
    in_thread at m (record { room = h.room; each = h.each; few = few_lines k d order h.few few })

-- after an order; with `end` the thread has ended
sound_order : (k : ℕ) (d : Draft) (order : Order) → d.stage ≡ line_next.stage → HasHeader d.n d.last → HasThreads 1 d.threads d.lines → IsFew order → IsSound (with_order k d order)
sound_order k d End at m h few =
    let lines = d.lines ++ line_of k End ∷ [] in
    between_threads refl m
    (record {
      room = omega (arith, h.room, length-append d.threads (lines ∷ []));
      each = ByRecursion-append IsThread d.threads (lines ∷ []) h.each
          (record { front = d.lines; last = line_of k End; whole = refl; ends = refl; few = few_lines k d End h.few few }, tt);
      few = tt;
    })
sound_order k d (Lock p) at m h few = sound_more k d (Lock p) at m h few
sound_order k d (Unlock p) at m h few = sound_more k d (Unlock p) at m h few
sound_order k d (On p a operands bind) at m h few = sound_more k d (On p a operands bind) at m h few

-- after a line of a thread
sound_inside : (k : ℕ) (d : Draft) (first : List ℕ) (words : List (List ℕ)) → d.stage ≡ line_next.stage → HasHeader d.n d.last → HasThreads 1 d.threads d.lines → IfOk (inside k d first words) IsSound
sound_inside k d first words at m h = next IsFew IsSound (order_of first words) _ (few_operands first words) (λ order few. sound_order k d order at m h few)

-- after a line with words, by its stage
sound_stage : (k : ℕ) (d : Draft) (first : List ℕ) (words : List (List ℕ)) → IsSound d → IfOk (by_stage d.stage k d first words) IsSound
sound_stage k d first words (before_header at h) =
    subst (λ s. IfOk (by_stage s k d first words) IsSound) (sym at)
    (either IsSound (bytes_eq first (codes "session")) _ _ (λ _. sound_header d words h) (λ _. tt))
sound_stage k d first words (before_schedule at m h) =
    subst (λ s. IfOk (by_stage s k d first words) IsSound) (sym at)
    (either IsSound (bytes_eq first (codes "schedule")) _ _ (λ _. sound_schedule d words m h) (λ _. sound_outside d first words m h))
sound_stage k d first words (between_threads at m h) =
    subst (λ s. IfOk (by_stage s k d first words) IsSound) (sym at) (sound_outside d first words m h)
sound_stage k d first words (in_thread at m h) =
    subst (λ s. IfOk (by_stage s k d first words) IsSound) (sym at) (sound_inside k d first words at m h)

-- after any words
sound_words : (k : ℕ) (d : Draft) (words : List (List ℕ)) → IsSound d → IfOk (by_words k d words) IsSound
sound_words k d [] h = h
sound_words k d (first ∷ words) h = sound_stage k d first words h

-- what was read stays in order with each line
sound_line : (k : ℕ) (d : Draft) (line : List ℕ) → IsSound d → IfOk (after_line k d line) IsSound
unfolding after_line
sound_line k d line h =
    either IsSound (nat_lt MOST_LINES k) _ _ (λ _. tt) (λ _.
    either IsSound (nat_lt MOST_LINE_BYTES (length line)) _ _ (λ _. tt) (λ _.
    either IsSound (is_comment (words_of line)) _ _ (λ _. h) (λ _.
    either IsSound (are_text_bytes line) _ _ (λ _. sound_words k d (words_of line) h) (λ _. tt))))

-- ---- the whole

-- a reader of a line that is told with its number
at_a_line : {A : Type 0} (P : A → Type 0) (k : ℕ) (r : Result A Cause) → IfOk r P → IfOk (at_line k r) P
at_a_line P k (Ok x) h = h
at_a_line P k (Err c) h = tt

-- the script of threads that have ended is well formed
formed_of : (d : Draft) (threads : List (List ScriptLine)) → HasHeader d.n d.last → HasThreads 0 d.threads d.lines → d.threads ≡ threads → IfOk (finished (record d { stage = thread_next.stage; threads = threads })) IsWellFormed
formed_of d [] m h is = tt
formed_of d (t ∷ threads) m h is = record {
  some_partition = m.some_partition;
  partitions = m.partitions;
  first = m.first;
  last = m.last_block;
  some_thread = omega arith;
  threads = omega (arith, h.room, ap length is);
  each = subst (AllByRecursion IsThread) is h.each;
}

-- so is that of what was read, if it is whole
formed : (d : Draft) → IsSound d → IfOk (finished d) IsWellFormed
formed d (before_header at h) = subst (λ s. IfOk (finished (record d { stage = s })) IsWellFormed) (sym at) tt
formed d (before_schedule at m h) = subst (λ s. IfOk (finished (record d { stage = s })) IsWellFormed) (sym at) tt
formed d (between_threads at m h) = subst (λ s. IfOk (finished (record d { stage = s })) IsWellFormed) (sym at) (formed_of d d.threads m h refl)
formed d (in_thread at m h) = subst (λ s. IfOk (finished (record d { stage = s })) IsWellFormed) (sym at) tt

-- so is the script of what was read and of the lines that are left
formed_from : (k : ℕ) (d : Draft) (lines : List (List ℕ)) → IsSound d → IfOk (script_from k d lines) IsWellFormed
formed_from k d [] h = at_a_line IsWellFormed k (finished d) (formed d h)
formed_from k d (line ∷ lines) h =
    next IsSound IsWellFormed (at_line k (after_line k d line)) _ (at_a_line IsSound k (after_line k d line) (sound_line k d line h))
    (λ after more. formed_from (k + 1) after lines more)

-- nothing was read yet
sound_blank : IsSound blank_draft
sound_blank = before_header refl (record { room = omega arith; each = tt; few = tt })

-- A script that was read is well formed.
pub well_formed : (bytes : List ℕ) (script : Script) → script_of bytes ≡ Ok script → IsWellFormed script
unfolding script_of
well_formed bytes script e = IfOk-at_ok IsWellFormed e (formed_from 1 blank_draft (text_lines bytes) sound_blank)
