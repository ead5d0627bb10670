-- The lines of a report, and the report that they tell.
use Rattle.std.proofs.Common.{◌≡◌, ℕ, ◌+◌, Bool, if◌then◌else◌, List, [], ◌∷◌, ◌++◌, drop, codes, bytes_eq, decimal, refl, sym, ap, ◌∙◌, append-nil, append_assoc, subst}
use Rattle.std.specs.List.{flat_map, AllByRecursion}
use Rattle.pk_base.specs.declared.act.Entry.{Entry}
use Rattle.pk_base.specs.declared.act.Entry.TheVariants.{Claimed, Drew, Did, Spent, Released}
use Rattle.script_text.specs.declared.report.Report.{Report}
use Rattle.script_text.specs.declared.report.Line.{Line}
use Rattle.script_text.specs.Printable.{IsPrintableLine, IsPrintableEntry, IsPrintable}
use Rattle.script_text.specs.Text.{space, newline, number, said_text, line_text, threads_text, entry_text, entry_line, journals_text, text_of}
use Rattle.script_text.proofs.ActWords.{act_in, act_told}
use Rattle.script_text.proofs.Decimals.{number_in, number_in-decimal}
use Rattle.script_text.proofs.ReplyWords.{said_in, said_told}
use Rattle.script_text.proofs.Spelling.{Spells, Tells, fixed, spells-append, spells-number, tells-none, tells-append, tells-line, lines_in, lines_in-told, word_at}
use Rattle.script_text.proofs.TagWords.{is_low, decimal_low}

-- ---- one line

abbrev number_at : List (List ℕ) → ℕ → ℕ
number_at ws k = number_in (word_at ws k)

abbrev line_in : List (List ℕ) → Line
line_in ws = record { number = number_at ws 0; said = said_in (drop 1 ws) }

abbrev entry_by : List ℕ → List (List ℕ) → Entry
entry_by w ws =
    if bytes_eq w (codes "claimed") then Claimed (number_at ws 1) else (
    if bytes_eq w (codes "drew") then Drew (number_at ws 1) (number_at ws 2) else (
    if bytes_eq w (codes "did") then Did (number_at ws 1) (act_in (drop 2 ws)) else (
    if bytes_eq w (codes "spent") then Spent (number_at ws 1) (number_at ws 2) (act_in (drop 3 ws)) else
    Released (number_at ws 1))))

-- ---- what the lines from one on tell

-- the lines and the entries that no line before them has taken into a thread or a partition
record Telling : Type 0 where
  n : ℕ
  last : ℕ
  lines : List Line
  threads : List (List Line)
  entries : List Entry
  journals : List (List Entry)

abbrev nothing : Telling
nothing = record { n = 0; last = 0; lines = []; threads = []; entries = []; journals = [] }

abbrev with_heading : ℕ → ℕ → Telling → Telling
with_heading first second s = record { n = first; last = second; lines = s.lines; threads = s.threads; entries = s.entries; journals = s.journals }

abbrev with_lines : List Line → Telling → Telling
with_lines more s = record { n = s.n; last = s.last; lines = more ++ s.lines; threads = s.threads; entries = s.entries; journals = s.journals }

abbrev with_thread : Telling → Telling
with_thread s = record { n = s.n; last = s.last; lines = []; threads = s.lines ∷ s.threads; entries = s.entries; journals = s.journals }

abbrev with_entries : List Entry → Telling → Telling
with_entries more s = record { n = s.n; last = s.last; lines = s.lines; threads = s.threads; entries = more ++ s.entries; journals = s.journals }

abbrev with_partition : Telling → Telling
with_partition s = record { n = s.n; last = s.last; lines = s.lines; threads = s.threads; entries = []; journals = s.entries ∷ s.journals }

abbrev onto_by : Bool → List ℕ → List (List ℕ) → Telling → Telling
onto_by low w ws s =
    if low then with_lines (line_in ws ∷ []) s else (
    if bytes_eq w (codes "end") then nothing else (
    if bytes_eq w (codes "partition") then with_partition s else (
    if bytes_eq w (codes "thread") then with_thread s else (
    if bytes_eq w (codes "report") then with_heading (number_at ws 1) (number_at ws 2) s else
    with_entries (entry_by w ws ∷ []) s))))

abbrev telling : List (List (List ℕ)) → Telling
telling [] = nothing
telling (ws ∷ lines) = onto_by (is_low (word_at ws 0)) (word_at ws 0) ws (telling lines)

-- the lines of a text, and how they change what the lines after them tell
record Changes (text : List ℕ) (change : Telling → Telling) : Type 0 where
  lines : List (List (List ℕ))
  tells : Tells text lines
  changes : (after : List (List (List ℕ))) → telling (lines ++ after) ≡ change (telling after)

changes-append : {a b : List ℕ} {f g : Telling → Telling} → Changes a f → Changes b g → Changes (a ++ b) (λ s. f (g s))
changes-append {a} {b} {f} {g} p q = record {
  lines = p.lines ++ q.lines;
  tells = tells-append p.tells q.tells;
  changes = λ after. ap telling (append_assoc p.lines q.lines after) ∙ p.changes (q.lines ++ after) ∙ ap f (q.changes after);
}

one_line : (line : List ℕ) (words : List (List ℕ)) (f : Telling → Telling) → Spells (32 ∷ line) words →
    ((s : Telling) → onto_by (is_low (word_at words 0)) (word_at words 0) words s ≡ f s) → Changes (line ++ newline) f
one_line line words f p e = record { lines = words ∷ []; tells = tells-line line words p; changes = λ after. e (telling after) }

-- ---- a transcript

said_line : (l : Line) → IsPrintableLine l → Changes (line_text l) (with_lines (l ∷ []))
said_line l h =
    let p = said_told l.said h.1 in
    let words = decimal l.number ∷ p.words in
    one_line ((decimal l.number ++ space) ++ said_text l.said) words (with_lines (l ∷ []))
    (subst (λ t. Spells t words) (sym (append_assoc (number l.number) space (said_text l.said))) (spells-append (spells-number l.number) p.spells))
    (λ s. ap (λ b. onto_by b (decimal l.number) words s) (decimal_low l.number)
    ∙ (λ i. with_lines (record { number = number_in-decimal l.number h.0 i; said = p.reads i } ∷ []) s))

said_lines : (ls : List Line) → AllByRecursion IsPrintableLine ls → Changes (flat_map line_text ls) (with_lines ls)
said_lines [] h = record { lines = []; tells = tells-none; changes = λ after. refl }
said_lines (l ∷ ls) h = changes-append (said_line l h.0) (said_lines ls h.1)

abbrev with_threads : List (List Line) → Telling → Telling
with_threads [] s = s
with_threads (ls ∷ threads) s = with_thread (with_lines ls (with_threads threads s))

thread_lines : (t : ℕ) (threads : List (List Line)) → AllByRecursion (AllByRecursion IsPrintableLine) threads → Changes (threads_text t threads) (with_threads threads)
thread_lines t [] h = record { lines = []; tells = tells-none; changes = λ after. refl }
thread_lines t (ls ∷ threads) h =
    let heading = one_line (codes "thread" ++ number t) (codes "thread" ∷ decimal t ∷ []) with_thread (spells-append (fixed (codes "thread" ∷ []) refl) (spells-number t)) (λ s. refl) in
    changes-append (changes-append heading (said_lines ls h.0)) (thread_lines (t + 1) threads h.1)

-- ---- a journal

entry_changes : (e : Entry) → IsPrintableEntry e → Changes (entry_line e) (with_entries (e ∷ []))
entry_changes (Claimed t) h =
    one_line (entry_text (Claimed t)) (codes "claimed" ∷ decimal t ∷ []) (with_entries (Claimed t ∷ []))
    (spells-append (fixed (codes "claimed" ∷ []) refl) (spells-number t))
    (λ s i. with_entries (Claimed (number_in-decimal t h i) ∷ []) s)
entry_changes (Drew t b) h =
    one_line (entry_text (Drew t b)) (codes "drew" ∷ decimal t ∷ decimal b ∷ []) (with_entries (Drew t b ∷ []))
    (spells-append (spells-append (fixed (codes "drew" ∷ []) refl) (spells-number t)) (spells-number b))
    (λ s i. with_entries (Drew (number_in-decimal t h.0 i) (number_in-decimal b h.1 i) ∷ []) s)
entry_changes (Did t a) h =
    let p = act_told a h.1 in
    one_line (entry_text (Did t a)) (codes "did" ∷ decimal t ∷ p.words) (with_entries (Did t a ∷ []))
    (spells-append (spells-append (fixed (codes "did" ∷ []) refl) (spells-number t)) p.spells)
    (λ s i. with_entries (Did (number_in-decimal t h.0 i) (p.reads i) ∷ []) s)
entry_changes (Spent t next a) h =
    let p = act_told a h.2 in
    one_line (entry_text (Spent t next a)) (codes "spent" ∷ decimal t ∷ decimal next ∷ p.words) (with_entries (Spent t next a ∷ []))
    (spells-append (spells-append (spells-append (fixed (codes "spent" ∷ []) refl) (spells-number t)) (spells-number next)) p.spells)
    (λ s i. with_entries (Spent (number_in-decimal t h.0 i) (number_in-decimal next h.1 i) (p.reads i) ∷ []) s)
entry_changes (Released t) h =
    one_line (entry_text (Released t)) (codes "released" ∷ decimal t ∷ []) (with_entries (Released t ∷ []))
    (spells-append (fixed (codes "released" ∷ []) refl) (spells-number t))
    (λ s i. with_entries (Released (number_in-decimal t h i) ∷ []) s)

entry_lines : (es : List Entry) → AllByRecursion IsPrintableEntry es → Changes (flat_map entry_line es) (with_entries es)
entry_lines [] h = record { lines = []; tells = tells-none; changes = λ after. refl }
entry_lines (e ∷ es) h = changes-append (entry_changes e h.0) (entry_lines es h.1)

abbrev with_journals : List (List Entry) → Telling → Telling
with_journals [] s = s
with_journals (es ∷ journals) s = with_partition (with_entries es (with_journals journals s))

journal_lines : (p : ℕ) (journals : List (List Entry)) → AllByRecursion (AllByRecursion IsPrintableEntry) journals → Changes (journals_text p journals) (with_journals journals)
journal_lines p [] h = record { lines = []; tells = tells-none; changes = λ after. refl }
journal_lines p (es ∷ journals) h =
    let heading = one_line (codes "partition" ++ number p) (codes "partition" ∷ decimal p ∷ []) with_partition (spells-append (fixed (codes "partition" ∷ []) refl) (spells-number p)) (λ s. refl) in
    changes-append (changes-append heading (entry_lines es h.0)) (journal_lines (p + 1) journals h.1)

-- ---- a report

abbrev told_by : Telling → Report
told_by s = record { n = s.n; last = s.last; threads = s.threads; journals = s.journals }

abbrev of_threads : List (List Line) → List (List Entry) → Telling
of_threads threads journals = record { n = 0; last = 0; lines = []; threads = threads; entries = []; journals = journals }

threads_all : (threads : List (List Line)) (journals : List (List Entry)) → with_threads threads (of_threads [] journals) ≡ of_threads threads journals
threads_all [] journals = refl
threads_all (ls ∷ threads) journals =
    ap (λ s. with_thread (with_lines ls s)) (threads_all threads journals) ∙ ap (λ l. of_threads (l ∷ threads) journals) (append-nil ls)

journals_all : (journals : List (List Entry)) → with_journals journals nothing ≡ of_threads [] journals
journals_all [] = refl
journals_all (es ∷ journals) =
    ap (λ s. with_partition (with_entries es s)) (journals_all journals) ∙ ap (λ l. of_threads [] (l ∷ journals)) (append-nil es)

report_lines : (r : Report) → IsPrintable r → Changes (text_of r) (λ s. with_heading r.n r.last (with_threads r.threads (with_journals r.journals nothing)))
unfolding text_of
report_lines r h =
    let heading = one_line ((codes "report" ++ number r.n) ++ number r.last) (codes "report" ∷ decimal r.n ∷ decimal r.last ∷ []) (with_heading r.n r.last)
    (spells-append (spells-append (fixed (codes "report" ∷ []) refl) (spells-number r.n)) (spells-number r.last))
    (λ s i. with_heading (number_in-decimal r.n h.n i) (number_in-decimal r.last h.last i) s) in
    let end = one_line (codes "end") (codes "end" ∷ []) (λ s. nothing) (fixed (codes "end" ∷ []) refl) (λ s. refl) in
    let body = changes-append (changes-append heading (thread_lines 1 r.threads h.threads)) (journal_lines 1 r.journals h.journals) in
    let before = codes "report" ++ number r.n ++ number r.last ++ newline ++ threads_text 1 r.threads ++ journals_text 1 r.journals in
    subst (λ t. Changes t (λ s. with_heading r.n r.last (with_threads r.threads (with_journals r.journals nothing))))
    (sym (append_assoc before (codes "end") newline)) (changes-append body end)

-- the report of a text
abbrev report_in : List ℕ → Report
report_in text = told_by (telling (lines_in text))

report_back : (r : Report) → IsPrintable r → report_in (text_of r) ≡ r
report_back r h =
    let p = report_lines r h in
    ap (λ l. told_by (telling l)) (lines_in-told p.tells)
    ∙ ap told_by (p.changes (([] ∷ []) ∷ []))
    ∙ ap (λ s. told_by (with_heading r.n r.last (with_threads r.threads s))) (journals_all r.journals)
    ∙ ap (λ s. told_by (with_heading r.n r.last s)) (threads_all r.threads r.journals)

pub one_report : (r s : Report) → IsPrintable r → IsPrintable s → text_of r ≡ text_of s → r ≡ s
one_report r s p q e = sym (report_back r p) ∙ ap report_in e ∙ report_back s q
