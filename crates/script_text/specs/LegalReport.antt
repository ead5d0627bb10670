-- When a report is legal.
use Rattle.std.specs.Prelude.{◌≡◌, ℕ, ◌+◌, ◌<◌, ◌≤◌, List, [], ◌∷◌, length, None, Some, IsPermutation, option_map}
use Rattle.std.specs.List.{range_with_len, flat_map, filter_map, AllByRecursion}
use Rattle.pk_base.specs.declared.act.Entry.{Entry}
use Rattle.pk_model.specs.State.{PartitionState}
use Rattle.pk_model.specs.Modelling.{Modelling}
use Rattle.pk_model.specs.Replay.{Legal, replay, spent_number, thread_of}
use Rattle.pk_model.specs.Sessions.{drawn_in}
use Rattle.script_text.specs.Walk.{Walker, Walks, walker_of}
use Rattle.script_text.specs.declared.script.Script.{Script}
use Rattle.script_text.specs.declared.script.ScriptLine.{ScriptLine}
use Rattle.script_text.specs.declared.report.Report.{Report}
use Rattle.script_text.specs.declared.report.Line.{Line}

-- the journal is legal and ends without a holder
pub record LegalToItsEnd (K : Modelling) (p n last : ℕ) (journal : List Entry) : Type 0 where
  pub legal : Legal K p n last journal
  pub free : option_map (λ (s : PartitionState). s.holder) (replay K p journal) ≡ Some None

-- the journals of the partitions p, p + 1 and so on
abbrev pub EachLegal : Modelling → ℕ → ℕ → ℕ → List (List Entry) → Type 0
EachLegal K p n last [] = Unit {0}
EachLegal K p n last (journal ∷ journals) =
    LegalToItsEnd K p n last journal × EachLegal K (p + 1) n last journals

-- the numbers that all journals found spent
abbrev pub spent_in : List (List Entry) → List ℕ
spent_in journals = flat_map (filter_map spent_number) journals

-- each entry is of a thread from 1 to T
abbrev pub OfThreads : ℕ → List (List Entry) → Type 0
OfThreads T journals =
    AllByRecursion (AllByRecursion (λ e. (1 ≤ thread_of e) × (thread_of e ≤ T))) journals

-- The journals of a session of n partitions, T threads and the last block `last`: one for each
-- partition, legal, of these threads; the blocks drawn are n + 1, n + 2 and so on, each once, and
-- they run to `last` where a number was found spent.
pub record LegalJournals
    (K : Modelling) (n last T : ℕ) (journals : List (List Entry)) : Type 0 where
  pub count : length journals ≡ n
  pub each : EachLegal K 1 n last journals
  pub threads : OfThreads T journals
  pub drawn :
      IsPermutation (drawn_in journals) (range_with_len (n + 1) (length (drawn_in journals)))
  pub spent : 0 < length (spent_in journals) → n + length (drawn_in journals) ≡ last

-- The transcript of thread t is what its lines say, walked in order over its entries, and they take
-- all of its entries.
pub record IsTranscript
    (K : Modelling) (n t : ℕ) (journals : List (List Entry))
    (lines : List ScriptLine) (said : List Line) : Type 0 where
  pub after : Walker
  pub walked : Walks K n t (walker_of K t journals) lines said after
  pub all_taken : AllByRecursion (λ left. left ≡ []) after.left

-- the transcripts of the threads t, t + 1 and so on
abbrev pub EachTranscript : Modelling → ℕ → ℕ → List (List Entry) →
    List (List ScriptLine) → List (List Line) → Type 0
EachTranscript K n t journals [] [] = Unit {0}
EachTranscript K n t journals (lines ∷ threads) (said ∷ transcripts) =
    IsTranscript K n t journals lines said × EachTranscript K n (t + 1) journals threads transcripts
EachTranscript K n t journals [] (said ∷ transcripts) = ⊥
EachTranscript K n t journals (lines ∷ threads) [] = ⊥

-- the journals are legal, whatever the script was
abbrev pub HasLegalJournals : Modelling → Report → Type 0
HasLegalJournals K r = LegalJournals K r.n r.last (length r.threads) r.journals

-- the report is one of the script: with its partitions, its last block and its threads
pub record LegalReport (K : Modelling) (script : Script) (r : Report) : Type 0 where
  pub n : r.n ≡ script.n
  pub last : r.last ≡ script.last
  pub journals : HasLegalJournals K r
  pub transcripts : EachTranscript K r.n 1 r.journals script.threads r.threads
