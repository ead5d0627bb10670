-- The words of what is said to a line, and how they are read back.
use Rattle.std.proofs.Common.{ℕ, if◌then◌else◌, List, [], ◌∷◌, ◌++◌, map, drop, codes, bytes_eq, decimal, refl, ap, ◌∙◌}
use Rattle.std.specs.Fmt.{signed_decimal}
use Rattle.pk_base.specs.Blocks.{tag}
use Rattle.pk_base.specs.declared.act.Reply.{Reply}
use Rattle.pk_base.specs.declared.act.Reply.TheVariants as reply
use Rattle.script_text.specs.declared.report.LineSaid.{LineSaid}
use Rattle.script_text.specs.declared.report.LineSaid.TheVariants.{Locked, Unlocked, Ended, Answer, Refused}
use Rattle.script_text.specs.Printable.{IsPrintableReply, IsPrintableSaid}
use Rattle.script_text.specs.Text.{space, said_text}
use Rattle.script_text.proofs.Decimals.{number_in, number_in-decimal, integer_in, integer_in-signed}
use Rattle.script_text.proofs.EntityWords.{entity_in, entity_told}
use Rattle.script_text.proofs.ListWords.{lists_in, lists_told, row_in, rows_told}
use Rattle.script_text.proofs.RefusalWords.{refusal_in, refusal_told}
use Rattle.script_text.proofs.Spelling.{Told, fixed, spells-append, spells-number, spells-signed, word_at}
use Rattle.script_text.proofs.TagWords.{tags_in, tag_words, numbers_in, number_words}

abbrev number_at : List (List ℕ) → ℕ → ℕ
number_at ws k = number_in (word_at ws k)

-- the reply whose first word is this one
abbrev reply_by : List ℕ → List (List ℕ) → Reply
reply_by w ws =
    if bytes_eq w (codes "made") then reply.Made (tags_in (drop 1 ws)) else (
    if bytes_eq w (codes "done") then reply.Done else (
    if bytes_eq w (codes "is") then reply.Is (entity_in ws) else (
    if bytes_eq w (codes "list") then reply.List (tags_in (drop 1 ws)) else (
    if bytes_eq w (codes "counts")
    then reply.Counts (record { vertices = number_at ws 1; edges = number_at ws 2; faces = number_at ws 3; rings = number_at ws 4; q = integer_in (word_at ws 5) }) else (
    if bytes_eq w (codes "went") then reply.Went (lists_in (drop 1 ws)) else (
    if bytes_eq w (codes "marks") then reply.Marks (tag (number_at ws 2)) (map row_in (drop 3 ws)) else
    reply.Delta (lists_in (drop 1 ws))))))))

abbrev said_by : List ℕ → List (List ℕ) → LineSaid
said_by w ws =
    if bytes_eq w (codes "locked") then Locked else (
    if bytes_eq w (codes "unlocked") then Unlocked else (
    if bytes_eq w (codes "ended") then Ended (numbers_in (drop 1 ws)) else (
    if bytes_eq w (codes "refused") then Refused (refusal_in ws) else
    Answer (reply_by w ws))))

abbrev pub said_in : List (List ℕ) → LineSaid
said_in ws = said_by (word_at ws 0) ws

abbrev IsTold : LineSaid → Type 0
IsTold s = Told (space ++ said_text s) said_in s

reply_told : (r : Reply) → IsPrintableReply r → IsTold (Answer r)
reply_told (reply.Made tags) h =
    let p = tag_words tags h in
    record { words = codes "made" ∷ p.words; spells = spells-append (fixed (codes "made" ∷ []) refl) p.spells; reads = ap (λ l. Answer (reply.Made l)) p.reads }
reply_told reply.Done h = record { words = codes "done" ∷ []; spells = fixed (codes "done" ∷ []) refl; reads = refl }
reply_told (reply.Is entity) h =
    let p = entity_told entity h in
    record { words = p.words; spells = p.spells; reads = ap (λ w. said_by w p.words) p.begins ∙ ap (λ e. Answer (reply.Is e)) p.reads }
reply_told (reply.List tags) h =
    let p = tag_words tags h in
    record { words = codes "list" ∷ p.words; spells = spells-append (fixed (codes "list" ∷ []) refl) p.spells; reads = ap (λ l. Answer (reply.List l)) p.reads }
reply_told (reply.Counts c) h = record {
  words = codes "counts" ∷ decimal c.vertices ∷ decimal c.edges ∷ decimal c.faces ∷ decimal c.rings ∷ signed_decimal c.q ∷ [];
  spells = spells-append (spells-append (spells-append (spells-append (spells-append (fixed (codes "counts" ∷ []) refl)
      (spells-number c.vertices)) (spells-number c.edges)) (spells-number c.faces)) (spells-number c.rings)) (spells-signed c.q);
  reads = λ i. Answer (reply.Counts (record {
    vertices = number_in-decimal c.vertices h.vertices i;
    edges = number_in-decimal c.edges h.edges i;
    faces = number_in-decimal c.faces h.faces i;
    rings = number_in-decimal c.rings h.rings i;
    q = integer_in-signed c.q h.q i;
  }));
}
reply_told (reply.Went lists) h =
    let p = lists_told lists h in
    record { words = codes "went" ∷ p.words; spells = spells-append (fixed (codes "went" ∷ []) refl) p.spells; reads = ap (λ l. Answer (reply.Went l)) p.reads }
reply_told (reply.Marks at rows) h =
    let p = rows_told rows h.1 in
    record {
      words = codes "marks" ∷ codes "at" ∷ decimal at.0 ∷ p.words;
      spells = spells-append (spells-append (fixed (codes "marks" ∷ codes "at" ∷ []) refl) (spells-number at.0)) p.spells;
      reads = λ i. Answer (reply.Marks (tag (number_in-decimal at.0 h.0 i)) (p.reads i));
    }
reply_told (reply.Delta lists) h =
    let p = lists_told lists h in
    record { words = codes "delta" ∷ p.words; spells = spells-append (fixed (codes "delta" ∷ []) refl) p.spells; reads = ap (λ l. Answer (reply.Delta l)) p.reads }

pub said_told : (s : LineSaid) → IsPrintableSaid s → IsTold s
said_told Locked h = record { words = codes "locked" ∷ []; spells = fixed (codes "locked" ∷ []) refl; reads = refl }
said_told Unlocked h = record { words = codes "unlocked" ∷ []; spells = fixed (codes "unlocked" ∷ []) refl; reads = refl }
said_told (Ended parts) h =
    let p = number_words parts h in
    record { words = codes "ended" ∷ p.words; spells = spells-append (fixed (codes "ended" ∷ []) refl) p.spells; reads = ap Ended p.reads }
said_told (Answer r) h = reply_told r h
said_told (Refused r) h =
    let p = refusal_told r h in
    record { words = p.words; spells = p.spells; reads = ap (λ w. said_by w p.words) p.begins ∙ ap Refused p.reads }
