-- The text of a report. Fields are separated by one space, and each line ends with byte 10.
use Rattle.std.specs.Prelude.{ℕ, ◌+◌, ◌==◌, nat_le, if◌then◌else◌, List, [], ◌∷◌, ◌++◌, Option, None, Some, ℤ, codes, decimal}
use Rattle.std.specs.Fmt.{signed_decimal}
use Rattle.std.specs.List.{flat_map, take_while}
use Rattle.pk_base.specs.Entity.{class_word}
use Rattle.pk_base.specs.declared.tag.Tag.{Tag}
use Rattle.pk_base.specs.declared.entity.Name.{Name}
use Rattle.pk_base.specs.declared.entity.Triple.{Triple}
use Rattle.pk_base.specs.declared.entity.Pair.{Pair}
use Rattle.pk_base.specs.declared.entity.Axis.{Axis}
use Rattle.pk_base.specs.declared.entity.Axis.TheVariants as axis
use Rattle.pk_base.specs.declared.entity.Entity.{Entity}
use Rattle.pk_base.specs.declared.entity.Entity.TheVariants.{Body, Shell, Face, Loop, Fin, Edge, Vertex, Attr}
use Rattle.pk_base.specs.declared.list.Lists.{Lists}
use Rattle.pk_base.specs.declared.list.MarkRow.{MarkRow}
use Rattle.pk_base.specs.declared.act.Act.{Act}
use Rattle.pk_base.specs.declared.act.Reply.{Reply}
use Rattle.pk_base.specs.declared.act.Reply.TheVariants as reply
use Rattle.pk_base.specs.declared.act.Entry.{Entry}
use Rattle.pk_base.specs.declared.act.Entry.TheVariants.{Claimed, Drew, Did, Spent, Released}
use Rattle.pk_base.specs.declared.refusal.Refusal.{Refusal}
use Rattle.pk_base.specs.declared.refusal.Refusal.TheVariants.{NoSuchTag, WrongClass, OutOfRange, NotOneLoop, SameVertex, NotStrut, OneLoop, TwoLoops, HasRings, IsOuter, NotOneFace, NotOneBody, NotBare, CornerCount, BadPolygon, FlatSweep, NoAttribute, NotOurs, NotAMark, MarkDeleted, InitialMark, TagsSpent, NoPartition, NotLocked, AlreadyLocked, LockOrder, NoName, SameFace}
use Rattle.pk_command.specs.declared.field.Field.{Field}
use Rattle.pk_command.specs.declared.field.Field.TheVariants as field
use Rattle.pk_command.specs.Commands.{fields_of, verb_of, word_of}
use Rattle.script_text.specs.declared.report.Report.{Report}
use Rattle.script_text.specs.declared.report.Line.{Line}
use Rattle.script_text.specs.declared.report.LineSaid.{LineSaid}
use Rattle.script_text.specs.declared.report.LineSaid.TheVariants.{Locked, Unlocked, Ended, Answer, Refused}

abbrev pub space : List ℕ
space = codes " "

abbrev pub newline : List ℕ
newline = 10 ∷ []

-- ---- fields, each behind one space

abbrev pub number : ℕ → List ℕ
number n = space ++ decimal n

abbrev pub signed : ℤ → List ℕ
signed z = space ++ signed_decimal z

abbrev pub tag_field : Tag → List ℕ
tag_field t = number t.0

-- a tag, or `-` for none
abbrev pub optional_tag : Option Tag → List ℕ
optional_tag None = codes " -"
optional_tag (Some t) = tag_field t

-- numbers from first to last
pub record Span : Type 0 where
  pub first : ℕ
  pub last : ℕ

abbrev pub onto_spans : ℕ → List Span → List Span
onto_spans n [] = record { first = n; last = n } ∷ []
onto_spans n (r ∷ rs) =
    if n + 1 == r.first then record { first = n; last = r.last } ∷ rs
    else record { first = n; last = n } ∷ r ∷ rs

-- a list of tags, cut into maximal runs in which each tag is one more than the one before
abbrev pub runs : List Tag → List Span
runs [] = []
runs (t ∷ ts) = onto_spans t.0 (runs ts)

-- a run of three or more is its first and its last with `-` between; the tags of a shorter one
-- stand one by one
abbrev pub run_field : Span → List ℕ
run_field r =
    if nat_le (r.first + 2) r.last then number r.first ++ codes "-" ++ decimal r.last
    else (if r.first == r.last then number r.first else number r.first ++ number r.last)

abbrev pub runs_field : List Span → List ℕ
runs_field [] = codes " -"
runs_field (r ∷ rs) = flat_map run_field (r ∷ rs)

-- a list of tags; `-` where it is empty
unfoldable pub tags_field : List Tag → List ℕ
tags_field tags = runs_field (runs tags)

-- numbers one by one; `-` where there are none
abbrev pub numbers_field : List ℕ → List ℕ
numbers_field [] = codes " -"
numbers_field (n ∷ ns) = flat_map number (n ∷ ns)

abbrev pub lists_fields : Lists → List ℕ
lists_fields l =
    codes " fresh" ++ tags_field l.fresh
    ++ codes " gone" ++ tags_field l.gone
    ++ codes " changed" ++ tags_field l.changed

abbrev pub parent_number : Option Tag → ℕ
parent_number None = 0
parent_number (Some p) = p.0

-- a mark, `/`, and its parent, which is 0 for the initial mark
abbrev pub row_field : MarkRow → List ℕ
row_field r = tag_field r.tag ++ codes "/" ++ decimal (parent_number r.parent)

-- the name without its padding
abbrev pub name_field : Name → List ℕ
name_field n = space ++ take_while (λ b. nat_le 1 b) n.0

-- ---- what is said to a line

abbrev pub entity_fields : Entity → List ℕ
entity_fields (Body shell) = codes " body shell" ++ tag_field shell
entity_fields (Shell body q) = codes " shell body" ++ tag_field body ++ codes " q" ++ signed q
entity_fields (Face shell outer) =
    codes " face shell" ++ tag_field shell ++ codes " outer" ++ tag_field outer
entity_fields (Loop face first vertex) =
    codes " loop face" ++ tag_field face
    ++ codes " first" ++ optional_tag first
    ++ codes " lone" ++ optional_tag vertex
entity_fields (Fin loop_ next prev mate edge vertex) =
    codes " fin loop" ++ tag_field loop_
    ++ codes " next" ++ tag_field next
    ++ codes " prev" ++ tag_field prev
    ++ codes " mate" ++ tag_field mate
    ++ codes " edge" ++ tag_field edge
    ++ codes " vertex" ++ tag_field vertex
entity_fields (Edge body fin) =
    codes " edge body" ++ tag_field body ++ codes " fin" ++ tag_field fin
entity_fields (Vertex body point) =
    codes " vertex body" ++ tag_field body
    ++ codes " at" ++ signed point.x ++ signed point.y ++ signed point.z
entity_fields (Attr owner name value) =
    codes " attr owner" ++ tag_field owner
    ++ codes " name" ++ name_field name
    ++ codes " value" ++ signed value

abbrev pub reply_text : Reply → List ℕ
reply_text (reply.Made tags) = codes "made" ++ tags_field tags
reply_text reply.Done = codes "done"
reply_text (reply.Is entity) = codes "is" ++ entity_fields entity
reply_text (reply.List tags) = codes "list" ++ tags_field tags
reply_text (reply.Counts c) =
    codes "counts" ++ number c.vertices ++ number c.edges ++ number c.faces ++ number c.rings
    ++ signed c.q
reply_text (reply.Went lists) = codes "went" ++ lists_fields lists
reply_text (reply.Marks at rows) = codes "marks at" ++ tag_field at ++ flat_map row_field rows
reply_text (reply.Delta lists) = codes "delta" ++ lists_fields lists

-- the number of a refusal, its name, and its fields
abbrev pub refusal_fields : Refusal → List ℕ
refusal_fields (NoSuchTag t) = codes " 1 NoSuchTag" ++ tag_field t
refusal_fields (WrongClass t c) = codes " 2 WrongClass" ++ tag_field t ++ space ++ class_word c
refusal_fields (OutOfRange v) = codes " 3 OutOfRange" ++ signed v
refusal_fields (NotOneLoop a b) = codes " 4 NotOneLoop" ++ tag_field a ++ tag_field b
refusal_fields (SameVertex v) = codes " 5 SameVertex" ++ tag_field v
refusal_fields (NotStrut f) = codes " 6 NotStrut" ++ tag_field f
refusal_fields (OneLoop l) = codes " 7 OneLoop" ++ tag_field l
refusal_fields (TwoLoops a b) = codes " 8 TwoLoops" ++ tag_field a ++ tag_field b
refusal_fields (HasRings f) = codes " 9 HasRings" ++ tag_field f
refusal_fields (IsOuter l) = codes " 10 IsOuter" ++ tag_field l
refusal_fields (NotOneFace a b) = codes " 11 NotOneFace" ++ tag_field a ++ tag_field b
refusal_fields (NotOneBody a b) = codes " 12 NotOneBody" ++ tag_field a ++ tag_field b
refusal_fields (NotBare t) = codes " 13 NotBare" ++ tag_field t
refusal_fields (CornerCount n) = codes " 14 CornerCount" ++ number n
refusal_fields (BadPolygon n) = codes " 15 BadPolygon" ++ number n
refusal_fields FlatSweep = codes " 16 FlatSweep"
refusal_fields (NoAttribute o) = codes " 17 NoAttribute" ++ tag_field o
refusal_fields (NotOurs t) = codes " 18 NotOurs" ++ tag_field t
refusal_fields (NotAMark t) = codes " 19 NotAMark" ++ tag_field t
refusal_fields (MarkDeleted t) = codes " 20 MarkDeleted" ++ tag_field t
refusal_fields InitialMark = codes " 21 InitialMark"
refusal_fields (TagsSpent n) = codes " 22 TagsSpent" ++ number n
refusal_fields (NoPartition p) = codes " 23 NoPartition" ++ number p
refusal_fields (NotLocked p) = codes " 24 NotLocked" ++ number p
refusal_fields (AlreadyLocked p) = codes " 25 AlreadyLocked" ++ number p
refusal_fields (LockOrder p) = codes " 26 LockOrder" ++ number p
refusal_fields (NoName i) = codes " 27 NoName" ++ number i
refusal_fields (SameFace f) = codes " 28 SameFace" ++ tag_field f

abbrev pub said_text : LineSaid → List ℕ
said_text Locked = codes "locked"
said_text Unlocked = codes "unlocked"
said_text (Ended parts) = codes "ended" ++ numbers_field parts
said_text (Answer r) = reply_text r
said_text (Refused r) = codes "refused" ++ refusal_fields r

-- ---- what a journal says

abbrev pub triple_fields : Triple → List ℕ
triple_fields t = signed t.x ++ signed t.y ++ signed t.z

abbrev pub pair_fields : Pair → List ℕ
pair_fields p = signed p.x ++ signed p.y

abbrev pub axis_field : Axis → List ℕ
axis_field axis.X = codes " x"
axis_field axis.Y = codes " y"
axis_field axis.Z = codes " z"

-- a field of a command, behind one space for each of its words
abbrev pub field_text : Field → List ℕ
field_text (field.Tag t) = tag_field t
field_text (field.Number n) = signed n
field_text (field.Point p) = triple_fields p
field_text (field.Corners l) = flat_map pair_fields l
field_text (field.Axis a) = axis_field a
field_text (field.Name n) = name_field n

-- an act as its command: its word, and its fields in order
abbrev pub act_text : Act → List ℕ
act_text a = space ++ word_of (verb_of a) ++ flat_map field_text (fields_of a)

abbrev pub entry_text : Entry → List ℕ
entry_text (Claimed t) = codes "claimed" ++ number t
entry_text (Drew t b) = codes "drew" ++ number t ++ number b
entry_text (Did t a) = codes "did" ++ number t ++ act_text a
entry_text (Spent t next a) = codes "spent" ++ number t ++ number next ++ act_text a
entry_text (Released t) = codes "released" ++ number t

-- ---- the report

abbrev pub line_text : Line → List ℕ
line_text l = decimal l.number ++ space ++ said_text l.said ++ newline

-- the transcripts of the threads t, t + 1 and so on
abbrev pub threads_text : ℕ → List (List Line) → List ℕ
threads_text t [] = []
threads_text t (lines ∷ threads) =
    codes "thread" ++ number t ++ newline
    ++ flat_map line_text lines
    ++ threads_text (t + 1) threads

abbrev pub entry_line : Entry → List ℕ
entry_line e = entry_text e ++ newline

-- the journals of the partitions p, p + 1 and so on
abbrev pub journals_text : ℕ → List (List Entry) → List ℕ
journals_text p [] = []
journals_text p (entries ∷ journals) =
    codes "partition" ++ number p ++ newline
    ++ flat_map entry_line entries
    ++ journals_text (p + 1) journals

unfoldable pub text_of : Report → List ℕ
text_of r =
    codes "report" ++ number r.n ++ number r.last ++ newline
    ++ threads_text 1 r.threads
    ++ journals_text 1 r.journals
    ++ codes "end" ++ newline
