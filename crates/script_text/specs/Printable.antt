-- The reports that print apart: names have the form that a script gives them, mark rows hold tags
-- of at least 64, and numbers have at most 64 bits, a sign apart.
use Rattle.std.specs.Prelude.{◌≡◌, ℕ, ◌-◌, ◌^◌, ◌<◌, ◌≤◌, IsTrue, List, ◌∷◌, ◌++◌, length, replicate, Option, None, Some, ℤ, nat_abs}
use Rattle.std.specs.List.{AllByRecursion, list_all}
use Rattle.pk_base.specs.declared.tag.Tag.{Tag}
use Rattle.pk_base.specs.declared.entity.Name.{Name}
use Rattle.pk_base.specs.declared.entity.Triple.{Triple}
use Rattle.pk_base.specs.declared.entity.Pair.{Pair}
use Rattle.pk_base.specs.declared.entity.Point.{Point}
use Rattle.pk_base.specs.declared.entity.Counted.{Counted}
use Rattle.pk_base.specs.declared.entity.Entity.{Entity}
use Rattle.pk_base.specs.declared.entity.Entity.TheVariants.{Body, Shell, Face, Loop, Fin, Edge, Vertex, Attr}
use Rattle.pk_base.specs.declared.list.Lists.{Lists}
use Rattle.pk_base.specs.declared.list.MarkRow.{MarkRow}
use Rattle.pk_base.specs.declared.act.Act.{Act}
use Rattle.pk_base.specs.declared.act.Reply.{Reply}
use Rattle.pk_base.specs.declared.act.Reply.TheVariants as reply
use Rattle.pk_base.specs.declared.act.Entry.{Entry}
use Rattle.pk_base.specs.declared.act.Entry.TheVariants.{Claimed, Drew, Did, Spent, Released}
use Rattle.pk_base.specs.declared.refusal.Refusal.{Refusal}
use Rattle.pk_base.specs.declared.refusal.Refusal.TheVariants.{NoSuchTag, WrongClass, OutOfRange, NotOneLoop, SameVertex, NotStrut, OneLoop, TwoLoops, HasRings, IsOuter, NotOneFace, NotOneBody, NotBare, CornerCount, BadPolygon, FlatSweep, NoAttribute, NotOurs, NotAMark, MarkDeleted, InitialMark, TagsSpent, NoPartition, NotLocked, AlreadyLocked, LockOrder, NoName, SameFace}
use Rattle.pk_command.specs.declared.field.Field.{Field}
use Rattle.pk_command.specs.declared.field.Field.TheVariants as field
use Rattle.pk_command.specs.Commands.{fields_of}
use Rattle.script_text.specs.FieldWords.{is_letter, is_name_byte}
use Rattle.script_text.specs.declared.report.Report.{Report}
use Rattle.script_text.specs.declared.report.Line.{Line}
use Rattle.script_text.specs.declared.report.LineSaid.{LineSaid}
use Rattle.script_text.specs.declared.report.LineSaid.TheVariants.{Locked, Unlocked, Ended, Answer, Refused}

-- ---- numbers, tags and names

abbrev pub IsNumber : ℕ → Type 0
IsNumber n = n < 2 ^ 64

abbrev pub IsInteger : ℤ → Type 0
IsInteger z = nat_abs z < 2 ^ 64

abbrev pub IsTag : Tag → Type 0
IsTag t = IsNumber t.0

abbrev pub AreTags : List Tag → Type 0
AreTags tags = AllByRecursion IsTag tags

abbrev pub IsOptionalTag : Option Tag → Type 0
IsOptionalTag None = Unit {0}
IsOptionalTag (Some t) = IsTag t

-- a letter, then up to 15 letters, digits and `_`, padded with zeros to 16 bytes
pub record IsName (name : Name) : Type 0 where
  pub letter : ℕ
  pub others : List ℕ
  pub begins : IsTrue (is_letter letter)
  pub goes_on : IsTrue (list_all is_name_byte others)
  pub short : length others ≤ 15
  pub padded : name ≡ record { 0 = (letter ∷ others) ++ replicate (15 - length others) 0 }

pub record IsTriple (t : Triple) : Type 0 where
  pub x : IsInteger t.x
  pub y : IsInteger t.y
  pub z : IsInteger t.z

pub record IsPoint (p : Point) : Type 0 where
  pub x : IsInteger p.x
  pub y : IsInteger p.y
  pub z : IsInteger p.z

abbrev pub IsPair : Pair → Type 0
IsPair p = IsInteger p.x × IsInteger p.y

-- ---- what is said to a line

pub record AreLists (l : Lists) : Type 0 where
  pub fresh : AreTags l.fresh
  pub gone : AreTags l.gone
  pub changed : AreTags l.changed

-- a tag of block 1 or above
abbrev pub IsMark : Tag → Type 0
IsMark t = (64 ≤ t.0) × IsTag t

abbrev pub IsOptionalMark : Option Tag → Type 0
IsOptionalMark None = Unit {0}
IsOptionalMark (Some t) = IsMark t

-- a mark and its parent
abbrev pub IsRow : MarkRow → Type 0
IsRow row = IsMark row.tag × IsOptionalMark row.parent

pub record IsCounted (c : Counted) : Type 0 where
  pub vertices : IsNumber c.vertices
  pub edges : IsNumber c.edges
  pub faces : IsNumber c.faces
  pub rings : IsNumber c.rings
  pub q : IsInteger c.q

pub record AreFinTags (loop_ next prev mate edge vertex : Tag) : Type 0 where
  pub of_loop : IsTag loop_
  pub of_next : IsTag next
  pub of_prev : IsTag prev
  pub of_mate : IsTag mate
  pub of_edge : IsTag edge
  pub of_vertex : IsTag vertex

abbrev pub IsPrintableEntity : Entity → Type 0
IsPrintableEntity (Body shell) = IsTag shell
IsPrintableEntity (Shell body q) = IsTag body × IsInteger q
IsPrintableEntity (Face shell outer) = IsTag shell × IsTag outer
IsPrintableEntity (Loop face first vertex) =
    IsTag face × IsOptionalTag first × IsOptionalTag vertex
IsPrintableEntity (Fin loop_ next prev mate edge vertex) =
    AreFinTags loop_ next prev mate edge vertex
IsPrintableEntity (Edge body fin) = IsTag body × IsTag fin
IsPrintableEntity (Vertex body point) = IsTag body × IsPoint point
IsPrintableEntity (Attr owner name value) = IsTag owner × IsName name × IsInteger value

abbrev pub IsPrintableReply : Reply → Type 0
IsPrintableReply (reply.Made tags) = AreTags tags
IsPrintableReply reply.Done = Unit {0}
IsPrintableReply (reply.Is entity) = IsPrintableEntity entity
IsPrintableReply (reply.List tags) = AreTags tags
IsPrintableReply (reply.Counts c) = IsCounted c
IsPrintableReply (reply.Went lists) = AreLists lists
IsPrintableReply (reply.Marks at rows) = IsTag at × AllByRecursion IsRow rows
IsPrintableReply (reply.Delta lists) = AreLists lists

abbrev pub IsPrintableRefusal : Refusal → Type 0
IsPrintableRefusal (NoSuchTag t) = IsTag t
IsPrintableRefusal (WrongClass t c) = IsTag t
IsPrintableRefusal (OutOfRange v) = IsInteger v
IsPrintableRefusal (NotOneLoop a b) = IsTag a × IsTag b
IsPrintableRefusal (SameVertex v) = IsTag v
IsPrintableRefusal (NotStrut f) = IsTag f
IsPrintableRefusal (OneLoop l) = IsTag l
IsPrintableRefusal (TwoLoops a b) = IsTag a × IsTag b
IsPrintableRefusal (HasRings f) = IsTag f
IsPrintableRefusal (IsOuter l) = IsTag l
IsPrintableRefusal (NotOneFace a b) = IsTag a × IsTag b
IsPrintableRefusal (NotOneBody a b) = IsTag a × IsTag b
IsPrintableRefusal (NotBare t) = IsTag t
IsPrintableRefusal (CornerCount n) = IsNumber n
IsPrintableRefusal (BadPolygon n) = IsNumber n
IsPrintableRefusal FlatSweep = Unit {0}
IsPrintableRefusal (NoAttribute o) = IsTag o
IsPrintableRefusal (NotOurs t) = IsTag t
IsPrintableRefusal (NotAMark t) = IsTag t
IsPrintableRefusal (MarkDeleted t) = IsTag t
IsPrintableRefusal InitialMark = Unit {0}
IsPrintableRefusal (TagsSpent n) = IsNumber n
IsPrintableRefusal (NoPartition p) = IsNumber p
IsPrintableRefusal (NotLocked p) = IsNumber p
IsPrintableRefusal (AlreadyLocked p) = IsNumber p
IsPrintableRefusal (LockOrder p) = IsNumber p
IsPrintableRefusal (NoName i) = IsNumber i
IsPrintableRefusal (SameFace f) = IsTag f

abbrev pub IsPrintableSaid : LineSaid → Type 0
IsPrintableSaid Locked = Unit {0}
IsPrintableSaid Unlocked = Unit {0}
IsPrintableSaid (Ended parts) = AllByRecursion IsNumber parts
IsPrintableSaid (Answer r) = IsPrintableReply r
IsPrintableSaid (Refused r) = IsPrintableRefusal r

-- ---- what a journal says

abbrev pub IsPrintableField : Field → Type 0
IsPrintableField (field.Tag t) = IsTag t
IsPrintableField (field.Number n) = IsInteger n
IsPrintableField (field.Point p) = IsTriple p
IsPrintableField (field.Corners l) = AllByRecursion IsPair l
IsPrintableField (field.Axis a) = Unit {0}
IsPrintableField (field.Name n) = IsName n

-- each field of its command
abbrev pub IsPrintableAct : Act → Type 0
IsPrintableAct a = AllByRecursion IsPrintableField (fields_of a)

abbrev pub IsPrintableEntry : Entry → Type 0
IsPrintableEntry (Claimed t) = IsNumber t
IsPrintableEntry (Drew t b) = IsNumber t × IsNumber b
IsPrintableEntry (Did t a) = IsNumber t × IsPrintableAct a
IsPrintableEntry (Spent t next a) = IsNumber t × IsNumber next × IsPrintableAct a
IsPrintableEntry (Released t) = IsNumber t

-- ---- the report

abbrev pub IsPrintableLine : Line → Type 0
IsPrintableLine l = IsNumber l.number × IsPrintableSaid l.said

pub record IsPrintable (r : Report) : Type 0 where
  pub n : IsNumber r.n
  pub last : IsNumber r.last
  pub threads : AllByRecursion (AllByRecursion IsPrintableLine) r.threads
  pub journals : AllByRecursion (AllByRecursion IsPrintableEntry) r.journals
