-- The text of a command, as data: a verb, which has a word and the kinds of its fields, and the
-- fields in their order. What prints, what reads and what the operands are follow from it.
use Rattle.std.specs.Prelude.{ℕ, List, [], ◌∷◌, Option, Some, find, codes, bytes_eq}
use Rattle.std.specs.Option.{option_and_then}
use Rattle.pk_base.specs.declared.call.Call.{Call}
use Rattle.pk_base.specs.declared.call.Call.TheVariants as call
use Rattle.pk_base.specs.declared.act.Act.{Act}
use Rattle.pk_base.specs.declared.act.Act.TheVariants as act
use Rattle.pk_command.specs.declared.field.Field.{Field}
use Rattle.pk_command.specs.declared.field.Field.TheVariants as field
use Rattle.pk_command.specs.declared.field.Kind.{Kind}
use Rattle.pk_command.specs.declared.field.Kind.TheVariants as kind
use Rattle.pk_command.specs.declared.verb.Verb.{Verb}
use Rattle.pk_command.specs.declared.verb.Verb.TheVariants as verb
use Rattle.pk_command.specs.Fields.{tag_in, number_in, point_in, corners_in, axis_in, name_in}

-- ---- a verb

abbrev pub word_of : Verb → List ℕ
word_of verb.Mvfs = codes "mvfs"
word_of verb.Mev = codes "mev"
word_of verb.Mef = codes "mef"
word_of verb.Mekr = codes "mekr"
word_of verb.Mfkrh = codes "mfkrh"
word_of verb.Kvfs = codes "kvfs"
word_of verb.Kev = codes "kev"
word_of verb.Kef = codes "kef"
word_of verb.Kemr = codes "kemr"
word_of verb.Kfmrh = codes "kfmrh"
word_of verb.RingMove = codes "ringmove"
word_of verb.Lamina = codes "lamina"
word_of verb.Block = codes "block"
word_of verb.Prism = codes "prism"
word_of verb.Sweep = codes "sweep"
word_of verb.Move = codes "move"
word_of verb.Turn = codes "turn"
word_of verb.Delete = codes "delete"
word_of verb.SetAttr = codes "set"
word_of verb.DropAttr = codes "drop"
word_of verb.Ask = codes "ask"
word_of verb.Kids = codes "kids"
word_of verb.Ring = codes "ring"
word_of verb.Counts = codes "counts"
word_of verb.Bodies = codes "bodies"
word_of verb.Mark = codes "mark"
word_of verb.Goto = codes "goto"
word_of verb.Unmark = codes "unmark"
word_of verb.Marks = codes "marks"
word_of verb.Delta = codes "delta"

-- the kinds of its fields, in order
abbrev pub kinds_of : Verb → List Kind
kinds_of verb.Mvfs = kind.Point ∷ []
kinds_of verb.Mev = kind.Tag ∷ kind.Point ∷ []
kinds_of verb.Mef = kind.Tag ∷ kind.Tag ∷ []
kinds_of verb.Mekr = kind.Tag ∷ kind.Tag ∷ []
kinds_of verb.Mfkrh = kind.Tag ∷ []
kinds_of verb.Kvfs = kind.Tag ∷ []
kinds_of verb.Kev = kind.Tag ∷ []
kinds_of verb.Kef = kind.Tag ∷ []
kinds_of verb.Kemr = kind.Tag ∷ []
kinds_of verb.Kfmrh = kind.Tag ∷ kind.Tag ∷ []
kinds_of verb.RingMove = kind.Tag ∷ kind.Tag ∷ []
kinds_of verb.Lamina = kind.Number ∷ kind.Corners ∷ []
kinds_of verb.Block = kind.Point ∷ kind.Point ∷ []
kinds_of verb.Prism = kind.Number ∷ kind.Number ∷ kind.Corners ∷ []
kinds_of verb.Sweep = kind.Tag ∷ kind.Point ∷ []
kinds_of verb.Move = kind.Tag ∷ kind.Point ∷ []
kinds_of verb.Turn = kind.Tag ∷ kind.Axis ∷ kind.Number ∷ []
kinds_of verb.Delete = kind.Tag ∷ []
kinds_of verb.SetAttr = kind.Tag ∷ kind.Name ∷ kind.Number ∷ []
kinds_of verb.DropAttr = kind.Tag ∷ kind.Name ∷ []
kinds_of verb.Ask = kind.Tag ∷ []
kinds_of verb.Kids = kind.Tag ∷ []
kinds_of verb.Ring = kind.Tag ∷ []
kinds_of verb.Counts = kind.Tag ∷ []
kinds_of verb.Bodies = []
kinds_of verb.Mark = []
kinds_of verb.Goto = kind.Tag ∷ []
kinds_of verb.Unmark = kind.Tag ∷ []
kinds_of verb.Marks = []
kinds_of verb.Delta = kind.Tag ∷ []

abbrev pub all_verbs : List Verb
all_verbs =
    verb.Mvfs ∷
    verb.Mev ∷
    verb.Mef ∷
    verb.Mekr ∷
    verb.Mfkrh ∷
    verb.Kvfs ∷
    verb.Kev ∷
    verb.Kef ∷
    verb.Kemr ∷
    verb.Kfmrh ∷
    verb.RingMove ∷
    verb.Lamina ∷
    verb.Block ∷
    verb.Prism ∷
    verb.Sweep ∷
    verb.Move ∷
    verb.Turn ∷
    verb.Delete ∷
    verb.SetAttr ∷
    verb.DropAttr ∷
    verb.Ask ∷
    verb.Kids ∷
    verb.Ring ∷
    verb.Counts ∷
    verb.Bodies ∷
    verb.Mark ∷
    verb.Goto ∷
    verb.Unmark ∷
    verb.Marks ∷
    verb.Delta ∷ []

-- the verb that has this word
abbrev pub verb_of_word : List ℕ → Option Verb
verb_of_word word = find (λ v. bytes_eq (word_of v) word) all_verbs

-- ---- an act as its verb and its fields

abbrev pub verb_of_call : Call → Verb
verb_of_call (call.Mvfs at) = verb.Mvfs
verb_of_call (call.Mev end at) = verb.Mev
verb_of_call (call.Mef from to) = verb.Mef
verb_of_call (call.Mekr keep ring) = verb.Mekr
verb_of_call (call.Mfkrh ring) = verb.Mfkrh
verb_of_call (call.Kvfs body) = verb.Kvfs
verb_of_call (call.Kev fin) = verb.Kev
verb_of_call (call.Kef fin) = verb.Kef
verb_of_call (call.Kemr fin) = verb.Kemr
verb_of_call (call.Kfmrh keep kill) = verb.Kfmrh
verb_of_call (call.RingMove ring to) = verb.RingMove
verb_of_call (call.Lamina z corners) = verb.Lamina
verb_of_call (call.Block at size) = verb.Block
verb_of_call (call.Prism z h corners) = verb.Prism
verb_of_call (call.Sweep face by) = verb.Sweep
verb_of_call (call.Move body by) = verb.Move
verb_of_call (call.Turn body axis turns) = verb.Turn
verb_of_call (call.Delete body) = verb.Delete
verb_of_call (call.SetAttr owner name value) = verb.SetAttr
verb_of_call (call.DropAttr owner name) = verb.DropAttr
verb_of_call (call.Ask tag) = verb.Ask
verb_of_call (call.Kids tag) = verb.Kids
verb_of_call (call.Ring ring) = verb.Ring
verb_of_call (call.Counts body) = verb.Counts
verb_of_call call.Bodies = verb.Bodies

abbrev pub verb_of : Act → Verb
verb_of (act.Call c) = verb_of_call c
verb_of act.Mark = verb.Mark
verb_of (act.Goto m) = verb.Goto
verb_of (act.Unmark m) = verb.Unmark
verb_of act.Marks = verb.Marks
verb_of (act.Delta m) = verb.Delta

abbrev pub fields_of_call : Call → List Field
fields_of_call (call.Mvfs at) = field.Point at ∷ []
fields_of_call (call.Mev end at) = field.Tag end ∷ field.Point at ∷ []
fields_of_call (call.Mef from to) = field.Tag from ∷ field.Tag to ∷ []
fields_of_call (call.Mekr keep ring) = field.Tag keep ∷ field.Tag ring ∷ []
fields_of_call (call.Mfkrh ring) = field.Tag ring ∷ []
fields_of_call (call.Kvfs body) = field.Tag body ∷ []
fields_of_call (call.Kev fin) = field.Tag fin ∷ []
fields_of_call (call.Kef fin) = field.Tag fin ∷ []
fields_of_call (call.Kemr fin) = field.Tag fin ∷ []
fields_of_call (call.Kfmrh keep kill) = field.Tag keep ∷ field.Tag kill ∷ []
fields_of_call (call.RingMove ring to) = field.Tag ring ∷ field.Tag to ∷ []
fields_of_call (call.Lamina z corners) = field.Number z ∷ field.Corners corners ∷ []
fields_of_call (call.Block at size) = field.Point at ∷ field.Point size ∷ []
fields_of_call (call.Prism z h corners) =
    field.Number z ∷ field.Number h ∷ field.Corners corners ∷ []
fields_of_call (call.Sweep face by) = field.Tag face ∷ field.Point by ∷ []
fields_of_call (call.Move body by) = field.Tag body ∷ field.Point by ∷ []
fields_of_call (call.Turn body axis turns) =
    field.Tag body ∷ field.Axis axis ∷ field.Number turns ∷ []
fields_of_call (call.Delete body) = field.Tag body ∷ []
fields_of_call (call.SetAttr owner name value) =
    field.Tag owner ∷ field.Name name ∷ field.Number value ∷ []
fields_of_call (call.DropAttr owner name) = field.Tag owner ∷ field.Name name ∷ []
fields_of_call (call.Ask tag) = field.Tag tag ∷ []
fields_of_call (call.Kids tag) = field.Tag tag ∷ []
fields_of_call (call.Ring ring) = field.Tag ring ∷ []
fields_of_call (call.Counts body) = field.Tag body ∷ []
fields_of_call call.Bodies = []

abbrev pub fields_of : Act → List Field
fields_of (act.Call c) = fields_of_call c
fields_of act.Mark = []
fields_of (act.Goto m) = field.Tag m ∷ []
fields_of (act.Unmark m) = field.Tag m ∷ []
fields_of act.Marks = []
fields_of (act.Delta m) = field.Tag m ∷ []

-- ---- the act of a verb and fields

infixl 10 ◌>>=◌
abbrev pub ◌>>=◌ : {A B : Type 0} → Option A → (A → Option B) → Option B
o >>= f = option_and_then f o

-- the act that the verb makes of fields of its kinds
abbrev pub act_of : Verb → List Field → Option Act
act_of verb.Mvfs fields = do
  at ← point_in fields 0
  Some (act.Call (call.Mvfs at))
act_of verb.Mev fields = do
  end ← tag_in fields 0
  at ← point_in fields 1
  Some (act.Call (call.Mev end at))
act_of verb.Mef fields = do
  from ← tag_in fields 0
  to ← tag_in fields 1
  Some (act.Call (call.Mef from to))
act_of verb.Mekr fields = do
  keep ← tag_in fields 0
  ring ← tag_in fields 1
  Some (act.Call (call.Mekr keep ring))
act_of verb.Mfkrh fields = do
  ring ← tag_in fields 0
  Some (act.Call (call.Mfkrh ring))
act_of verb.Kvfs fields = do
  body ← tag_in fields 0
  Some (act.Call (call.Kvfs body))
act_of verb.Kev fields = do
  fin ← tag_in fields 0
  Some (act.Call (call.Kev fin))
act_of verb.Kef fields = do
  fin ← tag_in fields 0
  Some (act.Call (call.Kef fin))
act_of verb.Kemr fields = do
  fin ← tag_in fields 0
  Some (act.Call (call.Kemr fin))
act_of verb.Kfmrh fields = do
  keep ← tag_in fields 0
  kill ← tag_in fields 1
  Some (act.Call (call.Kfmrh keep kill))
act_of verb.RingMove fields = do
  ring ← tag_in fields 0
  to ← tag_in fields 1
  Some (act.Call (call.RingMove ring to))
act_of verb.Lamina fields = do
  z ← number_in fields 0
  corners ← corners_in fields 1
  Some (act.Call (call.Lamina z corners))
act_of verb.Block fields = do
  at ← point_in fields 0
  size ← point_in fields 1
  Some (act.Call (call.Block at size))
act_of verb.Prism fields = do
  z ← number_in fields 0
  h ← number_in fields 1
  corners ← corners_in fields 2
  Some (act.Call (call.Prism z h corners))
act_of verb.Sweep fields = do
  face ← tag_in fields 0
  by ← point_in fields 1
  Some (act.Call (call.Sweep face by))
act_of verb.Move fields = do
  body ← tag_in fields 0
  by ← point_in fields 1
  Some (act.Call (call.Move body by))
act_of verb.Turn fields = do
  body ← tag_in fields 0
  axis ← axis_in fields 1
  turns ← number_in fields 2
  Some (act.Call (call.Turn body axis turns))
act_of verb.Delete fields = do
  body ← tag_in fields 0
  Some (act.Call (call.Delete body))
act_of verb.SetAttr fields = do
  owner ← tag_in fields 0
  name ← name_in fields 1
  value ← number_in fields 2
  Some (act.Call (call.SetAttr owner name value))
act_of verb.DropAttr fields = do
  owner ← tag_in fields 0
  name ← name_in fields 1
  Some (act.Call (call.DropAttr owner name))
act_of verb.Ask fields = do
  tag ← tag_in fields 0
  Some (act.Call (call.Ask tag))
act_of verb.Kids fields = do
  tag ← tag_in fields 0
  Some (act.Call (call.Kids tag))
act_of verb.Ring fields = do
  ring ← tag_in fields 0
  Some (act.Call (call.Ring ring))
act_of verb.Counts fields = do
  body ← tag_in fields 0
  Some (act.Call (call.Counts body))
act_of verb.Bodies fields = Some (act.Call call.Bodies)
act_of verb.Mark fields = Some act.Mark
act_of verb.Goto fields = do
  m ← tag_in fields 0
  Some (act.Goto m)
act_of verb.Unmark fields = do
  m ← tag_in fields 0
  Some (act.Unmark m)
act_of verb.Marks fields = Some act.Marks
act_of verb.Delta fields = do
  m ← tag_in fields 0
  Some (act.Delta m)
