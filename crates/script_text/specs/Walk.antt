-- The lines of a thread, walked in order over its entries in the journals.
use Rattle.std.specs.Prelude.{◌≡◌, ℕ, ◌+◌, ◌-◌, ◌<◌, max, nat_lt, nat_le, ◌==◌, ◌&&◌, Bool, true, false, not, List, [], ◌∷◌, ◌++◌, fold, filter, find, slice_get, slice_index_or, slice_set, Option, None, Some, option_map, MatchOption, Result, Ok, Err}
use Rattle.std.specs.Option.{option_and_then, option_map_or}
use Rattle.std.specs.Result.{result_unwrap_or}
use Rattle.std.specs.List.{list_any}
use Rattle.pk_base.specs.Entity.{same_name}
use Rattle.pk_base.specs.declared.tag.Tag.{Tag}
use Rattle.pk_base.specs.declared.entity.Name.{Name}
use Rattle.pk_base.specs.declared.act.Act.{Act}
use Rattle.pk_base.specs.declared.act.Reply.{Reply}
use Rattle.pk_base.specs.declared.act.Reply.TheVariants as reply
use Rattle.pk_base.specs.declared.act.Entry.{Entry}
use Rattle.pk_base.specs.declared.act.Entry.TheVariants.{Claimed, Drew, Did, Spent, Released}
use Rattle.pk_base.specs.declared.refusal.Refusal.{Refusal}
use Rattle.pk_base.specs.declared.refusal.Refusal.TheVariants as refusal
use Rattle.pk_command.specs.Operands.{act_on}
use Rattle.pk_model.specs.Modelling.{Modelling}
use Rattle.pk_model.specs.Step.{short}
use Rattle.pk_model.specs.Replay.{AnsweredEntry, answered_entries, thread_of}
use Rattle.script_text.specs.declared.script.ScriptLine.{ScriptLine}
use Rattle.script_text.specs.declared.script.Order.{Order}
use Rattle.script_text.specs.declared.script.Order.TheVariants.{Lock, Unlock, End, On}
use Rattle.script_text.specs.declared.script.Operand.{Operand}
use Rattle.script_text.specs.declared.script.Operand.TheVariants.{Digits, Named}
use Rattle.script_text.specs.declared.report.Line.{Line}
use Rattle.script_text.specs.declared.report.LineSaid.{LineSaid}
use Rattle.script_text.specs.declared.report.LineSaid.TheVariants.{Locked, Unlocked, Ended, Answer, Refused}

-- A thread between two of its lines: the partitions that it holds, ascending; what its names are
-- bound to, the newest first; and for each partition those of its entries that no line has taken
-- yet.
pub record Walker : Type 0 where
  pub held : List ℕ
  pub names : List (Name × List Tag)
  pub left : List (List AnsweredEntry)

-- ---- resolving

abbrev pub bound_to : List (Name × List Tag) → Name → Option (List Tag)
bound_to names name =
    option_map (λ (b : Name × List Tag). b.1)
    (find (λ (b : Name × List Tag). same_name b.0 name) names)

-- the tag that an operand names
abbrev pub tag_of_operand : List (Name × List Tag) → Operand → Option Tag
tag_of_operand names (Digits t) = Some t
tag_of_operand names (Named name at) =
    option_and_then (λ tags. slice_get tags at) (bound_to names name)

abbrev pub onto_tags : ℕ → Option Tag → Result (List Tag) ℕ → Result (List Tag) ℕ
onto_tags i None more = Err i
onto_tags i (Some t) (Ok ts) = Ok (t ∷ ts)
onto_tags i (Some t) (Err j) = Err j

-- the tags of the operands i and on, or the first operand that names none
abbrev pub tags_of_operands : List (Name × List Tag) → ℕ → List Operand → Result (List Tag) ℕ
tags_of_operands names i [] = Ok []
tags_of_operands names i (o ∷ os) =
    onto_tags i (tag_of_operand names o) (tags_of_operands names (i + 1) os)

abbrev pub is_held : List ℕ → ℕ → Bool
is_held held p = list_any (λ q. q == p) held

abbrev pub greatest : List ℕ → ℕ
greatest held = fold max 0 held

abbrev pub is_partition : ℕ → ℕ → Bool
is_partition n p = nat_le 1 p && nat_le p n

-- the act with what its operands name
abbrev pub act_with_tags : Walker → Act → List Operand → Act
act_with_tags w a operands = act_on a (result_unwrap_or (tags_of_operands w.names 1 operands) [])

-- the first operand that names nothing
abbrev pub refusal_of_operands : Result (List Tag) ℕ → Option Refusal
refusal_of_operands (Ok tags) = None
refusal_of_operands (Err i) = Some (refusal.NoName i)

abbrev pub refusal_if : Bool → Refusal → Option Refusal
refusal_if true r = Some r
refusal_if false r = None

infixr 5 ◌or_else◌
abbrev pub ◌or_else◌ : Option Refusal → Option Refusal → Option Refusal
(Some r) or_else more = Some r
None or_else more = more

-- The order in a session of n partitions is refused before it reaches a partition: for an operand
-- that names nothing, for no such partition, for one that the thread does not hold, holds already,
-- or asks for below one that it holds, in this order.
abbrev pub refusal_of_order : ℕ → Walker → Order → Option Refusal
refusal_of_order n w (Lock p) =
    refusal_if (not (is_partition n p)) (refusal.NoPartition p)
    or_else refusal_if (is_held w.held p) (refusal.AlreadyLocked p)
    or_else refusal_if (nat_lt p (greatest w.held)) (refusal.LockOrder (greatest w.held))
refusal_of_order n w (Unlock p) =
    refusal_if (not (is_partition n p)) (refusal.NoPartition p)
    or_else refusal_if (not (is_held w.held p)) (refusal.NotLocked p)
refusal_of_order n w End = None
refusal_of_order n w (On p a operands bind) =
    refusal_of_operands (tags_of_operands w.names 1 operands)
    or_else refusal_if (not (is_partition n p)) (refusal.NoPartition p)
    or_else refusal_if (not (is_held w.held p)) (refusal.NotLocked p)

-- ---- what a line says

-- what is said of an answered entry
abbrev pub said_of : Result Reply Refusal → LineSaid
said_of (Ok r) = Answer r
said_of (Err e) = Refused e

-- the thread's entries of partition p that are left
abbrev pub left_at : Walker → ℕ → List AnsweredEntry
left_at w p = slice_index_or w.left (p - 1) []

abbrev pub with_left : Walker → ℕ → List AnsweredEntry → Walker
with_left w p entries = record w { left = slice_set w.left (p - 1) entries }

-- p among the partitions held, which ascend
abbrev pub with_held : ℕ → List ℕ → List ℕ
with_held p held = filter (λ q. nat_lt q p) held ++ p ∷ filter (λ q. nat_lt p q) held

abbrev pub without_held : ℕ → List ℕ → List ℕ
without_held p held = filter (λ q. not (q == p)) held

-- The next entry of partition p is this one, and the thread goes on from mid.
pub record TakesEntry (w : Walker) (p : ℕ) (e : Entry) (mid : Walker) : Type 0 where
  pub first : AnsweredEntry
  pub rest : List AnsweredEntry
  pub next : left_at w p ≡ first ∷ rest
  pub entry : first.entry ≡ e
  pub after : mid ≡ with_left w p rest

-- Of these entries, the act takes those that draw a block where it is short, and then the one that
-- did it, or the one that found the tags spent where it was short. That one answers this, and the
-- rest is left.
abbrev pub ActTakes : Modelling → ℕ → Act → List AnsweredEntry → Result Reply Refusal
    → List AnsweredEntry → Type 0
ActTakes K t a [] answer rest = ⊥
ActTakes K t a (x ∷ xs) answer rest =
    elim x.entry [
      | Drew u b ↦ (u ≡ t) × ((0 < short K x.before a) × ActTakes K t a xs answer rest)
      | Did u b ↦ (x.entry ≡ Did t a) × ((x.answer ≡ Some answer) × (xs ≡ rest))
      | Spent u next b ↦ (x.entry ≡ Spent t next a) × ((x.answer ≡ Some answer) × (xs ≡ rest))
      | Claimed u ↦ ⊥
      | Released u ↦ ⊥
    ]

-- the list of a reply that has one
abbrev pub list_of : Reply → Option (List Tag)
list_of (reply.Made tags) = Some tags
list_of reply.Done = None
list_of (reply.Is entity) = None
list_of (reply.List tags) = Some tags
list_of (reply.Counts counted) = None
list_of (reply.Went lists) = None
list_of (reply.Marks at rows) = None
list_of (reply.Delta lists) = None

-- a name is bound to the list of a reply that has one
abbrev pub bind_name : Option Name → Result Reply Refusal →
    List (Name × List Tag) → List (Name × List Tag)
bind_name None answer names = names
bind_name (Some name) (Ok r) names = option_map_or (λ tags. (name, tags) ∷ names) (list_of r) names
bind_name (Some name) (Err e) names = names

-- an act on partition p that is not refused before it reaches the partition
pub record ActSays
    (K : Modelling) (t : ℕ) (w : Walker) (p : ℕ) (a : Act) (bind : Option Name)
    (said : LineSaid) (after : Walker) : Type 0 where
  pub answer : Result Reply Refusal
  pub rest : List AnsweredEntry
  pub taken : ActTakes K t a (left_at w p) answer rest
  pub tells : said ≡ said_of answer
  pub goes_on : after ≡ record (with_left w p rest) { names = bind_name bind answer w.names }

-- each partition is released, in this order
abbrev pub Releases : ℕ → Walker → List ℕ → Walker → Type 0
Releases t w [] after = after ≡ w
Releases t w (p ∷ ps) after =
    (mid : Walker) × (TakesEntry w p (Released t) mid × Releases t mid ps after)

-- the line is refused before it reaches a partition: it takes nothing
abbrev pub IsTurnedAway : Walker → Refusal → LineSaid → Walker → Type 0
IsTurnedAway w r said after = (said ≡ Refused r) × (after ≡ w)

abbrev pub Locks : ℕ → Walker → ℕ → LineSaid → Walker → Type 0
Locks t w p said after =
    (mid : Walker) ×
    (TakesEntry w p (Claimed t) mid × (said ≡ Locked) ×
    (after ≡ record mid { held = with_held p mid.held }))

abbrev pub Unlocks : ℕ → Walker → ℕ → LineSaid → Walker → Type 0
Unlocks t w p said after =
    (mid : Walker) ×
    (TakesEntry w p (Released t) mid × (said ≡ Unlocked) ×
    (after ≡ record mid { held = without_held p mid.held }))

abbrev pub Ends : ℕ → Walker → LineSaid → Walker → Type 0
Ends t w said after =
    (mid : Walker) ×
    (Releases t w w.held mid × (said ≡ Ended w.held) × (after ≡ record mid { held = [] }))

-- An order that is not turned away, carried out by thread t as w: this is said, and the thread goes
-- on as `after`.
abbrev pub OrderTakes : Modelling → ℕ → Walker → Order → LineSaid → Walker → Type 0
OrderTakes K t w (Lock p) said after = Locks t w p said after
OrderTakes K t w (Unlock p) said after = Unlocks t w p said after
OrderTakes K t w End said after = Ends t w said after
OrderTakes K t w (On p a operands bind) said after =
    ActSays K t w p (act_with_tags w a operands) bind said after

-- an order in a session of n partitions
abbrev pub OrderSays : Modelling → ℕ → ℕ → Walker → Order → LineSaid → Walker → Type 0
OrderSays K n t w o said after =
    MatchOption (refusal_of_order n w o) (OrderTakes K t w o said after)
    (λ r. IsTurnedAway w r said after)

-- the lines are walked in order, and each is told under its number
abbrev pub Walks : Modelling → ℕ → ℕ → Walker → List ScriptLine → List Line → Walker → Type 0
Walks K n t w [] [] after = after ≡ w
Walks K n t w (line ∷ lines) (told ∷ more) after =
    (told.number ≡ line.number) ×
    ((mid : Walker) ×
    (OrderSays K n t w line.order told.said mid × Walks K n t mid lines more after))
Walks K n t w [] (told ∷ more) after = ⊥
Walks K n t w (line ∷ lines) [] after = ⊥

-- the entries of thread t in the journals of the partitions p, p + 1 and so on
abbrev pub entries_of : Modelling → ℕ → ℕ → List (List Entry) → List (List AnsweredEntry)
entries_of K t p [] = []
entries_of K t p (journal ∷ journals) =
    filter (λ x. thread_of x.entry == t) (answered_entries K p journal)
    ∷ entries_of K t (p + 1) journals

-- thread t before its first line
abbrev pub walker_of : Modelling → ℕ → List (List Entry) → Walker
walker_of K t journals = record { held = []; names = []; left = entries_of K t 1 journals }
