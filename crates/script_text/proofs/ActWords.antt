-- The words of an act, and how they are read back.
use Rattle.std.proofs.Common.{◌≡◌, ℕ, ℤ, true, if◌then◌else◌, List, [], ◌∷◌, ◌++◌, map, drop, Option, None, Some, option_and_then, codes, bytes_eq, decimal, refl, sym, ap, ◌∙◌, append-nil}
use Rattle.std.specs.Fmt.{signed_decimal}
use Rattle.std.specs.List.{flat_map, AllByRecursion}
use Rattle.pk_base.specs.Blocks.{tag}
use Rattle.pk_base.specs.declared.entity.Axis.{Axis}
use Rattle.pk_base.specs.declared.entity.Axis.TheVariants as axis
use Rattle.pk_base.specs.declared.entity.Pair.{Pair}
use Rattle.pk_base.specs.declared.call.Call.TheVariants as call
use Rattle.pk_base.specs.declared.act.Act.{Act}
use Rattle.pk_base.specs.declared.act.Act.TheVariants as act
use Rattle.pk_command.specs.declared.field.Field.{Field}
use Rattle.pk_command.specs.declared.field.Field.TheVariants as field
use Rattle.pk_command.specs.declared.field.Kind.{Kind}
use Rattle.pk_command.specs.declared.field.Kind.TheVariants as kind
use Rattle.pk_command.specs.declared.verb.Verb.{Verb}
use Rattle.pk_command.specs.declared.verb.Verb.TheVariants as verb
use Rattle.pk_command.specs.Commands.{act_of, fields_of, kinds_of, verb_of, verb_of_word, word_of}
use Rattle.pk_command.specs.Fields.{kind_of}
use Rattle.script_text.specs.Printable.{IsPair, IsPrintableField, IsPrintableAct}
use Rattle.script_text.specs.Text.{pair_fields, axis_field, field_text, act_text}
use Rattle.script_text.proofs.Decimals.{number_in, number_in-decimal, integer_in, integer_in-signed}
use Rattle.script_text.proofs.NameWords.{name_in, name_word, spells-name, name_in-word}
use Rattle.script_text.proofs.Spelling.{Spells, Told, fixed, spells-none, spells-append, spells-word, spells-number, spells-signed, is_word, word_at}

-- ---- fields

abbrev axis_in : List ℕ → Axis
axis_in w = if bytes_eq w (codes "x") then axis.X else (if bytes_eq w (codes "y") then axis.Y else axis.Z)

abbrev axis_word : Axis → List ℕ
axis_word axis.X = codes "x"
axis_word axis.Y = codes "y"
axis_word axis.Z = codes "z"

axis_back : (a : Axis) → axis_in (axis_word a) ≡ a
axis_back axis.X = refl
axis_back axis.Y = refl
axis_back axis.Z = refl

spells-axis : (a : Axis) → Spells (axis_field a) (axis_word a ∷ [])
spells-axis axis.X = fixed (codes "x" ∷ []) refl
spells-axis axis.Y = fixed (codes "y" ∷ []) refl
spells-axis axis.Z = fixed (codes "z" ∷ []) refl

abbrev corners_in : List (List ℕ) → List Pair
corners_in [] = []
corners_in (x ∷ []) = []
corners_in (x ∷ y ∷ words) = record { x = integer_in x; y = integer_in y } ∷ corners_in words

corners_told : (l : List Pair) → AllByRecursion IsPair l → Told (flat_map pair_fields l) corners_in l
corners_told [] h = record { words = []; spells = spells-none; reads = refl }
corners_told (p ∷ l) h =
    let more = corners_told l h.1 in
    record {
      words = signed_decimal p.x ∷ signed_decimal p.y ∷ more.words;
      spells = spells-append (spells-append (spells-signed p.x) (spells-signed p.y)) more.spells;
      reads = λ i. record { x = integer_in-signed p.x h.0.0 i; y = integer_in-signed p.y h.0.1 i } ∷ more.reads i;
    }

abbrev integer_at : List (List ℕ) → ℕ → ℤ
integer_at ws k = integer_in (word_at ws k)

-- the fields of these kinds, of which corners are the last
abbrev fields_in : List Kind → List (List ℕ) → List Field
fields_in [] ws = []
fields_in (kind.Tag ∷ kinds) ws = field.Tag (tag (number_in (word_at ws 0))) ∷ fields_in kinds (drop 1 ws)
fields_in (kind.Number ∷ kinds) ws = field.Number (integer_at ws 0) ∷ fields_in kinds (drop 1 ws)
fields_in (kind.Point ∷ kinds) ws = field.Point (record { x = integer_at ws 0; y = integer_at ws 1; z = integer_at ws 2 }) ∷ fields_in kinds (drop 3 ws)
fields_in (kind.Corners ∷ kinds) ws = field.Corners (corners_in ws) ∷ []
fields_in (kind.Axis ∷ kinds) ws = field.Axis (axis_in (word_at ws 0)) ∷ fields_in kinds (drop 1 ws)
fields_in (kind.Name ∷ kinds) ws = field.Name (name_in (word_at ws 0)) ∷ fields_in kinds (drop 1 ws)

-- no field stands behind corners
abbrev CornersLast : List Field → Type 0
CornersLast [] = Unit {0}
CornersLast (field.Tag t ∷ fields) = CornersLast fields
CornersLast (field.Number n ∷ fields) = CornersLast fields
CornersLast (field.Point p ∷ fields) = CornersLast fields
CornersLast (field.Corners l ∷ fields) = fields ≡ []
CornersLast (field.Axis a ∷ fields) = CornersLast fields
CornersLast (field.Name n ∷ fields) = CornersLast fields

abbrev FieldsTold : List Field → Type 0
FieldsTold fields = Told (flat_map field_text fields) (fields_in (map kind_of fields)) fields

fields_told : (fields : List Field) → CornersLast fields → AllByRecursion IsPrintableField fields → FieldsTold fields
fields_told [] c h = record { words = []; spells = spells-none; reads = refl }
fields_told (field.Tag t ∷ fields) c h =
    let more = fields_told fields c h.1 in
    record {
      words = decimal t.0 ∷ more.words;
      spells = spells-append (spells-number t.0) more.spells;
      reads = λ i. field.Tag (tag (number_in-decimal t.0 h.0 i)) ∷ more.reads i;
    }
fields_told (field.Number n ∷ fields) c h =
    let more = fields_told fields c h.1 in
    record {
      words = signed_decimal n ∷ more.words;
      spells = spells-append (spells-signed n) more.spells;
      reads = λ i. field.Number (integer_in-signed n h.0 i) ∷ more.reads i;
    }
fields_told (field.Point p ∷ fields) c h =
    let more = fields_told fields c h.1 in
    record {
      words = signed_decimal p.x ∷ signed_decimal p.y ∷ signed_decimal p.z ∷ more.words;
      spells = spells-append (spells-append (spells-append (spells-signed p.x) (spells-signed p.y)) (spells-signed p.z)) more.spells;
      reads = λ i. field.Point (record { x = integer_in-signed p.x h.0.x i; y = integer_in-signed p.y h.0.y i; z = integer_in-signed p.z h.0.z i }) ∷ more.reads i;
    }
fields_told (field.Corners l ∷ []) c h =
    let corners = corners_told l h.0 in
    record {
      words = corners.words ++ [];
      spells = spells-append corners.spells spells-none;
      reads = ap (λ ws. field.Corners (corners_in ws) ∷ []) (append-nil corners.words) ∙ ap (λ x. field.Corners x ∷ []) corners.reads;
    }
fields_told (field.Corners l ∷ f ∷ fields) c h = cc
fields_told (field.Axis a ∷ fields) c h =
    let more = fields_told fields c h.1 in
    record {
      words = axis_word a ∷ more.words;
      spells = spells-append (spells-axis a) more.spells;
      reads = λ i. field.Axis (axis_back a i) ∷ more.reads i;
    }
fields_told (field.Name n ∷ fields) c h =
    let more = fields_told fields c h.1 in
    record {
      words = name_word n ∷ more.words;
      spells = spells-append (spells-name n h.0) more.spells;
      reads = λ i. field.Name (name_in-word n h.0 i) ∷ more.reads i;
    }

-- ---- an act

corners_last : (a : Act) → CornersLast (fields_of a)
corners_last (act.Call (call.Mvfs at)) = tt
corners_last (act.Call (call.Mev end at)) = tt
corners_last (act.Call (call.Mef from to)) = tt
corners_last (act.Call (call.Mekr keep ring)) = tt
corners_last (act.Call (call.Mfkrh ring)) = tt
corners_last (act.Call (call.Kvfs body)) = tt
corners_last (act.Call (call.Kev fin)) = tt
corners_last (act.Call (call.Kef fin)) = tt
corners_last (act.Call (call.Kemr fin)) = tt
corners_last (act.Call (call.Kfmrh keep kill)) = tt
corners_last (act.Call (call.RingMove ring to)) = tt
corners_last (act.Call (call.Lamina z corners)) = refl
corners_last (act.Call (call.Block at size)) = tt
corners_last (act.Call (call.Prism z h corners)) = refl
corners_last (act.Call (call.Sweep face by)) = tt
corners_last (act.Call (call.Move body by)) = tt
corners_last (act.Call (call.Turn body axis turns)) = tt
corners_last (act.Call (call.Delete body)) = tt
corners_last (act.Call (call.SetAttr owner name value)) = tt
corners_last (act.Call (call.DropAttr owner name)) = tt
corners_last (act.Call (call.Ask tag)) = tt
corners_last (act.Call (call.Kids tag)) = tt
corners_last (act.Call (call.Ring ring)) = tt
corners_last (act.Call (call.Counts body)) = tt
corners_last (act.Call call.Bodies) = tt
corners_last act.Mark = tt
corners_last (act.Goto m) = tt
corners_last (act.Unmark m) = tt
corners_last act.Marks = tt
corners_last (act.Delta m) = tt

kinds_are : (a : Act) → map kind_of (fields_of a) ≡ kinds_of (verb_of a)
kinds_are (act.Call (call.Mvfs at)) = refl
kinds_are (act.Call (call.Mev end at)) = refl
kinds_are (act.Call (call.Mef from to)) = refl
kinds_are (act.Call (call.Mekr keep ring)) = refl
kinds_are (act.Call (call.Mfkrh ring)) = refl
kinds_are (act.Call (call.Kvfs body)) = refl
kinds_are (act.Call (call.Kev fin)) = refl
kinds_are (act.Call (call.Kef fin)) = refl
kinds_are (act.Call (call.Kemr fin)) = refl
kinds_are (act.Call (call.Kfmrh keep kill)) = refl
kinds_are (act.Call (call.RingMove ring to)) = refl
kinds_are (act.Call (call.Lamina z corners)) = refl
kinds_are (act.Call (call.Block at size)) = refl
kinds_are (act.Call (call.Prism z h corners)) = refl
kinds_are (act.Call (call.Sweep face by)) = refl
kinds_are (act.Call (call.Move body by)) = refl
kinds_are (act.Call (call.Turn body axis turns)) = refl
kinds_are (act.Call (call.Delete body)) = refl
kinds_are (act.Call (call.SetAttr owner name value)) = refl
kinds_are (act.Call (call.DropAttr owner name)) = refl
kinds_are (act.Call (call.Ask tag)) = refl
kinds_are (act.Call (call.Kids tag)) = refl
kinds_are (act.Call (call.Ring ring)) = refl
kinds_are (act.Call (call.Counts body)) = refl
kinds_are (act.Call call.Bodies) = refl
kinds_are act.Mark = refl
kinds_are (act.Goto m) = refl
kinds_are (act.Unmark m) = refl
kinds_are act.Marks = refl
kinds_are (act.Delta m) = refl

made_again : (a : Act) → act_of (verb_of a) (fields_of a) ≡ Some a
made_again (act.Call (call.Mvfs at)) = refl
made_again (act.Call (call.Mev end at)) = refl
made_again (act.Call (call.Mef from to)) = refl
made_again (act.Call (call.Mekr keep ring)) = refl
made_again (act.Call (call.Mfkrh ring)) = refl
made_again (act.Call (call.Kvfs body)) = refl
made_again (act.Call (call.Kev fin)) = refl
made_again (act.Call (call.Kef fin)) = refl
made_again (act.Call (call.Kemr fin)) = refl
made_again (act.Call (call.Kfmrh keep kill)) = refl
made_again (act.Call (call.RingMove ring to)) = refl
made_again (act.Call (call.Lamina z corners)) = refl
made_again (act.Call (call.Block at size)) = refl
made_again (act.Call (call.Prism z h corners)) = refl
made_again (act.Call (call.Sweep face by)) = refl
made_again (act.Call (call.Move body by)) = refl
made_again (act.Call (call.Turn body axis turns)) = refl
made_again (act.Call (call.Delete body)) = refl
made_again (act.Call (call.SetAttr owner name value)) = refl
made_again (act.Call (call.DropAttr owner name)) = refl
made_again (act.Call (call.Ask tag)) = refl
made_again (act.Call (call.Kids tag)) = refl
made_again (act.Call (call.Ring ring)) = refl
made_again (act.Call (call.Counts body)) = refl
made_again (act.Call call.Bodies) = refl
made_again act.Mark = refl
made_again (act.Goto m) = refl
made_again (act.Unmark m) = refl
made_again act.Marks = refl
made_again (act.Delta m) = refl

verb_back : (v : Verb) → verb_of_word (word_of v) ≡ Some v
verb_back verb.Mvfs = refl
verb_back verb.Mev = refl
verb_back verb.Mef = refl
verb_back verb.Mekr = refl
verb_back verb.Mfkrh = refl
verb_back verb.Kvfs = refl
verb_back verb.Kev = refl
verb_back verb.Kef = refl
verb_back verb.Kemr = refl
verb_back verb.Kfmrh = refl
verb_back verb.RingMove = refl
verb_back verb.Lamina = refl
verb_back verb.Block = refl
verb_back verb.Prism = refl
verb_back verb.Sweep = refl
verb_back verb.Move = refl
verb_back verb.Turn = refl
verb_back verb.Delete = refl
verb_back verb.SetAttr = refl
verb_back verb.DropAttr = refl
verb_back verb.Ask = refl
verb_back verb.Kids = refl
verb_back verb.Ring = refl
verb_back verb.Counts = refl
verb_back verb.Bodies = refl
verb_back verb.Mark = refl
verb_back verb.Goto = refl
verb_back verb.Unmark = refl
verb_back verb.Marks = refl
verb_back verb.Delta = refl

verb_is_word : (v : Verb) → is_word (word_of v) ≡ true
verb_is_word verb.Mvfs = refl
verb_is_word verb.Mev = refl
verb_is_word verb.Mef = refl
verb_is_word verb.Mekr = refl
verb_is_word verb.Mfkrh = refl
verb_is_word verb.Kvfs = refl
verb_is_word verb.Kev = refl
verb_is_word verb.Kef = refl
verb_is_word verb.Kemr = refl
verb_is_word verb.Kfmrh = refl
verb_is_word verb.RingMove = refl
verb_is_word verb.Lamina = refl
verb_is_word verb.Block = refl
verb_is_word verb.Prism = refl
verb_is_word verb.Sweep = refl
verb_is_word verb.Move = refl
verb_is_word verb.Turn = refl
verb_is_word verb.Delete = refl
verb_is_word verb.SetAttr = refl
verb_is_word verb.DropAttr = refl
verb_is_word verb.Ask = refl
verb_is_word verb.Kids = refl
verb_is_word verb.Ring = refl
verb_is_word verb.Counts = refl
verb_is_word verb.Bodies = refl
verb_is_word verb.Mark = refl
verb_is_word verb.Goto = refl
verb_is_word verb.Unmark = refl
verb_is_word verb.Marks = refl
verb_is_word verb.Delta = refl

abbrev the_act : Option Act → Act
the_act None = act.Mark
the_act (Some a) = a

abbrev act_with : List (List ℕ) → Option Verb → Act
act_with ws o = the_act (option_and_then (λ v. act_of v (fields_in (kinds_of v) ws)) o)

abbrev pub act_in : List (List ℕ) → Act
act_in ws = act_with (drop 1 ws) (verb_of_word (word_at ws 0))

pub act_told : (a : Act) → IsPrintableAct a → Told (act_text a) act_in a
act_told a h =
    let fields = fields_told (fields_of a) (corners_last a) h in
    let v = verb_of a in
    record {
      words = word_of v ∷ fields.words;
      spells = spells-append (spells-word (word_of v) (verb_is_word v)) fields.spells;
      reads = ap (act_with fields.words) (verb_back v)
          ∙ ap (λ kinds. the_act (act_of v (fields_in kinds fields.words))) (sym (kinds_are a))
          ∙ ap (λ fs. the_act (act_of v fs)) fields.reads
          ∙ ap the_act (made_again a);
    }
