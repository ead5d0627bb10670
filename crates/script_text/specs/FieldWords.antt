-- The fields of a command by their words.
use Rattle.std.specs.Prelude.{ℕ, zero, suc, ◌+◌, ◌-◌, nat_le, ◌==◌, ◌&&◌, ◌||◌, Bool, true, false, if◌then◌else◌, List, [], ◌∷◌, ◌++◌, length, take, drop, replicate, Option, None, Some, option_map, Result, Ok, Err, ok_or, codes, bytes_eq}
use Rattle.std.specs.Option.{option_and_then}
use Rattle.std.specs.List.{list_all, position}
use Rattle.pk_base.specs.Blocks.{tag}
use Rattle.pk_base.specs.declared.tag.Tag.{Tag}
use Rattle.pk_base.specs.declared.entity.Triple.{Triple}
use Rattle.pk_base.specs.declared.entity.Pair.{Pair}
use Rattle.pk_base.specs.declared.entity.Axis.{Axis}
use Rattle.pk_base.specs.declared.entity.Axis.TheVariants as axis
use Rattle.pk_base.specs.declared.entity.Name.{Name}
use Rattle.pk_command.specs.declared.field.Field.{Field}
use Rattle.pk_command.specs.declared.field.Field.TheVariants as field
use Rattle.pk_command.specs.declared.field.Kind.{Kind}
use Rattle.pk_command.specs.declared.field.Kind.TheVariants as kind
use Rattle.script_text.specs.Numbers.{begins_with_digit, is_digit, number_of, small_number_of}
use Rattle.script_text.specs.declared.limits.TheConstants.{MOST_NAME_BYTES}
use Rattle.script_text.specs.declared.script.Cause.{Cause}
use Rattle.script_text.specs.declared.script.Cause.TheVariants.{BadName, BadNumber, WordCount}
use Rattle.script_text.specs.declared.script.Operand.{Operand}
use Rattle.script_text.specs.declared.script.Operand.TheVariants.{Digits, Named}

-- what comes next, unless there is an error
infixl 10 ◌>>=◌
abbrev pub ◌>>=◌ : {A B E : Type 0} → Result A E → (A → Result B E) → Result B E
(Ok x) >>= f = f x
(Err e) >>= f = Err e

-- ---- names

abbrev pub is_letter : ℕ → Bool
is_letter b = nat_le 97 b && nat_le b 122

-- a letter a to z, a digit or `_`
abbrev pub is_name_byte : ℕ → Bool
is_name_byte b = is_letter b || (is_digit b || (b == 95))

-- a name: 1 to 16 bytes, of which the first is a letter, padded with zeros
abbrev pub name_of : List ℕ → Option Name
name_of [] = None
name_of (b ∷ bs) =
    if is_letter b && (list_all is_name_byte bs && nat_le (length (b ∷ bs)) MOST_NAME_BYTES)
    then Some (record { 0 = (b ∷ bs) ++ replicate (MOST_NAME_BYTES - length (b ∷ bs)) 0 })
    else None

-- ---- operands

-- a name, or the name before a dot and the place after it, digits that fit 32 bits
abbrev pub named_at : Option ℕ → List ℕ → Option Operand
named_at None word = option_map (λ n. Named n 0) (name_of word)
named_at (Some dot) word =
    option_and_then (λ n. option_map (λ at. Named n at) (small_number_of (drop (dot + 1) word)))
    (name_of (take dot word))

abbrev pub named_operand : List ℕ → Option Operand
named_operand word = named_at (position (λ b. b == 46) word) word

-- a tag operand: digits, or what a name is bound to
abbrev pub operand_of : List ℕ → Result Operand Cause
operand_of word =
    if begins_with_digit word
    then ok_or (option_map (λ n. Digits (tag n)) (small_number_of word)) BadNumber
    else ok_or (named_operand word) BadName

-- the tag that stands in the act: 0 in the place of a named operand
abbrev pub tag_in_act : Operand → Tag
tag_in_act (Digits t) = t
tag_in_act (Named name at) = tag 0

-- ---- how many words there are

-- how many words a field of this kind has; corners take what the others leave
abbrev pub width_of : Kind → ℕ
width_of kind.Tag = 1
width_of kind.Number = 1
width_of kind.Point = 3
width_of kind.Corners = 0
width_of kind.Axis = 1
width_of kind.Name = 1

abbrev pub is_even : ℕ → Bool
is_even zero = true
is_even (suc zero) = false
is_even (suc (suc n)) = is_even n

-- fields of these kinds have so many words
abbrev pub fits : List Kind → ℕ → Bool
fits [] n = n == 0
fits (kind.Corners ∷ kinds) n = is_even n
fits (k ∷ kinds) n = nat_le (width_of k) n && fits kinds (n - width_of k)

-- ---- a field by its words

abbrev pub axis_of : List ℕ → Option Axis
axis_of word =
    if bytes_eq word (codes "x") then Some axis.X
    else (if bytes_eq word (codes "y") then Some axis.Y
    else (if bytes_eq word (codes "z") then Some axis.Z else None))

-- three numbers
abbrev pub triple_of : List ℕ → List ℕ → List ℕ → Option Triple
triple_of x y z =
    option_and_then (λ x. option_and_then (λ y. option_map (λ z. record { x = x; y = y; z = z })
    (number_of z)) (number_of y)) (number_of x)

-- two numbers
abbrev pub pair_of : List ℕ → List ℕ → Option Pair
pair_of x y =
    option_and_then (λ x. option_map (λ y. record { x = x; y = y }) (number_of y)) (number_of x)

-- the corners before, and those of these words, two numbers for each
abbrev pub corners_after : List Pair → List (List ℕ) → Result (List Pair) Cause
corners_after corners [] = Ok corners
corners_after corners (x ∷ []) = Err WordCount
corners_after corners (x ∷ y ∷ words) =
    ok_or (pair_of x y) BadNumber >>= λ p. corners_after (corners ++ p ∷ []) words

-- what was read of a command: its fields, its tag operands from left to right, and the words left
pub record Spelled : Type 0 where
  pub fields : List Field
  pub operands : List Operand
  pub left : List (List ℕ)

-- one field more, and these words left
abbrev pub with_field : Spelled → List (List ℕ) → Field → Spelled
with_field s left f = record s { fields = s.fields ++ f ∷ []; left = left }

abbrev pub with_operand : Spelled → List (List ℕ) → Operand → Spelled
with_operand s left o =
    record {
      fields = s.fields ++ field.Tag (tag_in_act o) ∷ [];
      operands = s.operands ++ o ∷ [];
      left = left;
    }

-- a field of one word
abbrev pub one_word : (List ℕ → Result Field Cause) → Spelled → Result Spelled Cause
one_word read s = elim s.left [
  | [] ↦ Err WordCount
  | w ∷ left ↦ read w >>= λ f. Ok (with_field s left f)
]

-- a tag operand
abbrev pub tag_word : Spelled → Result Spelled Cause
tag_word s = elim s.left [
  | [] ↦ Err WordCount
  | w ∷ left ↦ operand_of w >>= λ o. Ok (with_operand s left o)
]

-- a point of three words
abbrev pub point_words : List (List ℕ) → Spelled → Result Spelled Cause
point_words [] s = Err WordCount
point_words (x ∷ []) s = Err WordCount
point_words (x ∷ y ∷ []) s = Err WordCount
point_words (x ∷ y ∷ z ∷ left) s =
    ok_or (triple_of x y z) BadNumber >>= λ p. Ok (with_field s left (field.Point p))

-- The field of this kind at the front of the words that are left. Corners take them all.
abbrev pub after_field : Kind → Spelled → Result Spelled Cause
after_field kind.Tag s = tag_word s
after_field kind.Number s =
    one_word (λ w. ok_or (option_map field.Number (number_of w)) BadNumber) s
after_field kind.Point s = point_words s.left s
after_field kind.Corners s =
    corners_after [] s.left >>= λ corners. Ok (with_field s [] (field.Corners corners))
after_field kind.Axis s = one_word (λ w. ok_or (option_map field.Axis (axis_of w)) BadName) s
after_field kind.Name s = one_word (λ w. ok_or (option_map field.Name (name_of w)) BadName) s

abbrev pub after_fields : List Kind → Spelled → Result Spelled Cause
after_fields [] s = Ok s
after_fields (k ∷ kinds) s = after_field k s >>= λ s. after_fields kinds s

-- the fields of these kinds by their words, from left to right
abbrev pub spelled : List Kind → List (List ℕ) → Result Spelled Cause
spelled kinds words = after_fields kinds (record { fields = []; operands = []; left = words })
