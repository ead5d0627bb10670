-- What a parse of the program's words makes of one word.
use Rattle.std.proofs.Common.{◌≡◌, ◌∙◌, ◌==◌, ◌||◌, ℕ, zero, suc, Bool, true, false, List, [], ◌∷◌, length, take, Option, Some, None, refl, sym, ap, inl, inr, codes, if◌then◌else◌, arith, ◌&&◌, drop}
use Rattle.std.specs.Prelude.{◌⊎◌, encode_utf8, option_and_then, slice_get}
use Rattle.std.specs.List.{before_first, list_any, position_or_len}
use Rattle.std.specs.Option.{option_map_or}
use Rattle.std.specs.Str.{bytes_eq, chars}
use Rattle.std.proofs.lemmas.List.{take_all}
use Rattle.std.proofs.lemmas.Bool.Decides.{nat_tests}
use Rattle.std.proofs.lemmas.Slice.Eq.{bytes_eq-Decides}
use Rattle.clap.specs.Words.{Kinds, Row, Rule, Shape, Text, built}
use Rattle.clap.specs.Kinds.{or_else}
use Rattle.clap.specs.Lexer.{has_byte, long_of, long_of_rest, name_and_value, short_of, strip_byte}
use Rattle.clap.specs.Faults.{bundle_fault, bundle_step_fault, flag_word_fault, flags_fault, long_fault, short_fault, step_fault, turn_fault}
use Rattle.clap.specs.Walk.{Held, Step, Walk, after_flag, bundle_met, bundle_step, has_row, idle, long_or_other, nothing_held, plain, short_or_plain, trailing, walk_from}
use Rattle.clap.specs.Simple.{filled, help_rule, with_index}
use Rattle.clap.specs.declared.error.kind.ErrorKind.TheVariants.{ArgumentConflict}
use Rattle.std.proofs.lemmas.Option.{same_Some}
use Rattle.session_words.specs.Words.{serial_flag, the_app}

-- ---- lists of kinds

pub or_else-left : (a b : Kinds) → or_else a b ≡ [] → a ≡ []
or_else-left [] b e = refl
or_else-left (k ∷ ks) b e = e

pub or_else-right : (a b : Kinds) → or_else a b ≡ [] → b ≡ []
or_else-right [] b e = e
or_else-right (k ∷ ks) b e = cc

-- ---- `--name`

strip_byte-word : (c : ℕ) (word rest : List ℕ) → strip_byte c word ≡ Some rest → word ≡ c ∷ rest
strip_byte-word c [] rest e = cc
strip_byte-word c (x ∷ xs) rest e = go (x == c) refl e
  where
    go : (b : Bool) → (x == c) ≡ b → (if b then Some xs else None) ≡ Some rest → x ∷ xs ≡ c ∷ rest
    go true t s =
        let same : x ≡ c = grind (arith, nat_tests) in
        let tails : xs ≡ rest = cc in
        cc
    go false t s = cc

position_or_len-none : (p : ℕ → Bool) (xs : List ℕ) → list_any p xs ≡ false → position_or_len p xs ≡ length xs
position_or_len-none p [] e = refl
position_or_len-none p (x ∷ xs) e = go (p x) refl e (position_or_len-none p xs)
  where
    go : (b : Bool) → p x ≡ b → (b || list_any p xs) ≡ false → (list_any p xs ≡ false → position_or_len p xs ≡ length xs) → position_or_len p (x ∷ xs) ≡ length (x ∷ xs)
    go true t e more = cc
    go false t e more = let rest = more e in rw t (omega arith)

before_first-none : (p : ℕ → Bool) (xs : List ℕ) → list_any p xs ≡ false → before_first p xs ≡ xs
before_first-none p xs none = ap (λ n. take n xs) (position_or_len-none p xs none) ∙ take_all (length xs) xs (omega arith)

no_value : (b : Bool) (v : Text) → (if b then Some v else None) ≡ None → b ≡ false
no_value true v e = cc
no_value false v e = refl

name_and_value-alone : (text name : Text) → name_and_value text ≡ (name, None) → text ≡ name
name_and_value-alone text name e =
    sym (before_first-none (λ x. x == 61) text (no_value (has_byte 61 text) _ (ap (λ p. p.1) e))) ∙ ap (λ p. p.0) e

long_of-word : (word name : Text) → long_of word ≡ Some (name, None) → word ≡ 45 ∷ 45 ∷ name
long_of-word word name e = first (strip_byte 45 word) refl e
  where
    third : (rest : Text) → long_of_rest rest ≡ Some (name, None) → rest ≡ name
    third [] e = cc
    third (x ∷ xs) e = name_and_value-alone (x ∷ xs) name (same_Some _ _ e)

    second : (rest : Text) (o : Option Text) → strip_byte 45 rest ≡ o → option_and_then long_of_rest o ≡ Some (name, None) → rest ≡ 45 ∷ name
    second rest None t e = cc
    second rest (Some s) t e = strip_byte-word 45 rest s t ∙ ap (λ xs. 45 ∷ xs) (third s e)

    first : (o : Option Text) → strip_byte 45 word ≡ o → option_and_then long_of_rest (option_and_then (strip_byte 45) o) ≡ Some (name, None) → word ≡ 45 ∷ 45 ∷ name
    first None t e = cc
    first (Some rest) t e = strip_byte-word 45 word rest t ∙ ap (λ xs. 45 ∷ xs) (second rest (strip_byte 45 rest) refl e)

-- ---- one word

-- the program as a parse builds it
abbrev pub the_shape : Shape
the_shape = (built the_app).top

-- its flags
abbrev flags : List Rule
flags = the_shape.rules

-- these matches so far
abbrev pub held_with : List Row → Held
held_with rows = record nothing_held { rows = rows }

-- a parse between two words, with these matches
abbrev pub before_word : List Row → Walk
before_word rows = walk_from (held_with rows)

-- the same behind `--`
abbrev pub behind_dashes : List Row → Walk
behind_dashes rows = record (before_word rows) { is_trailing = true }

-- the words that are no fault: `--`, and `--serial` where it was not used before
abbrev pub IsTaken : List Row → Text → Type 0
IsTaken rows word = (word ≡ codes "--") ⊎ ((word ≡ codes "--serial") × (has_row (codes "serial") rows ≡ false))

-- `--serial`, and the `--help` that each command of clap has
abbrev serial_rule : Rule
serial_rule = with_index 1 (filled serial_flag)

abbrev help_flag : Rule
help_flag = with_index 1 (filled help_rule)

-- the flag with a long name, by which of the two names it is
abbrev flag_by : Bool → Bool → Option Rule
flag_by is_serial is_help =
    if (is_serial || false) then Some serial_rule else (if (is_help || false) then Some help_flag else None)

pub not_empty : {A : Type 0} (x : A) (xs : List A) → x ∷ xs ≡ [] → ⊥
not_empty x xs e = cc

module _ (rows : List Row) (word : Text) where
  abbrev h : Held
  h = held_with rows

  used_once : (b : Bool) → or_else (if b && true then ArgumentConflict ∷ [] else []) [] ≡ [] → b ≡ false
  used_once true e = absurd (not_empty _ _ e)
  used_once false e = refl

  by_name : (name : Text) (v : Option Text) (b : Bool) → bytes_eq (codes "serial") name ≡ b → (c : Bool) → long_of word ≡ Some (name, v)
      → long_fault flags false (flag_by b c) v h ≡ [] → (word ≡ codes "--serial") × (has_row (codes "serial") rows ≡ false)
  by_name name None true t c l e = (
    long_of-word word name l ∙ ap (λ n. 45 ∷ 45 ∷ n) (sym ((bytes_eq-Decides (codes "serial") name).0 t)),
    used_once (has_row (codes "serial") rows) e,
  )
  by_name name (Some v) true t c l e = absurd (not_empty _ _ e)
  by_name name None false t true l e = absurd (not_empty _ _ e)
  by_name name (Some v) false t true l e = absurd (not_empty _ _ e)
  by_name name v false t false l e = absurd (not_empty _ _ e)

  -- the fault of a word that no flag is
  abbrev step_kinds : Held × Step → Kinds
  step_kinds met = step_fault the_shape 1 met.0 met.1

  no_letter : (x k : ℕ) (letters : Text) (b : Bool) → (104 == x) ≡ b
      → short_fault flags false (if (b || false) then Some help_flag else None) letters h (flags_fault flags false k letters 0) ≡ [] → ⊥
  no_letter x k letters true t e = not_empty _ _ e
  no_letter x k letters false t e = not_empty _ _ e

  no_letters : (k : ℕ) (letters : Text) (o : Option ℕ)
      → or_else (bundle_step_fault flags false o letters 0 h (flags_fault flags false k))
      (step_kinds (after_flag flags idle word (bundle_step flags o letters 0 plain h (bundle_met flags k)).0 (bundle_step flags o letters 0 plain h (bundle_met flags k)).1)) ≡ [] → ⊥
  no_letters k letters None e = not_empty _ _ e
  no_letters k letters (Some x) e =
      no_letter x k (drop (length (encode_utf8 x)) letters) (104 == x) refl (or_else-left _ _ e)

  no_bundle : (k : ℕ) (letters : Text) → or_else (flags_fault flags false k letters 0 h)
      (step_kinds (after_flag flags idle word (bundle_met flags k letters 0 plain h).0 (bundle_met flags k letters 0 plain h).1)) ≡ [] → ⊥
  unfolding flags_fault bundle_met
  no_bundle zero letters e = not_empty _ _ e
  no_bundle (suc k) letters e = no_letters k letters (slice_get (chars letters) 0) e

  no_short : (o : Option Text) → or_else (option_map_or (λ letters. bundle_fault flags false letters h) o [])
      (step_kinds (short_or_plain flags idle word o h)) ≡ [] → ⊥
  no_short None e = not_empty _ _ e
  no_short (Some letters) e = no_bundle (length letters) letters e

  abbrev word_kinds : Bool → Option (Text × Option Text) → Kinds
  word_kinds dashes o = or_else (if dashes then [] else flag_word_fault flags false o word h)
      (step_kinds (if dashes then (h, trailing 1) else long_or_other flags idle word o h))

  taken_by : (b : Bool) → bytes_eq word (codes "--") ≡ b → (o : Option (Text × Option Text)) → long_of word ≡ o → word_kinds b o ≡ [] → IsTaken rows word
  taken_by true t o l e = inl ((bytes_eq-Decides word (codes "--")).0 t)
  taken_by false t (Some p) l e = inr (by_name p.0 p.1 (bytes_eq (codes "serial") p.0) refl (bytes_eq (codes "help") p.0) l (or_else-left _ _ e))
  taken_by false t None l e = absurd (no_short (short_of word) e)

  pub taken : turn_fault the_shape [] (before_word rows) word ≡ [] → IsTaken rows word
  taken e = taken_by (bytes_eq word (codes "--")) refl (long_of word) refl e

  pub none_behind : turn_fault the_shape [] (behind_dashes rows) word ≡ [] → ⊥
  none_behind e = not_empty _ _ e
