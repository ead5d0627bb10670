-- Which words the program takes.
use Rattle.std.proofs.Common.{◌≡◌, ◌∙◌, List, [], ◌∷◌, refl, ap, subst, true, true≢false, inl, inr, codes, sym}
use Rattle.std.specs.Prelude.{◌⊎◌, Some, None}
use Rattle.clap.specs.Words.{Row, Text, is_simple, is_simple_and_free}
use Rattle.clap.specs.Faults.{walk_fault}
use Rattle.clap.specs.Walk.{walked}
use Rattle.clap.specs.declared.builder.value_parser.Reading.TheVariants.{AsWritten}
use Rattle.clap.specs.declared.parser.matches.ValueSource.TheVariants.{CommandLine}
use Rattle.clap.proofs.OnLiterals.{clap_on_literals}
use Rattle.session_words.specs.Words.{AreReadable, the_app}
use Rattle.session_words.proofs.Faults.{before_word, behind_dashes, none_behind, or_else-left, or_else-right, taken, the_shape}

pub is_simple-the_app : is_simple the_app ≡ true
is_simple-the_app = refl

pub is_simple_and_free-the_app : is_simple_and_free the_app ≡ true
is_simple_and_free-the_app = refl

-- `--serial` or nothing, and behind it `--` or nothing
abbrev pub AreTaken : List Text → Type 0
AreTaken words = (words ≡ []) ⊎ ((words ≡ codes "--serial" ∷ [])
    ⊎ ((words ≡ codes "--" ∷ []) ⊎ (words ≡ codes "--serial" ∷ codes "--" ∷ [])))

-- ---- what is taken is readable

pub readable-none : AreReadable []
unfolding clap_on_literals AreReadable
readable-none = refl

pub readable-serial : AreReadable (codes "--serial" ∷ [])
unfolding clap_on_literals AreReadable
readable-serial = refl

readable-dashes : AreReadable (codes "--" ∷ [])
unfolding clap_on_literals AreReadable
readable-dashes = refl

readable-both : AreReadable (codes "--serial" ∷ codes "--" ∷ [])
unfolding clap_on_literals AreReadable
readable-both = refl

pub AreReadable-taken : (words : List Text) → AreTaken words → AreReadable words
AreReadable-taken words (inl e) = subst AreReadable (sym e) readable-none
AreReadable-taken words (inr (inl e)) = subst AreReadable (sym e) readable-serial
AreReadable-taken words (inr (inr (inl e))) = subst AreReadable (sym e) readable-dashes
AreReadable-taken words (inr (inr (inr e))) = subst AreReadable (sym e) readable-both

-- ---- what is readable is taken

-- the row of the flag where it was used
abbrev serial_row : Row
serial_row = record {
  id = codes "serial";
  values = codes "true" ∷ [];
  count = None;
  source = Some CommandLine;
  reading = AsWritten;
}

module _ (rows : List Row) where
  nothing_more : (words : List Text) → walk_fault the_shape [] (behind_dashes rows) words ≡ [] → words ≡ []
  unfolding walk_fault
  nothing_more [] e = refl
  nothing_more (word ∷ words) e = absurd (none_behind rows word e)

  dashes_next : walked the_shape.rules [] (before_word rows) (codes "--") ≡ behind_dashes rows
  unfolding walked
  dashes_next = refl

  behind : (word : Text) (words : List Text) → word ≡ codes "--"
      → walk_fault the_shape [] (walked the_shape.rules [] (before_word rows) word) words ≡ [] → word ∷ words ≡ codes "--" ∷ []
  behind word words is e =
      let walked_is : walked the_shape.rules [] (before_word rows) word ≡ behind_dashes rows = ap (walked the_shape.rules [] (before_word rows)) is ∙ dashes_next in
      let rest : words ≡ [] = nothing_more words (ap (λ w. walk_fault the_shape [] w words) (sym walked_is) ∙ e) in
      cc

serial_next : walked the_shape.rules [] (before_word []) (codes "--serial") ≡ before_word (serial_row ∷ [])
unfolding walked
serial_next = refl

again : (words : List Text) → walk_fault the_shape [] (before_word (serial_row ∷ [])) words ≡ [] → (words ≡ []) ⊎ (words ≡ codes "--" ∷ [])
unfolding walk_fault
again [] e = inl refl
again (word ∷ words) e = elim (taken (serial_row ∷ []) word (or_else-left _ _ e)) [
  | inl is ↦ inr (behind (serial_row ∷ []) word words is (or_else-right _ _ e))
  | inr is ↦ absurd (true≢false is.1)
]

after_serial : (word : Text) (words : List Text) → word ≡ codes "--serial" → (words ≡ []) ⊎ (words ≡ codes "--" ∷ []) → AreTaken (word ∷ words)
after_serial word words is (inl e) = let same : word ∷ words ≡ codes "--serial" ∷ [] = cc in inr (inl same)
after_serial word words is (inr e) = let same : word ∷ words ≡ codes "--serial" ∷ codes "--" ∷ [] = cc in inr (inr (inr same))

walked_all : (words : List Text) → walk_fault the_shape [] (before_word []) words ≡ [] → AreTaken words
unfolding walk_fault
walked_all [] e = inl refl
walked_all (word ∷ words) e = elim (taken [] word (or_else-left _ _ e)) [
  | inl is ↦ inr (inr (inl (behind [] word words is (or_else-right _ _ e))))
  | inr is ↦
      let walked_is : walked the_shape.rules [] (before_word []) word ≡ before_word (serial_row ∷ []) = ap (walked the_shape.rules [] (before_word [])) is.0 ∙ serial_next in
      after_serial word words is.0 (again words (ap (λ w. walk_fault the_shape [] w words) (sym walked_is) ∙ or_else-right _ _ e))
]

pub taken-AreReadable : (words : List Text) → AreReadable words → AreTaken words
unfolding AreReadable
taken-AreReadable words e = walked_all words (or_else-left _ _ e)
