-- The lines of a text and the words of a line, as people write them.
use Rattle.std.specs.Prelude.{ℕ, nat_le, ◌==◌, ◌&&◌, ◌||◌, Bool, false, if◌then◌else◌, List, [], ◌∷◌, map, filter, length, not}
use Rattle.std.specs.List.{list_all, slice_split}

-- a list without its last item, where that is this one
abbrev pub without_last : ℕ → List ℕ → List ℕ
without_last x [] = []
without_last x (b ∷ []) = if b == x then [] else b ∷ []
without_last x (b ∷ c ∷ bs) = b ∷ without_last x (c ∷ bs)

-- what stands between the bytes 10 of a text; a last byte 10 ends the last line
abbrev pub raw_lines : List ℕ → List (List ℕ)
raw_lines [] = []
raw_lines (b ∷ bs) = slice_split (λ c. c == 10) (without_last 10 (b ∷ bs))

-- the lines of a text, each without one byte 13 at its end
unfoldable pub text_lines : List ℕ → List (List ℕ)
text_lines bytes = map (without_last 13) (raw_lines bytes)

-- a space or a tab
abbrev pub is_blank : ℕ → Bool
is_blank b = (b == 32) || (b == 9)

abbrev pub is_word : List ℕ → Bool
is_word piece = not (length piece == 0)

-- the words of a line, which stand apart by one or more blanks
unfoldable pub words_of : List ℕ → List (List ℕ)
words_of line = filter is_word (slice_split is_blank line)

abbrev pub begins_with : ℕ → List ℕ → Bool
begins_with b [] = false
begins_with b (c ∷ bs) = c == b

-- the first byte that is no blank is `#`
abbrev pub is_comment : List (List ℕ) → Bool
is_comment [] = false
is_comment (word ∷ words) = begins_with 35 word

-- a tab, or a byte that prints
abbrev pub is_text_byte : ℕ → Bool
is_text_byte b = (b == 9) || (nat_le 32 b && nat_le b 126)

abbrev pub are_text_bytes : List ℕ → Bool
are_text_bytes line = list_all is_text_byte line
