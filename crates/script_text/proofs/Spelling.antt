-- Texts as words and lines, and how they are read back.
use Rattle.std.proofs.Common.{◌≡◌, ℕ, ◌==◌, ◌&&◌, not, Bool, true, false, List, [], ◌∷◌, ◌++◌, ℤ, pos, negsuc, map, drop, get_or, decimal, refl, sym, ap, ◌∙◌, append_assoc, append-nil}
use Rattle.std.proofs.lemmas.Grind.{flat_map-append}
use Rattle.std.proofs.lemmas.List.Folds.{list_all-append}
use Rattle.std.specs.Cmp.Derive.{both_true}
use Rattle.std.specs.Fmt.{signed_decimal}
use Rattle.std.specs.List.{flat_map, list_all}
use Rattle.script_text.specs.Numbers.{is_digit}
use Rattle.script_text.specs.Text.{number, signed, newline}
use Rattle.script_text.proofs.Cutting.{cut, cut-more, cut-last, lacks, and_first, and_second}
use Rattle.script_text.proofs.Decimals.{decimal_digits, digit_ne}

-- a byte that neither ends a word nor a line
abbrev pub is_inner : ℕ → Bool
is_inner b = not (b == 32) && not (b == 10)

abbrev pub is_word : List ℕ → Bool
is_word w = list_all is_inner w

-- each word behind one space
abbrev pub spaced : List (List ℕ) → List ℕ
spaced ws = flat_map (λ w. 32 ∷ w) ws

-- the text is these words, each behind one space
pub record Spells (text : List ℕ) (words : List (List ℕ)) : Type 0 where
  pub bytes : text ≡ spaced words
  pub inner : list_all is_word words ≡ true

pub spells-none : Spells [] []
spells-none = record { bytes = refl; inner = refl }

pub spells-append : {a b : List ℕ} {v w : List (List ℕ)} → Spells a v → Spells b w → Spells (a ++ b) (v ++ w)
spells-append {a} {b} {v} {w} p q = record {
  bytes = (λ i. p.bytes i ++ q.bytes i) ∙ sym (flat_map-append (λ (x : List ℕ). 32 ∷ x) v w);
  inner = list_all-append is_word v w ∙ both_true p.inner q.inner;
}

-- one word
pub spells-word : (w : List ℕ) → is_word w ≡ true → Spells (32 ∷ w) (w ∷ [])
spells-word w h = record { bytes = sym (append-nil (32 ∷ w)); inner = both_true h refl }

-- words that stand as they are
pub fixed : (words : List (List ℕ)) → list_all is_word words ≡ true → Spells (spaced words) words
fixed words h = record { bytes = refl; inner = h }

abbrev pub word_at : List (List ℕ) → ℕ → List ℕ
word_at ws k = get_or ws k []

digit_inner : (b : ℕ) → is_digit b ≡ true → is_inner b ≡ true
digit_inner b h = both_true (ap not (digit_ne 32 b refl h)) (ap not (digit_ne 10 b refl h))

pub all_of : {A : Type 0} (p q : A → Bool) → ((x : A) → p x ≡ true → q x ≡ true) → (xs : List A) → list_all p xs ≡ true → list_all q xs ≡ true
all_of p q f [] h = refl
all_of p q f (x ∷ xs) h = both_true (f x (and_first _ _ h)) (all_of p q f xs (and_second _ _ h))

pub decimal_word : (n : ℕ) → is_word (decimal n) ≡ true
decimal_word n = all_of is_digit is_inner digit_inner (decimal n) (decimal_digits n)

pub signed_word : (z : ℤ) → is_word (signed_decimal z) ≡ true
signed_word (pos n) = decimal_word n
signed_word (negsuc n) = decimal_word _

pub spells-number : (n : ℕ) → Spells (number n) (decimal n ∷ [])
spells-number n = spells-word (decimal n) (decimal_word n)

pub spells-signed : (z : ℤ) → Spells (signed z) (signed_decimal z ∷ [])
spells-signed z = spells-word (signed_decimal z) (signed_word z)

-- the words are read back
line_words : (w : List ℕ) (ws : List (List ℕ)) → list_all is_word (w ∷ ws) ≡ true → cut 32 (w ++ spaced ws) ≡ w ∷ ws
line_words w [] h = ap (cut 32) (append-nil w) ∙ cut-last 32 w (no_space w (and_first _ _ h))
  where
    no_space : (w : List ℕ) → is_word w ≡ true → lacks 32 w ≡ true
    no_space w g = all_of is_inner (λ b. not (b == 32)) (λ b e. and_first _ _ e) w g
line_words w (x ∷ ws) h =
    cut-more 32 w (x ++ spaced ws) (no_space w (and_first _ _ h))
    ∙ ap (λ l. w ∷ l) (line_words x ws (and_second _ _ h))
  where
    no_space : (w : List ℕ) → is_word w ≡ true → lacks 32 w ≡ true
    no_space w g = all_of is_inner (λ b. not (b == 32)) (λ b e. and_first _ _ e) w g

-- ---- lines

-- one word or more
abbrev pub is_line : List (List ℕ) → Bool
is_line [] = false
is_line (w ∷ ws) = list_all is_word (w ∷ ws)

abbrev pub bytes_of : List (List ℕ) → List ℕ
bytes_of [] = []
bytes_of (w ∷ ws) = w ++ spaced ws

-- each line ended by byte 10
abbrev pub ended : List (List (List ℕ)) → List ℕ
ended ls = flat_map (λ l. bytes_of l ++ newline) ls

-- the text is these lines
pub record Tells (text : List ℕ) (lines : List (List (List ℕ))) : Type 0 where
  pub bytes : text ≡ ended lines
  pub inner : list_all is_line lines ≡ true

pub tells-none : Tells [] []
tells-none = record { bytes = refl; inner = refl }

pub tells-append : {a b : List ℕ} {v w : List (List (List ℕ))} → Tells a v → Tells b w → Tells (a ++ b) (v ++ w)
tells-append {a} {b} {v} {w} p q = record {
  bytes = (λ i. p.bytes i ++ q.bytes i) ∙ sym (flat_map-append (λ (l : List (List ℕ)). bytes_of l ++ newline) v w);
  inner = list_all-append is_line v w ∙ both_true p.inner q.inner;
}

-- one line
pub tells-line : (line : List ℕ) (words : List (List ℕ)) → Spells (32 ∷ line) words → Tells (line ++ newline) (words ∷ [])
tells-line line [] p = let e : (32 ∷ line) ≡ [] = p.bytes in cc
tells-line line (w ∷ ws) p = record {
  bytes = ap (λ l. drop 1 l ++ newline) p.bytes ∙ sym (append-nil ((w ++ spaced ws) ++ newline));
  inner = both_true p.inner refl;
}

abbrev pub lines_in : List ℕ → List (List (List ℕ))
lines_in text = map (cut 32) (cut 10 text)

no_end : (ws : List (List ℕ)) → list_all is_word ws ≡ true → lacks 10 (spaced ws) ≡ true
no_end [] h = refl
no_end (w ∷ ws) h =
    list_all-append (λ b. not (b == 10)) w (spaced ws)
    ∙ both_true (all_of is_inner (λ b. not (b == 10)) (λ b e. and_second _ _ e) w (and_first _ _ h)) (no_end ws (and_second _ _ h))

no_end_in : (l : List (List ℕ)) → is_line l ≡ true → lacks 10 (bytes_of l) ≡ true
no_end_in [] h = refl
no_end_in (w ∷ ws) h = no_end (w ∷ ws) h

words_back : (l : List (List ℕ)) → is_line l ≡ true → cut 32 (bytes_of l) ≡ l
words_back [] h = cc
words_back (w ∷ ws) h = line_words w ws h

-- the lines are read back, and an empty one behind the last
lines_back : (ls : List (List (List ℕ))) → list_all is_line ls ≡ true → lines_in (ended ls) ≡ ls ++ ([] ∷ []) ∷ []
lines_back [] h = refl
lines_back (l ∷ ls) h =
    ap lines_in (append_assoc (bytes_of l) newline (ended ls))
    ∙ ap (map (cut 32)) (cut-more 10 (bytes_of l) (ended ls) (no_end_in l (and_first _ _ h)))
    ∙ (λ i. words_back l (and_first _ _ h) i ∷ lines_back ls (and_second _ _ h) i)

pub lines_in-told : {text : List ℕ} {lines : List (List (List ℕ))} → Tells text lines → lines_in text ≡ lines ++ ([] ∷ []) ∷ []
lines_in-told {text} {lines} p = ap lines_in p.bytes ∙ lines_back lines p.inner

-- a text of words, from which they tell the value
pub record Told {A : Type 0} (text : List ℕ) (read : List (List ℕ) → A) (value : A) : Type 0 where
  pub words : List (List ℕ)
  pub spells : Spells text words
  pub reads : read words ≡ value

-- the same, and the first word
pub record ToldBehind {A : Type 0} (first text : List ℕ) (read : List (List ℕ) → A) (value : A) : Type 0 where
  pub words : List (List ℕ)
  pub spells : Spells text words
  pub begins : word_at words 0 ≡ first
  pub reads : read words ≡ value
