-- The words of a list of tags, and how they are read back.
use Rattle.std.proofs.Common.{◌≡◌, ℕ, suc, ◌+◌, ◌-◌, ◌<◌, ◌≤◌, nat_lt, nat_le, ◌==◌, not, Bool, true, false, if◌then◌else◌, List, [], ◌∷◌, ◌++◌, map, Option, None, Some, codes, decimal, refl, sym, ap, ◌∙◌, append-nil, append_assoc, arith, subst}
use Rattle.std.proofs.lemmas.Bool.{eq-eqb, ne_eqb, eqb-true, leb-true, leb-false, lt-ltb}
use Rattle.std.proofs.lemmas.Grind.{flat_map-append}
use Rattle.std.proofs.lemmas.List.Folds.{list_all-append}
use Rattle.std.specs.Cmp.Derive.{both_true}
use Rattle.std.specs.List.{flat_map, list_all, range_with_len, AllByRecursion}
use Rattle.pk_base.specs.declared.tag.Tag.{Tag}
use Rattle.pk_base.specs.Blocks.{tag}
use Rattle.script_text.specs.Numbers.{is_digit}
use Rattle.script_text.specs.Printable.{IsNumber, AreTags, IsOptionalTag}
use Rattle.script_text.specs.Text.{Span, runs, onto_spans, run_field, runs_field, tags_field, number, numbers_field, optional_tag}
use Rattle.script_text.proofs.Cutting.{cut, cut-more, cut-last, lacks, and_first, and_second}
use Rattle.script_text.proofs.Decimals.{number_in, number_in-decimal, decimal_digits, digit_ne}
use Rattle.script_text.proofs.Spelling.{Spells, spells-none, spells-append, spells-word, spells-number, is_inner, decimal_word, all_of}

-- ---- a word

-- the numbers of the pieces between `-`
abbrev pub numbers_of_pieces : List (List ℕ) → List ℕ
numbers_of_pieces [] = []
numbers_of_pieces (a ∷ []) = number_in a ∷ []
numbers_of_pieces (a ∷ b ∷ more) =
    if number_in b == 0 then [] else range_with_len (number_in a) (number_in b + 1 - number_in a)

abbrev pub numbers_of_word : List ℕ → List ℕ
numbers_of_word w = numbers_of_pieces (cut 45 w)

-- the word does not begin with a letter
abbrev pub is_low : List ℕ → Bool
is_low [] = true
is_low (b ∷ bs) = nat_lt b 97

digits_low : (w after : List ℕ) → list_all is_digit w ≡ true → is_low after ≡ true → is_low (w ++ after) ≡ true
digits_low [] after h l = l
digits_low (b ∷ bs) after h l = low b (and_first _ _ h)
  where
    low : (b : ℕ) → is_digit b ≡ true → nat_lt b 97 ≡ true
    low b d = let top : b ≤ 57 = leb-true b 57 (and_second (nat_le 48 b) (nat_le b 57) d) in lt-ltb b 97 (omega arith)

pub decimal_low : (n : ℕ) → is_low (decimal n) ≡ true
decimal_low n = ap is_low (sym (append-nil (decimal n))) ∙ digits_low (decimal n) [] (decimal_digits n) refl

pub decimal_lacks : (s n : ℕ) → is_digit s ≡ false → lacks s (decimal n) ≡ true
decimal_lacks s n other = all_of is_digit (λ b. not (b == s)) (λ b h. ap not (digit_ne s b other h)) (decimal n) (decimal_digits n)

pub number_word : (n : ℕ) → IsNumber n → numbers_of_word (decimal n) ≡ n ∷ []
number_word n h = ap numbers_of_pieces (cut-last 45 (decimal n) (decimal_lacks 45 n refl)) ∙ ap (λ k. k ∷ []) (number_in-decimal n h)

-- ---- a run

abbrev IsRun : Span → Type 0
IsRun r = (r.first ≤ r.last) × IsNumber r.last

abbrev numbers_of_run : Span → List ℕ
numbers_of_run r = range_with_len r.first (r.last + 1 - r.first)

abbrev pub numbers_in : List (List ℕ) → List ℕ
numbers_in ws = flat_map numbers_of_word ws

-- the words of a text, which are these numbers
pub record NumberWords (text : List ℕ) (numbers : List ℕ) : Type 0 where
  pub words : List (List ℕ)
  pub spells : Spells text words
  pub reads : numbers_in words ≡ numbers
  pub low : list_all is_low words ≡ true

words-append : {a b x y : List ℕ} → NumberWords a x → NumberWords b y → NumberWords (a ++ b) (x ++ y)
words-append p q = record {
  words = p.words ++ q.words;
  spells = spells-append p.spells q.spells;
  reads = flat_map-append numbers_of_word p.words q.words ∙ (λ i. p.reads i ++ q.reads i);
  low = list_all-append is_low p.words q.words ∙ both_true p.low q.low;
}

range_of : (a n : ℕ) (k : ℕ) → n ≡ suc k → range_with_len a n ≡ a ∷ range_with_len (a + 1) k
range_of a n k e = ap (range_with_len a) e

one_word : (n : ℕ) → IsNumber n → NumberWords (number n) (n ∷ [])
one_word n h = record {
  words = decimal n ∷ [];
  spells = spells-number n;
  reads = append-nil (numbers_of_word (decimal n)) ∙ number_word n h;
  low = both_true (decimal_low n) refl;
}

long_word : (a b : ℕ) → a + 2 ≤ b → IsNumber b → NumberWords (number a ++ codes "-" ++ decimal b) (range_with_len a (b + 1 - a))
long_word a b l h =
    let w = decimal a ++ 45 ∷ decimal b in
    let pieces : cut 45 w ≡ decimal a ∷ decimal b ∷ [] =
    cut-more 45 (decimal a) (decimal b) (decimal_lacks 45 a refl) ∙ ap (λ l. decimal a ∷ l) (cut-last 45 (decimal b) (decimal_lacks 45 b refl)) in
    let small : IsNumber a = omega arith in
    record {
      words = w ∷ [];
      spells = subst (λ l. Spells l (w ∷ [])) (sym (append_assoc (number a) (codes "-") (decimal b))) (spells-word w (list_all-append is_inner (decimal a) (45 ∷ decimal b) ∙ both_true (decimal_word a) (decimal_word b)));
      reads = append-nil (numbers_of_word w)
          ∙ ap numbers_of_pieces pieces
          ∙ ap (λ k. if k == 0 then [] else range_with_len (number_in (decimal a)) (k + 1 - number_in (decimal a))) (number_in-decimal b h)
          ∙ ap (λ t. if t then [] else range_with_len (number_in (decimal a)) (b + 1 - number_in (decimal a))) (ne_eqb b 0 (λ e. omega arith))
          ∙ ap (λ k. range_with_len k (b + 1 - k)) (number_in-decimal a small);
      low = both_true (digits_low (decimal a) (45 ∷ decimal b) (decimal_digits a) refl) refl;
    }

run_words_by : (r : Span) (long one : Bool) → nat_le (r.first + 2) r.last ≡ long → (r.first == r.last) ≡ one → IsRun r →
    NumberWords (if long then number r.first ++ codes "-" ++ decimal r.last else (if one then number r.first else number r.first ++ number r.last)) (numbers_of_run r)
run_words_by r true one l o h = long_word r.first r.last (leb-true _ _ l) h.1
run_words_by r false true l o h =
    let same = eqb-true r.first r.last o in
    subst (NumberWords (number r.first)) (sym (range_of r.first (r.last + 1 - r.first) 0 (omega arith))) (one_word r.first (omega (arith, h.0, h.1)))
run_words_by r false false l o h =
    let near = leb-false (r.first + 2) r.last l in
    let apart : r.first ≡ r.last → ⊥ = λ e. let yes : (r.first == r.last) ≡ true = eq-eqb r.first r.last e in cc in
    let next : r.last ≡ r.first + 1 = next_of r.first r.last h.0 near apart in
    let two : range_with_len r.first (r.last + 1 - r.first) ≡ r.first ∷ r.last ∷ [] =
    range_of r.first (r.last + 1 - r.first) 1 (omega arith) ∙ ap (λ k. r.first ∷ k ∷ []) (sym next) in
    subst (NumberWords (number r.first ++ number r.last)) (sym two) (words-append (one_word r.first (omega (arith, h.0, h.1))) (one_word r.last h.1))
  where
    next_of : (a b : ℕ) → a ≤ b → b < a + 2 → (a ≡ b → ⊥) → b ≡ a + 1
    next_of a b low near apart = omega (arith, apart)

run_words : (r : Span) → IsRun r → NumberWords (run_field r) (numbers_of_run r)
run_words r h = run_words_by r (nat_le (r.first + 2) r.last) (r.first == r.last) refl refl h

runs_words : (rs : List Span) → AllByRecursion IsRun rs → NumberWords (flat_map run_field rs) (flat_map numbers_of_run rs)
runs_words [] h = record { words = []; spells = spells-none; reads = refl; low = refl }
runs_words (r ∷ rs) h = words-append (run_words r h.0) (runs_words rs h.1)

runs_field_words : (rs : List Span) → AllByRecursion IsRun rs → NumberWords (runs_field rs) (flat_map numbers_of_run rs)
runs_field_words [] h = record { words = codes "-" ∷ []; spells = spells-word (codes "-") refl; reads = refl; low = refl }
runs_field_words (r ∷ rs) h = runs_words (r ∷ rs) h

-- ---- the runs of a list

onto_numbers : (n : ℕ) (rs : List Span) → AllByRecursion IsRun rs → flat_map numbers_of_run (onto_spans n rs) ≡ n ∷ flat_map numbers_of_run rs
onto_numbers n [] h = append-nil _ ∙ range_of n (n + 1 - n) 0 (omega arith)
onto_numbers n (r ∷ rs) h = by (n + 1 == r.first) refl
  where
    by : (t : Bool) → (n + 1 == r.first) ≡ t →
        flat_map numbers_of_run (if t then record { first = n; last = r.last } ∷ rs else record { first = n; last = n } ∷ r ∷ rs) ≡ n ∷ flat_map numbers_of_run (r ∷ rs)
    by true e =
        let next = eqb-true (n + 1) r.first e in
        ap (λ l. l ++ flat_map numbers_of_run rs) (range_of n (r.last + 1 - n) (r.last + 1 - r.first) (omega (arith, h.0.0)) ∙ ap (λ k. n ∷ range_with_len k (r.last + 1 - r.first)) next)
    by false e = ap (λ l. l ++ flat_map numbers_of_run (r ∷ rs)) (range_of n (n + 1 - n) 0 (omega arith))

onto_runs : (n : ℕ) (rs : List Span) → IsNumber n → AllByRecursion IsRun rs → AllByRecursion IsRun (onto_spans n rs)
onto_runs n [] s h = ((omega arith, s), tt)
onto_runs n (r ∷ rs) s h = by (n + 1 == r.first) refl
  where
    by : (t : Bool) → (n + 1 == r.first) ≡ t →
        AllByRecursion IsRun (if t then record { first = n; last = r.last } ∷ rs else record { first = n; last = n } ∷ r ∷ rs)
    by true e = let next = eqb-true (n + 1) r.first e in ((omega (arith, h.0.0), h.0.1), h.1)
    by false e = ((omega arith, s), h)

runs_are : (ts : List Tag) → AreTags ts → AllByRecursion IsRun (runs ts)
runs_are [] h = tt
runs_are (t ∷ ts) h = onto_runs t.0 (runs ts) h.0 (runs_are ts h.1)

runs_numbers : (ts : List Tag) → AreTags ts → map tag (flat_map numbers_of_run (runs ts)) ≡ ts
runs_numbers [] h = refl
runs_numbers (t ∷ ts) h = ap (map tag) (onto_numbers t.0 (runs ts) (runs_are ts h.1)) ∙ ap (λ l. t ∷ l) (runs_numbers ts h.1)

-- ---- a list of tags

abbrev pub tags_in : List (List ℕ) → List Tag
tags_in ws = map tag (flat_map numbers_of_word ws)

pub record TagWords (tags : List Tag) : Type 0 where
  pub words : List (List ℕ)
  pub spells : Spells (tags_field tags) words
  pub reads : tags_in words ≡ tags
  pub low : list_all is_low words ≡ true

pub tag_words : (tags : List Tag) → AreTags tags → TagWords tags
unfolding tags_field
tag_words tags h =
    let p = runs_field_words (runs tags) (runs_are tags h) in
    record { words = p.words; spells = p.spells; reads = ap (map tag) p.reads ∙ runs_numbers tags h; low = p.low }

-- ---- numbers one by one, and a tag or none

each_word : (ns : List ℕ) → AllByRecursion IsNumber ns → NumberWords (flat_map number ns) ns
each_word [] h = record { words = []; spells = spells-none; reads = refl; low = refl }
each_word (n ∷ ns) h = words-append (one_word n h.0) (each_word ns h.1)

pub number_words : (ns : List ℕ) → AllByRecursion IsNumber ns → NumberWords (numbers_field ns) ns
number_words [] h = record { words = codes "-" ∷ []; spells = spells-word (codes "-") refl; reads = refl; low = refl }
number_words (n ∷ ns) h = each_word (n ∷ ns) h

abbrev pub optional_word : Option Tag → List ℕ
optional_word None = codes "-"
optional_word (Some t) = decimal t.0

abbrev first_tag : List ℕ → Option Tag
first_tag [] = None
first_tag (n ∷ ns) = Some (tag n)

abbrev pub optional_in : List ℕ → Option Tag
optional_in w = first_tag (numbers_of_word w)

pub spells-optional : (o : Option Tag) → Spells (optional_tag o) (optional_word o ∷ [])
spells-optional None = spells-word (codes "-") refl
spells-optional (Some t) = spells-number t.0

pub optional_in-word : (o : Option Tag) → IsOptionalTag o → optional_in (optional_word o) ≡ o
optional_in-word None h = refl
optional_in-word (Some t) h = ap first_tag (number_word t.0 h)
