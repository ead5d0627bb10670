-- The word of a name, and the name that a word is.
use Rattle.std.proofs.Common.{◌≡◌, ℕ, zero, suc, ◌+◌, ◌-◌, ◌≤◌, nat_le, ◌||◌, ◌==◌, cond, not, Bool, true, false, List, [], ◌∷◌, ◌++◌, length, replicate, take, take_while, refl, sym, ap, ◌∙◌, arith}
use Rattle.std.proofs.lemmas.Bool.{le-leb, leb-true, eqb-true, ne_eqb}
use Rattle.std.specs.Cmp.Derive.{both_true}
use Rattle.std.specs.List.{list_all, prefix_len}
use Rattle.pk_base.specs.declared.entity.Name.{Name}
use Rattle.script_text.specs.FieldWords.{is_letter, is_name_byte}
use Rattle.script_text.specs.Numbers.{is_digit}
use Rattle.script_text.specs.Printable.{IsName}
use Rattle.script_text.specs.Text.{name_field}
use Rattle.script_text.proofs.Cutting.{and_first, and_second}
use Rattle.script_text.proofs.Spelling.{Spells, spells-word, is_inner, is_word, all_of}

-- a word padded with zeros
abbrev pub name_in : List ℕ → Name
name_in w = record { 0 = w ++ replicate (16 - length w) 0 }

above : (b : ℕ) → is_name_byte b ≡ true → 48 ≤ b
above b h = by (is_letter b) (is_digit b) (b == 95) refl refl refl h
  where
    by : (letter digit line : Bool) → is_letter b ≡ letter → is_digit b ≡ digit → (b == 95) ≡ line → (letter || (digit || line)) ≡ true → 48 ≤ b
    by true digit line l d e h = let low = leb-true 97 b (and_first _ _ l) in omega arith
    by false true line l d e h = leb-true 48 b (and_first _ _ d)
    by false false true l d e h = let same = eqb-true b 95 e in omega arith
    by false false false l d e h = cc

abbrev pub is_shown : ℕ → Bool
is_shown b = nat_le 1 b

shown_of : (w : List ℕ) (k : ℕ) → list_all is_name_byte w ≡ true → take_while is_shown (w ++ replicate k 0) ≡ w
shown_of [] zero h = refl
shown_of [] (suc k) h = refl
shown_of (b ∷ bs) k h =
    let low = above b (and_first _ _ h) in
    let more = bs ++ replicate k 0 in
    ap (λ t. take (cond t (1 + prefix_len is_shown more) 0) (b ∷ more)) (le-leb 1 b (omega arith))
    ∙ ap (λ m. take m (b ∷ more)) {x = 1 + prefix_len is_shown more} {y = suc (prefix_len is_shown more)} (omega arith)
    ∙ ap (λ l. b ∷ l) (shown_of bs k (and_second _ _ h))

inner_of : (b : ℕ) → is_name_byte b ≡ true → is_inner b ≡ true
inner_of b h =
    let low = above b h in
    both_true (ap not (ne_eqb b 32 (λ e. omega arith))) (ap not (ne_eqb b 10 (λ e. omega arith)))

letter_is : (b : ℕ) → is_letter b ≡ true → is_name_byte b ≡ true
letter_is b h = ap (λ t. t || (is_digit b || (b == 95))) h

abbrev pub name_word : Name → List ℕ
name_word n = take_while is_shown n.0

shown_is : (n : Name) (p : IsName n) → name_word n ≡ p.letter ∷ p.others
shown_is n p = ap name_word p.padded ∙ shown_of (p.letter ∷ p.others) (15 - length p.others) (both_true (letter_is p.letter p.begins) p.goes_on)

pub spells-name : (n : Name) → IsName n → Spells (name_field n) (name_word n ∷ [])
spells-name n p =
    let w = p.letter ∷ p.others in
    let bytes : list_all is_name_byte w ≡ true = both_true (letter_is p.letter p.begins) p.goes_on in
    spells-word (name_word n) (ap is_word (shown_is n p) ∙ all_of is_name_byte is_inner inner_of w bytes)

pub name_in-word : (n : Name) → IsName n → name_in (name_word n) ≡ n
name_in-word n p =
    let w = p.letter ∷ p.others in
    ap name_in (shown_is n p)
    ∙ ap (λ k. record { 0 = w ++ replicate k 0 }) {x = 16 - length w} {y = 15 - length p.others} (omega arith)
    ∙ sym p.padded
