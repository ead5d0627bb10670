-- What the flag is at the words that the program takes.
use Rattle.std.proofs.Common.{◌≡◌, ◌∙◌, ℕ, zero, suc, ◌<◌, arith, subst, List, [], ◌∷◌, Option, Some, refl, sym, ap, true, false, true≢false, Bool, IsTrue, inl, inr, codes}
use Rattle.std.specs.Prelude.{◌⊎◌, ◌↔◌, Contains, slice_index_or}
use Rattle.clap.specs.Words.{Text, matches_of, one_of}
use Rattle.clap.proofs.OnLiterals.{clap_on_literals}
use Rattle.session_words.specs.Words.{AreReadable, AreSerial, with_name, the_app}
use Rattle.session_words.proofs.Taken.{AreTaken, taken-AreReadable}

-- the text of the flag
abbrev pub flag_of : List Text → Option Text
flag_of words = one_of (codes "serial") (matches_of the_app (with_name words))

pub flag_of-none : flag_of [] ≡ Some (codes "false")
unfolding clap_on_literals
flag_of-none = refl

pub flag_of-serial : flag_of (codes "--serial" ∷ []) ≡ Some (codes "true")
unfolding clap_on_literals
flag_of-serial = refl

flag_of-dashes : flag_of (codes "--" ∷ []) ≡ Some (codes "false")
unfolding clap_on_literals
flag_of-dashes = refl

flag_of-both : flag_of (codes "--serial" ∷ codes "--" ∷ []) ≡ Some (codes "true")
unfolding clap_on_literals
flag_of-both = refl

-- it is `true` or `false` where the program takes the words
flag_of-taken : (words : List Text) → AreTaken words → (flag_of words ≡ Some (codes "true")) ⊎ (flag_of words ≡ Some (codes "false"))
flag_of-taken words (inl e) = inr (ap flag_of e ∙ flag_of-none)
flag_of-taken words (inr (inl e)) = inl (ap flag_of e ∙ flag_of-serial)
flag_of-taken words (inr (inr (inl e))) = inr (ap flag_of e ∙ flag_of-dashes)
flag_of-taken words (inr (inr (inr e))) = inl (ap flag_of e ∙ flag_of-both)

pub not_false : Some (codes "false") ≡ Some (codes "true") → ⊥
not_false e = cc

pub AreSerial-flag : (words : List Text) (b : Bool) → AreReadable words → (flag_of words ≡ Some (codes "true") → b ≡ true) → (flag_of words ≡ Some (codes "false") → b ≡ false)
    → IsTrue b ↔ AreSerial words
unfolding AreSerial
AreSerial-flag words b readable set unset = elim (flag_of-taken words (taken-AreReadable words readable)) [
  | inl is ↦ ((λ _. is), (λ _. let e : b ≡ true = set is in e))
  | inr is ↦ ((λ t. let bad : true ≡ false = sym t ∙ unset is in absurd (true≢false bad)), (λ is_true. absurd (not_false (sym is ∙ is_true))))
]

dashes_lack : (k : ℕ) → k < 1 → slice_index_or (codes "--" ∷ []) k (codes "--serial") ≡ codes "--serial" → ⊥
dashes_lack zero below is = cc
dashes_lack (suc k) below is = absurd (omega arith)

-- the run is serial where the flag is among the words
named : (words : List Text) → AreTaken words → AreSerial words ↔ Contains words (codes "--serial")
unfolding AreSerial
named words (inl e) = subst (λ ws. AreSerial ws ↔ Contains ws (codes "--serial")) (sym e)
    ((λ is. absurd (not_false (sym flag_of-none ∙ is))), (λ c. let below : c.0 < 0 = c.1 in absurd (omega arith)))
named words (inr (inl e)) = subst (λ ws. AreSerial ws ↔ Contains ws (codes "--serial")) (sym e)
    ((λ _. (0, omega arith, refl)), (λ _. flag_of-serial))
named words (inr (inr (inl e))) = subst (λ ws. AreSerial ws ↔ Contains ws (codes "--serial")) (sym e)
    ((λ is. absurd (not_false (sym flag_of-dashes ∙ is))), (λ c. absurd (dashes_lack c.0 c.1 c.2)))
named words (inr (inr (inr e))) = subst (λ ws. AreSerial ws ↔ Contains ws (codes "--serial")) (sym e)
    ((λ _. (0, omega arith, refl)), (λ _. flag_of-both))

pub AreSerial-Contains : (words : List Text) → AreReadable words → AreSerial words ↔ Contains words (codes "--serial")
AreSerial-Contains words readable = named words (taken-AreReadable words readable)
