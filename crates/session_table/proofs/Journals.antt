-- The entries of one seat in a journal that grows.
use Rattle.std.proofs.Common.{◌≡◌, ◌≢◌, ℕ, Bool, cond, ap, sym, refl, ◌∙◌, List, [], ◌∷◌, ◌++◌, append_assoc, eq-eqb, ne_eqb}
use Rattle.std.specs.Prelude.{◌==◌}
use Rattle.std.proofs.lemmas.List.Elements.{filter-append}
use Rattle.pk_base.specs.declared.act.Entry.{Entry}
use Rattle.session_table.specs.Entries.{thread_of, only, AreAll, StartsWith, Continues}

pub only-append : (s : ℕ) (xs ys : List Entry) → only s (xs ++ ys) ≡ only s xs ++ only s ys
only-append s xs ys = filter-append (λ e. thread_of e == s) xs ys

pub only_own : (s : ℕ) (es : List Entry) → AreAll s es → only s es ≡ es
only_own s [] h = refl
only_own s (e ∷ es) h = ap (λ (b : Bool). cond b (e ∷ only s es) (only s es)) (eq-eqb (thread_of e) s h.0) ∙ ap (λ (r : List Entry). e ∷ r) (only_own s es h.1)

pub only_other : (s t : ℕ) (es : List Entry) → AreAll s es → t ≢ s → only t es ≡ []
only_other s t [] h ne = refl
only_other s t (e ∷ es) h ne =
    ap (λ (b : Bool). cond b (e ∷ only t es) (only t es)) (ne_eqb (thread_of e) t (λ q. ne (sym q ∙ h.0))) ∙ only_other s t es h.1 ne

append_none : (xs : List Entry) → xs ++ [] ≡ xs
append_none [] = refl
append_none (x ∷ xs) = ap (λ (r : List Entry). x ∷ r) (append_none xs)

-- what others did stands where one seat goes on
pub continues_others : (s t : ℕ) (earlier journal : List Entry) → Continues s earlier journal → t ≢ s → only t journal ≡ only t earlier
continues_others s t earlier journal (own, is, all) ne =
    ap (only t) is ∙ only-append t earlier own ∙ ap (λ (r : List Entry). only t earlier ++ r) (only_other s t own all ne) ∙ append_none (only t earlier)

pub continues_starts : (s : ℕ) (earlier journal : List Entry) → Continues s earlier journal → StartsWith journal earlier
continues_starts s earlier journal (own, is, all) = (own, is)

pub starts_itself : (xs : List Entry) → StartsWith xs xs
starts_itself xs = ([], sym (append_none xs))

pub starts_along : (xs ys zs : List Entry) → StartsWith zs ys → StartsWith ys xs → StartsWith zs xs
starts_along xs ys zs (more, is) (some_more, was) = (some_more ++ more, is ∙ ap (λ (r : List Entry). r ++ more) was ∙ append_assoc xs some_more more)

pub continues_itself : (s : ℕ) (journal : List Entry) → Continues s journal journal
continues_itself s journal = ([], sym (append_none journal), tt)
