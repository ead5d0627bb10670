use Rattle.std.proofs.Common.{◌≡◌, ◌∙◌, ◌∷◌, [], Result, Err, map, codes, inl, inr, sym, ap, ap₂}
use Rattle.clap.specs.Words.{IsAmong, Kinds, fault_of, found_of, is_simple, is_simple_and_free, matches_of, one_of}
use Rattle.clap.specs.declared.error.kind.ErrorKind.{ErrorKind}
use Rattle.clap.proofs.WalkLemmas.{one_text-rows}
use Rattle.session_words.specs.Words.{AreReadable}
use Rattle.session_words.proofs.Flags.{AreSerial-flag}
use Rattle.session_words.proofs.Taken.{is_simple-the_app, is_simple_and_free-the_app}
use Rattle.session_words.proofs.reading.read_words.Goals as goal

none_among : (k : ErrorKind) (ks : Kinds) → ks ≡ [] → IsAmong k ks → ⊥
none_among k [] none among = among
none_among k (x ∷ xs) none among = cc

inner : {T E : Type 0} (x y : E) → ◌≡◌ {A = Result T E} (Err x) (Err y) → x ≡ y
inner x y e = cc

pub returns-in-Ok-clause-readable : goal.returns-in-Ok-clause-readable
unfolding AreReadable
returns-in-Ok-clause-readable c =
    let app = c.in_ok-command.ensures in
    let words = ap (map (λ word. word.now)) c.as_slice.ensures.value ∙ c.in_ok-all.ensures in
    sym (ap₂ fault_of app words) ∙ c.in-Ok.ensures.kinds (ap is_simple_and_free app ∙ is_simple_and_free-the_app)

pub returns-in-Ok-clause-serial : goal.returns-in-Ok-clause-serial
returns-in-Ok-clause-serial c =
    let app = c.in_ok-command.ensures in
    let words = ap (map (λ word. word.now)) c.as_slice.ensures.value ∙ c.in_ok-all.ensures in
    let readable = returns-in-Ok-clause-readable c in
    let text = one_text-rows (found_of c.in-Ok.matches) (codes "serial") ∙ ap (one_of (codes "serial")) ((c.in-Ok.ensures.matches (ap is_simple app ∙ is_simple-the_app)).0 ∙ ap₂ matches_of app words) in
    AreSerial-flag _ _ readable (λ is. c.get_flag.ensures.value (text ∙ is)) (λ is. c.get_flag.ensures.other (text ∙ is))

pub returns-clause-bad : goal.returns-clause-bad
unfolding AreReadable
returns-clause-bad c = λ is_bad readable.
    let app = c.in_ok-command.ensures in
    let words = ap (map (λ word. word.now)) c.as_slice.ensures.value ∙ c.in_ok-all.ensures in
    let none = ap₂ fault_of app words ∙ readable in
    elim (c.in-Err.ensures.kinds (ap is_simple_and_free app ∙ is_simple_and_free-the_app)) [
      | inl memory ↦ c.refusal_of.ensures.0 (inner _ _ is_bad) (c.kind.ensures ∙ memory)
      | inr among ↦ none_among _ _ none among
    ]
