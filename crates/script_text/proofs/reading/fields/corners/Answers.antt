use Rattle.std.proofs.Common.{◌+◌, ◌++◌, ◌∷◌, [], drop, ap, sym, ◌∙◌}
use Rattle.std.proofs.lemmas.List.{drop-drop, take_rest}
use Rattle.script_text.specs.FieldWords.{corners_after}
use Rattle.script_text.specs.Reading.{first_corner, words_now}
use Rattle.script_text.proofs.Corners.{corners_step}
use Rattle.script_text.proofs.reading.fields.corners.Goals as goal

pub loop-i-preserved : goal.loop-i-preserved
loop-i-preserved c =
    let before = c.loop-i.corners.items in
    let i = c.loop-i.i in
    let words = c.args.words.now in
    let p = c.in_ok-first_corner.field-0 in
    let left = drop i words in
    let step = corners_step before left p (ap (λ ws. first_corner (words_now ws)) (sym (take_rest words i)) ∙ sym c.first_corner.ensures ∙ c.in_ok-first_corner.was) in
    let two = ap (λ ws. corners_after (before ++ p ∷ []) (words_now ws)) (drop-drop 2 i words) in
    ap (λ l. corners_after l (words_now (drop (i + 2) words))) c.in_ok-push.ensures.items ∙ sym two ∙ sym step ∙ c.loop-i.invariant
