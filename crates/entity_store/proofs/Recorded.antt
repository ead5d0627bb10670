-- How the first values are kept by the numbers of the tags: what is found, and what stays after one more.
use Rattle.std.proofs.Common.{◌≡◌, ◌≢◌, ℕ, ◌+◌, ◌<◌, ◌≤◌, ◌==◌, ◌||◌, nat_lt, true, false, cond, is_some, List, [], ◌∷◌, ◌++◌, length, Option, Some, refl, sym, ap, ◌∙◌, arith, length-append}
use Rattle.std.specs.List.{AllByRecursion, IsDistinct}
use Rattle.std.specs.Map.{keys_of, lookup}
use Rattle.std.proofs.lemmas.Bool.{eqb-true, eq-eqb, ltb-true, true≢false}
use Rattle.std.proofs.lemmas.Bool.Decides.{Decides-eqb}
use Rattle.std.specs.Bool.{one_answer}
use Rattle.pk_base.specs.Blocks.{tag}
use Rattle.pk_base.specs.declared.tag.Tag.{Tag}
use Rattle.pk_base.specs.declared.entity.Entity.{Entity}
use Rattle.pk_model.specs.Apart.{NoRepeats}
use Rattle.entity_store.specs.declared.changes.Change.{Change}
use Rattle.entity_store.specs.Recording.{Recording, has_put, first_values, HasRoomFor, IsRecording}
use Rattle.entity_store.proofs.FirstValues.{tags_put}

abbrev pub Entries : Type 0
Entries = List (ℕ × Option Entity)

flipped : (a b : ℕ) → (a == b) ≡ (b == a)
flipped a b = one_answer (a == b) (b == a) (Decides-eqb a b) (λ h. sym (eqb-true b a h), λ e. eq-eqb b a (sym e))

-- a tag is found by its number exactly where it was put
pub has_put-found : (es : Entries) (t : Tag) → is_some (lookup (λ k. t.0 == k) es) ≡ has_put (first_values es) t
has_put-found [] t = refl
has_put-found (e ∷ es) t =
    let rest = has_put-found es t in
    elim (t.0 == e.0) as (λ b. is_some (cond b (Some e.1) (lookup (λ k. t.0 == k) es)) ≡ (b || has_put (first_values es) t)) [
      | true ↦ refl
      | false ↦ rest
    ]
    ∙ ap (λ b. b || has_put (first_values es) t) (flipped t.0 e.0)

pub length-first_values : (es : Entries) → length (first_values es) ≡ length es
length-first_values [] = refl
length-first_values (e ∷ es) = omega (arith, length-first_values es)

pub first_values-push : (es : Entries) (t : Tag) (before : Option Entity) → first_values (es ++ (t.0, before) ∷ []) ≡ first_values es ++ (t, before) ∷ []
first_values-push [] t before = refl
first_values-push (e ∷ es) t before = ap (λ ps. (tag e.0, e.1) ∷ ps) (first_values-push es t before)

apart_tags : (n : ℕ) (es : Entries) → AllByRecursion (λ k. (n == k) ≡ false) (keys_of es) → AllByRecursion (λ u. tag n ≢ u) (tags_put (first_values es))
apart_tags n [] h = tt
apart_tags n (e ∷ es) h = (λ s. true≢false (sym (eq-eqb n e.0 (ap (λ (t : Tag). t.0) s)) ∙ h.0), apart_tags n es h.1)

-- keys of which none stands twice are the numbers of such tags
pub NoRepeats-first_values : (es : Entries) → IsDistinct ◌==◌ (keys_of es) → NoRepeats (tags_put (first_values es))
unfolding IsDistinct
NoRepeats-first_values [] h = tt
NoRepeats-first_values (e ∷ es) h = (apart_tags e.0 es h.0, NoRepeats-first_values es h.1)

-- where a tag was not put, there is room for it
pub room_for_more : (r : Recording) (t : Tag) → HasRoomFor r t → has_put r.first t ≡ false → length r.first < r.room
room_for_more r t h absent = ltb-true _ _ (sym (ap (λ b. b || nat_lt (length r.first) r.room) absent) ∙ h)

-- one more is recorded
pub IsRecording-more : (room : ℕ) (es fs : Entries) (more more' : ℕ) (t : Tag) (before : Option Entity) (changes : List Change) (capacity : ℕ)
    → IsRecording room es more changes capacity → length es < room → fs ≡ es ++ (t.0, before) ∷ [] → more ≤ more' + 1 → IsDistinct ◌==◌ (keys_of fs) → IsRecording room fs more' changes capacity
IsRecording-more room es fs more more' t before changes capacity h l e s u =
    let longer : length fs ≡ length es + 1 = ap length e ∙ length-append es ((t.0, before) ∷ []) in
    record {
      once = NoRepeats-first_values fs u;
      within = omega (arith, longer, l);
      enough = omega (arith, longer, s, h.enough);
      none_yet = h.none_yet;
      ready = h.ready;
    }
