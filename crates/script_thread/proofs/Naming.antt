-- The names of a thread, and the map that holds them.
use Rattle.std.proofs.Common.{◌≡◌, ℕ, ◌==◌, Bool, true, false, cond, List, [], ◌∷◌, find, map, Some, option_map, Result, Ok, Err, ◌++◌, refl, sym, ap, ◌∙◌}
use Rattle.std.proofs.lemmas.List.{append_assoc}
use Rattle.std.specs.Map.{lookup}
use Rattle.pk_base.specs.declared.tag.Tag.{Tag}
use Rattle.pk_base.specs.declared.entity.Name.{Name}
use Rattle.std.specs.Cmp.Lexicographic.{pointwise}
use Rattle.indexmap.specs.IndexMap.{insert_entry}
use Rattle.pk_base.specs.Entity.{same_name}
use Rattle.pk_base.proofs.Same.{same_name-Decides}
use Rattle.script_text.specs.Walk.{bound_to, onto_tags}
use Rattle.script_thread.specs.Thread.{bind_tags}
use Rattle.script_thread.specs.Names.{named}

-- a name is bound among the names as its bytes are in the map
pub named-insert : (es : List (List ℕ × List Tag)) (name : Name) (tags : List Tag) → map named (insert_entry (pointwise ◌==◌) es name.0 tags) ≡ bind_tags (map named es) name tags
named-insert [] name tags = refl
named-insert (e ∷ es) name tags =
    elim (pointwise ◌==◌ name.0 e.0) as (λ b. map named (cond b ((e.0, tags) ∷ es) (e ∷ insert_entry (pointwise ◌==◌) es name.0 tags)) ≡ cond b (((named e).0, tags) ∷ map named es) (named e ∷ bind_tags (map named es) name tags)) [
      | true ↦ refl
      | false ↦ ap (λ bs. named e ∷ bs) (named-insert es name tags)
    ]

-- two tests, each true where the other is, are equal
same_truth : (b c : Bool) → (b ≡ true → c ≡ true) → (c ≡ true → b ≡ true) → b ≡ c
same_truth true c f g = sym (f refl)
same_truth false true f g = g refl
same_truth false false f g = refl

-- names are the same either way round
same_either : (a b : Name) → same_name a b ≡ same_name b a
same_either a b =
    let one = same_name-Decides a b in
    let other = same_name-Decides b a in
    same_truth (same_name a b) (same_name b a) (λ e. other.1 (sym (one.0 e))) (λ e. one.1 (sym (other.0 e)))

-- what a name is bound to is found by its bytes
pub found_bound : (es : List (List ℕ × List Tag)) (name : Name) → lookup (pointwise ◌==◌ name.0) es ≡ bound_to (map named es) name
found_bound [] name = refl
found_bound (e ∷ es) name =
    let same = same_either name (named e).0 in
    ap (λ b. cond b (Some e.1) (lookup (pointwise ◌==◌ name.0) es)) same
    ∙ elim (same_name (named e).0 name) as (λ b. cond b (Some e.1) (lookup (pointwise ◌==◌ name.0) es) ≡ option_map (λ (x : Name × List Tag). x.1) (cond b (Some (named e)) (find (λ (x : Name × List Tag). same_name x.0 name) (map named es)))) [
      | true ↦ refl
      | false ↦ found_bound es name
    ]

-- tags that were read before others, or the operand that names none
abbrev pub tags_before : List Tag → Result (List Tag) ℕ → Result (List Tag) ℕ
tags_before ts (Ok more) = Ok (ts ++ more)
tags_before ts (Err i) = Err i

-- one tag more was read
pub tags_before-onto : (ts : List Tag) (i : ℕ) (t : Tag) (more : Result (List Tag) ℕ) → tags_before ts (onto_tags i (Some t) more) ≡ tags_before (ts ++ t ∷ []) more
tags_before-onto ts i t (Ok more) = ap Ok (sym (append_assoc ts (t ∷ []) more))
tags_before-onto ts i t (Err j) = refl
