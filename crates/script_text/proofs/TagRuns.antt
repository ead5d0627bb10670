-- The runs of a list of tags, found from the left.
use Rattle.std.proofs.Common.{◌≡◌, ℕ, ◌+◌, ◌==◌, Bool, true, false, if◌then◌else◌, List, [], ◌∷◌, ◌++◌, codes, refl, sym, ap, rules}
use Rattle.std.specs.List.{flat_map}
use Rattle.std.proofs.lemmas.Bool.{eq-eqb, ne_eqb}
use Rattle.pk_base.specs.declared.tag.Tag.{Tag}
use Rattle.script_text.specs.Text.{Span, runs, run_field, runs_field, tags_field}

-- the run from first to last
abbrev span : ℕ → ℕ → Span
span first last = record { first = first; last = last }

-- a run, and the runs after it, which it may join
abbrev onto : ℕ → ℕ → List Span → List Span
onto first last [] = span first last ∷ []
onto first last (r ∷ rs) = if last + 1 == r.first then span first r.last ∷ rs else span first last ∷ r ∷ rs

-- the fields of a list of tags whose front is the run from first to last, and whose rest is ts
pub tags_from : ℕ → ℕ → List Tag → List ℕ
tags_from first last ts = flat_map run_field (onto first last (runs ts))

runs_field-onto : (first last : ℕ) (rs : List Span) → runs_field (onto first last rs) ≡ flat_map run_field (onto first last rs)
runs_field-onto first last [] = refl
runs_field-onto first last (r ∷ rs) =
    let chosen : Bool → List Span = λ v. if v then span first r.last ∷ rs else span first last ∷ r ∷ rs in
    elim (last + 1 == r.first) as (λ v. runs_field (chosen v) ≡ flat_map run_field (chosen v)) [ true ↦ refl | false ↦ refl ]

onto-joins : (first last n : ℕ) (rs : List Span) → (last + 1 == n) ≡ true → onto first last (onto n n rs) ≡ onto first n rs
onto-joins first last n [] e = rw e refl
onto-joins first last n (r ∷ rs) e =
    elim (n + 1 == r.first) as (λ v. onto first last (if v then span n r.last ∷ rs else span n n ∷ r ∷ rs) ≡ (if v then span first r.last ∷ rs else span first n ∷ r ∷ rs)) [ true ↦ rw e refl | false ↦ rw e refl ]

onto-parts : (first last n : ℕ) (rs : List Span) → (last + 1 == n) ≡ false → onto first last (onto n n rs) ≡ span first last ∷ onto n n rs
onto-parts first last n [] e = rw e refl
onto-parts first last n (r ∷ rs) e =
    elim (n + 1 == r.first) as (λ v. onto first last (if v then span n r.last ∷ rs else span n n ∷ r ∷ rs) ≡ span first last ∷ (if v then span n r.last ∷ rs else span n n ∷ r ∷ rs)) [ true ↦ rw e refl | false ↦ rw e refl ]

-- a list begins with the run of its first tag alone
pub tags_from-start : (t : Tag) (ts : List Tag) → tags_from t.0 t.0 ts ≡ tags_field (t ∷ ts)
unfolding tags_from tags_field
tags_from-start t ts = sym (runs_field-onto t.0 t.0 (runs ts))

pub tags_from-end : (first last : ℕ) → tags_from first last [] ≡ run_field (record { first = first; last = last })
unfolding tags_from
tags_from-end first last = search rules

-- one more than the last goes on with the run
pub tags_from-joins : (first last : ℕ) (t : Tag) (ts : List Tag) → last + 1 ≡ t.0 → tags_from first last (t ∷ ts) ≡ tags_from first t.0 ts
unfolding tags_from
tags_from-joins first last t ts e = ap (flat_map run_field) (onto-joins first last t.0 (runs ts) (eq-eqb _ _ e))

-- any other tag begins the next run
pub tags_from-parts : (first last : ℕ) (t : Tag) (ts : List Tag) → (last + 1 ≡ t.0 → ⊥) → tags_from first last (t ∷ ts) ≡ run_field (record { first = first; last = last }) ++ tags_from t.0 t.0 ts
unfolding tags_from
tags_from-parts first last t ts e = ap (flat_map run_field) (onto-parts first last t.0 (runs ts) (ne_eqb _ _ e))

-- no tags
pub tags_field-none : tags_field [] ≡ codes " -"
unfolding tags_field
tags_field-none = refl
