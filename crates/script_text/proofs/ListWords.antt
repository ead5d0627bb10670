-- The words of the lists of a reply, and how they are read back.
use Rattle.std.proofs.Common.{◌≡◌, ℕ, ◌≤◌, ◌==◌, true, if◌then◌else◌, List, [], ◌∷◌, ◌++◌, map, get_or, Option, None, Some, codes, decimal, refl, sym, ap, ◌∙◌, append-nil, append_assoc, arith, subst}
use Rattle.std.proofs.lemmas.Bool.{ne_eqb}
use Rattle.std.proofs.lemmas.List.{map-append}
use Rattle.std.proofs.lemmas.List.Folds.{list_all-append}
use Rattle.std.specs.Cmp.Derive.{both_true}
use Rattle.std.specs.List.{flat_map, list_all, AllByRecursion}
use Rattle.pk_base.specs.Blocks.{tag}
use Rattle.pk_base.specs.declared.tag.Tag.{Tag}
use Rattle.pk_base.specs.declared.list.Lists.{Lists}
use Rattle.pk_base.specs.declared.list.MarkRow.{MarkRow}
use Rattle.script_text.specs.Printable.{IsNumber, IsOptionalMark, IsRow, AreLists}
use Rattle.script_text.specs.Text.{number, lists_fields, row_field, parent_number}
use Rattle.script_text.proofs.Cutting.{cut, cut-more, cut-last, and_first, and_second}
use Rattle.script_text.proofs.Decimals.{number_in, number_in-decimal}
use Rattle.script_text.proofs.Spelling.{Spells, Told, fixed, spells-none, spells-append, spells-word, is_inner, decimal_word}
use Rattle.script_text.proofs.TagWords.{numbers_of_word, is_low, decimal_lacks, tags_in, tag_words}

-- ---- lists, each behind its word

-- the tags before the first word that begins with a letter, and those behind each such word
abbrev Parts : Type 0
Parts = List Tag × List (List Tag)

abbrev onto_parts : List ℕ → Parts → Parts
onto_parts w s = if is_low w then (map tag (numbers_of_word w) ++ s.0, s.1) else ([], s.0 ∷ s.1)

abbrev parts : List (List ℕ) → Parts
parts [] = ([], [])
parts (w ∷ ws) = onto_parts w (parts ws)

parts-low : (ws after : List (List ℕ)) → list_all is_low ws ≡ true → parts (ws ++ after) ≡ (tags_in ws ++ (parts after).0, (parts after).1)
parts-low [] after h = refl
parts-low (w ∷ ws) after h =
    let more = parts after in
    ap (onto_parts w) (parts-low ws after (and_second _ _ h))
    ∙ ap (λ t. if t then (map tag (numbers_of_word w) ++ (tags_in ws ++ more.0), more.1) else ([], (tags_in ws ++ more.0) ∷ more.1)) (and_first _ _ h)
    ∙ ap (λ l. (l, more.1)) (sym (append_assoc (map tag (numbers_of_word w)) (tags_in ws) more.0) ∙ ap (λ l. l ++ more.0) (sym (map-append tag (numbers_of_word w) (flat_map numbers_of_word ws))))

abbrev lists_from : List (List Tag) → Lists
lists_from groups = record { fresh = get_or groups 0 []; gone = get_or groups 1 []; changed = get_or groups 2 [] }

abbrev pub lists_in : List (List ℕ) → Lists
lists_in ws = lists_from (parts ws).1

-- the tags behind a word, and the next groups
abbrev grouped : Parts → List (List Tag)
grouped s = s.0 ∷ s.1

regrouped : (x y z : List ℕ) (f g c : List (List ℕ)) → (x ∷ []) ++ f ++ y ∷ [] ++ g ++ z ∷ [] ++ c ≡ x ∷ (f ++ (y ∷ (g ++ (z ∷ (c ++ [])))))
regrouped x y z f g c = simp (append_assoc, append-nil)

pub lists_told : (l : Lists) → AreLists l → Told (lists_fields l) lists_in l
lists_told l h =
    let f = tag_words l.fresh h.fresh in
    let g = tag_words l.gone h.gone in
    let c = tag_words l.changed h.changed in
    let fresh = append-nil (tags_in f.words) ∙ f.reads in
    let gone = append-nil (tags_in g.words) ∙ g.reads in
    let changed = append-nil (tags_in c.words) ∙ c.reads in
    let behind_c = parts-low c.words [] c.low in
    let behind_g = parts-low g.words (codes "changed" ∷ (c.words ++ [])) g.low in
    let behind_f = parts-low f.words (codes "gone" ∷ (g.words ++ (codes "changed" ∷ (c.words ++ [])))) f.low in
    record {
      words = (((((codes "fresh" ∷ []) ++ f.words) ++ (codes "gone" ∷ [])) ++ g.words) ++ (codes "changed" ∷ [])) ++ c.words;
      spells = spells-append (spells-append (spells-append (spells-append (spells-append (fixed (codes "fresh" ∷ []) refl) f.spells)
          (fixed (codes "gone" ∷ []) refl)) g.spells)
          (fixed (codes "changed" ∷ []) refl)) c.spells;
      reads = ap lists_in (regrouped (codes "fresh") (codes "gone") (codes "changed") f.words g.words c.words)
          ∙ ap (λ s. lists_from (grouped s)) behind_f
          ∙ ap (λ s. lists_from ((tags_in f.words ++ []) ∷ grouped s)) behind_g
          ∙ ap (λ s. lists_from ((tags_in f.words ++ []) ∷ (tags_in g.words ++ []) ∷ grouped s)) behind_c
          ∙ (λ i. record { fresh = fresh i; gone = gone i; changed = changed i });
    }

-- ---- rows

abbrev row_word : MarkRow → List ℕ
row_word r = decimal r.tag.0 ++ 47 ∷ decimal (parent_number r.parent)

abbrev parent_in : ℕ → Option Tag
parent_in n = if n == 0 then None else Some (tag n)

abbrev row_of : List (List ℕ) → MarkRow
row_of [] = record { tag = tag 0; parent = None }
row_of (a ∷ []) = record { tag = tag 0; parent = None }
row_of (a ∷ b ∷ more) = record { tag = tag (number_in a); parent = parent_in (number_in b) }

abbrev pub row_in : List ℕ → MarkRow
row_in w = row_of (cut 47 w)

parent_small : (p : Option Tag) → IsOptionalMark p → IsNumber (parent_number p)
parent_small None h = omega arith
parent_small (Some t) h = h.1

parent_back : (p : Option Tag) → IsOptionalMark p → parent_in (parent_number p) ≡ p
parent_back None h = refl
parent_back (Some t) h = let low : 64 ≤ t.0 = h.0 in ap (λ b. if b then None else Some (tag t.0)) (ne_eqb t.0 0 (λ e. omega arith))

row_back : (r : MarkRow) → IsRow r → row_in (row_word r) ≡ r
row_back r h =
    let a = decimal r.tag.0 in
    let b = decimal (parent_number r.parent) in
    ap row_of (cut-more 47 a b (decimal_lacks 47 r.tag.0 refl) ∙ ap (λ l. a ∷ l) (cut-last 47 b (decimal_lacks 47 (parent_number r.parent) refl)))
    ∙ (λ i. record { tag = tag (number_in-decimal r.tag.0 h.0.1 i); parent = parent_in (number_in-decimal (parent_number r.parent) (parent_small r.parent h.1) i) })
    ∙ ap (λ p. record { tag = r.tag; parent = p }) (parent_back r.parent h.1)

spells-row : (r : MarkRow) → Spells (row_field r) (row_word r ∷ [])
spells-row r =
    let a = decimal r.tag.0 in
    let b = decimal (parent_number r.parent) in
    subst (λ l. Spells l (row_word r ∷ [])) (sym (append_assoc (number r.tag.0) (codes "/") b))
    (spells-word (row_word r) (list_all-append is_inner a (47 ∷ b) ∙ both_true (decimal_word r.tag.0) (decimal_word (parent_number r.parent))))

pub rows_told : (rows : List MarkRow) → AllByRecursion IsRow rows → Told (flat_map row_field rows) (map row_in) rows
rows_told [] h = record { words = []; spells = spells-none; reads = refl }
rows_told (r ∷ rows) h =
    let more = rows_told rows h.1 in
    record {
      words = row_word r ∷ more.words;
      spells = spells-append (spells-row r) more.spells;
      reads = λ i. row_back r h.0 i ∷ more.reads i;
    }
