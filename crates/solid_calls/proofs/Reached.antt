-- When a map is the one of a shape in which items were written, and others killed.
use Rattle.std.proofs.Common.{◌≡◌, ⊎_elim, Bool, true, false, List, Some, None, refl, sym, ap, subst, ◌∙◌}
use Rattle.std.specs.Prelude.{not, Contains}
use Rattle.std.specs.List.{AllByRecursion}
use Rattle.std.specs.FinMap.{get}
use Rattle.std.proofs.lemmas.Bool.{cases_Bool}
use Rattle.std.proofs.lemmas.Option.{same_Some}
use Rattle.pk_base.specs.declared.tag.Tag.{Tag}
use Rattle.pk_model.specs.Maps.{EntityMap}
use Rattle.pk_model.specs.Apart.{NoRepeats}
use Rattle.list_facts.proofs.Each.{ByRecursion-at}
use Rattle.solid_model.specs.Items.{Item, Shape, item_at, ◌with◌}
use Rattle.solid_model.specs.Deaths.{dies_with, ◌without◌}
use Rattle.solid_model.specs.Links.{links}
use Rattle.pk_model.proofs.TagLists.{NoneOf}
use Rattle.solid_sound.proofs.shapes.Found.{none_or_some}
use Rattle.solid_sound.proofs.shapes.Lookups.{Items, tags_in, with-sorted, with-other, with-written, is_written, filter-kept, filter-was}
use Rattle.solid_sound.proofs.rows.RowKeeps.{IsWell}
use Rattle.solid_calls.proofs.Represented.{Shows, Represents, represented}

-- the tag is none of those that are written
abbrev pub IsUnwritten : Items → Tag → Type 0
IsUnwritten xs t = NoneOf t (tags_in xs)

-- ---- items are written

-- The map n shows the items that were written, and those of S that were not, and has no other.
pub record ShowsWritten (S : Shape) (m n : EntityMap) (xs : Items) : Type 0 where
  pub news : (t : Tag) (x : Item) → Contains xs (t, x) → Shows (S with xs) n t x
  pub stays : (t : Tag) (x : Item) → item_at S t ≡ Some x → IsUnwritten xs t → Shows S m t x → Shows (S with xs) n t x
  pub nothing : (t : Tag) → item_at S t ≡ None → IsUnwritten xs t → get m t ≡ None → get n t ≡ None

-- such a map is that of the shape
pub represented-written : (S : Shape) (m n : EntityMap) (xs : Items) → Represents S m → NoRepeats (tags_in xs) → IsWell (S with xs) → ShowsWritten S m n xs → n ≡ links (S with xs)
represented-written S m n xs shown once well h = represented (S with xs) n well (record { items = items; nothing = nothing })
  where
    items : (t : Tag) (x : Item) → item_at (S with xs) t ≡ Some x → Shows (S with xs) n t x
    items t x is =
        ⊎_elim {C = Shows (S with xs) n t x}
        (λ (w : (y : Item) × Contains xs (t, y)).
        let same : w.0 ≡ x = same_Some w.0 x (sym (with-written S xs t w.0 once w.1) ∙ is) in
        subst (Shows (S with xs) n t) same (h.news t w.0 w.1))
        (λ (out : IsUnwritten xs t).
        let was : item_at S t ≡ Some x = sym (with-other S xs t out) ∙ is in
        h.stays t x was out (shown.items t x was))
        (is_written t xs)

    nothing : (t : Tag) → item_at (S with xs) t ≡ None → get n t ≡ None
    nothing t none =
        ⊎_elim {C = get n t ≡ None}
        (λ (w : (y : Item) × Contains xs (t, y)). let both : Some w.0 ≡ None = sym (with-written S xs t w.0 once w.1) ∙ none in absurd (cc))
        (λ (out : IsUnwritten xs t).
        let was : item_at S t ≡ None = sym (with-other S xs t out) ∙ none in
        h.nothing t was out (shown.nothing t was))
        (is_written t xs)

-- ---- and items are killed

-- The map n shows the items that were written, and those of S that neither were nor die, and has no
-- other.
pub record ShowsEdited (S : Shape) (m n : EntityMap) (xs : Items) (killed : List Tag) : Type 0 where
  pub news : (t : Tag) (x : Item) → Contains xs (t, x) → Shows (S with xs without killed) n t x
  pub stays : (t : Tag) (x : Item) → item_at S t ≡ Some x → IsUnwritten xs t → dies_with killed (t, x) ≡ false → Shows S m t x → Shows (S with xs without killed) n t x
  pub gone : (t : Tag) (x : Item) → item_at S t ≡ Some x → IsUnwritten xs t → dies_with killed (t, x) ≡ true → get n t ≡ None
  pub nothing : (t : Tag) → item_at S t ≡ None → IsUnwritten xs t → get m t ≡ None → get n t ≡ None

module _ (S : Shape) (xs : Items) (killed : List Tag) (well : IsWell S) (once : NoRepeats (tags_in xs)) (live : AllByRecursion (λ z. dies_with killed z ≡ false) xs) where
  news_live : (t : Tag) (x : Item) → Contains xs (t, x) → item_at (S with xs without killed) t ≡ Some x
  news_live t x k =
      filter-kept (λ z. not (dies_with killed z)) (S with xs) t x (with-written S xs t x once k)
      (ap not (ByRecursion-at (λ (z : Tag × Item). dies_with killed z ≡ false) xs (t, x) live k))

  stays_live : (t : Tag) (x : Item) → item_at S t ≡ Some x → IsUnwritten xs t → dies_with killed (t, x) ≡ false → item_at (S with xs without killed) t ≡ Some x
  stays_live t x is out lives = filter-kept (λ z. not (dies_with killed z)) (S with xs) t x (with-other S xs t out ∙ is) (ap not lives)

  was_live : (t : Tag) (x : Item) → item_at (S with xs without killed) t ≡ Some x → (item_at (S with xs) t ≡ Some x) × (dies_with killed (t, x) ≡ false)
  was_live t x is =
      let found = filter-was (λ z. not (dies_with killed z)) (S with xs) (with-sorted S xs well.written.ascends) t x is in
      (found.0, not_true (dies_with killed (t, x)) found.1)
    where
      not_true : (b : Bool) → not b ≡ true → b ≡ false
      not_true true k = absurd (cc)
      not_true false k = refl

  module _ (m n : EntityMap) (shown : Represents S m) (h : ShowsEdited S m n xs killed) where
    edited_items : (t : Tag) (x : Item) → item_at (S with xs without killed) t ≡ Some x → Shows (S with xs without killed) n t x
    edited_items t x is =
        let found = was_live t x is in
        ⊎_elim {C = Shows (S with xs without killed) n t x}
        (λ (w : (y : Item) × Contains xs (t, y)).
        let same : w.0 ≡ x = same_Some w.0 x (sym (with-written S xs t w.0 once w.1) ∙ found.0) in
        subst (Shows (S with xs without killed) n t) same (h.news t w.0 w.1))
        (λ (out : IsUnwritten xs t).
        let there : item_at S t ≡ Some x = sym (with-other S xs t out) ∙ found.0 in
        h.stays t x there out found.1 (shown.items t x there))
        (is_written t xs)

    edited_nothing : (t : Tag) → item_at (S with xs without killed) t ≡ None → get n t ≡ None
    edited_nothing t none =
        ⊎_elim {C = get n t ≡ None}
        (λ (w : (y : Item) × Contains xs (t, y)). let both : Some w.0 ≡ None = sym (news_live t w.0 w.1) ∙ none in absurd (cc))
        (λ (out : IsUnwritten xs t).
        ⊎_elim {C = get n t ≡ None} (λ (free : item_at S t ≡ None). h.nothing t free out (shown.nothing t free))
        (λ (some : (x : Item) × (item_at S t ≡ Some x)).
        ⊎_elim {C = get n t ≡ None} (λ (dead : dies_with killed (t, some.0) ≡ true). h.gone t some.0 some.1 out dead)
        (λ (lives : dies_with killed (t, some.0) ≡ false). let both : Some some.0 ≡ None = sym (stays_live t some.0 some.1 out lives) ∙ none in absurd (cc))
        (cases_Bool (dies_with killed (t, some.0))))
        (none_or_some (item_at S t)))
        (is_written t xs)

-- such a map is that of the shape
pub represented-edited : (S : Shape) (m n : EntityMap) (xs : Items) (killed : List Tag) → IsWell S → Represents S m → NoRepeats (tags_in xs)
    → AllByRecursion (λ z. dies_with killed z ≡ false) xs → IsWell (S with xs without killed) → ShowsEdited S m n xs killed → n ≡ links (S with xs without killed)
represented-edited S m n xs killed was_well shown once live well h =
    represented (S with xs without killed) n well (record {
      items = edited_items S xs killed was_well once live m n shown h;
      nothing = edited_nothing S xs killed was_well once live m n shown h;
    })
