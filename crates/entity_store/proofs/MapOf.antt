-- The map of the slots: what it has at a tag, and what it is after a write and after a new block.
use Rattle.std.proofs.Common.{◌≡◌, ◌≢◌, ℕ, zero, suc, ◌+◌, ◌*◌, ◌<◌, ◌≤◌, Bool, true, false, cond, is_some, append-nil, List, [], ◌∷◌, ◌++◌, length, replicate, get_or, set, Option, None, Some, Contains, refl, sym, ap, ◌∙◌, arith}
use Rattle.std.specs.Ordering.{eq_by_cmp}
use Rattle.std.specs.FinMap.{empty, get, len, find, from_entries, get-from_entries, get-insert, get-remove, same_map, len-insert, len-empty}
use Rattle.pk_base.specs.declared.tag.Tag.{Tag}
use Rattle.pk_base.specs.declared.entity.Entity.{Entity}
use Rattle.pk_base.specs.Blocks.{tag}
use Rattle.pk_model.specs.Tags.{tag_at, tags_of, owns, Ascends}
use Rattle.pk_model.specs.Maps.{tag_cmp, with_entity}
use Rattle.pk_model.proofs.TagLists.{tag_total, tag_antisymmetric, length-tags_of, tags_of-nil, tags_of-append, NoRepeats-tags_of, Contains-owns}
use Rattle.list_facts.proofs.Each.{ByRecursion-contains}
use Rattle.entity_store.specs.Store.{live_entries, map_of}
use Rattle.entity_store.proofs.Slots.{find_missing, find_slot, find_written}

pub map_of-nil : map_of [] [] ≡ empty
unfolding map_of
map_of-nil = ap (λ ts. from_entries (live_entries ts [])) tags_of-nil

-- what the map has at any tag is what is found among the slots
get-map_of : (blocks : List ℕ) (slots : List (Option Entity)) (q : Tag) → get (map_of blocks slots) q ≡ find tag_cmp q (live_entries (tags_of blocks) slots)
unfolding map_of
get-map_of blocks slots q = get-from_entries tag_total (live_entries (tags_of blocks) slots) q

module _ (blocks : List ℕ) (slots : List (Option Entity)) (ascends : Ascends blocks) (places : length slots ≡ 64 * length blocks) where
  as_many : length slots ≡ length (tags_of blocks)
  as_many = places ∙ sym (length-tags_of blocks)

  pub get-map_of_slot : (i : ℕ) → i < 64 * length blocks → get (map_of blocks slots) (tag_at (tags_of blocks) i) ≡ get_or slots i None
  get-map_of_slot i h = get-map_of blocks slots (tag_at (tags_of blocks) i) ∙ find_slot (tags_of blocks) slots i (tag 0) (NoRepeats-tags_of blocks ascends) as_many (omega (arith, length-tags_of blocks))

  pub get-map_of_other : (q : Tag) → owns blocks q ≡ false → get (map_of blocks slots) q ≡ None
  get-map_of_other q h =
      let apart : (u : Tag) → Contains (tags_of blocks) u → q ≢ u = λ u c e. cc (h, Contains-owns blocks u c, ap (owns blocks) e) in
      get-map_of blocks slots q ∙ find_missing q (tags_of blocks) slots (ByRecursion-contains (λ u. q ≢ u) (tags_of blocks) apart)

  get_written : (i : ℕ) (to : Option Entity) (q : Tag) → i < 64 * length blocks → get (map_of blocks (set slots i to)) q ≡ cond (eq_by_cmp tag_cmp q (tag_at (tags_of blocks) i)) to (get (map_of blocks slots) q)
  get_written i to q h =
      let t = tag_at (tags_of blocks) i in
      get-map_of blocks (set slots i to) q
      ∙ find_written q (tags_of blocks) slots i to (tag 0) (NoRepeats-tags_of blocks ascends) as_many (omega (arith, length-tags_of blocks))
      ∙ ap (cond (eq_by_cmp tag_cmp q t) to) (sym (get-map_of blocks slots q))

  -- a write to a slot is one to its tag
  pub map_of-written : (i : ℕ) (to : Option Entity) → i < 64 * length blocks → map_of blocks (set slots i to) ≡ with_entity (map_of blocks slots) (tag_at (tags_of blocks) i) to
  map_of-written i None h = same_map tag_total tag_antisymmetric _ _ (λ q. get_written i None q h ∙ sym (get-remove tag_total (map_of blocks slots) (tag_at (tags_of blocks) i) q))
  map_of-written i (Some e) h = same_map tag_total tag_antisymmetric _ _ (λ q. get_written i (Some e) q h ∙ sym (get-insert tag_total (map_of blocks slots) (tag_at (tags_of blocks) i) e q))

live_entries-append : (ts us : List Tag) (slots more : List (Option Entity)) → length slots ≡ length ts → live_entries (ts ++ us) (slots ++ more) ≡ live_entries ts slots ++ live_entries us more
live_entries-append [] us [] more l = refl
live_entries-append [] us (s ∷ slots) more l = absurd (omega arith)
live_entries-append (t ∷ ts) us [] more l = absurd (omega arith)
live_entries-append (t ∷ ts) us (None ∷ slots) more l = live_entries-append ts us slots more (omega arith)
live_entries-append (t ∷ ts) us (Some e ∷ slots) more l = ap (λ es. (t, e) ∷ es) (live_entries-append ts us slots more (omega arith))

live_entries-none : (ts : List Tag) (n : ℕ) → live_entries ts (replicate n None) ≡ []
live_entries-none [] n = refl
live_entries-none (t ∷ ts) zero = refl
live_entries-none (t ∷ ts) (suc n) = live_entries-none ts n

-- a new block has no entity
pub map_of-block : (blocks : List ℕ) (slots : List (Option Entity)) (b n : ℕ) → length slots ≡ 64 * length blocks → map_of (blocks ++ b ∷ []) (slots ++ replicate n None) ≡ map_of blocks slots
unfolding map_of
map_of-block blocks slots b n places =
    let ts = tags_of blocks in
    let us = tags_of (b ∷ []) in
    ap from_entries (
    ap (λ all. live_entries all (slots ++ replicate n None)) (tags_of-append blocks (b ∷ []))
    ∙ live_entries-append ts us slots (replicate n None) (places ∙ sym (length-tags_of blocks))
    ∙ ap (λ es. live_entries ts slots ++ es) (live_entries-none us n)
    ∙ append-nil (live_entries ts slots))

cond_at_most : (b : Bool) (x : ℕ) → cond b x (x + 1) ≤ x + 1
cond_at_most true x = omega arith
cond_at_most false x = omega arith

len_from_entries : (es : List (Tag × Entity)) → len (from_entries {R = tag_cmp} es) ≤ length es
len_from_entries [] = omega (arith, len-empty tag_cmp Entity)
len_from_entries (e ∷ es) = omega (arith, len-insert tag_total (from_entries {R = tag_cmp} es) e.0 e.1, cond_at_most (is_some (get (from_entries {R = tag_cmp} es) e.0)) (len (from_entries {R = tag_cmp} es)), len_from_entries es)

length-live_entries : (ts : List Tag) (slots : List (Option Entity)) → length (live_entries ts slots) ≤ length slots
length-live_entries [] slots = omega arith
length-live_entries (t ∷ ts) [] = omega arith
length-live_entries (t ∷ ts) (None ∷ slots) = omega (arith, length-live_entries ts slots)
length-live_entries (t ∷ ts) (Some e ∷ slots) = omega (arith, length-live_entries ts slots)

-- no more entities than slots
pub len-map_of : (blocks : List ℕ) (slots : List (Option Entity)) → len (map_of blocks slots) ≤ length slots
unfolding map_of
len-map_of blocks slots = omega (arith, len_from_entries (live_entries (tags_of blocks) slots), length-live_entries (tags_of blocks) slots)
