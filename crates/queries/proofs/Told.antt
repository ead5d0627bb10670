-- The rows that tell: what they need, and what they tell.
use Rattle.std.proofs.Common.{◌≡◌, ℕ, ◌+◌, ◌≤◌, ⊎_elim, List, [], length, Some, None, Result, Ok, Err, refl, sym, ap, subst, ◌∙◌, arith}
use Rattle.std.specs.Prelude.{IsOk, option_map, IsPermutation}
use Rattle.std.specs.FinMap.{get, entries}
use Rattle.std.proofs.lemmas.List.{length-map}
use Rattle.std.proofs.lemmas.List.Sorted.{length_permutation}
use Rattle.std.proofs.lemmas.Option.{same_Some}
use Rattle.pk_base.specs.declared.tag.Tag.{Tag}
use Rattle.pk_base.specs.declared.entity.Entity.{Entity}
use Rattle.pk_base.specs.declared.act.Reply.{Reply}
use Rattle.pk_base.specs.declared.act.Reply.TheVariants.{Is, List as Listed}
use Rattle.pk_base.specs.declared.call.Call.{Call}
use Rattle.pk_base.specs.declared.call.Call.TheVariants.{Ask, Kids, Bodies}
use Rattle.pk_base.specs.declared.refusal.Refusal.{Refusal}
use Rattle.pk_base.specs.declared.refusal.Refusal.TheVariants.{NoSuchTag}
use Rattle.pk_model.specs.Maps.{EntityMap}
use Rattle.pk_model.specs.Step.{◌>>=◌}
use Rattle.entity_store.specs.Kids.{kids_of}
use Rattle.solid_model.specs.Items.{Item}
use Rattle.solid_model.specs.Owners.{parts_of}
use Rattle.solid_model.specs.Links.{entity_of}
use Rattle.solid_model.specs.Places.{asked, live_at}
use Rattle.solid_model.specs.Rows.{Row, cost_of, tells}
use Rattle.solid_model.specs.Room.{tags_changed}
use Rattle.solid_model.specs.Euler.{length_of_reply, list_of}
use Rattle.solid_model.specs.Shapes.{item_of, shape_of}
use Rattle.solid_model.specs.Sound.{IsSound}
use Rattle.solid_calls.specs.Pairs.{NeedsAsRow, row_on}
use Rattle.solid_calls.proofs.Deaths.{item-mapped}
use Rattle.solid_sound.proofs.rows.RowKeeps.{well-shape}
use Rattle.solid_sound.proofs.shapes.Found.{none_or_some}
use Rattle.solid_places.proofs.Read.{entity-of, item-of}
use Rattle.queries.specs.Listing.{Lists}
use Rattle.queries.proofs.Listed.{Kid, listed, tags_of_kids}
use Rattle.queries.proofs.Owned.{bodies-are, filtered-ascend, kids-are}

-- ---- what a call needs that tells

pub needs : (m : EntityMap) (c : Call) (reply : Reply) (k : ℕ) → row_on m c ≡ tells reply → tags_changed (shape_of m) c ≡ [] → k ≡ length_of_reply reply
    → NeedsAsRow m c (Ok (record { tags = 0; changes = 0; list = k }))
needs m c reply k row none is = record {
  goes = subst IsOk (sym row) refl;
  tags = sym (ap cost_of row);
  changes = sym (λ i. cost_of (row i) + length (none i));
  list = is ∙ sym (ap list_of row);
}

-- ---- live tags

pub live-is : (m : EntityMap) (t : Tag) (e : Entity) → get m t ≡ Some e → live_at (shape_of m) t ≡ Ok (item_of (entries m) e)
live-is m t e h = ap (asked Some t) (item-of m t e h)

pub live-none : (m : EntityMap) (t : Tag) → get m t ≡ None → live_at (shape_of m) t ≡ Err (NoSuchTag t)
live-none m t h = ap (asked Some t) (item-mapped m t ∙ ap (option_map (item_of (entries m))) h)

-- what is not refused is live
pub live-goes : (m : EntityMap) (t : Tag) (row : Item → Row) → IsOk (live_at (shape_of m) t >>= row) → (e : Entity) × (get m t ≡ Some e)
live-goes m t row goes = ⊎_elim {C = (e : Entity) × (get m t ≡ Some e)}
    (λ (none : get m t ≡ None).
    let no : IsOk (Err (NoSuchTag t) >>= row) = subst (λ (r : Result Item Refusal). IsOk (r >>= row)) (live-none m t none) goes in
    absurd (cc))
    (λ (some : (e : Entity) × (get m t ≡ Some e)). some)
    (none_or_some (get m t))

-- ---- ask

pub ask-told : (m : EntityMap) (t : Tag) (e : Entity) → get m t ≡ Some e → row_on m (Ask t) ≡ tells (Is (entity_of (shape_of m) t (item_of (entries m) e)))
ask-told m t e h = ap (λ (r : Result Item Refusal). r >>= (λ x. tells (Is (entity_of (shape_of m) t x)))) (live-is m t e h)

pub ask-is : (m : EntityMap) → IsSound m → (t : Tag) (e : Entity) → get m t ≡ Some e → row_on m (Ask t) ≡ tells (Is e)
ask-is m s t e h =
    let x = item_of (entries m) e in
    ask-told m t e h ∙ ap (λ y. tells (Is y)) (same_Some (entity_of (shape_of m) t x) e (sym (entity-of m s t x (item-of m t e h)) ∙ h))

pub ask-none : (m : EntityMap) (t : Tag) → get m t ≡ None → row_on m (Ask t) ≡ Err (NoSuchTag t)
ask-none m t h = ap (λ (r : Result Item Refusal). r >>= (λ x. tells (Is (entity_of (shape_of m) t x)))) (live-none m t h)

-- ---- kids

pub kids-told : (m : EntityMap) (t : Tag) (e : Entity) → get m t ≡ Some e → row_on m (Kids t) ≡ tells (Listed (parts_of (shape_of m) t))
kids-told m t e h = ap (λ (r : Result Item Refusal). r >>= (λ x. tells (Listed (parts_of (shape_of m) t)))) (live-is m t e h)

pub kids-none : (m : EntityMap) (t : Tag) → get m t ≡ None → row_on m (Kids t) ≡ Err (NoSuchTag t)
kids-none m t h = ap (λ (r : Result Item Refusal). r >>= (λ x. tells (Listed (parts_of (shape_of m) t)))) (live-none m t h)

-- as many as a walk gives
pub walked-many : (all walk : List Kid) (parts : List Tag) → IsPermutation all walk → tags_of_kids all ≡ parts → length walk ≡ length parts
walked-many all walk parts moved same = length_permutation all walk moved ∙ sym (length-map all (λ (x : Kid). x.0)) ∙ ap length same

pub kids-listed : (m : EntityMap) → IsSound m → (t : Tag) (walk : List Kid) (tags : List Tag) → IsPermutation (kids_of m (Some t)) walk → Lists walk tags → tags ≡ parts_of (shape_of m) t
kids-listed m s t walk tags moved lists =
    listed (kids_of m (Some t)) walk tags (parts_of (shape_of m) t) moved (kids-are m s (Some t)) (filtered-ascend _ (shape_of m) (well-shape m s).written.ascends) lists

pub bodies-listed : (m : EntityMap) → IsSound m → (walk : List Kid) (tags : List Tag) → IsPermutation (kids_of m None) walk → Lists walk tags → row_on m Bodies ≡ tells (Listed tags)
bodies-listed m s walk tags moved lists =
    ap (λ ts. tells (Listed ts)) (sym (listed (kids_of m None) walk tags _ moved (bodies-are m s) (filtered-ascend _ (shape_of m) (well-shape m s).written.ascends) lists))

pub ask-live : (m : EntityMap) (t : Tag) → IsOk (row_on m (Ask t)) → (e : Entity) × (get m t ≡ Some e)
ask-live m t goes = live-goes m t (λ x. tells (Is (entity_of (shape_of m) t x))) goes

pub kids-live : (m : EntityMap) (t : Tag) → IsOk (row_on m (Kids t)) → (e : Entity) × (get m t ≡ Some e)
kids-live m t goes = live-goes m t (λ x. tells (Listed (parts_of (shape_of m) t))) goes

-- ---- room for what a walk gives

pub kids-room : (m : EntityMap) → IsSound m → (t : Tag) (walk : List Kid) (spare : ℕ) → IsPermutation (kids_of m (Some t)) walk → IsOk (row_on m (Kids t)) → list_of (row_on m (Kids t)) ≤ spare → length walk ≤ spare
kids-room m s t walk spare moved goes room =
    let live = kids-live m t goes in
    let many : length walk ≡ length (parts_of (shape_of m) t) = walked-many (kids_of m (Some t)) walk (parts_of (shape_of m) t) moved (kids-are m s (Some t)) in
    let fits : length (parts_of (shape_of m) t) ≤ spare = subst (λ (r : Row). list_of r ≤ spare) (kids-told m t live.0 live.1) room in
    omega (arith, many, fits)

pub bodies-room : (m : EntityMap) → IsSound m → (walk : List Kid) (spare : ℕ) → IsPermutation (kids_of m None) walk → list_of (row_on m Bodies) ≤ spare → length walk ≤ spare
bodies-room m s walk spare moved room = subst (λ n. n ≤ spare) (sym (walked-many (kids_of m None) walk _ moved (bodies-are m s))) room

pub kids-need : (m : EntityMap) → IsSound m → (t : Tag) (e : Entity) (walk : List Kid) (k : ℕ) → get m t ≡ Some e → IsPermutation (kids_of m (Some t)) walk → k ≡ length walk → NeedsAsRow m (Kids t) (Ok (record { tags = 0; changes = 0; list = k }))
kids-need m s t e walk k live moved is =
    needs m (Kids t) (Listed (parts_of (shape_of m) t)) k (kids-told m t e live) refl (is ∙ walked-many (kids_of m (Some t)) walk (parts_of (shape_of m) t) moved (kids-are m s (Some t)))

pub bodies-need : (m : EntityMap) → IsSound m → (walk : List Kid) (k : ℕ) → IsPermutation (kids_of m None) walk → k ≡ length walk → NeedsAsRow m Bodies (Ok (record { tags = 0; changes = 0; list = k }))
bodies-need m s walk k moved is = needs m Bodies _ k refl refl (is ∙ walked-many (kids_of m None) walk _ moved (bodies-are m s))
