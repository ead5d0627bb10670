-- A store on which rows are carried out one after another: how far it has come, what each row asks for, and what it
-- leaves.
use Rattle.std.proofs.Common.{◌≡◌, ℕ, ◌+◌, ◌<◌, ◌≤◌, ⊎_elim, List, ◌++◌, length, take, drop, None, Ok, Err, refl, sym, ap, subst, ◌∙◌, append_assoc, length-append, arith}
use Rattle.std.specs.Prelude.{IsOk, IsTrue, Contains, option_map}
use Rattle.std.specs.List.{AllByRecursion}
use Rattle.std.specs.FinMap.{get}
use Rattle.std.proofs.Math.Seq.{take-add}
use Rattle.std.proofs.lemmas.List.{drop-drop, get_or-append-add, get_or-take, length-drop, length-take-le}
use Rattle.std.proofs.lemmas.List.Elements.{Contains-append_cases, Contains-append_right}
use Rattle.pk_base.specs.Blocks.{tag}
use Rattle.pk_base.specs.Building.{Building}
use Rattle.pk_base.specs.declared.tag.Tag.{Tag}
use Rattle.pk_base.specs.declared.call.Call.{Call}
use Rattle.pk_model.specs.Maps.{EntityMap}
use Rattle.pk_model.specs.Tags.{TagsAscend, owns, tag_at, tags_of}
use Rattle.entity_store.specs.NextTags.{TagsView, left}
use Rattle.entity_store.specs.Room.{HasRoomForThese, PutsAmong}
use Rattle.entity_store.specs.Store.{Stored, StoreView}
use Rattle.entity_store.proofs.Room.{puts-none, puts-then, puts-wider, room-after, room-part}
use Rattle.solid_model.specs.Items.{Shape, item_at}
use Rattle.solid_model.specs.Rows.{Row, cost_of}
use Rattle.solid_model.specs.Rows.Effect.{Makes, Changes, Tells}
use Rattle.solid_model.specs.Calls.{row_of}
use Rattle.solid_model.specs.Folds.{Progress, after_row}
use Rattle.solid_model.specs.Links.{entity_of, links}
use Rattle.solid_model.specs.Room.{tags_changed, tags_put}
use Rattle.solid_model.specs.Shapes.{shape_of}
use Rattle.solid_model.specs.Sound.{IsSound}
use Rattle.list_facts.proofs.Each.{ByRecursion-at, ByRecursion-contains, ByRecursion-weaker}
use Rattle.solid_sound.proofs.shapes.OnlyShape.{shape-read}
use Rattle.solid_sound.proofs.rows.Asked.{free_item, get-links}
use Rattle.solid_sound.proofs.rows.Progress.{Began, began-start, left-ascend, left-free}
use Rattle.solid_sound.proofs.rows.RowKeeps.{IsWell, sound-links, well-shape}
use Rattle.solid_calls.specs.Pairs.{HasDone, HasTags, MayDo, Takes, reached, row_on}
use Rattle.solid_calls.proofs.NextTags.{takes-none}
use Rattle.solid_edits.proofs.Stages.{Within}
use Rattle.solid_make.specs.Making.{HasMade, begun}
use Rattle.solid_make.proofs.Own.{in_more}

-- ---- tags

pub left-after : (n : ℕ) (a b : TagsView) (o q : Building Tag) → Takes n a o b q → left b ≡ drop n (left a)
left-after n a b o q h = ap left h.taken ∙ sym (drop-drop n a.used (tags_of a.blocks))

pub takes-then : (n k : ℕ) (a b c : TagsView) (o q r : Building Tag) → Takes n a o b q → Takes k b q c r → Takes (n + k) a o c r
takes-then n k a b c o q r h j =
    let used : b.used ≡ a.used + n = ap (λ (t : TagsView). t.used) h.taken in
    let blocks : b.blocks ≡ a.blocks = ap (λ (t : TagsView). t.blocks) h.taken in
    let sum : b.used + k ≡ a.used + (n + k) = omega (arith, used) in
    let one = h.spare in
    let two = j.spare in
    record {
      taken = j.taken ∙ (λ i. record { blocks = blocks i; used = sum i });
      lists = j.lists ∙ ap (λ ts. ts ++ take k (left b)) h.lists ∙ append_assoc o.items (take n (left a)) (take k (left b))
          ∙ ap (λ ts. o.items ++ (take n (left a) ++ take k ts)) (left-after n a b o q h) ∙ ap (λ ts. o.items ++ ts) (sym (take-add n k (left a)));
      spare = omega (arith, one, two);
    }

-- the tags that were taken are listed behind what was listed before
pub length-listed : (n : ℕ) (a b : TagsView) (o q : Building Tag) → Takes n a o b q → n ≤ length (left a) → length q.items ≡ length o.items + n
length-listed n a b o q h enough = omega (arith, ap length h.lists, length-append o.items (take n (left a)), length-take-le n (left a) enough)

pub listed-at : (n : ℕ) (a b : TagsView) (o q : Building Tag) (i j : ℕ) → Takes n a o b q → i < n → j ≡ length o.items + i → tag_at q.items j ≡ tag_at (left a) i
listed-at n a b o q i j h less is =
    (λ k. tag_at (h.lists k) (is k)) ∙ get_or-append-add o.items (take n (left a)) i (tag 0) ∙ get_or-take n (left a) i (tag 0) less

in_next : (n k m : ℕ) (ts : List Tag) → n + k ≤ m → (t : Tag) → Contains (take k (drop n ts)) t → Contains (take m ts) t
in_next n k m ts le t c = in_more (n + k) m ts t le (subst (λ us. Contains us t) (sym (take-add n k ts)) (Contains-append_right (take n ts) (take k (drop n ts)) t c))

-- ---- shapes

pub shape-links : (S : Shape) → IsWell S → shape_of (links S) ≡ S
shape-links S well = shape-read (links S) (record { shape = S; written = well.written; sound = well.sound; map_is = refl })

pub links-shape : (m : EntityMap) → IsSound m → m ≡ links (shape_of m)
links-shape m s = s.map_is ∙ ap links (sym (shape-read m s))

none_linked : (S : Shape) (t : Tag) → IsWell S → item_at S t ≡ None → get (links S) t ≡ None
none_linked S t well none = get-links S t well.written.ascends ∙ ap (option_map (entity_of S t)) none

reached-row : (row : Row) (p : Progress) → reached p.shape p.tags row ≡ (after_row row p).shape
reached-row (Ok (Makes k reaches)) p = refl
reached-row (Ok (Changes other)) p = refl
reached-row (Ok (Tells reply)) p = refl
reached-row (Err e) p = refl

tags-row : (row : Row) (p : Progress) → (after_row row p).tags ≡ drop (cost_of row) p.tags
tags-row (Ok (Makes k reaches)) p = refl
tags-row (Ok (Changes other)) p = refl
tags-row (Ok (Tells reply)) p = refl
tags-row (Err e) p = refl

-- ---- how far it has come

-- The rows so far have reached p, with the first n of the tags at most; no others were put. They are listed.
pub record IsAt (old : StoreView) (tags : TagsView) (out : Building Tag) (n : ℕ) (p : Progress) (now : StoreView) (tags' : TagsView) (out' : Building Tag) : Type 0 where
  pub began : Began (shape_of old.state.map) (left tags) n p
  pub next : p.tags ≡ left tags'
  pub state : now.state ≡ record old.state { map = links p.shape }
  pub puts : PutsAmong (take n (left tags)) old now
  pub takes : Takes n tags out tags' out'

-- The store is old, N tags are there for it, and there is room for them.
module _ (old : StoreView) (tags : TagsView) (out : Building Tag) (N : ℕ) (sound : IsSound old.state.map) (has : HasTags old N tags out) (room : HasRoomForThese old.recording (take N (left tags))) where
  abbrev S : Shape
  S = shape_of old.state.map

  pub free-shape : AllByRecursion (λ t. item_at S t ≡ None) (left tags)
  free-shape = ByRecursion-weaker (λ t. get old.state.map t ≡ None) (λ t. item_at S t ≡ None) (λ t none. free_item old.state.map sound t none) (left tags) has.free

  pub at-start : IsAt old tags out 0 (begun old (left tags)) old tags out
  at-start = record {
    began = began-start S (left tags) (well-shape old.state.map sound);
    next = refl;
    state = ap (λ m. record old.state { map = m }) (links-shape old.state.map sound);
    puts = puts-none (take 0 (left tags)) old;
    takes = takes-none tags out;
  }

  module _ (n : ℕ) (p : Progress) (now : StoreView) (tags' : TagsView) (out' : Building Tag) (here : IsAt old tags out n p now tags' out') where
    map_is : now.state.map ≡ links p.shape
    map_is = ap (λ (s : Stored). s.map) here.state

    pub shape-now : shape_of now.state.map ≡ p.shape
    shape-now = ap shape_of map_is ∙ shape-links p.shape here.began.well

    left_is : left tags' ≡ drop n (left tags)
    left_is = left-after n tags tags' out out' here.takes

    pub sound-now : IsSound now.state.map
    sound-now = subst IsSound (sym map_is) (sound-links p.shape here.began.well)

    pub made-from : HasMade old n (left tags) p now
    made-from = record { state = here.state; sound = sound-now; puts = here.puts }

    -- room for tags of those that were there
    pub room-now : (us : List Tag) → Within us (take N (left tags)) → n ≤ N → HasRoomForThese now.recording us
    room-now us within le =
        room-part now.recording (take N (left tags)) us (room-after (take N (left tags)) (take n (left tags)) old now room here.puts (λ t k. in_more n N (left tags) t le k)) within

    -- the next k tags
    pub next-in : (k m : ℕ) → n + k ≤ m → Within (take k (left tags')) (take m (left tags))
    next-in k m le t c = in_next n k m (left tags) le t (subst (λ ts. Contains (take k ts) t) left_is c)

    pub tags-now : (k : ℕ) → n + k ≤ N → HasTags now k tags' out'
    tags-now k le =
        let enough = has.enough in
        let spare = has.spare in
        let used = here.takes.spare in
        let long = ap length left_is ∙ length-drop n (left tags) in
        let blocks : now.state.blocks ≡ old.state.blocks = ap (λ (s : Stored). s.blocks) here.state in
        record {
          enough = omega (arith, enough, le, long);
          ascend = subst TagsAscend here.next (left-ascend S (left tags) has.ascend free-shape n p here.began);
          free = ByRecursion-weaker (λ t. item_at p.shape t ≡ None) (λ t. get now.state.map t ≡ None) (λ t none. ap (λ m. get m t) map_is ∙ none_linked p.shape t here.began.well none) (left tags')
              (subst (AllByRecursion (λ t. item_at p.shape t ≡ None)) here.next (left-free S (left tags) has.ascend free-shape n p here.began));
          owned = subst (λ bs. AllByRecursion (λ t. IsTrue (owns bs t)) (take k (left tags'))) (sym blocks) (ByRecursion-contains (λ t. IsTrue (owns old.state.blocks t)) (take k (left tags')) (λ t c.
              ByRecursion-at (λ u. IsTrue (owns old.state.blocks u)) (take N (left tags)) t has.owned (next-in k N le t c)));
          spare = omega (arith, spare, used, le);
        }

    -- ---- one row more

    module _ (c : Call) (k : ℕ) (cost : cost_of (row_of p.shape c) ≡ k) (changed : Within (tags_changed p.shape c) (take n (left tags))) where
      same_put : tags_put (shape_of now.state.map) c (left tags') ≡ take k (left tags') ++ tags_changed p.shape c
      same_put = ap (λ R. tags_put R c (left tags')) shape-now ∙ ap (λ j. take j (left tags') ++ tags_changed p.shape c) cost

      put_in : (m : ℕ) → n + k ≤ m → Within (tags_put (shape_of now.state.map) c (left tags')) (take m (left tags))
      put_in m le t h = ⊎_elim {C = Contains (take m (left tags)) t}
          (λ (a : Contains (take k (left tags')) t). next-in k m le t a)
          (λ (b : Contains (tags_changed p.shape c) t). in_more n m (left tags) t (omega (arith, le)) (changed t b))
          (Contains-append_cases (take k (left tags')) (tags_changed p.shape c) t (subst (λ ts. Contains ts t) same_put h))

      pub row-may : IsOk (row_of p.shape c) → n + k ≤ N → MayDo now c (left tags')
      row-may goes le = record {
        sound = sound-now;
        goes = subst (λ R. IsOk (row_of R c)) (sym shape-now) goes;
        room = room-now (tags_put (shape_of now.state.map) c (left tags')) (put_in N le) (omega (arith, le));
      }

      cost_now : cost_of (row_on now.state.map c) ≡ k
      cost_now = ap (λ R. cost_of (row_of R c)) shape-now ∙ cost

      pub row-tags : n + k ≤ N → HasTags now (cost_of (row_on now.state.map c)) tags' out'
      row-tags le = subst (λ j. HasTags now j tags' out') (sym cost_now) (tags-now k le)

      pub row-done : Began S (left tags) (n + k) (after_row (row_of p.shape c) p) → (then : StoreView) (tags'' : TagsView) (out'' : Building Tag)
          → HasDone now c (left tags') then → Takes (cost_of (row_on now.state.map c)) tags' out' tags'' out'' → IsAt old tags out (n + k) (after_row (row_of p.shape c) p) then tags'' out''
      row-done began then tags'' out'' done takes =
          let took = subst (λ j. Takes j tags' out' tags'' out'') cost_now takes in
          let reaches : reached (shape_of now.state.map) (left tags') (row_on now.state.map c) ≡ (after_row (row_of p.shape c) p).shape =
          (λ i. reached (shape-now i) (sym here.next i) (row_of (shape-now i) c)) ∙ reached-row (row_of p.shape c) p in
          record {
            began = began;
            next = tags-row (row_of p.shape c) p ∙ ap (λ j. drop j p.tags) cost ∙ ap (drop k) here.next ∙ sym (left-after k tags' tags'' out' out'' took);
            state = done.state ∙ ap (λ R. record now.state { map = links R }) reaches ∙ ap (λ (s : Stored). record s { map = links (after_row (row_of p.shape c) p).shape }) here.state;
            puts = puts-then (take (n + k) (left tags)) old now then
                (puts-wider (take n (left tags)) (take (n + k) (left tags)) old now here.puts (λ t j. in_more n (n + k) (left tags) t (omega arith) j))
                (puts-wider (tags_put (shape_of now.state.map) c (left tags')) (take (n + k) (left tags)) now then done.puts (put_in (n + k) (omega arith)));
            takes = takes-then n k tags tags' tags'' out out' out'' here.takes took;
          }
