-- Rows that are carried out on a store one after another: what holds between two of them.
use Rattle.std.proofs.Common.{◌≡◌, ℕ, ◌+◌, ◌-◌, ◌≤◌, List, [], ◌∷◌, ◌++◌, length, take, drop, Option, None, Ok, Err, refl, sym, ap, subst, ◌∙◌, append_assoc, append-nil, arith}
use Rattle.std.specs.Prelude.{Contains, IsOk, IsTrue, option_map}
use Rattle.std.specs.List.{AllByRecursion}
use Rattle.std.specs.FinMap.{get}
use Rattle.std.proofs.Math.Seq.{take-add}
use Rattle.std.proofs.lemmas.List.{drop-drop, length-drop}
use Rattle.pk_base.specs.Building.{Building}
use Rattle.pk_base.specs.declared.tag.Tag.{Tag}
use Rattle.pk_base.specs.declared.call.Call.{Call}
use Rattle.pk_model.specs.Maps.{EntityMap}
use Rattle.pk_model.specs.Tags.{TagsAscend, owns, tags_of}
use Rattle.list_facts.proofs.Each.{ByRecursion-contains, ByRecursion-at, ByRecursion-weaker}
use Rattle.entity_store.specs.NextTags.{TagsView, left}
use Rattle.entity_store.specs.Store.{StoreView}
use Rattle.entity_store.specs.Room.{HasRoomForThese, PutsAmong}
use Rattle.entity_store.proofs.Room.{room-part, room-after, puts-none, puts-then, puts-wider}
use Rattle.solid_model.specs.Items.{Shape, item_at}
use Rattle.solid_model.specs.Rows.{Row, cost_of}
use Rattle.solid_model.specs.Rows.Effect.{Makes, Changes, Tells}
use Rattle.solid_model.specs.Calls.{row_of}
use Rattle.solid_model.specs.Room.{tags_put}
use Rattle.solid_model.specs.Links.{links, entity_of}
use Rattle.solid_model.specs.Shapes.{shape_of}
use Rattle.solid_model.specs.Sound.{IsSound}
use Rattle.solid_model.specs.Folds.{Progress, after_row}
use Rattle.solid_calls.specs.Pairs.{HasDone, HasTags, MayDo, Takes, reached, row_on}
use Rattle.solid_calls.proofs.NextTags.{takes-none}
use Rattle.solid_sound.proofs.shapes.OnlyShape.{shape-read}
use Rattle.solid_sound.proofs.rows.RowKeeps.{IsWell, well-shape}
use Rattle.solid_sound.proofs.rows.Asked.{get-links, free_item}
use Rattle.solid_sound.proofs.rows.Progress.{start}
use Rattle.euler_make.proofs.EdgesRaised.{taken-within}

-- ---- tags that are taken

-- those that are left
pub left-after : (n : ℕ) (tags tags' : TagsView) (out out' : Building Tag) → Takes n tags out tags' out' → left tags' ≡ drop n (left tags)
left-after n tags tags' out out' t = ap left t.taken ∙ sym (drop-drop n tags.used (tags_of tags.blocks))

pub takes-then : (m n : ℕ) (tags tags' tags'' : TagsView) (out out' out'' : Building Tag) → Takes m tags out tags' out' → Takes n tags' out' tags'' out'' → Takes (m + n) tags out tags'' out''
takes-then m n tags tags' tags'' out out' out'' a b =
    let sum : tags.used + m + n ≡ tags.used + (m + n) = omega arith in
    record {
      taken = b.taken ∙ ap (λ (t : TagsView). record t { used = t.used + n }) a.taken ∙ ap (λ u. record tags { used = u }) sum;
      lists = b.lists ∙ (λ i. a.lists i ++ take n (left-after m tags tags' out out' a i))
          ∙ append_assoc out.items (take m (left tags)) (take n (drop m (left tags))) ∙ ap (λ ts. out.items ++ ts) (sym (take-add m n (left tags)));
      spare = (let one = a.spare in let two = b.spare in omega (arith, one, two));
    }

-- ---- between two rows

-- A store's map is that of its shape.
pub links-read : (m : EntityMap) → IsSound m → m ≡ links (shape_of m)
links-read m s = s.map_is ∙ ap links (sym (shape-read m s))

-- what has no item is not live in the map
pub free-links : (S : Shape) (m : EntityMap) → IsWell S → m ≡ links S → (ts : List Tag) → AllByRecursion (λ t. item_at S t ≡ None) ts → AllByRecursion (λ t. get m t ≡ None) ts
free-links S m well is ts free = ByRecursion-weaker (λ t. item_at S t ≡ None) (λ t. get m t ≡ None)
    (λ t e. ap (λ n. get n t) is ∙ get-links S t well.written.ascends ∙ ap (option_map (entity_of S t)) e) ts free

-- The store s0 has become s, which has the shape of this progress. It took n tags, and put no others than may be put.
pub record Folded (may : List Tag) (n : ℕ) (s0 s : StoreView) (tags0 tags : TagsView) (out0 out : Building Tag) (p : Progress) : Type 0 where
  pub state : s.state ≡ record s0.state { map = links p.shape }
  pub well : IsWell p.shape
  pub left_is : left tags ≡ p.tags
  pub takes : Takes n tags0 out0 tags out
  pub puts : PutsAmong may s0 s

pub folded-start : (may : List Tag) (s : StoreView) (tags : TagsView) (out : Building Tag) → IsSound s.state.map → Folded may 0 s s tags tags out out (start (shape_of s.state.map) (left tags))
folded-start may s tags out sound = record {
  state = ap (λ m. record s.state { map = m }) (links-read s.state.map sound);
  well = well-shape s.state.map sound;
  left_is = refl;
  takes = takes-none tags out;
  puts = puts-none may s;
}

abbrev sound_by : (S : Shape) → IsWell S → IsSound (links S)
sound_by S h = record { shape = S; written = h.written; sound = h.sound; map_is = refl }

reached-row : (p : Progress) (row : Row) → reached p.shape p.tags row ≡ (after_row row p).shape
reached-row p (Ok (Makes k reaches)) = refl
reached-row p (Ok (Changes other)) = refl
reached-row p (Ok (Tells reply)) = refl
reached-row p (Err e) = refl

module _ (may : List Tag) (n : ℕ) (s0 s : StoreView) (tags0 tags : TagsView) (out0 out : Building Tag) (p : Progress) (f : Folded may n s0 s tags0 tags out0 out p) where
  pub map-now : s.state.map ≡ links p.shape
  map-now = ap (λ x. x.map) f.state

  pub sound-now : IsSound s.state.map
  sound-now = subst IsSound (sym map-now) (sound_by p.shape f.well)

  pub shape-now : shape_of s.state.map ≡ p.shape
  shape-now = ap shape_of map-now ∙ shape-read (links p.shape) (sound_by p.shape f.well)

  -- a call may be done that its row does not refuse, and that puts no other tags
  pub folded-may : (c : Call) → IsOk (row_of p.shape c) → HasRoomForThese s0.recording may → ((t : Tag) → Contains (tags_put p.shape c p.tags) t → Contains may t) → MayDo s c (left tags)
  folded-may c goes room among = record {
    sound = sound-now;
    goes = subst (λ S. IsOk (row_of S c)) (sym shape-now) goes;
    room = subst (λ us. HasRoomForThese s.recording us) (λ i. tags_put (sym shape-now i) c (sym f.left_is i))
        (room-part s.recording may (tags_put p.shape c p.tags) (room-after may may s0 s room f.puts (λ t k. k)) among);
  }

  -- it has k tags
  pub folded-has : (c : Call) (k all : ℕ) → cost_of (row_of p.shape c) ≡ k → n + k ≤ all → HasTags s0 all tags0 out0 → TagsAscend p.tags → AllByRecursion (λ t. item_at p.shape t ≡ None) p.tags
      → HasTags s (cost_of (row_on s.state.map c)) tags out
  folded-has c k all cost few has ascend free =
      let same : k ≡ cost_of (row_on s.state.map c) = sym cost ∙ ap (λ S. cost_of (row_of S c)) (sym shape-now) in
      let after = left-after n tags0 tags out0 out f.takes in
      let blocks : s.state.blocks ≡ s0.state.blocks = ap (λ x. x.blocks) f.state in
      subst (λ j. HasTags s j tags out) same (record {
        enough = (let long = ap length after ∙ length-drop n (left tags0) in let enough = has.enough in omega (arith, long, enough, few));
        ascend = subst TagsAscend (sym f.left_is) ascend;
        free = subst (AllByRecursion (λ t. get s.state.map t ≡ None)) (sym f.left_is)
            (free-links p.shape s.state.map f.well map-now p.tags free);
        owned = ByRecursion-contains (λ t. IsTrue (owns s.state.blocks t)) (take k (left tags)) (λ t c.
            subst (λ bs. IsTrue (owns bs t)) (sym blocks)
            (ByRecursion-at (λ u. IsTrue (owns s0.state.blocks u)) (take all (left tags0)) t has.owned
            (taken-within n k all (left tags0) t few (subst (λ ts. Contains (take k ts) t) after c))));
        spare = (let spare = has.spare in let taken = f.takes.spare in omega (arith, spare, taken, few));
      })

  -- the next row is done
  pub folded-next : (c : Call) (k : ℕ) (p' : Progress) (s' : StoreView) (tags' : TagsView) (out' : Building Tag) → cost_of (row_of p.shape c) ≡ k → after_row (row_of p.shape c) p ≡ p' → IsWell p'.shape → p'.tags ≡ drop k p.tags
      → ((t : Tag) → Contains (tags_put p.shape c p.tags) t → Contains may t) → HasDone s c (left tags) s' → Takes (cost_of (row_on s.state.map c)) tags out tags' out'
      → Folded may (n + k) s0 s' tags0 tags' out0 out' p'
  folded-next c k p' s' tags' out' cost is well tags_are among done takes =
      let same : cost_of (row_on s.state.map c) ≡ k = ap (λ S. cost_of (row_of S c)) shape-now ∙ cost in
      let taken : Takes k tags out tags' out' = subst (λ j. Takes j tags out tags' out') same takes in
      let shape : reached (shape_of s.state.map) (left tags) (row_on s.state.map c) ≡ p'.shape =
      (λ i. reached (shape-now i) (f.left_is i) (row_of (shape-now i) c)) ∙ reached-row p (row_of p.shape c) ∙ ap (λ x. x.shape) is in
      record {
        state = done.state ∙ (λ i. record (f.state i) { map = links (shape i) });
        well = well;
        left_is = left-after k tags tags' out out' taken ∙ ap (drop k) f.left_is ∙ sym tags_are;
        takes = takes-then n k tags0 tags tags' out0 out out' f.takes taken;
        puts = puts-then may s0 s s' f.puts (puts-wider (tags_put (shape_of s.state.map) c (left tags)) may s s' done.puts
            (λ t j. among t (subst (λ us. Contains us t) (λ i. tags_put (shape-now i) c (f.left_is i)) j)));
      }
