-- The map of a shape in which items were written and items were killed.
use Rattle.std.proofs.Common.{◌≡◌, ⊎_elim, not, List, [], ◌∷◌, Option, Some, None, refl, sym, ap, subst, ◌∙◌}
use Rattle.std.specs.Prelude.{Contains}
use Rattle.std.specs.List.{AllByRecursion}
use Rattle.std.specs.FinMap.{get}
use Rattle.pk_base.specs.declared.tag.Tag.{Tag}
use Rattle.pk_base.specs.declared.entity.Entity.{Entity}
use Rattle.pk_base.specs.declared.entity.Entity.TheVariants as entity
use Rattle.pk_model.specs.Apart.{NoRepeats}
use Rattle.pk_model.specs.Maps.{EntityMap}
use Rattle.list_facts.proofs.Each.{ByRecursion-at, ByRecursion-contains}
use Rattle.solid_model.specs.Items.{Item, Shape, item_at, class_of_item, ◌with◌}
use Rattle.solid_model.specs.Items.Item.{Body, Shell, Face, Loop, Fin, Edge, Vertex, Attr}
use Rattle.solid_model.specs.Rings.{first_tag, from_least, is_among, ring_of}
use Rattle.solid_model.specs.Owners.{fins_of}
use Rattle.solid_model.specs.Deaths.{dies_with, ◌without◌}
use Rattle.solid_model.proofs.lists.Neighbours.{neither_from, is-none, among_or_none}
use Rattle.pk_model.proofs.TagLists.{NoneOf}
use Rattle.solid_model.proofs.lists.Cycles.{least-in}
use Rattle.solid_sound.proofs.shapes.Edits.{Edits, edits}
use Rattle.solid_sound.proofs.shapes.Found.{none_or_some}
use Rattle.solid_sound.proofs.shapes.Lookups.{Items, filter-kept, is_written, tags_in, with-other}
use Rattle.solid_sound.proofs.shapes.Names.{NotAttr}
use Rattle.solid_sound.proofs.shapes.Reading.{fin_in}
use Rattle.solid_sound.proofs.rows.RowKeeps.{IsWell}
use Rattle.halfedge.specs.LinkedRings.{IsRing, as_fin, loop_named}
use Rattle.halfedge.proofs.LinkedRings.{ring-least}
use Rattle.list_facts.proofs.Elements.{not_in_nil}
use Rattle.solid_edits.specs.Deaths.{Kills, unless_on_any}
use Rattle.solid_calls.proofs.Represented.{Represents, Shows, shows-kept}
use Rattle.solid_edits.proofs.KilledMaps.{kills-none, unless-other, unless-owned, unless-plain}
use Rattle.solid_edits.proofs.PlacedAnew.{IsFinOf, IsSameElsewhere, elsewhere-fin, elsewhere-none, elsewhere-plain}

-- From the map m of the shape S, n has the items xs written, and differs elsewhere only in where fins
-- stand; then r has the killed ones dead. The fins of each loop that was neither written nor killed
-- stay as they are, and so do the fins of each edge that lives.
module _ (S : Shape) (m n r : EntityMap) (xs : Items) (killed : List Tag) (well : IsWell S) (was : Represents S m)
    (once : NoRepeats (tags_in xs)) (once_killed : NoRepeats killed) (apart : AllByRecursion (λ t. NoneOf t (tags_in xs)) killed) (plain : AllByRecursion (λ x. NotAttr (class_of_item x.1)) xs)
    (kills : Kills n killed r) (elsewhere : (t : Tag) → NoneOf t (tags_in xs) → IsSameElsewhere m n t)
    (loops : (l face : Tag) (fins : List Tag) (vertex : Option Tag) → item_at S l ≡ Some (Loop face fins vertex) → NoneOf l (tags_in xs) → NoneOf l killed
    → (f : Tag) → Contains fins f → NoneOf f killed × (get n f ≡ get m f))
    (edges : (f mate edge vertex : Tag) → item_at S f ≡ Some (Fin mate edge vertex) → NoneOf edge killed → NoneOf f (tags_in xs) × NoneOf f killed) where
  abbrev R : Shape
  R = S with xs without killed

  ed : Edits S R xs killed
  ed = edits S xs killed well.written.ascends once once_killed apart plain

  -- ---- what lives on

  left : (t : Tag) (e : Entity) → NoneOf t (tags_in xs) → NoneOf t killed → as_fin e ≡ None → unless_on_any killed (Some e) ≡ Some e → get m t ≡ Some e → get r t ≡ Some e
  left t e old live no_fin stays is = kills.others t live ∙ ap (unless_on_any killed) (elsewhere-plain m n t e (elsewhere t old) no_fin is) ∙ stays

  fin_stays : (f mate edge vertex : Tag) → item_at S f ≡ Some (Fin mate edge vertex) → NoneOf edge killed → item_at R f ≡ Some (Fin mate edge vertex)
  fin_stays f mate edge vertex is live = let h = edges f mate edge vertex is live in ed.stays f (Fin mate edge vertex) is (λ k. cc) h.0 h.1

  -- an item that is no fin is shown as before
  shown_again : (t : Tag) (x : Item) (e : Entity) → item_at S t ≡ Some x → NoneOf t (tags_in xs) → NoneOf t killed → as_fin e ≡ None → unless_on_any killed (Some e) ≡ Some e → get m t ≡ Some e
      → ((f : Tag) → Contains (fins_of x) f → get r f ≡ get m f) → Shows R r t x
  shown_again t x e is old live no_fin stays there fins =
      shows-kept S R m r t x (was.items t x is) (left t e old live no_fin stays there ∙ sym there) fins
      (λ f mate edge vertex f_is same. fin_stays f mate edge vertex f_is (subst (λ u. NoneOf u killed) (sym same) live))

  no_fins : (f : Tag) → Contains [] f → get r f ≡ get m f
  no_fins f k = absurd (not_in_nil f k)

  -- the fins of a loop that lives on are as before
  fins_stay : (l face : Tag) (fins : List Tag) (vertex : Option Tag) → item_at S l ≡ Some (Loop face fins vertex) → NoneOf l (tags_in xs) → NoneOf l killed → (f : Tag) → Contains fins f → get r f ≡ get m f
  fins_stay l face fins vertex is old live f k =
      let h = loops l face fins vertex is old live f k in
      let x = fin_in S well.written well.sound l face fins vertex is f k in
      let there = was.items f (Fin x.0 x.1 x.2) x.3 in
      kills.others f h.0 ∙ ap (unless_on_any killed) (h.1 ∙ there.3) ∙ unless-plain killed (entity.Fin there.0 there.1 there.2 x.0 x.1 x.2) (λ o. refl) ∙ sym there.3

  kept : (t : Tag) (x : Item) → item_at S t ≡ Some x → NoneOf t (tags_in xs) → NoneOf t killed → item_at R t ≡ Some x → Shows R r t x
  kept t (Body shell) is old live now = shown_again t (Body shell) (entity.Body shell) is old live refl (unless-plain killed (entity.Body shell) (λ o. refl)) (was.items t (Body shell) is) no_fins
  kept t (Shell body q) is old live now = shown_again t (Shell body q) (entity.Shell body q) is old live refl (unless-plain killed (entity.Shell body q) (λ o. refl)) (was.items t (Shell body q) is) no_fins
  kept t (Face shell outer) is old live now = shown_again t (Face shell outer) (entity.Face shell outer) is old live refl (unless-plain killed (entity.Face shell outer) (λ o. refl)) (was.items t (Face shell outer) is) no_fins
  kept t (Loop face fins vertex) is old live now =
      let there = was.items t (Loop face fins vertex) is in
      shown_again t (Loop face fins vertex) _ is old live refl (unless-plain killed _ (λ o. refl)) there.0 (fins_stay t face fins vertex is old live)
  kept t (Fin mate edge vertex) is old live now =
      let there = was.items t (Fin mate edge vertex) is in
      let mid : IsFinOf (get n t) mate edge vertex = elsewhere-fin m n t mate edge vertex (elsewhere t old) (there.0, there.1, there.2, there.3) in
      (mid.0, mid.1, mid.2, kills.others t live ∙ ap (unless_on_any killed) mid.3 ∙ unless-plain killed (entity.Fin mid.0 mid.1 mid.2 mate edge vertex) (λ o. refl))
  kept t (Edge body) is old live now =
      let there = was.items t (Edge body) is in
      shown_again t (Edge body) (entity.Edge body there.0) is old live refl (unless-plain killed (entity.Edge body there.0) (λ o. refl)) there.1 no_fins
  kept t (Vertex body point) is old live now = shown_again t (Vertex body point) (entity.Vertex body point) is old live refl (unless-plain killed (entity.Vertex body point) (λ o. refl)) (was.items t (Vertex body point) is) no_fins
  kept t (Attr owner name value) is old live now =
      shown_again t (Attr owner name value) (entity.Attr owner name value) is old live refl (unless-other killed owner name value (ed.owner t owner name value now)) (was.items t (Attr owner name value) is) no_fins

  -- ---- what is gone

  stands_on : (t : Tag) (x : Item) → item_at R t ≡ None → item_at R t ≡ Some x → get r t ≡ None
  stands_on t x none some = let both : None ≡ Some x = sym none ∙ some in absurd (cc)

  gone_item : (t : Tag) (x : Item) → item_at S t ≡ Some x → NoneOf t (tags_in xs) → NoneOf t killed → item_at R t ≡ None → get r t ≡ None
  gone_item t (Attr owner name value) is old live none = ⊎_elim
      (λ (k : Contains killed owner).
      kills.others t live ∙ ap (unless_on_any killed) (elsewhere-plain m n t (entity.Attr owner name value) (elsewhere t old) refl (was.items t (Attr owner name value) is)) ∙ unless-owned killed owner name value k)
      (λ (other : NoneOf owner killed). stands_on t (Attr owner name value) none
      (filter-kept (λ x. not (dies_with killed x)) (S with xs) t (Attr owner name value) (with-other S xs t old ∙ is)
      (neither_from (is_among t killed) (is_among owner killed) (is-none t killed live) (is-none owner killed other))))
      (among_or_none owner killed)
  gone_item t (Body shell) is old live none = stands_on t (Body shell) none (ed.stays t (Body shell) is (λ k. cc) old live)
  gone_item t (Shell body q) is old live none = stands_on t (Shell body q) none (ed.stays t (Shell body q) is (λ k. cc) old live)
  gone_item t (Face shell outer) is old live none = stands_on t (Face shell outer) none (ed.stays t (Face shell outer) is (λ k. cc) old live)
  gone_item t (Loop face fins vertex) is old live none = stands_on t (Loop face fins vertex) none (ed.stays t (Loop face fins vertex) is (λ k. cc) old live)
  gone_item t (Fin mate edge vertex) is old live none = stands_on t (Fin mate edge vertex) none (ed.stays t (Fin mate edge vertex) is (λ k. cc) old live)
  gone_item t (Edge body) is old live none = stands_on t (Edge body) none (ed.stays t (Edge body) is (λ k. cc) old live)
  gone_item t (Vertex body point) is old live none = stands_on t (Vertex body point) none (ed.stays t (Vertex body point) is (λ k. cc) old live)

  gone : (t : Tag) → item_at R t ≡ None → get r t ≡ None
  gone t none = ⊎_elim
      (λ (w : (x : Item) × Contains xs (t, x)). stands_on t w.0 none (ed.news t w.0 w.1))
      (λ (old : NoneOf t (tags_in xs)). ⊎_elim
      (λ (k : Contains killed t). ByRecursion-at (λ u. get r u ≡ None) killed t kills.dead k)
      (λ (live : NoneOf t killed). ⊎_elim
      (λ (free : item_at S t ≡ None). kills-none n r killed kills t (elsewhere-none m n t (elsewhere t old) (was.nothing t free)))
      (λ (w : (x : Item) × (item_at S t ≡ Some x)). gone_item t w.0 w.1 old live none)
      (none_or_some (item_at S t)))
      (among_or_none t killed))
      (is_written t xs)

  pub edited : ((t : Tag) (x : Item) → Contains xs (t, x) → Shows R r t x) → Represents R r
  edited shown = record {
    items = λ t x is. ⊎_elim
        (λ (k : Contains xs (t, x)). shown t x k)
        (λ (k : (item_at S t ≡ Some x) × NoneOf t (tags_in xs)). kept t x k.0 k.1 (ed.alive t x is) is)
        (ed.was t x is);
    nothing = gone;
  }

-- ---- where nothing dies

without-none : (S : Shape) → S without [] ≡ S
without-none [] = refl
without-none ((t, Body shell) ∷ S) = ap (λ T. (t, Body shell) ∷ T) (without-none S)
without-none ((t, Shell body q) ∷ S) = ap (λ T. (t, Shell body q) ∷ T) (without-none S)
without-none ((t, Face shell outer) ∷ S) = ap (λ T. (t, Face shell outer) ∷ T) (without-none S)
without-none ((t, Loop face fins vertex) ∷ S) = ap (λ T. (t, Loop face fins vertex) ∷ T) (without-none S)
without-none ((t, Fin mate edge vertex) ∷ S) = ap (λ T. (t, Fin mate edge vertex) ∷ T) (without-none S)
without-none ((t, Edge body) ∷ S) = ap (λ T. (t, Edge body) ∷ T) (without-none S)
without-none ((t, Vertex body point) ∷ S) = ap (λ T. (t, Vertex body point) ∷ T) (without-none S)
without-none ((t, Attr owner name value) ∷ S) = ap (λ T. (t, Attr owner name value) ∷ T) (without-none S)

-- From the map m of the shape S, n has the items xs written, and differs elsewhere only in where fins stand. The fins of
-- each loop that was not written stay as they are, and no fin that was is written.
pub written : (S : Shape) (m n : EntityMap) (xs : Items) → IsWell S → Represents S m → NoRepeats (tags_in xs) → AllByRecursion (λ x. NotAttr (class_of_item x.1)) xs
    → ((t : Tag) → NoneOf t (tags_in xs) → IsSameElsewhere m n t)
    → ((l face : Tag) (fins : List Tag) (vertex : Option Tag) → item_at S l ≡ Some (Loop face fins vertex) → NoneOf l (tags_in xs) → (f : Tag) → Contains fins f → get n f ≡ get m f)
    → ((f mate edge vertex : Tag) → item_at S f ≡ Some (Fin mate edge vertex) → NoneOf f (tags_in xs))
    → ((t : Tag) (x : Item) → Contains xs (t, x) → Shows (S with xs) n t x) → Represents (S with xs) n
written S m n xs well was once plain elsewhere loops edges shown =
    let same : S with xs without [] ≡ S with xs = without-none (S with xs) in
    subst (λ T. Represents T n) same
    (edited S m n n xs [] well was once tt tt plain (record { dead = tt; others = λ t h. refl }) elsewhere
    (λ l face fins vertex is none live f k. (tt, loops l face fins vertex is none f k))
    (λ f mate edge vertex is live. (edges f mate edge vertex is, tt))
    (subst (λ T. (t : Tag) (x : Item) → Contains xs (t, x) → Shows T n t x) (sym same) shown))

-- a loop that is put with the fins of a ring, which name it, is shown
pub ring-shown : (R : Shape) (n : EntityMap) (l face : Tag) (fins : List Tag) → get n l ≡ Some (entity.Loop face (first_tag (from_least fins)) None) → IsRing n fins
    → ((t : Tag) → Contains fins t → loop_named n t ≡ Some l) → Shows R n l (ring_of face fins)
ring-shown R n l face fins is ring named =
    (is, ring-least n fins ring, ByRecursion-contains (λ t. loop_named n t ≡ Some l) (from_least fins) (λ t k. named t (least-in t fins k)))
