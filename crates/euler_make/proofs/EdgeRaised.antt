-- One edge to a new vertex: mev from a fin. What it leaves of the fin's loop, and of what stands elsewhere.
use Rattle.std.proofs.Common.{◌≡◌, ◌≢◌, ℕ, ◌+◌, ◌<◌, ◌≤◌, ◌⊎◌, inl, inr, ⊎_elim, List, [], ◌∷◌, ◌++◌, length, take, drop, Option, Some, None, Ok, refl, sym, ap, subst, ◌∙◌, append_assoc, append-nil, arith}
use Rattle.std.specs.Prelude.{Contains, IsOk, option_map, unwrap_or}
use Rattle.std.specs.Option.{option_and_then, option_map_or}
use Rattle.std.specs.List.{AllByRecursion}
use Rattle.std.specs.FinMap.{get}
use Rattle.std.proofs.lemmas.List.Elements.{Contains-append_left}
use Rattle.pk_base.specs.declared.tag.Tag.{Tag}
use Rattle.pk_base.specs.declared.entity.Triple.{Triple}
use Rattle.pk_base.specs.declared.entity.Entity.{Entity}
use Rattle.pk_base.specs.declared.call.Call.TheVariants.{Mev}
use Rattle.pk_model.specs.Apart.{NoRepeats}
use Rattle.pk_model.specs.Tags.{TagsAscend, tag_at}
use Rattle.list_facts.proofs.Elements.{Contains-first, Contains-later, Contains-cases, Contains-only}
use Rattle.solid_model.specs.Items.{Item, Shape, item_at, ◌with◌}
use Rattle.solid_model.specs.Items.Item.{Loop, Fin}
use Rattle.solid_model.specs.Rings.{written_from, from_least, first_tag, next_in}
use Rattle.solid_model.specs.Owners.{fins_of, owner_in}
use Rattle.solid_model.specs.Rows.{Row, cost_of, ◌>>◌}
use Rattle.solid_model.specs.Places.{End, end_in, end_of_item, end_at, fins_at}
use Rattle.solid_model.specs.Ranges.{is_coordinate, numbers_of, refuse_outside}
use Rattle.solid_model.specs.Folds.{Progress, after_row}
use Rattle.solid_model.specs.Links.{links, entity_of}
use Rattle.solid_model.specs.Mev.{mev}
use Rattle.solid_model.specs.Room.{changed_by_mev, if_found, tags_put}
use Rattle.solid_model.specs.Rings.{ends_of, last_of}
use Rattle.pk_model.specs.Step.{◌>>=◌}
use Rattle.solid_model.proofs.lists.Neighbours.{head_or}
use Rattle.solid_model.proofs.lists.Cycles.{written-in, least-in, last_of-in}
use Rattle.solid_model.proofs.lists.Turned.{turned-least, turned-back, turned-in, turned-once}
use Rattle.solid_sound.proofs.shapes.Lookups.{with-other, with-written}
use Rattle.solid_sound.proofs.shapes.Reading.{fin_in, fins-once, loop-of_fin}
use Rattle.solid_sound.proofs.rows.RowKeeps.{IsWell, Keeps}
use Rattle.solid_sound.proofs.rows.Asked.{free_at, apart_at, get-links}
use Rattle.solid_sound.proofs.rows.KeptMev.{mev-keeps}
use Rattle.solid_sound.proofs.rows.Progress.{start}
use Rattle.halfedge.specs.LinkedRings.{as_fin, next_at}
use Rattle.euler_make.proofs.MevFound.{strut_items, mev_makes, mev_from}
use Rattle.euler_make.proofs.TurnedLists.{written-least}

-- The loop l has these fins, written from f.
pub record RoundFrom (S : Shape) (l f : Tag) (more : List Tag) : Type 0 where
  pub face : Tag
  pub list : List Tag
  pub loop_is : item_at S l ≡ Some (Loop face list None)
  pub round : written_from f list ≡ f ∷ more

-- What an edge from f leaves, in the loop l of the shape S, with these tags next, where g is the fin that comes after f
-- then.
pub record EdgeRaised (S : Shape) (ts : List Tag) (l f : Tag) (more : List Tag) (at : Triple) (g : Tag) (tail : List Tag) : Type 0 where
  pub goes : IsOk (mev S f at)
  pub shape : Shape
  pub after : after_row (mev S f at) (start S ts) ≡ record { shape = shape; tags = drop 4 ts }
  pub well : IsWell shape
  pub round : RoundFrom shape l g tail
  pub next : next_at (links shape) f ≡ Some g
  pub back : item_at shape (tag_at ts 3) ≡ Some (Fin (tag_at ts 2) (tag_at ts 1) (tag_at ts 0))
  pub olds : (t : Tag) (x : Item) → item_at S t ≡ Some x → t ≢ l → item_at shape t ≡ Some x
  pub fins : (t : Tag) → Contains (fins_at shape l) t → Contains (fins_at S l) t ⊎ Contains (tag_at ts 2 ∷ tag_at ts 3 ∷ []) t
  pub puts : (t : Tag) → Contains (tags_put S (Mev f at) ts) t → Contains (take 4 ts ++ l ∷ fins_at S l) t

module _ (S : Shape) (ts : List Tag) (well : IsWell S) (ascend : TagsAscend ts) (free : AllByRecursion (λ t. item_at S t ≡ None) ts) (enough : 4 ≤ length ts)
    (l f : Tag) (more : List Tag) (h : RoundFrom S l f more) (at : Triple) (within : refuse_outside is_coordinate (numbers_of at) ≡ None)
    (g : Tag) (tail : List Tag) (turned : more ++ tag_at ts 2 ∷ tag_at ts 3 ∷ f ∷ [] ≡ g ∷ tail) where
  abbrev out : Tag
  out = tag_at ts 2

  abbrev back : Tag
  back = tag_at ts 3

  abbrev new : List Tag
  new = out ∷ back ∷ f ∷ more

  in_list : (t : Tag) → Contains (f ∷ more) t → Contains h.list t
  in_list t k = written-in t f h.list (subst (λ us. Contains us t) (sym h.round) k)

  f_in : Contains h.list f
  f_in = in_list f (Contains-first f more)

  fins_are : fins_at S l ≡ h.list
  fins_are = ap (λ (o : Option Item). option_map_or fins_of o []) h.loop_is

  at_fin : (mate : Tag) × (edge : Tag) × (vertex : Tag) × (item_at S f ≡ Some (Fin mate edge vertex))
  at_fin = fin_in S well.written well.sound l h.face h.list None h.loop_is f f_in

  abbrev u : End
  u = end_in S at_fin.2 l (f ∷ more)

  end_is : end_at S f ≡ Ok u
  end_is =
      let owner = loop-of_fin S well.written well.sound l h.face h.list None h.loop_is f f_in in
      ap (end_of_item S f) at_fin.3 ∙ (λ j. Ok (end_in S at_fin.2 (owner j) (written_from f (fins_at S (owner j)))))
      ∙ ap (λ fs. Ok (end_in S at_fin.2 l fs)) (ap (written_from f) fins_are ∙ h.round)

  row : mev S f at ≡ mev_makes S at u
  row = ap (λ r. r >>= mev_from S at) end_is ∙ ap (λ o. o >> mev_makes S at u) within

  abbrev items : List (Tag × Item)
  items = strut_items u at (tag_at ts 0) (tag_at ts 1) out back

  abbrev R : Shape
  R = S with items

  reached_well : IsWell R
  reached_well = let keeps : Keeps ts (mev_makes S at u) = subst (Keeps ts) row (mev-keeps S ts f at well ascend free) in keeps enough

  new_other : (i : ℕ) (t : Tag) (x : Item) → i < 4 → item_at S t ≡ Some x → t ≢ tag_at ts i
  new_other i t x less is e = let both : Some x ≡ None = sym is ∙ ap (item_at S) e ∙ free_at S ts i free (omega (arith, less, enough)) in cc

  items_once : NoRepeats (tag_at ts 0 ∷ tag_at ts 1 ∷ out ∷ back ∷ l ∷ [])
  items_once =
      let apart = λ (i j : ℕ) (a : i < j) (b : j < 4). apart_at ts i j ascend a (omega (arith, b, enough)) in
      let other = λ (i : ℕ) (a : i < 4) (e : tag_at ts i ≡ l). new_other i l _ a h.loop_is (sym e) in (
        (apart 0 1 (omega arith) (omega arith), (apart 0 2 (omega arith) (omega arith), (apart 0 3 (omega arith) (omega arith), (other 0 (omega arith), tt)))),
        (
          (apart 1 2 (omega arith) (omega arith), (apart 1 3 (omega arith) (omega arith), (other 1 (omega arith), tt))),
          ((apart 2 3 (omega arith) (omega arith), (other 2 (omega arith), tt)), ((other 3 (omega arith), tt), (tt, tt))),
        ),
      )

  ring_is : item_at R l ≡ Some (Loop u.face (from_least new) None)
  ring_is = with-written S items _ _ items_once (4, omega arith, refl)

  list_is : fins_at R l ≡ from_least new
  list_is = ap (λ (o : Option Item). option_map_or fins_of o []) ring_is

  list_once : NoRepeats (from_least new)
  list_once = fins-once R reached_well.written reached_well.sound l u.face (from_least new) None ring_is

  new_once : NoRepeats new
  new_once = turned-once (from_least new) new (turned-back new (from_least new) (turned-least new)) list_once

  back_is : item_at R back ≡ Some (Fin out (tag_at ts 1) (tag_at ts 0))
  back_is = with-written S items _ _ items_once (3, omega arith, refl)

  old_is : (t : Tag) (x : Item) → item_at S t ≡ Some x → t ≢ l → item_at R t ≡ Some x
  old_is t x is other = with-other S items t
      (new_other 0 t x (omega arith) is, (new_other 1 t x (omega arith) is, (new_other 2 t x (omega arith) is, (new_other 3 t x (omega arith) is, (other, tt))))) ∙ is

  f_stays : item_at R f ≡ Some (Fin at_fin.0 at_fin.1 at_fin.2)
  f_stays = old_is f _ at_fin.3 (λ e. (let both : Some (Fin at_fin.0 at_fin.1 at_fin.2) ≡ Some (Loop h.face h.list None) = sym at_fin.3 ∙ ap (item_at S) e ∙ h.loop_is in cc))

  -- the ring, written from the fin after f
  turned_round : (more tail : List Tag) → more ++ out ∷ back ∷ f ∷ [] ≡ g ∷ tail → NoRepeats (out ∷ back ∷ f ∷ more) → written_from g (from_least (out ∷ back ∷ f ∷ more)) ≡ g ∷ tail
  turned_round [] tail e once =
      let same : out ≡ g = ap (head_or out) e in
      subst (λ x. written_from x (from_least (out ∷ back ∷ f ∷ [])) ≡ g ∷ tail) same
      (written-least out [] (back ∷ f ∷ []) once ∙ append-nil (out ∷ back ∷ f ∷ []) ∙ e)
  turned_round (x ∷ more) tail e once =
      let same : x ≡ g = ap (head_or out) e in
      subst (λ y. written_from y (from_least (out ∷ back ∷ f ∷ x ∷ more)) ≡ g ∷ tail) same
      (written-least x (out ∷ back ∷ f ∷ []) more once ∙ e)

  first_after : (more tail : List Tag) → more ++ out ∷ back ∷ f ∷ [] ≡ g ∷ tail → first_tag (more ++ out ∷ back ∷ []) ≡ Some g
  first_after [] tail e = ap first_tag e
  first_after (x ∷ more) tail e = ap first_tag e

  next_is : next_at (links R) f ≡ Some g
  next_is =
      let f_now : Contains (from_least new) f = turned-in new (from_least new) (turned-least new) f (Contains-later out (back ∷ f ∷ more) f (Contains-later back (f ∷ more) f (Contains-first f more))) in
      let owner = loop-of_fin R reached_well.written reached_well.sound l u.face (from_least new) None ring_is f f_now in
      let round : written_from f (from_least new) ≡ (f ∷ more) ++ out ∷ back ∷ [] = written-least f (out ∷ back ∷ []) more new_once in
      let next : next_in (fins_at R (owner_in R f)) f ≡ g =
      ap (λ t. next_in (fins_at R t) f) owner ∙ ap (λ us. next_in us f) list_is
      ∙ ap (λ us. unwrap_or (first_tag (drop 1 us)) f) round ∙ ap (λ o. unwrap_or o f) (first_after more tail turned) in
      ap (λ (o : Option Entity). option_map (λ x. x.next) (option_and_then as_fin o)) (get-links R f reached_well.written.ascends ∙ ap (option_map (entity_of R f)) f_stays) ∙ ap Some next

  in_new : (t : Tag) → Contains (fins_at R l) t → Contains (fins_at S l) t ⊎ Contains (out ∷ back ∷ []) t
  in_new t k =
      let here : Contains new t = least-in t new (subst (λ us. Contains us t) list_is k) in
      ⊎_elim {C = Contains (fins_at S l) t ⊎ Contains (out ∷ back ∷ []) t}
      (λ (e : out ≡ t). inr (subst (Contains (out ∷ back ∷ [])) e (Contains-first out (back ∷ []))))
      (λ (r : Contains (back ∷ f ∷ more) t). ⊎_elim {C = Contains (fins_at S l) t ⊎ Contains (out ∷ back ∷ []) t}
      (λ (e : back ≡ t). inr (Contains-later out (back ∷ []) t (subst (Contains (back ∷ [])) e (Contains-first back []))))
      (λ (q : Contains (f ∷ more) t). inl (subst (λ us. Contains us t) (sym fins_are) (in_list t q)))
      (Contains-cases back (f ∷ more) t r))
      (Contains-cases out (back ∷ f ∷ more) t here)

  put_in : (t : Tag) → Contains (tags_put S (Mev f at) ts) t → Contains (take 4 ts ++ l ∷ fins_at S l) t
  put_in t k =
      let cost : cost_of (mev S f at) ≡ 4 = ap cost_of row in
      let is : tags_put S (Mev f at) ts ≡ take 4 ts ++ l ∷ f ∷ last_of f more ∷ [] = λ i. take (cost i) ts ++ if_found changed_by_mev (end_is i) in
      let in_fins = λ (x : Tag) (q : Contains (f ∷ more) x). subst (λ us. Contains us x) (sym fins_are) (in_list x q) in
      put_among (take 4 ts) (in_fins f (Contains-first f more)) (in_fins (last_of f more) (last_of-in f more)) (subst (λ us. Contains us t) is k)
    where
      put_among : (us : List Tag) → Contains (fins_at S l) f → Contains (fins_at S l) (last_of f more) → Contains (us ++ l ∷ f ∷ last_of f more ∷ []) t → Contains (us ++ l ∷ fins_at S l) t
      put_among [] a b k = ⊎_elim {C = Contains (l ∷ fins_at S l) t} (λ (e : l ≡ t). subst (Contains (l ∷ fins_at S l)) e (Contains-first l (fins_at S l)))
          (λ (r : Contains (f ∷ last_of f more ∷ []) t). Contains-later l (fins_at S l) t (⊎_elim {C = Contains (fins_at S l) t}
          (λ (e : f ≡ t). subst (Contains (fins_at S l)) e a)
          (λ (q : Contains (last_of f more ∷ []) t). subst (Contains (fins_at S l)) (Contains-only (last_of f more) t q) b)
          (Contains-cases f (last_of f more ∷ []) t r))) (Contains-cases l (f ∷ last_of f more ∷ []) t k)
      put_among (x ∷ us) a b k = ⊎_elim {C = Contains (x ∷ us ++ l ∷ fins_at S l) t} (λ (e : x ≡ t). subst (Contains (x ∷ us ++ l ∷ fins_at S l)) e (Contains-first x (us ++ l ∷ fins_at S l)))
          (λ (r : Contains (us ++ l ∷ f ∷ last_of f more ∷ []) t). Contains-later x (us ++ l ∷ fins_at S l) t (put_among us a b r)) (Contains-cases x (us ++ l ∷ f ∷ last_of f more ∷ []) t k)

  pub edge-raised : EdgeRaised S ts l f more at g tail
  edge-raised = record {
    goes = subst (λ (r : Row). IsOk r) (sym row) refl;
    shape = R;
    after = ap (λ r. after_row r (start S ts)) row;
    well = reached_well;
    round = record { face = u.face; list = from_least new; loop_is = ring_is; round = turned_round more tail turned new_once };
    next = next_is;
    back = back_is;
    olds = old_is;
    fins = in_new;
    puts = put_in;
  }
