-- One cut: mef from a fin to another of its loop. What it leaves of the loop, and of what stands elsewhere.
use Rattle.std.proofs.Common.{◌≡◌, ◌≢◌, ℕ, ◌+◌, ◌<◌, ◌≤◌, ◌⊎◌, inl, inr, ⊎_elim, true, false, not, List, [], ◌∷◌, ◌++◌, length, take, drop, Option, Some, None, Ok, refl, sym, ap, subst, ◌∙◌, append-nil, arith}
use Rattle.std.specs.Prelude.{map, Contains, IsOk}
use Rattle.std.specs.Option.{option_map_or}
use Rattle.std.specs.List.{AllByRecursion}
use Rattle.std.proofs.lemmas.List.{map-append}
use Rattle.std.proofs.lemmas.List.Elements.{Contains-append_left, Contains-append_right}
use Rattle.pk_base.specs.Blocks.{tag}
use Rattle.pk_base.specs.Entity.{same_tag}
use Rattle.pk_base.specs.declared.tag.Tag.{Tag}
use Rattle.pk_base.specs.declared.call.Call.TheVariants.{Mef}
use Rattle.pk_base.specs.declared.refusal.Refusal.TheVariants.{NotOneLoop, SameVertex}
use Rattle.pk_base.proofs.Same.{same_itself, not_same}
use Rattle.pk_model.specs.Apart.{NoRepeats}
use Rattle.pk_model.specs.Tags.{TagsAscend, tag_at}
use Rattle.list_facts.proofs.Elements.{Contains-first, Contains-later, Contains-cases, Contains-only}
use Rattle.list_facts.proofs.Each.{ByRecursion-contains}
use Rattle.solid_model.specs.Items.{Item, Shape, item_at, ◌with◌}
use Rattle.solid_model.specs.Items.Item.{Loop, Fin}
use Rattle.solid_model.specs.Rings.{from, written_from, from_least, ring_of}
use Rattle.solid_model.specs.Owners.{fins_of}
use Rattle.solid_model.specs.Rows.{Row, cost_of, refuse_where, ◌>>◌}
use Rattle.solid_model.specs.Rows.Effect.{Makes}
use Rattle.solid_model.specs.Places.{PlacedFin, placed_fin, as_fin, fin_at, fins_at, start_at, vertex_of, asked}
use Rattle.solid_model.specs.Folds.{Progress, after_row}
use Rattle.solid_model.specs.Mef.{mef}
use Rattle.solid_model.specs.Room.{changed_by_mef, if_found, tags_put}
use Rattle.solid_model.proofs.Reading.{not_before}
use Rattle.solid_model.proofs.lists.Neighbours.{parts_at}
use Rattle.solid_model.proofs.lists.Cycles.{once-written, once-turned, written-in, least-in}
use Rattle.solid_model.proofs.lists.Turned.{turned-least, turned-back, turned-once}
use Rattle.solid_sound.proofs.shapes.Lookups.{with-other, with-written}
use Rattle.solid_sound.proofs.shapes.Reading.{fin_in, fins-once, loop-of_fin}
use Rattle.solid_sound.proofs.rows.RowKeeps.{IsWell, Keeps}
use Rattle.solid_sound.proofs.rows.Asked.{free_at, apart_at}
use Rattle.solid_sound.proofs.rows.KeptMef.{mef-keeps}
use Rattle.solid_sound.proofs.rows.Progress.{start}
use Rattle.euler_make.specs.Cutting.{Stand, StandFrom}
use Rattle.euler_make.proofs.MefFound.{mef_items, mef_makes, mef_after, mef-asked}
use Rattle.euler_make.proofs.TurnedLists.{written-least, stand-both, stand-one, stand-in}

-- What a cut from c to d leaves, in the loop l of the shape S, with these tags next, where these fins come behind d.
pub record CutMade (S : Shape) (ts : List Tag) (l c d : Tag) (cs : List Tag) : Type 0 where
  pub goes : IsOk (mef S c d)
  pub shape : Shape
  pub after : after_row (mef S c d) (start S ts) ≡ record { shape = shape; tags = drop 5 ts }
  pub well : IsWell shape
  pub stand : StandFrom shape l d (cs ++ tag_at ts 4 ∷ [])
  pub apart : NoRepeats (map (start_at S) (c ∷ d ∷ cs)) → NoRepeats (map (start_at shape) (d ∷ cs ++ tag_at ts 4 ∷ []))
  pub fins : (t : Tag) → Contains (fins_at shape l) t → Contains (fins_at S l) t ⊎ (t ≡ tag_at ts 4)
  pub puts : (t : Tag) → Contains (tags_put S (Mef c d) ts) t → Contains (take 5 ts ++ l ∷ fins_at S l) t

module _ (S : Shape) (ts : List Tag) (well : IsWell S) (ascend : TagsAscend ts) (free : AllByRecursion (λ t. item_at S t ≡ None) ts) (enough : 5 ≤ length ts)
    (l c d : Tag) (cs : List Tag) (h : StandFrom S l c (d ∷ cs)) (differ : start_at S c ≢ start_at S d) where
  abbrev ahead : List Tag
  ahead = c ∷ h.stand.0

  abbrev behind : List Tag
  behind = h.stand.1

  abbrev new : List Tag
  new = (d ∷ behind) ++ tag_at ts 4 ∷ []

  round_is : written_from c h.list ≡ ahead ++ d ∷ behind
  round_is = h.round ∙ ap (λ us. c ∷ us) h.stand.2

  round_once : NoRepeats (ahead ++ d ∷ behind)
  round_once = subst NoRepeats round_is (once-written c h.list (fins-once S well.written well.sound l h.face h.list None h.loop_is))

  in_list : (t : Tag) → Contains (ahead ++ d ∷ behind) t → Contains h.list t
  in_list t k = written-in t c h.list (subst (λ us. Contains us t) (sym round_is) k)

  c_in : Contains h.list c
  c_in = in_list c (Contains-first c (h.stand.0 ++ d ∷ behind))

  behind_in : (t : Tag) → Contains (d ∷ behind) t → Contains h.list t
  behind_in t k = in_list t (Contains-append_right ahead (d ∷ behind) t k)

  d_in : Contains h.list d
  d_in = behind_in d (Contains-first d behind)

  fins_are : fins_at S l ≡ h.list
  fins_are = ap (λ (o : Option Item). option_map_or fins_of o []) h.loop_is

  at_fin : (t : Tag) → Contains h.list t → (mate : Tag) × (edge : Tag) × (vertex : Tag) × (item_at S t ≡ Some (Fin mate edge vertex))
  at_fin t k = fin_in S well.written well.sound l h.face h.list None h.loop_is t k

  abbrev u : PlacedFin
  u = placed_fin S c (at_fin c c_in).0 (at_fin c c_in).1 (at_fin c c_in).2 l

  abbrev v : PlacedFin
  v = placed_fin S d (at_fin d d_in).0 (at_fin d d_in).1 (at_fin d d_in).2 l

  fin_is : (t : Tag) (k : Contains h.list t) → fin_at S t ≡ Ok (placed_fin S t (at_fin t k).0 (at_fin t k).1 (at_fin t k).2 l)
  fin_is t k = let f = at_fin t k in
      let owner = loop-of_fin S well.written well.sound l h.face h.list None h.loop_is t k in
      ap (asked (as_fin S t) t) f.3 ∙ (λ j. Ok (placed_fin S t f.0 f.1 f.2 (owner j)))

  starts : (t : Tag) (k : Contains h.list t) → start_at S t ≡ (at_fin t k).2
  starts t k = ap (λ (o : Option Item). option_map_or vertex_of o (tag 0)) (at_fin t k).3

  row : mef S c d ≡ mef_makes S d u v
  row =
      let one = same_itself l in
      let two = not_same u.vertex v.vertex (λ e. differ (starts c c_in ∙ e ∙ sym (starts d d_in))) in
      mef-asked S c d u v (fin_is c c_in) (fin_is d d_in)
      ∙ ap (λ b. refuse_where (not b) (NotOneLoop l l) >> (refuse_where (same_tag u.vertex v.vertex) (SameVertex u.vertex) >> mef_makes S d u v)) one
      ∙ ap (λ b. refuse_where b (SameVertex u.vertex) >> mef_makes S d u v) two

  abbrev items : List (Tag × Item)
  items = mef_items u d v.vertex (tag_at ts 0) (tag_at ts 1) (tag_at ts 2) (tag_at ts 3) (tag_at ts 4)

  abbrev R : Shape
  R = S with items

  reached_well : IsWell R
  reached_well = let keeps : Keeps ts (mef_makes S d u v) = subst (Keeps ts) row (mef-keeps S ts c d well ascend free) in keeps enough

  new_other : (i : ℕ) (t : Tag) (x : Item) → i < 5 → item_at S t ≡ Some x → t ≢ tag_at ts i
  new_other i t x less is e = let both : Some x ≡ None = sym is ∙ ap (item_at S) e ∙ free_at S ts i free (omega (arith, less, enough)) in cc

  items_once : NoRepeats (tag_at ts 0 ∷ tag_at ts 1 ∷ tag_at ts 2 ∷ tag_at ts 3 ∷ tag_at ts 4 ∷ l ∷ [])
  items_once =
      let apart = λ (i j : ℕ) (a : i < j) (b : j < 5). apart_at ts i j ascend a (omega (arith, b, enough)) in
      let other = λ (i : ℕ) (a : i < 5) (e : tag_at ts i ≡ l). new_other i l _ a h.loop_is (sym e) in (
        (apart 0 1 (omega arith) (omega arith), (apart 0 2 (omega arith) (omega arith), (apart 0 3 (omega arith) (omega arith), (apart 0 4 (omega arith) (omega arith), (other 0 (omega arith), tt))))),
        (
          (apart 1 2 (omega arith) (omega arith), (apart 1 3 (omega arith) (omega arith), (apart 1 4 (omega arith) (omega arith), (other 1 (omega arith), tt)))),
          (
            (apart 2 3 (omega arith) (omega arith), (apart 2 4 (omega arith) (omega arith), (other 2 (omega arith), tt))),
            ((apart 3 4 (omega arith) (omega arith), (other 3 (omega arith), tt)), ((other 4 (omega arith), tt), (tt, tt))),
          ),
        ),
      )

  from_is : from d u.fins ≡ d ∷ behind
  from_is = ap (λ us. from d (written_from c us)) fins_are ∙ ap (from d) round_is ∙ (parts_at d ahead behind (not_before d ahead behind round_once)).1

  ring_is : item_at R l ≡ Some (Loop u.face (from_least new) None)
  ring_is = with-written S items _ _ items_once (5, omega arith, refl) ∙ ap (λ us. Some (ring_of u.face (us ++ tag_at ts 4 ∷ []))) from_is

  new_once : NoRepeats new
  new_once = turned-once (from_least new) new (turned-back new (from_least new) (turned-least new)) (fins-once R reached_well.written reached_well.sound l u.face (from_least new) None ring_is)

  old_is : (t : Tag) (x : Item) → item_at S t ≡ Some x → t ≢ l → item_at R t ≡ Some x
  old_is t x is other = with-other S items t
      (new_other 0 t x (omega arith) is, (new_other 1 t x (omega arith) is, (new_other 2 t x (omega arith) is, (new_other 3 t x (omega arith) is, (new_other 4 t x (omega arith) is, (other, tt)))))) ∙ is

  y_is : item_at R (tag_at ts 4) ≡ Some (Fin (tag_at ts 3) (tag_at ts 2) u.vertex)
  y_is = with-written S items _ _ items_once (4, omega arith, refl)

  start_same : (t : Tag) → Contains h.list t → start_at R t ≡ start_at S t
  start_same t k =
      let f = at_fin t k in
      let no_loop : t ≢ l = λ e. (let both : Some (Fin f.0 f.1 f.2) ≡ Some (Loop h.face h.list None) = sym f.3 ∙ ap (item_at S) e ∙ h.loop_is in cc) in
      ap (λ (o : Option Item). option_map_or vertex_of o (tag 0)) (old_is t _ f.3 no_loop) ∙ sym (starts t k)

  starts_same : (us : List Tag) → AllByRecursion (Contains h.list) us → map (start_at R) us ≡ map (start_at S) us
  starts_same [] k = refl
  starts_same (t ∷ us) k = λ i. start_same t k.0 i ∷ starts_same us k.1 i

  cs_in : AllByRecursion (Contains h.list) (d ∷ cs)
  cs_in = (d_in, ByRecursion-contains (Contains h.list) cs (λ t k. behind_in t (Contains-later d behind t (stand-in cs behind t h.stand.3 k))))

  starts_turned : NoRepeats (map (start_at S) (c ∷ d ∷ cs)) → NoRepeats (map (start_at R) (d ∷ cs ++ tag_at ts 4 ∷ []))
  starts_turned once =
      let y_start : start_at R (tag_at ts 4) ≡ start_at S c = ap (λ (o : Option Item). option_map_or vertex_of o (tag 0)) y_is ∙ sym (starts c c_in) in
      let same : map (start_at R) (d ∷ cs ++ tag_at ts 4 ∷ []) ≡ map (start_at S) (d ∷ cs) ++ start_at S c ∷ [] =
      map-append (start_at R) (d ∷ cs) (tag_at ts 4 ∷ []) ∙ (λ i. starts_same (d ∷ cs) cs_in i ++ y_start i ∷ []) in
      subst NoRepeats (sym same) (once-turned (start_at S c ∷ []) (map (start_at S) (d ∷ cs)) once)

  in_new : (t : Tag) → Contains (fins_at R l) t → Contains (fins_at S l) t ⊎ (t ≡ tag_at ts 4)
  in_new t k =
      let here : Contains new t = least-in t new (subst (λ us. Contains us t) (ap (λ (o : Option Item). option_map_or fins_of o []) ring_is) k) in
      apart_in (d ∷ behind) here (λ j. subst (λ us. Contains us t) (sym fins_are) (behind_in t j))
    where
      apart_in : (us : List Tag) → Contains (us ++ tag_at ts 4 ∷ []) t → (Contains us t → Contains (fins_at S l) t) → Contains (fins_at S l) t ⊎ (t ≡ tag_at ts 4)
      apart_in [] k was = inr (sym (Contains-only (tag_at ts 4) t k))
      apart_in (x ∷ us) k was = ⊎_elim {C = Contains (fins_at S l) t ⊎ (t ≡ tag_at ts 4)}
          (λ (e : x ≡ t). inl (was (subst (Contains (x ∷ us)) e (Contains-first x us))))
          (λ (r : Contains (us ++ tag_at ts 4 ∷ []) t). apart_in us r (λ j. was (Contains-later x us t j)))
          (Contains-cases x (us ++ tag_at ts 4 ∷ []) t k)

  put_in : (t : Tag) → Contains (tags_put S (Mef c d) ts) t → Contains (take 5 ts ++ l ∷ fins_at S l) t
  put_in t k =
      let cost : cost_of (mef S c d) ≡ 5 = ap cost_of row in
      let is : tags_put S (Mef c d) ts ≡ take 5 ts ++ l ∷ u.fins = λ i. take (cost i) ts ++ if_found changed_by_mef (fin_is c c_in i) in
      put_among (take 5 ts) (subst (λ us. Contains us t) is k)
    where
      put_among : (us : List Tag) → Contains (us ++ l ∷ u.fins) t → Contains (us ++ l ∷ fins_at S l) t
      put_among [] k = ⊎_elim {C = Contains (l ∷ fins_at S l) t} (λ (e : l ≡ t). subst (Contains (l ∷ fins_at S l)) e (Contains-first l (fins_at S l)))
          (λ (r : Contains u.fins t). Contains-later l (fins_at S l) t (written-in t c (fins_at S l) r)) (Contains-cases l u.fins t k)
      put_among (x ∷ us) k = ⊎_elim {C = Contains (x ∷ us ++ l ∷ fins_at S l) t} (λ (e : x ≡ t). subst (Contains (x ∷ us ++ l ∷ fins_at S l)) e (Contains-first x (us ++ l ∷ fins_at S l)))
          (λ (r : Contains (us ++ l ∷ u.fins) t). Contains-later x (us ++ l ∷ fins_at S l) t (put_among us r)) (Contains-cases x (us ++ l ∷ u.fins) t k)

  pub cut-made : CutMade S ts l c d cs
  cut-made = record {
    goes = subst (λ (r : Row). IsOk r) (sym row) refl;
    shape = R;
    after = ap (λ r. after_row r (start S ts)) row;
    well = reached_well;
    stand = record {
      face = u.face;
      list = from_least new;
      loop_is = ring_is;
      rest = behind ++ tag_at ts 4 ∷ [];
      round = written-least d [] (behind ++ tag_at ts 4 ∷ []) new_once ∙ append-nil (d ∷ behind ++ tag_at ts 4 ∷ []);
      stand = stand-both cs (tag_at ts 4 ∷ []) behind (tag_at ts 4 ∷ []) h.stand.3 (stand-one (tag_at ts 4) [] []);
    };
    apart = starts_turned;
    fins = in_new;
    puts = put_in;
  }
