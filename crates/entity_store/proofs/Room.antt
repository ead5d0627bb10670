-- Room to record puts: for how many tags it lasts, and how much is left of it after puts.
use Rattle.std.proofs.Common.{◌≡◌, ◌≢◌, ℕ, ◌≤◌, ⊎_elim, true, false, cond, List, [], ◌∷◌, ◌++◌, length, Option, refl, sym, ap, subst, ◌∙◌, append-nil, append_assoc, length-append, arith}
use Rattle.std.specs.Prelude.{map, nat_lt, Contains}
use Rattle.std.specs.List.{AllByRecursion}
use Rattle.std.proofs.lemmas.Bool.{cases_Bool, true≢false, or_left, or_right, or_parts, lt-ltb}
use Rattle.std.proofs.lemmas.List.Elements.{Contains-append_left, Contains-append_right, Contains-append_cases}
use Rattle.std.proofs.lemmas.List.{map-append}
use Rattle.std.proofs.lemmas.List.Folds.{list_any-append}
use Rattle.pk_base.specs.Entity.{same_tag}
use Rattle.pk_base.specs.declared.tag.Tag.{Tag}
use Rattle.pk_base.specs.declared.entity.Entity.{Entity}
use Rattle.pk_model.specs.Apart.{NoRepeats}
use Rattle.pk_model.proofs.TagLists.{NoRepeats-append, NoneOf}
use Rattle.entity_store.specs.Recording.{Recording, has_put, recorded_put, room_left, HasRoomFor}
use Rattle.entity_store.specs.Recorder.{Records, began}
use Rattle.entity_store.specs.Store.{StoreView}
use Rattle.pk_base.proofs.Same.{same_itself}
use Rattle.list_facts.proofs.Elements.{around, not_in_nil, Contains-cases}
use Rattle.list_facts.proofs.Each.{ByRecursion-append, ByRecursion-weaker, ByRecursion-map, ByRecursion-contains, ByRecursion-at}
use Rattle.entity_store.specs.Room.{HasRoomForThese, IsUnput, PutsAmong}

-- ---- as many as there is room for

-- different tags that all stand in a list are no more than the list has
pub no_more-different : (us ts : List Tag) → NoRepeats us → AllByRecursion (Contains ts) us → length us ≤ length ts
no_more-different [] ts once among = omega arith
no_more-different (u ∷ us) ts once among =
    let p = around u ts among.0 in
    let rest : AllByRecursion (Contains (p.ahead ++ p.behind)) us = ByRecursion-contains _ us (λ v h. left_out v p.ahead p.behind (ByRecursion-at (λ w. u ≢ w) us v once.0 h) (subst (λ l. Contains l v) p.is (ByRecursion-at (Contains ts) us v among.1 h))) in
    let fewer : length us ≤ length (p.ahead ++ p.behind) = no_more-different us (p.ahead ++ p.behind) once.1 rest in
    let whole : length ts ≡ length (p.ahead ++ u ∷ p.behind) = ap length p.is in
    omega (arith, length-append p.ahead p.behind, length-append p.ahead (u ∷ p.behind))
  where
    left_out : (v : Tag) (pre post : List Tag) → u ≢ v → Contains (pre ++ u ∷ post) v → Contains (pre ++ post) v
    left_out v pre post other h =
        ⊎_elim (λ (l : Contains pre v). Contains-append_left pre post v l)
        (λ (r : Contains (u ∷ post) v).
        ⊎_elim (λ (e : u ≡ v). absurd (other e)) (λ (k : Contains post v). Contains-append_right pre post v k) (Contains-cases u post v r))
        (Contains-append_cases pre (u ∷ post) v h)

pub room-of_length : (r : Recording) (ts : List Tag) → length ts ≤ room_left r → HasRoomForThese r ts
room-of_length r ts fits = λ us once unput.
    let fewer : length us ≤ length ts = no_more-different us ts once (ByRecursion-weaker (IsUnput r ts) (Contains ts) (λ t h. h.among) us unput) in
    omega arith

pub room-part : (r : Recording) (ts us : List Tag) → HasRoomForThese r ts → ((t : Tag) → Contains us t → Contains ts t) → HasRoomForThese r us
room-part r ts us room part = λ vs once unput. room vs once (ByRecursion-weaker (IsUnput r us) (IsUnput r ts) (λ t h. record { among = part t h.among; new = h.new }) vs unput)

pub room-for_one : (r : Recording) (ts : List Tag) (t : Tag) → HasRoomForThese r ts → Contains ts t → HasRoomFor r t
room-for_one r ts t room among =
    ⊎_elim (λ (l : has_put r.first t ≡ true). or_left (has_put r.first t) (nat_lt (length r.first) r.room) l)
    (λ (n : has_put r.first t ≡ false).
    let one = room (t ∷ []) (tt, tt) (record { among = among; new = n }, tt) in
    or_right (has_put r.first t) (nat_lt (length r.first) r.room) (lt-ltb (length r.first) r.room (omega (arith, one))))
    (cases_Bool (has_put r.first t))

-- ---- what was put

-- what was not put before nor now
unput_parts : (ps qs ws : List (Tag × Option Entity)) (t : Tag) → ws ≡ ps ++ qs → has_put ws t ≡ false → (has_put ps t ≡ false) × (has_put qs t ≡ false)
unput_parts ps qs ws t is h = or_parts (has_put ps t) (has_put qs t) (sym (ap (λ l. has_put l t) is ∙ list_any-append (λ p. same_tag p.0 t) ps qs) ∙ h)

put_among : (ps : List (Tag × Option Entity)) (t : Tag) → Contains (map (λ p. p.0) ps) t → has_put ps t ≡ true
put_among [] t h = absurd (not_in_nil t h)
put_among (p ∷ ps) t h =
    ⊎_elim (λ (e : p.0 ≡ t). or_left (same_tag p.0 t) (has_put ps t) (subst (λ u. same_tag p.0 u ≡ true) e (same_itself p.0)))
    (λ (k : Contains (map (λ q. q.0) ps) t). or_right (same_tag p.0 t) (has_put ps t) (put_among ps t k))
    (Contains-cases p.0 (map (λ q. q.0) ps) t h)

-- one that was not put is none that was
apart_from_put : (ps : List (Tag × Option Entity)) (t u : Tag) → has_put ps t ≡ false → Contains (map (λ p. p.0) ps) u → t ≢ u
apart_from_put ps t u none among e = true≢false (sym (ap (has_put ps) e ∙ put_among ps u among) ∙ none)

length-tags : (ps : List (Tag × Option Entity)) → length (map (λ p. p.0) ps) ≡ length ps
length-tags [] = refl
length-tags (p ∷ ps) = omega (arith, length-tags ps)

among_tags : (ts : List Tag) (a b : StoreView) (p : PutsAmong ts a b) → AllByRecursion (IsUnput a.recording ts) (map (λ p. p.0) p.more)
among_tags ts a b p = ByRecursion-map (λ q. IsUnput a.recording ts q.0) (IsUnput a.recording ts) (λ q. q.0) (λ q h. h) p.more p.unput

pub room-after : (ts us : List Tag) (a b : StoreView) → HasRoomForThese a.recording ts → PutsAmong us a b → ((t : Tag) → Contains us t → Contains ts t) → HasRoomForThese b.recording ts
room-after ts us a b room p part = λ vs once unput.
    let put : List Tag = map (λ q. q.0) p.more in
    let parts_of = λ (t : Tag) (h : IsUnput b.recording ts t). unput_parts a.recording.first p.more b.recording.first t p.recorded h.new in
    let apart = ByRecursion-contains (λ v. NoneOf v put) vs (λ v h. ByRecursion-contains (λ u. v ≢ u) put (λ u k. apart_from_put p.more v u (parts_of v (ByRecursion-at (IsUnput b.recording ts) vs v unput h)).1 k)) in
    let unput_vs : AllByRecursion (IsUnput a.recording ts) vs = ByRecursion-weaker (IsUnput b.recording ts) (IsUnput a.recording ts) (λ t h. record { among = h.among; new = (parts_of t h).0 }) vs unput in
    let unput_put : AllByRecursion (IsUnput a.recording ts) put = ByRecursion-weaker (IsUnput a.recording us) (IsUnput a.recording ts) (λ t h. record { among = part t h.among; new = h.new }) put (among_tags us a b p) in
    let fits = room (vs ++ put) (NoRepeats-append vs put once p.once apart) (ByRecursion-append (IsUnput a.recording ts) vs put unput_vs unput_put) in
    let longer : length b.recording.first ≡ length (a.recording.first ++ p.more) = ap length p.recorded in
    let same : b.recording.room ≡ a.recording.room = p.room in
    omega (arith, fits, length-append vs put, length-tags p.more, length-append a.recording.first p.more)

-- ---- puts among tags

pub puts-none : (ts : List Tag) (s : StoreView) → PutsAmong ts s s
puts-none ts s = record {
  began = refl;
  room = refl;
  more = [];
  recorded = sym (append-nil s.recording.first);
  once = tt;
  unput = tt;
}

pub puts-one : (ts : List Tag) (a b : StoreView) (t : Tag) (before : Option Entity) → Contains ts t → began b ≡ began a → b.recording ≡ record a.recording { first = recorded_put a.recording.first t before } → PutsAmong ts a b
puts-one ts a b t before among began_is is =
    ⊎_elim (λ (l : has_put a.recording.first t ≡ true). record {
      began = began_is;
      room = ap (λ (r : Recording). r.room) is;
      more = [];
      recorded = ap (λ (r : Recording). r.first) is ∙ ap (λ c. cond c a.recording.first (a.recording.first ++ (t, before) ∷ [])) l ∙ sym (append-nil a.recording.first);
      once = tt;
      unput = tt;
    })
    (λ (n : has_put a.recording.first t ≡ false). record {
      began = began_is;
      room = ap (λ (r : Recording). r.room) is;
      more = (t, before) ∷ [];
      recorded = ap (λ (r : Recording). r.first) is ∙ ap (λ c. cond c a.recording.first (a.recording.first ++ (t, before) ∷ [])) n;
      once = (tt, tt);
      unput = (record { among = among; new = n }, tt);
    })
    (cases_Bool (has_put a.recording.first t))

pub puts-then : (ts : List Tag) (a b c : StoreView) → PutsAmong ts a b → PutsAmong ts b c → PutsAmong ts a c
puts-then ts a b c p q =
    let put : List Tag = map (λ x. x.0) p.more in
    let then : List Tag = map (λ x. x.0) q.more in
    let parts_of = λ (t : Tag) (h : IsUnput b.recording ts t). unput_parts a.recording.first p.more b.recording.first t p.recorded h.new in
    let apart = ByRecursion-contains (λ v. NoneOf v then) put (λ v h. ByRecursion-contains (λ u. v ≢ u) then (λ u k e. apart_from_put p.more u v (parts_of u (ByRecursion-at (IsUnput b.recording ts) then u (among_tags ts b c q) k)).1 h (sym e))) in
    record {
      began = q.began ∙ p.began;
      room = q.room ∙ p.room;
      more = p.more ++ q.more;
      recorded = q.recorded ∙ ap (λ l. l ++ q.more) p.recorded ∙ append_assoc a.recording.first p.more q.more;
      once = subst NoRepeats (sym (map-append (λ x. x.0) p.more q.more)) (NoRepeats-append put then p.once q.once apart);
      unput = ByRecursion-append (λ x. IsUnput a.recording ts x.0) p.more q.more p.unput (ByRecursion-weaker (λ x. IsUnput b.recording ts x.0) (λ x. IsUnput a.recording ts x.0) (λ x h. record { among = h.among; new = (parts_of x.0 h).0 }) q.more q.unput);
    }

pub puts-wider : (ts us : List Tag) (a b : StoreView) → PutsAmong ts a b → ((t : Tag) → Contains ts t → Contains us t) → PutsAmong us a b
puts-wider ts us a b p part = record {
  began = p.began;
  room = p.room;
  more = p.more;
  recorded = p.recorded;
  once = p.once;
  unput = ByRecursion-weaker (λ x. IsUnput a.recording ts x.0) (λ x. IsUnput a.recording us x.0) (λ x h. record { among = part x.0 h.among; new = h.new }) p.more p.unput;
}

pub records-of : (ts : List Tag) (n : ℕ) (a b : StoreView) → PutsAmong ts a b → length ts ≤ n → Records n a b
records-of ts n a b p fits =
    let put : List Tag = map (λ x. x.0) p.more in
    let fewer : length put ≤ length ts = no_more-different put ts p.once (ByRecursion-weaker (IsUnput a.recording ts) (Contains ts) (λ t h. h.among) put (among_tags ts a b p)) in
    let longer : length b.recording.first ≡ length (a.recording.first ++ p.more) = ap length p.recorded in
    record {
      began = p.began;
      room = p.room;
      puts = omega (arith, length-tags p.more, length-append a.recording.first p.more);
    }
