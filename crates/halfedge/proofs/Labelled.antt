-- The fins of a ring get another loop, one after the other.
use Rattle.std.proofs.Common.{◌≡◌, ◌≢◌, ◌<◌, ⊎_elim, List, [], ◌∷◌, ◌++◌, Option, Some, sym, ap, subst, ◌∙◌}
use Rattle.std.specs.Prelude.{IsSome, IsTrue, Contains, option_map}
use Rattle.std.specs.Option.{option_and_then}
use Rattle.std.specs.FinMap.{get}
use Rattle.std.proofs.lemmas.List.Elements.{Contains-append_left, Contains-append_right, Contains-append_cases}
use Rattle.pk_base.specs.declared.tag.Tag.{Tag}
use Rattle.pk_base.specs.declared.entity.Entity.{Entity}
use Rattle.pk_model.specs.Tags.{owns}
use Rattle.pk_model.specs.Apart.{NoRepeats}
use Rattle.pk_model.specs.Maps.{EntityMap}
use Rattle.entity_store.specs.Store.{Stored, StoreView}
use Rattle.solid_model.proofs.lists.Neighbours.{head_or}
use Rattle.solid_model.proofs.Reading.{not_before}
use Rattle.halfedge.specs.LinkedRings.{IsInRing, Relabels, as_fin, in_loop, next_at, ring_at}
use Rattle.entity_store.specs.Room.{HasRoomForThese, PutsAmong}
use Rattle.halfedge.proofs.LinkedRings.{in-ring_starts}
use Rattle.entity_store.proofs.Room.{room-part, puts-wider}
use Rattle.list_facts.proofs.Elements.{Contains-cases}
use Rattle.halfedge.proofs.Among.{has-one, puts-both, room-next}
use Rattle.halfedge.proofs.RingFins.{starts-ring}
use Rattle.halfedge.proofs.FinLinks.{only_one}
use Rattle.halfedge.proofs.Walks.{Walked, rest_of, to_come, walk-first, none-passed, walk-on, walk-in, walk-live, walk-less, walk-back}

-- more fins get the loop, of which none had it yet
relabels-more : (a b c : EntityMap) (xs ys : List Tag) (to : Tag) → Relabels a xs to b → Relabels b ys to c → ((t : Tag) → Contains xs t → ¬ (Contains ys t)) → Relabels a (xs ++ ys) to c
relabels-more a b c xs ys to one other apart = record {
  fins = λ t k. ⊎_elim {C = get c t ≡ option_map (in_loop to) (get a t)}
      (λ (l : Contains xs t). other.others t (apart t l) ∙ one.fins t l)
      (λ (r : Contains ys t). other.fins t r ∙ ap (option_map (in_loop to)) (one.others t (λ l. apart t l r)))
      (Contains-append_cases xs ys t k);
  others = λ t out. other.others t (λ r. out (Contains-append_right xs ys t r)) ∙ one.others t (λ l. out (Contains-append_left xs ys t l));
}

-- the fin at which the walk stands is not passed
unpassed : (f : Tag) (rest : List Tag) (here : Tag) (w : Walked f rest here) → NoRepeats (f ∷ rest) → here ≢ f → ¬ (Contains (f ∷ w.passed) here)
unpassed f rest here w once other k =
    ⊎_elim {C = ⊥} (λ (e : f ≡ here). other (sym e)) (λ (r : Contains w.passed here). at w.ahead w.is w.here_is r) (Contains-cases f w.passed here k)
  where
    at : (ahead : List Tag) → rest ≡ w.passed ++ ahead → here ≡ head_or f ahead → ¬ (Contains w.passed here)
    at [] is e = absurd (other e)
    at (h ∷ more) is e = λ j. not_before h w.passed more (subst NoRepeats is once.1) (subst (Contains w.passed) e j)

-- The fins that are passed, and the first one, have the loop `to` now. Nothing else has changed.
pub record Labelled (old : StoreView) (f to here : Tag) (now : StoreView) : Type 0 where
  pub walked : Walked f (rest_of old.state.map f) here
  pub labels : Relabels old.state.map (f ∷ walked.passed) to now.state.map
  pub state : now.state ≡ record old.state { map = now.state.map }
  pub puts : PutsAmong (ring_at old.state.map f) old now

module _ (s : StoreView) (f to : Tag) (h : IsInRing s.state.map f) where
  in_ring : (t : Tag) → Contains (f ∷ rest_of s.state.map f) t → Contains (ring_at s.state.map f) t
  in_ring t k = subst (λ ts. Contains ts t) (sym (in-ring_starts s.state.map f h)) k

  pub room-first : HasRoomForThese s.recording (ring_at s.state.map f) → HasRoomForThese s.recording (f ∷ [])
  room-first room = room-part s.recording (ring_at s.state.map f) (f ∷ []) room (has-one (ring_at s.state.map f) f h.among)

  pub labelled-first : (a : StoreView) (here : Tag) → next_at s.state.map f ≡ Some here → Relabels s.state.map (f ∷ []) to a.state.map
      → a.state ≡ record s.state { map = a.state.map } → PutsAmong (f ∷ []) s a → Labelled s f to here a
  labelled-first a here next labels state puts = record {
    walked = walk-first s.state.map f h here next;
    labels = subst (λ ts. Relabels s.state.map (f ∷ ts) to a.state.map) (sym (none-passed s.state.map f h here next)) labels;
    state = state;
    puts = puts-wider (f ∷ []) (ring_at s.state.map f) s a puts (has-one (ring_at s.state.map f) f h.among);
  }

  module _ (a : StoreView) (here : Tag) (l : Labelled s f to here a) where
    kept : here ≢ f → get a.state.map here ≡ get s.state.map here
    kept other = l.labels.others here (unpassed f (rest_of s.state.map f) here l.walked (starts-ring s.state.map f h).once other)

    pub labelled-live : here ≢ f → IsSome (next_at a.state.map here)
    labelled-live other = subst (λ (o : Option Entity). IsSome (option_map (λ x. x.next) (option_and_then as_fin o))) (sym (kept other)) (walk-live s.state.map f h here l.walked)

    pub labelled-owned : IsTrue (owns s.state.blocks to) → IsTrue (owns a.state.blocks to)
    labelled-owned owned = subst (λ (x : Stored). IsTrue (owns x.blocks to)) (sym l.state) owned

    pub labelled-other : ¬ (Contains (ring_at s.state.map f) to) → to ≢ here
    labelled-other out e = out (subst (Contains (ring_at s.state.map f)) (sym e) (in_ring here (walk-in s.state.map f h here l.walked)))

    pub labelled-room : HasRoomForThese s.recording (ring_at s.state.map f) → HasRoomForThese a.recording (here ∷ [])
    labelled-room room = room-next (ring_at s.state.map f) (here ∷ []) s a room l.puts (has-one (ring_at s.state.map f) here (in_ring here (walk-in s.state.map f h here l.walked)))

    module _ (next : Tag) (other : here ≢ f) (next_is : next_at a.state.map here ≡ Some next) where
      was_next : next_at s.state.map here ≡ Some next
      was_next = sym (ap (λ (o : Option Entity). option_map (λ x. x.next) (option_and_then as_fin o)) (kept other)) ∙ next_is

      pub labelled-less : to_come s.state.map f next < to_come s.state.map f here
      labelled-less = walk-less s.state.map f h here next l.walked other was_next

      pub labelled-on : (b : StoreView) → Relabels a.state.map (here ∷ []) to b.state.map → b.state ≡ record a.state { map = b.state.map } → PutsAmong (here ∷ []) a b → Labelled s f to next b
      labelled-on b labels state puts =
          let on = walk-on s.state.map f h here next l.walked other was_next in
          let ring = ring_at s.state.map f in
          let more = relabels-more s.state.map a.state.map b.state.map (f ∷ l.walked.passed) (here ∷ []) to l.labels labels
          (λ t k j. unpassed f (rest_of s.state.map f) here l.walked (starts-ring s.state.map f h).once other (subst (Contains (f ∷ l.walked.passed)) (sym (only_one here t j)) k)) in
          record {
            walked = on.walked;
            labels = subst (λ ts. Relabels s.state.map (f ∷ ts) to b.state.map) (sym on.passed_is) more;
            state = state ∙ ap (λ (x : Stored). record x { map = b.state.map }) l.state;
            puts = puts-both ring ring (here ∷ []) s a b l.puts puts (λ t k. k) (has-one ring here (in_ring here (walk-in s.state.map f h here l.walked)));
          }

    -- all fins of the ring have the loop
    pub labelled-all : here ≡ f → Relabels s.state.map (ring_at s.state.map f) to a.state.map
    labelled-all back =
        subst (λ ts. Relabels s.state.map ts to a.state.map)
        (ap (λ ts. f ∷ ts) (sym (walk-back s.state.map f h here l.walked back)) ∙ sym (in-ring_starts s.state.map f h)) l.labels
