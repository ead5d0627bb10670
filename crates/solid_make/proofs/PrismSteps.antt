-- A prism: its lamina was made, and the new face of that is raised.
use Rattle.std.proofs.Common.{◌≡◌, ℕ, ◌+◌, ◌-◌, ◌*◌, ◌≤◌, ⊎_elim, List, ◌∷◌, ◌++◌, length, take, None, refl, sym, ap, subst, ◌∙◌, arith}
use Rattle.std.specs.Prelude.{ℤ, IsTrue, Contains}
use Rattle.std.specs.List.{AllByRecursion}
use Rattle.std.proofs.lemmas.List.Elements.{Contains-append_cases}
use Rattle.pk_base.specs.Building.{Building}
use Rattle.pk_base.specs.declared.tag.Tag.{Tag}
use Rattle.pk_base.specs.declared.entity.Pair.{Pair}
use Rattle.pk_model.specs.Tags.{tag_at}
use Rattle.entity_store.specs.NextTags.{TagsView, left}
use Rattle.entity_store.specs.Store.{Stored, StoreView}
use Rattle.entity_store.proofs.Room.{puts-then, puts-wider, room-part}
use Rattle.pk_plane.specs.Turns.{moved}
use Rattle.solid_model.specs.Items.{Shape, item_at}
use Rattle.solid_model.specs.Folds.{Progress}
use Rattle.solid_model.specs.Lamina.{after_lamina}
use Rattle.solid_model.specs.Links.{links}
use Rattle.solid_model.specs.Newell.{starts_of}
use Rattle.solid_model.specs.Places.{face_at, outer_at}
use Rattle.solid_model.specs.Prism.{after_prism, upwards}
use Rattle.solid_model.specs.Sweep.{after_sweep}
use Rattle.solid_model.specs.Ranges.{is_component, is_coordinate, is_size, coordinates_of}
use Rattle.solid_model.specs.Shapes.{shape_of}
use Rattle.solid_sound.proofs.rows.KeptFolds.{lamina-began}
use Rattle.solid_sound.proofs.rows.RowKeeps.{well-shape}
use Rattle.solid_calls.specs.Pairs.{HasTags, Takes}
use Rattle.solid_edits.proofs.Stages.{Within}
use Rattle.euler_make.specs.Raising.{HasRaised, MayRaise, cost_of_raise, outer_fins, raised, tags_raised}
use Rattle.list_facts.proofs.Each.{ByRecursion-at, ByRecursion-contains}
use Rattle.solid_make.specs.Making.{HasMade, MayMake, MayRise, begun, cost_of_lamina, cost_of_prism}
use Rattle.solid_make.proofs.Own.{in_more}
use Rattle.solid_make.proofs.Making.{IsAt, free-shape, left-after, length-listed, listed-at, next-in, room-now, shape-now, sound-now, tags-now, takes-then}
use Rattle.solid_make.proofs.Upper.{Upper, all-made, face-found, starts-rise, upper-made}

-- a size is a component of a vector
size_component : (h : ℤ) → IsTrue (is_size h) → IsTrue (is_component h)
size_component h is = grind arith

fewer-tags : (old : StoreView) (n m : ℕ) (tags : TagsView) (out : Building Tag) → n ≤ m → HasTags old m tags out → HasTags old n tags out
fewer-tags old n m tags out le has = record {
  enough = (let e = has.enough in omega (arith, e, le));
  ascend = has.ascend;
  free = has.free;
  owned = ByRecursion-contains _ (take n (left tags)) (λ t k. ByRecursion-at _ (take m (left tags)) t has.owned (in_more n m (left tags) t le k));
  spare = (let e = has.spare in omega (arith, e, le));
}

-- The store is old, and the tags and the room for a prism are there.
module _ (old : StoreView) (tags : TagsView) (out : Building Tag) (z : ℤ) (corners : List Pair) (may : MayMake old z corners (cost_of_prism corners) (left tags)) (has : HasTags old (cost_of_prism corners) tags out) where
  abbrev S : Shape
  S = shape_of old.state.map

  abbrev N : ℕ
  N = cost_of_prism corners

  abbrev n : ℕ
  n = length corners

  pub low-may : MayMake old z corners (cost_of_lamina corners) (left tags)
  low-may = record {
    sound = may.sound;
    three = may.three;
    reach = may.reach;
    room = room-part old.recording (take N (left tags)) (take (cost_of_lamina corners) (left tags)) may.room (λ t k. in_more (cost_of_lamina corners) N (left tags) t (omega arith) k);
  }

  pub low-tags : HasTags old (cost_of_lamina corners) tags out
  low-tags = fewer-tags old (cost_of_lamina corners) N tags out (omega arith) has

  free : AllByRecursion (λ t. item_at S t ≡ None) (left tags)
  free = free-shape old tags out N may.sound has may.room

  enough : 4 * n + 6 ≤ length (left tags)
  enough = low-tags.enough

  abbrev q : Progress
  q = after_lamina z corners (begun old (left tags))

  upper : Upper S (left tags) z n q
  upper = upper-made S (left tags) (well-shape old.state.map may.sound) has.ascend free z corners may.three may.reach enough

  module _ (now : StoreView) (tags' : TagsView) (out' : Building Tag) (made : HasMade old (cost_of_lamina corners) (left tags) q now) (takes : Takes (cost_of_lamina corners) tags out tags' out') where
    here : IsAt old tags out (4 * n + 6) q now tags' out'
    here = record {
      began = lamina-began S (left tags) (well-shape old.state.map may.sound) has.ascend free z corners enough;
      next = upper.left ∙ sym (left-after (4 * n + 6) tags tags' out out' takes);
      state = made.state;
      puts = made.puts;
      takes = takes;
    }

    abbrev face : Tag
    face = tag_at (left tags) (4 * n + 1)

    -- the face is the fifth from the end of the list
    pub long-listed : length out'.items ≡ length out.items + (4 * n + 6)
    long-listed = length-listed (4 * n + 6) tags tags' out out' takes enough

    pub face-listed : (j : ℕ) → j ≡ length out'.items - 5 → tag_at out'.items j ≡ face
    face-listed j is = let e = long-listed in listed-at (4 * n + 6) tags tags' out out' (4 * n + 1) j takes (omega arith) (omega (arith, is, e))

    shape : shape_of now.state.map ≡ q.shape
    shape = shape-now old tags out N may.sound has may.room (4 * n + 6) q now tags' out' here

    cost : cost_of_raise (shape_of now.state.map) face ≡ 9 * n
    cost = ap (λ R. cost_of_raise R face) shape ∙ ap (λ k. 9 * k) upper.many

    pub raise-tags : HasTags now (cost_of_raise (shape_of now.state.map) face) tags' out'
    raise-tags = subst (λ k. HasTags now k tags' out') (sym cost) (tags-now old tags out N may.sound has may.room (4 * n + 6) q now tags' out' here (9 * n) (omega arith))

    -- what is put is among the tags of the prism
    raised_in : Within (tags_raised (shape_of now.state.map) face (left tags')) (take N (left tags))
    raised_in t k =
        let same : tags_raised (shape_of now.state.map) face (left tags') ≡ take (9 * n) (left tags') ++ outer_at q.shape face ∷ outer_fins q.shape face =
        (λ i. take (cost i) (left tags') ++ outer_at (shape i) face ∷ outer_fins (shape i) face) in
        ⊎_elim {C = Contains (take N (left tags)) t}
        (λ (a : Contains (take (9 * n) (left tags')) t). next-in old tags out N may.sound has may.room (4 * n + 6) q now tags' out' here (9 * n) N (omega arith) t a)
        (λ (b : Contains (outer_at q.shape face ∷ outer_fins q.shape face) t).
        in_more (4 * n + 6) N (left tags) t (omega arith) (ByRecursion-at (Contains (take (4 * n + 6) (left tags))) (outer_at q.shape face ∷ outer_fins q.shape face) t (all-made S (left tags) free z n q here.began.well upper enough) b))
        (Contains-append_cases (take (9 * n) (left tags')) (outer_at q.shape face ∷ outer_fins q.shape face) t (subst (λ ts. Contains ts t) same k))

    module _ (h : ℤ) (rise : MayRise z h) where
      pub raise-may : MayRaise now face (upwards h) (left tags')
      raise-may = record {
        sound = sound-now old tags out N may.sound has may.room (4 * n + 6) q now tags' out' here;
        face = _;
        found = ap (λ R. face_at R face) shape ∙ face-found S (left tags) free z n q here.began.well upper enough;
        fins = (let many = ap (λ R. length (outer_fins R face)) shape ∙ upper.many in let three = may.three in omega (arith, many, three));
        vector = (refl, (refl, (size_component h rise.size, tt)));
        within = subst (λ R. AllByRecursion (λ p. AllByRecursion (λ c. IsTrue (is_coordinate c)) (coordinates_of (moved (upwards h) p))) (starts_of R (outer_at R face))) (sym shape)
            (starts-rise S (left tags) free z n q here.began.well upper enough h rise.top);
        room = room-now old tags out N may.sound has may.room (4 * n + 6) q now tags' out' here (tags_raised (shape_of now.state.map) face (left tags')) raised_in (omega arith);
      }

      pub prism-made : (then : StoreView) → HasRaised now face (upwards h) (left tags') then → HasMade old N (left tags) (after_prism z h corners (begun old (left tags))) then
      prism-made then done =
          let reaches : raised (shape_of now.state.map) face (upwards h) (left tags') ≡ (after_sweep face (upwards h) q).shape =
          (λ i. (after_sweep face (upwards h) (record { shape = shape i; tags = sym here.next i })).shape) in
          record {
            state = done.state ∙ ap (λ (R : Shape). record now.state { map = links R }) reaches ∙ ap (λ (s : Stored). record s { map = links (after_sweep face (upwards h) q).shape }) made.state;
            sound = done.sound;
            puts = puts-then (take N (left tags)) old now then
                (puts-wider (take (4 * n + 6) (left tags)) (take N (left tags)) old now made.puts (λ t k. in_more (4 * n + 6) N (left tags) t (omega arith) k))
                (puts-wider (tags_raised (shape_of now.state.map) face (left tags')) (take N (left tags)) now then done.puts raised_in);
          }

    pub prism-takes : (tags'' : TagsView) (out'' : Building Tag) → Takes (cost_of_raise (shape_of now.state.map) face) tags' out' tags'' out'' → Takes N tags out tags'' out''
    prism-takes tags'' out'' took =
        let all : 4 * n + 6 + 9 * n ≡ N = omega arith in
        subst (λ k. Takes k tags out tags'' out'') all (takes-then (4 * n + 6) (9 * n) tags tags' tags'' out out' out'' takes (subst (λ k. Takes k tags' out' tags'' out'') cost took))
