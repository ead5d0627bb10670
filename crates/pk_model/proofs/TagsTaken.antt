-- What a replay keeps: the tags taken so far are the first ones of the blocks, and each live tag is among them.
use Rattle.std.proofs.Common.{◌≡◌, ℕ, zero, suc, ◌+◌, ◌-◌, ◌*◌, ◌≤◌, ⊎_elim, Bool, true, false, cond, List, [], ◌∷◌, ◌++◌, length, take, Option, Some, None, Result, Ok, Err, refl, sym, ap, subst, ◌∙◌, arith}
use Rattle.std.specs.Prelude.{nat_lt, find, is_some, slice_get, IsSome, Contains}
use Rattle.std.specs.List.{list_all, flat_map, filter_map, cons_option, AllByRecursion}
use Rattle.std.specs.FinMap.{empty, get, get-empty}
use Rattle.std.proofs.lemmas.Bool.{and_parts, true≢false}
use Rattle.std.proofs.lemmas.Option.{same_Some, cond_some}
use Rattle.std.proofs.lemmas.List.{append-nil, append_assoc, length-append}
use Rattle.std.proofs.lemmas.List.Elements.{Contains-append_left, Contains-append_right}
use Rattle.pk_base.specs.Entity.{same_tag, same_optional}
use Rattle.pk_base.specs.declared.tag.Tag.{Tag}
use Rattle.pk_base.specs.declared.entity.Entity.{Entity}
use Rattle.pk_base.specs.declared.act.Act.{Act}
use Rattle.pk_base.specs.declared.act.Act.TheVariants as act
use Rattle.pk_base.specs.declared.call.Call.{Call}
use Rattle.pk_base.specs.declared.act.Entry.{Entry}
use Rattle.pk_base.specs.declared.act.Entry.TheVariants.{Claimed, Drew, Did, Spent, Released}
use Rattle.pk_base.specs.declared.act.Reply.TheVariants as reply
use Rattle.pk_base.specs.declared.refusal.Refusal.{Refusal}
use Rattle.pk_base.specs.declared.refusal.Refusal.TheVariants as refusal
use Rattle.list_facts.proofs.Each.{ByRecursion-append, ByRecursion-weaker, ByRecursion-map, ByRecursion-contains}
use Rattle.list_facts.proofs.Lengths.{cons_option-append}
use Rattle.pk_model.specs.Tags.{owns, next_tags, tags_of, tags_of_block}
use Rattle.pk_model.specs.Maps.{EntityMap, tag_cmp, diff}
use Rattle.pk_model.specs.State.{Mark, PartitionState, initial_mark, opening}
use Rattle.pk_model.specs.Modelling.{Modelling, Outcome, IsModeller, MayBeAsked}
use Rattle.pk_model.specs.Step.{act_cost, step, Stepped, with_answer, reach_of, mark_at, live_mark, parent_of, after_deletion, ◌>>=◌, call_reaches, mark_reaches, goto_reaches, unmark_reaches, deleted_mark}
use Rattle.pk_model.specs.Replay.{replay_from, replay, answered_entries_from, AnsweredEntry, drawn_block}
use Rattle.pk_model.specs.Apart.{taken_by, taken_in, IsLiveIn}
use Rattle.pk_model.proofs.Replays.{replay_from-first, answered_entries_from-step}
use Rattle.pk_model.proofs.TagLists.{Ascends, Ascends-push, TagsAscend-next_tags, taken_or_next, length-next_tags, take-tags_of-more, take-tags_of-append}
use Rattle.pk_model.proofs.Transitions.{enough}

-- each tag of the map is among these
abbrev pub AreFrom : List Tag → EntityMap → Type 0
AreFrom taken m = (t : Tag) → IsSome (get m t) → Contains taken t

-- The state of partition p once these blocks were drawn and these tags taken, after its first block and initial mark. Its
-- maps are sound for the modeller.
pub record TakenInOrder (K : Modelling) (p : ℕ) (drawn : List ℕ) (taken : List Tag) (s : PartitionState) : Type 0 where
  pub blocks : s.blocks ≡ p ∷ drawn
  pub ascends : Ascends s.blocks
  pub within : s.used ≤ 64 * length s.blocks
  pub in_order : initial_mark p ∷ taken ≡ take s.used (tags_of s.blocks)
  pub now : AreFrom taken s.now
  pub marks : AllByRecursion (λ (k : Mark). AreFrom taken k.map) s.marks
  pub sound : K.sound s.now
  pub sound_marks : AllByRecursion (λ (k : Mark). K.sound k.map) s.marks

AreFrom-empty : (taken : List Tag) → AreFrom taken empty
AreFrom-empty taken t h = absurd (true≢false (sym h ∙ ap is_some (get-empty tag_cmp t)))

pub first_tag : (p : ℕ) → initial_mark p ∷ [] ≡ take 1 (tags_of (p ∷ []))
unfolding tags_of tags_of_block
first_tag p = refl

pub TakenInOrder-opening : (K : Modelling) → IsModeller K → (p : ℕ) → TakenInOrder K p [] [] (opening p)
TakenInOrder-opening K good p = record {
  blocks = refl;
  ascends = (tt, tt);
  within = omega arith;
  in_order = first_tag p;
  now = AreFrom-empty [];
  marks = (AreFrom-empty [], tt);
  sound = good.empty;
  sound_marks = (good.empty, tt);
}

-- ---- parts

AreFrom-more : (taken more : List Tag) (m : EntityMap) → AreFrom taken m → AreFrom (taken ++ more) m
AreFrom-more taken more m h t k = Contains-append_left taken more t (h t k)

marks-more : (taken more : List Tag) (ks : List Mark) → AllByRecursion (λ (k : Mark). AreFrom taken k.map) ks → AllByRecursion (λ (k : Mark). AreFrom (taken ++ more) k.map) ks
marks-more taken more ks h = ByRecursion-weaker _ _ (λ k f. AreFrom-more taken more k.map f) ks h

pub ByRecursion-find : {X : Type 0} (P : X → Type 0) (test : X → Bool) (xs : List X) (x : X) → AllByRecursion P xs → find test xs ≡ Some x → P x
ByRecursion-find P test [] x h e = absurd (cc)
ByRecursion-find P test (y ∷ ys) x h e =
    elim (test y) as (λ b. cond b (Some y) (find test ys) ≡ Some x → P x) [
      | true ↦ λ k. subst P (same_Some y x k) h.0
      | false ↦ λ k. ByRecursion-find P test ys x h.1 k
    ] e

ByRecursion-slice_get : {X : Type 0} (P : X → Type 0) (xs : List X) (i : ℕ) (x : X) → AllByRecursion P xs → slice_get xs i ≡ Some x → P x
ByRecursion-slice_get P [] i x h e = absurd (cc)
ByRecursion-slice_get P (y ∷ ys) zero x h e = subst P (same_Some y x e) h.0
ByRecursion-slice_get P (y ∷ ys) (suc i) x h e = ByRecursion-slice_get P ys i x h.1 e

-- a mark that is found stands among the marks
live_mark_found : (P : Mark → Type 0) (m : Tag) (o : Option Mark) (k : Mark) → ((x : Mark) → o ≡ Some x → P x) → live_mark m o ≡ Ok k → P k
live_mark_found P m None k f e = absurd (cc)
live_mark_found P m (Some x) k f e =
    elim x.live as (λ b. cond b (Ok x) (Err (refusal.MarkDeleted m)) ≡ Ok k → P k) [
      | true ↦ λ h. let q : x ≡ k = cc in f k (ap Some q)
      | false ↦ λ h. absurd (cc)
    ] e

mark_at_found : (P : Mark → Type 0) (s : PartitionState) (m : Tag) (k : Mark) → AllByRecursion P s.marks → mark_at s m ≡ Ok k → P k
mark_at_found P s m k h e =
    elim (owns s.blocks m) as (λ b. cond b (live_mark m (find (λ x. same_tag x.tag m) s.marks)) (Err (refusal.NotOurs m)) ≡ Ok k → P k) [
      | true ↦ λ f. live_mark_found P m (find (λ x. same_tag x.tag m) s.marks) k (λ x g. ByRecursion-find P (λ y. same_tag y.tag m) s.marks x h g) f
      | false ↦ λ f. absurd (cc)
    ] e

-- ---- one step

-- taking the next tags
taken-more : (p n : ℕ) (taken : List Tag) (blocks : List ℕ) (used : ℕ) → initial_mark p ∷ taken ≡ take used (tags_of blocks) → initial_mark p ∷ (taken ++ take n (next_tags blocks used)) ≡ take (used + n) (tags_of blocks)
taken-more p n taken blocks used h = ap (λ l. l ++ take n (next_tags blocks used)) h ∙ sym (take-tags_of-more blocks used n)

-- nothing is taken, and only the map and the holder may change
TakenInOrder-same : (K : Modelling) (p : ℕ) (drawn : List ℕ) (taken : List Tag) (s : PartitionState) → TakenInOrder K p drawn taken s → TakenInOrder K p (drawn ++ []) (taken ++ []) s
TakenInOrder-same K p drawn taken s k =
    subst (λ d. TakenInOrder K p d (taken ++ []) s) (sym (append-nil drawn)) (subst (λ l. TakenInOrder K p drawn l s) (sym (append-nil taken)) k)

-- the next tags are such as a modeller may be asked with
asked : (K : Modelling) (p : ℕ) (drawn : List ℕ) (taken : List Tag) (s : PartitionState) (c : Call) → TakenInOrder K p drawn taken s → K.cost s.now c ≤ 64 * length s.blocks - s.used → MayBeAsked K s.now c (next_tags s.blocks s.used)
asked K p drawn taken s c k fits = record {
  sound = k.sound;
  enough = omega (arith, length-next_tags s.blocks s.used);
  ascend = TagsAscend-next_tags s.blocks s.used k.ascends;
  free = ByRecursion-contains _ (next_tags s.blocks s.used) (λ t next. is_free t next (get s.now t) refl);
}
  where
    is_free : (t : Tag) → Contains (next_tags s.blocks s.used) t → (o : Option Entity) → get s.now t ≡ o → get s.now t ≡ None
    is_free t next None e = e
    is_free t next (Some x) e =
        let live : IsSome (get s.now t) = ap is_some e in
        let first = Contains-append_right (initial_mark p ∷ []) taken t (k.now t live) in
        absurd (taken_or_next s.blocks s.used t k.ascends (subst (λ l. Contains l t) k.in_order first) next)

-- what a step leaves
abbrev StepKept : Modelling → ℕ → List ℕ → List Tag → PartitionState → Entry → PartitionState → Type 0
StepKept K p drawn taken s e after = TakenInOrder K p (drawn ++ cons_option (drawn_block e) []) (taken ++ taken_by K s e) after

module _ (K : Modelling) (good : IsModeller K) (p : ℕ) (drawn : List ℕ) (taken : List Tag) where
  -- an act that takes nothing and leaves this state
  act_takes_none : (s after : PartitionState) (t : ℕ) (a : Act) → act_cost K s a ≡ 0 → TakenInOrder K p drawn taken after → StepKept K p drawn taken s (Did t a) after
  act_takes_none s after t a none k =
      subst (λ n. TakenInOrder K p (drawn ++ []) (taken ++ take n (next_tags s.blocks s.used)) after) (sym none) (TakenInOrder-same K p drawn taken after k)

  call_kept : (s : PartitionState) (t : ℕ) (c : Call) (o : Result Outcome Refusal) → TakenInOrder K p drawn taken s → K.cost s.now c ≤ 64 * length s.blocks - s.used → K.step s.now c (next_tags s.blocks s.used) ≡ o → StepKept K p drawn taken s (Did t (act.Call c)) (with_answer s (o >>= (λ x. Ok (call_reaches K s (K.cost s.now c) x)))).state
  call_kept s t c (Err e) k fits is =
      act_takes_none s s t (act.Call c) (good.free s.now c (next_tags s.blocks s.used) e (asked K p drawn taken s c k fits) is) k
  call_kept s t c (Ok o) k fits is =
      let next = next_tags s.blocks s.used in
      let cost = K.cost s.now c in
      let may = asked K p drawn taken s c k fits in
      record {
        blocks = k.blocks ∙ ap (λ d. p ∷ d) (sym (append-nil drawn));
        ascends = k.ascends;
        within = let w = k.within in omega arith;
        in_order = taken-more p cost taken s.blocks s.used k.in_order;
        now = λ x live. ⊎_elim (λ (l : IsSome (get s.now x)). Contains-append_left taken (take cost next) x (k.now x l))
            (λ (r : Contains (take cost next) x). Contains-append_right taken (take cost next) x r)
            (good.keys s.now c next o may is x live);
        marks = marks-more taken (take cost next) s.marks k.marks;
        sound = good.keeps s.now c next o may is;
        sound_marks = k.sound_marks;
      }

  mark_kept : (s : PartitionState) (t : ℕ) (made : Tag) → TakenInOrder K p drawn taken s → 1 ≤ 64 * length s.blocks - s.used → StepKept K p drawn taken s (Did t act.Mark) (mark_reaches s made).state
  mark_kept s t made k fits =
      let more = take 1 (next_tags s.blocks s.used) in
      record {
        blocks = k.blocks ∙ ap (λ d. p ∷ d) (sym (append-nil drawn));
        ascends = k.ascends;
        within = let w = k.within in omega arith;
        in_order = taken-more p 1 taken s.blocks s.used k.in_order;
        now = AreFrom-more taken more s.now k.now;
        marks = ByRecursion-append _ s.marks _ (marks-more taken more s.marks k.marks) (AreFrom-more taken more s.now k.now, tt);
        sound = k.sound;
        sound_marks = ByRecursion-append _ s.marks _ k.sound_marks (k.sound, tt);
      }

  goto_kept : (s : PartitionState) (t : ℕ) (m : Tag) (o : Result Mark Refusal) → TakenInOrder K p drawn taken s → mark_at s m ≡ o → StepKept K p drawn taken s (Did t (act.Goto m)) (with_answer s (o >>= (λ x. Ok (goto_reaches s x)))).state
  goto_kept s t m (Err e) k is = act_takes_none s s t (act.Goto m) refl k
  goto_kept s t m (Ok x) k is =
      act_takes_none s _ t (act.Goto m) refl (record {
        blocks = k.blocks;
        ascends = k.ascends;
        within = k.within;
        in_order = k.in_order;
        now = mark_at_found (λ (y : Mark). AreFrom taken y.map) s m x k.marks is;
        marks = k.marks;
        sound = mark_at_found (λ (y : Mark). K.sound y.map) s m x k.sound_marks is;
        sound_marks = k.sound_marks;
      })

  -- a deletion leaves each mark its map, or the empty one
  deletion_of_map : (P : EntityMap → Type 0) → P empty → (m q : Tag) (x : Mark) → P x.map → P (after_deletion m q x).map
  deletion_of_map P none m q x h =
      elim (same_tag x.tag m) as (λ b. P (cond b (deleted_mark x) (cond (same_optional x.parent (Some m)) (record x { parent = Some q }) x)).map) [
        | true ↦ none
        | false ↦ elim (same_optional x.parent (Some m)) as (λ b. P (cond b (record x { parent = Some q }) x).map) [ true ↦ h | false ↦ h ]
      ]

  unmark_kept : (s : PartitionState) (t : ℕ) (m : Tag) (o : Result Mark Refusal) → TakenInOrder K p drawn taken s → StepKept K p drawn taken s (Did t (act.Unmark m)) (with_answer s (o >>= (λ x. parent_of x >>= (λ q. Ok (unmark_reaches s m q))))).state
  unmark_kept s t m (Err e) k = act_takes_none s s t (act.Unmark m) refl k
  unmark_kept s t m (Ok x) k =
      elim (parent_of x) as (λ (o : Result Tag Refusal). StepKept K p drawn taken s (Did t (act.Unmark m)) (with_answer s (o >>= (λ q. Ok (unmark_reaches s m q)))).state) [
        | Ok q ↦ act_takes_none s _ t (act.Unmark m) refl (record {
          blocks = k.blocks;
          ascends = k.ascends;
          within = k.within;
          in_order = k.in_order;
          now = k.now;
          marks = ByRecursion-map _ _ (after_deletion m q) (deletion_of_map (AreFrom taken) (AreFrom-empty taken) m q) s.marks k.marks;
          sound = k.sound;
          sound_marks = ByRecursion-map _ _ (after_deletion m q) (deletion_of_map K.sound good.empty m q) s.marks k.sound_marks;
        })
        | Err e ↦ act_takes_none s s t (act.Unmark m) refl k
      ]

  -- comparing two marks leaves the state
  delta_state : (s : PartitionState) (m : Tag) → (with_answer s (reach_of K s (act.Delta m))).state ≡ s
  delta_state s m =
      elim (mark_at s m) as (λ (o : Result Mark Refusal). (with_answer s (o >>= (λ x. parent_of x >>= (λ q. mark_at s q >>= (λ y. Ok (record { state = s; reply = reply.Delta (diff y.map x.map) })))))).state ≡ s) [
        | Err e ↦ refl
        | Ok x ↦ elim (parent_of x) as (λ (o : Result Tag Refusal). (with_answer s (o >>= (λ q. mark_at s q >>= (λ y. Ok (record { state = s; reply = reply.Delta (diff y.map x.map) }))))).state ≡ s) [
          | Err e ↦ refl
          | Ok q ↦ elim (mark_at s q) as (λ (o : Result Mark Refusal). (with_answer s (o >>= (λ y. Ok (record { state = s; reply = reply.Delta (diff y.map x.map) })))).state ≡ s) [
            | Err e ↦ refl
            | Ok y ↦ refl
          ]
        ]
      ]

  act_kept : (s : PartitionState) (t : ℕ) (a : Act) → TakenInOrder K p drawn taken s → act_cost K s a ≤ 64 * length s.blocks - s.used → StepKept K p drawn taken s (Did t a) (with_answer s (reach_of K s a)).state
  act_kept s t (act.Call c) k fits = call_kept s t c (K.step s.now c (next_tags s.blocks s.used)) k fits refl
  act_kept s t act.Mark k fits = mark_kept s t _ k fits
  act_kept s t (act.Goto m) k fits = goto_kept s t m (mark_at s m) k refl
  act_kept s t (act.Unmark m) k fits = unmark_kept s t m (mark_at s m) k
  act_kept s t act.Marks k fits = act_takes_none s s t act.Marks refl k
  act_kept s t (act.Delta m) k fits = act_takes_none s _ t (act.Delta m) refl (subst (TakenInOrder K p drawn taken) (sym (delta_state s m)) k)

  held_kept : (s : PartitionState) (h : Option ℕ) → TakenInOrder K p drawn taken s → TakenInOrder K p (drawn ++ []) (taken ++ []) (record s { holder = h })
  held_kept s h k = TakenInOrder-same K p drawn taken (record s { holder = h }) (record { blocks = k.blocks; ascends = k.ascends; within = k.within; in_order = k.in_order; now = k.now; marks = k.marks; sound = k.sound; sound_marks = k.sound_marks })

  drew_kept : (s : PartitionState) (b : ℕ) → TakenInOrder K p drawn taken s → list_all (λ o. nat_lt o b) s.blocks ≡ true → TakenInOrder K p (drawn ++ b ∷ []) (taken ++ []) (record s { blocks = s.blocks ++ b ∷ [] })
  drew_kept s b k above =
      subst (λ l. TakenInOrder K p (drawn ++ b ∷ []) l (record s { blocks = s.blocks ++ b ∷ [] })) (sym (append-nil taken)) (record {
        blocks = ap (λ l. l ++ b ∷ []) k.blocks;
        ascends = Ascends-push s.blocks b k.ascends above;
        within = let w = k.within in omega (arith, length-append s.blocks (b ∷ []));
        in_order = k.in_order ∙ sym (take-tags_of-append s.blocks (b ∷ []) s.used k.within);
        now = k.now;
        marks = k.marks;
        sound = k.sound;
        sound_marks = k.sound_marks;
      })

  pub step_kept : (s : PartitionState) (e : Entry) (r : Stepped) → TakenInOrder K p drawn taken s → step K s e ≡ Some r → StepKept K p drawn taken s e r.state
  step_kept s (Claimed t) r k is =
      let c = cond_some _ _ r is in
      subst (λ (x : Stepped). TakenInOrder K p (drawn ++ []) (taken ++ []) x.state) c.1 (held_kept s (Some t) k)
  step_kept s (Released t) r k is =
      let c = cond_some _ _ r is in
      subst (λ (x : Stepped). TakenInOrder K p (drawn ++ []) (taken ++ []) x.state) c.1 (held_kept s None k)
  step_kept s (Drew t b) r k is =
      let c = cond_some _ _ r is in
      subst (λ (x : Stepped). TakenInOrder K p (drawn ++ b ∷ []) (taken ++ []) x.state) c.1 (drew_kept s b k (and_parts _ _ c.0).1)
  step_kept s (Did t a) r k is =
      let c = cond_some _ _ r is in
      subst (λ (x : Stepped). StepKept K p drawn taken s (Did t a) x.state) c.1 (act_kept s t a k (enough K s a (and_parts _ _ c.0).1))
  step_kept s (Spent t next a) r k is =
      let c = cond_some _ _ r is in
      subst (λ (x : Stepped). TakenInOrder K p (drawn ++ []) (taken ++ []) x.state) c.1 (TakenInOrder-same K p drawn taken s k)

-- ---- a whole replay

pub replay_from-kept : (K : Modelling) → IsModeller K → (p : ℕ) (drawn : List ℕ) (taken : List Tag) (s : PartitionState) (es : List Entry) (end : PartitionState) → TakenInOrder K p drawn taken s → replay_from K s es ≡ Some end → TakenInOrder K p (drawn ++ filter_map drawn_block es) (taken ++ flat_map (λ x. taken_by K x.before x.entry) (answered_entries_from K s es)) end
replay_from-kept K good p drawn taken s [] end k h = subst (TakenInOrder K p (drawn ++ []) (taken ++ [])) (same_Some s end h) (TakenInOrder-same K p drawn taken s k)
replay_from-kept K good p drawn taken s (e ∷ es) end k h =
    let c = replay_from-first K s e es end h in
    let by = λ (x : AnsweredEntry). taken_by K x.before x.entry in
    let rest = replay_from-kept K good p (drawn ++ cons_option (drawn_block e) []) (taken ++ taken_by K s e) c.first.state es end (step_kept K good p drawn taken s e c.first k c.steps) c.rest in
    let d : (drawn ++ cons_option (drawn_block e) []) ++ filter_map drawn_block es ≡ drawn ++ filter_map drawn_block (e ∷ es) =
    append_assoc drawn (cons_option (drawn_block e) []) (filter_map drawn_block es) ∙ ap (λ l. drawn ++ l) (cons_option-append (drawn_block e) (filter_map drawn_block es))
    in
    let t : (taken ++ taken_by K s e) ++ flat_map by (answered_entries_from K c.first.state es) ≡ taken ++ flat_map by (answered_entries_from K s (e ∷ es)) =
    append_assoc taken (taken_by K s e) (flat_map by (answered_entries_from K c.first.state es)) ∙ ap (λ l. taken ++ flat_map by l) (sym (answered_entries_from-step K s e es c.first c.steps))
    in
    subst (λ x. TakenInOrder K p x (taken ++ flat_map by (answered_entries_from K s (e ∷ es))) end) d (subst (λ x. TakenInOrder K p ((drawn ++ cons_option (drawn_block e) []) ++ filter_map drawn_block es) x end) t rest)

pub replay-kept : (K : Modelling) → IsModeller K → (p : ℕ) (journal : List Entry) (end : PartitionState) → replay K p journal ≡ Some end → TakenInOrder K p (filter_map drawn_block journal) (taken_in K p journal) end
replay-kept K good p journal end h = replay_from-kept K good p [] [] (opening p) journal end (TakenInOrder-opening K good p) h

pub live_taken : (K : Modelling) (p : ℕ) (drawn : List ℕ) (taken : List Tag) (s : PartitionState) → TakenInOrder K p drawn taken s → (t : Tag) → IsLiveIn s t → Contains taken t
live_taken K p drawn taken s k t live =
    ⊎_elim (λ (l : IsSome (get s.now t)). k.now t l)
    (λ (r : (i : ℕ) × (m : Mark) × (slice_get s.marks i ≡ Some m) × IsSome (get m.map t)).
    ByRecursion-slice_get (λ (m : Mark). AreFrom taken m.map) s.marks r.0 r.1 k.marks r.2 t r.3)
    live

-- the map now and the map of every mark are sound
pub record AllSound (K : Modelling) (s : PartitionState) : Type 0 where
  pub now : K.sound s.now
  pub marks : AllByRecursion (λ (k : Mark). K.sound k.map) s.marks

pub replay-sound : (K : Modelling) → IsModeller K → (p : ℕ) (journal : List Entry) (s : PartitionState) → replay K p journal ≡ Some s → AllSound K s
replay-sound K good p journal s h = let k = replay-kept K good p journal s h in record { now = k.sound; marks = k.sound_marks }

-- of a replay's next tags a modeller may be asked
pub replay-asked : (K : Modelling) → IsModeller K → (p : ℕ) (journal : List Entry) (s : PartitionState) (c : Call) → replay K p journal ≡ Some s → K.cost s.now c ≤ 64 * length s.blocks - s.used → MayBeAsked K s.now c (next_tags s.blocks s.used)
replay-asked K good p journal s c h fits = asked K p (filter_map drawn_block journal) (taken_in K p journal) s c (replay-kept K good p journal s h) fits
