-- A goto brings back the map that stood when the mark was made, for any modeller.
use Rattle.std.proofs.Common.{◌≡◌, ℕ, ◌-◌, ◌*◌, ◌≤◌, ⊎_elim, true, false, cond, List, [], ◌∷◌, ◌++◌, length, Option, Some, None, Result, Ok, Err, refl, sym, ap, subst, ◌∙◌, arith}
use Rattle.std.specs.Prelude.{◌==◌, map, unwrap_or, Contains}
use Rattle.std.specs.Option.{option_or}
use Rattle.std.specs.FinMap.{empty}
use Rattle.std.proofs.lemmas.Bool.{and_parts, and_from, eq-eqb}
use Rattle.std.proofs.lemmas.Option.{same_Some, cond_some}
use Rattle.std.proofs.lemmas.List.Folds.{find-append}
use Rattle.std.proofs.lemmas.List.Elements.{Contains-append_cases}
use Rattle.pk_base.specs.Entity.{same_tag, same_optional}
use Rattle.pk_base.specs.declared.tag.Tag.{Tag}
use Rattle.pk_base.specs.declared.act.Act.TheVariants as act
use Rattle.pk_base.specs.declared.act.Entry.{Entry}
use Rattle.pk_base.specs.declared.act.Entry.TheVariants.{Claimed, Did}
use Rattle.pk_base.specs.declared.act.Reply.{Reply}
use Rattle.pk_base.specs.declared.act.Reply.TheVariants as reply
use Rattle.pk_base.specs.declared.refusal.Refusal.{Refusal}
use Rattle.pk_base.specs.declared.refusal.Refusal.TheVariants as refusal
use Rattle.pk_base.specs.Blocks.{tag}
use Rattle.pk_base.proofs.Same.{same_tag-Decides}
use Rattle.pk_model.specs.Tags.{owns, tags_of, tags_of_block}
use Rattle.pk_model.specs.Maps.{EntityMap, diff}
use Rattle.pk_model.specs.State.{Mark, PartitionState, initial_mark, opening, holds}
use Rattle.pk_model.specs.Modelling.{Modelling}
use Rattle.pk_model.specs.Step.{short, step, Stepped, with_answer, reach_of, mark_at, parent_of, after_deletion, ◌>>=◌, mark_reaches, goto_reaches, unmark_reaches, deleted_mark}
use Rattle.pk_model.specs.Replay.{replay_from, replay}
use Rattle.pk_model.specs.VertexBodies.{vertex_bodies}
use Rattle.pk_laws.specs.WorkedJournals.{vertex_body}
use Rattle.pk_laws.specs.Return.{WasMade, IsUnmarked, GoesTo, IsRefused}
use Rattle.list_facts.proofs.Elements.{Contains-only}
use Rattle.pk_model.proofs.Replays.{replay_from-first, replay_from-append, replay_from-step}
use Rattle.pk_model.proofs.Transitions.{enough, step_way}
use Rattle.pk_laws.proofs.FirstMarks.{find_mark, next_tag, find_mark-tag, deletion_by, find_mark-deletion, mark_at_found, mark_at_live, mark_at_dead, MarksTaken, MarksTaken-way, no_mark_yet, replay-MarksTaken, Found, Outlives, Found-way, replay-Found, mark_owned}

-- ---- going to a mark

-- The mark that a goto went to is the first of its tag and live.
pub record WentThere (m : Tag) (left reached : PartitionState) (answer : Reply) : Type 0 where
  pub mark : Mark
  pub is : find_mark m left.marks ≡ Some mark
  pub live : mark.live ≡ true
  pub state : record left { now = mark.map; at = m } ≡ reached
  pub lists : reply.Went (diff left.now mark.map) ≡ answer

goto_answered : (m : Tag) (left after : PartitionState) (answer : Reply) (o : Result Mark Refusal) → mark_at left m ≡ o → with_answer left (o >>= (λ k. Ok (goto_reaches left k))) ≡ record { state = after; answer = Some (Ok answer) } → WentThere m left after answer
goto_answered m left after answer (Err e) is h = let k = ap (λ (x : Stepped). x.answer) h in absurd (cc)
goto_answered m left after answer (Ok k) is h =
    let f = mark_at_found left m k is in
    let state = ap (λ (x : Stepped). x.state) h in
    let told = ap (λ (x : Stepped). x.answer) h in
    record {
      mark = k;
      is = f.0;
      live = f.1;
      state = ap (λ t. record left { now = k.map; at = t }) (sym (find_mark-tag m left.marks k f.0)) ∙ state;
      lists = cc;
    }

went_there : (K : Modelling) (left : PartitionState) (t : ℕ) (m : Tag) (after : PartitionState) (answer : Reply) → GoesTo K left t m after answer → WentThere m left after answer
went_there K left t m after answer h = goto_answered m left after answer (mark_at left m) refl (cond_some _ _ _ h).1

-- what a goto of the holder gives
goto_of_holder : (K : Modelling) (left : PartitionState) (t : ℕ) (m : Tag) (o : Result Mark Refusal) → holds left t ≡ true → mark_at left m ≡ o → step K left (Did t (act.Goto m)) ≡ Some (with_answer left (o >>= (λ k. Ok (goto_reaches left k))))
goto_of_holder K left t m o held is =
    let enough_tags : short K left (act.Goto m) ≡ 0 = omega arith in
    ap (λ b. cond b (Some (with_answer left (reach_of K left (act.Goto m)))) None) (and_from (holds left t) (short K left (act.Goto m) == 0) held (eq-eqb _ _ enough_tags))
    ∙ ap (λ (r : Result Mark Refusal). Some (with_answer left (r >>= (λ k. Ok (goto_reaches left k))))) is

-- a goto of the holder to a live mark, and to one that is not
goes : (K : Modelling) (left : PartitionState) (t : ℕ) (m : Tag) (map : EntityMap) → MarksTaken left → Found m (λ (k : Mark). (k.live ≡ true) × (k.map ≡ map)) left → holds left t ≡ true → GoesTo K left t m (record left { now = map; at = m }) (reply.Went (diff left.now map))
goes K left t m map taken f held =
    let same = find_mark-tag m left.marks f.mark f.is in
    goto_of_holder K left t m (Ok f.mark) held (mark_at_live left m f.mark (mark_owned left m f.mark taken f.is) f.is f.fact.0)
    ∙ (λ i. Some (record { state = record left { now = f.fact.1 i; at = same i }; answer = Some (Ok (reply.Went (diff left.now (f.fact.1 i)))) }))

goes_nowhere : (K : Modelling) (left : PartitionState) (t : ℕ) (m : Tag) → MarksTaken left → Found m (λ (k : Mark). k.live ≡ false) left → holds left t ≡ true → IsRefused K left t m (refusal.MarkDeleted m)
goes_nowhere K left t m taken f held = goto_of_holder K left t m (Err (refusal.MarkDeleted m)) held (mark_at_dead left m f.mark (mark_owned left m f.mark taken f.is) f.is f.fact)

-- ---- the initial mark

-- the initial mark as it is at the opening, and stays
abbrev first_mark : ℕ → Mark
first_mark p = record { tag = initial_mark p; parent = None; map = empty; live = true }

first_mark-outlives : (p : ℕ) (s : PartitionState) (e : Entry) → Outlives (initial_mark p) (λ k. k ≡ first_mark p) s e
first_mark-outlives p s e t n q x k asked at below is same =
    deletion_by (λ y. y ≡ first_mark p) n q k
    (λ gone. absurd (
    let tags : initial_mark p ≡ n = sym (find_mark-tag (initial_mark p) s.marks k is) ∙ (same_tag-Decides k.tag n).0 gone in
    let found : find_mark (initial_mark p) s.marks ≡ Some x = subst (λ y. find_mark y s.marks ≡ Some x) (sym tags) (mark_at_found s n x at).0 in
    let first : x ≡ first_mark p = same_Some x k (sym found ∙ is) ∙ same in
    let refused : parent_of (first_mark p) ≡ Ok q = subst (λ y. parent_of y ≡ Ok q) first below in
    cc))
    (λ other child. let none : same_optional None (Some n) ≡ true = subst (λ (y : Mark). same_optional y.parent (Some n) ≡ true) same child in absurd (cc))
    (λ other. same)

pub goes_to_initial : (K : Modelling) (p : ℕ) (journal : List Entry) (left : PartitionState) (t : ℕ) → replay K p journal ≡ Some left → holds left t ≡ true → GoesTo K left t (initial_mark p) (record left { now = empty; at = initial_mark p }) (reply.Went (diff left.now empty))
goes_to_initial K p journal left t h held =
    let is : find_mark (initial_mark p) (first_mark p ∷ []) ≡ Some (first_mark p) = ap (λ b. cond b (Some (first_mark p)) None) (eq-eqb (64 * p) (64 * p) refl) in
    let f = replay-Found K (initial_mark p) (λ k. k ≡ first_mark p) journal (λ s e _. first_mark-outlives p s e) (opening p) left (record { mark = first_mark p; is = is; fact = refl }) h in
    goes K left t (initial_mark p) empty (replay-MarksTaken K p journal left h)
    (record { mark = f.mark; is = f.is; fact = (ap (λ (k : Mark). k.live) f.fact, ap (λ (k : Mark). k.map) f.fact) }) held

-- ---- an unmark

-- A mark other than the initial one has a parent while it is live, and so may be deleted.
abbrev MayGo : Mark → Type 0
MayGo k = k.live ≡ true → (q : Tag) × (k.parent ≡ Some q)

MayGo-outlives : (m : Tag) (s : PartitionState) (e : Entry) → Outlives m MayGo s e
MayGo-outlives m s e t n q x k _ _ _ _ h = deletion_by MayGo n q k (λ _ l. absurd (cc)) (λ _ _ _. (q, refl)) (λ _. h)

IsDead-outlives : (m : Tag) (s : PartitionState) (e : Entry) → Outlives m (λ (k : Mark). k.live ≡ false) s e
IsDead-outlives m s e t n q x k _ _ _ _ h = deletion_by (λ (y : Mark). y.live ≡ false) n q k (λ _. refl) (λ _ _. h) (λ _. h)

-- once an unmark was asked for, the mark is not live
unmarked : (K : Modelling) (s : PartitionState) (t : ℕ) (m : Tag) (r : Stepped) → MarksTaken s → Found m MayGo s → step K s (Did t (act.Unmark m)) ≡ Some r → Found m (λ (k : Mark). k.live ≡ false) r.state
unmarked K s t m r taken f is =
    subst (λ (x : Stepped). Found m (λ (k : Mark). k.live ≡ false) x.state) (cond_some _ _ r is).1
    (elim f.mark.live as (λ b. f.mark.live ≡ b → Found m (λ (k : Mark). k.live ≡ false) (with_answer s (reach_of K s (act.Unmark m))).state) [
      | false ↦ λ dead.
          let at = mark_at_dead s m f.mark own f.is dead in
          subst (λ (o : Result Mark Refusal). Found m (λ (k : Mark). k.live ≡ false) (with_answer s (o >>= (λ x. parent_of x >>= (λ q. Ok (unmark_reaches s m q))))).state) (sym at) (record { mark = f.mark; is = f.is; fact = dead })
      | true ↦ λ live.
          let at = mark_at_live s m f.mark own f.is live in
          let parent = f.fact live in
          let below : parent_of f.mark ≡ Ok parent.0 = ap (λ (o : Option Tag). elim o as (λ _. Result Tag Refusal) [ None ↦ Err refusal.InitialMark | Some q ↦ Ok q ]) parent.1 in
          subst (λ (o : Result Mark Refusal). Found m (λ (k : Mark). k.live ≡ false) (with_answer s (o >>= (λ x. parent_of x >>= (λ q. Ok (unmark_reaches s m q))))).state) (sym at)
          (subst (λ (o : Result Tag Refusal). Found m (λ (k : Mark). k.live ≡ false) (with_answer s (o >>= (λ q. Ok (unmark_reaches s m q)))).state) (sym below)
          (record { mark = after_deletion m parent.0 f.mark; is = find_mark-deletion m m parent.0 s.marks f.mark f.is; fact = dead_now parent.0 }))
    ] refl)
  where
    own : owns s.blocks m ≡ true
    own = mark_owned s m f.mark taken f.is

    same : same_tag f.mark.tag m ≡ true
    same = eq-eqb _ _ (ap (λ (x : Tag). x.0) (find_mark-tag m s.marks f.mark f.is))

    dead_now : (q : Tag) → (after_deletion m q f.mark).live ≡ false
    dead_now q = ap (λ b. (cond b (deleted_mark f.mark) (cond (same_optional f.mark.parent (Some m)) (record f.mark { parent = Some q }) f.mark)).live) same

replay-unmarked : (K : Modelling) (m : Tag) (u : ℕ) (es : List Entry) → Contains es (Did u (act.Unmark m)) → (s end : PartitionState) → MarksTaken s → Found m MayGo s → replay_from K s es ≡ Some end → Found m (λ (k : Mark). k.live ≡ false) end
replay-unmarked K m u [] c s end taken f h = absurd (let l = c.1 in omega arith)
replay-unmarked K m u (e ∷ es) c s end taken f h =
    let first = replay_from-first K s e es end h in
    ⊎_elim (λ (l : Contains (e ∷ []) (Did u (act.Unmark m))).
    let is = subst (λ x. step K s x ≡ Some first.first) (Contains-only e (Did u (act.Unmark m)) l) first.steps in
    replay-Found K m (λ (k : Mark). k.live ≡ false) es (λ r x _. IsDead-outlives m r x) first.first.state end (unmarked K s u m first.first taken f is) first.rest)
    (λ (later : Contains es (Did u (act.Unmark m))).
    replay-unmarked K m u es later first.first.state end (step_way K s MarksTaken e first.first (MarksTaken-way s e taken) first.steps)
    (step_way K s (Found m MayGo) e first.first (Found-way m MayGo s e (MayGo-outlives m s e) f) first.steps) first.rest)
    (Contains-append_cases (e ∷ []) es (Did u (act.Unmark m)) c)

-- ---- a mark that was made

-- a mark as it is made, and what that answers
abbrev new_mark : PartitionState → Tag → Mark
new_mark s t = record { tag = t; parent = Some s.at; map = s.now; live = true }

abbrev made_answer : Tag → Option (Result Reply Refusal)
made_answer t = Some (Ok (reply.Made (t ∷ [])))

-- right after it was made, it is the first of its tag
new_mark-found : (m : Tag) (P : Mark → Type 0) (stood : PartitionState) → MarksTaken stood → 1 ≤ 64 * length stood.blocks - stood.used → next_tag stood ≡ m → P (new_mark stood m) → Found m P (mark_reaches stood (next_tag stood)).state
new_mark-found m P stood taken fits is fact =
    let t = next_tag stood in
    let new = new_mark stood t in
    let test = λ (k : Mark). same_tag k.tag t in
    let found : find_mark t (stood.marks ++ new ∷ []) ≡ Some new =
    find-append test stood.marks (new ∷ [])
    ∙ ap (λ o. option_or o (find_mark t (new ∷ []))) (no_mark_yet stood taken fits)
    ∙ ap (λ b. cond b (Some new) None) (eq-eqb t.0 t.0 refl)
    in
    let there : Found t P (mark_reaches stood t).state = record { mark = new; is = found; fact = subst (λ x. P (new_mark stood x)) (sym is) fact } in
    subst (λ x. Found x P (mark_reaches stood t).state) is there

module _ (K : Modelling) (p : ℕ) (before between : List Entry) (m : Tag) (w : WasMade K p before between m) where
  -- what holds of the mark when it was made
  just_made : (P : Mark → Type 0) → P (new_mark w.stood m) → Found m P w.marked
  just_made P fact =
      let c = cond_some _ _ _ w.made in
      let is : next_tag w.stood ≡ m = same_made (next_tag w.stood) m (ap (λ (x : Stepped). x.answer) c.1) in
      let fits = enough K w.stood act.Mark (and_parts _ _ c.0).1 in
      subst (Found m P) (ap (λ (x : Stepped). x.state) c.1) (new_mark-found m P w.stood (replay-MarksTaken K p before w.stood w.reaches) fits is fact)
    where
      same_made : (a b : Tag) → made_answer a ≡ made_answer b → a ≡ b
      same_made a b h =
          let lists : (a ∷ []) ≡ (b ∷ []) = cc in
          cc

  then_on : replay_from K w.marked between ≡ Some w.left
  then_on = sym (replay_from-append K (opening p) before (Did w.maker act.Mark ∷ between) w.stood w.reaches ∙ replay_from-step K w.stood (Did w.maker act.Mark) between _ w.made) ∙ w.goes_on

  left_taken : MarksTaken w.left
  left_taken = replay-MarksTaken K p (before ++ Did w.maker act.Mark ∷ between) w.left w.goes_on

  -- what outlives each entry between holds of it in the end
  made_found : (P : Mark → Type 0) → P (new_mark w.stood m) → ((s : PartitionState) (e : Entry) → Contains between e → Outlives m P s e) → Found m P w.left
  made_found P fact outlives = replay-Found K m P between outlives w.marked w.left (just_made P fact) then_on

  -- as long as it is live, it stands for the map of then
  made_map : Found m (λ (k : Mark). k.live ≡ true → k.map ≡ w.stood.now) w.left
  made_map =
      made_found _ (λ _. refl)
      (λ s e _ t n q x k _ _ _ _ h. deletion_by (λ (y : Mark). y.live ≡ true → y.map ≡ w.stood.now) n q k (λ _ l. absurd (cc)) (λ _ _. h) (λ _. h))

  went_back : (t : ℕ) (after : PartitionState) (answer : Reply) → (g : GoesTo K w.left t m after answer) → (went_there K w.left t m after answer g).mark.map ≡ w.stood.now
  went_back t after answer g =
      let there = went_there K w.left t m after answer g in
      let same : made_map.mark ≡ there.mark = same_Some _ _ (sym made_map.is ∙ there.is) in
      subst (λ (k : Mark). k.live ≡ true → k.map ≡ w.stood.now) same made_map.fact there.live

  pub map_is_back : (t : ℕ) (after : PartitionState) (answer : Reply) → GoesTo K w.left t m after answer → after.now ≡ w.stood.now
  map_is_back t after answer g = sym (ap (λ (s : PartitionState). s.now) (went_there K w.left t m after answer g).state) ∙ went_back t after answer g

  pub lists_are_difference : (t : ℕ) (after : PartitionState) (answer : Reply) → GoesTo K w.left t m after answer → answer ≡ reply.Went (diff w.left.now w.stood.now)
  lists_are_difference t after answer g = sym (went_there K w.left t m after answer g).lists ∙ ap (λ e. reply.Went (diff w.left.now e)) (went_back t after answer g)

  pub rest_stays : (t : ℕ) (after : PartitionState) (answer : Reply) → GoesTo K w.left t m after answer → after ≡ record w.left { now = after.now; at = m }
  rest_stays t after answer g =
      let state = (went_there K w.left t m after answer g).state in
      sym state ∙ ap (λ e. record w.left { now = e; at = m }) (ap (λ (s : PartitionState). s.now) state)

  pub goes_back : (t : ℕ) → (IsUnmarked m between → ⊥) → holds w.left t ≡ true → GoesTo K w.left t m (record w.left { now = w.stood.now; at = m }) (reply.Went (diff w.left.now w.stood.now))
  goes_back t never held = goes K w.left t m w.stood.now left_taken (made_found _ (refl, refl) outlives) held
    where
      outlives : (s : PartitionState) (e : Entry) → Contains between e → Outlives m (λ (k : Mark). (k.live ≡ true) × (k.map ≡ w.stood.now)) s e
      outlives s e c u n q x k asked _ _ is h =
          deletion_by (λ (y : Mark). (y.live ≡ true) × (y.map ≡ w.stood.now)) n q k
          (λ gone. let tags : n ≡ m = sym ((same_tag-Decides k.tag n).0 gone) ∙ find_mark-tag m s.marks k is in absurd (never (u, subst (λ y. Contains between (Did u (act.Unmark y))) tags (subst (Contains between) asked c))))
          (λ _ _. h) (λ _. h)

  pub is_refused : (t : ℕ) → IsUnmarked m between → holds w.left t ≡ true → IsRefused K w.left t m (refusal.MarkDeleted m)
  is_refused t asked held =
      let marked_taken = step_way K w.stood MarksTaken (Did w.maker act.Mark) _ (MarksTaken-way w.stood (Did w.maker act.Mark) (replay-MarksTaken K p before w.stood w.reaches)) w.made in
      goes_nowhere K w.left t m left_taken (replay-unmarked K m asked.0 between asked.1 w.marked w.left marked_taken (just_made MayGo (λ _. (w.stood.at, refl))) then_on) held

-- two bodies with a mark between them
pub two_bodies : WasMade vertex_bodies 1 (Claimed 1 ∷ Did 1 (vertex_body 0) ∷ []) (Did 1 (vertex_body 1) ∷ []) (tag 70)
unfolding tags_of tags_of_block
two_bodies =
    let stood = unwrap_or (replay vertex_bodies 1 (Claimed 1 ∷ Did 1 (vertex_body 0) ∷ [])) (opening 1) in
    record {
      maker = 1;
      stood = stood;
      marked = (mark_reaches stood (tag 70)).state;
      left = unwrap_or (replay vertex_bodies 1 (Claimed 1 ∷ Did 1 (vertex_body 0) ∷ Did 1 act.Mark ∷ Did 1 (vertex_body 1) ∷ [])) (opening 1);
      reaches = refl;
      made = refl;
      goes_on = refl;
    }
