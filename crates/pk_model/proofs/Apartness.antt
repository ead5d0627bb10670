-- No tag names two entities, for any modeller.
use Rattle.std.proofs.Common.{◌≡◌, ◌≢◌, ℕ, ◌+◌, ◌<◌, ◌≤◌, ◌⊎◌, inl, inr, ⊎_elim, true, List, [], ◌∷◌, ◌++◌, length, take, Option, Some, None, refl, sym, subst, arith}
use Rattle.std.specs.Prelude.{IsSome, Contains}
use Rattle.std.specs.List.{filter_map, AllByRecursion}
use Rattle.std.proofs.lemmas.Bool.{or_cases, or_left, or_right, eqb-true}
use Rattle.std.proofs.lemmas.List.{append-nil}
use Rattle.std.proofs.lemmas.List.Elements.{Contains-append_left, Contains-append_right, Contains-append_cases}
use Rattle.pk_base.specs.declared.tag.Tag.{Tag}
use Rattle.pk_base.specs.declared.act.Entry.{Entry}
use Rattle.pk_base.specs.Blocks.{block_of}
use Rattle.list_facts.proofs.Elements.{Contains-take}
use Rattle.list_facts.proofs.Each.{ByRecursion-append, ByRecursion-weaker, ByRecursion-contains, ByRecursion-at, ByRecursion-left, ByRecursion-right}
use Rattle.pk_model.specs.Tags.{owns, tags_of}
use Rattle.pk_model.specs.State.{initial_mark}
use Rattle.pk_model.specs.Modelling.{Modelling, IsModeller}
use Rattle.pk_model.specs.Replay.{replay, drawn_block}
use Rattle.pk_model.specs.Apart.{Apart, NoRepeats, TakenBefore, EachTakenBefore, taken_in, created_from}
use Rattle.pk_model.specs.Sessions.{drawn_in, BlocksApart, EachReplays, AreOneSession}
use Rattle.pk_model.proofs.TagLists.{NoRepeats-append, NoRepeats-take, NoRepeats-blocks_apart, BlocksApart-ascends, Contains-owns, not_owned}
use Rattle.pk_model.proofs.TagsTaken.{replay-kept, live_taken}

-- the blocks that partitions p, p + 1 and so on own over these journals
abbrev pub owned_from : ℕ → List (List Entry) → List ℕ
owned_from p [] = []
owned_from p (journal ∷ journals) = (p ∷ filter_map drawn_block journal) ++ owned_from (p + 1) journals

pub some_of : {X : Type 0} (o : Option X) → IsSome o → (x : X) × (o ≡ Some x)
some_of None h = absurd (cc)
some_of (Some x) h = (x, refl)

-- ---- at each moment, each live tag was taken before

taken_before : (K : Modelling) → IsModeller K → (p : ℕ) (journal : List Entry) → TakenBefore K p journal
taken_before K good p journal moment s h t live = live_taken K p _ _ s (replay-kept K good p (take moment journal) s h) t live

each_taken_before : (K : Modelling) → IsModeller K → (p : ℕ) (journals : List (List Entry)) → EachTakenBefore K p journals
each_taken_before K good p [] = tt
each_taken_before K good p (journal ∷ journals) = (taken_before K good p journal, each_taken_before K good (p + 1) journals)

-- ---- no tag stands twice among those created

-- no block of the one list is in the other
abbrev BlocksDisjoint : List ℕ → List ℕ → Type 0
BlocksDisjoint bs cs = AllByRecursion (λ b. AllByRecursion (λ c. b ≢ c) cs) bs

pub owns-append_left : (bs cs : List ℕ) (t : Tag) → owns bs t ≡ true → owns (bs ++ cs) t ≡ true
owns-append_left [] cs t h = absurd (cc)
owns-append_left (b ∷ bs) cs t h = ⊎_elim (λ l. or_left _ _ l) (λ r. or_right _ _ (owns-append_left bs cs t r)) (or_cases _ _ h)

owns-append_right : (bs cs : List ℕ) (t : Tag) → owns cs t ≡ true → owns (bs ++ cs) t ≡ true
owns-append_right [] cs t h = h
owns-append_right (b ∷ bs) cs t h = or_right _ _ (owns-append_right bs cs t h)

owned_by_one : (bs cs : List ℕ) (t : Tag) → BlocksDisjoint bs cs → owns bs t ≡ true → owns cs t ≡ true → ⊥
owned_by_one [] cs t d h k = cc
owned_by_one (b ∷ bs) cs t d h k = ⊎_elim (λ l. not_owned b cs t d.0 (eqb-true b (block_of t) l) k) (λ r. owned_by_one bs cs t d.1 r k) (or_cases _ _ h)

BlocksApart-left : (bs cs : List ℕ) → BlocksApart (bs ++ cs) → BlocksApart bs
BlocksApart-left [] cs h = tt
BlocksApart-left (b ∷ bs) cs h = (ByRecursion-left _ bs cs h.0, BlocksApart-left bs cs h.1)

BlocksApart-right : (bs cs : List ℕ) → BlocksApart (bs ++ cs) → BlocksApart cs
BlocksApart-right [] cs h = h
BlocksApart-right (b ∷ bs) cs h = BlocksApart-right bs cs h.1

BlocksApart-between : (bs cs : List ℕ) → BlocksApart (bs ++ cs) → BlocksDisjoint bs cs
BlocksApart-between [] cs h = tt
BlocksApart-between (b ∷ bs) cs h = (ByRecursion-right _ bs cs h.0, BlocksApart-between bs cs h.1)

BlocksApart-append : (bs cs : List ℕ) → BlocksApart bs → BlocksApart cs → BlocksDisjoint bs cs → BlocksApart (bs ++ cs)
BlocksApart-append [] cs h k d = k
BlocksApart-append (b ∷ bs) cs h k d = (ByRecursion-append _ bs cs h.0 d.0, BlocksApart-append bs cs h.1 k d.1)

module _ (K : Modelling) (good : IsModeller K) where
  -- what one partition created is of its own blocks
  created_by_one : (p : ℕ) (journal : List Entry) → IsSome (replay K p journal) → (t : Tag) → Contains (initial_mark p ∷ taken_in K p journal) t → owns (p ∷ filter_map drawn_block journal) t ≡ true
  created_by_one p journal h t c =
      let end = some_of (replay K p journal) h in
      let k = replay-kept K good p journal end.0 end.1 in
      subst (λ l. owns l t ≡ true) k.blocks (Contains-owns end.0.blocks t (Contains-take end.0.used (tags_of end.0.blocks) t (subst (λ l. Contains l t) k.in_order c)))

  created_owned : (p : ℕ) (journals : List (List Entry)) → EachReplays K p journals → (t : Tag) → Contains (created_from K p journals) t → owns (owned_from p journals) t ≡ true
  created_owned p [] h t c = absurd (let l = c.1 in omega arith)
  created_owned p (journal ∷ journals) h t c =
      ⊎_elim (λ l. owns-append_left (p ∷ filter_map drawn_block journal) (owned_from (p + 1) journals) t (created_by_one p journal h.0 t l))
      (λ r. owns-append_right (p ∷ filter_map drawn_block journal) (owned_from (p + 1) journals) t (created_owned (p + 1) journals h.1 t r))
      (Contains-append_cases (initial_mark p ∷ taken_in K p journal) (created_from K (p + 1) journals) t c)

  once_by_one : (p : ℕ) (journal : List Entry) → IsSome (replay K p journal) → NoRepeats (initial_mark p ∷ taken_in K p journal)
  once_by_one p journal h =
      let end = some_of (replay K p journal) h in
      let k = replay-kept K good p journal end.0 end.1 in
      subst NoRepeats (sym k.in_order) (NoRepeats-take end.0.used (tags_of end.0.blocks) (NoRepeats-blocks_apart end.0.blocks (BlocksApart-ascends end.0.blocks k.ascends)))

  created_once : (p : ℕ) (journals : List (List Entry)) → EachReplays K p journals → BlocksApart (owned_from p journals) → NoRepeats (created_from K p journals)
  created_once p [] h apart = tt
  created_once p (journal ∷ journals) h apart =
      let own = p ∷ filter_map drawn_block journal in
      let others = owned_from (p + 1) journals in
      NoRepeats-append (initial_mark p ∷ taken_in K p journal) (created_from K (p + 1) journals) (once_by_one p journal h.0) (created_once (p + 1) journals h.1 (BlocksApart-right own others apart))
      (ByRecursion-contains _ (initial_mark p ∷ taken_in K p journal) (λ x hx.
      ByRecursion-contains _ (created_from K (p + 1) journals) (λ y hy e.
      owned_by_one own others x (BlocksApart-between own others apart) (created_by_one p journal h.0 x hx)
      (created_owned (p + 1) journals h.1 x (subst (Contains (created_from K (p + 1) journals)) (sym e) hy)))))

  pub one_apart : (p : ℕ) (journal : List Entry) → IsSome (replay K p journal) → NoRepeats (created_from K p (journal ∷ []))
  one_apart p journal h = subst NoRepeats (sym (append-nil (initial_mark p ∷ taken_in K p journal))) (once_by_one p journal h)

  pub one_journal_apart : (journal : List Entry) → IsSome (replay K 1 journal) → Apart K (journal ∷ [])
  one_journal_apart journal h = record { once = one_apart 1 journal h; taken = each_taken_before K good 1 (journal ∷ []) }

-- ---- the blocks of a session

-- a partition's number or a block that was drawn
abbrev FromSession : ℕ → ℕ → List ℕ → ℕ → Type 0
FromSession p n drawn b = ((p ≤ b) × (b < n)) ⊎ Contains drawn b

FromSession-more : (p : ℕ) (journal : List Entry) (journals : List (List Entry)) (b : ℕ) → FromSession (p + 1) ((p + 1) + length journals) (drawn_in journals) b → FromSession p (p + length (journal ∷ journals)) (drawn_in (journal ∷ journals)) b
FromSession-more p journal journals b h =
    ⊎_elim (λ (l : (p + 1 ≤ b) × (b < (p + 1) + length journals)). let low : p ≤ b = omega arith in let high : b < p + length (journal ∷ journals) = omega arith in inl (low, high))
    (λ (r : Contains (drawn_in journals) b). inr (Contains-append_right (filter_map drawn_block journal) (drawn_in journals) b r))
    h

owned_from-session : (p : ℕ) (journals : List (List Entry)) → AllByRecursion (FromSession p (p + length journals) (drawn_in journals)) (owned_from p journals)
owned_from-session p [] = tt
owned_from-session p (journal ∷ journals) =
    let high : p < p + length (journal ∷ journals) = omega arith in
    let low : p ≤ p = omega arith in (
      inl (low, high),
      ByRecursion-append _ (filter_map drawn_block journal) (owned_from (p + 1) journals)
          (ByRecursion-contains _ (filter_map drawn_block journal) (λ b h. inr (Contains-append_left (filter_map drawn_block journal) (drawn_in journals) b h)))
          (ByRecursion-weaker _ _ (FromSession-more p journal journals) (owned_from (p + 1) journals) (owned_from-session (p + 1) journals)),
    )

owned_once : (n p : ℕ) (journals : List (List Entry)) → p + length journals ≤ n + 1 → AllByRecursion (λ b. n < b) (drawn_in journals) → BlocksApart (drawn_in journals) → BlocksApart (owned_from p journals)
owned_once n p [] fits above once = tt
owned_once n p (journal ∷ journals) fits above once =
    let drawn = filter_map drawn_block journal in
    let later = drawn_in journals in
    let others = owned_from (p + 1) journals in
    let fits' : (p + 1) + length journals ≤ n + 1 = omega arith in
    let above_drawn = ByRecursion-left (λ b. n < b) drawn later above in
    let above_later = ByRecursion-right (λ b. n < b) drawn later above in
    let from = owned_from-session (p + 1) journals in
    let itself : AllByRecursion (λ c. p ≢ c) others = ByRecursion-weaker _ _ (λ c h e.
    ⊎_elim (λ (l : (p + 1 ≤ c) × (c < (p + 1) + length journals)). let k : p ≡ c = e in absurd (omega arith))
    (λ (r : Contains later c). let k : p ≡ c = e in let a : n < c = ByRecursion-at (λ b. n < b) later c above_later r in absurd (omega arith))
    h) others from
    in
    let apart : BlocksDisjoint drawn others = ByRecursion-contains _ drawn (λ b hb. ByRecursion-weaker _ _ (λ c h e.
    ⊎_elim (λ (l : (p + 1 ≤ c) × (c < (p + 1) + length journals)). let k : b ≡ c = e in let a : n < b = ByRecursion-at (λ b. n < b) drawn b above_drawn hb in absurd (omega arith))
    (λ (r : Contains later c). ByRecursion-at (λ d. b ≢ d) later c (ByRecursion-at (λ b. AllByRecursion (λ d. b ≢ d) later) drawn b (BlocksApart-between drawn later once) hb) r e)
    h) others from)
    in
    let below : AllByRecursion (λ c. p ≢ c) drawn = ByRecursion-weaker _ _ (λ c h e. let k : p ≡ c = e in absurd (omega arith)) drawn above_drawn in
    BlocksApart-append (p ∷ drawn) others (below, BlocksApart-left drawn later once) (owned_once n (p + 1) journals fits' above_later (BlocksApart-right drawn later once)) (itself, apart)

pub session_apart : (K : Modelling) → IsModeller K → (journals : List (List Entry)) → AreOneSession K journals → Apart K journals
session_apart K good journals s = record {
  once = created_once K good 1 journals s.replays (owned_once (length journals) 1 journals (omega arith) s.above s.once);
  taken = each_taken_before K good 1 journals;
}
