-- One operator after another: what the second one may be carried out on, and what both reach.
use Rattle.std.proofs.Common.{◌≡◌, ℕ, zero, suc, ◌+◌, ◌<◌, ◌≤◌, ◌⊎◌, ⊎_elim, false, List, [], ◌∷◌, ◌++◌, length, take, drop, Option, None, Some, Result, Ok, Err, refl, sym, ap, subst, ◌∙◌, arith}
use Rattle.std.specs.Prelude.{IsOk, IsSome, IsTrue, is_some, Contains}
use Rattle.std.specs.List.{AllByRecursion}
use Rattle.std.specs.FinMap.{get}
use Rattle.std.proofs.lemmas.Bool.{true≢false}
use Rattle.std.proofs.lemmas.List.{drop-drop, get_or-take, length-take-le, take-append-drop}
use Rattle.pk_base.specs.Blocks.{tag}
use Rattle.pk_base.specs.declared.call.Call.{Call}
use Rattle.pk_base.specs.declared.tag.Tag.{Tag}
use Rattle.pk_model.specs.Apart.{NoRepeats}
use Rattle.pk_model.specs.Maps.{EntityMap}
use Rattle.pk_model.specs.Modelling.{MayBeAsked, Outcome}
use Rattle.pk_model.specs.Tags.{TagsAscend, owns, tag_at, tags_of}
use Rattle.pk_model.proofs.TagLists.{NoRepeats-between, TagsAscend-drop}
use Rattle.entity_store.specs.NextTags.{TagsView, left}
use Rattle.entity_store.specs.Store.{Stored}
use Rattle.list_facts.proofs.Each.{ByRecursion-at, ByRecursion-contains, ByRecursion-drop}
use Rattle.solid_model.specs.Rows.{Row, cost_of}
use Rattle.solid_model.specs.Rows.Effect.{Makes, Changes, Tells}
use Rattle.solid_model.specs.Links.{links}
use Rattle.solid_model.specs.Shapes.{shape_of}
use Rattle.solid_model.specs.Sound.{IsSound}
use Rattle.solid_model.specs.Euler.{euler, step_by}
use Rattle.solid_sound.proofs.shapes.Found.{none_where}
use Rattle.solid_sound.proofs.rows.EveryCall.{euler-IsModeller}
use Rattle.solid_calls.specs.Pairs.{reached, row_on}
use Rattle.solid_calls.proofs.RowKinds.{IsChanging, IsMaking, cost-changing, cost-making}
use Rattle.euler_laws.specs.Both.{GivesBack, GivesBackButNames, MayFollow, MayTake, cost_on, map_after, map_after_both, taken}
use Rattle.solid_model.specs.SameButNames.{SameButNames}
use Rattle.euler_laws.proofs.Laws.{ascend-once, back-again}

-- ---- lists

take-less : (P : Tag → Type 0) (k n : ℕ) (ts : List Tag) → k ≤ n → AllByRecursion P (take n ts) → AllByRecursion P (take k ts)
take-less P zero n ts le h = tt
take-less P (suc k) n [] le h = tt
take-less P (suc k) zero (t ∷ ts) le h = absurd (omega (arith, le))
take-less P (suc k) (suc n) (t ∷ ts) le h = (h.0, take-less P k n ts (omega (arith, le)) h.1)

take-between : (P : Tag → Type 0) (c k n : ℕ) (ts : List Tag) → c + k ≤ n → AllByRecursion P (take n ts) → AllByRecursion P (take k (drop c ts))
take-between P zero k n ts le h = take-less P k n ts (omega (arith, le)) h
take-between P (suc c) k n [] le h = none k
  where
    none : (k : ℕ) → AllByRecursion P (take k [])
    none zero = tt
    none (suc k) = tt
take-between P (suc c) k zero (t ∷ ts) le h = absurd (omega (arith, le))
take-between P (suc c) k (suc n) (t ∷ ts) le h = take-between P c k n ts (omega (arith, le)) h.1

length-less : (c : ℕ) (ts : List Tag) (n : ℕ) → c + n ≤ length ts → n ≤ length (drop c ts)
length-less zero ts n h = omega (arith, h)
length-less (suc c) [] n h = absurd (omega (arith, h))
length-less (suc c) (t ∷ ts) n h = length-less c ts n (omega (arith, h))

pub left-after : (c : ℕ) (tags : TagsView) → left (taken c tags) ≡ drop c (left tags)
left-after c tags = sym (drop-drop c tags.used (tags_of tags.blocks))

-- ---- how many tags are taken

pub cost-made : (k : ℕ) (m : EntityMap) (c : Call) → IsMaking k (row_on m c) → IsOk (row_on m c) → cost_on m c ≡ k
unfolding cost_on
cost-made k m c h goes = cost-making k (row_on m c) h goes

pub cost-changed : (m : EntityMap) (c : Call) → IsChanging (row_on m c) → cost_on m c ≡ 0
unfolding cost_on
cost-changed m c h = cost-changing (row_on m c) h

-- ---- the map after one operator

step-is : (m : EntityMap) (tags : List Tag) (row : Row) → IsSound m → IsOk row → (o : Outcome) × (step_by m tags row ≡ Ok o) × (o.map ≡ links (reached (shape_of m) tags row))
step-is m tags (Ok (Makes k reaches)) s goes = (_, refl, refl)
step-is m tags (Ok (Changes other)) s goes = (_, refl, refl)
step-is m tags (Ok (Tells reply)) s goes = (_, refl, sym (back-again m s))
step-is m tags (Err e) s goes = absurd (cc)

module _ (m : EntityMap) (c : Call) (n : ℕ) (tags : List Tag) (may : MayFollow m c n tags) (enough : cost_on m c ≤ n) where
  pub after-free : AllByRecursion (λ t. get (map_after m c tags) t ≡ None) (drop (cost_on m c) tags)
  unfolding map_after cost_on
  after-free =
      let step = step-is m tags (row_on m c) may.sound may.goes in
      let more = may.enough in
      let asked : MayBeAsked euler m c tags = record { sound = may.sound; enough = omega (arith, enough, more); ascend = may.ascend; free = may.free } in
      let parts : NoRepeats (take (cost_of (row_on m c)) tags ++ drop (cost_of (row_on m c)) tags) = subst NoRepeats (sym (take-append-drop (cost_of (row_on m c)) tags)) (ascend-once tags may.ascend) in
      ByRecursion-contains (λ t. get (links (reached (shape_of m) tags (row_on m c))) t ≡ None) (drop (cost_of (row_on m c)) tags) (λ t k.
      none_where (get (links (reached (shape_of m) tags (row_on m c))) t) (λ x e.
      let live : IsSome (get step.0.map t) = ap is_some (ap (λ n. get n t) step.2 ∙ e) in
      ⊎_elim {C = ⊥}
      (λ (l : IsSome (get m t)).
      let none : get m t ≡ None = ByRecursion-at (λ u. get m u ≡ None) (drop (cost_of (row_on m c)) tags) t (ByRecursion-drop (λ u. get m u ≡ None) (cost_of (row_on m c)) tags may.free) k in
      let dead : is_some (get m t) ≡ false = ap is_some none in true≢false (sym l ∙ dead))
      (λ (r : Contains (take (cost_of (row_on m c)) tags) t). NoRepeats-between (take (cost_of (row_on m c)) tags) (drop (cost_of (row_on m c)) tags) t parts r k)
      (euler-IsModeller.keys m c tags step.0 asked step.1 t live)))

-- ---- the second operator

pub first-may : (s : Stored) (c : Call) (n k : ℕ) (tags : TagsView) → MayTake s c n tags → cost_on s.map c ≡ k → k ≤ n → MayTake s c (cost_on s.map c) tags
first-may s c n k tags may cost le = record {
  may = record { sound = may.may.sound; goes = may.may.goes; enough = let h = may.may.enough in omega (arith, h, cost, le); ascend = may.may.ascend; free = may.may.free };
  owned = take-less (λ t. IsTrue (owns s.blocks t)) (cost_on s.map c) n (left tags) (omega (arith, cost, le)) may.owned;
}

module _ (s : Stored) (c d : Call) (n a b : ℕ) (tags : TagsView) (may : MayTake s c n tags) (cost : cost_on s.map c ≡ a) (fits : a + b ≤ n) where
  abbrev m : EntityMap
  m = s.map

  abbrev middle : EntityMap
  middle = map_after s.map c (left tags)

  there : IsSound middle → IsOk (row_on middle d) → cost_on middle d ≡ b → MayTake (record s { map = map_after s.map c (left tags) }) d (cost_on (map_after s.map c (left tags)) d) (taken (cost_on s.map c) tags)
  there sound goes cost_d =
      let after : left (taken (cost_on m c) tags) ≡ drop (cost_on m c) (left tags) = left-after (cost_on m c) tags in
      let more = may.may.enough in
      record {
        may = record {
          sound = sound;
          goes = goes;
          enough = subst (λ (ts : List Tag). cost_on middle d ≤ length ts) (sym after) (length-less (cost_on m c) (left tags) (cost_on middle d) (omega (arith, cost, cost_d, fits, more)));
          ascend = subst TagsAscend (sym after) (TagsAscend-drop (cost_on m c) (left tags) may.may.ascend);
          free = subst (AllByRecursion (λ t. get middle t ≡ None)) (sym after) (after-free m c n (left tags) may.may (omega (arith, cost, fits)));
        };
        owned = subst (λ ts. AllByRecursion (λ t. IsTrue (owns s.blocks t)) (take (cost_on middle d) ts)) (sym after)
            (take-between (λ t. IsTrue (owns s.blocks t)) (cost_on m c) (cost_on middle d) n (left tags) (omega (arith, cost, cost_d, fits)) may.owned);
      }

  -- d is the second call, as it is carried out
  module _ (d' : Call) (same : d' ≡ d) (new : Stored) (tags' : TagsView) (state : new ≡ record s { map = map_after s.map c (left tags) }) (took : tags' ≡ taken (cost_on s.map c) tags) where
    pub second-may : IsSound new.map → IsOk (row_on middle d) → cost_on middle d ≡ b → MayTake new d' (cost_on new.map d') tags'
    second-may sound goes cost_d =
        let here : IsSound middle = subst (λ (o : Stored). IsSound o.map) state sound in
        subst (λ (p : Stored × TagsView × Call). MayTake p.0 p.2 (cost_on p.0.map p.2) p.1) (λ i. (sym state i, sym took i, sym same i)) (there here goes cost_d)

    -- the map that both reach
    pub reached-both : (last : Stored) → last ≡ record new { map = map_after new.map d' (left tags') } → last.map ≡ map_after_both m c d (left tags)
    reached-both last is =
        ap (λ (o : Stored). o.map) is
        ∙ (λ i. map_after ((state i).map) (same i) (left (took i)))
        ∙ ap (map_after middle d) (left-after (cost_on m c) tags)

    -- and the tags that both leave
    pub taken-both : (last : TagsView) → last ≡ taken (cost_on new.map d') tags' → cost_on middle d ≡ b → a + b ≡ n → last ≡ taken n tags
    taken-both last is cost_d all =
        let here : cost_on new.map d' ≡ b = (λ i. cost_on ((state i).map) (same i)) ∙ cost_d in
        let sum : (tags.used + cost_on m c) + cost_on new.map d' ≡ tags.used + n = omega (arith, cost, here, all) in
        is ∙ ap (taken (cost_on new.map d')) took ∙ ap (λ (k : ℕ). record tags { used = k }) sum

-- ---- the tags that the first operator took

pub length-made : (m : EntityMap) (c : Call) (n k : ℕ) (ts made : List Tag) → MayFollow m c n ts → cost_on m c ≡ k → k ≤ n → made ≡ take (cost_on m c) ts → length made ≡ k
length-made m c n k ts made may cost le is =
    let more = may.enough in
    ap length is ∙ length-take-le (cost_on m c) ts (omega (arith, cost, le, more)) ∙ cost

pub made-tag : (c k i : ℕ) (ts made : List Tag) (t : Tag) → made ≡ take c ts → c ≡ k → i < k → t ≡ tag_at made i → t ≡ tag_at ts i
made-tag c k i ts made t is cost less at = at ∙ ap (λ us. tag_at us i) is ∙ get_or-take c ts i (tag 0) (omega (arith, cost, less))
