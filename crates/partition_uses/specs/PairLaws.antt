-- Pairs are what is asked of a modeller.
use Rattle.std.proofs.Common.{◌≡◌, ◌≢◌, ◌<◌, ◌≤◌, ◌⊎◌, inl, inr, ⊎_elim, Bool, true, false, cond, List, [], ◌∷◌, length, take, Option, Some, None, Ok, Err, refl, sym, ap, subst, ◌∙◌, arith}
use Rattle.std.specs.Prelude.{pos, is_some, IsSome, Contains}
use Rattle.std.specs.List.{AllByRecursion}
use Rattle.std.specs.Ordering.{eq_by_cmp}
use Rattle.std.specs.Cmp.{Equal-is}
use Rattle.std.specs.FinMap.{empty, get, insert, get-insert, get-empty}
use Rattle.std.proofs.lemmas.Bool.{cases_Bool}
use Rattle.std.proofs.lemmas.Option.{same_Some}
use Rattle.pk_base.specs.Entity.{named_by, owner_of}
use Rattle.pk_base.specs.declared.tag.Tag.{Tag}
use Rattle.pk_base.specs.declared.entity.Entity.{Entity}
use Rattle.pk_base.specs.declared.entity.Entity.TheVariants.{Body, Shell}
use Rattle.pk_base.specs.declared.refusal.Refusal.{Refusal}
use Rattle.pk_model.specs.Tags.{TagsAscend}
use Rattle.pk_model.specs.Maps.{EntityMap, tag_cmp}
use Rattle.pk_model.specs.Modelling.{Outcome, IsModeller}
use Rattle.pk_model.specs.VertexBodies.{IsClosed}
use Rattle.pk_model.proofs.TagLists.{tag_total, tag_antisymmetric, ties_itself}
use Rattle.pk_model.proofs.VertexModeller.{insert_live}
use Rattle.list_facts.proofs.Each.{ByRecursion-weaker}
use Rattle.partition_uses.specs.PairBodies.{makes_pair, with_pair, pair_of, pair_step, pair_cost, pair_bodies}

-- ---- what is found after an insert

found_new : (m : EntityMap) (k : Tag) (v : Entity) → get (insert m k v) k ≡ Some v
found_new m k v = get-insert tag_total m k v k ∙ ap (λ b. cond b (Some v) (get m k)) (ties_itself k)

-- what is live stays live
stays_live : (m : EntityMap) (k : Tag) (v : Entity) (t : Tag) → IsSome (get m t)
    → IsSome (get (insert m k v) t)
stays_live m k v t h =
    subst (λ (o : Option Entity). IsSome o) (sym (get-insert tag_total m k v t))
    (elim (eq_by_cmp tag_cmp t k) as (λ b. IsSome (cond b (Some v) (get m t)))
    [ true ↦ refl | false ↦ h ])

-- it is the new entity, or was found before
found_cases : (m : EntityMap) (k : Tag) (v : Entity) (t : Tag) (e : Entity) → get (insert m k v) t
    ≡ Some e → ((t ≡ k) × (v ≡ e)) ⊎ (get m t ≡ Some e)
found_cases m k v t e h =
    let is : (b : Bool) → eq_by_cmp tag_cmp t k ≡ b → cond b (Some v) (get m t)
    ≡ Some e = λ b q. sym (get-insert tag_total m k v t ∙ ap (λ b. cond b (Some v) (get m t)) q)
    ∙ h in
    ⊎_elim (λ (l : eq_by_cmp tag_cmp t k ≡ true). inl
    (tag_antisymmetric t k ((Equal-is (tag_cmp t k)).0 l), same_Some v e (is true l)))
    (λ (r : eq_by_cmp tag_cmp t k ≡ false). inr (is false r))
    (cases_Bool (eq_by_cmp tag_cmp t k))

-- ---- a pair keeps a map closed

-- what the entity names is live in the map, and it is not its own owner
abbrev IsClosedAt : EntityMap → Tag → Entity → Type 0
IsClosedAt m t e = AllByRecursion (λ n. IsSome (get m n)) (named_by e) × (owner_of e ≢ Some t)

pair_closed : (m : EntityMap) (body shell : Tag) → body.0 < shell.0 → IsClosed m
    → IsClosed (with_pair m body shell)
pair_closed m body shell below closed =
    let m1 = insert m body (Body shell) in
    let whole = with_pair m body shell in
    let body_live : IsSome (get whole body) = stays_live m1 shell (Shell body (pos 1)) body
    (ap is_some (found_new m body (Body shell))) in
    let shell_live : IsSome (get whole shell) = ap is_some
    (found_new m1 shell (Shell body (pos 1))) in
    let of_shell : IsClosedAt whole shell
    (Shell body (pos 1)) = (
      (body_live, tt),
      λ o. let same : body.0
          ≡ shell.0 = ap (λ (t : Tag). t.0) (same_Some body shell o) in omega arith,
    ) in
    let of_body : IsClosedAt whole body (Body shell) = ((shell_live, tt), λ o. absurd (cc)) in
    let still : (t : Tag) → IsSome (get m t)
    → IsSome (get whole t) = λ t h. stays_live m1 shell (Shell body (pos 1)) t
    (stays_live m body (Body shell) t h) in
    let each : (t : Tag) (e : Entity) → get whole t ≡ Some e → IsClosedAt whole t e = λ t e h.
    ⊎_elim (λ (l : (t ≡ shell) × (Shell body (pos 1) ≡ e)). subst
    (λ (p : Tag × Entity). IsClosedAt whole p.0 p.1) (λ i. (sym l.0 i, l.1 i)) of_shell)
    (λ (r : get m1 t ≡ Some e).
    ⊎_elim (λ (l : (t ≡ body) × (Body shell ≡ e)). subst
    (λ (p : Tag × Entity). IsClosedAt whole p.0 p.1) (λ i. (sym l.0 i, l.1 i)) of_body)
    (λ (k : get m t ≡ Some e). (
      ByRecursion-weaker _ _ still (named_by e) (closed.names t e k),
      closed.owners t e k,
    ))
    (found_cases m body (Body shell) t e r))
    (found_cases m1 shell (Shell body (pos 1)) t e h)
    in
    record { names = λ t e h. (each t e h).0; owners = λ t e h. (each t e h).1 }

-- ---- the laws, by whether the call makes a pair

-- what holds of the first two of two tags or more
abbrev OfTwo : (List Tag → Type 0) → Type 0
OfTwo P = (tags : List Tag) → 2 ≤ length tags → P tags

of_two : (P : List Tag → Type 0) → ((a b : Tag) (more : List Tag) → P (a ∷ b ∷ more)) → OfTwo P
of_two P h [] fits = absurd (omega arith)
of_two P h (a ∷ []) fits = absurd (omega arith)
of_two P h (a ∷ b ∷ more) fits = h a b more

pair_keeps : (m : EntityMap) → IsClosed m
    → OfTwo (λ tags. TagsAscend tags → IsClosed (pair_of m tags).map)
pair_keeps m closed = of_two (λ tags. TagsAscend tags → IsClosed (pair_of m tags).map)
    (λ a b more ascend. pair_closed m a b ascend.0.0 closed)

pair_keys : (m : EntityMap) (t : Tag)
    → OfTwo (λ tags. IsSome (get (pair_of m tags).map t) → IsSome (get m t)
    ⊎ Contains (take 2 tags) t)
pair_keys m t = of_two (λ tags. IsSome (get (pair_of m tags).map t) → IsSome (get m t)
    ⊎ Contains (take 2 tags) t) (λ a b more h.
    let taken = a ∷ b ∷ [] in
    ⊎_elim (λ (l : IsSome (get (insert m a (Body b)) t)).
    ⊎_elim (λ (k : IsSome (get m t)). inl k)
    (λ (k : t ≡ a). inr (subst (Contains taken) (sym k) (0, omega arith, refl)))
    (insert_live m a (Body b) t l))
    (λ (r : t ≡ b). inr (subst (Contains taken) (sym r) (1, omega arith, refl)))
    (insert_live (insert m a (Body b)) b (Shell a (pos 1)) t h))

keeps_by : (m : EntityMap) (tags : List Tag) (makes : Bool) (o : Outcome) → IsClosed m
    → pair_cost makes ≤ length tags → TagsAscend tags → pair_step m tags makes ≡ Ok o
    → IsClosed o.map
keeps_by m tags true o closed fits ascend is =
    let e : pair_of m tags ≡ o = cc in
    subst (λ (x : Outcome). IsClosed x.map) e (pair_keeps m closed tags fits ascend)
keeps_by m tags false o closed fits ascend is = absurd (cc)

keys_by : (m : EntityMap) (tags : List Tag) (makes : Bool) (o : Outcome)
    → pair_cost makes ≤ length tags → pair_step m tags makes ≡ Ok o → (t : Tag)
    → IsSome (get o.map t) → IsSome (get m t) ⊎ Contains (take (pair_cost makes) tags) t
keys_by m tags true o fits is t h =
    let e : pair_of m tags ≡ o = cc in
    pair_keys m t tags fits (subst (λ (x : Outcome). IsSome (get x.map t)) (sym e) h)
keys_by m tags false o fits is t h = absurd (cc)

alike_by : (m : EntityMap) (tags other : List Tag) (makes : Bool) (e : Refusal)
    → pair_step m tags makes ≡ Err e → pair_step m other makes ≡ Err e
alike_by m tags other true e is = absurd (cc)
alike_by m tags other false e is = is

free_by : (m : EntityMap) (tags : List Tag) (makes : Bool) (e : Refusal) → pair_step m tags makes
    ≡ Err e → pair_cost makes ≡ 0
free_by m tags true e is = absurd (cc)
free_by m tags false e is = refl

abbrev no_map : EntityMap
no_map = empty

none_there : (t : Tag) (e : Entity) → get no_map t ≡ Some e → ⊥
none_there t e h = let none : None ≡ Some e = sym (get-empty tag_cmp t) ∙ h in cc

pub pair_bodies-IsModeller : IsModeller pair_bodies
pair_bodies-IsModeller = record {
  empty = record {
    names = λ t e h. absurd (none_there t e h);
    owners = λ t e h. absurd
        (none_there t e h);
  };
  names = λ m closed. closed.names;
  owners = λ m closed. closed.owners;
  keeps = λ m c tags o may is. keeps_by m tags (makes_pair c) o may.sound may.enough may.ascend is;
  keys = λ m c tags o may is. keys_by m tags (makes_pair c) o may.enough is;
  alike = λ m c tags other e _ _ is. alike_by m tags other (makes_pair c) e is;
  free = λ m c tags e _ is. free_by m tags (makes_pair c) e is;
}
