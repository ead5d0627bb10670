-- Vertex bodies are what is asked of a modeller.
use Rattle.std.proofs.Common.{◌≡◌, ◌≢◌, ℕ, zero, suc, ◌<◌, ◌≤◌, ◌⊎◌, inl, inr, ⊎_elim, true, false, cond, List, [], ◌∷◌, length, take, Option, Some, None, Ok, Err, refl, sym, ap, subst, ◌∙◌, arith}
use Rattle.std.specs.Prelude.{ℤ, pos, is_some, IsSome, Contains}
use Rattle.std.specs.List.{AllByRecursion}
use Rattle.std.specs.Ordering.{eq_by_cmp}
use Rattle.std.specs.Cmp.{Equal-is}
use Rattle.std.specs.FinMap.{empty, get, insert, get-insert, get-empty}
use Rattle.std.proofs.lemmas.Bool.{cases_Bool}
use Rattle.std.proofs.lemmas.Option.{same_Some}
use Rattle.std.proofs.lemmas.List.{get_or-take, length-take-le}
use Rattle.std.proofs.lemmas.List.Elements.{Contains-get_or}
use Rattle.pk_base.specs.Blocks.{tag}
use Rattle.pk_base.specs.Entity.{named_by, owner_of}
use Rattle.pk_base.specs.declared.tag.Tag.{Tag}
use Rattle.pk_base.specs.declared.entity.Entity.{Entity}
use Rattle.pk_base.specs.declared.entity.Entity.TheVariants.{Body, Shell, Face, Loop, Vertex}
use Rattle.pk_base.specs.declared.entity.Point.{Point}
use Rattle.pk_base.specs.declared.entity.Triple.{Triple}
use Rattle.pk_base.specs.declared.refusal.Refusal.{Refusal}
use Rattle.list_facts.proofs.Each.{ByRecursion-weaker, ByRecursion-get_or}
use Rattle.pk_model.specs.Tags.{TagsAscend, tag_at}
use Rattle.pk_model.specs.Maps.{EntityMap, tag_cmp}
use Rattle.pk_model.specs.Modelling.{Outcome, IsModeller}
use Rattle.pk_model.specs.VertexBodies.{vertex_bodies, IsClosed, point_of, with_vertex_body, mvfs, mvfs_step, mvfs_cost, first_outside, place_of, step_at, cost_at}
use Rattle.pk_model.proofs.TagLists.{tag_total, tag_antisymmetric, ties_itself}

-- what is live after an insert was live before, or is the new tag
pub insert_live : (m : EntityMap) (k : Tag) (v : Entity) (t : Tag) → IsSome (get (insert m k v) t) → IsSome (get m t) ⊎ (t ≡ k)
insert_live m k v t h =
    ⊎_elim (λ (l : eq_by_cmp tag_cmp t k ≡ true). inr (tag_antisymmetric t k ((Equal-is (tag_cmp t k)).0 l)))
    (λ (r : eq_by_cmp tag_cmp t k ≡ false). inl (subst (λ (o : Option Entity). IsSome o) (get-insert tag_total m k v t ∙ ap (λ b. cond b (Some v) (get m t)) r) h))
    (cases_Bool (eq_by_cmp tag_cmp t k))

among_taken : (n i : ℕ) (tags : List Tag) (t : Tag) → i < n → n ≤ length tags → t ≡ tag_at tags i → Contains (take n tags) t
among_taken n i tags t h fits e =
    let within : i < length (take n tags) = omega (arith, length-take-le n tags fits) in
    subst (Contains (take n tags)) (get_or-take n tags i (tag 0) h ∙ sym e) (Contains-get_or (take n tags) i (tag 0) within)

-- one more insert, of a tag that is taken
insert_taken : (before m : EntityMap) (taken : List Tag) (k : Tag) (v : Entity) → ((x : Tag) → x ≡ k → Contains taken x) → ((x : Tag) → IsSome (get m x) → IsSome (get before x) ⊎ Contains taken x) → (t : Tag) → IsSome (get (insert m k v) t) → IsSome (get before t) ⊎ Contains taken t
insert_taken before m taken k v new old t h = ⊎_elim (λ l. old t l) (λ r. inr (new t r)) (insert_live m k v t h)

body_live : (m : EntityMap) (at : Triple) (tags : List Tag) → 5 ≤ length tags → (t : Tag) → IsSome (get (mvfs m at tags).map t) → IsSome (get m t) ⊎ Contains (take 5 tags) t
body_live m at tags fits =
    let one = λ (i : ℕ) (h : i < 5) (x : Tag) (e : x ≡ tag_at tags i). among_taken 5 i tags x h fits e in
    insert_taken m _ (take 5 tags) (tag_at tags 4) _ (one 4 (omega arith))
    (insert_taken m _ (take 5 tags) (tag_at tags 3) _ (one 3 (omega arith))
    (insert_taken m _ (take 5 tags) (tag_at tags 2) _ (one 2 (omega arith))
    (insert_taken m _ (take 5 tags) (tag_at tags 1) _ (one 1 (omega arith))
    (insert_taken m _ (take 5 tags) (tag_at tags 0) _ (one 0 (omega arith)) (λ x h. inl h)))))

-- ---- a vertex body names live tags alone, and none of its parts is its own owner

insert_at : (m : EntityMap) (k : Tag) (v : Entity) → IsSome (get (insert m k v) k)
insert_at m k v = ap is_some (get-insert tag_total m k v k ∙ ap (λ b. cond b (Some v) (get m k)) (ties_itself k))

-- what is live stays live
insert_keeps : (m : EntityMap) (k : Tag) (v : Entity) (t : Tag) → IsSome (get m t) → IsSome (get (insert m k v) t)
insert_keeps m k v t h =
    subst (λ (o : Option Entity). IsSome o) (sym (get-insert tag_total m k v t))
    (elim (eq_by_cmp tag_cmp t k) as (λ b. IsSome (cond b (Some v) (get m t))) [ true ↦ refl | false ↦ h ])

-- what each entity of the one map names is live in the other, and it is not its own owner
abbrev ClosedIn : EntityMap → EntityMap → Type 0
ClosedIn whole m = (t : Tag) (e : Entity) → get m t ≡ Some e → AllByRecursion (λ n. IsSome (get whole n)) (named_by e) × (owner_of e ≢ Some t)

ClosedIn-insert : (whole m : EntityMap) (k : Tag) (v : Entity) → ClosedIn whole m → AllByRecursion (λ n. IsSome (get whole n)) (named_by v) → owner_of v ≢ Some k → ClosedIn whole (insert m k v)
ClosedIn-insert whole m k v old names owner t e h =
    ⊎_elim (λ (l : eq_by_cmp tag_cmp t k ≡ true).
    let same : t ≡ k = tag_antisymmetric t k ((Equal-is (tag_cmp t k)).0 l) in
    let is : v ≡ e = same_Some v e (sym (get-insert tag_total m k v t ∙ ap (λ b. cond b (Some v) (get m t)) l) ∙ h) in
    subst (λ (x : Entity). AllByRecursion (λ n. IsSome (get whole n)) (named_by x) × (owner_of x ≢ Some t)) is (names, λ o. owner (o ∙ ap Some same)))
    (λ (r : eq_by_cmp tag_cmp t k ≡ false). old t e (sym (get-insert tag_total m k v t ∙ ap (λ b. cond b (Some v) (get m t)) r) ∙ h))
    (cases_Bool (eq_by_cmp tag_cmp t k))

-- tags at different places of ascending tags differ
pub TagsAscend-at : (tags : List Tag) (i j : ℕ) → TagsAscend tags → i < j → j < length tags → (tag_at tags i).0 < (tag_at tags j).0
TagsAscend-at [] i j h l k = absurd (omega arith)
TagsAscend-at (t ∷ ts) zero zero h l k = absurd (omega arith)
TagsAscend-at (t ∷ ts) zero (suc j) h l k = ByRecursion-get_or (λ u. t.0 < u.0) ts j (tag 0) (omega arith) h.0
TagsAscend-at (t ∷ ts) (suc i) zero h l k = absurd (omega arith)
TagsAscend-at (t ∷ ts) (suc i) (suc j) h l k = TagsAscend-at ts i j h.1 (omega arith) (omega arith)

other_owner : (a b : Tag) → a.0 < b.0 → Some a ≢ Some b
other_owner a b h e = let same : a.0 ≡ b.0 = ap (λ (t : Tag). t.0) (same_Some a b e) in omega arith

-- five parts whose tags ascend
closed_with : (m : EntityMap) (point : Point) (body shell face loop_ vertex : Tag) → IsClosed m → body.0 < shell.0 → shell.0 < face.0 → face.0 < loop_.0 → body.0 < vertex.0 → IsClosed (with_vertex_body m point body shell face loop_ vertex)
closed_with m point body shell face loop_ vertex closed bs sf fl bv =
    let e2 = Shell body (pos 1) in
    let e3 = Face shell loop_ in
    let e4 = Loop face None (Some vertex) in
    let e5 = Vertex body point in
    let m1 = insert m body (Body shell) in
    let m2 = insert m1 shell e2 in
    let m3 = insert m2 face e3 in
    let m4 = insert m3 loop_ e4 in
    let whole = insert m4 vertex e5 in
    let live4 : (t : Tag) → IsSome (get m4 t) → IsSome (get whole t) = insert_keeps m4 vertex e5 in
    let live3 : (t : Tag) → IsSome (get m3 t) → IsSome (get whole t) = λ t h. live4 t (insert_keeps m3 loop_ e4 t h) in
    let live2 : (t : Tag) → IsSome (get m2 t) → IsSome (get whole t) = λ t h. live3 t (insert_keeps m2 face e3 t h) in
    let live1 : (t : Tag) → IsSome (get m1 t) → IsSome (get whole t) = λ t h. live2 t (insert_keeps m1 shell e2 t h) in
    let live0 : (t : Tag) → IsSome (get m t) → IsSome (get whole t) = λ t h. live1 t (insert_keeps m body (Body shell) t h) in
    let body_live : IsSome (get whole body) = live1 body (insert_at m body (Body shell)) in
    let shell_live : IsSome (get whole shell) = live2 shell (insert_at m1 shell e2) in
    let face_live : IsSome (get whole face) = live3 face (insert_at m2 face e3) in
    let loop_live : IsSome (get whole loop_) = live4 loop_ (insert_at m3 loop_ e4) in
    let vertex_live : IsSome (get whole vertex) = insert_at m4 vertex e5 in
    let c0 : ClosedIn whole m = λ t e h. (ByRecursion-weaker _ _ live0 (named_by e) (closed.names t e h), closed.owners t e h) in
    let c1 : ClosedIn whole m1 = ClosedIn-insert whole m body (Body shell) c0 (shell_live, tt) (λ o. absurd (cc)) in
    let c2 : ClosedIn whole m2 = ClosedIn-insert whole m1 shell e2 c1 (body_live, tt) (other_owner body shell bs) in
    let c3 : ClosedIn whole m3 = ClosedIn-insert whole m2 face e3 c2 (shell_live, (loop_live, tt)) (other_owner shell face sf) in
    let c4 : ClosedIn whole m4 = ClosedIn-insert whole m3 loop_ e4 c3 (face_live, (vertex_live, tt)) (other_owner face loop_ fl) in
    let c5 : ClosedIn whole whole = ClosedIn-insert whole m4 vertex e5 c4 (body_live, tt) (other_owner body vertex bv) in
    record { names = λ t e h. (c5 t e h).0; owners = λ t e h. (c5 t e h).1 }

body_closed : (m : EntityMap) (at : Triple) (tags : List Tag) → IsClosed m → 5 ≤ length tags → TagsAscend tags → IsClosed (mvfs m at tags).map
body_closed m at tags closed fits ascend =
    closed_with m (point_of at) (tag_at tags 0) (tag_at tags 1) (tag_at tags 2) (tag_at tags 3) (tag_at tags 4) closed
    (TagsAscend-at tags 0 1 ascend (omega arith) (omega arith)) (TagsAscend-at tags 1 2 ascend (omega arith) (omega arith))
    (TagsAscend-at tags 2 3 ascend (omega arith) (omega arith)) (TagsAscend-at tags 0 4 ascend (omega arith) (omega arith))

-- ---- what is asked, by what the call is and which coordinate is outside

keeps_at : (m : EntityMap) (tags : List Tag) (at : Triple) (outside : Option ℤ) (o : Outcome) → IsClosed m → mvfs_cost outside ≤ length tags → TagsAscend tags → mvfs_step m at tags outside ≡ Ok o → IsClosed o.map
keeps_at m tags at None o closed fits ascend is =
    let e : mvfs m at tags ≡ o = cc in
    subst (λ (x : Outcome). IsClosed x.map) e (body_closed m at tags closed fits ascend)
keeps_at m tags at (Some v) o closed fits ascend is = absurd (cc)

keys_at : (m : EntityMap) (tags : List Tag) (at : Triple) (outside : Option ℤ) (o : Outcome) → mvfs_cost outside ≤ length tags → mvfs_step m at tags outside ≡ Ok o → (t : Tag) → IsSome (get o.map t) → IsSome (get m t) ⊎ Contains (take (mvfs_cost outside) tags) t
keys_at m tags at None o fits is t h =
    let e : mvfs m at tags ≡ o = cc in
    body_live m at tags fits t (subst (λ (x : Outcome). IsSome (get x.map t)) (sym e) h)
keys_at m tags at (Some v) o fits is t h = absurd (cc)

alike_at : (m : EntityMap) (tags other : List Tag) (at : Triple) (outside : Option ℤ) (e : Refusal) → mvfs_step m at tags outside ≡ Err e → mvfs_step m at other outside ≡ Err e
alike_at m tags other at None e is = absurd (cc)
alike_at m tags other at (Some v) e is = is

free_at : (m : EntityMap) (tags : List Tag) (at : Triple) (outside : Option ℤ) (e : Refusal) → mvfs_step m at tags outside ≡ Err e → mvfs_cost outside ≡ 0
free_at m tags at None e is = absurd (cc)
free_at m tags at (Some v) e is = refl

keeps_of : (m : EntityMap) (tags : List Tag) (place : Option Triple) (o : Outcome) → IsClosed m → cost_at place ≤ length tags → TagsAscend tags → step_at m tags place ≡ Ok o → IsClosed o.map
keeps_of m tags (Some at) o closed fits ascend is = keeps_at m tags at (first_outside at) o closed fits ascend is
keeps_of m tags None o closed fits ascend is = absurd (cc)

keys_of : (m : EntityMap) (tags : List Tag) (place : Option Triple) (o : Outcome) → cost_at place ≤ length tags → step_at m tags place ≡ Ok o → (t : Tag) → IsSome (get o.map t) → IsSome (get m t) ⊎ Contains (take (cost_at place) tags) t
keys_of m tags (Some at) o fits is t h = keys_at m tags at (first_outside at) o fits is t h
keys_of m tags None o fits is t h = absurd (cc)

alike_of : (m : EntityMap) (tags other : List Tag) (place : Option Triple) (e : Refusal) → step_at m tags place ≡ Err e → step_at m other place ≡ Err e
alike_of m tags other (Some at) e is = alike_at m tags other at (first_outside at) e is
alike_of m tags other None e is = is

free_of : (m : EntityMap) (tags : List Tag) (place : Option Triple) (e : Refusal) → step_at m tags place ≡ Err e → cost_at place ≡ 0
free_of m tags (Some at) e is = free_at m tags at (first_outside at) e is
free_of m tags None e is = refl

abbrev no_map : EntityMap
no_map = empty

none_there : (t : Tag) (e : Entity) → get no_map t ≡ Some e → ⊥
none_there t e h = let none : None ≡ Some e = sym (get-empty tag_cmp t) ∙ h in cc

pub vertex_bodies-IsModeller : IsModeller vertex_bodies
vertex_bodies-IsModeller = record {
  empty = record { names = λ t e h. absurd (none_there t e h); owners = λ t e h. absurd (none_there t e h) };
  names = λ m closed. closed.names;
  owners = λ m closed. closed.owners;
  keeps = λ m c tags o may is. keeps_of m tags (place_of c) o may.sound may.enough may.ascend is;
  keys = λ m c tags o may is. keys_of m tags (place_of c) o may.enough is;
  alike = λ m c tags other e _ _ is. alike_of m tags other (place_of c) e is;
  free = λ m c tags e _ is. free_of m tags (place_of c) e is;
}
