-- A walk over the kids of a body that keeps the least vertex of those that are looked for.
use Rattle.std.proofs.Common.{◌≡◌, ◌≤◌, ◌⊎◌, inl, inr, ⊎_elim, true, false, cond, List, [], ◌∷◌, Option, Some, None, refl, sym, ap, subst, ◌∙◌, arith}
use Rattle.std.specs.Prelude.{nat_lt, Contains}
use Rattle.std.specs.List.Sorted.{IsPermutation}
use Rattle.std.proofs.lemmas.Bool.{true≢false, ltb-true, ltb-false}
use Rattle.std.proofs.lemmas.Option.{same_Some}
use Rattle.pk_base.specs.declared.tag.Tag.{Tag}
use Rattle.pk_base.specs.declared.entity.Entity.TheVariants.{Vertex}
use Rattle.pk_base.specs.declared.entity.Point.{Point}
use Rattle.pk_model.specs.Maps.{EntityMap}
use Rattle.entity_store.specs.Kids.{kids_of}
use Rattle.list_facts.proofs.Elements.{not_in_nil, Contains-cases}
use Rattle.attributes.proofs.Walked.{Kid, AreKids, first-kid, kid-met, kids-later, walked-kids}
use Rattle.solid_motion.specs.declared.vertices.Wanted.{Wanted}
use Rattle.solid_motion.specs.Vertices.{IsLeastWanted, IsWantedAt, is_wanted, lesser}

-- there is a least one, and it has no greater tag
abbrev pub IsUpTo : Option (Tag × Point) → Tag → Type 0
IsUpTo None t = ⊥
IsUpTo (Some x) t = x.0.0 ≤ t.0

-- the least of those that the walk has met
pub record Seeks (m : EntityMap) (b : Tag) (w : Wanted) (left : List Kid) (least : Option (Tag × Point)) : Type 0 where
  pub kids : AreKids m b left
  pub found : (x : Tag × Point) → least ≡ Some x → IsWantedAt m b w x.0 x.1
  pub others : (t : Tag) (p : Point) → IsWantedAt m b w t p → Contains left (t, Vertex b p) ⊎ IsUpTo least t

pub seek-begins : (m : EntityMap) (b : Tag) (w : Wanted) (ks : List Kid) → IsPermutation (kids_of m (Some b)) ks → Seeks m b w ks None
seek-begins m b w ks walked = record {
  kids = walked-kids m b ks walked;
  found = λ x e. absurd (cc);
  others = λ t p h. inl (kid-met m b ks walked (t, Vertex b p) (record { live = h.live; owned = refl }));
}

-- one is passed
pub seek-passes : (m : EntityMap) (b : Tag) (w : Wanted) (old new : List Kid) (k : Kid) (least : Option (Tag × Point)) → old ≡ k ∷ new → ((p : Point) → k.1 ≡ Vertex b p → is_wanted w k.0 p ≡ false)
    → Seeks m b w old least → Seeks m b w new least
seek-passes m b w old new k least is other h = record {
  kids = kids-later m b old new k is h.kids;
  found = h.found;
  others = λ t p x. ⊎_elim {C = Contains new (t, Vertex b p) ⊎ IsUpTo least t}
      (λ (among : Contains old (t, Vertex b p)). ⊎_elim {C = Contains new (t, Vertex b p) ⊎ IsUpTo least t}
      (λ (e : k ≡ (t, Vertex b p)). absurd (true≢false (sym x.wanted ∙ ap (λ (u : Tag). is_wanted w u p) (ap (λ (j : Kid). j.0) (sym e)) ∙ other p (ap (λ (j : Kid). j.1) e))))
      (λ (later : Contains new (t, Vertex b p)). inl later)
      (Contains-cases k new (t, Vertex b p) (subst (λ ks. Contains ks (t, Vertex b p)) is among)))
      (λ (le : IsUpTo least t). inr le)
      (h.others t p x);
}

-- what is known of a vertex's point, where it is not looked for
pub point_same : (w : Wanted) (t a b : Tag) (p q : Point) → Vertex a p ≡ Vertex b q → is_wanted w t p ≡ false → is_wanted w t q ≡ false
point_same w t a b p q same other = let is : p ≡ q = cc in ap (is_wanted w t) (sym is) ∙ other

-- ---- one is taken

lesser-new : (o : Option (Tag × Point)) (y : Tag × Point) → IsUpTo (lesser o y) y.0
lesser-new None y = omega arith
lesser-new (Some x) y = elim (nat_lt x.0.0 y.0.0) as (λ b. nat_lt x.0.0 y.0.0 ≡ b → IsUpTo (cond b (Some x) (Some y)) y.0) [
  | true ↦ λ h. let less = ltb-true x.0.0 y.0.0 h in omega (arith, less)
  | false ↦ λ h. omega arith
] refl

lesser-old : (o : Option (Tag × Point)) (y : Tag × Point) (t : Tag) → IsUpTo o t → IsUpTo (lesser o y) t
lesser-old None y t h = absurd h
lesser-old (Some x) y t h = elim (nat_lt x.0.0 y.0.0) as (λ b. nat_lt x.0.0 y.0.0 ≡ b → IsUpTo (cond b (Some x) (Some y)) t) [
  | true ↦ λ e. h
  | false ↦ λ e. let more = ltb-false x.0.0 y.0.0 e in omega (arith, more, h)
] refl

lesser-one : (P : Tag × Point → Type 0) (o : Option (Tag × Point)) (y : Tag × Point) → P y → ((x : Tag × Point) → o ≡ Some x → P x) → (x : Tag × Point) → lesser o y ≡ Some x → P x
lesser-one P None y new old x e = subst P (same_Some y x e) new
lesser-one P (Some z) y new old x e = elim (nat_lt z.0.0 y.0.0) as (λ b. cond b (Some z) (Some y) ≡ Some x → P x) [
  | true ↦ λ h. old x h
  | false ↦ λ h. subst P (same_Some y x h) new
] e

pub seek-takes : (m : EntityMap) (b : Tag) (w : Wanted) (old new : List Kid) (t body : Tag) (p : Point) (least : Option (Tag × Point)) → old ≡ (t, Vertex body p) ∷ new → is_wanted w t p ≡ true
    → Seeks m b w old least → Seeks m b w new (lesser least (t, p))
seek-takes m b w old new t body p least is wanted h =
    let kid = first-kid m b old new (t, Vertex body p) is h.kids in
    let same : body ≡ b = same_Some body b kid.owned in
    let here : IsWantedAt m b w t p = record { live = kid.live ∙ ap (λ u. Some (Vertex u p)) same; wanted = wanted } in
    record {
      kids = kids-later m b old new (t, Vertex body p) is h.kids;
      found = lesser-one (λ x. IsWantedAt m b w x.0 x.1) least (t, p) here h.found;
      others = λ u q x. ⊎_elim {C = Contains new (u, Vertex b q) ⊎ IsUpTo (lesser least (t, p)) u}
          (λ (among : Contains old (u, Vertex b q)). ⊎_elim {C = Contains new (u, Vertex b q) ⊎ IsUpTo (lesser least (t, p)) u}
          (λ (e : (t, Vertex body p) ≡ (u, Vertex b q)). inr (subst (IsUpTo (lesser least (t, p))) (ap (λ (j : Kid). j.0) e) (lesser-new least (t, p))))
          (λ (later : Contains new (u, Vertex b q)). inl later)
          (Contains-cases (t, Vertex body p) new (u, Vertex b q) (subst (λ ks. Contains ks (u, Vertex b q)) is among)))
          (λ (le : IsUpTo least u). inr (lesser-old least (t, p) u le))
          (h.others u q x);
    }

-- ---- none is left

pub seek-ends : (m : EntityMap) (b : Tag) (w : Wanted) (ks : List Kid) (least : Option (Tag × Point)) → ks ≡ [] → Seeks m b w ks least → IsLeastWanted m b w least
seek-ends m b w ks None is h = λ t p x. ⊎_elim {C = ⊥}
    (λ (among : Contains ks (t, Vertex b p)). not_in_nil (t, Vertex b p) (subst (λ js. Contains js (t, Vertex b p)) is among))
    (λ (le : ⊥). le)
    (h.others t p x)
seek-ends m b w ks (Some y) is h = (
  h.found y refl,
  λ t p x. ⊎_elim {C = y.0.0 ≤ t.0}
      (λ (among : Contains ks (t, Vertex b p)). absurd (not_in_nil (t, Vertex b p) (subst (λ js. Contains js (t, Vertex b p)) is among)))
      (λ (le : y.0.0 ≤ t.0). le)
      (h.others t p x),
)
