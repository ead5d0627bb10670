-- Owners in a sound map: each stands higher than what it owns, in the same body.
use Rattle.std.proofs.Common.{◌≡◌, ℕ, zero, suc, ◌+◌, ◌-◌, ◌<◌, ◌≤◌, ◌⊎◌, inl, inr, ⊎_elim, true, Option, Some, None, refl, sym, ap, subst, ◌∙◌, arith}
use Rattle.std.specs.Prelude.{IsSome, option_map, unwrap_or}
use Rattle.std.specs.Option.{option_and_then, option_map_or}
use Rattle.std.specs.FinMap.{get, entries}
use Rattle.std.proofs.lemmas.Option.{same_Some}
use Rattle.pk_base.specs.Blocks.{tag}
use Rattle.pk_base.specs.Entity.{class_of, owner_of}
use Rattle.pk_base.specs.declared.entity.Class.{Class}
use Rattle.pk_base.specs.declared.tag.Tag.{Tag}
use Rattle.pk_base.specs.declared.entity.Class.TheVariants as class
use Rattle.pk_base.specs.declared.entity.Entity.{Entity}
use Rattle.pk_model.specs.Maps.{EntityMap}
use Rattle.solid_model.specs.Items.{Item, Shape, item_at, class_of_item}
use Rattle.solid_model.specs.Items.Item.{Body, Shell, Face, Loop, Fin, Edge, Vertex, Attr}
use Rattle.solid_model.specs.Owners.{body_of, owner_of_item}
use Rattle.solid_model.specs.Links.{entity_of}
use Rattle.solid_model.specs.Shapes.{item_of, shape_of}
use Rattle.solid_model.specs.Sound.{IsSound}
use Rattle.solid_sound.proofs.shapes.AttributeBodies.{attribute-body}
use Rattle.solid_sound.proofs.shapes.Bodies.{height, height_of, is_part, item_of_class, leads-owner, leads_up, loop_with-some, low_item, owner-lower}
use Rattle.solid_sound.proofs.shapes.Found.{none_or_some}
use Rattle.solid_sound.proofs.rows.RowKeeps.{IsWell, well-shape}
use Rattle.solid_places.proofs.Read.{class-read, entity-of, item-of}
use Rattle.euler_kill.specs.Below.{IsBelow, IsOwned, IsPartOf}

-- ---- one owner

-- the owner is live, stands higher, and in the same body
pub record Above (S : Shape) (t o : Tag) (x : Item) : Type 0 where
  pub item : Item
  pub item_is : item_at S o ≡ Some item
  pub less : height item < height x
  pub body : body_of S o ≡ body_of S t

module _ (S : Shape) (well : IsWell S) where
  part_above : (t o : Tag) (x : Item) → item_at S t ≡ Some x → is_part x ≡ true → owner_of_item S t x ≡ Some o → Above S t o x
  part_above t o x e part own =
      let low = owner-lower S well.written.ascends well.sound.names.kinds well.sound.placed t x e part in
      let same : low.owner ≡ o = same_Some low.owner o (sym low.owner_is ∙ own) in
      record {
        item = low.item;
        item_is = ap (item_at S) (sym same) ∙ low.item_is;
        less = low.less;
        body = leads-owner S well.written.ascends well.sound.names.kinds well.sound.placed (body_of S) (leads_up S well.written well.sound) t x o e part own;
      }

  pub owner-above : (t o : Tag) (x : Item) → item_at S t ≡ Some x → owner_of_item S t x ≡ Some o → Above S t o x
  owner-above t o (Body shell) e own = absurd (cc)
  owner-above t o (Shell body q) e own = part_above t o (Shell body q) e refl own
  owner-above t o (Face shell outer) e own = part_above t o (Face shell outer) e refl own
  owner-above t o (Loop face fins vertex) e own = part_above t o (Loop face fins vertex) e refl own
  owner-above t o (Fin mate edge vertex) e own = part_above t o (Fin mate edge vertex) e refl own
  owner-above t o (Edge body) e own = part_above t o (Edge body) e refl own
  owner-above t o (Vertex body point) e own = part_above t o (Vertex body point) e refl own
  owner-above t o (Attr owner name value) e own =
      let h = well.sound.attributes.owned t owner name value e in
      let y = item_of_class (item_at S owner) h.0 h.1 in
      let same : owner ≡ o = same_Some owner o own in
      record {
        item = y.0;
        item_is = ap (item_at S) (sym same) ∙ y.1;
        less = low_item y.0 (λ k. h.2 (sym y.2 ∙ k));
        body = ap (body_of S) (sym same) ∙ sym (attribute-body S well t owner name value e);
      }

  owner-kept : (t : Tag) (x : Item) → item_at S t ≡ Some x → owner_of (entity_of S t x) ≡ owner_of_item S t x
  owner-kept t (Body shell) h = refl
  owner-kept t (Shell body q) h = refl
  owner-kept t (Face shell outer) h = refl
  owner-kept t (Loop face fins vertex) h = refl
  owner-kept t (Edge body) h = refl
  owner-kept t (Vertex body point) h = refl
  owner-kept t (Attr owner name value) h = refl
  owner-kept t (Fin mate edge vertex) h =
      let one = well.sound.placed t mate edge vertex h in
      let l = loop_with-some S t (omega arith) in
      ap Some (ap (λ (o : Option Item). unwrap_or (option_and_then (owner_of_item S t) o) (tag 0)) h ∙ ap (λ (o : Option Tag). unwrap_or o (tag 0)) l.1) ∙ sym l.1

-- ---- below, in any map

pub below-itself : (m : EntityMap) (n : ℕ) (o : Tag) → IsBelow n m o o
below-itself m zero o = refl
below-itself m (suc n) o = inl refl

-- one owner further down
pub below-then : (m : EntityMap) (n : ℕ) (a o t : Tag) → IsBelow n m a o → IsOwned m o t → IsBelow (suc n) m a t
below-then m zero a o t h own = inr (t, subst (λ u. IsOwned m u t) (sym h) own, refl)
below-then m (suc n) a o t (inl h) own = inr (t, subst (λ u. IsOwned m u t) (sym h) own, below-itself m (suc n) t)
below-then m (suc n) a o t (inr h) own = inr (h.0, h.1, below-then m n h.0 o t h.2 own)

-- what is owned is live
pub owned-there : (m : EntityMap) (o t : Tag) → IsOwned m o t → (e : Entity) × (get m t ≡ Some e) × (owner_of e ≡ Some o)
owned-there m o t own = by_entity (get m t) refl own
  where
    by_entity : (x : Option Entity) → get m t ≡ x → option_and_then owner_of x ≡ Some o → (e : Entity) × (get m t ≡ Some e) × (owner_of e ≡ Some o)
    by_entity None is h = absurd (cc)
    by_entity (Some e) is h = (e, is, h)

-- ---- in a sound map

abbrev pub rank : EntityMap → Tag → ℕ
rank m t = option_map_or height (item_at (shape_of m) t) 0

-- it is told by the class
pub rank-read : (m : EntityMap) (t : Tag) (e : Entity) → get m t ≡ Some e → rank m t ≡ height_of (class_of e)
rank-read m t e h = by_class (item_at (shape_of m) t) (class-read m t e h)
  where
    by_class : (o : Option Item) → option_map class_of_item o ≡ Some (class_of e) → option_map_or height o 0 ≡ height_of (class_of e)
    by_class None k = absurd (cc)
    by_class (Some x) k = ap height_of (same_Some (class_of_item x) (class_of e) k)

pub most-rank : (m : EntityMap) (t : Tag) (e : Entity) → get m t ≡ Some e → rank m t ≤ 5
most-rank m t e h = let is = rank-read m t e h in omega (arith, is, most_class (class_of e))
  where
    most_class : (c : Class) → height_of c ≤ 5
    most_class class.Body = omega arith
    most_class class.Shell = omega arith
    most_class class.Face = omega arith
    most_class class.Loop = omega arith
    most_class class.Fin = omega arith
    most_class class.Edge = omega arith
    most_class class.Vertex = omega arith
    most_class class.Attr = omega arith

module _ (m : EntityMap) (s : IsSound m) where
  abbrev S' : Shape
  S' = shape_of m

  -- an entity that is owned
  pub record IsItem (o t : Tag) : Type 0 where
    pub item : Item
    pub item_is : item_at S' t ≡ Some item
    pub owner_is : owner_of_item S' t item ≡ Some o

  pub owned-item : (o t : Tag) → IsOwned m o t → IsItem o t
  owned-item o t own = ⊎_elim {C = IsItem o t}
      (λ (none : get m t ≡ None).
      let both : None ≡ Some o = sym (ap (option_and_then owner_of) none) ∙ own in
      absurd (cc))
      (λ (some : (e : Entity) × (get m t ≡ Some e)).
      let x = item_of (entries m) some.0 in
      let is = item-of m t some.0 some.1 in
      let same : entity_of S' t x ≡ some.0 = same_Some (entity_of S' t x) some.0 (sym (entity-of m s t x is) ∙ some.1) in
      record {
        item = x;
        item_is = is;
        owner_is = sym (owner-kept S' (well-shape m s) t x is) ∙ ap owner_of same ∙ sym (ap (option_and_then owner_of) some.1) ∙ own;
      })
      (none_or_some (get m t))

  pub item-owned : (o t : Tag) (x : Item) → item_at S' t ≡ Some x → owner_of_item S' t x ≡ Some o → IsOwned m o t
  item-owned o t x is own = ap (option_and_then owner_of) (entity-of m s t x is) ∙ owner-kept S' (well-shape m s) t x is ∙ own

  rank_is : (t : Tag) (x : Item) → item_at S' t ≡ Some x → rank m t ≡ height x
  rank_is t x e = ap (λ (o : Option Item). option_map_or height o 0) e

  pub owned-lower : (o t : Tag) → IsOwned m o t → rank m o < rank m t
  owned-lower o t own =
      let x = owned-item o t own in
      let up = owner-above S' (well-shape m s) t o x.item x.item_is x.owner_is in
      let less = up.less in
      omega (arith, less, rank_is o up.item up.item_is, rank_is t x.item x.item_is)

  pub owned-body : (o t : Tag) → IsOwned m o t → body_of S' o ≡ body_of S' t
  owned-body o t own =
      let x = owned-item o t own in
      (owner-above S' (well-shape m s) t o x.item x.item_is x.owner_is).body

  pub owner-live : (o t : Tag) → IsOwned m o t → IsSome (get m o)
  owner-live o t own =
      let x = owned-item o t own in
      let up = owner-above S' (well-shape m s) t o x.item x.item_is x.owner_is in
      subst IsSome (sym (entity-of m s o up.item up.item_is)) refl

  pub owned-live : (o t : Tag) → IsOwned m o t → IsSome (get m t)
  owned-live o t own =
      let x = owned-item o t own in
      subst IsSome (sym (entity-of m s t x.item x.item_is)) refl

  -- ---- below

  pub below-body : (n : ℕ) (o t : Tag) → IsBelow n m o t → body_of S' o ≡ body_of S' t
  below-body zero o t h = ap (body_of S') h
  below-body (suc n) o t (inl h) = ap (body_of S') h
  below-body (suc n) o t (inr h) = owned-body o h.0 h.1 ∙ below-body n h.0 t h.2

  pub below-rank : (n : ℕ) (o t : Tag) → IsBelow n m o t → rank m o ≤ rank m t
  below-rank zero o t h = let same = ap (rank m) h in omega (arith, same)
  below-rank (suc n) o t (inl h) = let same = ap (rank m) h in omega (arith, same)
  below-rank (suc n) o t (inr h) = omega (arith, owned-lower o h.0 h.1, below-rank n h.0 t h.2)

  pub below-live : (n : ℕ) (o t : Tag) → IsSome (get m o) → IsBelow n m o t → IsSome (get m t)
  below-live zero o t live h = subst (λ u. IsSome (get m u)) h live
  below-live (suc n) o t live (inl h) = subst (λ u. IsSome (get m u)) h live
  below-live (suc n) o t live (inr h) = below-live n h.0 t (owned-live o h.0 h.1) h.2

  -- what has no owner is a body
  alone : (t : Tag) (x : Item) → item_at S' t ≡ Some x → owner_of_item S' t x ≡ None → body_of S' t ≡ t
  alone t (Body shell) e own = (leads_up S' (well-shape m s).written (well-shape m s).sound).bodies t shell e
  alone t (Shell body q) e own = absurd (cc)
  alone t (Face shell outer) e own = absurd (cc)
  alone t (Loop face fins vertex) e own = absurd (cc)
  alone t (Edge body) e own = absurd (cc)
  alone t (Vertex body point) e own = absurd (cc)
  alone t (Attr owner name value) e own = absurd (cc)
  alone t (Fin mate edge vertex) e own =
      let one = (well-shape m s).sound.placed t mate edge vertex e in
      let l = loop_with-some S' t (omega arith) in
      let both : Some l.0 ≡ None = sym l.1 ∙ own in
      absurd (cc)

  -- what stands in a body stands below it
  below_zero : (t : Tag) (x : Item) (own : Option Tag) → item_at S' t ≡ Some x → owner_of_item S' t x ≡ own → height x ≤ 0 → IsBelow 0 m (body_of S' t) t
  below_zero t x None e own low = alone t x e own
  below_zero t x (Some o) e own low =
      let less = (owner-above S' (well-shape m s) t o x e own).less in
      absurd (omega (arith, less, low))

  below_suc : (n : ℕ) → ((o : Tag) (y : Item) → item_at S' o ≡ Some y → height y ≤ n → IsBelow n m (body_of S' o) o)
      → (t : Tag) (x : Item) (own : Option Tag) → item_at S' t ≡ Some x → owner_of_item S' t x ≡ own → height x ≤ suc n → IsBelow (suc n) m (body_of S' t) t
  below_suc n rest t x None e own low = inl (alone t x e own)
  below_suc n rest t x (Some o) e own low =
      let up = owner-above S' (well-shape m s) t o x e own in
      let less = up.less in
      subst (λ u. IsBelow (suc n) m u t) up.body (below-then m n (body_of S' o) o t (rest o up.item up.item_is (omega (arith, less, low))) (item-owned o t x e own))

  in_body-below : (n : ℕ) (t : Tag) (x : Item) → item_at S' t ≡ Some x → height x ≤ n → IsBelow n m (body_of S' t) t
  in_body-below zero t x e low = below_zero t x (owner_of_item S' t x) e refl low
  in_body-below (suc n) t x e low = below_suc n (in_body-below n) t x (owner_of_item S' t x) e refl low

  most : (x : Item) → height x ≤ 5
  most (Body shell) = omega arith
  most (Shell body q) = omega arith
  most (Face shell outer) = omega arith
  most (Loop face fins vertex) = omega arith
  most (Fin mate edge vertex) = omega arith
  most (Edge body) = omega arith
  most (Vertex body point) = omega arith
  most (Attr owner name value) = omega arith

  pub all-below : (b t : Tag) (x : Item) → item_at S' t ≡ Some x → body_of S' t ≡ b → IsBelow 5 m b t
  all-below b t x e at = subst (λ u. IsBelow 5 m u t) at (in_body-below 5 t x e (most x))

  -- ---- one way up

  abbrev up_from : Tag → Tag
  up_from t = unwrap_or (option_and_then owner_of (get m t)) t

  abbrev climb : ℕ → Tag → Tag
  climb zero t = t
  climb (suc i) t = up_from (climb i t)

  climb-more : (a b : ℕ) (t : Tag) → climb (a + b) t ≡ climb a (climb b t)
  climb-more zero b t = ap (λ n. climb n t) (zero_plus b)
    where
      zero_plus : (n : ℕ) → 0 + n ≡ n
      zero_plus n = omega arith
  climb-more (suc a) b t = ap (λ n. climb n t) (suc_plus a b) ∙ ap up_from (climb-more a b t)
    where
      suc_plus : (a b : ℕ) → suc a + b ≡ suc (a + b)
      suc_plus a b = omega arith

  climb-first : (a : ℕ) (t : Tag) → climb (suc a) t ≡ climb a (up_from t)
  climb-first zero t = refl
  climb-first (suc a) t = ap up_from (climb-first a t)

  owned-up : (o t : Tag) → IsOwned m o t → up_from t ≡ o
  owned-up o t own = ap (λ (u : Option Tag). unwrap_or u t) own

  below-climb : (n : ℕ) (o t : Tag) → IsBelow n m o t → (i : ℕ) × (climb i t ≡ o)
  below-climb zero o t h = (0, sym h)
  below-climb (suc n) o t (inl h) = (0, sym h)
  below-climb (suc n) o t (inr h) = let r = below-climb n h.0 t h.2 in (suc r.0, ap up_from r.1 ∙ owned-up o h.0 h.1)

  up-rank : (t : Tag) → rank m (up_from t) ≤ rank m t
  up-rank t = by_owner (option_and_then owner_of (get m t)) refl
    where
      by_owner : (o : Option Tag) → option_and_then owner_of (get m t) ≡ o → rank m (up_from t) ≤ rank m t
      by_owner None own = let same = ap (λ (u : Option Tag). rank m (unwrap_or u t)) own in omega (arith, same)
      by_owner (Some o) own = let same = ap (λ (u : Option Tag). rank m (unwrap_or u t)) own in omega (arith, same, owned-lower o t own)

  climb-rank : (i : ℕ) (t : Tag) → rank m (climb i t) ≤ rank m t
  climb-rank zero t = omega arith
  climb-rank (suc i) t = omega (arith, up-rank (climb i t), climb-rank i t)

  -- two of one owner: neither stands above the other
  apart_ways : (o k k' t : Tag) (i j : ℕ) → IsOwned m o k → IsOwned m o k' → climb i t ≡ k → climb (suc j + i) t ≡ k' → ⊥
  apart_ways o k k' t i j own own' one other =
      let to : climb j o ≡ k' = ap (climb j) (sym (owned-up o k own)) ∙ sym (climb-first j k) ∙ ap (climb (suc j)) (sym one) ∙ sym (climb-more (suc j) i t) ∙ other in
      let same = ap (rank m) to in
      absurd (omega (arith, same, climb-rank j o, owned-lower o k' own'))

  pub one-way : (n n' : ℕ) (o k k' t : Tag) → IsOwned m o k → IsOwned m o k' → IsBelow n m k t → IsBelow n' m k' t → k ≡ k'
  one-way n n' o k k' t own own' h h' =
      let a = below-climb n k t h in
      let b = below-climb n' k' t h' in
      by_order a.0 b.0 a.1 b.1
    where
      split : (i j : ℕ) → (i ≡ j) ⊎ (((d : ℕ) × (j ≡ suc d + i)) ⊎ ((d : ℕ) × (i ≡ suc d + j)))
      split zero zero = inl refl
      split zero (suc j) = inr (inl (j, omega arith))
      split (suc i) zero = inr (inr (i, omega arith))
      split (suc i) (suc j) = more (split i j)
        where
          more : (i ≡ j) ⊎ (((d : ℕ) × (j ≡ suc d + i)) ⊎ ((d : ℕ) × (i ≡ suc d + j))) → (suc i ≡ suc j) ⊎ (((d : ℕ) × (suc j ≡ suc d + suc i)) ⊎ ((d : ℕ) × (suc i ≡ suc d + suc j)))
          more (inl e) = inl (ap suc e)
          more (inr (inl d)) = let e = d.1 in inr (inl (d.0, omega (arith, e)))
          more (inr (inr d)) = let e = d.1 in inr (inr (d.0, omega (arith, e)))

      by_order : (i j : ℕ) → climb i t ≡ k → climb j t ≡ k' → k ≡ k'
      by_order i j one other = order (split i j)
        where
          order : (i ≡ j) ⊎ (((d : ℕ) × (j ≡ suc d + i)) ⊎ ((d : ℕ) × (i ≡ suc d + j))) → k ≡ k'
          order (inl e) = sym one ∙ ap (λ n. climb n t) e ∙ other
          order (inr (inl d)) = absurd (apart_ways o k k' t i d.0 own own' one (ap (λ n. climb n t) (sym d.1) ∙ other))
          order (inr (inr d)) = absurd (apart_ways o k' k t j d.0 own' own other (ap (λ n. climb n t) (sym d.1) ∙ one))

-- ---- in a part of a sound map

module _ (m n : EntityMap) (s : IsSound m) (part : IsPartOf m n) (o t : Tag) (live : IsSome (get n o)) (own : IsOwned n o t) where
  part-owned : IsOwned m o t
  part-owned = let x = owned-there n o t own in ap (option_and_then owner_of) (part t x.0 x.1) ∙ x.2

  same_rank : (u : Tag) (e : Entity) → get n u ≡ Some e → rank n u ≡ rank m u
  same_rank u e h = rank-read n u e h ∙ sym (rank-read m u e (part u e h))

  pub part-lower : (5 - rank n t < 5 - rank n o) × IsSome (get n t)
  part-lower =
      let x = owned-there n o t own in
      by_entity (get n o) refl live x.0 x.1
    where
      by_entity : (r : Option Entity) → get n o ≡ r → IsSome r → (e : Entity) → get n t ≡ Some e → (5 - rank n t < 5 - rank n o) × IsSome (get n t)
      by_entity None is h e there = absurd (cc)
      by_entity (Some d) is h e there = (
        omega (arith, same_rank o d is, same_rank t e there, owned-lower m s o t part-owned, most-rank n t e there),
        subst IsSome (sym there) refl,
      )
