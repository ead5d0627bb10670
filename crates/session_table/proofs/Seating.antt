-- The seats among the views, after a step of one of them.
use Rattle.std.proofs.Common.{◌≡◌, ◌≢◌, ◌⊎◌, ℕ, zero, suc, ◌+◌, ◌<◌, Bool, false, cond, ap, sym, subst, ◌∙◌, inl, inr, ⊎_elim, arith, List, [], ◌∷◌, ◌++◌, length, set}
use mathlib.Core.Option.{some, some-injective, some-ne-none}
use native.Mathlib.Decide.{ℕ_discrete}
use lib.ListN.{get_elem?}
use Rattle.atomic_table.proofs.Lists.{at_set, set_here, set_else}
use Rattle.session_table.specs.declared.view.View.{View}
use Rattle.session_table.specs.Rule.{IsSeat, EachSeat, IsSeated, HaveNumbers, total, one_if_seat}

pub within : (l : List View) (i : ℕ) (v : View) → get_elem? l i ≡ some v → i < length l
within [] i v e = absurd (some-ne-none v (sym e))
within (x ∷ xs) zero v e = omega arith
within (x ∷ xs) (suc i) v e = omega (arith, within xs i v e)

pub placed : (views : List View) (id : ℕ) (v w : View) → get_elem? views id ≡ some v → get_elem? (set views id w) id ≡ some w
placed views id v w at = set_here views id w (within views id v at)

-- a seat afterwards is the one that stepped, or another as it was
pub seat_set : (views : List View) (id j : ℕ) (w u : View) → IsSeat (set views id w) j u → ((j ≡ id) × (w ≡ u)) ⊎ ((j ≢ id) × IsSeat views j u)
seat_set views id j w u (at, live) = ⊎_elim (λ h. inl h) (λ h. inr (h.0, (h.1, live))) (at_set views id j w u at)

pub each_set : {P : View → Type 0} (views : List View) (id : ℕ) (w : View) → ((j : ℕ) (u : View) → j ≢ id → IsSeat views j u → P u) → P w → EachSeat (set views id w) P
each_set {P} views id w others own j u seat = ⊎_elim (λ h. subst P h.1 own) (λ h. others j u h.0 h.1) (seat_set views id j w u seat)

pub seated_set : (views : List View) (id : ℕ) (v w : View) → IsSeat views id v → w.spent ≡ false → w.number ≡ v.number → (t : ℕ) → IsSeated views t → IsSeated (set views id w) t
seated_set views id v w seat live same t (j, u, at, is) = elim (ℕ_discrete j id) as (λ _. IsSeated (set views id w) t) [
  | yes e ↦
      let here : get_elem? views id ≡ some u = subst (λ (z : ℕ). get_elem? views z ≡ some u) e at.0 in
      (id, w, (placed views id v w seat.0, live), same ∙ ap (λ (x : View). x.number) (some-injective v u (sym seat.0 ∙ here)) ∙ is)
  | no ne ↦ (j, u, (set_else views id j w ne ∙ at.0, at.1), is)
]

pub others_differ : (views : List View) → HaveNumbers views → (id j : ℕ) (v u : View) → IsSeat views id v → IsSeat views j u → j ≢ id → u.number ≢ v.number
others_differ views numbers id j v u here there ne e = ne (numbers j id u v there here e)

pub numbers_set : (views : List View) → HaveNumbers views → (id : ℕ) (v w : View) → IsSeat views id v → w.number ≡ v.number → HaveNumbers (set views id w)
numbers_set views numbers id v w seat same i j a b one two e =
    ⊎_elim
    (λ h. ⊎_elim (λ g. h.0 ∙ sym g.0)
    (λ g. absurd (others_differ views numbers id j v b seat g.1 g.0 (sym e ∙ ap (λ (x : View). x.number) (sym h.1) ∙ same)))
    (seat_set views id j w b two))
    (λ h. ⊎_elim (λ g. absurd (others_differ views numbers id i v a seat h.1 h.0 (e ∙ ap (λ (x : View). x.number) (sym g.1) ∙ same)))
    (λ g. numbers i j a b h.1 g.1 e) (seat_set views id j w b two))
    (seat_set views id i w a one)

pub total-set : (f : View → ℕ) (views : List View) (id : ℕ) (v w : View) → get_elem? views id ≡ some v → total f (set views id w) + f v ≡ total f views + f w
total-set f [] id v w e = absurd (some-ne-none v (sym e))
total-set f (x ∷ xs) zero v w e = let h : f x ≡ f v = ap f (some-injective x v e) in omega arith
total-set f (x ∷ xs) (suc i) v w e = let h = total-set f xs i v w e in omega arith

pub total-snoc : (f : View → ℕ) (views : List View) (w : View) → total f (views ++ w ∷ []) ≡ total f views + f w
total-snoc f [] w = omega arith
total-snoc f (x ∷ xs) w = let h = total-snoc f xs w in omega arith

one_live : (v : View) → v.spent ≡ false → one_if_seat v ≡ 1
one_live v e = ap (λ (b : Bool). cond b 0 1) e

pub counted_set : (views : List View) (id : ℕ) (v w : View) → IsSeat views id v → w.spent ≡ false → total one_if_seat (set views id w) ≡ total one_if_seat views
counted_set views id v w seat live =
    let h = total-set one_if_seat views id v w seat.0 in let a = one_live v seat.1 in let b = one_live w live in omega arith
