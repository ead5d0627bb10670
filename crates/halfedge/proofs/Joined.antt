-- What it does to the links of all fins when one fin is made the next of another.
use Rattle.std.proofs.Common.{◌≡◌, ◌≢◌, ⊎_elim, sym, ap, subst, ◌∙◌}
use Rattle.std.specs.Prelude.{IsSome, is_some}
use Rattle.pk_base.specs.declared.tag.Tag.{Tag}
use Rattle.pk_model.specs.Maps.{EntityMap}
use Rattle.pk_base.proofs.Same.{same_or_other}
use Rattle.halfedge.specs.LinkedRings.{AreLinked, next_at}
use Rattle.halfedge.specs.Splices.{Joins}

-- a fin stays one
pub joined-live : (m n : EntityMap) (f g : Tag) → Joins m f g n → (t : Tag) → IsSome (next_at m t) → IsSome (next_at n t)
joined-live m n f g h t live =
    ⊎_elim {C = IsSome (next_at n t)}
    (λ (e : t ≡ f). ap is_some (ap (next_at n) e ∙ h.linked.next))
    (λ (d : t ≢ f). subst IsSome (sym (h.nexts t d)) live)
    (same_or_other t f)

-- two that are linked stay so, where one of them is joined with the other alone
pub linked-joined : (m n : EntityMap) (f g a b : Tag) → Joins m f g n → (a ≡ f → b ≡ g) → (b ≡ g → a ≡ f) → AreLinked m a b → AreLinked n a b
linked-joined m n f g a b h on back was =
    ⊎_elim {C = AreLinked n a b}
    (λ (e : a ≡ f). subst (λ (p : Tag × Tag). AreLinked n p.0 p.1) (λ i. (sym e i, sym (on e) i)) h.linked)
    (λ (d : a ≢ f). record { next = h.nexts a d ∙ was.next; prev = h.prevs b (λ e. d (back e)) ∙ was.prev })
    (same_or_other a f)
