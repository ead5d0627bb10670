-- The tests of `specs/Entity.antt` are true exactly of equal values.
use Rattle.std.proofs.Common.{◌≡◌, ◌≢◌, ◌⊎◌, inl, inr, ⊎_elim, true, false, Option, Some, None, refl, sym, ap, ◌∙◌}
use Rattle.std.specs.Bool.{Decides}
use Rattle.std.proofs.lemmas.Bool.{true≢false, cases_Bool}
use Rattle.std.proofs.lemmas.Bool.Decides.{Decides-and, Decides-like, Decides-eqb, Decides-int_eq}
use Rattle.std.proofs.lemmas.Slice.Eq.{bytes_eq-Decides}
use Rattle.pk_base.specs.declared.tag.Tag.{Tag}
use Rattle.pk_base.specs.declared.entity.Point.{Point}
use Rattle.pk_base.specs.declared.entity.Name.{Name}
use Rattle.pk_base.specs.declared.entity.Entity.{Entity}
use Rattle.pk_base.specs.declared.entity.Entity.TheVariants.{Body, Shell, Face, Loop, Fin, Edge, Vertex, Attr}
use Rattle.pk_base.specs.Entity.{same_tag, same_optional, same_point, same_name, same_entity}

pub same_tag-Decides : (a b : Tag) → Decides (same_tag a b) (a ≡ b)
same_tag-Decides a b = Decides-like _ (λ e i. record { 0 = e i }) (ap (λ (t : Tag). t.0)) (Decides-eqb a.0 b.0)

pub same_optional-Decides : (a b : Option Tag) → Decides (same_optional a b) (a ≡ b)
same_optional-Decides None None = (λ _. refl, λ _. refl)
same_optional-Decides (Some a) (Some b) = Decides-like _ (ap Some) (λ e. cc) (same_tag-Decides a b)
same_optional-Decides a b = (λ e. absurd (true≢false (sym e)), λ e. absurd (cc))

pub same_point-Decides : (a b : Point) → Decides (same_point a b) (a ≡ b)
same_point-Decides a b =
    Decides-like _ (λ h i. record { x = h.0 i; y = h.1.0 i; z = h.1.1 i }) (λ e. (ap (λ (p : Point). p.x) e, (ap (λ (p : Point). p.y) e, ap (λ (p : Point). p.z) e)))
    (Decides-and _ _ (Decides-int_eq a.x b.x) (Decides-and _ _ (Decides-int_eq a.y b.y) (Decides-int_eq a.z b.z)))

pub same_name-Decides : (a b : Name) → Decides (same_name a b) (a ≡ b)
same_name-Decides a b = Decides-like _ (λ e i. record { 0 = e i }) (ap (λ (n : Name). n.0)) (bytes_eq-Decides a.0 b.0)

pub same_entity-Decides : (a b : Entity) → Decides (same_entity a b) (a ≡ b)
same_entity-Decides (Body a) (Body b) = Decides-like _ (ap Body) (λ e. cc) (same_tag-Decides a b)
same_entity-Decides (Shell a p) (Shell b q) =
    Decides-like _ (λ h i. Shell (h.0 i) (h.1 i)) (λ e. (cc, cc)) (Decides-and _ _ (same_tag-Decides a b) (Decides-int_eq p q))
same_entity-Decides (Face a o) (Face b u) =
    Decides-like _ (λ h i. Face (h.0 i) (h.1 i)) (λ e. (cc, cc)) (Decides-and _ _ (same_tag-Decides a b) (same_tag-Decides o u))
same_entity-Decides (Loop a f l) (Loop b g m) =
    Decides-like _ (λ h i. Loop (h.0 i) (h.1.0 i) (h.1.1 i)) (λ e. (cc, (cc, cc)))
    (Decides-and _ _ (same_tag-Decides a b) (Decides-and _ _ (same_optional-Decides f g) (same_optional-Decides l m)))
same_entity-Decides (Fin a n p m e v) (Fin b o q k f w) =
    Decides-like _ (λ h i. Fin (h.0 i) (h.1.0 i) (h.1.1.0 i) (h.1.1.1.0 i) (h.1.1.1.1.0 i) (h.1.1.1.1.1 i)) (λ e. (cc, (cc, (cc, (cc, (cc, cc))))))
    (Decides-and _ _ (same_tag-Decides a b)
    (Decides-and _ _ (same_tag-Decides n o)
    (Decides-and _ _ (same_tag-Decides p q)
    (Decides-and _ _ (same_tag-Decides m k)
    (Decides-and _ _ (same_tag-Decides e f) (same_tag-Decides v w))))))
same_entity-Decides (Edge a f) (Edge b g) =
    Decides-like _ (λ h i. Edge (h.0 i) (h.1 i)) (λ e. (cc, cc)) (Decides-and _ _ (same_tag-Decides a b) (same_tag-Decides f g))
same_entity-Decides (Vertex a p) (Vertex b q) =
    Decides-like _ (λ h i. Vertex (h.0 i) (h.1 i)) (λ e. (cc, cc)) (Decides-and _ _ (same_tag-Decides a b) (same_point-Decides p q))
same_entity-Decides (Attr a n v) (Attr b m w) =
    Decides-like _ (λ h i. Attr (h.0 i) (h.1.0 i) (h.1.1 i)) (λ e. (cc, (cc, cc)))
    (Decides-and _ _ (same_tag-Decides a b) (Decides-and _ _ (same_name-Decides n m) (Decides-int_eq v w)))
same_entity-Decides a b = (λ e. absurd (true≢false (sym e)), λ e. absurd (cc))

-- ---- equal tags, and different ones

pub same_itself : (t : Tag) → same_tag t t ≡ true
same_itself t = (same_tag-Decides t t).1 refl

pub same_means : (t u : Tag) → same_tag t u ≡ true → t ≡ u
same_means t u h = (same_tag-Decides t u).0 h

pub differs_means : (t u : Tag) → same_tag t u ≡ false → t ≢ u
differs_means t u h e = true≢false (sym ((same_tag-Decides t u).1 e) ∙ h)

pub not_same : (t u : Tag) → t ≢ u → same_tag t u ≡ false
not_same t u h = ⊎_elim (λ (l : same_tag t u ≡ true). absurd (h (same_means t u l))) (λ r. r) (cases_Bool (same_tag t u))

pub same_or_other : (t u : Tag) → (t ≡ u) ⊎ (t ≢ u)
same_or_other t u = ⊎_elim {C = (t ≡ u) ⊎ (t ≢ u)} (λ (l : same_tag t u ≡ true). inl (same_means t u l)) (λ (r : same_tag t u ≡ false). inr (differs_means t u r)) (cases_Bool (same_tag t u))
