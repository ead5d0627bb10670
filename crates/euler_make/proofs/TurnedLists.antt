-- Cyclic lists written from one of their tags, and tags that stand in them in order.
use Rattle.std.proofs.Common.{◌≡◌, ℕ, zero, suc, ◌⊎◌, inl, inr, ⊎_elim, List, [], ◌∷◌, ◌++◌, refl, sym, ap, subst, ◌∙◌, append_assoc, append-nil, arith}
use Rattle.std.specs.Prelude.{Contains}
use Rattle.std.proofs.lemmas.List.Elements.{Contains-append_right}
use Rattle.pk_base.specs.declared.tag.Tag.{Tag}
use Rattle.pk_model.specs.Apart.{NoRepeats}
use Rattle.solid_model.specs.Rings.{written_from, from_least}
use Rattle.solid_model.proofs.Reading.{not_before}
use Rattle.solid_model.proofs.lists.Neighbours.{parts_at}
use Rattle.solid_model.proofs.lists.Cycles.{once-turned, written-itself}
use Rattle.solid_model.proofs.lists.Turned.{Turned, turned-least, turned-back, turned-once}
use Rattle.list_facts.proofs.Elements.{Around, around, not_in_nil, Contains-first, Contains-later, Contains-cases}
use Rattle.euler_make.specs.Cutting.{Stand}

-- ---- written from another tag

pub written-at : (f : Tag) (pre post : List Tag) → NoRepeats (pre ++ f ∷ post) → written_from f (pre ++ f ∷ post) ≡ (f ∷ post) ++ pre
written-at f pre post once = let p = parts_at f pre post (not_before f pre post once) in λ i. p.1 i ++ p.0 i

-- x stands in the first part
turned_first : (x : Tag) (pre post us : List Tag) → NoRepeats ((pre ++ x ∷ post) ++ us) → written_from x ((pre ++ x ∷ post) ++ us) ≡ written_from x (us ++ (pre ++ x ∷ post))
turned_first x pre post us once =
    let here : (pre ++ x ∷ post) ++ us ≡ pre ++ x ∷ (post ++ us) = append_assoc pre (x ∷ post) us in
    let there : us ++ (pre ++ x ∷ post) ≡ (us ++ pre) ++ x ∷ post = sym (append_assoc us pre (x ∷ post)) in
    let turned = once-turned (pre ++ x ∷ post) us once in
    ap (written_from x) here ∙ written-at x pre (post ++ us) (subst NoRepeats here once)
    ∙ append_assoc (x ∷ post) us pre
    ∙ sym (written-at x (us ++ pre) post (subst NoRepeats there turned)) ∙ ap (written_from x) (sym there)

-- from where it is written makes no difference
pub written-turned : (x : Tag) (xs ys : List Tag) → Turned xs ys → NoRepeats xs → Contains xs x → written_from x xs ≡ written_from x ys
written-turned x xs ys t once among =
    let cases = in_parts x t.pre t.post (subst (λ zs. Contains zs x) t.here among) in
    let once_here : NoRepeats (t.pre ++ t.post) = subst NoRepeats t.here once in
    ap (written_from x) t.here ∙ ⊎_elim {C = written_from x (t.pre ++ t.post) ≡ written_from x (t.post ++ t.pre)}
    (λ (k : Contains t.pre x). let a = around x t.pre k in
    ap (λ ps. written_from x (ps ++ t.post)) a.is
    ∙ turned_first x a.ahead a.behind t.post (subst (λ ps. NoRepeats (ps ++ t.post)) a.is once_here)
    ∙ ap (λ ps. written_from x (t.post ++ ps)) (sym a.is))
    (λ (k : Contains t.post x). let a = around x t.post k in
    sym (ap (λ ps. written_from x (ps ++ t.pre)) a.is
    ∙ turned_first x a.ahead a.behind t.pre (subst (λ ps. NoRepeats (ps ++ t.pre)) a.is (once-turned t.pre t.post once_here))
    ∙ ap (λ ps. written_from x (t.pre ++ ps)) (sym a.is)))
    cases ∙ ap (written_from x) (sym t.there)
  where
    in_parts : (x : Tag) (ps qs : List Tag) → Contains (ps ++ qs) x → Contains ps x ⊎ Contains qs x
    in_parts x [] qs k = inr k
    in_parts x (p ∷ ps) qs k = ⊎_elim {C = Contains (p ∷ ps) x ⊎ Contains qs x}
        (λ (e : p ≡ x). inl (subst (Contains (p ∷ ps)) e (Contains-first p ps)))
        (λ (r : Contains (ps ++ qs) x). ⊎_elim {C = Contains (p ∷ ps) x ⊎ Contains qs x}
        (λ (l : Contains ps x). inl (Contains-later p ps x l)) (λ (q : Contains qs x). inr q) (in_parts x ps qs r))
        (Contains-cases p (ps ++ qs) x k)

-- the list from the least tag, written from a tag at any place
pub written-least : (f : Tag) (pre post : List Tag) → NoRepeats (pre ++ f ∷ post) → written_from f (from_least (pre ++ f ∷ post)) ≡ (f ∷ post) ++ pre
written-least f pre post once =
    sym (written-turned f (pre ++ f ∷ post) (from_least (pre ++ f ∷ post)) (turned-least (pre ++ f ∷ post)) once (Contains-append_right pre (f ∷ post) f (Contains-first f post)))
    ∙ written-at f pre post once

-- ---- tags that stand in order

pub stand-behind : (cs xs ys : List Tag) → Stand cs ys → Stand cs (xs ++ ys)
stand-behind [] xs ys s = tt
stand-behind (c ∷ cs) xs ys s = (xs ++ s.0, s.1, ap (λ zs. xs ++ zs) s.2 ∙ sym (append_assoc xs s.0 (c ∷ s.1)), s.3)

pub stand-both : (cs ds xs ys : List Tag) → Stand cs xs → Stand ds ys → Stand (cs ++ ds) (xs ++ ys)
stand-both [] ds xs ys s r = stand-behind ds xs ys r
stand-both (c ∷ cs) ds xs ys s r =
    (s.0, s.1 ++ ys, ap (λ zs. zs ++ ys) s.2 ∙ append_assoc s.0 (c ∷ s.1) ys, stand-both cs ds s.1 ys s.3 r)

pub stand-one : (c : Tag) (ahead behind : List Tag) → Stand (c ∷ []) (ahead ++ c ∷ behind)
stand-one c ahead behind = (ahead, behind, refl, tt)

pub stand-in : (cs xs : List Tag) (t : Tag) → Stand cs xs → Contains cs t → Contains xs t
stand-in [] xs t s k = absurd (not_in_nil t k)
stand-in (c ∷ cs) xs t s k = subst (λ zs. Contains zs t) (sym s.2) (⊎_elim
    (λ (e : c ≡ t). subst (Contains (s.0 ++ c ∷ s.1)) e (Contains-append_right s.0 (c ∷ s.1) c (Contains-first c s.1)))
    (λ (r : Contains cs t). Contains-append_right s.0 (c ∷ s.1) t (Contains-later c s.1 t (stand-in cs s.1 t s.3 r)))
    (Contains-cases c cs t k))
