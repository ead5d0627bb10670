-- The live entities of an owner, as a walk gives them.
use Rattle.std.proofs.Common.{◌≡◌, ⊎_elim, Bool, true, false, cond, List, [], ◌∷◌, Option, Some, None, refl, sym, ap, subst, ◌∙◌}
use Rattle.std.specs.Prelude.{Contains, IsPermutation}
use Rattle.std.specs.List.{cons_option}
use Rattle.std.specs.FinMap.{get, keys}
use Rattle.std.proofs.lemmas.List.Sorted.{Contains-permutation, IsPermutation-sym}
use Rattle.std.proofs.Common.{is_some}
use Rattle.pk_base.specs.Entity.{owner_of, same_optional}
use Rattle.pk_base.specs.declared.tag.Tag.{Tag}
use Rattle.pk_base.specs.declared.entity.Entity.{Entity}
use Rattle.pk_base.specs.declared.entity.Entity.TheVariants as entity
use Rattle.pk_model.specs.Maps.{EntityMap}
use Rattle.entity_store.specs.Kids.{kid_at, kids_among, kids_of}
use Rattle.entity_store.proofs.Live.{kid_first}
use Rattle.pk_model.proofs.Keys.{Contains-keys}
use Rattle.pk_base.proofs.Same.{same_means}
use Rattle.list_facts.proofs.Elements.{not_in_nil, Contains-first, Contains-later, Contains-cases}

-- the entity stands under the tag, and has this owner
abbrev pub IsKid : EntityMap → Option Tag → Tag → Entity → Type 0
IsKid m owner t e = (get m t ≡ Some e) × (same_optional (owner_of e) owner ≡ true)

-- what is found among the kids of later tags is one
abbrev AreKids : EntityMap → Option Tag → List Tag → Tag → Entity → Type 0
AreKids m owner us t e = Contains (kids_among m owner us) (t, e) → IsKid m owner t e

kid-tested : (m : EntityMap) (owner : Option Tag) (u : Tag) (us : List Tag) (t : Tag) (e x : Entity) (b : Bool) → AreKids m owner us t e → get m u ≡ Some x → same_optional (owner_of x) owner ≡ b → Contains (cons_option (cond b (Some (u, x)) None) (kids_among m owner us)) (t, e) → IsKid m owner t e
kid-tested m owner u us t e x false rest is test c = rest c
kid-tested m owner u us t e x true rest is test c =
    ⊎_elim {C = IsKid m owner t e} (λ (h : (u, x) ≡ (t, e)).
    let tags : u ≡ t = ap (λ (p : Tag × Entity). p.0) h in
    let entities : x ≡ e = ap (λ (p : Tag × Entity). p.1) h in
    (ap (get m) (sym tags) ∙ is ∙ ap Some entities, ap (λ y. same_optional (owner_of y) owner) (sym entities) ∙ test))
    (λ (r : Contains (kids_among m owner us) (t, e)). rest r)
    (Contains-cases (u, x) (kids_among m owner us) (t, e) c)

kid-first : (m : EntityMap) (owner : Option Tag) (u : Tag) (us : List Tag) (t : Tag) (e : Entity) (o : Option Entity) → AreKids m owner us t e → get m u ≡ o → Contains (cons_option (kid_at owner u o) (kids_among m owner us)) (t, e) → IsKid m owner t e
kid-first m owner u us t e None rest is c = rest c
kid-first m owner u us t e (Some x) rest is c = kid-tested m owner u us t e x (same_optional (owner_of x) owner) rest is refl c

kids-are : (m : EntityMap) (owner : Option Tag) (ts : List Tag) (t : Tag) (e : Entity) → AreKids m owner ts t e
kids-are m owner [] t e k = absurd (not_in_nil (t, e) k)
kids-are m owner (u ∷ us) t e k = kid-first m owner u us t e (get m u) (kids-are m owner us t e) refl k

kids-more : (m : EntityMap) (owner : Option Tag) (u : Tag) (us : List Tag) (p : Tag × Entity) (o : Option (Tag × Entity)) → Contains (kids_among m owner us) p → Contains (cons_option o (kids_among m owner us)) p
kids-more m owner u us p None k = k
kids-more m owner u us p (Some q) k = Contains-later q (kids_among m owner us) p k

are-kids : (m : EntityMap) (owner : Option Tag) (ts : List Tag) (t : Tag) (e : Entity) → Contains ts t → IsKid m owner t e → Contains (kids_among m owner ts) (t, e)
are-kids m owner [] t e k is = absurd (not_in_nil t k)
are-kids m owner (u ∷ us) t e k is =
    ⊎_elim {C = Contains (kids_among m owner (u ∷ us)) (t, e)} (λ (h : u ≡ t).
    subst (λ (ps : List (Tag × Entity)). Contains ps (t, e)) (sym (kid_first m owner u e us (ap (get m) h ∙ is.0) is.1)) (subst (λ v. Contains ((v, e) ∷ kids_among m owner us) (t, e)) (sym h) (Contains-first (t, e) (kids_among m owner us))))
    (λ (r : Contains us t). kids-more m owner u us (t, e) (kid_at owner u (get m u)) (are-kids m owner us t e r is))
    (Contains-cases u us t k)

-- each that a walk gives is a kid, and each kid is given
pub walked-are : (m : EntityMap) (owner : Option Tag) (walk : List (Tag × Entity)) → IsPermutation (kids_of m owner) walk → (t : Tag) (e : Entity) → Contains walk (t, e) → IsKid m owner t e
walked-are m owner walk h t e k = kids-are m owner (keys m) t e (Contains-permutation walk (kids_of m owner) (t, e) (IsPermutation-sym (kids_of m owner) walk h) k)

pub are-walked : (m : EntityMap) (owner : Option Tag) (walk : List (Tag × Entity)) → IsPermutation (kids_of m owner) walk → (t : Tag) (e : Entity) → IsKid m owner t e → Contains walk (t, e)
are-walked m owner walk h t e is = Contains-permutation (kids_of m owner) walk (t, e) h (are-kids m owner (keys m) t e (Contains-keys m t (ap is_some is.0)) is)

-- a face among them is of the shell that is asked for
pub face-of_kid : (m : EntityMap) (shell t s outer : Tag) → IsKid m (Some shell) t (entity.Face s outer) → get m t ≡ Some (entity.Face shell outer)
face-of_kid m shell t s outer is = is.0 ∙ ap (λ u. Some (entity.Face u outer)) (same_means s shell is.1)
