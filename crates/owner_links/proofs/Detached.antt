-- The slots are kept once the neighbours of a child are linked, and it has no owner.
use Rattle.std.proofs.Common.{◌≡◌, ◌≢◌, ℕ, ⊎_elim, List, [], ◌∷◌, ◌++◌, set, Option, None, Some, refl, sym, ap, subst, ◌∙◌}
use Rattle.std.specs.List.{AllByRecursion}
use Rattle.std.proofs.lemmas.Bool.{cases_eq}
use Rattle.std.proofs.lemmas.List.Elements.{Contains-append_left}
use Rattle.list_facts.proofs.Each.{ByRecursion-contains, ByRecursion-at, ByRecursion-right}
use Rattle.owner_links.specs.declared.slot.Slot.{Slot}
use Rattle.owner_links.specs.Links.{owner_at, NoRepeats, AreChildren}
use Rattle.owner_links.specs.Slots.{slot_at, owners_of, first_of, AreLinked, LinkedChildren, AreKept, with_owner, Joins}
use Rattle.owner_links.proofs.ChildLists.{parts_at, owned_within, AreChildren-less, AreChildren-others}
use Rattle.owner_links.proofs.Linked.{SameLinks, AreLinked-same, AreLinked-turned, LinkedChildren-with_owner, first_in, last_in, last_is_some, neighbours, owner_of_child, owned_is_child, owner_of_previous, owner_of_next}

module _ (S J : List Slot) (c o : ℕ) (joins : Joins o (slot_at S c).previous (slot_at S c).next S J) where
  -- what stands behind x, in front of the one that goes
  next-past : (x : ℕ) (front back : List ℕ) → AreLinked S (Some x) (front ++ c ∷ back) → AllByRecursion (λ m. x ≢ m) (front ++ c ∷ back) → (slot_at S x).next ≡ first_of (front ++ c ∷ back) → (slot_at J x).next ≡ first_of (front ++ back)
  next-past x [] back l apart e = joins.next x l.0 ∙ l.1
  next-past x (y ∷ front) back l apart e =
      let links = neighbours S (Some x) (y ∷ front) back c l in
      joins.same_next x (λ s. ByRecursion-at (λ m. x ≢ m) (y ∷ front ++ c ∷ back) x apart (Contains-append_left (y ∷ front) (c ∷ back) x (last_in y front x (sym links.0 ∙ s))) refl) ∙ e

  unlinked-list : (before : Option ℕ) (front back : List ℕ) → AreLinked S before (front ++ c ∷ back) → NoRepeats (front ++ c ∷ back) → ((m : ℕ) → before ≡ Some m → AllByRecursion (λ x. m ≢ x) back) → AreLinked J before (front ++ back)
  unlinked-list before [] back l once apart =
      AreLinked-turned S J (Some c) before back once.1
      (λ x e. joins.previous x (l.1 ∙ e) ∙ l.0)
      (λ x h. joins.same_next x (λ e. ByRecursion-at (λ m. x ≢ m) back x (apart x (sym l.0 ∙ e)) h refl))
      (λ x h later. joins.same_previous x (λ e. later (sym l.1 ∙ e)))
      l.2
  unlinked-list before (x ∷ front) back l once apart =
      let links = neighbours S (Some x) front back c l.2 in
      let behind = ByRecursion-right (λ m. x ≢ m) front (c ∷ back) once.0 in (
        joins.same_previous x (λ e. ByRecursion-at (λ m. x ≢ m) back x behind.1 (first_in back x (sym links.1 ∙ e)) refl) ∙ l.0,
        next-past x front back l.2 once.0 l.1,
        unlinked-list (Some x) front back l.2 once.1 (λ m e. let same : x ≡ m = cc in subst (λ n. AllByRecursion (λ y. n ≢ y) back) same behind.1),
      )

  first-past : (front back : List ℕ) → AreLinked S None (front ++ c ∷ back) → (slot_at S o).first ≡ first_of (front ++ c ∷ back) → (slot_at J o).first ≡ first_of (front ++ back)
  first-past [] back l e = joins.first l.0 ∙ l.1
  first-past (x ∷ front) back l e = joins.same_first (λ s. last_is_some x front (sym (neighbours S (Some x) front back c l.2).0 ∙ s)) ∙ e

  module _ (kept : AreKept S) (own : owner_at (owners_of S) c ≡ Some o) where
    detached-own : LinkedChildren (with_owner J c None) o
    detached-own =
        let k = kept o in
        let parts = parts_at k.children c (owned_is_child S kept o c own) in
        let linked = subst (AreLinked S None) parts.2 k.linked in
        let are = subst (AreChildren (owners_of S) o) parts.2 k.are in
        let less = AreChildren-less (owners_of S) o c parts.0 parts.1 are in
        LinkedChildren-with_owner J c None o (parts.0 ++ parts.1) (subst (λ os. AreChildren (set os c None) o (parts.0 ++ parts.1)) (sym joins.owners) less)
        (first-past parts.0 parts.1 linked (k.first ∙ ap first_of parts.2))
        (unlinked-list None parts.0 parts.1 linked are.once (λ m e. cc))

    detached-others : (q : ℕ) → q ≢ o → LinkedChildren (with_owner J c None) q
    detached-others q other =
        let k = kept q in
        let within = owned_within (owners_of S) c o own in
        let same = AreChildren-others (owners_of S) q c None k.children within (λ e. other cc) (λ e. cc) k.are in
        let linked = AreLinked-same S J None k.children (ByRecursion-contains (SameLinks S J) k.children (λ x h.
        let owned = owner_of_child S kept q x h in
        (joins.same_previous x (λ e. let next = owner_of_next S kept o c x own e in other cc), joins.same_next x (λ e. let previous = owner_of_previous S kept o c x own e in other cc)))) k.linked in
        LinkedChildren-with_owner J c None q k.children (subst (λ os. AreChildren (set os c None) q k.children) (sym joins.owners) same)
        (joins.first_of_others q other ∙ k.first) linked

    pub detached : AreKept (with_owner J c None)
    detached q = ⊎_elim (λ (e : q ≡ o). subst (LinkedChildren (with_owner J c None)) (sym e) detached-own) (λ (different : q ≡ o → ⊥). detached-others q different) (cases_eq q o)
