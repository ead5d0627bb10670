-- The slots are kept once a slot stands in front of its owner's children.
use Rattle.std.proofs.Common.{◌≡◌, ◌≢◌, ℕ, ◌<◌, ⊎_elim, List, ◌∷◌, length, set, None, Some, Contains, refl, sym, ap, subst, ◌∙◌}
use Rattle.std.proofs.lemmas.Bool.{cases_eq}
use Rattle.list_facts.proofs.Each.{ByRecursion-contains}
use Rattle.owner_links.specs.declared.slot.Slot.{Slot}
use Rattle.owner_links.specs.Links.{owner_at, AreChildren}
use Rattle.owner_links.specs.Slots.{slot_at, owners_of, LinkedChildren, AreKept, with_owner, Joins}
use Rattle.owner_links.proofs.ChildLists.{AreChildren-more, AreChildren-others}
use Rattle.owner_links.proofs.Linked.{SameLinks, AreLinked-same, AreLinked-turned, LinkedChildren-with_owner, first_in, owner_of_child, owner_of_first}

module _ (S J K : List Slot) (c o : ℕ) (kept : AreKept S) (within : c < length (owners_of S)) (free : owner_at (owners_of S) c ≡ None) (behind : Joins o (Some c) (slot_at S o).first S J) (ahead : Joins o None (Some c) J K) where
  same_owners : owners_of K ≡ owners_of S
  same_owners = ahead.owners ∙ behind.owners

  unowned : (q : ℕ) → owner_at (owners_of S) c ≢ Some q
  unowned q e = cc (free, e)

  -- a slot with an owner is another one
  other_than : (q x : ℕ) → owner_at (owners_of S) x ≡ Some q → x ≢ c
  other_than q x own e = unowned q (ap (owner_at (owners_of S)) (sym e) ∙ own)

  next-kept : (x : ℕ) → x ≢ c → (slot_at K x).next ≡ (slot_at S x).next
  next-kept x other = ahead.same_next x (λ e. cc) ∙ behind.same_next x (λ e. other cc)

  previous-kept : (x : ℕ) → x ≢ c → (slot_at S o).first ≢ Some x → (slot_at K x).previous ≡ (slot_at S x).previous
  previous-kept x other later = ahead.same_previous x (λ e. other cc) ∙ behind.same_previous x later

  attached-own : LinkedChildren (with_owner K c (Some o)) o
  attached-own =
      let k = kept o in
      let member : (x : ℕ) → Contains k.children x → x ≢ c = λ x h. other_than o x (owner_of_child S kept o x h) in
      let more = AreChildren-more (owners_of S) o c k.children within (unowned o) k.are in
      let linked = AreLinked-turned S K None (Some c) k.children k.are.once
      (λ x e. ahead.same_previous x (λ s. member x (first_in k.children x e) cc) ∙ behind.previous x (k.first ∙ e))
      (λ x h. next-kept x (member x h))
      (λ x h later. previous-kept x (member x h) (λ e. later (sym k.first ∙ e)))
      k.linked in
      LinkedChildren-with_owner K c (Some o) o (c ∷ k.children) (subst (λ os. AreChildren (set os c (Some o)) o (c ∷ k.children)) (sym same_owners) more)
      (ahead.first refl)
      (ahead.previous c refl, ahead.same_next c (λ e. cc) ∙ behind.next c refl ∙ k.first, linked)

  attached-others : (q : ℕ) → q ≢ o → LinkedChildren (with_owner K c (Some o)) q
  attached-others q other =
      let k = kept q in
      let same = AreChildren-others (owners_of S) q c (Some o) k.children within (unowned q) (λ e. other cc) k.are in
      let linked = AreLinked-same S K None k.children (ByRecursion-contains (SameLinks S K) k.children (λ x h.
      let own = owner_of_child S kept q x h in
      (previous-kept x (other_than q x own) (λ e. let first = owner_of_first S kept o x e in other cc), next-kept x (other_than q x own)))) k.linked in
      LinkedChildren-with_owner K c (Some o) q k.children (subst (λ os. AreChildren (set os c (Some o)) q k.children) (sym same_owners) same)
      (ahead.first_of_others q other ∙ behind.first_of_others q other ∙ k.first) linked

  pub attached : AreKept (with_owner K c (Some o))
  attached q = ⊎_elim (λ (e : q ≡ o). subst (LinkedChildren (with_owner K c (Some o))) (sym e) attached-own) (λ (other : q ≡ o → ⊥). attached-others q other) (cases_eq q o)
