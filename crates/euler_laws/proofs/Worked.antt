-- Why two worked shapes are the same but for names, and others are not.
use Rattle.std.proofs.Common.{◌≡◌, ℕ, ⊎_elim, Bool, true, false, not, ◌&&◌, List, [], ◌∷◌, ◌++◌, Option, Some, None, refl, sym, ap, subst, ◌∙◌, arith}
use Rattle.std.specs.Prelude.{ℤ, pos, nat_abs, Contains}
use Rattle.std.specs.List.{AllByRecursion}
use Rattle.std.proofs.lemmas.Bool.{and_parts}
use Rattle.pk_base.specs.Blocks.{tag}
use Rattle.pk_base.specs.declared.tag.Tag.{Tag}
use Rattle.pk_model.specs.Apart.{NoRepeats}
use Rattle.pk_model.proofs.TagLists.{NoneOf}
use Rattle.list_facts.proofs.Each.{ByRecursion-at}
use Rattle.solid_model.specs.Items.{Item, Shape, item_at}
use Rattle.solid_model.specs.Places.{point_of_vertex}
use Rattle.solid_model.specs.Rings.{is_among}
use Rattle.solid_model.proofs.lists.Neighbours.{none-is}
use Rattle.solid_sound.proofs.shapes.Found.{item-among, none_or_some}
use Rattle.solid_model.specs.SameButNames.{IsRenaming, SameButNames, SameIfAny, but_attributes}
use Rattle.euler_laws.specs.WorkedNames.{killed, made, made_anew, moved, renumbered, robbed, tags, two_edges}
use Rattle.euler_laws.proofs.Renamings.{Pairs, both_of, exchanges, killed_of, made_of, renamed}

-- ---- shapes that are compared item by item

-- no tag stands twice
abbrev are_apart : List Tag → Bool
are_apart [] = true
are_apart (t ∷ ts) = not (is_among t ts) && are_apart ts

apart-once : (ts : List Tag) → are_apart ts ≡ true → NoRepeats ts
apart-once [] h = tt
apart-once (t ∷ ts) h =
    let both = and_parts (not (is_among t ts)) (are_apart ts) h in
    (none-is t ts (negated (is_among t ts) both.0), apart-once ts both.1)
  where
    negated : (b : Bool) → not b ≡ true → b ≡ false
    negated true h = absurd (cc)
    negated false h = refl

module _ (S R : Shape) (ts : List Tag) (there back : Tag → Tag) (r : IsRenaming ts there back) where
  abbrev Same : Tag → Type 0
  Same t = SameIfAny there (but_attributes ts (item_at S t)) (but_attributes ts (item_at R (there t)))

  -- it is enough to compare the items of both
  by-items : AllByRecursion (λ (x : Tag × Item). Same x.0) S → AllByRecursion (λ (y : Tag × Item). Same (back y.0)) R → (t : Tag) → Same t
  by-items firsts seconds t = ⊎_elim {C = Same t}
      (λ (none : item_at S t ≡ None). ⊎_elim {C = Same t}
      (λ (also : item_at R (there t) ≡ None).
      subst (λ (o : Option Item × Option Item). SameIfAny there (but_attributes ts o.0) (but_attributes ts o.1)) (λ i. (sym none i, sym also i)) tt)
      (λ (some : (y : Item) × (item_at R (there t) ≡ Some y)).
      subst Same (r.undone t) (ByRecursion-at (λ (y : Tag × Item). Same (back y.0)) R (there t, some.0) seconds (item-among R (there t) some.0 some.1)))
      (none_or_some (item_at R (there t))))
      (λ (some : (x : Item) × (item_at S t ≡ Some x)). ByRecursion-at (λ (x : Tag × Item). Same x.0) S (t, some.0) firsts (item-among S t some.0 some.1))
      (none_or_some (item_at S t))

-- ---- the same but for names

pairs : Pairs
pairs = (tag 69, tag 80) ∷ (tag 71, tag 81) ∷ (tag 73, tag 82) ∷ (tag 72, tag 83) ∷ []

pub same_anew : SameButNames killed made two_edges made_anew
unfolding pairs
same_anew =
    let once : NoRepeats (both_of pairs) = apart-once (both_of pairs) refl in
    let renaming = exchanges pairs once in
    record {
      there = renamed pairs;
      back = renamed pairs;
      renaming = renaming;
      same = by-items two_edges made_anew (killed ++ made) (renamed pairs) (renamed pairs) renaming
          (refl, (refl, (refl, ((tags (76 ∷ 77 ∷ 82 ∷ 83 ∷ []), record { pre = tags (83 ∷ []); post = tags (76 ∷ 77 ∷ 82 ∷ []); here = refl; there = refl }, refl), (refl, (refl, (refl, (refl, (refl, (refl, (refl, (refl, (refl, (refl, (tt, tt)))))))))))))))
          (refl, (refl, (refl, ((tags (76 ∷ 77 ∷ 82 ∷ 83 ∷ []), record { pre = tags (83 ∷ []); post = tags (76 ∷ 77 ∷ 82 ∷ []); here = refl; there = refl }, refl), (refl, (refl, (refl, (refl, (refl, (refl, (refl, (refl, (refl, (refl, tt))))))))))))));
    }

-- ---- what is not

-- what is under a tag that was neither killed nor made
at_fixed : (R : Shape) (h : SameButNames killed made two_edges R) (t : Tag) → is_among t (killed ++ made) ≡ false
    → SameIfAny h.there (but_attributes (killed ++ made) (item_at two_edges t)) (but_attributes (killed ++ made) (item_at R t))
at_fixed R h t out = subst (λ u. SameIfAny h.there (but_attributes (killed ++ made) (item_at two_edges t)) (but_attributes (killed ++ made) (item_at R u))) (h.renaming.leaves t out) (h.same t)

differ : (n : ℕ) → n ≡ 3 → n ≡ 2 → ⊥
differ n a b = absurd (omega (arith, a, b))

pub not_moved : SameButNames killed made two_edges moved → ⊥
not_moved h =
    let e = at_fixed moved h (tag 74) refl in
    differ (nat_abs (pos 3)) refl (ap (λ x. nat_abs (point_of_vertex x).x) e)

pub not_robbed : SameButNames killed made two_edges robbed → ⊥
not_robbed h = at_fixed robbed h (tag 78) refl

pub not_renumbered : SameButNames killed made two_edges renumbered → ⊥
not_renumbered h = at_fixed renumbered h (tag 75) refl
