-- Why the worked shapes that are not sound are not.
use Rattle.std.proofs.Common.{◌≡◌, ⊎_elim, Bool, true, false, not, ◌||◌, cond, List, [], ◌∷◌, Some, refl, sym, ap, subst, ◌∙◌, arith}
use Rattle.std.specs.Prelude.{Contains}
use Rattle.std.specs.List.{list_all}
use Rattle.std.specs.Ordering.{eq_by_cmp}
use Rattle.std.proofs.lemmas.Bool.{and_parts, cases_Bool}
use Rattle.std.proofs.lemmas.Option.{same_Some}
use Rattle.pk_base.specs.Blocks.{tag}
use Rattle.pk_base.specs.Entity.{same_tag}
use Rattle.pk_base.specs.declared.tag.Tag.{Tag}
use Rattle.pk_model.specs.Maps.{tag_cmp}
use Rattle.pk_model.proofs.TagLists.{same_from_tie}
use Rattle.solid_model.specs.Items.{Item, Shape, item_at}
use Rattle.solid_model.specs.Items.Item.{Loop, Fin}
use Rattle.solid_model.specs.Rings.{neighbours}
use Rattle.solid_model.specs.Owners.{fins_of}
use Rattle.solid_model.specs.Links.{links}
use Rattle.solid_model.specs.Sound.{IsSound, IsSoundShape, ComesAfter}
use Rattle.solid_model.proofs.Written.{is_read, shape_of-read}
use Rattle.solid_sound.proofs.shapes.OnlyShape.{shape-read}
use Rattle.pk_base.proofs.Same.{same_means}
use Rattle.solid_model.proofs.lists.Neighbours.{alone_in_ring}
use Rattle.list_facts.proofs.Elements.{not_in_nil, Contains-cases, Contains-only}
use Rattle.list_facts.proofs.Each.{ByRecursion-at}
use Rattle.solid_laws.specs.Unsound.{mate_not_mutual, edge_at_one_vertex, outer_of_another, one_name_twice, two_cycles}

-- the map of a shape that is read again from it is sound only where the shape is
map_not_sound : (S : Shape) → is_read S ≡ true → (IsSoundShape S → ⊥) → IsSound (links S) → ⊥
map_not_sound S read refuted sound = refuted (subst IsSoundShape (sym (shape-read (links S) sound) ∙ shape_of-read S read) sound.sound)

pub not_mutual : IsSound (links mate_not_mutual) → ⊥
not_mutual = map_not_sound mate_not_mutual refl (λ s.
    let m = s.mates.fins (tag 72) (tag 77) (tag 71) (tag 69) refl in
    let e : Some (Fin (tag 76) (tag 75) (tag 74)) ≡ Some (Fin (tag 72) (tag 71) m.end) = m.mate_is in
    let n : tag 76 ≡ tag 72 = cc in
    let k : 76 ≡ 72 = ap (λ (t : Tag). t.0) n in
    absurd (omega arith))

pub at_one_vertex : IsSound (links edge_at_one_vertex) → ⊥
at_one_vertex = map_not_sound edge_at_one_vertex refl (λ s.
    let m = s.mates.fins (tag 76) (tag 77) (tag 75) (tag 70) refl in
    let e : Some (Fin (tag 76) (tag 75) (tag 70)) ≡ Some (Fin (tag 76) (tag 75) m.end) = m.mate_is in
    m.apart (cc))

pub outer_elsewhere : IsSound (links outer_of_another) → ⊥
outer_elsewhere = map_not_sound outer_of_another refl (λ s.
    let o = s.outer (tag 79) (tag 66) (tag 68) refl in
    let n : tag 67 ≡ tag 79 = cc (o.2) in
    let k : 67 ≡ 79 = ap (λ (t : Tag). t.0) n in
    absurd (omega arith))

pub name_twice : IsSound (links one_name_twice) → ⊥
name_twice = map_not_sound one_name_twice refl (λ s.
    let n : tag 78 ≡ tag 79 = s.attributes.one (tag 78) (tag 79) (tag 65) _ _ _ refl refl in
    let k : 78 ≡ 79 = ap (λ (t : Tag). t.0) n in
    absurd (omega arith))

-- ---- two cycles

-- what each item of a shape passes
each_passes : (p : Tag × Item → Bool) (S : Shape) → list_all p S ≡ true → (t : Tag) (x : Item) → item_at S t ≡ Some x → p (t, x) ≡ true
each_passes p [] h t x e = absurd (cc)
each_passes p (y ∷ S) h t x e =
    let both = and_parts (p y) (list_all p S) h in
    ⊎_elim (λ (l : eq_by_cmp tag_cmp t y.0 ≡ true).
    let value : y.1 ≡ x = same_Some y.1 x (sym (ap (λ b. cond b (Some y.1) (item_at S t)) l) ∙ e) in
    (λ i. p (same_from_tie t y.0 l i, sym value i)) ∙ both.0)
    (λ (r : eq_by_cmp tag_cmp t y.0 ≡ false). each_passes p S both.1 t x (sym (ap (λ b. cond b (Some y.1) (item_at S t)) r) ∙ e))
    (cases_Bool (eq_by_cmp tag_cmp t y.0))

each_in_list : {A : Type 0} (p : A → Bool) (xs : List A) → list_all p xs ≡ true → (x : A) → Contains xs x → p x ≡ true
each_in_list p [] h x k = absurd (not_in_nil x k)
each_in_list p (y ∷ xs) h x k =
    let both = and_parts (p y) (list_all p xs) h in
    ⊎_elim (λ (e : y ≡ x). ap p (sym e) ∙ both.0) (λ (r : Contains xs x). each_in_list p xs both.1 x r) (Contains-cases y xs x k)

-- after 73 comes 72 alone
abbrev after_73 : Tag × Tag → Bool
after_73 n = not (same_tag n.0 (tag 73)) || same_tag n.1 (tag 72)

abbrev item_after_73 : Tag × Item → Bool
item_after_73 x = list_all after_73 (neighbours (fins_of x.1))

comes_after_73 : (g : Tag) → ComesAfter two_cycles (tag 73) g → g ≡ tag 72
comes_after_73 g c =
    let of_item : item_after_73 (c.loop_, Loop c.face c.fins c.vertex) ≡ true = each_passes item_after_73 two_cycles refl c.loop_ (Loop c.face c.fins c.vertex) c.loop_is in
    same_means g (tag 72) (each_in_list after_73 (neighbours c.fins) of_item (tag 73, g) c.among)

pub two_rounds : IsSound (links two_cycles) → ⊥
two_rounds = map_not_sound two_cycles refl (λ s.
    let r = s.round (tag 69) (tag 65) _ refl in
    let first : Contains r.fins (tag 72) = (r.are_all (tag 72)).1 (tag 73, tag 71, refl) in
    let second : Contains r.fins (tag 77) = (r.are_all (tag 77)).1 (tag 78, tag 76, refl) in
    let alone : r.fins ≡ tag 72 ∷ [] = alone_in_ring (tag 72) r.fins r.once first (λ g k. comes_after_73 g (ByRecursion-at _ (neighbours r.fins) (tag 72, g) r.round k)) in
    let n : tag 72 ≡ tag 77 = Contains-only (tag 72) (tag 77) (subst (λ ts. Contains ts (tag 77)) alone second) in
    let k : 72 ≡ 77 = ap (λ (t : Tag). t.0) n in
    absurd (omega arith))
