-- Lists of tags of which each stands in another list, and what is put among the tags of such lists.
use Rattle.std.proofs.Common.{◌≡◌, ⊎_elim, List, [], ◌∷◌, ◌++◌, Option, Some, refl, subst, sym, arith}
use Rattle.std.specs.Prelude.{Contains}
use Rattle.std.specs.List.{AllByRecursion}
use Rattle.std.proofs.lemmas.List.Elements.{Contains-append_cases}
use Rattle.pk_base.specs.declared.tag.Tag.{Tag}
use Rattle.pk_model.specs.Maps.{EntityMap}
use Rattle.list_facts.proofs.Each.{ByRecursion-at}
use Rattle.entity_store.specs.Recording.{Recording}
use Rattle.entity_store.specs.Store.{StoreView}
use Rattle.solid_model.specs.Sound.{optional}
use Rattle.halfedge.specs.LinkedRings.{prev_at}
use Rattle.entity_store.specs.Room.{HasRoomForThese, PutsAmong}
use Rattle.entity_store.proofs.Room.{room-part, room-after, puts-then, puts-wider}
use Rattle.list_facts.proofs.Elements.{not_in_nil, Contains-cases}
use Rattle.halfedge.specs.Splices.{spliced}

-- each of the second list stands in the first
abbrev pub HasAll : List Tag → List Tag → Type 0
HasAll ts us = (t : Tag) → Contains us t → Contains ts t

pub has-none : (ts : List Tag) → HasAll ts []
has-none ts t k = absurd (not_in_nil t k)

pub has-more : (ts : List Tag) (u : Tag) (us : List Tag) → Contains ts u → HasAll ts us → HasAll ts (u ∷ us)
has-more ts u us first rest t k =
    ⊎_elim (λ (e : u ≡ t). subst (Contains ts) e first) (λ (r : Contains us t). rest t r) (Contains-cases u us t k)

-- one by one
pub has-each : (ts us : List Tag) → AllByRecursion (Contains ts) us → HasAll ts us
has-each ts us all t k = ByRecursion-at (Contains ts) us t all k

pub has-one : (ts : List Tag) (u : Tag) → Contains ts u → HasAll ts (u ∷ [])
has-one ts u k = has-more ts u [] k (has-none ts)

pub has-pair : (ts : List Tag) (u v : Tag) → Contains ts u → Contains ts v → HasAll ts (u ∷ v ∷ [])
has-pair ts u v h k = has-more ts u (v ∷ []) h (has-one ts v k)

pub has-both : (ts us vs : List Tag) → HasAll ts us → HasAll ts vs → HasAll ts (us ++ vs)
has-both ts us vs h k t j =
    ⊎_elim (λ (l : Contains us t). h t l) (λ (r : Contains vs t). k t r) (Contains-append_cases us vs t j)

has-optional : (ts : List Tag) (o : Option Tag) (u : Tag) → o ≡ Some u → Contains ts u → HasAll ts (optional o)
has-optional ts o u e k = subst (λ (p : Option Tag). HasAll ts (optional p)) (sym e) (has-one ts u k)

-- the fins that a splice changes
pub has-spliced : (m : EntityMap) (f g p q : Tag) (ts : List Tag) → prev_at m f ≡ Some p → prev_at m g ≡ Some q
    → Contains ts f → Contains ts g → Contains ts p → Contains ts q → HasAll ts (spliced m f g)
has-spliced m f g p q ts f_was g_was has_f has_g has_p has_q =
    has-more ts f (g ∷ optional (prev_at m f) ++ optional (prev_at m g)) has_f
    (has-more ts g (optional (prev_at m f) ++ optional (prev_at m g)) has_g
    (has-both ts (optional (prev_at m f)) (optional (prev_at m g))
    (has-optional ts (prev_at m f) p f_was has_p) (has-optional ts (prev_at m g) q g_was has_q)))

-- and they are four
pub spliced-is : (m : EntityMap) (f g p q : Tag) → prev_at m f ≡ Some p → prev_at m g ≡ Some q → spliced m f g ≡ f ∷ g ∷ p ∷ q ∷ []
spliced-is m f g p q f_was g_was = λ i. f ∷ g ∷ optional (f_was i) ++ optional (g_was i)

-- ---- what is put

pub puts-both : (ts us vs : List Tag) (a b c : StoreView) → PutsAmong us a b → PutsAmong vs b c → HasAll ts us → HasAll ts vs → PutsAmong ts a c
puts-both ts us vs a b c p q h k = puts-then ts a b c (puts-wider us ts a b p h) (puts-wider vs ts b c q k)

pub room-next : (ts us : List Tag) (a b : StoreView) → HasRoomForThese a.recording ts → PutsAmong ts a b → HasAll ts us → HasRoomForThese b.recording us
room-next ts us a b room p h = room-part b.recording ts us (room-after ts ts a b room p (λ t k. k)) h

-- ---- the two links of a splice

module _ (m : EntityMap) (f g p q : Tag) (f_was : prev_at m f ≡ Some p) (g_was : prev_at m g ≡ Some q) where
  one-fins : HasAll (spliced m f g) (p ∷ g ∷ [])
  one-fins = subst (λ ts. HasAll ts (p ∷ g ∷ [])) (sym (spliced-is m f g p q f_was g_was))
      (has-pair (f ∷ g ∷ p ∷ q ∷ []) p g (2, omega arith, refl) (1, omega arith, refl))

  other-fins : HasAll (spliced m f g) (q ∷ f ∷ [])
  other-fins = subst (λ ts. HasAll ts (q ∷ f ∷ [])) (sym (spliced-is m f g p q f_was g_was))
      (has-pair (f ∷ g ∷ p ∷ q ∷ []) q f (3, omega arith, refl) (0, omega arith, refl))

  pub room-one : (r : Recording) → HasRoomForThese r (spliced m f g) → HasRoomForThese r (p ∷ g ∷ [])
  room-one r room = room-part r (spliced m f g) (p ∷ g ∷ []) room one-fins

  pub room-other : (a b : StoreView) → HasRoomForThese a.recording (spliced m f g) → PutsAmong (p ∷ g ∷ []) a b → HasRoomForThese b.recording (q ∷ f ∷ [])
  room-other a b room puts = room-next (spliced m f g) (q ∷ f ∷ []) a b room (puts-wider (p ∷ g ∷ []) (spliced m f g) a b puts one-fins) other-fins

  pub puts-spliced : (a b c : StoreView) → PutsAmong (p ∷ g ∷ []) a b → PutsAmong (q ∷ f ∷ []) b c → PutsAmong (spliced m f g) a c
  puts-spliced a b c x y = puts-both (spliced m f g) (p ∷ g ∷ []) (q ∷ f ∷ []) a b c x y one-fins other-fins
