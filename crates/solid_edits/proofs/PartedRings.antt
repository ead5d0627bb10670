-- The ring of an edge's fin and its mate, and the parts that are left where they are cut out of it.
use Rattle.std.proofs.Common.{◌≡◌, ◌≢◌, ⊎_elim, cond, List, [], ◌∷◌, ◌++◌, drop, Option, Some, None, refl, sym, ap, subst, ◌∙◌, append-nil}
use Rattle.std.specs.Prelude.{Contains, IfSome, IsSome, is_some, option_map}
use Rattle.std.specs.Option.{option_and_then}
use Rattle.std.specs.FinMap.{get}
use Rattle.std.proofs.lemmas.List.Elements.{Contains-append_left, Contains-append_right, Contains-append_cases}
use Rattle.std.proofs.lemmas.Option.{same_Some}
use Rattle.pk_base.specs.declared.tag.Tag.{Tag}
use Rattle.pk_base.specs.declared.entity.Entity.{Entity}
use Rattle.pk_model.specs.Apart.{NoRepeats}
use Rattle.pk_model.specs.Maps.{EntityMap}
use Rattle.list_facts.proofs.Each.{ByRecursion-at}
use Rattle.solid_model.specs.Rings.{before, first_tag, from, next_in, ends_of}
use Rattle.solid_model.proofs.lists.Neighbours.{before-from, head_or}
use Rattle.pk_base.proofs.Same.{not_same, same_itself}
use Rattle.solid_model.proofs.lists.Cycles.{CutAt, cut-at}
use Rattle.solid_sound.proofs.rows.Progress.{in_drop}
use Rattle.solid_model.proofs.Reading.{next_in-parts, not_before}
use Rattle.halfedge.specs.LinkedRings.{FinFields, IsInRing, IsRing, as_fin, next_at, ring_at, ring_of_any}
use Rattle.list_facts.proofs.Elements.{not_in_nil, Contains-first, Contains-later, Contains-cases}
use Rattle.solid_edits.specs.EditedLoops.{fins_behind, fins_between, other_than}
use Rattle.halfedge.proofs.LinkedRings.{in-ring_from, in-ring_starts, ring-links, ring_at-is}
use Rattle.solid_edits.proofs.EditedMaps.{ends-among}
use Rattle.solid_edits.proofs.Stages.{Within}

-- ---- a ring from its first fin

pub ring_of_first : (m : EntityMap) (ring : List Tag) → IsRing m ring → ring_of_any m (first_tag ring) ≡ ring
ring_of_first m [] h = refl
ring_of_first m (f ∷ fins) h = ring_at-is m f fins h

pub in-ring_first : (m : EntityMap) (ring : List Tag) → IsRing m ring → IfSome (first_tag ring) (IsInRing m)
in-ring_first m [] h = tt
in-ring_first m (f ∷ fins) h = in-ring_from m f fins h

-- ---- parts of a list

pub before-within : (f : Tag) (ts : List Tag) → Within (before f ts) ts
before-within f ts t k = subst (λ us. Contains us t) (before-from f ts) (Contains-append_left (before f ts) (from f ts) t k)

pub from-within : (f : Tag) (ts : List Tag) → Within (from f ts) ts
from-within f ts t k = subst (λ us. Contains us t) (before-from f ts) (Contains-append_right (before f ts) (from f ts) t k)

-- the fins that a cut puts stand in the ring
pub cut-within : (f mate : Tag) (ring : List Tag) → Contains ring f → Contains ring mate
    → Within (f ∷ mate ∷ ends_of (drop 1 (before mate ring)) ++ ends_of (drop 1 (from mate ring))) ring
cut-within f mate ring has_f has_mate t k = ⊎_elim
    (λ (e : f ≡ t). subst (Contains ring) e has_f)
    (λ (r : Contains (mate ∷ ends_of (drop 1 (before mate ring)) ++ ends_of (drop 1 (from mate ring))) t). ⊎_elim
    (λ (e : mate ≡ t). subst (Contains ring) e has_mate)
    (λ (q : Contains (ends_of (drop 1 (before mate ring)) ++ ends_of (drop 1 (from mate ring))) t). ⊎_elim
    (λ (a : Contains (ends_of (drop 1 (before mate ring))) t). before-within mate ring t (in_drop 1 (before mate ring) t (ends-among (drop 1 (before mate ring)) t a)))
    (λ (b : Contains (ends_of (drop 1 (from mate ring))) t). from-within mate ring t (in_drop 1 (from mate ring) t (ends-among (drop 1 (from mate ring)) t b)))
    (Contains-append_cases (ends_of (drop 1 (before mate ring))) (ends_of (drop 1 (from mate ring))) t q))
    (Contains-cases mate (ends_of (drop 1 (before mate ring)) ++ ends_of (drop 1 (from mate ring))) t r))
    (Contains-cases f (mate ∷ ends_of (drop 1 (before mate ring)) ++ ends_of (drop 1 (from mate ring))) t k)

-- ---- the fins beside the edge's

other-itself : (t : Tag) → other_than t t ≡ None
other-itself t = ap (λ b. cond b None (Some t)) (same_itself t)

other-apart : (t u : Tag) → t ≢ u → other_than t u ≡ Some t
other-apart t u h = ap (λ b. cond b None (Some t)) (not_same t u h)

-- the first of these, unless what is behind them comes first
other-first : (d t : Tag) (ts us : List Tag) → ¬ (Contains ts t) → other_than (head_or d (ts ++ t ∷ us)) t ≡ first_tag ts
other-first d t [] us h = other-itself t
other-first d t (x ∷ ts) us h = other-apart x t (λ e. h (subst (Contains (x ∷ ts)) e (Contains-first x ts)))

module _ (m : EntityMap) (f mate : Tag) (in_ring : IsInRing m f) (among : Contains (ring_at m f) mate) (other : mate ≢ f) where
  abbrev rest : List Tag
  rest = drop 1 (ring_at m f)

  starts : ring_at m f ≡ f ∷ rest
  starts = in-ring_starts m f in_ring

  pub cut-is : CutAt f mate rest
  cut-is = cut-at f mate rest other (subst (λ ts. Contains ts mate) starts among)

  pub between-ahead : fins_between m f mate ≡ cut-is.ahead
  between-ahead = ap (λ ts. drop 1 (before mate ts)) starts ∙ ap (drop 1) cut-is.before_is

  pub behind-behind : fins_behind m f mate ≡ cut-is.behind
  behind-behind = ap (λ ts. drop 1 (from mate ts)) starts ∙ ap (drop 1) cut-is.from_is

  -- the ring in its parts
  pub ring-parts : ring_at m f ≡ f ∷ fins_between m f mate ++ mate ∷ fins_behind m f mate
  ring-parts = starts ∙ ap (λ ts. f ∷ ts) cut-is.is ∙ (λ i. f ∷ sym between-ahead i ++ mate ∷ sym behind-behind i)

  pub parts-once : NoRepeats (f ∷ fins_between m f mate ++ mate ∷ fins_behind m f mate)
  parts-once = subst NoRepeats ring-parts in_ring.ring.once

  whole : IsRing m (f ∷ fins_between m f mate ++ mate ∷ fins_behind m f mate)
  whole = subst (IsRing m) ring-parts in_ring.ring

  pub after-fin : (n : Tag) → next_at m f ≡ Some n → other_than n mate ≡ first_tag (fins_between m f mate)
  after-fin n is =
      let A = fins_between m f mate in
      let B = fins_behind m f mate in
      let all = f ∷ A ++ mate ∷ B in
      let next : n ≡ head_or f (A ++ mate ∷ B) =
      same_Some n (next_in all f) (sym is ∙ (ring-links m all f whole (Contains-first f (A ++ mate ∷ B))).0)
      ∙ next_in-parts f [] (A ++ mate ∷ B) (λ k. not_in_nil f k) ∙ ap (head_or f) (append-nil (A ++ mate ∷ B)) in
      ap (λ t. other_than t mate) next ∙ other-first f mate A B (not_before mate A B parts-once.1)

  pub after-mate : (n : Tag) → next_at m mate ≡ Some n → other_than n f ≡ first_tag (fins_behind m f mate)
  after-mate n is =
      let A = fins_between m f mate in
      let B = fins_behind m f mate in
      let all = f ∷ A ++ mate ∷ B in
      let next : n ≡ head_or mate (B ++ f ∷ A) =
      same_Some n (next_in all mate) (sym is ∙ (ring-links m all mate whole (Contains-append_right (f ∷ A) (mate ∷ B) mate (Contains-first mate B))).0)
      ∙ next_in-parts mate (f ∷ A) B (not_before mate (f ∷ A) B parts-once) in
      ap (λ t. other_than t f) next ∙ other-first mate f B A (λ k. ByRecursion-at (λ u. f ≢ u) (A ++ mate ∷ B) f parts-once.0 (Contains-append_right A (mate ∷ B) f (Contains-later mate B f k)) refl)

  pub mate-next : IsSome (next_at m mate)
  mate-next = ap is_some (ring-links m (ring_at m f) mate in_ring.ring among).0

-- ---- what stands in a ring

-- a fin of a ring is live
pub ring-live : (m : EntityMap) (ring : List Tag) (t : Tag) → IsRing m ring → get m t ≡ None → ¬ (Contains ring t)
ring-live m ring t h none k =
    let both : None ≡ Some (next_in ring t) = sym (ap (λ (e : Option Entity). option_map (λ (x : FinFields). x.next) (option_and_then as_fin e)) none) ∙ (ring-links m ring t h k).0 in
    cc

pub between-within : (m : EntityMap) (f mate : Tag) → Within (fins_between m f mate) (ring_at m f)
between-within m f mate t k = before-within mate (ring_at m f) t (in_drop 1 (before mate (ring_at m f)) t k)

pub behind-within : (m : EntityMap) (f mate : Tag) → Within (fins_behind m f mate) (ring_at m f)
behind-within m f mate t k = from-within mate (ring_at m f) t (in_drop 1 (from mate (ring_at m f)) t k)
