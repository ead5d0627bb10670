-- Two sound shapes are the same but for names where what was killed is as what was made anew, and all else is as it was.
use Rattle.std.proofs.Common.{◌≡◌, ◌≢◌, ◌⊎◌, inl, inr, ⊎_elim, Bool, true, false, not, ◌||◌, if◌then◌else◌, List, [], ◌∷◌, ◌++◌, Option, Some, None, refl, sym, ap, subst, ◌∙◌}
use Rattle.std.specs.Prelude.{T, Contains}
use Rattle.std.specs.FinMap.{is_sorted}
use Rattle.std.specs.List.{AllByRecursion}
use Rattle.std.proofs.lemmas.List.Elements.{Contains-append_left}
use Rattle.pk_base.specs.declared.tag.Tag.{Tag}
use Rattle.pk_base.specs.declared.entity.Class.{Class}
use Rattle.pk_base.specs.declared.entity.Class.TheVariants as class
use Rattle.pk_model.specs.Apart.{NoRepeats}
use Rattle.pk_model.specs.Maps.{tag_cmp}
use Rattle.pk_model.proofs.TagLists.{NoneOf}
use Rattle.list_facts.proofs.Elements.{map_contains}
use Rattle.list_facts.proofs.Each.{ByRecursion-at, ByRecursion-map, ByRecursion-weaker}
use Rattle.solid_model.specs.Items.{Item, Shape, item_at}
use Rattle.solid_model.specs.Items.Item.{Body, Shell, Face, Loop, Fin, Edge, Vertex, Attr}
use Rattle.solid_model.specs.Rings.{is_among, ring_or_lone}
use Rattle.solid_model.specs.Deaths.{dies_with, is_attribute_of, ◌without◌}
use Rattle.solid_model.specs.Sound.{AreOf, class_at, optional}
use Rattle.solid_model.proofs.lists.Neighbours.{among_or_none, in-is_among, is-none, is_among-in, neither_from}
use Rattle.solid_sound.proofs.shapes.Bodies.{item_of_class}
use Rattle.solid_sound.proofs.shapes.Edits.{live-none_of}
use Rattle.solid_sound.proofs.shapes.Found.{filter-lost, filter-none, none_or_some}
use Rattle.solid_sound.proofs.shapes.Lookups.{filter-kept}
use Rattle.solid_sound.proofs.rows.RowKeeps.{IsWell}
use Rattle.solid_model.specs.SameButNames.{SameButNames, SameIfAny, SameItem, but_attributes}
use Rattle.euler_laws.proofs.GivenBack.{OwnsNone, owned-by_none}
use Rattle.euler_laws.proofs.Renamings.{Pairs, both_of, exchanges, killed_of, made_of, renamed, renamed-other, renamed-pair, renames-within}
use Rattle.euler_laws.proofs.SameNames.{AreWithin, EachTag, any-more, but-both, but-more, item-fixed}

-- ---- what an item of a sound shape names is live

unfoldable pub IsLive : Shape → Tag → Type 0
IsLive S t = (x : Item) × (item_at S t ≡ Some x)

class-live : (S : Shape) (t : Tag) (c : Class) → class_at S t ≡ Some c → IsLive S t
unfolding IsLive
class-live S t c h = let x = item_of_class (item_at S t) c h in (x.0, x.1)

of-live : (S : Shape) (c : Class) (ts : List Tag) → AreOf S c ts → AllByRecursion (IsLive S) ts
of-live S c ts h = ByRecursion-weaker (λ t. class_at S t ≡ Some c) (IsLive S) (λ t e. class-live S t c e) ts h

pub named-live : (S : Shape) → IsWell S → (t : Tag) (x : Item) → item_at S t ≡ Some x → EachTag (IsLive S) x
named-live S well t (Body shell) is = (of-live S class.Shell (shell ∷ []) (well.sound.names.kinds t _ is)).0
named-live S well t (Shell body q) is = (of-live S class.Body (body ∷ []) (well.sound.names.kinds t _ is)).0
named-live S well t (Face shell outer) is = let h = well.sound.names.kinds t _ is in ((of-live S class.Shell (shell ∷ []) h.0).0, (of-live S class.Loop (outer ∷ []) h.1).0)
named-live S well t (Loop face fins vertex) is = let h = well.sound.names.kinds t _ is in ((of-live S class.Face (face ∷ []) h.0).0, of-live S class.Fin fins h.1, of-live S class.Vertex (optional vertex) h.2)
named-live S well t (Fin mate edge vertex) is = let h = well.sound.names.kinds t _ is in ((of-live S class.Fin (mate ∷ []) h.0).0, (of-live S class.Edge (edge ∷ []) h.1).0, (of-live S class.Vertex (vertex ∷ []) h.2).0)
named-live S well t (Edge body) is = (of-live S class.Body (body ∷ []) (well.sound.names.kinds t _ is)).0
named-live S well t (Vertex body point) is = (of-live S class.Body (body ∷ []) (well.sound.names.kinds t _ is)).0
named-live S well t (Attr owner name value) is = let h = well.sound.attributes.owned t owner name value is in class-live S owner h.0 h.1

all-both : (P Q R : Tag → Type 0) → ((t : Tag) → P t → Q t → R t) → (ts : List Tag) → AllByRecursion P ts → AllByRecursion Q ts → AllByRecursion R ts
all-both P Q R h [] p q = tt
all-both P Q R h (t ∷ ts) p q = (h t p.0 q.0, all-both P Q R h ts p.1 q.1)

each-both : (P Q R : Tag → Type 0) → ((t : Tag) → P t → Q t → R t) → (x : Item) → EachTag P x → EachTag Q x → EachTag R x
each-both P Q R h (Body shell) p q = h shell p q
each-both P Q R h (Shell body n) p q = h body p q
each-both P Q R h (Face shell outer) p q = (h shell p.0 q.0, h outer p.1 q.1)
each-both P Q R h (Loop face fins vertex) p q = (h face p.0 q.0, all-both P Q R h fins p.1 q.1, all-both P Q R h (optional vertex) p.2 q.2)
each-both P Q R h (Fin mate edge vertex) p q = (h mate p.0 q.0, h edge p.1 q.1, h vertex p.2 q.2)
each-both P Q R h (Edge body) p q = h body p q
each-both P Q R h (Vertex body point) p q = h body p q
each-both P Q R h (Attr owner name value) p q = h owner p q

-- ---- the two shapes

-- S before, and Q after: each first one of a pair was killed, and the second one was made in its place
module _ (S Q : Shape) (well : IsWell S) (also : IsWell Q) (ps : Pairs) (once : NoRepeats (both_of ps))
    (dead : AllByRecursion (λ (p : Tag × Tag). item_at Q p.0 ≡ None) ps) (free : AllByRecursion (λ (p : Tag × Tag). item_at S p.1 ≡ None) ps) where
  dead_tags : AllByRecursion (λ t. item_at Q t ≡ None) (killed_of ps)
  dead_tags = ByRecursion-map (λ (p : Tag × Tag). item_at Q p.0 ≡ None) (λ t. item_at Q t ≡ None) (λ p. p.0) (λ p e. e) ps dead

  free_tags : AllByRecursion (λ t. item_at S t ≡ None) (made_of ps)
  free_tags = ByRecursion-map (λ (p : Tag × Tag). item_at S p.1 ≡ None) (λ t. item_at S t ≡ None) (λ p. p.1) (λ p e. e) ps free

  -- what is live in both is not renamed
  fixed : (t : Tag) → IsLive S t → IsLive Q t → renamed ps t ≡ t
  unfolding IsLive
  fixed t x y = renamed-other ps t (live-none_of Q (killed_of ps) t y.0 dead_tags y.1) (live-none_of S (made_of ps) t x.0 free_tags x.1)

  pub item-same : (t : Tag) (x : Item) → item_at S t ≡ Some x → item_at Q t ≡ Some x → SameItem (renamed ps) x x
  item-same t x is now = item-fixed (renamed ps) x (each-both (IsLive S) (IsLive Q) (λ u. renamed ps u ≡ u) fixed x (named-live S well t x is) (named-live Q also t x now))

  abbrev all : List Tag
  all = killed_of ps ++ made_of ps

  within : AreWithin (killed_of ps) all
  within t h = is_among-in t all (Contains-append_left (killed_of ps) (made_of ps) t (in-is_among t (killed_of ps) h))

  keeps : (t : Tag) → is_among (renamed ps t) all ≡ is_among t all
  keeps = renames-within all (renamed ps) (renamed ps) (exchanges ps once)

  -- what stays but for attributes of what was killed
  stays-same : (t : Tag) (o : Option Item) → item_at S t ≡ o → item_at Q t ≡ but_attributes (killed_of ps) o → SameIfAny (renamed ps) (but_attributes all o) (but_attributes all (item_at Q t))
  stays-same t None is now = subst (λ o. SameIfAny (renamed ps) None (but_attributes all o)) (sym now) tt
  stays-same t (Some x) is now = by_attribute (is_attribute_of (killed_of ps) x) refl
    where
      by_attribute : (b : Bool) → is_attribute_of (killed_of ps) x ≡ b → SameIfAny (renamed ps) (but_attributes all (Some x)) (but_attributes all (item_at Q t))
      by_attribute true e =
          let none : but_attributes (killed_of ps) (Some x) ≡ None = ap (λ c. if c then None else Some x) e in
          let left : but_attributes all (Some x) ≡ None = sym (but-more (killed_of ps) all within (Some x)) ∙ ap (but_attributes all) none in
          subst (λ (p : Option Item × Option Item). SameIfAny (renamed ps) p.0 p.1) (λ i. (sym left i, but_attributes all (sym (now ∙ none) i))) tt
      by_attribute false e =
          let same : item_at Q t ≡ Some x = now ∙ ap (λ c. if c then None else Some x) e in
          subst (λ o. SameIfAny (renamed ps) (but_attributes all (Some x)) (but_attributes all o)) (sym same) (but-both all (renamed ps) keeps (Some x) (Some x) (item-same t x is same))

  abbrev Same : Tag → Type 0
  Same t = SameIfAny (renamed ps) (but_attributes all (item_at S t)) (but_attributes all (item_at Q (renamed ps t)))

  pub same-anew : AllByRecursion (λ (p : Tag × Tag). SameIfAny (renamed ps) (item_at S p.0) (item_at Q p.1)) ps
      → ((t : Tag) → NoneOf t (killed_of ps) → NoneOf t (made_of ps) → SameIfAny (renamed ps) (item_at S t) (item_at Q t) ⊎ (item_at Q t ≡ but_attributes (killed_of ps) (item_at S t)))
      → SameButNames (killed_of ps) (made_of ps) S Q
  same-anew anew others = record {
    there = renamed ps;
    back = renamed ps;
    renaming = exchanges ps once;
    same = λ t. ⊎_elim {C = Same t} (λ (l : Contains (killed_of ps) t).
        let p = map_contains (λ (p : Tag × Tag). p.0) ps t l in
        subst Same p.2 (subst (λ u. SameIfAny (renamed ps) (but_attributes all (item_at S p.0.0)) (but_attributes all (item_at Q u))) (sym (renamed-pair ps once p.0 p.1).0)
        (but-both all (renamed ps) keeps (item_at S p.0.0) (item_at Q p.0.1) (ByRecursion-at (λ (p : Tag × Tag). SameIfAny (renamed ps) (item_at S p.0) (item_at Q p.1)) ps p.0 anew p.1))))
        (λ (nk : NoneOf t (killed_of ps)). ⊎_elim {C = Same t} (λ (l : Contains (made_of ps) t).
        let p = map_contains (λ (p : Tag × Tag). p.1) ps t l in
        subst Same p.2 (subst (λ u. SameIfAny (renamed ps) (but_attributes all (item_at S p.0.1)) (but_attributes all (item_at Q u))) (sym (renamed-pair ps once p.0 p.1).1)
        (subst (λ (o : Option Item × Option Item). SameIfAny (renamed ps) (but_attributes all o.0) (but_attributes all o.1))
        (λ i. (sym (ByRecursion-at (λ (p : Tag × Tag). item_at S p.1 ≡ None) ps p.0 free p.1) i, sym (ByRecursion-at (λ (p : Tag × Tag). item_at Q p.0 ≡ None) ps p.0 dead p.1) i)) tt)))
        (λ (nm : NoneOf t (made_of ps)).
        subst (λ u. SameIfAny (renamed ps) (but_attributes all (item_at S t)) (but_attributes all (item_at Q u))) (sym (renamed-other ps t nk nm))
        (⊎_elim {C = SameIfAny (renamed ps) (but_attributes all (item_at S t)) (but_attributes all (item_at Q t))}
        (λ (l : SameIfAny (renamed ps) (item_at S t) (item_at Q t)). but-both all (renamed ps) keeps (item_at S t) (item_at Q t) l)
        (λ (r : item_at Q t ≡ but_attributes (killed_of ps) (item_at S t)). stays-same t (item_at S t) refl r)
        (others t nk nm)))
        (among_or_none t (made_of ps)))
        (among_or_none t (killed_of ps));
  }

-- ---- what is left where some items are killed

pub left-without : (A : Shape) (ks : List Tag) → T (is_sorted tag_cmp A) → (t : Tag) → NoneOf t ks → item_at (A without ks) t ≡ but_attributes ks (item_at A t)
left-without A ks sorted t none = ⊎_elim {C = item_at (A without ks) t ≡ but_attributes ks (item_at A t)}
    (λ (l : item_at A t ≡ None). filter-none (λ z. not (dies_with ks z)) A sorted t l ∙ sym (ap (but_attributes ks) l))
    (λ (r : (x : Item) × (item_at A t ≡ Some x)). by_attribute r.0 r.1 (is_attribute_of ks r.0) refl)
    (none_or_some (item_at A t))
  where
    by_attribute : (x : Item) → item_at A t ≡ Some x → (b : Bool) → is_attribute_of ks x ≡ b → item_at (A without ks) t ≡ but_attributes ks (item_at A t)
    by_attribute x is true e =
        filter-lost (λ z. not (dies_with ks z)) A sorted t x is ((λ i. not (is-none t ks none i || e i)))
        ∙ sym (ap (but_attributes ks) is ∙ ap (λ c. if c then None else Some x) e)
    by_attribute x is false e =
        filter-kept (λ z. not (dies_with ks z)) A t x is (neither_from (is_among t ks) (is_attribute_of ks x) (is-none t ks none) e)
        ∙ sym (ap (but_attributes ks) is ∙ ap (λ c. if c then None else Some x) e)

-- ---- tags of pairs

none-both : (t : Tag) (ps : Pairs) → NoneOf t (killed_of ps) → NoneOf t (made_of ps) → NoneOf t (both_of ps)
none-both t [] h k = tt
none-both t (p ∷ ps) h k = (h.0, (k.0, none-both t ps h.1 k.1))

-- where what was killed was live, and what was made was not
pub pairs-once : (S : Shape) (ps : Pairs) → AllByRecursion (λ (p : Tag × Tag). (x : Item) × (item_at S p.0 ≡ Some x)) ps → AllByRecursion (λ (p : Tag × Tag). item_at S p.1 ≡ None) ps
    → NoRepeats (killed_of ps) → NoRepeats (made_of ps) → NoRepeats (both_of ps)
pairs-once S [] live free once also = tt
pairs-once S (p ∷ ps) live free once also = (
  (apart p.0 p.1 live.0.0 live.0.1 free.0, none-both p.0 ps once.0 (ByRecursion-map (λ (q : Tag × Tag). item_at S q.1 ≡ None) (λ t. p.0 ≢ t) (λ q. q.1) (λ q e. apart p.0 q.1 live.0.0 live.0.1 e) ps free.1)),
  (none-both p.1 ps (ByRecursion-map (λ (q : Tag × Tag). (x : Item) × (item_at S q.0 ≡ Some x)) (λ t. p.1 ≢ t) (λ q. q.0) (λ q e h. apart q.0 p.1 e.0 e.1 free.0 (sym h)) ps live.1) also.0, pairs-once S ps live.1 free.1 once.1 also.1),
)
  where
    apart : (t u : Tag) (x : Item) → item_at S t ≡ Some x → item_at S u ≡ None → t ≢ u
    apart t u x is none same = let both : None ≡ Some x = sym none ∙ ap (item_at S) (sym same) ∙ is in absurd (cc)

-- what is live in both shapes is not renamed
pub live-both : (S Q : Shape) (well : IsWell S) (also : IsWell Q) (ps : Pairs) (once : NoRepeats (both_of ps)) → AllByRecursion (λ (p : Tag × Tag). item_at Q p.0 ≡ None) ps → AllByRecursion (λ (p : Tag × Tag). item_at S p.1 ≡ None) ps
    → (t : Tag) (x y : Item) → item_at S t ≡ Some x → item_at Q t ≡ Some y → renamed ps t ≡ t
unfolding IsLive
live-both S Q well also ps once dead free t x y is now = fixed S Q well also ps once dead free t (x, is) (y, now)

-- one item, under two tags
pub item-alike : (S Q : Shape) (well : IsWell S) (also : IsWell Q) (ps : Pairs) (once : NoRepeats (both_of ps)) → AllByRecursion (λ (p : Tag × Tag). item_at Q p.0 ≡ None) ps → AllByRecursion (λ (p : Tag × Tag). item_at S p.1 ≡ None) ps
    → (t u : Tag) (x : Item) → item_at S t ≡ Some x → item_at Q u ≡ Some x → SameItem (renamed ps) x x
item-alike S Q well also ps once dead free t u x is now =
    item-fixed (renamed ps) x (each-both (IsLive S) (IsLive Q) (λ v. renamed ps v ≡ v) (fixed S Q well also ps once dead free) x (named-live S well t x is) (named-live Q also u x now))

pub ring-plain : (ks : List Tag) (face : Tag) (A : List Tag) (v : Tag) → is_attribute_of ks (ring_or_lone face A v) ≡ false
ring-plain ks face [] v = refl
ring-plain ks face (a ∷ A) v = refl

-- where no attribute is of these, none is left out
pub but-none : (S : Shape) (ns ks : List Tag) → OwnsNone S ns → (t : Tag) → but_attributes ns (but_attributes ks (item_at S t)) ≡ but_attributes ks (item_at S t)
but-none S ns ks owns t = ⊎_elim {C = but_attributes ns (but_attributes ks (item_at S t)) ≡ but_attributes ks (item_at S t)}
    (λ (l : item_at S t ≡ None). ap (λ o. but_attributes ns (but_attributes ks o)) l ∙ sym (ap (but_attributes ks) l))
    (λ (r : (x : Item) × (item_at S t ≡ Some x)).
    ap (λ o. but_attributes ns (but_attributes ks o)) r.1 ∙ by_attribute r.0 (is_attribute_of ks r.0) (owned-by_none S ns owns t r.0 r.1) ∙ sym (ap (but_attributes ks) r.1))
    (none_or_some (item_at S t))
  where
    by_attribute : (x : Item) (b : Bool) → is_attribute_of ns x ≡ false → but_attributes ns (if b then None else Some x) ≡ (if b then None else Some x)
    by_attribute x true e = refl
    by_attribute x false e = ap (λ c. if c then None else Some x) e
