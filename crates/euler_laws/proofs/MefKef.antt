-- mef, and then kef.
use Rattle.std.proofs.Common.{◌≡◌, ◌≢◌, ◌+◌, ◌≤◌, ◌⊎◌, inl, inr, Bool, true, false, List, [], ◌∷◌, ◌++◌, drop, length, Option, Some, None, Ok, refl, sym, ap, subst, ◌∙◌, arith}
use Rattle.std.specs.Prelude.{IsOk, option_map, Contains}
use Rattle.std.specs.List.{AllByRecursion}
use Rattle.pk_base.specs.declared.tag.Tag.{Tag}
use Rattle.pk_base.specs.declared.call.Call.TheVariants as call
use Rattle.pk_base.specs.declared.entity.Class.TheVariants as class
use Rattle.pk_base.proofs.Same.{not_same}
use Rattle.pk_model.specs.Apart.{NoRepeats}
use Rattle.pk_model.specs.Maps.{EntityMap}
use Rattle.pk_model.specs.Tags.{tag_at}
use Rattle.pk_model.proofs.TagLists.{NoneOf, NoRepeats-take}
use Rattle.list_facts.proofs.Each.{ByRecursion-take}
use Rattle.solid_model.specs.Items.{Item, Shape, item_at, class_of_item, ◌with◌}
use Rattle.solid_model.specs.Items.Item.{Face, Fin, Edge, Loop}
use Rattle.solid_model.specs.Deaths.{◌without◌}
use Rattle.solid_model.specs.Rings.{before, from, from_least, ring_of, ring_or_lone}
use Rattle.solid_model.specs.Rows.{Row, changes, cost_of}
use Rattle.solid_model.specs.Places.{PlacedFin, fin_at}
use Rattle.solid_model.specs.Shapes.{shape_of}
use Rattle.solid_model.specs.Mef.{mef}
use Rattle.solid_model.specs.Kef.{kef}
use Rattle.solid_model.proofs.lists.Neighbours.{before-from, once-last}
use Rattle.solid_model.proofs.lists.Turned.{Turned, turned-back, turned-least, turned-once}
use Rattle.solid_sound.proofs.shapes.Edits.{Edits, edits-each, live-none_of, written}
use Rattle.solid_sound.proofs.shapes.Lookups.{Items}
use Rattle.solid_sound.proofs.shapes.Reading.{fins-once}
use Rattle.solid_sound.proofs.edges.Ends.{FinIn, as_end, fin-well}
use Rattle.solid_sound.proofs.rows.RowKeeps.{IsWell, well-shape}
use Rattle.solid_sound.proofs.rows.KeptMef.{mef-keeps}
use Rattle.solid_calls.specs.Pairs.{reached, row_on}
use Rattle.solid_calls.proofs.Kept.{reached-well}
use Rattle.solid_edits.proofs.Going.{goes-on}
use Rattle.euler_make.proofs.MefFound.{mef-cost, mef-not_refused, mef_items}
use Rattle.euler_kill.proofs.KefFound.{kef-passes}
use Rattle.euler_laws.specs.Both.{GivesBack, MayFollow}
use Rattle.euler_laws.proofs.GivenBack.{given-back}
use Rattle.euler_laws.proofs.Laws.{ascend-once, free-items, gives-back}
use Rattle.euler_laws.proofs.OneLoop.{one-loop}
use Rattle.euler_laws.proofs.Placed.{end-item, fin-placed, owns-none, placed}
use Rattle.euler_laws.proofs.TurnedLists.{turned-twice}

-- the last of a cyclic list, put first
turned-last : (x : Tag) (B : List Tag) → Turned (x ∷ B) (B ++ x ∷ [])
turned-last x B = record { pre = x ∷ []; post = B; here = refl; there = refl }

pub last-least : (x : Tag) (B : List Tag) → Turned (x ∷ B) (from_least (B ++ x ∷ []))
last-least x B = turned-twice (x ∷ B) (B ++ x ∷ []) (from_least (B ++ x ∷ [])) (turned-last x B) (turned-least (B ++ x ∷ []))

-- the loop of u is cut at g, and the new fin x starts at the vertex v
module _ (S : Shape) (well : IsWell S) (f g : Tag) (u : PlacedFin) (U : FinIn S f u) (v face l edge x y : Tag) (once : NoRepeats (face ∷ l ∷ edge ∷ x ∷ y ∷ [])) (free : AllByRecursion (λ t. item_at S t ≡ None) (face ∷ l ∷ edge ∷ x ∷ y ∷ [])) where
  abbrev A : List Tag
  A = before g u.fins

  abbrev B : List Tag
  B = from g u.fins

  abbrev xs : Items
  xs = mef_items u g v face l edge x y

  abbrev pub parted : Shape
  parted = S with xs

  abbrev new : List Tag
  new = face ∷ l ∷ edge ∷ x ∷ y ∷ []

  loop_new : NoneOf u.loop_ new
  loop_new = live-none_of S new u.loop_ _ free U.end.loop_is

  change : Edits S parted xs []
  change = written S xs well.written.ascends (once-last new u.loop_ once loop_new)

  l_is : item_at parted l ≡ Some (Loop face (from_least (A ++ x ∷ [])) None)
  l_is = change.news l _ (1, omega arith, refl)

  x_is : item_at parted x ≡ Some (Fin y edge v)
  x_is = change.news x _ (3, omega arith, refl)

  y_is : item_at parted y ≡ Some (Fin x edge u.vertex)
  y_is = change.news y _ (4, omega arith, refl)

  old_is : item_at parted u.loop_ ≡ Some (Loop u.face (from_least (B ++ y ∷ [])) None)
  old_is = change.news u.loop_ _ (5, omega arith, refl)

  face_old : u.face ≢ face
  face_old =
      let named = (well.sound.names.kinds u.loop_ _ U.end.loop_is).0.0 in
      λ e. let both : None ≡ Some class.Face = sym (ap (option_map class_of_item) free.0) ∙ ap (λ t. option_map class_of_item (item_at S t)) (sym e) ∙ named in absurd (cc)

  only_l : (t : Tag) (fins : List Tag) (vertex : Option Tag) → item_at parted t ≡ Some (Loop face fins vertex) → t ≡ l
  only_l t fins vertex is = edits-each change (λ t z. z ≡ Loop face fins vertex → t ≡ l)
      ((λ e. absurd (cc)), ((λ e. refl), ((λ e. absurd (cc)), ((λ e. absurd (cc)), ((λ e. absurd (cc)), ((λ e. let same : u.face ≡ face = cc in absurd (face_old same)), tt))))))
      (λ t z was none e.
      let named = (well.sound.names.kinds t (Loop face fins vertex) (was ∙ ap Some e)).0.0 in
      let both : None ≡ Some class.Face = sym (ap (option_map class_of_item) free.0) ∙ named in
      absurd (cc))
      t (Loop face fins vertex) is refl

  module _ (made : IsWell parted) where
    x_at : fin_at parted x ≡ Ok (placed parted x y edge v l face A)
    x_at = fin-placed parted made x y edge v l face (from_least (A ++ x ∷ [])) A None x_is l_is (last-least x A)
        (turned-once (from_least (A ++ x ∷ [])) (x ∷ A) (turned-back (x ∷ A) (from_least (A ++ x ∷ [])) (last-least x A)) (fins-once parted made.written made.sound l face (from_least (A ++ x ∷ [])) None l_is))

    y_at : fin_at parted y ≡ Ok (placed parted y x edge u.vertex u.loop_ u.face B)
    y_at = fin-placed parted made y x edge u.vertex u.loop_ u.face (from_least (B ++ y ∷ [])) B None y_is old_is (last-least y B)
        (turned-once (from_least (B ++ y ∷ [])) (y ∷ B) (turned-back (y ∷ B) (from_least (B ++ y ∷ [])) (last-least y B)) (fins-once parted made.written made.sound u.loop_ u.face (from_least (B ++ y ∷ [])) None old_is))

    was_is : item_at S u.loop_ ≡ Some (ring_of u.face (A ++ B))
    was_is = end-item S well (as_end u) U.end ∙ ap (λ fs. Some (ring_or_lone u.face fs u.vertex)) U.fins_are ∙ ap (λ fs. Some (ring_of u.face fs)) (sym U.fins_are ∙ sym (before-from g u.fins))

    pub edge-back : kef parted x ≡ changes S
    edge-back =
        kef-passes parted x (placed parted x y edge v l face A) (placed parted y x edge u.vertex u.loop_ u.face B) x_at y_at
        (not_same l u.loop_ (λ e. loop_new.1.0 (sym e))) (one-loop parted face l change.ascends only_l)
        ∙ ap changes (given-back S xs ((u.loop_, ring_of u.face (A ++ B)) ∷ []) (l ∷ face ∷ x ∷ y ∷ edge ∷ []) well.written.ascends (tt, tt)
        (free.1.0, (free.0, (free.1.1.1.0, (free.1.1.1.1.0, (free.1.1.0, tt))))) (was_is, tt)
        (inl (1, omega arith, refl), (inl (0, omega arith, refl), (inl (4, omega arith, refl), (inl (2, omega arith, refl), (inl (3, omega arith, refl), (inr (0, omega arith, refl), tt))))))
        (owns-none S well (l ∷ face ∷ x ∷ y ∷ edge ∷ []) (free.1.0, (free.0, (free.1.1.1.0, (free.1.1.1.1.0, (free.1.1.0, tt)))))))

-- the law, for tags of which the first five are known
mef-kef_at : (m : EntityMap) (f g face l edge x y : Tag) (rest : List Tag) → MayFollow m (call.Mef f g) 5 (face ∷ l ∷ edge ∷ x ∷ y ∷ rest) → GivesBack m (call.Mef f g) (call.Kef x) (face ∷ l ∷ edge ∷ x ∷ y ∷ rest)
mef-kef_at m f g face l edge x y rest may =
    let S = shape_of m in
    let tags = face ∷ l ∷ edge ∷ x ∷ y ∷ rest in
    let well = well-shape m may.sound in
    let free = free-items m may.sound tags may.free in
    let once : NoRepeats (face ∷ l ∷ edge ∷ x ∷ y ∷ []) = NoRepeats-take 5 tags (ascend-once tags may.ascend) in
    let new : AllByRecursion (λ t. item_at S t ≡ None) (face ∷ l ∷ edge ∷ x ∷ y ∷ []) = ByRecursion-take (λ t. item_at S t ≡ None) 5 tags free in
    let a = goes-on (fin_at S f) _ may.goes in
    let b = goes-on (fin_at S g) _ a.goes in
    let u : PlacedFin = a.found in
    let v : PlacedFin = b.found in
    let U = fin-well S well f (item_at S f) refl u a.is in
    let row = (mef-not_refused S f g u v a.is b.is may.goes).2 in
    let R = parted S well f g u U v.vertex face l edge x y once new in
    let is : reached S tags (mef S f g) ≡ R = ap (reached S tags) row in
    let made : IsWell R = subst IsWell is (reached-well S tags (mef S f g) well (let cost = mef-cost S f g may.goes in let enough = may.enough in omega (arith, cost, enough)) (mef-keeps S tags f g well may.ascend free)) in
    let back = edge-back S well f g u U v.vertex face l edge x y once new made in
    gives-back m (call.Mef f g) (call.Kef x) tags R may.sound is made (subst IsOk (sym back) refl) (λ more. ap (reached R more) back)

pub mef-kef : (m : EntityMap) (f g : Tag) (tags : List Tag) → MayFollow m (call.Mef f g) 5 tags → GivesBack m (call.Mef f g) (call.Kef (tag_at tags 3)) tags
mef-kef m f g [] may = absurd (let h = may.enough in omega (arith, h))
mef-kef m f g (a ∷ []) may = absurd (let h = may.enough in omega (arith, h))
mef-kef m f g (a ∷ b ∷ []) may = absurd (let h = may.enough in omega (arith, h))
mef-kef m f g (a ∷ b ∷ c ∷ []) may = absurd (let h = may.enough in omega (arith, h))
mef-kef m f g (a ∷ b ∷ c ∷ d ∷ []) may = absurd (let h = may.enough in omega (arith, h))
mef-kef m f g (a ∷ b ∷ c ∷ d ∷ e ∷ rest) may = mef-kef_at m f g a b c d e rest may
