-- What is known of an end or a fin that was found, and of the fins of its loop.
use Rattle.std.proofs.Common.{◌≡◌, ◌≢◌, List, Option, Some, None, sym, ap, subst, ◌∙◌}
use Rattle.std.specs.Prelude.{option_map, Contains}
use Rattle.pk_base.specs.declared.tag.Tag.{Tag}
use Rattle.pk_base.specs.declared.entity.Class.TheVariants as class
use Rattle.pk_model.specs.Maps.{EntityMap}
use Rattle.solid_model.specs.Items.{Item, Shape, item_at, class_of_item}
use Rattle.solid_model.specs.Items.Item.{Loop, Fin}
use Rattle.solid_model.specs.Owners.{fins_of}
use Rattle.solid_model.specs.Places.{End, PlacedFin}
use Rattle.solid_model.specs.Sound.{class_at}
use Rattle.halfedge.specs.LinkedRings.{loop_named, ring_at}
use Rattle.solid_model.proofs.lists.Turned.{turned-in, turned-back}
use Rattle.solid_sound.proofs.shapes.Edits.{class_apart}
use Rattle.solid_sound.proofs.edges.Ends.{EndIn, FinIn}
use Rattle.solid_sound.proofs.shapes.Reading.{fin_in, loop-of_fin}
use Rattle.solid_sound.proofs.rows.RowKeeps.{IsWell}
use Rattle.solid_places.specs.declared.fins.PlacedFin.{PlacedFin as FoundFin}
use Rattle.solid_calls.proofs.Represented.{Represents}
use Rattle.list_facts.proofs.Elements.{Contains-first}
use Rattle.list_facts.proofs.Each.{ByRecursion-at}
use Rattle.solid_sound.proofs.shapes.Bodies.{loop_by_item}

-- the fins of a loop, as they stand from an end on
module _ {S : Shape} (well : IsWell S) {u : End} (E : EndIn S u) where
  -- each stands in the list of the loop
  pub placed-listed : (t : Tag) → Contains u.fins t → Contains E.list t
  placed-listed t k = turned-in u.fins E.list (turned-back E.list u.fins E.turned) t k

  -- each is a fin
  pub placed-fin : (t : Tag) → Contains u.fins t → (mate : Tag) × (e : Tag) × (vertex : Tag) × (item_at S t ≡ Some (Fin mate e vertex))
  placed-fin t k = fin_in S well.written well.sound u.loop_ u.face E.list E.lone E.loop_is t (placed-listed t k)

  pub placed-class : (t : Tag) → Contains u.fins t → class_at S t ≡ Some class.Fin
  placed-class t k = ap (option_map class_of_item) (placed-fin t k).3

  -- none is free
  pub placed-live : (t : Tag) → item_at S t ≡ None → ¬ (Contains u.fins t)
  placed-live t none k = let fin = placed-fin t k in let both : None ≡ Some (Fin fin.0 fin.1 fin.2) = sym none ∙ fin.3 in absurd (cc)

  -- a loop with one of them is the loop
  pub placed-loop : (t face : Tag) (fins : List Tag) (vertex : Option Tag) → item_at S t ≡ Some (Loop face fins vertex) → (q : Tag) → Contains fins q → Contains u.fins q → t ≡ u.loop_
  placed-loop t face fins vertex is q among k =
      sym (loop-of_fin S well.written well.sound t face fins vertex is q among) ∙ loop-of_fin S well.written well.sound u.loop_ u.face E.list E.lone E.loop_is q (placed-listed q k)

  -- a fin is another tag than the loop
  pub placed-other : (t mate e vertex : Tag) → item_at S t ≡ Some (Fin mate e vertex) → t ≢ u.loop_
  placed-other t mate e vertex is = class_apart S t u.loop_ class.Fin class.Loop (ap (option_map class_of_item) is) (ap (option_map class_of_item) E.loop_is) (λ k. cc)

  -- the fins of another item are other ones
  pub placed-elsewhere : (t : Tag) (x : Item) → item_at S t ≡ Some x → t ≢ u.loop_ → (f : Tag) → Contains (fins_of x) f
      → (¬ (Contains u.fins f)) × ((mate : Tag) × (edge : Tag) × (start : Tag) × (item_at S f ≡ Some (Fin mate edge start)))
  placed-elsewhere t x is other f k =
      let w = loop_by_item S f t x is k in
      ((λ j. other (placed-loop t w.face w.fins w.vertex w.loop_is f w.among j)), fin_in S well.written well.sound t w.face w.fins w.vertex w.loop_is f w.among)

  -- in the map, each of them names the loop
  pub placed-named : (m : EntityMap) → Represents S m → (t : Tag) → Contains u.fins t → loop_named m t ≡ Some u.loop_
  placed-named m rep t k = ByRecursion-at (λ q. loop_named m q ≡ Some u.loop_) E.list t (rep.items u.loop_ _ E.loop_is).2 (placed-listed t k)

-- two fins of one loop: the second is one of the loop's fins, written from the first
pub same-loop_lists : (S : Shape) (f g : Tag) (u v : PlacedFin) → FinIn S f u → FinIn S g v → u.loop_ ≡ v.loop_ → Contains u.fins g
same-loop_lists S f g u v U V one =
    let both : Some (Loop v.face V.end.list V.end.lone) ≡ Some (Loop u.face U.end.list U.end.lone) = sym V.end.loop_is ∙ ap (item_at S) (sym one) ∙ U.end.loop_is in
    let list : V.end.list ≡ U.end.list = cc in
    let first : Contains v.fins g = subst (λ ts. Contains ts g) (sym V.fins_are) (Contains-first g V.rest) in
    turned-in U.end.list u.fins U.end.turned g (subst (λ ts. Contains ts g) list (turned-in v.fins V.end.list (turned-back V.end.list v.fins V.end.turned) g first))

-- what was found of a fin by the walk over the map
abbrev pub found_fin : EntityMap → Tag → FoundFin → PlacedFin
found_fin m f u = record {
  mate = u.mate;
  edge = u.edge;
  vertex = u.vertex;
  loop_ = u.loop_;
  face = u.face;
  shell = u.shell;
  body = u.body;
  fins = ring_at m f;
}
