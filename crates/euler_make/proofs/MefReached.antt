-- mef: the map that is reached, and that it is that of the shape of its row.
use Rattle.std.proofs.Common.{◌≡◌, ◌≢◌, ◌<◌, List, [], ◌∷◌, ◌++◌, Option, Some, None, refl, sym, arith}
use Rattle.std.specs.Prelude.{Contains}
use Rattle.std.specs.List.{AllByRecursion}
use Rattle.std.specs.FinMap.{get}
use Rattle.pk_base.specs.declared.tag.Tag.{Tag}
use Rattle.pk_base.specs.declared.entity.Entity.TheVariants as entity
use Rattle.pk_model.specs.Apart.{NoRepeats}
use Rattle.pk_model.specs.Maps.{EntityMap}
use Rattle.pk_model.proofs.TagLists.{NoneOf}
use Rattle.list_facts.proofs.Each.{ByRecursion-at}
use Rattle.solid_model.specs.Items.{Item, Shape, item_at, ◌with◌}
use Rattle.solid_model.specs.Items.Item.{Loop, Fin}
use Rattle.solid_model.specs.Rings.{before, first_tag, from, from_least}
use Rattle.solid_model.specs.Places.{PlacedFin}
use Rattle.halfedge.specs.LinkedRings.{IsRing, loop_named}
use Rattle.solid_sound.proofs.shapes.Edits.{live-none_of}
use Rattle.solid_sound.proofs.shapes.Lookups.{Items, tags_in, with-written}
use Rattle.solid_sound.proofs.edges.Ends.{FinIn}
use Rattle.solid_sound.proofs.rows.RowKeeps.{IsWell}
use Rattle.solid_calls.proofs.Represented.{Represents, Shows}
use Rattle.solid_edits.proofs.MadeEdges.{KeepsEdge, edge-shown}
use Rattle.solid_edits.proofs.PlacedAnew.{IsSameElsewhere}
use Rattle.solid_edits.proofs.PlacedFins.{placed-other, placed-elsewhere}
use Rattle.solid_edits.proofs.WrittenMaps.{ring-shown, written}
use Rattle.euler_make.proofs.MefFound.{mef_edge, mef_items}

-- What m became, tag by tag.
pub record MefReached (m : EntityMap) (u : PlacedFin) (g v face l edge x y : Tag) (n : EntityMap) : Type 0 where
  pub first_ring : IsRing n (before g u.fins ++ x ∷ [])
  pub second_ring : IsRing n (from g u.fins ++ y ∷ [])
  pub first_named : (t : Tag) → Contains (before g u.fins ++ x ∷ []) t → loop_named n t ≡ Some l
  pub second_named : (t : Tag) → Contains (from g u.fins ++ y ∷ []) t → loop_named n t ≡ Some u.loop_
  pub face_is : get n face ≡ Some (entity.Face u.shell l)
  pub loop_is : get n l ≡ Some (entity.Loop face (first_tag (from_least (before g u.fins ++ x ∷ []))) None)
  pub keeps : KeepsEdge (mef_edge u v l edge x y) n
  pub old_is : get n u.loop_ ≡ Some (entity.Loop u.face (first_tag (from_least (from g u.fins ++ y ∷ []))) None)
  pub elsewhere : (t : Tag) → NoneOf t (face ∷ l ∷ edge ∷ x ∷ y ∷ u.loop_ ∷ []) → IsSameElsewhere m n t
  pub others : (t : Tag) → NoneOf t (face ∷ l ∷ edge ∷ x ∷ y ∷ u.loop_ ∷ []) → ¬ (Contains u.fins t) → get n t ≡ get m t

all_then : (t last : Tag) (ts : List Tag) → NoneOf t ts → t ≢ last → NoneOf t (ts ++ last ∷ [])
all_then t last [] h k = (k, tt)
all_then t last (q ∷ ts) h k = (h.0, all_then t last ts h.1 k)

module _ (S : Shape) (m n : EntityMap) (well : IsWell S) (rep : Represents S m) (f g v face l edge x y : Tag) (u : PlacedFin) (U : FinIn S f u)
    (once : NoRepeats (face ∷ l ∷ edge ∷ x ∷ y ∷ [])) (free : AllByRecursion (λ t. item_at S t ≡ None) (face ∷ l ∷ edge ∷ x ∷ y ∷ []))
    (less : x.0 < y.0) (now : MefReached m u g v face l edge x y n) where
  abbrev new : List Tag
  new = face ∷ l ∷ edge ∷ x ∷ y ∷ []

  abbrev xs : Items
  xs = mef_items u g v face l edge x y

  abbrev R : Shape
  R = S with xs

  abbrev old_item : Item
  old_item = Loop u.face U.end.list U.end.lone

  -- what is no loop, or another one, is not written
  unwritten : (t : Tag) (i : Item) → item_at S t ≡ Some i → t ≢ u.loop_ → NoneOf t (tags_in xs)
  unwritten t i is other = all_then t u.loop_ new (live-none_of S new t i free is) other

  once_all : NoRepeats (tags_in xs)
  once_all =
      let last = live-none_of S new u.loop_ old_item free U.end.loop_is in (
        (once.0.0, (once.0.1.0, (once.0.1.1.0, (once.0.1.1.1.0, ((λ e. last.0 (sym e)), tt))))),
        (
          (once.1.0.0, (once.1.0.1.0, (once.1.0.1.1.0, ((λ e. last.1.0 (sym e)), tt)))),
          (
            (once.1.1.0.0, (once.1.1.0.1.0, ((λ e. last.1.1.0 (sym e)), tt))),
            ((once.1.1.1.0.0, ((λ e. last.1.1.1.0 (sym e)), tt)), (((λ e. last.1.1.1.1.0 (sym e)), tt), (tt, tt))),
          ),
        ),
      )

  shows : AllByRecursion (λ (p : Tag × Item). Shows R n p.0 p.1) xs
  shows = (
    now.face_is,
    (
      ring-shown R n l face (before g u.fins ++ x ∷ []) now.loop_is now.first_ring now.first_named,
      (
        edge-shown R n (mef_edge u v l edge x y) now.keeps less (with-written S xs x (Fin y edge v) once_all (3, omega arith, refl)),
        (now.keeps.fin_is, (now.keeps.mate_is, (ring-shown R n u.loop_ u.face (from g u.fins ++ y ∷ []) now.old_is now.second_ring now.second_named, tt))),
      ),
    ),
  )

  -- the fins of another loop are not of this one
  other_loops : (k h : Tag) (fins : List Tag) (vertex : Option Tag) → item_at S k ≡ Some (Loop h fins vertex) → NoneOf k (tags_in xs) → (q : Tag) → Contains fins q → get n q ≡ get m q
  other_loops k h fins vertex is none q j =
      let o = placed-elsewhere well U.end k (Loop h fins vertex) is none.1.1.1.1.1.0 q j in
      now.others q (unwritten q _ o.1.3 (placed-other well U.end q _ _ _ o.1.3)) o.0

  pub mef-represented : Represents R n
  mef-represented = written S m n xs well rep once_all ((λ e. cc), ((λ e. cc), ((λ e. cc), ((λ e. cc), ((λ e. cc), ((λ e. cc), tt)))))) now.elsewhere other_loops
      (λ q mate e vertex is. unwritten q _ is (placed-other well U.end q mate e vertex is))
      (λ t i k. ByRecursion-at (λ (p : Tag × Item). Shows R n p.0 p.1) xs (t, i) shows k)
