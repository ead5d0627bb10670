-- Where a fin of a known loop stands; and an end, as an item.
use Rattle.std.proofs.Common.{◌≡◌, cond, List, [], ◌∷◌, Option, Some, None, Ok, refl, sym, ap, ◌∙◌}
use Rattle.std.specs.Prelude.{unwrap_or, Contains}
use Rattle.std.specs.Option.{option_and_then, option_map_or}
use Rattle.std.specs.List.{AllByRecursion}
use Rattle.pk_base.specs.Blocks.{tag}
use Rattle.pk_base.specs.declared.tag.Tag.{Tag}
use Rattle.pk_model.specs.Apart.{NoRepeats}
use Rattle.solid_model.specs.Items.{Item, Shape, item_at}
use Rattle.solid_model.specs.Items.Item.{Loop, Fin}
use Rattle.solid_model.specs.Rings.{written_from, from_least, ring_or_lone}
use Rattle.solid_model.specs.Owners.{fins_of, owner_of_item, owner_in, body_of}
use Rattle.solid_model.specs.Places.{End, PlacedFin, as_fin, asked, fin_at, fins_at, placed_fin}
use Rattle.solid_model.specs.Sound.{is_empty}
use Rattle.list_facts.proofs.Elements.{Contains-first}
use Rattle.solid_model.proofs.lists.Turned.{Turned, turned-in}
use Rattle.solid_sound.proofs.shapes.Bodies.{item_of_class}
use Rattle.solid_sound.proofs.shapes.Edits.{live-none_of}
use Rattle.solid_sound.proofs.shapes.Reading.{fins-once, loop-of_fin}
use Rattle.solid_sound.proofs.shapes.FinRings.{lone_for, ring_or_lone-is}
use Rattle.solid_sound.proofs.edges.Ends.{EndIn}
use Rattle.solid_sound.proofs.rows.RowKeeps.{IsWell}
use Rattle.euler_laws.proofs.TurnedLists.{least-turned, written-turned}
use Rattle.euler_laws.proofs.GivenBack.{OwnsNone}

-- the fin f of the loop l, whose fins are f and these
abbrev pub placed : Shape → (f mate edge vertex l face : Tag) → List Tag → PlacedFin
placed R f mate edge vertex l face rest = record {
  mate = mate;
  edge = edge;
  vertex = vertex;
  loop_ = l;
  face = face;
  shell = owner_in R face;
  body = body_of R l;
  fins = f ∷ rest;
}

pub fin-placed : (R : Shape) → IsWell R → (f mate edge vertex l face : Tag) (fins rest : List Tag) (lone : Option Tag) → item_at R f ≡ Some (Fin mate edge vertex) → item_at R l ≡ Some (Loop face fins lone)
    → Turned (f ∷ rest) fins → NoRepeats (f ∷ rest) → fin_at R f ≡ Ok (placed R f mate edge vertex l face rest)
fin-placed R well f mate edge vertex l face fins rest lone f_is l_is turned once =
    let among : Contains fins f = turned-in (f ∷ rest) fins turned f (Contains-first f rest) in
    let owner : owner_in R f ≡ l = loop-of_fin R well.written well.sound l face fins lone l_is f among in
    let face_is : owner_in R l ≡ face = ap (λ (o : Option Item). unwrap_or (option_and_then (owner_of_item R l) o) (tag 0)) l_is in
    let list : fins_at R l ≡ fins = ap (λ (o : Option Item). option_map_or fins_of o []) l_is in
    let fins_is : written_from f (fins_at R l) ≡ f ∷ rest = ap (written_from f) list ∙ written-turned f rest fins turned once in
    let there : Ok (placed_fin R f mate edge vertex l) ≡ Ok (placed R f mate edge vertex l face rest) = λ i. Ok (record {
      mate = mate;
      edge = edge;
      vertex = vertex;
      loop_ = l;
      face = face_is i;
      shell = owner_in R (face_is i);
      body = body_of R l;
      fins = fins_is i;
    }) in
    ap (asked (as_fin R f) f) f_is ∙ ap (λ t. Ok (placed_fin R f mate edge vertex t)) owner ∙ there

-- the face of a loop
pub owner-of_loop : (S : Shape) (l face : Tag) (fins : List Tag) (vertex : Option Tag) → item_at S l ≡ Some (Loop face fins vertex) → owner_in S l ≡ face
owner-of_loop S l face fins vertex is = ap (λ (o : Option Item). unwrap_or (option_and_then (owner_of_item S l) o) (tag 0)) is

-- a list that a sound shape has is written from its least tag, from wherever it is read
pub list-least : (S : Shape) → IsWell S → (l face : Tag) (list fins : List Tag) (lone : Option Tag) → item_at S l ≡ Some (Loop face list lone) → Turned list fins → from_least fins ≡ list
list-least S well l face list fins lone is turned =
    least-turned list fins turned (fins-once S well.written well.sound l face list lone is) ∙ well.written.loops l face list lone is

-- the loop of an end
pub end-item : (S : Shape) → IsWell S → (u : End) → EndIn S u → item_at S u.loop_ ≡ Some (ring_or_lone u.face u.fins u.vertex)
end-item S well u E =
    let list = list-least S well u.loop_ u.face E.list u.fins E.lone E.loop_is E.turned in
    let lone : E.lone ≡ lone_for u.fins u.vertex = E.lone_is ∙ lone_is u.fins u.vertex in
    E.loop_is ∙ (λ i. Some (Loop u.face (sym list i) (lone i))) ∙ ap Some (sym (ring_or_lone-is u.face u.fins u.vertex))
  where
    lone_is : (fins : List Tag) (vertex : Tag) → cond (is_empty fins) (Some vertex) None ≡ lone_for fins vertex
    lone_is [] vertex = refl
    lone_is (f ∷ fins) vertex = refl

-- what is not live has no attributes
pub owns-none : (S : Shape) → IsWell S → (ks : List Tag) → AllByRecursion (λ t. item_at S t ≡ None) ks → OwnsNone S ks
owns-none S well ks free a o name value is =
    let h = well.sound.attributes.owned a o name value is in
    let x = item_of_class (item_at S o) h.0 h.1 in
    live-none_of S ks o x.0 free x.1
