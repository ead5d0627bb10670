-- Soundness told item by item.
use Rattle.std.proofs.Common.{◌≡◌, ◌≢◌, List, Option, Some, None}
use Rattle.std.specs.Prelude.{ℤ, is_some, IsTrue}
use Rattle.std.specs.List.{AllByRecursion}
use Rattle.pk_base.specs.declared.tag.Tag.{Tag}
use Rattle.pk_base.specs.declared.entity.Name.{Name}
use Rattle.pk_base.specs.declared.entity.Class.{Class}
use Rattle.pk_base.specs.declared.entity.Class.TheVariants as class
use Rattle.solid_model.specs.Items.{Item, Shape, item_at}
use Rattle.solid_model.specs.Items.Item.{Body, Shell, Face, Loop, Fin, Edge, Vertex, Attr}
use Rattle.solid_model.specs.Rings.{neighbours}
use Rattle.solid_model.specs.Owners.{body_of}
use Rattle.solid_model.specs.Places.{start_at}
use Rattle.solid_model.specs.Ranges.{is_coordinate, coordinates_of}
use Rattle.solid_model.specs.Sound.{IsSoundShape, HasShell, IsMated, GoesRound, MeetsEulerPoincare, NamesItsKind, class_at, times_in_loops, fins_with_edge, end_of, is_empty, optional}
use Rattle.list_facts.proofs.Each.{ByRecursion-contains, ByRecursion-at}
use Rattle.solid_sound.proofs.shapes.Bodies.{LeadsUp}

-- ---- the way up

abbrev pub LeadsFrom : (Tag → Tag) → Tag → Item → Type 0
LeadsFrom g t (Body shell) = g t ≡ t
LeadsFrom g t (Shell body q) = g body ≡ g t
LeadsFrom g t (Face shell outer) = g shell ≡ g t
LeadsFrom g t (Loop face fins vertex) = (g face ≡ g t) × AllByRecursion (λ f. g t ≡ g f) fins
LeadsFrom g t (Fin mate edge vertex) = Unit {0}
LeadsFrom g t (Edge body) = g body ≡ g t
LeadsFrom g t (Vertex body point) = g body ≡ g t
LeadsFrom g t (Attr owner name value) = Unit {0}

pub leads-by_item : (S : Shape) (g : Tag → Tag) → ((t : Tag) (x : Item) → item_at S t ≡ Some x → LeadsFrom g t x) → LeadsUp S g
leads-by_item S g h = record {
  bodies = λ b shell e. h b (Body shell) e;
  shells = λ s body q e. h s (Shell body q) e;
  faces = λ f shell outer e. h f (Face shell outer) e;
  loops = λ l face fins vertex e. (h l (Loop face fins vertex) e).0;
  fins = λ l face fins vertex e f k. ByRecursion-at (λ u. g l ≡ g u) fins f (h l (Loop face fins vertex) e).1 k;
  edges = λ e body is. h e (Edge body) is;
  vertices = λ v body point e. h v (Vertex body point) e;
}

pub item-leads : (S : Shape) (g : Tag → Tag) → LeadsUp S g → (t : Tag) (x : Item) → item_at S t ≡ Some x → LeadsFrom g t x
item-leads S g up t (Body shell) e = up.bodies t shell e
item-leads S g up t (Shell body q) e = up.shells t body q e
item-leads S g up t (Face shell outer) e = up.faces t shell outer e
item-leads S g up t (Loop face fins vertex) e = (up.loops t face fins vertex e, ByRecursion-contains (λ f. g t ≡ g f) fins (λ f k. up.fins t face fins vertex e f k))
item-leads S g up t (Fin mate edge vertex) e = tt
item-leads S g up t (Edge body) e = up.edges t body e
item-leads S g up t (Vertex body point) e = up.vertices t body point e
item-leads S g up t (Attr owner name value) e = tt

-- ---- what holds of an item

pub record SoundBody (S : Shape) (t shell : Tag) : Type 0 where
  pub has_shell : HasShell S t shell
  pub formula : (q : ℤ) → item_at S shell ≡ Some (Shell t q) → MeetsEulerPoincare S t q

pub record SoundFace (S : Shape) (t outer : Tag) : Type 0 where
  pub fins : List Tag
  pub vertex : Option Tag
  pub outer_is : item_at S outer ≡ Some (Loop t fins vertex)

pub record SoundLoop (S : Shape) (t : Tag) (fins : List Tag) (vertex : Option Tag) : Type 0 where
  pub follow : AllByRecursion (λ n. start_at S n.1 ≡ end_of S n.0) (neighbours fins)
  pub lone : is_some vertex ≡ is_empty fins
  pub body : AllByRecursion (λ v. body_of S v ≡ body_of S t) (optional vertex)

pub record SoundFin (S : Shape) (t mate edge vertex : Tag) : Type 0 where
  pub placed : times_in_loops S t ≡ 1
  pub mated : IsMated S t mate edge vertex
  pub edge_body : body_of S edge ≡ body_of S t
  pub vertex_body : body_of S vertex ≡ body_of S t

abbrev pub SoundItem : Shape → Tag → Item → Type 0
SoundItem S t (Body shell) = SoundBody S t shell
SoundItem S t (Shell body q) = item_at S body ≡ Some (Body t)
SoundItem S t (Face shell outer) = SoundFace S t outer
SoundItem S t (Loop face fins vertex) = SoundLoop S t fins vertex
SoundItem S t (Fin mate edge vertex) = SoundFin S t mate edge vertex
SoundItem S t (Edge body) = fins_with_edge S t ≡ 2
SoundItem S t (Vertex body point) = GoesRound S t × AllByRecursion (λ c. IsTrue (is_coordinate c)) (coordinates_of point)
SoundItem S t (Attr owner name value) = (c : Class) × (class_at S owner ≡ Some c) × (c ≢ class.Attr)

abbrev pub OneOfName : Shape → Type 0
OneOfName S = (a b owner : Tag) (name : Name) (v w : ℤ) → item_at S a ≡ Some (Attr owner name v) → item_at S b ≡ Some (Attr owner name w) → a ≡ b

pub sound-by_item : (S : Shape) → ((t : Tag) (x : Item) → item_at S t ≡ Some x → NamesItsKind S x)
    → ((t : Tag) (x : Item) → item_at S t ≡ Some x → SoundItem S t x) → OneOfName S → IsSoundShape S
sound-by_item S kinds h one = record {
  names = record {
    kinds = kinds;
    shells = λ b shell e. (h b (Body shell) e).has_shell;
    bodies = λ s b q e. h s (Shell b q) e;
  };
  placed = λ f mate edge vertex e. (h f (Fin mate edge vertex) e).placed;
  mates = record {
    fins = λ f mate edge vertex e. (h f (Fin mate edge vertex) e).mated;
    edges = λ e body is. h e (Edge body) is;
  };
  follow = λ l face fins vertex e. (h l (Loop face fins vertex) e).follow;
  lone = λ l face fins vertex e. (h l (Loop face fins vertex) e).lone;
  outer = λ f shell outer e. let o = h f (Face shell outer) e in (o.fins, o.vertex, o.outer_is);
  round = λ v body point e. (h v (Vertex body point) e).0;
  bodies = record {
    fins = λ f mate edge vertex e. let x = h f (Fin mate edge vertex) e in (x.edge_body, x.vertex_body);
    lone = λ l face vertex fins e. (h l (Loop face fins (Some vertex)) e).body.0;
  };
  attributes = record { owned = λ a owner name value e. h a (Attr owner name value) e; one = one };
  measure = record {
    formula = λ b shell q e s. (h b (Body shell) e).formula q s;
    points = λ v body point e. (h v (Vertex body point) e).1;
  };
}

lone_body : (S : Shape) → IsSoundShape S → (l face : Tag) (fins : List Tag) (vertex : Option Tag) → item_at S l ≡ Some (Loop face fins vertex) → AllByRecursion (λ v. body_of S v ≡ body_of S l) (optional vertex)
lone_body S sound l face fins None e = tt
lone_body S sound l face fins (Some vertex) e = (sound.bodies.lone l face vertex fins e, tt)

pub item-of_sound : (S : Shape) → IsSoundShape S → (t : Tag) (x : Item) → item_at S t ≡ Some x → SoundItem S t x
item-of_sound S sound t (Body shell) e = record { has_shell = sound.names.shells t shell e; formula = λ q s. sound.measure.formula t shell q e s }
item-of_sound S sound t (Shell body q) e = sound.names.bodies t body q e
item-of_sound S sound t (Face shell outer) e = let o = sound.outer t shell outer e in record { fins = o.0; vertex = o.1; outer_is = o.2 }
item-of_sound S sound t (Loop face fins vertex) e = record { follow = sound.follow t face fins vertex e; lone = sound.lone t face fins vertex e; body = lone_body S sound t face fins vertex e }
item-of_sound S sound t (Fin mate edge vertex) e =
    let b = sound.bodies.fins t mate edge vertex e in
    record { placed = sound.placed t mate edge vertex e; mated = sound.mates.fins t mate edge vertex e; edge_body = b.0; vertex_body = b.1 }
item-of_sound S sound t (Edge body) e = sound.mates.edges t body e
item-of_sound S sound t (Vertex body point) e = (sound.round t body point e, sound.measure.points t body point e)
item-of_sound S sound t (Attr owner name value) e = sound.attributes.owned t owner name value e
