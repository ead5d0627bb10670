-- What an item names stays live where it names it.
use Rattle.std.proofs.Common.{◌≡◌, ◌≢◌, List, [], ◌∷◌, Some}
use Rattle.std.specs.List.{AllByRecursion}
use Rattle.pk_base.specs.declared.tag.Tag.{Tag}
use Rattle.pk_base.specs.declared.entity.Class.{Class}
use Rattle.pk_base.specs.declared.entity.Class.TheVariants as class
use Rattle.list_facts.proofs.Each.{ByRecursion-weaker}
use Rattle.solid_model.specs.Items.{Item, Shape}
use Rattle.solid_model.specs.Items.Item.{Body, Shell, Face, Loop, Fin, Edge, Vertex, Attr}
use Rattle.solid_model.specs.Sound.{NamesItsKind, AreOf, class_at, optional}

-- this holds of each tag that the item names, but for the owner of an attribute
abbrev pub EachNamed : (Tag → Type 0) → Item → Type 0
EachNamed P (Body shell) = P shell
EachNamed P (Shell body q) = P body
EachNamed P (Face shell outer) = P shell × P outer
EachNamed P (Loop face fins vertex) = P face × AllByRecursion P fins × AllByRecursion P (optional vertex)
EachNamed P (Fin mate edge vertex) = P mate × P edge × P vertex
EachNamed P (Edge body) = P body
EachNamed P (Vertex body point) = P body
EachNamed P (Attr owner name value) = Unit {0}

-- a class that an item may ask for
abbrev pub NotAttr : Class → Type 0
NotAttr c = c ≢ class.Attr

module _ (S R : Shape) (P : Tag → Type 0) (carry : (t : Tag) (c : Class) → NotAttr c → P t → class_at S t ≡ Some c → class_at R t ≡ Some c) where
  carried : (c : Class) → NotAttr c → (ts : List Tag) → AllByRecursion P ts → AreOf S c ts → AreOf R c ts
  carried c na [] p h = tt
  carried c na (t ∷ ts) p h = (carry t c na p.0 h.0, carried c na ts p.1 h.1)

  pub names-carried : (x : Item) → EachNamed P x → NamesItsKind S x → NamesItsKind R x
  names-carried (Body shell) p h = carried class.Shell (λ e. cc) (shell ∷ []) (p, tt) h
  names-carried (Shell body q) p h = carried class.Body (λ e. cc) (body ∷ []) (p, tt) h
  names-carried (Face shell outer) p h = (carried class.Shell (λ e. cc) (shell ∷ []) (p.0, tt) h.0, carried class.Loop (λ e. cc) (outer ∷ []) (p.1, tt) h.1)
  names-carried (Loop face fins vertex) p h = (carried class.Face (λ e. cc) (face ∷ []) (p.0, tt) h.0, carried class.Fin (λ e. cc) fins p.1 h.1, carried class.Vertex (λ e. cc) (optional vertex) p.2 h.2)
  names-carried (Fin mate edge vertex) p h = (carried class.Fin (λ e. cc) (mate ∷ []) (p.0, tt) h.0, carried class.Edge (λ e. cc) (edge ∷ []) (p.1, tt) h.1, carried class.Vertex (λ e. cc) (vertex ∷ []) (p.2, tt) h.2)
  names-carried (Edge body) p h = carried class.Body (λ e. cc) (body ∷ []) (p, tt) h
  names-carried (Vertex body point) p h = carried class.Body (λ e. cc) (body ∷ []) (p, tt) h
  names-carried (Attr owner name value) p h = tt

all_hold : (ts : List Tag) → AllByRecursion (λ t. Unit {0}) ts
all_hold [] = tt
all_hold (t ∷ ts) = (tt, all_hold ts)

pub each-named : (x : Item) → EachNamed (λ t. Unit {0}) x
each-named (Body shell) = tt
each-named (Shell body q) = tt
each-named (Face shell outer) = (tt, tt)
each-named (Loop face fins vertex) = (tt, all_hold fins, all_hold (optional vertex))
each-named (Fin mate edge vertex) = (tt, tt, tt)
each-named (Edge body) = tt
each-named (Vertex body point) = tt
each-named (Attr owner name value) = tt

pub named-weaker : (P Q : Tag → Type 0) → ((t : Tag) → P t → Q t) → (x : Item) → EachNamed P x → EachNamed Q x
named-weaker P Q h (Body shell) p = h shell p
named-weaker P Q h (Shell body q) p = h body p
named-weaker P Q h (Face shell outer) p = (h shell p.0, h outer p.1)
named-weaker P Q h (Loop face fins vertex) p = (h face p.0, ByRecursion-weaker P Q h fins p.1, ByRecursion-weaker P Q h (optional vertex) p.2)
named-weaker P Q h (Fin mate edge vertex) p = (h mate p.0, h edge p.1, h vertex p.2)
named-weaker P Q h (Edge body) p = h body p
named-weaker P Q h (Vertex body point) p = h body p
named-weaker P Q h (Attr owner name value) p = tt
