-- kvfs: the map that is reached, and that it is that of the shape of its row.
use Rattle.std.proofs.Common.{◌≡◌, ◌≢◌, ⊎_elim, Bool, false, not, ◌||◌, List, [], Option, Some, None, refl, sym, ap, subst, ◌∙◌}
use Rattle.std.specs.Prelude.{ℤ, IsOk, Contains}
use Rattle.std.specs.FinMap.{get}
use Rattle.pk_base.specs.declared.tag.Tag.{Tag}
use Rattle.pk_base.specs.declared.entity.Entity.TheVariants as entity
use Rattle.pk_base.specs.declared.entity.Name.{Name}
use Rattle.pk_base.specs.declared.refusal.Refusal.TheVariants.{NotBare}
use Rattle.pk_model.specs.Maps.{EntityMap}
use Rattle.solid_model.specs.Items.{Item, Shape, item_at}
use Rattle.solid_model.specs.Items.Item.{Body, Shell, Face, Loop, Fin, Edge, Vertex, Attr}
use Rattle.solid_model.specs.Owners.{body_of, all_in_body}
use Rattle.solid_model.specs.Rings.{is_among}
use Rattle.solid_model.specs.Deaths.{dies_with, is_attribute_of, ◌without◌}
use Rattle.solid_model.specs.Rows.{refuse_where, changes}
use Rattle.solid_model.specs.Places.{body_at}
use Rattle.solid_model.specs.Kvfs.{kvfs, has_more_than_a_vertex}
use Rattle.solid_model.specs.Links.{links}
use Rattle.solid_model.specs.Shapes.{shape_of}
use Rattle.solid_model.specs.Sound.{IsSound}
use Rattle.solid_model.proofs.lists.Neighbours.{is_among-in, not_among, neither_from}
use Rattle.pk_model.proofs.TagLists.{NoneOf}
use Rattle.solid_sound.proofs.shapes.Lookups.{filter-kept}
use Rattle.solid_sound.proofs.shapes.Found.{filter-lost, filter-none}
use Rattle.pk_base.proofs.Same.{same_or_other}
use Rattle.solid_sound.proofs.rows.RowKeeps.{IsWell, Keeps, not_refused, well-shape}
use Rattle.solid_sound.proofs.rows.KeptDeaths.{in_body-among, among-in_body, kvfs-keeps}
use Rattle.solid_sound.proofs.shapes.AttributeBodies.{attribute-body}
use Rattle.solid_edits.specs.BareParts.{AreBareParts, tags_of_parts}
use Rattle.solid_edits.specs.declared.bare_parts.BareParts.{BareParts}
use Rattle.solid_edits.proofs.Going.{goes-on, goes-past}
use Rattle.solid_edits.specs.Deaths.{Kills}
use Rattle.solid_edits.proofs.KilledMaps.{LivesOn, kills-dead, kills-none, kills-owned, kills-stays, shown-attribute}
use Rattle.list_facts.proofs.Each.{ByRecursion-contains}
use Rattle.euler_kill.proofs.KvfsFound.{IsBare, is-bare, no-fin, owner-part, part-or_attribute, parts-body}
use Rattle.solid_calls.proofs.Represented.{Represents, represented, represents-sound}
use Rattle.solid_edits.proofs.StaysRepresented.{IsShown, KeepsFins, are-shown, shown-gone, stays-shown}

-- what is known where the call is not refused
pub record KillsBody (S : Shape) (b : Tag) : Type 0 where
  pub bare : IsBare S b
  pub row_is : kvfs S b ≡ changes (S without all_in_body S b)

pub kills-body : (S : Shape) (b : Tag) → IsOk (kvfs S b) → KillsBody S b
kills-body S b h =
    let a = goes-on (body_at S b) _ h in
    let c = goes-past (refuse_where (has_more_than_a_vertex S b) (NotBare b)) _ a.goes in
    record { bare = is-bare S b (not_refused _ _ c.is); row_is = a.same ∙ c.same }

pub face-read : (m : EntityMap) (face shell o s outer : Tag) → get m face ≡ Some (entity.Face shell o) → get m face ≡ Some (entity.Face s outer) → get m face ≡ Some (entity.Face shell outer)
face-read m face shell o s outer h k =
    let both : Some (entity.Face shell o) ≡ Some (entity.Face s outer) = sym h ∙ k in
    let same : o ≡ outer = cc in
    h ∙ ap (λ t. Some (entity.Face shell t)) same

module _ (m n : EntityMap) (sound : IsSound m) (p : BareParts) (x : KillsBody (shape_of m) p.body) (are : AreBareParts (shape_of m) p)
    (kills : Kills m (tags_of_parts p) n) where
  abbrev S : Shape
  S = shape_of m

  abbrev all : List Tag
  all = all_in_body S p.body

  abbrev R : Shape
  R = S without all

  abbrev ks : List Tag
  ks = tags_of_parts p

  well : IsWell S
  well = well-shape m sound

  was : Represents S m
  was = represents-sound m sound

  abbrev lives : Tag × Item → Bool
  lives y = not (dies_with all y)

  -- in the body: all of it has gone
  dead : (t : Tag) (y : Item) → item_at S t ≡ Some y → body_of S t ≡ p.body → IsShown R n t
  dead t y e at =
      let gone : item_at R t ≡ None = filter-lost lives S well.written.ascends t y e (ap (λ b. not (b || is_attribute_of all y)) (is_among-in t all (in_body-among S p.body t y e at))) in
      let none : get n t ≡ None = ⊎_elim {C = get n t ≡ None}
      (λ (part : Contains ks t). kills-dead m n ks kills t part)
      (λ (a : (o : Tag) × (name : Name) × (value : ℤ) × (y ≡ Attr o name value)).
      let own = owner-part S well p are x.bare t a.0 a.1 a.2 (e ∙ ap Some a.3) at in
      kills-owned m n ks kills t a.0 a.1 a.2 (was.items t (Attr a.0 a.1 a.2) (e ∙ ap Some a.3)) own)
      (part-or_attribute S well p are x.bare t y e at) in
      shown-gone R n t gone none

  -- elsewhere: all of it stays
  not_all : (t : Tag) (y : Item) → item_at S t ≡ Some y → body_of S t ≢ p.body → is_attribute_of all y ≡ false
  not_all t (Attr owner name value) e h = not_among owner all (λ k. h (attribute-body S well t owner name value e ∙ among-in_body S p.body owner well.written.ascends k))
  not_all t (Body shell) e h = refl
  not_all t (Shell body q) e h = refl
  not_all t (Face shell outer) e h = refl
  not_all t (Loop face fins vertex) e h = refl
  not_all t (Fin mate edge vertex) e h = refl
  not_all t (Edge body) e h = refl
  not_all t (Vertex body point) e h = refl

  not_parts : (t : Tag) (y : Item) → item_at S t ≡ Some y → body_of S t ≢ p.body → LivesOn m ks t
  not_parts t y e h = λ owner name value is.
      let same = shown-attribute S m t y owner name value (was.items t y e) is in
      ByRecursion-contains (λ k. owner ≢ k) ks (λ k c own. h (attribute-body S well t owner name value (e ∙ ap Some same) ∙ ap (body_of S) own ∙ parts-body S well p are k c))

  stays : (t : Tag) (y : Item) → item_at S t ≡ Some y → body_of S t ≢ p.body → (item_at R t ≡ Some y) × (get n t ≡ get m t)
  stays t y e h =
      let apart : NoneOf t ks = ByRecursion-contains (λ k. t ≢ k) ks (λ k c same. h (ap (body_of S) same ∙ parts-body S well p are k c)) in (
        filter-kept lives S t y e (neither_from (is_among t all) (is_attribute_of all y) (not_among t all (λ k. h (among-in_body S p.body t well.written.ascends k))) (not_all t y e h)),
        kills-stays m n ks kills t apart (not_parts t y e h),
      )

  fins : KeepsFins S R m n
  fins f mate edge vertex e = stays f _ e (λ at. no-fin S well p.body x.bare f mate edge vertex e at)

  each : (t : Tag) (o : Option Item) → item_at S t ≡ o → IsShown R n t
  each t None e = shown-gone R n t (filter-none lives S well.written.ascends t e) (kills-none m n ks kills t (was.nothing t e))
  each t (Some y) e = ⊎_elim {C = IsShown R n t}
      (λ (at : body_of S t ≡ p.body). dead t y e at)
      (λ (h : body_of S t ≢ p.body). let other = stays t y e h in stays-shown S R m n well fins was t (other.0 ∙ sym e) other.1)
      (same_or_other (body_of S t) p.body)

  reached_well : IsWell R
  reached_well = subst (Keeps []) x.row_is (kvfs-keeps S [] p.body well)

  pub body-killed : n ≡ links R
  body-killed = represented R n reached_well (are-shown R n (λ t. each t (item_at S t) refl))
